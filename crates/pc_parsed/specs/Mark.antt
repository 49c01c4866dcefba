-- What a reading marks its values with.
use Rattle.pc_types.specs.declared.parsed.CoreFuncSig.{CoreFuncSig}
use Rattle.pc_types.specs.TypeTree.{TypeTree}

-- a mark is a whole type or a core signature
pub data Mark : Type 0 where
  of_type : TypeTree → Mark
  of_signature : CoreFuncSig → Mark
