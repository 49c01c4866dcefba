-- What an import is known to be, where a module defines it.
use Rattle.std.specs.Prelude.{ℕ}
use Rattle.pc_types.specs.declared.parsed.CoreKind.{CoreKind}
use Rattle.pc_info.specs.declared.known.KnownEntity.{KnownEntity}
use Rattle.pc_spec_wiring.specs.Known.{Known, a_defined}

-- an entity of a kind that a module defines, whose number is written in a type of its own
abbrev pub defined_as : {T : Type 0} → (number : T → ℕ) → CoreKind → KnownEntity T → Known
defined_as number k e = a_defined e.«module».0 k (number e.index)
