use Rattle.std.proofs.Common.{take}
use Rattle.std.specs.List.{AllZip}
use Rattle.pc_inline_state.specs.Index.{HasMemories}
use Rattle.pc_inline_state.proofs.core_modules.CoreModules.new.Given as goal

abbrev pub invariant-loop-shared : goal.invariant-loop-shared
invariant-loop-shared l = AllZip HasMemories (take l.shared-index l.records) l.memories.items
