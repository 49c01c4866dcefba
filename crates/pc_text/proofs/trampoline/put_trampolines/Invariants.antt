use Rattle.std.proofs.Common.{◌≡◌, List, ◌++◌, drop}
use Rattle.pc_numbers.specs.declared.module_entity.ModuleInternedTypeIndex.{ModuleInternedTypeIndex}
use Rattle.pc_text.proofs.TrampolineLemmas.{lines_from}
use Rattle.pc_text.proofs.trampoline.put_trampolines.Given as goal

abbrev pub invariant-loop-n : goal.invariant-loop-n
invariant-loop-n l =
    (signatures : List ModuleInternedTypeIndex) → l.out.items ++ lines_from l.n signatures (drop l.n l.trampolines)
    ≡ l.fn.out.items ++ lines_from 0 signatures l.trampolines
