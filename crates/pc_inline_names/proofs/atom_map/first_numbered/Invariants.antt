use Rattle.std.proofs.Common.{ℕ, List, take}
use Rattle.pc_entity.specs.Lists.{AreDistinct, names_of}
use Rattle.pc_inline_names.specs.Numbers.{AreNumbersOf, HasNumbers}
use Rattle.pc_inline_names.proofs.atom_map.first_numbered.Given as goal

abbrev pub invariant-loop-place : goal.invariant-loop-place
invariant-loop-place g l =
    (names : List (List ℕ)) → AreDistinct names → AreNumbersOf names (names_of l.fn.entries) l.fn.numbers
    → HasNumbers names (take l.place l.fn.entries) l.numbered
