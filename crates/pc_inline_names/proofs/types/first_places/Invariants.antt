use Rattle.std.proofs.Common.{◌≡◌, take}
use Rattle.pc_entity.specs.declared.string_pool.Atom.{Atom}
use Rattle.pc_inline_names.specs.Numbers.{numbered_value}
use Rattle.pc_inline_names.specs.Tables.{number_place}
use Rattle.pc_inline_names.proofs.types.first_places.Given as goal

abbrev pub invariant-loop-place : goal.invariant-loop-place
invariant-loop-place l =
    (n : Atom) → numbered_value n l.places ≡ number_place 0 n (take l.place l.fn.numbers)
