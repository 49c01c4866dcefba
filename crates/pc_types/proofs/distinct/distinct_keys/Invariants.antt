use Rattle.std.proofs.Common.{◌≡◌, ℕ, List, take, true}
use Rattle.pc_entity.specs.Lists.{names_of}
use Rattle.pc_types.specs.Names.{has_name, distinct_names}
use Rattle.pc_types.proofs.distinct.distinct_keys.Given as goal

abbrev pub invariant-loop-entry : goal.invariant-loop-entry
invariant-loop-entry g l =
    ((q : List ℕ) → has_name l.met q ≡ has_name (names_of (take l.entry-index l.entries)) q)
    × (distinct_names (names_of (take l.entry-index l.entries)) ≡ true)
