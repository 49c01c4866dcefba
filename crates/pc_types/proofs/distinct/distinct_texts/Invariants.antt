use Rattle.std.proofs.Common.{◌≡◌, ℕ, List, take, true}
use Rattle.pc_types.specs.Names.{has_name, distinct_names}
use Rattle.pc_types.proofs.distinct.distinct_texts.Given as goal

abbrev pub invariant-loop-name : goal.invariant-loop-name
invariant-loop-name l =
    ((q : List ℕ) → has_name l.met q ≡ has_name (take l.name-index l.names) q)
    × (distinct_names (take l.name-index l.names) ≡ true)
