use Rattle.std.proofs.Common.{◌≡◌, ℕ, List, take, map, true}
use Rattle.std.specs.List.{list_any}
use Rattle.pc_types.specs.Names.{are_distinct, same_pair}
use Rattle.pc_types.proofs.distinct.distinct_pairs.Given as goal

abbrev pub invariant-loop-entry : goal.invariant-loop-entry
invariant-loop-entry g l =
    ((q : List ℕ × List ℕ)
    → list_any (same_pair q) l.met ≡ list_any (same_pair q) (map (λ e. (e.0, e.1)) (take l.entry-index l.entries)))
    × (are_distinct same_pair (map (λ e. (e.0, e.1)) (take l.entry-index l.entries)) ≡ true)
