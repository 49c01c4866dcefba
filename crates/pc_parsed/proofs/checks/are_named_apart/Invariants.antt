use Rattle.std.proofs.Common.{◌≡◌, ℕ, List, take, map, true}
use Rattle.pc_types.specs.Names.{has_name, distinct_names}
use Rattle.pc_parsed.proofs.checks.are_named_apart.Given as goal

abbrev pub invariant-loop-entry : goal.invariant-loop-entry
invariant-loop-entry g l =
    ((q : List ℕ)
    → has_name l.met q ≡ has_name (map g.T.Named.name_of (take l.entry-index l.entries)) q)
    × (distinct_names (map g.T.Named.name_of (take l.entry-index l.entries)) ≡ true)
