use Rattle.std.proofs.Common.{◌≡◌, ◌++◌, drop, false, map}
use Rattle.pc_types_walk.specs.Kept.{has, kept_from, part_of, place_of}
use Rattle.pc_types_walk.proofs.leads.kept_among.Given as goal

-- with those from here on, these are all that are kept
abbrev pub invariant-loop-place : goal.invariant-loop-place
invariant-loop-place l =
    l.kept
    ++ map place_of (kept_from (part_of l.fn.table l.fn.through) (has l.seen) l.place (drop l.place l.fn.exports))
    ≡ map place_of (kept_from (part_of l.fn.table l.fn.through) (λ n. false) 0 l.fn.exports)
