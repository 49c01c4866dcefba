use Rattle.std.proofs.Common.{◌≡◌, ◌+◌, ◌≤◌, [], drop, take, map, length}
use Rattle.json.specs.Value.{members_view}
use Rattle.pc_input_tokens.specs.Keys.{fresh}
use Rattle.pc_input_tokens.proofs.borrowed.has_keys.Given as goal

abbrev pub invariant-loop-key : goal.invariant-loop-key
invariant-loop-key l =
    (l.count ≤ l.n) × (length l.seen ≡ 8)
    × (l.count + fresh (map (λ k. k.now) (take l.count l.seen)) (members_view (drop l.key-index l.members))
    ≡ fresh [] (members_view l.members))
