use Rattle.std.proofs.Common.{◌≡◌, ℕ, ◌≤◌, length}
use Rattle.json.specs.Json.{value, members}
use Rattle.serde_json.specs.Data.{Members}
use Rattle.serde_json.specs.Read.{of_members, converted}
use Rattle.pc_input_tokens.specs.Takes.{members_at}
use Rattle.pc_input_tokens.proofs.take.pass_members.Given as goal

abbrev pub invariant-members : goal.invariant-members
invariant-members l =
    (n : ℕ) × (length l.reader ≤ n) × (found : Members)
    × (members_at l.depth l.initial.reader
    ≡ converted (λ ms. of_members ms found) (members (value l.depth) n l.reader))

abbrev pub decreases-members : goal.decreases-members
decreases-members l = length l.reader
