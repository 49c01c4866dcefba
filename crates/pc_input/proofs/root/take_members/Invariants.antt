use Rattle.std.proofs.Common.{◌≡◌, ℕ, ◌≤◌, length}
use Rattle.json.specs.Json.{value, members}
use Rattle.serde_json.specs.Data.{Members}
use Rattle.serde_json.specs.Read.{of_members, converted}
use Rattle.pc_input_tokens.specs.Takes.{members_at}
use Rattle.pc_input.specs.Root.{Stands}
use Rattle.pc_input.proofs.root.take_members.Given as goal

abbrev pub invariant-members : goal.invariant-members
invariant-members g l =
    (n : ℕ) × (length l.reader ≤ n) × (ms : Members)
    × (members_at l.depth l.initial.reader
    ≡ converted (λ js. of_members js ms) (members (value l.depth) n l.reader))
    × Stands (g.F.Form.rules l.form) l.found.items l.payloads ms

abbrev pub decreases-members : goal.decreases-members
decreases-members g l = length l.reader
