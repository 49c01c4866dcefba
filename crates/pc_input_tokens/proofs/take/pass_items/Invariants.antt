use Rattle.std.proofs.Common.{◌≡◌, ℕ, ◌≤◌, List, length}
use Rattle.json.specs.Json.{value, items, parse_map}
use Rattle.serde_json.specs.Data.{Data}
use Rattle.serde_json.specs.Read.{of_items, converted}
use Rattle.pc_input_tokens.specs.Takes.{items_at}
use Rattle.pc_input_tokens.proofs.Items.{items_before}
use Rattle.pc_input_tokens.proofs.take.pass_items.Given as goal

abbrev pub invariant-items : goal.invariant-items
invariant-items l =
    (n : ℕ) × (length l.reader ≤ n) × (ds : List Data)
    × (items_at l.depth l.initial.reader
    ≡ parse_map (items_before ds) (converted of_items (items (value l.depth) n l.reader)))

abbrev pub decreases-items : goal.decreases-items
decreases-items l = length l.reader
