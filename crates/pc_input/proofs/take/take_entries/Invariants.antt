use Rattle.std.proofs.Common.{◌≡◌, ℕ, ◌≤◌, List, Some, None, length}
use Rattle.std.specs.Bool.{MatchBool}
use Rattle.json.specs.Json.{value, items, parse_map}
use Rattle.serde_json.specs.Data.{Data}
use Rattle.serde_json.specs.Read.{of_items, converted}
use Rattle.pc_entity.specs.Lists.{map_all}
use Rattle.pc_input_tokens.specs.Takes.{items_at}
use Rattle.pc_input_tokens.proofs.Items.{items_before}
use Rattle.pc_input.proofs.take.take_entries.Given as goal

abbrev pub invariant-items : goal.invariant-items
invariant-items g l =
    let f = g.T.ReadEntry.shape (g.F.Form.rules l.form) in
    (n : ℕ) × (length l.reader ≤ n) × (ds : List Data)
    × (items_at l.depth l.initial.reader
    ≡ parse_map (items_before ds) (converted of_items (items (value l.depth) n l.reader)))
    × MatchBool l.bad (map_all f ds ≡ None) (map_all f ds ≡ Some l.found)

abbrev pub decreases-items : goal.decreases-items
decreases-items g l = length l.reader
