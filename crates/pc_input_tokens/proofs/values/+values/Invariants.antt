use Rattle.std.proofs.Common.{◌≡◌, Some, None, true, false, drop, length}
use Rattle.json.specs.Tree.{json_tokens, items_tokens, members_tokens}
use Rattle.json.specs.Value.{value_view, items_view, members_view}
use Rattle.serde_json.specs.Read.{of_items}
use Rattle.pc_input_tokens.specs.Borrowed.{items_data}
use Rattle.pc_input_tokens.specs.Values.{EachHasValue}
use Rattle.pc_input_tokens.proofs.values.+values.Given as goal

abbrev pub decreases-has_values : goal.decreases-has_values
decreases-has_values l = length (json_tokens (value_view l.value.now))

abbrev pub decreases-items_have_values : goal.decreases-items_have_values
decreases-items_have_values l = length (items_tokens (items_view l.items.now.items))

abbrev pub decreases-members_have_values : goal.decreases-members_have_values
decreases-members_have_values l = length (members_tokens (members_view l.members.now.items))

abbrev pub invariant-items_have_values-loop-item : goal.invariant-items_have_values-loop-item
invariant-items_have_values-loop-item l =
    (of_items (items_view (drop l.item-index l.item-items)) ≡ Some
    (items_data (items_view (drop l.item-index l.item-items)))
    → of_items (items_view l.item-items) ≡ Some (items_data (items_view l.item-items)))
    × (of_items (items_view (drop l.item-index l.item-items)) ≡ None → of_items (items_view l.item-items) ≡ None)

abbrev pub invariant-members_have_values-loop-member : goal.invariant-members_have_values-loop-member
invariant-members_have_values-loop-member l =
    (EachHasValue true (members_view (drop l.member-index l.member-items))
    → EachHasValue true (members_view l.member-items))
    × (EachHasValue false (members_view (drop l.member-index l.member-items))
    → EachHasValue false (members_view l.member-items))
