use Rattle.std.proofs.Common.{◌≡◌, suc, ◌-◌, [], length, Some, None, option_map, sym, ap, ◌∙◌, arith}
use Rattle.std.specs.Prelude.{slice_get}
use Rattle.json.specs.Value.{members_view}
use Rattle.serde_json.specs.Data.{no_members}
use Rattle.pc_input_tokens.specs.Borrowed.{data_of, members_data, data_in}
use Rattle.pc_input_tokens.specs.Keys.{fresh}
use Rattle.pc_input_tokens.proofs.Trees.{or_else, got}
use Rattle.pc_input_tokens.proofs.Keys.{counted_all, one_left, several, last_found, nonempty}
use Rattle.pc_input_tokens.proofs.borrowed.only.Goals as goal

pub returns-then-not-has_keys : goal.returns-then-not-has_keys
returns-then-not-has_keys c =
    let ms = members_view c.args.members.now in
    sym (several (members_data ms no_members) (λ n. let one : fresh [] ms ≡ 1 = sym (counted_all ms)
    ∙ n in absurd (grind arith)))

pub returns : goal.returns
returns c =
    let xs = c.args.members.now in
    let ms = members_view xs in
    let m = c.in_ok-key.field-0.now in
    let one : fresh [] ms ≡ 1 = grind arith in
    let here : slice_get xs (length xs - 1) ≡ Some m = sym c.in_ok-key.ensures.value in
    let some = nonempty xs m (length xs - 1) here in
    let place : suc (length xs - 1) ≡ length xs = omega (arith, some) in
    let found = last_found xs m (length xs - 1) place here in
    sym (one_left (members_data ms no_members) m.0.now (data_in m.1) (counted_all ms ∙ one)
    (got m.0.now ms no_members ∙ ap (λ o. or_else (option_map data_of o) None) found))
