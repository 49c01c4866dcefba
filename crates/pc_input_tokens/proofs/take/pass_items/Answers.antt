use Rattle.std.proofs.Common.{◌≡◌, ◌-◌, [], ◌∷◌, ◌++◌, length, Some, None, ap, ◌∙◌, arith}
use Rattle.json.specs.Json.{value, after_end_array, parse_map}
use Rattle.serde_json.specs.Data.{no_items}
use Rattle.pc_input_tokens.specs.Takes.{data_at, items_at}
use Rattle.pc_input_tokens.specs.Borrowed.{data_in}
use Rattle.pc_input_tokens.proofs.Turns.{item_read, item_refused, items_over, data_at-shorter}
use Rattle.pc_input_tokens.proofs.Items.{items_before, one_more_item, none_before}
use Rattle.pc_input_tokens.proofs.take.pass_items.Goals as goal

pub items-init : goal.items-init
items-init c =
    (length c.args.reader.now, omega arith, [], none_before (items_at c.args.depth c.args.reader.now))

pub items-preserved : goal.items-preserved
items-preserved c =
    let p = value c.args.depth in
    let l = c.items in
    let n = l.invariant.0 in
    let ds = l.invariant.2 in
    let going : (after_end_array l.reader ≡ None) × (c.take_end_array.new.self ≡ l.reader) = grind arith in
    let d = data_in c.in-Ok.item in
    let r = c.take_tree.new.reader in
    let took : data_at c.args.depth l.reader ≡ Some (d, r) = rw (← going.1) c.in-Ok.ensures in
    let less = data_at-shorter c.args.depth l.reader r d took in
    let turn = item_read p n l.reader r d (omega (arith, l.invariant.1, less)) going.0 took in (
      n - 1,
      omega (arith, l.invariant.1, less),
      ds ++ d ∷ [],
      l.invariant.3 ∙ ap (parse_map (items_before ds)) turn ∙ one_more_item ds d _,
    )

pub items-smaller : goal.items-smaller
items-smaller c =
    let l = c.items in
    let d = data_in c.in-Ok.item in
    let r = c.take_tree.new.reader in
    let going : (after_end_array l.reader ≡ None) × (c.take_end_array.new.self ≡ l.reader) = grind arith in
    let took : data_at c.args.depth l.reader ≡ Some (d, r) = rw (← going.1) c.in-Ok.ensures in
    data_at-shorter c.args.depth l.reader r d took

pub returns-in-Err-NotJson : goal.returns-in-Err-NotJson
returns-in-Err-NotJson c =
    let l = c.items in
    let going : (after_end_array l.reader ≡ None) × (c.take_end_array.new.self ≡ l.reader) = grind arith in
    let refused = rw c.in-Err-NotJson.field-0-is at c.in-Err-NotJson.ensures in
    let none : data_at c.args.depth l.reader ≡ None = rw (← going.1) refused in
    l.invariant.3
    ∙ ap (parse_map (items_before l.invariant.2)) (item_refused (value c.args.depth) l.invariant.0 l.reader going.0
    none)

pub returns : goal.returns
returns c =
    let l = c.items in
    let ds = l.invariant.2 in
    let r = c.take_end_array.new.self in (
      items_before ds no_items,
      l.invariant.3
          ∙ ap (parse_map (items_before ds)) (items_over (value c.args.depth) l.invariant.0 l.reader r l.invariant.1
          (grind arith)),
    )
