use Rattle.std.proofs.Common.{◌≡◌, ◌-◌, [], ◌∷◌, ◌++◌, length, Some, None, ap, ◌∙◌, arith, rules}
use Rattle.json.specs.Json.{value, after_end_array, parse_map}
use Rattle.serde_json.specs.Data.{no_items}
use Rattle.pc_entity.specs.Lists.{map_all}
use Rattle.pc_input_tokens.specs.Takes.{data_at, items_at}
use Rattle.pc_input_tokens.proofs.Turns.{item_read, item_refused, items_over, data_at-shorter}
use Rattle.pc_input_tokens.proofs.Items.{items_before, elements-items_before, one_more_item, none_before}
use Rattle.pc_input.proofs.Taken.{refuses, one_more}
use Rattle.pc_input.proofs.take.take_entries.Goals as goal

pub items-init : goal.items-init
items-init g c =
    (length c.args.reader.now, omega arith, [], none_before (items_at c.args.depth c.args.reader.now), search rules)

pub items-preserved-else-is_err : goal.items-preserved-else-is_err
items-preserved-else-is_err g c =
    let l = c.items in
    let n = l.invariant.0 in
    let ds = l.invariant.2 in
    let r = c.take.new.reader in
    let going : (after_end_array l.reader ≡ None) × (c.take_end_array.new.self ≡ l.reader) = grind arith in
    let took = c.in-Ok.ensures in
    let is : data_at c.args.depth l.reader ≡ Some (took.0, r) = rw (← going.1) took.1 in
    let less = data_at-shorter c.args.depth l.reader r took.0 is in
    let pushed : c.push.new.self ≡ l.found ++ c.in-Ok.entry ∷ [] = search rules in
    let turn = item_read (value c.args.depth) n l.reader r took.0 (omega (arith, l.invariant.1, less)) going.0 is in (
      n - 1,
      omega (arith, l.invariant.1, less),
      ds ++ took.0 ∷ [],
      l.invariant.3 ∙ ap (parse_map (items_before ds)) turn ∙ one_more_item ds took.0 _,
      one_more (g.T.ReadEntry.shape (g.F.Form.rules c.args.form.now)) l.bad ds took.0 l.found c.push.new.self
          c.in-Ok.entry l.invariant.4 took.2
          pushed,
    )

pub items-smaller-else-is_err : goal.items-smaller-else-is_err
items-smaller-else-is_err g c =
    let l = c.items in
    let going : (after_end_array l.reader ≡ None) × (c.take_end_array.new.self ≡ l.reader) = grind arith in
    let took = c.in-Ok.ensures in
    let is : data_at c.args.depth l.reader ≡ Some (took.0, c.take.new.reader) = rw (← going.1) took.1 in
    data_at-shorter c.args.depth l.reader c.take.new.reader took.0 is

pub items-preserved : goal.items-preserved
items-preserved g c =
    let l = c.items in
    let n = l.invariant.0 in
    let ds = l.invariant.2 in
    let r = c.take.new.reader in
    let going : (after_end_array l.reader ≡ None) × (c.take_end_array.new.self ≡ l.reader) = grind arith in
    let took = rw c.in-Err-BadForm.field-0-is at c.in-Err-BadForm.ensures in
    let is : data_at c.args.depth l.reader ≡ Some (took.0, r) = rw (← going.1) took.1 in
    let less = data_at-shorter c.args.depth l.reader r took.0 is in
    let turn = item_read (value c.args.depth) n l.reader r took.0 (omega (arith, l.invariant.1, less)) going.0 is in (
      n - 1,
      omega (arith, l.invariant.1, less),
      ds ++ took.0 ∷ [],
      l.invariant.3 ∙ ap (parse_map (items_before ds)) turn ∙ one_more_item ds took.0 _,
      refuses (g.T.ReadEntry.shape (g.F.Form.rules c.args.form.now)) ds took.0 took.2,
    )

pub items-smaller : goal.items-smaller
items-smaller g c =
    let l = c.items in
    let going : (after_end_array l.reader ≡ None) × (c.take_end_array.new.self ≡ l.reader) = grind arith in
    let took = rw c.in-Err-BadForm.field-0-is at c.in-Err-BadForm.ensures in
    let is : data_at c.args.depth l.reader ≡ Some (took.0, c.take.new.reader) = rw (← going.1) took.1 in
    data_at-shorter c.args.depth l.reader c.take.new.reader took.0 is

pub returns-in-Err-NotJson : goal.returns-in-Err-NotJson
returns-in-Err-NotJson g c =
    let l = c.items in
    let going : (after_end_array l.reader ≡ None) × (c.take_end_array.new.self ≡ l.reader) = grind arith in
    let refused = rw c.in-Err-NotJson.field-0-is at c.in-Err-NotJson.ensures in
    let none : data_at c.args.depth l.reader ≡ None = rw (← going.1) refused in
    l.invariant.3
    ∙ ap (parse_map (items_before l.invariant.2)) (item_refused (value c.args.depth) l.invariant.0 l.reader going.0
    none)

pub returns-then-bad : goal.returns-then-bad
returns-then-bad g c =
    let l = c.items in
    let ds = l.invariant.2 in
    let r = c.take_end_array.new.self in
    let none : map_all (g.T.ReadEntry.shape (g.F.Form.rules c.args.form.now)) ds ≡ None = rw c.if-bad.true at
    l.invariant.4 in (
      items_before ds no_items,
      l.invariant.3
          ∙ ap (parse_map (items_before ds)) (items_over (value c.args.depth) l.invariant.0 l.reader r l.invariant.1
          (grind arith)),
      rw (elements-items_before ds) none,
    )

pub returns-else-bad : goal.returns-else-bad
returns-else-bad g c =
    let l = c.items in
    let ds = l.invariant.2 in
    let r = c.take_end_array.new.self in
    let some : map_all (g.T.ReadEntry.shape (g.F.Form.rules c.args.form.now)) ds ≡ Some l.found = rw c.if-bad.false at
    l.invariant.4 in (
      items_before ds no_items,
      l.invariant.3
          ∙ ap (parse_map (items_before ds)) (items_over (value c.args.depth) l.invariant.0 l.reader r l.invariant.1
          (grind arith)),
      rw (elements-items_before ds) some,
    )
