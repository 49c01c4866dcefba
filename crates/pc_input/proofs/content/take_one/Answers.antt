use Rattle.std.proofs.Common.{◌≡◌, true, false, option_map, sym}
use Rattle.pc_input_tokens.specs.Borrowed.{data_in}
use Rattle.pc_input.specs.Content.{is_first}
use Rattle.pc_input.proofs.Payloads.{one_same, one_other}
use Rattle.pc_input.proofs.content.take_one.Goals as goal

pub returns-in-Ok : goal.returns-in-Ok
returns-in-Ok g c =
    let old = c.args.found.now in
    let first = option_map (λ k. k.now) old.key in
    let t = c.in-Ok.ensures in
    let same : is_first c.args.key.now first ≡ true = sym c.if-is_first.ensures in (
      t.0,
      t.1,
      λ ms h. one_same (g.F.Form.rules c.args.form.now) old.many first old.payload c.in-Ok.payload c.args.key.now t.0
          ms same t.2 h,
    )

pub returns-in-Ok-take_tree : goal.returns-in-Ok-take_tree
returns-in-Ok-take_tree g c =
    let old = c.args.found.now in
    let first = option_map (λ k. k.now) old.key in
    let d = data_in c.in-Ok-take_tree.value in
    let other : is_first c.args.key.now first ≡ false = sym c.if-is_first.ensures in (
      d,
      c.in-Ok-take_tree.ensures,
      λ ms h. one_other (g.F.Form.rules c.args.form.now) old.many first old.payload c.args.key.now d ms other h,
    )
