use Rattle.std.proofs.Common.{ℕ, ap, sym, ◌∙◌}
use Rattle.std.specs.Prelude.{option_and_then, slice_get}
use Rattle.pc_inline_state.specs.Bags.{export_item}
use Rattle.pc_inline_canon.proofs.GotLemmas.{got_some}
use Rattle.pc_inline_modules.proofs.arguments.numbered_argument.Goals as goal

pub returns : goal.returns
returns c name named =
    let frame = c.args.frame.now in
    let of_kind = export_item c.args.context.now.table.now c.args.context.now.modules c.args.kind c.args.numbers.1 name
    in
    let place = sym (c.copied.ensures ∙ c.get.ensures) ∙ c.in_ok-place.was in
    let at = got_some _ _ _ c.as_slice.ensures c.in_ok-instance.instance.now c.in_ok-instance.ensures.lookup.3.0
    c.in_ok-instance.ensures.lookup.1 in
    c.export.ensures name named
    ∙ sym (ap (option_and_then (λ (i : ℕ). option_and_then of_kind (slice_get frame.core_instances i))) place
    ∙ ap (option_and_then of_kind) at)
