use Rattle.std.proofs.Common.{Some, List, length, get_or, slice_get, slice_range, sym, ap, ◌∙◌, arith}
use Rattle.pc_entity.specs.declared.string_pool.Atom.{Atom}
use Rattle.pc_inline_names.specs.Lists.{Lists}
use Rattle.pc_inline_names.proofs.ListLemmas.{cut_none, got_between}
use Rattle.pc_inline_names.proofs.number_lists.NumberLists.get.Goals as goal

pub part-requires : goal.part-requires
part-requires c =
    let ends = c.as_slice-ends.ensures in
    let found = got_between c.self.inside.numbers c.self.inside.ends c.as_slice-ends.result.now c.args.place
    c.start_at-start.result c.self.invariant ends c.if-place-ends.false c.start_at-start.ensures in
    record { ordered = found.1; within = omega (arith, found.2, ap length c.as_slice.ensures) }

pub returns-then-place-ends : goal.returns-then-place-ends
returns-then-place-ends c =
    sym (ap (λ (l : Lists). slice_get l.ended c.args.place) (sym c.self.view_is)
    ∙ cut_none 0 c.self.inside.numbers c.self.inside.ends c.args.place
    (omega (arith, ap length c.as_slice-ends.ensures, c.if-place-ends.true)))

pub returns : goal.returns
returns c =
    let ends = c.as_slice-ends.ensures in
    let found = got_between c.self.inside.numbers c.self.inside.ends c.as_slice-ends.result.now c.args.place
    c.start_at-start.result c.self.invariant ends c.if-place-ends.false c.start_at-start.ensures in
    sym (ap (λ (l : Lists). slice_get l.ended c.args.place) (sym c.self.view_is) ∙ found.0
    ∙ ap Some (sym (c.part.ensures
    ∙ ap (λ (ns : List Atom). slice_range ns c.start_at-start.result
    (get_or c.as_slice-ends.result.now c.args.place 0)) c.as_slice.ensures)))
