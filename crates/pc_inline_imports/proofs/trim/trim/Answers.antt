use Rattle.std.proofs.Common.{ap, map, subst, sym, ◌∙◌}
use Rattle.pc_inline_imports.specs.Trims.{AreMarked, moved_by}
use Rattle.pc_inline_imports.proofs.TrimLemmas.{trims}
use Rattle.pc_inline_imports.proofs.trim.trim.Goals as goal

pub returns : goal.returns
returns c t names named =
    let marked = subst (AreMarked c.args.places.now c.args.found.now) (sym c.as_slice.ensures.value)
    c.in_ok-marks.ensures in
    trims t names c.args.places.now c.args.found.now c.as_slice.result.now marked _ _ c.in_ok-places.ensures.count
    c.requires.below (c.in_ok-places.ensures.kept t c.args.found.now names marked named) c.in_ok-found.found
    (c.in_ok-found.ensures ∙ ap (λ ns. map (moved_by ns) c.args.found.now) c.as_slice-2.ensures.value)
