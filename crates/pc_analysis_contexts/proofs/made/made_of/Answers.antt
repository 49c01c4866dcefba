use Rattle.std.proofs.Common.{◌≡◌, length, refl, sym, ap, ◌∙◌}
use Rattle.std.specs.Prelude.{Some, slice_get}
use Rattle.std.proofs.lemmas.Option.{slice_get_past, slice_get_read}
use Rattle.pc_analysis_contexts.specs.declared.made.Made.TheVariants as made
use Rattle.pc_analysis_contexts.specs.Keys.{made_if, made_of}
use Rattle.pc_analysis_contexts.proofs.made.made_of.Goals as goal

pub returns-in_ok-def_keys-in-Some : goal.returns-in_ok-def_keys-in-Some
unfolding made_of
returns-in_ok-def_keys-in-Some c =
    let a = c.args in
    let at : slice_get a.indexes.now a.number.0 ≡ Some c.in-Some.field-0.now =
    slice_get_read a.indexes.now (length a.indexes.now) a.number.0 c.in-Some.field-0.now refl
    c.in-Some.ensures.lookup.3.0 c.in-Some.ensures.lookup.1 in
    ap (made.Module a.number) c.in_ok-def_keys-in-Some.ensures
    ∙ ap (made_if a.indexes.now a.known.now a.graph.now a.number a.args.now) (sym at)

pub returns-in-None : goal.returns-in-None
unfolding made_of
returns-in-None c =
    let a = c.args in
    ap (made_if a.indexes.now a.known.now a.graph.now a.number a.args.now)
    (sym (slice_get_past a.indexes.now a.number.0 c.in-None.ensures.lookup.3))
