use Rattle.std.proofs.Common.{sym, ap, ◌∙◌}
use Rattle.std.proofs.lemmas.Result.{IfOk-weaker}
use Rattle.pc_analysis_contexts.specs.Keys.{made_for, made_of}
use Rattle.pc_analysis_contexts.proofs.made.made_for.Goals as goal

pub returns-in-Static : goal.returns-in-Static
unfolding made_for
returns-in-Static c =
    let a = c.args in
    IfOk-weaker c.made_of.result _ _
    (λ made is.
    is ∙ ap (made_of a.indexes.now a.known.now a.graph.now c.in-Static.number) c.as_slice.ensures
    ∙ sym (ap (made_for a.indexes.now a.known.now a.graph.now) c.in-Static.is))
    c.made_of.ensures

pub returns-in-Import : goal.returns-in-Import
unfolding made_for
returns-in-Import c =
    let a = c.args in
    sym (ap (made_for a.indexes.now a.known.now a.graph.now) c.in-Import.is)
