use Rattle.std.proofs.Common.{◌≡◌, ◌+◌, ◌<◌, ◌∙◌, ℕ, List, length, ap, refl, sym, subst}
use Rattle.pc_names.specs.Contents.{Contents}
use Rattle.pc_info.specs.declared.component.ComponentTranslation.{ComponentTranslation}
use Rattle.pc_info.specs.declared.export.Export.{Export}
use Rattle.pc_dfg.specs.declared.dfg.ComponentDfg.{ComponentDfg}
use Rattle.pc_dfg_linearize.specs.declared.state.Finish.{Finish}
use Rattle.pc_dfg_finish.specs.Exports.{Target}
use Rattle.pc_dfg_finish.specs.Finishes.{Finishes}
use Rattle.pc_dfg_finish.specs.ModuleTypes.{module_mark}
use Rattle.pc_dfg_finish.specs.Taken.{without_exports}
use Rattle.pc_dfg_finish.specs.Whole.{translation_of}
use Rattle.pc_dfg_finish.proofs.OutgrownLemmas.{resources_too_many}
use Rattle.pc_dfg_finish.proofs.RefusedLemmas.{if_ok_then}
use Rattle.pc_dfg_finish.proofs.WholeLemmas.{whole_finishes}
use Rattle.pc_dfg_finish.proofs.plan.finish.Goals as goal

-- the plan has nothing of the graph's own exports
same_plan : (g : ComponentDfg) (f : Finish) (names : Contents (List ℕ) Target) (items : List Export)
    → translation_of (without_exports g) f names items ≡ translation_of g f names items
unfolding translation_of
same_plan g f names items = refl

pub returns-clause-full : goal.returns-clause-full
returns-clause-full c is =
    let g = c.args.graph in
    let f = c.in_ok-finish.finish in
    let made = c.in_ok-finish.ensures.made in
    let many = subst (λ (x : ComponentDfg). 4294967295 < length x.imported_resources + length f.resources)
    c.in_ok-finish.ensures.rest (c.into_translation.ensures.full is) in
    resources_too_many g c.requires.ordered (length g.side_effects) made.before f made.done made.further.continues many

pub returns-clause-plan : goal.returns-clause-plan
returns-clause-plan c =
    let g = c.args.graph in
    let e = c.in_ok-finish.exported in
    let f = c.in_ok-finish.finish in
    let made = c.in_ok-finish.ensures.made in
    let h = c.make.new.graph in
    let same = ap (λ x. translation_of x f e.names e.items) c.in_ok-finish.ensures.rest
    ∙ same_plan g f e.names e.items in
    let types = c.args.types.now in
    let is_plan = Finishes g (module_mark types) in
    if_ok_then (λ (t : ComponentTranslation). t ≡ translation_of h f e.names e.items) is_plan c.into_translation.result
    (λ t is. subst is_plan (sym (is ∙ same)) (whole_finishes g c.requires.ordered made.before made.done f made.further
    types e.names e.items made.exports made.interned made.only made.instantiated))
    c.into_translation.ensures.plan

pub returns-in_err-finish-clause-full : goal.returns-in_err-finish-clause-full
returns-in_err-finish-clause-full c is =
    let too_many = rw is at c.from_residual.ensures.1 in
    c.in_err-finish.ensures.full (cc too_many)
