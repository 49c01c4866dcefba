use Rattle.std.proofs.Common.{◌∙◌, IfOk, ap, subst, sym}
use Rattle.pc_spec_reading.specs.Once.{each_once}
use Rattle.pc_spec_reading.specs.Resource.{resource_paths, same_number}
use Rattle.pc_types_walk.specs.Walks.{IsWalk}
use Rattle.pc_types_walk.proofs.StepLemmas.{paths_component, paths_func, paths_instance, paths_module, paths_type}
use Rattle.pc_types_walk.proofs.StepLemmas.{paths_value, walk_nowhere}
use Rattle.pc_types_walk.proofs.leads.Leads.walk.Goals as goal

pub returns-in-Instance : goal.returns-in-Instance
returns-in-Instance c =
    let t = c.args.table.now in
    subst (λ ps. IfOk c.walk_instance.result (λ w. IsWalk t w (each_once same_number ps)))
    (sym (ap (resource_paths t) c.in-Instance.is ∙ paths_instance t c.in-Instance.n)) c.walk_instance.ensures

pub returns-in-Type_ : goal.returns-in-Type_
returns-in-Type_ c =
    let t = c.args.table.now in
    subst (λ ps. IfOk c.walk_type.result (λ w. IsWalk t w (each_once same_number ps)))
    (sym (ap (resource_paths t) c.in-Type_.is ∙ paths_type t c.in-Type_.n)) c.walk_type.ensures

pub returns-in-Func : goal.returns-in-Func
returns-in-Func c =
    let t = c.args.table.now in
    subst (λ ps. IsWalk t c.nowhere.result (each_once same_number ps))
    (sym (ap (resource_paths t) c.in-Func.is ∙ paths_func t _)) (walk_nowhere t c.nowhere.result c.nowhere.ensures)

pub returns-in-Component : goal.returns-in-Component
returns-in-Component c =
    let t = c.args.table.now in
    subst (λ ps. IsWalk t c.nowhere-in-Component.result (each_once same_number ps))
    (sym (ap (resource_paths t) c.in-Component.is ∙ paths_component t _))
    (walk_nowhere t c.nowhere-in-Component.result c.nowhere-in-Component.ensures)

pub returns-in-Module : goal.returns-in-Module
returns-in-Module c =
    let t = c.args.table.now in
    subst (λ ps. IsWalk t c.nowhere-in-Module.result (each_once same_number ps))
    (sym (ap (resource_paths t) c.in-Module.is ∙ paths_module t _))
    (walk_nowhere t c.nowhere-in-Module.result c.nowhere-in-Module.ensures)

pub returns-in-Value : goal.returns-in-Value
returns-in-Value c =
    let t = c.args.table.now in
    subst (λ ps. IsWalk t c.nowhere-in-Value.result (each_once same_number ps))
    (sym (ap (resource_paths t) c.in-Value.is ∙ paths_value t))
    (walk_nowhere t c.nowhere-in-Value.result c.nowhere-in-Value.ensures)
