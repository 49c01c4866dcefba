use Rattle.std.proofs.Common.{All, inl, inr, subst, sym}
use Rattle.pc_dfg_finish.specs.ModuleTypes.{IsTyped}
use Rattle.pc_translate.specs.ModuleTypes.{AddsModules, HoldsModules, IsExported, LacksPlace}
use Rattle.pc_translate.proofs.ModuleTypeLemmas.{all_finished}
use Rattle.pc_translate.proofs.plan.finish.Goals as goal

pub returns-in_err-module_types-clause-adds : goal.returns-in_err-module_types-clause-adds
returns-in_err-module_types-clause-adds c =
    subst (λ es. AddsModules c.args.table.now (IsExported es) c.args.types.now c.module_types.new.types)
    c.as_slice.ensures c.in_err-module_types.ensures.adds

pub returns-in_err-module_types-clause-unchanged : goal.returns-in_err-module_types-clause-unchanged
returns-in_err-module_types-clause-unchanged c held =
    c.in_err-module_types.ensures.unchanged
    (subst (HoldsModules c.args.types.now c.args.table.now) (sym c.as_slice.ensures) held)

pub returns-in_err-module_types-clause-full : goal.returns-in_err-module_types-clause-full
returns-in_err-module_types-clause-full c is =
    let too_many = rw is at c.from_residual.ensures.1 in
    let full = c.in_err-module_types.ensures.full (cc too_many) in
    inr (subst (λ es. LacksPlace c.args.table.now es c.args.types.now c.module_types.new.types) c.as_slice.ensures full)

pub returns-clause-adds : goal.returns-clause-adds
returns-clause-adds c =
    subst (λ es. AddsModules c.args.table.now (IsExported es) c.args.types.now c.module_types.new.types)
    c.as_slice.ensures c.in_ok-module_types.ensures.adds

pub returns-clause-unchanged : goal.returns-clause-unchanged
returns-clause-unchanged c held =
    c.in_ok-module_types.ensures.unchanged
    (subst (HoldsModules c.args.types.now c.args.table.now) (sym c.as_slice.ensures) held)

pub returns-clause-full : goal.returns-clause-full
returns-clause-full c is = inl (c.finish.ensures.full is)

pub returns-clause-plan : goal.returns-clause-plan
returns-clause-plan c =
    all_finished _ _ c.args.graph _ c.in_ok-module_types.ensures.types
    (subst (All (IsTyped c.in_ok-module_types.module_types)) c.as_slice.ensures c.in_ok-module_types.ensures.typed)
    c.finish.result c.finish.ensures.plan
