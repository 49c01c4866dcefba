use Rattle.pc_types.specs.declared.parsed.Entity.TheVariants as entity
use Rattle.pc_types.specs.Table.{is_component, is_func}
use Rattle.pc_inline_state.proofs.RefusedLemmas.{free_lacks}
use Rattle.pc_inline_imports.specs.Given.{is_any}
use Rattle.pc_inline_imports.proofs.EntityLemmas.{component_typed, func_typed, instance_typed, module_typed, named_as}
use Rattle.pc_inline_imports.proofs.EntityLemmas.{not_failed, not_missing, result_lacks, type_typed}
use Rattle.pc_inline_imports.proofs.entity.entity_type.Goals as goal

pub returns-in_err-func_type-in-Func-clause-err : goal.returns-in_err-func_type-in-Func-clause-err
returns-in_err-func_type-in-Func-clause-err c =
    free_lacks c.from_residual.result _ _ _ _ c.from_residual.ensures.1
    (not_failed c.args.context.now.table.now is_func c.in-Func.n
    (named_as c.args.context.now.table.now c.args.entity (entity.Func c.in-Func.n) c.in-Func.is c.requires.named))
    c.in_err-func_type-in-Func.ensures.err

pub returns-in_ok-func_type-in-Func-clause-is : goal.returns-in_ok-func_type-in-Func-clause-is
returns-in_ok-func_type-in-Func-clause-is c =
    func_typed _ _ c.args.entity c.in-Func.n c.in-Func.is _ c.in_ok-func_type-in-Func.ensures.is.1

pub returns-in_ok-ty-in-Instance-clause-is : goal.returns-in_ok-ty-in-Instance-clause-is
returns-in_ok-ty-in-Instance-clause-is c =
    instance_typed _ _ c.args.entity c.in-Instance.n c.in-Instance.is _ c.in_ok-ty-in-Instance.ensures.is

pub returns-in_ok-module_type-in-Module-clause-is : goal.returns-in_ok-module_type-in-Module-clause-is
returns-in_ok-module_type-in-Module-clause-is c =
    module_typed _ _ c.args.entity c.in-Module.n c.in-Module.is _ c.in_ok-module_type-in-Module.ensures.is

pub returns-in-Component-clause-is : goal.returns-in-Component-clause-is
returns-in-Component-clause-is c =
    component_typed _ _ c.args.entity c.in-Component.n c.in-Component.is _ c.entry_type.ensures.is

pub returns-in-Component-clause-err : goal.returns-in-Component-clause-err
returns-in-Component-clause-err c =
    result_lacks _ _ _ _
    (not_missing c.args.context.now.table.now is_component c.in-Component.n
    (named_as c.args.context.now.table.now c.args.entity (entity.Component c.in-Component.n) c.in-Component.is
    c.requires.named)) c.entry_type.ensures.err

pub returns-in-Type_-clause-is : goal.returns-in-Type_-clause-is
returns-in-Type_-clause-is c =
    type_typed _ _ c.args.entity c.in-Type_.n c.in-Type_.is _ c.entry_type-in-Type_.ensures.is

pub returns-in-Type_-clause-err : goal.returns-in-Type_-clause-err
returns-in-Type_-clause-err c =
    result_lacks _ _ _ _
    (not_missing c.args.context.now.table.now is_any c.in-Type_.n
    (named_as c.args.context.now.table.now c.args.entity (entity.Type_ c.in-Type_.n) c.in-Type_.is
    c.requires.named)) c.entry_type-in-Type_.ensures.err
