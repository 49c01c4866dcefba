use Rattle.std.proofs.Common.{ap, sym, ◌∙◌}
use Rattle.pc_types_lists.specs.Types.{Types}
use Rattle.pc_inline_state.proofs.GainedLemmas.{current_begun}
use Rattle.pc_inline_state.proofs.StateLemmas.{converts_prepares}
use Rattle.pc_inline_canon.proofs.PassedLemmas.{passed_lacking, passed_unfed}
use Rattle.pc_inline_modules.proofs.ModuleLemmas.{module_done, module_few, module_keeps, module_misses, type_few}
use Rattle.pc_inline_modules.proofs.WholeLemmas.{made, unmoved}
use Rattle.pc_inline_modules.proofs.modules.step_module.Goals as goal

pub returns-then-not-is_module_type : goal.returns-then-not-is_module_type
returns-then-not-is_module_type c =
    unmoved (module_misses _ _ c.args.index c.args.ty _ _ _ _
    (sym c.is_module_type.ensures ∙ c.if-not-is_module_type.true))

pub module_type-requires : goal.module_type-requires
module_type-requires c =
    let at = c.requires.here.1 in
    record {
      sound = c.requires.input.table;
      converted = at.converted;
      begun = current_begun _ _ _ _ _ at;
      there = sym c.is_module_type.ensures ∙ c.if-not-is_module_type.false;
    }

pub returns-in_err-module_type : goal.returns-in_err-module_type
returns-in_err-module_type c =
    let p = c.module_type.ensures in
    made (converts_prepares _ c.args.context.now.modules _ _ _ _ p.converts).keeps (type_few _ _ _ p.adds)
    p.converts.grows.resources
    (passed_lacking _ _ _ _ _ _ _ _ _ c.from_residual.ensures.1 c.in_err-module_type.ensures.err)

pub returns-in_err-id : goal.returns-in_err-id
returns-in_err-id c =
    let p = c.push_definition.ensures in
    made (module_keeps _ _ _ _ _ _ c.in_ok-module_type.ensures.converts p.keeps)
    (module_few _ _ _ _ c.module_type.ensures.adds p.adds)
    (ap (λ (t : Types). t.resources) p.adds.types ∙ c.in_ok-module_type.ensures.converts.grows.resources)
    (passed_lacking _ _ _ _ _ _ _ _ _ c.from_residual-in_err-id.ensures.1 c.in_err-id.ensures.lacks)

pub returns-in_err-push : goal.returns-in_err-push
returns-in_err-push c =
    let p = c.push_definition.ensures in
    made (module_keeps _ _ _ _ _ _ c.in_ok-module_type.ensures.converts p.keeps)
    (module_few _ _ _ _ c.module_type.ensures.adds p.adds)
    (ap (λ (t : Types). t.resources) p.adds.types ∙ c.in_ok-module_type.ensures.converts.grows.resources)
    (passed_unfed _ _ _ _ _ _ _ _ c.from_residual-in_err-push.ensures.1)

pub returns : goal.returns
returns c =
    let p = c.push_definition.ensures in
    made (module_keeps _ _ _ _ _ _ c.in_ok-module_type.ensures.converts p.keeps)
    (module_few _ _ _ _ c.module_type.ensures.adds p.adds)
    (ap (λ (t : Types). t.resources) p.adds.types ∙ c.in_ok-module_type.ensures.converts.grows.resources)
    (module_done _ _ c.args.index c.args.ty c.args.state.now c.args.frame.now
    (sym c.is_module_type.ensures ∙ c.if-not-is_module_type.false) c.requires.handed_in _ _
    c.in_ok-module_type.ensures.converts _ c.in_ok-module_type.ensures.is c.in_ok-id.id c.in_ok-id.ensures.key _ _
    c.in_ok-id.ensures.ok c.in_ok-push.ensures.ok tt)
