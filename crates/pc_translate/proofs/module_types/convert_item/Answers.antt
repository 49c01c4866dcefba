use Rattle.std.proofs.Common.{sym, ◌∙◌}
use Rattle.pc_dfg_finish.specs.ModuleTypes.{static_type}
use Rattle.pc_translate.proofs.AddsModulesLemmas.{adds_named}
use Rattle.pc_translate.proofs.module_types.convert_item.Goals as goal

pub returns-in-Some-clause-adds : goal.returns-in-Some-clause-adds
returns-in-Some-clause-adds c =
    adds_named _ (static_type c.args.item.now) c.in-Some.ty (sym c.static_type.ensures ∙ c.in-Some.is) _ _
    c.convert.ensures.adds
