use Rattle.std.proofs.Common.{rules, tests}
use Rattle.std.proofs.lemmas.Iterator.{YieldsList-from_slice}
use Rattle.std.proofs.lemmas.Iterator.Consumers.{YieldsList-from_filter, count_from_yields_List}
use Rattle.pc_info.specs.Modules.{is_adapter_module}
use Rattle.pc_text.proofs.plan.count_adapter_modules.Goals as goal

pub returns : goal.returns
returns c =
    count_from_yields_List c.filter.result _ c.count.ensures.ran
    (YieldsList-from_filter _ is_adapter_module (YieldsList-from_slice c.args.modules.now (cc)) c.filter.ensures.closure
    (λ x b q k. search (rules, tests)))
