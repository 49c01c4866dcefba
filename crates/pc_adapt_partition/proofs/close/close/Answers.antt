use Rattle.std.proofs.Common.{◌≡◌, ◌++◌, ◌∷◌, [], All, ap, subst, sym, ◌∙◌}
use Rattle.pc_types.specs.declared.parsed.CoreKind.TheVariants as kind
use Rattle.pc_types.specs.Record.{imported}
use Rattle.pc_dfg.specs.Held.{IsHeld}
use Rattle.pc_dfg.specs.Ordered.{IsOrdered}
use Rattle.pc_adapt_partition.specs.Gathered.{ClosesFew}
use Rattle.pc_adapt_partition.proofs.StepLemmas.{closes_from, on_ok_three}
use Rattle.pc_adapt_partition.proofs.MostLemmas.{closes_few, nothing_closed, one_longer, pushed_closed}
use Rattle.pc_adapt_partition.proofs.close.close.Goals as goal

pub returns-clause-closes : goal.returns-clause-closes
returns-clause-closes c =
    let push = c.in_ok-adapter_module.ensures in
    let placed = c.place_adapters.ensures in
    let same = c.without_room.ensures in
    on_ok_three c.place_adapters.result
    (λ is grows ordered.
    closes_from c.args.graph.now c.push_adapter_module.new.self c.place_adapters.new.graph c.args.modules.now
    c.push_module.new.modules c.args.first c.args.many c.args.group c.in_ok-record_.record_
    c.in_ok-adapters.adapters c.num_imported_funcs-function.result c.new.result
    c.in_ok-core_module.core_module c.in_ok-adapter_module.adapter_module c.in_ok-record_.ensures
    (c.num_imported_funcs-function.ensures ∙ ap (λ r. imported r kind.Func) c.get.ensures) c.in_ok-adapters.ensures
    c.new.ensures c.in_ok-core_module.ensures.ok
    c.in_ok-core_module.ensures.key
    (subst (λ args. c.push_adapter_module.new.self.adapter_modules
    ≡ c.args.graph.now.adapter_modules ++ (c.in_ok-core_module.core_module, args) ∷ []) same push.ok)
    push.rest push.key push.grows
    (subst (λ args. All (IsHeld c.args.graph.now) args → IsOrdered c.args.graph.now
    → IsOrdered c.push_adapter_module.new.self) same push.ordered) is grows ordered)
    placed.placed placed.grows placed.ordered

pub returns-in_err-record_-clause-few : goal.returns-in_err-record_-clause-few
returns-in_err-record_-clause-few c = nothing_closed c.args.many c.args.graph.now c.args.modules.now

pub returns-in_err-adapters-clause-few : goal.returns-in_err-adapters-clause-few
returns-in_err-adapters-clause-few c = nothing_closed c.args.many c.args.graph.now c.args.modules.now

pub returns-in_err-core_module-clause-few : goal.returns-in_err-core_module-clause-few
returns-in_err-core_module-clause-few c =
    subst (ClosesFew c.args.many c.args.graph.now c.args.graph.now c.args.modules.now)
    (sym c.in_err-core_module.ensures.err) (nothing_closed c.args.many c.args.graph.now c.args.modules.now)

pub returns-in_err-adapter_module-clause-few : goal.returns-in_err-adapter_module-clause-few
returns-in_err-adapter_module-clause-few c =
    subst (λ g. ClosesFew c.args.many c.args.graph.now g c.args.modules.now c.push_module.new.modules)
    (sym c.in_err-adapter_module.ensures.err)
    (pushed_closed c.args.many c.args.graph.now c.args.modules.now c.push_module.new.modules _
    c.in_ok-core_module.ensures.ok)

pub returns-clause-few : goal.returns-clause-few
returns-clause-few c =
    closes_few c.args.many c.args.graph.now c.push_adapter_module.new.self c.place_adapters.new.graph
    c.args.modules.now c.push_module.new.modules c.in_ok-adapter_module.ensures.rest
    (one_longer _ _ _ c.in_ok-adapter_module.ensures.ok) c.place_adapters.ensures.rest c.place_adapters.ensures.few
    (one_longer _ _ _ c.in_ok-core_module.ensures.ok)
