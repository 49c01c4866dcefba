use Rattle.std.proofs.Common.{ℕ, List, sym, subst}
use Rattle.std.proofs.lemmas.Result.{on_ok_weaker}
use Rattle.pc_parsed.specs.declared.payload.AliasItem.TheVariants as alias
use Rattle.pc_parsed.specs.declared.payload.OuterKind.TheVariants as outer
use Rattle.pc_local.specs.declared.captured.Variable.{Variable}
use Rattle.pc_local.specs.declared.item.LocalInitializer.{LocalInitializer}
use Rattle.pc_local.specs.Captured.{AliasGoes, Captures, part}
use Rattle.pc_local.proofs.PartLemmas.{module_goes}
use Rattle.pc_local.proofs.capture.push_module.Goals as goal

pub returns : goal.returns
returns c =
    let stack = c.args.modules.now.items in
    let new = c.capture.new.stack.items in
    on_ok_weaker c.push.result
    (λ is cs. subst
    (λ (l : List LocalInitializer). AliasGoes (alias.Outer outer.CoreModule c.args.count c.args.index)
    (part c.args.items.now c.args.modules.now.items cs) (part l c.capture.new.stack.items cs)) (sym is)
    (module_goes c.args.items.now c.args.modules.now.items cs new c.args.count c.args.index c.closed_module.result
    (λ (level : ℕ) deep. subst (λ (v : Variable). Captures stack level c.args.count c.args.index new v)
    (sym c.closed_module.ensures) (c.in_ok-variable.ensures level deep))))
    c.push.ensures.ok
