use Rattle.std.proofs.Common.{ℕ, List, sym, subst}
use Rattle.std.proofs.lemmas.Result.{on_ok_weaker}
use Rattle.pc_parsed.specs.declared.payload.AliasItem.TheVariants as alias
use Rattle.pc_parsed.specs.declared.payload.OuterKind.TheVariants as outer
use Rattle.pc_local.specs.declared.captured.Variable.{Variable}
use Rattle.pc_local.specs.declared.item.LocalInitializer.{LocalInitializer}
use Rattle.pc_local.specs.Captured.{AliasGoes, Captures, part}
use Rattle.pc_local.proofs.PartLemmas.{component_goes}
use Rattle.pc_local.proofs.capture.push_component.Goals as goal

pub returns : goal.returns
returns c =
    let stack = c.args.components.now.items in
    let new = c.capture.new.stack.items in
    on_ok_weaker c.push.result
    (λ is ms. subst
    (λ (l : List LocalInitializer). AliasGoes (alias.Outer outer.Component c.args.count c.args.index)
    (part c.args.items.now ms c.args.components.now.items) (part l ms c.capture.new.stack.items)) (sym is)
    (component_goes c.args.items.now ms c.args.components.now.items new c.args.count c.args.index
    c.closed_component.result
    (λ (level : ℕ) deep. subst (λ (v : Variable). Captures stack level c.args.count c.args.index new v)
    (sym c.closed_component.ensures) (c.in_ok-variable.ensures level deep))))
    c.push.ensures.ok
