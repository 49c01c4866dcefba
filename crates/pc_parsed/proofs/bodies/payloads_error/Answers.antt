use Rattle.std.proofs.Common.{◌≡◌, true, ◌+◌, ◌∷◌, ◌++◌, [], List, length, Some, sym, ap, ◌∙◌, subst}
use Rattle.std.proofs.Common.{arith}
use Rattle.std.specs.Option.{option_map}
use Rattle.pc_parsed.specs.declared.bodies.Names.{Names}
use Rattle.pc_parsed.proofs.PassLemmas.{Passed, passed_none, passed_fault, passed_next, passed_all}
use Rattle.pc_entity.proofs.LookupLemmas.{left_here}
use Rattle.pc_parsed.proofs.bodies.payloads_error.Goals as goal

pub loop-n-init : goal.loop-n-init
loop-n-init c =
    let t = c.args.table.now in
    let exposed = option_map (λ x. x.now) c.args.exposed in
    let ps = c.args.payloads.now in
    let are =
    c.in_ok-push.ensures.items ∙ ap (λ (l : List Names). l ++ c.new.result ∷ []) c.new-components.ensures.items
    ∙ ap (λ (x : Names). x ∷ []) c.new.ensures in
    subst (λ (l : List Names). Passed t exposed ps 0 true l) (sym are) (passed_none t exposed ps)

pub returns-in-Some : goal.returns-in-Some
returns-in-Some c =
    let at = left_here c.args.payloads.now c.loop-n.n _ (omega arith) c.index-payloads-n.is in
    ap Some c.at.ensures
    ∙ passed_fault _ _ _ _ _ _ _ at c.loop-n.invariant c.in_ok-item.field-0 c.in_ok-item.ensures.fault c.in-Some.item
    c.in-Some.fault c.in-Some.is

pub loop-n-preserved : goal.loop-n-preserved
loop-n-preserved c =
    let exposed = option_map (λ x. x.now) c.args.exposed in
    let ps = c.args.payloads.now in
    let n = c.loop-n.n in
    let at = left_here ps n _ (omega arith) c.index-payloads-n.is in
    let next = c.next_fault.new.components.items in
    subst (λ d. Passed c.args.table.now exposed ps (n + 1) d next) (sym c.opens-due.ensures)
    (passed_next _ _ _ _ _ _ _ at c.loop-n.invariant c.in_ok-item.field-0 c.in_ok-item.ensures.fault next
    c.in-None.is (c.in_ok-item.ensures.stands c.in-None.is))

pub returns : goal.returns
returns c =
    let all : c.loop-n.n ≡ length c.args.payloads.now = omega arith in
    passed_all _ _ _ _ _ _ _ all c.loop-n.invariant (λ k h. c.end_error.ensures k (h ∙ sym c.are_closed.ensures))
