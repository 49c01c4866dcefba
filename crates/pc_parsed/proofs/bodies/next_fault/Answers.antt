use Rattle.std.proofs.Common.{◌∷◌, List, sym, ◌∙◌, subst}
use Rattle.std.specs.Option.{option_map}
use Rattle.std.proofs.lemmas.Result.{IfOk-weaker}
use Rattle.pc_parsed.specs.declared.bodies.Names.{Names}
use Rattle.pc_parsed.specs.Names.{Stands}
use Rattle.pc_parsed.proofs.StandLemmas.{same_fault, stand_next}
use Rattle.pc_parsed.proofs.bodies.next_fault.Goals as goal

pub returns-in-Some-clause-fault : goal.returns-in-Some-clause-fault
returns-in-Some-clause-fault c =
    let t = c.args.table.now in
    let exposed = option_map (λ x. x.now) c.args.exposed in
    let p = c.args.payload.now in
    IfOk-weaker c.fault_in.result _ _
    (λ f is before stands.
    is
    ∙ same_fault t exposed c.args.due before p c.args.components.now.items c.pop.new.self.items c.in-Some.names
    c.in-Some.ensures.items stands)
    c.fault_in.ensures.fault

pub returns-in-Some-clause-stands : goal.returns-in-Some-clause-stands
returns-in-Some-clause-stands c =
    let p = c.args.payload.now in
    IfOk-weaker c.fault_in.result _ _
    (λ f behind none before stands.
    let next = behind none in
    subst (λ (l : List Names). Stands l (p ∷ before)) (sym next.are)
    (stand_next before c.args.components.now.items c.pop.new.self.items c.in-Some.names next.new p
    c.in-Some.ensures.items stands next.gains))
    c.fault_in.ensures.behind
