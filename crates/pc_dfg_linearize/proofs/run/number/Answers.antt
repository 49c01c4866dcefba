use Rattle.std.proofs.Common.{◌∙◌, sym}
use Rattle.pc_dfg_linearize.proofs.StackLemmas.{emptied, ongoing_can, ongoing_end, ongoing_full, ongoing_start, ongoing_turn}
use Rattle.pc_dfg_linearize.proofs.WorkLemmas.{turn_lightens}
use Rattle.pc_dfg_linearize.proofs.run.number.Goals as goal

pub tasks-init : goal.tasks-init
tasks-init c =
    let r = c.requires in
    ongoing_start c.args.graph.now r.ordered r.grouped _ _ r.ready _ c.in_ok-tasks.ensures r.fits

pub take-requires : goal.take-requires
take-requires c =
    let r = c.requires in
    let on = c.tasks.invariant in
    record {
      held = r.ordered.held;
      can = ongoing_can c.args.graph.now r.ordered r.grouped _ _ r.ready _ _ _ _ c.in-Some.ensures.items on;
      fits = on.continues.fits;
    }

pub tasks-preserved : goal.tasks-preserved
tasks-preserved c =
    let r = c.requires in
    ongoing_turn c.args.graph.now r.ordered r.grouped _ _ r.ready _ _ _ _ _ _ c.in-Some.ensures.items
    c.in_ok-take.ensures.taken c.tasks.invariant

pub tasks-smaller : goal.tasks-smaller
tasks-smaller c =
    let r = c.requires in
    turn_lightens c.args.graph.now r.ordered r.grouped _ _ _ _ _ _ c.in-Some.ensures.items c.in_ok-take.ensures.taken

pub returns-clause-closed : goal.returns-clause-closed
returns-clause-closed c =
    let r = c.requires in
    let none = emptied c.tasks.tasks.items (sym c.tasks.tasks.ok.0 ∙ c.in_default.ensures.cases.0) in
    ongoing_end c.args.graph.now r.ordered r.grouped _ _ r.ready _ _ none c.tasks.invariant

pub returns-in_err-take-clause-full : goal.returns-in_err-take-clause-full
returns-in_err-take-clause-full c is =
    let too_many = rw is at c.from_residual-in_err-take.ensures.1 in
    let full = c.in_err-take.ensures.full (cc too_many) in
    ongoing_full c.args.graph.now _ _ _ _ _ c.tasks.invariant full
