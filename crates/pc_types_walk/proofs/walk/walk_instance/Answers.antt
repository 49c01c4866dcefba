use Rattle.std.proofs.Common.{◌<◌, ◌∷◌, ◌∙◌, [], ap, arith, reverse, subst, sym}
use Rattle.std.proofs.lemmas.List.{reverse-append}
use Rattle.pc_entity.proofs.LookupLemmas.{found_at}
use Rattle.pc_spec_reading.specs.Once.{each_once}
use Rattle.pc_spec_reading.specs.Resource.{same_number}
use Rattle.pc_types_walk.specs.Leads.{paths_of}
use Rattle.pc_types_walk.specs.Steps.{Goes, has, work}
use Rattle.pc_types_walk.specs.Walks.{IsWalk}
use Rattle.pc_types_walk.proofs.ListLemmas.{none_left, past_none}
use Rattle.pc_types_walk.proofs.PathLemmas.{paths_past}
use Rattle.pc_types_walk.proofs.StepLemmas.{goes_end, goes_start, walk_nowhere}
use Rattle.pc_types_walk.proofs.walk.walk_instance.Goals as goal

pub returns-then-not-has_entry : goal.returns-then-not-has_entry
returns-then-not-has_entry c =
    let t = c.args.table.now in
    let past = c.has_entry.ensures.past c.if-not-has_entry.true in
    subst (λ ps. IsWalk t c.nowhere.result (each_once same_number ps))
    (sym (paths_past t c.args.n (past_none t.types c.args.n (omega (arith, past, c.requires.leads.count)))))
    (walk_nowhere t c.nowhere.result c.nowhere.ensures)

pub loop-top-init : goal.loop-top-init
loop-top-init c =
    let leads = c.args.leads.now in
    let f = found_at leads c.args.n (c.has_entry.ensures.there c.if-not-has_entry.false) in
    goes_start c.args.table.now leads c.requires.leads c.args.n f.0 f.1 c.in_ok-walker.walker c.in_ok-walker.ensures

pub loop-top-preserved : goal.loop-top-preserved
loop-top-preserved c =
    let w = c.loop-top.walker in
    let back = ap reverse c.in-Some.ensures.items ∙ reverse-append c.pop.new.self.items (c.in-Some.top ∷ []) in
    let all = each_once same_number (paths_of c.args.table.now c.args.n) in
    c.in_ok-step.ensures.goes all
    (subst (λ s. Goes c.args.table.now c.args.leads.now all (has w.met) (has w.visited) s w.walk) back
    c.loop-top.invariant)

pub loop-top-smaller : goal.loop-top-smaller
loop-top-smaller c =
    let w = c.loop-top.walker in
    let back = ap reverse c.in-Some.ensures.items ∙ reverse-append c.pop.new.self.items (c.in-Some.top ∷ []) in
    let all = each_once same_number (paths_of c.args.table.now c.args.n) in
    let leads = c.args.leads.now in
    subst (λ s. work leads (has c.step.new.self.visited) (reverse c.step.new.self.stack.items)
    < work leads (has w.visited) s) (sym back)
    (c.in_ok-step.ensures.falls all
    (subst (λ s. Goes c.args.table.now leads all (has w.met) (has w.visited) s w.walk) back c.loop-top.invariant))

pub returns : goal.returns
returns c =
    let w = c.loop-top.walker in
    let all = each_once same_number (paths_of c.args.table.now c.args.n) in
    goes_end c.args.table.now c.args.leads.now all (has w.met) (has w.visited) w.walk
    (subst (λ s. Goes c.args.table.now c.args.leads.now all (has w.met) (has w.visited) s w.walk)
    (none_left w.stack.items (sym w.stack.ok.0 ∙ c.in_default.ensures.cases.0)) c.loop-top.invariant)
