use Rattle.std.proofs.Common.{◌<◌, None, Some, ap, reverse, arith}
use Rattle.pc_graph.proofs.StepLemmas.{leaves_below, steps_given, steps_none, steps_visit}
use Rattle.pc_graph.proofs.RemainsLemmas.{remains_stepped}
use Rattle.pc_graph.specs.declared.dfs.DfsEvent.TheVariants.{Pre}
use Rattle.pc_graph.proofs.dfs.Dfs.next.Goals as goal

pub returns-then-left-eq0-clause-step : goal.returns-then-left-eq0-clause-step
returns-then-left-eq0-clause-step g c = λ d shows.
    steps_none (λ n answer. g.S.Fn.post c.args.seen (n, tt) answer) d c.self.inside.stack.items _ _ _ _
    c.as_slice.ensures.value c.self.view_is (omega arith) c.given_up_to-left.ensures.skipped
    (ap reverse c.clear.ensures.items)

pub returns-then-left-eq0-clause-tour : goal.returns-then-left-eq0-clause-tour
returns-then-left-eq0-clause-tour g c = λ d met shows exact.
    remains_stepped d (λ n answer. g.S.Fn.post c.args.seen (n, tt) answer) met None _ _ exact
    (returns-then-left-eq0-clause-step g c d shows)

pub returns-in-Pre-clause-step : goal.returns-in-Pre-clause-step
returns-in-Pre-clause-step g c = λ d shows.
    let some : 0 < c.given_up_to-left.result = omega arith in
    steps_visit
    (λ n answer. g.S.Fn.post c.args.seen (n, tt) answer)
    d c.self.inside.stack.items c.as_slice.result.now _ _ _ c.index.result.now c.in-Pre.node
    c.as_slice.ensures.value c.self.view_is some c.given_up_to-left.ensures.within c.index.ensures c.in-Pre.is
    c.given_up_to-left.ensures.skipped c.given_up_to-left.ensures.given (c.in_ok-open-in-Pre.ensures.ok d shows)

pub returns-in-Pre-clause-tour : goal.returns-in-Pre-clause-tour
returns-in-Pre-clause-tour g c = λ d met shows exact.
    remains_stepped d (λ n answer. g.S.Fn.post c.args.seen (n, tt) answer) met (Some (Pre c.in-Pre.node)) _ _ exact
    (returns-in-Pre-clause-step g c d shows)

pub returns-clause-step : goal.returns-clause-step
returns-clause-step g c = λ d shows.
    let some : 0 < c.given_up_to-left.result = omega arith in
    steps_given
    (λ n answer. g.S.Fn.post c.args.seen (n, tt) answer) d c.self.inside.stack.items _ _ _ _ c.index.result.now
    c.as_slice.ensures.value c.self.view_is some c.given_up_to-left.ensures.within c.index.ensures
    c.given_up_to-left.ensures.skipped
    (leaves_below (λ n answer. g.S.Fn.post c.args.seen (n, tt) answer) d c.index.result.now _ _ c.in_default.not-Pre
    (ap reverse c.truncate.ensures.items))

pub returns-clause-tour : goal.returns-clause-tour
returns-clause-tour g c = λ d met shows exact.
    remains_stepped d (λ n answer. g.S.Fn.post c.args.seen (n, tt) answer) met (Some c.index.result.now) _ _ exact
    (returns-clause-step g c d shows)
