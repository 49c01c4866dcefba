use Rattle.std.proofs.Common.{subst}
use Rattle.pc_dfg.specs.Grows.{Grows}
use Rattle.pc_dfg.specs.Ordered.{IsOrdered}
use Rattle.pc_dfg.proofs.EffectLemmas.{resource_grows, resource_left, resource_ordered, resource_pushed}
use Rattle.pc_dfg.proofs.dfg.ComponentDfg.push_resource.Goals as goal

pub returns-in_err-push-clause-grows : goal.returns-in_err-push-clause-grows
returns-in_err-push-clause-grows c =
    resource_left c.args.self.now _ _ c.args.resource c.append.ensures.change c.in_err-push.ensures.err

pub returns-clause-grows : goal.returns-clause-grows
returns-clause-grows c =
    let g = c.args.self.now in
    subst (Grows g) (resource_pushed g _ _ c.args.resource c.in_ok-number.number c.in_ok-number.ensures.key
    c.in_ok-number.ensures.ok c.in_ok-push.ensures.ok) (resource_grows g c.args.resource)

pub returns-clause-ordered : goal.returns-clause-ordered
returns-clause-ordered c held o =
    let g = c.args.self.now in
    subst IsOrdered (resource_pushed g _ _ c.args.resource c.in_ok-number.number c.in_ok-number.ensures.key
    c.in_ok-number.ensures.ok c.in_ok-push.ensures.ok) (resource_ordered g c.args.resource held o)
