use Rattle.std.proofs.Common.{subst}
use Rattle.pc_dfg.specs.Grows.{Grows}
use Rattle.pc_dfg.specs.Ordered.{IsOrdered}
use Rattle.pc_dfg.proofs.EffectLemmas.{instance_grows, instance_left, instance_ordered, instance_pushed}
use Rattle.pc_dfg.proofs.dfg.ComponentDfg.push_instance.Goals as goal

pub returns-in_err-push-clause-grows : goal.returns-in_err-push-clause-grows
returns-in_err-push-clause-grows c =
    instance_left c.args.self.now _ _ c.args.instance c.append.ensures.change c.in_err-push.ensures.err

pub returns-clause-grows : goal.returns-clause-grows
returns-clause-grows c =
    let g = c.args.self.now in
    subst (Grows g) (instance_pushed g _ _ c.args.instance c.args.owner c.in_ok-id.id c.in_ok-id.ensures.key
    c.in_ok-id.ensures.ok c.in_ok-push.ensures.ok) (instance_grows g c.args.instance c.args.owner)

pub returns-clause-ordered : goal.returns-clause-ordered
returns-clause-ordered c held begun o =
    let g = c.args.self.now in
    subst IsOrdered (instance_pushed g _ _ c.args.instance c.args.owner c.in_ok-id.id c.in_ok-id.ensures.key
    c.in_ok-id.ensures.ok c.in_ok-push.ensures.ok) (instance_ordered g c.args.instance c.args.owner held begun o)
