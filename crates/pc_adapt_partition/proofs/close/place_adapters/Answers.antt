use Rattle.std.proofs.Common.{◌≡◌, ◌≤◌, ◌+◌, ap, arith, length, subst, sym}
use Rattle.pc_dfg.specs.declared.dfg.ComponentDfg.{ComponentDfg}
use Rattle.pc_dfg.proofs.GrowLemmas.{grows_trans}
use Rattle.pc_adapt_partition.proofs.StepLemmas.{placed_more}
use Rattle.pc_adapt_partition.proofs.MostLemmas.{placed_few, placed_rest}
use Rattle.pc_adapt_partition.proofs.close.place_adapters.Goals as goal

pub loop-place-preserved : goal.loop-place-preserved
loop-place-preserved c =
    let at = c.loop-place.invariant in
    let push = c.push_partitioning.ensures in
    let there = ap (λ (g : ComponentDfg). length g.adapter_modules) at.0 in (
      placed_more c.args.graph.now c.loop-place.graph c.push_partitioning.new.self c.args.adapter_module
          c.args.function c.loop-place.place c.from_u32-func.result at.0 push.rest c.in_ok-push_partitioning.ensures.ok
          c.from_u32-func.ensures,
      grows_trans c.args.graph.now c.loop-place.graph c.push_partitioning.new.self at.1 push.grows,
      λ o. push.ordered (omega (arith, c.requires.there, there)) (at.2 o),
    )

pub returns-in_err-push_partitioning-clause-rest : goal.returns-in_err-push_partitioning-clause-rest
returns-in_err-push_partitioning-clause-rest c =
    subst (λ (x : ComponentDfg). x ≡ record c.args.graph.now { adapter_partitionings = x.adapter_partitionings })
    (sym c.in_err-push_partitioning.ensures.err)
    (placed_rest c.args.graph.now c.loop-place.graph c.args.adapter_module.0 c.args.function c.loop-place.place
    c.loop-place.invariant.0)

pub returns-in_err-push_partitioning-clause-few : goal.returns-in_err-push_partitioning-clause-few
returns-in_err-push_partitioning-clause-few c =
    subst (λ (x : ComponentDfg). length x.adapter_partitionings
    ≤ length c.args.graph.now.adapter_partitionings + c.args.many) (sym c.in_err-push_partitioning.ensures.err)
    (placed_few c.args.graph.now c.loop-place.graph c.args.adapter_module.0 c.args.function c.loop-place.place
    c.args.many (omega (arith, c.loop-place-test.true)) c.loop-place.invariant.0)

pub returns-clause-rest : goal.returns-clause-rest
returns-clause-rest c =
    placed_rest c.args.graph.now c.loop-place.graph c.args.adapter_module.0 c.args.function c.loop-place.place
    c.loop-place.invariant.0

pub returns-clause-few : goal.returns-clause-few
returns-clause-few c =
    placed_few c.args.graph.now c.loop-place.graph c.args.adapter_module.0 c.args.function c.loop-place.place
    c.args.many (omega (arith, c.loop-place.auto.place-end)) c.loop-place.invariant.0
