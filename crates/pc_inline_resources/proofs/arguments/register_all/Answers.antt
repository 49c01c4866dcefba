use Rattle.std.proofs.Common.{sym, subst}
use Rattle.std.specs.List.{AllZip}
use Rattle.pc_spec_reading.specs.Member.{resource_at}
use Rattle.pc_spec_reading.specs.Resource.{newly, resource_paths}
use Rattle.pc_inline_canon.proofs.StepLemmas.{steps_memory}
use Rattle.pc_inline_resources.specs.Walked.{IsMet}
use Rattle.pc_inline_resources.proofs.TakenLemmas.{taken_steps}
use Rattle.pc_inline_resources.proofs.arguments.register_all.Goals as goal

pub returns-in_err-met-clause-steps : goal.returns-in_err-met-clause-steps
returns-in_err-met-clause-steps c v is = steps_memory _ _ _ _ _ _ _ _ c.from_residual.ensures.1

pub register_each-requires-clause-met : goal.register_each-requires-clause-met
register_each-requires-clause-met c =
    let here = c.requires.here in
    let v = c.requires.start.0 in (
      λ names. resource_at names v,
      newly here.0.scope.known (resource_paths c.args.context.now.table.now c.args.entity),
      subst (λ l. AllZip (IsMet c.args.state.now.graph (λ names. resource_at names v)) l
          (newly here.0.scope.known (resource_paths c.args.context.now.table.now c.args.entity)))
          (sym c.as_slice.ensures) (c.in_ok-met.ensures here.0.scope here.1.here v c.requires.start.1),
    )

pub returns-clause-steps : goal.returns-clause-steps
returns-clause-steps c v is =
    taken_steps _ _ _ _ _ _ _ _ v
    (λ now at. c.register_each.ensures.follows (λ names. resource_at names v) _ now
    (subst (λ l. AllZip (IsMet c.args.state.now.graph (λ names. resource_at names v)) l
    (newly now.scope.known (resource_paths c.args.context.now.table.now c.args.entity)))
    (sym c.as_slice.ensures) (c.in_ok-met.ensures now.scope at.here v is)) at)
