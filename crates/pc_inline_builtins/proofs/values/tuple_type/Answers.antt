use Rattle.std.proofs.Common.{Err, ap, sym, subst}
use Rattle.pc_types_builder.specs.Types.{IsFull}
use Rattle.pc_inline_state.proofs.RefusedLemmas.{typed_lacks}
use Rattle.pc_inline_builtins.proofs.TupleLemmas.{types_converted}
use Rattle.pc_inline_builtins.proofs.values.tuple_type.Goals as goal

pub returns-in_err-tuple-clause-err : goal.returns-in_err-tuple-clause-err
returns-in_err-tuple-clause-err c =
    typed_lacks _ _ _ c.from_residual.ensures.1 (λ is. c.in_err-tuple.ensures.never_bad (ap Err is))
    (λ is. subst IsFull (sym c.in_err-tuple.ensures.err) (c.in_err-tuple.ensures.full (ap Err is)).full)

pub returns-clause-converts : goal.returns-clause-converts
returns-clause-converts c done = types_converted _ _ _ c.new_tuple_type.ensures.grows done
