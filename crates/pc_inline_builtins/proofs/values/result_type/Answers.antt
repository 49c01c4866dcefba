use Rattle.std.proofs.Common.{sym, subst}
use Rattle.std.specs.Prelude.{All, IfOk}
use Rattle.pc_dfg.proofs.AllLemmas.{all_one}
use Rattle.pc_types_lists.specs.Held.{IsHeld}
use Rattle.pc_inline_state.proofs.StateLemmas.{converts_trans}
use Rattle.pc_inline_builtins.specs.Made.{IsTuple}
use Rattle.pc_inline_builtins.proofs.TupleLemmas.{for_result, no_result, one_after, result_adds, result_lacks}
use Rattle.pc_inline_builtins.proofs.TypeLemmas.{unfed_answer}
use Rattle.pc_types_builder.specs.Plain.{none_done}
use Rattle.pc_inline_builtins.proofs.values.result_type.Goals as goal

pub returns-in_err-ty-in-Some-clause-answers : goal.returns-in_err-ty-in-Some-clause-answers
returns-in_err-ty-in-Some-clause-answers c s knows =
    for_result _ _ s _ _ c.in-Some.is _
    (result_lacks c.value_type.new.state _ s c.in-Some.v _ _ c.from_residual.ensures.1
    (c.in_err-ty-in-Some.ensures.answers s knows))

pub returns-in_err-one-in-Some-clause-answers : goal.returns-in_err-one-in-Some-clause-answers
returns-in_err-one-in-Some-clause-answers c s knows =
    unfed_answer c.value_type.new.state _ _ _ c.from_residual-in_err-one-in-Some.ensures.1

pub tuple_type-requires-in-Some : goal.tuple_type-requires-in-Some
tuple_type-requires-in-Some c = record {
  held = subst (λ xs. All (IsHeld c.value_type.new.state.types) xs) (sym c.in_ok-one-in-Some.ensures)
      (all_one (IsHeld c.value_type.new.state.types) c.in_ok-ty-in-Some.ty c.in_ok-ty-in-Some.ensures.held);
}

pub returns-in-None-clause-answers : goal.returns-in-None-clause-answers
returns-in-None-clause-answers c s knows =
    for_result _ _ s _ _ c.in-None.is _
    (no_result c.tuple_type.new.state _ s _
    (subst (λ xs. IfOk c.tuple_type.result (IsTuple c.tuple_type.new.state.types xs)) c.new.ensures.items
    c.tuple_type.ensures.is) c.tuple_type.ensures.err)

pub returns-in_ok-one-in-Some-clause-converts : goal.returns-in_ok-one-in-Some-clause-converts
returns-in_ok-one-in-Some-clause-converts c =
    converts_trans _ _ _ _ _ _ _ c.value_type.ensures.converts (c.tuple_type-in-Some.ensures.converts _)

pub returns-in_ok-one-in-Some-clause-adds : goal.returns-in_ok-one-in-Some-clause-adds
returns-in_ok-one-in-Some-clause-adds c =
    result_adds _ _ _ _ _ _ c.in-Some.is c.value_type.ensures.adds c.tuple_type-in-Some.ensures.adds

pub returns-in_ok-one-in-Some-clause-answers : goal.returns-in_ok-one-in-Some-clause-answers
returns-in_ok-one-in-Some-clause-answers c s knows =
    for_result _ _ s _ _ c.in-Some.is _
    (one_after c.value_type.new.state c.tuple_type-in-Some.new.state _ s c.in-Some.v c.in_ok-ty-in-Some.ty _
    (c.tuple_type-in-Some.ensures.converts (none_done 0)) (c.in_ok-ty-in-Some.ensures.answers s)
    knows _
    (subst (λ xs. IfOk c.tuple_type-in-Some.result (IsTuple c.tuple_type-in-Some.new.state.types xs))
    c.in_ok-one-in-Some.ensures c.tuple_type-in-Some.ensures.is) c.tuple_type-in-Some.ensures.err)
