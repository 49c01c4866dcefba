use Rattle.std.proofs.Common.{inl, inr}
use Rattle.pc_types_builder.proofs.TreeLemmas.{entry_grows}
use Rattle.pc_inline_state.proofs.RefusedLemmas.{cause_lacks}
use Rattle.pc_inline_state.proofs.StateLemmas.{converts_trans}
use Rattle.pc_types.specs.declared.types.TypeDef.TheVariants as def
use Rattle.pc_inline_state.proofs.AddsLemmas.{adds_function}
use Rattle.pc_types_builder.specs.Plain.{none_done}
use Rattle.pc_inline_state.proofs.context.Context.function_types.Goals as goal

pub returns-in_err-ty-clause-err : goal.returns-in_err-ty-clause-err
returns-in_err-ty-clause-err c =
    cause_lacks _ _ _ _ _ _ c.from_residual.ensures.1 inl c.in_err-ty.ensures.err

pub returns-in_err-core_type-clause-converts : goal.returns-in_err-core_type-clause-converts
returns-in_err-core_type-clause-converts c =
    converts_trans _ _ _ _ _ _ _ c.in_ok-ty.ensures.converts (c.in_err-core_type.ensures.converts _)

pub returns-in_err-core_type-clause-err : goal.returns-in_err-core_type-clause-err
returns-in_err-core_type-clause-err c =
    cause_lacks _ _ _ _ _ _ c.from_residual-in_err-core_type.ensures.1 (λ none. inr (c.in_ok-ty.ensures.is.0, none))
    c.in_err-core_type.ensures.err

pub returns-clause-converts : goal.returns-clause-converts
returns-clause-converts c =
    converts_trans _ _ _ _ _ _ _ c.in_ok-ty.ensures.converts (c.in_ok-core_type.ensures.converts _)

pub returns-clause-are : goal.returns-clause-are
returns-clause-are c = record {
  there = c.in_ok-ty.ensures.is.0;
  entry = entry_grows c.func_type.new.state.types c.signature.new.state.types
      (c.in_ok-core_type.ensures.converts (none_done 0)).grows
      c.args.self.now.table.now c.args.ty (def.ComponentFunc c.in_ok-ty.ty) c.in_ok-ty.ensures.is.1;
  signature = c.in_ok-core_type.ensures.is;
}

pub returns-in_err-ty-clause-adds : goal.returns-in_err-ty-clause-adds
returns-in_err-ty-clause-adds c = c.func_type.ensures.adds

pub returns-in_err-core_type-clause-adds : goal.returns-in_err-core_type-clause-adds
returns-in_err-core_type-clause-adds c = adds_function _ _ _ _ c.func_type.ensures.adds c.signature.ensures.adds

pub returns-clause-adds : goal.returns-clause-adds
returns-clause-adds c = adds_function _ _ _ _ c.func_type.ensures.adds c.signature.ensures.adds
