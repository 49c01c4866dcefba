use Rattle.std.proofs.Common.{Err, ap, refl, sym, subst}
use Rattle.pc_types_builder.specs.Types.{IsFull}
use Rattle.pc_types_builder.proofs.TreeLemmas.{converted_grows}
use Rattle.pc_inline_state.specs.Tables.{tables_of}
use Rattle.pc_inline_state.specs.Typed.{AreSignatures}
use Rattle.pc_inline_state.proofs.NumberLemmas.{signatures_grow, signatures_noted}
use Rattle.pc_inline_state.proofs.RefusedLemmas.{type_lacks}
use Rattle.pc_inline_state.proofs.StateLemmas.{converts_refl}
use Rattle.pc_inline_state.proofs.AddsLemmas.{adds_refl, signed_adds}
use Rattle.pc_inline_state.proofs.context.Context.signature.Goals as goal

pub returns-in-Some-clause-converts : goal.returns-in-Some-clause-converts
returns-in-Some-clause-converts c done = converts_refl c.args.self.now.table.now c.args.state.now done

pub returns-in_err-index-clause-converts : goal.returns-in_err-index-clause-converts
returns-in_err-index-clause-converts c done = record {
  grows = c.in_err-index.ensures.grows;
  converted = converted_grows c.args.state.now.types c.core_sig.new.self c.in_err-index.ensures.grows
      c.args.self.now.table.now done;
  numbers = λ n. record {
    signatures = signatures_grow c.args.state.now.types c.core_sig.new.self c.in_err-index.ensures.grows
        c.args.self.now.table.now c.args.state.now.numbers.signatures.items n.signatures;
  };
  rest = refl;
}

pub returns-in_err-index-clause-err : goal.returns-in_err-index-clause-err
returns-in_err-index-clause-err c =
    type_lacks _ _ _ _ c.from_residual.ensures.1 (λ is. c.in_err-index.ensures.bad (ap Err is))
    (λ is. subst IsFull (sym c.in_err-index.ensures.err) (c.in_err-index.ensures.full (ap Err is)).1.full)

pub returns-clause-converts : goal.returns-clause-converts
returns-clause-converts c done = record {
  grows = c.in_ok-index.ensures.grows;
  converted = converted_grows c.args.state.now.types c.core_sig.new.self c.in_ok-index.ensures.grows
      c.args.self.now.table.now done;
  numbers = λ n. record {
    signatures = subst (AreSignatures c.core_sig.new.self c.args.self.now.table.now) (sym c.note.ensures)
        (signatures_noted c.core_sig.new.self c.args.self.now.table.now c.args.state.now.numbers.signatures.items
        c.args.core c.in_ok-index.index c.in_ok-index.ensures.ok
        (signatures_grow c.args.state.now.types c.core_sig.new.self c.in_ok-index.ensures.grows
        c.args.self.now.table.now c.args.state.now.numbers.signatures.items n.signatures));
  };
  rest = refl;
}

pub returns-in-Some-clause-adds : goal.returns-in-Some-clause-adds
returns-in-Some-clause-adds c = adds_refl _ _ (tables_of c.args.state.now)

pub returns-in_err-index-clause-adds : goal.returns-in_err-index-clause-adds
returns-in_err-index-clause-adds c =
    signed_adds c.args.self.now.table.now (tables_of c.args.state.now) c.core_sig.new.self c.core_sig.ensures.grows
    c.core_sig.ensures.few c.core_sig.ensures.rest

pub returns-clause-adds : goal.returns-clause-adds
returns-clause-adds c =
    signed_adds c.args.self.now.table.now (tables_of c.args.state.now) c.core_sig.new.self c.core_sig.ensures.grows
    c.core_sig.ensures.few c.core_sig.ensures.rest
