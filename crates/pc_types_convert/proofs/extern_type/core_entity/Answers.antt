use Rattle.std.proofs.Common.{[], ◌∷◌, refl, subst, sym}
use Rattle.pc_types_convert.specs.Adds.{AddsSignatures}
use Rattle.pc_types_convert.proofs.AddsLemmas.{signatures_same}
use Rattle.pc_types_convert.proofs.extern_type.core_entity.Goals as goal

pub returns-in_ok-signature_at-in-Func-clause-signatures : goal.returns-in_ok-signature_at-in-Func-clause-signatures
returns-in_ok-signature_at-in-Func-clause-signatures c =
    subst (λ e. AddsSignatures c.args.table.now (e ∷ []) c.args.interned.now c.signature_at.new.interned)
    (sym c.in-Func.is)
    c.signature_at.ensures.signatures

pub returns-in_err-signature_at-in-Func-clause-signatures : goal.returns-in_err-signature_at-in-Func-clause-signatures
returns-in_err-signature_at-in-Func-clause-signatures c =
    subst (λ e. AddsSignatures c.args.table.now (e ∷ []) c.args.interned.now c.signature_at.new.interned)
    (sym c.in-Func.is)
    c.signature_at.ensures.signatures

pub returns-in_default-clause-signatures : goal.returns-in_default-clause-signatures
returns-in_default-clause-signatures c = signatures_same _ _ _ _ refl
