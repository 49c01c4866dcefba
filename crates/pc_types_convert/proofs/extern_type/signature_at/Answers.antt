use Rattle.std.proofs.Common.{Some, ap, inl, refl, subst, sym, ◌∙◌}
use Rattle.std.proofs.lemmas.Option.{same_Some}
use Rattle.pc_types_lists.specs.Interned.{IsPut}
use Rattle.pc_types_convert.proofs.AddsLemmas.{signatures_put, signatures_same}
use Rattle.pc_types_lists.proofs.Growth.{too_full}
use Rattle.pc_types_convert.proofs.PartLemmas.{if_ok_more}
use Rattle.pc_types_convert.proofs.ThereLemmas.{signature_is, signature_there}
use Rattle.pc_types_convert.proofs.extern_type.signature_at.Goals as goal

pub returns-clause-ok : goal.returns-clause-ok
returns-clause-ok c =
    if_ok_more _ _
    (λ i h. signature_is c.put_signature.new.self c.args.table.now c.args.n _ _ c.core_func_at.ensures
    c.in_ok-signature.ensures i.0 h)
    c.put_signature.result c.put_signature.ensures.held

pub returns-clause-full : goal.returns-clause-full
returns-clause-full c h =
    too_full _ _ _
    (λ next g is. signature_there next c.args.table.now c.args.n _ _ c.core_func_at.ensures c.in_ok-signature.ensures)
    (c.put_signature.ensures.full h)

pub returns-in_err-signature-clause-signatures : goal.returns-in_err-signature-clause-signatures
returns-in_err-signature-clause-signatures c = signatures_same _ _ _ _ refl

pub returns-clause-signatures : goal.returns-clause-signatures
returns-clause-signatures c =
    signatures_put c.args.table.now c.args.n _ _ _
    (c.core_func_at.ensures ∙ ap Some (sym c.in_ok-signature.ensures)) c.put_signature.ensures.rest
    c.put_signature.ensures.put

pub returns-in_err-signature-clause-put : goal.returns-in_err-signature-clause-put
returns-in_err-signature-clause-put c s at = inl refl

pub returns-clause-put : goal.returns-clause-put
returns-clause-put c s at =
    subst (IsPut _ _) (c.in_ok-signature.ensures ∙ same_Some _ s (sym c.core_func_at.ensures ∙ at))
    c.put_signature.ensures.put
