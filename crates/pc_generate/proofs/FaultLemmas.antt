-- Nothing is wrong with the payloads of a chain.
use Rattle.std.proofs.Common.{◌≡◌, ◌+◌, ℕ, zero, suc, Bool, false, List, [], ◌∷◌, None, refl, ap, length, ◌-◌}
use Rattle.std.proofs.Common.{◌∙◌}
use Rattle.pc_parsed.specs.declared.payload.Payload.{Payload}
use Rattle.pc_parsed.specs.declared.payload.Payload.TheVariants as payload
use Rattle.pc_parsed.specs.ItemFaults.{fault_or}
use Rattle.pc_parsed.specs.StaticFault.{around, content_fault, end_error, error_or, payloads_error, static_fault}
use Rattle.pc_parsed.specs.Structure.{is_due, open_bodies, structure_fault, version_fault, version_of}
use Rattle.pc_generate.specs.Bodies.{aliasing, instance_with}
use Rattle.pc_generate.specs.Generated.{payloads}
use Rattle.pc_generate.specs.Table.{table}
use Rattle.pc_generate.proofs.CountLemmas.{rest}

-- a payload that is no version may stand in a body behind its version
stands : (n : ℕ) (due : Bool) (p : Payload) → n ≡ 1 → due ≡ false → version_of p ≡ None
    → structure_fault n due p ≡ None
stands n due p one not_due none =
    ap (λ m. structure_fault m due p) one ∙ ap (λ d. structure_fault 1 d p) not_due ∙ ap (version_fault false) none

-- a payload without a fault, before others without one
goes_on : (before : List Payload) (p : Payload) (ps : List Payload) → open_bodies before ≡ 1 → is_due before ≡ false
    → version_of p ≡ None → content_fault table None (around before) p ≡ None
    → payloads_error table None (p ∷ before) ps ≡ None → payloads_error table None before (p ∷ ps) ≡ None
goes_on before p ps one not_due none right later =
    ap (λ s. error_or (length before) (fault_or 0 s (content_fault table None (around before) p))
    (payloads_error table None (p ∷ before) ps)) (stands (open_bodies before) (is_due before) p one not_due none)
    ∙ ap (λ s. error_or (length before) (fault_or 0 None s) (payloads_error table None (p ∷ before) ps)) right
    ∙ later

-- the links and the end
rest_right : (before : List Payload) (k left : ℕ) → open_bodies before ≡ 1 → is_due before ≡ false
    → payloads_error table None before (rest k left) ≡ None
rest_right before k zero one not_due =
    goes_on before payload.End [] one not_due refl refl (ap (λ n. end_error (n - 1) (suc (length before))) one)
rest_right before k (suc left) one not_due =
    goes_on before (aliasing k) (instance_with k ∷ rest (k + 1) left) one not_due refl refl (
    goes_on (aliasing k ∷ before) (instance_with k) (rest (k + 1) left) one refl refl refl (
    rest_right (instance_with k ∷ aliasing k ∷ before) (k + 1) left one refl))

-- a chain has no static fault
pub no_fault : (n : ℕ) → static_fault table None (payloads n) ≡ None
unfolding table payloads static_fault
no_fault n = rest_right _ 0 n refl refl
