-- A types builder that holds what a graph names.
use Rattle.std.proofs.Common.{◌≡◌, inl, inr, ◌<◌, ℕ, List, length, Some}
use Rattle.std.proofs.Common.{subst}
use Rattle.std.specs.Prelude.{slice_get}
use Rattle.pc_types_lists.specs.Types.{Types}
use Rattle.pc_dfg.specs.declared.options.CanonicalOptions.{CanonicalOptions}
use Rattle.pc_dfg.specs.Pushed.{IsPut}
use Rattle.pc_inline_canon.proofs.CoreInstanceLemmas.{found_in_push}

-- options whose entry was put, or that were left as they were, name signatures that are held
pub options_put : (types : Types) (old new : List CanonicalOptions) (x : CanonicalOptions) → IsPut old new x
    → x.core_type.0 < length types.signatures
    → ((k : ℕ) (y : CanonicalOptions) → slice_get old k ≡ Some y → y.core_type.0 < length types.signatures)
    → (k : ℕ) (y : CanonicalOptions) → slice_get new k ≡ Some y → y.core_type.0 < length types.signatures
options_put types old new x put below held k y at = elim put.0 as (λ _. y.core_type.0 < length types.signatures) [
  | inl same ↦ held k y (subst (λ l. slice_get l k ≡ Some y) same at)
  | inr more ↦ elim (found_in_push old x k y (subst (λ l. slice_get l k ≡ Some y) more at))
      as (λ _. y.core_type.0 < length types.signatures) [
        | inl before ↦ held k y before
        | inr last ↦ subst (λ (z : CanonicalOptions). z.core_type.0 < length types.signatures) last below
      ]
]
