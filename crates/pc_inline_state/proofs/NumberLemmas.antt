-- The numbers of a table's entries and signatures stay theirs.
use Rattle.std.proofs.Common.{◌≡◌, ℕ, zero, suc, List, [], ◌∷◌, Option, None, Some, refl, sym, ap}
use Rattle.std.proofs.Common.{subst, inl, inr}
use Rattle.std.specs.Prelude.{◌⊎◌, slice_get, slice_set, replicate}
use Rattle.std.proofs.lemmas.Option.{none-some, same_Some}
use Rattle.pc_numbers.specs.declared.module_entity.ModuleInternedTypeIndex.{ModuleInternedTypeIndex}
use Rattle.pc_types.specs.declared.parsed.TypeTable.{TypeTable}
use Rattle.pc_types_lists.specs.Types.{Types, Grows}
use Rattle.pc_types_builder.specs.Plain.{Layers}
use Rattle.pc_types_builder.proofs.TreeLemmas.{converted_grows}
use Rattle.pc_inline_state.specs.declared.state.State.{State}
use Rattle.pc_inline_state.specs.Prepares.{Converts}
use Rattle.pc_inline_state.specs.Typed.{AreSignatures, IsSignature}

-- an item is the one that was written at its place, or an old one
written_or_old : {A : Type 0} (xs : List A) (k n : ℕ) (y z : A) → slice_get (slice_set xs k y) n ≡ Some z
    → ((n ≡ k) × (y ≡ z)) ⊎ (slice_get xs n ≡ Some z)
written_or_old [] k n y z h = inr h
written_or_old (x ∷ xs) zero zero y z h = inl (refl, same_Some y z h)
written_or_old (x ∷ xs) zero (suc n) y z h = inr h
written_or_old (x ∷ xs) (suc k) zero y z h = inr h
written_or_old (x ∷ xs) (suc k) (suc n) y z h =
    elim (written_or_old xs k n y z h) as (λ _. ((suc n ≡ suc k) × (y ≡ z)) ⊎ (slice_get (x ∷ xs) (suc n) ≡ Some z)) [
      | inl here ↦ inl (ap suc here.0, here.1)
      | inr old ↦ inr old
    ]

-- a number of a signature stays its own as the builder grows
signature_grows : (old new : Types) → Grows old new → (t : TypeTable) (n : ℕ) (i : ModuleInternedTypeIndex)
    → IsSignature old t n i → IsSignature new t n i
signature_grows old new g t n i h = (h.0, h.1, g.signatures i.0 h.0 h.2)

-- and so do all numbers
pub signatures_grow : (old new : Types) → Grows old new
    → (t : TypeTable) (ns : List (Option ModuleInternedTypeIndex)) → AreSignatures old t ns → AreSignatures new t ns
signatures_grow old new g t ns are n i found = signature_grows old new g t n i (are n i found)

-- one more signature has its number
pub signatures_noted : (types : Types) (t : TypeTable) (ns : List (Option ModuleInternedTypeIndex)) (core : ℕ)
    (i : ModuleInternedTypeIndex)
    → IsSignature types t core i → AreSignatures types t ns → AreSignatures types t (slice_set ns core (Some i))
signatures_noted types t ns core i is are n j found =
    elim (written_or_old ns core n (Some i) (Some j) found) as (λ _. IsSignature types t n j) [
      | inl here ↦ subst (λ m. IsSignature types t m j) (sym here.0)
          (subst (IsSignature types t core) (same_Some i j here.1) is)
      | inr old ↦ are n j old
    ]

-- types were added while no number was noted
pub types_convert : (t : TypeTable) (st : State) (types : Types) → Grows st.types types → (done : Layers)
    → Converts t st done (record st { types = types }) done
types_convert t st types grows done = record {
  grows = grows;
  converted = converted_grows st.types types grows t done;
  numbers = λ n. record {
    signatures = signatures_grow st.types types grows t st.numbers.signatures.items n.signatures;
  };
  rest = refl;
}

-- where nothing has a number yet, all of them are right
none_of_none : {A : Type 0} (k n : ℕ) (x : A) → slice_get (replicate k None) n ≡ Some (Some x) → ⊥
none_of_none zero n x h = none-some (Some x) h
none_of_none (suc k) zero x h = none-some x (same_Some None (Some x) h)
none_of_none (suc k) (suc n) x h = none_of_none k n x h

pub no_signatures : (types : Types) (t : TypeTable) (k : ℕ) (ns : List (Option ModuleInternedTypeIndex))
    → ns ≡ replicate k None → AreSignatures types t ns
no_signatures types t k ns is n i found = absurd (none_of_none k n i
    (subst (λ l. slice_get l n ≡ Some (Some i)) is found))
