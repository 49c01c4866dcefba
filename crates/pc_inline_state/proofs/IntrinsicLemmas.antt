-- The core signatures that a graph has for unsafe intrinsics: none at first, those that are there as types grow, and
-- one more where an intrinsic is added that had none.
use Rattle.std.proofs.Common.{◌≡◌, ◌<◌, ◌++◌, ◌∷◌, [], ℕ, zero, suc, Bool, true, false, List, length, refl}
use Rattle.std.proofs.Common.{Option, None, Some, inl, inr, sym, subst, ap, ◌∙◌, arith, true≢false}
use Rattle.std.specs.Prelude.{Contains, replicate, slice_get, slice_set, if◌then◌else◌}
use Rattle.std.specs.List.{list_any}
use Rattle.std.proofs.lemmas.Bool.{cases_eq, eq-eqb, eqb-true}
use Rattle.std.proofs.lemmas.List.Elements.{Contains-append_cases, Contains-append_left, Contains-append_right}
use Rattle.std.proofs.lemmas.List.Folds.{list_any_at}
use Rattle.std.proofs.lemmas.Option.{none-some, same_Some}
use Rattle.pc_entity.specs.Lists.{Kept}
use Rattle.pc_entity.specs.declared.packed_option.PackedOption.{PackedOption}
use Rattle.pc_entity.specs.declared.packed_option.PackedOption.TheVariants as packed
use Rattle.pc_entity.proofs.Growing.{kept_refl, slice_get-set_other, slice_get-set_same}
use Rattle.pc_numbers.specs.declared.module_entity.ModuleInternedTypeIndex.{ModuleInternedTypeIndex}
use Rattle.pc_types.specs.declared.parsed.CoreFuncSig.{CoreFuncSig}
use Rattle.pc_types_lists.specs.Types.{Types}
use Rattle.pc_dfg.specs.declared.dfg.ComponentDfg.{ComponentDfg}
use Rattle.pc_dfg.specs.Empty.{empty_graph}
use Rattle.pc_dfg.specs.Grows.{HasIntrinsic}
use Rattle.pc_dfg.specs.Pushed.{first_signature, with_intrinsic}
use Rattle.pc_spec_reading.specs.Once.{with_once}
use Rattle.pc_spec_reading.specs.World.{AddedIntrinsic, same_intrinsic}
use Rattle.pc_inline_state.specs.Worlds.{IntrinsicsStand, IsIntrinsic}

-- a packed option, as a list of them has it
abbrev Slot : Type 0
Slot = PackedOption ModuleInternedTypeIndex

-- in a list of places that hold nothing none holds a signature
none_signed : (k place : ℕ) (nothing : Slot) (s : ModuleInternedTypeIndex) → nothing ≡ packed.None
    → slice_get (replicate k nothing) place ≡ Some (packed.Some s) → ⊥
none_signed zero place nothing s none at = none-some (packed.Some s) at
none_signed (suc k) zero nothing s none at =
    let same : packed.None ≡ packed.Some s = sym none ∙ same_Some nothing (packed.Some s) at in
    cc
none_signed (suc k) (suc place) nothing s none at = none_signed k place nothing s none at

-- an empty graph has no intrinsic, and none was added
pub no_intrinsics : (types : Types) → IntrinsicsStand types empty_graph []
no_intrinsics types = record {
  each = λ i has. absurd (omega (arith, has.1));
  only = λ place s at. absurd (none_signed 21 place packed.None s refl at);
}

-- what a list holds again at a place where it held it stays
set_again : {A : Type 0} (xs : List A) (i : ℕ) (x : A) → slice_get xs i ≡ Some x → slice_set xs i x ≡ xs
set_again [] i x at = refl
set_again (y ∷ xs) zero x at = ap (λ z. z ∷ xs) (sym (same_Some _ _ at))
set_again (y ∷ xs) (suc i) x at = ap (λ zs. y ∷ zs) (set_again xs i x at)

-- where a test finds something, that is an element which passes it
any_found : {A : Type 0} (p : A → Bool) (xs : List A) → list_any p xs ≡ true
    → (x : A) × Contains xs x × (p x ≡ true)
any_found p [] h = absurd (true≢false (sym h))
any_found {A} p (x ∷ xs) h = by (p x) refl h (any_found p xs)
  where
    by : (b : Bool) → p x ≡ b → list_any p (x ∷ xs) ≡ true
        → (list_any p xs ≡ true → (y : A) × Contains xs y × (p y ≡ true))
        → (y : A) × Contains (x ∷ xs) y × (p y ≡ true)
    by true is any later = (x, (0, omega arith, refl), is)
    by false is any later =
        let found = later (sym (rw (is) refl) ∙ any) in
        (found.0, Contains-append_right (x ∷ []) xs found.0 found.1, found.2)

-- where it finds nothing, no element passes it
any_none : {A : Type 0} (p : A → Bool) (xs : List A) → list_any p xs ≡ false → (x : A) → Contains xs x → p x ≡ true → ⊥
any_none p xs none x has is =
    true≢false (sym (list_any_at p xs has.0 x has.1 (ap p has.2 ∙ is)) ∙ none)

module _ (types : Types) (g : ComponentDfg) (added : List AddedIntrinsic) (stands : IntrinsicsStand types g added) where
  -- they stand as types grow, in a graph that has the same signatures
  pub intrinsics_kept : (more : Types) (h : ComponentDfg) → Kept types.signatures more.signatures
      → h.unsafe_intrinsics ≡ g.unsafe_intrinsics → IntrinsicsStand more h added
  intrinsics_kept more h kept same = record {
    each = λ i has. let x = stands.each i has in (x.0, still i x.0 x.1);
    only = λ place s at.
        let x = stands.only place s (subst (λ us. slice_get us place ≡ Some (packed.Some s)) same at) in
        (x.0, x.1, x.2, still x.0 s x.3);
  }
    where
      still : (i : AddedIntrinsic) (s : ModuleInternedTypeIndex) → IsIntrinsic types g i s → IsIntrinsic more h i s
      still i s is = record {
        signed = subst (λ us. slice_get us i.place ≡ Some (packed.Some s)) (sym same) is.signed;
        holds = kept s.0 i.signature is.holds;
      }

  module _ (place : ℕ) (n : ModuleInternedTypeIndex) (s : CoreFuncSig)
      (holds : slice_get types.signatures n.0 ≡ Some s) (within : place < length g.unsafe_intrinsics) where
    -- the intrinsic that is added
    abbrev the_added : AddedIntrinsic
    the_added = record { place = place; signature = s }

    -- the graph in which it is
    abbrev after : ComponentDfg
    after = with_intrinsic g place n

    -- one that was added before keeps its first signature
    again : list_any (same_intrinsic the_added) added ≡ true → IntrinsicsStand types after added
    again any =
        let before = any_found (same_intrinsic the_added) added any in
        let one = stands.each before.0 before.1 in
        let here : slice_get g.unsafe_intrinsics place ≡ Some (packed.Some one.0) =
        subst (λ (k : ℕ). HasIntrinsic g k one.0) (sym (eqb-true place before.0.place before.2)) one.1.signed in
        intrinsics_kept types after (kept_refl types.signatures)
        (ap (λ (o : Option Slot). slice_set g.unsafe_intrinsics place (packed.Some (first_signature o n))) here
        ∙ set_again g.unsafe_intrinsics place (packed.Some one.0) here)

    module _ (none : list_any (same_intrinsic the_added) added ≡ false) where
      -- one that was added before stands elsewhere
      apart : (i : AddedIntrinsic) → Contains added i → i.place ≡ place → ⊥
      apart i has same = any_none (same_intrinsic the_added) added none i has (eq-eqb place i.place (sym same))

      -- it has no signature yet
      unsigned : (o : Option Slot) → slice_get g.unsafe_intrinsics place ≡ o → first_signature o n ≡ n
      unsigned None at = refl
      unsigned (Some packed.None) at = refl
      unsigned (Some (packed.Some t)) at =
          let x = stands.only place t at in
          absurd (apart x.0 x.1 x.2)

      -- and gets this one
      signed_here : slice_get after.unsafe_intrinsics place ≡ Some (packed.Some n)
      signed_here =
          slice_get-set_same g.unsafe_intrinsics place
          (packed.Some (first_signature (slice_get g.unsafe_intrinsics place) n)) within
          ∙ ap (λ (t : ModuleInternedTypeIndex). Some (packed.Some t))
          (unsigned (slice_get g.unsafe_intrinsics place) refl)

      -- the others have theirs
      signed_there : (k : ℕ) → (k ≡ place → ⊥)
          → slice_get after.unsafe_intrinsics k ≡ slice_get g.unsafe_intrinsics k
      signed_there k other =
          slice_get-set_other g.unsafe_intrinsics place k
          (packed.Some (first_signature (slice_get g.unsafe_intrinsics place) n)) other

      -- the first time it is added
      at_first : IntrinsicsStand types after (added ++ the_added ∷ [])
      at_first = record { each = each; only = only }
        where
          new_one : IsIntrinsic types after the_added n
          new_one = record { signed = signed_here; holds = holds }

          old_one : (i : AddedIntrinsic) (t : ModuleInternedTypeIndex) → (i.place ≡ place → ⊥) → IsIntrinsic types g i t
              → IsIntrinsic types after i t
          old_one i t other is = record { signed = signed_there i.place other ∙ is.signed; holds = is.holds }

          each : (i : AddedIntrinsic) → Contains (added ++ the_added ∷ []) i
              → (t : ModuleInternedTypeIndex) × IsIntrinsic types after i t
          each i has =
              elim (Contains-append_cases added (the_added ∷ []) i has)
              as (λ _. (t : ModuleInternedTypeIndex) × IsIntrinsic types after i t) [
                | inl old ↦ (let x = stands.each i old in (x.0, old_one i x.0 (apart i old) x.1))
                | inr new ↦ (n, subst (λ j. IsIntrinsic types after j n) (alone new) new_one)
              ]
            where
              alone : Contains (the_added ∷ []) i → the_added ≡ i
              alone (zero, below, is) = is
              alone (suc k, below, is) = absurd (omega (arith, below))

          only : (k : ℕ) (t : ModuleInternedTypeIndex) → HasIntrinsic after k t
              → (i : AddedIntrinsic) × Contains (added ++ the_added ∷ []) i × (i.place ≡ k) × IsIntrinsic types after i t
          only k t at =
              elim (cases_eq k place) as (λ _. (i : AddedIntrinsic) × Contains (added ++ the_added ∷ []) i × (i.place ≡ k)
              × IsIntrinsic types after i t) [
                | inl same ↦ (
                  the_added,
                  Contains-append_right added (the_added ∷ []) the_added (0, omega arith, refl),
                  sym same,
                  record { signed = subst (λ j. HasIntrinsic after j t) same at; holds = as_held same },
                )
                | inr other ↦ (
                    let x = stands.only k t (sym (signed_there k other) ∙ at) in (
                      x.0,
                      Contains-append_left added (the_added ∷ []) x.0 x.1,
                      x.2,
                      old_one x.0 t (λ is. other (sym x.2 ∙ is)) x.3,
                    ))
              ]
            where
              as_held : k ≡ place → slice_get types.signatures t.0 ≡ Some s
              as_held same =
                  let one : packed.Some n ≡ packed.Some t =
                  same_Some _ _ (sym signed_here ∙ subst (λ j. HasIntrinsic after j t) same at) in
                  let it : n ≡ t = cc in
                  subst (λ (m : ModuleInternedTypeIndex). slice_get types.signatures m.0 ≡ Some s) it holds

    -- they stand where an intrinsic is added under a signature that the builder holds
    pub intrinsics_added : IntrinsicsStand types after (with_once same_intrinsic added the_added)
    intrinsics_added = by (list_any (same_intrinsic the_added) added) refl
      where
        by : (b : Bool) → list_any (same_intrinsic the_added) added ≡ b
            → IntrinsicsStand types after (if b then added else added ++ the_added ∷ [])
        by true is = again is
        by false is = at_first is
