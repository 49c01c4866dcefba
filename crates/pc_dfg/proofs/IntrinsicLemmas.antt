-- What becomes of a graph when an unsafe intrinsic gets its core signature.
use Rattle.std.proofs.Common.{◌≡◌, ◌<◌, ℕ, Option, Some, get_or, length, refl, sym, subst, ap, ◌∙◌, inl, inr, arith}
use Rattle.std.specs.Prelude.{slice_get}
use Rattle.std.proofs.lemmas.Bool.{cases_eq}
use Rattle.std.proofs.lemmas.Option.{slice_get-get_or}
use Rattle.pc_entity.proofs.Growing.{slice_get-set_same, slice_get-set_other}
use Rattle.pc_entity.specs.declared.packed_option.PackedOption.{PackedOption}
use Rattle.pc_entity.specs.declared.packed_option.PackedOption.TheVariants as packed
use Rattle.pc_numbers.specs.declared.module_entity.ModuleInternedTypeIndex.{ModuleInternedTypeIndex}
use Rattle.pc_types.specs.declared.intrinsic.UnsafeIntrinsic.{UnsafeIntrinsic}
use Rattle.pc_types.specs.declared.intrinsic.UnsafeIntrinsic.TheVariants as intrinsic
use Rattle.pc_types.specs.IntrinsicType.{intrinsic_place}
use Rattle.pc_spec_plan.specs.PlanView as plan
use Rattle.pc_dfg.specs.declared.dfg.ComponentDfg.{ComponentDfg}
use Rattle.pc_dfg.specs.Grows.{Grows, HasIntrinsic}
use Rattle.pc_dfg.specs.Lists as list
use Rattle.pc_dfg.specs.Numbers.{slots_of}
use Rattle.pc_dfg.specs.Ordered.{IsOrdered}
use Rattle.pc_dfg.specs.Pushed.{first_signature, with_signature}
use Rattle.pc_dfg.proofs.AddLemmas.{AllAdd, EntryFact, NewHeld, Added, nothing}
use Rattle.pc_dfg.proofs.PushLemmas.{quiet}

-- an intrinsic is one of the list of them
place_below : (i : UnsafeIntrinsic) → intrinsic_place i < 21
place_below intrinsic.StoreDataAddress = omega arith
place_below i = omega arith

-- a signature that is held stands
held_first : (o : Option (PackedOption ModuleInternedTypeIndex)) (s t : ModuleInternedTypeIndex)
    → o ≡ Some (packed.Some t) → first_signature o s ≡ t
held_first o s t is = subst (λ (x : Option (PackedOption ModuleInternedTypeIndex)). first_signature x s ≡ t) (sym is) refl

signature_adds : (P : EntryFact) (g : ComponentDfg) (place : ℕ) (s : ModuleInternedTypeIndex)
    → AllAdd P g (with_signature g place s)
unfolding slots_of
signature_adds P g place s (list.slots plan.memory) = nothing
signature_adds P g place s l = nothing

-- The signature s is written at the place n of intrinsic i: the one that was read there, or else this one.
module _ (g : ComponentDfg) (i : UnsafeIntrinsic) (s : ModuleInternedTypeIndex) (n : ℕ) (at : n ≡ intrinsic_place i)
    (places : length g.unsafe_intrinsics ≡ 21) (signature : ModuleInternedTypeIndex)
    (default : PackedOption ModuleInternedTypeIndex)
    (read : s ≡ first_signature (Some (get_or g.unsafe_intrinsics n default)) signature) where
  place_within : n < length g.unsafe_intrinsics
  place_within = subst (λ (k : ℕ). k < length g.unsafe_intrinsics) (sym at)
      (subst (λ (k : ℕ). intrinsic_place i < k) (sym places) (place_below i))

  first : s ≡ first_signature (slice_get g.unsafe_intrinsics n) signature
  first = read
      ∙ ap (λ x. first_signature x signature) (sym (slice_get-get_or g.unsafe_intrinsics n default place_within))

  -- the intrinsic has the signature
  signature_held : HasIntrinsic (with_signature g n s) n s
  signature_held = slice_get-set_same g.unsafe_intrinsics n (packed.Some s) place_within

  -- each intrinsic that had a signature has it
  signature_stays : (place : ℕ) (t : ModuleInternedTypeIndex) → HasIntrinsic g place t
      → HasIntrinsic (with_signature g n s) place t
  signature_stays place t there =
      elim (cases_eq place n) as (λ _. HasIntrinsic (with_signature g n s) place t) [
        | inl same ↦ subst (λ k. HasIntrinsic (with_signature g n s) k t) (sym same)
            (signature_held
            ∙ ap (λ (x : ModuleInternedTypeIndex). Some (packed.Some x))
            (first ∙ held_first _ signature t (subst (λ k. HasIntrinsic g k t) same there)))
        | inr other ↦ slice_get-set_other g.unsafe_intrinsics n place (packed.Some s) other ∙ there
      ]

  -- the graph has only grown
  pub signature_grows : Grows g (with_signature g n s)
  signature_grows = record {
    lists = λ l. (signature_adds (λ l n x. Unit {0}) g n s l).extends;
    component_instances = omega arith;
    signatures = signature_stays;
  }

  -- and it keeps its order
  pub signature_ordered : IsOrdered g → IsOrdered (with_signature g n s)
  signature_ordered o =
      let h = with_signature g n s in
      let added : Added g h = record {
        lists = signature_adds (NewHeld g h) g n s;
        component_instances = omega arith;
        signatures = signature_stays;
      } in
      quiet g h added o refl refl refl
