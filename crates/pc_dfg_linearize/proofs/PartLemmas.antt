-- What holds of each definition in a trampoline holds of each id that it depends on.
use Rattle.std.proofs.Common.{◌≡◌, ◌<◌, ℕ, List, [], ◌∷◌, ◌++◌, length, All, Option, None, Some, refl, subst}
use Rattle.std.specs.Prelude.{slice_get}
use Rattle.std.specs.List.{flat_map}
use Rattle.std.proofs.lemmas.List.Elements.{All-nil, All-cons, All-head, All-tail, All-append}
use Rattle.pc_entity.proofs.LookupLemmas.{found_at}
use Rattle.pc_numbers.specs.declared.runtime.TrampolineIndex.{TrampolineIndex}
use Rattle.pc_spec_plan.specs.PlanView as plan
use Rattle.pc_trampoline.specs.declared.part.Mark.{Mark}
use Rattle.pc_dfg.specs.declared.core_def.CoreDef.{CoreDef}
use Rattle.pc_dfg.specs.declared.dfg.ComponentDfg.{ComponentDfg}
use Rattle.pc_dfg.specs.declared.options.CanonicalOptions.{CanonicalOptions}
use Rattle.pc_dfg.specs.Held.{HeldSlot, HeldModel, HeldOptions, HeldPart, HeldTrampoline, AreHeld}
use Rattle.pc_dfg.specs.Names as names
use Rattle.pc_dfg.specs.Names.{if_any, each_of}
use Rattle.pc_dfg.specs.Numbers.{options_entry, slots_of}
use Rattle.pc_dfg_linearize.specs.declared.id.Id.{Id}
use Rattle.pc_dfg_linearize.specs.declared.id.Id.TheVariants as id
use Rattle.pc_dfg_linearize.specs.Parts.{slot_id, options_id, maybe_slot, in_model, in_entry, in_part, in_trampoline}
use Rattle.pc_dfg_linearize.specs.Ready.{IsLowering}

module _ {A : Type 0} (P : A → Type 0) where
  -- a fact of the one item of a list, both ways
  pub all_one : (x : A) → P x → All P (x ∷ [])
  all_one x p = All-cons P x [] p (All-nil P)

  pub all_only : (x : A) → All P (x ∷ []) → P x
  all_only x all = All-head P x [] all

  -- a fact of the items of two lists, of those of the first and of those of the second
  pub all_left : (xs ys : List A) → All P (xs ++ ys) → All P xs
  all_left [] ys all = All-nil P
  all_left (x ∷ xs) ys all =
      All-cons P x xs (All-head P x (xs ++ ys) all) (all_left xs ys (All-tail P x (xs ++ ys) all))

  pub all_right : (xs ys : List A) → All P (xs ++ ys) → All P ys
  all_right [] ys all = all
  all_right (x ∷ xs) ys all = all_right xs ys (All-tail P x (xs ++ ys) all)

  -- a fact of all that a function makes of what is there
  pub all_each : {B : Type 0} (f : B → List A) (o : Option B) → ((x : B) → o ≡ Some x → All P (f x))
      → All P (each_of f o)
  all_each f None each = All-nil P
  all_each f (Some x) each = each x refl

  -- a fact of all that a function makes of the items of a list
  pub all_made : {B : Type 0} (Q : B → Type 0) (f : B → List A) → ((x : B) → Q x → All P (f x)) → (xs : List B)
      → All Q xs → All P (flat_map f xs)
  all_made Q f each [] all = All-nil P
  all_made Q f each (x ∷ xs) all =
      All-append P (f x) (flat_map f xs) (each x (All-head Q x xs all))
      (all_made Q f each xs (All-tail Q x xs all))

module _ (g : ComponentDfg) (held : AreHeld g) (Q : CoreDef → Type 0) (P : Id → Type 0)
    (slot : (k : plan.SlotKind) (n : ℕ) (d : CoreDef) → slice_get (slots_of g k) n ≡ Some d → Q d → P (slot_id k n))
  where
    slot_part : (k : plan.SlotKind) (n : Option ℕ) → HeldSlot g k n → All Q (names.in_slot g k n)
        → All P (maybe_slot k n)
    unfolding HeldSlot
    slot_part k None here all = All-nil P
    slot_part k (Some n) here all =
        let found = found_at (slots_of g k) n here in
        let one = subst (λ o. All Q (if_any o)) found.1 all in
        all_one P (slot_id k n) (slot k n found.0 found.1 (All-head Q found.0 [] one))

    model_parts : (m : plan.ModelEntry) → HeldModel g m → All Q (names.in_model g m) → All P (in_model m)
    unfolding HeldModel
    model_parts plan.gc here all = All-nil P
    model_parts (plan.linear m r) here all =
        let xs = names.in_slot g plan.memory m in
        let ys = names.in_slot g plan.realloc r in
        All-append P (maybe_slot plan.memory m) (maybe_slot plan.realloc r)
        (slot_part plan.memory m here.0 (all_left Q xs ys all))
        (slot_part plan.realloc r here.1 (all_right Q xs ys all))

    -- the slots of options
    pub entry_parts : (e : plan.PlanOptions Mark) → HeldOptions g e → All Q (names.in_entry g e) → All P (in_entry e)
    entry_parts e here all =
        let xs = names.in_slot g plan.callback e.callback in
        let ys = names.in_slot g plan.post_return e.post_return in
        let zs = names.in_model g e.model in
        let both = all_left Q (xs ++ ys) zs all in
        let model = model_parts e.model here.model (all_right Q (xs ++ ys) zs all) in
        let callback = slot_part plan.callback e.callback here.callback (all_left Q xs ys both) in
        let post_return = slot_part plan.post_return e.post_return here.post_return (all_right Q xs ys both) in
        All-append P (in_model e.model ++ maybe_slot plan.callback e.callback)
        (maybe_slot plan.post_return e.post_return)
        (All-append P (in_model e.model) (maybe_slot plan.callback e.callback) model callback) post_return

    module _ (options : (o : ℕ) (x : CanonicalOptions) → slice_get g.options o ≡ Some x
        → All Q (names.in_entry g (options_entry x)) → P (options_id o)) where
      -- options
      pub options_part : (o : ℕ) → o < length g.options → All Q (names.in_options g o) → P (options_id o)
      options_part o here all =
          let found = found_at g.options o here in
          options o found.0 found.1
          (subst (λ x. All Q (each_of (λ y. names.in_entry g (options_entry y)) x)) found.1 all)

      part_parts : (p : plan.TrampolinePart Mark) → HeldPart g p × All Q (names.in_part g p) → All P (in_part p)
      unfolding HeldPart
      part_parts (plan.mark m) all = All-nil P
      part_parts (plan.number n) all = All-nil P
      part_parts (plan.flag b) all = All-nil P
      part_parts (plan.slot k n) all = slot_part k n all.0 all.1
      part_parts (plan.options o) all = all_one P (options_id o) (options_part o all.0 all.1)

      all_parts : (ps : List (plan.TrampolinePart Mark)) → All (HeldPart g) ps → All Q (flat_map (names.in_part g) ps)
          → All P (flat_map in_part ps)
      all_parts [] here all = All-nil P
      all_parts (p ∷ ps) here all =
          let xs = names.in_part g p in
          let ys = flat_map (names.in_part g) ps in
          All-append P (in_part p) (flat_map in_part ps)
          (part_parts p (All-head (HeldPart g) p ps here, all_left Q xs ys all))
          (all_parts ps (All-tail (HeldPart g) p ps here) (all_right Q xs ys all))

      -- the options and slots of a trampoline, and the step of a lowering
      pub trampoline_parts : (t : TrampolineIndex) (e : plan.TrampolineEntry Mark) → (IsLowering e → P (id.Lowering t))
          → HeldTrampoline g e → All Q (names.in_trampoline g e) → All P (in_trampoline t e)
      unfolding HeldTrampoline names.in_trampoline
      trampoline_parts t (plan.lowers r s ty o) lowering here all =
          All-cons P (id.Lowering t) (options_id o ∷ []) (lowering tt)
          (all_one P (options_id o) (options_part o here.1 all))
      trampoline_parts t (plan.builtin k symbol c ps) lowering here all = all_parts ps here.1 all
      trampoline_parts t (plan.helper k symbol ps) lowering here all = all_parts ps here all
