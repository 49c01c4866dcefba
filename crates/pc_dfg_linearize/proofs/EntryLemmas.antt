-- What options entries and trampolines name has its number.
use Rattle.std.proofs.Common.{◌≡◌, ℕ, Bool, true, false, List, [], ◌∷◌, ◌++◌, map, All, Option, None, Some, refl, sym}
use Rattle.std.proofs.Common.{ap, subst, ◌∙◌, true≢false}
use Rattle.std.specs.Prelude.{option_map}
use Rattle.std.specs.List.{flat_map}
use Rattle.std.specs.Option.{IsSome, IfSome}
use Rattle.std.proofs.lemmas.List.Elements.{All-head, All-tail, All-nil, All-cons}
use Rattle.pc_numbers.specs.declared.module_entity.ModuleInternedTypeIndex.{ModuleInternedTypeIndex}
use Rattle.pc_numbers.specs.declared.runtime.LoweredIndex.{LoweredIndex}
use Rattle.pc_numbers.specs.declared.runtime.OptionsIndex.{OptionsIndex}
use Rattle.pc_numbers.specs.declared.runtime.RuntimeImportIndex.{RuntimeImportIndex}
use Rattle.pc_numbers.specs.declared.runtime.TrampolineIndex.{TrampolineIndex}
use Rattle.pc_dfg.specs.declared.ids.CallbackId.{CallbackId}
use Rattle.pc_dfg.specs.declared.ids.MemoryId.{MemoryId}
use Rattle.pc_dfg.specs.declared.ids.OptionsId.{OptionsId}
use Rattle.pc_dfg.specs.declared.ids.PostReturnId.{PostReturnId}
use Rattle.pc_dfg.specs.declared.ids.ReallocId.{ReallocId}
use Rattle.pc_types.specs.declared.trampoline.TrampolineKind.{TrampolineKind}
use Rattle.pc_types.specs.declared.type_index.TypeFuncIndex.{TypeFuncIndex}
use Rattle.pc_types.specs.declared.trampoline.TrampolineKind.TheVariants as kind
use Rattle.pc_spec_plan.specs.PlanView as plan
use Rattle.pc_trampoline.specs.declared.part.Head.{Head}
use Rattle.pc_trampoline.specs.declared.part.Head.TheVariants as head
use Rattle.pc_trampoline.specs.declared.part.Part.TheVariants as part
use Rattle.pc_trampoline.specs.declared.part.PartList.{PartList}
use Rattle.pc_trampoline.specs.declared.part.PartList.TheVariants as list
use Rattle.pc_trampoline.specs.Parts.{list_of, made_of, parts_of}
use Rattle.pc_trampoline.specs.Shape.{HeadShape, PartShape, Shape, IsShaped, shape, shape_of, head_shape, part_shape}
use Rattle.pc_trampoline.specs.Shape.{lowering}
use Rattle.pc_trampoline.specs.View.{entry_of, part_by}
use Rattle.pc_dfg.specs.declared.options.CanonicalOptionsDataModel.{CanonicalOptionsDataModel as Model}
use Rattle.pc_dfg.specs.declared.options.CanonicalOptionsDataModel.TheVariants as model
use Rattle.pc_info.specs.Modules.{has_some}
use Rattle.pc_dfg.specs.declared.options.CanonicalOptions.{CanonicalOptions}
use Rattle.pc_dfg.specs.Numbers.{graph_numbers, model_entry, options_entry, SignedTrampoline, trampoline_entry}
use Rattle.pc_dfg_linearize.specs.declared.id.Id.TheVariants as id
use Rattle.pc_dfg_linearize.specs.declared.state.Finish.{Finish}
use Rattle.pc_dfg_linearize.specs.Entries.{GraphPart, GraphParts, PlanPart, in_head, head_in, part_in, list_in}
use Rattle.pc_dfg_linearize.specs.Numbers.{number_at}
use Rattle.pc_dfg_linearize.specs.Parts.{HasNumber, in_entry, in_model, in_part, in_trampoline, maybe_slot, number_of}
use Rattle.pc_dfg_linearize.specs.Parts.{options_id, slot_id, slot_numbers}
use Rattle.pc_dfg_linearize.proofs.NumberLemmas.{is_there}

-- a fact of all items of two lists is one of those of each
pub all_front : {A : Type 0} (P : A → Type 0) (xs ys : List A) → All P (xs ++ ys) → All P xs
all_front P [] ys all = All-nil P
all_front P (x ∷ xs) ys all =
    All-cons P x xs (All-head P x (xs ++ ys) all) (all_front P xs ys (All-tail P x (xs ++ ys) all))

pub all_back : {A : Type 0} (P : A → Type 0) (xs ys : List A) → All P (xs ++ ys) → All P ys
all_back P [] ys all = all
all_back P (x ∷ xs) ys all = all_back P xs ys (All-tail P x (xs ++ ys) all)

module _ (f : Finish) where
  -- the number of a slot by its kind
  pub slot_number : (k : plan.SlotKind) (n : ℕ) → number_of f (slot_id k n) ≡ number_at (slot_numbers f k) n
  unfolding number_of
  slot_number plan.memory n = refl
  slot_number plan.table n = refl
  slot_number plan.realloc n = refl
  slot_number plan.callback n = refl
  slot_number plan.post_return n = refl

  -- a slot is numbered
  pub slot_numbered : (k : plan.SlotKind) (n : ℕ) → All (HasNumber f) (slot_id k n ∷ [])
      → (i : ℕ) × (number_at (slot_numbers f k) n ≡ Some i)
  slot_numbered k n all =
      let here = All-head (HasNumber f) (slot_id k n) [] all in
      (here.0, sym (slot_number k n) ∙ here.1)

  pub slot_there : (k : plan.SlotKind) (n : ℕ) → All (HasNumber f) (slot_id k n ∷ [])
      → IsSome (number_at (slot_numbers f k) n)
  slot_there k n all =
      let here = slot_numbered k n all in
      is_there (number_at (slot_numbers f k) n) here.0 here.1

  -- and one that may be left out
  pub maybe_there : {K : Type 0} (number : K → ℕ) (k : plan.SlotKind) (o : Option K)
      → All (HasNumber f) (maybe_slot k (option_map number o))
      → IfSome o (λ x. IsSome (number_at (slot_numbers f k) (number x)))
  maybe_there number k None all = tt
  maybe_there number k (Some x) all = slot_there k (number x) all

  -- what is in a part, or in parts
  pub part_is : (p q : GraphPart) → p ≡ q → All (HasNumber f) (in_part (part_by graph_numbers p))
      → All (HasNumber f) (in_part (part_by graph_numbers q))
  part_is p q is all = subst (λ (r : GraphPart). All (HasNumber f) (in_part (part_by graph_numbers r))) is all

  pub first_part : (ps : PartList GraphPart) (x y : GraphPart) → ps ≡ list.Two x y
      → All (HasNumber f) (flat_map in_part (map (part_by graph_numbers) (list_of ps)))
      → All (HasNumber f) (in_part (part_by graph_numbers x))
  first_part ps x y is all =
      all_front (HasNumber f) (in_part (part_by graph_numbers x)) (in_part (part_by graph_numbers y) ++ [])
      (subst (λ (l : PartList GraphPart).
      All (HasNumber f) (flat_map in_part (map (part_by graph_numbers) (list_of l)))) is all)

  pub second_part : (ps : PartList GraphPart) (x y : GraphPart) → ps ≡ list.Two x y
      → All (HasNumber f) (flat_map in_part (map (part_by graph_numbers) (list_of ps)))
      → All (HasNumber f) (in_part (part_by graph_numbers y))
  second_part ps x y is all =
      all_front (HasNumber f) (in_part (part_by graph_numbers y)) []
      (all_back (HasNumber f) (in_part (part_by graph_numbers x)) (in_part (part_by graph_numbers y) ++ [])
      (subst (λ (l : PartList GraphPart).
      All (HasNumber f) (flat_map in_part (map (part_by graph_numbers) (list_of l)))) is all))

  -- what is in a data model
  pub model_is : (m : Model) (memory : Option MemoryId) (realloc : Option ReallocId)
      → m ≡ model.LinearMemory memory realloc
      → All (HasNumber f) (in_model (model_entry m))
      → IfSome memory (λ x. IsSome (number_at f.numbers.memories x.0))
      × IfSome realloc (λ x. IsSome (number_at f.numbers.reallocs x.0))
  model_is m memory realloc is all =
      let of_memory = maybe_slot plan.memory (option_map (λ (x : MemoryId). x.0) memory) in
      let of_realloc = maybe_slot plan.realloc (option_map (λ (x : ReallocId). x.0) realloc) in
      let here = subst (λ (n : Model). All (HasNumber f) (in_model (model_entry n))) is all in (
        maybe_there (λ (x : MemoryId). x.0) plan.memory memory (all_front (HasNumber f) of_memory of_realloc here),
        maybe_there (λ (x : ReallocId). x.0) plan.realloc realloc (all_back (HasNumber f) of_memory of_realloc here),
      )

  -- options are numbered
  pub options_numbered : (o : ℕ) → HasNumber f (options_id o) → (i : ℕ) × (number_at f.numbers.options o ≡ Some i)
  unfolding number_of
  options_numbered o here = here

  pub options_there : (o : ℕ) → HasNumber f (options_id o) → IsSome (number_at f.numbers.options o)
  options_there o here =
      let n = options_numbered o here in
      is_there (number_at f.numbers.options o) n.0 n.1

  -- the step of a lowering is numbered
  pub lowering_numbered : (t : TrampolineIndex) → HasNumber f (id.Lowering t)
      → (i : ℕ) × (number_at f.numbers.lowerings t.0 ≡ Some i)
  unfolding number_of
  lowering_numbered t here = here

  pub lowering_there : (t : TrampolineIndex) → HasNumber f (id.Lowering t) → IsSome (number_at f.numbers.lowerings t.0)
  lowering_there t here =
      let n = lowering_numbered t here in
      is_there (number_at f.numbers.lowerings t.0) n.0 n.1

  -- exchanged numbers leave the shape of a trampoline
  part_shaped : (p : GraphPart) → part_shape (part_in f p) ≡ part_shape p
  part_shaped (part.Type_ ty) = refl
  part_shaped (part.Number n) = refl
  part_shaped (part.Flag b) = refl
  part_shaped (part.Memory m) = refl
  part_shaped (part.MaybeMemory m) = refl
  part_shaped (part.Table t) = refl
  part_shaped (part.Callback c) = refl
  part_shaped (part.PostReturn p) = refl
  part_shaped (part.Options o) = refl

  list_shaped : (ps : PartList GraphPart)
      → map part_shape (list_of (list_in f ps)) ≡ map part_shape (list_of ps)
  list_shaped list.Empty = refl
  list_shaped (list.One x) = ap (λ s. s ∷ []) (part_shaped x)
  list_shaped (list.Two x y) =
      let first = part_shaped x in
      let second = part_shaped y in
      λ i. first i ∷ second i ∷ []

  pub stays_shaped : (t : TrampolineIndex) (p : GraphParts) (h : Head LoweredIndex OptionsIndex)
      (ps : PartList PlanPart)
      → h ≡ head_in f t p.head → ps ≡ list_in f p.parts → IsShaped p
      → IsShaped (made_of p.kind h ps)
  stays_shaped t p h ps front all shaped =
      let parts = ap (λ (l : PartList PlanPart). map part_shape (list_of l)) all ∙ list_shaped p.parts in
      let before = ap head_shape front ∙ head_shaped p.head in
      (λ i. shape (before i) (parts i)) ∙ shaped
    where
      head_shaped : (h : Head RuntimeImportIndex OptionsId) → head_shape (head_in f t h) ≡ head_shape h
      head_shaped (head.Lowering r ty o) = refl
      head_shaped (head.Builtin c) = refl
      head_shaped head.Helper = refl
      head_shaped (head.Transcoding op from64 to64) = refl
      head_shaped (head.Trapping code) = refl

-- whether a head is that of a lowering
abbrev is_lowering : HeadShape → Bool
is_lowering lowering = true
is_lowering h = false

-- a lowering has no parts
lowering_alone : (k : TrampolineKind) (ps : List PartShape) → shape lowering ps ≡ shape_of k → ps ≡ []
unfolding shape_of
lowering_alone kind.LowerImport ps h = ap (λ (s : Shape). s.parts) h
lowering_alone k ps h = absurd (true≢false (ap (λ (s : Shape). is_lowering s.head) h))

no_parts : (ps : PartList GraphPart) → map part_shape (list_of ps) ≡ [] → list_of ps ≡ []
no_parts list.Empty h = refl
no_parts (list.One x) h = absurd (true≢false (ap has_some h))
no_parts (list.Two x y) h = absurd (true≢false (ap has_some h))

module _ (f : Finish) (t : TrampolineIndex) (s : ModuleInternedTypeIndex) (p : GraphParts) (shaped : IsShaped p)
    (all : All (HasNumber f) (in_trampoline t (entry_of graph_numbers s p.kind p.head (list_of p.parts)))) where
  -- what the head of a trampoline names has its number
  pub head_there : All (HasNumber f) (in_head t p.head)
  head_there = by p.head refl all
    where
      by : (h : Head RuntimeImportIndex OptionsId) → p.head ≡ h
          → All (HasNumber f) (in_trampoline t (entry_of graph_numbers s p.kind h (list_of p.parts)))
          → All (HasNumber f) (in_head t h)
      by (head.Lowering r ty o) is all = all
      by h is all = All-nil (HasNumber f)

  -- and what its parts name
  pub list_there : All (HasNumber f) (flat_map in_part (map (part_by graph_numbers) (list_of p.parts)))
  list_there = by p.head refl all
    where
      by : (h : Head RuntimeImportIndex OptionsId) → p.head ≡ h
          → All (HasNumber f) (in_trampoline t (entry_of graph_numbers s p.kind h (list_of p.parts)))
          → All (HasNumber f) (flat_map in_part (map (part_by graph_numbers) (list_of p.parts)))
      by (head.Lowering r ty o) is all =
          let alone = lowering_alone p.kind (map part_shape (list_of p.parts))
          (ap (λ (h : Head RuntimeImportIndex OptionsId). shape (head_shape h) (map part_shape (list_of p.parts)))
          (sym is) ∙ shaped) in
          rw (no_parts p.parts alone) (All-nil (HasNumber f))
      by h is all = all

-- what the head of a lowering names
pub head_lowering : (f : Finish) (t : TrampolineIndex) (h : Head RuntimeImportIndex OptionsId) (r : RuntimeImportIndex)
    (ty : TypeFuncIndex) (o : OptionsId) → h ≡ head.Lowering r ty o → All (HasNumber f) (in_head t h)
    → IsSome (number_at f.numbers.lowerings t.0) × IsSome (number_at f.numbers.options o.0)
head_lowering f t h r ty o is all =
    let here = subst (λ (g : Head RuntimeImportIndex OptionsId). All (HasNumber f) (in_head t g)) is all in
    let rest = All-tail (HasNumber f) (id.Lowering t) (options_id o.0 ∷ []) here in (
      lowering_there f t (All-head (HasNumber f) (id.Lowering t) (options_id o.0 ∷ []) here),
      options_there f o.0 (All-head (HasNumber f) (options_id o.0) [] rest),
    )

-- what options name
pub entry_is : (f : Finish) (o : CanonicalOptions) → All (HasNumber f) (in_entry (options_entry o))
    → All (HasNumber f) (in_model (model_entry o.data_model))
    × IfSome o.callback (λ x. IsSome (number_at f.numbers.callbacks x.0))
    × IfSome o.post_return (λ x. IsSome (number_at f.numbers.post_returns x.0))
entry_is f o all =
    let of_model = in_model (model_entry o.data_model) in
    let of_callback = maybe_slot plan.callback (option_map (λ (x : CallbackId). x.0) o.callback) in
    let of_post_return = maybe_slot plan.post_return (option_map (λ (x : PostReturnId). x.0) o.post_return) in
    let front = all_front (HasNumber f) (of_model ++ of_callback) of_post_return all in (
      all_front (HasNumber f) of_model of_callback front,
      maybe_there f (λ (x : CallbackId). x.0) plan.callback o.callback
          (all_back (HasNumber f) of_model of_callback front),
      maybe_there f (λ (x : PostReturnId). x.0) plan.post_return o.post_return
          (all_back (HasNumber f) (of_model ++ of_callback) of_post_return all),
    )

-- what a trampoline names, once it is taken apart
pub parts_there : (f : Finish) (t : TrampolineIndex) (x : SignedTrampoline) (p : GraphParts) → p ≡ parts_of x.1
    → All (HasNumber f) (in_trampoline t (trampoline_entry x))
    → All (HasNumber f) (in_trampoline t (entry_of graph_numbers x.0 p.kind p.head (list_of p.parts)))
parts_there f t x p is all =
    subst (λ (q : GraphParts).
    All (HasNumber f) (in_trampoline t (entry_of graph_numbers x.0 q.kind q.head (list_of q.parts)))) (sym is) all
