-- An id that is noted is the only one that gets a number.
use Rattle.std.proofs.Common.{◌≡◌, ◌<◌, ℕ, List, [], ◌∷◌, length, Option, Some, refl, sym, ap, ◌∙◌, ◌⊎◌, inl, inr}
use Rattle.std.specs.Prelude.{option_and_then, option_map, slice_get, slice_set}
use Rattle.std.proofs.lemmas.Bool.{cases_eq}
use Rattle.std.proofs.lemmas.Option.{same_Some}
use Rattle.pc_entity.proofs.Growing.{slice_get-set_same, slice_get-set_other}
use Rattle.pc_entity.specs.PackedOption.{as_option}
use Rattle.pc_entity.specs.declared.packed_option.PackedOption.{PackedOption}
use Rattle.pc_entity.specs.declared.packed_option.PackedOption.TheVariants as packed
use Rattle.pc_numbers.specs.declared.component_entity.StaticModuleIndex.{StaticModuleIndex}
use Rattle.pc_numbers.specs.declared.module_entity.ModuleInternedTypeIndex.{ModuleInternedTypeIndex}
use Rattle.pc_numbers.specs.declared.runtime.RuntimeImportIndex.{RuntimeImportIndex}
use Rattle.pc_types.specs.declared.intrinsic.UnsafeIntrinsic.{UnsafeIntrinsic}
use Rattle.pc_types.specs.declared.intrinsic.UnsafeIntrinsic.TheVariants as intrinsic
use Rattle.pc_types.specs.IntrinsicType.{intrinsic_place}
use Rattle.pc_spec_plan.specs.PlanView as plan
use Rattle.pc_trampoline.specs.View.{PlanTrampoline}
use Rattle.pc_info.specs.declared.core_def.CoreDef.{CoreDef as PlanDef}
use Rattle.pc_info.specs.declared.initializer.GlobalInitializer.{GlobalInitializer}
use Rattle.pc_info.specs.declared.options.CanonicalOptions.{CanonicalOptions as PlanOptions}
use Rattle.pc_dfg.specs.declared.dfg.ComponentDfg.{ComponentDfg}
use Rattle.pc_dfg_linearize.specs.declared.id.Id.{Id}
use Rattle.pc_dfg_linearize.specs.declared.id.Id.TheVariants as id
use Rattle.pc_dfg_linearize.specs.declared.state.Finish.{Finish}
use Rattle.pc_dfg_linearize.specs.Added.{add_slot, add_lowering, add_module, add_options, add_trampoline, note_intrinsic}
use Rattle.pc_dfg_linearize.specs.Numbers.{number_at, with_number}
use Rattle.pc_dfg_linearize.specs.Once.{Alike, Notes, OnlyFrom, unsigned}
use Rattle.pc_dfg_linearize.specs.Parts.{HasNumber, number_of, options_id, slot_id, slot_numbers}
use Rattle.pc_dfg_linearize.specs.Plan.{slot_count}
use Rattle.pc_dfg_linearize.specs.Ready.{here}
use Rattle.pc_dfg_linearize.proofs.NumberLemmas.{number_noted}

-- the number of an intrinsic is that under each signature
unsigned_number : (f : Finish) (x : Id) → number_of f (unsigned x) ≡ number_of f x
unfolding number_of unsigned
unsigned_number f (id.Memory n) = refl
unsigned_number f (id.Table n) = refl
unsigned_number f (id.Realloc n) = refl
unsigned_number f (id.Callback n) = refl
unsigned_number f (id.PostReturn n) = refl
unsigned_number f (id.Options o) = refl
unsigned_number f (id.Lowering t) = refl
unsigned_number f (id.Trampoline t) = refl
unsigned_number f (id.Intrinsic s i) = refl
unsigned_number f (id.AdapterModule m) = refl

pub alike_number : (f : Finish) (x y : Id) → Alike x y → number_of f x ≡ number_of f y
alike_number f x y alike = sym (unsigned_number f x) ∙ ap (number_of f) alike ∙ unsigned_number f y

module _ (old new : Finish) (x : Id) (n : ℕ) (notes : Notes old new x n) where
  pub notes_here : HasNumber new x
  notes_here = (n, notes.here)

  pub notes_numbered : (y : Id) → HasNumber old y → HasNumber new y
  notes_numbered y has =
      elim (notes.others y) [
        | inl alike ↦ (n, sym (alike_number new x y alike) ∙ notes.here)
        | inr same ↦ (has.0, same ∙ has.1)
      ]

  pub notes_only : (g : ComponentDfg) → OnlyFrom g old new x
  notes_only g y has =
      elim (notes.others y) [
        | inl alike ↦ inr (x, here, alike)
        | inr same ↦ inl (has.0, sym same ∙ has.1)
      ]

-- another entry has what it had
number_other : (ns : List (Option ℕ)) (k n j : ℕ) → (k ≡ j) ⊎ (number_at (with_number ns k n) j ≡ number_at ns j)
number_other ns k n j = elim (cases_eq j k) [
  | inl same ↦ inl (sym same)
  | inr other ↦ inr (ap (option_and_then (λ (o : Option ℕ). o)) (slice_get-set_other ns k j (Some n) other))
]

-- another intrinsic has the signature that it had
signature_other : (is : List (PackedOption ModuleInternedTypeIndex)) (k j : ℕ)
    (s : PackedOption ModuleInternedTypeIndex)
    → (k ≡ j) ⊎ (slice_get (slice_set is k s) j ≡ slice_get is j)
signature_other is k j s = elim (cases_eq j k) [
  | inl same ↦ inl (sym same)
  | inr other ↦ inr (slice_get-set_other is k j s other)
]

-- the intrinsics in their places
in_places : List UnsafeIntrinsic
in_places =
    intrinsic.StoreDataAddress ∷ intrinsic.U8NativeLoad ∷ intrinsic.U8NativeStore ∷ intrinsic.U16NativeLoad
    ∷ intrinsic.U16NativeStore ∷ intrinsic.U32NativeLoad ∷ intrinsic.U32NativeStore ∷ intrinsic.U64NativeLoad
    ∷ intrinsic.U64NativeStore ∷ intrinsic.U8CheckedNativeLoad ∷ intrinsic.U8CheckedNativeStore
    ∷ intrinsic.U16CheckedNativeLoad ∷ intrinsic.U16CheckedNativeStore ∷ intrinsic.U32CheckedNativeLoad
    ∷ intrinsic.U32CheckedNativeStore ∷ intrinsic.U64CheckedNativeLoad ∷ intrinsic.U64CheckedNativeStore
    ∷ intrinsic.ContextGetI32_0 ∷ intrinsic.ContextSetI32_0 ∷ intrinsic.ContextGetI32_1
    ∷ intrinsic.ContextSetI32_1 ∷ []

in_place : (i : UnsafeIntrinsic) → slice_get in_places (intrinsic_place i) ≡ Some i
unfolding in_places
in_place intrinsic.StoreDataAddress = refl
in_place i = refl

pub one_place : (i j : UnsafeIntrinsic) → intrinsic_place i ≡ intrinsic_place j → i ≡ j
one_place i j same = same_Some i j (sym (in_place i) ∙ ap (slice_get in_places) same ∙ in_place j)

-- an id by its number, or the same as before
module _ {P : Type 0} (f : ℕ → Id) (k j : ℕ) where
  by_number : (k ≡ j) ⊎ P → Alike (f k) (f j) ⊎ P
  by_number (inl same) = inl (ap (λ i. unsigned (f i)) same)
  by_number (inr other) = inr other

module _ (f : Finish) where
  memory_others : (k : ℕ) (i : GlobalInitializer) (y : Id)
      → Alike (slot_id plan.memory k) y ⊎ (number_of (add_slot plan.memory k i f) y ≡ number_of f y)
  unfolding number_of
  memory_others k i (id.Memory j) =
      by_number (slot_id plan.memory) k j.0 (number_other f.numbers.memories k f.counts.memories j.0)
  memory_others k i y = inr refl

  table_others : (k : ℕ) (i : GlobalInitializer) (y : Id)
      → Alike (slot_id plan.table k) y ⊎ (number_of (add_slot plan.table k i f) y ≡ number_of f y)
  unfolding number_of
  table_others k i (id.Table j) =
      by_number (slot_id plan.table) k j.0 (number_other f.numbers.tables k f.counts.tables j.0)
  table_others k i y = inr refl

  realloc_others : (k : ℕ) (i : GlobalInitializer) (y : Id)
      → Alike (slot_id plan.realloc k) y ⊎ (number_of (add_slot plan.realloc k i f) y ≡ number_of f y)
  unfolding number_of
  realloc_others k i (id.Realloc j) =
      by_number (slot_id plan.realloc) k j.0 (number_other f.numbers.reallocs k f.counts.reallocs j.0)
  realloc_others k i y = inr refl

  callback_others : (k : ℕ) (i : GlobalInitializer) (y : Id)
      → Alike (slot_id plan.callback k) y ⊎ (number_of (add_slot plan.callback k i f) y ≡ number_of f y)
  unfolding number_of
  callback_others k i (id.Callback j) =
      by_number (slot_id plan.callback) k j.0 (number_other f.numbers.callbacks k f.counts.callbacks j.0)
  callback_others k i y = inr refl

  post_return_others : (k : ℕ) (i : GlobalInitializer) (y : Id)
      → Alike (slot_id plan.post_return k) y ⊎ (number_of (add_slot plan.post_return k i f) y ≡ number_of f y)
  unfolding number_of
  post_return_others k i (id.PostReturn j) =
      by_number (slot_id plan.post_return) k j.0 (number_other f.numbers.post_returns k f.counts.post_returns j.0)
  post_return_others k i y = inr refl

  -- a slot
  pub slot_noted : (k : plan.SlotKind) (entry : ℕ) (i : GlobalInitializer) → entry < length (slot_numbers f k)
      → Notes f (add_slot k entry i f) (slot_id k entry) (slot_count f k)
  unfolding number_of
  slot_noted plan.memory entry i within = record {
    here = number_noted f.numbers.memories entry f.counts.memories within;
    others = memory_others entry i;
  }
  slot_noted plan.table entry i within = record {
    here = number_noted f.numbers.tables entry f.counts.tables within;
    others = table_others entry i;
  }
  slot_noted plan.realloc entry i within = record {
    here = number_noted f.numbers.reallocs entry f.counts.reallocs within;
    others = realloc_others entry i;
  }
  slot_noted plan.callback entry i within = record {
    here = number_noted f.numbers.callbacks entry f.counts.callbacks within;
    others = callback_others entry i;
  }
  slot_noted plan.post_return entry i within = record {
    here = number_noted f.numbers.post_returns entry f.counts.post_returns within;
    others = post_return_others entry i;
  }

  lowering_others : (k : ℕ) (r : RuntimeImportIndex) (y : Id)
      → Alike (id.Lowering (record { 0 = k })) y ⊎ (number_of (add_lowering k r f) y ≡ number_of f y)
  unfolding number_of
  lowering_others k r (id.Lowering j) =
      by_number (λ n. id.Lowering (record { 0 = n })) k j.0 (number_other f.numbers.lowerings k f.counts.lowerings j.0)
  lowering_others k r y = inr refl

  -- a lowering
  pub lowering_noted : (entry : ℕ) (r : RuntimeImportIndex) → entry < length f.numbers.lowerings
      → Notes f (add_lowering entry r f) (id.Lowering (record { 0 = entry })) f.counts.lowerings
  unfolding number_of
  lowering_noted entry r within = record {
    here = number_noted f.numbers.lowerings entry f.counts.lowerings within;
    others = lowering_others entry r;
  }

  module_others : (k : ℕ) (static : StaticModuleIndex) (args : List PlanDef) (y : Id)
      → Alike (id.AdapterModule (record { 0 = k })) y ⊎ (number_of (add_module k static args f) y ≡ number_of f y)
  unfolding number_of
  module_others k static args (id.AdapterModule j) =
      by_number (λ n. id.AdapterModule (record { 0 = n })) k j.0
      (number_other f.numbers.adapter_modules k f.counts.instances j.0)
  module_others k static args y = inr refl

  -- a module of adapters
  pub module_noted : (entry : ℕ) (static : StaticModuleIndex) (args : List PlanDef)
      → entry < length f.numbers.adapter_modules
      → Notes f (add_module entry static args f) (id.AdapterModule (record { 0 = entry })) f.counts.instances
  unfolding number_of
  module_noted entry static args within = record {
    here = number_noted f.numbers.adapter_modules entry f.counts.instances within;
    others = module_others entry static args;
  }

  options_others : (k : ℕ) (o : PlanOptions) (y : Id)
      → Alike (options_id k) y ⊎ (number_of (add_options k o f) y ≡ number_of f y)
  unfolding number_of
  options_others k o (id.Options j) =
      by_number options_id k j.0 (number_other f.numbers.options k (length f.options) j.0)
  options_others k o y = inr refl

  -- options
  pub options_noted : (entry : ℕ) (o : PlanOptions) → entry < length f.numbers.options
      → Notes f (add_options entry o f) (options_id entry) (length f.options)
  unfolding number_of
  options_noted entry o within = record {
    here = number_noted f.numbers.options entry (length f.options) within;
    others = options_others entry o;
  }

  trampoline_others : (k : ℕ) (s : ModuleInternedTypeIndex) (t : PlanTrampoline) (y : Id)
      → Alike (id.Trampoline (record { 0 = k })) y ⊎ (number_of (add_trampoline k s t f) y ≡ number_of f y)
  unfolding number_of
  trampoline_others k s t (id.Trampoline j) =
      by_number (λ n. id.Trampoline (record { 0 = n })) k j.0
      (number_other f.numbers.trampolines k (length f.trampolines) j.0)
  trampoline_others k s t y = inr refl

  -- a trampoline
  pub trampoline_noted : (entry : ℕ) (s : ModuleInternedTypeIndex) (t : PlanTrampoline)
      → entry < length f.numbers.trampolines
      → Notes f (add_trampoline entry s t f) (id.Trampoline (record { 0 = entry })) (length f.trampolines)
  unfolding number_of
  trampoline_noted entry s t within = record {
    here = number_noted f.numbers.trampolines entry (length f.trampolines) within;
    others = trampoline_others entry s t;
  }

  intrinsic_others : (s : ModuleInternedTypeIndex) (i : UnsafeIntrinsic) (y : Id)
      → Alike (id.Intrinsic s i) y ⊎ (number_of (note_intrinsic i s f) y ≡ number_of f y)
  unfolding number_of unsigned
  intrinsic_others s i (id.Intrinsic s' j) =
      elim (signature_other f.intrinsics (intrinsic_place i) (intrinsic_place j) (packed.Some s)) [
        | inl same ↦ inl (ap (λ k. id.Intrinsic (record { 0 = 0 }) k) (one_place i j same))
        | inr other ↦ inr (ap (λ o. option_map (λ (t : ModuleInternedTypeIndex). intrinsic_place j)
            (option_and_then as_option o)) other)
      ]
  intrinsic_others s i y = inr refl

  -- an intrinsic
  pub intrinsic_noted : (s : ModuleInternedTypeIndex) (i : UnsafeIntrinsic) → intrinsic_place i < length f.intrinsics
      → Notes f (note_intrinsic i s f) (id.Intrinsic s i) (intrinsic_place i)
  unfolding number_of
  intrinsic_noted s i within = record {
    here = ap (λ o. option_map (λ (t : ModuleInternedTypeIndex). intrinsic_place i) (option_and_then as_option o))
        (slice_get-set_same f.intrinsics (intrinsic_place i) (packed.Some s) within);
    others = intrinsic_others s i;
  }
