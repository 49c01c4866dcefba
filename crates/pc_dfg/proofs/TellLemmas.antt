-- Entries are told by how they are seen.
use Rattle.std.proofs.Common.{◌≡◌, ℕ, List, [], ◌∷◌, Option, None, Some, zero, suc, refl, ap, sym, ◌∙◌}
use Rattle.std.proofs.lemmas.Option.{none-some, same_Some}
use Rattle.std.specs.Prelude.{map, option_map, slice_get}
use Rattle.pc_entity.specs.Lists.{AreDistinct}
use Rattle.pc_dfg.specs.declared.ids.CallbackId.{CallbackId}
use Rattle.pc_dfg.specs.declared.ids.MemoryId.{MemoryId}
use Rattle.pc_dfg.specs.declared.ids.PostReturnId.{PostReturnId}
use Rattle.pc_dfg.specs.declared.ids.ReallocId.{ReallocId}
use Rattle.pc_numbers.specs.declared.entity_index.EntityIndex.{EntityIndex}
use Rattle.pc_numbers.specs.declared.entity_index.EntityIndex.TheVariants as entity
use Rattle.pc_numbers.specs.declared.module_entity.MemoryIndex.{MemoryIndex}
use Rattle.pc_numbers.specs.declared.module_entity.ModuleInternedTypeIndex.{ModuleInternedTypeIndex}
use Rattle.pc_numbers.specs.declared.module_entity.TableIndex.{TableIndex}
use Rattle.pc_types.specs.declared.intrinsic.UnsafeIntrinsic.{UnsafeIntrinsic}
use Rattle.pc_types.specs.declared.intrinsic.UnsafeIntrinsic.TheVariants as intrinsic
use Rattle.pc_types.specs.IntrinsicType.{intrinsic_place}
use Rattle.pc_spec_plan.specs.CoreValue as value
use Rattle.pc_spec_plan.specs.CoreValue.{Parts}
use Rattle.pc_spec_plan.specs.Machine.{with_numbers}
use Rattle.pc_spec_plan.specs.PlanView as plan
use Rattle.pc_trampoline.specs.declared.part.Mark.{Mark}
use Rattle.pc_info.specs.declared.core_def.ExportItem.{ExportItem}
use Rattle.pc_info.specs.declared.core_def.ExportItem.TheVariants as item
use Rattle.pc_info.specs.Definitions.{item_view}
use Rattle.pc_info.specs.Mapped.{map_item}
use Rattle.pc_dfg.specs.declared.core_def.CoreDef.{CoreDef}
use Rattle.pc_dfg.specs.declared.core_def.CoreDef.TheVariants as def
use Rattle.pc_dfg.specs.declared.core_def.CoreExport.{CoreExport}
use Rattle.pc_dfg.specs.declared.dfg.ComponentDfg.{ComponentDfg}
use Rattle.pc_dfg.specs.declared.options.CanonicalOptions.{CanonicalOptions}
use Rattle.pc_dfg.specs.declared.options.CanonicalOptionsDataModel.{CanonicalOptionsDataModel}
use Rattle.pc_dfg.specs.declared.options.CanonicalOptionsDataModel.TheVariants as model
use Rattle.pc_dfg.specs.Numbers.{model_entry, options_entry, memory_def, table_def, slots_of}
use Rattle.pc_dfg.specs.Told.{AreInterned, IsSigned, Unsaid}

-- an item is told by how it is seen
pub items_tell : (a b : ExportItem EntityIndex) → item_view a ≡ item_view b → a ≡ b
items_tell (item.Index a) (item.Index b) h = let one : a ≡ b = cc in ap item.Index one
items_tell (item.Name a) (item.Name b) h = let one : a ≡ b = cc in ap item.Name one
items_tell a b h = cc

-- the intrinsics in order
intrinsics : List UnsafeIntrinsic
intrinsics =
    intrinsic.StoreDataAddress ∷ intrinsic.U8NativeLoad ∷ intrinsic.U8NativeStore ∷ intrinsic.U16NativeLoad
    ∷ intrinsic.U16NativeStore ∷ intrinsic.U32NativeLoad ∷ intrinsic.U32NativeStore ∷ intrinsic.U64NativeLoad
    ∷ intrinsic.U64NativeStore ∷ intrinsic.U8CheckedNativeLoad ∷ intrinsic.U8CheckedNativeStore
    ∷ intrinsic.U16CheckedNativeLoad ∷ intrinsic.U16CheckedNativeStore ∷ intrinsic.U32CheckedNativeLoad
    ∷ intrinsic.U32CheckedNativeStore ∷ intrinsic.U64CheckedNativeLoad ∷ intrinsic.U64CheckedNativeStore
    ∷ intrinsic.ContextGetI32_0 ∷ intrinsic.ContextSetI32_0 ∷ intrinsic.ContextGetI32_1 ∷ intrinsic.ContextSetI32_1
    ∷ []

-- each stands at its place
at_its_place : (i : UnsafeIntrinsic) → slice_get intrinsics (intrinsic_place i) ≡ Some i
unfolding intrinsics
at_its_place intrinsic.StoreDataAddress = refl
at_its_place i = refl

-- an intrinsic is told by its place
pub intrinsic_tells : (i j : UnsafeIntrinsic) → intrinsic_place i ≡ intrinsic_place j → i ≡ j
intrinsic_tells i j h = same_Some i j (sym (at_its_place i) ∙ ap (slice_get intrinsics) h ∙ at_its_place j)

-- one intrinsic has one signature
pub intrinsic_signed : (u : Unsaid) (s t : ModuleInternedTypeIndex) (i j : UnsafeIntrinsic) → i ≡ j
    → IsSigned u (def.UnsafeIntrinsic s i) → IsSigned u (def.UnsafeIntrinsic t j) → s ≡ t
unfolding IsSigned
intrinsic_signed u s t i j same a b = a ∙ ap u.intrinsic same ∙ sym b

-- the item of a memory or table is told by the item that it is as a definition
memory_items : (a b : ExportItem MemoryIndex) → map_item entity.Memory a ≡ map_item entity.Memory b → a ≡ b
memory_items (item.Index a) (item.Index b) h =
    let one : a.0 ≡ b.0 = cc in ap (λ n. item.Index (record { 0 = n })) one
memory_items (item.Name a) (item.Name b) h = let one : a ≡ b = cc in ap item.Name one
memory_items a b h = cc

table_items : (a b : ExportItem TableIndex) → map_item entity.Table a ≡ map_item entity.Table b → a ≡ b
table_items (item.Index a) (item.Index b) h =
    let one : a.0 ≡ b.0 = cc in ap (λ n. item.Index (record { 0 = n })) one
table_items (item.Name a) (item.Name b) h = let one : a ≡ b = cc in ap item.Name one
table_items a b h = cc

-- the instance and the item of a definition that is one
instance_in : CoreDef → ℕ
instance_in (def.Export e) = e.instance.0
instance_in d = 0

item_in : CoreDef → ExportItem EntityIndex
item_in (def.Export e) = e.item
item_in d = item.Name []

-- a memory is told by the definition that it is
pub memory_tells : (a b : CoreExport MemoryIndex) → memory_def a ≡ memory_def b → a ≡ b
unfolding instance_in item_in
memory_tells a b h =
    let instance : a.instance.0 ≡ b.instance.0 = ap instance_in h in
    let one = memory_items a.item b.item (ap item_in h) in
    λ i. record { instance = record { 0 = instance i }; item = one i }

-- and so is a table
pub table_tells : (a b : CoreExport TableIndex) → table_def a ≡ table_def b → a ≡ b
unfolding instance_in item_in
table_tells a b h =
    let instance : a.instance.0 ≡ b.instance.0 = ap instance_in h in
    let one = table_items a.item b.item (ap item_in h) in
    λ i. record { instance = record { 0 = instance i }; item = one i }

module _ {A B : Type 0} (f : A → B) (tells : (a b : A) → f a ≡ f b → a ≡ b) where
  -- what stands at a place of a mapped list comes of what stands there
  mapped_at : (xs : List A) (i : ℕ) (y : B) → slice_get (map f xs) i ≡ Some y
      → (x : A) × (slice_get xs i ≡ Some x) × (y ≡ f x)
  mapped_at [] i y at = absurd (none-some y at)
  mapped_at (x ∷ xs) zero y at = (x, refl, sym (same_Some (f x) y at))
  mapped_at (x ∷ xs) (suc i) y at = mapped_at xs i y at

  -- distinct entries stay distinct where they are told by what becomes of them
  map_distinct : (xs : List A) → AreDistinct xs → AreDistinct (map f xs)
  map_distinct xs distinct i j y a b =
      let first = mapped_at xs i y a in
      let second = mapped_at xs j y b in
      let one = tells second.0 first.0 (sym second.2 ∙ first.2) in
      distinct i j first.0 first.1 (second.1 ∙ ap Some one)

-- the definitions in slots of a kind are distinct
pub slots_distinct : (g : ComponentDfg) → AreInterned g → (k : plan.SlotKind) → AreDistinct (slots_of g k)
unfolding slots_of
slots_distinct g interned plan.memory = map_distinct memory_def memory_tells g.memories interned.memories
slots_distinct g interned plan.table = map_distinct table_def table_tells g.tables interned.tables
slots_distinct g interned plan.realloc = interned.reallocs
slots_distinct g interned plan.callback = interned.callbacks
slots_distinct g interned plan.post_return = interned.post_returns

-- ids that may be left out are told by their numbers
callback_tells : (m n : Option CallbackId)
    → option_map (λ (x : CallbackId). x.0) m ≡ option_map (λ (x : CallbackId). x.0) n → m ≡ n
callback_tells None None h = refl
callback_tells (Some m) (Some n) h = ap (λ x. Some (record { 0 = x })) (same_Some m.0 n.0 h)
callback_tells m n h = cc

post_return_tells : (m n : Option PostReturnId)
    → option_map (λ (x : PostReturnId). x.0) m ≡ option_map (λ (x : PostReturnId). x.0) n → m ≡ n
post_return_tells None None h = refl
post_return_tells (Some m) (Some n) h = ap (λ x. Some (record { 0 = x })) (same_Some m.0 n.0 h)
post_return_tells m n h = cc

memory_id_tells : (m n : Option MemoryId)
    → option_map (λ (x : MemoryId). x.0) m ≡ option_map (λ (x : MemoryId). x.0) n → m ≡ n
memory_id_tells None None h = refl
memory_id_tells (Some m) (Some n) h = ap (λ x. Some (record { 0 = x })) (same_Some m.0 n.0 h)
memory_id_tells m n h = cc

realloc_id_tells : (m n : Option ReallocId)
    → option_map (λ (x : ReallocId). x.0) m ≡ option_map (λ (x : ReallocId). x.0) n → m ≡ n
realloc_id_tells None None h = refl
realloc_id_tells (Some m) (Some n) h = ap (λ x. Some (record { 0 = x })) (same_Some m.0 n.0 h)
realloc_id_tells m n h = cc

-- data models are told by their entries
model_tells : (a b : CanonicalOptionsDataModel) → model_entry a ≡ model_entry b → a ≡ b
model_tells model.Gc model.Gc h = refl
model_tells (model.LinearMemory m r) (model.LinearMemory n s) h =
    let memories : option_map (λ (x : MemoryId). x.0) m ≡ option_map (λ (x : MemoryId). x.0) n = cc in
    let reallocs : option_map (λ (x : ReallocId). x.0) r ≡ option_map (λ (x : ReallocId). x.0) s = cc in
    let one = memory_id_tells m n memories in
    let two = realloc_id_tells r s reallocs in
    λ i. model.LinearMemory (one i) (two i)
model_tells a b h = cc

-- options are told by their entry
pub options_tell : (a b : CanonicalOptions) → options_entry a ≡ options_entry b → a ≡ b
options_tell a b h =
    let marks = ap (λ e. e.signature) h in
    let core_type : a.core_type.0 ≡ b.core_type.0 = cc in
    let callback = callback_tells a.callback b.callback (ap (λ e. e.callback) h) in
    let post_return = post_return_tells a.post_return b.post_return (ap (λ e. e.post_return) h) in
    let data_model = model_tells a.data_model b.data_model (ap (λ e. e.model) h) in
    λ i. record {
      instance = record { 0 = (h i).component_instance };
      string_encoding = (h i).encoding;
      callback = callback i;
      post_return = post_return i;
      async_ = (h i).is_async;
      core_type = record { 0 = core_type i };
      data_model = data_model i;
    }

-- values of parts with a mark in front
abbrev pub Begins : Parts Mark → Type 0
Begins vs = (m : Mark) × (us : Parts Mark) × (vs ≡ value.and_part (value.mark_part m) us)

-- numbers before a mark end where the mark stands
numbers_by : (xs ys : List ℕ) (m n : Mark) (us vs : Parts Mark)
    → with_numbers xs (value.and_part (value.mark_part m) us)
    ≡ with_numbers ys (value.and_part (value.mark_part n) vs)
    → (xs ≡ ys) × (value.and_part (value.mark_part m) us ≡ value.and_part (value.mark_part n) vs)
numbers_by [] [] m n us vs h = (refl, h)
numbers_by (x ∷ xs) (y ∷ ys) m n us vs h =
    let rest : with_numbers xs (value.and_part (value.mark_part m) us)
    ≡ with_numbers ys (value.and_part (value.mark_part n) vs) = cc in
    let first : x ≡ y = cc in
    let more = numbers_by xs ys m n us vs rest in
    (λ i. first i ∷ more.0 i, more.1)
numbers_by xs ys m n us vs h = cc

-- so numbers and parts are told apart
pub with_numbers_tell : (xs ys : List ℕ) (us vs : Parts Mark) → Begins us → Begins vs
    → with_numbers xs us ≡ with_numbers ys vs → (xs ≡ ys) × (us ≡ vs)
with_numbers_tell xs ys us vs a b h =
    let both = numbers_by xs ys a.0 b.0 a.1 b.1 (ap (with_numbers xs) (sym a.2) ∙ h ∙ ap (with_numbers ys) b.2) in
    (both.0, a.2 ∙ both.1 ∙ sym b.2)
