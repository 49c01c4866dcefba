-- A graph that stands for a reading tells what values leave out, also while adapters are made: so what has one value
-- has one number.
use Rattle.std.proofs.Common.{◌≡◌, ℕ, Bool, List, Option, None, Some, map, refl, sym, ap, subst, ◌∙◌}
use Rattle.std.specs.Prelude.{option_map, slice_get, unwrap_or}
use Rattle.std.proofs.lemmas.Option.{none-some, same_Some, slice_get-map}
use Rattle.pc_entity.specs.declared.packed_option.PackedOption.{PackedOption}
use Rattle.pc_entity.specs.declared.packed_option.PackedOption.TheVariants as packed
use Rattle.pc_types_lists.specs.Types.{IsBuilder, Types}
use Rattle.pc_dfg.specs.declared.ids.OptionsId.{OptionsId}
use Rattle.pc_numbers.specs.declared.module_entity.MemoryIndex.{MemoryIndex}
use Rattle.pc_numbers.specs.declared.module_entity.ModuleInternedTypeIndex.{ModuleInternedTypeIndex}
use Rattle.pc_numbers.specs.declared.runtime.ImportIndex.{ImportIndex}
use Rattle.pc_numbers.specs.declared.runtime.ResourceIndex.{ResourceIndex}
use Rattle.pc_numbers.specs.declared.runtime.RuntimeImportIndex.{RuntimeImportIndex}
use Rattle.pc_numbers.specs.declared.runtime.TrampolineIndex.{TrampolineIndex}
use Rattle.pc_types.specs.declared.intrinsic.UnsafeIntrinsic.{UnsafeIntrinsic}
use Rattle.pc_types.specs.declared.module_record.ModuleRecord.{ModuleRecord}
use Rattle.pc_types.specs.declared.parsed.CoreFuncSig.{CoreFuncSig}
use Rattle.pc_types.specs.declared.parsed.CoreKind.{CoreKind}
use Rattle.pc_types.specs.declared.parsed.CoreKind.TheVariants as core
use Rattle.pc_types.specs.declared.types.TypeKind.TheVariants as kind
use Rattle.pc_types.specs.IntrinsicType.{intrinsic_place}
use Rattle.pc_types.specs.TypeTree.{Identity}
use Rattle.pc_spec_plan.specs.CoreValue as value
use Rattle.pc_spec_plan.specs.CoreValue.{CoreValue, map_value}
use Rattle.pc_spec_plan.specs.Log.{Entry}
use Rattle.pc_spec_plan.specs.PlanView as plan
use Rattle.pc_trampoline.specs.declared.part.Head.{Head}
use Rattle.pc_trampoline.specs.declared.part.Head.TheVariants as head
use Rattle.pc_trampoline.specs.declared.part.Mark.{Mark}
use Rattle.pc_trampoline.specs.declared.part.Mark.TheVariants as mark
use Rattle.pc_trampoline.specs.Parts.{list_of, parts_of}
use Rattle.pc_trampoline.specs.Shape as shape
use Rattle.pc_trampoline.specs.Shape.{head_shape}
use Rattle.pc_trampoline.specs.View.{entry_of}
use Rattle.pc_parsed.specs.Mark as reading
use Rattle.pc_spec_reading.specs.Asked.{paths_needed, signature_of}
use Rattle.pc_dfg.specs.declared.adapter.Adapter.{Adapter}
use Rattle.pc_dfg.specs.declared.adapter.AdapterOptions.{AdapterOptions}
use Rattle.pc_dfg.specs.declared.adapter.DataModel.{DataModel}
use Rattle.pc_dfg.specs.declared.adapter.DataModel.TheVariants as side
use Rattle.pc_dfg.specs.declared.core_def.CoreDef.{CoreDef}
use Rattle.pc_dfg.specs.declared.core_def.CoreDef.TheVariants as def
use Rattle.pc_dfg.specs.declared.core_def.CoreExport.{CoreExport}
use Rattle.pc_dfg.specs.declared.dfg.ComponentDfg.{ComponentDfg}
use Rattle.pc_dfg.specs.declared.options.CanonicalOptions.{CanonicalOptions}
use Rattle.pc_dfg.specs.Grows.{HasIntrinsic}
use Rattle.pc_dfg.specs.Means.{Means, MeansOptions, MeansTrampoline, means_builtin, means_entry, means_helper}
use Rattle.pc_dfg.specs.Means.{means_lowered, means_options, means_trampoline}
use Rattle.pc_dfg.specs.Numbers.{SignedTrampoline, graph_numbers, trampoline_entry}
use Rattle.pc_dfg.specs.Told.{IsAdapterTold, IsLowering, IsModelTold, IsSideTold, IsSigned, IsTold, MaybeSigned}
use Rattle.pc_dfg.specs.Told.{MaybeWide, Unsaid}
use Rattle.pc_inline_state.specs.Tables.{IsItem, is_intrinsic}
use Rattle.pc_inline_state.specs.Fits.{Fits}
use Rattle.pc_inline_state.specs.Holds.{Holds, Numbered, number_of, whole_of}
use Rattle.pc_inline_state.specs.Worlds.{HasItems, HoldsItems, IsDeclared, MaybeItem, ModelItems, SideItems, path_of}
use Rattle.pc_inline_state.specs.Worlds.{slot_kind}
use Rattle.pc_inline_canon.proofs.OnceLemmas.{once_each}

-- the core signature of an options entry of a graph, by number
abbrev signature_at : ComponentDfg → ℕ → ModuleInternedTypeIndex
signature_at g o =
    unwrap_or (option_map (λ (x : CanonicalOptions). x.core_type) (slice_get g.options o)) (record { 0 = 0 })

-- that of the options of a lowering
abbrev of_head : ComponentDfg → Head RuntimeImportIndex OptionsId → ModuleInternedTypeIndex
of_head g (head.Lowering index ty o) = signature_at g o.0
of_head g h = record { 0 = 0 }

-- the signature of an intrinsic, if it has one
abbrev signature_held : Option (PackedOption ModuleInternedTypeIndex) → ModuleInternedTypeIndex
signature_held (Some (packed.Some s)) = s
signature_held o = record { 0 = 0 }

-- what values leave out: a lowering has the core signature of its options, an intrinsic the one that the graph has for
-- it, and these memories are wide
pub unsaid : ComponentDfg → (CoreExport MemoryIndex → Bool) → Unsaid
unsaid g wide = record {
  lowering = λ t. of_head g (parts_of t).head;
  intrinsic = λ i. signature_held (slice_get g.unsafe_intrinsics (intrinsic_place i));
  is_wide = wide;
}

-- the flag of a side says whether its memory, if it has one, is wide
abbrev pub IsWideSide : (CoreExport MemoryIndex → Bool) → DataModel → Type 0
IsWideSide wide side.Gc = Unit {0}
IsWideSide wide (side.LinearMemory None realloc) = Unit {0}
IsWideSide wide (side.LinearMemory (Some x) realloc) = x.1 ≡ wide x.0

-- so it is on both sides of an adapter
pub record IsWideAdapter (wide : CoreExport MemoryIndex → Bool) (x : Adapter) : Type 0 where
  pub lift : IsWideSide wide x.lift_options.data_model
  pub lower : IsWideSide wide x.lower_options.data_model

-- an item that is an intrinsic has the signature that the graph has for it
pub signed_item : (ms : List ModuleRecord) (g : ComponentDfg) (k : CoreKind) (s : ModuleInternedTypeIndex)
    (i : UnsafeIntrinsic) → IsItem ms g k (def.UnsafeIntrinsic s i) → HasIntrinsic g (intrinsic_place i) s
signed_item ms g k s i (is_intrinsic has) = has

-- an entry of a trampoline lowers with the options of this number
abbrev Lowers : plan.TrampolineEntry Mark → ℕ → Type 0
Lowers (plan.lowers r s ty o) n = o ≡ n
Lowers e n = ⊥

-- the core signature of options
abbrev signature_in : {τ : Type 0} → value.Options τ → τ
signature_in (value.options c encoding is_async signature callback post_return model) = signature

-- a function was lowered with options of this core signature
abbrev LoweredWith : {τ : Type 0} → CoreValue τ → τ → Type 0
LoweredWith (value.lowered path ty o) m = signature_in o ≡ m
LoweredWith v m = ⊥

-- a head that is a lowering's has options
lowers_of : (g : ComponentDfg) (x : SignedTrampoline) → IsLowering x.1
    → (o : ℕ) × Lowers (trampoline_entry x) o × (of_head g (parts_of x.1).head ≡ signature_at g o)
lowers_of g x is = by (parts_of x.1).head refl is
  where
    by : (h : Head RuntimeImportIndex OptionsId) → (parts_of x.1).head ≡ h → head_shape h ≡ shape.lowering
        → (o : ℕ) × Lowers (trampoline_entry x) o × (of_head g (parts_of x.1).head ≡ signature_at g o)
    by (head.Lowering index ty o) same is = (
      o.0,
      subst (λ h. Lowers (entry_of graph_numbers x.0 (parts_of x.1).kind h (list_of (parts_of x.1).parts)) o.0)
          (sym same) refl,
      ap (of_head g) same,
    )
    by h same is = absurd (let no : ⊥ = cc in no)

module _ (g : ComponentDfg) where
  -- options have the core signature of their entry
  options_marked : {o : ℕ} {w : value.Options Mark} → MeansOptions g o w
      → signature_in w ≡ mark.Signature (signature_at g o)
  options_marked (means_options {x = x} at (means_entry callback post_return model)) =
      ap (λ (e : Option CanonicalOptions). mark.Signature (unwrap_or (option_map (λ (y : CanonicalOptions). y.core_type)
      e) (record { 0 = 0 }))) (sym at)

  -- and a lowering that of its options
  lowering_marked : {e : plan.TrampolineEntry Mark} {w : CoreValue Mark} → MeansTrampoline g e w → (o : ℕ)
      → Lowers e o → LoweredWith w (mark.Signature (signature_at g o))
  lowering_marked (means_lowered path options) n same =
      options_marked options ∙ ap (λ k. mark.Signature (signature_at g k)) same
  lowering_marked (means_builtin parts) n none = absurd none
  lowering_marked (means_helper parts) n none = absurd none

  -- what a trampoline means is what its entry does
  entry_means : {t : TrampolineIndex} {v : CoreValue Mark} (x : SignedTrampoline)
      → slice_get g.trampolines t.0 ≡ Some x → Means g (def.Trampoline t) v → MeansTrampoline g (trampoline_entry x) v
  entry_means {v = v} x at (means_trampoline {x = y} is means) =
      subst (λ z. MeansTrampoline g (trampoline_entry z) v) (same_Some y x (sym is ∙ at)) means

module _ (types : Types) (reads : (ResourceIndex → Identity) → Type 0) where
  -- a core signature that is there twice, as a number and whole
  held_whole : (number : Mark) (whole : reading.Mark) → Holds types reads number whole → (n : ModuleInternedTypeIndex)
      → number ≡ mark.Signature n → (s : CoreFuncSig) → whole ≡ reading.of_signature s
      → slice_get types.signatures n.0 ≡ Some s
  unfolding Holds
  held_whole (mark.Signature k) (reading.of_signature t) holds n same s is =
      let one : k ≡ n = cc in
      let whole : t ≡ s = cc in
      ap (λ (j : ModuleInternedTypeIndex). slice_get types.signatures j.0) (sym one) ∙ holds ∙ ap Some whole
  held_whole (mark.Type_ ty) whole holds n same s is = absurd (let no : ⊥ = cc in no)
  held_whole (mark.Signature k) (reading.of_type tree) holds n same s is = absurd holds

  -- the core signature of a lowering that is there twice
  signed_whole : (v : CoreValue (Numbered types reads)) (n : ModuleInternedTypeIndex) (s : CoreFuncSig)
      → LoweredWith (map_value (number_of types reads) v) (mark.Signature n)
      → signature_of (map_value (whole_of types reads) v) ≡ Some s → slice_get types.signatures n.0 ≡ Some s
  signed_whole (value.lowered path ty (value.options c encoding is_async m callback post_return model)) n s under is =
      held_whole m.number m.whole m.holds n under s (whole_signature m.whole is)
    where
      whole_signature : (w : reading.Mark)
          → signature_of (value.lowered path (whole_of types reads ty)
          (value.options c encoding is_async w (value.map_maybe (whole_of types reads) callback)
          (value.map_maybe (whole_of types reads) post_return)
          (value.map_model (whole_of types reads) model))) ≡ Some s
          → w ≡ reading.of_signature s
      whole_signature (reading.of_signature t) h = ap reading.of_signature (same_Some t s h)
      whole_signature (reading.of_type tree) h = absurd (none-some s h)
  signed_whole v n s under is = absurd under

-- What is asked of a graph: its trampolines are declared in a log, it has the host items that the log needs, and each
-- definition is an item.
module _ (types : Types) (ms : List ModuleRecord) (g : ComponentDfg) (log : List (Entry reading.Mark))
    (declared : (k : ℕ) (x : SignedTrampoline) → slice_get g.trampolines k ≡ Some x → IsDeclared types g log k x)
    (imports : map path_of g.imports ≡ paths_needed log) (items : HasItems ms g) (builder : IsBuilder types)
    (wide : CoreExport MemoryIndex → Bool) where
  -- a lowering has the core signature of its options
  lowering_told : (n : ℕ) (x : SignedTrampoline) → slice_get g.trampolines n ≡ Some x → IsLowering x.1
      → x.0 ≡ of_head g (parts_of x.1).head
  lowering_told n x at is =
      let d = declared n x at in
      let lowers = lowers_of g x is in
      let o = lowers.0 in
      let means = entry_means g x at d.stands.means in
      let s = d.signed in
      let whole = signed_whole types (Fits g) d.stands.numbered (signature_at g o) s.0
      (lowering_marked g means o lowers.1) (ap signature_of d.stands.is ∙ s.2) in
      ap (λ k. record { 0 = k }) (builder.distinct kind.Signature x.0.0 (signature_at g o).0 s.0 s.1 whole)
      ∙ sym lowers.2

  -- the path of a host item is needed
  path_needed : (n : ℕ) (i : ImportIndex × List (List ℕ)) → slice_get g.imports n ≡ Some i
      → slice_get (paths_needed log) n ≡ Some (path_of i)
  path_needed n i at =
      ap (λ ps. slice_get ps n) (sym imports) ∙ slice_get-map path_of g.imports n ∙ ap (option_map path_of) at

  -- an item that is an intrinsic has its signature
  item_told : (d : CoreDef) (k : CoreKind) → IsItem ms g k d → IsSigned (unsaid g wide) d
  unfolding IsSigned unsaid
  item_told (def.UnsafeIntrinsic s i) k item = ap signature_held (sym (signed_item ms g k s i item))
  item_told d k item = tt

  maybe_told : (d : Option CoreDef) (k : CoreKind) → MaybeItem ms g k d → MaybeSigned (unsaid g wide) d
  unfolding MaybeItem MaybeSigned
  maybe_told None k item = tt
  maybe_told (Some d) k item = item_told d k item

  -- so have those of a side
  model_told : (m : DataModel) → ModelItems ms g m → IsWideSide wide m → IsModelTold (unsaid g wide) m
  unfolding ModelItems IsModelTold MaybeWide unsaid
  model_told side.Gc held told = tt
  model_told (side.LinearMemory None realloc) held told = (tt, maybe_told realloc core.Func held.1)
  model_told (side.LinearMemory (Some x) realloc) held told = (told, maybe_told realloc core.Func held.1)

  side_told : (x : AdapterOptions) → SideItems ms g x → IsWideSide wide x.data_model → IsSideTold (unsaid g wide) x
  side_told x held told = record {
    callback = maybe_told x.callback core.Func held.callback;
    post_return = maybe_told x.post_return core.Func held.post_return;
    model = model_told x.data_model held.model told;
  }

  adapter_told : (x : Adapter) → HoldsItems ms g x → IsWideAdapter wide x → IsAdapterTold (unsaid g wide) x
  adapter_told x held told = record {
    func = item_told x.func core.Func held.func;
    lift = side_told x.lift_options held.lift told.lift;
    lower = side_told x.lower_options held.lower told.lower;
  }

  -- the graph tells what values leave out where its adapters tell which memories are wide
  pub is_told : ((n : ℕ) (x : Adapter) → slice_get g.adapters n ≡ Some x → IsWideAdapter wide x)
      → IsTold (unsaid g wide) g
  unfolding unsaid
  is_told widths = record {
    imports = λ i j x at at'. once_each log i j (path_of x) (path_needed i x at) (path_needed j x at');
    slots = λ k n d at. item_told d (slot_kind k) (items.slots k n d at);
    lowerings = lowering_told;
    adapters = λ n x at. adapter_told x (items.adapters n x at) (widths n x at);
  }
