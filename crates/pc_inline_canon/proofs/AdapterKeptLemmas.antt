-- Adapters are what they were as a graph grows, where no more of them are made.
use Rattle.std.proofs.Common.{◌≡◌, ℕ, Bool, false, true≢false, List, [], ◌∷◌, ◌++◌, length, Option, None, Some}
use Rattle.std.proofs.Common.{refl, sym, ap, subst, ◌∙◌}
use Rattle.std.specs.Prelude.{option_map, slice_get}
use Rattle.std.specs.List.{filter_map}
use Rattle.std.proofs.lemmas.List.{append-nil}
use Rattle.std.proofs.lemmas.List.Elements.{filter_map-append}
use Rattle.pc_numbers.specs.declared.module_entity.MemoryIndex.{MemoryIndex}
use Rattle.pc_types.specs.declared.module_record.ModuleRecord.{ModuleRecord}
use Rattle.pc_types.specs.declared.parsed.CoreKind.{CoreKind}
use Rattle.pc_types.specs.declared.parsed.CoreKind.TheVariants as core
use Rattle.pc_types_lists.specs.Types.{Types}
use Rattle.pc_types_lists.specs.Types as builder
use Rattle.pc_spec_plan.specs.Log as entry
use Rattle.pc_spec_plan.specs.Log.{Entry}
use Rattle.pc_spec_adapt.specs.Needs.{adapters_of, made_adapter}
use Rattle.pc_parsed.specs.Mark.{Mark}
use Rattle.pc_spec_reading.specs.Asked.{is_made}
use Rattle.pc_dfg.specs.declared.adapter.Adapter.{Adapter}
use Rattle.pc_dfg.specs.declared.adapter.AdapterOptions.{AdapterOptions}
use Rattle.pc_dfg.specs.declared.adapter.DataModel.{DataModel}
use Rattle.pc_dfg.specs.declared.adapter.DataModel.TheVariants as side
use Rattle.pc_dfg.specs.declared.core_def.CoreDef.{CoreDef}
use Rattle.pc_dfg.specs.declared.core_def.CoreDef.TheVariants as def
use Rattle.pc_dfg.specs.declared.core_def.CoreExport.{CoreExport}
use Rattle.pc_dfg.specs.declared.dfg.ComponentDfg.{ComponentDfg}
use Rattle.pc_dfg.specs.Grows as graph
use Rattle.pc_dfg.specs.Numbers.{memory_def}
use Rattle.pc_inline_state.specs.Fits.{FitsBefore}
use Rattle.pc_inline_state.specs.Worlds.{AdaptersStand, HoldsItems, MaybeItem, ModelItems, SideItems}
use Rattle.pc_inline_canon.proofs.KeptLemmas.{core_kept, is_item_kept}

module _ (ms : List ModuleRecord) (g h : ComponentDfg) (grows : graph.Grows g h) where
  -- an item that may be left out is one
  maybe_item_kept : (k : CoreKind) (d : Option CoreDef) → MaybeItem ms g k d → MaybeItem ms h k d
  unfolding MaybeItem
  maybe_item_kept k None x = x
  maybe_item_kept k (Some d) x = is_item_kept ms g h grows k d x

  -- where the values of a side lie
  model_items_kept : (m : DataModel) → ModelItems ms g m → ModelItems ms h m
  unfolding ModelItems
  model_items_kept side.Gc x = x
  model_items_kept (side.LinearMemory memory realloc) x = (
    maybe_item_kept core.Memory (option_map (λ (y : CoreExport MemoryIndex × Bool). memory_def y.0) memory) x.0,
    maybe_item_kept core.Func realloc x.1,
  )

  -- a side
  side_items_kept : (o : AdapterOptions) → SideItems ms g o → SideItems ms h o
  side_items_kept o x = record {
    callback = maybe_item_kept core.Func o.callback x.callback;
    post_return = maybe_item_kept core.Func o.post_return x.post_return;
    model = model_items_kept o.data_model x.model;
  }

  -- an adapter
  pub holds_items_kept : (a : Adapter) → HoldsItems ms g a → HoldsItems ms h a
  holds_items_kept a x = record {
    func = is_item_kept ms g h grows core.Func a.func x.func;
    lift = side_items_kept a.lift_options x.lift;
    lower = side_items_kept a.lower_options x.lower;
  }

  -- what each adapter holds are items, where no more of them are made
  pub adapters_items_kept : h.adapters ≡ g.adapters
      → ((n : ℕ) (x : Adapter) → slice_get g.adapters n ≡ Some x → HoldsItems ms g x)
      → (n : ℕ) (x : Adapter) → slice_get h.adapters n ≡ Some x → HoldsItems ms h x
  adapters_items_kept same items n x at =
      holds_items_kept x (items n x (subst (λ xs. slice_get xs n ≡ Some x) same at))

-- the adapters are those of a log, in a graph that has no more of them
pub adapters_still : (old new : Types) (g h : ComponentDfg) → builder.KeepsTypes old new → graph.Grows g h
    → FitsBefore g h → h.adapters ≡ g.adapters → (log : List (Entry Mark)) → AdaptersStand old g log
    → AdaptersStand new h log
adapters_still old new g h types grows fits same log s = record {
  as_many = ap length same ∙ s.as_many;
  each = λ k v at. core_kept old new g h types grows fits (def.Adapter (record { 0 = k })) v (s.each k v at);
}

-- an entry that makes no adapter
makes_none : (e : Entry Mark) → is_made e ≡ false → made_adapter e ≡ None
makes_none (entry.instantiated i c) none = refl
makes_none (entry.declared_resource rep d c) none = refl
makes_none (entry.declared v) none = refl
makes_none (entry.made v) none = absurd (true≢false none)
makes_none (entry.needed p) none = refl

-- the adapters of a log with an entry more that makes none
pub adapters_of-none : (log : List (Entry Mark)) (e : Entry Mark) → is_made e ≡ false
    → adapters_of (log ++ e ∷ []) ≡ adapters_of log
adapters_of-none log e none =
    let last : filter_map made_adapter (e ∷ []) ≡ [] = rw (makes_none e none) refl in
    filter_map-append made_adapter log (e ∷ []) ∙ ap (λ vs. adapters_of log ++ vs) last ∙ append-nil (adapters_of log)

-- the adapters are those of a log with an entry more that makes none
pub adapters_logged : (types : Types) (g : ComponentDfg) (log : List (Entry Mark)) (e : Entry Mark)
    → is_made e ≡ false → AdaptersStand types g log → AdaptersStand types g (log ++ e ∷ [])
adapters_logged types g log e none s = record {
  as_many = s.as_many ∙ ap length (sym (adapters_of-none log e none));
  each = λ k v at. s.each k v (subst (λ vs. slice_get vs k ≡ Some v) (adapters_of-none log e none) at);
}
