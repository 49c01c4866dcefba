-- What a graph holds is held as it grows: items, and the numbers of the host items that are used.
use Rattle.std.proofs.Common.{◌≡◌, ◌⊎◌, inl, inr, ℕ, List, map, All, Option, Some, false, sym, subst}
use Rattle.std.specs.Prelude.{slice_get}
use Rattle.std.specs.List.{list_any}
use Rattle.pc_numbers.specs.declared.component_entity.StaticModuleIndex.{StaticModuleIndex}
use Rattle.pc_numbers.specs.declared.runtime.RuntimeImportIndex.{RuntimeImportIndex}
use Rattle.pc_types.specs.declared.module_record.ModuleRecord.{ModuleRecord}
use Rattle.pc_types.specs.declared.parsed.CoreKind.{CoreKind}
use Rattle.pc_types.specs.declared.parsed.CoreKind.TheVariants as core
use Rattle.pc_types.specs.declared.parsed.TypeTable.{TypeTable}
use Rattle.pc_types.specs.TypeTree.{Path}
use Rattle.pc_types_lists.specs.Types.{Types}
use Rattle.pc_spec_plan.specs.PlanView as plan
use Rattle.pc_spec_reading.specs.SameTypes.{same_path}
use Rattle.pc_dfg.specs.declared.adapter.Adapter.{Adapter}
use Rattle.pc_dfg.specs.declared.core_def.CoreDef.{CoreDef}
use Rattle.pc_dfg.specs.declared.dfg.ComponentDfg.{ComponentDfg}
use Rattle.pc_dfg.specs.declared.export.Export.TheVariants as export
use Rattle.pc_dfg.specs.declared.instance.Instance.TheVariants as source
use Rattle.pc_dfg.specs.Effects.{Argument, host_arguments}
use Rattle.pc_dfg.specs.Grows as graph
use Rattle.pc_dfg.specs.Lists as list
use Rattle.pc_dfg.specs.Numbers.{slots_of}
use Rattle.pc_dfg.proofs.AllLemmas.{all_more}
use Rattle.pc_dfg.proofs.GrowLemmas.{within}
use Rattle.pc_inline_state.specs.Fits.{FitsBefore, path_of}
use Rattle.pc_inline_state.specs.Tables.{IsItem}
use Rattle.pc_inline_state.specs.Worlds.{AreUsed, HasItems, HoldsItems, HoldsModule, HoldsTypes, slot_kind}
use Rattle.pc_inline_state.proofs.StateLemmas.{module_grows, types_refl}
use Rattle.pc_inline_canon.proofs.AdapterKeptLemmas.{adapters_items_kept}
use Rattle.pc_inline_canon.proofs.KeptLemmas.{is_item_kept}

module _ (ms : List ModuleRecord) (g h : ComponentDfg) (grows : graph.Grows g h) where
  -- the arguments of a handed-in module are core items
  pub arguments_more : (args : List CoreDef) → All (λ d. (k : CoreKind) × IsItem ms g k d) args
      → All (λ d. (k : CoreKind) × IsItem ms h k d) args
  arguments_more args all = all_more (λ d. (k : CoreKind) × IsItem ms g k d)
      (λ d. (k : CoreKind) × IsItem ms h k d)
      (λ d x. (x.0, is_item_kept ms g h grows x.0 d x.1)) args all

  -- and so are those of a module of the host
  pub host_arguments_more : (args : List Argument) → All (λ (a : Argument). (k : CoreKind) × IsItem ms g k a.1.1) args
      → All (λ (a : Argument). (k : CoreKind) × IsItem ms h k a.1.1) args
  host_arguments_more args all = all_more (λ (a : Argument). (k : CoreKind) × IsItem ms g k a.1.1)
      (λ (a : Argument). (k : CoreKind) × IsItem ms h k a.1.1)
      (λ a x. (x.0, is_item_kept ms g h grows x.0 a.1.1 x.1)) args all

  -- each definition is an item, where slots alone are more, with items in them, and adapters, which hold items
  pub items_with : h.instances ≡ g.instances
      → ((k : plan.SlotKind) (n : ℕ) (d : CoreDef) → slice_get (slots_of h k) n ≡ Some d
      → (slice_get (slots_of g k) n ≡ Some d) ⊎ IsItem ms g (slot_kind k) d)
      → h.resources ≡ g.resources → h.export_items ≡ g.export_items
      → ((n : ℕ) (x : Adapter) → slice_get h.adapters n ≡ Some x → HoldsItems ms h x) → HasItems ms g → HasItems ms h
  items_with instances slots resources exports adapters items = record {
    modules = λ i m args at.
        let old = items.modules i m args
        (subst (λ xs. slice_get xs i ≡ Some (source.Static m args)) instances at) in
        (old.0, old.1, old.2, arguments_more args old.3);
    slots = λ k n d at. is_item_kept ms g h grows (slot_kind k) d
        (elim (slots k n d at) as (λ _. IsItem ms g (slot_kind k) d) [
          | inl before ↦ items.slots k n d before
          | inr item ↦ item
        ]);
    hosts = λ i r args at. host_arguments_more (host_arguments args)
        (items.hosts i r args (subst (λ xs. slice_get xs i ≡ Some (source.Import r args)) instances at));
    destructors = λ n x d at has. is_item_kept ms g h grows core.Func d
        (items.destructors n x d (subst (λ xs. slice_get xs n ≡ Some x) resources at) has);
    adapters = adapters;
    exports = λ n ty o d at. is_item_kept ms g h grows core.Func d
        (items.exports n ty o d (subst (λ xs. slice_get xs n ≡ Some (export.LiftedFunction ty d o)) exports at));
    statics = λ n ty m at. items.statics n ty m
        (subst (λ xs. slice_get xs n ≡ Some (export.ModuleStatic ty m)) exports at);
  }

  -- the same where adapters are as they were
  pub items_kept : h.instances ≡ g.instances
      → ((k : plan.SlotKind) (n : ℕ) (d : CoreDef) → slice_get (slots_of h k) n ≡ Some d
      → (slice_get (slots_of g k) n ≡ Some d) ⊎ IsItem ms g (slot_kind k) d)
      → h.resources ≡ g.resources → h.export_items ≡ g.export_items → h.adapters ≡ g.adapters → HasItems ms g
      → HasItems ms h
  items_kept instances slots resources exports adapters items =
      items_with instances slots resources exports (adapters_items_kept ms g h grows adapters items.adapters) items

  -- the same where slots are as they were
  pub items_same : h.instances ≡ g.instances → ((k : plan.SlotKind) → slots_of h k ≡ slots_of g k)
      → h.resources ≡ g.resources → h.export_items ≡ g.export_items → h.adapters ≡ g.adapters → HasItems ms g
      → HasItems ms h
  items_same instances slots =
      items_kept instances (λ k n d at. inl (subst (λ xs. slice_get xs n ≡ Some d) (slots k) at))

-- host items that are used have their numbers, where no more of them are used
pub used_kept : (g h : ComponentDfg) → graph.Grows g h → h.imports ≡ g.imports → (paths : List Path)
    (used : List (Option RuntimeImportIndex)) → AreUsed g paths used → AreUsed h paths used
used_kept g h grows imports paths used are = record {
  room = are.room;
  distinct = are.distinct;
  imports = λ p path at. within g h grows list.import_types path.import (are.imports p path at);
  numbers = λ p path r at set. subst (λ is. slice_get is r.0 ≡ Some (record { 0 = path.import }, path.names))
      (sym imports) (are.numbers p path r at set);
  others = λ p path at none. subst (λ is. list_any (same_path path) (map path_of is) ≡ false) (sym imports)
      (are.others p path at none);
  known = λ k x at. are.known k x (subst (λ is. slice_get is k ≡ Some x) imports at);
}

-- the types of handed-in modules that are exported are held, where no more of them are
pub modules_held : (types : Types) (t : TypeTable) (g h : ComponentDfg) → FitsBefore g h
    → h.export_items ≡ g.export_items → HoldsTypes types t g → (n ty : ℕ) (m : StaticModuleIndex)
    → slice_get h.export_items n ≡ Some (export.ModuleStatic ty m) → HoldsModule types t h ty
modules_held types t g h fits exports held n ty m at =
    module_grows types types (types_refl types) t g h fits ty
    (held.modules n ty m (subst (λ xs. slice_get xs n ≡ Some (export.ModuleStatic ty m)) exports at))

-- and so are the signatures that options name
pub types_held : (types : Types) (t : TypeTable) (g h : ComponentDfg) → FitsBefore g h → h.options ≡ g.options
    → h.export_items ≡ g.export_items → HoldsTypes types t g → HoldsTypes types t h
types_held types t g h fits options exports held = record {
  options = λ k x at. held.options k x (subst (λ xs. slice_get xs k ≡ Some x) options at);
  modules = modules_held types t g h fits exports held;
}
