-- A state in which one more component instance has begun.
use Rattle.std.proofs.Common.{◌≡◌, ℕ, ◌+◌, List, Option, Some, length, refl, ap, arith}
use Rattle.std.specs.Prelude.{slice_get}
use Rattle.pc_entity.proofs.Growing.{kept_refl}
use Rattle.pc_types.specs.declared.module_record.ModuleRecord.{ModuleRecord}
use Rattle.pc_types.specs.declared.parsed.CoreKind.{CoreKind}
use Rattle.pc_types.specs.declared.parsed.TypeTable.{TypeTable}
use Rattle.pc_types_lists.specs.Types.{Types}
use Rattle.pc_spec_plan.specs.Log.{trace}
use Rattle.pc_spec_plan.specs.PlanView as plan
use Rattle.pc_spec_reading.specs.World.{World}
use Rattle.pc_dfg.specs.declared.core_def.CoreDef.{CoreDef}
use Rattle.pc_dfg.specs.declared.dfg.ComponentDfg.{ComponentDfg}
use Rattle.pc_dfg.specs.Grows as graph
use Rattle.pc_dfg.specs.Effects.{Argument, host_arguments}
use Rattle.pc_dfg.specs.Lists as list
use Rattle.pc_dfg.specs.Lists.{ListName, entries_of}
use Rattle.pc_dfg.specs.Numbers.{slots_of}
use Rattle.pc_dfg.specs.Ordered.{IsOrdered}
use Rattle.pc_dfg.specs.Pushed.{with_component_instance}
use Rattle.pc_dfg.proofs.AddLemmas.{Added, AllAdd, EntryFact, NewHeld, nothing}
use Rattle.pc_dfg.proofs.AllLemmas.{all_more}
use Rattle.pc_dfg.proofs.PushLemmas.{quiet}
use Rattle.pc_inline_state.specs.declared.state.State.{State}
use Rattle.pc_inline_state.specs.Points.{IsSoundState}
use Rattle.pc_inline_state.specs.Adds.{Adds}
use Rattle.pc_inline_state.specs.Tables.{IsItem, Keeps, tables_of}
use Rattle.pc_inline_state.specs.Worlds.{EffectStands, HasItems, HasNoExports, ImportStands, WorldStands}
use Rattle.pc_inline_state.proofs.AddsLemmas.{adds_refl}
use Rattle.pc_inline_state.proofs.GainedLemmas.{tables_none}
use Rattle.pc_inline_state.proofs.FitsLemmas.{fits_grown}
use Rattle.pc_inline_state.proofs.GrowthLemmas.{graph_grown}
use Rattle.pc_inline_state.proofs.IntrinsicLemmas.{intrinsics_kept}
use Rattle.pc_inline_state.proofs.InstanceLemmas.{instances_kept, widths_kept}
use Rattle.pc_inline_canon.proofs.AdapterKeptLemmas.{adapters_items_kept, adapters_still}
use Rattle.pc_inline_canon.proofs.KeptLemmas.{is_item_kept}
use Rattle.pc_inline_state.proofs.PlacedLemmas.{placed_kept}
use Rattle.pc_inline_state.proofs.StateLemmas.{module_grows, types_refl}
use Rattle.pc_inline_canon.proofs.WorldLemmas.{declared_still, effect_still, import_still, imported_same}
use Rattle.pc_inline_canon.proofs.WorldLemmas.{trampoline_still}
use Rattle.pc_inline_state.proofs.ZipLemmas.{zip_more}

-- its graph
abbrev pub begun_graph : ComponentDfg → ComponentDfg
begun_graph g = with_component_instance g

begun_all_add : (P : EntryFact) (g : ComponentDfg) → AllAdd P g (begun_graph g)
unfolding slots_of
begun_all_add P g (list.slots plan.memory) = nothing
begun_all_add P g l = nothing

-- it has grown
pub begun_grows : (g : ComponentDfg) → graph.Grows g (begun_graph g)
begun_grows g = record {
  lists = λ l. (begun_all_add (λ l n x. Unit {0}) g l).extends;
  component_instances = omega arith;
  signatures = λ place s at. at;
}

-- it keeps its order
pub begun_ordered : (g : ComponentDfg) → IsOrdered g → IsOrdered (begun_graph g)
begun_ordered g ordered =
    let added : Added g (begun_graph g) = record {
      lists = begun_all_add (NewHeld g (begun_graph g)) g;
      component_instances = omega arith;
      signatures = λ place s at. at;
    } in
    quiet g (begun_graph g) added ordered refl refl refl

module _ (g : ComponentDfg) (grows : graph.Grows g (begun_graph g)) where
  begun_items : (ms : List ModuleRecord) → HasItems ms g → HasItems ms (begun_graph g)
  unfolding slots_of
  begun_items ms h = record {
    modules = λ i m args at.
        let old = h.modules i m args at in (
          old.0,
          old.1,
          old.2,
          all_more (λ d. (k : CoreKind) × IsItem ms g k d) (λ d. (k : CoreKind) × IsItem ms (begun_graph g) k d)
              (λ d x. (x.0, is_item_kept ms g (begun_graph g) grows x.0 d x.1)) args old.3,
        );
    slots = λ k n d at. is_item_kept ms g (begun_graph g) grows _ d (h.slots k n d (same k n d at));
    hosts = λ i r args at. all_more (λ (a : Argument). (k : CoreKind) × IsItem ms g k a.1.1)
        (λ (a : Argument). (k : CoreKind) × IsItem ms (begun_graph g) k a.1.1)
        (λ a x. (x.0, is_item_kept ms g (begun_graph g) grows x.0 a.1.1 x.1)) (host_arguments args)
        (h.hosts i r args at);
    destructors = λ n x d at is. is_item_kept ms g (begun_graph g) grows _ d (h.destructors n x d at is);
    adapters = adapters_items_kept ms g (begun_graph g) grows refl h.adapters;
    exports = λ n ty o d at. is_item_kept ms g (begun_graph g) grows _ d (h.exports n ty o d at);
    statics = λ n ty m at. h.statics n ty m at;
  }
    where
      same : (k : plan.SlotKind) (n : ℕ) (d : CoreDef) → slice_get (slots_of (begun_graph g) k) n ≡ Some d
          → slice_get (slots_of g k) n ≡ Some d
      same plan.memory n d at = at
      same plan.table n d at = at
      same plan.realloc n d at = at
      same plan.callback n d at = at
      same plan.post_return n d at = at

  -- it does what the log says, whatever is counted
  pub begun_stands : (types : Types) (w : World) (total : Option ℕ) → WorldStands types g w
      → WorldStands types (begun_graph g) (record w { begun = w.begun + 1; total = total })
  begun_stands types w total s =
      let still = types_refl types in
      let fits = fits_grown g (begun_graph g) grows refl refl in
      let one = s.begun in
      record {
        effects = zip_more (EffectStands types g) (EffectStands types (begun_graph g))
            (effect_still types types g (begun_graph g) still grows fits) g.side_effects (trace w.log) s.effects;
        order = s.order;
        are_declared = λ k x at. declared_still types types g (begun_graph g) still grows fits w.log k x
            (s.are_declared k x at);
        trampolines = λ d entry. trampoline_still types types g (begun_graph g) still grows fits d
            (s.trampolines d entry);
        few_trampolines = s.few_trampolines;
        import_types = zip_more (ImportStands types g) (ImportStands types (begun_graph g))
            (import_still types types g (begun_graph g) still grows fits) g.import_types w.imports s.import_types;
        imports = s.imports;
        imported_resources = imported_same g (begun_graph g) grows refl w.imported_resources s.imported_resources;
        resources_apart = s.resources_apart;
        resources = s.resources;
        intrinsics = intrinsics_kept types g w.intrinsics s.intrinsics types (begun_graph g) still.signatures refl;
        adapters = adapters_still types types g (begun_graph g) still grows fits refl w.log s.adapters;
        begun = ap (λ n. n + 1) one;
      }

  pub begun_unexported : HasNoExports g → HasNoExports (begun_graph g)
  begun_unexported h = record { exports = h.exports; items = h.items }

-- its tables grew
pub begun_keeps : (st : State) → graph.Grows st.graph (begun_graph st.graph)
    → Keeps (tables_of st) (tables_of (record st { graph = begun_graph st.graph }))
begun_keeps st grows =
    graph_grown (tables_of st) (begun_graph st.graph) grows
    (fits_grown st.graph (begun_graph st.graph) grows refl refl)

-- it is in order
pub begun_sound : (t : TypeTable) (ms : List ModuleRecord) (st : State) → graph.Grows st.graph (begun_graph st.graph)
    → (IsOrdered st.graph → IsOrdered (begun_graph st.graph))
    → IsSoundState t ms st → IsSoundState t ms (record st { graph = begun_graph st.graph })
begun_sound t ms st grows ordered s = record {
  ordered = ordered s.ordered;
  items = begun_items st.graph grows ms s.items;
  plain = record {
    adapter_modules = s.plain.adapter_modules;
    adapter_partitionings = s.plain.adapter_partitionings;
    unsafe_intrinsics = s.plain.unsafe_intrinsics;
  };
  used = record {
    room = s.used.room;
    distinct = s.used.distinct;
    imports = s.used.imports;
    numbers = s.used.numbers;
    others = s.used.others;
    known = s.used.known;
  };
  numbers = s.numbers;
  held = record {
    options = s.held.options;
    modules = λ n ty m at. module_grows st.types st.types (types_refl st.types) t st.graph (begun_graph st.graph)
        (fits_grown st.graph (begun_graph st.graph) grows refl refl) ty (s.held.modules n ty m at);
  };
  table = s.table;
  bodies = s.bodies;
  names = s.names;
  members = s.members;
  instances = instances_kept ms (tables_of st) (tables_of (record st { graph = begun_graph st.graph }))
      (begun_keeps st grows) refl st.runtime_instances.items s.instances;
  widths = widths_kept t ms st.runtime_instances.items st.graph (begun_graph st.graph) refl s.widths;
  placed = placed_kept t ms st (record st { graph = begun_graph st.graph }) (begun_keeps st grows)
      (kept_refl st.runtime_instances.items) refl s.placed;
}

begun_lists : (g : ComponentDfg) (l : ListName) → length (entries_of (begun_graph g) l) ≡ length (entries_of g l)
unfolding slots_of
begun_lists g (list.slots plan.memory) = refl
begun_lists g (list.slots plan.table) = refl
begun_lists g (list.slots plan.realloc) = refl
begun_lists g (list.slots plan.callback) = refl
begun_lists g (list.slots plan.post_return) = refl
begun_lists g l = refl

-- by one component instance
pub begun_adds : (t : TypeTable) (st : State)
    → Adds t 1 (tables_of st) (tables_of (record st { graph = begun_graph st.graph }))
begun_adds t st =
    let still = adds_refl t 1 (tables_of st) in
    record {
      types = still.types;
      tables = tables_none t (st.graph.num_runtime_component_instances + 1) st.types st.types refl;
      entries = record {
        lists = λ l. let same = begun_lists st.graph l in omega (arith, same);
        cores = still.entries.cores;
        definitions = still.entries.definitions;
        closures = still.entries.closures;
        instances = still.entries.instances;
        begun = omega arith;
        resources = still.entries.resources;
      };
      grows = still.grows;
      later = omega arith;
    }
