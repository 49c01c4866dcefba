-- Tables in slots of the graph.
use Rattle.std.proofs.Common.{◌≡◌, ◌⊎◌, inl, inr, ◌≤◌, ℕ, List, length, map, Some, refl, sym, ap, subst, true, arith, ◌∙◌}
use Rattle.std.specs.Prelude.{slice_get}
use Rattle.std.proofs.lemmas.List.{length-map}
use Rattle.pc_entity.proofs.Growing.{kept_refl}
use Rattle.pc_info.specs.declared.core_def.ExportItem.TheVariants as item
use Rattle.pc_numbers.specs.declared.entity_index.EntityIndex.{EntityIndex}
use Rattle.pc_numbers.specs.declared.entity_index.EntityIndex.TheVariants as entity
use Rattle.pc_numbers.specs.declared.module_entity.TableIndex.{TableIndex}
use Rattle.pc_types.specs.declared.module_record.ModuleRecord.{ModuleRecord}
use Rattle.pc_types.specs.declared.parsed.CoreKind.TheVariants as core
use Rattle.pc_types.specs.declared.parsed.TypeTable.{TypeTable}
use Rattle.pc_types.specs.Record.{index_kind}
use Rattle.pc_spec_plan.specs.CoreValue.{CoreValue, a_value, value_part}
use Rattle.pc_spec_plan.specs.PlanView as plan
use Rattle.pc_trampoline.specs.declared.part.Part.TheVariants as part
use Rattle.pc_parsed.specs.Mark.{Mark}
use Rattle.pc_dfg.specs.declared.core_def.CoreDef.{CoreDef}
use Rattle.pc_dfg.specs.declared.core_def.CoreExport.{CoreExport}
use Rattle.pc_dfg.specs.declared.dfg.ComponentDfg.{ComponentDfg}
use Rattle.pc_dfg.specs.declared.ids.TableId.{TableId}
use Rattle.pc_dfg.specs.Grows as graph
use Rattle.pc_dfg.specs.Held.{IsHeld}
use Rattle.pc_dfg.specs.Lists as list
use Rattle.pc_dfg.specs.Numbers.{slots_of, table_def}
use Rattle.pc_dfg.specs.Ordered.{IsOrdered}
use Rattle.pc_dfg.specs.Pushed.{IsPut}
use Rattle.pc_inline_state.specs.declared.definition.CoreId.{CoreId}
use Rattle.pc_inline_state.specs.declared.state.State.{State}
use Rattle.pc_inline_state.specs.AddsEach.{AddsEach, in_options}
use Rattle.pc_inline_state.specs.Placed.{InSlot}
use Rattle.pc_inline_state.specs.Points.{IsFullSomewhere}
use Rattle.pc_inline_state.specs.Prepares.{Prepares}
use Rattle.pc_inline_state.specs.Stands.{ItemStands, some_stands}
use Rattle.pc_inline_state.specs.Tables.{IsItem, Keeps, Tables, is_entity, is_named, tables_of}
use Rattle.pc_inline_state.specs.Worlds.{slot_kind}
use Rattle.pc_inline_state.proofs.AddsPushLemmas.{Lists, changes_few, from_rest}
use Rattle.pc_inline_state.proofs.FitsLemmas.{fits_grown}
use Rattle.pc_inline_state.proofs.GrowthLemmas.{graph_crowded, graph_grown}
use Rattle.pc_inline_state.proofs.InstanceLemmas.{instances_kept, widths_kept}
use Rattle.pc_inline_state.proofs.PlacedLemmas.{placed_kept}
use Rattle.pc_inline_canon.proofs.CoreInstanceLemmas.{item_held}
use Rattle.pc_inline_canon.proofs.ItemLemmas.{items_kept, types_held, used_kept}
use Rattle.pc_inline_canon.proofs.MemoryLemmas.{map_at, map_from}
use Rattle.pc_inline_canon.proofs.SlotLemmas.{found_in_put, slot_held, slot_some}
use Rattle.pc_inline_builtins.specs.Made.{PartStands, is_table, is_table_item}
use Rattle.pc_inline_builtins.proofs.PartLemmas.{table_stands}

-- a table may be one
pub table_fits : (ms : List ModuleRecord) (g : ComponentDfg) (d : CoreDef) → IsItem ms g core.Table d
    → is_table d ≡ true
table_fits ms g d (is_entity {e = e} kind x) = by e kind
  where
    by : (e : EntityIndex) → index_kind e ≡ core.Table → is_table_item (item.Index e) ≡ true
    by (entity.Table n) is = refl
    by (entity.Function n) is = absurd (let k : ⊥ = cc in k)
    by (entity.Memory n) is = absurd (let k : ⊥ = cc in k)
    by (entity.Global n) is = absurd (let k : ⊥ = cc in k)
    by (entity.Tag n) is = absurd (let k : ⊥ = cc in k)
table_fits ms g d (is_named host) = refl

module _ (t : TypeTable) (ms : List ModuleRecord) (st : State) (h : ComponentDfg) (grows : graph.Grows st.graph h)
    (x : CoreExport TableIndex) (rest : h ≡ record st.graph { tables = h.tables })
    (put : IsPut st.graph.tables h.tables x) where
  -- the graph with these tables
  abbrev tabled : ComponentDfg
  tabled = record st.graph { tables = h.tables }

  tabled_grows : graph.Grows st.graph tabled
  tabled_grows = subst (graph.Grows st.graph) rest grows

  -- what is in the slots was there, or is the table
  tabled_slots : IsItem ms st.graph core.Table (table_def x) → (k : plan.SlotKind) (n : ℕ) (d : CoreDef)
      → slice_get (slots_of tabled k) n ≡ Some d
      → (slice_get (slots_of st.graph k) n ≡ Some d) ⊎ IsItem ms st.graph (slot_kind k) d
  unfolding slots_of
  tabled_slots is plan.table n d at =
      let m = map_from table_def h.tables n d at in
      elim (found_in_put st.graph.tables h.tables x put n m.0 m.1)
      as (λ _. (slice_get (map table_def st.graph.tables) n ≡ Some d) ⊎ IsItem ms st.graph core.Table d) [
        | inl before ↦ inl (map_at table_def st.graph.tables n m.0 before ∙ ap Some m.2)
        | inr same ↦ inr (subst (λ y. IsItem ms st.graph core.Table y) (ap table_def same ∙ m.2) is)
      ]
  tabled_slots is plan.memory n d at = inl at
  tabled_slots is plan.realloc n d at = inl at
  tabled_slots is plan.callback n d at = inl at
  tabled_slots is plan.post_return n d at = inl at

  -- one more table at most
  pub table_prepares : IsItem ms st.graph core.Table (table_def x)
      → (IsHeld st.graph (table_def x) → IsOrdered st.graph → IsOrdered h)
      → Prepares t ms st (record st { graph = h })
  table_prepares is ordered =
      let fits = fits_grown st.graph tabled tabled_grows refl refl in
      subst (λ (g : ComponentDfg). Prepares t ms st (record st { graph = g })) (sym rest) (record {
        keeps = graph_grown (tables_of st) tabled tabled_grows fits;
        sound = λ s. record {
          ordered = subst IsOrdered rest (ordered (item_held ms st.graph core.Table (table_def x) is) s.ordered);
          items = items_kept ms st.graph tabled tabled_grows refl (tabled_slots is) refl refl refl s.items;
          plain = record {
            adapter_modules = s.plain.adapter_modules;
            adapter_partitionings = s.plain.adapter_partitionings;
            unsafe_intrinsics = s.plain.unsafe_intrinsics;
          };
          used = used_kept st.graph tabled tabled_grows refl st.paths.held st.used.items s.used;
          numbers = s.numbers;
          held = types_held st.types t st.graph tabled fits refl refl s.held;
          table = s.table;
          bodies = s.bodies;
          names = s.names;
          members = s.members;
          instances = instances_kept ms (tables_of st) (tables_of (record st { graph = tabled }))
              (graph_grown (tables_of st) tabled tabled_grows fits) refl st.runtime_instances.items s.instances;
          widths = widths_kept t ms st.runtime_instances.items st.graph tabled refl s.widths;
          placed = placed_kept t ms st (record st { graph = tabled })
              (graph_grown (tables_of st) tabled tabled_grows fits) (kept_refl st.runtime_instances.items) refl s.placed;
        };
        resources = refl;
        side_effects = refl;
        instances = refl;
        trampolines = refl;
        adapters = refl;
        imports = refl;
        imported_resources = refl;
        declared_resources = refl;
        import_types = refl;
        begun = refl;
        unsafe_intrinsics = refl;
        exports = refl;
        export_items = refl;
        paths = refl;
        used = refl;
      })

  table_lists : Lists (tables_of st) in_options tabled
  unfolding slots_of
  table_lists (list.slots plan.table) =
      let few = changes_few st.graph.tables h.tables x put.0 in
      rw (length-map h.tables table_def, length-map st.graph.tables table_def) (omega (arith, few))
  table_lists (list.slots k) = omega arith
  table_lists l = omega arith

  -- and no more than that
  pub table_adds : AddsEach in_options 0 0 (tables_of st) (tables_of (record st { graph = h }))
  table_adds = from_rest (tables_of st) h in_options tabled rest table_lists refl refl

  -- there is no room for one more
  pub table_crowded : 4294967295 ≤ length st.graph.tables → IsFullSomewhere (tables_of (record st { graph = h }))
  unfolding slots_of
  table_crowded full =
      graph_crowded (tables_of (record st { graph = h })) st.graph grows (list.slots plan.table)
      (subst (λ n. 4294967295 ≤ n) (sym (length-map st.graph.tables table_def)) full)

-- a core item is in its table slot
pub in_table : (b : Tables) (id n : ℕ) (x : CoreExport TableIndex) (d : CoreDef) → slice_get b.cores id ≡ Some d
    → table_def x ≡ d → slice_get b.graph.tables n ≡ Some x → InSlot b plan.table id n
unfolding slots_of
in_table b id n x d held is at = record {
  definition = d;
  held = held;
  slotted = map_at table_def b.graph.tables n x at ∙ ap Some is;
}

-- and it is the part that it is by that slot
pub table_part_stands : (ms : List ModuleRecord) (b c : Tables) → Keeps b c → (n : TableId) (id : CoreId)
    → InSlot c plan.table id.0 n.0 → (v : CoreValue Mark) → ItemStands ms b core.Table id v
    → PartStands c (part.Table n) (value_part (a_value v))
table_part_stands ms b c keeps n id there v stands =
    table_stands c n (a_value v)
    (slot_some ms b c keeps core.Table plan.table id n.0 there (Some id) refl (a_value v) (some_stands stands))
    (slot_held c plan.table id.0 n.0 there)
