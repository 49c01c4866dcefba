-- A graph that knows which of its adapters are transparent stands for what it stood for.
use Rattle.std.proofs.Common.{◌≡◌, List, refl, arith}
use Rattle.std.specs.FinSet as set
use Rattle.std.specs.Ordering.{nat_cmp}
use Rattle.pc_types.specs.declared.module_record.ModuleRecord.{ModuleRecord}
use Rattle.pc_types.specs.declared.parsed.TypeTable.{TypeTable}
use Rattle.pc_types_lists.specs.Types.{Types}
use Rattle.pc_spec_plan.specs.ExportNode.{NamedNode}
use Rattle.pc_spec_plan.specs.PlanView as plan
use Rattle.pc_parsed.specs.Mark.{Mark}
use Rattle.pc_spec_reading.specs.Reading.{Reading}
use Rattle.pc_spec_reading.specs.World.{World}
use Rattle.pc_dfg.specs.declared.dfg.ComponentDfg.{ComponentDfg}
use Rattle.pc_dfg.specs.Grows as graph
use Rattle.pc_dfg.specs.Lists as list
use Rattle.pc_dfg.specs.Numbers.{slots_of}
use Rattle.pc_dfg.specs.Ordered.{IsOrdered}
use Rattle.pc_dfg.specs.Told.{AreInterned}
use Rattle.pc_dfg.proofs.AddLemmas.{Added, AllAdd, EntryFact, NewHeld, nothing}
use Rattle.pc_dfg.proofs.PushLemmas.{quiet}
use Rattle.pc_inline_exports.specs.Exports.{ExportsStand, NumbersExports}
use Rattle.pc_inline_state.specs.Worlds.{HasItems, HoldsTypes, IsPlain, WorldStands}
use Rattle.pc_inline_canon.proofs.ItemLemmas.{items_same, types_held}
use Rattle.pc_inline_state.specs.Fits.{FitsBefore}
use Rattle.pc_inline_state.proofs.FitsLemmas.{fits_grown}
use Rattle.pc_inline_state.proofs.StateLemmas.{types_refl}
use Rattle.pc_inline_exports.proofs.GrownLemmas.{names_still}
use Rattle.pc_inline_canon.proofs.WorldLemmas.{world_still}
use Rattle.pc_inline.specs.Inlines.{GraphStands, last_world}
use Rattle.pc_inline.specs.Widths.{AreWide}

module _ (g : ComponentDfg) (s : set.FinSet nat_cmp) where
  -- the graph with these transparent adapters
  abbrev pub marked : ComponentDfg
  marked = record g { transparent_adapters = s }

  nothing_added : (P : EntryFact) → AllAdd P g marked
  unfolding slots_of
  nothing_added P (list.slots plan.memory) = nothing
  nothing_added P (list.slots plan.table) = nothing
  nothing_added P (list.slots plan.realloc) = nothing
  nothing_added P (list.slots plan.callback) = nothing
  nothing_added P (list.slots plan.post_return) = nothing
  nothing_added P list.import_types = nothing
  nothing_added P list.imports = nothing
  nothing_added P list.imported_resources = nothing
  nothing_added P list.options = nothing
  nothing_added P list.trampolines = nothing
  nothing_added P list.adapters = nothing
  nothing_added P list.adapter_modules = nothing
  nothing_added P list.adapter_partitionings = nothing
  nothing_added P list.instances = nothing
  nothing_added P list.resources = nothing
  nothing_added P list.side_effects = nothing
  nothing_added P list.export_items = nothing
  nothing_added P list.exports = nothing

  pub marked_grows : graph.Grows g marked
  marked_grows = record {
    lists = λ l. (nothing_added (λ l n x. Unit {0}) l).extends;
    component_instances = omega arith;
    signatures = λ place s at. at;
  }

  pub marked_fits : FitsBefore g marked
  marked_fits = fits_grown g marked marked_grows refl refl

  pub marked_ordered : IsOrdered g → IsOrdered marked
  marked_ordered o =
      let added : Added g marked = record {
        lists = nothing_added (NewHeld g marked);
        component_instances = omega arith;
        signatures = λ place s at. at;
      } in
      quiet g marked added o refl refl refl

  same_slots : (k : plan.SlotKind) → slots_of marked k ≡ slots_of g k
  unfolding slots_of
  same_slots plan.memory = refl
  same_slots plan.table = refl
  same_slots plan.realloc = refl
  same_slots plan.callback = refl
  same_slots plan.post_return = refl

  marked_items : (ms : List ModuleRecord) → HasItems ms g → HasItems ms marked
  marked_items ms = items_same ms g marked marked_grows refl same_slots refl refl refl

  marked_plain : IsPlain g → IsPlain marked
  marked_plain p = record {
    adapter_modules = p.adapter_modules;
    adapter_partitionings = p.adapter_partitionings;
    unsafe_intrinsics = p.unsafe_intrinsics;
  }

  marked_widths : (ms : List ModuleRecord) (r : Reading) → AreWide ms r g → AreWide ms r marked
  marked_widths ms r w = record { lift = w.lift; lower = w.lower }

  -- its entries stay interned
  pub marked_interned : AreInterned g → AreInterned marked
  marked_interned i = record {
    memories = i.memories;
    tables = i.tables;
    reallocs = i.reallocs;
    callbacks = i.callbacks;
    post_returns = i.post_returns;
    trampolines = i.trampolines;
    options = i.options;
    adapters = i.adapters;
  }

  module _ (types : Types) where
    marked_holds : (t : TypeTable) → HoldsTypes types t g → HoldsTypes types t marked
    marked_holds t = types_held types t g marked marked_fits refl refl

    pub marked_world : (w : World) → WorldStands types g w → WorldStands types marked w
    marked_world w stands =
        world_still types types g marked (types_refl types) marked_grows marked_fits refl refl refl refl refl refl refl
        refl refl refl w stands

    pub marked_exports : (t : TypeTable) (nodes : List (NamedNode Mark)) → ExportsStand t types g nodes
        → ExportsStand t types marked nodes
    unfolding ExportsStand
    marked_exports t nodes stands =
        names_still t types types g marked (types_refl types) marked_grows marked_fits g.exports nodes stands

  marked_numbers : (nodes : List (NamedNode Mark)) → NumbersExports g nodes → NumbersExports marked nodes
  marked_numbers nodes n = record { as_many = n.as_many; last = n.last; whole = n.whole }

  -- the whole
  pub marked_stands : (t : TypeTable) (ms : List ModuleRecord) (types : Types) (r : Reading)
      → GraphStands t ms types g r → GraphStands t ms types marked r
  marked_stands t ms types r stands = record {
    world = marked_world types (last_world r) stands.world;
    exports = marked_exports types t r.nodes stands.exports;
    numbers = marked_numbers r.nodes stands.numbers;
    ordered = marked_ordered stands.ordered;
    items = marked_items ms stands.items;
    plain = marked_plain stands.plain;
    widths = marked_widths ms r stands.widths;
    held = marked_holds types t stands.held;
    future_tables = stands.future_tables;
    stream_tables = stands.stream_tables;
    error_context_tables = stands.error_context_tables;
  }
