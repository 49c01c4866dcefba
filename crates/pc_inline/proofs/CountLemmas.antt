-- A graph whose counts of tables are set stands for what it stood for.
use Rattle.std.proofs.Common.{◌≡◌, ℕ, List, refl, arith}
use Rattle.pc_types.specs.declared.module_record.ModuleRecord.{ModuleRecord}
use Rattle.pc_types.specs.declared.parsed.TypeTable.{TypeTable}
use Rattle.pc_types_lists.specs.Types.{Types}
use Rattle.pc_spec_plan.specs.ExportNode.{NamedNode}
use Rattle.pc_spec_plan.specs.PlanView as plan
use Rattle.pc_parsed.specs.Mark.{Mark}
use Rattle.pc_spec_reading.specs.Reading.{Reading}
use Rattle.pc_spec_reading.specs.World.{World}
use Rattle.pc_dfg.specs.declared.dfg.ComponentDfg.{ComponentDfg}
use Rattle.pc_dfg.specs.Grows as graph
use Rattle.pc_dfg.specs.Lists as list
use Rattle.pc_dfg.specs.Numbers.{slots_of}
use Rattle.pc_dfg.specs.Ordered.{IsOrdered}
use Rattle.pc_dfg.proofs.AddLemmas.{Added, AllAdd, EntryFact, NewHeld, nothing}
use Rattle.pc_dfg.proofs.PushLemmas.{quiet}
use Rattle.pc_inline_exports.specs.Exports.{ExportsStand, NumbersExports}
use Rattle.pc_inline_state.specs.Worlds.{HasItems, HoldsTypes, IsPlain, WorldStands}
use Rattle.pc_inline_canon.proofs.ItemLemmas.{items_same, types_held}
use Rattle.pc_inline_state.specs.Fits.{FitsBefore}
use Rattle.pc_inline_state.proofs.FitsLemmas.{fits_grown}
use Rattle.pc_inline_state.proofs.StateLemmas.{types_refl}
use Rattle.pc_inline_exports.proofs.GrownLemmas.{names_still}
use Rattle.pc_inline_canon.proofs.WorldLemmas.{world_still}
use Rattle.pc_inline.specs.Widths.{AreWide}

module _ (g : ComponentDfg) (futures streams errors : ℕ) where
  -- the graph with these counts
  abbrev pub counted : ComponentDfg
  counted = record g {
    num_future_tables = futures;
    num_stream_tables = streams;
    num_error_context_tables = errors;
  }

  nothing_added : (P : EntryFact) → AllAdd P g counted
  unfolding slots_of
  nothing_added P (list.slots plan.memory) = nothing
  nothing_added P (list.slots plan.table) = nothing
  nothing_added P (list.slots plan.realloc) = nothing
  nothing_added P (list.slots plan.callback) = nothing
  nothing_added P (list.slots plan.post_return) = nothing
  nothing_added P list.import_types = nothing
  nothing_added P list.imports = nothing
  nothing_added P list.imported_resources = nothing
  nothing_added P list.options = nothing
  nothing_added P list.trampolines = nothing
  nothing_added P list.adapters = nothing
  nothing_added P list.adapter_modules = nothing
  nothing_added P list.adapter_partitionings = nothing
  nothing_added P list.instances = nothing
  nothing_added P list.resources = nothing
  nothing_added P list.side_effects = nothing
  nothing_added P list.export_items = nothing
  nothing_added P list.exports = nothing

  counted_grows : graph.Grows g counted
  counted_grows = record {
    lists = λ l. (nothing_added (λ l n x. Unit {0}) l).extends;
    component_instances = omega arith;
    signatures = λ place s at. at;
  }

  counted_fits : FitsBefore g counted
  counted_fits = fits_grown g counted counted_grows refl refl

  pub counted_ordered : IsOrdered g → IsOrdered counted
  counted_ordered o =
      let added : Added g counted = record {
        lists = nothing_added (NewHeld g counted);
        component_instances = omega arith;
        signatures = λ place s at. at;
      } in
      quiet g counted added o refl refl refl

  same_slots : (k : plan.SlotKind) → slots_of counted k ≡ slots_of g k
  unfolding slots_of
  same_slots plan.memory = refl
  same_slots plan.table = refl
  same_slots plan.realloc = refl
  same_slots plan.callback = refl
  same_slots plan.post_return = refl

  pub counted_items : (ms : List ModuleRecord) → HasItems ms g → HasItems ms counted
  counted_items ms = items_same ms g counted counted_grows refl same_slots refl refl refl

  pub counted_plain : IsPlain g → IsPlain counted
  counted_plain p = record {
    adapter_modules = p.adapter_modules;
    adapter_partitionings = p.adapter_partitionings;
    unsafe_intrinsics = p.unsafe_intrinsics;
  }

  pub counted_widths : (ms : List ModuleRecord) (r : Reading) → AreWide ms r g → AreWide ms r counted
  counted_widths ms r w = record { lift = w.lift; lower = w.lower }

  module _ (types : Types) where
    pub counted_holds : (t : TypeTable) → HoldsTypes types t g → HoldsTypes types t counted
    counted_holds t = types_held types t g counted counted_fits refl refl

    pub counted_world : (w : World) → WorldStands types g w → WorldStands types counted w
    counted_world w s =
        world_still types types g counted (types_refl types) counted_grows counted_fits refl refl refl refl refl refl
        refl refl refl refl w s

    pub counted_exports : (t : TypeTable) (nodes : List (NamedNode Mark)) → ExportsStand t types g nodes
        → ExportsStand t types counted nodes
    unfolding ExportsStand
    counted_exports t nodes s =
        names_still t types types g counted (types_refl types) counted_grows counted_fits g.exports nodes s

  pub counted_numbers : (nodes : List (NamedNode Mark)) → NumbersExports g nodes → NumbersExports counted nodes
  counted_numbers nodes n = record { as_many = n.as_many; last = n.last; whole = n.whole }
