-- Where nothing was read yet but that the root has begun.
use Rattle.std.proofs.Common.{◌≡◌, ◌<◌, ℕ, List, [], Some, length, refl, sym, ap, subst, arith}
use Rattle.std.specs.Prelude.{slice_get}
use Rattle.std.proofs.lemmas.Option.{none-some}
use Rattle.pc_types_lists.specs.Types.{Resources, Types}
use Rattle.pc_types_builder.specs.Plain.{Layers}
use Rattle.pc_types_builder.specs.Converted.{AreConverted}
use Rattle.pc_numbers.specs.declared.runtime.RuntimeComponentInstanceIndex.{RuntimeComponentInstanceIndex}
use Rattle.pc_types.specs.declared.module_record.ModuleRecord.{ModuleRecord}
use Rattle.pc_types.specs.declared.parsed.TypeTable.{TypeTable}
use Rattle.pc_spec_plan.specs.PlanView as plan
use Rattle.pc_dfg.specs.declared.core_def.CoreDef.{CoreDef}
use Rattle.pc_dfg.specs.declared.dfg.ComponentDfg.{ComponentDfg}
use Rattle.pc_dfg.specs.Empty.{empty_graph}
use Rattle.pc_dfg.specs.Held.{HasBegun}
use Rattle.pc_dfg.specs.Numbers.{slots_of}
use Rattle.pc_dfg.specs.Ordered.{IsOrdered}
use Rattle.pc_dfg.specs.Pushed.{with_component_instance}
use Rattle.pc_local.specs.Sound.{AreSoundBodies}
use Rattle.pc_inline_state.specs.declared.frame.Frame.{Frame}
use Rattle.pc_inline_state.specs.declared.instance_module.InstanceModule.{InstanceModule}
use Rattle.pc_inline_state.specs.declared.state.State.{State}
use Rattle.pc_inline_state.specs.Frames.{neither}
use Rattle.pc_inline_state.specs.Fresh.{IsFresh}
use Rattle.pc_inline_state.specs.Instances.{HaveWidths, InstancesStand}
use Rattle.pc_inline_state.specs.KnowsSame.{KnowsSame}
use Rattle.pc_inline_state.specs.Members.{AreEarlier}
use Rattle.pc_inline_state.specs.Points.{AreItsNames, IsSoundState, PointStands}
use Rattle.pc_inline_state.specs.Tables.{Tables, tables_of}
use Rattle.pc_inline_state.specs.Typed.{no_resources}
use Rattle.pc_inline_state.specs.Worlds.{AreUsed, HasItems, HoldsTypes, IsPlain, WorldStands}
use Rattle.pc_spec_reading.specs.Asked.{paths_needed}
use Rattle.pc_inline_state.proofs.IntrinsicLemmas.{intrinsics_kept, no_intrinsics}
use Rattle.pc_inline_state.proofs.MembersLemmas.{none_earlier}
use Rattle.pc_inline_state.proofs.PlacedLemmas.{none_placed}
use Rattle.pc_inline_state.proofs.StateLemmas.{types_refl}
use Rattle.pc_inline.proofs.RootLemmas.{first_moment, first_world}

-- the graph of a root that has begun
abbrev first_graph : ComponentDfg
first_graph = with_component_instance empty_graph

no_slot : (k : plan.SlotKind) (n : ℕ) (d : CoreDef) → slice_get (slots_of first_graph k) n ≡ Some d → ⊥
unfolding slots_of
no_slot plan.memory n d at = none-some d at
no_slot plan.table n d at = none-some d at
no_slot plan.realloc n d at = none-some d at
no_slot plan.callback n d at = none-some d at
no_slot plan.post_return n d at = none-some d at

first_items : (ms : List ModuleRecord) → HasItems ms first_graph
first_items ms = record {
  modules = λ i m args at. absurd (none-some _ at);
  slots = λ k n d at. absurd (no_slot k n d at);
  hosts = λ i r args at. absurd (none-some _ at);
  destructors = λ n x d at has. absurd (none-some x at);
  adapters = λ n x at. absurd (none-some x at);
  exports = λ n ty o d at. absurd (none-some _ at);
  statics = λ n ty m at. absurd (none-some _ at);
}

first_plain : IsPlain first_graph
first_plain = record { adapter_modules = refl; adapter_partitionings = refl; unsafe_intrinsics = refl }

first_holds : (types : Types) (t : TypeTable) → HoldsTypes types t first_graph
first_holds types t = record {
  options = λ k x at. absurd (none-some x at);
  modules = λ n ty m at. absurd (none-some _ at);
}

first_used : AreUsed first_graph [] []
first_used = record {
  room = refl;
  distinct = λ i j x at also. absurd (none-some x at);
  imports = λ p path at. absurd (none-some path at);
  numbers = λ p path r at set. absurd (none-some path at);
  others = λ p path at free. absurd (none-some path at);
  known = λ r i at. absurd (none-some i at);
}

first_done : (types : Types) (total : ℕ) → WorldStands types first_graph (first_world total)
unfolding paths_needed
first_done types total = record {
  effects = tt;
  order = refl;
  are_declared = λ k x at. absurd (none-some x at);
  trampolines = λ v entry. let below : entry.0 < 0 = entry.1 in absurd (omega (arith, below));
  few_trampolines = omega arith;
  import_types = tt;
  imports = refl;
  imported_resources = tt;
  resources_apart = λ i j x at also. absurd (none-some x at);
  resources = refl;
  intrinsics = intrinsics_kept types empty_graph [] (no_intrinsics types) types first_graph (types_refl types).signatures
      refl;
  adapters = record { as_many = refl; each = λ k v at. absurd (none-some v at) };
  begun = refl;
}

-- no core instance is made
first_instances : (ms : List ModuleRecord) (b : Tables) → b.graph ≡ first_graph → InstancesStand ms b []
first_instances ms b graph = record {
  as_many = sym (ap (λ (g : ComponentDfg). length g.instances) graph);
  each = λ n m at. absurd (none-some m at);
}

-- and no adapter has a memory
first_widths : (t : TypeTable) (ms : List ModuleRecord) (modules : List InstanceModule)
    → HaveWidths t ms modules first_graph
first_widths t ms modules = record {
  lift = λ n x at. absurd (none-some x at);
  lower = λ n x at. absurd (none-some x at);
}

-- the component instance in which nothing was read, with what was converted for it
abbrev pub first_frame : RuntimeComponentInstanceIndex → Layers → Frame
first_frame c done = record {
  core_funcs = [];
  memories = [];
  tables = [];
  globals = [];
  tags = [];
  modules = [];
  funcs = [];
  components = [];
  instances = [];
  core_instances = [];
  arguments = [];
  component_instance = c;
  converted = done;
  changes = [];
}

-- no resource is known at first
first_knows : (g : ComponentDfg) (k : Resources) (total : ℕ) → k ≡ no_resources
    → KnowsSame g k (first_moment total).scope
first_knows g k total none = subst (λ j. KnowsSame g j (first_moment total).scope) (sym none) (record {
  known = λ n. neither;
  current = refl;
})

-- a state in which the root has begun and nothing was read is sound
first_sound : (t : TypeTable) (ms : List ModuleRecord) (old : State) → IsFresh t old
    → AreSoundBodies (length ms) old.bodies.now → AreItsNames t ms old.names.now old.bodies.now old.paths.names
    → (g : ComponentDfg) → g ≡ first_graph → IsOrdered g → IsSoundState t ms (record old { graph = g })
first_sound t ms old fresh bodies names g graph ordered = record {
  ordered = ordered;
  items = subst (HasItems ms) (sym graph) (first_items ms);
  plain = subst IsPlain (sym graph) first_plain;
  used = subst (λ us. AreUsed g old.paths.held us) (sym fresh.used)
      (subst (λ ps. AreUsed g ps []) (sym fresh.paths) (subst (λ h. AreUsed h [] []) (sym graph) first_used));
  numbers = fresh.numbers;
  held = subst (HoldsTypes old.types t) (sym graph) (first_holds old.types t);
  table = fresh.table;
  bodies = bodies;
  names = names;
  members = subst (λ ds. AreEarlier ds old.instances) (sym fresh.definitions)
      (subst (AreEarlier []) (sym fresh.instances) none_earlier);
  instances = subst (InstancesStand ms (tables_of (record old { graph = g }))) (sym fresh.runtime_instances)
      (first_instances ms (tables_of (record old { graph = g })) graph);
  widths = subst (HaveWidths t ms old.runtime_instances.items) (sym graph)
      (first_widths t ms old.runtime_instances.items);
  placed = none_placed t ms (record old { graph = g }) fresh.places;
}

-- and is where the reading begins
pub first_point : (t : TypeTable) (ms : List ModuleRecord) (old : State) → IsFresh t old
    → AreSoundBodies (length ms) old.bodies.now → AreItsNames t ms old.names.now old.bodies.now old.paths.names
    → (g : ComponentDfg) → g ≡ first_graph → IsOrdered g → (c : RuntimeComponentInstanceIndex) → c.0 ≡ 0
    → (done : Layers) → AreConverted old.types t done → (total : ℕ)
    → PointStands t ms (record old { graph = g }) (first_frame c done) (first_moment total)
first_point t ms old fresh bodies names g graph ordered c zero done none total = record {
  sound = first_sound t ms old fresh bodies names g graph ordered;
  here = first_knows g old.types.resources total fresh.resources;
  converted = none;
  frame = record {
    core_funcs = tt;
    memories = tt;
    tables = tt;
    globals = tt;
    tags = tt;
    modules = tt;
    funcs = tt;
    core_instances = tt;
    instances = tt;
    components = tt;
    arguments = λ n name is. neither;
    component_instance = sym zero;
    begun = subst (λ h. HasBegun h c.0) (sym graph) (omega (arith, zero));
  };
  world = subst (λ h. WorldStands old.types h (first_world total)) (sym graph) (first_done old.types total);
  unexported = record {
    exports = ap (λ h. h.exports) graph;
    items = ap (λ h. h.export_items) graph;
  };
}
