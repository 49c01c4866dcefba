-- Other resources are known, or types are converted for another component instance: what waits knows what it knew.
use Rattle.std.proofs.Common.{◌≡◌, ℕ, List, refl, sym, ◌∙◌}
use Rattle.pc_entity.proofs.Growing.{kept_refl}
use Rattle.pc_types.specs.declared.module_record.ModuleRecord.{ModuleRecord}
use Rattle.pc_types.specs.declared.parsed.TypeTable.{TypeTable}
use Rattle.pc_types_lists.specs.Known.{resource_of}
use Rattle.pc_types_lists.specs.Types.{KeepsTypes, Resources, Types}
use Rattle.pc_types_lists.proofs.FewLemmas.{few_aside}
use Rattle.pc_types_lists.proofs.KeptTypes.{keeps_same, keeps_whatever}
use Rattle.pc_types_builder.specs.Plain.{Layers}
use Rattle.pc_types_builder.specs.Converted.{AreConverted}
use Rattle.pc_types_builder.proofs.KnownLemmas.{converted_keeps}
use Rattle.pc_spec_reading.specs.World.{World}
use Rattle.pc_dfg.specs.declared.dfg.ComponentDfg.{ComponentDfg}
use Rattle.pc_dfg.proofs.GrowLemmas as graph_growth
use Rattle.pc_inline_state.specs.declared.frame.Frame.{Frame}
use Rattle.pc_inline_state.specs.declared.state.State.{State}
use Rattle.pc_inline_stack.specs.Stacks.{Waits}
use Rattle.pc_inline_state.specs.Adds.{Adds}
use Rattle.pc_inline_state.specs.Points.{IsSoundState}
use Rattle.pc_inline_state.specs.Tables.{Keeps, Tables, tables_of}
use Rattle.pc_inline_state.specs.Trails.{Trails}
use Rattle.pc_inline_state.specs.Worlds.{WorldStands}
use Rattle.pc_inline_state.proofs.GainedLemmas.{tables_aside}
use Rattle.pc_inline_state.proofs.InstanceLemmas.{instances_kept}
use Rattle.pc_inline_state.proofs.PlacedLemmas.{placed_kept}
use Rattle.pc_inline_state.proofs.StateLemmas.{keeps_refl, module_grows}
use Rattle.pc_inline_canon.proofs.WorldLemmas.{world_still}

-- a builder that goes on with these resources
abbrev pub going_on_with : Types → Resources → Types
going_on_with b r = record b { resources = r }

-- each number keeps what it names there
pub current_keeps : (b : Tables) (r : Resources) → Keeps b (record b { types = going_on_with b.types r })
current_keeps b r =
    let still = keeps_refl b in
    record {
      types = still.types;
      graph = still.graph;
      fits = still.fits;
      cores = still.cores;
      definitions = still.definitions;
      closures = still.closures;
      instances = still.instances;
      paths = still.paths;
      bodies = refl;
      names = refl;
      table = refl;
    }

-- nothing was added
pub current_adds : (t : TypeTable) (w : ℕ) (a b : Tables) (r : Resources) → Adds t w a b
    → Adds t w a (record b { types = going_on_with b.types r })
current_adds t w a b r adds =
    let rest = adds.entries in
    record {
      types = few_aside t w a.types b.types a.types.resources r adds.types;
      tables = tables_aside t b.graph.num_runtime_component_instances a.types b.types a.types.resources r adds.tables;
      entries = record {
        lists = rest.lists;
        cores = rest.cores;
        definitions = rest.definitions;
        closures = rest.closures;
        instances = rest.instances;
        begun = rest.begun;
        resources = rest.resources;
      };
      grows = keeps_whatever a.types b.types a.types.resources r adds.grows;
      later = adds.later;
    }

-- what all component instances share is in order
pub current_sound : (t : TypeTable) (ms : List ModuleRecord) (st : State) (r : Resources)
    → IsSoundState t ms st → IsSoundState t ms (record st { types = going_on_with st.types r })
current_sound t ms st r s = record {
  ordered = s.ordered;
  items = s.items;
  plain = s.plain;
  used = s.used;
  numbers = record { signatures = s.numbers.signatures };
  held = record {
    options = s.held.options;
    modules = λ n ty m at. module_grows st.types (going_on_with st.types r) (keeps_same st.types) t st.graph st.graph
        (λ who fits. fits) ty (s.held.modules n ty m at);
  };
  table = s.table;
  bodies = s.bodies;
  names = s.names;
  members = s.members;
  instances = instances_kept ms (tables_of st) (record (tables_of st) { types = going_on_with st.types r })
      (current_keeps (tables_of st) r) refl st.runtime_instances.items s.instances;
  widths = s.widths;
  placed = placed_kept t ms st (record st { types = going_on_with st.types r }) (current_keeps (tables_of st) r)
      (kept_refl st.runtime_instances.items) refl s.placed;
}

-- the graph does what it did
pub current_world : (types : Types) (g : ComponentDfg) (r : Resources) (w : World)
    → WorldStands types g w → WorldStands (going_on_with types r) g w
current_world types g r w s =
    world_still types (going_on_with types r) g g (keeps_same types) (graph_growth.grows_refl g) (λ who fits. fits)
    refl refl refl refl refl refl refl refl refl refl w s

-- what was converted stays so as the builder grows, whichever resources it goes on with
pub converted_still : (old new : Types) → KeepsTypes old new → (k : Resources) (t : TypeTable)
    (done : Layers) → AreConverted (record old { resources = k }) t done
    → AreConverted (record new { resources = k }) t done
converted_still old new keeps k t done are =
    converted_keeps (record old { resources = k }) (record new { resources = k }) (keeps_whatever old new k k keeps)
    refl
    (λ n. refl) t done are

-- what waits goes on as it did when the innermost has changed what it notes
pub waits_again : (k : Resources) (child : Frame) (l : Resources) (next : Frame)
    → Trails child.changes k next.changes l → (caller : Frame) (j : Resources) → Waits k child caller j
    → Waits l next caller j
waits_again k child l next trails caller j w = record {
  known = λ n. w.known n ∙ sym (trails.known n);
  current = w.current;
}

-- where the same resources are known
module _ (k l : Resources) (same : (n : ℕ) → resource_of l.known n ≡ resource_of k.known n) where
  -- what was converted stays so
  pub converted_again : l.current ≡ k.current → (b : Types) (t : TypeTable) (done : Layers)
      → AreConverted (record b { resources = k }) t done → AreConverted (record b { resources = l }) t done
  converted_again current b t done are =
      converted_keeps (record b { resources = k }) (record b { resources = l }) (keeps_whatever b b k l (keeps_same b))
      current (λ n. sym (same n)) t done are
