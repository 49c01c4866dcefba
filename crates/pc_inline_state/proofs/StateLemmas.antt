-- What grows and does nothing: tables, types.
use Rattle.std.proofs.Common.{◌≡◌, ◌<◌, ℕ, List, [], ◌∷◌, ◌++◌, length, Some, refl, sym, subst, ◌∙◌}
use Rattle.std.specs.Prelude.{Contains, Err, Ok, OnErr, OnOk, Result}
use Rattle.pc_entity.specs.declared.string_pool.Atom.{Atom}
use Rattle.pc_entity.proofs.Growing.{append_kept, kept_refl, kept_trans}
use Rattle.pc_entity.proofs.LookupLemmas.{kept_within}
use Rattle.pc_types.specs.declared.module_record.ModuleRecord.{ModuleRecord}
use Rattle.pc_types.specs.declared.parsed.TypeTable.{TypeTable}
use Rattle.pc_types.specs.declared.types.TypeDef.TheVariants as type
use Rattle.pc_types_lists.specs.Types.{Types}
use Rattle.pc_types_lists.specs.Types as builder
use Rattle.pc_types_lists.proofs.Growth as builder_growth
use Rattle.pc_types_lists.proofs.KeptTypes as kept_types
use Rattle.pc_types_builder.specs.Plain.{Layers}
use Rattle.pc_types_builder.proofs.TreeLemmas.{tree_keeps}
use Rattle.pc_spec_plan.specs.PlanView as plan
use Rattle.pc_dfg.specs.declared.core_def.CoreDef.{CoreDef}
use Rattle.pc_dfg.specs.declared.dfg.ComponentDfg.{ComponentDfg}
use Rattle.pc_dfg.proofs.GrowLemmas as graph_growth
use Rattle.pc_inline_state.specs.declared.closure.Closure.{Closure}
use Rattle.pc_inline_state.specs.declared.definition.Definition.{Definition}
use Rattle.pc_inline_state.specs.declared.definition.CoreId.{CoreId}
use Rattle.pc_inline_state.specs.declared.definition.ExportsId.{ExportsId}
use Rattle.pc_inline_state.specs.declared.entity_items.InstanceEntity.{InstanceEntity}
use Rattle.pc_inline_state.specs.declared.host_items.HostExport.{HostExport}
use Rattle.pc_inline_state.specs.declared.places.Places.{Places}
use Rattle.pc_inline_state.specs.declared.state.Member.{Member}
use Rattle.pc_inline_state.specs.Definitions.{exports_of}
use Rattle.pc_inline_state.specs.declared.state.State.{State}
use Rattle.pc_inline_state.specs.Placed.{ArePlaced, InSlot, IsEntityItem, IsHostItem}
use Rattle.pc_inline_state.specs.Places.{NotesEntity, NotesItem, NotesSlot}
use Rattle.pc_inline_state.specs.Prepares.{Converts, Prepares}
use Rattle.pc_inline_state.specs.Tables.{Keeps, Tables, tables_of}
use Rattle.pc_inline_state.specs.Fits.{FitsBefore}
use Rattle.pc_inline_state.specs.Worlds.{HoldsModule, HoldsTypes}
use Rattle.pc_inline_state.proofs.FitsLemmas.{fits_refl}
use Rattle.pc_inline_state.proofs.InstanceLemmas.{instances_kept}
use Rattle.pc_inline_state.proofs.MembersLemmas.{definition_earlier, members_earlier}
use Rattle.pc_inline_state.proofs.PlacedLemmas.{entity_placed, item_placed, placed_kept, places_sound, slot_placed}

-- a builder keeps its types where it is as it was
pub types_refl : (b : Types) → builder.KeepsTypes b b
types_refl = kept_types.keeps_same

-- tables have only grown where they are as they were
pub keeps_refl : (b : Tables) → Keeps b b
keeps_refl b = record {
  types = types_refl b.types;
  graph = graph_growth.grows_refl b.graph;
  fits = fits_refl b.graph;
  cores = kept_refl b.cores;
  definitions = kept_refl b.definitions;
  closures = kept_refl b.closures;
  instances = kept_refl b.instances;
  paths = kept_refl b.paths;
  bodies = refl;
  names = refl;
  table = refl;
}

-- and where they grew twice
pub keeps_trans : (a b c : Tables) → Keeps a b → Keeps b c → Keeps a c
keeps_trans a b c first second = record {
  types = kept_types.keeps_trans a.types b.types c.types first.types second.types;
  graph = graph_growth.grows_trans a.graph b.graph c.graph first.graph second.graph;
  fits = λ who fits. first.fits who (second.fits who fits);
  cores = kept_trans a.cores b.cores c.cores first.cores second.cores;
  definitions = kept_trans a.definitions b.definitions c.definitions first.definitions second.definitions;
  closures = kept_trans a.closures b.closures c.closures first.closures second.closures;
  instances = kept_trans a.instances b.instances c.instances first.instances second.instances;
  paths = kept_trans a.paths b.paths c.paths first.paths second.paths;
  bodies = second.bodies ∙ first.bodies;
  names = second.names ∙ first.names;
  table = second.table ∙ first.table;
}

-- a module type of the table is held in a builder and a graph that have grown
pub module_grows : (old new : Types) → builder.KeepsTypes old new → (t : TypeTable) (g h : ComponentDfg)
    → FitsBefore g h → (ty : ℕ) → HoldsModule old t g ty → HoldsModule new t h ty
module_grows old new keeps t g h fits ty held = record {
  there = held.there;
  known = held.known;
  component_instance = held.component_instance;
  tree = held.tree;
  is = held.is;
  number = held.number;
  holds = λ who now. tree_keeps old new keeps who (type.Module held.number) held.tree (held.holds who (fits who now));
}

-- a builder that has grown holds what it held
holds_grow : (old new : Types) → builder.Grows old new → (t : TypeTable) (g : ComponentDfg) → HoldsTypes old t g
    → HoldsTypes new t g
holds_grow old new grows t g holds = record {
  options = λ k x at. kept_within old.signatures new.signatures grows.signatures x.core_type.0 (holds.options k x at);
  modules = λ n ty m at. module_grows old new (kept_types.grows_keeps old new grows) t g g (fits_refl g) ty
      (holds.modules n ty m at);
}

-- no type was converted
pub converts_refl : (t : TypeTable) (a : State) (done : Layers) → Converts t a done a done
converts_refl t a done = record {
  grows = builder_growth.grows_same a.types;
  converted = λ are. are;
  numbers = λ n. n;
  rest = refl;
}

-- types were converted twice
pub converts_trans : (t : TypeTable) (a : State) (x : Layers) (b : State) (y : Layers)
    (c : State) (z : Layers) → Converts t a x b y → Converts t b y c z → Converts t a x c z
converts_trans t a x b y c z p q = record {
  grows = builder_growth.grows_trans a.types b.types c.types p.grows q.grows;
  converted = λ are. q.converted (p.converted are);
  numbers = λ n. q.numbers (p.numbers n);
  rest = q.rest ∙ (λ i. record (p.rest i) { types = c.types; numbers = c.numbers });
}

module _ (t : TypeTable) (ms : List ModuleRecord) where
  -- nothing was done where nothing was done twice
  pub prepares_trans : (a b c : State) → Prepares t ms a b → Prepares t ms b c → Prepares t ms a c
  prepares_trans a b c p q = record {
    keeps = keeps_trans (tables_of a) (tables_of b) (tables_of c) p.keeps q.keeps;
    sound = λ s. q.sound (p.sound s);
    resources = q.resources ∙ p.resources;
    side_effects = q.side_effects ∙ p.side_effects;
    instances = q.instances ∙ p.instances;
    trampolines = q.trampolines ∙ p.trampolines;
    adapters = q.adapters ∙ p.adapters;
    imports = q.imports ∙ p.imports;
    imported_resources = q.imported_resources ∙ p.imported_resources;
    declared_resources = q.declared_resources ∙ p.declared_resources;
    import_types = q.import_types ∙ p.import_types;
    unsafe_intrinsics = q.unsafe_intrinsics ∙ p.unsafe_intrinsics;
    begun = q.begun ∙ p.begun;
    exports = q.exports ∙ p.exports;
    export_items = q.export_items ∙ p.export_items;
    paths = q.paths ∙ p.paths;
    used = q.used ∙ p.used;
  }

  -- one more core item
  pub core_prepares : (st : State) (d : CoreDef) → Prepares t ms st (record st { cores = st.cores ++ d ∷ [] })
  core_prepares st d =
      let next : State = record st { cores = st.cores ++ d ∷ [] } in
      let keeps : Keeps (tables_of st) (tables_of next) = record {
        types = types_refl st.types;
        graph = graph_growth.grows_refl st.graph;
        fits = fits_refl st.graph;
        cores = append_kept st.cores (d ∷ []);
        definitions = kept_refl st.definitions;
        closures = kept_refl st.closures;
        instances = kept_refl st.instances;
        paths = kept_refl st.paths.held;
        bodies = refl;
        names = refl;
        table = refl;
      } in
      record {
        keeps = keeps;
        sound = λ s. record {
          ordered = s.ordered;
          items = s.items;
          plain = s.plain;
          used = s.used;
          numbers = s.numbers;
          held = s.held;
          table = s.table;
          bodies = s.bodies;
          names = s.names;
          members = s.members;
          instances = instances_kept ms (tables_of st) (tables_of next) keeps refl st.runtime_instances.items
              s.instances;
          widths = s.widths;
          placed = placed_kept t ms st next keeps (kept_refl st.runtime_instances.items) refl s.placed;
        };
        resources = refl;
        side_effects = refl;
        instances = refl;
        trampolines = refl;
        adapters = refl;
        imports = refl;
        imported_resources = refl;
        declared_resources = refl;
        import_types = refl;
        unsafe_intrinsics = refl;
        begun = refl;
        exports = refl;
        export_items = refl;
        paths = refl;
        used = refl;
      }

  -- one more definition, which exports what one of the lists says, if it is an instance
  pub definition_prepares : (st : State) (d : Definition)
      → ((k : ExportsId) → exports_of d ≡ Some k → k.0 < length st.instances)
      → Prepares t ms st (record st { definitions = st.definitions ++ d ∷ [] })
  definition_prepares st d new =
      let next : State = record st { definitions = st.definitions ++ d ∷ [] } in
      let keeps : Keeps (tables_of st) (tables_of next) = record {
        types = types_refl st.types;
        graph = graph_growth.grows_refl st.graph;
        fits = fits_refl st.graph;
        cores = kept_refl st.cores;
        definitions = append_kept st.definitions (d ∷ []);
        closures = kept_refl st.closures;
        instances = kept_refl st.instances;
        paths = kept_refl st.paths.held;
        bodies = refl;
        names = refl;
        table = refl;
      } in
      record {
        keeps = keeps;
        sound = λ s. record {
          ordered = s.ordered;
          items = s.items;
          plain = s.plain;
          used = s.used;
          numbers = s.numbers;
          held = s.held;
          table = s.table;
          bodies = s.bodies;
          names = s.names;
          members = definition_earlier st.definitions st.instances s.members d new;
          instances = instances_kept ms (tables_of st) (tables_of next) keeps refl st.runtime_instances.items
              s.instances;
          widths = s.widths;
          placed = placed_kept t ms st next keeps (kept_refl st.runtime_instances.items) refl s.placed;
        };
        resources = refl;
        side_effects = refl;
        instances = refl;
        trampolines = refl;
        adapters = refl;
        imports = refl;
        imported_resources = refl;
        declared_resources = refl;
        import_types = refl;
        unsafe_intrinsics = refl;
        begun = refl;
        exports = refl;
        export_items = refl;
        paths = refl;
        used = refl;
      }

  -- what one more instance exports: definitions that are there
  pub instance_prepares : (st : State) (es : List (Atom × Member))
      → ((e : Atom × Member) → Contains es e → e.1.item.0 < length st.definitions)
      → Prepares t ms st (record st { instances = st.instances ++ es ∷ [] })
  instance_prepares st es held =
      let next : State = record st { instances = st.instances ++ es ∷ [] } in
      let keeps : Keeps (tables_of st) (tables_of next) = record {
        types = types_refl st.types;
        graph = graph_growth.grows_refl st.graph;
        fits = fits_refl st.graph;
        cores = kept_refl st.cores;
        definitions = kept_refl st.definitions;
        closures = kept_refl st.closures;
        instances = append_kept st.instances (es ∷ []);
        paths = kept_refl st.paths.held;
        bodies = refl;
        names = refl;
        table = refl;
      } in
      record {
        keeps = keeps;
        sound = λ s. record {
          ordered = s.ordered;
          items = s.items;
          plain = s.plain;
          used = s.used;
          numbers = s.numbers;
          held = s.held;
          table = s.table;
          bodies = s.bodies;
          names = s.names;
          members = members_earlier st.definitions st.instances s.members es held;
          instances = instances_kept ms (tables_of st) (tables_of next) keeps refl st.runtime_instances.items
              s.instances;
          widths = s.widths;
          placed = placed_kept t ms st next keeps (kept_refl st.runtime_instances.items) refl s.placed;
        };
        resources = refl;
        side_effects = refl;
        instances = refl;
        trampolines = refl;
        adapters = refl;
        imports = refl;
        imported_resources = refl;
        declared_resources = refl;
        import_types = refl;
        unsafe_intrinsics = refl;
        begun = refl;
        exports = refl;
        export_items = refl;
        paths = refl;
        used = refl;
      }

  -- what one more component captured
  pub closure_prepares : (st : State) (d : Closure)
      → Prepares t ms st (record st { closures = st.closures ++ d ∷ [] })
  closure_prepares st d =
      let next : State = record st { closures = st.closures ++ d ∷ [] } in
      let keeps : Keeps (tables_of st) (tables_of next) = record {
        types = types_refl st.types;
        graph = graph_growth.grows_refl st.graph;
        fits = fits_refl st.graph;
        cores = kept_refl st.cores;
        definitions = kept_refl st.definitions;
        closures = append_kept st.closures (d ∷ []);
        instances = kept_refl st.instances;
        paths = kept_refl st.paths.held;
        bodies = refl;
        names = refl;
        table = refl;
      } in
      record {
        keeps = keeps;
        sound = λ s. record {
          ordered = s.ordered;
          items = s.items;
          plain = s.plain;
          used = s.used;
          numbers = s.numbers;
          held = s.held;
          table = s.table;
          bodies = s.bodies;
          names = s.names;
          members = s.members;
          instances = instances_kept ms (tables_of st) (tables_of next) keeps refl st.runtime_instances.items
              s.instances;
          widths = s.widths;
          placed = placed_kept t ms st next keeps (kept_refl st.runtime_instances.items) refl s.placed;
        };
        resources = refl;
        side_effects = refl;
        instances = refl;
        trampolines = refl;
        adapters = refl;
        imports = refl;
        imported_resources = refl;
        declared_resources = refl;
        import_types = refl;
        unsafe_intrinsics = refl;
        begun = refl;
        exports = refl;
        export_items = refl;
        paths = refl;
        used = refl;
      }

  -- types were converted
  pub converts_prepares : (old : State) (before : Layers) (new : State) (after : Layers)
      → Converts t old before new after → Prepares t ms old new
  converts_prepares old before new after c =
      let next : State = record old { types = new.types; numbers = new.numbers } in
      let keeps : Keeps (tables_of old) (tables_of next) = record {
        types = kept_types.grows_keeps old.types new.types c.grows;
        graph = graph_growth.grows_refl old.graph;
        fits = fits_refl old.graph;
        cores = kept_refl old.cores;
        definitions = kept_refl old.definitions;
        closures = kept_refl old.closures;
        instances = kept_refl old.instances;
        paths = kept_refl old.paths.held;
        bodies = refl;
        names = refl;
        table = refl;
      } in
      subst (λ st. Prepares t ms old st) (sym c.rest) (record {
        keeps = keeps;
        sound = λ s. record {
          ordered = s.ordered;
          items = s.items;
          plain = s.plain;
          used = s.used;
          numbers = c.numbers s.numbers;
          held = holds_grow old.types new.types c.grows t old.graph s.held;
          table = s.table;
          bodies = s.bodies;
          names = s.names;
          members = s.members;
          instances = instances_kept ms (tables_of old) (tables_of next) keeps refl old.runtime_instances.items
              s.instances;
          widths = s.widths;
          placed = placed_kept t ms old next keeps (kept_refl old.runtime_instances.items) refl s.placed;
        };
        resources = c.grows.resources;
        side_effects = refl;
        instances = refl;
        trampolines = refl;
        adapters = refl;
        imports = refl;
        imported_resources = refl;
        declared_resources = refl;
        import_types = refl;
        unsafe_intrinsics = refl;
        begun = refl;
        exports = refl;
        export_items = refl;
        paths = refl;
        used = refl;
      })

  -- nothing was done
  pub prepares_refl : (st : State) → Prepares t ms st st
  prepares_refl st = record {
    keeps = keeps_refl (tables_of st);
    sound = λ s. s;
    resources = refl;
    side_effects = refl;
    instances = refl;
    trampolines = refl;
    adapters = refl;
    imports = refl;
    imported_resources = refl;
    declared_resources = refl;
    import_types = refl;
    unsafe_intrinsics = refl;
    begun = refl;
    exports = refl;
    export_items = refl;
    paths = refl;
    used = refl;
  }

  -- more was noted, and it is so
  placed_prepares : (st : State) (p : Places) → (ArePlaced t ms st → ArePlaced t ms (record st { places = p }))
      → Prepares t ms st (record st { places = p })
  placed_prepares st p placed = record {
    keeps = keeps_refl (tables_of st);
    sound = places_sound t ms st p placed;
    resources = refl;
    side_effects = refl;
    instances = refl;
    trampolines = refl;
    adapters = refl;
    imports = refl;
    imported_resources = refl;
    declared_resources = refl;
    import_types = refl;
    unsafe_intrinsics = refl;
    begun = refl;
    exports = refl;
    export_items = refl;
    paths = refl;
    used = refl;
  }

  -- the slot of a core item was noted
  pub slot_prepares : (st : State) (p : Places) (k : plan.SlotKind) (id n : ℕ) → NotesSlot k id n st.places p
      → InSlot (tables_of st) k id n → Prepares t ms st (record st { places = p })
  slot_prepares st p k id n notes here = placed_prepares st p (slot_placed t ms st p k id n notes here)

  -- an export of a host module was noted
  pub item_prepares : (st : State) (p : Places) (export : HostExport) (id : CoreId) → NotesItem export id st.places p
      → IsHostItem t ms st export id → Prepares t ms st (record st { places = p })
  item_prepares st p export id notes here = placed_prepares st p (item_placed t ms st p export id notes here)

  -- and so it is with an entity of a core instance more
  pub entity_prepares : (st : State) (p : Places) (entity : InstanceEntity) (id : CoreId)
      → NotesEntity entity id st.places p → IsEntityItem st entity id → Prepares t ms st (record st { places = p })
  entity_prepares st p entity id notes here = placed_prepares st p (entity_placed t ms st p entity id notes here)

  -- where a state is what it was, or another that is prepared
  pushed : {A E : Type 0} (r : Result A E) (old new next : State) → Prepares t ms old next → OnOk r (new ≡ next)
      → OnErr r (new ≡ old) → Prepares t ms old new
  pushed (Ok x) old new next more ok err = subst (Prepares t ms old) (sym ok) more
  pushed (Err e) old new next more ok err = subst (Prepares t ms old) (sym err) (prepares_refl old)

  module _ {A E : Type 0} (r : Result A E) (old new : State) where
    -- a core item was pushed, if there was room
    pub core_pushed : (d : CoreDef) → OnOk r (new ≡ record old { cores = old.cores ++ d ∷ [] })
        → OnErr r (new ≡ old) → Prepares t ms old new
    core_pushed d = pushed r old new (record old { cores = old.cores ++ d ∷ [] }) (core_prepares old d)
