-- What is no instance, as an item of the graph.
use Rattle.std.proofs.Common.{◌≡◌, ◌<◌, ℕ, List, length, Option, Some, Result, Ok, Err, refl, sym, subst, ◌∙◌}
use Rattle.std.proofs.Common.{true}
use Rattle.std.specs.Prelude.{slice_get}
use Rattle.std.specs.Result.{IsErrAnd}
use Rattle.std.proofs.lemmas.Option.{same_Some, slice_get_within}
use Rattle.pc_numbers.specs.declared.component_entity.StaticModuleIndex.{StaticModuleIndex}
use Rattle.pc_numbers.specs.declared.runtime.RuntimeImportIndex.{RuntimeImportIndex}
use Rattle.pc_types.specs.declared.module_record.ModuleRecord.{ModuleRecord}
use Rattle.pc_types.specs.declared.parsed.CoreKind.TheVariants as core
use Rattle.pc_types.specs.declared.parsed.TypeTable.{TypeTable}
use Rattle.pc_types.specs.declared.type_index.TypeFuncIndex.{TypeFuncIndex}
use Rattle.pc_types.specs.declared.type_index.TypeModuleIndex.{TypeModuleIndex}
use Rattle.pc_types.specs.declared.types.TypeDef.{TypeDef}
use Rattle.pc_types.specs.declared.types.TypeDef.TheVariants as type
use Rattle.pc_types.specs.Table.{is_module}
use Rattle.pc_types.specs.TypeTree.{Path, tree_of}
use Rattle.pc_types_lists.specs.Types.{Types}
use Rattle.pc_spec_plan.specs.CoreValue.{Options as ValueOptions}
use Rattle.pc_spec_plan.specs.ExportNode as node
use Rattle.pc_spec_plan.specs.Log.{needed}
use Rattle.pc_parsed.specs.Mark.{Mark, of_type}
use Rattle.pc_spec_reading.specs.Types.{has_entry}
use Rattle.pc_spec_reading.specs.World.{World, grown, logging}
use Rattle.pc_dfg.specs.declared.core_def.CoreDef.{CoreDef}
use Rattle.pc_dfg.specs.declared.dfg.ComponentDfg.{ComponentDfg}
use Rattle.pc_dfg.specs.declared.export.Export.{Export}
use Rattle.pc_dfg.specs.declared.export.Export.TheVariants as export
use Rattle.pc_dfg.specs.declared.ids.OptionsId.{OptionsId}
use Rattle.pc_dfg.specs.Held.{HeldExport}
use Rattle.pc_inline_paths.specs.declared.path_id.PathId.{PathId}
use Rattle.pc_inline_state.specs.declared.definition.CoreId.{CoreId}
use Rattle.pc_inline_state.specs.declared.definition.Definition.{Definition}
use Rattle.pc_inline_state.specs.declared.definition.Definition.TheVariants as definition
use Rattle.pc_inline_state.specs.declared.definition.Options.{Options}
use Rattle.pc_inline_state.specs.declared.error.ItemError.{ItemError}
use Rattle.pc_inline_state.specs.declared.error.ItemError.TheVariants as item_error
use Rattle.pc_inline_state.specs.declared.state.State.{State}
use Rattle.pc_inline_state.specs.Prepares.{Prepares}
use Rattle.pc_inline_state.specs.Refused.{LacksRoom}
use Rattle.pc_inline_state.specs.Slots.{EntryStands}
use Rattle.pc_inline_state.specs.Stands.{CoreStands, OptionsStand}
use Rattle.pc_inline_state.specs.Tables.{IsItem, Keeps, tables_of}
use Rattle.pc_inline_state.specs.Worlds.{HoldsModule, WorldStands}
use Rattle.pc_inline_canon.specs.Hosts.{Uses}
use Rattle.pc_inline_canon.proofs.CoreInstanceLemmas.{item_held}
use Rattle.pc_inline_canon.proofs.KeptLemmas.{core_kept, item_kept, type_kept}
use Rattle.pc_inline_canon.proofs.WorldLemmas.{world_still}
use Rattle.pc_inline_exports.specs.Exports.{host_module_stands, imported_stands, lifted_stands, static_stands}
use Rattle.pc_inline_exports.specs.Exports.{type_stands}
use Rattle.pc_inline_exports.specs.Reaching.{ExportStands, IsCounted, IsLeaf, LeafEnds, SubjectStands, WorkStands}
use Rattle.pc_inline_exports.specs.Subjects.{Subject}
use Rattle.pc_dfg.specs.Lists as list
use Rattle.pc_dfg.proofs.GrowLemmas.{kept}
use Rattle.pc_inline_state.proofs.StateLemmas.{types_refl}
use Rattle.pc_inline_exports.proofs.GrownLemmas.{options_still}
use Rattle.pc_inline_exports.proofs.ViewLemmas.{LiftedView}
use Rattle.pc_inline_exports.proofs.ViewLemmas.{func_view, lifted_view, module_view, static_view, type_view}

-- what was done stays done whatever total is counted
pub world_total : (types : Types) (g : ComponentDfg) (w : World) (total : Option ℕ) → WorldStands types g w
    → WorldStands types g (record w { total = total })
world_total types g w total s = record {
  effects = s.effects;
  order = s.order;
  are_declared = s.are_declared;
  trampolines = s.trampolines;
  few_trampolines = s.few_trampolines;
  import_types = s.import_types;
  imports = s.imports;
  imported_resources = s.imported_resources;
  resources_apart = s.resources_apart;
  resources = s.resources;
  intrinsics = s.intrinsics;
  adapters = s.adapters;
  begun = s.begun;
}

module _ (t : TypeTable) (ms : List ModuleRecord) where
  -- so it is where the graph does no more than before
  pub work_prepared : (old new : State) → Prepares t ms old new → (w : World) → WorkStands t ms old w
      → WorkStands t ms new w
  work_prepared old new p w s = record {
    sound = p.sound s.sound;
    world = world_still old.types new.types old.graph new.graph p.keeps.types p.keeps.graph p.keeps.fits
        p.side_effects p.instances p.trampolines p.adapters p.imports p.imported_resources p.declared_resources
        p.import_types p.begun p.unsafe_intrinsics w s.world;
  }

  -- whatever total is counted
  pub work_total : (st : State) (w : World) (total : Option ℕ) → WorkStands t ms st w
      → WorkStands t ms st (record w { total = total })
  work_total st w total s = record { sound = s.sound; world = world_total st.types st.graph w total s.world }

  module _ (st new : State) where
    -- the item of a function that was lifted
    module _ (p : Prepares t ms st new) (ty : TypeFuncIndex) (func : CoreId) (opts : Options) (d : CoreDef)
        (held : slice_get new.cores func.0 ≡ Some d) (id : OptionsId)
        (entry : (v : ValueOptions Mark) → OptionsStand ms (tables_of st) opts v → EntryStands (tables_of new) id.0 v)
        (below : id.0 < length new.graph.options) where
      lifted_exported : (x : Subject) (l : LiftedView ms st ty func opts x)
          → ExportStands t ms new (export.LiftedFunction ty d id) (node.lifted (of_type l.tree) l.callee l.options)
      unfolding HeldExport
      lifted_exported x l =
          let i = item_kept ms (tables_of st) (tables_of new) p.keeps core.Func func l.callee l.item in
          let same : i.definition ≡ d = same_Some i.definition d (sym i.held ∙ held) in
          let usable = subst (IsItem ms new.graph core.Func) same i.usable in
          let c = subst (λ y. CoreStands new.types new.graph y l.callee) same i.stands in
          let e = entry l.options l.stand in
          let is_func = type_kept ms (tables_of st) (tables_of new) p.keeps (type.ComponentFunc ty) l.tree l.typed in
          record {
            stands = λ n h grows fits at. lifted_stands at (λ who now. is_func who (fits who now))
                (core_kept new.types new.types new.graph h (types_refl new.types) grows fits d l.callee c)
                (options_still t new.types new.types new.graph h (types_refl new.types) grows fits id.0 l.options
                (record { twice = e.numbered; means = e.means; is = e.is }));
            held = (item_held ms new.graph core.Func d usable, below);
            usable = λ u f o same_item.
                let same_func : d ≡ f = cc in subst (IsItem ms new.graph core.Func) same_func usable;
            listed = λ u m same_item. absurd (let no : ⊥ = cc in no);
          }

      pub lifted_leaf : IsLeaf t ms st (definition.LiftedFunc ty func opts) new (Ok (export.LiftedFunction ty d id))
      unfolding LeafEnds
      lifted_leaf w x stands is =
          let l = lifted_view ms st ty func opts x is in
          record {
            node = node.lifted (of_type l.tree) l.callee l.options;
            world = record w { total = grown w.total 8 };
            is = l.reads w;
            total = refl;
            stands = work_total new w (grown w.total 8) (work_prepared st new p w stands);
            exported = lifted_exported x l;
            size = refl;
          }

    module _ (keeps : Keeps (tables_of st) (tables_of new)) (p : PathId) (r : RuntimeImportIndex)
        (uses : (path : Path) → slice_get st.paths.held p.0 ≡ Some path → Uses t ms st new path r) where
      -- that of a function of the host
      pub func_leaf : (ty : TypeFuncIndex)
          → IsLeaf t ms st (definition.HostFunc p ty) new (Ok (export.ImportedFunction ty r))
      unfolding LeafEnds HeldExport
      func_leaf ty w x stands is =
          let v = func_view ms st p ty x is in
          let u = uses v.path v.held in
          let is_func = type_kept ms (tables_of st) (tables_of new) keeps (type.ComponentFunc ty) v.tree v.typed in
          let first = record w { total = grown w.total 8 } in
          record {
            node = node.imported_function (of_type v.tree) v.path;
            world = logging first (needed v.path);
            is = v.reads w stands.world;
            total = refl;
            stands = record {
              sound = u.sound stands.sound;
              world = u.world first (world_total st.types st.graph w (grown w.total 8) stands.world);
            };
            exported = record {
              stands = λ n h grows fits at. imported_stands at (kept new.graph h grows list.imports r.0 _ u.path)
                  (λ who now. is_func who (fits who now));
              held = slice_get_within new.graph.imports r.0 _ u.path;
              usable = λ y f o same_item. absurd (let no : ⊥ = cc in no);
              listed = λ y m same_item. absurd (let no : ⊥ = cc in no);
            };
            size = refl;
          }

      -- and of a module of the host
      pub module_leaf : (ty : TypeModuleIndex) (entry : ℕ)
          → IsLeaf t ms st (definition.HostModule p ty entry) new (Ok (export.ModuleImport ty r))
      unfolding LeafEnds HeldExport
      module_leaf ty entry w x stands is =
          let v = module_view ms st p ty entry x is in
          let u = uses v.path v.held in
          let is_module_type = type_kept ms (tables_of st) (tables_of new) keeps (type.Module ty) v.tree v.typed in
          let first = record w { total = grown w.total 8 } in
          record {
            node = node.host_module v.path (of_type v.tree);
            world = logging first (needed v.path);
            is = v.reads w;
            total = refl;
            stands = record {
              sound = u.sound stands.sound;
              world = u.world first (world_total st.types st.graph w (grown w.total 8) stands.world);
            };
            exported = record {
              stands = λ n h grows fits at. host_module_stands at (kept new.graph h grows list.imports r.0 _ u.path)
                  (λ who now. is_module_type who (fits who now));
              held = slice_get_within new.graph.imports r.0 _ u.path;
              usable = λ y f o same_item. absurd (let no : ⊥ = cc in no);
              listed = λ y m same_item. absurd (let no : ⊥ = cc in no);
            };
            size = refl;
          }

  module _ (st : State) where
    -- a module that was handed in, whose type is known by its number in the table
    pub static_leaf : (m : StaticModuleIndex) (ty : ℕ)
        → IsLeaf t ms st (definition.StaticModule m ty) st (Ok (export.ModuleStatic ty m))
    unfolding LeafEnds HeldExport
    static_leaf m ty w x stands is =
        let v = static_view ms st m ty x is in
        let tabled = v.tabled in
        let held : HoldsModule st.types t st.graph ty = record {
          there = subst (λ y. has_entry y is_module ty ≡ true) stands.sound.table tabled.there;
          known = tabled.known;
          component_instance = tabled.component_instance;
          tree = v.tree;
          is = subst (λ y. tree_of tabled.known tabled.component_instance y ty ≡ Some v.tree) stands.sound.table
              tabled.is;
          number = v.number;
          holds = v.typed;
        } in
        record {
          node = node.static_module m.0 (of_type v.tree);
          world = record w { total = grown w.total 8 };
          is = v.reads w;
          total = refl;
          stands = work_total st w (grown w.total 8) stands;
          exported = record {
            stands = λ n h grows fits at. static_stands (record {
              there = held.there;
              known = tabled.known;
              component_instance = tabled.component_instance;
              tree = v.tree;
              is = held.is;
              number = v.number;
              holds = λ who now. v.typed who (fits who now);
            }) at;
            held = tt;
            usable = λ y f o same_item. absurd (let no : ⊥ = cc in no);
            listed = λ y n same_item.
                let same_ty : ty ≡ y = cc in
                let same_module : m ≡ n = cc in (
                  subst (HoldsModule st.types t st.graph) same_ty held,
                  subst (λ (k : StaticModuleIndex). k.0 < length ms) same_module v.handed_in,
                );
          };
          size = refl;
        }

    -- a type
    pub type_leaf : (d : TypeDef) → IsLeaf t ms st (definition.Type_ d) st (Ok (export.Type_ d))
    unfolding LeafEnds HeldExport
    type_leaf d w x stands is =
        let v = type_view ms st d x is in
        record {
          node = node.type_node (of_type v.tree);
          world = record w { total = grown w.total 8 };
          is = v.reads w;
          total = refl;
          stands = work_total st w (grown w.total 8) stands;
          exported = record {
            stands = λ n h grows fits at. type_stands at (λ who now. v.typed who (fits who now));
            held = tt;
            usable = λ y f o same_item. absurd (let no : ⊥ = cc in no);
            listed = λ y n same_item. absurd (let no : ⊥ = cc in no);
          };
          size = refl;
        }

  -- an error of a call that has no fault
  module _ (st new : State) (d : Definition) where
    -- one node counts for what is exported
    abbrev Counted : Type 0
    Counted = (w : World) (x : Subject) → WorkStands t ms st w → SubjectStands ms (tables_of st) d x → IsCounted t ms w x

    lacks_at : (e : ItemError) → LacksRoom new e → Counted → IsLeaf t ms st d new (Err e)
    unfolding LeafEnds LacksRoom
    lacks_at (item_error.Fault k) lacks counted w x stands is = absurd lacks
    lacks_at item_error.TooMany lacks counted w x stands is = (lacks, counted w x stands is)
    lacks_at item_error.NoMemory lacks counted w x stands is = counted w x stands is

    pub lacks_leaf : (r : Result Export ItemError) (e : ItemError) → IsErrAnd r (λ y. y ≡ e) → LacksRoom new e → Counted
        → IsLeaf t ms st d new r
    lacks_leaf (Ok y) e is lacks counted = absurd is
    lacks_leaf (Err y) e is lacks counted =
        subst (λ z. IsLeaf t ms st d new (Err z)) (sym is) (lacks_at e lacks counted)

    pub no_memory_leaf : (r : Result Export ItemError) → IsErrAnd r (λ y. y ≡ item_error.NoMemory) → Counted
        → IsLeaf t ms st d new r
    unfolding LacksRoom
    no_memory_leaf r is counted = lacks_leaf r item_error.NoMemory is tt counted

  module _ (st : State) where
    pub lifted_counts : (ty : TypeFuncIndex) (func : CoreId) (opts : Options)
        → Counted st st (definition.LiftedFunc ty func opts)
    lifted_counts ty func opts w x stands is = (_, (lifted_view ms st ty func opts x is).reads w)

    pub func_counts : (p : PathId) (ty : TypeFuncIndex) → Counted st st (definition.HostFunc p ty)
    func_counts p ty w x stands is = (_, (func_view ms st p ty x is).reads w stands.world)

    pub module_counts : (p : PathId) (ty : TypeModuleIndex) (entry : ℕ)
        → Counted st st (definition.HostModule p ty entry)
    module_counts p ty entry w x stands is = (_, (module_view ms st p ty entry x is).reads w)
