-- The moment after an import of the root was prepared.
use Rattle.std.proofs.Common.{◌≡◌, ◌≤◌, ◌+◌, ◌==◌, ℕ, zero, suc, Bool, true, false, List, [], ◌∷◌, ◌++◌, length, map}
use Rattle.std.proofs.Common.{refl, sym, ap, subst, ◌∙◌, Option, Some, None, arith, if◌then◌else◌, true≢false, Ok, Err}
use Rattle.std.specs.Prelude.{slice_get, count_by}
use Rattle.std.specs.Cmp.{nat_eq_equiv}
use Rattle.std.specs.List.{AllZip, fold}
use Rattle.std.proofs.lemmas.List.Elements.{Contains-append_left}
use Rattle.std.proofs.lemmas.Option.{none-some, same_Some}
use Rattle.pc_entity.proofs.Growing.{slice_get-append_seam}
use Rattle.pc_entity.specs.declared.string_pool.Atom.{Atom}
use Rattle.pc_entity.specs.Lists.{AreDistinct}
use Rattle.pc_numbers.specs.declared.runtime.ResourceIndex.{ResourceIndex}
use Rattle.pc_numbers.specs.declared.runtime.RuntimeImportIndex.{RuntimeImportIndex}
use Rattle.pc_types.specs.declared.error.Unsupported.TheVariants.{ComponentImport}
use Rattle.pc_types.specs.declared.module_record.ModuleRecord.{ModuleRecord}
use Rattle.pc_types.specs.declared.parsed.DeclType.{DeclType}
use Rattle.pc_types.specs.declared.parsed.Entity.{Entity}
use Rattle.pc_types.specs.declared.parsed.Entity.TheVariants as entity
use Rattle.pc_types.specs.declared.parsed.TypeTable.{TypeTable}
use Rattle.pc_types.specs.declared.types.ComponentExtern.{ComponentExtern}
use Rattle.pc_types.specs.Table.{is_instance, is_module, table_fault}
use Rattle.pc_types.specs.TypeTree.{Identity, TypeTree, identity_of, imported, tree_of}
use Rattle.pc_types_lists.specs.Adds.{AddsTypes, most_types}
use Rattle.pc_types_lists.specs.Known.{resource_of}
use Rattle.pc_types_lists.specs.Types.{Types}
use Rattle.pc_types_lists.specs.Types as builder
use Rattle.pc_types_lists.proofs.FewLemmas.{few_more}
use Rattle.pc_types_builder.specs.Plain.{Layers}
use Rattle.pc_types_builder.specs.Converted.{AreConverted}
use Rattle.pc_types_walk.specs.declared.walk.Found.{Found}
use Rattle.pc_types_walk.specs.Walks.{AreNamed, IsFound}
use Rattle.pc_spec_plan.specs.Log.{trace}
use Rattle.pc_parsed.specs.declared.payload.ExternName.{ExternName}
use Rattle.pc_spec_reading.specs.Asked.{import_path, is_declared, with_path}
use Rattle.pc_spec_reading.specs.Imports.{give, host_value, import_resources, next_import, prepare, resource_path}
use Rattle.pc_spec_reading.specs.Imports.{with_given}
use Rattle.pc_spec_reading.specs.Resource.{ResourcePath, newly, resource_paths}
use Rattle.pc_spec_reading.specs.Scope.{Moment, Scope}
use Rattle.pc_spec_reading.specs.Types.{declared_tree, has_entry, is_defined_entity, names_entry, type_tree}
use Rattle.pc_spec_reading.specs.Outcome.{bad_type, unsupported}
use Rattle.pc_spec_reading.specs.Value.{Value, func_value, host_function, host_instance, host_module, instance_value}
use Rattle.pc_spec_reading.specs.Value.{module_value, type_value}
use Rattle.pc_spec_reading.specs.World.{HostImport, World}
use Rattle.pc_dfg.specs.declared.dfg.ComponentDfg.{ComponentDfg}
use Rattle.pc_dfg.specs.Grows as graph
use Rattle.pc_dfg.specs.Lists as list
use Rattle.pc_dfg.specs.Lists.{ListName}
use Rattle.pc_dfg.specs.Means.{HasPath}
use Rattle.pc_dfg.proofs.GrowLemmas.{kept}
use Rattle.pc_inline_paths.specs.declared.path_id.PathId.{PathId}
use Rattle.pc_inline_names.specs.Named.{Named}
use Rattle.pc_inline_names.specs.Numbers.{IsNumber, with_first_number}
use Rattle.pc_inline_names.proofs.NumberedLemmas.{named_first}
use Rattle.pc_inline_state.specs.declared.definition.DefinitionId.{DefinitionId}
use Rattle.pc_inline_state.specs.declared.frame.Frame.{Frame}
use Rattle.pc_inline_state.specs.declared.state.State.{State}
use Rattle.pc_inline_state.specs.Adds.{Adds, most_converted, with_modules}
use Rattle.pc_inline_state.specs.AddsEach.{AddsEach}
use Rattle.pc_inline_state.specs.Fits.{FitsBefore, path_of}
use Rattle.pc_inline_state.specs.Gained.{AddsTables}
use Rattle.pc_inline_state.specs.Prepares.{Converts}
use Rattle.pc_inline_state.specs.Frames.{Both, FrameStands, both}
use Rattle.pc_inline_state.specs.Holds.{Holds}
use Rattle.pc_inline_state.specs.KnowsSame.{IsResource, KnowsSame}
use Rattle.pc_inline_state.specs.Points.{Goes, PointStands}
use Rattle.pc_inline_state.specs.Stands.{DefinitionStands, IsHostType, IsTableTree, IsType, Stands, stands}
use Rattle.pc_inline_state.specs.Stands.{stands_host, stands_host_instance, stands_host_module, stands_type}
use Rattle.pc_inline_state.specs.Tables.{Keeps, Tables, tables_of}
use Rattle.pc_inline_state.specs.Worlds.{EffectStands, ImportStands, WorldStands}
use Rattle.pc_inline_state.proofs.FitsLemmas.{fits_refl}
use Rattle.pc_inline_state.proofs.KnowsLemmas.{entry_here, knows_in}
use Rattle.pc_inline_state.proofs.ZipLemmas.{both_more, zip_length, zip_more, zip_push}
use Rattle.pc_inline_state.proofs.IntrinsicLemmas.{intrinsics_kept}
use Rattle.pc_inline_canon.proofs.AdapterKeptLemmas.{adapters_still}
use Rattle.pc_inline_canon.proofs.FrameLemmas.{converted_point}
use Rattle.pc_inline_canon.proofs.KeptLemmas.{frame_kept}
use Rattle.pc_inline_canon.proofs.WorldLemmas.{declared_still, effect_still, import_still, trampoline_still}
use Rattle.pc_inline_imports.specs.declared.learn.Learnt.{Learnt}
use Rattle.pc_inline_imports.specs.Given.{IsEntityType, entity_number, host_definition, import_of, is_component_entity}
use Rattle.pc_inline_imports.specs.Learns.{Learns, registered}
use Rattle.pc_inline_imports.specs.Brings.{AllBelow, Gives, in_given, path_with}
use Rattle.pc_inline_imports.proofs.ApartLemmas.{resources_apart}
use Rattle.pc_inline_imports.proofs.BringLemmas.{zip_append}
use Rattle.pc_inline_imports.proofs.LearnLemmas.{found_within}
use Rattle.pc_inline_imports.proofs.ImportedLemmas.{adapters_needed, as_many, declared_before, knowing_all}
use Rattle.pc_inline_imports.proofs.ImportedLemmas.{more_needed, needs, resources_imported, same_declarations}
use Rattle.pc_inline_imports.proofs.ImportedLemmas.{same_effects, same_instances, with_resources}

-- the names of a path
abbrev names_of_path : ResourcePath → List (List ℕ)
names_of_path p = p.names

-- names beside what was found
found_names : (names : List (List (List ℕ))) (found : List Found) (ps : List ResourcePath)
    → AllZip (IsFound names) found ps
    → AllZip (λ (f : Found) (ns : List (List ℕ)). slice_get names f.place ≡ Some ns) found (map names_of_path ps)
found_names names [] [] h = tt
found_names names [] (p ∷ ps) h = absurd h
found_names names (f ∷ fs) [] h = absurd h
found_names names (f ∷ fs) (p ∷ ps) h = (h.0.1, found_names names fs ps h.1)

-- the paths with these names
paths_same : (i : ℕ) (ps : List ResourcePath) → map (path_with i) (map names_of_path ps) ≡ map (resource_path i) ps
paths_same i [] = refl
paths_same i (p ∷ ps) = λ j. resource_path i p ∷ paths_same i ps j

-- resources under the numbers that come next are known on both sides, each as its path leads to it
knows_all : (g : ComponentDfg) (i : ℕ) (names : List (List (List ℕ))) (found : List Found) (ps : List ResourcePath)
    → AllZip (IsFound names) found ps → (first : ℕ)
    → ((k : ℕ) (p : ResourcePath) → slice_get ps k ≡ Some p
    → IsResource g (record { 0 = first + k }) (imported (resource_path i p)))
    → (known : ℕ → Option ResourceIndex) (ks : List (ℕ × Identity))
    → ((q : ℕ) → Both (IsResource g) (known q) (identity_of ks q)) → (q : ℕ)
    → Both (IsResource g) (registered first found known q) (identity_of (knowing_all i ks ps) q)
knows_all g i names [] [] h first each known ks both_so q = both_so q
knows_all g i names [] (p ∷ ps) h first each known ks both_so q = absurd h
knows_all g i names (f ∷ fs) [] h first each known ks both_so q = absurd h
knows_all g i names (f ∷ fs) (p ∷ ps) h first each known ks both_so q =
    knows_all g i names fs ps h.1 (first + 1)
    (λ k x at. let same : first + suc k ≡ first + 1 + k = omega arith in
    subst (λ n. IsResource g (record { 0 = n }) (imported (resource_path i x))) same (each (suc k) x at))
    (λ n. if n == f.number then Some (record { 0 = first }) else known n)
    ((p.number, imported (resource_path i p)) ∷ ks) here q
  where
    here : (n : ℕ)
        → Both (IsResource g) (if n == f.number then Some (record { 0 = first }) else known n)
        (if p.number == n then Some (imported (resource_path i p)) else identity_of ks n)
    here n = by (n == f.number) (p.number == n) (ap (λ m. n == m) h.0.0 ∙ nat_eq_equiv.symm n p.number)
      where
        zero_more : first + 0 ≡ first
        zero_more = omega arith

        by : (a b : Bool) → a ≡ b
            → Both (IsResource g) (if a then Some (record { 0 = first }) else known n)
            (if b then Some (imported (resource_path i p)) else identity_of ks n)
        by true true same =
            both (subst (λ m. IsResource g (record { 0 = m }) (imported (resource_path i p))) zero_more (each 0 p refl))
        by true false same = absurd (true≢false same)
        by false true same = absurd (true≢false (sym same))
        by false false same = both_so n

-- an item of one list beside the one of the other
zip_at_right : {A B : Type 0} (R : A → B → Type 0) (xs : List A) (ys : List B) → AllZip R xs ys → (k : ℕ) (y : B)
    → slice_get ys k ≡ Some y → (x : A) × (slice_get xs k ≡ Some x) × R x y
zip_at_right R [] [] h k y at = absurd (none-some y at)
zip_at_right R [] (z ∷ ys) h k y at = absurd h
zip_at_right R (x ∷ xs) [] h k y at = absurd h
zip_at_right R (x ∷ xs) (z ∷ ys) h zero y at = (x, refl, subst (R x) (same_Some z y at) h.0)
zip_at_right R (x ∷ xs) (z ∷ ys) h (suc k) y at = zip_at_right R xs ys h.1 k y at

slice_get-map_some : {A B : Type 0} (f : A → B) (xs : List A) (k : ℕ) (x : A) → slice_get xs k ≡ Some x
    → slice_get (map f xs) k ≡ Some (f x)
slice_get-map_some f [] k x at = absurd (none-some x at)
slice_get-map_some f (y ∷ ys) zero x at = ap Some (ap f (same_Some y x at))
slice_get-map_some f (y ∷ ys) (suc k) x at = slice_get-map_some f ys k x at

slice_get-behind : {A : Type 0} (xs ys : List A) (k : ℕ) → slice_get (xs ++ ys) (length xs + k) ≡ slice_get ys k
slice_get-behind [] ys k =
    let same : 0 + k ≡ k = omega arith in
    ap (slice_get ys) same
slice_get-behind (x ∷ xs) ys k =
    let same : length (x ∷ xs) + k ≡ suc (length xs + k) = omega arith in
    ap (slice_get (x ∷ xs ++ ys)) same ∙ slice_get-behind xs ys k

-- the resources that came with an import are those at their paths
resources_fit : (g : ComponentDfg) (before more : List RuntimeImportIndex) (i : ℕ) (ps : List ResourcePath)
    → g.imported_resources ≡ before ++ more
    → AllZip (λ (r : RuntimeImportIndex). HasPath g r.0) more (map (resource_path i) ps) → (k : ℕ) (p : ResourcePath)
    → slice_get ps k ≡ Some p → IsResource g (record { 0 = length before + k }) (imported (resource_path i p))
resources_fit g before more i ps are beside k p at who fits =
    let there = zip_at_right (λ (r : RuntimeImportIndex). HasPath g r.0) more (map (resource_path i) ps) beside k
    (resource_path i p) (slice_get-map_some (resource_path i) ps k p at) in
    fits.given (length before + k) there.0 (record { 0 = i }, p.names)
    (ap (λ rs. slice_get rs (length before + k)) are ∙ slice_get-behind before more k ∙ there.1) there.2

-- the graph does what the log says, with an import more and the resources that it leads to
module _ (old new : Types) (g h : ComponentDfg) (types : builder.KeepsTypes old new) (grows : graph.Grows g h)
    (fits : FitsBefore g h) (w : World) (stands_so : WorldStands old g w) (i : ℕ) (ps : List ResourcePath)
    (x : List ℕ × ComponentExtern) (import : HostImport) where
  abbrev given_world : World
  given_world = record w {
    log = w.log ++ map (needs i) ps;
    imports = w.imports ++ import ∷ [];
    imported_resources = w.imported_resources ++ map (resource_path i) ps;
  }

  world_given : h.side_effects ≡ g.side_effects → h.instances ≡ g.instances → h.trampolines ≡ g.trampolines
      → h.adapters ≡ g.adapters → h.resources ≡ g.resources → h.num_runtime_component_instances ≡ g.num_runtime_component_instances
      → h.unsafe_intrinsics ≡ g.unsafe_intrinsics → h.import_types ≡ g.import_types ++ x ∷ []
      → ImportStands new h x import → map path_of h.imports ≡ fold with_path (map path_of g.imports) (map (resource_path i) ps)
      → (more : List RuntimeImportIndex) → h.imported_resources ≡ g.imported_resources ++ more
      → AllZip (λ (r : RuntimeImportIndex). HasPath h r.0) more (map (resource_path i) ps)
      → AreDistinct (w.imported_resources ++ map (resource_path i) ps)
      → WorldStands new h given_world
  world_given effects instances trampolines adapters resources begun intrinsics import_types stands_import imports more
      came beside apart =
      record {
        effects = subst (λ es. AllZip (EffectStands new h) es (trace (w.log ++ map (needs i) ps))) (sym effects)
            (subst (AllZip (EffectStands new h) g.side_effects) (sym (same_effects i w.log ps))
            (zip_more (EffectStands old g) (EffectStands new h) (effect_still old new g h types grows fits)
            g.side_effects (trace w.log) stands_so.effects));
        order = ap length (same_instances i w.log ps) ∙ stands_so.order ∙ ap length (sym instances);
        are_declared = λ k y at.
            let d = declared_still old new g h types grows fits w.log k y
            (stands_so.are_declared k y (subst (λ ts. slice_get ts k ≡ Some y) trampolines at)) in
            record {
              value = d.value;
              entry = Contains-append_left w.log (map (needs i) ps) _ d.entry;
              stands = d.stands;
              signed = d.signed;
            };
        trampolines = λ v entry. trampoline_still old new g h types grows fits v
            (stands_so.trampolines v (declared_before i w.log ps v entry));
        few_trampolines = subst (λ ts. length ts ≤ count_by is_declared (w.log ++ map (needs i) ps)) (sym trampolines)
            (as_many i w.log ps (length g.trampolines) stands_so.few_trampolines);
        import_types = subst (λ is. AllZip (ImportStands new h) is (w.imports ++ import ∷ [])) (sym import_types)
            (zip_push (ImportStands new h) g.import_types w.imports x import
            (zip_more (ImportStands old g) (ImportStands new h) (import_still old new g h types grows fits)
            g.import_types w.imports stands_so.import_types) stands_import);
        imports = imports ∙ ap (λ ys. fold with_path ys (map (resource_path i) ps)) stands_so.imports
            ∙ sym (more_needed i w.log ps);
        imported_resources = subst (λ rs. AllZip (λ (r : RuntimeImportIndex). HasPath h r.0) rs
            (w.imported_resources ++ map (resource_path i) ps)) (sym came)
            (zip_append (λ (r : RuntimeImportIndex). HasPath h r.0) g.imported_resources w.imported_resources more
            (map (resource_path i) ps)
            (zip_more (λ (r : RuntimeImportIndex). HasPath g r.0) (λ (r : RuntimeImportIndex). HasPath h r.0)
            (λ r p there. kept g h grows list.imports r.0 (record { 0 = p.import }, p.names) there)
            g.imported_resources w.imported_resources stands_so.imported_resources) beside);
        resources_apart = apart;
        resources = ap length resources ∙ stands_so.resources ∙ sym (same_declarations i w.log ps);
        intrinsics = intrinsics_kept old g w.intrinsics stands_so.intrinsics new h types.signatures intrinsics;
        adapters = adapters_needed i w.log ps new h
            (adapters_still old new g h types grows fits adapters w.log stands_so.adapters);
        begun = stands_so.begun ∙ sym begun;
      }

-- the tree of an entity is that of its number
declared_is : (t : TypeTable) (s : Scope) (e : Entity) → names_entry t e ≡ true
    → declared_tree t s e ≡ type_tree t s (entity_number e)
declared_is t s (entity.Func n) named = refl
declared_is t s (entity.Instance n) named = refl
declared_is t s (entity.Component n) named = refl
declared_is t s (entity.Module n) named = refl
declared_is t s (entity.Type_ n) named = refl
declared_is t s entity.Value named = absurd (true≢false (sym named))

module _ (t : TypeTable) (ms : List ModuleRecord) (b : Tables) (table : b.table ≡ t) (s : Scope) (i : ℕ) (id : PathId)
    (held : slice_get b.paths id.0 ≡ Some (import_path i)) (x : List ℕ × ComponentExtern)
    (there : slice_get b.graph.import_types i ≡ Some x) (tree : TypeTree) where
  host_type : IsType ms b x.1.ty tree → IsHostType ms b (import_path i) tree
  host_type typed = record { import = x; there = there; whole = tree; typed = typed; along = refl }

  table_tree : (test : DeclType → Bool) (n : ℕ) → has_entry t test n ≡ true → type_tree t s n ≡ Some tree
      → IsTableTree ms b test n tree
  unfolding type_tree
  table_tree test n named has = record {
    there = subst (λ (u : TypeTable). has_entry u test n ≡ true) (sym table) named;
    known = s.known;
    component_instance = s.component_instance;
    is = subst (λ (u : TypeTable). tree_of s.known s.component_instance u n ≡ Some tree) (sym table) has;
  }

  -- what the host gives stands for its value
  value_given : (e : Entity) → names_entry t e ≡ true → is_component_entity e ≡ false
      → IsEntityType b.types t e x.1.ty → type_tree t s (entity_number e) ≡ Some tree → IsType ms b x.1.ty tree
      → (v : Value) × (host_value (import_path i) e tree ≡ Some v)
      × DefinitionStands ms b (host_definition id e x.1.ty) v
  value_given (entity.Func n) named no_component is has typed = (
    func_value (host_function (import_path i)),
    refl,
    subst (λ d. DefinitionStands ms b (host_definition id (entity.Func n) d) (func_value (host_function (import_path i))))
        (sym is.kind.1)
        (stands_host held (host_type typed) (subst (λ d. IsType ms b d tree) is.kind.1 typed)),
  )
  value_given (entity.Instance n) named no_component is has typed = (
    instance_value (host_instance (import_path i) tree),
    refl,
    subst (λ d. DefinitionStands ms b (host_definition id (entity.Instance n) d)
        (instance_value (host_instance (import_path i) tree))) (sym is.kind.1)
        (stands_host_instance held (host_type typed) (table_tree is_instance n named has)
        (subst (λ d. IsType ms b d tree) is.kind.1 typed)),
  )
  value_given (entity.Module n) named no_component is has typed = (
    module_value (host_module (import_path i) tree),
    refl,
    subst (λ d. DefinitionStands ms b (host_definition id (entity.Module n) d)
        (module_value (host_module (import_path i) tree))) (sym is.kind.1)
        (stands_host_module held (host_type typed) (table_tree is_module n named has)
        (subst (λ d. IsType ms b d tree) is.kind.1 typed)),
  )
  value_given (entity.Type_ n) named no_component is has typed = (type_value tree, refl, stands_type typed)
  value_given (entity.Component n) named no_component is has typed = absurd (true≢false no_component)
  value_given entity.Value named no_component is has typed = absurd (true≢false (sym named))

module _ (t : TypeTable) (name : ExternName) (e : Entity) where
  -- the host gives for an import
  give_done : (m : Moment) (tree : TypeTree) (v : Value) → declared_tree t m.scope e ≡ Some tree
      → host_value (next_import m) e tree ≡ Some v → give t name e m ≡ Ok (with_given m name tree v)
  give_done m tree v has is = rw (has, is) refl

  -- or it gives no component
  give_refused : (m : Moment) (tree : TypeTree) → declared_tree t m.scope e ≡ Some tree
      → host_value (next_import m) e tree ≡ None → give t name e m ≡ Err (unsupported ComponentImport)
  give_refused m tree has none = rw (has, none) refl

  module _ (named : names_entry t e ≡ true) (given : is_defined_entity t e ≡ false) (now : Moment) where
    -- an import is given for where its resources are known
    prepares_as : prepare t name e now
        ≡ give t name e (with_resources (length now.world.imports) now (newly now.scope.known (resource_paths t e)))
    unfolding prepare
    prepares_as =
        let first : prepare t name e now
        ≡ give t name e (import_resources now (length now.world.imports) (resource_paths t e)) =
        rw (named, given) refl in
        first ∙ ap (give t name e) (resources_imported (length now.world.imports) now (resource_paths t e))

-- a component leads to no resource
no_resources : (t : TypeTable) (known : List (ℕ × Identity)) (e : Entity) → is_component_entity e ≡ true
    → newly known (resource_paths t e) ≡ []
unfolding newly resource_paths
no_resources t known (entity.Component n) is = refl
no_resources t known (entity.Func n) is = absurd (true≢false (sym is))
no_resources t known (entity.Instance n) is = absurd (true≢false (sym is))
no_resources t known (entity.Module n) is = absurd (true≢false (sym is))
no_resources t known (entity.Type_ n) is = absurd (true≢false (sym is))
no_resources t known entity.Value is = absurd (true≢false (sym is))

module _ (t : TypeTable) (ms : List ModuleRecord) (e : Entity) (st : State) (f : Frame) (st1 : State) (f1 : Frame)
    (l : Learnt) (learns : Learns t ms e st f st1 f1 l) (now : Moment) (at : PointStands t ms st f now) where
  abbrev place : ℕ
  place = length st.graph.import_types

  abbrev fresh : List ResourcePath
  fresh = newly now.scope.known (resource_paths t e)

  -- the moment in which the resources are known
  abbrev moment : Moment
  moment = with_resources place now fresh

  place_is : place ≡ length now.world.imports
  place_is = zip_length (ImportStands st.types st.graph) st.graph.import_types now.world.imports at.world.import_types

  -- what is known is the same on both sides, once the resources are at their paths
  knows_learnt : (g : ComponentDfg) → FitsBefore st.graph g → ((k : ℕ) (p : ResourcePath) → slice_get fresh k ≡ Some p
      → IsResource g (record { 0 = length st.graph.imported_resources + k }) (imported (resource_path place p)))
      → KnowsSame g st1.types.resources moment.scope
  knows_learnt g fits each = record {
    known = λ q. subst (λ o. Both (IsResource g) o (identity_of (knowing_all place now.scope.known fresh) q))
        (sym (learns.known.known q))
        (knows_all g place learns.names l.found fresh (learns.found now.scope at.here)
        (length st.graph.imported_resources) each (resource_of st.types.resources.known) now.scope.known
        (λ n. both_more (IsResource st.graph) (IsResource g) (λ r i is who now. is who (fits who now))
        (resource_of st.types.resources.known n) (identity_of now.scope.known n) (at.here.known n)) q);
    current = ap (λ c. c.0) learns.current ∙ at.here.current;
  }

  -- the places of what was found are those of names
  pub learnt_named : (names : List (List (List ℕ))) × AreNamed t l.places names × AllBelow (length names) l.found
  learnt_named =
      (learns.names, learns.named, found_within learns.names l.found fresh (learns.found now.scope at.here))

  -- a component is refused
  pub component_refused : (name : ExternName) → names_entry t e ≡ true → is_defined_entity t e ≡ false
      → is_component_entity e ≡ true → prepare t name e now ≡ Err (unsupported ComponentImport)
  component_refused name named given component =
      let knows = knows_learnt st.graph (fits_refl st.graph)
      (λ k p here. absurd (none-some p (ap (λ ps. slice_get ps k) (sym (no_resources t now.scope.known e component)) ∙ here))) in
      let tree = entry_here st.graph st1.types moment.scope knows t (entity_number e) l.ty learns.is.entry in
      prepares_as t name e named given now
      ∙ ap (λ i. give t name e (with_resources i now fresh)) (sym place_is)
      ∙ give_refused t name e moment tree.0 (declared_is t moment.scope e named ∙ tree.1) (no_value e component tree.0)
    where
      no_value : (e : Entity) → is_component_entity e ≡ true → (tree : TypeTree)
          → host_value (next_import moment) e tree ≡ None
      no_value (entity.Component n) is tree = refl
      no_value (entity.Func n) is tree = absurd (true≢false (sym is))
      no_value (entity.Instance n) is tree = absurd (true≢false (sym is))
      no_value (entity.Module n) is tree = absurd (true≢false (sym is))
      no_value (entity.Type_ n) is tree = absurd (true≢false (sym is))
      no_value entity.Value is tree = absurd (true≢false (sym is))

  module _ (name : ExternName) (id : DefinitionId) (st2 : State) (gives : Gives t ms name e l st1 st2 id)
      (keeps : Keeps (tables_of st) (tables_of st2)) (named : names_entry t e ≡ true)
      (given : is_defined_entity t e ≡ false) (no_component : is_component_entity e ≡ false)
      (no_fault : table_fault t ≡ None) where
    graph_same : st1.graph ≡ st.graph
    graph_same = ap (λ (s : State). s.graph) learns.state

    types_same : st2.types ≡ st1.types
    types_same = ap (λ (s : State). s.types) gives.rest

    beside_names : AllZip (λ (x : Found) (ns : List (List ℕ)). slice_get learns.names x.place ≡ Some ns) l.found
        (map names_of_path fresh)
    beside_names = found_names learns.names l.found fresh (learns.found now.scope at.here)

    paths_are : map (path_with (length st1.graph.import_types)) (map names_of_path fresh)
        ≡ map (resource_path place) fresh
    paths_are =
        ap (λ (g : ComponentDfg). map (path_with (length g.import_types)) (map names_of_path fresh)) graph_same
        ∙ paths_same place fresh

    imports_are : map path_of st2.graph.imports
        ≡ fold with_path (map path_of st.graph.imports) (map (resource_path place) fresh)
    imports_are =
        gives.imports learns.names learns.named (map names_of_path fresh) beside_names
        ∙ ap (λ (g : ComponentDfg). fold with_path (map path_of g.imports)
        (map (path_with (length st1.graph.import_types)) (map names_of_path fresh))) graph_same
        ∙ ap (fold with_path (map path_of st.graph.imports)) paths_are

    came : st2.graph.imported_resources ≡ st.graph.imported_resources ++ gives.more
    came = gives.resources ∙ ap (λ (g : ComponentDfg). g.imported_resources ++ gives.more) graph_same

    beside : AllZip (λ (r : RuntimeImportIndex). HasPath st2.graph r.0) gives.more (map (resource_path place) fresh)
    beside =
        subst (AllZip (λ (r : RuntimeImportIndex). HasPath st2.graph r.0) gives.more) paths_are
        (gives.paths learns.names learns.named (map names_of_path fresh) beside_names)

    abbrev import : List ℕ × ComponentExtern
    import = import_of name l.ty

    imports_more : st2.graph.import_types ≡ st.graph.import_types ++ import ∷ []
    imports_more = gives.import_types ∙ ap (λ (g : ComponentDfg). g.import_types ++ import ∷ []) graph_same

    knows : KnowsSame st2.graph st2.types.resources moment.scope
    knows =
        subst (λ (ty : Types). KnowsSame st2.graph ty.resources moment.scope) (sym types_same)
        (knows_learnt st2.graph keeps.fits
        (resources_fit st2.graph st.graph.imported_resources gives.more place fresh came beside))

    entry : IsEntityType st2.types t e l.ty
    entry = subst (λ (ty : Types). IsEntityType ty t e l.ty) (sym types_same) learns.is

    tree : (tree : TypeTree) × (type_tree t moment.scope (entity_number e) ≡ Some tree)
        × IsType ms (tables_of st2) l.ty tree
    tree = entry_here st2.graph st2.types moment.scope knows t (entity_number e) l.ty entry.entry

    path_held : slice_get st2.paths.held gives.path.0 ≡ Some (import_path place)
    path_held = gives.held ∙ ap (λ (g : ComponentDfg). Some (import_path (length g.import_types))) graph_same

    import_there : slice_get st2.graph.import_types place ≡ Some import
    import_there =
        ap (λ xs. slice_get xs place) imports_more ∙ slice_get-append_seam st.graph.import_types import []

    value : (v : Value) × (host_value (import_path place) e tree.0 ≡ Some v)
        × DefinitionStands ms (tables_of st2) (host_definition gives.path e l.ty) v
    value =
        value_given t ms (tables_of st2) gives.sound.table moment.scope place gives.path path_held import import_there
        tree.0 e named no_component entry tree.1 tree.2

    abbrev next : Moment
    next = with_given moment name tree.0 value.0

    -- the reading gives the same
    reads_so : prepare t name e now ≡ Ok next
    reads_so =
        prepares_as t name e named given now
        ∙ ap (λ i. give t name e (with_resources i now fresh)) (sym place_is)
        ∙ give_done t name e moment tree.0 value.0 (declared_is t moment.scope e named ∙ tree.1)
        (ap (λ i. host_value (import_path i) e tree.0) (sym place_is) ∙ value.1)

    import_stands : ImportStands st2.types st2.graph import (record { name = name; import_type = tree.0 })
    unfolding Holds
    import_stands = record { name = refl; extern_data = refl; typed = tree.2 }

    world : WorldStands st2.types st2.graph next.world
    world =
        world_given st.types st2.types st.graph st2.graph keeps.types keeps.graph keeps.fits now.world at.world place fresh
        import (record { name = name; import_type = tree.0 })
        (ap (λ (s : State). s.graph.side_effects) gives.rest
        ∙ ap (λ (g : ComponentDfg). g.side_effects) graph_same)
        (ap (λ (s : State). s.graph.instances) gives.rest ∙ ap (λ (g : ComponentDfg). g.instances) graph_same)
        (ap (λ (s : State). s.graph.trampolines) gives.rest ∙ ap (λ (g : ComponentDfg). g.trampolines) graph_same)
        (ap (λ (s : State). s.graph.adapters) gives.rest ∙ ap (λ (g : ComponentDfg). g.adapters) graph_same)
        (ap (λ (s : State). s.graph.resources) gives.rest ∙ ap (λ (g : ComponentDfg). g.resources) graph_same)
        (ap (λ (s : State). s.graph.num_runtime_component_instances) gives.rest
        ∙ ap (λ (g : ComponentDfg). g.num_runtime_component_instances) graph_same)
        (ap (λ (s : State). s.graph.unsafe_intrinsics) gives.rest
        ∙ ap (λ (g : ComponentDfg). g.unsafe_intrinsics) graph_same)
        imports_more import_stands imports_are gives.more came beside
        (resources_apart st.graph st.paths.held st.used.items at.sound.used t no_fault e now.scope.known
        st.graph.imported_resources now.world.imported_resources at.world.imported_resources at.world.resources_apart)

    module _ (number : Atom) (numbered : IsNumber st.names.now.texts number name.name) where
      abbrev framed : Frame
      framed = record f {
        arguments = with_first_number f.arguments number id;
        converted = f1.converted;
        changes = f1.changes;
      }

      frame : FrameStands ms (tables_of st2) framed next.scope
      frame =
          let h = frame_kept ms (tables_of st) (tables_of st2) keeps f now.scope at.frame in
          record {
            core_funcs = h.core_funcs;
            memories = h.memories;
            tables = h.tables;
            globals = h.globals;
            tags = h.tags;
            modules = h.modules;
            funcs = h.funcs;
            core_instances = h.core_instances;
            instances = h.instances;
            components = h.components;
            arguments = named_first st2.names.now.texts (Stands ms (tables_of st2)) f.arguments now.scope.arguments number
                name.name id value.0 gives.sound.names.distinct
                (subst (λ (n : Named). IsNumber n.texts number name.name) (sym keeps.names) numbered) h.arguments
                (stands gives.defined value.2);
            component_instance = h.component_instance;
            begun = h.begun;
          }

      -- the import was prepared as it is read
      pub given_goes : (g : Frame) → g ≡ record f1 { arguments = with_first_number f1.arguments number id }
          → Goes t ms st2 g (prepare t name e now)
      given_goes g is = record {
        now = next;
        stands = subst (λ (x : Frame). PointStands t ms st2 x next) (sym (is
            ∙ ap (λ (x : Frame). record x { arguments = with_first_number x.arguments number id }) learns.frame)) (record {
              sound = gives.sound;
              here = knows_in st2.graph st2.types.resources moment.scope knows next.scope refl refl;
              converted = subst (λ (ty : Types). AreConverted ty t f1.converted) (sym types_same) learns.converted;
              frame = frame;
              world = world;
              unexported = record {
                exports = ap (λ (s : State). s.graph.exports) gives.rest
                    ∙ ap (λ (x : ComponentDfg). x.exports) graph_same ∙ at.unexported.exports;
                items = ap (λ (s : State). s.graph.export_items) gives.rest
                    ∙ ap (λ (x : ComponentDfg). x.export_items) graph_same ∙ at.unexported.items;
              };
            });
        done = reads_so;
      }

module _ (t : TypeTable) (ms : List ModuleRecord) (e : Entity) (st : State) (f : Frame) (st1 : State) (f1 : Frame)
    (l : Learnt) (learns : Learns t ms e st f st1 f1 l) where
  -- what was learnt declares no resource
  pub learnt_undeclared : st.graph.resources ≡ [] → st1.graph.resources ≡ []
  learnt_undeclared none = ap (λ (s : State). s.graph.resources) learns.state ∙ none

  -- nor does the import
  pub given_undeclared : (name : ExternName) (id : DefinitionId) (st2 : State) → Gives t ms name e l st1 st2 id
      → st.graph.resources ≡ [] → st2.graph.resources ≡ []
  given_undeclared name id st2 gives none =
      ap (λ (s : State). s.graph.resources) gives.rest ∙ learnt_undeclared none

  few_enough : (l : ListName) (n : ℕ) → n ≤ length t.types → in_given n l ≤ most_converted t 1
  few_enough list.import_types n le = omega (arith, le)
  few_enough list.imports n le = omega (arith, le)
  few_enough list.imported_resources n le = omega (arith, le)
  few_enough list.resources n le = omega (arith, le)
  few_enough k n le = omega arith

  -- what an import adds with its type, its resources and its definition
  pub prepared_few : (x : Tables) → AddsEach (in_given (length l.found)) 0 1 (tables_of st1) x
      → Keeps (tables_of st) x → Adds t (most_converted t 1) (tables_of st) x
  prepared_few x each keeps =
      let graph_same : st1.graph ≡ st.graph = ap (λ (s : State). s.graph) learns.state in
      let begun_same : st1.graph.num_runtime_component_instances ≡ st.graph.num_runtime_component_instances =
      ap (λ (g : ComponentDfg). g.num_runtime_component_instances) graph_same in
      let begun = each.begun in
      record {
        types = subst (AddsTypes t (most_converted t 1) st.types) (sym each.types)
            (few_more t (most_types t) (most_converted t 1) st.types st1.types (omega arith) learns.adds);
        tables = subst (λ ty. AddsTables t x.graph.num_runtime_component_instances st.types ty) (sym each.types)
            (subst (λ n. AddsTables t n st.types st1.types) (sym each.begun) learns.tables);
        entries = record {
          lists = λ k.
              let same : with_modules st1.graph k ≡ with_modules st.graph k =
              ap (λ (g : ComponentDfg). with_modules g k) graph_same in
              let le = each.lists k in
              let none : length x.graph.adapters ≤ length st1.graph.adapters + 0 = each.lists list.adapters in
              let few = few_enough k (length l.found) learns.few in
              omega (arith, same, le, none, few);
          cores = let same = ap (λ (s : State). length s.cores) learns.state in let le = each.cores in
              omega (arith, same, le);
          definitions = let same = ap (λ (s : State). length s.definitions) learns.state in let le = each.definitions in
              omega (arith, same, le);
          closures = let same = ap (λ (s : State). length s.closures) learns.state in let le = each.closures in
              omega (arith, same, le);
          instances = let same = ap (λ (s : State). length s.instances) learns.state in let le = each.instances in
              omega (arith, same, le);
          begun = omega (arith, begun, begun_same);
          resources =
              let one = ap (λ (g : ComponentDfg). length g.imported_resources) graph_same in
              let two = ap (λ (g : ComponentDfg). length g.resources) graph_same in
              let le = each.resources in
              let few = learns.few in
              omega (arith, one, two, le, few);
        };
        grows = keeps.types;
        later = omega (arith, begun, begun_same);
      }

-- the entity names no entry of its kind
pub prepare_untyped : (t : TypeTable) (name : ExternName) (e : Entity) (now : Moment) → names_entry t e ≡ false
    → prepare t name e now ≡ Err bad_type
unfolding prepare
prepare_untyped t name e now isnt = rw isnt refl

-- a defined type is given nothing for
prepare_defined : (t : TypeTable) (name : ExternName) (e : Entity) (now : Moment) → names_entry t e ≡ true
    → is_defined_entity t e ≡ true → prepare t name e now ≡ Ok now
unfolding prepare
prepare_defined t name e now named defined = rw (named, defined) refl

-- and converted
pub defined_goes : (t : TypeTable) (ms : List ModuleRecord) (st : State) (f : Frame) (st' : State)
    (done : Layers) → Converts t st f.converted st' done → (name : ExternName) (e : Entity)
    → names_entry t e ≡ true → is_defined_entity t e ≡ true → (now : Moment) → PointStands t ms st f now
    → Goes t ms st' (record f { converted = done }) (prepare t name e now)
defined_goes t ms st f st' done converts name e named defined now at = record {
  now = now;
  stands = converted_point t ms st f st' done converts now at;
  done = prepare_defined t name e now named defined;
}
