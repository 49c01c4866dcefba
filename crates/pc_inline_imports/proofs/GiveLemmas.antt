-- An import that comes into the graph, with its resources behind it.
use Rattle.std.proofs.Common.{◌≡◌, ◌<◌, ◌≤◌, ◌+◌, ℕ, zero, suc, List, [], ◌∷◌, ◌++◌, length, map, get_or, refl}
use Rattle.std.proofs.Common.{sym, ap, subst, ◌∙◌, Some, None, arith, ◌⊎◌, inl, inr, Result, Ok, Err}
use Rattle.std.specs.Prelude.{slice_get, OnOk, OnErr, IfOk}
use Rattle.std.specs.List.{AllZip, fold}
use Rattle.std.proofs.lemmas.List.{length_push}
use Rattle.std.proofs.lemmas.Option.{none-some, same_Some, slice_get-get_or, slice_get_within}
use Rattle.pc_entity.proofs.Growing.{slice_get-append_seam}
use Rattle.pc_entity.proofs.LookupLemmas.{found_at}
use Rattle.pc_entity.specs.Lists.{Kept}
use Rattle.pc_numbers.specs.declared.runtime.ImportIndex.{ImportIndex}
use Rattle.pc_numbers.specs.declared.runtime.RuntimeImportIndex.{RuntimeImportIndex}
use Rattle.pc_types.specs.declared.module_record.ModuleRecord.{ModuleRecord}
use Rattle.pc_types.specs.declared.parsed.Entity.{Entity}
use Rattle.pc_types.specs.declared.parsed.Entity.TheVariants as entity
use Rattle.pc_types.specs.declared.parsed.TypeTable.{TypeTable}
use Rattle.pc_types.specs.declared.types.ComponentExtern.{ComponentExtern}
use Rattle.pc_types.specs.declared.types.TypeDef.{TypeDef}
use Rattle.pc_types.specs.declared.types.TypeDef.TheVariants as type
use Rattle.pc_types.specs.TypeTree.{Path}
use Rattle.pc_types_walk.specs.declared.walk.Found.{Found}
use Rattle.pc_types_walk.specs.declared.walk.Place.{Place}
use Rattle.pc_types_walk.specs.Walks.{AreNamed, export_at}
use Rattle.pc_parsed.specs.declared.payload.ExternName.{ExternName}
use Rattle.pc_spec_plan.specs.PlanView as plan
use Rattle.pc_spec_reading.specs.Asked.{import_path, with_path}
use Rattle.pc_dfg.specs.declared.dfg.ComponentDfg.{ComponentDfg}
use Rattle.pc_dfg.specs.Grows as graph
use Rattle.pc_dfg.specs.Lists as list
use Rattle.pc_dfg.specs.Lists.{ListName}
use Rattle.pc_dfg.specs.Means.{HasPath}
use Rattle.pc_dfg.specs.Numbers.{slots_of}
use Rattle.pc_dfg.specs.Ordered.{IsOrdered}
use Rattle.pc_inline_paths.specs.declared.path_id.PathId.{PathId}
use Rattle.pc_inline_paths.specs.Paths.{at_import, further}
use Rattle.pc_inline_state.specs.declared.definition.Definition.{Definition}
use Rattle.pc_inline_state.specs.declared.definition.DefinitionId.{DefinitionId}
use Rattle.pc_inline_state.specs.declared.error.ItemError.{ItemError}
use Rattle.pc_inline_state.specs.declared.state.State.{State}
use Rattle.pc_inline_state.specs.AddsEach.{AddsEach, nowhere}
use Rattle.pc_inline_state.specs.Definitions.{exports_of}
use Rattle.pc_inline_state.specs.Fits.{FitsBefore, path_of}
use Rattle.pc_inline_state.specs.Points.{IsSoundState}
use Rattle.pc_inline_state.specs.Tables.{Keeps, Tables, tables_of}
use Rattle.pc_inline_state.specs.TakesPath.{SoundWithPaths, TakesPath}
use Rattle.pc_inline_state.proofs.AddsLemmas.{each_trans, each_weaken}
use Rattle.pc_inline_state.proofs.FitsLemmas.{fits_grown}
use Rattle.pc_inline_state.proofs.GrowthLemmas.{graph_grown}
use Rattle.pc_inline_state.proofs.MembersLemmas.{no_instance}
use Rattle.pc_inline_state.proofs.StateLemmas.{definition_prepares, keeps_trans}
use Rattle.pc_inline_imports.specs.declared.learn.Learnt.{Learnt}
use Rattle.pc_inline_imports.specs.Given.{host_definition, import_of}
use Rattle.pc_inline_imports.specs.Brings.{AllBelow, AllHeld, ArePaths, Brings, Gives, GoesFurther, in_brought, in_given}
use Rattle.pc_inline_imports.specs.Brings.{path_at, path_with}
use Rattle.pc_inline_imports.proofs.BringLemmas.{other, other_sound, path_at_is}

-- what is found in a list with one item more was there, or is that one
pub push_cases : {A : Type 0} (xs : List A) (y : A) (n : ℕ) (x : A) → slice_get (xs ++ y ∷ []) n ≡ Some x
    → (slice_get xs n ≡ Some x) ⊎ ((n ≡ length xs) × (y ≡ x))
push_cases [] y zero x at = inr (refl, same_Some y x at)
push_cases [] y (suc n) x at = absurd (none-some x at)
push_cases (z ∷ xs) y zero x at = inl at
push_cases (z ∷ xs) y (suc n) x at = elim (push_cases xs y n x at)
    as (λ _. (slice_get xs n ≡ Some x) ⊎ ((suc n ≡ suc (length xs)) × (y ≡ x))) [
      | inl before ↦ inl before
      | inr last ↦ inr (ap suc last.0, last.1)
    ]

-- what is read of the same list
pub path_read : (xs ys : List PathId) (i : ℕ) (d : PathId) → ys ≡ xs → i < length ys
    → slice_get xs i ≡ Some (get_or ys i d)
path_read xs ys i d same within =
    subst (λ l. slice_get l i ≡ Some (get_or ys i d)) same (slice_get-get_or ys i d within)

-- paths that are kept are those of the places
paths_kept : (i : ℕ) (names : List (List (List ℕ))) (old new : List Path) (ids : List PathId) → Kept old new
    → ArePaths i names old ids → ArePaths i names new ids
paths_kept i names old new ids keeps are k id at =
    let before = are k id at in
    (before.0, before.1, keeps id.0 (path_with i before.0) before.2)

-- so all of them are held
pub paths_held : (i : ℕ) (names : List (List (List ℕ))) (paths : List Path) (ids : List PathId)
    → ArePaths i names paths ids → AllHeld ids paths
paths_held i names paths ids are k id at =
    let here = are k id at in
    slice_get_within paths id.0 (path_with i here.0) here.2

module _ (t : TypeTable) (places : List Place) (import : ImportIndex) (old : State) where
  -- the paths of the import itself and of so many places
  pub record PathsSoFar (st : State) (ids : List PathId) (k : ℕ) : Type 0 where
    pub count : length ids ≡ k + 1
    pub are : (names : List (List (List ℕ))) → AreNamed t places names → ArePaths import.0 names st.paths.held ids
    pub sound : SoundWithPaths old st
    pub keeps : Keeps (tables_of old) (tables_of st)
    pub adds : AddsEach nowhere 0 0 (tables_of old) (tables_of st)
    pub rest : st ≡ record old { paths = st.paths; used = st.used }

  -- that of the import
  pub paths_start : (st : State) (id : PathId) → TakesPath (at_import import) old st id → SoundWithPaths old st
      → Keeps (tables_of old) (tables_of st) → AddsEach nowhere 0 0 (tables_of old) (tables_of st)
      → st ≡ record old { paths = st.paths; used = st.used } → (ids : List PathId) → ids ≡ [] ++ id ∷ []
      → PathsSoFar st ids 0
  paths_start st id takes sound keeps adds rest ids is = record {
    count = ap length is;
    are = λ names named. subst (ArePaths import.0 names st.paths.held) (sym is) (one names named);
    sound = sound;
    keeps = keeps;
    adds = adds;
    rest = rest;
  }
    where
      one : (names : List (List (List ℕ))) → AreNamed t places names → ArePaths import.0 names st.paths.held (id ∷ [])
      one names named zero x at = (
        [],
        named.start,
        subst (λ (y : PathId). slice_get st.paths.held y.0 ≡ Some (path_with import.0 []))
            (same_Some id x at) takes.held,
      )
      one names named (suc n) x at = absurd (none-some x at)

  module _ (st : State) (ids : List PathId) (k : ℕ) (far : PathsSoFar st ids k) where
    module _ (named : (names : List (List (List ℕ))) × AreNamed t places names) where
      -- they are held
      pub far_held : AllHeld ids st.paths.held
      far_held = paths_held import.0 named.0 st.paths.held ids (far.are named.0 named.1)

      module _ (p : Place) (at : slice_get places k ≡ Some p) where
        -- the next place is an export
        pub export_there : (x : List ℕ × Entity) × (export_at t p.entry p.export ≡ Some x)
        export_there = let f = named.1.further k p at in (f.1, f.4)

        -- its parent is one of those
        pub parent_there : p.parent < length ids
        parent_there =
            let f = named.1.further k p at in
            let le = f.2 in
            let count = far.count in
            omega (arith, le, count)

    -- the path of one place more
    pub paths_next : (p : Place) → slice_get places k ≡ Some p → (st' : State) (ids' : List PathId)
        → GoesFurther t p st.paths.held ids st'.paths.held ids' → SoundWithPaths st st' → Keeps (tables_of st) (tables_of st')
        → AddsEach nowhere 0 0 (tables_of st) (tables_of st') → st' ≡ record st { paths = st'.paths; used = st'.used }
        → PathsSoFar st' ids' (k + 1)
    paths_next p at_place st' ids' goes sound keeps adds rest = record {
      count = ap length goes.1 ∙ length_push ids goes.0 ∙ ap (λ n. n + 1) far.count;
      are = λ names named. subst (ArePaths import.0 names st'.paths.held) (sym goes.1) (more names named);
      sound = λ u ms s. sound u ms (far.sound u ms s);
      keeps = keeps_trans (tables_of old) (tables_of st) (tables_of st') far.keeps keeps;
      adds = each_weaken (λ l. nowhere l + nowhere l) nowhere 0 0 0 0 (tables_of old) (tables_of st')
          (λ l. omega arith) (omega arith) (omega arith)
          (each_trans nowhere nowhere 0 0 0 0 (tables_of old) (tables_of st) (tables_of st') far.adds adds);
      rest = rest ∙ ap (λ (s : State). record s { paths = st'.paths; used = st'.used }) far.rest;
    }
      where
        last : (names : List (List (List ℕ))) → AreNamed t places names
            → (ns : List (List ℕ)) × (slice_get names (k + 1) ≡ Some ns)
            × (slice_get st'.paths.held goes.0.0 ≡ Some (path_with import.0 ns))
        last names named =
            let f = named.further k p at_place in
            let prefix = f.0 in
            let x = f.1 in
            let le = f.2 in
            let count = far.count in
            let there = found_at ids p.parent (omega (arith, le, count)) in
            let parent = far.are names named p.parent there.0 there.1 in
            let same : parent.0 ≡ prefix = same_Some parent.0 prefix (sym parent.1 ∙ f.3) in
            let held = subst (λ ns. slice_get st.paths.held there.0.0 ≡ Some (path_with import.0 ns)) same parent.2 in
            (prefix ++ x.0 ∷ [], f.5, goes.2 there.0 (path_with import.0 prefix) x there.1 held f.4)

        more : (names : List (List (List ℕ))) → AreNamed t places names
            → ArePaths import.0 names st'.paths.held (ids ++ goes.0 ∷ [])
        more names named n id at = elim (push_cases ids goes.0 n id at)
            as (λ _. (ns : List (List ℕ)) × (slice_get names n ≡ Some ns)
            × (slice_get st'.paths.held id.0 ≡ Some (path_with import.0 ns))) [
              | inl before ↦
                  paths_kept import.0 names st.paths.held st'.paths.held ids keeps.paths (far.are names named) n id before
              | inr here ↦ (
                  let l = last names named in (
                    l.0,
                    ap (slice_get names) (here.0 ∙ far.count) ∙ l.1,
                    subst (λ (y : PathId). slice_get st'.paths.held y.0 ≡ Some (path_with import.0 l.0)) here.1 l.2,
                  ))
            ]

-- what the host gives isn't made of exports
host_exports : (p : PathId) (e : Entity) (d : TypeDef) → exports_of (host_definition p e d) ≡ None
host_exports p (entity.Func n) d = by d
  where
    by : (d : TypeDef) → exports_of (host_definition p (entity.Func n) d) ≡ None
    by (type.ComponentFunc ty) = refl
    by (type.ComponentInstance ty) = refl
    by (type.Module ty) = refl
    by (type.Component ty) = refl
    by (type.Interface ty) = refl
    by (type.Resource ty) = refl
host_exports p (entity.Instance n) d = by d
  where
    by : (d : TypeDef) → exports_of (host_definition p (entity.Instance n) d) ≡ None
    by (type.ComponentFunc ty) = refl
    by (type.ComponentInstance ty) = refl
    by (type.Module ty) = refl
    by (type.Component ty) = refl
    by (type.Interface ty) = refl
    by (type.Resource ty) = refl
host_exports p (entity.Module n) d = by d
  where
    by : (d : TypeDef) → exports_of (host_definition p (entity.Module n) d) ≡ None
    by (type.ComponentFunc ty) = refl
    by (type.ComponentInstance ty) = refl
    by (type.Module ty) = refl
    by (type.Component ty) = refl
    by (type.Interface ty) = refl
    by (type.Resource ty) = refl
host_exports p (entity.Component n) d = refl
host_exports p (entity.Type_ n) d = refl
host_exports p entity.Value d = refl

-- the import, and its graph
module _ (t : TypeTable) (ms : List ModuleRecord) (st : State) (g : ComponentDfg)
    (rest : g ≡ record st.graph { import_types = g.import_types }) (grows : graph.Grows st.graph g) where
  abbrev typed : State
  typed = record st { graph = g }

  typed_fits : FitsBefore st.graph g
  typed_fits =
      fits_grown st.graph g grows (ap (λ (x : ComponentDfg). x.imported_resources) rest)
      (ap (λ (x : ComponentDfg). x.resources) rest)

  -- what is kept
  pub typed_keeps : Keeps (tables_of st) (tables_of typed)
  typed_keeps = graph_grown (tables_of st) g grows typed_fits

  -- no resource is declared
  pub typed_undeclared : st.graph.resources ≡ [] → g.resources ≡ []
  typed_undeclared none = ap (λ (x : ComponentDfg). x.resources) rest ∙ none

  module _ (x : List ℕ × ComponentExtern) (ok : g.import_types ≡ st.graph.import_types ++ x ∷ []) where
    -- and the state is sound
    pub typed_sound : IsSoundState t ms st → (IsOrdered st.graph → IsOrdered g) → IsSoundState t ms typed
    typed_sound sound ordered =
        let same : g ≡ other t ms st g.import_types st.graph.imported_resources = rest in
        subst (λ (y : ComponentDfg). IsSoundState t ms (record st { graph = y })) (sym same)
        (other_sound t ms st g.import_types st.graph.imported_resources (subst (graph.Grows st.graph) same grows)
        (subst (FitsBefore st.graph) same typed_fits) sound (subst IsOrdered same (ordered sound.ordered)))

-- the import itself
abbrev pub in_types : ListName → ℕ
in_types list.import_types = 1
in_types l = 0

pub typed_adds : {A E : Type 0} (a : Tables) (g : ComponentDfg) (r : Result A E) (x : List ℕ × ComponentExtern)
    → g ≡ record a.graph { import_types = g.import_types } → OnOk r (g.import_types ≡ a.graph.import_types ++ x ∷ [])
    → OnErr r (g ≡ a.graph) → AddsEach in_types 0 0 a (record a { graph = g })
unfolding slots_of
typed_adds {A = A} {E = E} a g r x rest ok err = subst (λ (h : ComponentDfg). AddsEach in_types 0 0 a (record a { graph = h })) (sym rest)
    (record {
      types = refl;
      lists = by;
      cores = omega arith;
      definitions = omega arith;
      closures = omega arith;
      instances = omega arith;
      begun = refl;
      resources = omega arith;
    })
  where
    few : (r : Result A E) → OnOk r (g.import_types ≡ a.graph.import_types ++ x ∷ []) → OnErr r (g ≡ a.graph)
        → length g.import_types ≤ length a.graph.import_types + 1
    few (Ok y) ok err = let same = ap length ok ∙ length_push a.graph.import_types x in omega (arith, same)
    few (Err e) ok err = let same = ap (λ (h : ComponentDfg). length h.import_types) err in omega (arith, same)

    by : (l : ListName) → length (list.entries_of (record a.graph { import_types = g.import_types }) l)
        ≤ length (list.entries_of a.graph l) + in_types l
    by (list.slots plan.memory) = omega arith
    by (list.slots plan.table) = omega arith
    by (list.slots plan.realloc) = omega arith
    by (list.slots plan.callback) = omega arith
    by (list.slots plan.post_return) = omega arith
    by list.import_types = few r ok err
    by list.imports = omega arith
    by list.imported_resources = omega arith
    by list.options = omega arith
    by list.trampolines = omega arith
    by list.adapters = omega arith
    by list.adapter_modules = omega arith
    by list.adapter_partitionings = omega arith
    by list.instances = omega arith
    by list.resources = omega arith
    by list.side_effects = omega arith
    by list.export_items = omega arith
    by list.exports = omega arith

-- the import, its paths, its resources and its definition
pub given_adds : (n : ℕ) (a b c d x : Tables) → AddsEach in_types 0 0 a b → AddsEach nowhere 0 0 b c
    → AddsEach (in_brought n) 0 0 c d → AddsEach nowhere 0 1 d x → AddsEach (in_given n) 0 1 a x
given_adds n a b c d x h k m j =
    each_weaken (λ l. in_types l + nowhere l + in_brought n l + nowhere l) (in_given n) 0 1 0 1 a x le (omega arith)
    (omega arith)
    (each_trans (λ l. in_types l + nowhere l + in_brought n l) nowhere 0 0 0 1 a d x
    (each_trans (λ l. in_types l + nowhere l) (in_brought n) 0 0 0 0 a c d
    (each_trans in_types nowhere 0 0 0 0 a b c h k) m) j)
  where
    le : (l : ListName) → in_types l + nowhere l + in_brought n l + nowhere l ≤ in_given n l
    le list.import_types = omega arith
    le list.imports = omega arith
    le list.imported_resources = omega arith
    le list.resources = omega arith
    le l = omega arith

-- the paths of resources are those at their places
paths_are : (i : ℕ) (names : List (List (List ℕ))) (paths : List Path) (ids : List PathId)
    → ArePaths i names paths ids → (found : List Found) (ps : List (List (List ℕ))) → AllBelow (length ids) found
    → AllZip (λ (f : Found) (ns : List (List ℕ)). slice_get names f.place ≡ Some ns) found ps
    → map (path_at ids paths) found ≡ map (path_with i) ps
paths_are i names paths ids are [] [] below h = refl
paths_are i names paths ids are [] (p ∷ ps) below h = absurd h
paths_are i names paths ids are (f ∷ fs) [] below h = absurd h
paths_are i names paths ids are (f ∷ fs) (p ∷ ps) below h =
    let there = found_at ids f.place (below 0 f refl) in
    let path = are f.place there.0 there.1 in
    let same : path.0 ≡ p = same_Some path.0 p (sym path.1 ∙ h.0) in
    let here : path_at ids paths f ≡ path_with i p = path_at_is ids paths f there.0 (path_with i p) there.1
    (subst (λ ns. slice_get paths there.0.0 ≡ Some (path_with i ns)) same path.2) in
    let rest = paths_are i names paths ids are fs ps (λ k g at. below (suc k) g at) h.1 in
    λ j. here j ∷ rest j

-- places below the names are below the paths
pub below_paths : (t : TypeTable) (l : Learnt) (ids : List PathId) → length ids ≡ length l.places + 1
    → ((names : List (List (List ℕ))) × AreNamed t l.places names × AllBelow (length names) l.found)
    → AllBelow (length ids) l.found
below_paths t l ids count named k f at =
    let below = named.2 k f at in
    let names = named.1.count in
    omega (arith, below, names, count)

module _ (t : TypeTable) (ms : List ModuleRecord) (name : ExternName) (e : Entity) (l : Learnt) (old : State)
    (g : ComponentDfg) (rest : g ≡ record old.graph { import_types = g.import_types })
    (n : ImportIndex) (is_last : n.0 ≡ length old.graph.import_types) (x : List ℕ × ComponentExtern)
    (x_is : x ≡ import_of name l.ty) (ok : g.import_types ≡ old.graph.import_types ++ x ∷ []) where
  abbrev first : State
  first = record old { graph = g }

  module _ (mid : State) (ids : List PathId)
      (are : (names : List (List (List ℕ))) → AreNamed t l.places names → ArePaths n.0 names mid.paths.held ids)
      (count : length ids ≡ length l.places + 1)
      (mid_rest : mid ≡ record first { paths = mid.paths; used = mid.used }) (st : State)
      (brings : Brings t ms (map (path_at ids mid.paths.held) l.found) mid st)
      (named : (names : List (List (List ℕ))) × AreNamed t l.places names × AllBelow (length names) l.found) where
    imports_mid : mid.graph.imports ≡ old.graph.imports
    imports_mid = ap (λ (s : State). s.graph.imports) mid_rest ∙ ap (λ (h : ComponentDfg). h.imports) rest

    resources_mid : mid.graph.imported_resources ≡ old.graph.imported_resources
    resources_mid =
        ap (λ (s : State). s.graph.imported_resources) mid_rest ∙ ap (λ (h : ComponentDfg). h.imported_resources) rest

    paths_last : (names : List (List (List ℕ))) → AreNamed t l.places names → (ps : List (List (List ℕ)))
        → AllZip (λ (f : Found) (ns : List (List ℕ)). slice_get names f.place ≡ Some ns) l.found ps
        → map (path_at ids mid.paths.held) l.found ≡ map (path_with (length old.graph.import_types)) ps
    paths_last names named_so ps beside =
        paths_are n.0 names mid.paths.held ids (are names named_so) l.found ps (below_paths t l ids count named) beside
        ∙ ap (λ i. map (path_with i) ps) is_last

    graph_st : st.graph ≡ record old.graph {
      import_types = g.import_types;
      imports = st.graph.imports;
      imported_resources = st.graph.imported_resources;
    }
    graph_st =
        ap (λ (s : State). s.graph) brings.rest
        ∙ ap (λ (s : State). record s.graph {
          imports = st.graph.imports;
          imported_resources = st.graph.imported_resources;
        }) mid_rest
        ∙ ap (λ (h : ComponentDfg). record h {
          imports = st.graph.imports;
          imported_resources = st.graph.imported_resources;
        }) rest

    state_st : st ≡ record old { graph = st.graph; paths = st.paths; used = st.used }
    state_st =
        brings.rest
        ∙ ap (λ (s : State). record s {
          graph = record s.graph {
            imports = st.graph.imports;
            imported_resources = st.graph.imported_resources;
          };
          used = st.used;
        }) mid_rest
        ∙ (λ j. record old {
          graph = sym graph_whole j;
          paths = sym (ap (λ (s : State). s.paths) brings.rest) j;
          used = st.used;
        })
      where
        graph_whole : st.graph ≡ record g {
          imports = st.graph.imports;
          imported_resources = st.graph.imported_resources;
        }
        graph_whole =
            ap (λ (s : State). s.graph) brings.rest
            ∙ ap (λ (s : State). record s.graph {
              imports = st.graph.imports;
              imported_resources = st.graph.imported_resources;
            }) mid_rest

    -- what the host gives is defined
    pub gives_import : (path : PathId) → slice_get ids 0 ≡ Some path → (d : Definition)
        → d ≡ host_definition path e l.ty → (id : DefinitionId) → id.0 ≡ length st.definitions → (new : State)
        → new ≡ record st { definitions = st.definitions ++ d ∷ [] } → Gives t ms name e l old new id
    gives_import path at d defined id id_last new put =
        let none = no_instance (length st.instances) d (ap exports_of defined ∙ host_exports path e l.ty) in
        let more = definition_prepares t ms st d none in
        subst (λ (s : State). Gives t ms name e l old s id) (sym put) (record {
          sound = more.sound sound_now;
          imports = λ names named_so ps beside.
              brings.imports
              ∙ ap (λ is. fold with_path (map path_of is) (map (path_at ids mid.paths.held) l.found)) imports_mid
              ∙ ap (fold with_path (map path_of old.graph.imports)) (paths_last names named_so ps beside);
          more = brings.more;
          resources = brings.resources ∙ ap (λ rs. rs ++ brings.more) resources_mid;
          paths = λ names named_so ps beside.
              subst (AllZip (λ (r : RuntimeImportIndex). HasPath st.graph r.0) brings.more)
              (paths_last names named_so ps beside) brings.paths;
          path = path;
          held = held_now;
          defined = ap (slice_get (st.definitions ++ d ∷ [])) id_last ∙ slice_get-append_seam st.definitions d []
              ∙ ap Some defined;
          import_types = ap (λ (h : ComponentDfg). h.import_types) graph_st ∙ ok
              ∙ ap (λ y. old.graph.import_types ++ y ∷ []) x_is;
          rest = ap (λ (s : State). record s { definitions = st.definitions ++ d ∷ [] }) state_st
              ∙ (λ j. record old {
                graph = graph_last j;
                paths = st.paths;
                used = st.used;
                definitions = st.definitions ++ d ∷ [];
              });
        })
      where
        sound_now : IsSoundState t ms st
        sound_now = brings.sound

        graph_last : st.graph ≡ record old.graph {
          import_types = st.graph.import_types;
          imports = st.graph.imports;
          imported_resources = st.graph.imported_resources;
        }
        graph_last =
            graph_st
            ∙ ap (λ is. record old.graph {
              import_types = is;
              imports = st.graph.imports;
              imported_resources = st.graph.imported_resources;
            }) (sym (ap (λ (h : ComponentDfg). h.import_types) graph_st))

        held_now : slice_get st.paths.held path.0 ≡ Some (import_path (length old.graph.import_types))
        held_now =
            let here = are named.0 named.1 0 path at in
            let none : here.0 ≡ [] = same_Some here.0 [] (sym here.1 ∙ named.1.start) in
            ap (λ (s : State). slice_get s.paths.held path.0) brings.rest ∙ here.2
            ∙ ap (λ ns. Some (path_with n.0 ns)) none
            ∙ ap (λ i. Some (path_with i [])) is_last

    -- so it is if there was room for it
    pub gives_result : (path : PathId) → slice_get ids 0 ≡ Some path → (d : Definition)
        → d ≡ host_definition path e l.ty → (new : State) (r : Result DefinitionId ItemError)
        → IfOk r (λ id. id.0 ≡ length st.definitions)
        → OnOk r (new ≡ record st { definitions = st.definitions ++ d ∷ [] })
        → IfOk r (Gives t ms name e l old new)
    gives_result path at d defined new (Ok id) key ok = gives_import path at d defined id key new ok
    gives_result path at d defined new (Err x) key ok = tt
