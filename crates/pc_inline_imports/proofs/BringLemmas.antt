-- Resources that come into the graph by the paths of their places.
use Rattle.std.proofs.Common.{◌≡◌, ◌<◌, ◌≤◌, ◌+◌, ℕ, List, [], ◌∷◌, ◌++◌, length, map, take, refl}
use Rattle.std.proofs.Common.{sym, ap, subst, ◌∙◌, Option, Some, arith}
use Rattle.std.specs.Prelude.{slice_get, option_and_then, unwrap_or, OnErr, OnOk, Result, Ok, Err}
use Rattle.std.specs.List.{AllZip}
use Rattle.std.proofs.lemmas.List.{append-nil, append_assoc, length_push, map_more}
use Rattle.std.proofs.lemmas.List.Sums.{fold_push}
use Rattle.std.proofs.lemmas.Option.{get_or_from_slice_get, slice_get_within}
use Rattle.pc_entity.proofs.LookupLemmas.{found_at}
use Rattle.pc_entity.proofs.Growing.{kept_refl}
use Rattle.pc_numbers.specs.declared.runtime.RuntimeImportIndex.{RuntimeImportIndex}
use Rattle.pc_types.specs.declared.module_record.ModuleRecord.{ModuleRecord}
use Rattle.pc_types.specs.declared.parsed.TypeTable.{TypeTable}
use Rattle.pc_types.specs.declared.types.ComponentExtern.{ComponentExtern}
use Rattle.pc_types.specs.TypeTree.{Path}
use Rattle.pc_types_walk.specs.declared.walk.Found.{Found}
use Rattle.pc_spec_plan.specs.PlanView as plan
use Rattle.pc_spec_reading.specs.Asked.{import_path, with_path}
use Rattle.pc_dfg.specs.declared.dfg.ComponentDfg.{ComponentDfg}
use Rattle.pc_dfg.specs.Grows as graph
use Rattle.pc_dfg.specs.Lists as list
use Rattle.pc_dfg.specs.Lists.{ListName}
use Rattle.pc_dfg.specs.Means.{HasPath}
use Rattle.pc_dfg.specs.Numbers.{slots_of}
use Rattle.pc_dfg.specs.Ordered.{IsOrdered}
use Rattle.pc_dfg.proofs.GrowLemmas.{kept}
use Rattle.pc_inline_paths.specs.declared.path_id.PathId.{PathId}
use Rattle.pc_inline_canon.specs.Hosts.{Uses}
use Rattle.pc_inline_canon.proofs.ItemLemmas.{items_same, types_held, used_kept}
use Rattle.pc_inline_state.specs.declared.state.State.{State}
use Rattle.pc_inline_state.specs.AddsEach.{AddsEach, in_imports}
use Rattle.pc_inline_state.specs.Fits.{FitsBefore, path_of}
use Rattle.pc_inline_state.specs.Points.{IsSoundState}
use Rattle.pc_inline_state.specs.Tables.{Keeps, Tables, tables_of}
use Rattle.pc_inline_state.proofs.AddsLemmas.{each_refl, each_trans, each_weaken}
use Rattle.pc_inline_state.proofs.GrowthLemmas.{graph_grown}
use Rattle.pc_inline_state.proofs.InstanceLemmas.{instances_kept, widths_kept}
use Rattle.pc_inline_state.proofs.PlacedLemmas.{placed_kept}
use Rattle.pc_inline_state.proofs.StateLemmas.{keeps_refl, keeps_trans}
use Rattle.pc_inline_state.proofs.ZipLemmas.{zip_more}
use Rattle.pc_inline_imports.specs.Brings.{AllHeld, Brings, in_brought, path_at}

-- what fits a graph that has grown fitted it before, where no resource was declared
pub fits_undeclared : (g h : ComponentDfg) → graph.Grows g h → g.resources ≡ [] → FitsBefore g h
fits_undeclared g h grows none who fits = record {
  given = λ n r i at import. fits.given n r i (kept g h grows list.imported_resources n r at)
      (kept g h grows list.imports r.0 i import);
  own = λ n below. let nothing = ap length none in absurd (omega (arith, below, nothing));
}

-- items beside other items, place by place
pub zip_append : {A B : Type 0} (R : A → B → Type 0) (xs : List A) (ys : List B) (us : List A) (vs : List B)
    → AllZip R xs ys → AllZip R us vs → AllZip R (xs ++ us) (ys ++ vs)
zip_append R [] [] us vs h k = k
zip_append R [] (y ∷ ys) us vs h k = absurd h
zip_append R (x ∷ xs) [] us vs h k = absurd h
zip_append R (x ∷ xs) (y ∷ ys) us vs h k = (h.0, zip_append R xs ys us vs h.1 k)

-- a sound state whose graph has other imports and other resources that came with them
module _ (t : TypeTable) (ms : List ModuleRecord) (st : State) (is : List (List ℕ × ComponentExtern))
    (rs : List RuntimeImportIndex) where
  -- the graph with these
  abbrev pub other : ComponentDfg
  other = record st.graph { import_types = is; imported_resources = rs }

  module _ (grows : graph.Grows st.graph other) (fits : FitsBefore st.graph other) (sound : IsSoundState t ms st) where
    other_slots : (k : plan.SlotKind) → slots_of other k ≡ slots_of st.graph k
    unfolding slots_of
    other_slots plan.memory = refl
    other_slots plan.table = refl
    other_slots plan.realloc = refl
    other_slots plan.callback = refl
    other_slots plan.post_return = refl

    -- it is sound
    pub other_sound : IsOrdered other → IsSoundState t ms (record st { graph = other })
    other_sound ordered = record {
      ordered = ordered;
      items = items_same ms st.graph other grows refl other_slots refl refl refl sound.items;
      plain = record {
        adapter_modules = sound.plain.adapter_modules;
        adapter_partitionings = sound.plain.adapter_partitionings;
        unsafe_intrinsics = sound.plain.unsafe_intrinsics;
      };
      used = used_kept st.graph other grows refl st.paths.held st.used.items sound.used;
      numbers = sound.numbers;
      held = types_held st.types t st.graph other fits refl refl sound.held;
      table = sound.table;
      bodies = sound.bodies;
      names = sound.names;
      members = sound.members;
      instances = instances_kept ms (tables_of st) (tables_of (record st { graph = other }))
          (graph_grown (tables_of st) other grows fits) refl st.runtime_instances.items sound.instances;
      widths = widths_kept t ms st.runtime_instances.items st.graph other refl sound.widths;
      placed = placed_kept t ms st (record st { graph = other }) (graph_grown (tables_of st) other grows fits)
          (kept_refl st.runtime_instances.items) refl sound.placed;
    }

-- a host item is used, and a resource comes by it
module _ (t : TypeTable) (ms : List ModuleRecord) (old mid : State) (sound : IsSoundState t ms old)
    (none : old.graph.resources ≡ []) (rest : mid ≡ record old {
      graph = record old.graph { imports = mid.graph.imports };
      used = mid.used;
    }) (g : ComponentDfg) (grows : graph.Grows mid.graph g)
    (put : g ≡ record mid.graph { imported_resources = g.imported_resources }) where
  abbrev end : State
  end = record mid { graph = g }

  none_mid : mid.graph.resources ≡ []
  none_mid = ap (λ (s : State). s.graph.resources) rest ∙ none

  -- what is kept
  pub resource_keeps : Keeps (tables_of old) (tables_of mid) → Keeps (tables_of old) (tables_of end)
  resource_keeps keeps =
      keeps_trans (tables_of old) (tables_of mid) (tables_of end) keeps
      (graph_grown (tables_of mid) g grows (fits_undeclared mid.graph g grows none_mid))

  graph_is : g ≡ record old.graph { imports = g.imports; imported_resources = g.imported_resources }
  graph_is =
      put
      ∙ ap (λ (s : State). record s.graph { imported_resources = g.imported_resources }) rest
      ∙ ap (λ is. record old.graph { imports = is; imported_resources = g.imported_resources })
      (sym (ap (λ (x : ComponentDfg). x.imports) put))

  -- the resource is in the graph
  pub brings_one : (p : Path) (r : RuntimeImportIndex) → Uses t ms old mid p r
      → g.imported_resources ≡ mid.graph.imported_resources ++ r ∷ []
      → (r.0 < length mid.graph.imports → IsOrdered mid.graph → IsOrdered g) → Brings t ms (p ∷ []) old end
  brings_one p r uses ok ordered =
      let same : g ≡ other t ms mid mid.graph.import_types g.imported_resources = put in
      let sound_mid = uses.sound sound in
      let below = slice_get_within mid.graph.imports r.0 _ uses.path in
      record {
        sound = subst (λ (x : ComponentDfg). IsSoundState t ms (record mid { graph = x })) (sym same)
            (other_sound t ms mid mid.graph.import_types g.imported_resources (subst (graph.Grows mid.graph) same grows)
            (subst (FitsBefore mid.graph) same (fits_undeclared mid.graph g grows none_mid)) sound_mid
            (subst IsOrdered same (ordered below sound_mid.ordered)));
        imports = ap (λ (x : ComponentDfg). map path_of x.imports) put ∙ uses.paths;
        more = r ∷ [];
        resources = ok ∙ ap (λ (s : State). s.graph.imported_resources ++ r ∷ []) rest;
        paths = (subst (λ (x : ComponentDfg). HasPath x r.0 p) (sym put) uses.path, tt);
        rest = ap (λ (s : State). record s { graph = g }) rest
            ∙ ap (λ (x : ComponentDfg). record old { graph = x; used = mid.used }) graph_is;
      }

module _ (t : TypeTable) (ms : List ModuleRecord) where
  -- no resource came
  pub brings_none : (a : State) → IsSoundState t ms a → Brings t ms [] a a
  brings_none a sound = record {
    sound = sound;
    imports = refl;
    more = [];
    resources = sym (append-nil a.graph.imported_resources);
    paths = tt;
    rest = refl;
  }

  -- one more came
  pub brings_more : (ps : List Path) (q : Path) (a b c : State) → Brings t ms ps a b → graph.Grows b.graph c.graph
      → Brings t ms (q ∷ []) b c → Brings t ms (ps ++ q ∷ []) a c
  brings_more ps q a b c first grows second = record {
    sound = second.sound;
    imports = second.imports ∙ ap (λ xs. with_path xs q) first.imports
        ∙ sym (fold_push with_path (map path_of a.graph.imports) ps q);
    more = first.more ++ second.more;
    resources = second.resources ∙ ap (λ xs. xs ++ second.more) first.resources
        ∙ append_assoc a.graph.imported_resources first.more second.more;
    paths = zip_append (λ (r : RuntimeImportIndex). HasPath c.graph r.0) first.more ps second.more (q ∷ [])
        (zip_more (λ (r : RuntimeImportIndex). HasPath b.graph r.0) (λ (r : RuntimeImportIndex). HasPath c.graph r.0)
        (λ r p there. kept b.graph c.graph grows list.imports r.0 (record { 0 = p.import }, p.names) there) first.more ps
        first.paths) second.paths;
    rest = second.rest
        ∙ ap (λ (s : State). record s {
          graph = record s.graph {
            imports = c.graph.imports;
            imported_resources = c.graph.imported_resources;
          };
          used = c.used;
        }) first.rest;
  }

-- what one more resource adds
pub brought_one : (a b x : Tables) → AddsEach in_imports 0 0 a b → (g : ComponentDfg)
    → g ≡ record b.graph { imported_resources = g.imported_resources }
    → length g.imported_resources ≤ length b.graph.imported_resources + 1 → x ≡ record b { graph = g }
    → AddsEach (in_brought 1) 0 0 a x
unfolding slots_of
brought_one a b x adds g put more same = subst (AddsEach (in_brought 1) 0 0 a) (sym same) (
    subst (λ (h : ComponentDfg). AddsEach (in_brought 1) 0 0 a (record b { graph = h })) (sym put) (record {
      types = adds.types;
      lists = by;
      cores = adds.cores;
      definitions = adds.definitions;
      closures = adds.closures;
      instances = adds.instances;
      begun = adds.begun;
      resources = let le = adds.resources in omega (arith, le, more);
    }))
  where
    by : (l : ListName)
        → length (list.entries_of (record b.graph { imported_resources = g.imported_resources }) l)
        ≤ length (list.entries_of a.graph l) + in_brought 1 l
    by (list.slots plan.memory) = adds.lists (list.slots plan.memory)
    by (list.slots plan.table) = adds.lists (list.slots plan.table)
    by (list.slots plan.realloc) = adds.lists (list.slots plan.realloc)
    by (list.slots plan.callback) = adds.lists (list.slots plan.callback)
    by (list.slots plan.post_return) = adds.lists (list.slots plan.post_return)
    by list.import_types = adds.lists list.import_types
    by list.imports = adds.lists list.imports
    by list.imported_resources = let le = adds.lists list.imported_resources in omega (arith, le, more)
    by list.options = adds.lists list.options
    by list.trampolines = adds.lists list.trampolines
    by list.adapters = adds.lists list.adapters
    by list.adapter_modules = adds.lists list.adapter_modules
    by list.adapter_partitionings = adds.lists list.adapter_partitionings
    by list.instances = adds.lists list.instances
    by list.resources = let le = adds.lists list.resources in omega (arith, le)
    by list.side_effects = adds.lists list.side_effects
    by list.export_items = adds.lists list.export_items
    by list.exports = adds.lists list.exports

-- the same where the resource found no room
pub brought_none : (a b : Tables) → AddsEach in_imports 0 0 a b → AddsEach (in_brought 1) 0 0 a b
brought_none a b adds = each_weaken in_imports (in_brought 1) 0 0 0 0 a b le (omega arith) (omega arith) adds
  where
    le : (l : ListName) → in_imports l ≤ in_brought 1 l
    le list.imports = omega arith
    le l = omega arith

-- what some resources add, with one more
pub brought_more : (n m k : ℕ) → n + m ≤ k → (a b x : Tables) → AddsEach (in_brought n) 0 0 a b
    → AddsEach (in_brought m) 0 0 b x → AddsEach (in_brought k) 0 0 a x
brought_more n m k more a b x first second =
    each_weaken (λ l. in_brought n l + in_brought m l) (in_brought k) 0 0 0 0 a x le (omega arith) (omega arith)
    (each_trans (in_brought n) (in_brought m) 0 0 0 0 a b x first second)
  where
    le : (l : ListName) → in_brought n l + in_brought m l ≤ in_brought k l
    le list.imports = omega (arith, more)
    le list.imported_resources = omega (arith, more)
    le list.resources = omega (arith, more)
    le l = omega arith

pub brought_less : (n k : ℕ) → n ≤ k → (a b : Tables) → AddsEach (in_brought n) 0 0 a b → AddsEach (in_brought k) 0 0 a b
brought_less n k less a b adds =
    each_weaken (in_brought n) (in_brought k) 0 0 0 0 a b le (omega arith) (omega arith) adds
  where
    le : (l : ListName) → in_brought n l ≤ in_brought k l
    le list.imports = omega (arith, less)
    le list.imported_resources = omega (arith, less)
    le list.resources = omega (arith, less)
    le l = omega arith

-- the path at a place is the one of its number
pub path_at_is : (ids : List PathId) (paths : List Path) (f : Found) (id : PathId) (p : Path)
    → slice_get ids f.place ≡ Some id → slice_get paths id.0 ≡ Some p → path_at ids paths f ≡ p
path_at_is ids paths f id p at held =
    ap (λ (o : Option PathId). unwrap_or (option_and_then (λ (i : PathId). slice_get paths i.0) o) (import_path 0)) at
    ∙ ap (λ o. unwrap_or o (import_path 0)) held

-- a path that is held at a place is that of its number
pub path_held : (ids : List PathId) (paths : List Path) (f : Found) (id : PathId) → slice_get ids f.place ≡ Some id
    → id.0 < length paths → slice_get paths id.0 ≡ Some (path_at ids paths f)
path_held ids paths f id at below =
    let there = found_at paths id.0 below in
    there.1 ∙ ap Some (sym (path_at_is ids paths f id there.0 at there.1))

-- resources came by the paths of some of these places
module _ (t : TypeTable) (ms : List ModuleRecord) (ids : List PathId) (found : List Found) (old : State) where
  pub record BroughtSoFar (st : State) (k : ℕ) : Type 0 where
    pub keeps : Keeps (tables_of old) (tables_of st)
    pub adds : AddsEach (in_brought k) 0 0 (tables_of old) (tables_of st)
    pub brings : Brings t ms (map (path_at ids old.paths.held) (take k found)) old st

  -- none so far
  pub brought_start : IsSoundState t ms old → BroughtSoFar old 0
  brought_start sound = record {
    keeps = keeps_refl (tables_of old);
    adds = each_refl (in_brought 0) 0 0 (tables_of old);
    brings = brings_none t ms old sound;
  }

  module _ (st : State) (k : ℕ) (far : BroughtSoFar st k) where
    -- the paths are those of the beginning
    pub same_paths : st.paths.held ≡ old.paths.held
    same_paths = ap (λ (s : State). s.paths.held) far.brings.rest

    -- so they are held
    pub held_still : AllHeld ids old.paths.held → AllHeld ids st.paths.held
    held_still held = subst (AllHeld ids) (sym same_paths) held

    -- and no resource is declared
    pub undeclared_still : old.graph.resources ≡ [] → st.graph.resources ≡ []
    undeclared_still none = ap (λ (s : State). s.graph.resources) far.brings.rest ∙ none

    module _ (f : Found) (within : k < length found) (at : slice_get found k ≡ Some f) (st' : State)
        (keeps : Keeps (tables_of st) (tables_of st'))
        (adds : AddsEach (in_brought 1) 0 0 (tables_of st) (tables_of st')) where
      -- one more
      pub brought_next : Brings t ms (path_at ids st.paths.held f ∷ []) st st' → BroughtSoFar st' (k + 1)
      brought_next brings = record {
        keeps = keeps_trans (tables_of old) (tables_of st) (tables_of st') far.keeps keeps;
        adds = brought_more k 1 (k + 1) (omega arith) (tables_of old) (tables_of st) (tables_of st') far.adds adds;
        brings = subst (λ ps. Brings t ms ps old st') (sym (map_more (path_at ids old.paths.held) found k f within
            ∙ ap (λ x. map (path_at ids old.paths.held) (take k found) ++ path_at ids old.paths.held x ∷ [])
            (get_or_from_slice_get found k f f at)))
            (brings_more t ms (map (path_at ids old.paths.held) (take k found)) (path_at ids old.paths.held f) old st st'
            far.brings keeps.graph (subst (λ ps. Brings t ms (path_at ids ps f ∷ []) st st') same_paths brings));
      }

      -- or it has no room
      pub brought_last : Keeps (tables_of old) (tables_of st')
          × AddsEach (in_brought (length found)) 0 0 (tables_of old) (tables_of st')
      brought_last = (
        keeps_trans (tables_of old) (tables_of st) (tables_of st') far.keeps keeps,
        brought_more k 1 (length found) (omega (arith, within)) (tables_of old) (tables_of st) (tables_of st') far.adds
            adds,
      )

-- one more resource at the most
pub brought_pushed : {A E : Type 0} (g h : ComponentDfg) (r : Result A E) (x : RuntimeImportIndex)
    → OnOk r (h.imported_resources ≡ g.imported_resources ++ x ∷ []) → OnErr r (h ≡ g)
    → length h.imported_resources ≤ length g.imported_resources + 1
brought_pushed g h (Ok y) x ok err =
    let same = ap length ok ∙ length_push g.imported_resources x in
    omega (arith, same)
brought_pushed g h (Err e) x ok err =
    let same = ap (λ (k : ComponentDfg). length k.imported_resources) err in
    omega (arith, same)
