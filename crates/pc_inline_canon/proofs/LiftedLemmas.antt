-- A lifted function that is lowered: the calls, and what they leave.
use Rattle.std.proofs.Common.{◌≡◌, ℕ, List, [], ◌∷◌, ◌++◌, length, Some, Result, Ok, Err, sym, ap, subst, ◌∙◌}
use Rattle.std.specs.Prelude.{IfOk, OnOk, slice_get}
use Rattle.std.proofs.lemmas.Option.{same_Some}
use Rattle.pc_entity.proofs.Growing.{append_kept, kept_refl}
use Rattle.pc_types.specs.declared.module_record.ModuleRecord.{ModuleRecord}
use Rattle.pc_types.specs.declared.parsed.CoreKind.TheVariants as core
use Rattle.pc_types.specs.declared.parsed.TypeTable.{TypeTable}
use Rattle.pc_types.specs.declared.type_index.TypeFuncIndex.{TypeFuncIndex}
use Rattle.pc_spec_plan.specs.CoreValue as value
use Rattle.pc_parsed.specs.Mark.{of_type}
use Rattle.pc_spec_reading.specs.Functions.{lower_to}
use Rattle.pc_dfg.specs.declared.adapter.Adapter.{Adapter}
use Rattle.pc_dfg.specs.declared.core_def.CoreDef.TheVariants as def
use Rattle.pc_dfg.specs.declared.dfg.ComponentDfg.{ComponentDfg}
use Rattle.pc_dfg.specs.declared.ids.AdapterId.{AdapterId}
use Rattle.pc_dfg.specs.Grows as graph
use Rattle.pc_dfg.specs.Held.{HeldAdapter}
use Rattle.pc_dfg.specs.Ordered.{IsOrdered}
use Rattle.pc_dfg.specs.Pushed.{IsPut}
use Rattle.pc_dfg.specs.Told.{AreInterned}
use Rattle.pc_inline_state.specs.declared.adapters.AdapterKey.{AdapterKey}
use Rattle.pc_inline_state.specs.declared.definition.CoreId.{CoreId}
use Rattle.pc_inline_state.specs.declared.definition.Options.{Options}
use Rattle.pc_inline_state.specs.declared.error.ItemError.{ItemError}
use Rattle.pc_inline_state.specs.declared.places.Places.{Places}
use Rattle.pc_inline_state.specs.declared.state.State.{State}
use Rattle.pc_inline_state.specs.Lists.{with_core_id}
use Rattle.pc_inline_state.specs.Placed.{ArePlaced, HasAdapter, IsMadeOfKey}
use Rattle.pc_inline_state.specs.Places.{NotesAdapter}
use Rattle.pc_inline_state.specs.Points.{PointStands}
use Rattle.pc_inline_state.specs.Slots.{IsThere, OptionsThere}
use Rattle.pc_inline_state.specs.Stands.{CoreStands, IsFunc}
use Rattle.pc_inline_state.specs.Tables.{Keeps, Tables, tables_of}
use Rattle.pc_inline_state.specs.Worlds.{HoldsItems}
use Rattle.pc_inline_state.proofs.FitsLemmas.{fits_grown}
use Rattle.pc_inline_state.proofs.GrowthLemmas.{graph_grown}
use Rattle.pc_inline_state.proofs.PlacedLemmas.{adapter_placed, key_kept, places_point}
use Rattle.pc_inline_canon.specs.Adapters.{GetsAdapter}
use Rattle.pc_inline_canon.specs.Callees.{IsCallee, LowersTo}
use Rattle.pc_inline_canon.specs.declared.callee.Callee.{Callee}
use Rattle.pc_inline_canon.specs.declared.callee.Callee.TheVariants as callee
use Rattle.pc_inline_canon.proofs.AdapterLemmas.{adapted}
use Rattle.pc_inline_canon.proofs.NumberLemmas.{TellsApart}
use Rattle.pc_inline_canon.proofs.SideLemmas.{adapter_held, side_begun, side_items, side_wide}
use Rattle.pc_inline_canon.proofs.SideMeansLemmas.{AdapterMeans, adapter_means, side_means}
use Rattle.pc_inline_canon.proofs.SlotLemmas.{there_usable}

-- what was there is there beside an adapter
pub adapter_keeps : (b : Tables) (h : ComponentDfg) → graph.Grows b.graph h
    → h ≡ record b.graph { adapters = h.adapters } → Keeps b (record b { graph = h })
adapter_keeps b h grows rest =
    graph_grown b h grows
    (fits_grown b.graph h grows (λ i. (rest i).imported_resources) (λ i. (rest i).resources))

-- where the notes that a state has in the end are so, a function is lowered in it as it was
placed_lowers : (t : TypeTable) (ms : List ModuleRecord) (st mid : State) (p : Places) (c : Callee) (ty : TypeFuncIndex)
    (o : Options) (id : CoreId) → (ArePlaced t ms mid → ArePlaced t ms (record mid { places = p }))
    → LowersTo t ms st mid c ty o id → LowersTo t ms st (record mid { places = p }) c ty o id
unfolding LowersTo
placed_lowers t ms st mid p c ty o id placed lowers f now x tree s os point is typed signed opts =
    places_point t ms mid p placed (with_core_id f core.Func id) (lower_to now x tree s os)
    (lowers f now x tree s os point is typed signed opts)

-- The adapter of a key, which was there or is made.
module _ (t : TypeTable) (ms : List ModuleRecord) (st : State) (key : AdapterKey) (x : Adapter)
    (made : IsMadeOfKey t ms st key x) (func_there : IsThere ms (tables_of st) core.Func key.func)
    (lift_there : OptionsThere ms (tables_of st) key.lift)
    (lower_there : OptionsThere ms (tables_of st) key.lower) where
  -- it holds items
  holds : HoldsItems ms st.graph x
  holds = record {
    func = there_usable ms (tables_of st) core.Func key.func x.func func_there made.func;
    lift = side_items t ms st key.lift x.lift_options lift_there made.lift;
    lower = side_items t ms st key.lower x.lower_options lower_there made.lower;
  }

  -- and is held
  held : HeldAdapter st.graph x
  held =
      adapter_held ms st.graph x holds (side_begun t ms st key.lift x.lift_options lift_there made.lift)
      (side_begun t ms st key.lower x.lower_options lower_there made.lower)

  module _ (adapters : List Adapter) (k : AdapterId) (at : slice_get adapters k.0 ≡ Some x) where
    -- the state with the adapter as a core function
    abbrev lowered_to : State
    lowered_to = record st {
      graph = record st.graph { adapters = adapters };
      cores = st.cores ++ def.Adapter k ∷ [];
    }

    -- the function is lowered to it where it is in the graph
    lifted_in : graph.Grows st.graph (record st.graph { adapters = adapters }) → IsPut st.graph.adapters adapters x
        → (HeldAdapter st.graph x → IsOrdered st.graph → IsOrdered (record st.graph { adapters = adapters }))
        → TellsApart st.types → AreInterned (record st.graph { adapters = adapters }) → (id : CoreId)
        → id.0 ≡ length st.cores
        → LowersTo t ms st lowered_to (callee.Lifted key.lift_ty key.func key.lift) key.lower_ty key.lower id
    unfolding LowersTo IsCallee lower_to
    lifted_in grows put ordered tells interned id number f now y tree s os point is typed signed opts =
        let stands : CoreStands st.types st.graph x.func is.callee =
        subst (λ y. CoreStands st.types st.graph y is.callee)
        (same_Some is.func_stands.definition x.func (sym is.func_stands.held ∙ made.func)) is.func_stands.stands in
        let v = value.adapter (of_type is.tree) is.options (of_type tree) os is.callee in
        let means : AdapterMeans st.types st.graph x v =
        adapter_means st.types st.graph x is.tree tree is.options os is.callee
        (subst (λ n. IsFunc ms (tables_of st) n is.tree) (sym made.lift_ty) is.typed)
        (subst (λ n. IsFunc ms (tables_of st) n tree) (sym made.lower_ty) typed)
        (side_means t ms st key.lift x.lift_options made.lift is.options is.options_stand)
        (side_means t ms st key.lower x.lower_options made.lower os opts) stands in
        subst (λ z. PointStands t ms lowered_to (with_core_id f core.Func id) (lower_to now z tree s os)) (sym is.is)
        (adapted t ms st adapters x k grows at put holds (side_wide t ms st key.lift x.lift_options made.lift)
        (side_wide t ms st key.lower x.lower_options made.lower) (ordered held) tells interned v means f now point id
        number)

    -- the key has it there
    has : HasAdapter t ms lowered_to key k
    has = record {
      adapter = x;
      held = at;
      made = key_kept t ms st lowered_to (append_kept st.cores (def.Adapter k ∷ []))
          (kept_refl st.runtime_instances.items) key x made;
    }

  -- and so it is whatever the call answers that adds the core function, and with the adapter noted
  pub lifted_lowers : (h : ComponentDfg) (p : Places) (k : AdapterId) → graph.Grows st.graph h
      → h ≡ record st.graph { adapters = h.adapters } → slice_get h.adapters k.0 ≡ Some x
      → IsPut st.graph.adapters h.adapters x → (HeldAdapter st.graph x → IsOrdered st.graph → IsOrdered h)
      → NotesAdapter key k st.places p → TellsApart st.types → AreInterned h → (r : Result CoreId ItemError)
      (new : State) → IfOk r (λ id. id.0 ≡ length st.cores)
      → OnOk r (new ≡ record st { graph = h; places = p; cores = st.cores ++ def.Adapter k ∷ [] })
      → IfOk r (LowersTo t ms st new (callee.Lifted key.lift_ty key.func key.lift) key.lower_ty key.lower)
  lifted_lowers h p k grows rest at put ordered notes tells interned (Err e) new number is = tt
  lifted_lowers h p k grows rest at put ordered notes tells interned (Ok id) new number is =
      let mid = lowered_to h.adapters k at in
      subst (λ (y : State). LowersTo t ms st y (callee.Lifted key.lift_ty key.func key.lift) key.lower_ty key.lower id)
      (sym (is ∙ ap (λ (g : ComponentDfg). record st {
        graph = g;
        places = p;
        cores = st.cores ++ def.Adapter k ∷ [];
      }) rest))
      (placed_lowers t ms st mid p (callee.Lifted key.lift_ty key.func key.lift) key.lower_ty key.lower id
      (adapter_placed t ms mid p key k notes (has h.adapters k at))
      (lifted_in h.adapters k at (subst (graph.Grows st.graph) rest grows) put
      (λ is_held o. subst IsOrdered rest (ordered is_held o)) tells (subst AreInterned rest interned) id number))

-- so it is where the key has its adapter first
pub lifted_done : (t : TypeTable) (ms : List ModuleRecord) (st : State) (key : AdapterKey)
    → IsThere ms (tables_of st) core.Func key.func → OptionsThere ms (tables_of st) key.lift
    → OptionsThere ms (tables_of st) key.lower → (mid : State)
    → mid ≡ record st { graph = record st.graph { adapters = mid.graph.adapters }; places = mid.places }
    → (k : AdapterId) → GetsAdapter t ms st mid key k → TellsApart mid.types → AreInterned mid.graph
    → (r : Result CoreId ItemError) (new : State) → IfOk r (λ id. id.0 ≡ length mid.cores)
    → OnOk r (new ≡ record mid { cores = mid.cores ++ def.Adapter k ∷ [] })
    → IfOk r (LowersTo t ms st new (callee.Lifted key.lift_ty key.func key.lift) key.lower_ty key.lower)
lifted_done t ms st key func lift lower mid rest k got tells interned r new number is =
    let graph_is : mid.graph ≡ record st.graph { adapters = mid.graph.adapters } = λ i. (rest i).graph in
    let pushed : record mid { cores = mid.cores ++ def.Adapter k ∷ [] }
    ≡ record st { graph = mid.graph; places = mid.places; cores = st.cores ++ def.Adapter k ∷ [] } =
    ap (λ (s : State). record s { cores = s.cores ++ def.Adapter k ∷ [] }) rest
    ∙ ap (λ (g : ComponentDfg). record st { graph = g; places = mid.places; cores = st.cores ++ def.Adapter k ∷ [] })
    (sym graph_is) in
    lifted_lowers t ms st key got.adapter got.made func lift lower mid.graph mid.places k got.grows graph_is got.held
    got.put got.ordered got.notes (subst TellsApart (λ i. (rest i).types) tells) interned r new
    (subst (λ (n : ℕ). IfOk r (λ id. id.0 ≡ n)) (λ i. length (rest i).cores) number)
    (subst (λ (s : State). OnOk r (new ≡ s)) pushed is)
