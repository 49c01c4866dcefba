-- Core items in slots of the graph.
use Rattle.std.proofs.Common.{◌≡◌, ◌⊎◌, inl, inr, ◌≤◌, ◌<◌, ℕ, List, length, Option, Some, None, refl, sym, ap}
use Rattle.std.proofs.Common.{subst, ◌∙◌}
use Rattle.std.specs.Prelude.{slice_get}
use Rattle.std.proofs.lemmas.Option.{same_Some, slice_get_within}
use Rattle.pc_entity.proofs.Growing.{kept_refl}
use Rattle.pc_numbers.specs.declared.module_entity.MemoryIndex.{MemoryIndex}
use Rattle.pc_types.specs.declared.module_record.ModuleRecord.{ModuleRecord}
use Rattle.pc_types.specs.declared.parsed.CoreKind.{CoreKind}
use Rattle.pc_types.specs.declared.parsed.CoreKind.TheVariants as core
use Rattle.pc_types.specs.declared.parsed.TypeTable.{TypeTable}
use Rattle.pc_spec_plan.specs.CoreValue as value
use Rattle.pc_spec_plan.specs.CoreValue.{MaybeValue}
use Rattle.pc_spec_plan.specs.PlanView as plan
use Rattle.pc_parsed.specs.Mark.{Mark}
use Rattle.pc_dfg.specs.declared.core_def.CoreDef.{CoreDef}
use Rattle.pc_dfg.specs.declared.core_def.CoreExport.{CoreExport}
use Rattle.pc_dfg.specs.declared.dfg.ComponentDfg.{ComponentDfg}
use Rattle.pc_dfg.specs.declared.options.CanonicalOptions.{CanonicalOptions}
use Rattle.pc_dfg.specs.Grows as graph
use Rattle.pc_dfg.specs.Held.{HeldSlot, IsHeld}
use Rattle.pc_dfg.specs.Lists as list
use Rattle.pc_dfg.specs.Means.{means_no_slot, means_slot}
use Rattle.pc_dfg.specs.Numbers.{slots_of}
use Rattle.pc_dfg.specs.Ordered.{IsOrdered}
use Rattle.pc_dfg.specs.Pushed.{IsPut}
use Rattle.pc_inline_state.specs.declared.definition.CoreId.{CoreId}
use Rattle.pc_inline_state.specs.declared.places.Places.{Places}
use Rattle.pc_inline_state.specs.declared.state.State.{State}
use Rattle.pc_inline_state.specs.Placed.{InSlot}
use Rattle.pc_inline_state.specs.Places.{NotesSlot}
use Rattle.pc_inline_state.specs.Points.{IsFullSomewhere}
use Rattle.pc_inline_state.specs.Prepares.{Prepares}
use Rattle.pc_inline_state.specs.Slots.{IsThere, SlotStands}
use Rattle.pc_inline_state.specs.Stands.{CoreStands, MaybeStands, none_stands, some_stands}
use Rattle.pc_inline_state.specs.Tables.{IsItem, Keeps, Tables, tables_of}
use Rattle.pc_inline_state.specs.Worlds.{HoldsTypes, slot_kind}
use Rattle.pc_inline_canon.proofs.CoreInstanceLemmas.{found_in_push, item_held}
use Rattle.pc_inline_state.proofs.InstanceLemmas.{instances_kept, widths_kept}
use Rattle.pc_inline_state.proofs.FitsLemmas.{fits_grown}
use Rattle.pc_inline_state.proofs.GrowthLemmas.{graph_crowded, graph_grown}
use Rattle.pc_inline_canon.proofs.ItemLemmas.{items_kept, modules_held, used_kept}
use Rattle.pc_inline_canon.proofs.KeptLemmas.{core_kept}
use Rattle.pc_inline_state.proofs.PlacedLemmas.{placed_kept}
use Rattle.pc_inline_state.proofs.StateLemmas.{prepares_trans, slot_prepares}

-- what is found in a list into which an entry was put was there, or is the entry
pub found_in_put : {A : Type 0} (old new : List A) (x : A) → IsPut old new x → (n : ℕ) (y : A)
    → slice_get new n ≡ Some y
    → (slice_get old n ≡ Some y) ⊎ (x ≡ y)
found_in_put old new x put n y at = elim put.0 as (λ _. (slice_get old n ≡ Some y) ⊎ (x ≡ y)) [
  | inl same ↦ inl (subst (λ l. slice_get l n ≡ Some y) same at)
  | inr more ↦ found_in_push old x n y (subst (λ l. slice_get l n ≡ Some y) more at)
]

-- nothing is in no slot
pub slot_none : (ms : List ModuleRecord) (b : Tables) (j : CoreKind) (k : plan.SlotKind) (o : Option CoreId) → o ≡ None
    → (v : MaybeValue Mark) → MaybeStands ms b j o v → SlotStands b k None v
slot_none ms b j k o is v m = by v (subst (λ x. MaybeStands ms b j x v) is m)
  where
    by : (v : MaybeValue Mark) → MaybeStands ms b j None v → SlotStands b k None v
    by v none_stands = record { numbered = value.no_value; means = means_no_slot; is = refl }

-- a core item that has a slot is in it, whatever it stood for before it got the slot
pub slot_some : (ms : List ModuleRecord) (b c : Tables) → Keeps b c → (j : CoreKind) (k : plan.SlotKind) (id : CoreId)
    (n : ℕ) → InSlot c k id.0 n → (o : Option CoreId) → o ≡ Some id → (v : MaybeValue Mark) → MaybeStands ms b j o v
    → SlotStands c k (Some n) v
slot_some ms b c keeps j k id n there o is v m = by v (subst (λ x. MaybeStands ms b j x v) is m)
  where
    by : (v : MaybeValue Mark) → MaybeStands ms b j (Some id) v → SlotStands c k (Some n) v
    by v (some_stands {v = w} item) =
        let d = there.definition in
        let same : item.definition ≡ d = same_Some item.definition d
        (sym (keeps.cores id.0 item.definition item.held) ∙ there.held) in
        let s = core_kept b.types c.types b.graph c.graph keeps.types keeps.graph keeps.fits d w
        (subst (λ x. CoreStands b.types b.graph x w) same item.stands) in
        record {
          numbered = value.a_value s.numbered;
          means = means_slot there.slotted s.means;
          is = ap value.a_value s.is;
        }

-- and the slot is held
pub slot_held : (b : Tables) (k : plan.SlotKind) (id n : ℕ) → InSlot b k id n → HeldSlot b.graph k (Some n)
unfolding HeldSlot
slot_held b k id n there = slice_get_within (slots_of b.graph k) n there.definition there.slotted

-- the definition of a core item of the table is an item of its kind
pub there_usable : (ms : List ModuleRecord) (b : Tables) (k : CoreKind) (id : CoreId) (d : CoreDef) → IsThere ms b k id
    → slice_get b.cores id.0 ≡ Some d → IsItem ms b.graph k d
there_usable ms b k id d there held =
    subst (λ x. IsItem ms b.graph k x) (same_Some there.definition d (sym there.held ∙ held)) there.usable

module _ (t : TypeTable) (ms : List ModuleRecord) (st : State) (memories : List (CoreExport MemoryIndex))
    (reallocs callbacks post_returns : List CoreDef) (options : List CanonicalOptions) where
  -- the graph with these slots and options
  abbrev slotted : ComponentDfg
  slotted = record st.graph {
    memories = memories;
    reallocs = reallocs;
    callbacks = callbacks;
    post_returns = post_returns;
    options = options;
  }

  -- a graph in which slots and options alone are more does what it did
  pub slots_prepare : (HoldsTypes st.types t st.graph → (k : ℕ) (x : CanonicalOptions) → slice_get options k ≡ Some x
      → x.core_type.0 < length st.types.signatures)
      → graph.Grows st.graph slotted → (IsOrdered st.graph → IsOrdered slotted)
      → ((k : plan.SlotKind) (n : ℕ) (d : CoreDef) → slice_get (slots_of slotted k) n ≡ Some d
      → (slice_get (slots_of st.graph k) n ≡ Some d) ⊎ IsItem ms st.graph (slot_kind k) d)
      → Prepares t ms st (record st { graph = slotted })
  slots_prepare held grows ordered slots = record {
    keeps = graph_grown (tables_of st) slotted grows (fits_grown st.graph slotted grows refl refl);
    sound = λ s. record {
      ordered = ordered s.ordered;
      items = items_kept ms st.graph slotted grows refl slots refl refl refl s.items;
      plain = record {
        adapter_modules = s.plain.adapter_modules;
        adapter_partitionings = s.plain.adapter_partitionings;
        unsafe_intrinsics = s.plain.unsafe_intrinsics;
      };
      used = used_kept st.graph slotted grows refl st.paths.held st.used.items s.used;
      numbers = s.numbers;
      held = record {
        options = held s.held;
        modules = modules_held st.types t st.graph slotted (fits_grown st.graph slotted grows refl refl) refl s.held;
      };
      table = s.table;
      bodies = s.bodies;
      names = s.names;
      members = s.members;
      instances = instances_kept ms (tables_of st) (tables_of (record st { graph = slotted }))
          (graph_grown (tables_of st) slotted grows (fits_grown st.graph slotted grows refl refl)) refl
          st.runtime_instances.items s.instances;
      widths = widths_kept t ms st.runtime_instances.items st.graph slotted refl s.widths;
      placed = placed_kept t ms st (record st { graph = slotted })
          (graph_grown (tables_of st) slotted grows (fits_grown st.graph slotted grows refl refl))
          (kept_refl st.runtime_instances.items) refl s.placed;
    };
    resources = refl;
    side_effects = refl;
    instances = refl;
    trampolines = refl;
    adapters = refl;
    imports = refl;
    imported_resources = refl;
    declared_resources = refl;
    import_types = refl;
    begun = refl;
    unsafe_intrinsics = refl;
    exports = refl;
    export_items = refl;
    paths = refl;
    used = refl;
  }

module _ (t : TypeTable) (ms : List ModuleRecord) (st : State) (h : ComponentDfg) (grows : graph.Grows st.graph h) where
  -- one more realloc at most
  pub realloc_prepares : (d : CoreDef) → IsItem ms st.graph core.Func d → h ≡ record st.graph { reallocs = h.reallocs }
      → IsPut st.graph.reallocs h.reallocs d → (IsHeld st.graph d → IsOrdered st.graph → IsOrdered h)
      → Prepares t ms st (record st { graph = h })
  unfolding slots_of
  realloc_prepares d item rest put ordered =
      subst (λ (g : ComponentDfg). Prepares t ms st (record st { graph = g })) (sym rest)
      (slots_prepare t ms st st.graph.memories h.reallocs st.graph.callbacks st.graph.post_returns st.graph.options
      (λ held. held.options) (subst (graph.Grows st.graph) rest grows)
      (λ o. subst IsOrdered rest (ordered (item_held ms st.graph core.Func d item) o)) slots)
    where
      slots : (k : plan.SlotKind) (n : ℕ) (x : CoreDef)
          → slice_get (slots_of (record st.graph { reallocs = h.reallocs }) k) n ≡ Some x
          → (slice_get (slots_of st.graph k) n ≡ Some x) ⊎ IsItem ms st.graph (slot_kind k) x
      slots plan.realloc n x at = elim (found_in_put st.graph.reallocs h.reallocs d put n x at)
          as (λ _. (slice_get st.graph.reallocs n ≡ Some x) ⊎ IsItem ms st.graph core.Func x) [
            | inl before ↦ inl before
            | inr same ↦ inr (subst (λ y. IsItem ms st.graph core.Func y) same item)
          ]
      slots plan.memory n x at = inl at
      slots plan.table n x at = inl at
      slots plan.callback n x at = inl at
      slots plan.post_return n x at = inl at

  -- one more callback at most
  pub callback_prepares : (d : CoreDef) → IsItem ms st.graph core.Func d
      → h ≡ record st.graph { callbacks = h.callbacks }
      → IsPut st.graph.callbacks h.callbacks d → (IsHeld st.graph d → IsOrdered st.graph → IsOrdered h)
      → Prepares t ms st (record st { graph = h })
  unfolding slots_of
  callback_prepares d item rest put ordered =
      subst (λ (g : ComponentDfg). Prepares t ms st (record st { graph = g })) (sym rest)
      (slots_prepare t ms st st.graph.memories st.graph.reallocs h.callbacks st.graph.post_returns st.graph.options
      (λ held. held.options) (subst (graph.Grows st.graph) rest grows)
      (λ o. subst IsOrdered rest (ordered (item_held ms st.graph core.Func d item) o)) slots)
    where
      slots : (k : plan.SlotKind) (n : ℕ) (x : CoreDef)
          → slice_get (slots_of (record st.graph { callbacks = h.callbacks }) k) n ≡ Some x
          → (slice_get (slots_of st.graph k) n ≡ Some x) ⊎ IsItem ms st.graph (slot_kind k) x
      slots plan.callback n x at = elim (found_in_put st.graph.callbacks h.callbacks d put n x at)
          as (λ _. (slice_get st.graph.callbacks n ≡ Some x) ⊎ IsItem ms st.graph core.Func x) [
            | inl before ↦ inl before
            | inr same ↦ inr (subst (λ y. IsItem ms st.graph core.Func y) same item)
          ]
      slots plan.memory n x at = inl at
      slots plan.table n x at = inl at
      slots plan.realloc n x at = inl at
      slots plan.post_return n x at = inl at

  -- one more post-return at most
  pub post_return_prepares : (d : CoreDef) → IsItem ms st.graph core.Func d
      → h ≡ record st.graph { post_returns = h.post_returns }
      → IsPut st.graph.post_returns h.post_returns d → (IsHeld st.graph d → IsOrdered st.graph → IsOrdered h)
      → Prepares t ms st (record st { graph = h })
  unfolding slots_of
  post_return_prepares d item rest put ordered =
      subst (λ (g : ComponentDfg). Prepares t ms st (record st { graph = g })) (sym rest)
      (slots_prepare t ms st st.graph.memories st.graph.reallocs st.graph.callbacks h.post_returns st.graph.options
      (λ held. held.options) (subst (graph.Grows st.graph) rest grows)
      (λ o. subst IsOrdered rest (ordered (item_held ms st.graph core.Func d item) o)) slots)
    where
      slots : (k : plan.SlotKind) (n : ℕ) (x : CoreDef)
          → slice_get (slots_of (record st.graph { post_returns = h.post_returns }) k) n ≡ Some x
          → (slice_get (slots_of st.graph k) n ≡ Some x) ⊎ IsItem ms st.graph (slot_kind k) x
      slots plan.post_return n x at = elim (found_in_put st.graph.post_returns h.post_returns d put n x at)
          as (λ _. (slice_get st.graph.post_returns n ≡ Some x) ⊎ IsItem ms st.graph core.Func x) [
            | inl before ↦ inl before
            | inr same ↦ inr (subst (λ y. IsItem ms st.graph core.Func y) same item)
          ]
      slots plan.memory n x at = inl at
      slots plan.table n x at = inl at
      slots plan.realloc n x at = inl at
      slots plan.callback n x at = inl at

-- a core item got a slot of a graph that does what it did, and was noted with it
pub noted_prepares : (t : TypeTable) (ms : List ModuleRecord) (st : State) (h : ComponentDfg) (p : Places)
    (k : plan.SlotKind) (id n : ℕ) → Prepares t ms st (record st { graph = h }) → NotesSlot k id n st.places p
    → InSlot (tables_of (record st { graph = h })) k id n → Prepares t ms st (record st { graph = h; places = p })
noted_prepares t ms st h p k id n more notes there =
    prepares_trans t ms st (record st { graph = h }) (record st { graph = h; places = p }) more
    (slot_prepares t ms (record st { graph = h }) p k id n notes there)

-- the same where there was no memory to note it
pub unnoted_prepares : (t : TypeTable) (ms : List ModuleRecord) (st : State) (h : ComponentDfg) (p : Places)
    → p ≡ st.places → Prepares t ms st (record st { graph = h }) → Prepares t ms st (record st { graph = h; places = p })
unnoted_prepares t ms st h p same =
    subst (λ (q : Places). Prepares t ms st (record st { graph = h; places = q })) (sym same)

module _ (b : Tables) (id n : ℕ) (d : CoreDef) (held : slice_get b.cores id ≡ Some d) where
  -- a core item is in its realloc slot
  pub in_realloc : slice_get b.graph.reallocs n ≡ Some d → InSlot b plan.realloc id n
  unfolding slots_of
  in_realloc at = record { definition = d; held = held; slotted = at }

  -- in its callback slot
  pub in_callback : slice_get b.graph.callbacks n ≡ Some d → InSlot b plan.callback id n
  unfolding slots_of
  in_callback at = record { definition = d; held = held; slotted = at }

  -- in its post-return slot
  pub in_post_return : slice_get b.graph.post_returns n ≡ Some d → InSlot b plan.post_return id n
  unfolding slots_of
  in_post_return at = record { definition = d; held = held; slotted = at }

module _ (b : Tables) (g : ComponentDfg) (grows : graph.Grows g b.graph) where
  -- there is no room for one more realloc
  pub realloc_crowded : 4294967295 ≤ length g.reallocs → IsFullSomewhere b
  unfolding slots_of
  realloc_crowded full = graph_crowded b g grows (list.slots plan.realloc) full

  -- there is no room for one more callback
  pub callback_crowded : 4294967295 ≤ length g.callbacks → IsFullSomewhere b
  unfolding slots_of
  callback_crowded full = graph_crowded b g grows (list.slots plan.callback) full

  -- there is no room for one more post-return
  pub post_return_crowded : 4294967295 ≤ length g.post_returns → IsFullSomewhere b
  unfolding slots_of
  post_return_crowded full = graph_crowded b g grows (list.slots plan.post_return) full

-- no slot is held
pub none_held : (g : ComponentDfg) (k : plan.SlotKind) → HeldSlot g k None
unfolding HeldSlot
none_held g k = tt
