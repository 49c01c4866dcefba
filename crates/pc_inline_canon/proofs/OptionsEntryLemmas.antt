-- Options as entries of the graph.
use Rattle.std.proofs.Common.{◌≡◌, ◌⊎◌, inl, ◌<◌, ℕ, List, length, Option, Some, None, refl, sym, ap, subst, ◌∙◌}
use Rattle.std.specs.Prelude.{slice_get}
use Rattle.std.proofs.lemmas.Option.{slice_get_within}
use Rattle.pc_entity.proofs.LookupLemmas.{kept_within}
use Rattle.pc_numbers.specs.declared.module_entity.ModuleInternedTypeIndex.{ModuleInternedTypeIndex}
use Rattle.pc_types_lists.specs.Types.{Types}
use Rattle.pc_numbers.specs.declared.runtime.RuntimeComponentInstanceIndex.{RuntimeComponentInstanceIndex}
use Rattle.pc_types.specs.declared.module_record.ModuleRecord.{ModuleRecord}
use Rattle.pc_types.specs.declared.parsed.CoreFuncSig.{CoreFuncSig}
use Rattle.pc_types.specs.declared.parsed.CoreKind.{CoreKind}
use Rattle.pc_types.specs.declared.parsed.CoreKind.TheVariants as core
use Rattle.pc_types.specs.declared.parsed.TypeTable.{TypeTable}
use Rattle.pc_spec_plan.specs.CoreValue as value
use Rattle.pc_spec_plan.specs.CoreValue.{MaybeValue, map_maybe, map_model}
use Rattle.pc_spec_plan.specs.PlanView as plan
use Rattle.pc_trampoline.specs.declared.part.Mark.TheVariants as mark
use Rattle.pc_trampoline.specs.declared.part.Mark.{Mark as Number}
use Rattle.pc_parsed.specs.Mark.{Mark, of_signature}
use Rattle.pc_dfg.specs.declared.core_def.CoreDef.{CoreDef}
use Rattle.pc_dfg.specs.declared.dfg.ComponentDfg.{ComponentDfg}
use Rattle.pc_dfg.specs.declared.options.CanonicalOptions.{CanonicalOptions}
use Rattle.pc_dfg.specs.Grows as graph
use Rattle.pc_dfg.specs.Held.{HasBegun, HeldModel, HeldOptions, HeldSlot}
use Rattle.pc_dfg.specs.Lists as list
use Rattle.pc_dfg.specs.Means.{MeansModel, MeansSlot, means_entry, means_gc, means_linear, means_no_slot, means_options}
use Rattle.pc_dfg.specs.Means.{means_slot}
use Rattle.pc_dfg.specs.Numbers.{options_entry, slots_of}
use Rattle.pc_dfg.specs.Ordered.{IsOrdered}
use Rattle.pc_dfg.specs.Pushed.{IsPut}
use Rattle.pc_dfg.proofs.GrowLemmas.{kept, within}
use Rattle.pc_dfg.proofs.KeptLemmas.{means_kept}
use Rattle.pc_inline_state.specs.declared.definition.CoreId.{CoreId}
use Rattle.pc_inline_state.specs.declared.definition.DataModel.{DataModel}
use Rattle.pc_inline_state.specs.declared.definition.DataModel.TheVariants as model
use Rattle.pc_inline_state.specs.declared.definition.Options.{Options}
use Rattle.pc_inline_state.specs.declared.state.State.{State}
use Rattle.pc_inline_state.specs.Prepares.{Prepares}
use Rattle.pc_inline_state.specs.Slots.{EntryStands, MaybeThere, OptionsThere, SlotModelStands, SlotStands}
use Rattle.pc_inline_state.specs.Stands.{MaybeStands, ModelStands, OptionsStand, gc_stands, linear_stands, options_stand}
use Rattle.pc_inline_state.specs.Tables.{IsItem, Keeps, Tables, tables_of}
use Rattle.pc_inline_state.specs.Worlds.{slot_kind}
use Rattle.pc_inline_state.specs.Fits.{Fits}
use Rattle.pc_inline_state.specs.Holds.{Holds, Numbered, number_of, whole_of}
use Rattle.pc_inline_state.proofs.FitsLemmas.{fits_grown}
use Rattle.pc_inline_state.proofs.GrowthLemmas.{graph_grown}
use Rattle.pc_inline_canon.proofs.HoldsLemmas.{options_put}
use Rattle.pc_inline_canon.proofs.KeptLemmas.{begun_kept, is_item_kept, maybe_kept}
use Rattle.pc_inline_canon.proofs.MarkLemmas.{maybe_twice, model_twice, still}
use Rattle.pc_inline_canon.proofs.SlotLemmas.{slots_prepare}
use Rattle.pc_inline_state.proofs.StateLemmas.{keeps_trans, prepares_trans}

module _ (ms : List ModuleRecord) (b c : Tables) (keeps : Keeps b c) where
  -- a core item of the table is one
  pub there_kept : (k : CoreKind) (id : Option CoreId) → MaybeThere ms b k id → MaybeThere ms c k id
  there_kept k None there = there
  there_kept k (Some id) there = record {
    definition = there.definition;
    held = keeps.cores id.0 there.definition there.held;
    usable = is_item_kept ms b.graph c.graph keeps.graph k there.definition there.usable;
  }

  means_slot_kept : (k : plan.SlotKind) (n : Option ℕ) (v : MaybeValue Number) → MeansSlot b.graph k n v
      → MeansSlot c.graph k n v
  means_slot_kept k n v means_no_slot = means_no_slot
  means_slot_kept k n v (means_slot at m) =
      means_slot (kept b.graph c.graph keeps.graph (list.slots k) _ _ at) (means_kept b.graph c.graph keeps.graph m)

  -- what is in a slot is in it
  pub slot_kept : (k : plan.SlotKind) (n : Option ℕ) (v : MaybeValue Mark) → SlotStands b k n v → SlotStands c k n v
  slot_kept k n v s =
      let on : Numbered b.types (Fits b.graph) → Numbered c.types (Fits c.graph) =
      still b.types c.types keeps.types b.graph c.graph keeps.fits in
      record {
        numbered = map_maybe on s.numbered;
        means = subst (MeansSlot c.graph k n) (sym (maybe_twice on (number_of c.types (Fits c.graph)) s.numbered))
            (means_slot_kept k n _ s.means);
        is = maybe_twice on (whole_of c.types (Fits c.graph)) s.numbered ∙ s.is;
      }

  -- and so are memory and realloc
  slot_model_kept : (m : plan.ModelEntry) (v : value.DataModel Mark) → SlotModelStands b m v → SlotModelStands c m v
  slot_model_kept m v s =
      let on : Numbered b.types (Fits b.graph) → Numbered c.types (Fits c.graph) =
      still b.types c.types keeps.types b.graph c.graph keeps.fits in
      record {
        numbered = map_model on s.numbered;
        means = subst (MeansModel c.graph m) (sym (model_twice on (number_of c.types (Fits c.graph)) s.numbered))
            (by m _ s.means);
        is = model_twice on (whole_of c.types (Fits c.graph)) s.numbered ∙ s.is;
      }
    where
      by : (m : plan.ModelEntry) (v : value.DataModel Number) → MeansModel b.graph m v → MeansModel c.graph m v
      by m v means_gc = means_gc
      by m v (means_linear memory realloc) =
          means_linear (means_slot_kept plan.memory _ _ memory) (means_slot_kept plan.realloc _ _ realloc)

  -- a slot that is held is
  pub held_kept : (k : plan.SlotKind) (n : Option ℕ) → HeldSlot b.graph k n → HeldSlot c.graph k n
  unfolding HeldSlot
  held_kept k None held = held
  held_kept k (Some n) held = within b.graph c.graph keeps.graph (list.slots k) n held

  held_model_kept : (m : plan.ModelEntry) → HeldModel b.graph m → HeldModel c.graph m
  unfolding HeldModel
  held_model_kept plan.gc held = held
  held_model_kept (plan.linear m r) held = (held_kept plan.memory m held.0, held_kept plan.realloc r held.1)

-- slots of memory and realloc that are held
pub linear_held : (g : ComponentDfg) (m r : Option ℕ) → HeldSlot g plan.memory m → HeldSlot g plan.realloc r
    → HeldModel g (plan.linear m r)
unfolding HeldModel
linear_held g m r memory realloc = (memory, realloc)

-- the managed heap needs none
pub gc_held : (g : ComponentDfg) → HeldModel g plan.gc
unfolding HeldModel
gc_held g = tt

-- the managed heap, as it was
pub gc_slots : (ms : List ModuleRecord) (b c : Tables) (w : DataModel) → w ≡ model.Gc → (v : value.DataModel Mark)
    → ModelStands ms b w v → SlotModelStands c plan.gc v
gc_slots ms b c w here v stands = by v (subst (λ x. ModelStands ms b x v) here stands)
  where
    by : (v : value.DataModel Mark) → ModelStands ms b model.Gc v → SlotModelStands c plan.gc v
    by v gc_stands = record { numbered = value.gc; means = means_gc; is = refl }

-- memory and realloc, each in its slot
pub linear_slots : (ms : List ModuleRecord) (b c : Tables) (m r : Option CoreId) (memory realloc : Option ℕ)
    → ((v : MaybeValue Mark) → MaybeStands ms b core.Memory m v → SlotStands c plan.memory memory v)
    → ((v : MaybeValue Mark) → MaybeStands ms b core.Func r v → SlotStands c plan.realloc realloc v)
    → (w : DataModel) → w ≡ model.LinearMemory m r → (v : value.DataModel Mark) → ModelStands ms b w v
    → SlotModelStands c (plan.linear memory realloc) v
linear_slots ms b c m r memory realloc memory_at realloc_at w here v stands =
    by v (subst (λ x. ModelStands ms b x v) here stands)
  where
    by : (v : value.DataModel Mark) → ModelStands ms b (model.LinearMemory m r) v
        → SlotModelStands c (plan.linear memory realloc) v
    by v (linear_stands {memory = x} {realloc = y} first second) =
        let a = memory_at x first in
        let d = realloc_at y second in
        record {
          numbered = value.linear a.numbered d.numbered;
          means = means_linear a.means d.means;
          is = λ i. value.linear (a.is i) (d.is i);
        }

-- the signature of options as a number of the types builder
signed : (types : Types) (g : ComponentDfg) (o : Options) (s : CoreFuncSig)
    → slice_get types.signatures o.core_type.0 ≡ Some s → Numbered types (Fits g)
unfolding Holds
signed types g o s at = record { number = mark.Signature o.core_type; whole = of_signature s; holds = at }

-- an entry of options whose slots stand for those of options
entry_stands : (ms : List ModuleRecord) (b c : Tables) → Keeps b c → (o : Options) (x : CanonicalOptions) (n : ℕ)
    → slice_get c.graph.options n ≡ Some x → x.instance ≡ o.instance → x.string_encoding ≡ o.string_encoding
    → x.async_ ≡ o.async_ → x.core_type ≡ o.core_type
    → ((v : MaybeValue Mark) → MaybeStands ms b core.Func o.callback v
    → SlotStands c plan.callback (options_entry x).callback v)
    → ((v : MaybeValue Mark) → MaybeStands ms b core.Func o.post_return v
    → SlotStands c plan.post_return (options_entry x).post_return v)
    → ((v : value.DataModel Mark) → ModelStands ms b o.data_model v → SlotModelStands c (options_entry x).model v)
    → (v : value.Options Mark) → OptionsStand ms b o v → EntryStands c n v
unfolding signed
entry_stands ms b c keeps o x n at instance encoding is_async core_type callback post_return model v
    (options_stand {signature = s} {callback = p} {post_return = q} {where_values_lie = r} begun signature first
    second third) =
    let a = callback p first in
    let d = post_return q second in
    let m = model r third in
    let held : slice_get c.types.signatures x.core_type.0 ≡ Some s =
    ap (λ k. slice_get c.types.signatures k.0) core_type ∙ keeps.types.signatures o.core_type.0 s signature in
    record {
      numbered = value.options x.instance.0 x.string_encoding x.async_
          (signed c.types c.graph (record o { core_type = x.core_type }) s held)
          a.numbered d.numbered m.numbered;
      means = means_options at (means_entry a.means d.means m.means);
      is = λ i. value.options (instance i).0 (encoding i) (is_async i) (of_signature s) (a.is i) (d.is i) (m.is i);
    }

module _ (t : TypeTable) (ms : List ModuleRecord) (st : State) (h : ComponentDfg) (grows : graph.Grows st.graph h) where
  -- one more entry of options at most
  options_prepares : (x : CanonicalOptions) → HeldOptions st.graph (options_entry x)
      → x.core_type.0 < length st.types.signatures → IsPut st.graph.options h.options x
      → h ≡ record st.graph { options = h.options }
      → (HeldOptions st.graph (options_entry x) → IsOrdered st.graph → IsOrdered h)
      → Prepares t ms st (record st { graph = h })
  unfolding slots_of
  options_prepares x held signed_below put rest ordered =
      subst (λ (g : ComponentDfg). Prepares t ms st (record st { graph = g })) (sym rest)
      (slots_prepare t ms st st.graph.memories st.graph.reallocs st.graph.callbacks st.graph.post_returns h.options
      (λ before. options_put st.types st.graph.options h.options x put signed_below before.options)
      (subst (graph.Grows st.graph) rest grows) (λ o. subst IsOrdered rest (ordered held o)) slots)
    where
      slots : (k : plan.SlotKind) (n : ℕ) (d : CoreDef)
          → slice_get (slots_of (record st.graph { options = h.options }) k) n ≡ Some d
          → (slice_get (slots_of st.graph k) n ≡ Some d) ⊎ IsItem ms st.graph (slot_kind k) d
      slots plan.memory n d at = inl at
      slots plan.table n d at = inl at
      slots plan.realloc n d at = inl at
      slots plan.callback n d at = inl at
      slots plan.post_return n d at = inl at

-- a number under which an entry is is held
pub entry_held : (g : ComponentDfg) (n : ℕ) (x : CanonicalOptions) → slice_get g.options n ≡ Some x
    → n < length g.options
entry_held g n x at = slice_get_within g.options n x at

-- A state that was prepared three times: memory and realloc, then the callback, then the post-return function.
module _ (t : TypeTable) (ms : List ModuleRecord) (a b c d : State) (first : Prepares t ms a b)
    (second : Prepares t ms b c) (third : Prepares t ms c d) (o : Options) (x : CanonicalOptions) where
  later : Prepares t ms b d
  later = prepares_trans t ms b c d second third

  -- all three
  all_prepared : Prepares t ms a d
  all_prepared = prepares_trans t ms a b d first later

  -- what the entry names is held
  pub entry_ready : OptionsThere ms (tables_of a) o → x.instance ≡ o.instance
      → HeldModel b.graph (options_entry x).model
      → HeldSlot c.graph plan.callback (options_entry x).callback
      → HeldSlot d.graph plan.post_return (options_entry x).post_return → HeldOptions d.graph (options_entry x)
  entry_ready there same model callback post_return = record {
    component_instance = begun_kept a.graph d.graph all_prepared.keeps.graph x.instance.0
        (subst (λ (n : RuntimeComponentInstanceIndex). HasBegun a.graph n.0) (sym same) there.component_instance);
    callback = held_kept ms (tables_of c) (tables_of d) third.keeps plan.callback (options_entry x).callback callback;
    post_return = post_return;
    model = held_model_kept ms (tables_of b) (tables_of d) later.keeps (options_entry x).model model;
  }

  -- its signature is held
  pub entry_signed : OptionsThere ms (tables_of a) o → x.core_type ≡ o.core_type
      → x.core_type.0 < length d.types.signatures
  entry_signed there same =
      kept_within a.types.signatures d.types.signatures all_prepared.keeps.types.signatures x.core_type.0
      (subst (λ (n : ModuleInternedTypeIndex). n.0 < length a.types.signatures) (sym same) there.signature)

  module _ (h : ComponentDfg) (grows : graph.Grows d.graph h) where
    -- with the entry
    pub entry_prepares : HeldOptions d.graph (options_entry x) → x.core_type.0 < length d.types.signatures
        → IsPut d.graph.options h.options x → h ≡ record d.graph { options = h.options }
        → (HeldOptions d.graph (options_entry x) → IsOrdered d.graph → IsOrdered h)
        → Prepares t ms a (record d { graph = h })
    entry_prepares held signed_below put rest ordered =
        prepares_trans t ms a d (record d { graph = h }) all_prepared
        (options_prepares t ms d h grows x held signed_below put rest ordered)

    -- the entry stands for the options
    pub entry_after : h ≡ record d.graph { options = h.options } → (n : ℕ) → slice_get h.options n ≡ Some x
        → x.instance ≡ o.instance
        → x.string_encoding ≡ o.string_encoding → x.async_ ≡ o.async_ → x.core_type ≡ o.core_type
        → ((v : value.DataModel Mark) → ModelStands ms (tables_of a) o.data_model v
        → SlotModelStands (tables_of b) (options_entry x).model v)
        → ((v : MaybeValue Mark) → MaybeStands ms (tables_of b) core.Func o.callback v
        → SlotStands (tables_of c) plan.callback (options_entry x).callback v)
        → ((v : MaybeValue Mark) → MaybeStands ms (tables_of c) core.Func o.post_return v
        → SlotStands (tables_of d) plan.post_return (options_entry x).post_return v)
        → (v : value.Options Mark) → OptionsStand ms (tables_of a) o v
        → EntryStands (tables_of (record d { graph = h })) n v
    entry_after rest n at instance encoding is_async core_type model callback post_return =
        let e = tables_of (record d { graph = h }) in
        let last = graph_grown (tables_of d) h grows
        (fits_grown d.graph h grows (λ i. (rest i).imported_resources) (λ i. (rest i).resources)) in
        let until = prepares_trans t ms a b c first second in
        entry_stands ms (tables_of a) e (keeps_trans (tables_of a) (tables_of d) e all_prepared.keeps last) o x n at
        instance encoding is_async core_type
        (λ v s. slot_kept ms (tables_of c) e (keeps_trans (tables_of c) (tables_of d) e third.keeps last) plan.callback
        (options_entry x).callback v (callback v (maybe_kept ms (tables_of a) (tables_of b) first.keeps core.Func
        o.callback v s)))
        (λ v s. slot_kept ms (tables_of d) e last plan.post_return (options_entry x).post_return v
        (post_return v (maybe_kept ms (tables_of a) (tables_of c) until.keeps core.Func o.post_return v s)))
        (λ v s. slot_model_kept ms (tables_of b) e (keeps_trans (tables_of b) (tables_of d) e later.keeps last)
        (options_entry x).model v (model v s))
