-- A trampoline or an intrinsic that becomes a core item: what a state is after it.
use Rattle.std.proofs.Common.{◌≡◌, ◌≤◌, ℕ, ◌+◌, [], ◌∷◌, ◌++◌, length, Some, refl, ap, ◌∙◌, arith}
use Rattle.std.specs.Prelude.{Err, IfErr, IfOk, Ok, OnOk, Result, slice_get}
use Rattle.std.specs.Result.{IsErrAnd}
use Rattle.pc_entity.proofs.Growing.{slice_get-append_seam}
use Rattle.pc_numbers.specs.declared.module_entity.ModuleInternedTypeIndex.{ModuleInternedTypeIndex}
use Rattle.pc_numbers.specs.declared.runtime.TrampolineIndex.{TrampolineIndex}
use Rattle.pc_types.specs.declared.intrinsic.UnsafeIntrinsic.{UnsafeIntrinsic}
use Rattle.pc_types.specs.IntrinsicType.{intrinsic_place}
use Rattle.pc_spec_plan.specs.PlanView as plan
use Rattle.pc_dfg.specs.declared.core_def.CoreDef.{CoreDef}
use Rattle.pc_dfg.specs.declared.core_def.CoreDef.TheVariants as def
use Rattle.pc_dfg.specs.declared.dfg.ComponentDfg.{ComponentDfg}
use Rattle.pc_dfg.specs.declared.push_error.PushError.{PushError}
use Rattle.pc_dfg.specs.declared.push_error.PushError.TheVariants as push_error
use Rattle.pc_dfg.specs.Grows as graph
use Rattle.pc_dfg.specs.Grows.{HasIntrinsic}
use Rattle.pc_dfg.specs.Lists as list
use Rattle.pc_dfg.specs.Lists.{ListName, entries_of}
use Rattle.pc_dfg.specs.Numbers.{SignedTrampoline, slots_of}
use Rattle.pc_dfg.specs.Pushed.{IsPut, with_intrinsic}
use Rattle.pc_inline_state.specs.declared.definition.CoreId.{CoreId}
use Rattle.pc_inline_state.specs.declared.error.ItemError.{ItemError}
use Rattle.pc_inline_state.specs.declared.state.State.{State}
use Rattle.pc_inline_state.specs.AddsEach.{AddsEach, in_trampolines, nowhere}
use Rattle.pc_inline_state.specs.Faults.{of_push_error}
use Rattle.pc_inline_state.specs.Refused.{LacksRoom}
use Rattle.pc_inline_state.specs.Tables.{Keeps, Tables, tables_of}
use Rattle.pc_inline_state.proofs.AddsLemmas.{each_trans, each_weaken}
use Rattle.pc_inline_state.proofs.AddsPushLemmas.{Lists, from_rest, trampoline_adds}
use Rattle.pc_inline_state.proofs.FitsLemmas.{fits_grown}
use Rattle.pc_inline_state.proofs.GrowthLemmas.{graph_crowded, graph_grown}
use Rattle.pc_inline_state.proofs.RefusedLemmas.{push_lacks}
use Rattle.pc_inline_state.proofs.StateLemmas.{keeps_trans}

module _ (st : State) (h : ComponentDfg) (grows : graph.Grows st.graph h) where
  -- where a list of the graph took no entry, memory is short or the list is full
  pub list_refuses : {A B : Type 0} (l : ListName) (q : Result A PushError) (y : PushError) → q ≡ Err y
      → (q ≡ Err push_error.TooMany → 4294967295 ≤ length (entries_of st.graph l)) → (r : Result B ItemError)
      → IsErrAnd r (λ e. e ≡ of_push_error y) → IfErr r (LacksRoom (record st { graph = h }))
  list_refuses l q y was full r is =
      push_lacks r (record st { graph = h }) y is
      (λ same. graph_crowded (tables_of (record st { graph = h })) st.graph grows l (full (was ∙ ap Err same)))

  -- tables keep what they have where the graph gains no resource
  pub graph_keeps : h.imported_resources ≡ st.graph.imported_resources → h.resources ≡ st.graph.resources
      → Keeps (tables_of st) (tables_of (record st { graph = h }))
  graph_keeps given own = graph_grown (tables_of st) h grows (fits_grown st.graph h grows given own)

  -- and so they do as a core item is added besides
  pub pushed_keeps : h.imported_resources ≡ st.graph.imported_resources → h.resources ≡ st.graph.resources
      → (x : Tables) → Keeps (tables_of (record st { graph = h })) x → Keeps (tables_of st) x
  pushed_keeps given own x more =
      keeps_trans (tables_of st) (tables_of (record st { graph = h })) x (graph_keeps given own) more

-- what a core item is after it was added, where it was added
module _ (r : Result CoreId ItemError) (st x : State) (d : CoreDef) (key : IfOk r (λ id. id.0 ≡ length st.cores))
    (ok : OnOk r (x ≡ record st { cores = st.cores ++ d ∷ [] })) where
  core_at : (id : CoreId) → id.0 ≡ length st.cores → x ≡ record st { cores = st.cores ++ d ∷ [] }
      → slice_get x.cores id.0 ≡ Some d
  core_at id is same =
      ap (λ (y : State). slice_get y.cores id.0) same
      ∙ ap (slice_get (st.cores ++ d ∷ [])) is
      ∙ slice_get-append_seam st.cores d []

  -- a trampoline
  pub trampoline_pushed : (k : TrampolineIndex) (entry : SignedTrampoline) → d ≡ def.Trampoline k
      → slice_get st.graph.trampolines k.0 ≡ Some entry
      → IfOk r (λ id. (j : TrampolineIndex) × (slice_get x.cores id.0 ≡ Some (def.Trampoline j))
      × (slice_get x.graph.trampolines j.0 ≡ Some entry))
  trampoline_pushed k entry is held = by r key ok
    where
      by : (q : Result CoreId ItemError) → IfOk q (λ id. id.0 ≡ length st.cores)
          → OnOk q (x ≡ record st { cores = st.cores ++ d ∷ [] })
          → IfOk q (λ id. (j : TrampolineIndex) × (slice_get x.cores id.0 ≡ Some (def.Trampoline j))
          × (slice_get x.graph.trampolines j.0 ≡ Some entry))
      by (Ok id) at same = (
        k,
        core_at id at same ∙ ap Some is,
        ap (λ (y : State). slice_get y.graph.trampolines k.0) same ∙ held,
      )
      by (Err e) at same = tt

  -- an intrinsic
  pub intrinsic_pushed : (s : ModuleInternedTypeIndex) (i : UnsafeIntrinsic) → d ≡ def.UnsafeIntrinsic s i
      → HasIntrinsic st.graph (intrinsic_place i) s
      → IfOk r (λ id. (t : ModuleInternedTypeIndex) × (slice_get x.cores id.0 ≡ Some (def.UnsafeIntrinsic t i))
      × HasIntrinsic x.graph (intrinsic_place i) t)
  intrinsic_pushed s i is held = by r key ok
    where
      by : (q : Result CoreId ItemError) → IfOk q (λ id. id.0 ≡ length st.cores)
          → OnOk q (x ≡ record st { cores = st.cores ++ d ∷ [] })
          → IfOk q (λ id. (t : ModuleInternedTypeIndex) × (slice_get x.cores id.0 ≡ Some (def.UnsafeIntrinsic t i))
          × HasIntrinsic x.graph (intrinsic_place i) t)
      by (Ok id) at same = (
        s,
        core_at id at same ∙ ap Some is,
        ap (λ (y : State). slice_get y.graph.unsafe_intrinsics (intrinsic_place i)) same ∙ held,
      )
      by (Err e) at same = tt

module _ (b : Tables) where
  -- a trampoline, and then a core item
  pub trampoline_then : (g : ComponentDfg) (entry : SignedTrampoline) → g ≡ record b.graph { trampolines = g.trampolines }
      → IsPut b.graph.trampolines g.trampolines entry → (x : Tables) → AddsEach nowhere 1 0 (record b { graph = g }) x
      → AddsEach in_trampolines 1 0 b x
  trampoline_then g entry rest put x more =
      each_weaken (λ l. in_trampolines l + nowhere l) in_trampolines 1 0 1 0 b x (λ l. omega arith) (omega arith)
      (omega arith)
      (each_trans in_trampolines nowhere 0 0 1 0 b (record b { graph = g }) x (trampoline_adds b g entry rest put) more)

  -- an intrinsic stands in no list
  signed_lists : (place : ℕ) (s : ModuleInternedTypeIndex) → Lists b nowhere (with_intrinsic b.graph place s)
  unfolding slots_of
  signed_lists place s (list.slots plan.memory) = omega arith
  signed_lists place s l = omega arith

  -- an intrinsic, and then a core item
  pub intrinsic_then : (g : ComponentDfg) (place : ℕ) (s : ModuleInternedTypeIndex) → g ≡ with_intrinsic b.graph place s
      → (x : Tables) → AddsEach nowhere 1 0 (record b { graph = g }) x → AddsEach nowhere 1 0 b x
  intrinsic_then g place s put x more =
      each_weaken (λ l. nowhere l + nowhere l) nowhere 1 0 1 0 b x (λ l. omega arith) (omega arith) (omega arith)
      (each_trans nowhere nowhere 0 0 1 0 b (record b { graph = g }) x
      (from_rest b g nowhere (with_intrinsic b.graph place s) put (signed_lists place s) refl refl) more)
