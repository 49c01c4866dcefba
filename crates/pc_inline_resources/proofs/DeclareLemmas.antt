-- One more resource in the graph: what that keeps and adds, and where there is no room.
use Rattle.std.proofs.Common.{◌≡◌, ◌⊎◌, inl, inr, ◌+◌, ◌≤◌, ◌<◌, [], ◌∷◌, ◌++◌, length, Some, refl, sym}
use Rattle.std.proofs.Common.{ap, subst, arith}
use Rattle.std.specs.Prelude.{Result, Ok, Err, OnErr, OnOk, IfErr, slice_get}
use Rattle.std.specs.Result.{IsErrAnd}
use Rattle.std.proofs.lemmas.List.{length-append}
use Rattle.pc_types.specs.TypeTree.{declared}
use Rattle.pc_spec_plan.specs.PlanView as plan
use Rattle.pc_dfg.specs.declared.dfg.ComponentDfg.{ComponentDfg}
use Rattle.pc_dfg.specs.declared.instance.Resource.{Resource}
use Rattle.pc_dfg.specs.declared.push_error.PushError.{PushError}
use Rattle.pc_dfg.specs.declared.push_error.PushError.TheVariants as push_error
use Rattle.pc_dfg.specs.Grows as graph
use Rattle.pc_dfg.specs.Lists as list
use Rattle.pc_dfg.specs.Numbers.{slots_of}
use Rattle.pc_dfg.specs.Pushed.{with_resource}
use Rattle.pc_inline_state.specs.declared.error.ItemError.{ItemError}
use Rattle.pc_inline_state.specs.declared.error.ItemError.TheVariants as item_error
use Rattle.pc_inline_state.specs.declared.state.State.{State}
use Rattle.pc_inline_state.specs.AddsEach.{AddsEach, everywhere}
use Rattle.pc_inline_state.specs.Faults.{of_push_error}
use Rattle.pc_inline_state.specs.Fits.{FitsBefore}
use Rattle.pc_inline_state.specs.Points.{full_resources}
use Rattle.pc_inline_state.specs.Refused.{LacksRoom}
use Rattle.pc_inline_state.specs.Tables.{Keeps, Tables, tables_of}
use Rattle.pc_inline_state.proofs.AddsPushLemmas.{Lists, from_rest}
use Rattle.pc_inline_state.proofs.RefusedLemmas.{push_lacks}
use Rattle.pc_inline_state.proofs.StateLemmas.{keeps_refl}

-- the graph has the resource, or has it without the side effect, or is as it was
abbrev pub Declares : Resource → ComponentDfg → ComponentDfg → Type 0
Declares x g h =
    (h ≡ g) ⊎ ((h ≡ record g { resources = g.resources ++ x ∷ [] }) ⊎ (h ≡ with_resource g x))

-- which of these it is, by the answer of the push
pub declares_by : {A E : Type 0} (r : Result A E) (x : Resource) (g h : ComponentDfg) → OnOk r (h ≡ with_resource g x)
    → OnErr r ((h ≡ g) ⊎ (h ≡ record g { resources = g.resources ++ x ∷ [] })) → Declares x g h
declares_by (Ok a) x g h ok err = inr (inr ok)
declares_by (Err e) x g h ok err = elim err as (λ _. Declares x g h) [
  | inl same ↦ inl same
  | inr alone ↦ inr (inl alone)
]

-- resource numbers that fit where more are declared fitted before
fits_more : (g h : ComponentDfg) → h.imported_resources ≡ g.imported_resources → h.imports ≡ g.imports
    → length g.resources ≤ length h.resources → FitsBefore g h
fits_more g h given imports more who fits = record {
  given = λ n r i at import. fits.given n r i (subst (λ rs. slice_get rs n ≡ Some r) (sym given) at)
      (subst (λ is. slice_get is r.0 ≡ Some i) (sym imports) import);
  own = λ n below. subst (λ k. who (record { 0 = k + n }) ≡ declared n) (ap length given)
      (fits.own n (omega (arith, below, more)));
}

more_resources : (g : ComponentDfg) (x : Resource) → length g.resources ≤ length (g.resources ++ x ∷ [])
more_resources g x = rw (length-append g.resources (x ∷ [])) (omega arith)

module _ (x : Resource) (g h : ComponentDfg) (declares : Declares x g h) where
  declared_fits : FitsBefore g h
  declared_fits = elim declares as (λ _. FitsBefore g h) [
    | inl same ↦ subst (FitsBefore g) (sym same) (λ who fits. fits)
    | inr more ↦ elim more as (λ _. FitsBefore g h) [
      | inl alone ↦ subst (FitsBefore g) (sym alone)
          (fits_more g (record g { resources = g.resources ++ x ∷ [] }) refl refl (more_resources g x))
      | inr whole ↦ subst (FitsBefore g) (sym whole)
          (fits_more g (with_resource g x) refl refl (more_resources g x))
    ]
  ]

  -- each number keeps what it names
  pub declared_keeps : (st : State) → st.graph ≡ g → graph.Grows g h
      → Keeps (tables_of st) (tables_of (record st { graph = h }))
  declared_keeps st is grows =
      let still = keeps_refl (tables_of st) in
      record {
        types = still.types;
        graph = subst (λ y. graph.Grows y h) (sym is) grows;
        fits = subst (λ y. FitsBefore y h) (sym is) declared_fits;
        cores = still.cores;
        definitions = still.definitions;
        closures = still.closures;
        instances = still.instances;
        paths = still.paths;
        bodies = refl;
        names = refl;
        table = refl;
      }

module _ (b : Tables) (x : Resource) where
  whole_lists : Lists b everywhere (with_resource b.graph x)
  unfolding slots_of
  whole_lists list.resources = rw (length-append b.graph.resources (x ∷ [])) (omega arith)
  whole_lists list.side_effects = rw (length-append b.graph.side_effects (_ ∷ [])) (omega arith)
  whole_lists (list.slots plan.memory) = omega arith
  whole_lists l = omega arith

  alone_lists : Lists b everywhere (record b.graph { resources = b.graph.resources ++ x ∷ [] })
  unfolding slots_of
  alone_lists list.resources = rw (length-append b.graph.resources (x ∷ [])) (omega arith)
  alone_lists (list.slots plan.memory) = omega arith
  alone_lists l = omega arith

  -- one entry in a list at the most
  pub declared_adds : (h : ComponentDfg) → Declares x b.graph h → AddsEach everywhere 0 0 b (record b { graph = h })
  declared_adds h declares = elim declares as (λ _. AddsEach everywhere 0 0 b (record b { graph = h })) [
    | inl same ↦ from_rest b h everywhere b.graph same (λ l. omega arith) refl refl
    | inr more ↦ elim more as (λ _. AddsEach everywhere 0 0 b (record b { graph = h })) [
      | inl alone ↦ from_rest b h everywhere (record b.graph { resources = b.graph.resources ++ x ∷ [] }) alone
          alone_lists refl refl
      | inr whole ↦ from_rest b h everywhere (with_resource b.graph x) whole whole_lists refl refl
    ]
  ]

-- where there is room, the resources of the graph don't fill their list
pub declared_lacks : {T : Type 0} (r : Result T ItemError) (st : State) (g : ComponentDfg) (e : PushError)
    → IsErrAnd r (λ y. y ≡ of_push_error e) → (e ≡ push_error.TooMany → 4294967295 ≤ length g.resources)
    → length g.resources < 4294967295 → IfErr r (LacksRoom st)
declared_lacks r st g e is full room =
    push_lacks r st e is (λ many. let le = full many in absurd (omega (arith, le, room)))

-- resources that were imported and declared fill their numbers
pub resources_full : (st : State)
    → 4294967295 ≤ length st.graph.imported_resources + length st.graph.resources
    → LacksRoom st item_error.TooMany
unfolding LacksRoom
resources_full st full = full_resources full
