-- An adapter that a key has already, and one that is made for it.
use Rattle.std.proofs.Common.{◌≡◌, inl, ℕ, List, Option, Some, refl, subst}
use Rattle.std.specs.Prelude.{IfSome, slice_get}
use Rattle.pc_types.specs.declared.module_record.ModuleRecord.{ModuleRecord}
use Rattle.pc_types.specs.declared.parsed.TypeTable.{TypeTable}
use Rattle.pc_dfg.specs.declared.ids.AdapterId.{AdapterId}
use Rattle.pc_dfg.proofs.GrowLemmas.{grows_refl}
use Rattle.pc_inline_state.specs.declared.adapters.AdapterKey.{AdapterKey}
use Rattle.pc_inline_state.specs.declared.state.State.{State}
use Rattle.pc_inline_state.specs.Points.{IsSoundState}
use Rattle.pc_inline_canon.specs.Adapters.{GetsAdapter}

-- what was found under a key stands there
found_so : (st : State) (key : AdapterKey) (o : Option AdapterId) (n : AdapterId)
    → IfSome o (λ a. (i : ℕ) × (slice_get st.places.adapters i ≡ Some (key, a))) → o ≡ Some n
    → (i : ℕ) × (slice_get st.places.adapters i ≡ Some (key, n))
found_so st key o n found is =
    subst (λ x. IfSome x (λ a. (i : ℕ) × (slice_get st.places.adapters i ≡ Some (key, a)))) is found

-- a key that has an adapter gets that
pub gets_again : (t : TypeTable) (ms : List ModuleRecord) (st : State) → IsSoundState t ms st → (key : AdapterKey)
    (o : Option AdapterId) (n : AdapterId)
    → IfSome o (λ a. (i : ℕ) × (slice_get st.places.adapters i ≡ Some (key, a))) → o ≡ Some n
    → GetsAdapter t ms st st key n
gets_again t ms st sound key o n found is =
    let there = found_so st key o n found is in
    let has = sound.placed.adapters there.0 key n there.1 in
    record {
      adapter = has.adapter;
      made = has.made;
      held = has.held;
      put = (inl refl, λ there. refl);
      grows = grows_refl st.graph;
      ordered = λ held o. o;
      notes = record { adapters = λ i e at. inl at; slots = refl };
    }
