-- The unsafe intrinsics as an instance, and as what it exports.
use Rattle.std.proofs.Common.{◌≡◌, ◌+◌, ℕ, zero, suc, Bool, true, false, List, [], ◌∷◌, ◌++◌, length, Option, None, Some}
use Rattle.std.proofs.Common.{Result, Ok, Err, refl, sym, ap, subst, ◌∙◌}
use Rattle.std.specs.Prelude.{⊤, Contains, option_map, slice_get}
use Rattle.std.specs.Result.{IsErrAnd}
use Rattle.std.specs.Str.{bytes_eq}
use Rattle.std.proofs.lemmas.Option.{same_Some}
use Rattle.std.proofs.lemmas.Slice.Eq.{bytes_eq-Decides}
use Rattle.pc_types.specs.declared.intrinsic.UnsafeIntrinsic.{UnsafeIntrinsic}
use Rattle.pc_types.specs.declared.intrinsic.UnsafeIntrinsic.TheVariants as intrinsic
use Rattle.pc_types.specs.declared.module_record.ModuleRecord.{ModuleRecord}
use Rattle.pc_types.specs.declared.parsed.TypeTable.{TypeTable}
use Rattle.pc_types.specs.Intrinsic.{intrinsic_names}
use Rattle.pc_types.specs.IntrinsicType.{intrinsic_place}
use Rattle.pc_types_lists.proofs.Growth.{contains_at}
use Rattle.pc_parsed.specs.declared.payload.ItemKind.{ItemKind}
use Rattle.pc_parsed.specs.declared.payload.ItemKind.TheVariants as kind
use Rattle.pc_spec_reading.specs.Imports.{read_intrinsics}
use Rattle.pc_spec_reading.specs.Instances.{alias_in, alias_member}
use Rattle.pc_spec_reading.specs.Item.{intrinsics_import}
use Rattle.pc_spec_reading.specs.Member.{a_value, member, place_from}
use Rattle.pc_spec_reading.specs.Outcome.{Fault, found, unknown_intrinsic}
use Rattle.pc_spec_reading.specs.Rows.{read_row}
use Rattle.pc_spec_reading.specs.Scope.{Moment, add_value}
use Rattle.pc_spec_reading.specs.Value.{func_value, instance_value, intrinsic_function, the_intrinsics}
use Rattle.pc_inline_state.specs.declared.definition.Definition.{Definition}
use Rattle.pc_inline_state.specs.declared.definition.Definition.TheVariants as definition
use Rattle.pc_inline_state.specs.declared.definition.DefinitionId.{DefinitionId}
use Rattle.pc_inline_state.specs.declared.error.ItemError.{ItemError}
use Rattle.pc_inline_state.specs.declared.error.ItemError.TheVariants as item_error
use Rattle.pc_inline_state.specs.declared.error.ItemFault.TheVariants as item_fault
use Rattle.pc_inline_state.specs.declared.frame.Frame.{Frame}
use Rattle.pc_inline_state.specs.declared.state.State.{State}
use Rattle.pc_inline_state.specs.Definitions as definitions
use Rattle.pc_inline_state.specs.Lists.{with_item_id}
use Rattle.pc_inline_state.specs.Points.{Follows, PointStands, Steps, StepsItem}
use Rattle.pc_inline_state.specs.Prepares.{Prepares}
use Rattle.pc_inline_state.specs.Refused.{LacksRoom}
use Rattle.pc_inline_state.specs.Stands.{stands_intrinsic, stands_intrinsics}
use Rattle.pc_inline_state.specs.Tables.{tables_of}
use Rattle.pc_inline_state.proofs.MembersLemmas.{no_instance}
use Rattle.pc_inline_state.proofs.StateLemmas.{definition_prepares}
use Rattle.pc_inline_canon.proofs.DefinitionLemmas.{definition_added}
use Rattle.pc_inline_canon.proofs.KeptLemmas.{definition_kept}
use Rattle.pc_inline_canon.proofs.WorldLemmas.{point_kept}
use Rattle.pc_inline_items.specs.Aliases.{AddsDefined}
use Rattle.pc_inline_items.proofs.FollowLemmas.{follows_as, follows_lacking, follows_row, follows_unfed}
use Rattle.pc_inline_items.proofs.ItemLemmas.{item_point, kind_entry}

-- A definition that becomes an item.
module _ (k : ItemKind) (d : Definition) (st : State) (f : Frame) where
  -- it does
  pub defined_added : definitions.exports_of d ≡ None → (new : State)
      → new ≡ record st { definitions = st.definitions ++ d ∷ [] } → (id : DefinitionId)
      → id.0 ≡ length st.definitions → (f' : Frame) → f' ≡ with_item_id f k id → (r : ⊤)
      → AddsDefined k d st f new f' (Ok r)
  unfolding AddsDefined Follows
  defined_added alone new grown id key f' framed r t ms now v at stands is =
      let prepares = subst (Prepares t ms st) (sym grown)
      (definition_prepares t ms st d (no_instance (length st.instances) d alone)) in
      let here = point_kept t ms st new prepares f now at in
      let entry = definition_added ms (tables_of new) st.definitions d id v
      (ap (λ (x : State). x.definitions) grown) key
      (definition_kept ms (tables_of st) (tables_of new) prepares.keeps d v stands) in
      subst (λ g. Follows t ms new g (Ok (add_value now v)) (Ok r)) (sym framed) (record {
        now = add_value now v;
        stands = item_point t ms new f now here k id v entry is;
        done = refl;
      })

  -- there was no room for it
  pub defined_crowded : (st' : State) (f' : Frame) (r : Result ⊤ ItemError) (x : ItemError)
      → IsErrAnd r (λ y. y ≡ x) → LacksRoom st' x → AddsDefined k d st f st' f' r
  unfolding AddsDefined
  defined_crowded st' f' r x is lacks t ms now v at stands kind =
      follows_lacking t ms st' f' (Ok (add_value now v)) r x is lacks

  -- or no memory
  pub defined_unfed : (st' : State) (f' : Frame) (r : Result ⊤ ItemError)
      → IsErrAnd r (λ y. y ≡ item_error.NoMemory) → AddsDefined k d st f st' f' r
  unfolding AddsDefined
  defined_unfed st' f' r is t ms now v at stands kind = follows_unfed t ms st' f' (Ok (add_value now v)) r is

-- The import: the intrinsics are an instance.
pub intrinsics_imported : (st : State) (f : Frame) (st' : State) (f' : Frame) (r : Result ⊤ ItemError)
    → AddsDefined kind.Instance definition.Intrinsics st f st' f' r → (t : TypeTable) (ms : List ModuleRecord)
    → StepsItem t ms intrinsics_import st f st' f' r
unfolding Steps AddsDefined read_row read_intrinsics
intrinsics_imported st f st' f' r adds t ms now at =
    follows_row t ms st' f' now intrinsics_import (Ok (add_value now (instance_value the_intrinsics))) refl r
    (adds t ms now (instance_value the_intrinsics) at stands_intrinsics refl)

-- the place of an intrinsic is the first at which its name stands
place_named : (i : UnsafeIntrinsic) (name : List ℕ) → slice_get intrinsic_names (intrinsic_place i) ≡ Some name
    → place_from 0 name intrinsic_names ≡ Some (intrinsic_place i)
place_named intrinsic.StoreDataAddress name at =
    subst (λ n. place_from 0 n intrinsic_names ≡ Some 0) (same_Some _ name at) refl
place_named i name at =
    subst (λ n. place_from 0 n intrinsic_names ≡ Some (intrinsic_place i)) (same_Some _ name at) refl

-- a name that stands nowhere has no place
place_none : (n : ℕ) (name : List ℕ) (xs : List (List ℕ)) → ((k : ℕ) → slice_get xs k ≡ Some name → ⊥)
    → place_from n name xs ≡ None
place_none n name [] none = refl
place_none n name (x ∷ xs) none =
    by (bytes_eq name x) refl (place_none (n + 1) name xs (λ k at. none (suc k) at))
  where
    by : (b : Bool) → bytes_eq name x ≡ b → place_from (n + 1) name xs ≡ None → place_from n name (x ∷ xs) ≡ None
    by true is later = absurd (none zero (ap Some (sym ((bytes_eq-Decides name x).0 is))))
    by false is later = rw (is) later

-- what the row makes of what stands at a place, or of none
abbrev alias_at : Moment → ItemKind → Option ℕ → Result Moment Fault
alias_at now k o =
    found unknown_intrinsic (option_map (λ f. a_value (func_value f)) (option_map intrinsic_function o))
    (alias_member now k)

alias_named : (now : Moment) (k : ItemKind) (name : List ℕ)
    → alias_in now k name the_intrinsics ≡ alias_at now k (place_from 0 name intrinsic_names)
unfolding member
alias_named now k name = refl

-- An alias of an intrinsic.
module _ (k : ItemKind) (name : List ℕ) (st : State) (f : Frame) (st' : State) (f' : Frame) where
  -- it has no such name
  pub alias_unknown : ¬ (Contains intrinsic_names name) → (t : TypeTable) (ms : List ModuleRecord) (now : Moment)
      → PointStands t ms st f now
      → Follows t ms st' f' (alias_in now k name the_intrinsics) (Err (item_error.Fault item_fault.UnknownIntrinsic))
  unfolding Follows
  alias_unknown none t ms now at =
      alias_named now k name
      ∙ ap (alias_at now k)
      (place_none 0 name intrinsic_names (λ n there. none (contains_at intrinsic_names n name there)))

  module _ (i : UnsafeIntrinsic) (named : slice_get intrinsic_names (intrinsic_place i) ≡ Some name) where
    -- what the row makes of it
    alias_row : (now : Moment) → alias_in now k name the_intrinsics ≡ alias_at now k (Some (intrinsic_place i))
    alias_row now = alias_named now k name ∙ ap (alias_at now k) (place_named i name named)

    -- it is asked for as what it isn't
    pub alias_other : definitions.is_of_kind k (definition.IntrinsicFunc i) ≡ false → (t : TypeTable)
        (ms : List ModuleRecord) (now : Moment) → PointStands t ms st f now
        → Follows t ms st' f' (alias_in now k name the_intrinsics) (Err (item_error.Fault item_fault.Invalid))
    unfolding Follows
    alias_other other t ms now at =
        let isnt = sym (kind_entry ms (tables_of st) k (definition.IntrinsicFunc i) _ stands_intrinsic) ∙ other in
        alias_row now ∙ rw (isnt) refl

    -- it is an item of the component instance
    pub alias_function : definitions.is_of_kind k (definition.IntrinsicFunc i) ≡ true → (r : Result ⊤ ItemError)
        → AddsDefined k (definition.IntrinsicFunc i) st f st' f' r → (t : TypeTable) (ms : List ModuleRecord)
        (now : Moment) → PointStands t ms st f now → Follows t ms st' f' (alias_in now k name the_intrinsics) r
    unfolding AddsDefined
    alias_function does r adds t ms now at =
        let v = func_value (intrinsic_function (intrinsic_place i)) in
        let is = sym (kind_entry ms (tables_of st) k (definition.IntrinsicFunc i) v stands_intrinsic) ∙ does in
        follows_as t ms st' f' (Ok (add_value now v)) (alias_in now k name the_intrinsics)
        (alias_row now ∙ rw (is) refl) r (adds t ms now v at stands_intrinsic is)
