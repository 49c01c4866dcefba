-- What a component instance has of a child: an instance of what the child exports, when the resources of its type are
-- known.
use Rattle.std.proofs.Common.{◌≡◌, ℕ, List, Result, Ok, Err, refl, sym, ap, subst, ◌∙◌, IsErrAnd}
use Rattle.std.specs.Prelude.{⊤}
use Rattle.pc_entity.specs.declared.string_pool.Atom.{Atom}
use Rattle.pc_types.specs.declared.module_record.ModuleRecord.{ModuleRecord}
use Rattle.pc_types.specs.declared.parsed.Entity.TheVariants as entity
use Rattle.pc_types.specs.declared.parsed.TypeTable.{TypeTable}
use Rattle.pc_types.specs.TypeTree.{Identity}
use Rattle.pc_spec_reading.specs.Components.{add_child, read_return}
use Rattle.pc_spec_reading.specs.Member.{resource_among}
use Rattle.pc_spec_reading.specs.Outcome.{Fault, after}
use Rattle.pc_spec_reading.specs.Resource.{registered, resource_paths}
use Rattle.pc_spec_reading.specs.Scope.{Moment}
use Rattle.pc_spec_reading.specs.Value.{NamedValue, NamedValues, pack_values}
use Rattle.pc_inline_state.specs.declared.error.ItemError.{ItemError}
use Rattle.pc_inline_state.specs.declared.error.ItemError.TheVariants as item_error
use Rattle.pc_inline_state.specs.declared.frame.Frame.{Frame}
use Rattle.pc_inline_state.specs.declared.state.Member.{Member}
use Rattle.pc_inline_state.specs.declared.state.State.{State}
use Rattle.pc_inline_state.specs.Points.{Follows, Goes, IsPoint, PointStands, Steps}
use Rattle.pc_inline_state.specs.Stands.{MembersStand}
use Rattle.pc_inline_state.specs.Tables.{Keeps, tables_of}
use Rattle.pc_inline_canon.proofs.KeptLemmas.{members_kept}
use Rattle.pc_inline_resources.specs.Registers.{returned, with_found}
use Rattle.pc_inline_items.specs.Made.{made_of}
use Rattle.pc_inline_stack.specs.Calls.{AddsChild}

-- a return makes the resources of a type known, and then there is an instance of it
return_is : (t : TypeTable) (exports : List NamedValue) (ty : ℕ) (now : Moment)
    → read_return t now exports ty
    ≡ after (returned t ty (pack_values exports) now) (made_of t ty (pack_values exports))
unfolding read_return add_child returned
return_is t exports ty now =
    by (registered (resource_among (pack_values exports)) (resource_paths t (entity.Instance ty)) now.scope.known)
  where
    by : (r : Result (List (ℕ × Identity)) Fault) → after r (add_child t now exports ty)
        ≡ after (with_found now r) (made_of t ty (pack_values exports))
    by (Ok known) = refl
    by (Err k) = refl

module _ (t : TypeTable) (ms : List ModuleRecord) (members : List (Atom × Member)) (ty : ℕ) (st : State) (f : Frame)
  where
    -- what the reading makes of the resources
    abbrev pub Known : State → Frame → Result ⊤ ItemError → Type 0
    Known st' f' r = (vs : NamedValues) → MembersStand ms (tables_of st) members vs
        → Steps t ms (returned t ty vs) st f st' f' r

    module _ (st' : State) (f' : Frame) where
      stuck : (e : ItemError) → Known st' f' (Err e) → AddsChild t ms members ty st f st' f' (Err e)
      unfolding AddsChild Follows Steps
      stuck (item_error.Fault k) known now exports at given =
          return_is t exports ty now
          ∙ ap (λ r. after r (made_of t ty (pack_values exports))) (known (pack_values exports) given now at)
      stuck item_error.TooMany known now exports at given = known (pack_values exports) given now at
      stuck item_error.NoMemory known now exports at given = tt

      -- a resource isn't known
      pub child_unknown : (r : Result ⊤ ItemError) (e : ItemError) → IsErrAnd r (λ x. x ≡ e) → Known st' f' (Err e)
          → AddsChild t ms members ty st f st' f' r
      child_unknown (Ok x) e is known = absurd is
      child_unknown (Err x) e is known =
          subst (λ k. AddsChild t ms members ty st f st' f' (Err k)) (sym is) (stuck e known)

    module _ (st1 : State) (f1 : Frame) (done : ⊤) (known : Known st1 f1 (Ok done)) where
      went : (now : Moment) (exports : List NamedValue) → PointStands t ms st f now
          → MembersStand ms (tables_of st) members (pack_values exports)
          → Goes t ms st1 f1 (returned t ty (pack_values exports) now)
      unfolding Steps Follows
      went now exports at given = known (pack_values exports) given now at

      -- the component instance is at a moment when the resources are known
      pub known_point : IsPoint t ms st f
          → ((exports : List NamedValue) × MembersStand ms (tables_of st) members (pack_values exports))
          → IsPoint t ms st1 f1
      known_point point values =
          let next = went point.0 values.0 point.1 values.1 in
          (next.now, next.stands)

      -- it has an instance of the members then
      pub child_added : Keeps (tables_of st) (tables_of st1) → (st2 : State) (f2 : Frame) (r : Result ⊤ ItemError)
          → ((now : Moment) (vs : NamedValues) → PointStands t ms st1 f1 now
          → MembersStand ms (tables_of st1) members vs → Follows t ms st2 f2 (made_of t ty vs now) r)
          → AddsChild t ms members ty st f st2 f2 r
      unfolding AddsChild
      child_added keeps st2 f2 r steps now exports at given =
          let vs = pack_values exports in
          let next = went now exports at given in
          let there = members_kept ms (tables_of st) (tables_of st1) keeps members vs given in
          subst (λ x. Follows t ms st2 f2 x r)
          (sym (return_is t exports ty now ∙ ap (λ x. after x (made_of t ty vs)) next.done))
          (steps next.now vs next.stands there)
