-- The step of a resource that the component instance declares.
use Rattle.std.proofs.Common.{◌≡◌, ◌+◌, ℕ, true, false, List, length, Option, None, Some, refl, sym, ap, subst, ◌∙◌}
use Rattle.std.specs.Prelude.{⊤, Result, Ok, Err}
use Rattle.std.specs.Result.{IsErrAnd}
use Rattle.std.proofs.lemmas.Option.{none-some, same_Some}
use Rattle.pc_numbers.specs.declared.runtime.ResourceIndex.{ResourceIndex}
use Rattle.pc_types.specs.declared.module_record.ModuleRecord.{ModuleRecord}
use Rattle.pc_types.specs.declared.parsed.CoreKind.TheVariants as core
use Rattle.pc_types.specs.declared.parsed.TypeTable.{TypeTable}
use Rattle.pc_types.specs.declared.parsed.WasmValType.{WasmValType}
use Rattle.pc_types.specs.Table.{is_resource}
use Rattle.pc_types.specs.TypeTree.{Identity, declared}
use Rattle.pc_types_lists.specs.Types.{Types}
use Rattle.pc_spec_plan.specs.CoreValue.{MaybeValue}
use Rattle.pc_spec_plan.specs.Log.{declared_resource}
use Rattle.pc_spec_plan.specs.Machine.{chosen}
use Rattle.pc_parsed.specs.Mark.{Mark}
use Rattle.pc_spec_reading.specs.Item.{Item, resource_item}
use Rattle.pc_spec_reading.specs.Outcome.{Fault, bad_type, invalid}
use Rattle.pc_spec_reading.specs.Rows.{add_resource, read_resource, read_row}
use Rattle.pc_spec_reading.specs.Scope.{Moment, add_entry}
use Rattle.pc_spec_reading.specs.Types.{has_entry}
use Rattle.pc_spec_reading.specs.World.{resources_declared}
use Rattle.pc_dfg.specs.declared.core_def.CoreDef.{CoreDef}
use Rattle.pc_dfg.specs.declared.dfg.ComponentDfg.{ComponentDfg}
use Rattle.pc_dfg.specs.declared.instance.Resource.{Resource}
use Rattle.pc_dfg.specs.Held.{HeldResource}
use Rattle.pc_dfg.specs.Ordered.{IsOrdered}
use Rattle.pc_dfg.specs.Pushed.{with_resource}
use Rattle.pc_inline_state.specs.declared.error.ItemError.{ItemError}
use Rattle.pc_inline_state.specs.declared.error.ItemError.TheVariants as item_error
use Rattle.pc_inline_state.specs.declared.error.ItemFault.TheVariants as item_fault
use Rattle.pc_inline_state.specs.declared.frame.Frame.{Frame}
use Rattle.pc_inline_state.specs.declared.state.State.{State}
use Rattle.pc_inline_state.specs.Faults.{fault_of}
use Rattle.pc_inline_state.specs.KnowsSame.{IsResource}
use Rattle.pc_inline_state.specs.Points.{Follows, PointStands, Steps, StepsItem}
use Rattle.pc_inline_state.specs.Tables.{IsItem, Keeps, tables_of}
use Rattle.pc_inline_canon.proofs.ResourceLemmas.{DestructorMeans, none_means, resource_number, resource_point}
use Rattle.pc_inline_canon.proofs.ResourceLemmas.{some_means}
use Rattle.pc_inline_canon.proofs.StepLemmas.{steps_stuck}
use Rattle.pc_inline_resources.specs.Registers.{known_as}
use Rattle.pc_inline_resources.specs.Walked.{DestructorStands, FindsDestructor, a_destructor, no_destructor}

module _ (ms : List ModuleRecord) (types : Types) (g : ComponentDfg) where
  -- a destructor has a value of the reading
  dtor_means : (o : Option CoreDef) (v : MaybeValue Mark) → DestructorStands ms types g o v
      → DestructorMeans types g o v
  dtor_means o v no_destructor = none_means types g
  dtor_means o v (a_destructor {d = d} {v = w} is usable) = some_means types g d w is

  -- and is a core function
  dtor_item : (o : Option CoreDef) (v : MaybeValue Mark) → DestructorStands ms types g o v → (d : CoreDef)
      → o ≡ Some d → IsItem ms g core.Func d
  dtor_item o v no_destructor d is = absurd (none-some d is)
  dtor_item o v (a_destructor {d = e} stands usable) d is =
      subst (λ y. IsItem ms g core.Func y) (same_Some e d is) usable

module _ (t : TypeTable) (ms : List ModuleRecord) (id : ℕ) (rep : WasmValType) (index : Option ℕ) (st : State)
    (f : Frame) where
  -- the item
  abbrev this : Item
  this = resource_item id rep index

  -- what the reading makes of a moment
  abbrev reads : Moment → Result Moment Fault
  reads now = read_row t ms now this

  -- its number is that of no resource type
  pub resource_untyped : (st' : State) (f' : Frame) → has_entry t is_resource id ≡ false
      → StepsItem t ms this st f st' f' (Err (item_error.Fault item_fault.BadType))
  unfolding read_row read_resource
  resource_untyped st' f' none =
      steps_stuck t ms reads st f st' f' item_fault.BadType
      (λ now at. stuck now)
    where
      stuck : (now : Moment) → read_row t ms now this ≡ Err bad_type
      stuck now = rw none refl

  -- there is no such destructor
  undone : has_entry t is_resource id ≡ true → (now : Moment) → chosen now.scope.core_funcs index ≡ None
      → reads now ≡ Err invalid
  unfolding read_row read_resource
  undone there now none = stuck
    where
      stuck : read_row t ms now this ≡ Err invalid
      stuck = rw (there, none) refl

  -- the destructor's error is handed on
  pub resource_unfound : has_entry t is_resource id ≡ true → (st' : State) (f' : Frame) (r : Result ⊤ ItemError)
      (e : ItemError) → IsErrAnd r (λ x. x ≡ e)
      → ((now : Moment) → PointStands t ms st f now
      → FindsDestructor ms st.types st.graph (chosen now.scope.core_funcs index) (Err e))
      → StepsItem t ms this st f st' f' r
  unfolding Steps Follows FindsDestructor
  resource_unfound there st' f' (Ok x) e is finds = absurd is
  resource_unfound there st' f' (Err x) e is finds =
      subst (λ y. StepsItem t ms this st f st' f' (Err y)) (sym is)
      (λ now at. by e now (finds now at))
    where
      by : (y : ItemError) (now : Moment)
          → FindsDestructor ms st.types st.graph (chosen now.scope.core_funcs index) (Err y)
          → Follows t ms st' f' (reads now) (Err y)
      by (item_error.Fault k) now d = undone there now d.1 ∙ ap Err (sym (ap fault_of d.0))
      by item_error.TooMany now d = absurd d
      by item_error.NoMemory now d = tt

  module _ (d : Option CoreDef) (finds : (now : Moment) → PointStands t ms st f now
      → FindsDestructor ms st.types st.graph (chosen now.scope.core_funcs index) (Ok d)) where
    -- what the graph is given
    abbrev x : Resource
    x = record { rep = rep; dtor = d; instance = f.component_instance }

    -- the state in which it is declared
    abbrev after : State
    after = record st { graph = with_resource st.graph x }

    -- the destructor of the reading
    record Found (now : Moment) : Type 0 where
      v : MaybeValue Mark
      is : chosen now.scope.core_funcs index ≡ Some v
      stands : DestructorStands ms st.types st.graph d v

    found_at : (now : Moment) → PointStands t ms st f now → Found now
    unfolding FindsDestructor
    found_at now at = let y = finds now at in record { v = y.0; is = y.1; stands = y.2 }

    module _ (keeps : Keeps (tables_of st) (tables_of after))
        (ordered : HeldResource st.graph x → IsOrdered st.graph → IsOrdered (with_resource st.graph x)) where
      -- the moment in which the log has it
      abbrev logged : (now : Moment) → PointStands t ms st f now → Moment
      logged now at = add_entry now (declared_resource rep (found_at now at).v now.scope.component_instance)

      -- a point stands there
      stands_logged : (now : Moment) (at : PointStands t ms st f now) → PointStands t ms after f (logged now at)
      stands_logged now at =
          let y = found_at now at in
          resource_point t ms st x keeps.graph (dtor_item ms st.types st.graph d y.v y.stands) ordered y.v
          (dtor_means ms st.types st.graph d y.v y.stands) f now refl at

      -- the reading goes on
      read : has_entry t is_resource id ≡ true → (now : Moment) (at : PointStands t ms st f now)
          → read_row t ms now this ≡ Ok (add_resource now id rep (found_at now at).v)
      unfolding read_row read_resource
      read there now at = let y = (found_at now at).is in rw (there, y) refl

      goes : has_entry t is_resource id ≡ true → (now : Moment) (at : PointStands t ms st f now)
          → reads now ≡ Ok (add_resource now id rep (found_at now at).v)
      goes there now at =
          read there now at

      -- and so does the code, where the number is known then
      steps_there : has_entry t is_resource id ≡ true → (r : ResourceIndex)
          → r.0 ≡ length st.graph.imported_resources + length st.graph.resources → (st' : State) (f' : Frame)
          (y : Result ⊤ ItemError)
          → ((i : Identity) → IsResource (with_resource st.graph x) r i
          → Steps t ms (known_as id i) after f st' f' y)
          → StepsItem t ms this st f st' f' y
      unfolding Steps known_as
      steps_there there r key st' f' y registered now at =
          subst (λ z. Follows t ms st' f' z y) (sym (goes there now at))
          (registered (declared (resources_declared now.world))
          (resource_number t ms st x keeps.graph now.world at.world r key) (logged now at) (stands_logged now at))

    -- the same, where the state is said by an equation
    pub resource_here : (st1 : State) → st1 ≡ after → Keeps (tables_of st) (tables_of st1)
        → (HeldResource st.graph x → IsOrdered st.graph → IsOrdered st1.graph) → (now : Moment)
        → PointStands t ms st f now → (u : Moment) × PointStands t ms st1 f u
    resource_here st1 is keeps ordered now at =
        subst (λ (s : State). Keeps (tables_of st) (tables_of s)
        → (HeldResource st.graph x → IsOrdered st.graph → IsOrdered s.graph) → (u : Moment) × PointStands t ms s f u)
        (sym is) (λ k o. (logged k o now at, stands_logged k o now at)) keeps ordered

    pub resource_goes : has_entry t is_resource id ≡ true → (st1 : State) → st1 ≡ after
        → Keeps (tables_of st) (tables_of st1)
        → (HeldResource st.graph x → IsOrdered st.graph → IsOrdered st1.graph) → (r : ResourceIndex)
        → r.0 ≡ length st.graph.imported_resources + length st.graph.resources → (st' : State) (f' : Frame)
        (y : Result ⊤ ItemError)
        → ((i : Identity) → IsResource st1.graph r i → Steps t ms (known_as id i) st1 f st' f' y)
        → StepsItem t ms this st f st' f' y
    resource_goes there st1 is keeps ordered r key st' f' y registered =
        subst (λ (s : State). Keeps (tables_of st) (tables_of s)
        → (HeldResource st.graph x → IsOrdered st.graph → IsOrdered s.graph)
        → ((i : Identity) → IsResource s.graph r i → Steps t ms (known_as id i) s f st' f' y)
        → StepsItem t ms this st f st' f' y)
        (sym is) (λ k o g. steps_there k o there r key st' f' y g) keeps ordered registered
