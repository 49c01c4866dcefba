-- The step of a local item from the step of the item that it stands for.
use Rattle.std.proofs.Common.{◌≡◌, ℕ, List, ap, map, Option, Some, Result, Err, subst, refl}
use Rattle.std.specs.Prelude.{⊤}
use Rattle.std.specs.Result.{IsErrAnd}
use Rattle.std.proofs.lemmas.Option.{none-some}
use Rattle.pc_types.specs.declared.module_record.ModuleRecord.{ModuleRecord}
use Rattle.pc_types.specs.declared.parsed.TypeTable.{TypeTable}
use Rattle.pc_parsed.specs.declared.payload.ItemKind.{ItemKind}
use Rattle.pc_spec_reading.specs.Item.{Item, instantiate_component_item}
use Rattle.pc_spec_reading.specs.Rows.{read_row}
use Rattle.pc_spec_reading.specs.Section.{argument_of}
use Rattle.pc_local.specs.declared.item.LocalInitializer.{LocalInitializer}
use Rattle.pc_local.specs.declared.item.LocalInitializer.TheVariants as local
use Rattle.pc_local.specs.declared.item.Translation.{Translation}
use Rattle.pc_local.specs.Plain.{plain_item}
use Rattle.pc_local.specs.Standing.{ItemStands, Names, stands_component, stands_module, stands_nested, stands_plain}
use Rattle.pc_inline_state.specs.declared.definition.ClosureId.{ClosureId}
use Rattle.pc_inline_state.specs.declared.error.ItemError.{ItemError}
use Rattle.pc_inline_state.specs.declared.frame.Frame.{Frame}
use Rattle.pc_inline_state.specs.declared.state.State.{State}
use Rattle.pc_inline_state.specs.declared.error.ItemError.TheVariants as item_error
use Rattle.pc_inline_state.specs.declared.error.ItemFault.TheVariants as item_fault
use Rattle.pc_inline_state.specs.Points.{Follows, Steps, StepsItem}
use Rattle.pc_inline_state.specs.Refused.{LacksRoom}
use Rattle.pc_inline_items.specs.StepsLocal.{StepsLocal}
use Rattle.pc_inline_canon.proofs.PassedLemmas.{passed_lacking, passed_unfed}
use Rattle.pc_inline_canon.proofs.StepLemmas.{steps_stuck}

-- one of two that are Some
one_item : (x : Option Item) (i j : Item) → x ≡ Some i → x ≡ Some j → i ≡ j
one_item x i j p q = cc

-- a local item that is an item by itself stands for no other
pub plain_is : (bodies : List Translation) (names : Names) (l : LocalInitializer) (i j : Item) → plain_item l ≡ Some i
    → ItemStands bodies names l j → i ≡ j
unfolding plain_item
plain_is bodies names l i j is (stands_plain same) = one_item (plain_item l) i j is same
plain_is bodies names l i j is (stands_module read) = absurd (none-some i is)
plain_is bodies names l i j is (stands_component read) = absurd (none-some i is)
plain_is bodies names l i j is (stands_nested at items exports given) = absurd (none-some i is)

module _ (t : TypeTable) (ms : List ModuleRecord) (k : Option ClosureId) (st : State) (f : Frame) (st' : State)
    (f' : Frame) (r : Result ⊤ ItemError) where
  -- a local item that is an item by itself
  pub local_plain : (l : LocalInitializer) (i : Item) → plain_item l ≡ Some i → StepsItem t ms i st f st' f' r
      → StepsLocal t ms k l st f st' f' r
  unfolding StepsLocal Steps
  local_plain l i is h names j stands now at enclosed =
      subst (λ x. Follows t ms st' f' (read_row t ms now x) r) (plain_is st.bodies.now names l i j is stands)
      (h now at)

  -- want of memory, which was handed on
  pub local_unfed : (l : LocalInitializer) → IsErrAnd r (λ x. x ≡ item_error.NoMemory)
      → StepsLocal t ms k l st f st' f' r
  unfolding StepsLocal Steps
  local_unfed l is names i stands now at enclosed =
      passed_unfed t ms (λ now. read_row t ms now i) st f st' f' r is now at

  -- want of room likewise
  pub local_crowded : (l : LocalInitializer) (e : ItemError) → IsErrAnd r (λ x. x ≡ e) → LacksRoom st' e
      → StepsLocal t ms k l st f st' f' r
  unfolding StepsLocal Steps
  local_crowded l e is lacks names i stands now at enclosed =
      passed_lacking t ms (λ now. read_row t ms now i) st f st' f' r e is lacks now at

-- the instantiation of a component has no row
pub local_instantiated : (t : TypeTable) (ms : List ModuleRecord) (k : Option ClosureId) (st : State) (f : Frame)
    (st' : State) (f' : Frame) (l : LocalInitializer) (component : ℕ) (args : List (List ℕ × ItemKind × ℕ)) (ty : ℕ)
    → l ≡ local.ComponentInstantiate component args ty
    → StepsLocal t ms k l st f st' f' (Err (item_error.Fault item_fault.Invalid))
unfolding plain_item read_row
local_instantiated t ms k st f st' f' l component args ty is =
    local_plain t ms k st f st' f' (Err (item_error.Fault item_fault.Invalid)) l
    (instantiate_component_item component (map argument_of args) ty) (ap plain_item is)
    (steps_stuck t ms (λ now. read_row t ms now (instantiate_component_item component (map argument_of args) ty))
    st f st' f' item_fault.Invalid
    (λ now at. refl))
