-- Errors that say no more than that there was no room, or a fault with its cause.
use Rattle.std.proofs.Common.{◌≡◌, ◌≤◌, ℕ, length, Ok, Err, refl, sym, subst}
use Rattle.std.specs.Prelude.{IfErr, Result}
use Rattle.std.specs.Result.{IsErrAnd}
use Rattle.pc_types_lists.specs.Types.{IsFull}
use Rattle.pc_types.specs.declared.error.TypeError.{TypeError}
use Rattle.pc_types.specs.declared.error.TypeError.TheVariants as type_error
use Rattle.pc_dfg.specs.declared.push_error.PushError.{PushError}
use Rattle.pc_dfg.specs.declared.push_error.PushError.TheVariants as push_error
use Rattle.pc_inline_state.specs.declared.error.ItemError.{ItemError}
use Rattle.pc_inline_state.specs.declared.error.ItemError.TheVariants as item_error
use Rattle.pc_inline_state.specs.declared.error.ItemFault.{ItemFault}
use Rattle.pc_inline_state.specs.declared.error.ItemFault.TheVariants as item_fault
use Rattle.pc_inline_state.specs.declared.state.State.{State}
use Rattle.pc_inline_state.specs.Faults.{of_push_error, of_type_error}
use Rattle.pc_inline_state.specs.Points.{IsFullSomewhere, full_closures, full_cores, full_definitions, full_exports}
use Rattle.pc_inline_state.specs.Points.{full_types}
use Rattle.pc_inline_state.specs.Refused.{LacksEntry, LacksRoom, LacksRoomOr}
use Rattle.pc_inline_state.specs.Tables.{tables_of}

-- what holds of the error that was passed up
if_err : {T E : Type 0} (r : Result T E) (R P : E → Type 0) → IsErrAnd r R → ((e : E) → R e → P e) → IfErr r P
if_err (Ok x) R P h f = absurd h
if_err (Err e) R P h f = f e h

type_lacks_at : (st : State) (cause : Type 0) (x : TypeError) (e : ItemError) → e ≡ of_type_error x
    → (x ≡ type_error.BadNumber → cause) → (x ≡ type_error.TooMany → IsFull st.types)
    → LacksRoomOr item_fault.BadType cause st e
unfolding LacksRoomOr
type_lacks_at st cause type_error.BadNumber e is bad full =
    subst (LacksRoomOr item_fault.BadType cause st) (sym is) (refl, bad refl)
type_lacks_at st cause type_error.TooMany e is bad full =
    subst (LacksRoomOr item_fault.BadType cause st) (sym is) (full_types (full refl))
type_lacks_at st cause type_error.NoMemory e is bad full =
    subst (LacksRoomOr item_fault.BadType cause st) (sym is) tt

push_lacks_at : (st : State) (x : PushError) (e : ItemError) → e ≡ of_push_error x
    → (x ≡ push_error.TooMany → IsFullSomewhere (tables_of st)) → LacksRoom st e
unfolding LacksRoom
push_lacks_at st push_error.TooMany e is full = subst (LacksRoom st) (sym is) (full refl)
push_lacks_at st push_error.NoMemory e is full = subst (LacksRoom st) (sym is) tt

cause_lacks_at : (k : ItemFault) (P Q : Type 0) (st : State) (e : ItemError) → (P → Q) → LacksRoomOr k P st e
    → LacksRoomOr k Q st e
unfolding LacksRoomOr
cause_lacks_at k P Q st (item_error.Fault j) f h = (h.0, f h.1)
cause_lacks_at k P Q st item_error.TooMany f h = h
cause_lacks_at k P Q st item_error.NoMemory f h = h

free_lacks_at : (k : ItemFault) (P : Type 0) (st : State) (e : ItemError) → (P → ⊥) → LacksRoomOr k P st e
    → LacksRoom st e
unfolding LacksRoomOr LacksRoom
free_lacks_at k P st (item_error.Fault j) free h = free h.1
free_lacks_at k P st item_error.TooMany free h = h
free_lacks_at k P st item_error.NoMemory free h = h

typed_lacks_at : (st : State) (x : TypeError) (e : ItemError) → e ≡ of_type_error x → (x ≡ type_error.BadNumber → ⊥)
    → (x ≡ type_error.TooMany → IsFull st.types) → LacksRoom st e
unfolding LacksRoom
typed_lacks_at st type_error.BadNumber e is bad full = absurd (bad refl)
typed_lacks_at st type_error.TooMany e is bad full = subst (LacksRoom st) (sym is) (full_types (full refl))
typed_lacks_at st type_error.NoMemory e is bad full = subst (LacksRoom st) (sym is) tt

module _ {T : Type 0} (r : Result T ItemError) (st : State) where
  -- an error of the types builder that is never for want of a number
  pub typed_lacks : (x : TypeError) → IsErrAnd r (λ e. e ≡ of_type_error x) → (x ≡ type_error.BadNumber → ⊥)
      → (x ≡ type_error.TooMany → IsFull st.types) → IfErr r (LacksRoom st)
  typed_lacks x is bad full =
      if_err r (λ e. e ≡ of_type_error x) (LacksRoom st) is (λ e same. typed_lacks_at st x e same bad full)

  -- an error of the types builder
  pub type_lacks : (cause : Type 0) (x : TypeError) → IsErrAnd r (λ e. e ≡ of_type_error x)
      → (x ≡ type_error.BadNumber → cause) → (x ≡ type_error.TooMany → IsFull st.types)
      → IfErr r (LacksRoomOr item_fault.BadType cause st)
  type_lacks cause x is bad full =
      if_err r (λ e. e ≡ of_type_error x) (LacksRoomOr item_fault.BadType cause st) is
      (λ e same. type_lacks_at st cause x e same bad full)

  -- an error of the graph
  pub push_lacks : (x : PushError) → IsErrAnd r (λ e. e ≡ of_push_error x)
      → (x ≡ push_error.TooMany → IsFullSomewhere (tables_of st)) → IfErr r (LacksRoom st)
  push_lacks x is full =
      if_err r (λ e. e ≡ of_push_error x) (LacksRoom st) is (λ e same. push_lacks_at st x e same full)

  -- want of memory
  pub memory_lacks : IsErrAnd r (λ e. e ≡ item_error.NoMemory) → IfErr r (LacksRoom st)
  unfolding LacksRoom
  memory_lacks is =
      if_err r (λ e. e ≡ item_error.NoMemory) (LacksRoom st) is (λ e same. subst (LacksRoom st) (sym same) tt)

  -- an error that is handed on
  pub handed_lacks : (x : ItemError) → IsErrAnd r (λ e. e ≡ x) → LacksRoom st x → IfErr r (LacksRoom st)
  handed_lacks x is h = if_err r (λ e. e ≡ x) (LacksRoom st) is (λ e same. subst (LacksRoom st) (sym same) h)

  -- one that is handed on with another cause
  pub cause_lacks : (k : ItemFault) (P Q : Type 0) (x : ItemError) → IsErrAnd r (λ e. e ≡ x) → (P → Q)
      → LacksRoomOr k P st x → IfErr r (LacksRoomOr k Q st)
  cause_lacks k P Q x is f h =
      if_err r (λ e. e ≡ x) (LacksRoomOr k Q st) is
      (λ e same. subst (LacksRoomOr k Q st) (sym same) (cause_lacks_at k P Q st x f h))

  -- an error that is handed on, whose fault has no cause
  pub free_lacks : (k : ItemFault) (P : Type 0) (x : ItemError) → IsErrAnd r (λ e. e ≡ x) → (P → ⊥)
      → LacksRoomOr k P st x → IfErr r (LacksRoom st)
  free_lacks k P x is free h =
      if_err r (λ e. e ≡ x) (LacksRoom st) is
      (λ e same. subst (LacksRoom st) (sym same) (free_lacks_at k P st x free h))

-- a table lacks room for one entry more for want of memory
pub no_memory_lacks : {T : Type 0} (r : Result T ItemError) (n : ℕ) → IsErrAnd r (λ e. e ≡ item_error.NoMemory)
    → IfErr r (LacksEntry n)
unfolding LacksEntry
no_memory_lacks r n is =
    if_err r (λ e. e ≡ item_error.NoMemory) (LacksEntry n) is (λ e same. subst (LacksEntry n) (sym same) tt)

entry_lacks_at : (st : State) (n : ℕ) (e : ItemError) → (4294967295 ≤ n → IsFullSomewhere (tables_of st))
    → LacksEntry n e → LacksRoom st e
unfolding LacksEntry LacksRoom
entry_lacks_at st n (item_error.Fault k) full h = h
entry_lacks_at st n item_error.TooMany full h = full h
entry_lacks_at st n item_error.NoMemory full h = h

module _ {T : Type 0} (r : Result T ItemError) (st : State) where
  -- a table of a state lacks room for one entry more
  entry_lacks : (n : ℕ) → (4294967295 ≤ n → IsFullSomewhere (tables_of st)) → IfErr r (LacksEntry n)
      → IfErr r (LacksRoom st)
  entry_lacks n full h = by r h
    where
      by : (s : Result T ItemError) → IfErr s (LacksEntry n) → IfErr s (LacksRoom st)
      by (Ok x) h = tt
      by (Err e) h = entry_lacks_at st n e full h

  -- that of core items
  pub cores_lack : IfErr r (LacksEntry (length st.cores)) → IfErr r (LacksRoom st)
  cores_lack = entry_lacks (length st.cores) full_cores

  -- that of definitions
  pub definitions_lack : IfErr r (LacksEntry (length st.definitions)) → IfErr r (LacksRoom st)
  definitions_lack = entry_lacks (length st.definitions) full_definitions

  -- that of what components captured
  pub closures_lack : IfErr r (LacksEntry (length st.closures)) → IfErr r (LacksRoom st)
  closures_lack = entry_lacks (length st.closures) full_closures

  -- and that of what instances export
  pub instances_lack : IfErr r (LacksEntry (length st.instances)) → IfErr r (LacksRoom st)
  instances_lack = entry_lacks (length st.instances) full_exports
