-- The steps of local items that are builtins, whatever items they stand for.
use Rattle.std.proofs.Common.{◌≡◌, ℕ, List, Option, Some, Result, ap, subst, sym, ◌∙◌}
use Rattle.std.specs.Prelude.{⊤}
use Rattle.std.proofs.lemmas.Option.{none-some}
use Rattle.pc_types.specs.declared.module_record.ModuleRecord.{ModuleRecord}
use Rattle.pc_types.specs.declared.parsed.TypeTable.{TypeTable}
use Rattle.pc_types.specs.declared.parsed.ValType.{ValType}
use Rattle.pc_parsed.specs.declared.canon.CanonItem.{CanonItem}
use Rattle.pc_parsed.specs.declared.canon.CanonOption.{CanonOption}
use Rattle.pc_spec_reading.specs.Canonical.{canonical_item}
use Rattle.pc_spec_reading.specs.Item.{Item, builtin_item, error_context_item, new_thread_item, task_return_item}
use Rattle.pc_spec_reading.specs.Item.{waitable_item}
use Rattle.pc_local.specs.declared.item.LocalInitializer.{LocalInitializer}
use Rattle.pc_local.specs.declared.item.LocalInitializer.TheVariants as local
use Rattle.pc_local.specs.declared.item.Translation.{Translation}
use Rattle.pc_local.specs.Plain as plain
use Rattle.pc_local.specs.Plain.{context_of, plain_item}
use Rattle.pc_local.specs.Standing.{ItemStands, Names, stands_component, stands_module, stands_nested, stands_plain}
use Rattle.pc_inline_state.specs.declared.definition.ClosureId.{ClosureId}
use Rattle.pc_inline_state.specs.declared.error.ItemError.{ItemError}
use Rattle.pc_inline_state.specs.declared.frame.Frame.{Frame}
use Rattle.pc_inline_state.specs.declared.state.State.{State}
use Rattle.pc_inline_state.specs.Points.{Steps, StepsItem}
use Rattle.pc_inline_builtins.specs.Written.{if_builtin}
use Rattle.pc_inline_items.specs.StepsLocal.{StepsLocal}
use Rattle.pc_inline_items.proofs.LocalLemmas.{local_plain}

-- a local item that stands for items by itself alone
abbrev IsPlain : LocalInitializer → Type 0
IsPlain (local.AliasModule v) = ⊥
IsPlain (local.AliasComponent v) = ⊥
IsPlain (local.ComponentStatic index vars) = ⊥
IsPlain l = Unit {0}

-- stands for the one that it is
plain_of : (bodies : List Translation) (names : Names) (l : LocalInitializer) (j : Item) → IsPlain l
    → ItemStands bodies names l j → plain_item l ≡ Some j
plain_of bodies names l j is (stands_plain same) = same
plain_of bodies names l j is (stands_module read) = absurd is
plain_of bodies names l j is (stands_component read) = absurd is
plain_of bodies names l j is (stands_nested at items exports given) = absurd is

-- a builtin is one of those that are stepped together, and so are those that wait, and those on error contexts
builtin_among : (x : Option Item) (i : Item) → plain.if_builtin x ≡ Some i → if_builtin x ≡ Some i
builtin_among (Some (builtin_item k s operands)) i is = is
builtin_among x i is = absurd (none-some i is)

waitable_among : (x : Option Item) (i : Item) → plain.if_waitable x ≡ Some i → if_builtin x ≡ Some i
waitable_among (Some (waitable_item k s memory)) i is = is
waitable_among x i is = absurd (none-some i is)

contexts_among : (x : Option Item) (i : Item) → plain.if_error_context x ≡ Some i → if_builtin x ≡ Some i
contexts_among (Some (error_context_item k s opts)) i is = is
contexts_among x i is = absurd (none-some i is)

module _ (t : TypeTable) (ms : List ModuleRecord) (c : Option ClosureId) (st : State) (f : Frame) (st' : State)
    (f' : Frame) (r : Result ⊤ ItemError) where
  -- a local item whose step is that of each item that it may be
  each_local : (l : LocalInitializer) → IsPlain l
      → ((i : Item) → plain_item l ≡ Some i → StepsItem t ms i st f st' f' r)
      → StepsLocal t ms c l st f st' f' r
  unfolding StepsLocal Steps
  each_local l plain h names i stands now at enclosed = h i (plain_of st.bodies.now names l i plain stands) now at

module _ (t : TypeTable) (ms : List ModuleRecord) (c : Option ClosureId) (st : State) (f : Frame) (st' : State)
    (f' : Frame) (r : Result ⊤ ItemError) {l : LocalInitializer} where
  module _ {x : CanonItem} where
    -- a builtin
    pub builtin_local : l ≡ local.Builtin x
        → ((i : Item) → if_builtin (canonical_item x) ≡ Some i → StepsItem t ms i st f st' f' r)
        → StepsLocal t ms c l st f st' f' r
    unfolding plain_item
    builtin_local is h =
        each_local t ms c st f st' f' r l (subst IsPlain (sym is) tt)
        (λ i same. h i (builtin_among (canonical_item x) i (sym (ap plain_item is) ∙ same)))

    -- a wait or a poll
    pub waitable_local : l ≡ local.WaitableSet x
        → ((i : Item) → if_builtin (canonical_item x) ≡ Some i → StepsItem t ms i st f st' f' r)
        → StepsLocal t ms c l st f st' f' r
    unfolding plain_item
    waitable_local is h =
        each_local t ms c st f st' f' r l (subst IsPlain (sym is) tt)
        (λ i same. h i (waitable_among (canonical_item x) i (sym (ap plain_item is) ∙ same)))

    -- one on error contexts
    pub error_context_local : l ≡ local.ErrorContext x
        → ((i : Item) → if_builtin (canonical_item x) ≡ Some i → StepsItem t ms i st f st' f' r)
        → StepsLocal t ms c l st f st' f' r
    unfolding plain_item
    error_context_local is h =
        each_local t ms c st f st' f' r l (subst IsPlain (sym is) tt)
        (λ i same. h i (contexts_among (canonical_item x) i (sym (ap plain_item is) ∙ same)))

    -- a context slot
    pub context_local : l ≡ local.Context x
        → ((i : Item) → context_of x ≡ Some i → StepsItem t ms i st f st' f' r)
        → StepsLocal t ms c l st f st' f' r
    unfolding plain_item
    context_local is h =
        each_local t ms c st f st' f' r l (subst IsPlain (sym is) tt) (λ i same. h i (sym (ap plain_item is) ∙ same))

  -- the end of a task
  pub task_return_local : {core : ℕ} {result : Option ValType} {opts : List CanonOption}
      → l ≡ local.TaskReturn core result opts
      → StepsItem t ms (task_return_item core result opts) st f st' f' r → StepsLocal t ms c l st f st' f' r
  unfolding plain_item
  task_return_local {core = core} {result = result} {opts = opts} is =
      local_plain t ms c st f st' f' r l (task_return_item core result opts) (ap plain_item is)

  -- a new thread
  pub new_thread_local : {core start table : ℕ} → l ≡ local.ThreadNewIndirect core start table
      → StepsItem t ms (new_thread_item core start table) st f st' f' r → StepsLocal t ms c l st f st' f' r
  unfolding plain_item
  new_thread_local {core = core} {start = start} {table = table} is =
      local_plain t ms c st f st' f' r l (new_thread_item core start table) (ap plain_item is)
