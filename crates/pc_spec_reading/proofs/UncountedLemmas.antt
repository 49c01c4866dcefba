-- A reading with a total is past, or the one without but for it.
use Rattle.std.proofs.Common.{◌≡◌, ◌⊎◌, inl, inr, ◌+◌, ℕ, zero, suc, Bool, true, false, List, [], ◌∷◌, Option, None, Some}
use Rattle.std.proofs.Common.{Result, Ok, Err, refl, sym, ap, subst, ◌∙◌, if◌then◌else◌}
use Rattle.std.specs.Prelude.{nat_lt, option_map}
use Rattle.std.proofs.lemmas.Option.{none-some, same_Some}
use Rattle.pc_types.specs.declared.module_record.ModuleRecord.{ModuleRecord}
use Rattle.pc_types.specs.declared.parsed.TypeTable.{TypeTable}
use Rattle.pc_types.specs.TypeTree.{Identity}
use Rattle.pc_parsed.specs.declared.payload.Payload.{Payload}
use Rattle.pc_spec_reading.specs.Components.{Call, read_call}
use Rattle.pc_spec_reading.specs.Item
use Rattle.pc_spec_reading.specs.Item.{ArgumentOf, ExportOf, Items, and_item, no_items, exports_in}
use Rattle.pc_spec_reading.specs.Items.{exported_value}
use Rattle.pc_spec_reading.specs.Nest.{root_of}
use Rattle.pc_spec_reading.specs.Nodes.{Finish, Reached, at_export, passed, reached, refused}
use Rattle.pc_spec_reading.specs.Outcome.{Fault, Outcome, and_then, at_item, done, fault, over, past}
use Rattle.pc_spec_reading.specs.Reading.{Enter, Reading, Return, beginning, begun_in, enter_at, exporting}
use Rattle.pc_spec_reading.specs.Reading.{finishing, instantiate, prepare_all, read_body, read_child, read_item}
use Rattle.pc_spec_reading.specs.Reading.{read_items, read_root, reading, reading_of, returning, root_exports}
use Rattle.pc_spec_reading.specs.Rows.{read_row}
use Rattle.pc_spec_reading.specs.Scope.{Moment, Scope}
use Rattle.pc_spec_reading.specs.Section.{modules_of}
use Rattle.pc_spec_reading.specs.Total.{body_weight, prepared_weight}
use Rattle.pc_spec_reading.specs.Uncounted.{bare, bare_world, uncounted}
use Rattle.pc_spec_reading.specs.Value.{Component, NamedValue, Value, closed, outermost}
use Rattle.pc_spec_reading.specs.World.{World, grown, has_room, new_world}
use Rattle.pc_spec_reading.proofs.UncountedRows.{bare_result, prepare_bare, return_bare, row_bare}
use Rattle.pc_spec_reading.proofs.UncountedNodes.{ReachesAs, value_as}

-- what is done is done with something else
abbrev with_done : {A : Type 0} → (A → A) → Outcome A → Outcome A
with_done f o = and_then o (λ x. done (f x))

-- the total is past, or the other is the same with f of what is done
abbrev EndsAs : {A : Type 0} → (A → A) → Outcome A → Outcome A → Type 0
EndsAs f o other = (o ≡ past) ⊎ (other ≡ with_done f o)

-- what goes on
then_as : {A B : Type 0} (f : A → A) (h : B → B) (o other : Outcome A) (go more : A → Outcome B) → EndsAs f o other
    → ((x : A) → EndsAs h (go x) (more (f x))) → EndsAs h (and_then o go) (and_then other more)
then_as f h (done x) other go more (inl is) each = absurd (let no : ⊥ = cc in no)
then_as f h (done x) other go more (inr is) each =
    subst (λ o. EndsAs h (go x) (and_then o more)) (sym is) (each x)
then_as f h (fault k p) other go more (inl is) each = absurd (let no : ⊥ = cc in no)
then_as f h (fault k p) other go more (inr is) each = inr (ap (λ o. and_then o more) is)
then_as f h over other go more (inl is) each = absurd (let no : ⊥ = cc in no)
then_as f h over other go more (inr is) each = inr (ap (λ o. and_then o more) is)
then_as f h past other go more is each = inl refl

-- what goes on from the same
then_both : {A B : Type 0} (h : B → B) (o : Outcome A) (go more : A → Outcome B)
    → ((x : A) → EndsAs h (go x) (more x)) → EndsAs h (and_then o go) (and_then o more)
then_both h (done x) go more each = each x
then_both h (fault k p) go more each = inr refl
then_both h over go more each = inr refl
then_both h past go more each = inl refl

-- an item at its place
item_as : (c n : ℕ) (r other : Result Moment Fault) → other ≡ bare_result r
    → EndsAs bare (at_item c n r) (at_item c n other)
item_as c n (Ok now) other is = inr (ap (at_item c n) is)
item_as c n (Err f) other is = inr (ap (at_item c n) is)

-- a component instance begins
begins_as : {A : Type 0} (h : A → A) (limit weight : ℕ) (w : World) (go more : World → Outcome A)
    → ((v : World) → EndsAs h (go v) (more (bare_world v)))
    → EndsAs h (beginning limit weight w go) (beginning limit weight (bare_world w) more)
begins_as {A} h limit weight w go more each = by (nat_lt w.begun limit) (has_room (grown w.total (1 + weight)))
  where
    by : (a b : Bool)
        → EndsAs h (if a then (if b then go (record w { begun = w.begun + 1; total = grown w.total (1 + weight) })
        else past) else over)
        (if a then more (bare_world (record w { begun = w.begun + 1; total = grown w.total (1 + weight) })) else over)
    by true true = each (record w { begun = w.begun + 1; total = grown w.total (1 + weight) })
    by true false = inl refl
    by false b = inr refl

-- what a child gives back, where the total isn't counted
abbrev bare_return : Return → Return
bare_return r = record r { world = bare_world r.world }

-- the root's nodes likewise
abbrev bare_finish : Finish → Finish
bare_finish f = (f.0, bare_world f.1)

-- a reading likewise
abbrev bare_reading : Reading → Reading
bare_reading r = record r { total = None }

module _ (t : TypeTable) (ms : List ModuleRecord) where
  -- a child
  abbrev ChildAs : Enter → Type 0
  ChildAs enter = (c : Call) (known : List (ℕ × Identity)) (w : World)
      → EndsAs bare_return (enter c known w) (enter c known (bare_world w))

  module _ (enter : Enter) (child : ChildAs enter) where
    -- an instantiation
    instance_as : (n component : ℕ) (args : List ArgumentOf) (ty : ℕ) (now : Moment)
        → EndsAs bare (instantiate t ms enter n component args ty now)
        (instantiate t ms enter n component args ty (bare now))
    unfolding instantiate
    instance_as n component args ty now =
        then_both bare (at_item now.scope.component_instance n (read_call t now.scope component args ty)) _ _ (λ c.
        then_as bare_return bare _ _ _ _ (child c now.scope.known now.world) (λ r.
        item_as now.scope.component_instance n _ _ (return_bare t (record now { world = r.world }) r.exports ty)))

    row_as : (n : ℕ) (i : Item.Item) (now : Moment)
        → EndsAs bare (at_item now.scope.component_instance n (read_row t ms now i))
        (at_item now.scope.component_instance n (read_row t ms (bare now) i))
    row_as n i now = item_as now.scope.component_instance n _ _ (row_bare t ms now i)

    -- an item
    one_as : (n : ℕ) (i : Item.Item) (now : Moment)
        → EndsAs bare (read_item t ms enter n i now) (read_item t ms enter n i (bare now))
    unfolding read_item
    one_as n (Item.import_item a b) now = row_as n (Item.import_item a b) now
    one_as n Item.intrinsics_import now = row_as n Item.intrinsics_import now
    one_as n (Item.resource_item a b d) now = row_as n (Item.resource_item a b d) now
    one_as n (Item.lift_item a b d e) now = row_as n (Item.lift_item a b d e) now
    one_as n (Item.lower_item a b d e) now = row_as n (Item.lower_item a b d e) now
    one_as n (Item.builtin_item a b d) now = row_as n (Item.builtin_item a b d) now
    one_as n (Item.waitable_item a b d) now = row_as n (Item.waitable_item a b d) now
    one_as n (Item.task_return_item a b d) now = row_as n (Item.task_return_item a b d) now
    one_as n (Item.error_context_item a b d) now = row_as n (Item.error_context_item a b d) now
    one_as n (Item.context_item a b d) now = row_as n (Item.context_item a b d) now
    one_as n (Item.new_thread_item a b d) now = row_as n (Item.new_thread_item a b d) now
    one_as n (Item.module_item a b) now = row_as n (Item.module_item a b) now
    one_as n (Item.instantiate_module_item a b) now = row_as n (Item.instantiate_module_item a b) now
    one_as n (Item.core_exports_item a) now = row_as n (Item.core_exports_item a) now
    one_as n (Item.component_item a) now = row_as n (Item.component_item a) now
    one_as n (Item.instantiate_component_item a b d) now = instance_as n a b d now
    one_as n (Item.component_exports_item a b) now = row_as n (Item.component_exports_item a b) now
    one_as n (Item.core_alias_item a b d) now = row_as n (Item.core_alias_item a b d) now
    one_as n (Item.alias_item a b d) now = row_as n (Item.alias_item a b d) now
    one_as n (Item.outer_item a b d) now = row_as n (Item.outer_item a b d) now
    one_as n (Item.export_item a) now = row_as n (Item.export_item a) now

    -- items
    items_as : (n : ℕ) (is : Items) (now : Moment)
        → EndsAs bare (read_items t ms enter n is now) (read_items t ms enter n is (bare now))
    unfolding read_items
    items_as n no_items now = inr refl
    items_as n (and_item i is) now = then_as bare bare _ _ _ _ (one_as n i now) (items_as (n + 1) is)

  -- the imports of the root
  prepare_as : (n : ℕ) (is : Items) (now : Moment)
      → EndsAs bare (prepare_all t n is now) (prepare_all t n is (bare now))
  unfolding prepare_all
  prepare_as n no_items now = inr refl
  prepare_as n (and_item (Item.import_item name e) is) now =
      then_as bare bare _ _ _ _ (item_as now.scope.component_instance n _ _ (prepare_bare t name e now))
      (prepare_as (n + 1) is)
  prepare_as n (and_item Item.intrinsics_import is) now = prepare_as (n + 1) is now
  prepare_as n (and_item (Item.resource_item a b d) is) now = prepare_as (n + 1) is now
  prepare_as n (and_item (Item.lift_item a b d e) is) now = prepare_as (n + 1) is now
  prepare_as n (and_item (Item.lower_item a b d e) is) now = prepare_as (n + 1) is now
  prepare_as n (and_item (Item.builtin_item a b d) is) now = prepare_as (n + 1) is now
  prepare_as n (and_item (Item.waitable_item a b d) is) now = prepare_as (n + 1) is now
  prepare_as n (and_item (Item.task_return_item a b d) is) now = prepare_as (n + 1) is now
  prepare_as n (and_item (Item.error_context_item a b d) is) now = prepare_as (n + 1) is now
  prepare_as n (and_item (Item.context_item a b d) is) now = prepare_as (n + 1) is now
  prepare_as n (and_item (Item.new_thread_item a b d) is) now = prepare_as (n + 1) is now
  prepare_as n (and_item (Item.module_item a b) is) now = prepare_as (n + 1) is now
  prepare_as n (and_item (Item.instantiate_module_item a b) is) now = prepare_as (n + 1) is now
  prepare_as n (and_item (Item.core_exports_item a) is) now = prepare_as (n + 1) is now
  prepare_as n (and_item (Item.component_item a) is) now = prepare_as (n + 1) is now
  prepare_as n (and_item (Item.instantiate_component_item a b d) is) now = prepare_as (n + 1) is now
  prepare_as n (and_item (Item.component_exports_item a b) is) now = prepare_as (n + 1) is now
  prepare_as n (and_item (Item.core_alias_item a b d) is) now = prepare_as (n + 1) is now
  prepare_as n (and_item (Item.alias_item a b d) is) now = prepare_as (n + 1) is now
  prepare_as n (and_item (Item.outer_item a b d) is) now = prepare_as (n + 1) is now
  prepare_as n (and_item (Item.export_item a) is) now = prepare_as (n + 1) is now

  module _ (limit : ℕ) where
    -- a body
    body_as : (enter : Enter) → ChildAs enter → (k : Component) (args : List (List ℕ × Value))
        (known : List (ℕ × Identity)) (w : World)
        → EndsAs bare_return (read_child t ms limit enter k args known w)
        (read_child t ms limit enter k args known (bare_world w))
    unfolding read_body
    body_as enter child (closed body chain) args known w =
        let read : World → Outcome Moment = λ v. read_items t ms enter 0 body (begun_in args known chain w.begun v) in
        begins_as bare_return limit (body_weight t ms body) w (λ v. and_then (read v) (returning t body))
        (λ v. and_then (read v) (returning t body)) (λ v.
        then_as bare bare_return (read v) (read (bare_world v)) (returning t body) (returning t body)
        (items_as enter child 0 body (begun_in args known chain w.begun v)) (λ now. inr refl))

    -- a child, however deep
    child_as : (levels : ℕ) → ChildAs (enter_at t ms limit levels)
    unfolding enter_at
    child_as zero c known w = inr refl
    child_as (suc levels) c known w =
        body_as (enter_at t ms limit levels) (child_as levels) c.component c.arguments known w

    -- the root
    root_as : (n : ℕ) (body : Items)
        → EndsAs bare (read_root t ms limit (Some n) body) (read_root t ms limit None body)
    unfolding read_root
    root_as n body =
        let first : World → Outcome Moment = λ v. prepare_all t 0 body (begun_in [] [] outermost 0 v) in
        let rest = read_items t ms (enter_at t ms limit limit) 0 body in
        begins_as bare limit (body_weight t ms body + prepared_weight t ms body) (new_world (Some n))
        (λ v. and_then (first v) rest) (λ v. and_then (first v) rest) (λ v.
        then_as bare bare (first v) (first (bare_world v)) rest rest (prepare_as 0 body (begun_in [] [] outermost 0 v))
        (items_as (enter_at t ms limit limit) (child_as limit) 0 body))

  -- an export of the root
  export_as : {A : Type 0} (n : ℕ) (r other : Reached A) (go : A → World → Outcome Finish) → ReachesAs r other
      → ((x : A) (w : World) → EndsAs bare_finish (go x w) (go x (bare_world w)))
      → EndsAs bare_finish (at_export n r go) (at_export n other go)
  export_as n (reached x w) other go (inl is) each = absurd (let no : ⊥ = cc in no)
  export_as n (reached x w) other go (inr is) each =
      subst (λ o. EndsAs bare_finish (go x w) (at_export n o go)) (sym is) (each x w)
  export_as n (refused f) other go (inl is) each = absurd (let no : ⊥ = cc in no)
  export_as n (refused f) other go (inr is) each = inr (ap (λ o. at_export n o go) is)
  export_as n passed other go is each = inl refl

  exporting_as : (n : ℕ) (o : Option NamedValue) (w : World) (skip other : Outcome Finish)
      (go : ℕ → World → Outcome Finish) → EndsAs bare_finish skip other
      → ((m : ℕ) (v : World) → EndsAs bare_finish (go m v) (go m (bare_world v)))
      → EndsAs bare_finish (exporting n o w skip go) (exporting n o (bare_world w) other go)
  exporting_as n None w skip other go is each = is
  exporting_as n (Some e) w skip other go is each =
      export_as n _ _ _ (value_as e.value w) (λ x v.
      then_as bare_finish bare_finish _ _ _ _ (each (n + 1) v) (λ f. inr refl))

  exports_as : (s : Scope) (es : List ExportOf) (n : ℕ) (w : World)
      → EndsAs bare_finish (root_exports t s es n w) (root_exports t s es n (bare_world w))
  unfolding root_exports
  exports_as s [] n w = inr refl
  exports_as s (e ∷ es) n w =
      exporting_as n (exported_value t s e) w _ _ (root_exports t s es) (exports_as s es n w) (exports_as s es)

  -- the whole
  pub reading_as : (limit n : ℕ) (body : Items)
      → (reading_of t ms limit (Some n) body ≡ past)
      ⊎ (reading_of t ms limit None body ≡ uncounted (reading_of t ms limit (Some n) body))
  unfolding reading_of finishing
  reading_as limit n body =
      then_as bare bare_reading _ _ _ _ (root_as limit n body) (λ now.
      then_as bare_finish bare_reading _ _ _ _ (exports_as now.scope (exports_in body) 0 now.world) (λ f. inr refl))

-- a reading with a total is past, or the one without but for it
pub counted_or_past : (t : TypeTable) (exposed : Option (List ℕ)) (limit n : ℕ) (ps : List Payload)
    (o : Outcome Reading) → reading t exposed limit (Some n) ps ≡ Some o
    → (o ≡ past) ⊎ (reading t exposed limit None ps ≡ Some (uncounted o))
unfolding reading
counted_or_past t exposed limit n ps o h = by (root_of exposed ps) h
  where
    here : (a b : Outcome Reading) → (a ≡ past) ⊎ (b ≡ uncounted a) → a ≡ o → (o ≡ past) ⊎ (Some b ≡ Some (uncounted o))
    here a b (inl is) same = inl (sym same ∙ is)
    here a b (inr is) same = inr (ap Some (is ∙ ap uncounted same))

    by : (r : Option Items) → option_map (reading_of t (modules_of ps) limit (Some n)) r ≡ Some o
        → (o ≡ past) ⊎ (option_map (reading_of t (modules_of ps) limit None) r ≡ Some (uncounted o))
    by None is = absurd (none-some o is)
    by (Some body) is =
        here (reading_of t (modules_of ps) limit (Some n) body)
        (reading_of t (modules_of ps) limit None body)
        (reading_as t (modules_of ps) limit n body) (same_Some _ o is)
