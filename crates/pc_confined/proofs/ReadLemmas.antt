-- A reading that is done is confined.
use Rattle.std.proofs.Common.{ℕ, zero, suc, ◌+◌, Bool, true, false, List, [], Option}
use Rattle.std.proofs.Common.{if◌then◌else◌}
use Rattle.std.specs.Prelude.{All, nat_lt}
use Rattle.std.proofs.lemmas.List.Elements.{All-nil}
use Rattle.pc_types.specs.declared.module_record.ModuleRecord.{ModuleRecord}
use Rattle.pc_types.specs.declared.parsed.CoreKind.{CoreKind}
use Rattle.pc_types.specs.declared.parsed.CoreKind.TheVariants as core
use Rattle.pc_types.specs.declared.parsed.TypeTable.{TypeTable}
use Rattle.pc_types.specs.TypeTree.{Identity}
use Rattle.pc_spec_plan.specs.Log.{Entry}
use Rattle.pc_parsed.specs.Mark.{Mark}
use Rattle.pc_spec_reading.specs.Components.{Call, read_return, read_call}
use Rattle.pc_spec_reading.specs.Item
use Rattle.pc_spec_reading.specs.Item.{ArgumentOf, ExportOf, Items, and_item, exports_in, no_items}
use Rattle.pc_spec_reading.specs.Outcome.{Outcome, and_then, at_item, done, fault, over}
use Rattle.pc_spec_reading.specs.Outcome.{past}
use Rattle.pc_spec_reading.specs.Reading.{Enter, Reading, Return, beginning, begun_in, enter_at, finishing}
use Rattle.pc_spec_reading.specs.Reading.{instantiate, prepare_all, read_body, read_child, read_item, read_items}
use Rattle.pc_spec_reading.specs.Reading.{read_root, reading_of, returning, root_exports}
use Rattle.pc_spec_reading.specs.Rows.{read_row}
use Rattle.pc_spec_reading.specs.Scope.{Moment, core_list, fresh}
use Rattle.pc_spec_reading.specs.Total.{body_weight, prepared_weight}
use Rattle.pc_spec_reading.specs.Value.{Chain, Component, Value, closed, outermost, pack_values}
use Rattle.pc_spec_reading.specs.World.{World, grown, has_room, new_world}
use Rattle.pc_spec_wiring.specs.Confined.{Belongs}
use Rattle.pc_confined.proofs.GrowthLemmas.{scope_grown}
use Rattle.pc_confined.proofs.NodeLemmas.{IsConfinedFinish, exports_confined}
use Rattle.pc_confined.proofs.RowLemmas.{return_keeps, row_keeps}
use Rattle.pc_confined.proofs.ScopeLemmas.{now_follows}
use Rattle.pc_confined.proofs.Sound.{AreConfined, AreSoundValues, Follows, Grows, IsConfinedEntry, IsSoundArgument}
use Rattle.pc_confined.proofs.Sound.{IsSoundCore, IsSoundFunction, IsSoundInstance, IsSoundMoment, IsSoundScope}
use Rattle.pc_confined.proofs.Steps.{IfDone, item_done, then_done}
use Rattle.pc_confined.proofs.ValueLemmas.{exports_found}
use Rattle.pc_confined.proofs.PrepareLemmas.{call_sound, onward, prepared_keep}

-- a component instance begins
begun_done : {A : Type 0} (P : A → Type 0) (limit weight : ℕ) (w : World) (go : World → Outcome A)
    → ((n : ℕ) (total : Option ℕ) → IfDone (go (record w { begun = n; total = total })) P)
    → IfDone (beginning limit weight w go) P
begun_done {A} P limit weight w go each = by (nat_lt w.begun limit) (has_room (grown w.total (1 + weight)))
  where
    by : (a b : Bool)
        → IfDone (if a then (if b then go (record w { begun = w.begun + 1; total = grown w.total (1 + weight) })
        else past) else over) P
    by true true = each (w.begun + 1) (grown w.total (1 + weight))
    by true false = tt
    by false b = tt

-- a component instance in which nothing was read yet
fresh_sound : (log : List (Entry Mark)) (args : List (List ℕ × Value)) (known : List (ℕ × Identity)) (chain : Chain)
    (c : ℕ) → All (IsSoundArgument log) args → IsSoundScope log (fresh args known chain c)
fresh_sound log args known chain c h = record {
  cores = none;
  core_instances = All-nil (IsSoundCore log c);
  funcs = All-nil (IsSoundFunction log);
  instances = All-nil (IsSoundInstance log);
  arguments = h;
}
  where
    none : (k : CoreKind) → All (Belongs log c) (core_list (fresh args known chain c) k)
    none core.Func = All-nil (Belongs log c)
    none core.Table = All-nil (Belongs log c)
    none core.Memory = All-nil (Belongs log c)
    none core.Global = All-nil (Belongs log c)
    none core.Tag = All-nil (Belongs log c)

-- what a child gives back is sound, in a longer log
record Returns (log : List (Entry Mark)) (r : Return) : Type 0 where
  confined : AreConfined r.world.log
  exports : AreSoundValues r.world.log (pack_values r.exports)
  grows : Grows log r.world.log

-- a child with sound arguments gives back what is
abbrev IsSoundEnter : Enter → Type 0
IsSoundEnter enter = (c : Call) (known : List (ℕ × Identity)) (w : World) → AreConfined w.log
    → All (IsSoundArgument w.log) c.arguments → IfDone (enter c known w) (Returns w.log)

-- the log of a moment is confined
abbrev IsConfinedMoment : Moment → Type 0
IsConfinedMoment now = AreConfined now.world.log

-- so is that of what follows
confined_then : (now : Moment) (o : Outcome Moment) → IfDone o (Follows now) → IfDone o IsConfinedMoment
confined_then now (done later) h = h.sound.confined
confined_then now (fault f p) h = tt
confined_then now over h = tt
confined_then now past h = tt

module _ (t : TypeTable) (ms : List ModuleRecord) where
  module _ (enter : Enter) (child : IsSoundEnter enter) where
    -- an instantiation
    call_keeps : (n component : ℕ) (args : List ArgumentOf) (ty : ℕ) (now : Moment) → IsSoundMoment now
        → IfDone (instantiate t ms enter n component args ty now) (Follows now)
    unfolding instantiate
    call_keeps n component args ty now sound =
        let P : Call → Type 0 = λ (c : Call). All (IsSoundArgument now.world.log) c.arguments in
        let at = now.scope.component_instance in
        then_done (Follows now) P (at_item at n (read_call t now.scope component args ty)) _
        (item_done P at n (read_call t now.scope component args ty)
        (call_sound t now sound component args ty)) (λ c given.
        then_done (Follows now) (Returns now.world.log) (enter c now.scope.known now.world) _
        (child c now.scope.known now.world sound.confined given) (λ r back. returned r back))
      where
        returned : (r : Return) → Returns now.world.log r
            → IfDone
            (at_item now.scope.component_instance n (read_return t (record now { world = r.world }) r.exports ty))
            (Follows now)
        returned r back =
            let one : Moment = record now { world = r.world } in
            let sound_one : IsSoundMoment one = record {
              confined = back.confined;
              scope = scope_grown now.world.log r.world.log back.grows now.scope sound.scope;
            } in
            onward now one (record { sound = sound_one; grows = back.grows })
            (at_item now.scope.component_instance n (read_return t one r.exports ty))
            (item_done (Follows one) now.scope.component_instance n (read_return t one r.exports ty)
            (return_keeps t one sound_one r.exports ty back.exports))

    row_done : (n : ℕ) (i : Item.Item) (now : Moment) → IsSoundMoment now
        → IfDone (at_item now.scope.component_instance n (read_row t ms now i)) (Follows now)
    row_done n i now sound =
        item_done (Follows now) now.scope.component_instance n (read_row t ms now i) (row_keeps t now sound ms i)

    -- an item
    item_keeps : (n : ℕ) (i : Item.Item) (now : Moment) → IsSoundMoment now
        → IfDone (read_item t ms enter n i now) (Follows now)
    unfolding read_item
    item_keeps n (Item.instantiate_component_item a b c) now sound = call_keeps n a b c now sound
    item_keeps n i now sound = row_done n i now sound

    -- items
    items_keep : (n : ℕ) (is : Items) (now : Moment) → IsSoundMoment now
        → IfDone (read_items t ms enter n is now) (Follows now)
    unfolding read_items
    items_keep n no_items now sound = now_follows now sound
    items_keep n (and_item i is) now sound =
        then_done (Follows now) (Follows now) (read_item t ms enter n i now) _ (item_keeps n i now sound)
        (λ later first. onward now later first (read_items t ms enter (n + 1) is later)
        (items_keep (n + 1) is later first.sound))

  module _ (limit : ℕ) where
    -- a body
    body_keeps : (enter : Enter) → IsSoundEnter enter → (k : Component) (args : List (List ℕ × Value))
        (known : List (ℕ × Identity)) (w : World) → AreConfined w.log → All (IsSoundArgument w.log) args
        → IfDone (read_child t ms limit enter k args known w) (Returns w.log)
    unfolding read_body
    body_keeps enter child (closed body chain) args known w h given =
        begun_done (Returns w.log) limit (body_weight t ms body) w
        (λ v. and_then (read_items t ms enter 0 body (begun_in args known chain w.begun v)) (returning t body))
        (λ n total.
        let v : World = record w { begun = n; total = total } in
        let now : Moment = begun_in args known chain w.begun v in
        then_done (Returns w.log) (Follows now) (read_items t ms enter 0 body now) (returning t body)
        (items_keep enter child 0 body now (record {
          confined = h;
          scope = fresh_sound w.log args known chain w.begun given;
        })) (λ later f. record {
          confined = f.sound.confined;
          exports = exports_found later.world.log t later.scope f.sound.scope (exports_in body);
          grows = f.grows;
        }))

    -- a child, however deep
    child_keeps : (levels : ℕ) → IsSoundEnter (enter_at t ms limit levels)
    unfolding enter_at
    child_keeps zero c known w h given = tt
    child_keeps (suc levels) c known w h given =
        body_keeps (enter_at t ms limit levels) (child_keeps levels) c.component c.arguments known w h given

    -- the root
    root_confined : (counted : Option ℕ) (body : Items)
        → IfDone (read_root t ms limit counted body) IsConfinedMoment
    unfolding read_root
    root_confined counted body =
        begun_done IsConfinedMoment limit (body_weight t ms body + prepared_weight t ms body) (new_world counted)
        (λ v. and_then (prepare_all t 0 body (begun_in [] [] outermost 0 v))
        (read_items t ms (enter_at t ms limit limit) 0 body)) (λ n total.
        let v : World = record (new_world counted) { begun = n; total = total } in
        let now : Moment = begun_in [] [] outermost 0 v in
        then_done IsConfinedMoment (Follows now) (prepare_all t 0 body now) _
        (prepared_keep t 0 body now (record {
          confined = All-nil (IsConfinedEntry []);
          scope = fresh_sound [] [] [] outermost 0 (All-nil (IsSoundArgument []));
        })) (λ later first.
        confined_then later (read_items t ms (enter_at t ms limit limit) 0 body later)
        (items_keep (enter_at t ms limit limit) (child_keeps limit) 0 body later first.sound)))

    -- the whole
    pub reading_confined : (counted : Option ℕ) (body : Items)
        → IfDone (reading_of t ms limit counted body) (λ (r : Reading). AreConfined r.log)
    unfolding reading_of finishing
    reading_confined counted body =
        let P : Reading → Type 0 = λ (r : Reading). AreConfined r.log in
        then_done P IsConfinedMoment (read_root t ms limit counted body) _
        (root_confined counted body) (λ now h.
        then_done P IsConfinedFinish (root_exports t now.scope (exports_in body) 0 now.world) _
        (exports_confined t now.scope (exports_in body) 0 now.world h) (λ f c. c))
