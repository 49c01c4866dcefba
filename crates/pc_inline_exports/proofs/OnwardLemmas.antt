-- The exports of the root one after the other, as they are read: an export is missing, or has its node.
use Rattle.std.proofs.Common.{◌≡◌, ◌+◌, ◌*◌, ℕ, Bool, true, false, List, [], ◌∷◌, ◌++◌, Option, None, Some, Result}
use Rattle.std.proofs.Common.{Ok, Err, refl, sym, ap, subst, ◌∙◌, arith, append_assoc, true≢false, if◌then◌else◌}
use Rattle.std.specs.Prelude.{nat_lt}
use Rattle.std.specs.Result.{IsErrAnd}
use Rattle.pc_types.specs.declared.error.Error.{Error}
use Rattle.pc_types.specs.declared.module_record.ModuleRecord.{ModuleRecord}
use Rattle.pc_types.specs.declared.parsed.TypeTable.{TypeTable}
use Rattle.pc_spec_plan.specs.ExportNode.{ExportNode, NamedNode}
use Rattle.pc_parsed.specs.declared.payload.ExternName.{ExternName}
use Rattle.pc_parsed.specs.declared.payload.ItemKind.{ItemKind}
use Rattle.pc_parsed.specs.Mark.{Mark}
use Rattle.pc_spec_reading.specs.Item.{ExportOf}
use Rattle.pc_spec_reading.specs.Items.{exported_value, value_at}
use Rattle.pc_spec_reading.specs.Nodes.{Finish, Reached, at_export, in_front, passed, value_node}
use Rattle.pc_spec_reading.specs.Nodes.{within_total}
use Rattle.pc_spec_reading.specs.Outcome.{Outcome, and_then, done, fault, over, past}
use Rattle.pc_spec_reading.specs.Reading.{root_exports}
use Rattle.pc_spec_reading.specs.Scope.{Scope}
use Rattle.pc_spec_reading.specs.Section.{named_item}
use Rattle.pc_spec_reading.specs.Value.{Value}
use Rattle.pc_spec_reading.specs.World.{World, full, grown, has_room}
use Rattle.pc_inline_state.specs.declared.frame.Frame.{Frame}
use Rattle.pc_inline_state.specs.declared.state.State.{State}
use Rattle.pc_inline_state.specs.Frames.{Both, both}
use Rattle.pc_inline_exports.specs.Exporting.{RootStands, behind, if_room}
use Rattle.pc_inline_exports.specs.OneExport.{node_named}
use Rattle.pc_inline_exports.proofs.RootLemmas.{root_total}
use Rattle.pc_inline_exports.proofs.WithinLemmas.{grown_twice, less_room}

-- where the larger total has room, so has the smaller
pub room_before : (o : Option ℕ) (n k : ℕ) → has_room (grown o (n + k)) ≡ true → has_room (grown o n) ≡ true
room_before None n k room = refl
room_before (Some m) n k room = less_room m n k (nat_lt (m + n) full) refl room

-- some nodes and more
pub eight_both : (n k : ℕ) → 8 * n + 8 * k ≡ 8 * (n + k)
eight_both n k = omega arith

-- a total that has grown by some nodes and then by more
pub total_twice : (m k : ℕ) (w v : World) → v.total ≡ grown w.total (8 * m)
    → grown v.total (8 * k) ≡ grown w.total (8 * (m + k))
total_twice m k w v total =
    ap (λ o. grown o (8 * k)) total ∙ grown_twice w.total (8 * m) (8 * k) ∙ ap (grown w.total) (eight_both m k)

-- a world in which a total is counted that has room, or none
abbrev pub roomy : World → World
roomy v = if has_room v.total then v else record v { total = None }

pub roomy_has : (v : World) → has_room (roomy v).total ≡ true
roomy_has v = by (has_room v.total) refl
  where
    by : (b : Bool) → has_room v.total ≡ b
        → has_room (if b then v else record v { total = None }).total ≡ true
    by true is = is
    by false is = refl

-- an outcome that this total lets through, or none
pub room_same : {A : Type 0} (total : Option ℕ) (x y : Outcome A) → (has_room total ≡ true → x ≡ y)
    → if_room total x ≡ if_room total y
room_same {A} total x y same = by (has_room total) same
  where
    by : (b : Bool) → (b ≡ true → x ≡ y) → ◌≡◌ {A = Outcome A} (if b then x else past) (if b then y else past)
    by true s = s refl
    by false s = refl

-- what is looked at after one total and then after a larger one
pub room_more : {A : Type 0} (o : Option ℕ) (n k : ℕ) (x : Outcome A)
    → if_room (grown o n) (if_room (grown o (n + k)) x) ≡ if_room (grown o (n + k)) x
room_more {A} o n k x =
    by (has_room (grown o n)) (has_room (grown o (n + k))) refl (room_before o n k)
  where
    by : (a b : Bool) → has_room (grown o n) ≡ a → (b ≡ true → has_room (grown o n) ≡ true)
        → ◌≡◌ {A = Outcome A} (if a then (if b then x else past) else past) (if b then x else past)
    by true b is le = refl
    by false false is le = refl
    by false true is le = absurd (true≢false (sym (le refl) ∙ is))

-- an outcome behind a total
pub room_then : {A B : Type 0} (total : Option ℕ) (x : Outcome A) (go : A → Outcome B)
    → and_then (if_room total x) go ≡ if_room total (and_then x go)
room_then {A} {B} total x go = by (has_room total)
  where
    by : (b : Bool) → ◌≡◌ {A = Outcome B} (and_then (if b then x else past) go) (if b then and_then x go else past)
    by true = refl
    by false = refl

-- a node behind a total
pub room_at : {A : Type 0} (n : ℕ) (total : Option ℕ) (o : Reached A) (go : A → World → Outcome Finish)
    → at_export n (within_total total o) go ≡ if_room total (at_export n o go)
room_at {A} n total o go = by (has_room total)
  where
    by : (b : Bool)
        → ◌≡◌ {A = Outcome Finish} (at_export n (if b then o else passed) go) (if b then at_export n o go else past)
    by true = refl
    by false = refl

-- what a total lets through that has room
pub room_is : {A : Type 0} (total : Option ℕ) (x : Outcome A) → has_room total ≡ true → if_room total x ≡ x
room_is {A} total x room = rw room refl

-- a total that grows by nothing
pub grown_none : (o : Option ℕ) → o ≡ grown o 0
grown_none None = refl
grown_none (Some m) = let same : m ≡ m + 0 = omega arith in ap Some same

-- a total that has room is counted
pub roomy_same : (v : World) → has_room v.total ≡ true → roomy v ≡ v
roomy_same v room = rw room refl

-- where nothing was found nothing is there
pub both_none : {A B : Type 0} (R : A → B → Type 0) (o : Option B) → Both R None o → o ≡ None
both_none R None h = refl
both_none R (Some y) h = elim h [ ]

-- and where something was found something is
pub both_some : {A B : Type 0} (R : A → B → Type 0) (x : A) (o : Option B) → Both R (Some x) o
    → (y : B) × (o ≡ Some y) × R x y
both_some R x None h = elim h [ ]
both_some R x (Some y) (both r) = (y, refl, r)

-- an error has no value of which something holds
pub err_passed : {A : Type 0} (r : Result A Error) (e : Error) → IsErrAnd r (λ x. x ≡ e) → r ≡ Err e
err_passed (Ok x) e is = absurd is
err_passed (Err x) e is = ap Err is

module _ (t : TypeTable) (ms : List ModuleRecord) where
  -- nothing is in front
  pub behind_none : (o : Outcome Finish) → o ≡ and_then o (behind t ms [])
  behind_none (done x) = refl
  behind_none (fault f p) = refl
  behind_none over = refl
  behind_none past = refl

  -- one node more is in front
  pub behind_more : (nodes : List (NamedNode Mark)) (x : NamedNode Mark) (o : Outcome Finish)
      → and_then (and_then o (in_front x)) (behind t ms nodes) ≡ and_then o (behind t ms (nodes ++ x ∷ []))
  behind_more nodes x (done f) =
      let same : nodes ++ x ∷ f.0 ≡ (nodes ++ x ∷ []) ++ f.0 = sym (append_assoc nodes (x ∷ []) f.0) in
      λ j. done (same j, f.1)
  behind_more nodes x (fault f p) = refl
  behind_more nodes x over = refl
  behind_more nodes x past = refl

  pub root_roomy : (st : State) (f : Frame) (s : Scope) (w : World) (nodes : List (NamedNode Mark))
      → RootStands t ms st f s w nodes → RootStands t ms st f s (roomy w) nodes
  root_roomy st f s w nodes root = by (has_room w.total)
    where
      by : (b : Bool) → RootStands t ms st f s (if b then w else record w { total = None }) nodes
      by true = root
      by false = root_total t ms st f s w None nodes root

  module _ (s : Scope) (e : ExternName × ItemKind × ℕ) (rest : List ExportOf) (n : ℕ) where
    -- what is read of the exports behind one with its node
    abbrev pub behind_node : ExportNode Mark → World → Outcome Finish
    behind_node y v = and_then (root_exports t s rest (n + 1) v) (in_front (node_named e.0 y))

    pub missing_here : (w : World) → value_at t s e.1 e.2 ≡ None
        → root_exports t s (named_item e ∷ rest) n w ≡ root_exports t s rest n w
    unfolding root_exports exported_value
    missing_here w none = rw none refl

    pub value_here : (w : World) (v : Value) → value_at t s e.1 e.2 ≡ Some v
        → root_exports t s (named_item e ∷ rest) n w ≡ at_export n (value_node v w) behind_node
    unfolding root_exports exported_value
    value_here w v there = rw there refl

    -- what is left at an export whose node is reached with so many nodes, in a world of which this total is left
    pub at_node : (m k : ℕ) (w v : World) (exported : List (NamedNode Mark)) (x : Value)
        (o : Reached (ExportNode Mark)) → v.total ≡ grown w.total (8 * m) → value_at t s e.1 e.2 ≡ Some x
        → value_node x (roomy v) ≡ within_total (grown (roomy v).total (8 * k)) o
        → if_room (grown w.total (8 * m))
        (and_then (root_exports t s (named_item e ∷ rest) n v) (behind t ms exported))
        ≡ if_room (grown w.total (8 * (m + k))) (and_then (at_export n o behind_node) (behind t ms exported))
    at_node m k w v exported x o total there reads =
        let end = and_then (at_export n o behind_node) (behind t ms exported) in
        room_same (grown w.total (8 * m))
        (and_then (root_exports t s (named_item e ∷ rest) n v) (behind t ms exported))
        (if_room (grown w.total (8 * (m + k))) end)
        (λ room.
        let same = roomy_same v (subst (λ y. has_room y ≡ true) (sym total) room) in
        ap (λ y. and_then y (behind t ms exported)) (value_here v x there
        ∙ ap (λ y. at_export n y behind_node)
        (subst (λ u. value_node x u ≡ within_total (grown u.total (8 * k)) o) same reads)
        ∙ room_at n (grown v.total (8 * k)) o behind_node)
        ∙ room_then (grown v.total (8 * k)) (at_export n o behind_node) (behind t ms exported)
        ∙ ap (λ y. if_room y end) (total_twice m k w v total))
        ∙ subst (λ j. if_room (grown w.total (8 * m)) (if_room (grown w.total j) end)
        ≡ if_room (grown w.total j) end) (eight_both m k)
        (room_more w.total (8 * m) (8 * k) end)
