-- A turn of the driver: a call moves, or the root has ended.
use Rattle.std.proofs.Common.{◌≡◌, ◌++◌, ◌∷◌, ◌≤◌, ℕ, Bool, true, false, List, [], Option, None, Some, Result, Ok, Err}
use Rattle.std.proofs.Common.{IsErrAnd, length, reverse, sym, subst, ◌∙◌}
use Rattle.std.specs.Prelude.{⊤, option_to_list}
use Rattle.pc_types.specs.declared.error.Error.{Error}
use Rattle.pc_types.specs.declared.module_record.ModuleRecord.{ModuleRecord}
use Rattle.pc_types.specs.declared.parsed.TypeTable.{TypeTable}
use Rattle.pc_local.specs.declared.item.Translation.{Translation}
use Rattle.pc_inline_stack.specs.declared.driver.Open.{Open}
use Rattle.pc_inline_stack.specs.declared.driver.Stack.{Stack}
use Rattle.pc_inline_state.specs.declared.state.State.{State}
use Rattle.pc_inline_stack.specs.Stacks.{AreCounted, AreUnderway, AreWeights, Ended, Falls, GoesOn, Moved, Moves}
use Rattle.pc_inline_stack.specs.Stacks.{Turned, Turns, items_of}
use Rattle.pc_inline_stack.proofs.MovesLemmas.{counted_left, move_goes, moved, moves_as, moves_end, none_popped, popped}
use Rattle.pc_inline_stack.proofs.MovesLemmas.{turn_ends}

module _ (t : TypeTable) (ms : List ModuleRecord) (limit : ℕ) (root : Translation) (st : State) (s : Stack)
    (st' : State) (s' : Stack) where
  -- a turn that ends with an error
  turns_fail : (r : Result Bool Error) (P : Error → Type 0) → IsErrAnd r P
      → Moves t ms limit root st (reverse s.callers.items) s.top s.total st' (reverse s'.callers.items) s'.top
      s'.total r → Turns t ms limit root st s st' s' r
  turns_fail (Ok more) P is moves = absurd is
  turns_fail (Err e) P is moves = record { moves = moves; falls = tt; waits = tt }

  -- that of the call in it
  pub turned_off : (A : Type 0) (e : Error) → Moved {A = A} t ms limit root st (reverse s.callers.items) s st' s'
      (Err e)
      → (r : Result Bool Error) → IsErrAnd r (λ x. x ≡ e) → Turns t ms limit root st s st' s' r
  turned_off A e moved r is =
      turns_fail r (λ x. x ≡ e) is (moves_end t ms limit root st (reverse s.callers.items) s.top s.total st'
      (reverse s'.callers.items) s'.top s'.total A e moved.moves r is)

  -- a turn with a call that moves
  pub turned_on : {A : Type 0} (x : A) → Moved t ms limit root st (reverse s.callers.items) s st' s' (Ok x)
      → AreCounted s.callers.items → Turns t ms limit root st s st' s' (Ok true)
  unfolding Turned
  turned_on x moved each = record {
    moves = moves_as t ms limit root st (reverse s.callers.items) s.top s.total st' (reverse s'.callers.items) s'.top
        s'.total x true moved.moves;
    falls = moved.falls;
    waits = moved.waits each;
  }

  module _ (ys : List Open) (w : Option Open) (is : s.callers.items ≡ ys ++ option_to_list w) where
    module _ (caller : Open) (some : w ≡ Some caller) (left : Stack) (below : left.callers.items ≡ ys)
        (top : left.top ≡ s.top) (total : left.total ≡ s.total) where
      as_left : {A : Type 0} (r : Result A Error) → Moves t ms limit root st (caller ∷ reverse ys) left.top left.total
          st' (reverse s'.callers.items) s'.top s'.total r
          → Moves t ms limit root st (reverse s.callers.items) s.top s.total st' (reverse s'.callers.items) s'.top
          s'.total r
      as_left r moves =
          subst (λ n. Moves t ms limit root st (reverse s.callers.items) s.top n st' (reverse s'.callers.items) s'.top
          s'.total r) total
          (subst (λ o. Moves t ms limit root st (reverse s.callers.items) o left.total st' (reverse s'.callers.items)
          s'.top s'.total r) top
          (subst (λ ks. Moves t ms limit root st ks left.top left.total st' (reverse s'.callers.items) s'.top s'.total
          r) (sym (popped s.callers.items ys w caller is some)) moves))

      -- a turn in which a child ends
      pub left_on : {A : Type 0} (x : A) → Moved t ms limit root st (caller ∷ reverse ys) left st' s' (Ok x)
          → AreCounted s.callers.items → Turns t ms limit root st s st' s' (Ok true)
      unfolding Turned
      left_on x moved each = record {
        moves = moves_as t ms limit root st (reverse s.callers.items) s.top s.total st' (reverse s'.callers.items)
            s'.top s'.total x true (as_left (Ok x) moved.moves);
        falls = subst (λ o. Falls limit root st (reverse s.callers.items) o st' (reverse s'.callers.items) s'.top) top
            (subst (λ ks. Falls limit root st ks left.top st' (reverse s'.callers.items) s'.top)
            (sym (popped s.callers.items ys w caller is some)) moved.falls);
        waits = moved.waits (subst AreCounted (sym below) (counted_left s.callers.items ys w is each));
      }

      -- and one in which what waits for it can't go on
      pub left_off : (A : Type 0) (e : Error) → Moved {A = A} t ms limit root st (caller ∷ reverse ys) left st' s'
          (Err e)
          → (r : Result Bool Error) → IsErrAnd r (λ x. x ≡ e) → Turns t ms limit root st s st' s' r
      left_off A e moved r fails =
          turns_fail r (λ x. x ≡ e) fails (moves_end t ms limit root st (reverse s.callers.items) s.top s.total st'
          (reverse s'.callers.items) s'.top s'.total A e (as_left (Err e) moved.moves) r fails)

module _ (t : TypeTable) (ms : List ModuleRecord) (limit : ℕ) (root : Translation) (st : State) (s left : Stack)
    (w : Option Open) (is : s.callers.items ≡ left.callers.items ++ option_to_list w) (none : w ≡ None)
    (top : left.top ≡ s.top) (total : left.total ≡ s.total) where
  -- the root has ended
  pub turned_last : reverse left.callers.items ≡ [] → length (items_of st.bodies.now root s.top) ≤ s.top.next
      → AreCounted s.callers.items → Turns t ms limit root st s st left (Ok false)
  unfolding Turned
  turned_last empty end each = record {
    moves = subst (λ n. Moves t ms limit root st (reverse s.callers.items) s.top s.total st
        (reverse left.callers.items) left.top n (Ok false)) (sym total)
        (subst (λ o. Moves t ms limit root st (reverse s.callers.items) s.top s.total st (reverse left.callers.items) o
        s.total (Ok false)) (sym top)
        (subst (λ ks. Moves t ms limit root st (reverse s.callers.items) s.top s.total st ks s.top s.total (Ok false))
        (sym (none_popped s.callers.items left.callers.items w is none))
        (move_goes t ms limit root st (reverse s.callers.items) s.top s.total st (reverse s.callers.items) s.top s.total
        false (λ old f counted driven. driven))));
    falls = (empty, subst (λ (o : Open). length (items_of st.bodies.now root o) ≤ o.next) (sym top) end);
    waits = counted_left s.callers.items left.callers.items w is each;
  }

-- all turns from a stack on
module _ (t : TypeTable) (ms : List ModuleRecord) (limit : ℕ) (root : Translation) (st : State) (s : Stack) where
  -- the turns so far moved
  abbrev pub HaveMoved : State → Stack → Type 0
  HaveMoved st' s' =
      Moves t ms limit root {A = ⊤} st (reverse s.callers.items) s.top s.total st' (reverse s'.callers.items) s'.top
      s'.total (Ok tt)

  -- none yet
  pub moved_none : HaveMoved st s
  moved_none =
      move_goes t ms limit root st (reverse s.callers.items) s.top s.total st (reverse s.callers.items) s.top s.total tt
      (λ old f counted driven. driven)

  module _ (st1 : State) (s1 : Stack) (so : HaveMoved st1 s1) where
    module _ (under : AreUnderway t ms limit root st (reverse s.callers.items) s.top s.total) where
      -- component instances stand somewhere in a reading
      pub still_underway : AreUnderway t ms limit root st1 (reverse s1.callers.items) s1.top s1.total
      unfolding AreUnderway
      still_underway = (
        under.0,
        under.1,
        under.2,
        moved t ms limit root st (reverse s.callers.items) s.top s.total st1
            (reverse s1.callers.items) s1.top s1.total under.0 under.1 under.2 under.3 tt so,
      )

      -- the bodies are the same
      same_bodies : st1.bodies.now ≡ st.bodies.now
      unfolding AreUnderway
      same_bodies =
          let driven = moved t ms limit root st (reverse s.callers.items) s.top s.total st1 (reverse s1.callers.items)
          s1.top s1.total under.0 under.1 under.2 under.3 tt so in
          driven.keeps.bodies ∙ sym under.3.keeps.bodies

      -- and their weights
      pub still_weights : (weights : List ℕ) → AreWeights t ms st.bodies.now weights
          → AreWeights t ms st1.bodies.now weights
      still_weights weights are = subst (λ bs. AreWeights t ms bs weights) (sym same_bodies) are

    module _ (st2 : State) (s2 : Stack) where
      -- one more
      pub moved_on : (more : Bool) → Turns t ms limit root st1 s1 st2 s2 (Ok more) → HaveMoved st2 s2
      unfolding Moves GoesOn
      moved_on more turns old f counted driven = turns.moves old f counted (so old f counted driven)

      -- the last one: the root has ended
      pub moves_done : (more : Bool) → more ≡ false → Turns t ms limit root st1 s1 st2 s2 (Ok more)
          → Ended t ms limit root st s st2 s2 (Ok tt)
      moves_done more is turns = record {
        moves = moved_on more turns;
        ends = turn_ends limit root st1 (reverse s1.callers.items) s1.top st2 (reverse s2.callers.items) s2.top more is
            turns.falls;
      }

      stuck : (e : Error) → Turns t ms limit root st1 s1 st2 s2 (Err e)
          → Moves t ms limit root {A = ⊤} st (reverse s.callers.items) s.top s.total st2 (reverse s2.callers.items)
          s2.top s2.total (Err e)
      unfolding Moves GoesOn
      stuck e turns old f counted driven = turns.moves old f counted (so old f counted driven)

      -- or an error
      pub moves_stop : (e : Error) → Turns t ms limit root st1 s1 st2 s2 (Err e) → (r : Result ⊤ Error)
          → IsErrAnd r (λ x. x ≡ e) → Ended t ms limit root st s st2 s2 r
      moves_stop e turns (Ok x) is = absurd is
      moves_stop e turns (Err x) is =
          subst (λ y. Ended t ms limit root st s st2 s2 (Err y)) (sym is) (record { moves = stuck e turns; ends = tt })
