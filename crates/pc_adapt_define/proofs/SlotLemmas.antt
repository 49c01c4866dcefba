-- Slots and full lists as a graph grows.
use Rattle.std.proofs.Common.{◌≡◌, ◌⊎◌, ◌≤◌, ℕ, inl, inr, List, [], ◌∷◌, ◌++◌, length, All, Option, None, Some}
use Rattle.std.proofs.Common.{sym, ap, subst, arith, length-append}
use Rattle.pc_entity.specs.Lists.{Kept}
use Rattle.pc_entity.proofs.Growing.{append_kept}
use Rattle.pc_spec_plan.specs.PlanView as plan
use Rattle.pc_dfg.specs.declared.core_def.CoreDef.{CoreDef}
use Rattle.pc_dfg.specs.declared.dfg.ComponentDfg.{ComponentDfg}
use Rattle.pc_dfg.specs.Grows.{Extends, Grows}
use Rattle.pc_dfg.specs.Held.{IsHeld}
use Rattle.pc_dfg.specs.Lists as list
use Rattle.pc_dfg.specs.Numbers.{slots_of}
use Rattle.pc_dfg.specs.Pushed.{IsPut}
use Rattle.pc_dfg.proofs.AllLemmas.{all_rest}
use Rattle.pc_dfg.proofs.GrowLemmas.{kept}
use Rattle.pc_dfg.proofs.HeldLemmas.{all_stay}
use Rattle.pc_adapt_define.specs.Adds.{IsFullFor}
use Rattle.pc_adapt_define.specs.Helpers.{HasSlot}

all_behind : {A : Type 0} (P : A → Type 0) (xs ys : List A) → All P (xs ++ ys) → All P ys
all_behind P [] ys all = all
all_behind P (x ∷ xs) ys all = all_behind P xs ys (all_rest P x (xs ++ ys) all)

-- what is behind is held, and stays so
pub behind_held : (g h : ComponentDfg) (xs ys : List CoreDef) → Grows g h → All (IsHeld g) (xs ++ ys)
    → All (IsHeld h) ys
behind_held g h xs ys grows all = all_stay g h grows ys (all_behind (IsHeld g) xs ys all)

-- look-ups stay where an entry is put
pub put_kept : {A : Type 0} (xs ys : List A) (x : A) → IsPut xs ys x → Kept xs ys
put_kept xs ys x put = elim put.0 as (λ _. Kept xs ys) [
  | inl same ↦ subst (Kept xs) (sym same) (λ i y at. at)
  | inr more ↦ subst (Kept xs) (sym more) (append_kept xs (x ∷ []))
]

slot_kept : {A : Type 0} (xs ys : List A) (n : Option ℕ) (d : Option A) → Kept xs ys → HasSlot xs n d
    → HasSlot ys n d
slot_kept xs ys None None same at = at
slot_kept xs ys None (Some x) same at = absurd at
slot_kept xs ys (Some n) None same at = absurd at
slot_kept xs ys (Some n) (Some x) same at = same n x at

-- a callback stays in its slot
pub callback_stays : (g h : ComponentDfg) (n : Option ℕ) (d : Option CoreDef) → Grows g h
    → HasSlot g.callbacks n d → HasSlot h.callbacks n d
unfolding slots_of
callback_stays g h n d grows at =
    slot_kept g.callbacks h.callbacks n d (kept g h grows (list.slots plan.callback)) at

longer : {A : Type 0} (xs ys : List A) → Extends xs ys → length xs ≤ length ys
longer xs ys more =
    let all : length ys ≡ length (xs ++ more.more) = ap length more.is in
    omega (arith, all, length-append xs more.more)

post_returns_longer : (g h : ComponentDfg) → Grows g h → length g.post_returns ≤ length h.post_returns
unfolding slots_of
post_returns_longer g h grows = longer g.post_returns h.post_returns (grows.lists (list.slots plan.post_return))

full_later : {A B : Type 0} (d : Option A) (xs ys : List B) → length xs ≤ length ys → IsFullFor d xs
    → IsFullFor d ys
full_later None xs ys more full = full
full_later (Some x) xs ys more full = omega (arith, more, full)

-- there was room for both functions
pub both_room : (g m : ComponentDfg) (c p : Option CoreDef) → Grows g m → ¬ (IsFullFor c g.callbacks)
    → ¬ (IsFullFor p m.post_returns) → ¬ (IsFullFor c g.callbacks ⊎ IsFullFor p g.post_returns)
both_room g m c p grows first second either = elim either as (λ _. ⊥) [
  | inl full ↦ first full
  | inr full ↦ second (full_later p g.post_returns m.post_returns (post_returns_longer g m grows) full)
]

pub trampolines_longer : (g h : ComponentDfg) → Grows g h → length g.trampolines ≤ length h.trampolines
trampolines_longer g h grows = longer g.trampolines h.trampolines (grows.lists list.trampolines)
