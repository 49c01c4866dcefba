-- A graph that has got slots and trampolines.
use Rattle.std.specs.Prelude.{◌≡◌, ℕ, ◌+◌, ◌≤◌, List, length, Option, None, Some}
use Rattle.pc_dfg.specs.declared.dfg.ComponentDfg.{ComponentDfg}
use Rattle.pc_dfg.specs.Grows.{Grows}
use Rattle.pc_dfg.specs.Ordered.{IsOrdered}

-- the second graph is the first one with at most so many entries more in each of four lists
pub record Adds (memories callbacks post_returns trampolines : ℕ) (g h : ComponentDfg) : Type 0 where
  pub grows : Grows g h
  -- its order is kept
  pub ordered : IsOrdered g → IsOrdered h
  -- all but these lists is as it was
  pub rest : h ≡ record g {
    memories = h.memories;
    callbacks = h.callbacks;
    post_returns = h.post_returns;
    trampolines = h.trampolines;
  }
  pub few_memories : length h.memories ≤ length g.memories + memories
  pub few_callbacks : length h.callbacks ≤ length g.callbacks + callbacks
  pub few_post_returns : length h.post_returns ≤ length g.post_returns + post_returns
  pub few_trampolines : length h.trampolines ≤ length g.trampolines + trampolines

-- a list has as many entries as it may have
abbrev pub IsFull : {A : Type 0} → List A → Type 0
IsFull xs = 4294967295 ≤ length xs

-- it has, and something is to be put into it
abbrev pub IsFullFor : {A B : Type 0} → Option A → List B → Type 0
IsFullFor None xs = ⊥
IsFullFor (Some x) xs = IsFull xs

-- one, where something is there
abbrev pub one_if : {A : Type 0} → Option A → ℕ
one_if None = 0
one_if (Some x) = 1
