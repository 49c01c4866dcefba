-- What definitions name, told by the greatest numbers.
use Rattle.std.specs.Prelude.{◌≡◌, ◌<◌, ◌≤◌, ℕ, suc, max, List, [], ◌∷◌, length, All, Some, slice_get}
use Rattle.pc_dfg.specs.declared.core_def.CoreDef.{CoreDef}
use Rattle.pc_dfg.specs.declared.core_def.CoreDef.TheVariants as def
use Rattle.pc_dfg.specs.declared.dfg.ComponentDfg.{ComponentDfg}
use Rattle.pc_dfg.specs.declared.instance.SideEffect.{SideEffect}
use Rattle.pc_adapt_groups.specs.declared.reach.Reach.{Reach}
use Rattle.pc_dfg.specs.Names.{an_adapter, an_instance, in_effect, OneNames}
use Rattle.pc_dfg.specs.Ordered.{IsBelow, made_before}

-- one more than the greatest number of which P holds, or 0 where it holds of none
pub record IsTop (P : ℕ → Type 0) (m : ℕ) : Type 0 where
  pub most : (n : ℕ) → P n → n < m
  pub there : (n : ℕ) → m ≡ suc n → P n

-- the greatest adapter and the greatest core instance that these definitions name
pub record IsReach (g : ComponentDfg) (ds : List CoreDef) (r : Reach) : Type 0 where
  pub adapters : IsTop (λ b. OneNames g ds (an_adapter b)) r.adapters
  pub instances : IsTop (λ n. OneNames g ds (an_instance n)) r.instances

-- what nothing names
abbrev pub nothing : Reach
nothing = record { adapters = 0; instances = 0 }

-- what an item of a core instance names
abbrev pub one_instance : ℕ → Reach
one_instance n = record { adapters = 0; instances = suc n }

-- what an adapter names
abbrev pub one_adapter : ℕ → Reach
one_adapter n = record { adapters = suc n; instances = 0 }

-- what either of two names
abbrev pub joined_reach : Reach → Reach → Reach
joined_reach r s = record { adapters = max r.adapters s.adapters; instances = max r.instances s.instances }

-- each of these is what the trampoline of its number names
abbrev pub AreReaches : ComponentDfg → List Reach → Type 0
AreReaches g rs =
    (t : ℕ) (r : Reach) → slice_get rs t ≡ Some r → IsReach g (def.Trampoline (record { 0 = t }) ∷ []) r

-- what these definitions name, where it is known of all trampolines among them
unfoldable pub Gives : List Reach → List CoreDef → Reach → Type 0
Gives rs ds r = (g : ComponentDfg) → AreReaches g rs → All (IsBelow (length rs)) ds → IsReach g ds r

-- an adapter is used by one of the first i side effects
abbrev pub IsUsedBefore : ComponentDfg → (i : ℕ) → ℕ → Type 0
IsUsedBefore g i b =
    (j : ℕ) × (e : SideEffect) × (j < i) × (slice_get g.side_effects j ≡ Some e)
    × OneNames g (in_effect g e) (an_adapter b)

-- an adapter is used by a side effect that stands at or before the making of core instance n
abbrev pub IsUsedUpTo : ComponentDfg → (n : ℕ) → ℕ → Type 0
IsUsedUpTo g n b =
    (j : ℕ) × (e : SideEffect) × (slice_get g.side_effects j ≡ Some e) × (made_before g j ≤ n)
    × OneNames g (in_effect g e) (an_adapter b)

-- for each core instance, the greatest adapter that is used up to its making
abbrev pub AreUses : ComponentDfg → List ℕ → Type 0
AreUses g us = (n m : ℕ) → slice_get us n ≡ Some m → IsTop (IsUsedUpTo g n) m
