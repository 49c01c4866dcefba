-- The greatest adapter that is needed, from what is named and what is used.
use Rattle.std.specs.Prelude.{◌≡◌, ◌⊎◌, ℕ, suc, max, List, [], ◌∷◌, Some, slice_get}
use Rattle.pc_dfg.specs.declared.instance.SideEffect.{SideEffect}
use Rattle.pc_dfg.specs.declared.instance.SideEffect.TheVariants as effect
use Rattle.pc_adapt_groups.specs.declared.reach.Reach.{Reach}

-- what is noted at a side effect
abbrev pub noted : SideEffect → ℕ → List ℕ
noted (effect.Instance i c) m = m ∷ []
noted (effect.Resource n) m = []

-- no core instance is named, or the last one has its greatest adapter
abbrev pub IsNeeded : Reach → List ℕ → ℕ → Type 0
IsNeeded r us m =
    ((r.instances ≡ 0) × (m ≡ r.adapters))
    ⊎ ((n k : ℕ) × (r.instances ≡ suc n) × (slice_get us n ≡ Some k) × (m ≡ max r.adapters k))
