-- What becomes of a list of types when one is put into it.
use Rattle.std.specs.Prelude.{◌≡◌, ◌⊎◌, List, [], ◌∷◌, ◌++◌, Contains}
use Rattle.pc_types_lists.specs.declared.facts.TypeFacts.{TypeFacts}

-- the list is as it was, or has this type at its end for the first time
abbrev pub IsPut : {V : Type 0} → List V → List V → V → Type 0
IsPut old new value = (new ≡ old) ⊎ ((new ≡ old ++ value ∷ []) × (Contains old value → ⊥))

-- the list and that of its facts are as they were, or have the type and its facts at their ends
abbrev pub IsPutWith : {V : Type 0} → (old new : List V) → (facts more : List TypeFacts) → V → TypeFacts → Type 0
IsPutWith old new facts more value x =
    ((new ≡ old) × (more ≡ facts)) ⊎ ((new ≡ old ++ value ∷ []) × (more ≡ facts ++ x ∷ []))

-- the list and that of its keys are as they were, or have the type and its key at their ends, and the key is new
abbrev pub IsPutKeyed : {K V : Type 0} → (keys more : List K) → (old new : List V) → K → V → Type 0
IsPutKeyed keys more old new key value =
    ((more ≡ keys) × (new ≡ old))
    ⊎ ((more ≡ keys ++ key ∷ []) × (new ≡ old ++ value ∷ []) × (Contains keys key → ⊥))
