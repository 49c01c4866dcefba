-- Facts of each item of a list.
use Rattle.std.proofs.Common.{zero, suc, List, [], ◌∷◌, All, arith}
use Rattle.std.specs.List.{flat_map}
use Rattle.std.proofs.lemmas.List.Elements.{All-append}

-- of no items
pub all_none : {A : Type 0} (P : A → Type 0) → All P []
all_none P k d below = absurd (omega (arith, below))

-- of one item
pub all_one : {A : Type 0} (P : A → Type 0) (x : A) → P x → All P (x ∷ [])
all_one P x p zero d below = p
all_one P x p (suc k) d below = absurd (omega (arith, below))

-- of the first item, and of the others
pub all_first : {A : Type 0} (P : A → Type 0) (x : A) (xs : List A) → All P (x ∷ xs) → P x
all_first P x xs all = all 0 x (omega arith)

pub all_rest : {A : Type 0} (P : A → Type 0) (x : A) (xs : List A) → All P (x ∷ xs) → All P xs
all_rest P x xs all k d below = all (suc k) d (omega (arith, below))

-- a fact that follows from another
pub all_more : {A : Type 0} (P Q : A → Type 0) → ((x : A) → P x → Q x) → (xs : List A) → All P xs → All Q xs
all_more P Q f xs all k d below = f _ (all k d below)

-- of what a function makes of each item
pub all_flat_map : {A B : Type 0} (Q : A → Type 0) (P : B → Type 0) (f : A → List B)
    → ((x : A) → Q x → All P (f x)) → (xs : List A) → All Q xs → All P (flat_map f xs)
all_flat_map Q P f each [] all = all_none P
all_flat_map Q P f each (x ∷ xs) all =
    All-append P (f x) (flat_map f xs) (each x (all_first Q x xs all))
    (all_flat_map Q P f each xs (all_rest Q x xs all))
