-- Choices by a test, and tests of texts.
use Rattle.std.proofs.Common.{◌≡◌, ℕ, Bool, true, false, cond, List, Option, Some, None, refl}
use Rattle.std.proofs.lemmas.Slice.Eq.{bytes_eq-Decides}
use Rattle.std.specs.Option.{option_or}
use Rattle.std.specs.Str.{bytes_eq}

-- one choice in another, by the same test
pub cond_same : {A : Type 0} (b : Bool) (x y z : A) → cond b x z ≡ cond b x (cond b y z)
cond_same true x y z = refl
cond_same false x y z = refl

-- two choices in turn, of which one at most is taken
pub cond_swap : {A : Type 0} (a b : Bool) (x y z : A) → (a ≡ true → b ≡ true → ⊥)
    → cond a x (cond b y z) ≡ cond b y (cond a x z)
cond_swap true true x y z apart = absurd (apart refl refl)
cond_swap true false x y z apart = refl
cond_swap false true x y z apart = refl
cond_swap false false x y z apart = refl

-- the first value of three, where the second is one only if a test passes
pub option_or_cond : {A : Type 0} (o : Option A) (b : Bool) (x : A) (p : Option A)
    → option_or o (cond b (Some x) p) ≡ option_or (option_or o (cond b (Some x) None)) p
option_or_cond (Some y) b x p = refl
option_or_cond None true x p = refl
option_or_cond None false x p = refl

-- a text is equal to itself
pub bytes_eq-refl : (t : List ℕ) → bytes_eq t t ≡ true
bytes_eq-refl t = (bytes_eq-Decides t t).1 refl
