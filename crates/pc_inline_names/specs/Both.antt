-- Two things that may each be there.
use Rattle.std.specs.Prelude.{Option, None, Some}

-- both are there and stand so, or neither is there
pub data Both {A B : Type 0} (R : A → B → Type 0) : Option A → Option B → Type 0 where
  neither : Both R None None
  both : {a : A} {b : B} → R a b → Both R (Some a) (Some b)
