-- How a reading goes on twice, and where a component instance begins.
use Rattle.std.proofs.Common.{◌≡◌, ◌+◌, ℕ, Bool, true, false, refl, if◌then◌else◌}
use Rattle.std.specs.Prelude.{nat_lt}
use Rattle.pc_spec_reading.specs.Outcome.{Outcome, and_then, done, fault, over, past}
use Rattle.pc_spec_reading.specs.Reading.{beginning}
use Rattle.pc_spec_reading.specs.World.{World, grown, has_room}

module _ {A B : Type 0} where
  -- going on twice
  pub then_then : {C : Type 0} (o : Outcome A) (f : A → Outcome B) (g : B → Outcome C)
      → and_then (and_then o f) g ≡ and_then o (λ x. and_then (f x) g)
  then_then (done x) f g = refl
  then_then (fault k p) f g = refl
  then_then over f g = refl
  then_then past f g = refl

-- the world in which one more component instance, of this weight, has begun
abbrev pub begun_world : (weight : ℕ) → World → World
begun_world weight w = record w { begun = w.begun + 1; total = grown w.total (1 + weight) }

module _ {A : Type 0} (limit weight : ℕ) (w : World) where
  -- going on where a component instance begins
  pub beginning_then : {B : Type 0} (go : World → Outcome A) (f : A → Outcome B)
      → and_then (beginning limit weight w go) f ≡ beginning limit weight w (λ v. and_then (go v) f)
  beginning_then go f =
      by (nat_lt w.begun limit) (has_room (grown w.total (1 + weight))) (go (begun_world weight w))
    where
      by : (b c : Bool) (o : Outcome A)
          → and_then (if b then (if c then o else past) else over) f
          ≡ (if b then (if c then and_then o f else past) else over)
      by true true o = refl
      by true false o = refl
      by false c o = refl
