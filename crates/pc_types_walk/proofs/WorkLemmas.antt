-- How many steps are still to come in a walk.
use Rattle.std.proofs.Common.{◌≡◌, ◌<◌, ◌+◌, ℕ, zero, suc, Bool, true, false, List, [], ◌∷◌, length, drop, Some, refl}
use Rattle.std.proofs.Common.{ap}
use Rattle.std.proofs.Common.{subst, arith, if◌then◌else◌, ◌==◌, ◌||◌}
use Rattle.std.specs.Prelude.{slice_get, unwrap_or}
use Rattle.std.proofs.lemmas.Bool.{eq-eqb, eqb-true}
use Rattle.std.proofs.lemmas.Option.{none-some, same_Some}
use Rattle.pc_types_walk.specs.declared.walk.Entered.{Entered}
use Rattle.pc_types_walk.specs.Steps.{with_number, work_in, work_outside}

-- those in an entry that was entered
pub work_at : (leads : List (List ℕ)) (o : Entered) (places : List ℕ) → slice_get leads o.entry ≡ Some places
    → work_in leads o ≡ length (drop o.next places) + 1
work_at leads o places at = ap (λ p. length (drop o.next (unwrap_or p [])) + 1) at

-- entries that were entered alike
pub outside_same : (v v' : ℕ → Bool) → ((n : ℕ) → v' n ≡ v n) → (i : ℕ) (leads : List (List ℕ))
    → work_outside v' i leads ≡ work_outside v i leads
outside_same v v' same i [] = refl
outside_same v v' same i (places ∷ rest) =
    let here = ap (λ b. if b then 0 else length places + 1) (same i) in
    let later = outside_same v v' same (i + 1) rest in
    λ j. here j + later j

-- another number isn't the one
differs : (m i : ℕ) → (m ≡ i → ⊥) → (m == i) ≡ false
differs m i other = by (m == i) refl
  where
    by : (b : Bool) → (m == i) ≡ b → b ≡ false
    by true is = absurd (other (eqb-true m i is))
    by false is = refl

-- whether one was entered that isn't the new one
not_new : (v : ℕ → Bool) (m i : ℕ) → (m ≡ i → ⊥) → with_number m v i ≡ v i
not_new v m i other = ap (λ b. b || v i) (differs m i other)

-- a lower one that is entered changes nothing
outside_lower : (v : ℕ → Bool) (m i : ℕ) → m < i → (leads : List (List ℕ))
    → work_outside (with_number m v) i leads ≡ work_outside v i leads
outside_lower v m i less [] = refl
outside_lower v m i less (places ∷ rest) =
    let here = ap (λ b. if b then 0 else length places + 1) (not_new v m i (λ same. omega (arith, same, less))) in
    let later = outside_lower v m (i + 1) (omega (arith, less)) rest in
    λ j. here j + later j

-- the steps in an entry that is entered don't stand outside any more
pub outside_entered : (v : ℕ → Bool) (i : ℕ) (leads : List (List ℕ)) (k m : ℕ) (places : List ℕ)
    → slice_get leads k ≡ Some places → i + k ≡ m → v m ≡ false
    → work_outside v i leads ≡ (length places + 1) + work_outside (with_number m v) i leads
outside_entered v i [] k m places at is new = absurd (none-some places at)
outside_entered v i (q ∷ rest) zero m places at is new =
    let same : m ≡ i = omega (arith, is) in
    let before = ap (λ b. if b then 0 else length q + 1) (subst (λ k. v k ≡ false) same new) in
    let after = ap (λ b. if b then 0 else length q + 1) (ap (λ b. b || v i) (eq-eqb m i same)) in
    let rest_same = outside_lower v m (i + 1) (omega (arith, same)) rest in
    let long = ap length (same_Some q places at) in
    omega (arith, before, after, rest_same, long)
outside_entered v i (q ∷ rest) (suc k) m places at is new =
    let here = ap (λ b. if b then 0 else length q + 1) (not_new v m i (λ same. omega (arith, same, is))) in
    let later = outside_entered v (i + 1) rest k m places at (omega (arith, is)) new in
    omega (arith, here, later)
