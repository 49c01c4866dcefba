-- The core instances that the steps of a plan make, by their numbers.
use Rattle.std.proofs.Common.{◌≡◌, ◌<◌, ◌+◌, ◌++◌, ◌⊎◌, inl, inr, ℕ, zero, suc, Bool, true, false, List, [], ◌∷◌}
use Rattle.std.proofs.Common.{length, take, Option, None, Some, refl, ap, ◌∙◌, arith}
use Rattle.std.specs.Prelude.{◌==◌, count_by, if◌then◌else◌, slice_get}
use Rattle.std.specs.List.{Contains, cons_option, filter_map}
use Rattle.std.proofs.lemmas.List.Concat.{flat_map-cons}
use Rattle.std.proofs.lemmas.Bool.{eqb-true}
use Rattle.std.proofs.lemmas.Option.{none-some, same_Some, slice_get-get_or}
use Rattle.std.proofs.lemmas.List.Sums.{sum_by-cons}
use Rattle.pc_types.specs.declared.module_record.ModuleRecord.{ModuleRecord}
use Rattle.pc_spec_plan.specs.Counts.{makes_instance}
use Rattle.pc_spec_plan.specs.PlanView as plan
use Rattle.pc_dfg_linearize.proofs.CountLemmas.{one}
use Rattle.pc_spec_wiring.specs.Known.{arguments_in}
use Rattle.pc_spec_wiring.specs.Origin.{Core, PlanEnd, core_of, cores_in, cores_of, of_host}

-- what stands in two lists stands in the first, or so far in the second
pub in_either : {A : Type 0} (xs ys : List A) (n : ℕ) (x : A) → slice_get (xs ++ ys) n ≡ Some x
    → (slice_get xs n ≡ Some x) ⊎ ((j : ℕ) × (length xs + j ≡ n) × (slice_get ys j ≡ Some x))
in_either [] ys n x at = inr (n, omega arith, at)
in_either (y ∷ xs) ys zero x at = inl at
in_either (y ∷ xs) ys (suc n) x at = elim (in_either xs ys n x at) [
  | inl first ↦ inl first
  | inr second ↦ let place = second.1 in inr (second.0, omega (arith, place), second.2)
]

pub behind : {A : Type 0} (xs ys : List A) (j n : ℕ) → length xs + j ≡ n → slice_get (xs ++ ys) n ≡ slice_get ys j
behind [] ys j n place = let same : n ≡ j = omega (arith, place) in ap (slice_get ys) same
behind (x ∷ xs) ys j zero place = absurd (omega (arith, place))
behind (x ∷ xs) ys j (suc n) place = behind xs ys j n (omega (arith, place))

module _ (test : plan.Initializer → Bool) where
  -- what passes a test is counted
  count_cons : (x : plan.Initializer) (xs : List plan.Initializer)
      → count_by test (x ∷ xs) ≡ one (test x) + count_by test xs
  count_cons x xs = sum_by-cons (λ y. one (test y)) x xs

  -- fewer count before a step that does than in all
  pub before : (xs : List plan.Initializer) (i : ℕ) (s : plan.Initializer) → slice_get xs i ≡ Some s → test s ≡ true
      → count_by test (take i xs) < count_by test xs
  before [] i s at passes = absurd (none-some s at)
  before (x ∷ xs) zero s at passes =
      let here : one (test x) ≡ 1 = ap (λ y. one (test y)) (same_Some x s at) ∙ ap one passes in
      omega (arith, here, count_cons x xs)
  before (x ∷ xs) (suc i) s at passes =
      let rest = before xs i s at passes in
      omega (arith, rest, count_cons x xs, count_cons x (take i xs))

-- what a function finds in a list it finds at some place
pub record IsFoundIn {A B : Type 0} (f : A → Option B) (xs : List A) (y : B) : Type 0 where
  pub place : ℕ
  pub what : A
  pub at : slice_get xs place ≡ Some what
  pub gives : f what ≡ Some y

found_at_place : {A B : Type 0} (f : A → Option B) (xs : List A) (y : B) (i : ℕ)
    → slice_get (filter_map f xs) i ≡ Some y → IsFoundIn f xs y
found_at_place f [] y i at = absurd (none-some y at)
found_at_place {A} {B} f (x ∷ xs) y i at = by (λ k there. found_at_place f xs y k there) (f x) refl i at
  where
    later : IsFoundIn f xs y → IsFoundIn f (x ∷ xs) y
    later rest = record { place = suc rest.place; what = rest.what; at = rest.at; gives = rest.gives }

    by : ((k : ℕ) → slice_get (filter_map f xs) k ≡ Some y → IsFoundIn f xs y) → (o : Option B) → f x ≡ o → (k : ℕ)
        → slice_get (cons_option o (filter_map f xs)) k ≡ Some y → IsFoundIn f (x ∷ xs) y
    by further None is k there = later (further k there)
    by further (Some z) is zero there = record { place = zero; what = x; at = refl; gives = is ∙ there }
    by further (Some z) is (suc k) there = later (further k there)

pub found_in : {A B : Type 0} (f : A → Option B) (xs : List A) (y : B) → Contains (filter_map f xs) y
    → IsFoundIn f xs y
found_in f xs y inside =
    found_at_place f xs y inside.0
    (slice_get-get_or (filter_map f xs) inside.0 y inside.1 ∙ ap (λ z. Some z) inside.2)

module _ (records : List ModuleRecord) where
  -- a step makes one core instance or none
  made_or_none : (s : plan.Initializer)
      → ((c : Core PlanEnd) × (cores_of records s ≡ c ∷ []) × (makes_instance s ≡ true))
      ⊎ ((cores_of records s ≡ []) × (makes_instance s ≡ false))
  made_or_none (plan.instantiate_static m args c) = inl (core_of m (slice_get records m) args, refl, refl)
  made_or_none (plan.instantiate_import r args c) = inl (of_host, refl, refl)
  made_or_none (plan.lower_import index r) = inr (refl, refl)
  made_or_none (plan.extract k n d) = inr (refl, refl)
  made_or_none (plan.declare_resource i rep d c) = inr (refl, refl)

  -- there are as many as steps make
  pub as_many : (steps : List plan.Initializer) → length (cores_in records steps) ≡ count_by makes_instance steps
  unfolding cores_in
  as_many [] = refl
  as_many (s ∷ steps) =
      let rest = as_many steps in
      let count = count_cons makes_instance s steps in
      let whole = ap length (flat_map-cons (cores_of records) s steps) in
      elim (made_or_none s) [
        | inl made ↦
            let counts : one (makes_instance s) ≡ 1 = ap one made.2 in
            let longer : length (cores_of records s ++ cores_in records steps) ≡ suc (length (cores_in records steps)) =
            ap (λ l. length (l ++ cores_in records steps)) made.1 in
            omega (arith, whole, longer, rest, count, counts)
        | inr none ↦
            let counts : one (makes_instance s) ≡ 0 = ap one none.1 in
            let as_long : length (cores_of records s ++ cores_in records steps) ≡ length (cores_in records steps) =
            ap (λ l. length (l ++ cores_in records steps)) none.0 in
            omega (arith, whole, as_long, rest, count, counts)
      ]

  -- the instance of a step stands behind those of the steps before it
  pub made_at : (steps : List plan.Initializer) (i : ℕ) (s : plan.Initializer) (c : Core PlanEnd)
      → slice_get steps i ≡ Some s → cores_of records s ≡ c ∷ []
      → slice_get (cores_in records steps) (count_by makes_instance (take i steps)) ≡ Some c
  unfolding cores_in
  made_at [] i s c at is = absurd (none-some s at)
  made_at (t ∷ steps) zero s c at is =
      let same = ap (cores_of records) (same_Some t s at) ∙ is in
      ap (λ l. slice_get l 0) (flat_map-cons (cores_of records) t steps ∙ ap (λ l. l ++ cores_in records steps) same)
  made_at (t ∷ steps) (suc i) s c at is =
      let rest = made_at steps i s c at is in
      let n = count_by makes_instance (take i steps) in
      let count = count_cons makes_instance t (take i steps) in
      let whole = flat_map-cons (cores_of records) t steps in
      elim (made_or_none t) [
        | inl made ↦
            let counts : one (makes_instance t) ≡ 1 = ap one made.2 in
            let place : count_by makes_instance (t ∷ take i steps) ≡ suc n = omega (arith, count, counts) in
            ap (slice_get (cores_in records (t ∷ steps))) place
            ∙ ap (λ l. slice_get l (suc n)) (whole ∙ ap (λ l. l ++ cores_in records steps) made.1) ∙ rest
        | inr none ↦
            let counts : one (makes_instance t) ≡ 0 = ap one none.1 in
            let place : count_by makes_instance (t ∷ take i steps) ≡ n = omega (arith, count, counts) in
            ap (slice_get (cores_in records (t ∷ steps))) place
            ∙ ap (λ l. slice_get l n) (whole ∙ ap (λ l. l ++ cores_in records steps) none.0) ∙ rest
      ]

-- the step that gives a module these arguments
pub instantiation : (m : ℕ) (s : plan.Initializer) (args : List plan.Definition) → arguments_in m s ≡ Some args
    → (c : Option ℕ) × (s ≡ plan.instantiate_static m args c)
instantiation m (plan.instantiate_static n others c) args is = by (n == m) refl is
  where
    by : (b : Bool) → (n == m) ≡ b → (if b then Some others else None) ≡ Some args
        → (c' : Option ℕ) × (plan.instantiate_static n others c ≡ plan.instantiate_static m args c')
    by true same there =
        let number = eqb-true n m same in
        let given = same_Some others args there in
        (c, λ i. plan.instantiate_static (number i) (given i) c)
    by false same there = absurd (none-some args there)
instantiation m (plan.instantiate_import r others c) args is = absurd (none-some args is)
instantiation m (plan.lower_import index r) args is = absurd (none-some args is)
instantiation m (plan.extract k n d) args is = absurd (none-some args is)
instantiation m (plan.declare_resource i rep d c) args is = absurd (none-some args is)
