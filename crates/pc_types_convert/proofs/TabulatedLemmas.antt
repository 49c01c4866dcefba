-- A list with a place for each entry against the map that holds the types.
use Rattle.std.proofs.Common.{◌≡◌, ℕ, ◌<◌, ◌≤◌, ◌+◌, zero, suc, Bool, true, false, List, [], ◌∷◌, length, take, Option}
use Rattle.std.proofs.Common.{Some, None, refl, sym, ap, ◌∙◌, subst, arith, if◌then◌else◌, ◌==◌, replicate, true≢false}
use Rattle.std.specs.Prelude.{is_some, option_and_then, slice_get, slice_set}
use Rattle.std.specs.Ordering.{nat_cmp}
use Rattle.std.specs.BTreeMap.{BTreeMap, Updates, get}
use Rattle.std.specs.Cmp.{unsigned_tied, nat_eq_equiv}
use Rattle.std.proofs.lemmas.Bool.{eqb-true, eq-eqb}
use Rattle.std.proofs.lemmas.Option.{none-some, same_Some, slice_get_within}
use Rattle.pc_types.specs.declared.types.TypeDef.{TypeDef}
use Rattle.pc_types_convert.specs.Needed.{IsDone}
use Rattle.pc_types_convert.specs.Tabulated.{tabulated}

-- it has so many values
pub tabulated_length : {A : Type 0} (f : ℕ → A) (i n : ℕ) → length (tabulated f i n) ≡ n
tabulated_length f i zero = refl
tabulated_length f i (suc n) = omega (arith, tabulated_length f (i + 1) n)

-- what stands at a place
tabulated_at : {A : Type 0} (f : ℕ → A) (i n k : ℕ) → k < n → slice_get (tabulated f i n) k ≡ Some (f (i + k))
tabulated_at f i zero k within = absurd (omega (arith, within))
tabulated_at f i (suc n) zero within = ap (λ m. Some (f m)) (omega arith)
tabulated_at f i (suc n) (suc k) within =
    tabulated_at f (i + 1) n k (omega (arith, within)) ∙ ap (λ m. Some (f m)) (omega arith)

-- the value of a number stands at its place
pub tabulated_here : {A : Type 0} (f : ℕ → A) (n k : ℕ) → k < n → slice_get (tabulated f 0 n) k ≡ Some (f k)
tabulated_here f n k within = tabulated_at f 0 n k within ∙ ap (λ m. Some (f m)) (omega arith)

-- where the values are the same, the lists are
tabulated_same : {A : Type 0} (f g : ℕ → A) (i n : ℕ) → ((k : ℕ) → i + k < i + n → f (i + k) ≡ g (i + k))
    → tabulated f i n ≡ tabulated g i n
tabulated_same f g i zero same = refl
tabulated_same f g i (suc n) same =
    let here : f i ≡ g i = subst (λ m. f m ≡ g m) (omega arith) (same 0 (omega arith)) in
    let rest = tabulated_same f g (i + 1) n
    (λ k less. subst (λ m. f m ≡ g m) (omega arith) (same (k + 1) (omega (arith, less)))) in
    λ p. here p ∷ rest p

-- what a number has where one number is set
abbrev pub set_at : {A : Type 0} → (ℕ → Option A) → ℕ → Option A → ℕ → Option A
set_at f n x q = if q == n then x else f q

-- another number keeps its value
pub other_kept : {A : Type 0} (f : ℕ → Option A) (n : ℕ) (x : Option A) (q : ℕ) → (q ≡ n → ⊥) → set_at f n x q ≡ f q
other_kept f n x q differs = by (q == n) (λ same. differs (eqb-true q n same))
  where
    by : (b : Bool) → (b ≡ true → ⊥) → (if b then x else f q) ≡ f q
    by true differ = absurd (differ refl)
    by false differ = refl

-- one place is written where one number is set
tabulated_set : {A : Type 0} (f : ℕ → Option A) (i n k : ℕ) (x : Option A)
    → tabulated (set_at f (i + k) x) i n ≡ slice_set (tabulated f i n) k x
tabulated_set f i zero k x = refl
tabulated_set f i (suc n) zero x =
    let here : set_at f (i + 0) x i ≡ x = ap (λ b. if b then x else f i) (eq-eqb i (i + 0) (omega arith)) in
    let rest : tabulated (set_at f (i + 0) x) (i + 1) n ≡ tabulated f (i + 1) n =
    tabulated_same (set_at f (i + 0) x) f (i + 1) n
    (λ k less. other_kept f (i + 0) x ((i + 1) + k) (λ same. omega (arith, same))) in
    λ p. here p ∷ rest p
tabulated_set f i (suc n) (suc k) x =
    let here : set_at f (i + suc k) x i ≡ f i = other_kept f (i + suc k) x i (λ same. omega (arith, same)) in
    let rest : tabulated (set_at f (i + suc k) x) (i + 1) n ≡ slice_set (tabulated f (i + 1) n) k x =
    subst (λ m. tabulated (set_at f m x) (i + 1) n ≡ slice_set (tabulated f (i + 1) n) k x) (omega arith)
    (tabulated_set f (i + 1) n k x) in
    λ p. here p ∷ rest p

-- what a number has in the map after a change
pub set_in_map : {A : Type 0} (m n : BTreeMap ℕ A) (k : ℕ) (x : Option A) → Updates nat_cmp m n k x → (q : ℕ)
    → get nat_cmp n q ≡ set_at (get nat_cmp m) k x q
set_in_map m n k x updates q =
    updates.0 q ∙ (λ i. if (unsigned_tied k q ∙ nat_eq_equiv.symm k q) i then x else get nat_cmp m q)

-- one place is written where one number changes
pub tabulated_put : {A : Type 0} (f g : ℕ → Option A) (k : ℕ) (x : Option A) → ((q : ℕ) → g q ≡ set_at f k x q)
    → (room : ℕ) → tabulated g 0 room ≡ slice_set (tabulated f 0 room) k x
tabulated_put f g k x changes room =
    tabulated_same g (set_at f k x) 0 room (λ q less. changes (0 + q))
    ∙ ap (λ p. tabulated (set_at f p x) 0 room) (omega arith)
    ∙ tabulated_set f 0 room k x

-- a value that is found is that of its number
pub tabulated_found : {A : Type 0} (f : ℕ → A) (n k : ℕ) (x : A) → slice_get (tabulated f 0 n) k ≡ Some x
    → (k < n) × (f k ≡ x)
tabulated_found f n k x found =
    let within : k < n = omega (arith, slice_get_within (tabulated f 0 n) k x found, tabulated_length f 0 n) in
    (within, same_Some (f k) x (sym (tabulated_here f n k within) ∙ found))

-- the same value stands everywhere where each number has it
pub tabulated_alike : {A : Type 0} (x : A) (i n : ℕ) → tabulated (λ q. x) i n ≡ replicate n x
tabulated_alike x i zero = refl
tabulated_alike x i (suc n) = ap (λ l. x ∷ l) (tabulated_alike x (i + 1) n)

-- an item in front of a place is found among those in front
pub front_at : {A : Type 0} (xs : List A) (k n : ℕ) → n < k → slice_get (take k xs) n ≡ slice_get xs n
front_at [] zero n below = refl
front_at [] (suc k) n below = refl
front_at (x ∷ xs) zero n below = absurd (omega (arith, below))
front_at (x ∷ xs) (suc k) zero below = refl
front_at (x ∷ xs) (suc k) (suc n) below = front_at xs k n (omega (arith, below))

-- none stands behind them
pub front_past : {A : Type 0} (xs : List A) (k n : ℕ) → k ≤ n → slice_get (take k xs) n ≡ None
front_past [] zero n past = refl
front_past [] (suc k) n past = refl
front_past (x ∷ xs) zero n past = refl
front_past (x ∷ xs) (suc k) zero past = absurd (omega (arith, past))
front_past (x ∷ xs) (suc k) (suc n) past = front_past xs k n (omega (arith, past))

-- what a look-up answers is the type that stands there
pub found_there : {A : Type 0} (o : Option (Option A)) (r : Option A) (d : A) → r ≡ option_and_then (λ x. x) o
    → o ≡ Some (Some d) → r ≡ Some d
found_there o r d is at = is ∙ ap (option_and_then (λ x. x)) at

-- where a look-up finds a type, it stands there
pub stands_there : {A : Type 0} (o : Option (Option A)) (d : A) → option_and_then (λ x. x) o ≡ Some d
    → o ≡ Some (Some d)
stands_there None d h = absurd (none-some d h)
stands_there (Some None) d h = absurd (none-some d h)
stands_there (Some (Some e)) d h = ap Some h

-- an entry is done where a look-up finds a type
pub done_there : (done : List (Option TypeDef)) (n : ℕ) (r : Option TypeDef)
    → r ≡ option_and_then (λ x. x) (slice_get done n) → is_some r ≡ true → IsDone done n
done_there done n None is h = absurd (true≢false (sym h))
done_there done n (Some d) is h = (d, stands_there (slice_get done n) d (sym is))

-- and where it finds none, it isn't
pub none_there : (done : List (Option TypeDef)) (n : ℕ) (r : Option TypeDef)
    → r ≡ option_and_then (λ x. x) (slice_get done n) → is_some r ≡ false → IsDone done n → ⊥
none_there done n r is h there =
    true≢false (sym (ap is_some (found_there (slice_get done n) r there.0 is there.1)) ∙ h)
