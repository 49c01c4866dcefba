-- What is in a list, and in what is made of it.
use Rattle.std.proofs.Common.{◌≡◌, ◌⊎◌, ℕ, zero, suc, Bool, true, false, List, [], ◌∷◌, ◌++◌, inl, inr, Option, None}
use Rattle.std.proofs.Common.{Some}
use Rattle.std.proofs.Common.{refl, sym, ap, subst, ◌∙◌, arith, true≢false}
use Rattle.std.specs.Prelude.{filter, filter_map, slice_get, if◌then◌else◌}
use Rattle.std.specs.List.{AllZip, Contains, cons_option, flat_map}
use Rattle.std.proofs.lemmas.List.Concat.{flat_map-cons}
use Rattle.std.proofs.lemmas.List.Elements.{All-contains, All-nil, Contains-append_cases, Contains-append_left}
use Rattle.std.proofs.lemmas.List.Elements.{Contains-append_right}
use Rattle.std.proofs.lemmas.Option.{get_or_from_slice_get, slice_get-get_or, slice_get_within}

-- what stands at a place is in the list, and what is in the list stands at a place
pub found_contained : {A : Type 0} (xs : List A) (i : ℕ) (x : A) → slice_get xs i ≡ Some x → Contains xs x
found_contained xs i x at = (i, slice_get_within xs i x at, get_or_from_slice_get xs i x x at)

pub contained_at : {A : Type 0} (xs : List A) (x : A) → Contains xs x → (i : ℕ) × (slice_get xs i ≡ Some x)
contained_at xs x (k, below, is) = (k, slice_get-get_or xs k x below ∙ ap Some is)

-- an empty list contains nothing, a list of one that alone
pub none_in : {A : Type 0} (x : A) → Contains [] x → ⊥
none_in {A} x inside = All-contains (λ (z : A). ⊥) [] x (All-nil (λ (z : A). ⊥)) inside

pub here_in : {A : Type 0} (x : A) (xs : List A) → Contains (x ∷ xs) x
here_in x xs = (0, omega arith, refl)

pub later_in : {A : Type 0} (x y : A) (xs : List A) → Contains xs y → Contains (x ∷ xs) y
later_in x y xs inside = Contains-append_right (x ∷ []) xs y inside

pub first_or_later : {A : Type 0} (x y : A) (xs : List A) → Contains (x ∷ xs) y → (x ≡ y) ⊎ Contains xs y
first_or_later x y xs (zero, below, is) = inl is
first_or_later x y xs (suc k, below, is) = inr (k, omega (arith, below), is)

pub one_in : {A : Type 0} (x y : A) → Contains (x ∷ []) y → x ≡ y
one_in x y inside = elim (first_or_later x y [] inside) as (λ _. x ≡ y) [
  | inl is ↦ is
  | inr none ↦ absurd (none_in y none)
]

-- what a function makes of the items of a list, it makes of one of them, and the other way round
pub made_of : {A B : Type 0} (f : A → List B) (xs : List A) (y : B) → Contains (flat_map f xs) y
    → (x : A) × Contains xs x × Contains (f x) y
made_of f [] y inside = absurd (none_in y inside)
made_of f (x ∷ xs) y inside =
    elim (Contains-append_cases (f x) (flat_map f xs) y (subst (λ l. Contains l y) (flat_map-cons f x xs) inside)) [
      | inl first ↦ (x, here_in x xs, first)
      | inr rest ↦ let of = made_of f xs y rest in (of.0, later_in x of.0 xs of.1, of.2)
    ]

pub made_from : {A B : Type 0} (f : A → List B) (xs : List A) (x : A) (y : B) → Contains xs x → Contains (f x) y
    → Contains (flat_map f xs) y
made_from f [] x y there inside = absurd (none_in x there)
made_from f (z ∷ xs) x y there inside =
    subst (λ l. Contains l y) (sym (flat_map-cons f z xs))
    (elim (first_or_later z x xs there) as (λ _. Contains (f z ++ flat_map f xs) y) [
      | inl same ↦ Contains-append_left (f z) (flat_map f xs) y (subst (λ w. Contains (f w) y) (sym same) inside)
      | inr later ↦ Contains-append_right (f z) (flat_map f xs) y (made_from f xs x y later inside)
    ])

-- what a filter keeps
kept_by : {A : Type 0} (p : A → Bool) (z : A) (xs : List A) (x : A) → (Contains (filter p xs) x → Contains xs x)
    → (b : Bool) → p z ≡ b → Contains (filter p (z ∷ xs)) x → Contains (z ∷ xs) x
kept_by p z xs x rest true is inside =
    let kept : Contains (z ∷ filter p xs) x =
    subst (λ c. Contains (if c then z ∷ filter p xs else filter p xs) x) is inside in
    elim (first_or_later z x (filter p xs) kept) as (λ _. Contains (z ∷ xs) x) [
      | inl same ↦ subst (Contains (z ∷ xs)) same (here_in z xs)
      | inr later ↦ later_in z x xs (rest later)
    ]
kept_by p z xs x rest false is inside =
    later_in z x xs (rest (subst (λ c. Contains (if c then z ∷ filter p xs else filter p xs) x) is inside))

pub kept_in : {A : Type 0} (p : A → Bool) (xs : List A) (x : A) → Contains (filter p xs) x → Contains xs x
kept_in p [] x inside = inside
kept_in p (z ∷ xs) x inside = kept_by p z xs x (kept_in p xs x) (p z) refl inside

by_kept : {A : Type 0} (p : A → Bool) (z : A) (xs : List A) (x : A) → p x ≡ true
    → (Contains xs x → Contains (filter p xs) x) → (b : Bool) → p z ≡ b → Contains (z ∷ xs) x
    → Contains (filter p (z ∷ xs)) x
by_kept p z xs x passes rest true is there =
    subst (λ c. Contains (if c then z ∷ filter p xs else filter p xs) x) (sym is)
    (elim (first_or_later z x xs there) as (λ _. Contains (z ∷ filter p xs) x) [
      | inl same ↦ subst (Contains (z ∷ filter p xs)) same (here_in z (filter p xs))
      | inr later ↦ later_in z x (filter p xs) (rest later)
    ])
by_kept p z xs x passes rest false is there =
    subst (λ c. Contains (if c then z ∷ filter p xs else filter p xs) x) (sym is)
    (elim (first_or_later z x xs there) as (λ _. Contains (filter p xs) x) [
      | inl same ↦ absurd (true≢false (sym passes ∙ ap p (sym same) ∙ is))
      | inr later ↦ rest later
    ])

pub in_kept : {A : Type 0} (p : A → Bool) (xs : List A) (x : A) → Contains xs x → p x ≡ true
    → Contains (filter p xs) x
in_kept p [] x there passes = there
in_kept p (z ∷ xs) x there passes =
    by_kept p z xs x passes (λ later. in_kept p xs x later passes) (p z) refl there

-- what a function gives of one of a list
given_by : {A B : Type 0} (f : A → Option B) (z : A) (xs : List A) (y : B)
    → (Contains (filter_map f xs) y → (x : A) × Contains xs x × (f x ≡ Some y)) → (o : Option B) → f z ≡ o
    → Contains (cons_option o (filter_map f xs)) y → (x : A) × Contains (z ∷ xs) x × (f x ≡ Some y)
given_by f z xs y rest None is inside = let of = rest inside in (of.0, later_in z of.0 xs of.1, of.2)
given_by f z xs y rest (Some w) is inside = elim (first_or_later w y (filter_map f xs) inside) [
  | inl same ↦ (z, here_in z xs, is ∙ ap Some same)
  | inr later ↦ let of = rest later in (of.0, later_in z of.0 xs of.1, of.2)
]

pub given_of : {A B : Type 0} (f : A → Option B) (xs : List A) (y : B) → Contains (filter_map f xs) y
    → (x : A) × Contains xs x × (f x ≡ Some y)
given_of f [] y inside = absurd (none_in y inside)
given_of f (z ∷ xs) y inside = given_by f z xs y (given_of f xs y) (f z) refl inside

behind_given : {B : Type 0} (o : Option B) (ys : List B) (y : B) → Contains ys y → Contains (cons_option o ys) y
behind_given None ys y inside = inside
behind_given (Some w) ys y inside = later_in w y ys inside

pub given_from : {A B : Type 0} (f : A → Option B) (xs : List A) (x : A) (y : B) → Contains xs x → f x ≡ Some y
    → Contains (filter_map f xs) y
given_from f [] x y there is = absurd (none_in x there)
given_from f (z ∷ xs) x y there is =
    elim (first_or_later z x xs there) as (λ _. Contains (filter_map f (z ∷ xs)) y) [
      | inl same ↦
          subst (λ o. Contains (cons_option o (filter_map f xs)) y) (sym (ap f same ∙ is))
          (here_in y (filter_map f xs))
      | inr later ↦ behind_given (f z) (filter_map f xs) y (given_from f xs x y later is)
    ]

-- two lists item by item
pub zip_left : {A B : Type 0} (R : A → B → Type 0) (xs : List A) (ys : List B) (x : A) → AllZip R xs ys
    → Contains xs x → (y : B) × Contains ys y × R x y
zip_left R [] ys x zip inside = absurd (none_in x inside)
zip_left R (z ∷ xs) [] x zip inside = absurd zip
zip_left R (z ∷ xs) (y ∷ ys) x zip inside = elim (first_or_later z x xs inside) [
  | inl same ↦ (y, here_in y ys, subst (λ w. R w y) same zip.0)
  | inr later ↦ let of = zip_left R xs ys x zip.1 later in (of.0, later_in y of.0 ys of.1, of.2)
]

pub zip_right : {A B : Type 0} (R : A → B → Type 0) (xs : List A) (ys : List B) (y : B) → AllZip R xs ys
    → Contains ys y → (x : A) × Contains xs x × R x y
zip_right R xs [] y zip inside = absurd (none_in y inside)
zip_right R [] (w ∷ ys) y zip inside = absurd zip
zip_right R (x ∷ xs) (w ∷ ys) y zip inside = elim (first_or_later w y ys inside) [
  | inl same ↦ (x, here_in x xs, subst (R x) same zip.0)
  | inr later ↦ let of = zip_right R xs ys y zip.1 later in (of.0, later_in x of.0 xs of.1, of.2)
]
