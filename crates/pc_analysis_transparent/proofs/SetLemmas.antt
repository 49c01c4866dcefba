-- Sets to which the numbers of lists are added.
use Rattle.std.proofs.Common.{◌≡◌, ◌<◌, ◌⊎◌, ◌+◌, ℕ, zero, suc, Bool, true, false, ◌||◌, List, [], ◌∷◌, ◌++◌, inl, inr}
use Rattle.std.proofs.Common.{take}
use Rattle.std.proofs.Common.{Some, refl, sym, ap, subst, ◌∙◌}
use Rattle.std.specs.Prelude.{slice_get}
use Rattle.std.specs.List.{Contains, flat_map, list_any}
use Rattle.std.specs.Cmp.{eq_by_cmp_equiv, nat_cmp_total, unsigned_tied}
use Rattle.std.specs.Ordering.{eq_by_cmp, nat_cmp}
use Rattle.std.specs.FinSet as set
use Rattle.std.proofs.lemmas.List.{take_more, append-nil}
use Rattle.std.proofs.lemmas.List.Concat.{flat_map-append, flat_map-cons}
use Rattle.std.proofs.lemmas.List.Elements.{All-contains, All-nil, Contains-append_cases, Contains-append_left}
use Rattle.std.proofs.lemmas.List.Elements.{Contains-append_right}
use Rattle.std.proofs.lemmas.Map.Views.{Contains-from_any, exact_unsigned_eq, list_any-from_Contains}
use Rattle.std.proofs.lemmas.Option.{get_or_from_slice_get, none-some, same_Some, slice_get_within}
use Rattle.pc_analysis_transparent.specs.Opened.{with_all}

-- the numbers of two lists are added one list after the other
pub with_both : (s : set.FinSet nat_cmp) (xs ys : List ℕ) → with_all s (xs ++ ys) ≡ with_all (with_all s xs) ys
unfolding with_all
with_both s [] ys = refl
with_both s (x ∷ xs) ys = with_both (set.insert s x) xs ys

-- where nothing is added a set stays
pub with_nothing : (s : set.FinSet nat_cmp) (ns : List ℕ) → ns ≡ [] → s ≡ with_all s ns
unfolding with_all
with_nothing s ns none = ap (with_all s) (sym none)

-- what was added to in two steps
pub with_next : (s t u : set.FinSet nat_cmp) (xs ys : List ℕ) → t ≡ with_all s xs → u ≡ with_all t ys
    → u ≡ with_all s (xs ++ ys)
with_next s t u xs ys first second = second ∙ ap (λ v. with_all v ys) first ∙ sym (with_both s xs ys)

-- those of one item more
pub with_more : {A : Type 0} (f : A → List ℕ) (xs : List A) (i : ℕ) (x : A) (s now next : set.FinSet nat_cmp)
    → slice_get xs i ≡ Some x → now ≡ with_all s (flat_map f (take i xs)) → next ≡ with_all now (f x)
    → next ≡ with_all s (flat_map f (take (i + 1) xs))
with_more f xs i x s now next at so_far is =
    let more : take (i + 1) xs ≡ take i xs ++ x ∷ [] =
    take_more xs i x (slice_get_within xs i x at)
    ∙ ap (λ y. take i xs ++ y ∷ []) (get_or_from_slice_get xs i x x at) in
    let flat : flat_map f (take (i + 1) xs) ≡ flat_map f (take i xs) ++ f x =
    ap (flat_map f) more ∙ flat_map-append f (take i xs) (x ∷ []) ∙ ap (λ l. flat_map f (take i xs) ++ l) (alone f x) in
    is ∙ ap (λ t. with_all t (f x)) so_far ∙ sym (with_both s (flat_map f (take i xs)) (f x))
    ∙ ap (with_all s) (sym flat)
  where
    alone : {A : Type 0} (f : A → List ℕ) (x : A) → flat_map f (x ∷ []) ≡ f x
    alone f x = append-nil (f x)

-- numbers that tie are one
pub tied_same : (m n : ℕ) → eq_by_cmp nat_cmp m n ≡ true → m ≡ n
tied_same m n tie = exact_unsigned_eq m n (sym (unsigned_tied m n) ∙ tie)

or_around : (a b c : Bool) → ((a || b) || c) ≡ (b || (a || c))
or_around true true c = refl
or_around true false c = refl
or_around false b c = refl

or_none : (a : Bool) → a ≡ (a || false)
or_none true = refl
or_none false = refl

-- which numbers are in such a set
has_all : (s : set.FinSet nat_cmp) (ns : List ℕ) (q : ℕ)
    → set.contains (with_all s ns) q ≡ (set.contains s q || list_any (eq_by_cmp nat_cmp q) ns)
unfolding with_all
has_all s [] q = or_none (set.contains s q)
has_all s (n ∷ ns) q =
    has_all (set.insert s n) ns q
    ∙ ap (λ b. b || list_any (eq_by_cmp nat_cmp q) ns) (set.contains-insert nat_cmp_total s n q)
    ∙ or_around (eq_by_cmp nat_cmp q n) (set.contains s q) (list_any (eq_by_cmp nat_cmp q) ns)

has_these : (ns : List ℕ) (q : ℕ)
    → set.contains (with_all set.empty ns) q ≡ list_any (eq_by_cmp nat_cmp q) ns
has_these ns q =
    has_all set.empty ns q ∙ ap (λ b. b || list_any (eq_by_cmp nat_cmp q) ns) (set.contains-empty nat_cmp q)

-- a set of the numbers of a list has these alone
pub there_if_listed : (ns : List ℕ) (q : ℕ) → Contains ns q → set.contains (with_all set.empty ns) q ≡ true
there_if_listed ns q listed = has_these ns q ∙ list_any-from_Contains (eq_by_cmp_equiv nat_cmp_total) q ns listed

pub listed_if_there : (ns : List ℕ) (q : ℕ) → set.contains (with_all set.empty ns) q ≡ true → Contains ns q
listed_if_there ns q there = Contains-from_any tied_same q ns (sym (has_these ns q) ∙ there)

-- an empty list contains nothing
pub none_listed : {A : Type 0} (x : A) → Contains [] x → ⊥
none_listed {A} x inside = All-contains (λ (z : A). ⊥) [] x (All-nil (λ (z : A). ⊥)) inside

-- what a function makes of the items of a list, it makes of one of them
pub made_of : {A B : Type 0} (f : A → List B) (xs : List A) (y : B) → Contains (flat_map f xs) y
    → (n : ℕ) × (x : A) × (slice_get xs n ≡ Some x) × Contains (f x) y
made_of {A} {B} f [] y inside = absurd (none_listed y inside)
made_of {A} {B} f (x ∷ xs) y inside =
    elim (Contains-append_cases (f x) (flat_map f xs) y (subst (λ l. Contains l y) (flat_map-cons f x xs) inside)) [
      | inl first ↦ (0, x, refl, first)
      | inr later ↦ let rest = made_of f xs y later in (suc rest.0, rest.1, rest.2, rest.3)
    ]

-- what it makes of one of them, it makes of the list
pub made_there : {A B : Type 0} (f : A → List B) (xs : List A) (n : ℕ) (x : A) (y : B) → slice_get xs n ≡ Some x
    → Contains (f x) y → Contains (flat_map f xs) y
made_there f [] n x y at inside = absurd (none-some x at)
made_there f (z ∷ xs) zero x y at inside =
    Contains-append_left (f z) (flat_map f xs) y (subst (λ w. Contains (f w) y) (sym (same_Some z x at)) inside)
made_there f (z ∷ xs) (suc n) x y at inside =
    Contains-append_right (f z) (flat_map f xs) y (made_there f xs n x y at inside)
