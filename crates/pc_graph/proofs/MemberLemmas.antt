-- What a list contains.
use Rattle.std.proofs.Common.{◌≡◌, ◌⊎◌, ℕ, zero, suc, List, [], ◌∷◌, ◌++◌, slice_get, Some, reverse, refl, sym, ◌∙◌, ap}
use Rattle.std.proofs.Common.{subst, inl, inr, arith}
use Rattle.std.specs.List.{All, Contains}
use Rattle.pc_entity.specs.Lists.{AreDistinct}
use Rattle.std.proofs.lemmas.List.{reverse-append, reverse-reverse}
use Rattle.std.proofs.lemmas.List.Elements.{All-head, All-tail, All-push, All-same, Contains-append_left}
use Rattle.std.proofs.lemmas.List.Elements.{Contains-append_right, Contains-append_cases}

module _ {X : Type 0} where
  -- an empty list contains nothing
  pub contains_none : (x : X) → Contains [] x → ⊥
  contains_none x h = absurd (omega (arith, h.1))

  -- a list contains its first item
  pub contains_first : (xs : List X) (x : X) → Contains (x ∷ xs) x
  contains_first xs x = (0, omega arith, refl)

  -- a list contains what its rest contains
  pub contains_later : (xs : List X) (y x : X) → Contains xs x → Contains (y ∷ xs) x
  contains_later xs y x h = Contains-append_right (y ∷ []) xs x h

  -- a list of one item contains no other
  contains_one : (y x : X) → Contains (y ∷ []) x → x ≡ y
  contains_one y x (zero, within, is) = sym is
  contains_one y x (suc k, within, is) = absurd (omega arith)

  -- what a list contains is its first item, or stands in the rest
  pub contains_cases : (xs : List X) (y x : X) → Contains (y ∷ xs) x → (x ≡ y) ⊎ Contains xs x
  contains_cases xs y x h = elim (Contains-append_cases (y ∷ []) xs x h)
      [ inl one ↦ inl (contains_one y x one) | inr more ↦ inr more ]

  -- a reversed list contains the same
  pub contains_reversed : (xs : List X) (x : X) → Contains xs x → Contains (reverse xs) x
  contains_reversed [] x h = h
  contains_reversed (y ∷ ys) x h =
      let P : List X → Type 0 = λ zs. Contains zs x in
      subst P (sym (reverse-append (y ∷ []) ys))
      (elim (contains_cases ys y x h) [
        | inl one ↦ Contains-append_right (reverse ys) (y ∷ []) x
            (subst (λ z. Contains (z ∷ []) x) one (contains_first [] x))
        | inr more ↦ Contains-append_left (reverse ys) (y ∷ []) x (contains_reversed ys x more)
      ])

  -- a list contains what its reverse contains
  pub contains_from_reversed : (xs : List X) (x : X) → Contains (reverse xs) x → Contains xs x
  contains_from_reversed xs x h =
      let P : List X → Type 0 = λ zs. Contains zs x in
      subst P (reverse-reverse xs) (contains_reversed (reverse xs) x h)

  -- what is true of all items is true of them in reverse
  pub all_reversed : (P : X → Type 0) (xs : List X) → All P xs → All P (reverse xs)
  all_reversed P [] h = h
  all_reversed P (x ∷ xs) h =
      All-same P (reverse (x ∷ xs)) (reverse xs ++ x ∷ []) (reverse-append (x ∷ []) xs)
      (All-push P (reverse xs) x (all_reversed P xs (All-tail P x xs h)) (All-head P x xs h))

  -- what is found at a place is contained
  pub contains_got : (xs : List X) (i : ℕ) (x : X) → slice_get xs i ≡ Some x → Contains xs x
  contains_got [] i x h = cc
  contains_got (y ∷ ys) zero x h =
      let P : X → Type 0 = λ z. Contains (z ∷ ys) x in
      let same : x ≡ y = cc in
      subst P same (contains_first ys x)
  contains_got (y ∷ ys) (suc i) x h = contains_later ys y x (contains_got ys i x h)

  -- a new item leaves a list distinct
  pub distinct_more : (xs : List X) (x : X) → AreDistinct xs → (Contains xs x → ⊥) → AreDistinct (x ∷ xs)
  distinct_more xs x distinct fresh zero zero y first second = refl
  distinct_more xs x distinct fresh zero (suc j) y first second =
      absurd (fresh (contains_got xs j x (second ∙ sym first)))
  distinct_more xs x distinct fresh (suc i) zero y first second =
      absurd (fresh (contains_got xs i x (first ∙ sym second)))
  distinct_more xs x distinct fresh (suc i) (suc j) y first second = ap suc (distinct i j y first second)

  -- what is contained is found at a place
  pub contains_place : (xs : List X) (x : X) → Contains xs x → (k : ℕ) × (slice_get xs k ≡ Some x)
  contains_place [] x h = absurd (contains_none x h)
  contains_place (y ∷ ys) x h = elim (contains_cases ys y x h) [
    | inl one ↦ (0, ap Some (sym one))
    | inr more ↦ (let (k, is) = contains_place ys x more in (suc k, is))
  ]
