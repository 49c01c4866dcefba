-- A stable sort by numbers is the sort that puts each element in front of those that aren't lower.
use Rattle.std.proofs.Common.{◌≡◌, ℕ, zero, suc, ◌<◌, ◌≤◌, Bool, true, false, cond, List, [], ◌∷◌, length, get_or}
use Rattle.std.proofs.Common.{filter, nat_cmp, is_lt, refl, sym, ap, subst, ◌∙◌, arith, inl, inr, suc-le-suc, zero-le}
use Rattle.std.proofs.lemmas.Bool.{cond-true, cond-false, cases_Bool, leb-true, leb-false}
use Rattle.std.proofs.lemmas.Bool.Decides.{nat_tests}
use Rattle.std.specs.Prelude.{nat_le, if◌then◌else◌}
use Rattle.std.specs.List.Sorted.{ties, IsNonDecreasingBy, IsStableByKey}

-- two numbers tie where they are one
ties_at : (m n : ℕ) → (ties (λ x y. is_lt (nat_cmp x y)) m n ≡ true → m ≡ n)
    × (m ≡ n → ties (λ x y. is_lt (nat_cmp x y)) m n ≡ true)
ties_at m n = (λ h. grind (arith, nat_tests), λ h. grind (arith, nat_tests))

module _ {A : Type 0} (key : A → ℕ) where
  -- an element in front of those that aren't lower
  abbrev pub insert_by : A → List A → List A
  insert_by a [] = a ∷ []
  insert_by a (b ∷ bs) = if nat_le (key a) (key b) then a ∷ b ∷ bs else b ∷ insert_by a bs

  -- the elements by their numbers
  abbrev pub sort_by : List A → List A
  sort_by [] = []
  sort_by (a ∷ bs) = insert_by a (sort_by bs)

  pub insert_by-here : (a b : A) (bs : List A) → nat_le (key a) (key b) ≡ true → insert_by a (b ∷ bs) ≡ a ∷ b ∷ bs
  insert_by-here a b bs h = cond-true _ _ _ h

  pub insert_by-past : (a b : A) (bs : List A) → nat_le (key a) (key b) ≡ false
      → insert_by a (b ∷ bs) ≡ b ∷ insert_by a bs
  insert_by-past a b bs h = cond-false _ _ _ h

  -- whether two elements have one number
  abbrev same : A → A → Bool
  same = ties (λ x y. is_lt (nat_cmp (key x) (key y)))

  same-true : (x y : A) → same x y ≡ true → key x ≡ key y
  same-true x y = (ties_at (key x) (key y)).0

  same_from : (x y : A) → key x ≡ key y → same x y ≡ true
  same_from x y = (ties_at (key x) (key y)).1

  kept : (p : A → Bool) (y : A) (ys : List A) → p y ≡ true → filter p (y ∷ ys) ≡ y ∷ filter p ys
  kept p y ys h = cond-true _ _ _ h

  left_out : (p : A → Bool) (y : A) (ys : List A) → p y ≡ false → filter p (y ∷ ys) ≡ filter p ys
  left_out p y ys h = cond-false _ _ _ h

  -- elements of one number keep their order
  filter-insert_by : (x a : A) (bs : List A) → filter (same x) (insert_by a bs) ≡ filter (same x) (a ∷ bs)
  filter-insert_by x a [] = refl
  filter-insert_by x a (b ∷ bs) =
      let p = same x in
      elim (cases_Bool (nat_le (key a) (key b))) [
        | inl here ↦ ap (filter p) (insert_by-here a b bs here)
        | inr past ↦
            let below = leb-false (key a) (key b) past in
            ap (filter p) (insert_by-past a b bs past)
            ∙ elim (cases_Bool (p b)) [
              | inr without ↦
                  left_out p b (insert_by a bs) without ∙ filter-insert_by x a bs
                  ∙ ap (λ l. cond (p a) (a ∷ l) l) (sym (left_out p b bs without))
              | inl with ↦
                  elim (cases_Bool (p a)) [
                    | inl both ↦ absurd (omega (arith, below, same-true x a both, same-true x b with))
                    | inr only ↦
                        kept p b (insert_by a bs) with
                        ∙ ap (λ l. b ∷ l) (filter-insert_by x a bs ∙ left_out p a bs only)
                        ∙ sym (left_out p a (b ∷ bs) only ∙ kept p b bs with)
                  ]
            ]
      ]

  filter-sort_by : (x : A) (bs : List A) → filter (same x) (sort_by bs) ≡ filter (same x) bs
  filter-sort_by x [] = refl
  filter-sort_by x (a ∷ bs) =
      filter-insert_by x a (sort_by bs) ∙ ap (λ l. cond (same x a) (a ∷ l) l) (filter-sort_by x bs)

  -- none is below a number
  abbrev AreAtLeast : ℕ → List A → Type 0
  AreAtLeast n [] = Unit {0}
  AreAtLeast n (y ∷ ys) = (n ≤ key y) × AreAtLeast n ys

  -- none is below one before it
  abbrev Rises : List A → Type 0
  Rises [] = Unit {0}
  Rises (y ∷ ys) = AreAtLeast (key y) ys × Rises ys

  AreAtLeast-le : (n m : ℕ) (ys : List A) → n ≤ m → AreAtLeast m ys → AreAtLeast n ys
  AreAtLeast-le n m [] le h = tt
  AreAtLeast-le n m (y ∷ ys) le h = let first = h.0 in (omega arith, AreAtLeast-le n m ys le h.1)

  AreAtLeast-at : (n : ℕ) (d : A) (ys : List A) → ((j : ℕ) → j < length ys → n ≤ key (get_or ys j d))
      → AreAtLeast n ys
  AreAtLeast-at n d [] h = tt
  AreAtLeast-at n d (y ∷ ys) h =
      (h zero (suc-le-suc zero-le), AreAtLeast-at n d ys (λ j lt. h (suc j) (suc-le-suc lt)))

  Rises-from_sort : (ys : List A) → IsNonDecreasingBy key ys → Rises ys
  Rises-from_sort [] h = tt
  Rises-from_sort (y ∷ ys) h = (
    AreAtLeast-at (key y) y ys (λ j lt. h zero (suc j) y zero-le (suc-le-suc lt)),
    Rises-from_sort ys (λ i j d le lt. h (suc i) (suc j) d (suc-le-suc le) (suc-le-suc lt)),
  )

  AreAtLeast-insert_by : (n : ℕ) (a : A) (bs : List A) → n ≤ key a → AreAtLeast n bs → AreAtLeast n (insert_by a bs)
  AreAtLeast-insert_by n a [] le h = (le, tt)
  AreAtLeast-insert_by n a (b ∷ bs) le h =
      elim (cases_Bool (nat_le (key a) (key b))) [
        | inl here ↦ subst (AreAtLeast n) (sym (insert_by-here a b bs here)) (le, h)
        | inr past ↦
            subst (AreAtLeast n) (sym (insert_by-past a b bs past)) (h.0, AreAtLeast-insert_by n a bs le h.1)
      ]

  Rises-insert_by : (a : A) (bs : List A) → Rises bs → Rises (insert_by a bs)
  Rises-insert_by a [] h = (tt, tt)
  Rises-insert_by a (b ∷ bs) h =
      elim (cases_Bool (nat_le (key a) (key b))) [
        | inl here ↦
            let le = leb-true (key a) (key b) here in
            subst Rises (sym (insert_by-here a b bs here)) ((le, AreAtLeast-le (key a) (key b) bs le h.0), h)
        | inr past ↦
            let below = leb-false (key a) (key b) past in
            subst Rises (sym (insert_by-past a b bs past))
            (AreAtLeast-insert_by (key b) a bs (omega arith) h.0, Rises-insert_by a bs h.1)
      ]

  Rises-sort_by : (bs : List A) → Rises (sort_by bs)
  Rises-sort_by [] = tt
  Rises-sort_by (a ∷ bs) = Rises-insert_by a (sort_by bs) (Rises-sort_by bs)

  -- the number of x occurs among them
  AreAtLeast-found : (n : ℕ) (x : A) (ys : List A) (w : A) (ws : List A) → AreAtLeast n ys
      → filter (same x) ys ≡ w ∷ ws → n ≤ key x
  AreAtLeast-found n x [] w ws h e = cc
  AreAtLeast-found n x (y ∷ ys) w ws h e =
      elim (cases_Bool (same x y)) [
        | inl with ↦ omega (arith, h.0, same-true x y with)
        | inr without ↦ AreAtLeast-found n x ys w ws h.1 (sym (left_out (same x) y ys without) ∙ e)
      ]

  -- lists that rise are one where the elements of each number are
  same_from_numbers : (ys zs : List A) → Rises ys → Rises zs
      → ((x : A) → filter (same x) ys ≡ filter (same x) zs) → ys ≡ zs
  same_from_numbers [] [] left right equal = refl
  same_from_numbers [] (z ∷ zs) left right equal =
      let clash = equal z ∙ kept (same z) z zs (same_from z z refl) in cc
  same_from_numbers (y ∷ ys) [] left right equal =
      let clash = sym (equal y) ∙ kept (same y) y ys (same_from y y refl) in cc
  same_from_numbers (y ∷ ys) (z ∷ zs) left right equal =
      let at_y = kept (same y) y ys (same_from y y refl) in
      let at_z = kept (same z) z zs (same_from z z refl) in
      let up = AreAtLeast-found (key z) y (z ∷ zs) y _ (omega arith, right.0) (sym (equal y) ∙ at_y) in
      let down = AreAtLeast-found (key y) z (y ∷ ys) z _ (omega arith, left.0) (equal z ∙ at_z) in
      let heads = sym at_y ∙ equal y ∙ kept (same y) z zs (same_from y z (omega arith)) in
      let head : y ≡ z = cc in
      let tails : (x : A) → filter (same x) ys ≡ filter (same x) zs =
      λ x. elim (cases_Bool (same x y)) [
        | inl with ↦
            let both = sym (kept (same x) y ys with) ∙ equal x
            ∙ kept (same x) z zs (ap (same x) (sym head) ∙ with) in cc
        | inr without ↦
            sym (left_out (same x) y ys without) ∙ equal x
            ∙ left_out (same x) z zs (ap (same x) (sym head) ∙ without)
      ] in
      ap (λ w. w ∷ ys) head ∙ ap (λ l. z ∷ l) (same_from_numbers ys zs left.1 right.1 tails)

  -- what a stable sort makes of a list
  pub sort_by-from_sort : (xs ys : List A) → IsNonDecreasingBy key ys → IsStableByKey key nat_cmp xs ys
      → ys ≡ sort_by xs
  sort_by-from_sort xs ys rising stable =
      same_from_numbers ys (sort_by xs) (Rises-from_sort ys rising) (Rises-sort_by xs)
      (λ x. stable x ∙ sym (filter-sort_by x xs))
