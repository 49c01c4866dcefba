-- What holds of items that stand at the same place in two lists.
use Rattle.std.proofs.Common.{◌≡◌, ℕ, ◌<◌, ◌+◌, List, [], ◌∷◌, ◌++◌, length, take, get_or, zero, suc, arith, sym, ap}
use Rattle.std.proofs.Common.{◌∙◌, subst}
use Rattle.std.specs.List.{AllZip}
use Rattle.std.proofs.lemmas.Grind.{take_at_read}

module _ {A B : Type 0} where
  -- one more of each
  pub all_zip_push : (R : A → B → Type 0) (xs : List A) (ys : List B) (x : A) (y : B)
      → AllZip R xs ys → R x y → AllZip R (xs ++ x ∷ []) (ys ++ y ∷ [])
  all_zip_push R [] [] x y h r = (r, tt)
  all_zip_push R [] (b ∷ ys) x y h r = absurd h
  all_zip_push R (a ∷ xs) [] x y h r = absurd h
  all_zip_push R (a ∷ xs) (b ∷ ys) x y h r = (h.0, all_zip_push R xs ys x y h.1 r)

  -- a step of a loop over the first list that makes the second
  pub all_zip_next : (R : A → B → Type 0) (xs : List A) (ys : List B) (i : ℕ) (x : A) (y : B) → i < length xs
      → x ≡ get_or xs i x
      → AllZip R (take i xs) ys → R x y → AllZip R (take (i + 1) xs) (ys ++ y ∷ [])
  all_zip_next R xs ys i x y within is h r =
      subst (λ l. AllZip R l (ys ++ y ∷ []))
      (sym ((take_at_read xs i x within).1 ∙ ap (λ z. take i xs ++ z ∷ []) (sym is)))
      (all_zip_push R (take i xs) ys x y h r)

  -- a weaker relation
  pub all_zip_more : (R S : A → B → Type 0) → ((x : A) (y : B) → R x y → S x y) → (xs : List A) (ys : List B)
      → AllZip R xs ys → AllZip S xs ys
  all_zip_more R S more [] [] h = tt
  all_zip_more R S more [] (y ∷ ys) h = absurd h
  all_zip_more R S more (x ∷ xs) [] h = absurd h
  all_zip_more R S more (x ∷ xs) (y ∷ ys) h = (more x y h.0, all_zip_more R S more xs ys h.1)

  -- an item of the first list has one at its place
  pub zip_here : (R : A → B → Type 0) (xs : List A) (ys : List B) (i : ℕ) (x : A) → i < length xs → x ≡ get_or xs i x
      → AllZip R xs ys → (y : B) × R x y
  zip_here R [] ys i x within is h = absurd (omega (arith, within))
  zip_here R (a ∷ xs) [] i x within is h = absurd h
  zip_here R (a ∷ xs) (b ∷ ys) zero x within is h = (b, subst (λ z. R z b) (sym is) h.0)
  zip_here R (a ∷ xs) (b ∷ ys) (suc i) x within is h = zip_here R xs ys i x (omega (arith, within)) is h.1
