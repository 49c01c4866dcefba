-- Lists whose items stand so, place by place.
use Rattle.std.proofs.Common.{◌≡◌, ℕ, zero, suc, List, [], ◌∷◌, ◌++◌, length, Option, None, Some, refl, sym, subst, ap}
use Rattle.std.specs.Prelude.{slice_get, option_and_then}
use Rattle.std.specs.List.{AllZip}
use Rattle.std.proofs.lemmas.Option.{none-some, same_Some}
use Rattle.pc_inline_names.specs.Both.{Both, both, neither}

-- an item at the end of each list
pub zip_push : {A B : Type 0} (R : A → B → Type 0) (xs : List A) (ys : List B) (x : A) (y : B)
    → AllZip R xs ys → R x y → AllZip R (xs ++ x ∷ []) (ys ++ y ∷ [])
zip_push R [] [] x y h r = (r, tt)
zip_push R [] (b ∷ ys) x y h r = absurd h
zip_push R (a ∷ xs) [] x y h r = absurd h
zip_push R (a ∷ xs) (b ∷ ys) x y h r = (h.0, zip_push R xs ys x y h.1 r)

-- a relation that follows from another
pub zip_more : {A B : Type 0} (R S : A → B → Type 0) → ((x : A) (y : B) → R x y → S x y) → (xs : List A) (ys : List B)
    → AllZip R xs ys → AllZip S xs ys
zip_more R S f [] [] h = h
zip_more R S f [] (y ∷ ys) h = h
zip_more R S f (x ∷ xs) [] h = h
zip_more R S f (x ∷ xs) (y ∷ ys) h = (f x y h.0, zip_more R S f xs ys h.1)

-- the lists are of one length
pub zip_length : {A B : Type 0} (R : A → B → Type 0) (xs : List A) (ys : List B) → AllZip R xs ys
    → length xs ≡ length ys
zip_length R [] [] h = refl
zip_length R [] (b ∷ ys) h = absurd h
zip_length R (a ∷ xs) [] h = absurd h
zip_length R (a ∷ xs) (b ∷ ys) h = ap suc (zip_length R xs ys h.1)

-- at each place both have an item, or neither has
pub zip_at : {A B : Type 0} (R : A → B → Type 0) (xs : List A) (ys : List B) (i : ℕ) → AllZip R xs ys
    → Both R (slice_get xs i) (slice_get ys i)
zip_at R [] [] i h = neither
zip_at R [] (b ∷ ys) i h = absurd h
zip_at R (a ∷ xs) [] i h = absurd h
zip_at R (a ∷ xs) (b ∷ ys) zero h = both h.0
zip_at R (a ∷ xs) (b ∷ ys) (suc i) h = zip_at R xs ys i h.1

-- what is there on one side is there on the other
pub both_there : {A B : Type 0} (R : A → B → Type 0) (o : Option A) (w : Option B) (x : A) → Both R o w → o ≡ Some x
    → (y : B) × (w ≡ Some y) × R x y
both_there R None w x m h = absurd (none-some x h)
both_there R (Some a) None x m h = elim m [ ]
both_there R (Some a) (Some b) x (both r) h = (b, refl, subst (λ z. R z b) (same_Some a x h) r)

-- what is missing on one side is missing on the other
pub both_missing : {A B : Type 0} (R : A → B → Type 0) (o : Option A) (w : Option B) → Both R o w → o ≡ None → w ≡ None
both_missing R None None m h = refl
both_missing R None (Some b) m h = elim m [ ]
both_missing R (Some a) w m h = absurd (none-some a (sym h))

-- a relation that follows from another
pub both_more : {A B : Type 0} (R S : A → B → Type 0) → ((x : A) (y : B) → R x y → S x y)
    → (o : Option A) (w : Option B)
    → Both R o w → Both S o w
both_more R S f None None m = neither
both_more R S f None (Some b) m = elim m [ ]
both_more R S f (Some a) None m = elim m [ ]
both_more R S f (Some a) (Some b) (both r) = both (f a b r)

module _ {A B C : Type 0} (R : A → B → Type 0) where
  -- what is found in both alike is alike
  pub found_alike : (f : A → Option C) (g : B → Option C) → ((x : A) (y : B) → R x y → g y ≡ f x) → (o : Option A)
      (w : Option B) → Both R o w → option_and_then g w ≡ option_and_then f o
  found_alike f g alike None None m = refl
  found_alike f g alike None (Some b) m = elim m [ ]
  found_alike f g alike (Some a) None m = elim m [ ]
  found_alike f g alike (Some a) (Some b) (both r) = alike a b r
