-- Relations of the items of two lists, place by place.
use Rattle.std.proofs.Common.{◌≡◌, List, [], ◌∷◌, refl}
use Rattle.std.specs.List.{AllZip}

-- a relation that follows from another
pub zip_more : {A B : Type 0} (R S : A → B → Type 0) → ((x : A) (y : B) → R x y → S x y) → (xs : List A) (ys : List B)
    → AllZip R xs ys → AllZip S xs ys
zip_more R S f [] [] h = h
zip_more R S f [] (y ∷ ys) h = h
zip_more R S f (x ∷ xs) [] h = h
zip_more R S f (x ∷ xs) (y ∷ ys) h = (f x y h.0, zip_more R S f xs ys h.1)

-- a relation by which each item has one partner gives each list one partner
pub zip_unique : {A B : Type 0} (R : A → B → Type 0) → ((x : A) (y z : B) → R x y → R x z → y ≡ z) → (xs : List A)
    (ys zs : List B) → AllZip R xs ys → AllZip R xs zs → ys ≡ zs
zip_unique R f [] [] [] a b = refl
zip_unique R f [] [] (z ∷ zs) a b = absurd b
zip_unique R f [] (y ∷ ys) zs a b = absurd a
zip_unique R f (x ∷ xs) [] zs a b = absurd a
zip_unique R f (x ∷ xs) (y ∷ ys) [] a b = absurd b
zip_unique R f (x ∷ xs) (y ∷ ys) (z ∷ zs) a b =
    let first = f x y z a.0 b.0 in
    let rest = zip_unique R f xs ys zs a.1 b.1 in
    λ i. first i ∷ rest i
