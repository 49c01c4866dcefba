-- Where `==` of the parts is equality of values, so is `==` of the whole.
--     same_texts, same_lists, same_options, same_pairs      from an answer `true`
--     texts_tell, values_tell, lists_tell, options_tell     from either answer, as `grind` takes it
-- A type over texts and lists is exact by such a line, where `def_exact` is the law of the items' type `Def`:
--     Prim.grind (rules, texts_tell, lists_tell ⟦<Def as PartialEq>⟧.eq def_exact)
use Rattle.std.specs.Prelude.{◌≡◌, ◌⊎◌, ℕ, Bool, true, false, ◌&&◌, List, [], ◌∷◌, Option, None, Some, refl}
use Rattle.std.specs.Option.{option_eq}
use Rattle.std.proofs.Common.{ap, sym, inl, inr, true≢false}
use Rattle.std.specs.Str.{bytes_eq}
use Rattle.std.specs.Cmp.Lexicographic.{pointwise}
use Rattle.std.proofs.lemmas.Slice.Eq.{bytes_eq-Decides}

-- the parts of a conjunction
both_true : (a b : Bool) → (a && b) ≡ true → (a ≡ true) × (b ≡ true)
both_true true b h = (refl, h)
both_true false b h = absurd (true≢false (sym h))

-- a test that answers `true` of one value alone, by its answer
by_answer : {P : Type 0} (answer : Bool) → (answer ≡ true → P) → ((answer ≡ true) × P) ⊎ (answer ≡ false)
by_answer true told = inl (refl, told refl)
by_answer false told = inr refl

-- texts with the same bytes are the same text
pub same_texts : (a b : List ℕ) → bytes_eq a b ≡ true → a ≡ b
same_texts a b = (bytes_eq-Decides a b).0

-- what `==` of two texts tells
pub texts_tell : (a b : List ℕ) → ((bytes_eq a b ≡ true) × (a ≡ b)) ⊎ (bytes_eq a b ≡ false)
texts_tell a b = by_answer (bytes_eq a b) (same_texts a b)

module _ {A : Type 0} {E : A → A → Bool} (exact : (a b : A) → E a b ≡ true → a ≡ b) where
  -- lists with the same items are the same list
  pub same_lists : (xs ys : List A) → pointwise E xs ys ≡ true → xs ≡ ys
  same_lists [] [] h = refl
  same_lists [] (y ∷ ys) h = absurd (true≢false (sym h))
  same_lists (x ∷ xs) [] h = absurd (true≢false (sym h))
  same_lists (x ∷ xs) (y ∷ ys) h =
      let both = both_true (E x y) (pointwise E xs ys) h in
      let first = exact x y both.0 in
      let rest = same_lists xs ys both.1 in
      λ i. first i ∷ rest i

  -- options with the same value are the same option
  pub same_options : (a b : Option A) → option_eq E a b ≡ true → a ≡ b
  same_options None None h = refl
  same_options None (Some y) h = absurd (true≢false (sym h))
  same_options (Some x) None h = absurd (true≢false (sym h))
  same_options (Some x) (Some y) h = ap Some (exact x y h)

-- pairs of the same parts are the same pair
pub same_pairs : {A B : Type 0} {E : A → A → Bool} {F : B → B → Bool}
    → ((a b : A) → E a b ≡ true → a ≡ b) → ((a b : B) → F a b ≡ true → a ≡ b)
    → (p q : A × B) → (E p.0 q.0 && F p.1 q.1) ≡ true → p ≡ q
same_pairs {E = E} {F = F} first second p q h =
    let both = both_true (E p.0 q.0) (F p.1 q.1) h in
    let one = first p.0 q.0 both.0 in
    let two = second p.1 q.1 both.1 in
    λ i. (one i, two i)

module _ {A : Type 0} (E : A → A → Bool) (exact : (a b : A) → E a b ≡ true → a ≡ b) where
  -- what `==` of two values tells
  pub values_tell : (a b : A) → ((E a b ≡ true) × (a ≡ b)) ⊎ (E a b ≡ false)
  values_tell a b = by_answer (E a b) (exact a b)

  -- what `==` of two lists tells
  pub lists_tell : (xs ys : List A) → ((pointwise E xs ys ≡ true) × (xs ≡ ys)) ⊎ (pointwise E xs ys ≡ false)
  lists_tell xs ys = by_answer (pointwise E xs ys) (same_lists exact xs ys)

  -- what `==` of two options tells
  pub options_tell : (a b : Option A) → ((option_eq E a b ≡ true) × (a ≡ b)) ⊎ (option_eq E a b ≡ false)
  options_tell a b = by_answer (option_eq E a b) (same_options exact a b)
