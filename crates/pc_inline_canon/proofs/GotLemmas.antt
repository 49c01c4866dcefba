-- What a look-up by number in a slice says of the list that it is a slice of.
use Rattle.std.proofs.Common.{◌≡◌, ◌≤◌, ◌<◌, ◌∙◌, ℕ, List, Option, Some, None, length, get_or, refl, sym, subst}
use Rattle.std.specs.Prelude.{slice_get}
use Rattle.std.proofs.lemmas.Option.{slice_get_past, slice_get_read}

module _ {A : Type 0} (xs ys : List A) (n : ℕ) (same : xs ≡ ys) where
  -- the number is too large
  pub got_none : length xs ≤ n → slice_get ys n ≡ None
  got_none past = subst (λ zs. slice_get zs n ≡ None) same (slice_get_past xs n past)

  -- the list has such an entry
  pub got_some : (x : A) → n < length xs → x ≡ get_or xs n x → slice_get ys n ≡ Some x
  got_some x below is = subst (λ zs. slice_get zs n ≡ Some x) same (slice_get_read xs (length xs) n x refl below is)

  -- what a call gave that looks up, and which of both it was
  pub got_by : (o r : Option A) → o ≡ slice_get xs n → o ≡ r → slice_get ys n ≡ r
  got_by o r by is = subst (λ zs. slice_get zs n ≡ r) same (sym by ∙ is)
