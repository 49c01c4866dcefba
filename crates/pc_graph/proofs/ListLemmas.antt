-- Facts about lists that std leaves out.
use Rattle.std.proofs.Common.{◌≡◌, ℕ, ◌+◌, ◌<◌, ◌≤◌, Bool, true, false, List, [], ◌∷◌, ◌++◌, length, get_or, set, take}
use Rattle.std.proofs.Common.{drop, sym, ◌∙◌, ap, cond, append_assoc, arith}
use Rattle.std.specs.List.{filter}
use Rattle.std.proofs.lemmas.List.{drop_more, take_more_set, drop-set-lt}

module _ {X : Type 0} (test : X → Bool) where
  -- the next item is kept: it goes behind those that were kept before
  pub filter-kept : (xs ys : List X) (kept more place : ℕ) (x : X) → kept ≤ place → place < length xs
      → x ≡ get_or xs place x → test x ≡ true
      → ys ≡ set xs kept x → more ≡ kept + 1
      → take more ys ++ filter test (drop (place + 1) ys) ≡ take kept xs ++ filter test (drop place xs)
  filter-kept xs ys kept more place x below within is passes items one =
      let put = take_more_set xs kept x (omega arith) in
      let later = drop-set-lt (place + 1) xs kept x (omega arith) in
      let next = drop_more xs place x within in
      ap (λ zs. take more zs ++ filter test (drop (place + 1) zs)) items
      ∙ ap (λ k. take k (set xs kept x) ++ filter test (drop (place + 1) (set xs kept x))) one
      ∙ ap (λ ys. ys ++ filter test (drop (place + 1) (set xs kept x))) put
      ∙ ap (λ ys. (take kept xs ++ x ∷ []) ++ filter test ys) later
      ∙ append_assoc (take kept xs) (x ∷ []) (filter test (drop (place + 1) xs))
      ∙ ap (λ b. take kept xs ++ cond b (x ∷ filter test (drop (place + 1) xs)) (filter test (drop (place + 1) xs)))
      (sym passes)
      ∙ ap (λ y. take kept xs ++ filter test (y ∷ drop (place + 1) xs)) is
      ∙ ap (λ ys. take kept xs ++ filter test ys) (sym next)

  -- the next item is left out
  pub filter-left_out : (xs ys : List X) (kept same place : ℕ) (x : X) → place < length xs → x ≡ get_or xs place x
      → test x ≡ false
      → ys ≡ xs → same ≡ kept
      → take same ys ++ filter test (drop (place + 1) ys) ≡ take kept xs ++ filter test (drop place xs)
  filter-left_out xs ys kept same place x within is fails items none =
      let next = drop_more xs place x within in
      ap (λ zs. take same zs ++ filter test (drop (place + 1) zs)) items
      ∙ ap (λ k. take k xs ++ filter test (drop (place + 1) xs)) none
      ∙ ap (λ b. take kept xs ++ cond b (x ∷ filter test (drop (place + 1) xs)) (filter test (drop (place + 1) xs)))
      (sym fails)
      ∙ ap (λ y. take kept xs ++ filter test (y ∷ drop (place + 1) xs)) is
      ∙ ap (λ ys. take kept xs ++ filter test ys) (sym next)
