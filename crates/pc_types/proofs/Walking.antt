-- One step of a loop that tests each item of a list.
use Rattle.std.proofs.Common.{◌≡◌, ◌<◌, ◌+◌, ℕ, Bool, true, false, ◌&&◌, List, ◌∷◌, length, get_or, drop, suc, sym, ap}
use Rattle.std.proofs.Common.{◌∙◌}
use Rattle.std.specs.List.{list_all}
use Rattle.std.proofs.Math.Numerals.{add-one}
use Rattle.std.proofs.Math.Seq.{drop-cons}

module _ {A : Type 0} (p : A → Bool) (items : List A) (i : ℕ) (x : A)
    (within : i < length items) (is : x ≡ get_or items i x) where
  -- what is left is x and what is left after it
  pub drop-step : drop i items ≡ x ∷ drop (i + 1) items
  drop-step =
      drop-cons items i x within ∙ ap (λ y. y ∷ drop (suc i) items) (sym is)
      ∙ ap (λ n. x ∷ drop n items) (sym (add-one i))

  -- all are known to fail where x does
  pub all_fail : (found : Bool) → found ≡ p x → found ≡ false → list_all p (drop i items) ≡ list_all p items
      → false ≡ list_all p items
  all_fail found test fails left =
      sym (ap (λ b. b && list_all p (drop (i + 1) items)) (sym test ∙ fails)) ∙ ap (list_all p) (sym drop-step) ∙ left

  -- where x passes it is up to those after it
  pub all_go_on : (found : Bool) → found ≡ p x → found ≡ true → list_all p (drop i items) ≡ list_all p items
      → list_all p (drop (i + 1) items) ≡ list_all p items
  all_go_on found test passes left =
      sym (ap (λ b. b && list_all p (drop (i + 1) items)) (sym test ∙ passes)) ∙ ap (list_all p) (sym drop-step) ∙ left
