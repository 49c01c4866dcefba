-- Adapters by their numbers, as a stable sort leaves them.
use Rattle.std.proofs.Common.{◌≡◌, ℕ, List, [], ◌∷◌, map, nat_cmp, refl, sym, ap, ◌∙◌, inl, inr}
use Rattle.std.proofs.lemmas.Bool.{cond-true, cond-false, cases_Bool}
use Rattle.std.specs.Prelude.{nat_le}
use Rattle.std.specs.List.Sorted.{IsNonDecreasingBy, IsStableByKey}
use Rattle.pc_spec_plan.specs.PlanView.{AdapterRecord}
use Rattle.pc_spec_plan.specs.Text.{by_number, insert_adapter}
use Rattle.pc_trampoline.specs.declared.part.Mark.{Mark}
use Rattle.pc_text.proofs.Sorting.{insert_by, insert_by-here, insert_by-past, sort_by, sort_by-from_sort}

module _ {A : Type 0} (f : A → AdapterRecord Mark) where
  -- the number of the adapter
  abbrev key : A → ℕ
  key x = (f x).adapter

  map-insert_by : (a : A) (bs : List A) → map f (insert_by key a bs) ≡ insert_adapter (f a) (map f bs)
  map-insert_by a [] = refl
  map-insert_by a (b ∷ bs) =
      elim (cases_Bool (nat_le (key a) (key b))) [
        | inl here ↦ ap (map f) (insert_by-here key a b bs here) ∙ sym (cond-true _ _ _ here)
        | inr past ↦
            ap (map f) (insert_by-past key a b bs past) ∙ ap (λ l. f b ∷ l) (map-insert_by a bs)
            ∙ sym (cond-false _ _ _ past)
      ]

  map-sort_by : (bs : List A) → map f (sort_by key bs) ≡ by_number (map f bs)
  map-sort_by [] = refl
  map-sort_by (a ∷ bs) = map-insert_by a (sort_by key bs) ∙ ap (insert_adapter (f a)) (map-sort_by bs)

  -- what a stable sort by the numbers leaves
  pub by_number-from_sort : (xs ys : List A) → IsNonDecreasingBy (λ (x : A). (f x).adapter) ys
      → IsStableByKey (λ (x : A). (f x).adapter) nat_cmp xs ys
      → map f ys ≡ by_number (map f xs)
  by_number-from_sort xs ys rising stable = ap (map f) (sort_by-from_sort key xs ys rising stable) ∙ map-sort_by xs
