-- What a loop over items adds.
use Rattle.std.proofs.Common.{◌≡◌, ◌<◌, ◌≤◌, ◌+◌, ℕ, List, length, take, sum_by, get_or, sym, ap, subst, ◌∙◌, arith}
use Rattle.std.proofs.lemmas.List.Sums.{sum_by-take-le, sum_by_more, sum_by_more_le}
use Rattle.pc_types.specs.declared.parsed.TypeTable.{TypeTable}
use Rattle.pc_local.specs.declared.item.LocalInitializer.{LocalInitializer}
use Rattle.pc_inline_state.specs.Adds.{Adds}
use Rattle.pc_inline_state.specs.Tables.{Tables}
use Rattle.pc_inline_state.proofs.AddsLemmas.{adds_trans, adds_weaken}

module _ (t : TypeTable) (weight : LocalInitializer → ℕ) (ls : List LocalInitializer) where
  -- so many items have added their weights
  abbrev pub AddedSoFar : ℕ → Tables → Tables → Type 0
  AddedSoFar n a b = Adds t (sum_by weight (take n ls)) a b

  module _ (n : ℕ) (l : LocalInitializer) (within : n < length ls) (is : l ≡ get_or ls n l) (a b x : Tables)
      (far : AddedSoFar n a b) (adds : Adds t (weight l) b x) where
    added_sum : Adds t (sum_by weight (take n ls) + weight l) a x
    added_sum = adds_trans t (sum_by weight (take n ls)) (weight l) a b x far adds

    -- one item more
    pub added_more : AddedSoFar (n + 1) a x
    added_more =
        let sum : sum_by weight (take (n + 1) ls) ≡ sum_by weight (take n ls) + weight l =
        sum_by_more weight ls n l within ∙ ap (λ k. sum_by weight (take n ls) + weight k) (sym is) in
        adds_weaken t (sum_by weight (take n ls) + weight l) (sum_by weight (take (n + 1) ls)) a x (omega (arith, sum))
        added_sum

    -- and no more after it
    pub added_last : Adds t (sum_by weight ls) a x
    added_last =
        let sum : sum_by weight (take n ls) + weight l ≤ sum_by weight ls =
        subst (λ k. sum_by weight (take n ls) + weight k ≤ sum_by weight ls) (sym is)
        (sum_by_more_le weight ls n l within) in
        adds_weaken t (sum_by weight (take n ls) + weight l) (sum_by weight ls) a x sum added_sum

  -- all items
  pub added_all : (n : ℕ) (a b : Tables) → n ≤ length ls → AddedSoFar n a b → Adds t (sum_by weight ls) a b
  added_all n a b le far =
      adds_weaken t (sum_by weight (take n ls)) (sum_by weight ls) a b (sum_by-take-le weight ls n) far
