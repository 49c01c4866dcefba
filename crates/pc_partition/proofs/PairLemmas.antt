-- Pairs of the entries of two lists.
use Rattle.std.proofs.Common.{◌≡◌, ◌+◌, ℕ, List, [], ◌∷◌, ◌++◌, length, Option, Some, ap, inl, inr, sym, ◌∙◌}
use Rattle.std.proofs.Common.{length-append, arith}
use Rattle.std.specs.Prelude.{slice_get, min}
use Rattle.std.proofs.lemmas.Option.{same_Some, slice_get_within}
use Rattle.pc_entity.proofs.LookupLemmas.{found_at}
use Rattle.pc_partition.specs.Pairs.{ArePairs, AreSoFar}
use Rattle.pc_partition.proofs.LookUpLemmas.{look_up-push}

module _ (a b : List ℕ) where
  -- one pair more
  pub one_more : (n : ℕ) (keys : List (Option (ℕ × ℕ))) (x y : ℕ) → AreSoFar a b n keys → slice_get a n ≡ Some x
      → slice_get b n ≡ Some y → AreSoFar a b (n + 1) (keys ++ Some (x, y) ∷ [])
  one_more n keys x y so_far p q = record {
    size = length-append keys (Some (x, y) ∷ []) ∙ ap (λ i. i + 1) so_far.size;
    pairs = λ i z at. elim (look_up-push keys (Some (x, y)) i z at) [
      | inl before ↦ so_far.pairs i z before
      | inr last ↦ (x, y, sym last.1, rw (last.0, so_far.size) p, rw (last.0, so_far.size) q)
    ];
  }

  -- all pairs
  pub all_pairs : (n : ℕ) (keys : List (Option (ℕ × ℕ))) → n ≡ min (length a) (length b) → AreSoFar a b n keys
      → ArePairs a b keys
  all_pairs n keys size so_far = rw (← size) so_far

module _ (a b : List ℕ) (keys : List (Option (ℕ × ℕ))) (are : ArePairs a b keys) where
  -- a place that both lists have has its pair
  pub pair_at : (i m n : ℕ) → slice_get a i ≡ Some m → slice_get b i ≡ Some n → slice_get keys i ≡ Some (Some (m, n))
  pair_at i m n p q =
      let in_a = slice_get_within a i m p in
      let in_b = slice_get_within b i n q in
      let size = are.size in
      let f = found_at keys i (omega (arith, in_a, in_b, size)) in
      let e = are.pairs i f.0 f.1 in
      let first : e.0 ≡ m = same_Some e.0 m (sym e.3 ∙ p) in
      let second : e.1 ≡ n = same_Some e.1 n (sym e.4 ∙ q) in
      f.1 ∙ ap Some e.2 ∙ (λ k. Some (Some (first k, second k)))
