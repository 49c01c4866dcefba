-- Meets of lists, and with the top.
use Rattle.std.proofs.Common.{◌≡◌, ℕ, List, Option, Some, refl, ap, inl, inr, sym, ◌∙◌}
use Rattle.std.proofs.lemmas.Option.{same_Some}
use Rattle.pc_partition.specs.declared.partition.SameVmctxPartition.{SameVmctxPartition}
use Rattle.pc_partition.specs.declared.partition.SameVmctxPartition.TheVariants as variant
use Rattle.pc_partition.specs.Least.{AreLeast, Share}
use Rattle.pc_partition.specs.Pairs.{ArePairs}
use Rattle.pc_partition.specs.Partition.{IsMeet, IsOfKeys, IsPartition, Together, representative}
use Rattle.pc_partition.proofs.ClassLemmas.{held, one_or_class}
use Rattle.pc_partition.proofs.PairLemmas.{pair_at}

-- the meet with the top is the other one
pub top_meet : (p : SameVmctxPartition) → IsPartition p → IsMeet variant.Top p p
top_meet p is = record {
  is_partition = is;
  size = refl;
  together = λ i j. (λ t. (refl, t), λ t. t.1);
}

pub meet_top : (least : List ℕ) → IsPartition (variant.Known least)
    → IsMeet (variant.Known least) variant.Top (variant.Known least)
meet_top least is = record {
  is_partition = is;
  size = refl;
  together = λ i j. (λ t. (t, refl), λ t. t.0);
}

module _ (a b : List ℕ) (in_a : AreLeast a) (in_b : AreLeast b) (keys : List (Option (ℕ × ℕ)))
    (are : ArePairs a b keys) where
  as_both : (i j : ℕ) → Share keys i j → Together (variant.Known a) i j × Together (variant.Known b) i j
  as_both i j (inl same) =
      (ap (representative (variant.Known a)) same, ap (representative (variant.Known b)) same)
  as_both i j (inr s) =
      let e = are.pairs i (Some s.0) s.1 in
      let f = are.pairs j (Some s.0) s.2 in
      let alike : (e.0, e.1) ≡ (f.0, f.1) = same_Some (e.0, e.1) (f.0, f.1) (sym e.2 ∙ f.2) in
      let first : e.0 ≡ f.0 = ap (λ p. p.0) alike in
      let second : e.1 ≡ f.1 = ap (λ p. p.1) alike in
      (held a i e.0 e.3 ∙ first ∙ sym (held a j f.0 f.3), held b i e.1 e.4 ∙ second ∙ sym (held b j f.1 f.4))

  as_share : (i j : ℕ) → Together (variant.Known a) i j × Together (variant.Known b) i j → Share keys i j
  as_share i j t = elim (one_or_class a in_a i j t.0) [
    | inl same ↦ inl same
    | inr p ↦ elim (one_or_class b in_b i j t.1) [
      | inl same ↦ inl same
      | inr q ↦
          let first = pair_at a b keys are i p.0 q.0 p.1 q.1 in
          let second = pair_at a b keys are j p.0 q.0 p.2 q.2 in
          inr ((p.0, q.0), first, second)
    ]
  ]

  -- what the pairs of two lists say is the meet of what the lists say
  pub meet_of_pairs : (met : SameVmctxPartition) → IsOfKeys keys met → IsMeet (variant.Known a) (variant.Known b) met
  meet_of_pairs met told = record {
    is_partition = told.is_partition;
    size = told.size ∙ ap Some are.size;
    together = λ i j.
        (λ t. as_both i j ((told.together i j).0 t), λ t. (told.together i j).1 (as_share i j t));
  }
