-- What an adapter needs, by the greatest number; it needs only those before it.
use Rattle.std.proofs.Common.{◌≡◌, ◌<◌, ◌⊎◌, inl, inr, ℕ, zero, suc, max, List, [], ◌∷◌, length}
use Rattle.std.proofs.Common.{refl, sym, subst, ◌∙◌, arith, slice_index_or}
use Rattle.std.specs.Prelude.{Some, slice_get, All, Contains}
use Rattle.std.proofs.lemmas.Bool.{cases_lt}
use Rattle.std.proofs.lemmas.List.Elements.{All-contains}
use Rattle.std.proofs.lemmas.Option.{slice_get-get_or}
use Rattle.pc_dfg.specs.declared.adapter.Adapter.{Adapter}
use Rattle.pc_dfg.specs.declared.dfg.ComponentDfg.{ComponentDfg}
use Rattle.pc_adapt_groups.specs.declared.reach.Reach.{Reach}
use Rattle.pc_adapt_groups.specs.Lengths.{AreLower, Reaches}
use Rattle.pc_dfg.specs.Names.{an_adapter, an_instance, in_adapter, OneNames}
use Rattle.pc_adapt_groups.specs.Needed.{IsNeeded}
use Rattle.pc_adapt_groups.specs.Needs.{Needs, named, awaited}
use Rattle.pc_dfg.specs.Ordered.{IsOrdered}
use Rattle.pc_adapt_groups.specs.Reaches.{IsTop, IsReach, IsUsedUpTo, AreUses}
use Rattle.pc_spec_adapt.specs.Split.{IsGoodRun, IsGoodSplit, IsFewest}
use Rattle.pc_adapt_groups.proofs.OrderLemmas.{no_gap}
use Rattle.pc_adapt_groups.proofs.TopLemmas.{top_either, top_same}

same_some : {A : Type 0} {a b : A} → Some a ≡ Some b → a ≡ b
same_some e = grind (arith, e)

pub needs_lower : (g : ComponentDfg) → IsOrdered g → (a b : ℕ) → Needs g a b → b < a
needs_lower g o a b (named {x = x} at names) = o.adapters a b x at names
needs_lower g o a b (awaited i n {x = x} {e = e} at names there late one) =
    elim (cases_lt b a) [
      | inl less ↦ less
      | inr more ↦
          let early = o.grouped i b a n e x there one more at names in
          absurd (omega (arith, early, late))
    ]

module _ (g : ComponentDfg) (a : ℕ) (x : Adapter) (at : slice_get g.adapters a ≡ Some x) where
  same_adapter : (y : Adapter) → slice_get g.adapters a ≡ Some y → y ≡ x
  same_adapter y at_y = same_some (sym at_y ∙ at)

  -- without a core instance an adapter needs what it names
  needs_named : (r : Reach) → IsReach g (in_adapter x) r → r.instances ≡ 0 → IsTop (Needs g a) r.adapters
  needs_named r reach none =
      top_same (λ b. OneNames g (in_adapter x) (an_adapter b)) (Needs g a) r.adapters (λ b one. named at one) back
      reach.adapters
    where
      back : (b : ℕ) → Needs g a b → OneNames g (in_adapter x) (an_adapter b)
      back b (named {x = y} at_y one) = subst (λ z. OneNames g (in_adapter z) (an_adapter b)) (same_adapter y at_y) one
      back b (awaited i n {x = y} {e = e} at_y names there late one) =
          let few = reach.instances.most n
          (subst (λ z. OneNames g (in_adapter z) (an_instance n)) (same_adapter y at_y) names) in
          absurd (omega (arith, few, none))

  -- else also what is used up to the last one
  needs_both : (r : Reach) (n k : ℕ) → IsReach g (in_adapter x) r → r.instances ≡ suc n → IsTop (IsUsedUpTo g n) k
      → IsTop (Needs g a) (max r.adapters k)
  needs_both r n k reach last uses =
      top_same (λ b. OneNames g (in_adapter x) (an_adapter b) ⊎ IsUsedUpTo g n b) (Needs g a) (max r.adapters k) there
      back
      (top_either (λ b. OneNames g (in_adapter x) (an_adapter b)) (IsUsedUpTo g n) r.adapters k reach.adapters uses)
    where
      there : (b : ℕ) → OneNames g (in_adapter x) (an_adapter b) ⊎ IsUsedUpTo g n b → Needs g a b
      there b (inl one) = named at one
      there b (inr (j, e, at_j, early, one)) = awaited j n at (reach.instances.there n last) at_j early one

      back : (b : ℕ) → Needs g a b → OneNames g (in_adapter x) (an_adapter b) ⊎ IsUsedUpTo g n b
      back b (named {x = y} at_y one) =
          inl (subst (λ z. OneNames g (in_adapter z) (an_adapter b)) (same_adapter y at_y) one)
      back b (awaited i l {x = y} {e = e} at_y names there' late one) =
          let few = reach.instances.most l
          (subst (λ z. OneNames g (in_adapter z) (an_instance l)) (same_adapter y at_y) names) in
          inr (i, e, there', omega (arith, few, last, late), one)

  pub needs_top : (r : Reach) (us : List ℕ) (m : ℕ) → IsReach g (in_adapter x) r → AreUses g us → IsNeeded r us m
      → IsTop (Needs g a) m
  needs_top r us m reach uses (inl (none, is)) = subst (IsTop (Needs g a)) (sym is) (needs_named r reach none)
  needs_top r us m reach uses (inr (n, k, last, at_n, is)) =
      subst (IsTop (Needs g a)) (sym is) (needs_both r n k reach last (uses n k at_n))

module _ (Wants : ℕ → ℕ → Type 0) (needed : List ℕ)
    (tops : (a m : ℕ) → slice_get needed a ≡ Some m → IsTop (Wants a) m)
    (less : (a b : ℕ) → Wants a b → b < a) where
  -- what is needed last stands before what needs it
  pub lower : AreLower needed
  lower a zero at = omega arith
  lower a (suc b) at = let below = less a b ((tops a (suc b) at).there b refl') in omega (arith, below)
    where
      refl' : suc b ≡ suc b
      refl' = omega arith

  -- the fewest runs by the greatest numbers are the fewest runs
  pub fewest : (runs : List (List ℕ)) → IsFewest (Reaches needed) (length needed) runs
      → ((run : List ℕ) (a : ℕ) → Contains runs run → Contains run a → a < length needed)
      → IsFewest Wants (length needed) runs
  fewest runs least within = record {
    split = record {
      all = least.split.all;
      good = all_good runs (λ run inside a b in_a in_b wants.
          let below = within run a inside in_a in
          let at = slice_get-get_or needed a 0 below in
          All-contains (IsGoodRun (Reaches needed)) runs run least.split.good inside a b in_a in_b
          (_, at, (tops a _ at).most b wants));
    };
    fewest = λ others good. least.fewest others (record {
      all = good.all;
      good = all_good_reaches others good;
    });
  }
    where
      all_good : (rs : List (List ℕ)) → ((run : List ℕ) → Contains rs run → IsGoodRun Wants run)
          → All (IsGoodRun Wants) rs
      all_good rs each k d below = each _ (k, below, same rs k d below)
        where
          same : (xs : List (List ℕ)) (k : ℕ) (d : List ℕ) → k < length xs
              → slice_index_or xs k (slice_index_or xs k d) ≡ slice_index_or xs k d
          same [] k d none = absurd (omega (arith, none))
          same (y ∷ ys) zero d some = refl
          same (y ∷ ys) (suc k) d some = same ys k d (omega (arith, some))

      all_good_reaches : (rs : List (List ℕ)) → IsGoodSplit Wants (length needed) rs
          → All (IsGoodRun (Reaches needed)) rs
      all_good_reaches rs good k d below a b in_a in_b (zero, at, past) = absurd (omega (arith, past))
      all_good_reaches rs good k d below a b in_a in_b (suc c, at, past) =
          let run = slice_index_or rs k d in
          let inside : Contains rs run = (k, below, same rs k d below) in
          let wants = (tops a (suc c) at).there c (omega arith) in
          let before = less a c wants in
          let in_c = no_gap Wants (length needed) rs good run inside a b c in_a in_b (omega (arith, past))
          (omega (arith, before)) in
          All-contains (IsGoodRun Wants) rs run good.good inside a c in_a in_c wants
        where
          same : (xs : List (List ℕ)) (k : ℕ) (d : List ℕ) → k < length xs
              → slice_index_or xs k (slice_index_or xs k d) ≡ slice_index_or xs k d
          same [] k d none = absurd (omega (arith, none))
          same (y ∷ ys) zero d some = refl
          same (y ∷ ys) (suc k) d some = same ys k d (omega (arith, some))
