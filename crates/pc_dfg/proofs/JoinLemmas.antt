-- What is known of instantiations is a lattice under its join.
use Rattle.std.proofs.Common.{◌≡◌, ◌⊎◌, List, true, false, inl, inr, refl, ap, sym, ◌∙◌}
use Rattle.std.specs.Cmp.{IsEquivalence}
use Rattle.std.specs.Cmp.Lexicographic.{pointwise}
use Rattle.std.specs.Prelude.{if◌then◌else◌}
use Rattle.std.proofs.lemmas.Cmp.{lists_equiv}
use Rattle.pc_entity.specs.Exact.{same_lists}
use Rattle.pc_entity.proofs.Elements.{bool_cases}
use Rattle.pc_info.specs.contracts.core_def.CoreDefEq.TheImpl.Laws as laws_of_defs
use Rattle.pc_info.specs.contracts.core_def.CoreDefExactEq.TheImpl.Laws as exact_defs
use Rattle.pc_info.specs.contracts.core_def.CoreDefPartialEq.TheImpl as eq_CoreDef
use Rattle.pc_info.specs.declared.core_def.CoreDef.{CoreDef}
use Rattle.pc_dfg.specs.Instantiations.{Known, joined, many, none, one}

-- `==` of arguments
lists_equal : IsEquivalence (pointwise eq_CoreDef.ghosts.eq)
lists_equal = lists_equiv laws_of_defs.laws-law

-- two lists of arguments are equal, or their join is `many`
either : (m n : List CoreDef) → (m ≡ n) ⊎ (pointwise eq_CoreDef.ghosts.eq m n ≡ false)
either m n = by_answer (bool_cases (pointwise eq_CoreDef.ghosts.eq m n))
  where
    by_answer : ((pointwise eq_CoreDef.ghosts.eq m n ≡ true) ⊎ (pointwise eq_CoreDef.ghosts.eq m n ≡ false))
        → (m ≡ n) ⊎ (pointwise eq_CoreDef.ghosts.eq m n ≡ false)
    by_answer (inl same) = inl (same_lists exact_defs.exact-law m n same)
    by_answer (inr other) = inr other

other_ways : (m n : List CoreDef) → pointwise eq_CoreDef.ghosts.eq m n ≡ false → joined (one m) (one n) ≡ many
other_ways m n h = ap (λ b. if b then one m else many) h

pub idempotent : (a : Known) → joined a a ≡ a
idempotent many = refl
idempotent (one m) = ap (λ b. if b then one m else many) (lists_equal.refl m)
idempotent none = refl

-- one list of arguments twice
twice : (m n : List CoreDef) → m ≡ n → joined (one m) (one n) ≡ one m
twice m n same = ap (λ x. joined (one m) (one x)) (sym same) ∙ idempotent (one m)

pub two_ways : (m n : List CoreDef) → (m ≡ n → ⊥) → joined (one m) (one n) ≡ many
two_ways m n apart = by_answer (either m n)
  where
    by_answer : ((m ≡ n) ⊎ (pointwise eq_CoreDef.ghosts.eq m n ≡ false)) → joined (one m) (one n) ≡ many
    by_answer (inl same) = absurd (apart same)
    by_answer (inr other) = other_ways m n other

pub with_none : (a : Known) → joined a none ≡ a
with_none many = refl
with_none (one m) = refl
with_none none = refl

pub with_many : (a : Known) → joined a many ≡ many
with_many many = refl
with_many (one m) = refl
with_many none = refl

pub commutative : (a b : Known) → joined a b ≡ joined b a
commutative a many = with_many a
commutative a none = with_none a
commutative many (one n) = refl
commutative none (one n) = refl
commutative (one m) (one n) = by_answer (either m n)
  where
    by_answer : ((m ≡ n) ⊎ (pointwise eq_CoreDef.ghosts.eq m n ≡ false))
        → joined (one m) (one n) ≡ joined (one n) (one m)
    by_answer (inl same) = twice m n same ∙ ap one same ∙ sym (twice n m (sym same))
    by_answer (inr other) = other_ways m n other ∙ sym (other_ways n m (lists_equal.symm n m ∙ other))

pub associative : (a b c : Known) → joined (joined a b) c ≡ joined a (joined b c)
associative a b many = with_many (joined a b) ∙ sym (ap (joined a) (with_many b) ∙ with_many a)
associative a b none = with_none (joined a b) ∙ sym (ap (joined a) (with_none b))
associative many b (one p) = refl
associative none b (one p) = refl
associative (one m) many (one p) = refl
associative (one m) none (one p) = refl
associative (one m) (one n) (one p) = by_answers (either m n) (either n p)
  where
    by_answers : ((m ≡ n) ⊎ (pointwise eq_CoreDef.ghosts.eq m n ≡ false))
        → ((n ≡ p) ⊎ (pointwise eq_CoreDef.ghosts.eq n p ≡ false))
        → joined (joined (one m) (one n)) (one p) ≡ joined (one m) (joined (one n) (one p))
    by_answers (inl same) (inl again) =
        ap (λ x. joined x (one p)) (twice m n same) ∙ ap (λ x. joined (one m) (one x)) (sym again)
        ∙ sym (ap (joined (one m)) (twice n p again))
    by_answers (inl same) (inr other) =
        ap (λ x. joined x (one p)) (twice m n same ∙ ap one same) ∙ other_ways n p other
        ∙ sym (ap (joined (one m)) (other_ways n p other))
    by_answers (inr other) (inl again) =
        ap (λ x. joined x (one p)) (other_ways m n other) ∙ sym (other_ways m n other)
        ∙ sym (ap (joined (one m)) (twice n p again))
    by_answers (inr other) (inr third) =
        ap (λ x. joined x (one p)) (other_ways m n other) ∙ sym (ap (joined (one m)) (other_ways n p third))
