-- Values that are set in a map, node after node, and lists that are taken from the end.
use Rattle.std.proofs.Common.{◌≡◌, ◌⊎◌, ℕ, ◌≤◌, List, [], ◌∷◌, ◌++◌, reverse, sym, ◌∙◌, ap, subst, append_assoc, inl}
use Rattle.std.proofs.Common.{inr, arith, ◌+◌, ◌-◌, ◌<◌, length, get_or, drop}
use Rattle.std.specs.List.{Contains}
use Rattle.std.proofs.lemmas.List.{reverse-append, drop_all, drop_more}
use Rattle.std.proofs.lemmas.List.Elements.{Contains-append_left, Contains-push, Contains-push_cases}
use Rattle.std.proofs.lemmas.Bool.Decides.{eqb_tells}
use Rattle.pc_entity.specs.SecondaryMap.{Defaulted, value_at, with_value_at}
use Rattle.pc_entity.proofs.Defaults.{value_at-set_same, value_at-set_other}

-- what is left where all from a place on was taken
pub drop_left : {X : Type 0} (xs : List X) (head left : ℕ) → left ≤ head → (head ≤ left) ⊎ (left ≡ length xs)
    → drop left xs ≡ drop head xs
drop_left xs head left below (inl above) = let same : left ≡ head = omega arith in ap (λ n. drop n xs) same
drop_left xs head left below (inr end) = drop_all left xs (omega arith) ∙ sym (drop_all head xs (omega arith))

-- one item more from the end
pub taken_more : {X : Type 0} (xs : List X) (left : ℕ) (x : X) → 0 < left → left ≤ length xs
    → x ≡ get_or xs (left - 1) x → reverse (drop (left - 1) xs) ≡ reverse (drop left xs) ++ x ∷ []
taken_more xs left x some within is =
    let one : left - 1 + 1 ≡ left = omega arith in
    let next : drop (left - 1) xs ≡ x ∷ drop left xs =
    drop_more xs (left - 1) x (omega arith) ∙ ap (λ y. y ∷ drop (left - 1 + 1) xs) (sym is)
    ∙ ap (λ n. x ∷ drop n xs) one in
    ap reverse next ∙ reverse-append (x ∷ []) (drop left xs)

-- a list that was moved behind another one, with one item more
pub moved_more : {X : Type 0} (old now later group more : List X) (x : X) → now ≡ old ++ group → later ≡ now ++ x ∷ []
    → more ≡ group ++ x ∷ [] → later ≡ old ++ more
moved_more old now later group more x moved pushed taken =
    pushed ∙ ap (λ ns. ns ++ x ∷ []) moved ∙ append_assoc old group (x ∷ []) ∙ ap (λ ns. old ++ ns) (sym taken)

-- numbers from which the nodes can be told back tell nodes apart
pub told_apart : {Node : Type 0} (number : Node → ℕ) (of_number : ℕ → Node) → ((n : Node) → of_number (number n) ≡ n)
    → (a b : Node) → number a ≡ number b → a ≡ b
told_apart number of_number back a b e = sym (back a) ∙ ap of_number e ∙ back b

module _ {Node : Type 0} (number : Node → ℕ) (injective : (a b : Node) → number a ≡ number b → a ≡ b) where
  -- what is noted at a node that was set
  pub noted_set : {V : Type 0} (places : Defaulted V) (n m : Node) (v : V)
      → ((m ≡ n) × (value_at (with_value_at places (number n) v) (number m) ≡ v))
      ⊎ (¬ (m ≡ n) × (value_at (with_value_at places (number n) v) (number m) ≡ value_at places (number m)))
  noted_set places n m v = elim (eqb_tells (number m) (number n)) [
    | inl same ↦
        inl (
          injective m n same.1,
          ap (λ k. value_at (with_value_at places (number n) v) k) same.1
              ∙ value_at-set_same places (number n) v,
        )
    | inr apart ↦ inr ((λ e. apart.1 (ap number e)), value_at-set_other places (number n) (number m) v apart.1)
  ]

  -- the nodes so far have the value
  pub set_more : {V : Type 0} (v : V) (places later : Defaulted V) (group more : List Node) (n : Node)
      → later ≡ with_value_at places (number n) v
      → more ≡ group ++ n ∷ []
      → ((m : Node) → Contains group m → value_at places (number m) ≡ v)
      → (m : Node) → Contains more m → value_at later (number m) ≡ v
  set_more v places later group more n set pushed before m there =
      ap (λ p. value_at p (number m)) set ∙ elim (noted_set places n m v) [
        | inl same ↦ same.1
        | inr apart ↦ apart.1 ∙ elim (Contains-push_cases group n m (subst (λ ns. Contains ns m) pushed there)) [
          | inl old' ↦ before m old'
          | inr one ↦ absurd (apart.0 (sym one))
        ]
      ]

  -- a node that isn't set keeps its value
  pub others_more : {V : Type 0} (v : V) (places later old : Defaulted V) (group more : List Node) (n : Node)
      → later ≡ with_value_at places (number n) v
      → more ≡ group ++ n ∷ []
      → ((m : Node) → ¬ (Contains group m) → value_at places (number m) ≡ value_at old (number m))
      → (m : Node) → ¬ (Contains more m) → value_at later (number m) ≡ value_at old (number m)
  others_more v places later old group more n set pushed before m apart_from =
      ap (λ p. value_at p (number m)) set ∙ elim (noted_set places n m v) [
        | inl same ↦
            absurd (apart_from
            (subst (λ ns. Contains ns m) (sym pushed)
            (subst (λ z. Contains (group ++ n ∷ []) z) (sym same.0) (Contains-push group n))))
        | inr apart ↦ apart.1
            ∙ before m
            (λ old'. apart_from
            (subst (λ ns. Contains ns m) (sym pushed) (Contains-append_left group (n ∷ []) m old')))
      ]
