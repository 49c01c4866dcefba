-- The first adapter that lacks an option.
use Rattle.std.proofs.Common.{◌≡◌, ◌<◌, inl, inr, ℕ, ◌+◌, Bool, true, false, Option, None, Some, length, sym, ap}
use Rattle.std.proofs.Common.{subst, ◌∙◌, arith, true≢false}
use Rattle.std.specs.Prelude.{◌↔◌, slice_get}
use Rattle.std.proofs.lemmas.Bool.{cases_lt}
use Rattle.std.proofs.lemmas.Option.{same_Some, slice_get_within}
use Rattle.pc_types.specs.TypeTree.{TypeTree}
use Rattle.pc_dfg.specs.declared.adapter.Adapter.{Adapter}
use Rattle.pc_dfg.specs.declared.dfg.ComponentDfg.{ComponentDfg}
use Rattle.pc_dfg.specs.declared.ids.AdapterId.{AdapterId}
use Rattle.pc_spec_adapt.specs.Asked.{function_facts}
use Rattle.pc_adapt.specs.Asked.{adapter_has_options, HasOptions, LacksFirst}

-- an adapter by its number
abbrev wrapped : ℕ → Option AdapterId
wrapped n = Some (record { 0 = n })

module _ (g : ComponentDfg) (lift lower : ℕ → TypeTree) where
  -- whether the adapter of a number has its options
  abbrev has : ℕ → Adapter → Bool
  has k x = adapter_has_options (function_facts (lift k)) (function_facts (lower k)) x

  -- none of the first k adapters lacks an option
  abbrev pub Have : ℕ → Type 0
  Have k = (b : ℕ) → b < k → HasOptions g lift lower b

  -- one that has its options lacks none
  lacks_not : (b : ℕ) → HasOptions g lift lower b → LacksFirst g lift lower b → ⊥
  lacks_not b all l = true≢false (sym (all l.adapter l.there) ∙ l.lacks)

  -- one more
  pub have_more : (k : ℕ) (x : Adapter) (r : Bool) → slice_get g.adapters k ≡ Some x → r ≡ has k x → r ≡ true → Have k
      → Have (k + 1)
  have_more k x r at is holds all b below y at_y =
      elim (cases_lt b k) [
        | inl less ↦ all b less y at_y
        | inr more ↦
            let same : k ≡ b = omega (arith, below, more) in
            let it : x ≡ y = same_Some x y (sym at ∙ ap (slice_get g.adapters) same ∙ at_y) in
            ap (has b) (sym it) ∙ ap (λ n. has n x) (sym same) ∙ sym is ∙ holds
      ]

  -- the first that lacks one
  pub lacks_here : (k : ℕ) (x : Adapter) (r : Bool) → slice_get g.adapters k ≡ Some x → r ≡ has k x → r ≡ false → Have k
      → (a : AdapterId) → (Some (record { 0 = k }) ≡ Some a) ↔ LacksFirst g lift lower a.0
  lacks_here k x r at is fails all a = (there, back)
    where
      there : Some (record { 0 = k }) ≡ Some a → LacksFirst g lift lower a.0
      there e =
          let same : k ≡ a.0 = ap (λ (y : AdapterId). y.0) (same_Some (record { 0 = k }) a e) in
          subst (LacksFirst g lift lower) same
          (record { adapter = x; there = at; lacks = sym is ∙ fails; first = all })

      number : (n : ℕ) → k ≡ n → wrapped k ≡ wrapped n
      number n same = ap wrapped same

      back : LacksFirst g lift lower a.0 → Some (record { 0 = k }) ≡ Some a
      back l =
          elim (cases_lt k a.0) [
            | inl less ↦
                absurd (true≢false (sym (l.first k less x at) ∙ sym is ∙ fails))
            | inr more ↦
                elim (cases_lt a.0 k) [
                  | inl before ↦ absurd (lacks_not a.0 (all a.0 before) l)
                  | inr after ↦ number a.0 (omega (arith, more, after))
                ]
          ]

  -- none lacks one
  pub none_lacks : Have (length g.adapters) → (a : AdapterId) → (None ≡ Some a) ↔ LacksFirst g lift lower a.0
  none_lacks all a = (there, back)
    where
      there : None ≡ Some a → LacksFirst g lift lower a.0
      there e = absurd (no e)
        where
          no : None ≡ Some a → ⊥
          no e = grind (arith, e)

      back : LacksFirst g lift lower a.0 → None ≡ Some a
      back l = absurd (lacks_not a.0 (all a.0 (slice_get_within g.adapters a.0 l.adapter l.there)) l)
