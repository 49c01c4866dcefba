-- The intrinsics up to the last that is used, found from the front.
use Rattle.std.proofs.Common.{◌≡◌, ℕ, ◌+◌, ◌≤◌, zero, suc, List, ◌∷◌, length, drop, refl, ap, subst, sym, ◌∙◌, arith}
use Rattle.std.proofs.lemmas.List.{drop_all}
use Rattle.pc_entity.specs.declared.packed_option.PackedOption.{PackedOption}
use Rattle.pc_entity.specs.declared.packed_option.PackedOption.TheVariants as packed
use Rattle.pc_numbers.specs.declared.module_entity.ModuleInternedTypeIndex.{ModuleInternedTypeIndex}
use Rattle.pc_offsets.specs.Context.{one_behind, used_end}

-- the end of all, where the first n of them end at one place and the others at another
abbrev pub joined : (end n rest : ℕ) → ℕ
joined end n zero = end
joined end n (suc rest) = n + suc rest

-- nothing stands before the first
pub joined_start : (rest : ℕ) → rest ≡ joined 0 0 rest
joined_start zero = refl
joined_start (suc rest) = omega arith

-- one more that isn't used
joined_unused : (end n rest : ℕ) → joined end n (one_behind rest) ≡ joined end (n + 1) rest
joined_unused end n zero = refl
joined_unused end n (suc rest) = omega arith

-- one more that is used
joined_used : (end n rest : ℕ) → joined end n (suc rest) ≡ joined (n + 1) (n + 1) rest
joined_used end n zero = omega arith
joined_used end n (suc rest) = omega arith

-- the loop that looks for the last one: n of them were looked at, and the next is this one
module _ (signatures : List (PackedOption ModuleInternedTypeIndex)) (end n : ℕ)
    (found : used_end signatures ≡ joined end n (used_end (drop n signatures))) where
  module _ (x : PackedOption ModuleInternedTypeIndex) (split : drop n signatures ≡ x ∷ drop (n + 1) signatures)
      (next : ℕ) where
    pub next_unused : x ≡ packed.None → next ≡ end
        → used_end signatures ≡ joined next (n + 1) (used_end (drop (n + 1) signatures))
    next_unused is stays =
        let rest = drop (n + 1) signatures in
        subst (λ (e : ℕ). used_end signatures ≡ joined e (n + 1) (used_end rest)) (sym stays)
        (found ∙ ap (λ l. joined end n (used_end l)) (split ∙ ap (λ y. y ∷ rest) is)
        ∙ joined_unused end n (used_end rest))

    pub next_used : (s : ModuleInternedTypeIndex) → x ≡ packed.Some s → next ≡ n + 1
        → used_end signatures ≡ joined next (n + 1) (used_end (drop (n + 1) signatures))
    next_used s is moves =
        let rest = drop (n + 1) signatures in
        let one : used_end (packed.Some s ∷ rest) ≡ suc (used_end rest) = omega arith in
        subst (λ (e : ℕ). used_end signatures ≡ joined e (n + 1) (used_end rest)) (sym moves)
        (found ∙ ap (λ l. joined end n (used_end l)) (split ∙ ap (λ y. y ∷ rest) is)
        ∙ ap (joined end n) one ∙ joined_used end n (used_end rest))

  -- all of them
  pub all_found : length signatures ≤ n → end ≡ used_end signatures
  all_found done = sym (found ∙ ap (λ l. joined end n (used_end l)) (drop_all n signatures done))
