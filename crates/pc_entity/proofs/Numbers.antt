-- A sorted set of numbers against the finite set that a contract sees.
use Rattle.std.proofs.Common.{◌≡◌, ℕ, Bool, true, false, cond, not, ◌&&◌, ◌||◌, List, refl, sym, ap, ◌∙◌}
use Rattle.std.specs.List.{list_any}
use Rattle.std.specs.Ordering.{nat_cmp, eq_by_cmp}
use Rattle.std.specs.Cmp.{nat_cmp_total, unsigned_tied, nat_eq_equiv}
use Rattle.std.specs.FinSet as set

-- whether a list of numbers has q
abbrev pub has : List ℕ → ℕ → Bool
has keys q = list_any (eq_by_cmp nat_cmp q) keys

-- the set of a list has what the list has
pub contains-has : (keys : List ℕ) (q : ℕ) → set.contains (set.from_list {R = nat_cmp} keys) q ≡ has keys q
contains-has keys q = set.contains-from_list nat_cmp_total keys q

-- numbers compare equal both ways
tied_symm : (p q : ℕ) → eq_by_cmp nat_cmp p q ≡ eq_by_cmp nat_cmp q p
tied_symm p q = unsigned_tied p q ∙ nat_eq_equiv.symm p q ∙ sym (unsigned_tied q p)

-- a test that was made true at one number
true_at : (tied held : Bool) → cond tied true held ≡ (tied || held)
true_at true held = refl
true_at false held = refl

-- a test that was made false at one number
false_at : (tied held : Bool) → cond tied false held ≡ (not tied && held)
false_at true held = refl
false_at false held = refl

module _ (keys after : List ℕ) (k : ℕ) where
  -- a list that has k besides is the set with k
  pub inserted : ((q : ℕ) → has after q ≡ cond (eq_by_cmp nat_cmp k q) true (has keys q))
      → set.from_list {R = nat_cmp} after ≡ set.insert (set.from_list {R = nat_cmp} keys) k
  inserted h = set.same_set nat_cmp_total set.nat_cmp-IsAntisymmetric _ _ (λ q.
      contains-has after q
      ∙ h q
      ∙ true_at (eq_by_cmp nat_cmp k q) (has keys q)
      ∙ ap (λ t. t || has keys q) (tied_symm k q)
      ∙ ap (λ t. eq_by_cmp nat_cmp q k || t) (sym (contains-has keys q))
      ∙ sym (set.contains-insert nat_cmp_total (set.from_list {R = nat_cmp} keys) k q))

  -- a list that lacks k is the set without k
  pub removed : ((q : ℕ) → has after q ≡ cond (eq_by_cmp nat_cmp k q) false (has keys q))
      → set.from_list {R = nat_cmp} after ≡ set.remove (set.from_list {R = nat_cmp} keys) k
  removed h = set.same_set nat_cmp_total set.nat_cmp-IsAntisymmetric _ _ (λ q.
      contains-has after q
      ∙ h q
      ∙ false_at (eq_by_cmp nat_cmp k q) (has keys q)
      ∙ ap (λ t. not t && has keys q) (tied_symm k q)
      ∙ ap (λ t. not (eq_by_cmp nat_cmp q k) && t) (sym (contains-has keys q))
      ∙ sym (set.contains-remove nat_cmp_total (set.from_list {R = nat_cmp} keys) k q))
