-- What comes from somewhere comes from one place.
use Rattle.std.proofs.Common.{◌≡◌, ℕ, List, None, Some, true, refl, sym, ap, subst, ◌∙◌}
use Rattle.std.specs.Prelude.{slice_get}
use Rattle.std.proofs.lemmas.Option.{none-some, same_Some}
use Rattle.pc_numbers.specs.declared.entity_index.EntityIndex.{EntityIndex}
use Rattle.pc_types.specs.declared.module_record.ModuleRecord.{ModuleRecord}
use Rattle.pc_types.specs.Record.{has_entity, import_place}
use Rattle.pc_spec_plan.specs.CoreValue.{by_index, by_name}
use Rattle.pc_spec_wiring.specs.Origin.{Core, Given, Origin, ComesFrom, IsFrom, an_end, an_item, defined_in, ended}
use Rattle.pc_spec_wiring.specs.Origin.{from_end, from_item, imported_there, its_own, of_host, of_record}

module _ {E : Type 0} (cores : List (Core E)) where
  -- a core instance is of one module, with one record and one list of what it is given
  pub one_module : (n : ℕ) {m k : ℕ} {r s : ModuleRecord} {xs ys : List (Given E)}
      → slice_get cores n ≡ Some (of_record m r xs) → slice_get cores n ≡ Some (of_record k s ys)
      → (m ≡ k) × (r ≡ s) × (xs ≡ ys)
  one_module n at here =
      let same = same_Some _ _ (sym at ∙ here) in
      (number same, record_same same, given_same same)
    where
      number : {m k : ℕ} {r s : ModuleRecord} {xs ys : List (Given E)} → of_record m r xs ≡ of_record k s ys → m ≡ k
      number e = cc

      record_same : {m k : ℕ} {r s : ModuleRecord} {xs ys : List (Given E)} → of_record m r xs ≡ of_record k s ys
          → r ≡ s
      record_same e = cc

      given_same : {m k : ℕ} {r s : ModuleRecord} {xs ys : List (Given E)} → of_record m r xs ≡ of_record k s ys
          → xs ≡ ys
      given_same e = cc

  module _ {n m : ℕ} {r : ModuleRecord} {given : List (Given E)} (at : slice_get cores n ≡ Some (of_record m r given))
      {e : EntityIndex} where
    -- what a module defines comes from its instance
    pub own_only : {o : Origin E} → import_place r e ≡ None → ComesFrom cores n e o → o ≡ defined_in n m e
    own_only none (its_own here away has) = ap {B = Origin E} (λ k. defined_in n k e) (sym (one_module n at here).0)
    own_only none (imported_there here there gets from) =
        absurd (none-some _ (sym none ∙ ap (λ x. import_place x e) (one_module n at here).1 ∙ there))

    -- and it has it
    pub own_has : {o : Origin E} → import_place r e ≡ None → ComesFrom cores n e o → has_entity r e ≡ true
    own_has none (its_own here away has) = ap (λ x. has_entity x e) (one_module n at here).1 ∙ has
    own_has none (imported_there here there gets from) =
        absurd (none-some _ (sym none ∙ ap (λ x. import_place x e) (one_module n at here).1 ∙ there))

    -- what it imports comes from where that does which it is given
    pub imported_only : {o : Origin E} {place : ℕ} → import_place r e ≡ Some place → ComesFrom cores n e o
        → (d : Given E) × (slice_get given place ≡ Some d) × IsFrom cores d o
    imported_only some (its_own here away has) =
        absurd (none-some _ (sym away ∙ ap (λ x. import_place x e) (sym (one_module n at here).1) ∙ some))
    imported_only some (imported_there {place = p} {d = d} here there gets from) =
        let same = one_module n at here in
        let place = same_Some _ _ (sym there ∙ ap (λ x. import_place x e) (sym same.1) ∙ some) in
        (d, ap (slice_get given) (sym place) ∙ ap (λ xs. slice_get xs p) same.2 ∙ gets, from)

  -- nothing comes from what can't be seen through
  pub nowhere : {n : ℕ} {e : EntityIndex} {o : Origin E} → slice_get cores n ≡ Some of_host → ComesFrom cores n e o → ⊥
  nowhere at (its_own here away has) = other (same_Some _ _ (sym at ∙ here))
    where
      other : {m : ℕ} {r : ModuleRecord} {xs : List (Given E)} → of_host ≡ of_record m r xs → ⊥
      other e = cc
  nowhere at (imported_there here there gets from) = other (same_Some _ _ (sym at ∙ here))
    where
      other : {m : ℕ} {r : ModuleRecord} {xs : List (Given E)} → of_host ≡ of_record m r xs → ⊥
      other e = cc

  -- an item comes from where its entity does, and one by name from nowhere
  pub item_only : {n : ℕ} {e : EntityIndex} {o : Origin E} → IsFrom cores (an_item n (by_index e)) o
      → ComesFrom cores n e o
  item_only (from_item c) = c

  pub name_nowhere : {n : ℕ} {name : List ℕ} {o : Origin E} → IsFrom cores (an_item n (by_name name)) o → ⊥
  name_nowhere f = elim f [ ]

  -- an end is its own origin
  pub end_only : {x : E} {o : Origin E} → IsFrom cores (an_end x) o → o ≡ ended x
  end_only from_end = refl

  mutual
    one_origin : {n : ℕ} {e : EntityIndex} {o p : Origin E} → ComesFrom cores n e o → ComesFrom cores n e p → o ≡ p
    one_origin (its_own here away has) c = sym (own_only here away c)
    one_origin {p = p} (imported_there here there gets from) c =
        let x = imported_only here there c in
        one_from from (subst (λ d. IsFrom cores d p) (same_Some _ _ (sym x.1 ∙ gets)) x.2)

    -- what is given comes from one place
    pub one_from : {d : Given E} {o p : Origin E} → IsFrom cores d o → IsFrom cores d p → o ≡ p
    one_from (from_item c) f = one_origin c (item_only f)
    one_from from_end f = sym (end_only f)
