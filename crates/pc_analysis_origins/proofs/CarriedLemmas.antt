-- Where something comes from in one list of core instances, and whose context it has, it does in the other.
use Rattle.std.proofs.Common.{◌≡◌, ℕ, zero, suc, List, [], ◌∷◌, Option, Some, refl, sym, ap, subst, ◌∙◌}
use Rattle.std.specs.Prelude.{slice_get}
use Rattle.std.specs.List.{AllZip}
use Rattle.std.proofs.lemmas.Option.{none-some, same_Some}
use Rattle.pc_numbers.specs.declared.entity_index.EntityIndex.{EntityIndex}
use Rattle.pc_types.specs.declared.module_record.ModuleRecord.{ModuleRecord}
use Rattle.pc_spec_wiring.specs.Origin.{ComesFrom, Core, Given, IsFrom, Origin, defined_in, ended}
use Rattle.pc_spec_wiring.specs.Origin.{from_end, from_item, imported_there, its_own, of_host, of_record}
use Rattle.pc_spec_wiring.specs.Sharing.{AlwaysShare, HasHome, Home, core_instance, home_of, the_component}
use Rattle.pc_analysis_origins.specs.Renumbered.{AreRenumbered, HasAll, SameCore, SameEnd, SameGiven}
use Rattle.pc_analysis_origins.specs.Renumbered.{both_homeless, both_of_component, same_end, same_item}

-- what stands at a place of one list has its counterpart there in the other
zip_at : {A B : Type 0} (R : A → B → Type 0) (xs : List A) (ys : List B) → AllZip R xs ys → (n : ℕ) (x : A)
    → slice_get xs n ≡ Some x → (y : B) × (slice_get ys n ≡ Some y) × R x y
zip_at R [] [] zip n x at = absurd (none-some x at)
zip_at R [] (y ∷ ys) zip n x at = absurd zip
zip_at R (x ∷ xs) [] zip n z at = absurd zip
zip_at R (x ∷ xs) (y ∷ ys) zip zero z at = (y, refl, subst (λ w. R w y) (same_Some x z at) zip.0)
zip_at R (x ∷ xs) (y ∷ ys) zip (suc n) z at = zip_at R xs ys zip.1 n z at

module _ {E F : Type 0} (lh : E → Option Home) (rh : F → Option Home) (Is : ℕ → ℕ → Type 0) where
  -- origins that are one
  data SameOrigin : Origin E → Origin F → Type 0 where
    same_defined : {n k m : ℕ} {e : EntityIndex} → Is n k → SameOrigin (defined_in n m e) (defined_in k m e)
    same_ended : {x : E} {y : F} → SameEnd lh rh x y → SameOrigin (ended x) (ended y)

  -- homes that are one
  abbrev SameHome : Home → Home → Type 0
  SameHome (core_instance n) (core_instance k) = Is n k
  SameHome the_component the_component = Unit {0}
  SameHome h g = ⊥

  -- an instance of a module that is one of the other list
  right_of : (m : ℕ) (r : ModuleRecord) (given : List (Given E)) (d : Core F)
      → SameCore lh rh Is (of_record m r given) d
      → (other : List (Given F)) × (d ≡ of_record m r other) × AllZip (SameGiven lh rh Is) given other
  unfolding SameCore
  right_of m r given (of_record m' r' other) same = (other, λ i. of_record (sym same.0 i) (sym same.1 i) other, same.2)
  right_of m r given of_host same = absurd same

  left_of : (m : ℕ) (r : ModuleRecord) (given : List (Given F)) (c : Core E)
      → SameCore lh rh Is c (of_record m r given)
      → (other : List (Given E)) × (c ≡ of_record m r other) × AllZip (SameGiven lh rh Is) other given
  unfolding SameCore
  left_of m r given (of_record m' r' other) same = (other, λ i. of_record (same.0 i) (same.1 i) other, same.2)
  left_of m r given of_host same = absurd same

  module _ (xs : List (Core E)) (ys : List (Core F)) (are : AreRenumbered lh rh Is xs ys) where
    -- the counterpart of an instance of a module
    right_at : (n k m : ℕ) (r : ModuleRecord) (given : List (Given E)) → slice_get xs n ≡ Some (of_record m r given)
        → Is n k → (other : List (Given F)) × (slice_get ys k ≡ Some (of_record m r other))
        × AllZip (SameGiven lh rh Is) given other
    right_at n k m r given at is =
        let s = are.same n k is in
        let c = same_Some s.0 (of_record m r given) (sym s.2 ∙ at) in
        let d = right_of m r given s.1 (subst (λ z. SameCore lh rh Is z s.1) c s.4) in
        (d.0, s.3 ∙ ap Some d.1, d.2)

    left_at : (n k m : ℕ) (r : ModuleRecord) (given : List (Given F)) → slice_get ys k ≡ Some (of_record m r given)
        → Is n k → (other : List (Given E)) × (slice_get xs n ≡ Some (of_record m r other))
        × AllZip (SameGiven lh rh Is) other given
    left_at n k m r given at is =
        let s = are.same n k is in
        let d = same_Some s.1 (of_record m r given) (sym s.3 ∙ at) in
        let c = left_of m r given s.0 (subst (λ z. SameCore lh rh Is s.0 z) d s.4) in
        (c.0, s.2 ∙ ap Some c.1, c.2)

    mutual
      -- an entity comes from what its counterpart comes from
      comes : {n : ℕ} {e : EntityIndex} {o : Origin E} → ComesFrom xs n e o → (k : ℕ) → Is n k
          → (p : Origin F) × ComesFrom ys k e p × SameOrigin o p
      comes (its_own {n = n} {m = m} {r = r} {given = given} {e = e} at none has) k is =
          let there = right_at n k m r given at is in
          (defined_in k m e, its_own there.1 none has, same_defined is)
      comes (imported_there {n = n} {m = m} {place = place} {r = r} {given = given} {d = d} at some gets from) k is =
          let there = right_at n k m r given at is in
          let d' = zip_at (SameGiven lh rh Is) given there.0 there.2 place d gets in
          let o = follows from d'.0 d'.2 in
          (o.0, imported_there there.1 some d'.1 o.1, o.2)

      -- and so does what is given
      follows : {d : Given E} {o : Origin E} → IsFrom xs d o → (e : Given F) → SameGiven lh rh Is d e
          → (p : Origin F) × IsFrom ys e p × SameOrigin o p
      follows (from_item {n = n} comes_from) e (same_item {k = k} is) =
          let o = comes comes_from k is in
          (o.0, from_item o.1, o.2)
      follows (from_end {x = x}) e (same_end {y = y} same) = (ended y, from_end, same_ended same)

    -- homes are those of counterparts
    home_there : (o : Origin E) (p : Origin F) (h : Home) → SameOrigin o p → home_of lh o ≡ Some h
        → (g : Home) × (home_of rh p ≡ Some g) × SameHome h g
    home_there o p h (same_defined {n = n} {k = k} is) at =
        (core_instance k, refl, subst (λ z. SameHome z (core_instance k)) (same_Some (core_instance n) h at) is)
    home_there o p h (same_ended (both_homeless a b)) at = absurd (none-some h (sym a ∙ at))
    home_there o p h (same_ended (both_of_component a b)) at =
        (the_component, b, subst (λ z. SameHome z the_component) (same_Some the_component h (sym a ∙ at)) tt)

    carried : (r : ModuleRecord) (given : List (Given E)) (other : List (Given F)) (f : ℕ) (h : Home)
        → AllZip (SameGiven lh rh Is) given other → HasHome lh xs r given f h
        → (g : Home) × HasHome rh ys r other f g × SameHome h g
    carried r given other f h zip has =
        let d = zip_at (SameGiven lh rh Is) given other zip has.place has.what has.gets in
        let o = follows has.from d.0 d.2 in
        let g = home_there has.origin o.0 h o.2 has.home in (
          g.0,
          record {
            place = has.place;
            what = d.0;
            origin = o.0;
            imports = has.imports;
            gets = d.1;
            from = o.1;
            home = g.1;
          },
          g.2,
        )

    -- a home has one counterpart
    one_home : (h a b : Home) → SameHome h a → SameHome h b → a ≡ b
    one_home (core_instance n) (core_instance k) (core_instance l) first second =
        ap core_instance (are.one_right n k l first second)
    one_home (core_instance n) (core_instance k) the_component first second = absurd second
    one_home (core_instance n) the_component b first second = absurd first
    one_home the_component (core_instance k) b first second = absurd first
    one_home the_component the_component (core_instance k) first second = absurd second
    one_home the_component the_component the_component first second = refl

    -- imports that always share a context in one list do in the other
    pub share_there : (m f g : ℕ) → HasAll lh rh Is xs ys m → AlwaysShare lh xs m f g → AlwaysShare rh ys m f g
    unfolding AlwaysShare
    share_there m f g has shares k r given at =
        let n = has.to_left k r given at in
        let here = left_at n.0 k m r given at n.1 in
        let h = shares n.0 r here.0 here.1 in
        let a = carried r here.0 given f h.0 here.2 h.1 in
        let b = carried r here.0 given g h.0 here.2 h.2 in
        (a.0, a.1, subst (HasHome rh ys r given g) (sym (one_home h.0 a.0 b.0 a.2 b.2)) b.1)
