-- Both function imports of the module that lowers come from the instance of the module of adapters.
use Rattle.std.proofs.Common.{◌≡◌, ◌≢◌, ◌<◌, ◌≤◌, ℕ, zero, suc, List, [], ◌∷◌, Some, map, refl, sym, ap}
use Rattle.std.proofs.Common.{arith, All, slice_get, subst, true≢false}
use Rattle.std.proofs.lemmas.List.Elements.{All-cons, All-head, All-nil, All-tail}
use Rattle.std.proofs.lemmas.Option.{none-some, same_Some}
use Rattle.pc_numbers.specs.declared.entity_index.EntityIndex.TheVariants as index
use Rattle.pc_spec_plan.specs.CoreValue.{by_index}
use Rattle.pc_spec_wiring.specs.Facts.{RecordsSharing}
use Rattle.pc_spec_wiring.specs.Origin.{Core, Given, PlanEnd, an_item, cores_in, defined_in, from_item, given_by}
use Rattle.pc_spec_wiring.specs.Origin.{its_own}
use Rattle.pc_spec_wiring.specs.Origin.{of_host, of_record}
use Rattle.pc_spec_wiring.specs.Sharing.{AlwaysShare, AreRecorded, HasHome, Home, core_instance, plan_home}
use Rattle.pc_test_wiring.specs.OtherPlans.{exporting}
use Rattle.pc_test_wiring.specs.TwoAdapters.{adapting, adapting_arguments, lifting, lowering, lowering_arguments}
use Rattle.pc_test_wiring.specs.TwoAdapters.{records}
use Rattle.pc_test_wiring.specs.TwoAdapters.{recorded, two_adapters}

-- what holds of all entries holds of the one at a place
pub at_place : {X : Type 0} (P : X → Type 0) (xs : List X) (n : ℕ) (x : X) → All P xs → slice_get xs n ≡ Some x → P x
at_place P [] n x all e = absurd (none-some x e)
at_place P (y ∷ ys) zero x all e = subst P (same_Some y x e) (All-head P y ys all)
at_place P (y ∷ ys) (suc n) x all e = at_place P ys n x (All-tail P y ys all) e

-- what the module that lowers is given
abbrev given : List (Given PlanEnd)
given = map given_by lowering_arguments

-- the core instances of the plan
abbrev pub cores : List (Core PlanEnd)
cores =
    of_record 0 lifting [] ∷ of_record 0 lifting [] ∷ of_record 2 adapting (map given_by adapting_arguments)
    ∷ of_record 1 lowering given ∷ []

-- both imports come from the instance of the module of adapters
homes : (f : ℕ) → f < 2 → HasHome plan_home cores lowering given f (core_instance 2)
homes zero p = record {
  place = 0;
  what = an_item 2 (by_index (index.Function (record { 0 = 4 })));
  origin = defined_in 2 2 (index.Function (record { 0 = 4 }));
  imports = refl;
  gets = refl;
  from = from_item (its_own refl refl refl);
  home = refl;
}
homes (suc zero) p = record {
  place = 1;
  what = an_item 2 (by_index (index.Function (record { 0 = 5 })));
  origin = defined_in 2 2 (index.Function (record { 0 = 5 }));
  imports = refl;
  gets = refl;
  from = from_item (its_own refl refl refl);
  home = refl;
}
homes (suc (suc f)) p = absurd (omega (arith, p))

-- a core instance gives two function imports of that module one home
abbrev GivesOne : (f g : ℕ) → Core PlanEnd → Type 0
GivesOne f g (of_record m r args) =
    m ≡ 1 → (h : Home) × HasHome plan_home cores r args f h × HasHome plan_home cores r args g h
GivesOne f g of_host = Unit {0}

all_give : (f g : ℕ) → f < 2 → g < 2 → All (GivesOne f g) cores
all_give f g p q =
    All-cons (GivesOne f g) (of_record 0 lifting [])
    (of_record 0 lifting [] ∷ of_record 2 adapting (map given_by adapting_arguments) ∷ of_record 1 lowering given ∷ [])
    (λ e. absurd (omega (arith, e)))
    (All-cons (GivesOne f g) (of_record 0 lifting [])
    (of_record 2 adapting (map given_by adapting_arguments) ∷ of_record 1 lowering given ∷ [])
    (λ e. absurd (omega (arith, e)))
    (All-cons (GivesOne f g) (of_record 2 adapting (map given_by adapting_arguments))
    (of_record 1 lowering given ∷ []) (λ e. absurd (omega (arith, e)))
    (All-cons (GivesOne f g) (of_record 1 lowering given) [] (λ e. (core_instance 2, homes f p, homes g q))
    (All-nil (GivesOne f g)))))

always : (f g : ℕ) → f < 2 → g < 2 → AlwaysShare plan_home cores 1 f g
unfolding AlwaysShare
always f g p q n r args at = at_place (GivesOne f g) cores n (of_record 1 r args) (all_give f g p q) at refl

-- the second import is recorded, with the first
told : (f g : ℕ) → recorded f ≡ Some g → (f < 2) × (g ≢ f) × (g ≡ 0)
told zero g e = absurd (none-some g e)
told (suc zero) g e =
    let first : 0 ≡ g = same_Some 0 g e in (omega arith, (λ h. omega (arith, h, first)), sym first)
told (suc (suc f)) g e = absurd (none-some g e)

untold : (f g : ℕ) → (f < 2) × (g ≢ f) × (g ≡ 0) → recorded f ≡ Some g
untold zero g s = absurd (s.1 s.2)
untold (suc zero) g s = ap Some (sym s.2)
untold (suc (suc f)) g s = absurd (omega (arith, s.0))

pub together : RecordsSharing two_adapters records 1 lowering recorded
unfolding AreRecorded cores_in
together = record {
  representative = λ f. 0;
  partitioned = record {
    together = λ f g p q d. ((λ e. (refl, always f g p q)), (λ s. refl));
    own = λ f p. refl;
    least = λ f p. omega arith;
  };
  exact = λ f g. (told f g, untold f g);
}

pub none_if_exported : ¬ (RecordsSharing exporting records 1 lowering recorded)
unfolding AreRecorded
none_if_exported s =
    let zero_first : s.representative 0 ≤ 0 = s.partitioned.least 0 (omega arith) in
    let first : 0 ≡ s.representative 1 = ((s.exact 1 0).0 refl).2 in
    let same : s.representative 0 ≡ s.representative 1 = omega (arith, zero_first, first) in
    true≢false (((s.partitioned.together 0 1 (omega arith) (omega arith) (λ e. omega (arith, e))).0 same).0)
