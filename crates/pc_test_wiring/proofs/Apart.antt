-- Of the function imports of the module of adapters the traps alone share a context.
use Rattle.std.proofs.Common.{◌≡◌, ◌≢◌, ◌<◌, ◌≤◌, ℕ, zero, suc, List, [], ◌∷◌, Option, Some, None, map, refl, sym, ap}
use Rattle.std.proofs.Common.{◌∙◌, arith, All, slice_get, subst, option_and_then}
use Rattle.std.proofs.lemmas.List.Elements.{All-cons, All-nil}
use Rattle.std.proofs.lemmas.Option.{none-some, same_Some}
use Rattle.pc_numbers.specs.declared.entity_index.EntityIndex.{EntityIndex}
use Rattle.pc_numbers.specs.declared.entity_index.EntityIndex.TheVariants as index
use Rattle.pc_types.specs.declared.module_record.ModuleRecord.{ModuleRecord}
use Rattle.pc_types.specs.declared.parsed.CoreKind.TheVariants as kind
use Rattle.pc_types.specs.Record.{entity_at, import_place}
use Rattle.pc_spec_plan.specs.PlanView as plan
use Rattle.pc_spec_wiring.specs.Facts.{RecordsSharing}
use Rattle.pc_spec_wiring.specs.Origin.{ComesFrom, Core, Given, IsFrom, Origin, PlanEnd, an_end, an_item, cores_in}
use Rattle.pc_spec_wiring.specs.Origin.{defined_in, ended, flags, from_end, from_item, given_by, imported_there}
use Rattle.pc_spec_wiring.specs.Origin.{its_own}
use Rattle.pc_spec_wiring.specs.Origin.{of_host, of_record, trampoline}
use Rattle.pc_spec_wiring.specs.Sharing.{AlwaysShare, AreRecorded, HasHome, Home, core_instance, home_of, plan_home}
use Rattle.pc_spec_wiring.specs.Sharing.{the_component}
use Rattle.pc_test_wiring.specs.TwoAdapters.{adapting, adapting_arguments, lifting, lowering, lowering_arguments}
use Rattle.pc_test_wiring.specs.TwoAdapters.{records}
use Rattle.pc_test_wiring.specs.TwoAdapters.{func_of, recorded_of_adapters, two_adapters}
use Rattle.pc_test_wiring.proofs.Contexts.{at_place, cores}

-- what the module of adapters is given
abbrev given : List (Given PlanEnd)
given = map given_by adapting_arguments

-- the record of a core instance
abbrev pub record_of : Core PlanEnd → ModuleRecord
record_of (of_record m r args) = r
record_of of_host = lifting

-- the home of an entity that the module of its instance defines is that instance
own_home : (n m : ℕ) (r : ModuleRecord) (args : List (Given PlanEnd)) (e : EntityIndex) (o : Origin PlanEnd)
    → slice_get cores n ≡ Some (of_record m r args) → import_place r e ≡ None → ComesFrom cores n e o
    → home_of plan_home o ≡ Some (core_instance n)
own_home n m r args e o at none (its_own at2 none2 has) = refl
own_home n m r args e o at none (imported_there {m = m2} {place} {r = r2} {given = args2} at2 imports gets from) =
    let same : r ≡ r2 =
    ap record_of (same_Some (of_record m r args) (of_record m2 r2 args2) (sym at ∙ at2)) in
    absurd (none-some place (sym (subst (λ (x : ModuleRecord). import_place x e ≡ None) same none) ∙ imports))

-- the home of what is given
abbrev home_given : Given PlanEnd → Option Home
home_given (an_item n item) = Some (core_instance n)
home_given (an_end x) = plan_home x

-- whatever it comes from, this is its home
abbrev HasOne : Given PlanEnd → Type 0
HasOne d = (o : Origin PlanEnd) → IsFrom cores d o → home_of plan_home o ≡ home_given d

from_first : HasOne (given_by (func_of 0 0))
from_first o (from_item comes) = own_home 0 0 lifting [] (index.Function (record { 0 = 0 })) o refl refl comes

from_second : HasOne (given_by (func_of 1 0))
from_second o (from_item comes) = own_home 1 0 lifting [] (index.Function (record { 0 = 0 })) o refl refl comes

from_an_end : (x : PlanEnd) → HasOne (an_end x)
from_an_end x o from_end = refl

all_have_one : All HasOne given
all_have_one =
    All-cons HasOne (given_by (func_of 0 0)) (map given_by (plan.flags 3 ∷ plan.flags 1 ∷ plan.trampoline 0
    ∷ func_of 1 0 ∷ plan.flags 3 ∷ plan.flags 2 ∷ plan.trampoline 0 ∷ [])) from_first
    (All-cons HasOne (an_end (flags 3)) (map given_by (plan.flags 1 ∷ plan.trampoline 0
    ∷ func_of 1 0 ∷ plan.flags 3 ∷ plan.flags 2 ∷ plan.trampoline 0 ∷ [])) (from_an_end (flags 3))
    (All-cons HasOne (an_end (flags 1)) (map given_by (plan.trampoline 0
    ∷ func_of 1 0 ∷ plan.flags 3 ∷ plan.flags 2 ∷ plan.trampoline 0 ∷ [])) (from_an_end (flags 1))
    (All-cons HasOne (an_end (trampoline 0)) (map given_by (func_of 1 0 ∷ plan.flags 3 ∷ plan.flags 2
    ∷ plan.trampoline 0 ∷ [])) (from_an_end (trampoline 0))
    (All-cons HasOne (given_by (func_of 1 0)) (map given_by (plan.flags 3 ∷ plan.flags 2 ∷ plan.trampoline 0 ∷ []))
    from_second
    (All-cons HasOne (an_end (flags 3)) (map given_by (plan.flags 2 ∷ plan.trampoline 0 ∷ []))
    (from_an_end (flags 3))
    (All-cons HasOne (an_end (flags 2)) (map given_by (plan.trampoline 0 ∷ [])) (from_an_end (flags 2))
    (All-cons HasOne (an_end (trampoline 0)) [] (from_an_end (trampoline 0)) (All-nil HasOne))))))))

-- the home of the function that stands at a place among what is given
abbrev home_at : Option ℕ → Option Home
home_at place = option_and_then home_given (option_and_then (slice_get given) place)

-- the home of a function import of the module of adapters
abbrev import_home : (f : ℕ) → Option Home
import_home f = home_at (import_place adapting (entity_at kind.Func f))

-- a function import has no other home
one_home : (f : ℕ) (h : Home) → HasHome plan_home cores adapting given f h → import_home f ≡ Some h
one_home f h x =
    ap home_at x.imports ∙ ap (option_and_then home_given) x.gets
    ∙ (sym (at_place HasOne given x.place x.what all_have_one x.gets x.origin x.from) ∙ x.home)

-- the representatives, and whose context each class has
abbrev representative : ℕ → ℕ
representative zero = 0
representative (suc zero) = 1
representative (suc (suc zero)) = 2
representative (suc (suc (suc zero))) = 1
representative (suc (suc (suc (suc f)))) = 0

abbrev home_for : ℕ → Home
home_for zero = core_instance 0
home_for (suc zero) = the_component
home_for (suc (suc n)) = core_instance 1

-- the class of a home
abbrev class_of : Option Home → ℕ
class_of None = 3
class_of (Some (core_instance zero)) = 0
class_of (Some (core_instance (suc n))) = 2
class_of (Some the_component) = 1

-- each import is in the class of its home
classes : (f : ℕ) → f < 4 → representative f ≡ class_of (import_home f)
classes zero p = refl
classes (suc zero) p = refl
classes (suc (suc zero)) p = refl
classes (suc (suc (suc zero))) p = refl
classes (suc (suc (suc (suc f)))) p = absurd (omega (arith, p))

-- each import has the home of its class
homes : (f : ℕ) → f < 4 → HasHome plan_home cores adapting given f (home_for (representative f))
homes zero p = record {
  place = 0;
  what = given_by (func_of 0 0);
  origin = defined_in 0 0 (index.Function (record { 0 = 0 }));
  imports = refl;
  gets = refl;
  from = from_item (its_own refl refl refl);
  home = refl;
}
homes (suc zero) p = record {
  place = 3;
  what = an_end (trampoline 0);
  origin = ended (trampoline 0);
  imports = refl;
  gets = refl;
  from = from_end;
  home = refl;
}
homes (suc (suc zero)) p = record {
  place = 4;
  what = given_by (func_of 1 0);
  origin = defined_in 1 0 (index.Function (record { 0 = 0 }));
  imports = refl;
  gets = refl;
  from = from_item (its_own refl refl refl);
  home = refl;
}
homes (suc (suc (suc zero))) p = record {
  place = 7;
  what = an_end (trampoline 0);
  origin = ended (trampoline 0);
  imports = refl;
  gets = refl;
  from = from_end;
  home = refl;
}
homes (suc (suc (suc (suc f)))) p = absurd (omega (arith, p))

-- a core instance gives two function imports of the module of adapters one home
abbrev GivesOne : (f g : ℕ) → Core PlanEnd → Type 0
GivesOne f g (of_record m r args) =
    m ≡ 2 → (h : Home) × HasHome plan_home cores r args f h × HasHome plan_home cores r args g h
GivesOne f g of_host = Unit {0}

all_give : (f g : ℕ) → f < 4 → g < 4 → representative f ≡ representative g → All (GivesOne f g) cores
all_give f g p q e =
    All-cons (GivesOne f g) (of_record 0 lifting [])
    (of_record 0 lifting [] ∷ of_record 2 adapting given ∷ of_record 1 lowering (map given_by lowering_arguments) ∷ [])
    (λ d. absurd (omega (arith, d)))
    (All-cons (GivesOne f g) (of_record 0 lifting [])
    (of_record 2 adapting given ∷ of_record 1 lowering (map given_by lowering_arguments) ∷ [])
    (λ d. absurd (omega (arith, d)))
    (All-cons (GivesOne f g) (of_record 2 adapting given)
    (of_record 1 lowering (map given_by lowering_arguments) ∷ [])
    (λ d. (
      home_for (representative f),
      homes f p,
      subst (λ (n : ℕ). HasHome plan_home cores adapting given g (home_for n)) (sym e) (homes g q),
    ))
    (All-cons (GivesOne f g) (of_record 1 lowering (map given_by lowering_arguments)) []
    (λ d. absurd (omega (arith, d))) (All-nil (GivesOne f g)))))

always : (f g : ℕ) → f < 4 → g < 4 → representative f ≡ representative g → AlwaysShare plan_home cores 2 f g
unfolding AlwaysShare
always f g p q e n r args at = at_place (GivesOne f g) cores n (of_record 2 r args) (all_give f g p q e) at refl

-- imports that always share are in one class
shared : (f g : ℕ) → f < 4 → g < 4 → AlwaysShare plan_home cores 2 f g → representative f ≡ representative g
unfolding AlwaysShare
shared f g p q s =
    let here : (h : Home) × HasHome plan_home cores adapting given f h × HasHome plan_home cores adapting given g h =
    s 2 adapting given refl in
    classes f p ∙ ap class_of (one_home f here.0 here.1 ∙ sym (one_home g here.0 here.2)) ∙ sym (classes g q)

-- each import is represented by one that represents itself and isn't higher
own : (f : ℕ) → f < 4 → representative (representative f) ≡ representative f
own zero p = refl
own (suc zero) p = refl
own (suc (suc zero)) p = refl
own (suc (suc (suc zero))) p = refl
own (suc (suc (suc (suc f)))) p = absurd (omega (arith, p))

least : (f : ℕ) → f < 4 → representative f ≤ f
least zero p = omega arith
least (suc zero) p = omega arith
least (suc (suc zero)) p = omega arith
least (suc (suc (suc zero))) p = omega arith
least (suc (suc (suc (suc f)))) p = omega arith

-- the second trap is recorded, with the first
told : (f g : ℕ) → recorded_of_adapters f ≡ Some g → (f < 4) × (g ≢ f) × (g ≡ representative f)
told zero g e = absurd (none-some g e)
told (suc zero) g e = absurd (none-some g e)
told (suc (suc zero)) g e = absurd (none-some g e)
told (suc (suc (suc zero))) g e =
    let first : 1 ≡ g = same_Some 1 g e in (omega arith, (λ h. omega (arith, h, first)), sym first)
told (suc (suc (suc (suc f)))) g e = absurd (none-some g e)

untold : (f g : ℕ) → (f < 4) × (g ≢ f) × (g ≡ representative f) → recorded_of_adapters f ≡ Some g
untold zero g s = absurd (s.1 s.2)
untold (suc zero) g s = absurd (s.1 s.2)
untold (suc (suc zero)) g s = absurd (s.1 s.2)
untold (suc (suc (suc zero))) g s = ap Some (sym s.2)
untold (suc (suc (suc (suc f)))) g s = absurd (omega (arith, s.0))

pub apart : RecordsSharing two_adapters records 2 adapting recorded_of_adapters
unfolding AreRecorded cores_in
apart = record {
  representative = representative;
  partitioned = record {
    together = λ f g p q d. ((λ e. (refl, always f g p q e)), (λ s. shared f g p q s.1));
    own = own;
    least = least;
  };
  exact = λ f g. (told f g, untold f g);
}
