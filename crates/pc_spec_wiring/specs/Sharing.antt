-- Which function imports of a core module are always given functions of one context.
use Rattle.std.specs.Prelude.{◌≡◌, ◌≢◌, ◌<◌, ◌≤◌, ◌↔◌, ℕ, Bool, false, List, Option, None, Some, slice_get}
use Rattle.pc_types.specs.declared.module_record.ModuleRecord.{ModuleRecord}
use Rattle.pc_types.specs.declared.parsed.CoreKind.TheVariants as kind
use Rattle.pc_types.specs.Record.{entity_at, import_place}
use Rattle.pc_spec_wiring.specs.Origin.{Core, Given, Origin, PlanEnd, IsFrom, defined_in, ended, flags, trampoline}
use Rattle.pc_spec_wiring.specs.Origin.{intrinsic, of_record}

-- whose context a function has: that of a core instance, or that of the component
pub data Home : Type 0 where
  core_instance : (number : ℕ) → Home
  the_component : Home

-- the home of what comes from somewhere: an item has that of the instance that defines it
abbrev pub home_of : {E : Type 0} → (end_home : E → Option Home) → Origin E → Option Home
home_of end_home (defined_in n m e) = Some (core_instance n)
home_of end_home (ended x) = end_home x

-- on a plan trampolines and intrinsics have the component's context, and flags have none
abbrev pub plan_home : PlanEnd → Option Home
plan_home (trampoline t) = Some the_component
plan_home (intrinsic i) = Some the_component
plan_home (flags c) = None

module _ {E : Type 0} (end_home : E → Option Home) (cores : List (Core E)) where
  -- a function import of a module with this record is given a function of this home
  pub record HasHome (r : ModuleRecord) (given : List (Given E)) (f : ℕ) (h : Home) : Type 0 where
    pub place : ℕ
    pub what : Given E
    pub origin : Origin E
    pub imports : import_place r (entity_at kind.Func f) ≡ Some place
    pub gets : slice_get given place ≡ Some what
    pub from : IsFrom cores what origin
    pub home : home_of end_home origin ≡ Some h

  -- each core instance of a module gives two function imports functions of one home
  unfoldable pub AlwaysShare : (number f g : ℕ) → Type 0
  AlwaysShare m f g = (n : ℕ) (r : ModuleRecord) (given : List (Given E))
      → slice_get cores n ≡ Some (of_record m r given) → (h : Home) × HasHome r given f h × HasHome r given g h

  -- representatives of the first so many function imports of a module: two have one exactly where they always share and
  -- the host isn't given the module, and each is the least of its class
  pub record ArePartitioned (is_exported : Bool) (number size : ℕ) (representative : ℕ → ℕ) : Type 0 where
    pub together : (f g : ℕ) → f < size → g < size → f ≢ g
        → (representative f ≡ representative g) ↔ ((is_exported ≡ false) × AlwaysShare number f g)
    pub own : (f : ℕ) → f < size → representative (representative f) ≡ representative f
    pub least : (f : ℕ) → f < size → representative f ≤ f

-- of the first so many function imports those are recorded that another import represents, each with that one
unfoldable pub AreRecorded : (size : ℕ) → (representative : ℕ → ℕ) → (recorded : ℕ → Option ℕ) → Type 0
AreRecorded size representative recorded =
    (f g : ℕ) → (recorded f ≡ Some g) ↔ ((f < size) × (g ≢ f) × (g ≡ representative f))
