-- The facts that are recorded of the core modules of a plan, and when they are exact.
use Rattle.std.specs.Prelude.{◌≡◌, ◌<◌, ◌↔◌, ◌⊎◌, ℕ, Bool, true, List, length, Option, Some, slice_get, Contains}
use Rattle.std.specs.List.{filter_map}
use Rattle.pc_types.specs.declared.module_record.ModuleRecord.{ModuleRecord}
use Rattle.pc_types.specs.declared.parsed.CoreKind.{CoreKind}
use Rattle.pc_types.specs.declared.parsed.CoreKind.TheVariants as kind
use Rattle.pc_types.specs.Record.{imported}
use Rattle.pc_spec_plan.specs.PlanView.{Definition, PlanView}
use Rattle.pc_spec_wiring.specs.Exported.{is_exported}
use Rattle.pc_spec_wiring.specs.Known.{Known, KnownFunction, IsKnown, IsKnownFunction, IsKnownToImporters, arguments_in}
use Rattle.pc_spec_wiring.specs.Origin.{cores_in}
use Rattle.pc_spec_wiring.specs.Sharing.{ArePartitioned, AreRecorded, plan_home}

-- what is recorded of a module, as look-ups: the representative of a function import, what a function import is, what
-- the nth import of a kind is, and whether importers may know the nth entity of a kind that the module defines
pub record ModuleFacts : Type 0 where
  pub representative : (f : ℕ) → Option ℕ
  pub function : (f : ℕ) → Option KnownFunction
  pub import : CoreKind → (n : ℕ) → Option Known
  pub is_known : CoreKind → (n : ℕ) → Bool

module _ {τ : Type 0} (p : PlanView τ) (records : List ModuleRecord) where
  -- a module was handed in, or some step makes an instance of it
  abbrev pub IsInPlan : (number : ℕ) → Type 0
  IsInPlan m =
      (m < length p.handed_in)
      ⊎ ((args : List Definition) × Contains (filter_map (arguments_in m) p.initializers) args)

  -- the representatives that are recorded of a module of this record are those of its function imports
  pub record RecordsSharing (number : ℕ) (r : ModuleRecord) (recorded : ℕ → Option ℕ) : Type 0 where
    pub representative : ℕ → ℕ
    pub partitioned : ArePartitioned plan_home (cores_in records p.initializers) (is_exported p number) number
        (imported r kind.Func) representative
    pub exact : AreRecorded (imported r kind.Func) representative recorded

  -- the facts of each module are exactly those that the plan gives, where the modules of the plan have these records;
  -- of a module of adapters that no step makes the plan doesn't say which imports share a context
  pub record AreExact (facts : (number : ℕ) → ModuleFacts) : Type 0 where
    pub sharing : (m : ℕ) (r : ModuleRecord) → slice_get records m ≡ Some r → IsInPlan m
        → RecordsSharing m r (facts m).representative
    pub functions : (m f : ℕ) (x : KnownFunction) → ((facts m).function f ≡ Some x)
        ↔ IsKnownFunction records p.initializers (is_exported p) p.trampolines m f x
    pub imports : (m : ℕ) (k : CoreKind) (n : ℕ) (x : Known) → ((facts m).import k n ≡ Some x)
        ↔ IsKnown records p.initializers (is_exported p) m k n x
    pub known_to_importers : (m : ℕ) (k : CoreKind) (n : ℕ) → ((facts m).is_known k n ≡ true)
        ↔ IsKnownToImporters records p.initializers (is_exported p) m k n
