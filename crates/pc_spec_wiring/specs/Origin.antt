-- Where the items of core instances come from. An import that a module exports again is followed to what the instance
-- was given for it.
use Rattle.std.specs.Prelude.{◌≡◌, ℕ, true, List, [], ◌∷◌, Option, None, Some, slice_get, map}
use Rattle.std.specs.List.{flat_map}
use Rattle.pc_numbers.specs.declared.entity_index.EntityIndex.{EntityIndex}
use Rattle.pc_types.specs.declared.module_record.ModuleRecord.{ModuleRecord}
use Rattle.pc_types.specs.Record.{has_entity, import_place}
use Rattle.pc_spec_plan.specs.CoreValue.{ExportedItem, by_index}
use Rattle.pc_spec_plan.specs.PlanView as plan

-- what a core instance is given for an import: an item of a core instance, or something else
pub data Given (E : Type 0) : Type 0 where
  an_item : (instance : ℕ) → ExportedItem → Given E
  an_end : E → Given E

-- a core instance: of a module with this number and record, with what it is given for each of its imports; or of a
-- module of the host, whose items can't be seen through
pub data Core (E : Type 0) : Type 0 where
  of_record : (number : ℕ) → ModuleRecord → List (Given E) → Core E
  of_host : Core E

-- where an item comes from: an instance whose module, of this number, defines it; or something else that is no item
pub data Origin (E : Type 0) : Type 0 where
  defined_in : (instance number : ℕ) → EntityIndex → Origin E
  ended : E → Origin E

mutual
  -- an entity of a core instance comes from somewhere
  pub data ComesFrom {E : Type 0} (cores : List (Core E)) : (instance : ℕ) → EntityIndex → Origin E → Type 0 where
    its_own : {n m : ℕ} {r : ModuleRecord} {given : List (Given E)} {e : EntityIndex}
        → slice_get cores n ≡ Some (of_record m r given) → import_place r e ≡ None → has_entity r e ≡ true
        → ComesFrom cores n e (defined_in n m e)
    imported_there : {n m place : ℕ} {r : ModuleRecord} {given : List (Given E)} {e : EntityIndex} {d : Given E}
        {o : Origin E} → slice_get cores n ≡ Some (of_record m r given) → import_place r e ≡ Some place
        → slice_get given place ≡ Some d → IsFrom cores d o → ComesFrom cores n e o

  -- what is given comes from somewhere; an item that only has a name comes from nowhere
  pub data IsFrom {E : Type 0} (cores : List (Core E)) : Given E → Origin E → Type 0 where
    from_item : {n : ℕ} {e : EntityIndex} {o : Origin E} → ComesFrom cores n e o
        → IsFrom cores (an_item n (by_index e)) o
    from_end : {x : E} → IsFrom cores (an_end x) (ended x)

-- what a plan gives that is no item of a core instance
pub data PlanEnd : Type 0 where
  flags : (component_instance : ℕ) → PlanEnd
  trampoline : (number : ℕ) → PlanEnd
  intrinsic : (place : ℕ) → PlanEnd

-- a definition of a plan, as what is given
abbrev pub given_by : plan.Definition → Given PlanEnd
given_by (plan.export r item) = an_item r item
given_by (plan.flags c) = an_end (flags c)
given_by (plan.trampoline t) = an_end (trampoline t)
given_by (plan.intrinsic i) = an_end (intrinsic i)

-- a core instance of a module of a plan, from its arguments; the items of a module without a record can't be seen
-- through
abbrev pub core_of : (number : ℕ) → Option ModuleRecord → List plan.Definition → Core PlanEnd
core_of m None args = of_host
core_of m (Some r) args = of_record m r (map given_by args)

-- the core instance that a step makes, if it makes one, where the modules have these records
abbrev pub cores_of : List ModuleRecord → plan.Initializer → List (Core PlanEnd)
cores_of records (plan.instantiate_static m args c) = core_of m (slice_get records m) args ∷ []
cores_of records (plan.instantiate_import r args c) = of_host ∷ []
cores_of records step = []

-- the core instances that the steps of a plan make, by their numbers in the run
unfoldable pub cores_in : List ModuleRecord → List plan.Initializer → List (Core PlanEnd)
cores_in records steps = flat_map (cores_of records) steps
