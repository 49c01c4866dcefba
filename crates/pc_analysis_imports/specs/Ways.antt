-- How each module of a plan is instantiated.
use Rattle.std.specs.Prelude.{◌≡◌, ◌≢◌, ◌⊎◌, ◌==◌, ℕ, Bool, true, false, List, [], length, Contains, Option, None}
use Rattle.std.specs.Prelude.{Some, slice_get, if◌then◌else◌}
use Rattle.std.specs.List.{filter_map}
use Rattle.pc_info.specs.declared.core_def.CoreDef.{CoreDef}
use Rattle.pc_info.specs.declared.export.Export.{Export}
use Rattle.pc_info.specs.declared.export.Export.TheVariants as export
use Rattle.pc_info.specs.declared.initializer.GlobalInitializer.{GlobalInitializer}
use Rattle.pc_info.specs.declared.initializer.GlobalInitializer.TheVariants as init
use Rattle.pc_info.specs.declared.initializer.InstantiateModule.TheVariants as module_source
use Rattle.pc_dfg.specs.declared.instantiations.AbstractInstantiations.{AbstractInstantiations}
use Rattle.pc_dfg.specs.declared.instantiations.AbstractInstantiations.TheVariants as abstract
use Rattle.pc_dfg.specs.Instantiations as inst
use Rattle.pc_dfg.specs.Instantiations.{joined, known_of}

-- what a module is given in a step that makes an instance of it
abbrev pub given_in : (number : ℕ) → GlobalInitializer → Option (List CoreDef)
given_in m (init.InstantiateModule (module_source.Static n args) c) = if n.0 == m then Some args else None
given_in m i = None

-- what it is given in all these steps
abbrev pub given_to : (number : ℕ) → List GlobalInitializer → List (List CoreDef)
given_to m steps = filter_map (given_in m) steps

-- a module that the host has or not, and that is given these, is instantiated in this way
abbrev pub IsWay : (exported : Bool) → List (List CoreDef) → inst.Known → Type 0
IsWay exported given inst.none = (exported ≡ false) × (given ≡ [])
IsWay exported given (inst.one args) =
    (exported ≡ false) × Contains given args × ((others : List CoreDef) → Contains given others → others ≡ args)
IsWay exported given inst.many =
    (exported ≡ true)
    ⊎ ((a b : List CoreDef) × Contains given a × Contains given b × (a ≢ b))

-- modules are instantiated in these ways, where the host has some of them and these steps are done
abbrev pub AreWays : (is_exported : ℕ → Bool) → List GlobalInitializer → List AbstractInstantiations → Type 0
AreWays is_exported steps ways =
    (m : ℕ) (w : AbstractInstantiations) → slice_get ways m ≡ Some w
    → IsWay (is_exported m) (given_to m steps) (known_of w)

-- the way of one module takes in another way; the others stay
pub record TakesIn (m : ℕ) (other : AbstractInstantiations) (before after : List AbstractInstantiations) : Type 0 where
  pub count : length after ≡ length before
  pub here : (w : AbstractInstantiations) → slice_get after m ≡ Some w
      → (v : AbstractInstantiations) × (slice_get before m ≡ Some v) × (known_of w ≡ joined (known_of v) (known_of other))
  pub elsewhere : (n : ℕ) → n ≢ m → slice_get after n ≡ slice_get before n

-- the ways after a step
abbrev pub JoinsStep : GlobalInitializer → (before after : List AbstractInstantiations) → Type 0
JoinsStep (init.InstantiateModule (module_source.Static m args) c) before after =
    (w : AbstractInstantiations) × (known_of w ≡ inst.one args) × TakesIn m.0 w before after
JoinsStep i before after = after ≡ before

-- the ways after an export item: the host has more ways
abbrev pub JoinsExport : Export → (before after : List AbstractInstantiations) → Type 0
JoinsExport (export.ModuleStatic ty index) before after = TakesIn index.0 abstract.Many before after
JoinsExport e before after = after ≡ before
