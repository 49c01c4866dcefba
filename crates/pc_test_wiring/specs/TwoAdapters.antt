-- A plan of two component instances of one component and of a third that lowers a function of each: both adapters stand
-- in one module.
use Rattle.std.specs.Prelude.{ℕ, zero, suc, false, List, [], ◌∷◌, Option, None, Some, slice_get}
use Rattle.pc_numbers.specs.declared.entity_index.EntityIndex.TheVariants as index
use Rattle.pc_types.specs.declared.module_record.ModuleRecord.{ModuleRecord}
use Rattle.pc_types.specs.declared.parsed.CoreEntity.{CoreEntity}
use Rattle.pc_types.specs.declared.parsed.CoreEntity.TheVariants as entity
use Rattle.pc_types.specs.declared.parsed.CoreKind.{CoreKind}
use Rattle.pc_types.specs.declared.parsed.CoreKind.TheVariants as kind
use Rattle.pc_types.specs.declared.trampoline.TrampolineKind.TheVariants as trampoline
use Rattle.pc_spec_plan.specs.CoreValue.{by_index}
use Rattle.pc_spec_plan.specs.PlanView as plan
use Rattle.pc_spec_plan.specs.PlanView.{PlanView}
use Rattle.pc_spec_wiring.specs.Exported.{is_exported}
use Rattle.pc_spec_wiring.specs.Facts.{ModuleFacts}
use Rattle.pc_spec_wiring.specs.Known.{IsAmbiguous, IsKnown, IsKnownFunction, Known, KnownFunction, a_function}
use Rattle.pc_spec_wiring.specs.Known.{the_flags, traps}

-- an import of a function; no fact asks for names
abbrev pub a_func : List ℕ × List ℕ × CoreEntity
a_func = ([], [], entity.Func 0)

-- an import of a global
abbrev pub a_global : List ℕ × List ℕ × CoreEntity
a_global = ([], [], entity.Global)

-- the module that has the function which is lifted
abbrev pub lifting : ModuleRecord
lifting = record { imports = []; funcs = 0 ∷ []; tables = 0; memories = []; globals = 0; tags = 0; exports = [] }

-- the module that is given both adapters
abbrev pub lowering : ModuleRecord
lowering = record {
  imports = a_func ∷ a_func ∷ [];
  funcs = [];
  tables = 0;
  memories = [];
  globals = 0;
  tags = 0;
  exports = [];
}

-- the module of adapters, which imports for each a callee, the flags of both sides, and a trap
abbrev pub adapting : ModuleRecord
adapting = record {
  imports = a_func ∷ a_global ∷ a_global ∷ a_func ∷ a_func ∷ a_global ∷ a_global ∷ a_func ∷ [];
  funcs = 0 ∷ 0 ∷ [];
  tables = 0;
  memories = [];
  globals = 0;
  tags = 0;
  exports = [];
}

-- the records of the modules, the handed-in ones first
abbrev pub records : List ModuleRecord
records = lifting ∷ lowering ∷ adapting ∷ []

-- a function of a core instance, by index
abbrev pub func_of : (instance number : ℕ) → plan.Definition
func_of r n = plan.export r (by_index (index.Function (record { 0 = n })))

-- what the module of adapters is given
abbrev pub adapting_arguments : List plan.Definition
adapting_arguments =
    func_of 0 0 ∷ plan.flags 3 ∷ plan.flags 1 ∷ plan.trampoline 0
    ∷ func_of 1 0 ∷ plan.flags 3 ∷ plan.flags 2 ∷ plan.trampoline 0
    ∷ []

-- what the module that lowers is given: both functions that the module of adapters defines
abbrev pub lowering_arguments : List plan.Definition
lowering_arguments = func_of 2 4 ∷ func_of 2 5 ∷ []

-- the steps
abbrev pub steps : List plan.Initializer
steps =
    plan.instantiate_static 0 [] (Some 1) ∷ plan.instantiate_static 0 [] (Some 2)
    ∷ plan.instantiate_static 2 adapting_arguments None ∷ plan.instantiate_static 1 lowering_arguments (Some 3)
    ∷ []

-- a plan of these modules with these steps and exports, and with a trap for a trampoline
abbrev pub plan_of : List plan.Initializer → List (plan.NamedExport (Unit {0})) → PlanView (Unit {0})
plan_of initializers exports = record {
  handed_in = lifting ∷ lowering ∷ [];
  adapter_modules = 1;
  adapters = [];
  import_types = [];
  imports = [];
  imported_resources = [];
  initializers = initializers;
  options = [];
  trampolines = plan.helper trampoline.Trap (1 ∷ []) (plan.mark tt ∷ []) ∷ [];
  intrinsics = [];
  exports = exports;
  counts = record {
    runtime_instances = 4;
    component_instances = 4;
    lowerings = 0;
    memories = 0;
    tables = 0;
    reallocs = 0;
    callbacks = 0;
    post_returns = 0;
    resources = 0;
    future_tables = 0;
    stream_tables = 0;
    error_context_tables = 0;
  };
}

-- the plan, whose root exports nothing
abbrev pub two_adapters : PlanView (Unit {0})
two_adapters = plan_of steps []

-- a function import of a module of a plan is known to be this
abbrev pub IsFunctionIn : PlanView (Unit {0}) → (number f : ℕ) → KnownFunction → Type 0
IsFunctionIn p m f x = IsKnownFunction records p.initializers (is_exported p) p.trampolines m f x

-- an import that holds data is
abbrev pub IsKnownIn : PlanView (Unit {0}) → (number : ℕ) → CoreKind → (n : ℕ) → Known → Type 0
IsKnownIn p m k n x = IsKnown records p.initializers (is_exported p) m k n x

-- something is seen under two names
abbrev pub IsAmbiguousIn : PlanView (Unit {0}) → Known → Type 0
IsAmbiguousIn p x = IsAmbiguous records p.initializers (is_exported p) x

-- what is recorded of the module that lowers: the first function represents the second
abbrev pub recorded : (f : ℕ) → Option ℕ
recorded zero = None
recorded (suc zero) = Some 0
recorded (suc (suc f)) = None

-- and of the module of adapters: both traps are the component's, and the callees are of two core instances
abbrev pub recorded_of_adapters : (f : ℕ) → Option ℕ
recorded_of_adapters zero = None
recorded_of_adapters (suc zero) = None
recorded_of_adapters (suc (suc zero)) = None
recorded_of_adapters (suc (suc (suc zero))) = Some 1
recorded_of_adapters (suc (suc (suc (suc f)))) = None

-- what the function imports of each module are known to be
abbrev pub functions_of : (number : ℕ) → List KnownFunction
functions_of zero = []
functions_of (suc zero) = a_function 2 0 ∷ a_function 2 1 ∷ []
functions_of (suc (suc zero)) = a_function 0 0 ∷ traps 1 ∷ a_function 0 0 ∷ traps 1 ∷ []
functions_of (suc (suc (suc m))) = []

-- and its imported globals: the flags of the side that lowers, and of the one that lifts
abbrev pub globals_of : (number : ℕ) → List Known
globals_of zero = []
globals_of (suc zero) = []
globals_of (suc (suc zero)) = the_flags 3 ∷ the_flags 1 ∷ the_flags 3 ∷ the_flags 2 ∷ []
globals_of (suc (suc (suc m))) = []

-- of imports that hold data globals alone are known
abbrev pub imports_of : (number : ℕ) → CoreKind → (n : ℕ) → Option Known
imports_of m kind.Global n = slice_get (globals_of m) n
imports_of m k n = None

-- the representatives that are recorded of each module
abbrev pub representatives_of : (number f : ℕ) → Option ℕ
representatives_of zero f = None
representatives_of (suc zero) f = recorded f
representatives_of (suc (suc zero)) f = recorded_of_adapters f
representatives_of (suc (suc (suc m))) f = None

-- all that is recorded; no module defines what holds data
abbrev pub facts : (number : ℕ) → ModuleFacts
facts m = record {
  representative = representatives_of m;
  function = slice_get (functions_of m);
  import = imports_of m;
  is_known = λ k n. false;
}
