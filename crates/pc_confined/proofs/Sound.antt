-- Logs that are confined entry by entry, and scopes whose items belong to their component instance.
use Rattle.std.specs.Prelude.{◌≡◌, ℕ, List, ◌++◌}
use Rattle.std.specs.List.{All}
use Rattle.pc_types.specs.declared.parsed.CoreKind.{CoreKind}
use Rattle.pc_spec_plan.specs.CoreValue.{CoreValue, Options, adapter}
use Rattle.pc_spec_plan.specs.Log.{Entry, declared, declared_resource, instances_of, instantiated, made, needed}
use Rattle.pc_parsed.specs.Mark.{Mark}
use Rattle.pc_spec_reading.specs.Member as member
use Rattle.pc_spec_reading.specs.Member.{Member}
use Rattle.pc_spec_reading.specs.Scope.{CoreInstance, CoreItem, Moment, Scope, bag, core_list, of_host_module}
use Rattle.pc_spec_reading.specs.Scope.{of_module}
use Rattle.pc_spec_reading.specs.Value.{Function, Instance, NamedValues, Value, and_value, component_value}
use Rattle.pc_spec_reading.specs.Value.{func_value, host_function, host_instance, instance_value, intrinsic_function}
use Rattle.pc_spec_reading.specs.Value.{lifted_function, made_instance, module_value, no_values, the_intrinsics}
use Rattle.pc_spec_reading.specs.Value.{type_value}
use Rattle.pc_spec_wiring.specs.Confined.{Belongs, WasMadeFor}
use Rattle.pc_spec_wiring.specs.Held.{arguments_of, instance_of, lifts_of, maybe_list, options_list}

module _ (log : List (Entry Mark)) where
  -- what an adapter lifts belongs to the component instance of its lift options
  abbrev pub IsConfinedAdapter : CoreValue Mark → Type 0
  IsConfinedAdapter (adapter lift_type lift lower_type lower callee) =
      All (Belongs log (instance_of lift)) (lifts_of lift callee)
  IsConfinedAdapter v = Unit {0}

  -- what an entry names belongs to the component instance that it is for
  abbrev pub IsConfinedEntry : Entry Mark → Type 0
  IsConfinedEntry (instantiated i c) = All (Belongs log c) (arguments_of i)
  IsConfinedEntry (declared_resource r d c) = All (Belongs log c) (maybe_list d)
  IsConfinedEntry (declared v) = Unit {0}
  IsConfinedEntry (made v) = IsConfinedAdapter v
  IsConfinedEntry (needed p) = Unit {0}

  -- options are those of a component instance, and what they hold belongs to it
  pub record AreOptionsOf (c : ℕ) (o : Options Mark) : Type 0 where
    pub whose : instance_of o ≡ c
    pub held : All (Belongs log c) (options_list o)

  -- what was lifted belongs to the component instance of its options, as they do
  abbrev pub IsSoundFunction : Function → Type 0
  IsSoundFunction (lifted_function tree v o) = All (Belongs log (instance_of o)) (lifts_of o v)
  IsSoundFunction (host_function p) = Unit {0}
  IsSoundFunction (intrinsic_function n) = Unit {0}

  abbrev mutual
    -- so does each function in a value
    pub IsSoundValue : Value → Type 0
    IsSoundValue (func_value f) = IsSoundFunction f
    IsSoundValue (module_value m) = Unit {0}
    IsSoundValue (instance_value i) = IsSoundInstance i
    IsSoundValue (component_value c) = Unit {0}
    IsSoundValue (type_value t) = Unit {0}

    -- in an instance
    pub IsSoundInstance : Instance → Type 0
    IsSoundInstance (made_instance vs tree) = AreSoundValues vs
    IsSoundInstance (host_instance p tree) = Unit {0}
    IsSoundInstance the_intrinsics = Unit {0}

    -- and in named values
    pub AreSoundValues : NamedValues → Type 0
    AreSoundValues no_values = Unit {0}
    AreSoundValues (and_value name v vs) = IsSoundValue v × AreSoundValues vs

  -- the same of a member
  abbrev pub IsSoundMember : Member → Type 0
  IsSoundMember (member.a_value v) = IsSoundValue v
  IsSoundMember member.a_host_component = Unit {0}

  -- the same of an argument
  abbrev pub IsSoundArgument : List ℕ × Value → Type 0
  IsSoundArgument a = IsSoundValue a.1

  -- a core instance was made for a component instance, or is a bag of what belongs to it
  abbrev pub IsSoundCore : (c : ℕ) → CoreInstance → Type 0
  IsSoundCore c (of_module order number) = WasMadeFor (instances_of log) order c
  IsSoundCore c (of_host_module order tree) = WasMadeFor (instances_of log) order c
  IsSoundCore c (bag items) = All (λ (e : List ℕ × CoreItem). Belongs log c e.1.value) items

  -- a scope has such items alone; modules, components and the chain lend no function
  pub record IsSoundScope (s : Scope) : Type 0 where
    pub cores : (k : CoreKind) → All (Belongs log s.component_instance) (core_list s k)
    pub core_instances : All (IsSoundCore s.component_instance) s.core_instances
    pub funcs : All IsSoundFunction s.funcs
    pub instances : All IsSoundInstance s.instances
    pub arguments : All IsSoundArgument s.arguments

-- each entry of a log is confined
abbrev pub AreConfined : List (Entry Mark) → Type 0
AreConfined log = All (IsConfinedEntry log) log

-- a moment whose log is confined and whose scope is sound
pub record IsSoundMoment (now : Moment) : Type 0 where
  pub confined : AreConfined now.world.log
  pub scope : IsSoundScope now.world.log now.scope

-- a log got longer at its end
pub record Grows (log later : List (Entry Mark)) : Type 0 where
  pub more : List (Entry Mark)
  pub is : later ≡ log ++ more

-- a later moment is sound too, and its log longer
pub record Follows (now later : Moment) : Type 0 where
  pub sound : IsSoundMoment later
  pub grows : Grows now.world.log later.world.log
