-- What a core module knows of its imports: what it is given in every instance, and what no other module may see under
-- another name.
use Rattle.std.specs.Prelude.{◌≡◌, ◌<◌, ◌+◌, ℕ, Bool, true, false, List, [], ◌∷◌, Option, None, Some, slice_get}
use Rattle.std.specs.Prelude.{Contains, ◌==◌, if◌then◌else◌}
use Rattle.std.specs.List.{filter_map}
use Rattle.pc_numbers.specs.declared.entity_index.EntityIndex.{EntityIndex}
use Rattle.pc_types.specs.declared.module_record.ModuleRecord.{ModuleRecord}
use Rattle.pc_types.specs.declared.parsed.CoreKind.{CoreKind}
use Rattle.pc_types.specs.declared.parsed.CoreKind.TheVariants as kind
use Rattle.pc_types.specs.declared.trampoline.TrampolineKind.TheVariants as trampoline
use Rattle.pc_types.specs.Record.{defined, entity_at, import_place, imported}
use Rattle.pc_spec_plan.specs.PlanView as plan
use Rattle.pc_spec_wiring.specs.Origin.{IsFrom, defined_in, cores_in, given_by}

-- the arguments of a module in a step that makes an instance of it
abbrev pub arguments_in : (number : ℕ) → plan.Initializer → Option (List plan.Definition)
arguments_in m (plan.instantiate_static n args c) = if n == m then Some args else None
arguments_in m step = None

-- the nth entity of a kind that a module defines
abbrev pub defined_entity : ModuleRecord → CoreKind → (n : ℕ) → EntityIndex
defined_entity r k n = entity_at k (imported r k + n)

-- what a module may know by its place: the nth entity of a kind that a module defines, whichever instance has it, or
-- the flags of a component instance
pub data Known : Type 0 where
  a_defined : (number : ℕ) → CoreKind → (n : ℕ) → Known
  the_flags : (component_instance : ℕ) → Known

-- its kind: flags are a global
abbrev pub known_kind : Known → CoreKind
known_kind (a_defined m k n) = k
known_kind (the_flags c) = kind.Global

-- whether entities of a kind hold data: tables, memories and globals do
abbrev pub holds_data : CoreKind → Bool
holds_data kind.Table = true
holds_data kind.Memory = true
holds_data kind.Global = true
holds_data k = false

-- what a module may know a function import to be: the bracket of a call between component instances, a trap with its
-- code, an intrinsic, or the nth function that a module defines
pub data KnownFunction : Type 0 where
  enters_call : KnownFunction
  exits_call : KnownFunction
  traps : (code : ℕ) → KnownFunction
  an_intrinsic : (place : ℕ) → KnownFunction
  a_function : (number n : ℕ) → KnownFunction

-- Over the records of all modules, the steps of a plan, and whether the host is given a module.
module _ (records : List ModuleRecord) (steps : List plan.Initializer) (is_exported : ℕ → Bool) where
  -- a module is instantiated one way: some step makes an instance of it, all steps that do give it these arguments, and
  -- the host isn't given the module
  pub record IsOneWay (number : ℕ) (args : List plan.Definition) : Type 0 where
    pub given : Contains (filter_map (arguments_in number) steps) args
    pub only : (others : List plan.Definition) → Contains (filter_map (arguments_in number) steps) others
        → others ≡ args
    pub kept : is_exported number ≡ false

  -- a definition is an entity that a module defines, or flags
  pub data Refers : plan.Definition → Known → Type 0 where
    refers_to_defined : {d : plan.Definition} {instance m n : ℕ} {k : CoreKind} {r : ModuleRecord}
        → slice_get records m ≡ Some r
        → IsFrom (cores_in records steps) (given_by d) (defined_in instance m (defined_entity r k n))
        → Refers d (a_defined m k n)
    refers_to_flags : {c : ℕ} → Refers (plan.flags c) (the_flags c)

  -- something is given to a module of the host, or to a module that isn't instantiated one way
  pub data IsAmbiguous (x : Known) : Type 0 where
    given_to_host : {r : ℕ} {args : List plan.NamedDefinition} {c : Option ℕ} {a : plan.NamedDefinition}
        → Contains steps (plan.instantiate_import r args c) → Contains args a → Refers a.definition x → IsAmbiguous x
    given_variously : {m : ℕ} {args : List plan.Definition} {c : Option ℕ} {d : plan.Definition}
        → Contains steps (plan.instantiate_static m args c) → ¬ (IsOneWay m args) → Contains args d → Refers d x
        → IsAmbiguous x

  -- the nth import of a kind is this definition, in whatever instance of the module
  pub record IsGiven (number : ℕ) (k : CoreKind) (n : ℕ) (d : plan.Definition) : Type 0 where
    pub core_module : ModuleRecord
    pub args : List plan.Definition
    pub place : ℕ
    pub is : slice_get records number ≡ Some core_module
    pub one_way : IsOneWay number args
    pub imports : import_place core_module (entity_at k n) ≡ Some place
    pub gets : slice_get args place ≡ Some d

  -- an import that holds data is always this, which is of its kind, and no module sees it otherwise
  pub record IsKnown (number : ℕ) (k : CoreKind) (n : ℕ) (x : Known) : Type 0 where
    pub definition : plan.Definition
    pub data_kind : holds_data k ≡ true
    pub same_kind : known_kind x ≡ k
    pub given : IsGiven number k n definition
    pub refers : Refers definition x
    pub plain : ¬ (IsAmbiguous x)

  -- a module defines an nth entity of a kind that holds data, and those that import it may know it
  pub record IsKnownToImporters (number : ℕ) (k : CoreKind) (n : ℕ) : Type 0 where
    pub core_module : ModuleRecord
    pub is : slice_get records number ≡ Some core_module
    pub data_kind : holds_data k ≡ true
    pub defines : n < defined core_module k
    pub plain : ¬ (IsAmbiguous (a_defined number k n))

  -- a function import is always this, where a plan has these trampolines; one that another module exports again is
  -- known only if a module defines it
  pub data IsKnownFunction {τ : Type 0} (trampolines : List (plan.TrampolineEntry τ)) (number f : ℕ)
      : KnownFunction → Type 0 where
    known_enter : {t : ℕ} {symbol : List ℕ} {parts : List (plan.TrampolinePart τ)}
        → IsGiven number kind.Func f (plan.trampoline t)
        → slice_get trampolines t ≡ Some (plan.helper trampoline.EnterSyncCall symbol parts)
        → IsKnownFunction trampolines number f enters_call
    known_exit : {t : ℕ} {symbol : List ℕ} {parts : List (plan.TrampolinePart τ)}
        → IsGiven number kind.Func f (plan.trampoline t)
        → slice_get trampolines t ≡ Some (plan.helper trampoline.ExitSyncCall symbol parts)
        → IsKnownFunction trampolines number f exits_call
    known_trap : {t code : ℕ} {parts : List (plan.TrampolinePart τ)}
        → IsGiven number kind.Func f (plan.trampoline t)
        → slice_get trampolines t ≡ Some (plan.helper trampoline.Trap (code ∷ []) parts)
        → IsKnownFunction trampolines number f (traps code)
    known_intrinsic : {i : ℕ} → IsGiven number kind.Func f (plan.intrinsic i)
        → IsKnownFunction trampolines number f (an_intrinsic i)
    known_function : {d : plan.Definition} {m n : ℕ} → IsGiven number kind.Func f d
        → Refers d (a_defined m kind.Func n) → IsKnownFunction trampolines number f (a_function m n)
