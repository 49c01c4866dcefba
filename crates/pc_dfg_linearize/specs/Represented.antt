-- The options entries and trampolines of a plan are those of the graph, by the numbers that were given.
use Rattle.std.specs.Prelude.{◌≡◌, ℕ, List, All, Contains, Option, None, Some, slice_get}
use Rattle.std.specs.List.{flat_map}
use Rattle.pc_entity.specs.declared.packed_option.PackedOption.TheVariants as packed
use Rattle.pc_numbers.specs.declared.module_entity.ModuleInternedTypeIndex.{ModuleInternedTypeIndex}
use Rattle.pc_types.specs.declared.intrinsic.UnsafeIntrinsic.{UnsafeIntrinsic}
use Rattle.pc_types.specs.IntrinsicType.{intrinsic_place}
use Rattle.pc_spec_plan.specs.PlanView.{Definition, intrinsic, trampoline}
use Rattle.pc_trampoline.specs.Parts.{parts_of}
use Rattle.pc_trampoline.specs.View.{PlanTrampoline}
use Rattle.pc_info.specs.declared.initializer.GlobalInitializer.{GlobalInitializer}
use Rattle.pc_dfg.specs.declared.core_def.CoreDef.TheVariants as def
use Rattle.pc_dfg.specs.declared.dfg.ComponentDfg.{ComponentDfg}
use Rattle.pc_dfg.specs.declared.options.CanonicalOptions.{CanonicalOptions}
use Rattle.pc_dfg.specs.Numbers.{SignedTrampoline}
use Rattle.pc_dfg_linearize.specs.declared.id.Id.{Id}
use Rattle.pc_dfg_linearize.specs.declared.id.Id.TheVariants as id
use Rattle.pc_dfg_linearize.specs.declared.state.Finish.{Finish}
use Rattle.pc_dfg_linearize.specs.Entries.{options_in, parts_in}
use Rattle.pc_dfg_linearize.specs.Numbers.{number_at}
use Rattle.pc_dfg_linearize.specs.Parts.{HasNumber, number_of, parts}
use Rattle.pc_info.specs.Slots.{definitions_in}
use Rattle.pc_dfg_linearize.specs.Wired.{Occurs}

-- a trampoline of the plan is a copy of an entry of the graph, under its signature
pub record IsCopyOf (g : ComponentDfg) (f : Finish) (t n : ℕ) : Type 0 where
  pub entry : SignedTrampoline
  pub at : slice_get g.trampolines t ≡ Some entry
  pub signature : slice_get f.signatures n ≡ Some entry.0
  pub made : PlanTrampoline
  pub there : slice_get f.trampolines n ≡ Some made
  pub is : parts_of made ≡ parts_in f (record { 0 = t }) (parts_of entry.1)

-- an options entry of the plan is that of an entry of the graph
pub record IsEntryOf (g : ComponentDfg) (f : Finish) (k n : ℕ) : Type 0 where
  pub entry : CanonicalOptions
  pub at : slice_get g.options k ≡ Some entry
  pub there : slice_get f.options n ≡ Some (options_in f entry)

-- a signature of an unsafe intrinsic is one under which it stands somewhere in the graph
abbrev pub AreSigned : ComponentDfg → Finish → Type 0
AreSigned g f =
    (n : ℕ) (s : ModuleInternedTypeIndex) → slice_get f.intrinsics n ≡ Some (packed.Some s)
    → (i : UnsafeIntrinsic) × (intrinsic_place i ≡ n) × Occurs g (def.UnsafeIntrinsic s i)

-- the definition that an id with this number has become, if it is a trampoline or an intrinsic
unfoldable pub definition_of : Id → ℕ → Option Definition
definition_of (id.Trampoline t) n = Some (trampoline n)
definition_of (id.Intrinsic s i) n = Some (intrinsic n)
definition_of x n = None

-- steps name a definition
abbrev pub StepsHave : List GlobalInitializer → Definition → Type 0
StepsHave steps d = Contains (flat_map definitions_in steps) d

-- later steps name the definitions that the old ones name
abbrev pub Keeps : (old new : List GlobalInitializer) → Type 0
Keeps old new = (d : Definition) → StepsHave old d → StepsHave new d

-- steps name each trampoline and each intrinsic among these ids by its number
abbrev pub AreNamed : Finish → List GlobalInitializer → List Id → Type 0
AreNamed f steps xs =
    (x : Id) (n : ℕ) (d : Definition) → Contains xs x → number_of f x ≡ Some n → definition_of x n ≡ Some d
    → StepsHave steps d

-- each number that was given is that of what the plan has there, and what an entry depends on has its number;
-- where that is a trampoline or an intrinsic, a step names it
pub record Represents (g : ComponentDfg) (f : Finish) : Type 0 where
  pub named : (x : Id) → HasNumber f x → AreNamed f f.steps (parts g x)
  pub parts : (x : Id) → HasNumber f x → All (HasNumber f) (parts g x)
  pub options : (k n : ℕ) → number_at f.numbers.options k ≡ Some n → IsEntryOf g f k n
  pub trampolines : (t n : ℕ) → number_at f.numbers.trampolines t ≡ Some n → IsCopyOf g f t n
  pub intrinsics : AreSigned g f
