-- Within the crate: what the steps so far have of the graph, and how they came.
use Rattle.std.specs.Prelude.{◌≡◌, ◌<◌, ℕ, true, List, length, map, take, All, Contains, None, Some}
use Rattle.std.specs.Prelude.{slice_get, count_by}
use Rattle.pc_numbers.specs.declared.component_entity.StaticModuleIndex.{StaticModuleIndex}
use Rattle.pc_numbers.specs.declared.runtime.RuntimeInstanceIndex.{RuntimeInstanceIndex}
use Rattle.pc_spec_plan.specs.Counts.{makes_instance}
use Rattle.pc_spec_plan.specs.PlanView as plan
use Rattle.pc_info.specs.Definitions.{def_view}
use Rattle.pc_dfg.specs.declared.core_def.CoreDef.{CoreDef}
use Rattle.pc_dfg.specs.declared.dfg.ComponentDfg.{ComponentDfg}
use Rattle.pc_dfg.specs.Numbers.{slots_of}
use Rattle.pc_dfg_linearize.specs.declared.id.Id.{Id}
use Rattle.pc_dfg_linearize.specs.declared.id.Id.TheVariants as id
use Rattle.pc_dfg_linearize.specs.declared.state.Finish.{Finish}
use Rattle.pc_dfg_linearize.specs.Converted.{def_in}
use Rattle.pc_dfg_linearize.specs.Numbers.{number_at}
use Rattle.pc_dfg_linearize.specs.Parts.{HasNumber, in_def, slot_numbers}
use Rattle.pc_dfg_linearize.specs.Plan.{slot_count, steps_view}
use Rattle.pc_dfg_linearize.specs.Ready.{IsReadyDef}
use Rattle.pc_info.specs.Standing.{CarriesNext, Piece, a_lowering, a_slot, a_trampoline, an_instance, an_intrinsic}
use Rattle.pc_info.specs.Standing.{an_options_entry, is_side_effect, named_in}

-- the piece of the plan that an id has become, by its number there
unfoldable pub piece_of : Id → ℕ → Piece
piece_of (id.Memory k) n = a_slot plan.memory n
piece_of (id.Table k) n = a_slot plan.table n
piece_of (id.Realloc k) n = a_slot plan.realloc n
piece_of (id.Callback k) n = a_slot plan.callback n
piece_of (id.PostReturn k) n = a_slot plan.post_return n
piece_of (id.Options o) n = an_options_entry n
piece_of (id.Lowering t) n = a_lowering n
piece_of (id.Trampoline t) n = a_trampoline n
piece_of (id.Intrinsic s i) n = an_intrinsic n
piece_of (id.AdapterModule m) n = an_instance n

-- a piece is among those that were made
unfoldable pub IsThere : Finish → Piece → Type 0
IsThere f (a_slot k n) = n < slot_count f k
IsThere f (a_lowering n) = n < f.counts.lowerings
IsThere f (an_options_entry n) = n < length f.options
IsThere f (a_trampoline n) = n < length f.trampolines
IsThere f (an_intrinsic n) = Unit {0}
IsThere f (an_instance n) = n < f.counts.instances

module _ (g : ComponentDfg) (f : Finish) where
  -- a definition of the graph can be converted: its instance was made, and what it depends on has its number
  pub record IsConvertible (d : CoreDef) : Type 0 where
    pub ready : IsReadyDef g (length f.instances) d
    pub numbered : All (HasNumber f) (in_def g d)

  -- a step fills this slot with what stands there in the graph
  pub record IsSlotOf (k : plan.SlotKind) (entry number : ℕ) : Type 0 where
    pub what : CoreDef
    pub at : slice_get (slots_of g k) entry ≡ Some what
    pub convertible : IsConvertible what
    pub step : Contains (steps_view f) (plan.extract k number (def_view (def_in g f what)))

  -- a step at its place makes the instance of this number
  pub record IsInstanceStep (s : plan.Initializer) (number : ℕ) : Type 0 where
    pub place : ℕ
    pub at : slice_get (steps_view f) place ≡ Some s
    pub number_of_it : count_by makes_instance (take place (steps_view f)) ≡ number

  -- a step makes the instance of this module of adapters, with the arguments that it has in the graph
  pub record IsModuleOf (entry number : ℕ) : Type 0 where
    pub what : StaticModuleIndex × List CoreDef
    pub at : slice_get g.adapter_modules entry ≡ Some what
    pub convertible : All IsConvertible what.1
    pub step : IsInstanceStep (plan.instantiate_static what.0.0 (map def_view (map (def_in g f) what.1)) None) number

  -- a side effect makes this core instance
  pub record IsOwned (number : ℕ) : Type 0 where
    pub step : plan.Initializer
    pub effect : is_side_effect step ≡ true
    pub makes : makes_instance step ≡ true
    pub stands : IsInstanceStep step number

  -- each slot and each instance has its step, steps carry their numbers, and what they name is there
  pub record AreSteps : Type 0 where
    pub slots : (k : plan.SlotKind) (entry n : ℕ) → number_at (slot_numbers f k) entry ≡ Some n → IsSlotOf k entry n
    pub modules : (entry n : ℕ) → number_at f.numbers.adapter_modules entry ≡ Some n → IsModuleOf entry n
    pub owned : (k : ℕ) (n : RuntimeInstanceIndex) → slice_get f.instances k ≡ Some n → IsOwned n.0
    pub carry : (i : ℕ) (s : plan.Initializer) → slice_get (steps_view f) i ≡ Some s
        → CarriesNext (take i (steps_view f)) s
    pub there : (s : plan.Initializer) → Contains (steps_view f) s → (x : Piece) → Contains (named_in s) x
        → IsThere f x
