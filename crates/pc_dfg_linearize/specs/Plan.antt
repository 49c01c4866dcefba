-- The plans that a plan may become while it is made: each list has what was put into it, and each count is at least
-- what was counted. What a step does is the same in all of them.
use Rattle.std.specs.Prelude.{◌≡◌, ℕ, ◌≤◌, ◌-◌, List, length, map, Some, slice_get}
use Rattle.pc_spec_plan.specs.PlanView as plan
use Rattle.pc_trampoline.specs.declared.part.Mark.{Mark}
use Rattle.pc_info.specs.declared.module.ModuleTranslation.{ModuleTranslation}
use Rattle.pc_info.specs.Definitions.{initializer_view}
use Rattle.pc_info.specs.Options.{options_view}
use Rattle.pc_info.specs.View.{import_type_view, import_view, intrinsic_view, trampolines_view}
use Rattle.pc_dfg.specs.declared.dfg.ComponentDfg.{ComponentDfg}
use Rattle.pc_dfg_linearize.specs.declared.state.Finish.{Finish}
use Rattle.pc_dfg_linearize.specs.Wired.{Has}

-- each entry of a list stands in another one, under its number
abbrev pub Kept : {A : Type 0} → List A → List A → Type 0
Kept {A} xs ys = (n : ℕ) (x : A) → slice_get xs n ≡ Some x → slice_get ys n ≡ Some x

-- how many slots of a kind are filled
abbrev pub slot_count : Finish → plan.SlotKind → ℕ
slot_count f plan.memory = f.counts.memories
slot_count f plan.table = f.counts.tables
slot_count f plan.realloc = f.counts.reallocs
slot_count f plan.callback = f.counts.callbacks
slot_count f plan.post_return = f.counts.post_returns

-- how many slots of a kind a plan counts
abbrev pub counted_slots : plan.PlanView Mark → plan.SlotKind → ℕ
counted_slots p plan.memory = p.counts.memories
counted_slots p plan.table = p.counts.tables
counted_slots p plan.realloc = p.counts.reallocs
counted_slots p plan.callback = p.counts.callbacks
counted_slots p plan.post_return = p.counts.post_returns

-- the steps so far, as the machine sees them
abbrev pub steps_view : Finish → List plan.Initializer
steps_view f = map initializer_view f.steps

-- a plan over these modules has what was made so far
pub record Extends (g : ComponentDfg) (ms : List ModuleTranslation) (f : Finish) (p : plan.PlanView Mark) : Type 0 where
  pub has : Has g ms p
  pub import_types : p.import_types ≡ map import_type_view g.import_types
  pub imports : p.imports ≡ map import_view g.imports
  pub imported : length p.imported_resources ≡ length g.imported_resources
  pub options : Kept (map options_view f.options) p.options
  pub trampolines : Kept (trampolines_view 0 f.signatures f.trampolines) p.trampolines
  pub intrinsics : (n : ℕ) (m : Mark) → slice_get (map intrinsic_view f.intrinsics) n ≡ Some (Some m)
      → (signature : Mark) × (slice_get p.intrinsics n ≡ Some (Some signature))
  pub instances : f.counts.instances ≤ p.counts.runtime_instances
  pub lowerings : f.counts.lowerings ≤ p.counts.lowerings
  pub slots : (k : plan.SlotKind) → slot_count f k ≤ counted_slots p k
  pub resources : length f.resources ≤ p.counts.resources - length p.imported_resources
