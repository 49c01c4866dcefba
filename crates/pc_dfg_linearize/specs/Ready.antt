-- When an id can be closed: what it names was made.
use Rattle.std.specs.Prelude.{◌≡◌, ℕ, ◌<◌, List, length, All, Contains, Option, None, Some, slice_get}
use Rattle.pc_numbers.specs.declared.component_entity.StaticModuleIndex.{StaticModuleIndex}
use Rattle.pc_spec_plan.specs.PlanView as plan
use Rattle.pc_trampoline.specs.declared.part.Mark.{Mark}
use Rattle.pc_dfg.specs.declared.core_def.CoreDef.{CoreDef}
use Rattle.pc_dfg.specs.declared.core_def.CoreDef.TheVariants as def
use Rattle.pc_dfg.specs.declared.dfg.ComponentDfg.{ComponentDfg}
use Rattle.pc_dfg.specs.Numbers.{SignedTrampoline, slots_of, trampoline_entry}
use Rattle.pc_dfg_linearize.specs.declared.id.Id.{Id}
use Rattle.pc_dfg_linearize.specs.declared.id.Id.TheVariants as id
use Rattle.pc_dfg_linearize.specs.Parts.{parts}
use Rattle.pc_dfg_linearize.specs.Wired.{Occurs}

-- a trampoline is a lowering
abbrev pub IsLowering : plan.TrampolineEntry Mark → Type 0
IsLowering (plan.lowers r s ty o) = Unit {0}
IsLowering (plan.builtin k symbol c ps) = ⊥
IsLowering (plan.helper k symbol ps) = ⊥

-- a trampoline is there, and is a lowering
abbrev pub LowersImport : Option SignedTrampoline → Type 0
LowersImport None = ⊥
LowersImport (Some x) = IsLowering (trampoline_entry x)

module _ (g : ComponentDfg) (made : ℕ) where
  -- a definition names one of the core instances that were made, so many, or an adapter that is grouped
  unfoldable pub IsReadyDef : CoreDef → Type 0
  IsReadyDef (def.Export e) = e.instance.0 < made
  IsReadyDef (def.InstanceFlags c) = c.0 < g.num_runtime_component_instances
  IsReadyDef (def.Trampoline t) = t.0 < length g.trampolines
  IsReadyDef (def.UnsafeIntrinsic s i) = Unit {0}
  IsReadyDef (def.Adapter a) = a.0 < length g.adapter_partitionings

  -- a slot is held, and what is in it is ready
  abbrev pub IsReadySlot : plan.SlotKind → ℕ → Type 0
  IsReadySlot k n = (d : CoreDef) × (slice_get (slots_of g k) n ≡ Some d) × IsReadyDef d

  -- an id is held, and what it names itself is ready; an intrinsic stands somewhere under its signature
  unfoldable pub CanClose : Id → Type 0
  CanClose (id.Memory n) = IsReadySlot plan.memory n.0
  CanClose (id.Table n) = IsReadySlot plan.table n.0
  CanClose (id.Realloc n) = IsReadySlot plan.realloc n.0
  CanClose (id.Callback n) = IsReadySlot plan.callback n.0
  CanClose (id.PostReturn n) = IsReadySlot plan.post_return n.0
  CanClose (id.Options o) = o.0 < length g.options
  CanClose (id.Lowering t) = LowersImport (slice_get g.trampolines t.0)
  CanClose (id.Trampoline t) = t.0 < length g.trampolines
  CanClose (id.Intrinsic s i) = Occurs g (def.UnsafeIntrinsic s i)
  CanClose (id.AdapterModule m) =
      (x : StaticModuleIndex × List CoreDef) × (slice_get g.adapter_modules m.0 ≡ Some x) × All IsReadyDef x.1

-- an id leads to another one: to itself, to its parts, and to what these lead to
pub data Leads (g : ComponentDfg) : Id → Id → Type 0 where
  here : {x : Id} → Leads g x x
  through : {x y z : Id} → Contains (parts g x) y → Leads g y z → Leads g x z

-- all that an id leads to can be closed
abbrev pub IsReady : ComponentDfg → (made : ℕ) → Id → Type 0
IsReady g made x = (y : Id) → Leads g x y → CanClose g made y
