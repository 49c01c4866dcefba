-- What a graph has got for the imports of modules of adapters: slots of what they work with, and helpers.
use Rattle.std.specs.Prelude.{◌≡◌, ◌⊎◌, ℕ, List, [], ◌∷◌, ◌++◌, Contains, Some, option_map, slice_get}
use Rattle.pc_spec_plan.specs.PlanView as plan
use Rattle.pc_trampoline.specs.declared.part.Mark.{Mark}
use Rattle.pc_dfg.specs.declared.adapter.Adapter.{Adapter}
use Rattle.pc_dfg.specs.declared.adapter.AdapterOptions.{AdapterOptions}
use Rattle.pc_dfg.specs.declared.core_def.CoreDef.{CoreDef}
use Rattle.pc_dfg.specs.declared.dfg.ComponentDfg.{ComponentDfg}
use Rattle.pc_dfg.specs.Names.{if_any}
use Rattle.pc_dfg.specs.Numbers.{memory_def, SignedTrampoline, slots_of, trampoline_entry}
use Rattle.pc_adapt.specs.declared.import.Import.{Import}
use Rattle.pc_adapt.specs.declared.import.Import.TheVariants as import
use Rattle.pc_adapt.specs.Imports.{Memory, memory_of}

-- the definitions that an import has slots of a kind for
abbrev pub in_slots : Import → plan.SlotKind → List CoreDef
in_slots (import.Transcode op from from64 to to64) plan.memory = memory_def from ∷ memory_def to ∷ []
in_slots (import.PrepareCall m) plan.memory = if_any (option_map memory_def m)
in_slots (import.StartCall c p) plan.callback = if_any c
in_slots (import.StartCall c p) plan.post_return = if_any p
in_slots i k = []

-- one of these imports has a slot of this kind for a definition
pub record HasSlotFor (is : List Import) (k : plan.SlotKind) (d : CoreDef) : Type 0 where
  pub asked : Import
  pub one : Contains is asked
  pub slot : Contains (in_slots asked k) d

-- a trampoline is a helper
abbrev pub IsHelperEntry : plan.TrampolineEntry Mark → Type 0
IsHelperEntry (plan.helper k symbol ps) = Unit {0}
IsHelperEntry e = ⊥

-- the second graph has nothing in a slot but what the first one has there and what these imports have slots for, and no
-- trampoline beside those of the first one but helpers
pub record AddsOnly (is : List Import) (g h : ComponentDfg) : Type 0 where
  pub slots : (k : plan.SlotKind) (d : CoreDef) → Contains (slots_of h k) d
      → Contains (slots_of g k) d ⊎ HasSlotFor is k d
  pub trampolines : (x : SignedTrampoline) → Contains h.trampolines x
      → Contains g.trampolines x ⊎ IsHelperEntry (trampoline_entry x)

-- the memory of a side, if it has one
abbrev pub side_memory : AdapterOptions → List CoreDef
side_memory o = if_any (option_map (λ (m : Memory). memory_def m.0) (memory_of o.data_model))

-- what an adapter may need slots of a kind for: the memories of both sides, and callback and post-return function of
-- the lift
abbrev pub own_slots : Adapter → plan.SlotKind → List CoreDef
own_slots x plan.memory = side_memory x.lift_options ++ side_memory x.lower_options
own_slots x plan.callback = if_any x.lift_options.callback
own_slots x plan.post_return = if_any x.lift_options.post_return
own_slots x k = []

-- an adapter of the graph may need a slot of this kind for a definition
pub record IsOwnSlot (g : ComponentDfg) (k : plan.SlotKind) (d : CoreDef) : Type 0 where
  pub number : ℕ
  pub adapter : Adapter
  pub at : slice_get g.adapters number ≡ Some adapter
  pub own : Contains (own_slots adapter k) d

-- the second graph has nothing in a slot but what the first one has there and what an adapter of it may need a slot
-- for, and no trampoline beside those of the first one but helpers
pub record AddsOwn (g h : ComponentDfg) : Type 0 where
  pub slots : (k : plan.SlotKind) (d : CoreDef) → Contains (slots_of h k) d
      → Contains (slots_of g k) d ⊎ IsOwnSlot g k d
  pub trampolines : (x : SignedTrampoline) → Contains h.trampolines x
      → Contains g.trampolines x ⊎ IsHelperEntry (trampoline_entry x)
