-- Which definitions stand in the entries of a graph, and which core instances and adapters a definition names.
use Rattle.std.specs.Prelude.{◌≡◌, ℕ, List, [], ◌∷◌, ◌++◌, map, Contains, Option, None, Some, option_map, slice_get}
use Rattle.std.specs.List.{flat_map}
use Rattle.pc_dfg.specs.declared.ids.AdapterId.{AdapterId}
use Rattle.pc_numbers.specs.declared.entity_index.EntityIndex.{EntityIndex}
use Rattle.pc_numbers.specs.declared.runtime.TrampolineIndex.{TrampolineIndex}
use Rattle.pc_spec_plan.specs.PlanView as plan
use Rattle.pc_trampoline.specs.declared.part.Mark.{Mark}
use Rattle.pc_dfg.specs.declared.adapter.Adapter.{Adapter}
use Rattle.pc_dfg.specs.declared.adapter.AdapterOptions.{AdapterOptions}
use Rattle.pc_dfg.specs.declared.adapter.DataModel.{DataModel}
use Rattle.pc_dfg.specs.declared.adapter.DataModel.TheVariants as side
use Rattle.pc_dfg.specs.declared.core_def.CoreDef.{CoreDef}
use Rattle.pc_dfg.specs.declared.core_def.CoreDef.TheVariants as def
use Rattle.pc_dfg.specs.declared.core_def.CoreExport.{CoreExport}
use Rattle.pc_dfg.specs.declared.dfg.ComponentDfg.{ComponentDfg}
use Rattle.pc_dfg.specs.declared.instance.Instance.{Instance}
use Rattle.pc_dfg.specs.declared.instance.Instance.TheVariants as source
use Rattle.pc_dfg.specs.declared.instance.Resource.{Resource}
use Rattle.pc_dfg.specs.declared.instance.SideEffect.{SideEffect}
use Rattle.pc_dfg.specs.declared.instance.SideEffect.TheVariants as effect
use Rattle.pc_dfg.specs.Effects.{host_arguments}
use Rattle.pc_dfg.specs.Numbers.{SignedTrampoline, trampoline_entry, options_entry, memory_def, slots_of}

-- what is there, as a list
abbrev pub if_any : {A : Type 0} → Option A → List A
if_any None = []
if_any (Some x) = x ∷ []

-- what a function makes of what is there, or nothing
abbrev pub each_of : {A B : Type 0} → (A → List B) → Option A → List B
each_of f None = []
each_of f (Some x) = f x

module _ (g : ComponentDfg) where
  -- the definition in a slot
  abbrev pub in_slot : plan.SlotKind → Option ℕ → List CoreDef
  in_slot k n = each_of (λ i. if_any (slice_get (slots_of g k) i)) n

  -- the definitions of memory and realloc
  abbrev pub in_model : plan.ModelEntry → List CoreDef
  in_model plan.gc = []
  in_model (plan.linear m r) = in_slot plan.memory m ++ in_slot plan.realloc r

  -- the definitions in the slots of an entry of options
  abbrev pub in_entry : plan.PlanOptions Mark → List CoreDef
  in_entry e = in_slot plan.callback e.callback ++ in_slot plan.post_return e.post_return ++ in_model e.model

  -- the definitions in options, by number
  abbrev pub in_options : ℕ → List CoreDef
  in_options o = each_of (λ x. in_entry (options_entry x)) (slice_get g.options o)

  -- the definitions in a part of a trampoline
  abbrev pub in_part : plan.TrampolinePart Mark → List CoreDef
  in_part (plan.mark m) = []
  in_part (plan.number n) = []
  in_part (plan.flag b) = []
  in_part (plan.slot k n) = in_slot k n
  in_part (plan.options o) = in_options o

  -- the definitions in the options and parts of a trampoline
  unfoldable pub in_trampoline : plan.TrampolineEntry Mark → List CoreDef
  in_trampoline (plan.lowers r s ty o) = in_options o
  in_trampoline (plan.builtin k symbol c ps) = flat_map in_part ps
  in_trampoline (plan.helper k symbol ps) = flat_map in_part ps

-- the definitions of memory and realloc of one side of an adapter
abbrev pub in_side_model : DataModel → List CoreDef
in_side_model side.Gc = []
in_side_model (side.LinearMemory m r) = if_any (option_map (λ x. memory_def x.0) m) ++ if_any r

-- the definitions in the options of one side of an adapter
abbrev pub in_side : AdapterOptions → List CoreDef
in_side x = if_any x.callback ++ if_any x.post_return ++ in_side_model x.data_model

-- the definitions in an adapter: its callee, and those of both sides
unfoldable pub in_adapter : Adapter → List CoreDef
in_adapter x = x.func ∷ in_side x.lift_options ++ in_side x.lower_options

-- the arguments of a core instance
unfoldable pub in_instance : Instance → List CoreDef
in_instance (source.Static m args) = args
in_instance (source.Import r args) = map (λ a. a.1.1) (host_arguments args)

-- the destructor of a resource
unfoldable pub in_resource : Resource → List CoreDef
in_resource x = if_any x.dtor

-- the definitions in what a side effect makes
unfoldable pub in_effect : ComponentDfg → SideEffect → List CoreDef
in_effect g (effect.Instance i c) = each_of in_instance (slice_get g.instances i.0)
in_effect g (effect.Resource n) = each_of in_resource (slice_get g.resources n.0)

-- a core instance or an adapter, by number
pub data Thing : Type 0 where
  an_instance : ℕ → Thing
  an_adapter : ℕ → Thing

-- a definition names a thing: trampolines are looked through, adapters aren't
pub data Names (g : ComponentDfg) : CoreDef → Thing → Type 0 where
  names_instance : {e : CoreExport EntityIndex} → Names g (def.Export e) (an_instance e.instance.0)
  names_adapter : {a : AdapterId} → Names g (def.Adapter a) (an_adapter a.0)
  names_through : {t : TrampolineIndex} {x : SignedTrampoline} {d : CoreDef} {y : Thing}
      → slice_get g.trampolines t.0 ≡ Some x → Contains (in_trampoline g (trampoline_entry x)) d → Names g d y
      → Names g (def.Trampoline t) y

-- one of these definitions names a thing
unfoldable pub OneNames : ComponentDfg → List CoreDef → Thing → Type 0
OneNames g ds y = (d : CoreDef) × Contains ds d × Names g d y
