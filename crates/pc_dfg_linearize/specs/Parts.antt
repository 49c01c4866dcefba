-- What an id depends on, and its number in the plan.
use Rattle.std.specs.Prelude.{◌≡◌, ℕ, List, [], ◌∷◌, ◌++◌, Option, Some, option_map, option_and_then}
use Rattle.std.specs.Prelude.{slice_get}
use Rattle.std.specs.List.{flat_map}
use Rattle.pc_entity.specs.PackedOption.{as_option}
use Rattle.pc_dfg.specs.declared.ids.AdapterModuleId.{AdapterModuleId}
use Rattle.pc_numbers.specs.declared.entity_index.EntityIndex.{EntityIndex}
use Rattle.pc_numbers.specs.declared.module_entity.ModuleInternedTypeIndex.{ModuleInternedTypeIndex}
use Rattle.pc_numbers.specs.declared.runtime.TrampolineIndex.{TrampolineIndex}
use Rattle.pc_types.specs.declared.intrinsic.UnsafeIntrinsic.{UnsafeIntrinsic}
use Rattle.pc_types.specs.IntrinsicType.{intrinsic_place}
use Rattle.pc_spec_plan.specs.PlanView as plan
use Rattle.pc_trampoline.specs.declared.part.Mark.{Mark}
use Rattle.pc_dfg.specs.declared.core_def.CoreDef.{CoreDef}
use Rattle.pc_dfg.specs.declared.core_def.CoreDef.TheVariants as def
use Rattle.pc_dfg.specs.declared.dfg.ComponentDfg.{ComponentDfg}
use Rattle.pc_dfg.specs.Names.{each_of}
use Rattle.pc_dfg.specs.Numbers.{slots_of, trampoline_entry, options_entry}
use Rattle.pc_dfg_linearize.specs.declared.id.Id.{Id}
use Rattle.pc_dfg_linearize.specs.declared.id.Id.TheVariants as id
use Rattle.pc_dfg_linearize.specs.declared.state.Finish.{Finish}
use Rattle.pc_dfg_linearize.specs.Numbers.{number_at}

-- the slot of a kind, by the number of its entry
abbrev pub slot_id : plan.SlotKind → ℕ → Id
slot_id plan.memory n = id.Memory (record { 0 = n })
slot_id plan.table n = id.Table (record { 0 = n })
slot_id plan.realloc n = id.Realloc (record { 0 = n })
slot_id plan.callback n = id.Callback (record { 0 = n })
slot_id plan.post_return n = id.PostReturn (record { 0 = n })

-- the options of a number
abbrev pub options_id : ℕ → Id
options_id n = id.Options (record { 0 = n })

-- a slot that may be left out
abbrev pub maybe_slot : plan.SlotKind → Option ℕ → List Id
maybe_slot k n = each_of (λ i. slot_id k i ∷ []) n

-- the slots of memory and realloc
abbrev pub in_model : plan.ModelEntry → List Id
in_model plan.gc = []
in_model (plan.linear m r) = maybe_slot plan.memory m ++ maybe_slot plan.realloc r

-- the slots of options: memory, realloc, callback, post-return
abbrev pub in_entry : plan.PlanOptions Mark → List Id
in_entry e = in_model e.model ++ maybe_slot plan.callback e.callback ++ maybe_slot plan.post_return e.post_return

-- the slot or options in a part of a trampoline
abbrev pub in_part : plan.TrampolinePart Mark → List Id
in_part (plan.mark m) = []
in_part (plan.number n) = []
in_part (plan.flag b) = []
in_part (plan.slot k n) = maybe_slot k n
in_part (plan.options o) = options_id o ∷ []

-- what a trampoline depends on: a lowering's step comes before its options
abbrev pub in_trampoline : TrampolineIndex → plan.TrampolineEntry Mark → List Id
in_trampoline t (plan.lowers r s ty o) = id.Lowering t ∷ options_id o ∷ []
in_trampoline t (plan.builtin k symbol c ps) = flat_map in_part ps
in_trampoline t (plan.helper k symbol ps) = flat_map in_part ps

module _ (g : ComponentDfg) where
  -- what a definition depends on: an adapter is an item of its module's instance
  abbrev pub in_def : CoreDef → List Id
  in_def (def.Export e) = []
  in_def (def.InstanceFlags c) = []
  in_def (def.Trampoline t) = id.Trampoline t ∷ []
  in_def (def.UnsafeIntrinsic s i) = id.Intrinsic s i ∷ []
  in_def (def.Adapter a) =
      each_of (λ (p : AdapterModuleId × EntityIndex). id.AdapterModule p.0 ∷ []) (slice_get g.adapter_partitionings a.0)

  -- what a slot depends on
  abbrev pub in_slot : plan.SlotKind → ℕ → List Id
  in_slot k n = each_of in_def (slice_get (slots_of g k) n)

  -- what an id depends on, in the order in which it is made
  unfoldable pub parts : Id → List Id
  parts (id.Memory n) = in_slot plan.memory n.0
  parts (id.Table n) = in_slot plan.table n.0
  parts (id.Realloc n) = in_slot plan.realloc n.0
  parts (id.Callback n) = in_slot plan.callback n.0
  parts (id.PostReturn n) = in_slot plan.post_return n.0
  parts (id.Options o) = each_of (λ x. in_entry (options_entry x)) (slice_get g.options o.0)
  parts (id.Lowering t) = []
  parts (id.Trampoline t) = each_of (λ x. in_trampoline t (trampoline_entry x)) (slice_get g.trampolines t.0)
  parts (id.Intrinsic s i) = []
  parts (id.AdapterModule m) = each_of (λ x. flat_map in_def x.1) (slice_get g.adapter_modules m.0)

-- the numbers of the slots of a kind
abbrev pub slot_numbers : Finish → plan.SlotKind → List (Option ℕ)
slot_numbers f plan.memory = f.numbers.memories
slot_numbers f plan.table = f.numbers.tables
slot_numbers f plan.realloc = f.numbers.reallocs
slot_numbers f plan.callback = f.numbers.callbacks
slot_numbers f plan.post_return = f.numbers.post_returns

-- the place of an intrinsic, where it is recorded
abbrev pub intrinsic_number : Finish → UnsafeIntrinsic → Option ℕ
intrinsic_number f i =
    option_map (λ (s : ModuleInternedTypeIndex). intrinsic_place i)
    (option_and_then as_option (slice_get f.intrinsics (intrinsic_place i)))

-- the number of an id, if it has one
unfoldable pub number_of : Finish → Id → Option ℕ
number_of f (id.Memory n) = number_at f.numbers.memories n.0
number_of f (id.Table n) = number_at f.numbers.tables n.0
number_of f (id.Realloc n) = number_at f.numbers.reallocs n.0
number_of f (id.Callback n) = number_at f.numbers.callbacks n.0
number_of f (id.PostReturn n) = number_at f.numbers.post_returns n.0
number_of f (id.Options o) = number_at f.numbers.options o.0
number_of f (id.Lowering t) = number_at f.numbers.lowerings t.0
number_of f (id.Trampoline t) = number_at f.numbers.trampolines t.0
number_of f (id.Intrinsic s i) = intrinsic_number f i
number_of f (id.AdapterModule m) = number_at f.numbers.adapter_modules m.0

-- the id has its number
abbrev pub HasNumber : Finish → Id → Type 0
HasNumber f x = (n : ℕ) × (number_of f x ≡ Some n)
