-- Each number in a graph is that of an entry.
use Rattle.std.specs.Prelude.{◌≡◌, ℕ, ◌<◌, List, length, All, Option, None, Some, slice_get}
use Rattle.pc_spec_plan.specs.PlanView as plan
use Rattle.pc_trampoline.specs.declared.part.Mark.{Mark}
use Rattle.pc_dfg.specs.declared.adapter.Adapter.{Adapter}
use Rattle.pc_dfg.specs.declared.core_def.CoreDef.{CoreDef}
use Rattle.pc_dfg.specs.declared.core_def.CoreDef.TheVariants as def
use Rattle.pc_dfg.specs.declared.dfg.ComponentDfg.{ComponentDfg}
use Rattle.pc_dfg.specs.declared.export.Export.{Export}
use Rattle.pc_dfg.specs.declared.export.Export.TheVariants as export
use Rattle.pc_dfg.specs.declared.instance.Instance.{Instance}
use Rattle.pc_dfg.specs.declared.instance.Instance.TheVariants as source
use Rattle.pc_dfg.specs.declared.instance.Resource.{Resource}
use Rattle.pc_dfg.specs.declared.instance.SideEffect.{SideEffect}
use Rattle.pc_dfg.specs.declared.instance.SideEffect.TheVariants as effect
use Rattle.pc_dfg.specs.Names.{in_adapter, in_instance, in_resource}
use Rattle.pc_dfg.specs.Lists as list
use Rattle.pc_dfg.specs.Lists.{NamedExport, ListName, EntryOf, entries_of}
use Rattle.pc_dfg.specs.Numbers.{trampoline_entry, options_entry, slots_of}

module _ (g : ComponentDfg) where
  -- a component instance that has begun
  abbrev pub HasBegun : ℕ → Type 0
  HasBegun c = c < g.num_runtime_component_instances

  -- the number in a definition
  unfoldable pub IsHeld : CoreDef → Type 0
  IsHeld (def.Export e) = e.instance.0 < length g.instances
  IsHeld (def.InstanceFlags c) = HasBegun c.0
  IsHeld (def.Trampoline t) = t.0 < length g.trampolines
  IsHeld (def.UnsafeIntrinsic s i) = Unit {0}
  IsHeld (def.Adapter a) = a.0 < length g.adapters

  -- a slot that may be left out
  unfoldable pub HeldSlot : plan.SlotKind → Option ℕ → Type 0
  HeldSlot k None = Unit {0}
  HeldSlot k (Some n) = n < length (slots_of g k)

  -- the slots of memory and realloc
  unfoldable pub HeldModel : plan.ModelEntry → Type 0
  HeldModel plan.gc = Unit {0}
  HeldModel (plan.linear m r) = HeldSlot plan.memory m × HeldSlot plan.realloc r

  -- the numbers in options
  pub record HeldOptions (e : plan.PlanOptions Mark) : Type 0 where
    pub component_instance : HasBegun e.component_instance
    pub callback : HeldSlot plan.callback e.callback
    pub post_return : HeldSlot plan.post_return e.post_return
    pub model : HeldModel e.model

  -- the number in a part of a trampoline
  unfoldable pub HeldPart : plan.TrampolinePart Mark → Type 0
  HeldPart (plan.mark m) = Unit {0}
  HeldPart (plan.number n) = Unit {0}
  HeldPart (plan.flag b) = Unit {0}
  HeldPart (plan.slot k n) = HeldSlot k n
  HeldPart (plan.options o) = o < length g.options

  -- the numbers in a trampoline
  unfoldable pub HeldTrampoline : plan.TrampolineEntry Mark → Type 0
  HeldTrampoline (plan.lowers r s ty o) = (r < length g.imports) × (o < length g.options)
  HeldTrampoline (plan.builtin k symbol c ps) = HasBegun c × All HeldPart ps
  HeldTrampoline (plan.helper k symbol ps) = All HeldPart ps

  -- the numbers in an adapter
  pub record HeldAdapter (x : Adapter) : Type 0 where
    pub lift : HasBegun x.lift_options.instance.0
    pub lower : HasBegun x.lower_options.instance.0
    pub defs : All IsHeld (in_adapter x)

  -- the numbers in a core instance
  unfoldable pub HeldInstance : Instance → Type 0
  HeldInstance (source.Static m args) = All IsHeld args
  HeldInstance (source.Import r args) = (r.0 < length g.imports) × All IsHeld (in_instance (source.Import r args))

  -- the numbers in a resource
  pub record HeldResource (x : Resource) : Type 0 where
    pub component_instance : HasBegun x.instance.0
    pub destructor : All IsHeld (in_resource x)

  -- each name has one of the first n exports
  abbrev pub NamesBelow : ℕ → List NamedExport → Type 0
  NamesBelow n es = All (λ (e : NamedExport). e.1.0.0 < n) es

  -- the numbers in the nth export
  unfoldable pub HeldExport : ℕ → Export → Type 0
  HeldExport n (export.LiftedFunction ty f o) = IsHeld f × (o.0 < length g.options)
  HeldExport n (export.ImportedFunction ty r) = r.0 < length g.imports
  HeldExport n (export.ModuleStatic ty m) = Unit {0}
  HeldExport n (export.ModuleImport ty r) = r.0 < length g.imports
  HeldExport n (export.Instance ty exports) = NamesBelow n exports
  HeldExport n (export.Type_ ty) = Unit {0}

  -- the numbers in a side effect
  unfoldable pub HeldEffect : SideEffect → Type 0
  HeldEffect (effect.Instance i c) = (i.0 < length g.instances) × HasBegun c.0
  HeldEffect (effect.Resource n) = n.0 < length g.resources

  -- the numbers in the nth entry of a list
  unfoldable pub HoldsEntry : (l : ListName) → (n : ℕ) → EntryOf l → Type 0
  HoldsEntry list.import_types n x = Unit {0}
  HoldsEntry list.imports n x = x.0.0 < length g.import_types
  HoldsEntry list.imported_resources n x = x.0 < length g.imports
  HoldsEntry (list.slots k) n x = IsHeld x
  HoldsEntry list.options n x = HeldOptions (options_entry x)
  HoldsEntry list.trampolines n x = HeldTrampoline (trampoline_entry x)
  HoldsEntry list.adapters n x = HeldAdapter x
  HoldsEntry list.adapter_modules n x = All IsHeld x.1
  HoldsEntry list.adapter_partitionings n x = x.0.0 < length g.adapter_modules
  HoldsEntry list.instances n x = HeldInstance x
  HoldsEntry list.resources n x = HeldResource x
  HoldsEntry list.side_effects n x = HeldEffect x
  HoldsEntry list.export_items n x = HeldExport n x
  HoldsEntry list.exports n x = x.1.0.0 < length g.export_items

  -- the numbers in each entry of each list
  abbrev pub AreHeld : Type 0
  AreHeld = (l : ListName) (n : ℕ) (x : EntryOf l) → slice_get (entries_of g l) n ≡ Some x → HoldsEntry l n x
