-- What values leave out: the core signatures of lowerings and intrinsics, and whether an adapter's memory is 64-bit.
-- Where these follow from what has them, what means one value is one.
use Rattle.std.specs.Prelude.{◌≡◌, ℕ, Bool, Option, None, Some, slice_get}
use Rattle.pc_entity.specs.Lists.{AreDistinct}
use Rattle.pc_dfg.specs.declared.ids.CallbackId.{CallbackId}
use Rattle.pc_dfg.specs.declared.ids.MemoryId.{MemoryId}
use Rattle.pc_dfg.specs.declared.ids.OptionsId.{OptionsId}
use Rattle.pc_dfg.specs.declared.ids.PostReturnId.{PostReturnId}
use Rattle.pc_dfg.specs.declared.ids.TableId.{TableId}
use Rattle.pc_numbers.specs.declared.module_entity.MemoryIndex.{MemoryIndex}
use Rattle.pc_numbers.specs.declared.module_entity.ModuleInternedTypeIndex.{ModuleInternedTypeIndex}
use Rattle.pc_numbers.specs.declared.runtime.RuntimeImportIndex.{RuntimeImportIndex}
use Rattle.pc_types.specs.declared.intrinsic.UnsafeIntrinsic.{UnsafeIntrinsic}
use Rattle.pc_spec_plan.specs.PlanView as plan
use Rattle.pc_trampoline.specs.declared.trampoline.Trampoline.{Trampoline}
use Rattle.pc_trampoline.specs.Parts.{parts_of}
use Rattle.pc_trampoline.specs.Shape as shape
use Rattle.pc_trampoline.specs.Shape.{head_shape}
use Rattle.pc_dfg.specs.declared.adapter.Adapter.{Adapter}
use Rattle.pc_dfg.specs.declared.adapter.AdapterOptions.{AdapterOptions}
use Rattle.pc_dfg.specs.declared.adapter.DataModel.{DataModel}
use Rattle.pc_dfg.specs.declared.adapter.DataModel.TheVariants as side
use Rattle.pc_dfg.specs.declared.core_def.CoreDef.{CoreDef}
use Rattle.pc_dfg.specs.declared.core_def.CoreDef.TheVariants as def
use Rattle.pc_dfg.specs.declared.core_def.CoreExport.{CoreExport}
use Rattle.pc_dfg.specs.declared.dfg.ComponentDfg.{ComponentDfg}
use Rattle.pc_dfg.specs.Numbers.{SignedTrampoline, slots_of}

-- no entry of an interned list stands twice
pub record AreInterned (g : ComponentDfg) : Type 0 where
  pub memories : AreDistinct g.memories
  pub tables : AreDistinct g.tables
  pub reallocs : AreDistinct g.reallocs
  pub callbacks : AreDistinct g.callbacks
  pub post_returns : AreDistinct g.post_returns
  pub trampolines : AreDistinct g.trampolines
  pub options : AreDistinct g.options
  pub adapters : AreDistinct g.adapters

-- a trampoline of a graph, without its core signature
abbrev pub GraphTrampoline : Type 0
GraphTrampoline = Trampoline RuntimeImportIndex OptionsId MemoryId TableId CallbackId PostReturnId

-- the signature of each lowering and of each intrinsic, and whether a memory is 64-bit
pub record Unsaid : Type 0 where
  pub lowering : GraphTrampoline → ModuleInternedTypeIndex
  pub intrinsic : UnsafeIntrinsic → ModuleInternedTypeIndex
  pub is_wide : CoreExport MemoryIndex → Bool

-- whether a trampoline lowers a host function
abbrev pub IsLowering : GraphTrampoline → Type 0
IsLowering t = head_shape (parts_of t).head ≡ shape.lowering

module _ (u : Unsaid) where
  -- a definition that is an intrinsic has the signature of it
  unfoldable pub IsSigned : CoreDef → Type 0
  IsSigned (def.UnsafeIntrinsic s i) = s ≡ u.intrinsic i
  IsSigned d = Unit {0}

  -- the same of one that may be left out
  unfoldable pub MaybeSigned : Option CoreDef → Type 0
  MaybeSigned None = Unit {0}
  MaybeSigned (Some d) = IsSigned d

  -- a memory that may be left out has its width
  unfoldable pub MaybeWide : Option (CoreExport MemoryIndex × Bool) → Type 0
  MaybeWide None = Unit {0}
  MaybeWide (Some m) = m.1 ≡ u.is_wide m.0

  -- a side's memory has its width, and its realloc its signature
  unfoldable pub IsModelTold : DataModel → Type 0
  IsModelTold side.Gc = Unit {0}
  IsModelTold (side.LinearMemory m r) = MaybeWide m × MaybeSigned r

  -- the same of all that a side's options hold
  pub record IsSideTold (x : AdapterOptions) : Type 0 where
    pub callback : MaybeSigned x.callback
    pub post_return : MaybeSigned x.post_return
    pub model : IsModelTold x.data_model

  -- the same of an adapter: its callee and both sides
  pub record IsAdapterTold (x : Adapter) : Type 0 where
    pub func : IsSigned x.func
    pub lift : IsSideTold x.lift_options
    pub lower : IsSideTold x.lower_options

  -- the same of a whole graph, in which no host item stands twice
  pub record IsTold (g : ComponentDfg) : Type 0 where
    pub imports : AreDistinct g.imports
    pub slots : (k : plan.SlotKind) (n : ℕ) (d : CoreDef) → slice_get (slots_of g k) n ≡ Some d → IsSigned d
    pub lowerings : (n : ℕ) (x : SignedTrampoline) → slice_get g.trampolines n ≡ Some x → IsLowering x.1
        → x.0 ≡ u.lowering x.1
    pub adapters : (n : ℕ) (x : Adapter) → slice_get g.adapters n ≡ Some x → IsAdapterTold x
