-- Options entries and trampolines as the plan has them, by the numbers that were given.
use Rattle.std.specs.Prelude.{List, [], ◌∷◌, option_map}
use Rattle.pc_dfg.specs.declared.ids.CallbackId.{CallbackId}
use Rattle.pc_dfg.specs.declared.ids.MemoryId.{MemoryId}
use Rattle.pc_dfg.specs.declared.ids.OptionsId.{OptionsId}
use Rattle.pc_dfg.specs.declared.ids.PostReturnId.{PostReturnId}
use Rattle.pc_dfg.specs.declared.ids.ReallocId.{ReallocId}
use Rattle.pc_dfg.specs.declared.ids.TableId.{TableId}
use Rattle.pc_numbers.specs.declared.runtime.LoweredIndex.{LoweredIndex}
use Rattle.pc_numbers.specs.declared.runtime.OptionsIndex.{OptionsIndex}
use Rattle.pc_numbers.specs.declared.runtime.RuntimeCallbackIndex.{RuntimeCallbackIndex}
use Rattle.pc_numbers.specs.declared.runtime.RuntimeImportIndex.{RuntimeImportIndex}
use Rattle.pc_numbers.specs.declared.runtime.RuntimeMemoryIndex.{RuntimeMemoryIndex}
use Rattle.pc_numbers.specs.declared.runtime.RuntimePostReturnIndex.{RuntimePostReturnIndex}
use Rattle.pc_numbers.specs.declared.runtime.RuntimeReallocIndex.{RuntimeReallocIndex}
use Rattle.pc_numbers.specs.declared.runtime.RuntimeTableIndex.{RuntimeTableIndex}
use Rattle.pc_numbers.specs.declared.runtime.TrampolineIndex.{TrampolineIndex}
use Rattle.pc_trampoline.specs.declared.part.Head.{Head}
use Rattle.pc_trampoline.specs.declared.part.Head.TheVariants as head
use Rattle.pc_trampoline.specs.declared.part.Part.{Part}
use Rattle.pc_trampoline.specs.declared.part.Part.TheVariants as part
use Rattle.pc_trampoline.specs.declared.part.PartList.{PartList}
use Rattle.pc_trampoline.specs.declared.part.PartList.TheVariants as list
use Rattle.pc_trampoline.specs.declared.part.Parts.{Parts}
use Rattle.pc_trampoline.specs.View.{PlanParts}
use Rattle.pc_info.specs.declared.options.CanonicalOptions.{CanonicalOptions as PlanOptions}
use Rattle.pc_info.specs.declared.options.CanonicalOptionsDataModel.{CanonicalOptionsDataModel as PlanModel}
use Rattle.pc_info.specs.declared.options.CanonicalOptionsDataModel.TheVariants as plan_model
use Rattle.pc_dfg.specs.declared.options.CanonicalOptions.{CanonicalOptions}
use Rattle.pc_dfg.specs.declared.options.CanonicalOptionsDataModel.{CanonicalOptionsDataModel as Model}
use Rattle.pc_dfg.specs.declared.options.CanonicalOptionsDataModel.TheVariants as model
use Rattle.pc_dfg_linearize.specs.declared.id.Id.{Id}
use Rattle.pc_dfg_linearize.specs.declared.id.Id.TheVariants as id
use Rattle.pc_dfg_linearize.specs.declared.state.Finish.{Finish}
use Rattle.pc_dfg_linearize.specs.Numbers.{numbered}
use Rattle.pc_dfg_linearize.specs.Parts.{options_id}

-- what a graph's trampoline is made of
abbrev pub GraphParts : Type 0
GraphParts = Parts RuntimeImportIndex OptionsId MemoryId TableId CallbackId PostReturnId

-- a part of a graph's trampoline
abbrev pub GraphPart : Type 0
GraphPart = Part OptionsId MemoryId TableId CallbackId PostReturnId

-- a part of a plan's trampoline
abbrev pub PlanPart : Type 0
PlanPart = Part OptionsIndex RuntimeMemoryIndex RuntimeTableIndex RuntimeCallbackIndex RuntimePostReturnIndex

module _ (f : Finish) where
  -- the slot of a memory
  abbrev pub memory_in : MemoryId → RuntimeMemoryIndex
  memory_in m = record { 0 = numbered f.numbers.memories m.0 }

  -- the slot of a table
  abbrev pub table_in : TableId → RuntimeTableIndex
  table_in t = record { 0 = numbered f.numbers.tables t.0 }

  -- the slot of a realloc
  abbrev pub realloc_in : ReallocId → RuntimeReallocIndex
  realloc_in r = record { 0 = numbered f.numbers.reallocs r.0 }

  -- the slot of a callback
  abbrev pub callback_in : CallbackId → RuntimeCallbackIndex
  callback_in c = record { 0 = numbered f.numbers.callbacks c.0 }

  -- the slot of a post-return function
  abbrev pub post_return_in : PostReturnId → RuntimePostReturnIndex
  post_return_in p = record { 0 = numbered f.numbers.post_returns p.0 }

  -- an options entry, by number
  abbrev pub options_number : OptionsId → OptionsIndex
  options_number o = record { 0 = numbered f.numbers.options o.0 }

  -- where values lie
  abbrev pub model_in : Model → PlanModel
  model_in model.Gc = plan_model.Gc
  model_in (model.LinearMemory m r) =
      plan_model.LinearMemory (record { memory = option_map memory_in m; realloc = option_map realloc_in r })

  -- an options entry
  abbrev pub options_in : CanonicalOptions → PlanOptions
  options_in o = record {
    instance = o.instance;
    string_encoding = o.string_encoding;
    callback = option_map callback_in o.callback;
    post_return = option_map post_return_in o.post_return;
    async_ = o.async_;
    core_type = o.core_type;
    data_model = model_in o.data_model;
  }

  -- a part of a trampoline
  abbrev pub part_in : GraphPart → PlanPart
  part_in (part.Type_ ty) = part.Type_ ty
  part_in (part.Number n) = part.Number n
  part_in (part.Flag b) = part.Flag b
  part_in (part.Memory m) = part.Memory (memory_in m)
  part_in (part.MaybeMemory m) = part.MaybeMemory (option_map memory_in m)
  part_in (part.Table t) = part.Table (table_in t)
  part_in (part.Callback c) = part.Callback (option_map callback_in c)
  part_in (part.PostReturn p) = part.PostReturn (option_map post_return_in p)
  part_in (part.Options o) = part.Options (options_number o)

  -- the parts of a trampoline
  abbrev pub list_in : PartList GraphPart → PartList PlanPart
  list_in list.Empty = list.Empty
  list_in (list.One x) = list.One (part_in x)
  list_in (list.Two x y) = list.Two (part_in x) (part_in y)

  -- the head of a trampoline: a lowering names its step
  abbrev pub head_in : TrampolineIndex → Head RuntimeImportIndex OptionsId → Head LoweredIndex OptionsIndex
  head_in t (head.Lowering r ty o) =
      head.Lowering (record { 0 = numbered f.numbers.lowerings t.0 }) ty (options_number o)
  head_in t (head.Builtin c) = head.Builtin c
  head_in t head.Helper = head.Helper
  head_in t (head.Transcoding op from64 to64) = head.Transcoding op from64 to64
  head_in t (head.Trapping code) = head.Trapping code

  -- what a trampoline is made of
  abbrev pub parts_in : TrampolineIndex → GraphParts → PlanParts
  parts_in t p = record { kind = p.kind; head = head_in t p.head; parts = list_in p.parts }

-- what the head of a trampoline depends on
abbrev pub in_head : TrampolineIndex → Head RuntimeImportIndex OptionsId → List Id
in_head t (head.Lowering r ty o) = id.Lowering t ∷ options_id o.0 ∷ []
in_head t h = []
