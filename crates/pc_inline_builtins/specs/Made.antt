-- Parts of builtins in the graph, and builtins that are declared.
use Rattle.std.specs.Prelude.{◌≡◌, ◌+◌, ℕ, Bool, true, false, List, Option, None, Some, Result, Ok, Err, slice_get}
use Rattle.std.specs.List.{AllZip}
use Rattle.pc_numbers.specs.declared.entity_index.EntityIndex.{EntityIndex}
use Rattle.pc_numbers.specs.declared.entity_index.EntityIndex.TheVariants as entity
use Rattle.pc_numbers.specs.declared.module_entity.ModuleInternedTypeIndex.{ModuleInternedTypeIndex}
use Rattle.pc_numbers.specs.declared.runtime.RuntimeComponentInstanceIndex.{RuntimeComponentInstanceIndex}
use Rattle.pc_types.specs.declared.module_record.ModuleRecord.{ModuleRecord}
use Rattle.pc_types.specs.declared.parsed.CoreFuncSig.{CoreFuncSig}
use Rattle.pc_types.specs.declared.parsed.CoreKind.TheVariants as core
use Rattle.pc_types.specs.declared.parsed.TypeTable.{TypeTable}
use Rattle.pc_types.specs.declared.parsed.ValType.{ValType}
use Rattle.pc_types.specs.declared.parsed.ValType.TheVariants as val
use Rattle.pc_types.specs.declared.trampoline.TrampolineKind.{TrampolineKind}
use Rattle.pc_types.specs.declared.type_index.TypeTupleIndex.{TypeTupleIndex}
use Rattle.pc_types.specs.declared.types.InterfaceType.{InterfaceType}
use Rattle.pc_types.specs.declared.types.InterfaceType.TheVariants as ty
use Rattle.pc_types.specs.declared.types.TypeDef.{TypeDef}
use Rattle.pc_types.specs.declared.types.TypeDef.TheVariants as def
use Rattle.pc_types.specs.TypeTree.{TypeTree}
use Rattle.pc_types_lists.specs.Adds.{most_types}
use Rattle.pc_types_lists.specs.Types.{Types}
use Rattle.pc_spec_plan.specs.CoreValue as value
use Rattle.pc_spec_plan.specs.CoreValue.{CoreValue, and_part, builtin, map_part, mark_part}
use Rattle.pc_spec_plan.specs.Log.{declared}
use Rattle.pc_trampoline.specs.declared.part.Mark.TheVariants as mark
use Rattle.pc_trampoline.specs.declared.part.Part.{Part as PartOf}
use Rattle.pc_trampoline.specs.View.{part_by}
use Rattle.pc_parsed.specs.Mark.{Mark, of_signature, of_type}
use Rattle.pc_types.specs.declared.encoding.StringEncoding.TheVariants.{Utf8}
use Rattle.pc_info.specs.declared.core_def.ExportItem.{ExportItem}
use Rattle.pc_info.specs.declared.core_def.ExportItem.TheVariants as item
use Rattle.pc_dfg.specs.declared.core_def.CoreDef.{CoreDef}
use Rattle.pc_dfg.specs.declared.core_def.CoreDef.TheVariants as core_def
use Rattle.pc_dfg.specs.declared.ids.CallbackId.{CallbackId}
use Rattle.pc_dfg.specs.declared.ids.MemoryId.{MemoryId}
use Rattle.pc_dfg.specs.declared.ids.OptionsId.{OptionsId}
use Rattle.pc_dfg.specs.declared.ids.PostReturnId.{PostReturnId}
use Rattle.pc_dfg.specs.declared.ids.TableId.{TableId}
use Rattle.pc_dfg.specs.Held.{HeldPart}
use Rattle.pc_dfg.specs.Means.{MeansPart}
use Rattle.pc_dfg.specs.Numbers.{graph_numbers}
use Rattle.pc_spec_reading.specs.Builtins.{parts_of}
use Rattle.pc_spec_reading.specs.Outcome.{Fault}
use Rattle.pc_spec_reading.specs.Scope.{Moment, add_entry}
use Rattle.pc_inline_state.specs.declared.definition.CoreId.{CoreId}
use Rattle.pc_inline_state.specs.declared.definition.DataModel.TheVariants as model
use Rattle.pc_inline_state.specs.declared.definition.Options.{Options}
use Rattle.pc_inline_state.specs.declared.error.ItemError.{ItemError}
use Rattle.pc_inline_state.specs.declared.error.ItemError.TheVariants as item_error
use Rattle.pc_inline_state.specs.declared.frame.Frame.{Frame}
use Rattle.pc_inline_state.specs.declared.state.State.{State}
use Rattle.pc_inline_state.specs.Faults.{fault_of}
use Rattle.pc_inline_state.specs.Fits.{Fits}
use Rattle.pc_inline_state.specs.Frames.{Both}
use Rattle.pc_inline_state.specs.Holds.{Holds, Numbered, number_of, whole_of}
use Rattle.pc_inline_state.specs.Points.{IsFullSomewhere, PointStands}
use Rattle.pc_inline_state.specs.Stands.{ItemStands}
use Rattle.pc_inline_state.specs.Tables.{Tables, tables_of}
use Rattle.pc_inline_builtins.specs.declared.builtin.First.{First}
use Rattle.pc_inline_builtins.specs.declared.builtin.First.TheVariants as first
use Rattle.pc_inline_builtins.specs.Reads.{ReadPart}

-- a part of a builtin, with the numbers of a graph
abbrev pub Part : Type 0
Part = PartOf OptionsId MemoryId TableId CallbackId PostReturnId

module _ (b : Tables) where
  -- a type of the builder has a tree
  abbrev pub HasIts : TypeDef → TypeTree → Type 0
  HasIts d tree = Holds b.types (Fits b.graph) (mark.Type_ d) (of_type tree)

  -- a part stands for one of the reading, and the numbers in it are held
  pub record PartStands (p : Part) (v : ReadPart) : Type 0 where
    pub numbered : value.Part (Numbered b.types (Fits b.graph))
    pub means : MeansPart b.graph (part_by graph_numbers p) (map_part (number_of b.types (Fits b.graph)) numbered)
    pub is : map_part (whole_of b.types (Fits b.graph)) numbered ≡ v
    pub held : HeldPart b.graph (part_by graph_numbers p)

  -- what was answered is what the reading answers: something that stands for what it has, or its fault; or there was
  -- no room
  unfoldable pub Answers : {A B : Type 0} → (A → B → Type 0) → Result B Fault → Result A ItemError → Type 0
  Answers {A} {B} R reads (Ok x) = (y : B) × (reads ≡ Ok y) × R x y
  Answers R reads (Err (item_error.Fault k)) = reads ≡ Err (fault_of k)
  Answers R reads (Err item_error.TooMany) = IsFullSomewhere b
  Answers R reads (Err item_error.NoMemory) = Unit {0}

  -- the same of a type of the builder
  abbrev pub AnswersType : Result TypeTree Fault → Result TypeDef ItemError → Type 0
  AnswersType = Answers HasIts

  -- of a value type
  abbrev pub AnswersValue : Result TypeTree Fault → Result InterfaceType ItemError → Type 0
  AnswersValue = Answers (λ (w : InterfaceType). HasIts (def.Interface w))

  -- and of a part that there may be
  abbrev pub Yields : Result (Option ReadPart) Fault → Result (Option Part) ItemError → Type 0
  Yields = Answers (Both PartStands)

-- the type is the tuple of these
abbrev pub IsTuple : Types → List InterfaceType → TypeDef → Type 0
IsTuple b types d =
    (i : TypeTupleIndex) × (d ≡ def.Interface (ty.Tuple i))
    × (slice_get b.tuples i.0 ≡ Some (record { types = types }))

-- a builtin as the reading has it
abbrev pub built : TrampolineKind → (component_instance : ℕ) → CoreFuncSig → List ReadPart → CoreValue Mark
built k c s vs = builtin k c (and_part (mark_part (of_signature s)) (parts_of vs))

-- a builtin was declared, and is a core function
unfoldable pub Declares : TypeTable → List ModuleRecord → (old new : State) → TrampolineKind
    → RuntimeComponentInstanceIndex → ModuleInternedTypeIndex → List Part → CoreId → Type 0
Declares t ms old new k c core_type parts id =
    (f : Frame) (now : Moment) (s : CoreFuncSig) (vs : List ReadPart) → PointStands t ms old f now
    → slice_get old.types.signatures core_type.0 ≡ Some s → AllZip (PartStands (tables_of old)) parts vs
    → PointStands t ms new f (add_entry now (declared (built k c.0 s vs)))
    × ItemStands ms (tables_of new) core.Func id (built k c.0 s vs)

-- whether an item may be a table: by its number it is one, by a name it may be anything
abbrev pub is_table_item : ExportItem EntityIndex → Bool
is_table_item (item.Index (entity.Table n)) = true
is_table_item (item.Name name) = true
is_table_item i = false

-- whether a definition may be a table
abbrev pub is_table : CoreDef → Bool
is_table (core_def.Export e) = is_table_item e.item
is_table d = false

-- the options of a function that says nothing of them but its memory
abbrev pub memory_options_in : Frame → ModuleInternedTypeIndex → CoreId → Options
memory_options_in f core_type n = record {
  instance = f.component_instance;
  string_encoding = Utf8;
  callback = None;
  post_return = None;
  async_ = false;
  core_type = core_type;
  data_model = model.LinearMemory (Some n) None;
}

-- how many types the type of a value adds at the most
abbrev pub value_cost : TypeTable → ValType → ℕ
value_cost t (val.Prim p) = 1
value_cost t (val.Type_ n) = most_types t

-- the same of no or one value, and a tuple
abbrev pub results_cost : TypeTable → Option ValType → ℕ
results_cost t None = 1
results_cost t (Some v) = value_cost t v + 1

-- how many types the first part of a builtin adds at the most
abbrev pub first_cost : TypeTable → First → ℕ
first_cost t first.Nothing = 0
first_cost t (first.Handle h n) = most_types t
first_cost t (first.Results r) = results_cost t r
first_cost t first.ErrorContexts = 1
first_cost t (first.Number n) = 0
