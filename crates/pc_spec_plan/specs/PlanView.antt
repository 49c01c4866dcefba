-- A plan as plain lists, numbers and texts: all that its run, its exports and its printed text depend on.
use Rattle.std.specs.Prelude.{ℕ, Bool, List, Option}
use Rattle.pc_types.specs.declared.encoding.StringEncoding.{StringEncoding}
use Rattle.pc_types.specs.declared.module_record.ModuleRecord.{ModuleRecord}
use Rattle.pc_types.specs.declared.parsed.WasmValType.{WasmValType}
use Rattle.pc_types.specs.declared.trampoline.TrampolineKind.{TrampolineKind}
use Rattle.pc_types.specs.declared.types.ComponentExternData.{ComponentExternData}
use Rattle.pc_spec_plan.specs.CoreValue.{ExportedItem}

-- what an import, a slot or an export is made of
pub data Definition : Type 0 where
  export : (runtime_instance : ℕ) → ExportedItem → Definition
  flags : (component_instance : ℕ) → Definition
  trampoline : (number : ℕ) → Definition
  intrinsic : (place : ℕ) → Definition

-- the five kinds of slot that a plan fills
pub data SlotKind : Type 0 where
  memory : SlotKind
  table : SlotKind
  realloc : SlotKind
  callback : SlotKind
  post_return : SlotKind

-- an argument of a host module
pub record NamedDefinition : Type 0 where
  pub module_name : List ℕ
  pub name : List ℕ
  pub definition : Definition

-- a step of a plan: a core instance of one of its modules or of an imported one, the lowering of an import, a slot that
-- is filled, a resource that is declared
pub data Initializer : Type 0 where
  instantiate_static : (number : ℕ) → List Definition → (component_instance : Option ℕ) → Initializer
  instantiate_import : (runtime_import : ℕ) → List NamedDefinition → (component_instance : Option ℕ) → Initializer
  lower_import : (index runtime_import : ℕ) → Initializer
  extract : SlotKind → (index : ℕ) → Definition → Initializer
  declare_resource : (index : ℕ) → WasmValType → (destructor : Option Definition) → (component_instance : ℕ)
      → Initializer

-- where values lie: in the managed heap, or in a linear memory with its realloc
pub data ModelEntry : Type 0 where
  gc : ModelEntry
  linear : (memory realloc : Option ℕ) → ModelEntry

-- the options of a lifted or lowered function. In the plan's list of options callback, post-return, memory and
-- realloc are numbers of slots; in an adapter's record they are places among the module's arguments
pub record PlanOptions (τ : Type 0) : Type 0 where
  pub component_instance : ℕ
  pub encoding : StringEncoding
  pub is_async : Bool
  pub signature : τ
  pub callback : Option ℕ
  pub post_return : Option ℕ
  pub model : ModelEntry

-- a part of a builtin or helper: a mark, a number, a flag, a slot or an options entry
pub data TrampolinePart (τ : Type 0) : Type 0 where
  mark : τ → TrampolinePart τ
  number : ℕ → TrampolinePart τ
  flag : Bool → TrampolinePart τ
  slot : SlotKind → Option ℕ → TrampolinePart τ
  options : ℕ → TrampolinePart τ

-- a trampoline; `symbol` has the numbers that stand in its symbol. The core signature of a builtin or helper is the
-- first mark among its parts
pub data TrampolineEntry (τ : Type 0) : Type 0 where
  lowers : (index : ℕ) → (signature function_type : τ) → (options : ℕ) → TrampolineEntry τ
  builtin : TrampolineKind → (symbol : List ℕ) → (component_instance : ℕ) → List (TrampolinePart τ) → TrampolineEntry τ
  helper : TrampolineKind → (symbol : List ℕ) → List (TrampolinePart τ) → TrampolineEntry τ

-- what an adapter module says of one of its functions
pub record AdapterRecord (τ : Type 0) : Type 0 where
  pub core_module : ℕ
  pub adapter : ℕ
  pub function : ℕ
  pub callee : ℕ
  pub lift_type : τ
  pub lift : PlanOptions τ
  pub lower_type : τ
  pub lower : PlanOptions τ

-- the kinds that a line on an import type tells apart
pub data ImportKind : Type 0 where
  function_kind : ImportKind
  instance_kind : ImportKind
  module_kind : ImportKind
  type_kind : ImportKind

-- an import of the root
pub record ImportType (τ : Type 0) : Type 0 where
  pub name : List ℕ
  pub kind : ImportKind
  pub import_type : τ
  pub extern_data : ComponentExternData

-- a host item that the plan uses: its import type, and the names that lead to it from there
pub record RuntimeImport : Type 0 where
  pub import_type : ℕ
  pub names : List (List ℕ)

mutual
  -- an export: a lifted function with the number of its options, a function of the host, a core module of the plan or
  -- of the host, an instance with what it exports, or a type
  pub data PlanExport (τ : Type 0) : Type 0 where
    lifted : (function_type : τ) → Definition → (options : ℕ) → PlanExport τ
    imported_function : (function_type : τ) → (runtime_import : ℕ) → PlanExport τ
    static_module : (number : ℕ) → (module_type : τ) → PlanExport τ
    host_module : (runtime_import : ℕ) → (module_type : τ) → PlanExport τ
    instance : (instance_type : τ) → PlanExports τ → PlanExport τ
    type_export : τ → PlanExport τ

  -- names with their extern data and exports, in order
  pub data PlanExports (τ : Type 0) : Type 0 where
    no_exports : PlanExports τ
    and_export : (name : List ℕ) → ComponentExternData → PlanExport τ → PlanExports τ → PlanExports τ

-- an export of the root: its name, its extern data and what it is
pub record NamedExport (τ : Type 0) : Type 0 where
  pub name : List ℕ
  pub extern_data : ComponentExternData
  pub item : PlanExport τ

-- how many of each kind a run makes
pub record Counts : Type 0 where
  pub runtime_instances : ℕ
  pub component_instances : ℕ
  pub lowerings : ℕ
  pub memories : ℕ
  pub tables : ℕ
  pub reallocs : ℕ
  pub callbacks : ℕ
  pub post_returns : ℕ
  pub resources : ℕ
  pub future_tables : ℕ
  pub stream_tables : ℕ
  pub error_context_tables : ℕ

-- the modules are the handed-in ones and, after them, so many adapter modules, whose records stand in `adapters`
pub record PlanView (τ : Type 0) : Type 0 where
  pub handed_in : List ModuleRecord
  pub adapter_modules : ℕ
  pub adapters : List (AdapterRecord τ)
  pub import_types : List (ImportType τ)
  pub imports : List RuntimeImport
  pub imported_resources : List ℕ
  pub initializers : List Initializer
  pub options : List (PlanOptions τ)
  pub trampolines : List (TrampolineEntry τ)
  pub intrinsics : List (Option τ)
  pub exports : List (NamedExport τ)
  pub counts : Counts
