-- The printed text of a plan, line by line in the order of the format. It reads no mark.
use Rattle.std.specs.Prelude.{ℕ, ◌+◌, Bool, true, false, List, [], ◌∷◌, ◌++◌, length, Option, Some, None, ◌==◌, nat_le}
use Rattle.std.specs.Prelude.{if◌then◌else◌, codes, slice_get, unwrap_or}
use Rattle.std.specs.List.{flat_map}
use Rattle.std.specs.Fmt.{decimal}
use Rattle.pc_types.specs.declared.encoding.StringEncoding.{StringEncoding}
use Rattle.pc_types.specs.declared.encoding.StringEncoding.TheVariants as encoding
use Rattle.pc_types.specs.declared.parsed.CoreKind.{CoreKind}
use Rattle.pc_types.specs.declared.parsed.CoreKind.TheVariants as core
use Rattle.pc_types.specs.declared.parsed.WasmValType.{WasmValType}
use Rattle.pc_types.specs.declared.parsed.WasmValType.TheVariants as wasm
use Rattle.pc_types.specs.declared.trampoline.TrampolineKind.{TrampolineKind}
use Rattle.pc_types.specs.declared.trampoline.TrampolineKind.TheVariants as kind
use Rattle.pc_types.specs.declared.types.ComponentExternData.{ComponentExternData}
use Rattle.pc_types.specs.Intrinsic.{intrinsic_names}
use Rattle.pc_types.specs.Record.{index_kind, index_number}
use Rattle.pc_spec_plan.specs.CoreValue.{ExportedItem, by_index, by_name}
use Rattle.pc_spec_plan.specs.PlanView

-- a line feed
abbrev pub line_end : List ℕ
line_end = 10 ∷ []

-- a number after a space
abbrev pub number : ℕ → List ℕ
number n = codes " " ++ decimal n

-- a number after a space, or a dash where there is none
abbrev pub maybe_number : Option ℕ → List ℕ
maybe_number None = codes " -"
maybe_number (Some n) = number n

-- a byte of a quoted name: a quote, a backslash and a line feed stand behind a backslash
abbrev pub escaped : ℕ → List ℕ
escaped b =
    if b == 34 then 92 ∷ 34 ∷ [] else (if b == 92 then 92 ∷ 92 ∷ [] else (if b == 10 then 92 ∷ 110 ∷ [] else b ∷ []))

-- a name between double quotes
abbrev pub quoted : List ℕ → List ℕ
quoted name = 34 ∷ flat_map escaped name ++ 34 ∷ []

-- texts with a comma and a space between them
abbrev pub listed : List (List ℕ) → List ℕ
listed [] = []
listed (x ∷ []) = x
listed (x ∷ y ∷ ys) = x ++ codes ", " ++ listed (y ∷ ys)

-- a text for each element, which depends on its number too, counted from n
abbrev pub numbered : {A : Type 0} → (ℕ → A → List ℕ) → ℕ → List A → List ℕ
numbered f n [] = []
numbered f n (x ∷ xs) = f n x ++ numbered f (n + 1) xs

-- the word for a kind of core entity
abbrev pub core_kind : CoreKind → List ℕ
core_kind core.Func = codes "func"
core_kind core.Table = codes "table"
core_kind core.Memory = codes "memory"
core_kind core.Global = codes "global"
core_kind core.Tag = codes "tag"

-- the word for a core value type
abbrev pub core_type : WasmValType → List ℕ
core_type wasm.I32 = codes "i32"
core_type wasm.I64 = codes "i64"
core_type wasm.F32 = codes "f32"
core_type wasm.F64 = codes "f64"
core_type wasm.V128 = codes "v128"
core_type wasm.FuncRef = codes "funcref"
core_type wasm.ExternRef = codes "externref"

-- the word for a string encoding
abbrev pub encoding_name : StringEncoding → List ℕ
encoding_name encoding.Utf8 = codes "utf8"
encoding_name encoding.Utf16 = codes "utf16"
encoding_name encoding.CompactUtf16 = codes "compact-utf16"

-- the word for async or not
abbrev pub async_flag : Bool → List ℕ
async_flag true = codes " async"
async_flag false = codes " sync"

-- the word for an unsafe intrinsic, by its place
abbrev pub intrinsic_name : ℕ → List ℕ
intrinsic_name i = unwrap_or (slice_get intrinsic_names i) []

-- definitions

-- an item of a core instance
abbrev pub item : ExportedItem → List ℕ
item (by_index e) = core_kind (index_kind e) ++ number (index_number e)
item (by_name name) = quoted name

-- a definition
abbrev pub definition : PlanView.Definition → List ℕ
definition (PlanView.export r i) = codes "export(" ++ decimal r ++ codes " " ++ item i ++ codes ")"
definition (PlanView.flags c) = codes "flags(" ++ decimal c ++ codes ")"
definition (PlanView.trampoline t) = codes "trampoline(" ++ decimal t ++ codes ")"
definition (PlanView.intrinsic i) = codes "intrinsic(" ++ intrinsic_name i ++ codes ")"

-- a definition, or a dash where there is none
abbrev pub maybe_definition : Option PlanView.Definition → List ℕ
maybe_definition None = codes " -"
maybe_definition (Some d) = codes " " ++ definition d

-- definitions, one by one
abbrev pub definitions : List PlanView.Definition → List (List ℕ)
definitions [] = []
definitions (d ∷ ds) = definition d ∷ definitions ds

-- names and definitions, one by one
abbrev pub named_definitions : List PlanView.NamedDefinition → List (List ℕ)
named_definitions [] = []
named_definitions (d ∷ ds) =
    (quoted d.module_name ++ codes " " ++ quoted d.name ++ codes " " ++ definition d.definition) ∷ named_definitions ds

-- lines

-- the word for a kind of slot
abbrev pub slot_kind : PlanView.SlotKind → List ℕ
slot_kind PlanView.memory = codes "memory"
slot_kind PlanView.table = codes "table"
slot_kind PlanView.realloc = codes "realloc"
slot_kind PlanView.callback = codes "callback"
slot_kind PlanView.post_return = codes "post-return"

-- the line of an initializer
abbrev pub initializer_line : PlanView.Initializer → List ℕ
initializer_line (PlanView.instantiate_static m args c) =
    codes "init static" ++ number m ++ maybe_number c ++ codes " [" ++ listed (definitions args) ++ codes "]"
    ++ line_end
initializer_line (PlanView.instantiate_import r args c) =
    codes "init import" ++ number r ++ maybe_number c ++ codes " [" ++ listed (named_definitions args) ++ codes "]"
    ++ line_end
initializer_line (PlanView.lower_import index r) = codes "init lower" ++ number index ++ number r ++ line_end
initializer_line (PlanView.extract k index d) =
    codes "init " ++ slot_kind k ++ number index ++ codes " " ++ definition d ++ line_end
initializer_line (PlanView.declare_resource index representation d c) =
    codes "init resource" ++ number index ++ codes " " ++ core_type representation ++ maybe_definition d ++ number c
    ++ line_end

-- what a name says that it implements
abbrev pub implements_data : Option (List ℕ) → List ℕ
implements_data None = []
implements_data (Some name) = codes " implements " ++ quoted name

-- the external id of a name
abbrev pub id_data : Option (List ℕ) → List ℕ
id_data None = []
id_data (Some name) = codes " id " ++ quoted name

-- all that a name says beside itself
abbrev pub extern_data : ComponentExternData → List ℕ
extern_data d = implements_data d.implements ++ id_data d.external_id

-- the word for a kind of import
abbrev pub import_kind : PlanView.ImportKind → List ℕ
import_kind PlanView.function_kind = codes "func"
import_kind PlanView.instance_kind = codes "instance"
import_kind PlanView.module_kind = codes "module"
import_kind PlanView.type_kind = codes "type"

-- the line of an import of the root
abbrev pub import_type_line : {τ : Type 0} → ℕ → PlanView.ImportType τ → List ℕ
import_type_line n t =
    codes "import-type" ++ number n ++ codes " " ++ quoted t.name ++ codes " " ++ import_kind t.kind
    ++ extern_data t.extern_data ++ line_end

-- quoted names, each after a space
abbrev pub spaced_names : List (List ℕ) → List ℕ
spaced_names names = flat_map (λ (name : List ℕ). codes " " ++ quoted name) names

-- the line of a host item
abbrev pub import_line : ℕ → PlanView.RuntimeImport → List ℕ
import_line n i = codes "import" ++ number n ++ number i.import_type ++ spaced_names i.names ++ line_end

-- the line of a resource of the host
abbrev pub imported_resource_line : ℕ → ℕ → List ℕ
imported_resource_line n r = codes "imported-resource" ++ number n ++ number r ++ line_end

-- memory and realloc, or the word for the managed heap
abbrev pub model : PlanView.ModelEntry → List ℕ
model PlanView.gc = codes " gc"
model (PlanView.linear m r) = maybe_number m ++ maybe_number r

-- options, from the component instance on
abbrev pub plan_options : {τ : Type 0} → PlanView.PlanOptions τ → List ℕ
plan_options o =
    number o.component_instance ++ codes " " ++ encoding_name o.encoding ++ async_flag o.is_async
    ++ maybe_number o.callback ++ maybe_number o.post_return ++ model o.model

-- the line of an options entry
abbrev pub options_line : {τ : Type 0} → ℕ → PlanView.PlanOptions τ → List ℕ
options_line n o = codes "options" ++ number n ++ plan_options o ++ line_end

-- the first part of a trampoline's symbol
abbrev pub stem : TrampolineKind → List ℕ
stem kind.LowerImport = codes "component-lower-import"
stem kind.ResourceNew = codes "component-resource-new"
stem kind.ResourceRep = codes "component-resource-rep"
stem kind.ResourceDrop = codes "component-resource-drop"
stem kind.BackpressureInc = codes "backpressure-inc"
stem kind.BackpressureDec = codes "backpressure-dec"
stem kind.TaskReturn = codes "task-return"
stem kind.TaskCancel = codes "task-cancel"
stem kind.WaitableSetNew = codes "waitable-set-new"
stem kind.WaitableSetWait = codes "waitable-set-wait"
stem kind.WaitableSetPoll = codes "waitable-set-poll"
stem kind.WaitableSetDrop = codes "waitable-set-drop"
stem kind.WaitableJoin = codes "waitable-join"
stem kind.SubtaskDrop = codes "subtask-drop"
stem kind.SubtaskCancel = codes "subtask-cancel"
stem kind.StreamNew = codes "stream-new"
stem kind.StreamRead = codes "stream-read"
stem kind.StreamWrite = codes "stream-write"
stem kind.StreamCancelRead = codes "stream-cancel-read"
stem kind.StreamCancelWrite = codes "stream-cancel-write"
stem kind.StreamDropReadable = codes "stream-drop-readable"
stem kind.StreamDropWritable = codes "stream-drop-writable"
stem kind.FutureNew = codes "future-new"
stem kind.FutureRead = codes "future-read"
stem kind.FutureWrite = codes "future-write"
stem kind.FutureCancelRead = codes "future-cancel-read"
stem kind.FutureCancelWrite = codes "future-cancel-write"
stem kind.FutureDropReadable = codes "future-drop-readable"
stem kind.FutureDropWritable = codes "future-drop-writable"
stem kind.ErrorContextNew = codes "error-context-new"
stem kind.ErrorContextDebugMessage = codes "error-context-debug-message"
stem kind.ErrorContextDrop = codes "error-context-drop"
stem kind.ThreadIndex = codes "thread-index"
stem kind.ThreadNewIndirect = codes "thread-new-indirect"
stem kind.ThreadResumeLater = codes "thread-resume-later"
stem kind.ThreadSuspend = codes "thread-suspend"
stem kind.ThreadYield = codes "thread-yield"
stem kind.ThreadSuspendThenResume = codes "thread-suspend-then-resume"
stem kind.ThreadYieldThenResume = codes "thread-yield-then-resume"
stem kind.ThreadSuspendThenPromote = codes "thread-suspend-then-promote"
stem kind.ThreadYieldThenPromote = codes "thread-yield-then-promote"
stem kind.Transcoder = codes "component-transcode"
stem kind.ResourceTransferOwn = codes "component-resource-transfer-own"
stem kind.ResourceTransferBorrow = codes "component-resource-transfer-borrow"
stem kind.PrepareCall = codes "component-prepare-call"
stem kind.StartCall = codes "component-start-call"
stem kind.FutureTransfer = codes "future-transfer"
stem kind.StreamTransfer = codes "stream-transfer"
stem kind.ErrorContextTransfer = codes "error-context-transfer"
stem kind.Trap = codes "trap"
stem kind.EnterSyncCall = codes "enter-sync-call"
stem kind.ExitSyncCall = codes "exit-sync-call"

-- the transcodings, each at its number
abbrev pub transcodings : List (List ℕ)
transcodings =
    codes "copy_utf8" ∷ codes "copy_utf16" ∷ codes "copy_latin1" ∷ codes "latin1_to_utf16" ∷ codes "latin1_to_utf8"
    ∷ codes "utf16_to_compact_probably_utf16" ∷ codes "utf16_to_compact_utf16" ∷ codes "utf16_to_latin1"
    ∷ codes "utf16_to_utf8"
    ∷ codes "utf8_to_compact_utf16" ∷ codes "utf8_to_latin1" ∷ codes "utf8_to_utf16" ∷ []

-- text between brackets
abbrev pub in_brackets : List ℕ → List ℕ
in_brackets numbers = flat_map (λ (n : ℕ). codes "[" ++ decimal n ++ codes "]") numbers

-- the rest of a symbol, from its numbers: a transcoding and the widths of both memories, a trap code, or a type
abbrev pub symbol_end : TrampolineKind → List ℕ → List ℕ
symbol_end kind.Transcoder (op ∷ from ∷ to ∷ []) =
    codes "-" ++ unwrap_or (slice_get transcodings op) [] ++ codes "-m" ++ decimal from ++ codes "-m" ++ decimal to
symbol_end kind.Trap (n ∷ []) = codes "-" ++ decimal n
symbol_end k numbers = in_brackets numbers

-- a part of a trampoline
abbrev pub part : {τ : Type 0} → PlanView.TrampolinePart τ → List ℕ
part (PlanView.mark m) = []
part (PlanView.number n) = number n
part (PlanView.flag b) = async_flag b
part (PlanView.slot k n) = maybe_number n
part (PlanView.options n) = number n

-- what follows the symbol of a trampoline
abbrev pub trampoline_end : {τ : Type 0} → PlanView.TrampolineEntry τ → List ℕ
trampoline_end (PlanView.lowers index signature ty o) =
    stem kind.LowerImport ++ in_brackets (index ∷ []) ++ number index ++ number o
trampoline_end (PlanView.builtin k symbol c parts) = stem k ++ symbol_end k symbol ++ number c ++ flat_map part parts
trampoline_end (PlanView.helper k symbol parts) = stem k ++ symbol_end k symbol ++ flat_map part parts

-- the line of a trampoline
abbrev pub trampoline_line : {τ : Type 0} → ℕ → PlanView.TrampolineEntry τ → List ℕ
trampoline_line n t = codes "trampoline" ++ number n ++ codes " " ++ trampoline_end t ++ line_end

-- the line of an intrinsic, if the plan has it
abbrev pub intrinsic_line : {τ : Type 0} → ℕ → Option τ → List ℕ
intrinsic_line i None = []
intrinsic_line i (Some signature) = codes "intrinsic " ++ intrinsic_name i ++ line_end

-- the line of an adapter's record
abbrev pub adapter_line : {τ : Type 0} → PlanView.AdapterRecord τ → List ℕ
adapter_line a =
    codes "adapter" ++ number a.core_module ++ number a.adapter ++ number a.function ++ number a.callee
    ++ codes " lift" ++ plan_options a.lift ++ codes " lower" ++ plan_options a.lower ++ line_end

-- a record among others that stand by their numbers, before those that aren't lower
abbrev pub insert_adapter : {τ : Type 0} → PlanView.AdapterRecord τ → List (PlanView.AdapterRecord τ)
    → List (PlanView.AdapterRecord τ)
insert_adapter a [] = a ∷ []
insert_adapter a (b ∷ bs) = if nat_le a.adapter b.adapter then a ∷ b ∷ bs else b ∷ insert_adapter a bs

-- records by the numbers of their adapters; those of one number keep their order
abbrev pub by_number : {τ : Type 0} → List (PlanView.AdapterRecord τ) → List (PlanView.AdapterRecord τ)
by_number [] = []
by_number (r ∷ rs) = insert_adapter r (by_number rs)

abbrev mutual
  -- a line for an export under a path, and then one for each that it holds
  pub export_lines : {τ : Type 0} → (path : List ℕ) → ComponentExternData → PlanView.PlanExport τ → List ℕ
  export_lines path meta (PlanView.lifted ty d o) =
      codes "export" ++ path ++ codes " lifted " ++ definition d ++ codes " options" ++ number o ++ extern_data meta
      ++ line_end
  export_lines path meta (PlanView.imported_function ty r) =
      codes "export" ++ path ++ codes " imported" ++ number r ++ extern_data meta ++ line_end
  export_lines path meta (PlanView.static_module m ty) =
      codes "export" ++ path ++ codes " module-static" ++ number m ++ extern_data meta ++ line_end
  export_lines path meta (PlanView.host_module r ty) =
      codes "export" ++ path ++ codes " module-import" ++ number r ++ extern_data meta ++ line_end
  export_lines path meta (PlanView.instance ty exports) =
      codes "export" ++ path ++ codes " instance" ++ extern_data meta ++ line_end ++ nested_lines path exports
  export_lines path meta (PlanView.type_export ty) =
      codes "export" ++ path ++ codes " type" ++ extern_data meta ++ line_end

  pub nested_lines : {τ : Type 0} → (path : List ℕ) → PlanView.PlanExports τ → List ℕ
  nested_lines path PlanView.no_exports = []
  nested_lines path (PlanView.and_export name meta e rest) =
      export_lines (path ++ codes " " ++ quoted name) meta e ++ nested_lines path rest

-- the lines of an export, one for each node of its tree
abbrev pub named_lines : {τ : Type 0} → PlanView.NamedExport τ → List ℕ
named_lines e = export_lines (codes " " ++ quoted e.name) e.extern_data e.item

-- the line of counts
abbrev pub counts_line : PlanView.Counts → List ℕ
counts_line c =
    codes "counts" ++ number c.runtime_instances ++ number c.component_instances ++ number c.lowerings
    ++ number c.memories
    ++ number c.tables ++ number c.reallocs ++ number c.callbacks ++ number c.post_returns ++ number c.resources
    ++ number c.future_tables ++ number c.stream_tables ++ number c.error_context_tables ++ line_end

-- the text of a plan that stands on so many handed-in modules and on so many of adapters
abbrev pub text_over : {τ : Type 0} → (handed_in adapter_modules : ℕ) → PlanView.PlanView τ → List ℕ
text_over handed_in adapter_modules p =
    codes "plan 1" ++ line_end
    ++ codes "modules" ++ number handed_in ++ number adapter_modules ++ line_end
    ++ counts_line p.counts
    ++ numbered import_type_line 0 p.import_types
    ++ numbered import_line 0 p.imports
    ++ numbered imported_resource_line 0 p.imported_resources
    ++ flat_map initializer_line p.initializers
    ++ numbered options_line 0 p.options
    ++ numbered trampoline_line 0 p.trampolines
    ++ numbered intrinsic_line 0 p.intrinsics
    ++ flat_map adapter_line (by_number p.adapters)
    ++ flat_map named_lines p.exports

-- the text of a plan
abbrev pub plan_text : {τ : Type 0} → PlanView.PlanView τ → List ℕ
plan_text p = text_over (length p.handed_in) p.adapter_modules p
