-- What a module imports for an adapter of a graph, in order.
use Rattle.std.specs.Prelude.{ℕ, Bool, true, false, ◌&&◌, ◌||◌, List, [], ◌∷◌, ◌++◌, map, Option, None, Some}
use Rattle.std.specs.Prelude.{option_map, if◌then◌else◌}
use Rattle.std.specs.FinSet as set
use Rattle.pc_numbers.specs.declared.module_entity.MemoryIndex.{MemoryIndex}
use Rattle.pc_types_lists.specs.declared.facts.TypeFacts.{TypeFacts}
use Rattle.pc_types_lists.specs.Facts.{join}
use Rattle.pc_trampoline.specs.declared.transcode.Transcode.{Transcode}
use Rattle.pc_dfg.specs.declared.adapter.Adapter.{Adapter}
use Rattle.pc_dfg.specs.declared.adapter.AdapterOptions.{AdapterOptions}
use Rattle.pc_dfg.specs.declared.adapter.DataModel.{DataModel}
use Rattle.pc_dfg.specs.declared.adapter.DataModel.TheVariants as side
use Rattle.pc_dfg.specs.declared.core_def.CoreDef.{CoreDef}
use Rattle.pc_dfg.specs.declared.core_def.CoreDef.TheVariants as def
use Rattle.pc_dfg.specs.declared.core_def.CoreExport.{CoreExport}
use Rattle.pc_dfg.specs.declared.dfg.ComponentDfg.{ComponentDfg}
use Rattle.pc_dfg.specs.Numbers.{memory_def}
use Rattle.pc_spec_adapt.specs.Asked.{FunctionFacts}
use Rattle.pc_spec_adapt.specs.Planned.{all_facts, transcodings}
use Rattle.pc_adapt.specs.declared.import.Import.{Import}
use Rattle.pc_adapt.specs.declared.import.Import.TheVariants as import

-- a memory, with whether its addresses have 64 bits
abbrev pub Memory : Type 0
Memory = CoreExport MemoryIndex × Bool

-- the memory of a side in linear memory
abbrev pub memory_of : DataModel → Option Memory
memory_of side.Gc = None
memory_of (side.LinearMemory memory realloc) = memory

-- the realloc of a side in linear memory
abbrev pub realloc_of : DataModel → Option CoreDef
realloc_of side.Gc = None
realloc_of (side.LinearMemory memory realloc) = realloc

-- a definition that may be left out
abbrev pub definitions : Option CoreDef → List Import
definitions None = []
definitions (Some d) = import.CoreDef d ∷ []

-- a memory that may be left out
abbrev pub memory_imports : Option Memory → List Import
memory_imports None = []
memory_imports (Some m) = import.CoreDef (memory_def m.0) ∷ []

-- the memory, the realloc, the callback and the post-return function of a side, those that are there
abbrev pub side_imports : AdapterOptions → List Import
side_imports o =
    memory_imports (memory_of o.data_model) ++ definitions (realloc_of o.data_model) ++ definitions o.callback
    ++ definitions o.post_return

-- what brings strings from one memory into another
abbrev pub copy : (from to : Memory) → Transcode → Import
copy from to op = import.Transcode op from.0 from.1 to.0 to.1

-- what brings strings from one side to another, where both have a memory
abbrev pub copies : List Transcode → (from to : Option Memory) → List Import
copies ops (Some from) (Some to) = map (copy from to) ops
copies ops from to = []

-- an import, where it is asked for
abbrev pub import_if : Bool → Import → List Import
import_if asked i = if asked then i ∷ [] else []

-- the transfers of the kinds of handle that stand in a type
abbrev pub transfer_imports : TypeFacts → List Import
transfer_imports x =
    import_if x.own import.ResourceTransferOwn ++ import_if x.borrow import.ResourceTransferBorrow
    ++ import_if x.future import.FutureTransfer ++ import_if x.stream import.StreamTransfer
    ++ import_if x.error_context import.ErrorContextTransfer

-- whether the adapter of a number is known to be transparent
abbrev pub is_transparent : ComponentDfg → (number : ℕ) → Bool
is_transparent g n = set.contains g.transparent_adapters n

-- what begins and ends a call of what the lift of these options calls: nothing, where a sync call goes through a
-- transparent adapter
abbrev pub calls : (is_async transparent : Bool) → AdapterOptions → List Import
calls true transparent lift =
    import.PrepareCall (option_map (λ (m : Memory). m.0) (memory_of lift.data_model))
    ∷ import.StartCall lift.callback lift.post_return ∷ []
calls false true lift = []
calls false false lift = import.EnterSyncCall ∷ import.ExitSyncCall ∷ []

-- what is called, the flags of the lowering's instance and of the lift's, and what the options of both sides hold
abbrev pub first_imports : Adapter → List Import
first_imports x =
    (import.CoreDef x.func ∷ import.CoreDef (def.InstanceFlags x.lower_options.instance)
    ∷ import.CoreDef (def.InstanceFlags x.lift_options.instance) ∷ [])
    ++ side_imports x.lift_options ++ side_imports x.lower_options

-- what brings strings from one side to another, where they are moved
abbrev pub copies_if : Bool → (from to : AdapterOptions) → List Import
copies_if moved from to =
    if moved
    then copies (transcodings from.string_encoding to.string_encoding) (memory_of from.data_model)
    (memory_of to.data_model)
    else []

-- whether a call through an adapter is async
abbrev pub is_async_call : (lift lower : FunctionFacts) → Adapter → Bool
is_async_call lift lower x =
    x.lift_options.async_ || x.lower_options.async_ || lift.is_async || lower.is_async

-- what a module imports for an adapter, by the facts of its two types and by whether it is transparent
unfoldable pub imports_of : (lift lower : FunctionFacts) → (transparent : Bool) → Adapter → List Import
imports_of lift lower transparent x =
    first_imports x ++ copies_if (lift.params.string && lower.params.string) x.lower_options x.lift_options
    ++ copies_if (lift.results.string && lower.results.string) x.lift_options x.lower_options
    ++ transfer_imports (join (all_facts lift) (all_facts lower))
    ++ calls (is_async_call lift lower x) transparent x.lift_options ++ import.Trap (record { 0 = 1 }) ∷ []
