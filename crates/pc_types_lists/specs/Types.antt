-- The interned types: one list for each kind of type, and the resources that are known.
use Rattle.std.specs.Prelude.{◌≡◌, ◌≤◌, ◌+◌, ℕ, List, [], length, Some, slice_get}
use Rattle.pc_numbers.specs.declared.runtime.ResourceIndex.{ResourceIndex}
use Rattle.pc_numbers.specs.declared.runtime.RuntimeComponentInstanceIndex.{RuntimeComponentInstanceIndex}
use Rattle.pc_types.specs.declared.parsed.CoreFuncSig.{CoreFuncSig}
use Rattle.pc_types.specs.declared.types.TypeFunc.{TypeFunc}
use Rattle.pc_types.specs.declared.types.TypeTuple.{TypeTuple}
use Rattle.pc_types.specs.declared.types.TypeRecord.{TypeRecord}
use Rattle.pc_types.specs.declared.types.TypeVariant.{TypeVariant}
use Rattle.pc_types.specs.declared.types.TypeList.{TypeList}
use Rattle.pc_types.specs.declared.types.TypeOption.{TypeOption}
use Rattle.pc_types.specs.declared.types.TypeResult.{TypeResult}
use Rattle.pc_types.specs.declared.types.TypeFlags.{TypeFlags}
use Rattle.pc_types.specs.declared.types.TypeEnum.{TypeEnum}
use Rattle.pc_types.specs.declared.types.TypeResourceTable.{TypeResourceTable}
use Rattle.pc_types.specs.declared.types.TypeFutureTable.{TypeFutureTable}
use Rattle.pc_types.specs.declared.types.TypeStreamTable.{TypeStreamTable}
use Rattle.pc_types.specs.declared.types.TypeErrorContextTable.{TypeErrorContextTable}
use Rattle.pc_types.specs.declared.types.TypeComponentInstance.{TypeComponentInstance}
use Rattle.pc_types.specs.declared.types.TypeComponent.{TypeComponent}
use Rattle.pc_types.specs.declared.types.TypeModule.{TypeModule}
use Rattle.pc_types.specs.declared.types.TypeKind.{TypeKind}
use Rattle.pc_types.specs.declared.types.TypeKind.TheVariants as kind
use Rattle.pc_entity.specs.Lists.{AreDistinct, Kept}

-- the resources that are known by their table numbers, and the component instance that types are converted in
pub record Resources : Type 0 where
  pub known : List (ℕ × ResourceIndex)
  pub current : RuntimeComponentInstanceIndex

-- one list for each kind of type, in which a type has its place as number
pub record Types : Type 0 where
  pub funcs : List TypeFunc
  pub tuples : List TypeTuple
  pub records : List TypeRecord
  pub variants : List TypeVariant
  pub lists : List TypeList
  pub options : List TypeOption
  pub results : List TypeResult
  pub flags : List TypeFlags
  pub enums : List TypeEnum
  pub resource_tables : List TypeResourceTable
  pub future_tables : List TypeFutureTable
  pub stream_tables : List TypeStreamTable
  pub error_context_tables : List TypeErrorContextTable
  pub instances : List TypeComponentInstance
  pub components : List TypeComponent
  pub modules : List TypeModule
  pub signatures : List CoreFuncSig
  pub resources : Resources

-- no types, and no resource that is known, in the root
abbrev pub no_types : Types
no_types = record {
  funcs = [];
  tuples = [];
  records = [];
  variants = [];
  lists = [];
  options = [];
  results = [];
  flags = [];
  enums = [];
  resource_tables = [];
  future_tables = [];
  stream_tables = [];
  error_context_tables = [];
  instances = [];
  components = [];
  modules = [];
  signatures = [];
  resources = record { known = []; current = record { 0 = 0 } };
}

-- how many types of a kind are held
abbrev pub held : Types → TypeKind → ℕ
held b kind.Func = length b.funcs
held b kind.Tuple = length b.tuples
held b kind.Record = length b.records
held b kind.Variant = length b.variants
held b kind.List = length b.lists
held b kind.Option = length b.options
held b kind.Result = length b.results
held b kind.Flags = length b.flags
held b kind.Enum = length b.enums
held b kind.ResourceTable = length b.resource_tables
held b kind.FutureTable = length b.future_tables
held b kind.StreamTable = length b.stream_tables
held b kind.ErrorContextTable = length b.error_context_tables
held b kind.Instance = length b.instances
held b kind.Component = length b.components
held b kind.Module = length b.modules
held b kind.Signature = length b.signatures

-- how many types are held, of all kinds
abbrev pub types_held : Types → ℕ
types_held b =
    length b.funcs + length b.tuples + length b.records + length b.variants + length b.lists + length b.options
    + length b.results + length b.flags + length b.enums + length b.resource_tables + length b.future_tables
    + length b.stream_tables + length b.error_context_tables + length b.instances + length b.components
    + length b.modules + length b.signatures

-- no two types of a kind are equal
abbrev pub HasDistinct : Types → TypeKind → Type 0
HasDistinct b kind.Func = AreDistinct b.funcs
HasDistinct b kind.Tuple = AreDistinct b.tuples
HasDistinct b kind.Record = AreDistinct b.records
HasDistinct b kind.Variant = AreDistinct b.variants
HasDistinct b kind.List = AreDistinct b.lists
HasDistinct b kind.Option = AreDistinct b.options
HasDistinct b kind.Result = AreDistinct b.results
HasDistinct b kind.Flags = AreDistinct b.flags
HasDistinct b kind.Enum = AreDistinct b.enums
HasDistinct b kind.ResourceTable = AreDistinct b.resource_tables
HasDistinct b kind.FutureTable = AreDistinct b.future_tables
HasDistinct b kind.StreamTable = AreDistinct b.stream_tables
HasDistinct b kind.ErrorContextTable = AreDistinct b.error_context_tables
HasDistinct b kind.Instance = AreDistinct b.instances
HasDistinct b kind.Component = AreDistinct b.components
HasDistinct b kind.Module = AreDistinct b.modules
HasDistinct b kind.Signature = AreDistinct b.signatures

-- some list can take no further type
abbrev pub IsFull : Types → Type 0
IsFull b = (k : TypeKind) × (held b k ≡ 4294967294)

-- each type keeps its number, and so do the resources that are known
pub record Grows (old new : Types) : Type 0 where
  pub funcs : Kept old.funcs new.funcs
  pub tuples : Kept old.tuples new.tuples
  pub records : Kept old.records new.records
  pub variants : Kept old.variants new.variants
  pub lists : Kept old.lists new.lists
  pub options : Kept old.options new.options
  pub results : Kept old.results new.results
  pub flags : Kept old.flags new.flags
  pub enums : Kept old.enums new.enums
  pub resource_tables : Kept old.resource_tables new.resource_tables
  pub future_tables : Kept old.future_tables new.future_tables
  pub stream_tables : Kept old.stream_tables new.stream_tables
  pub error_context_tables : Kept old.error_context_tables new.error_context_tables
  pub instances : Kept old.instances new.instances
  pub components : Kept old.components new.components
  pub modules : Kept old.modules new.modules
  pub signatures : Kept old.signatures new.signatures
  pub resources : new.resources ≡ old.resources

-- each type keeps its number, whichever resources are known
abbrev pub KeepsTypes : (old new : Types) → Type 0
KeepsTypes old new = Grows old (record new { resources = old.resources })

-- the type has a number in the list
abbrev pub HasNumber : {V : Type 0} → List V → V → Type 0
HasNumber types type = (n : ℕ) × (slice_get types n ≡ Some type)

-- at most 4294967294 types of each kind, and no two of a kind are equal
pub record IsBuilder (b : Types) : Type 0 where
  pub within : (k : TypeKind) → held b k ≤ 4294967294
  pub distinct : (k : TypeKind) → HasDistinct b k

-- some list can take no further type, and no builder that keeps these types has P
pub record IsTooFullFor (b : Types) (P : Types → Type 0) : Type 0 where
  pub full : IsFull b
  pub none : (next : Types) → Grows b next → IsBuilder next → P next → ⊥
