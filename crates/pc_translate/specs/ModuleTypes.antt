-- The types of handed-in modules that a graph exports, as numbers of the types builder.
use Rattle.std.specs.Prelude.{◌≡◌, ◌≤◌, ◌<◌, ◌+◌, ℕ, true, List, length, Option, Some, slice_get, Contains}
use Rattle.std.specs.Prelude.{IsSome, IsSomeAnd, IfSome}
use Rattle.pc_numbers.specs.declared.runtime.ResourceIndex.{ResourceIndex}
use Rattle.pc_types.specs.declared.parsed.TypeTable.{TypeTable}
use Rattle.pc_types.specs.declared.type_index.TypeModuleIndex.{TypeModuleIndex}
use Rattle.pc_types.specs.declared.types.TypeDef.TheVariants as def
use Rattle.pc_types.specs.Table.{is_module, is_some_and}
use Rattle.pc_types.specs.TypeTree.{Identity, TypeTree, tree_of}
use Rattle.pc_types_builder.specs.Types.{IsFull, IsTooFullFor, Types}
use Rattle.pc_types_builder.specs.Trees.{HasTree, IsEntry}
use Rattle.pc_types_builder.specs.Asked.{IsReachedSignature}
use Rattle.pc_dfg.specs.declared.export.Export.{Export}
use Rattle.pc_dfg_finish.specs.ModuleTypes.{static_type, type_at}

-- an entry of the table is a module type
abbrev pub IsModuleType : TypeTable → ℕ → Type 0
IsModuleType t n = is_some_and is_module (slice_get t.types n) ≡ true

-- the builder holds a module type of the table under a number
pub record HoldsModule (b : Types) (t : TypeTable) (n : ℕ) : Type 0 where
  pub there : IsModuleType t n
  pub known : List (ℕ × Identity)
  pub component_instance : ℕ
  pub tree : TypeTree
  pub is : tree_of known component_instance t n ≡ Some tree
  pub number : TypeModuleIndex
  pub who : ResourceIndex → Identity
  pub holds : HasTree b who (def.Module number) tree

-- a handed-in module that is exported has a module type of the table
abbrev pub HasModuleType : TypeTable → Export → Type 0
HasModuleType t e = IfSome (static_type e) (IsModuleType t)

-- a handed-in module with this type of the table is among the exports
abbrev pub IsExported : List Export → ℕ → Type 0
IsExported es n = (e : Export) × Contains es e × (static_type e ≡ Some n)

-- and those of all handed-in modules among these exports
abbrev pub HoldsModules : Types → TypeTable → List Export → Type 0
HoldsModules b t es = (n : ℕ) → IsExported es n → HoldsModule b t n

-- nothing is added but module types and core signatures: the types of entries with P, and signatures that these name
pub record AddsModules (t : TypeTable) (P : ℕ → Type 0) (old new : Types) : Type 0 where
  pub rest : new ≡ record old { modules = new.modules; signatures = new.signatures }
  pub modules : (i : ℕ) → length old.modules ≤ i → i < length new.modules
      → (n : ℕ) × P n × IsEntry new t n (def.Module (record { 0 = i }))
  pub signatures : (i : ℕ) → length old.signatures ≤ i → i < length new.signatures
      → (n : ℕ) × P n × IsReachedSignature new t n i

-- an export's module type has no place in the lists of a builder
abbrev pub HasNoPlace : Types → TypeTable → Export → Type 0
HasNoPlace b t e =
    IsSomeAnd (static_type e)
    (λ ty. IsTooFullFor b (λ next. (i : TypeModuleIndex) × IsEntry next t ty (def.Module i)))

-- a list of a builder is full, or has too few places left for as many module types as the table has entries, or for as
-- many core signatures as it has
pub data HasFewPlaces (t : TypeTable) (b : Types) : Type 0 where
  of_any : IsFull b → HasFewPlaces t b
  of_modules : 4294967294 ≤ length b.modules + length t.types → HasFewPlaces t b
  of_signatures : 4294967294 ≤ length b.signatures + length t.core_funcs → HasFewPlaces t b

-- there were few places before a call, and now there is none for the type of one of the exports
pub record LacksPlace (t : TypeTable) (es : List Export) (old new : Types) : Type 0 where
  pub before : HasFewPlaces t old
  pub item : Export
  pub exported : Contains es item
  pub no_place : HasNoPlace new t item

-- a place for each entry of the table, where each type that stands there is that of the entry
pub record AreModuleTypes (b : Types) (t : TypeTable) (types : List (Option TypeModuleIndex)) : Type 0 where
  pub room : length types ≡ length t.types
  pub entries : (n : ℕ) (i : TypeModuleIndex) → type_at types n ≡ Some i → IsEntry b t n (def.Module i)

-- each type that was converted stays
abbrev pub StayTyped : (old new : List (Option TypeModuleIndex)) → Type 0
StayTyped old new = (n : ℕ) → IsSome (type_at old n) → IsSome (type_at new n)
