-- What the conversion of one entry adds, where what the entry names is done: the entry's type, the two tuples of a
-- function, the signatures of a module, and the error contexts of the current instance where the entry names them.
use Rattle.std.specs.Prelude.{◌≡◌, ◌⊎◌, ◌≤◌, ◌<◌, ◌++◌, ◌&&◌, ℕ, Bool, true, false, List, Option, Some, Contains}
use Rattle.std.specs.Prelude.{is_some, length, map, slice_get}
use Rattle.std.specs.List.{list_all}
use Rattle.pc_types.specs.declared.parsed.CoreEntity.{CoreEntity}
use Rattle.pc_types.specs.declared.parsed.CoreEntity.TheVariants as core
use Rattle.pc_types.specs.declared.parsed.CoreFuncSig.{CoreFuncSig}
use Rattle.pc_types.specs.declared.parsed.DeclType.{DeclType}
use Rattle.pc_types.specs.declared.parsed.DeclType.TheVariants as entry
use Rattle.pc_types.specs.declared.parsed.TypeTable.{TypeTable}
use Rattle.pc_types.specs.declared.parsed.ValType.{ValType}
use Rattle.pc_types.specs.declared.parsed.ValType.TheVariants as val
use Rattle.pc_types.specs.declared.type_index.TypeFuncIndex.{TypeFuncIndex}
use Rattle.pc_types.specs.declared.types.TypeDef.{TypeDef}
use Rattle.pc_types.specs.declared.types.TypeDef.TheVariants as def
use Rattle.pc_types.specs.declared.types.TypeKind.{TypeKind}
use Rattle.pc_types.specs.declared.types.TypeKind.TheVariants as kind
use Rattle.pc_types.specs.Table.{is_none_or}
use Rattle.pc_types_lists.specs.Types.{Types}
use Rattle.pc_types_lists.specs.Added.{AddsOnly, numbered_type}
use Rattle.pc_types_lists.specs.Interned.{IsPut}
use Rattle.pc_types_lists.specs.Primitive.{plain_type}
use Rattle.pc_types_convert.specs.Parts.{IsErrorContext}
use Rattle.pc_types_convert.specs.Entries.{EntryIs, FuncIs, ModuleIs, ParamsAre, ResultsAre}

-- whether a value type is anything but an error context
abbrev pub no_context_in_val : ValType → Bool
no_context_in_val (val.Prim p) = is_some (plain_type p)
no_context_in_val (val.Type_ n) = true

-- the same of one that may be left out
abbrev pub no_context_in_maybe : Option ValType → Bool
no_context_in_maybe v = is_none_or no_context_in_val v

-- the same of a field or a parameter
abbrev pub no_context_in_field : List ℕ × ValType → Bool
no_context_in_field f = no_context_in_val f.1

-- the same of a case
abbrev pub no_context_in_case : List ℕ × Option ValType → Bool
no_context_in_case c = no_context_in_maybe c.1

-- whether no part of an entry is an error context
abbrev pub no_context_in : DeclType → Bool
no_context_in entry.Resource = true
no_context_in (entry.Func params result is_async) = list_all no_context_in_field params && no_context_in_maybe result
no_context_in (entry.Val v) = no_context_in_val v
no_context_in (entry.Record fields) = list_all no_context_in_field fields
no_context_in (entry.Variant cases) = list_all no_context_in_case cases
no_context_in (entry.List v) = no_context_in_val v
no_context_in (entry.Tuple vs) = list_all no_context_in_val vs
no_context_in (entry.Flags names) = true
no_context_in (entry.Enum names) = true
no_context_in (entry.Option v) = no_context_in_val v
no_context_in (entry.Result ok err) = no_context_in_maybe ok && no_context_in_maybe err
no_context_in (entry.Own n) = true
no_context_in (entry.Borrow n) = true
no_context_in (entry.Stream v) = no_context_in_maybe v
no_context_in (entry.Future v) = no_context_in_maybe v
no_context_in (entry.Instance exports) = true
no_context_in (entry.Component imports exports) = true
no_context_in (entry.Module imports exports) = true

-- nothing is added but the error contexts of the current instance, and nothing at all where none are named
pub record AddsContexts (none_named : Bool) (old new : Types) : Type 0 where
  pub rest : new ≡ record old { error_context_tables = new.error_context_tables }
  pub put : IsPut old.error_context_tables new.error_context_tables (record { instance = old.resources.current })
  pub same : none_named ≡ true → new ≡ old

-- number `i` of a kind is that of a type with P, of a tuple with T, of a signature with S, or of the current instance's
-- error contexts, where they are asked for
pub data IsOneOf (b : Types) (asked : Type 0) (P : TypeDef → Type 0) (T S : ℕ → Type 0) (k : TypeKind) (i : ℕ)
    : Type 0 where
  one_type : (d : TypeDef) → numbered_type k i ≡ Some d → P d → IsOneOf b asked P T S k i
  one_tuple : k ≡ kind.Tuple → T i → IsOneOf b asked P T S k i
  one_signature : k ≡ kind.Signature → S i → IsOneOf b asked P T S k i
  one_context : k ≡ kind.ErrorContextTable → asked → IsErrorContext b (record { 0 = i }) → IsOneOf b asked P T S k i

-- no type is added but one with P, and error contexts where they are asked for
pub record AddsType (asked : Type 0) (P : TypeDef → Type 0) (old new : Types) : Type 0 where
  pub only : AddsOnly (IsOneOf new asked P (λ i. ⊥) (λ i. ⊥)) old new

-- no type is added but a tuple with T, and error contexts where they are asked for
pub record AddsTuple (asked : Type 0) (T : ℕ → Type 0) (old new : Types) : Type 0 where
  pub only : AddsOnly (IsOneOf new asked (λ d. ⊥) T (λ i. ⊥)) old new

-- the number is that of the tuple of a function's parameters, or of what it returns
abbrev pub IsTupleOf : Types → List (Option TypeDef) → DeclType → ℕ → Type 0
IsTupleOf b done (entry.Func params result is_async) i =
    ParamsAre b done params (record { 0 = i }) ⊎ ResultsAre b done result (record { 0 = i })
IsTupleOf b done e i = ⊥

-- no type is added but a function type, its two tuples, and error contexts where they are named
pub record AddsFunc (done : List (Option TypeDef)) (params : List (List ℕ × ValType)) (returns : Option ValType)
    (is_async : Bool) (old new : Types) : Type 0 where
  pub only : AddsOnly (IsOneOf new ((list_all no_context_in_field params && no_context_in_maybe returns) ≡ false)
      (λ d. (i : TypeFuncIndex) × (d ≡ def.ComponentFunc i) × FuncIs new done params returns is_async i)
      (λ i. ParamsAre new done params (record { 0 = i }) ⊎ ResultsAre new done returns (record { 0 = i })) (λ i. ⊥))
      old new

-- the core entities of a module type
abbrev pub core_entities : List (List ℕ × List ℕ × CoreEntity) → List (List ℕ × CoreEntity) → List CoreEntity
core_entities imports exports =
    map (λ (i : List ℕ × List ℕ × CoreEntity). i.2) imports ++ map (λ (e : List ℕ × CoreEntity). e.1) exports

-- the signature is that of a function among these entities
abbrev pub IsNamedBy : TypeTable → List CoreEntity → CoreFuncSig → Type 0
IsNamedBy t es s = (j : ℕ) × Contains es (core.Func j) × (slice_get t.core_funcs j ≡ Some s)

-- only signatures of functions among these entities are added
pub record AddsSignatures (t : TypeTable) (es : List CoreEntity) (old new : Types) : Type 0 where
  pub rest : new ≡ record old { signatures = new.signatures }
  pub only : (i : ℕ) → length old.signatures ≤ i → i < length new.signatures
      → (s : CoreFuncSig) × (slice_get new.signatures i ≡ Some s) × IsNamedBy t es s

-- no type is added but a module type, and the signatures of its functions
pub record AddsModule (t : TypeTable) (imports : List (List ℕ × List ℕ × CoreEntity))
    (exports : List (List ℕ × CoreEntity)) (old new : Types) : Type 0 where
  pub only : AddsOnly (IsOneOf new ⊥ (ModuleIs new t imports exports) (λ i. ⊥)
      (λ i. (s : CoreFuncSig) × (slice_get new.signatures i ≡ Some s)
      × IsNamedBy t (core_entities imports exports) s)) old new

-- the number is that of the signature of a function of a module type
abbrev pub IsSignatureOf : Types → TypeTable → DeclType → ℕ → Type 0
IsSignatureOf b t (entry.Module imports exports) i =
    (s : CoreFuncSig) × (slice_get b.signatures i ≡ Some s) × IsNamedBy t (core_entities imports exports) s
IsSignatureOf b t e i = ⊥

-- nothing is added but what entry `n` needs beside what it names
pub record AddsEntry (done : List (Option TypeDef)) (t : TypeTable) (n : ℕ) (e : DeclType) (old new : Types)
    : Type 0 where
  pub only : AddsOnly (IsOneOf new (no_context_in e ≡ false) (EntryIs new done t n e) (IsTupleOf new done e)
      (IsSignatureOf new t e)) old new
