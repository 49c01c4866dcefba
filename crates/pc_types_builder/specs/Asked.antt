-- What a conversion adds: what the entries need that are reached from the one that is asked for.
use Rattle.std.specs.Prelude.{◌≡◌, ◌⊎◌, ℕ, Bool, false, List, [], ◌∷◌, Option, None, Some}
use Rattle.std.specs.Prelude.{is_some, slice_get}
use Rattle.std.specs.List.{AllZip}
use Rattle.pc_types.specs.declared.parsed.CoreEntity.{CoreEntity}
use Rattle.pc_types.specs.declared.parsed.CoreFuncSig.{CoreFuncSig}
use Rattle.pc_types.specs.declared.parsed.DeclType.{DeclType}
use Rattle.pc_types.specs.declared.parsed.DeclType.TheVariants as entry
use Rattle.pc_types.specs.declared.parsed.TypeTable.{TypeTable}
use Rattle.pc_types.specs.declared.parsed.ValType.{ValType}
use Rattle.pc_types.specs.declared.parsed.ValType.TheVariants as val
use Rattle.pc_types.specs.declared.types.InterfaceType.{InterfaceType}
use Rattle.pc_types.specs.declared.types.TypeDef.{TypeDef}
use Rattle.pc_types.specs.declared.types.TypeTuple.{TypeTuple}
use Rattle.pc_types_lists.specs.Types.{Types}
use Rattle.pc_types_lists.specs.Added.{AddsOnly}
use Rattle.pc_types_lists.specs.Primitive.{plain_type}
use Rattle.pc_types_convert.specs.Adds.{AddsContexts, IsNamedBy, IsOneOf, core_entities, no_context_in}
use Rattle.pc_types_convert.specs.Needed.{IsAmong, parts_of}
use Rattle.pc_types_builder.specs.Trees.{IsEntry, IsValue}

-- an entry is reached from entry `n`: it is that entry, or one that a reached entry names
pub data IsReached (t : TypeTable) (n : ℕ) : ℕ → Type 0 where
  asked : IsReached t n n
  named : (k m : ℕ) (e : DeclType) → IsReached t n k → slice_get t.types k ≡ Some e → IsAmong m (parts_of e)
      → IsReached t n m

-- a reached entry names error contexts
abbrev pub AsksContexts : TypeTable → ℕ → Type 0
AsksContexts t n =
    (m : ℕ) × (e : DeclType) × IsReached t n m × (slice_get t.types m ≡ Some e) × (no_context_in e ≡ false)

-- the type is that of a reached entry
abbrev pub IsReachedType : Types → TypeTable → ℕ → TypeDef → Type 0
IsReachedType b t n d = (m : ℕ) × IsReached t n m × IsEntry b t m d

-- the tuple has the types of parameters
abbrev pub HasParams : Types → TypeTable → List (List ℕ × ValType) → ℕ → Type 0
HasParams b t params i =
    (tuple : TypeTuple) × (slice_get b.tuples i ≡ Some tuple)
    × AllZip (λ (p : List ℕ × ValType) (w : InterfaceType). IsValue b t p.1 w) params tuple.types

-- the tuple has the type that is returned, if there is one
abbrev pub HasReturns : Types → TypeTable → Option ValType → ℕ → Type 0
HasReturns b t None i = slice_get b.tuples i ≡ Some (record { types = [] })
HasReturns b t (Some v) i =
    (w : InterfaceType) × (slice_get b.tuples i ≡ Some (record { types = w ∷ [] })) × IsValue b t v w

-- the tuple is that of the parameters of a reached function, or of what it returns
pub data IsReachedTuple (b : Types) (t : TypeTable) (n i : ℕ) : Type 0 where
  of_func : (m : ℕ) (params : List (List ℕ × ValType)) (returns : Option ValType) (is_async : Bool) → IsReached t n m
      → slice_get t.types m ≡ Some (entry.Func params returns is_async)
      → HasParams b t params i ⊎ HasReturns b t returns i → IsReachedTuple b t n i

-- the signature is that of a function of a reached module type
pub data IsReachedSignature (b : Types) (t : TypeTable) (n i : ℕ) : Type 0 where
  of_module : (m : ℕ) (imports : List (List ℕ × List ℕ × CoreEntity)) (exports : List (List ℕ × CoreEntity))
      → IsReached t n m → slice_get t.types m ≡ Some (entry.Module imports exports) → (s : CoreFuncSig)
      → slice_get b.signatures i ≡ Some s → IsNamedBy t (core_entities imports exports) s → IsReachedSignature b t n i

-- only what the entries need is added that are reached from entry `n`: their types, the tuples of their functions, the
-- signatures of their modules, and the error contexts of the current component instance where they name them
pub record AddsAsked (t : TypeTable) (n : ℕ) (old new : Types) : Type 0 where
  pub only : AddsOnly (IsOneOf new (AsksContexts t n) (IsReachedType new t n) (IsReachedTuple new t n)
      (IsReachedSignature new t n)) old new

-- the same where a value type is asked for
abbrev pub AddsValue : TypeTable → ValType → (old new : Types) → Type 0
AddsValue t (val.Prim p) old new = AddsContexts (is_some (plain_type p)) old new
AddsValue t (val.Type_ n) old new = AddsAsked t n old new
