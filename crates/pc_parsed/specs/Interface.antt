-- What the root may declare the unsafe intrinsics to be: an instance whose exports are functions of their names, each
-- with its parameters and its result.
use Rattle.std.specs.Prelude.{ℕ, Bool, true, false, List, [], ◌∷◌, ◌++◌, map, Option, Some, None, ◌&&◌, if◌then◌else◌}
use Rattle.std.specs.Prelude.{slice_get, option_and_then}
use Rattle.std.specs.List.{list_any, zip}
use Rattle.std.specs.Option.{option_or}
use Rattle.std.specs.Str.{bytes_eq}
use Rattle.pc_entity.specs.Lists.{value_of}
use Rattle.pc_types.specs.declared.parsed.DeclType.{DeclType}
use Rattle.pc_types.specs.declared.parsed.DeclType.TheVariants as entry
use Rattle.pc_types.specs.declared.parsed.Entity.{Entity}
use Rattle.pc_types.specs.declared.parsed.Entity.TheVariants as entity
use Rattle.pc_types.specs.declared.parsed.PrimType.{PrimType}
use Rattle.pc_types.specs.declared.parsed.PrimType.TheVariants.{U8, U16, U32, U64}
use Rattle.pc_types.specs.declared.parsed.TypeTable.{TypeTable}
use Rattle.pc_types.specs.declared.parsed.ValType.{ValType}
use Rattle.pc_types.specs.declared.parsed.ValType.TheVariants as val
use Rattle.pc_types.specs.declared.types.InterfaceType.{InterfaceType}
use Rattle.pc_types.specs.declared.types.InterfaceType.TheVariants as interface
use Rattle.pc_types.specs.Intrinsic.{intrinsic_names}
use Rattle.pc_types.specs.IntrinsicType.{IntrinsicType, interface_type, intrinsic_types}
use Rattle.pc_types.specs.Table.{is_resource, is_some_and}
use Rattle.pc_parsed.specs.declared.fault.StaticFault.{StaticFault}
use Rattle.pc_parsed.specs.declared.fault.StaticFault.TheVariants as fault

-- what the intrinsic of a name takes and answers, if it is one
abbrev pub type_of : (name : List ℕ) → Option IntrinsicType
type_of name = value_of name (zip intrinsic_names intrinsic_types)

-- Facts of the entries of a table, from those of the entries before; each entry names earlier ones alone.

-- the primitive that values of a type are, if they are one; `earlier` has those of the earlier entries
abbrev pub prim_of : (earlier : List (Option PrimType)) → ValType → Option PrimType
prim_of earlier (val.Prim p) = Some p
prim_of earlier (val.Type_ n) = option_and_then (λ p. p) (slice_get earlier n)

-- the primitive that an entry is: of the entries `Val` alone is one, where its value type is
abbrev pub entry_prim : (earlier : List (Option PrimType)) → DeclType → Option PrimType
entry_prim earlier (entry.Val v) = prim_of earlier v
entry_prim earlier _ = None

-- the primitives of the earlier entries and of those behind them
abbrev pub prims_from : (earlier : List (Option PrimType)) → List DeclType → List (Option PrimType)
prims_from earlier [] = earlier
prims_from earlier (e ∷ es) = prims_from (earlier ++ entry_prim earlier e ∷ []) es

-- whether a path of exports that begins with an entity ends at a resource; `earlier` tells it of the earlier entries
abbrev pub leads_to_resource : TypeTable → (earlier : List Bool) → Entity → Bool
leads_to_resource t earlier (entity.Type_ n) = is_some_and is_resource (slice_get t.types n)
leads_to_resource t earlier (entity.Instance n) = is_some_and (λ (b : Bool). b) (slice_get earlier n)
leads_to_resource t earlier _ = false

-- whether a path of an entry's exports ends at a resource
abbrev pub has_resource : TypeTable → (earlier : List Bool) → DeclType → Bool
has_resource t earlier (entry.Instance exports) =
    list_any (λ (e : List ℕ × Entity). leads_to_resource t earlier e.1) exports
has_resource t earlier _ = false

-- the same of the earlier entries and of those behind them
abbrev pub resources_from : TypeTable → (earlier : List Bool) → List DeclType → List Bool
resources_from t earlier [] = earlier
resources_from t earlier (e ∷ es) = resources_from t (earlier ++ has_resource t earlier e ∷ []) es

-- a primitive is one of the integers that intrinsics take and answer
abbrev pub same_integer : InterfaceType → PrimType → Bool
same_integer interface.U8 U8 = true
same_integer interface.U16 U16 = true
same_integer interface.U32 U32 = true
same_integer interface.U64 U64 = true
same_integer _ _ = false

-- values of a type are this integer; `prims` has the primitives of all entries
abbrev pub is_integer : (prims : List (Option PrimType)) → InterfaceType → ValType → Bool
is_integer prims i v = is_some_and (same_integer i) (prim_of prims v)

-- the parameters are these integers, one by one
abbrev pub are_params : (prims : List (Option PrimType)) → List InterfaceType → List (List ℕ × ValType) → Bool
are_params prims [] [] = true
are_params prims (i ∷ is) (x ∷ xs) = is_integer prims i x.1 && are_params prims is xs
are_params prims _ _ = false

-- the result is this integer, if there is one
abbrev pub is_answer : (prims : List (Option PrimType)) → List InterfaceType → Option ValType → Bool
is_answer prims [] None = true
is_answer prims (i ∷ []) (Some v) = is_integer prims i v
is_answer prims _ _ = false

-- what is wrong with a function of an intrinsic, which takes and answers these integers
abbrev pub types_fault : (prims : List (Option PrimType)) → (taken answered : List InterfaceType)
    → List (List ℕ × ValType) → Option ValType → Option StaticFault
types_fault prims taken answered params result =
    if are_params prims taken params && is_answer prims answered result then None else Some fault.BadIntrinsics

-- what is wrong with a function under the name of an intrinsic, of which this is the type
abbrev pub type_fault : (prims : List (Option PrimType)) → Option IntrinsicType → List (List ℕ × ValType)
    → Option ValType → Option StaticFault
type_fault prims None params result = Some fault.UnknownIntrinsic
type_fault prims (Some t) params result =
    types_fault prims (map interface_type t.params) (map interface_type t.results) params result

-- what is wrong with an entry as an export of the intrinsics: it is a function, of the name of one, with its type
abbrev pub function_fault : (prims : List (Option PrimType)) → (name : List ℕ) → Option DeclType → Option StaticFault
function_fault prims name (Some (entry.Func params result is_async)) =
    type_fault prims (type_of name) params result
function_fault prims name _ = Some fault.BadIntrinsics

-- what is wrong with an export of the intrinsics
abbrev pub intrinsic_fault : TypeTable → (prims : List (Option PrimType)) → List ℕ × Entity → Option StaticFault
intrinsic_fault t prims (name, entity.Func n) = function_fault prims name (slice_get t.types n)
intrinsic_fault t prims _ = Some fault.BadIntrinsics

-- what is wrong with the first export that is none of the intrinsics
abbrev pub intrinsics_fault : TypeTable → (prims : List (Option PrimType)) → List (List ℕ × Entity) → Option StaticFault
intrinsics_fault t prims [] = None
intrinsics_fault t prims (e ∷ es) = option_or (intrinsic_fault t prims e) (intrinsics_fault t prims es)

-- a resource comes first, and then what else is wrong
abbrev pub unless_resource : Bool → (later : Option StaticFault) → Option StaticFault
unless_resource true later = Some fault.BadIntrinsics
unless_resource false later = later

-- what is wrong with the exports of the intrinsics: resources at the end of a path come first, then each in its order
abbrev pub intrinsic_exports_fault : TypeTable → List (List ℕ × Entity) → Option StaticFault
intrinsic_exports_fault t exports =
    unless_resource (list_any (λ (e : List ℕ × Entity). leads_to_resource t (resources_from t [] t.types) e.1) exports)
    (intrinsics_fault t (prims_from [] t.types) exports)

-- what is wrong with an entry as the type of the intrinsics
abbrev pub instance_type_fault : TypeTable → Option DeclType → Option StaticFault
instance_type_fault t (Some (entry.Instance exports)) = intrinsic_exports_fault t exports
instance_type_fault t _ = Some fault.BadIntrinsics

-- what is wrong with what the import of the intrinsics declares
abbrev pub interface_fault : TypeTable → Entity → Option StaticFault
interface_fault t (entity.Instance n) = instance_type_fault t (slice_get t.types n)
interface_fault t _ = Some fault.BadIntrinsics

-- what is wrong with what an import declares, if it is that of the intrinsics
abbrev pub import_interface_fault : TypeTable → (exposed : Option (List ℕ)) → (name : List ℕ) → Entity
    → Option StaticFault
import_interface_fault t exposed name e = if is_some_and (bytes_eq name) exposed then interface_fault t e else None
