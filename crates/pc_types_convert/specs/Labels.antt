-- Types that have the labels of an entry: its names, as they stand there.
use Rattle.std.specs.Prelude.{◌≡◌, Some, slice_get}
use Rattle.pc_entity.specs.Lists.{names_of}
use Rattle.pc_types.specs.declared.parsed.DeclType.{DeclType}
use Rattle.pc_types.specs.declared.parsed.DeclType.TheVariants as entry
use Rattle.pc_types.specs.declared.type_index.TypeComponentIndex.{TypeComponentIndex}
use Rattle.pc_types.specs.declared.type_index.TypeComponentInstanceIndex.{TypeComponentInstanceIndex}
use Rattle.pc_types.specs.declared.type_index.TypeFuncIndex.{TypeFuncIndex}
use Rattle.pc_types.specs.declared.type_index.TypeRecordIndex.{TypeRecordIndex}
use Rattle.pc_types.specs.declared.type_index.TypeVariantIndex.{TypeVariantIndex}
use Rattle.pc_types.specs.declared.types.InterfaceType.TheVariants as ty
use Rattle.pc_types.specs.declared.types.TypeComponent.{TypeComponent}
use Rattle.pc_types.specs.declared.types.TypeComponentInstance.{TypeComponentInstance}
use Rattle.pc_types.specs.declared.types.TypeDef.{TypeDef}
use Rattle.pc_types.specs.declared.types.TypeDef.TheVariants as def
use Rattle.pc_types.specs.declared.types.TypeFunc.{TypeFunc}
use Rattle.pc_types.specs.declared.types.TypeRecord.{TypeRecord}
use Rattle.pc_types.specs.declared.types.TypeVariant.{TypeVariant}
use Rattle.pc_types_lists.specs.Types.{Types}

-- the type has the labels of an entry, if those of its kind have some
abbrev pub IsLike : Types → DeclType → TypeDef → Type 0
IsLike b (entry.Func params result is_async) d =
    (i : TypeFuncIndex) × (f : TypeFunc) × (d ≡ def.ComponentFunc i) × (slice_get b.funcs i.0 ≡ Some f)
    × (f.param_names ≡ names_of params)
IsLike b (entry.Record fields) d =
    (i : TypeRecordIndex) × (r : TypeRecord) × (d ≡ def.Interface (ty.Record i)) × (slice_get b.records i.0 ≡ Some r)
    × (names_of r.fields ≡ names_of fields)
IsLike b (entry.Variant cases) d =
    (i : TypeVariantIndex) × (v : TypeVariant) × (d ≡ def.Interface (ty.Variant i))
    × (slice_get b.variants i.0 ≡ Some v) × (names_of v.cases ≡ names_of cases)
IsLike b (entry.Instance exports) d =
    (i : TypeComponentInstanceIndex) × (n : TypeComponentInstance) × (d ≡ def.ComponentInstance i)
    × (slice_get b.instances i.0 ≡ Some n) × (names_of n.exports ≡ names_of exports)
IsLike b (entry.Component imports exports) d =
    (i : TypeComponentIndex) × (n : TypeComponent) × (d ≡ def.Component i) × (slice_get b.components i.0 ≡ Some n)
    × (names_of n.imports ≡ names_of imports) × (names_of n.exports ≡ names_of exports)
IsLike b e d = Unit {0}
