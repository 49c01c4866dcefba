-- What the entries of a table are in the builder, where `done` has the types of earlier entries by number.
use Rattle.std.specs.Prelude.{◌≡◌, ℕ, Bool, List, [], ◌∷◌, Option, None, Some, slice_get}
use Rattle.std.specs.List.{AllZip}
use Rattle.pc_numbers.specs.declared.runtime.ResourceIndex.{ResourceIndex}
use Rattle.pc_types.specs.declared.parsed.CoreEntity.{CoreEntity}
use Rattle.pc_types.specs.declared.parsed.CoreEntity.TheVariants as core
use Rattle.pc_types.specs.declared.parsed.CoreFuncSig.{CoreFuncSig}
use Rattle.pc_types.specs.declared.parsed.DeclType.{DeclType}
use Rattle.pc_types.specs.declared.parsed.DeclType.TheVariants as entry
use Rattle.pc_types.specs.declared.parsed.Entity.{Entity}
use Rattle.pc_types.specs.declared.parsed.TypeTable.{TypeTable}
use Rattle.pc_types.specs.declared.parsed.ValType.{ValType}
use Rattle.pc_types.specs.declared.type_index.TypeComponentIndex.{TypeComponentIndex}
use Rattle.pc_types.specs.declared.type_index.TypeComponentInstanceIndex.{TypeComponentInstanceIndex}
use Rattle.pc_types.specs.declared.type_index.TypeEnumIndex.{TypeEnumIndex}
use Rattle.pc_types.specs.declared.type_index.TypeFlagsIndex.{TypeFlagsIndex}
use Rattle.pc_types.specs.declared.type_index.TypeFuncIndex.{TypeFuncIndex}
use Rattle.pc_types.specs.declared.type_index.TypeFutureTableIndex.{TypeFutureTableIndex}
use Rattle.pc_types.specs.declared.type_index.TypeListIndex.{TypeListIndex}
use Rattle.pc_types.specs.declared.type_index.TypeModuleIndex.{TypeModuleIndex}
use Rattle.pc_types.specs.declared.type_index.TypeOptionIndex.{TypeOptionIndex}
use Rattle.pc_types.specs.declared.type_index.TypeRecordIndex.{TypeRecordIndex}
use Rattle.pc_types.specs.declared.type_index.TypeResourceTableIndex.{TypeResourceTableIndex}
use Rattle.pc_types.specs.declared.type_index.TypeResultIndex.{TypeResultIndex}
use Rattle.pc_types.specs.declared.type_index.TypeStreamTableIndex.{TypeStreamTableIndex}
use Rattle.pc_types.specs.declared.type_index.TypeTupleIndex.{TypeTupleIndex}
use Rattle.pc_types.specs.declared.type_index.TypeVariantIndex.{TypeVariantIndex}
use Rattle.pc_types.specs.declared.types.InterfaceType.{InterfaceType}
use Rattle.pc_types.specs.declared.types.InterfaceType.TheVariants as ty
use Rattle.pc_types.specs.declared.types.TypeComponent.{TypeComponent}
use Rattle.pc_types.specs.declared.types.TypeComponentInstance.{TypeComponentInstance}
use Rattle.pc_types.specs.declared.types.TypeDef.{TypeDef}
use Rattle.pc_types.specs.declared.types.TypeDef.TheVariants as def
use Rattle.pc_types.specs.declared.types.TypeFunc.{TypeFunc}
use Rattle.pc_types.specs.declared.types.TypeFutureTable.{TypeFutureTable}
use Rattle.pc_types.specs.declared.types.TypeList.{TypeList}
use Rattle.pc_types.specs.declared.types.TypeModule.{TypeModule}
use Rattle.pc_types.specs.declared.types.TypeOption.{TypeOption}
use Rattle.pc_types.specs.declared.types.TypeRecord.{TypeRecord}
use Rattle.pc_types.specs.declared.types.TypeResourceTable.{TypeResourceTable}
use Rattle.pc_types.specs.declared.types.TypeResourceTable.TheVariants as handles
use Rattle.pc_types.specs.declared.types.TypeResult.{TypeResult}
use Rattle.pc_types.specs.declared.types.TypeStreamTable.{TypeStreamTable}
use Rattle.pc_types.specs.declared.types.TypeTuple.{TypeTuple}
use Rattle.pc_types.specs.declared.types.TypeVariant.{TypeVariant}
use Rattle.pc_entity.specs.Lists.{names_of}
use Rattle.pc_types_lists.specs.Types.{Types, Resources}
use Rattle.pc_types_lists.specs.Known.{resource_of}
use Rattle.pc_types_convert.specs.Parts.{ValIs, MaybeIs, FieldIs, CaseIs, ExternIs}

-- the handles of a resource in the current component instance, or those of one that isn't known
abbrev pub handles_from : Resources → ℕ → Option ResourceIndex → TypeResourceTable
handles_from k n (Some r) = handles.Concrete r k.current
handles_from k n None = handles.Abstract n

-- the handles of the resource of a table number
abbrev pub handles_of : Resources → ℕ → TypeResourceTable
handles_of k n = handles_from k n (resource_of k.known n)

module _ (b : Types) (done : List (Option TypeDef)) where
  -- the type that is returned, or none
  abbrev pub ReturnsAre : Option ValType → List InterfaceType → Type 0
  ReturnsAre None ws = ws ≡ []
  ReturnsAre (Some v) ws = (w : InterfaceType) × (ws ≡ w ∷ []) × ValIs b done v w

  -- the number is that of the tuple of the parameters
  abbrev pub ParamsAre : List (List ℕ × ValType) → TypeTupleIndex → Type 0
  ParamsAre params i =
      (ps : TypeTuple) × (slice_get b.tuples i.0 ≡ Some ps)
      × AllZip (λ (p : List ℕ × ValType) (w : InterfaceType). ValIs b done p.1 w) params ps.types

  -- the number is that of the tuple of what is returned
  abbrev pub ResultsAre : Option ValType → TypeTupleIndex → Type 0
  ResultsAre returns i = (rs : TypeTuple) × (slice_get b.tuples i.0 ≡ Some rs) × ReturnsAre returns rs.types

  -- the number is that of a function type with these parameters and results
  abbrev pub FuncIs : List (List ℕ × ValType) → Option ValType → Bool → TypeFuncIndex → Type 0
  FuncIs params returns is_async i =
      (f : TypeFunc) × (ps : TypeTuple) × (rs : TypeTuple)
      × (slice_get b.funcs i.0 ≡ Some f)
      × (slice_get b.tuples f.params.0 ≡ Some ps)
      × (slice_get b.tuples f.results.0 ≡ Some rs)
      × (f.param_names ≡ names_of params)
      × (f.async_ ≡ is_async)
      × AllZip (λ (p : List ℕ × ValType) (w : InterfaceType). ValIs b done p.1 w) params ps.types
      × ReturnsAre returns rs.types

  -- the type is the value type that the table has there
  abbrev pub DefinedIs : ValType → TypeDef → Type 0
  DefinedIs v d = (w : InterfaceType) × (d ≡ def.Interface w) × ValIs b done v w

  -- the type is a record with these fields
  abbrev pub RecordIs : List (List ℕ × ValType) → TypeDef → Type 0
  RecordIs fields d =
      (i : TypeRecordIndex) × (r : TypeRecord) × (d ≡ def.Interface (ty.Record i)) × (slice_get b.records i.0 ≡ Some r)
      × AllZip (FieldIs b done) fields r.fields

  -- the type is a variant with these cases
  abbrev pub VariantIs : List (List ℕ × Option ValType) → TypeDef → Type 0
  VariantIs cases d =
      (i : TypeVariantIndex) × (v : TypeVariant) × (d ≡ def.Interface (ty.Variant i))
      × (slice_get b.variants i.0 ≡ Some v)
      × AllZip (CaseIs b done) cases v.cases

  -- the type is a list of this element
  abbrev pub ListIs : ValType → TypeDef → Type 0
  ListIs v d =
      (i : TypeListIndex) × (l : TypeList) × (d ≡ def.Interface (ty.List i)) × (slice_get b.lists i.0 ≡ Some l)
      × ValIs b done v l.element

  -- the type is a tuple of these
  abbrev pub TupleIs : List ValType → TypeDef → Type 0
  TupleIs vs d =
      (i : TypeTupleIndex) × (t : TypeTuple) × (d ≡ def.Interface (ty.Tuple i)) × (slice_get b.tuples i.0 ≡ Some t)
      × AllZip (ValIs b done) vs t.types

  -- the type is an option of this
  abbrev pub OptionIs : ValType → TypeDef → Type 0
  OptionIs v d =
      (i : TypeOptionIndex) × (o : TypeOption) × (d ≡ def.Interface (ty.Option i)) × (slice_get b.options i.0 ≡ Some o)
      × ValIs b done v o.ty

  -- the type is a result with these two, each of which may be left out
  abbrev pub ResultIs : (ok err : Option ValType) → TypeDef → Type 0
  ResultIs ok err d =
      (i : TypeResultIndex) × (r : TypeResult) × (d ≡ def.Interface (ty.Result i)) × (slice_get b.results i.0 ≡ Some r)
      × MaybeIs b done ok r.ok × MaybeIs b done err r.err

  -- the type is a stream of this, if of anything, in the current component instance
  abbrev pub StreamIs : Option ValType → TypeDef → Type 0
  StreamIs v d =
      (i : TypeStreamTableIndex) × (s : TypeStreamTable) × (d ≡ def.Interface (ty.Stream i))
      × (slice_get b.stream_tables i.0 ≡ Some s) × (s.instance ≡ b.resources.current) × MaybeIs b done v s.payload

  -- the type is a future of this, if of anything, in the current component instance
  abbrev pub FutureIs : Option ValType → TypeDef → Type 0
  FutureIs v d =
      (i : TypeFutureTableIndex) × (f : TypeFutureTable) × (d ≡ def.Interface (ty.Future i))
      × (slice_get b.future_tables i.0 ≡ Some f) × (f.instance ≡ b.resources.current) × MaybeIs b done v f.payload

  -- the type is an instance type with these exports
  abbrev pub InstanceIs : List (List ℕ × Entity) → TypeDef → Type 0
  InstanceIs exports d =
      (i : TypeComponentInstanceIndex) × (n : TypeComponentInstance) × (d ≡ def.ComponentInstance i)
      × (slice_get b.instances i.0 ≡ Some n) × AllZip (ExternIs done) exports n.exports

  -- the type is a component type with these imports and exports
  abbrev pub ComponentIs : (imports exports : List (List ℕ × Entity)) → TypeDef → Type 0
  ComponentIs imports exports d =
      (i : TypeComponentIndex) × (n : TypeComponent) × (d ≡ def.Component i) × (slice_get b.components i.0 ≡ Some n)
      × AllZip (ExternIs done) imports n.imports × AllZip (ExternIs done) exports n.exports

-- the type has these flags
abbrev pub FlagsAre : Types → List (List ℕ) → TypeDef → Type 0
FlagsAre b names d =
    (i : TypeFlagsIndex) × (d ≡ def.Interface (ty.Flags i)) × (slice_get b.flags i.0 ≡ Some (record { names = names }))

-- the type is one of these cases
abbrev pub EnumIs : Types → List (List ℕ) → TypeDef → Type 0
EnumIs b names d =
    (i : TypeEnumIndex) × (d ≡ def.Interface (ty.Enum i)) × (slice_get b.enums i.0 ≡ Some (record { names = names }))

-- the type has the handles of a done resource
abbrev pub OwnIs : List (Option TypeDef) → ℕ → TypeDef → Type 0
OwnIs done n d =
    (i : TypeResourceTableIndex) × (d ≡ def.Interface (ty.Own i)) × (slice_get done n ≡ Some (Some (def.Resource i)))

-- the same, borrowed
abbrev pub BorrowIs : List (Option TypeDef) → ℕ → TypeDef → Type 0
BorrowIs done n d =
    (i : TypeResourceTableIndex) × (d ≡ def.Interface (ty.Borrow i)) × (slice_get done n ≡ Some (Some (def.Resource i)))

-- the type has the handles of the resource of a table number
abbrev pub ResourceIs : Types → ℕ → TypeDef → Type 0
ResourceIs b n d =
    (i : TypeResourceTableIndex) × (d ≡ def.Resource i)
    × (slice_get b.resource_tables i.0 ≡ Some (handles_of b.resources n))

-- the core entity is that of the table, with its signature under a number of the builder
abbrev pub CoreIs : Types → TypeTable → CoreEntity → CoreEntity → Type 0
CoreIs b t (core.Func s) e =
    (i : ℕ) × (signature : CoreFuncSig) × (e ≡ core.Func i) × (slice_get t.core_funcs s ≡ Some signature)
    × (slice_get b.signatures i ≡ Some signature)
CoreIs b t core.Table e = e ≡ core.Table
CoreIs b t (core.Memory is_wide) e = e ≡ core.Memory is_wide
CoreIs b t core.Global e = e ≡ core.Global
CoreIs b t core.Tag e = e ≡ core.Tag

-- the same of a module's import, with its names
abbrev pub ImportIs : Types → TypeTable → List ℕ × List ℕ × CoreEntity → List ℕ × List ℕ × CoreEntity → Type 0
ImportIs b t i j = (i.0 ≡ j.0) × (i.1 ≡ j.1) × CoreIs b t i.2 j.2

-- the same of a module's export, with its name
abbrev pub ExportIs : Types → TypeTable → List ℕ × CoreEntity → List ℕ × CoreEntity → Type 0
ExportIs b t e f = (e.0 ≡ f.0) × CoreIs b t e.1 f.1

-- the type is a module type with these imports and exports
abbrev pub ModuleIs : Types → TypeTable → List (List ℕ × List ℕ × CoreEntity) → List (List ℕ × CoreEntity) → TypeDef
    → Type 0
ModuleIs b t imports exports d =
    (i : TypeModuleIndex) × (m : TypeModule) × (d ≡ def.Module i) × (slice_get b.modules i.0 ≡ Some m)
    × AllZip (ImportIs b t) imports m.imports × AllZip (ExportIs b t) exports m.exports

-- the type is what entry `n` is, where the entries before it that it names are done
abbrev pub EntryIs : Types → List (Option TypeDef) → TypeTable → ℕ → DeclType → TypeDef → Type 0
EntryIs b done t n entry.Resource d = ResourceIs b n d
EntryIs b done t n (entry.Func params result is_async) d =
    (i : TypeFuncIndex) × (d ≡ def.ComponentFunc i) × FuncIs b done params result is_async i
EntryIs b done t n (entry.Val v) d = DefinedIs b done v d
EntryIs b done t n (entry.Record fields) d = RecordIs b done fields d
EntryIs b done t n (entry.Variant cases) d = VariantIs b done cases d
EntryIs b done t n (entry.List v) d = ListIs b done v d
EntryIs b done t n (entry.Tuple vs) d = TupleIs b done vs d
EntryIs b done t n (entry.Flags names) d = FlagsAre b names d
EntryIs b done t n (entry.Enum names) d = EnumIs b names d
EntryIs b done t n (entry.Option v) d = OptionIs b done v d
EntryIs b done t n (entry.Result ok err) d = ResultIs b done ok err d
EntryIs b done t n (entry.Own m) d = OwnIs done m d
EntryIs b done t n (entry.Borrow m) d = BorrowIs done m d
EntryIs b done t n (entry.Stream v) d = StreamIs b done v d
EntryIs b done t n (entry.Future v) d = FutureIs b done v d
EntryIs b done t n (entry.Instance exports) d = InstanceIs b done exports d
EntryIs b done t n (entry.Component imports exports) d = ComponentIs b done imports exports d
EntryIs b done t n (entry.Module imports exports) d = ModuleIs b t imports exports d
