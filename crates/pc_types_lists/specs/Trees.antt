-- What a number stands for: the type tree that comes of replacing each number by what its list holds,
-- where `who` says which resource a resource number is.
use Rattle.std.specs.Prelude.{◌≡◌, ℕ, List, [], ◌∷◌, Option, None, Some, slice_get}
use Rattle.std.specs.List.{AllZip}
use Rattle.pc_numbers.specs.declared.runtime.ResourceIndex.{ResourceIndex}
use Rattle.pc_types.specs.declared.parsed.CoreEntity.{CoreEntity}
use Rattle.pc_types.specs.declared.parsed.CoreEntity.TheVariants as core
use Rattle.pc_types.specs.declared.type_index.TypeComponentIndex.{TypeComponentIndex}
use Rattle.pc_types.specs.declared.type_index.TypeComponentInstanceIndex.{TypeComponentInstanceIndex}
use Rattle.pc_types.specs.declared.type_index.TypeComponentLocalErrorContextTableIndex.{TypeComponentLocalErrorContextTableIndex}
use Rattle.pc_types.specs.declared.type_index.TypeEnumIndex.{TypeEnumIndex}
use Rattle.pc_types.specs.declared.type_index.TypeFlagsIndex.{TypeFlagsIndex}
use Rattle.pc_types.specs.declared.type_index.TypeFuncIndex.{TypeFuncIndex}
use Rattle.pc_types.specs.declared.type_index.TypeFutureTableIndex.{TypeFutureTableIndex}
use Rattle.pc_types.specs.declared.type_index.TypeListIndex.{TypeListIndex}
use Rattle.pc_types.specs.declared.type_index.TypeModuleIndex.{TypeModuleIndex}
use Rattle.pc_types.specs.declared.type_index.TypeOptionIndex.{TypeOptionIndex}
use Rattle.pc_types.specs.declared.type_index.TypeRecordIndex.{TypeRecordIndex}
use Rattle.pc_types.specs.declared.type_index.TypeResourceTableIndex.{TypeResourceTableIndex}
use Rattle.pc_types.specs.declared.type_index.TypeResultIndex.{TypeResultIndex}
use Rattle.pc_types.specs.declared.type_index.TypeStreamTableIndex.{TypeStreamTableIndex}
use Rattle.pc_types.specs.declared.type_index.TypeTupleIndex.{TypeTupleIndex}
use Rattle.pc_types.specs.declared.type_index.TypeVariantIndex.{TypeVariantIndex}
use Rattle.pc_types.specs.declared.types.InterfaceType.{InterfaceType}
use Rattle.pc_types.specs.declared.types.InterfaceType.TheVariants as ty
use Rattle.pc_types.specs.declared.types.TypeComponent.{TypeComponent}
use Rattle.pc_types.specs.declared.types.TypeComponentInstance.{TypeComponentInstance}
use Rattle.pc_types.specs.declared.types.TypeDef.{TypeDef}
use Rattle.pc_types.specs.declared.types.TypeDef.TheVariants as def
use Rattle.pc_types.specs.declared.types.TypeFunc.{TypeFunc}
use Rattle.pc_types.specs.declared.types.TypeFutureTable.{TypeFutureTable}
use Rattle.pc_types.specs.declared.types.TypeList.{TypeList}
use Rattle.pc_types.specs.declared.types.TypeModule.{TypeModule}
use Rattle.pc_types.specs.declared.types.TypeOption.{TypeOption}
use Rattle.pc_types.specs.declared.types.TypeRecord.{TypeRecord}
use Rattle.pc_types.specs.declared.types.TypeResourceTable.{TypeResourceTable}
use Rattle.pc_types.specs.declared.types.TypeResourceTable.TheVariants as handles
use Rattle.pc_types.specs.declared.types.TypeResult.{TypeResult}
use Rattle.pc_types.specs.declared.types.TypeStreamTable.{TypeStreamTable}
use Rattle.pc_types.specs.declared.types.TypeTuple.{TypeTuple}
use Rattle.pc_types.specs.declared.types.TypeVariant.{TypeVariant}
use Rattle.pc_types.specs.TypeTree.{Identity, Resource, CoreTree, TypeTree, Fields, Cases, Trees, MaybeTree, concrete}
use Rattle.pc_types.specs.TypeTree.{abstract, core_func, core_table, core_memory, core_global, core_tag, primitive}
use Rattle.pc_types.specs.TypeTree.{error_context, record_of, variant_of, list_of, tuple_of, flags_of, enum_of}
use Rattle.pc_types.specs.TypeTree.{option_of, result_of, own_of, borrow_of, stream_of, future_of, func_of, instance_of}
use Rattle.pc_types.specs.TypeTree.{component_of, module_of, resource_of, no_fields, and_field, no_cases, and_case}
use Rattle.pc_types.specs.TypeTree.{no_trees, and_tree, no_tree, a_tree}
use Rattle.pc_types_lists.specs.Types.{Types}
use Rattle.pc_types_lists.specs.Primitive.{plain_type}

module _ (b : Types) (who : ResourceIndex → Identity) where
  -- the handles are those of the resource
  abbrev pub AreHandlesOf : TypeResourceTable → Resource → Type 0
  AreHandlesOf (handles.Concrete r c) (concrete identity instance) = (who r ≡ identity) × (c.0 ≡ instance)
  AreHandlesOf (handles.Concrete r c) (abstract n) = ⊥
  AreHandlesOf (handles.Abstract m) (concrete identity instance) = ⊥
  AreHandlesOf (handles.Abstract m) (abstract n) = m ≡ n

  -- the number is that of the resource's handles
  abbrev pub NumbersHandlesOf : TypeResourceTableIndex → Resource → Type 0
  NumbersHandlesOf i r = (h : TypeResourceTable) × (slice_get b.resource_tables i.0 ≡ Some h) × AreHandlesOf h r

  -- the core entity has its signature under its number
  abbrev pub CoreHasTree : CoreEntity → CoreTree → Type 0
  CoreHasTree e (core_func signature) = (s : ℕ) × (e ≡ core.Func s) × (slice_get b.signatures s ≡ Some signature)
  CoreHasTree e core_table = e ≡ core.Table
  CoreHasTree e (core_memory is_wide) = e ≡ core.Memory is_wide
  CoreHasTree e core_global = e ≡ core.Global
  CoreHasTree e core_tag = e ≡ core.Tag

  -- the same of a module's import, with its names
  abbrev pub ImportHasTree : List ℕ × List ℕ × CoreEntity → List ℕ × List ℕ × CoreTree → Type 0
  ImportHasTree i j = (i.0 ≡ j.0) × (i.1 ≡ j.1) × CoreHasTree i.2 j.2

  -- the same of a module's export, with its name
  abbrev pub ExportHasTree : List ℕ × CoreEntity → List ℕ × CoreTree → Type 0
  ExportHasTree e f = (e.0 ≡ f.0) × CoreHasTree e.1 f.1

  abbrev mutual
    -- the type has this tree
    pub HasTree : TypeDef → TypeTree → Type 0
    HasTree d (primitive p) = (w : InterfaceType) × (d ≡ def.Interface w) × (plain_type p ≡ Some w)
    HasTree d (error_context c) =
        (i : TypeComponentLocalErrorContextTableIndex) × (d ≡ def.Interface (ty.ErrorContext i))
        × (slice_get b.error_context_tables i.0 ≡ Some (record { instance = record { 0 = c } }))
    HasTree d (record_of fs) =
        (i : TypeRecordIndex) × (r : TypeRecord) × (d ≡ def.Interface (ty.Record i))
        × (slice_get b.records i.0 ≡ Some r) × FieldsHaveTrees r.fields fs
    HasTree d (variant_of cs) =
        (i : TypeVariantIndex) × (v : TypeVariant) × (d ≡ def.Interface (ty.Variant i))
        × (slice_get b.variants i.0 ≡ Some v) × CasesHaveTrees v.cases cs
    HasTree d (list_of t) =
        (i : TypeListIndex) × (l : TypeList) × (d ≡ def.Interface (ty.List i))
        × (slice_get b.lists i.0 ≡ Some l) × HasTree (def.Interface l.element) t
    HasTree d (tuple_of ts) =
        (i : TypeTupleIndex) × (t : TypeTuple) × (d ≡ def.Interface (ty.Tuple i))
        × (slice_get b.tuples i.0 ≡ Some t) × ValsHaveTrees t.types ts
    HasTree d (flags_of names) =
        (i : TypeFlagsIndex) × (d ≡ def.Interface (ty.Flags i))
        × (slice_get b.flags i.0 ≡ Some (record { names = names }))
    HasTree d (enum_of names) =
        (i : TypeEnumIndex) × (d ≡ def.Interface (ty.Enum i))
        × (slice_get b.enums i.0 ≡ Some (record { names = names }))
    HasTree d (option_of t) =
        (i : TypeOptionIndex) × (o : TypeOption) × (d ≡ def.Interface (ty.Option i))
        × (slice_get b.options i.0 ≡ Some o) × HasTree (def.Interface o.ty) t
    HasTree d (result_of ok err) =
        (i : TypeResultIndex) × (r : TypeResult) × (d ≡ def.Interface (ty.Result i))
        × (slice_get b.results i.0 ≡ Some r) × MaybeHasTree r.ok ok × MaybeHasTree r.err err
    HasTree d (own_of r) = (i : TypeResourceTableIndex) × (d ≡ def.Interface (ty.Own i)) × NumbersHandlesOf i r
    HasTree d (borrow_of r) = (i : TypeResourceTableIndex) × (d ≡ def.Interface (ty.Borrow i)) × NumbersHandlesOf i r
    HasTree d (stream_of t c) =
        (i : TypeStreamTableIndex) × (s : TypeStreamTable) × (d ≡ def.Interface (ty.Stream i))
        × (slice_get b.stream_tables i.0 ≡ Some s) × (s.instance.0 ≡ c) × MaybeHasTree s.payload t
    HasTree d (future_of t c) =
        (i : TypeFutureTableIndex) × (f : TypeFutureTable) × (d ≡ def.Interface (ty.Future i))
        × (slice_get b.future_tables i.0 ≡ Some f) × (f.instance.0 ≡ c) × MaybeHasTree f.payload t
    HasTree d (func_of params result is_async) =
        (i : TypeFuncIndex) × (f : TypeFunc) × (ps : TypeTuple) × (rs : TypeTuple) × (d ≡ def.ComponentFunc i)
        × (slice_get b.funcs i.0 ≡ Some f) × (slice_get b.tuples f.params.0 ≡ Some ps)
        × (slice_get b.tuples f.results.0 ≡ Some rs) × (f.async_ ≡ is_async)
        × ParamsHaveTrees f.param_names ps.types params × ResultsHaveTree rs.types result
    HasTree d (instance_of exports) =
        (i : TypeComponentInstanceIndex) × (n : TypeComponentInstance) × (d ≡ def.ComponentInstance i)
        × (slice_get b.instances i.0 ≡ Some n) × ExternsHaveTrees n.exports exports
    HasTree d (component_of imports exports) =
        (i : TypeComponentIndex) × (n : TypeComponent) × (d ≡ def.Component i)
        × (slice_get b.components i.0 ≡ Some n) × ExternsHaveTrees n.imports imports
        × ExternsHaveTrees n.exports exports
    HasTree d (module_of imports exports) =
        (i : TypeModuleIndex) × (m : TypeModule) × (d ≡ def.Module i)
        × (slice_get b.modules i.0 ≡ Some m) × AllZip ImportHasTree m.imports imports
        × AllZip ExportHasTree m.exports exports
    HasTree d (resource_of r) = (i : TypeResourceTableIndex) × (d ≡ def.Resource i) × NumbersHandlesOf i r

    -- the named value types have these names and trees, in order
    pub FieldsHaveTrees : List (List ℕ × InterfaceType) → Fields → Type 0
    FieldsHaveTrees fs no_fields = fs ≡ []
    FieldsHaveTrees fs (and_field name t ts) =
        (w : InterfaceType) × (rest : List (List ℕ × InterfaceType)) × (fs ≡ (name, w) ∷ rest)
        × HasTree (def.Interface w) t × FieldsHaveTrees rest ts

    -- the same where a name may stand without a type
    pub CasesHaveTrees : List (List ℕ × Option InterfaceType) → Cases → Type 0
    CasesHaveTrees cs no_cases = cs ≡ []
    CasesHaveTrees cs (and_case name t ts) =
        (w : Option InterfaceType) × (rest : List (List ℕ × Option InterfaceType)) × (cs ≡ (name, w) ∷ rest)
        × MaybeHasTree w t × CasesHaveTrees rest ts

    -- the same of value types without names
    pub ValsHaveTrees : List InterfaceType → Trees → Type 0
    ValsHaveTrees ws no_trees = ws ≡ []
    ValsHaveTrees ws (and_tree t ts) =
        (w : InterfaceType) × (rest : List InterfaceType) × (ws ≡ w ∷ rest) × HasTree (def.Interface w) t
        × ValsHaveTrees rest ts

    -- the same of what may be left out
    pub MaybeHasTree : Option InterfaceType → MaybeTree → Type 0
    MaybeHasTree w no_tree = w ≡ None
    MaybeHasTree w (a_tree t) = (v : InterfaceType) × (w ≡ Some v) × HasTree (def.Interface v) t

    -- the parameters have these names and trees, in order
    pub ParamsHaveTrees : List (List ℕ) → List InterfaceType → Fields → Type 0
    ParamsHaveTrees names ws no_fields = (names ≡ []) × (ws ≡ [])
    ParamsHaveTrees names ws (and_field name t ts) =
        (w : InterfaceType) × (others : List (List ℕ)) × (rest : List InterfaceType) × (names ≡ name ∷ others)
        × (ws ≡ w ∷ rest) × HasTree (def.Interface w) t × ParamsHaveTrees others rest ts

    -- none is returned, or one of this tree
    pub ResultsHaveTree : List InterfaceType → MaybeTree → Type 0
    ResultsHaveTree ws no_tree = ws ≡ []
    ResultsHaveTree ws (a_tree t) = (w : InterfaceType) × (ws ≡ w ∷ []) × HasTree (def.Interface w) t

    -- the named types have these names and trees, in order
    pub ExternsHaveTrees : List (List ℕ × TypeDef) → Fields → Type 0
    ExternsHaveTrees es no_fields = es ≡ []
    ExternsHaveTrees es (and_field name t ts) =
        (d : TypeDef) × (rest : List (List ℕ × TypeDef)) × (es ≡ (name, d) ∷ rest) × HasTree d t
        × ExternsHaveTrees rest ts
