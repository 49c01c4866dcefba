-- A number has one tree.
use Rattle.std.proofs.Common.{◌≡◌, ℕ, Bool, true, List, [], ◌∷◌, length}
use Rattle.std.proofs.Common.{Option, None, Some, refl, sym, ap, ◌∙◌, subst, arith}
use Rattle.std.specs.Prelude.{slice_get}
use Rattle.std.specs.List.{AllZip}
use Rattle.std.proofs.lemmas.Option.{none-some, same_Some}
use Rattle.pc_numbers.specs.declared.runtime.ResourceIndex.{ResourceIndex}
use Rattle.pc_types.specs.declared.parsed.CoreEntity.{CoreEntity}
use Rattle.pc_types.specs.declared.parsed.CoreEntity.TheVariants as core
use Rattle.pc_types.specs.declared.parsed.PrimType.{PrimType}
use Rattle.pc_types.specs.declared.parsed.PrimType.TheVariants as prim
use Rattle.pc_types.specs.declared.types.InterfaceType.{InterfaceType}
use Rattle.pc_types.specs.declared.types.InterfaceType.TheVariants as ty
use Rattle.pc_types.specs.declared.types.TypeComponent.{TypeComponent}
use Rattle.pc_types.specs.declared.types.TypeComponentInstance.{TypeComponentInstance}
use Rattle.pc_types.specs.declared.types.TypeDef.{TypeDef}
use Rattle.pc_types.specs.declared.types.TypeDef.TheVariants as def
use Rattle.pc_types.specs.declared.types.TypeEnum.{TypeEnum}
use Rattle.pc_types.specs.declared.types.TypeErrorContextTable.{TypeErrorContextTable}
use Rattle.pc_types.specs.declared.types.TypeFlags.{TypeFlags}
use Rattle.pc_types.specs.declared.types.TypeFunc.{TypeFunc}
use Rattle.pc_types.specs.declared.types.TypeFutureTable.{TypeFutureTable}
use Rattle.pc_types.specs.declared.types.TypeList.{TypeList}
use Rattle.pc_types.specs.declared.types.TypeModule.{TypeModule}
use Rattle.pc_types.specs.declared.types.TypeOption.{TypeOption}
use Rattle.pc_types.specs.declared.types.TypeRecord.{TypeRecord}
use Rattle.pc_types.specs.declared.types.TypeResourceTable.{TypeResourceTable}
use Rattle.pc_types.specs.declared.types.TypeResourceTable.TheVariants as handles
use Rattle.pc_types.specs.declared.types.TypeResult.{TypeResult}
use Rattle.pc_types.specs.declared.types.TypeStreamTable.{TypeStreamTable}
use Rattle.pc_types.specs.declared.types.TypeTuple.{TypeTuple}
use Rattle.pc_types.specs.declared.types.TypeVariant.{TypeVariant}
use Rattle.pc_types.specs.TypeTree.{Identity, Resource, CoreTree, TypeTree, Fields, Cases, Trees, MaybeTree, concrete}
use Rattle.pc_types.specs.TypeTree.{abstract, core_func, core_table, core_memory, core_global, core_tag, primitive}
use Rattle.pc_types.specs.TypeTree.{error_context, record_of, variant_of, list_of, tuple_of, flags_of, enum_of}
use Rattle.pc_types.specs.TypeTree.{option_of, result_of, own_of, borrow_of, stream_of, future_of, func_of, instance_of}
use Rattle.pc_types.specs.TypeTree.{component_of, module_of, resource_of, no_fields, and_field, no_cases, and_case}
use Rattle.pc_types.specs.TypeTree.{no_trees, and_tree, no_tree, a_tree}
use Rattle.pc_types_lists.specs.Types.{Types}
use Rattle.pc_types_lists.specs.Primitive.{plain_type}
use Rattle.pc_types_lists.specs.Trees.{AreHandlesOf, NumbersHandlesOf, CoreHasTree}
use Rattle.pc_types_lists.specs.Trees.{ImportHasTree, ExportHasTree, HasTree}
use Rattle.pc_types_lists.specs.Trees.{FieldsHaveTrees, CasesHaveTrees, ValsHaveTrees, MaybeHasTree, ParamsHaveTrees}
use Rattle.pc_types_lists.specs.Trees.{ResultsHaveTree, ExternsHaveTrees}
use Rattle.pc_types_lists.proofs.HeldLemmas.{value_of}
use Rattle.pc_types_convert.proofs.OneNumber.{zip_one}

-- the first item
abbrev first_or : {A : Type 0} → A → List A → A
first_or x [] = x
first_or x (y ∷ ys) = y

-- the other items
abbrev others : {A : Type 0} → List A → List A
others [] = []
others (x ∷ xs) = xs

-- equal lists have one first item
same_first : {A : Type 0} (x y : A) (xs ys : List A) → x ∷ xs ≡ y ∷ ys → x ≡ y
same_first x y xs ys h = ap (first_or x) h

-- and one rest
same_others : {A : Type 0} (x y : A) (xs ys : List A) → x ∷ xs ≡ y ∷ ys → xs ≡ ys
same_others x y xs ys h = ap others h

-- none isn't one more
never_more : {A B : Type 0} (x : A) (xs : List A) → [] ≡ x ∷ xs → B
never_more x xs h = absurd (omega (arith, ap length h))

-- the primitive of a value type
abbrev prim_of : InterfaceType → Option PrimType
prim_of ty.Bool = Some prim.Bool
prim_of ty.S8 = Some prim.S8
prim_of ty.U8 = Some prim.U8
prim_of ty.S16 = Some prim.S16
prim_of ty.U16 = Some prim.U16
prim_of ty.S32 = Some prim.S32
prim_of ty.U32 = Some prim.U32
prim_of ty.S64 = Some prim.S64
prim_of ty.U64 = Some prim.U64
prim_of ty.F32 = Some prim.F32
prim_of ty.F64 = Some prim.F64
prim_of ty.Char = Some prim.Char
prim_of ty.String = Some prim.String
prim_of w = None

-- a value type is that of one primitive
of_prim : (p : PrimType) (w : InterfaceType) → plain_type p ≡ Some w → prim_of w ≡ Some p
of_prim prim.Bool w h = ap prim_of (sym (same_Some ty.Bool w h))
of_prim prim.S8 w h = ap prim_of (sym (same_Some ty.S8 w h))
of_prim prim.U8 w h = ap prim_of (sym (same_Some ty.U8 w h))
of_prim prim.S16 w h = ap prim_of (sym (same_Some ty.S16 w h))
of_prim prim.U16 w h = ap prim_of (sym (same_Some ty.U16 w h))
of_prim prim.S32 w h = ap prim_of (sym (same_Some ty.S32 w h))
of_prim prim.U32 w h = ap prim_of (sym (same_Some ty.U32 w h))
of_prim prim.S64 w h = ap prim_of (sym (same_Some ty.S64 w h))
of_prim prim.U64 w h = ap prim_of (sym (same_Some ty.U64 w h))
of_prim prim.F32 w h = ap prim_of (sym (same_Some ty.F32 w h))
of_prim prim.F64 w h = ap prim_of (sym (same_Some ty.F64 w h))
of_prim prim.Char w h = ap prim_of (sym (same_Some ty.Char w h))
of_prim prim.String w h = ap prim_of (sym (same_Some ty.String w h))
of_prim prim.ErrorContext w h = absurd (none-some w h)

-- the form of a value type, by number
abbrev val_form : InterfaceType → ℕ
val_form (ty.ErrorContext i) = 1
val_form (ty.Record i) = 2
val_form (ty.Variant i) = 3
val_form (ty.List i) = 4
val_form (ty.Tuple i) = 5
val_form (ty.Flags i) = 6
val_form (ty.Enum i) = 7
val_form (ty.Option i) = 8
val_form (ty.Result i) = 9
val_form (ty.Own i) = 10
val_form (ty.Borrow i) = 11
val_form (ty.Stream i) = 12
val_form (ty.Future i) = 13
val_form w = 0

-- the form of a type, by number
abbrev def_form : TypeDef → ℕ
def_form (def.Interface w) = val_form w
def_form (def.ComponentFunc i) = 14
def_form (def.ComponentInstance i) = 15
def_form (def.Component i) = 16
def_form (def.Module i) = 17
def_form (def.Resource i) = 18

-- the form of a tree, by the same numbers
abbrev tree_form : TypeTree → ℕ
tree_form (primitive p) = 0
tree_form (error_context c) = 1
tree_form (record_of fs) = 2
tree_form (variant_of cs) = 3
tree_form (list_of t) = 4
tree_form (tuple_of ts) = 5
tree_form (flags_of names) = 6
tree_form (enum_of names) = 7
tree_form (option_of t) = 8
tree_form (result_of ok err) = 9
tree_form (own_of r) = 10
tree_form (borrow_of r) = 11
tree_form (stream_of t c) = 12
tree_form (future_of t c) = 13
tree_form (func_of params result is_async) = 14
tree_form (instance_of exports) = 15
tree_form (component_of imports exports) = 16
tree_form (module_of imports exports) = 17
tree_form (resource_of r) = 18

-- a value type of a primitive has the first form
plain_form : (p : PrimType) (w : InterfaceType) → plain_type p ≡ Some w → val_form w ≡ 0
plain_form prim.Bool w h = ap val_form (sym (same_Some ty.Bool w h))
plain_form prim.S8 w h = ap val_form (sym (same_Some ty.S8 w h))
plain_form prim.U8 w h = ap val_form (sym (same_Some ty.U8 w h))
plain_form prim.S16 w h = ap val_form (sym (same_Some ty.S16 w h))
plain_form prim.U16 w h = ap val_form (sym (same_Some ty.U16 w h))
plain_form prim.S32 w h = ap val_form (sym (same_Some ty.S32 w h))
plain_form prim.U32 w h = ap val_form (sym (same_Some ty.U32 w h))
plain_form prim.S64 w h = ap val_form (sym (same_Some ty.S64 w h))
plain_form prim.U64 w h = ap val_form (sym (same_Some ty.U64 w h))
plain_form prim.F32 w h = ap val_form (sym (same_Some ty.F32 w h))
plain_form prim.F64 w h = ap val_form (sym (same_Some ty.F64 w h))
plain_form prim.Char w h = ap val_form (sym (same_Some ty.Char w h))
plain_form prim.String w h = ap val_form (sym (same_Some ty.String w h))
plain_form prim.ErrorContext w h = absurd (none-some w h)

-- the number in a value type, if it has one
abbrev val_number : InterfaceType → ℕ
val_number (ty.ErrorContext i) = i.0
val_number (ty.Record i) = i.0
val_number (ty.Variant i) = i.0
val_number (ty.List i) = i.0
val_number (ty.Tuple i) = i.0
val_number (ty.Flags i) = i.0
val_number (ty.Enum i) = i.0
val_number (ty.Option i) = i.0
val_number (ty.Result i) = i.0
val_number (ty.Own i) = i.0
val_number (ty.Borrow i) = i.0
val_number (ty.Stream i) = i.0
val_number (ty.Future i) = i.0
val_number w = 0

-- the number in a type, if it has one
abbrev def_number : TypeDef → ℕ
def_number (def.Interface w) = val_number w
def_number (def.ComponentFunc i) = i.0
def_number (def.ComponentInstance i) = i.0
def_number (def.Component i) = i.0
def_number (def.Module i) = i.0
def_number (def.Resource i) = i.0

-- what stands under equal numbers is equal
one_item : {A : Type 0} (xs : List A) (i j : ℕ) (x y : A) → i ≡ j → slice_get xs i ≡ Some x → slice_get xs j ≡ Some y
    → x ≡ y
one_item xs i j x y same at there = same_Some x y (sym at ∙ ap (slice_get xs) same ∙ there)

module _ (b : Types) (who : ResourceIndex → Identity) where
  -- a type has the form of its tree
  has_form : (d : TypeDef) (t : TypeTree) → HasTree b who d t → def_form d ≡ tree_form t
  has_form d (primitive p) h = ap def_form h.1 ∙ plain_form p h.0 h.2
  has_form d (error_context c) h = ap def_form h.1
  has_form d (record_of fs) h = ap def_form h.2
  has_form d (variant_of cs) h = ap def_form h.2
  has_form d (list_of t) h = ap def_form h.2
  has_form d (tuple_of ts) h = ap def_form h.2
  has_form d (flags_of names) h = ap def_form h.1
  has_form d (enum_of names) h = ap def_form h.1
  has_form d (option_of t) h = ap def_form h.2
  has_form d (result_of ok err) h = ap def_form h.2
  has_form d (own_of r) h = ap def_form h.1
  has_form d (borrow_of r) h = ap def_form h.1
  has_form d (stream_of t c) h = ap def_form h.2
  has_form d (future_of t c) h = ap def_form h.2
  has_form d (func_of params result is_async) h = ap def_form h.4
  has_form d (instance_of exports) h = ap def_form h.2
  has_form d (component_of imports exports) h = ap def_form h.2
  has_form d (module_of imports exports) h = ap def_form h.2
  has_form d (resource_of r) h = ap def_form h.1

  -- handles are those of one resource
  one_resource : (g : TypeResourceTable) (r s : Resource) → AreHandlesOf b who g r → AreHandlesOf b who g s → r ≡ s
  one_resource (handles.Concrete x c) (concrete i n) (concrete j m) h k =
      λ l. concrete ((sym h.0 ∙ k.0) l) ((sym h.1 ∙ k.1) l)
  one_resource (handles.Concrete x c) (concrete i n) (abstract m) h k = absurd k
  one_resource (handles.Concrete x c) (abstract n) s h k = absurd h
  one_resource (handles.Abstract x) (concrete i n) s h k = absurd h
  one_resource (handles.Abstract x) (abstract n) (concrete i m) h k = absurd k
  one_resource (handles.Abstract x) (abstract n) (abstract m) h k = ap abstract (sym h ∙ k)

  -- the number of handles is that of one resource's
  one_handled : (i j : ℕ) (r s : Resource) → i ≡ j → NumbersHandlesOf b who (record { 0 = i }) r
      → NumbersHandlesOf b who (record { 0 = j }) s → r ≡ s
  one_handled i j r s same h k =
      one_resource h.0 r s h.2
      (subst (λ x. AreHandlesOf b who x s) (sym (one_item b.resource_tables i j h.0 k.0 same h.1 k.1)) k.2)

  -- the form of a core entity, by number
  abbrev core_form : CoreEntity → ℕ
  core_form (core.Func s) = 0
  core_form core.Table = 1
  core_form (core.Memory is_wide) = 2
  core_form core.Global = 3
  core_form core.Tag = 4

  -- the number of its signature
  abbrev core_number : CoreEntity → ℕ
  core_number (core.Func s) = s
  core_number e = 0

  -- whether it is a wide memory
  abbrev core_width : CoreEntity → Bool
  core_width (core.Memory is_wide) = is_wide
  core_width e = true

  -- a core entity has one tree
  one_core : (e : CoreEntity) (s t : CoreTree) → CoreHasTree b who e s → CoreHasTree b who e t → s ≡ t
  one_core e (core_func s) (core_func t) h k =
      ap core_func (one_item b.signatures h.0 k.0 s t (ap core_number (sym h.1 ∙ k.1)) h.2 k.2)
  one_core e (core_func s) core_table h k = absurd (omega (arith, ap core_form (sym h.1 ∙ k)))
  one_core e (core_func s) (core_memory w) h k = absurd (omega (arith, ap core_form (sym h.1 ∙ k)))
  one_core e (core_func s) core_global h k = absurd (omega (arith, ap core_form (sym h.1 ∙ k)))
  one_core e (core_func s) core_tag h k = absurd (omega (arith, ap core_form (sym h.1 ∙ k)))
  one_core e core_table core_table h k = refl
  one_core e core_table (core_func s) h k = absurd (omega (arith, ap core_form (sym h ∙ k.1)))
  one_core e core_table (core_memory w) h k = absurd (omega (arith, ap core_form (sym h ∙ k)))
  one_core e core_table core_global h k = absurd (omega (arith, ap core_form (sym h ∙ k)))
  one_core e core_table core_tag h k = absurd (omega (arith, ap core_form (sym h ∙ k)))
  one_core e (core_memory v) (core_memory w) h k = ap core_memory (ap core_width (sym h ∙ k))
  one_core e (core_memory v) (core_func s) h k = absurd (omega (arith, ap core_form (sym h ∙ k.1)))
  one_core e (core_memory v) core_table h k = absurd (omega (arith, ap core_form (sym h ∙ k)))
  one_core e (core_memory v) core_global h k = absurd (omega (arith, ap core_form (sym h ∙ k)))
  one_core e (core_memory v) core_tag h k = absurd (omega (arith, ap core_form (sym h ∙ k)))
  one_core e core_global core_global h k = refl
  one_core e core_global (core_func s) h k = absurd (omega (arith, ap core_form (sym h ∙ k.1)))
  one_core e core_global core_table h k = absurd (omega (arith, ap core_form (sym h ∙ k)))
  one_core e core_global (core_memory w) h k = absurd (omega (arith, ap core_form (sym h ∙ k)))
  one_core e core_global core_tag h k = absurd (omega (arith, ap core_form (sym h ∙ k)))
  one_core e core_tag core_tag h k = refl
  one_core e core_tag (core_func s) h k = absurd (omega (arith, ap core_form (sym h ∙ k.1)))
  one_core e core_tag core_table h k = absurd (omega (arith, ap core_form (sym h ∙ k)))
  one_core e core_tag (core_memory w) h k = absurd (omega (arith, ap core_form (sym h ∙ k)))
  one_core e core_tag core_global h k = absurd (omega (arith, ap core_form (sym h ∙ k)))

  -- an import has one tree
  one_import_tree : (i : List ℕ × List ℕ × CoreEntity) (s t : List ℕ × List ℕ × CoreTree) → ImportHasTree b who i s
      → ImportHasTree b who i t → s ≡ t
  one_import_tree i s t h k = λ n. ((sym h.0 ∙ k.0) n, (sym h.1 ∙ k.1) n, one_core i.2 s.2 t.2 h.2 k.2 n)

  -- an export has one tree
  one_export_tree : (e : List ℕ × CoreEntity) (s t : List ℕ × CoreTree) → ExportHasTree b who e s
      → ExportHasTree b who e t → s ≡ t
  one_export_tree e s t h k = λ n. ((sym h.0 ∙ k.0) n, one_core e.1 s.1 t.1 h.1 k.1 n)

  mutual
    -- a type has one tree
    pub one_tree : (d : TypeDef) (s t : TypeTree) → HasTree b who d s → HasTree b who d t → s ≡ t
    one_tree d (primitive p) (primitive q) h k =
        let w = ap value_of (sym h.1 ∙ k.1) in
        ap primitive (same_Some p q (sym (of_prim p h.0 h.2) ∙ ap prim_of w ∙ of_prim q k.0 k.2))
    one_tree d (primitive p) t h k = absurd (omega (arith, sym (has_form d (primitive p) h) ∙ has_form d t k))
    one_tree d (error_context c) (error_context e) h k =
        ap (λ (x : TypeErrorContextTable). error_context x.instance.0)
        (one_item b.error_context_tables h.0.0 k.0.0 (record { instance = record { 0 = c } })
        (record { instance = record { 0 = e } }) (ap def_number (sym h.1 ∙ k.1)) h.2 k.2)
    one_tree d (error_context c) t h k = absurd (omega (arith, sym (has_form d (error_context c) h) ∙ has_form d t k))
    one_tree d (record_of fs) (record_of gs) h k =
        let same = one_item b.records h.0.0 k.0.0 h.1 k.1 (ap def_number (sym h.2 ∙ k.2)) h.3 k.3 in
        ap record_of (one_fields_tree h.1.fields k.1.fields fs gs (ap (λ (r : TypeRecord). r.fields) same) h.4 k.4)
    one_tree d (record_of fs) t h k = absurd (omega (arith, sym (has_form d (record_of fs) h) ∙ has_form d t k))
    one_tree d (variant_of cs) (variant_of ds) h k =
        let same = one_item b.variants h.0.0 k.0.0 h.1 k.1 (ap def_number (sym h.2 ∙ k.2)) h.3 k.3 in
        ap variant_of (one_cases_tree h.1.cases k.1.cases cs ds (ap (λ (r : TypeVariant). r.cases) same) h.4 k.4)
    one_tree d (variant_of cs) t h k = absurd (omega (arith, sym (has_form d (variant_of cs) h) ∙ has_form d t k))
    one_tree d (list_of x) (list_of y) h k =
        let same = one_item b.lists h.0.0 k.0.0 h.1 k.1 (ap def_number (sym h.2 ∙ k.2)) h.3 k.3 in
        ap list_of (one_tree (def.Interface h.1.element) x y h.4 (subst (λ x. HasTree b who (def.Interface x) y) (sym
        (ap (λ (r : TypeList). r.element) same)) k.4))
    one_tree d (list_of x) t h k = absurd (omega (arith, sym (has_form d (list_of x) h) ∙ has_form d t k))
    one_tree d (tuple_of xs) (tuple_of ys) h k =
        let same = one_item b.tuples h.0.0 k.0.0 h.1 k.1 (ap def_number (sym h.2 ∙ k.2)) h.3 k.3 in
        ap tuple_of (one_vals_tree h.1.types k.1.types xs ys (ap (λ (r : TypeTuple). r.types) same) h.4 k.4)
    one_tree d (tuple_of xs) t h k = absurd (omega (arith, sym (has_form d (tuple_of xs) h) ∙ has_form d t k))
    one_tree d (flags_of ns) (flags_of ms) h k =
        ap (λ (x : TypeFlags). flags_of x.names)
        (one_item b.flags h.0.0 k.0.0 (record { names = ns }) (record { names = ms }) (ap def_number (sym h.1 ∙ k.1))
        h.2
        k.2)
    one_tree d (flags_of ns) t h k = absurd (omega (arith, sym (has_form d (flags_of ns) h) ∙ has_form d t k))
    one_tree d (enum_of ns) (enum_of ms) h k =
        ap (λ (x : TypeEnum). enum_of x.names)
        (one_item b.enums h.0.0 k.0.0 (record { names = ns }) (record { names = ms }) (ap def_number (sym h.1 ∙ k.1))
        h.2
        k.2)
    one_tree d (enum_of ns) t h k = absurd (omega (arith, sym (has_form d (enum_of ns) h) ∙ has_form d t k))
    one_tree d (option_of x) (option_of y) h k =
        let same = one_item b.options h.0.0 k.0.0 h.1 k.1 (ap def_number (sym h.2 ∙ k.2)) h.3 k.3 in
        ap option_of (one_tree (def.Interface h.1.ty) x y h.4 (subst (λ x. HasTree b who (def.Interface x) y) (sym
        (ap (λ (r : TypeOption). r.ty) same)) k.4))
    one_tree d (option_of x) t h k = absurd (omega (arith, sym (has_form d (option_of x) h) ∙ has_form d t k))
    one_tree d (result_of x y) (result_of v w) h k =
        let same = one_item b.results h.0.0 k.0.0 h.1 k.1 (ap def_number (sym h.2 ∙ k.2)) h.3 k.3 in
        let oks = one_maybe_tree h.1.ok k.1.ok x v (ap (λ (r : TypeResult). r.ok) same) h.4 k.4 in
        let errs = one_maybe_tree h.1.err k.1.err y w (ap (λ (r : TypeResult). r.err) same) h.5 k.5 in
        λ i. result_of (oks i) (errs i)
    one_tree d (result_of x y) t h k = absurd (omega (arith, sym (has_form d (result_of x y) h) ∙ has_form d t k))
    one_tree d (own_of r) (own_of s) h k =
        ap own_of (one_handled h.0.0 k.0.0 r s (ap def_number (sym h.1 ∙ k.1)) h.2 k.2)
    one_tree d (own_of r) t h k = absurd (omega (arith, sym (has_form d (own_of r) h) ∙ has_form d t k))
    one_tree d (borrow_of r) (borrow_of s) h k =
        ap borrow_of (one_handled h.0.0 k.0.0 r s (ap def_number (sym h.1 ∙ k.1)) h.2 k.2)
    one_tree d (borrow_of r) t h k = absurd (omega (arith, sym (has_form d (borrow_of r) h) ∙ has_form d t k))
    one_tree d (stream_of x c) (stream_of y e) h k =
        let same = one_item b.stream_tables h.0.0 k.0.0 h.1 k.1 (ap def_number (sym h.2 ∙ k.2)) h.3 k.3 in
        let payloads = one_maybe_tree h.1.payload k.1.payload x y (ap (λ (r : TypeStreamTable). r.payload) same) h.5
        k.5 in
        let places = sym h.4 ∙ ap (λ (r : TypeStreamTable). r.instance.0) same ∙ k.4 in
        λ i. stream_of (payloads i) (places i)
    one_tree d (stream_of x c) t h k = absurd (omega (arith, sym (has_form d (stream_of x c) h) ∙ has_form d t k))
    one_tree d (future_of x c) (future_of y e) h k =
        let same = one_item b.future_tables h.0.0 k.0.0 h.1 k.1 (ap def_number (sym h.2 ∙ k.2)) h.3 k.3 in
        let payloads = one_maybe_tree h.1.payload k.1.payload x y (ap (λ (r : TypeFutureTable). r.payload) same) h.5
        k.5 in
        let places = sym h.4 ∙ ap (λ (r : TypeFutureTable). r.instance.0) same ∙ k.4 in
        λ i. future_of (payloads i) (places i)
    one_tree d (future_of x c) t h k = absurd (omega (arith, sym (has_form d (future_of x c) h) ∙ has_form d t k))
    one_tree d (func_of ps r a) (func_of qs s c) h k =
        let same = one_item b.funcs h.0.0 k.0.0 h.1 k.1 (ap def_number (sym h.4 ∙ k.4)) h.5 k.5 in
        let params = one_item b.tuples h.1.params.0 k.1.params.0 h.2 k.2 (ap (λ (f : TypeFunc). f.params.0) same) h.6
        k.6 in
        let results = one_item b.tuples h.1.results.0 k.1.results.0 h.3 k.3 (ap (λ (f : TypeFunc). f.results.0) same)
        h.7 k.7 in
        let names = ap (λ (f : TypeFunc). f.param_names) same in
        let first = one_params_tree h.1.param_names k.1.param_names h.2.types k.2.types ps qs names
        (ap (λ (t : TypeTuple). t.types) params) h.9 k.9 in
        let second = one_results_tree h.3.types k.3.types r s (ap (λ (t : TypeTuple). t.types) results) h.10 k.10 in
        let asyncs = sym h.8 ∙ ap (λ (f : TypeFunc). f.async_) same ∙ k.8 in
        λ i. func_of (first i) (second i) (asyncs i)
    one_tree d (func_of ps r a) t h k = absurd (omega (arith, sym (has_form d (func_of ps r a) h) ∙ has_form d t k))
    one_tree d (instance_of es) (instance_of fs) h k =
        let same = one_item b.instances h.0.0 k.0.0 h.1 k.1 (ap def_number (sym h.2 ∙ k.2)) h.3 k.3 in
        ap instance_of
        (one_externs_tree h.1.exports k.1.exports es fs (ap (λ (r : TypeComponentInstance). r.exports) same) h.4 k.4)
    one_tree d (instance_of es) t h k = absurd (omega (arith, sym (has_form d (instance_of es) h) ∙ has_form d t k))
    one_tree d (component_of is es) (component_of js fs) h k =
        let same = one_item b.components h.0.0 k.0.0 h.1 k.1 (ap def_number (sym h.2 ∙ k.2)) h.3 k.3 in
        let imports = one_externs_tree h.1.imports k.1.imports is js (ap (λ (r : TypeComponent). r.imports) same) h.4
        k.4 in
        let exports = one_externs_tree h.1.exports k.1.exports es fs (ap (λ (r : TypeComponent). r.exports) same) h.5
        k.5 in
        λ i. component_of (imports i) (exports i)
    one_tree d (component_of is es) t h k = absurd (omega (
      arith,
      sym (has_form d (component_of is es) h) ∙ has_form
          d t k,
    ))
    one_tree d (module_of is es) (module_of js fs) h k =
        let same = one_item b.modules h.0.0 k.0.0 h.1 k.1 (ap def_number (sym h.2 ∙ k.2)) h.3 k.3 in
        let imports = zip_one (ImportHasTree b who) one_import_tree h.1.imports is js h.4
        (subst (λ (m : TypeModule). AllZip (ImportHasTree b who) m.imports js) (sym same) k.4) in
        let exports = zip_one (ExportHasTree b who) one_export_tree h.1.exports es fs h.5
        (subst (λ (m : TypeModule). AllZip (ExportHasTree b who) m.exports fs) (sym same) k.5) in
        λ i. module_of (imports i) (exports i)
    one_tree d (module_of is es) t h k = absurd (omega (arith, sym (has_form d (module_of is es) h) ∙ has_form d t k))
    one_tree d (resource_of r) (resource_of s) h k =
        ap resource_of (one_handled h.0.0 k.0.0 r s (ap def_number (sym h.1 ∙ k.1)) h.2 k.2)
    one_tree d (resource_of r) t h k = absurd (omega (arith, sym (has_form d (resource_of r) h) ∙ has_form d t k))

    -- equal value types that may be left out have one tree
    one_maybe_tree : (v w : Option InterfaceType) (s t : MaybeTree) → v ≡ w → MaybeHasTree b who v s
        → MaybeHasTree b who w t → s ≡ t
    one_maybe_tree v w no_tree no_tree same h k = refl
    one_maybe_tree v w no_tree (a_tree t) same h k = absurd (none-some k.0 (sym h ∙ same ∙ k.1))
    one_maybe_tree v w (a_tree s) no_tree same h k = absurd (none-some h.0 (sym (sym h.1 ∙ same ∙ k)))
    one_maybe_tree v w (a_tree s) (a_tree t) same h k =
        ap a_tree (one_tree (def.Interface h.0) s t h.2 (subst (λ x. HasTree b who (def.Interface x) t) (sym
        (same_Some h.0 k.0 (sym h.1 ∙ same ∙ k.1))) k.2))

    -- and lists of them
    one_vals_tree : (vs ws : List InterfaceType) (ss ts : Trees) → vs ≡ ws → ValsHaveTrees b who vs ss
        → ValsHaveTrees b who ws ts → ss ≡ ts
    one_vals_tree vs ws no_trees no_trees same h k = refl
    one_vals_tree vs ws no_trees (and_tree t ts) same h k = never_more k.0 k.1 (sym h ∙ same ∙ k.2)
    one_vals_tree vs ws (and_tree s ss) no_trees same h k = never_more h.0 h.1 (sym (sym h.2 ∙ same ∙ k))
    one_vals_tree vs ws (and_tree s ss) (and_tree t ts) same h k =
        let both = sym h.2 ∙ same ∙ k.2 in
        let first = one_tree (def.Interface h.0) s t h.3 (subst (λ x. HasTree b who (def.Interface x) t) (sym
        (same_first h.0 k.0 h.1 k.1 both)) k.3) in
        let rest = one_vals_tree h.1 k.1 ss ts (same_others h.0 k.0 h.1 k.1 both) h.4 k.4 in
        λ i. and_tree (first i) (rest i)

    -- equal fields have one list of trees
    one_fields_tree : (fs gs : List (List ℕ × InterfaceType)) (ss ts : Fields) → fs ≡ gs → FieldsHaveTrees b who fs ss
        → FieldsHaveTrees b who gs ts → ss ≡ ts
    one_fields_tree fs gs no_fields no_fields same h k = refl
    one_fields_tree fs gs no_fields (and_field name t ts) same h k = never_more (name, k.0) k.1 (sym h ∙ same ∙ k.2)
    one_fields_tree fs gs (and_field name s ss) no_fields same h k =
        never_more (name, h.0) h.1 (sym (sym h.2 ∙ same ∙ k))
    one_fields_tree fs gs (and_field m s ss) (and_field n t ts) same h k =
        let both = sym h.2 ∙ same ∙ k.2 in
        let field = same_first (m, h.0) (n, k.0) h.1 k.1 both in
        let first = one_tree (def.Interface h.0) s t h.3 (subst (λ x. HasTree b who (def.Interface x) t) (sym (ap (λ
        (f : List ℕ × InterfaceType). f.1) field)) k.3) in
        let rest = one_fields_tree h.1 k.1 ss ts (same_others (m, h.0) (n, k.0) h.1 k.1 both) h.4 k.4 in
        λ i. and_field (ap (λ (f : List ℕ × InterfaceType). f.0) field i) (first i) (rest i)

    -- the same of cases
    one_cases_tree : (fs gs : List (List ℕ × Option InterfaceType)) (ss ts : Cases) → fs ≡ gs
        → CasesHaveTrees b who fs ss → CasesHaveTrees b who gs ts → ss ≡ ts
    one_cases_tree fs gs no_cases no_cases same h k = refl
    one_cases_tree fs gs no_cases (and_case name t ts) same h k = never_more (name, k.0) k.1 (sym h ∙ same ∙ k.2)
    one_cases_tree fs gs (and_case name s ss) no_cases same h k =
        never_more (name, h.0) h.1 (sym (sym h.2 ∙ same ∙ k))
    one_cases_tree fs gs (and_case m s ss) (and_case n t ts) same h k =
        let both = sym h.2 ∙ same ∙ k.2 in
        let case = same_first (m, h.0) (n, k.0) h.1 k.1 both in
        let first = one_maybe_tree h.0 k.0 s t (ap (λ (f : List ℕ × Option InterfaceType). f.1) case) h.3 k.3 in
        let rest = one_cases_tree h.1 k.1 ss ts (same_others (m, h.0) (n, k.0) h.1 k.1 both) h.4 k.4 in
        λ i. and_case (ap (λ (f : List ℕ × Option InterfaceType). f.0) case i) (first i) (rest i)

    -- the same of parameters
    one_params_tree : (ms ns : List (List ℕ)) (vs ws : List InterfaceType) (ss ts : Fields) → ms ≡ ns → vs ≡ ws
        → ParamsHaveTrees b who ms vs ss → ParamsHaveTrees b who ns ws ts → ss ≡ ts
    one_params_tree ms ns vs ws no_fields no_fields names same h k = refl
    one_params_tree ms ns vs ws no_fields (and_field name t ts) names same h k =
        never_more k.0 k.2 (sym h.1 ∙ same ∙ k.4)
    one_params_tree ms ns vs ws (and_field name s ss) no_fields names same h k =
        never_more h.0 h.2 (sym (sym h.4 ∙ same ∙ k.1))
    one_params_tree ms ns vs ws (and_field m s ss) (and_field n t ts) names same h k =
        let named = sym h.3 ∙ names ∙ k.3 in
        let both = sym h.4 ∙ same ∙ k.4 in
        let name = same_first m n h.1 k.1 named in
        let first = one_tree (def.Interface h.0) s t h.5 (subst (λ x. HasTree b who (def.Interface x) t) (sym
        (same_first h.0 k.0 h.2 k.2 both)) k.5) in
        let rest = one_params_tree h.1 k.1 h.2 k.2 ss ts (same_others m n h.1 k.1 named)
        (same_others h.0 k.0 h.2 k.2 both) h.6 k.6 in
        λ i. and_field (name i) (first i) (rest i)

    -- the same of what is returned
    one_results_tree : (vs ws : List InterfaceType) (s t : MaybeTree) → vs ≡ ws → ResultsHaveTree b who vs s
        → ResultsHaveTree b who ws t → s ≡ t
    one_results_tree vs ws no_tree no_tree same h k = refl
    one_results_tree vs ws no_tree (a_tree t) same h k = never_more k.0 [] (sym h ∙ same ∙ k.1)
    one_results_tree vs ws (a_tree s) no_tree same h k = never_more h.0 [] (sym (sym h.1 ∙ same ∙ k))
    one_results_tree vs ws (a_tree s) (a_tree t) same h k =
        ap a_tree (one_tree (def.Interface h.0) s t h.2 (subst (λ x. HasTree b who (def.Interface x) t) (sym
        (same_first h.0 k.0 [] [] (sym h.1 ∙ same ∙ k.1))) k.2))

    -- the same of imports and exports
    one_externs_tree : (es fs : List (List ℕ × TypeDef)) (ss ts : Fields) → es ≡ fs → ExternsHaveTrees b who es ss
        → ExternsHaveTrees b who fs ts → ss ≡ ts
    one_externs_tree es fs no_fields no_fields same h k = refl
    one_externs_tree es fs no_fields (and_field name t ts) same h k = never_more (name, k.0) k.1 (sym h ∙ same ∙ k.2)
    one_externs_tree es fs (and_field name s ss) no_fields same h k =
        never_more (name, h.0) h.1 (sym (sym h.2 ∙ same ∙ k))
    one_externs_tree es fs (and_field m s ss) (and_field n t ts) same h k =
        let both = sym h.2 ∙ same ∙ k.2 in
        let item = same_first (m, h.0) (n, k.0) h.1 k.1 both in
        let type_ = ap (λ (f : List ℕ × TypeDef). f.1) item in
        let first = one_tree h.0 s t h.3 (subst (λ x. HasTree b who x t) (sym type_) k.3) in
        let rest = one_externs_tree h.1 k.1 ss ts (same_others (m, h.0) (n, k.0) h.1 k.1 both) h.4 k.4 in
        λ i. and_field (ap (λ (f : List ℕ × TypeDef). f.0) item i) (first i) (rest i)
