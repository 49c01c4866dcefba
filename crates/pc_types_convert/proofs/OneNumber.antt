-- Equal trees have one number, and equal parts too.
use Rattle.std.proofs.Common.{◌≡◌, ℕ, List, [], ◌∷◌, Option, None, Some, refl, sym, ap, ◌∙◌}
use Rattle.std.specs.Prelude.{slice_get, MatchOption}
use Rattle.std.specs.List.{AllZip}
use Rattle.std.proofs.lemmas.Option.{same_Some}
use Rattle.pc_entity.specs.Lists.{AreDistinct}
use Rattle.pc_numbers.specs.declared.runtime.ResourceIndex.{ResourceIndex}
use Rattle.pc_types.specs.declared.parsed.CoreEntity.{CoreEntity}
use Rattle.pc_types.specs.declared.parsed.CoreEntity.TheVariants as core
use Rattle.pc_types.specs.declared.parsed.Entity.{Entity}
use Rattle.pc_types.specs.declared.parsed.Entity.TheVariants as entity
use Rattle.pc_types.specs.declared.parsed.PrimType.{PrimType}
use Rattle.pc_types.specs.declared.parsed.TypeTable.{TypeTable}
use Rattle.pc_types.specs.declared.parsed.ValType.{ValType}
use Rattle.pc_types.specs.declared.parsed.ValType.TheVariants as val
use Rattle.pc_types.specs.declared.type_index.TypeComponentLocalErrorContextTableIndex.{TypeComponentLocalErrorContextTableIndex}
use Rattle.pc_types.specs.declared.type_index.TypeResourceTableIndex.{TypeResourceTableIndex}
use Rattle.pc_types.specs.declared.types.InterfaceType.{InterfaceType}
use Rattle.pc_types.specs.declared.types.InterfaceType.TheVariants as ty
use Rattle.pc_types.specs.declared.types.TypeDef.{TypeDef}
use Rattle.pc_types.specs.declared.types.TypeDef.TheVariants as def
use Rattle.pc_types.specs.declared.types.TypeKind.{TypeKind}
use Rattle.pc_types.specs.declared.types.TypeKind.TheVariants as kind
use Rattle.pc_types.specs.declared.types.TypeResourceTable.{TypeResourceTable}
use Rattle.pc_types.specs.declared.types.TypeResourceTable.TheVariants as handles
use Rattle.pc_types.specs.TypeTree.{Identity, Resource, CoreTree, TypeTree, Fields, Cases, Trees, MaybeTree, concrete}
use Rattle.pc_types.specs.TypeTree.{abstract, core_func, core_table, core_memory, core_global, core_tag, primitive}
use Rattle.pc_types.specs.TypeTree.{error_context, record_of, variant_of, list_of, tuple_of, flags_of, enum_of}
use Rattle.pc_types.specs.TypeTree.{option_of, result_of, own_of, borrow_of, stream_of, future_of, func_of, instance_of}
use Rattle.pc_types.specs.TypeTree.{component_of, module_of, resource_of, no_fields, and_field, no_cases, and_case}
use Rattle.pc_types.specs.TypeTree.{no_trees, and_tree, no_tree, a_tree}
use Rattle.pc_types_lists.specs.Types.{Types, HasDistinct}
use Rattle.pc_types_lists.specs.Primitive.{plain_type}
use Rattle.pc_types_convert.specs.Parts.{IsErrorContext, PrimIs, ValIs, MaybeIs, FieldIs, CaseIs, EntityIs, ExternIs}
use Rattle.pc_types_convert.specs.Entries.{ReturnsAre, CoreIs, ImportIs, ExportIs}
use Rattle.pc_types_lists.specs.Trees.{AreHandlesOf, NumbersHandlesOf, CoreHasTree, ImportHasTree, ExportHasTree, HasTree}
use Rattle.pc_types_lists.specs.Trees.{FieldsHaveTrees, CasesHaveTrees, ValsHaveTrees, MaybeHasTree, ParamsHaveTrees}
use Rattle.pc_types_lists.specs.Trees.{ResultsHaveTree, ExternsHaveTrees}
use Rattle.pc_types_lists.proofs.HeldLemmas.{value_of}

-- equal items in front of equal lists
cons_same : {A : Type 0} (x y : A) (xs ys : List A) → x ≡ y → xs ≡ ys → x ∷ xs ≡ y ∷ ys
cons_same x y xs ys first rest = λ i. first i ∷ rest i

-- the same under one name
named_same : {A : Type 0} (name : List ℕ) (x y : A) (xs ys : List (List ℕ × A)) → x ≡ y → xs ≡ ys
    → (name, x) ∷ xs ≡ (name, y) ∷ ys
named_same name x y xs ys first rest = λ i. (name, first i) ∷ rest i

-- two lists that stand in a relation to one list are equal, where each of its items has one partner
pub zip_one : {A B : Type 0} (R : A → B → Type 0) → ((x : A) (y z : B) → R x y → R x z → y ≡ z)
    → (xs : List A) (ys zs : List B)
    → AllZip R xs ys → AllZip R xs zs → ys ≡ zs
zip_one R one [] [] [] h k = refl
zip_one R one [] [] (z ∷ zs) h k = absurd k
zip_one R one [] (y ∷ ys) zs h k = absurd h
zip_one R one (x ∷ xs) [] zs h k = absurd h
zip_one R one (x ∷ xs) (y ∷ ys) [] h k = absurd k
zip_one R one (x ∷ xs) (y ∷ ys) (z ∷ zs) h k = cons_same y z ys zs (one x y z h.0 k.0) (zip_one R one xs ys zs h.1 k.1)

-- the same from the second list to the first
zip_first : {A B : Type 0} (R : A → B → Type 0) → ((x y : A) (z : B) → R x z → R y z → x ≡ y)
    → (xs ys : List A) (zs : List B)
    → AllZip R xs zs → AllZip R ys zs → xs ≡ ys
zip_first R one [] [] [] h k = refl
zip_first R one [] (y ∷ ys) [] h k = absurd k
zip_first R one (x ∷ xs) ys [] h k = absurd h
zip_first R one [] ys (z ∷ zs) h k = absurd h
zip_first R one (x ∷ xs) [] (z ∷ zs) h k = absurd k
zip_first R one (x ∷ xs) (y ∷ ys) (z ∷ zs) h k =
    cons_same x y xs ys (one x y z h.0 k.0) (zip_first R one xs ys zs h.1 k.1)

-- equal values stand at one place, where no value stands at two
one_place : {A : Type 0} (xs : List A) → AreDistinct xs → (i j : ℕ) (x y : A) → slice_get xs i ≡ Some x
    → slice_get xs j ≡ Some y → x ≡ y → i ≡ j
one_place xs apart i j x y at there same = apart i j x at (there ∙ ap Some (sym same))

-- types of one kind are equal, where what their numbers stand for is equal
one_type : {A : Type 0} (xs : List A) → AreDistinct xs → (make : ℕ → TypeDef) (d e : TypeDef) (i j : ℕ) (x y : A)
    → d ≡ make i → e ≡ make j → slice_get xs i ≡ Some x → slice_get xs j ≡ Some y → x ≡ y → d ≡ e
one_type xs apart make d e i j x y is was at there same = is ∙ ap make (one_place xs apart i j x y at there same)
    ∙ sym was

module _ (done : List (Option TypeDef)) where
  -- a place of the done types has one type
  one_done : (n : ℕ) (c d : TypeDef) → slice_get done n ≡ Some (Some c) → slice_get done n ≡ Some (Some d) → c ≡ d
  one_done n c d h k = same_Some c d (same_Some (Some c) (Some d) (sym h ∙ k))

  -- an entity is one type
  one_entity : (e : Entity) (c d : TypeDef) → EntityIs done e c → EntityIs done e d → c ≡ d
  one_entity (entity.Func n) c d h k = one_done n c d h k
  one_entity (entity.Instance n) c d h k = one_done n c d h k
  one_entity (entity.Component n) c d h k = one_done n c d h k
  one_entity (entity.Module n) c d h k = one_done n c d h k
  one_entity (entity.Type_ n) c d h k = one_done n c d h k
  one_entity entity.Value c d h k = absurd h

  -- a named entity is one type
  one_extern : (e : List ℕ × Entity) (f g : List ℕ × TypeDef) → ExternIs done e f → ExternIs done e g → f ≡ g
  one_extern e f g h k = λ i. ((sym h.0 ∙ k.0) i, one_entity e.1 f.1 g.1 h.1 k.1 i)

  -- named entities are one list of named types
  pub one_externs : (es : List (List ℕ × Entity)) (fs gs : List (List ℕ × TypeDef)) → AllZip (ExternIs done) es fs
      → AllZip (ExternIs done) es gs → fs ≡ gs
  one_externs es fs gs h k = zip_one (ExternIs done) one_extern es fs gs h k

module _ (b : Types) (distinct : (k : TypeKind) → HasDistinct b k) where
  -- a primitive is one value type
  one_prim : (p : PrimType) (w x : InterfaceType) → PrimIs b p w → PrimIs b p x → w ≡ x
  one_prim p w x h k = by (plain_type p) h k
    where
      by : (o : Option InterfaceType)
          → MatchOption o
          ((i : TypeComponentLocalErrorContextTableIndex) × (w ≡ ty.ErrorContext i) × IsErrorContext b i) (λ t. w ≡ t)
          → MatchOption o
          ((i : TypeComponentLocalErrorContextTableIndex) × (x ≡ ty.ErrorContext i) × IsErrorContext b i) (λ t. x ≡ t)
          → w ≡ x
      by None h k =
          h.1
          ∙ ap (λ n. ty.ErrorContext (record { 0 = n }))
          (distinct kind.ErrorContextTable h.0.0 k.0.0 (record { instance = b.resources.current }) h.2 k.2)
          ∙ sym k.1
      by (Some t) h k = h ∙ sym k

  module _ (done : List (Option TypeDef)) where
    -- a value type of the table is one value type
    pub one_val : (v : ValType) (w x : InterfaceType) → ValIs b done v w → ValIs b done v x → w ≡ x
    one_val (val.Prim p) w x h k = one_prim p w x h k
    one_val (val.Type_ n) w x h k = ap value_of (one_done done n (def.Interface w) (def.Interface x) h k)

    -- the same of what may be left out
    pub one_maybe : (v : Option ValType) (w x : Option InterfaceType) → MaybeIs b done v w → MaybeIs b done v x → w ≡ x
    one_maybe None None None h k = refl
    one_maybe None None (Some x) h k = absurd k
    one_maybe None (Some w) x h k = absurd h
    one_maybe (Some v) None x h k = absurd h
    one_maybe (Some v) (Some w) None h k = absurd k
    one_maybe (Some v) (Some w) (Some x) h k = ap Some (one_val v w x h k)

    -- a field is one
    one_field : (f : List ℕ × ValType) (g h : List ℕ × InterfaceType) → FieldIs b done f g → FieldIs b done f h → g ≡ h
    one_field f g h k l = λ i. ((sym k.0 ∙ l.0) i, one_val f.1 g.1 h.1 k.1 l.1 i)

    -- the same of names with types
    pub one_fields : (fs : List (List ℕ × ValType)) (gs hs : List (List ℕ × InterfaceType))
        → AllZip (FieldIs b done) fs gs → AllZip (FieldIs b done) fs hs
        → gs ≡ hs
    one_fields fs gs hs h k = zip_one (FieldIs b done) one_field fs gs hs h k

    -- a case is one
    one_case : (f : List ℕ × Option ValType) (g h : List ℕ × Option InterfaceType) → CaseIs b done f g
        → CaseIs b done f h → g ≡ h
    one_case f g h k l = λ i. ((sym k.0 ∙ l.0) i, one_maybe f.1 g.1 h.1 k.1 l.1 i)

    -- the same of names that may have a type
    pub one_cases : (cs : List (List ℕ × Option ValType)) (gs hs : List (List ℕ × Option InterfaceType))
        → AllZip (CaseIs b done) cs gs
        → AllZip (CaseIs b done) cs hs → gs ≡ hs
    one_cases cs gs hs h k = zip_one (CaseIs b done) one_case cs gs hs h k

    -- the same of types without names
    pub one_vals : (vs : List ValType) (ws xs : List InterfaceType) → AllZip (ValIs b done) vs ws
        → AllZip (ValIs b done) vs xs → ws ≡ xs
    one_vals vs ws xs h k = zip_one (ValIs b done) one_val vs ws xs h k

    -- the same of the types of parameters
    pub one_params : (ps : List (List ℕ × ValType)) (ws xs : List InterfaceType)
        → AllZip (λ (p : List ℕ × ValType) (w : InterfaceType). ValIs b done p.1 w) ps ws
        → AllZip (λ (p : List ℕ × ValType) (w : InterfaceType). ValIs b done p.1 w) ps xs → ws ≡ xs
    one_params ps ws xs h k =
        zip_one (λ (p : List ℕ × ValType) (w : InterfaceType). ValIs b done p.1 w)
        (λ p w x. one_val p.1 w x) ps ws xs h k

    -- the same of what is returned
    pub one_returns : (v : Option ValType) (ws xs : List InterfaceType) → ReturnsAre b done v ws
        → ReturnsAre b done v xs → ws ≡ xs
    one_returns None ws xs h k = h ∙ sym k
    one_returns (Some v) ws xs h k = h.1 ∙ ap (λ w. w ∷ []) (one_val v h.0 k.0 h.2 k.2) ∙ sym k.1

  module _ (t : TypeTable) where
    -- a core entity of the table is one entity
    one_core_entity : (e f g : CoreEntity) → CoreIs b t e f → CoreIs b t e g → f ≡ g
    one_core_entity (core.Func s) f g h k =
        h.2
        ∙ ap core.Func
        (one_place b.signatures (distinct kind.Signature) h.0 k.0 h.1 k.1 h.4 k.4 (same_Some h.1 k.1 (sym h.3 ∙ k.3)))
        ∙ sym k.2
    one_core_entity core.Table f g h k = h ∙ sym k
    one_core_entity (core.Memory is_wide) f g h k = h ∙ sym k
    one_core_entity core.Global f g h k = h ∙ sym k
    one_core_entity core.Tag f g h k = h ∙ sym k

    -- a module's import is one
    one_import : (i j k : List ℕ × List ℕ × CoreEntity) → ImportIs b t i j → ImportIs b t i k → j ≡ k
    one_import i j k h l = λ n. ((sym h.0 ∙ l.0) n, (sym h.1 ∙ l.1) n, one_core_entity i.2 j.2 k.2 h.2 l.2 n)

    -- the same of a module's imports
    pub one_imports : (is js ks : List (List ℕ × List ℕ × CoreEntity)) → AllZip (ImportIs b t) is js
        → AllZip (ImportIs b t) is ks → js ≡ ks
    one_imports is js ks h k = zip_one (ImportIs b t) one_import is js ks h k

    -- a module's export is one
    one_export : (e f g : List ℕ × CoreEntity) → ExportIs b t e f → ExportIs b t e g → f ≡ g
    one_export e f g h k = λ i. ((sym h.0 ∙ k.0) i, one_core_entity e.1 f.1 g.1 h.1 k.1 i)

    -- the same of a module's exports
    pub one_exports : (es fs gs : List (List ℕ × CoreEntity)) → AllZip (ExportIs b t) es fs
        → AllZip (ExportIs b t) es gs → fs ≡ gs
    one_exports es fs gs h k = zip_one (ExportIs b t) one_export es fs gs h k

  -- where no two resources are one
  module _ (who : ResourceIndex → Identity) (apart : (r s : ResourceIndex) → who r ≡ who s → r ≡ s) where
    -- a resource has one kind of handles
    same_handles : (g h : TypeResourceTable) (r : Resource) → AreHandlesOf b who g r → AreHandlesOf b who h r → g ≡ h
    same_handles (handles.Concrete r c) (handles.Concrete s d) (concrete identity instance) h k =
        λ i. handles.Concrete (apart r s (h.0 ∙ sym k.0) i) (record { 0 = (h.1 ∙ sym k.1) i })
    same_handles (handles.Concrete r c) (handles.Abstract m) (concrete identity instance) h k = absurd k
    same_handles (handles.Concrete r c) g (abstract n) h k = absurd h
    same_handles (handles.Abstract m) g (concrete identity instance) h k = absurd h
    same_handles (handles.Abstract m) (handles.Concrete s d) (abstract n) h k = absurd k
    same_handles (handles.Abstract m) (handles.Abstract l) (abstract n) h k = ap handles.Abstract (h ∙ sym k)

    -- types with the handles of one resource are equal
    one_handles : (make : ℕ → TypeDef) (d e : TypeDef) (i j : TypeResourceTableIndex) (r : Resource) → d ≡ make i.0
        → e ≡ make j.0
        → NumbersHandlesOf b who i r → NumbersHandlesOf b who j r → d ≡ e
    one_handles make d e i j r is was h k =
        one_type b.resource_tables (distinct kind.ResourceTable) make d e i.0 j.0 h.0 k.0 is was h.1 k.1
        (same_handles h.0 k.0 r h.2 k.2)

    -- core entities with one tree are equal
    same_core : (e f : CoreEntity) (t : CoreTree) → CoreHasTree b who e t → CoreHasTree b who f t → e ≡ f
    same_core e f (core_func s) h k = h.1 ∙ ap core.Func (distinct kind.Signature h.0 k.0 s h.2 k.2) ∙ sym k.1
    same_core e f core_table h k = h ∙ sym k
    same_core e f (core_memory is_wide) h k = h ∙ sym k
    same_core e f core_global h k = h ∙ sym k
    same_core e f core_tag h k = h ∙ sym k

    -- imports with one tree are one
    same_import : (i j : List ℕ × List ℕ × CoreEntity) (t : List ℕ × List ℕ × CoreTree) → ImportHasTree b who i t
        → ImportHasTree b who j t → i ≡ j
    same_import i j t h k = λ n. ((h.0 ∙ sym k.0) n, (h.1 ∙ sym k.1) n, same_core i.2 j.2 t.2 h.2 k.2 n)

    -- exports with one tree are one
    same_export : (e f : List ℕ × CoreEntity) (t : List ℕ × CoreTree) → ExportHasTree b who e t
        → ExportHasTree b who f t → e ≡ f
    same_export e f t h k = λ n. ((h.0 ∙ sym k.0) n, same_core e.1 f.1 t.1 h.1 k.1 n)

    mutual
      -- types with one tree are equal
      pub one_number : (d e : TypeDef) (t : TypeTree) → HasTree b who d t → HasTree b who e t → d ≡ e
      one_number d e (primitive p) h k = h.1 ∙ ap def.Interface (same_Some h.0 k.0 (sym h.2 ∙ k.2)) ∙ sym k.1
      one_number d e (error_context c) h k =
          one_type b.error_context_tables (distinct kind.ErrorContextTable)
          (λ n. def.Interface (ty.ErrorContext (record { 0 = n }))) d e h.0.0 k.0.0
          (record { instance = record { 0 = c } }) (record { instance = record { 0 = c } }) h.1 k.1 h.2 k.2 refl
      one_number d e (record_of fs) h k =
          let same = same_fields h.1.fields k.1.fields fs h.4 k.4 in
          one_type b.records (distinct kind.Record)
          (λ n. def.Interface (ty.Record (record { 0 = n }))) d e h.0.0 k.0.0 h.1 k.1 h.2 k.2 h.3 k.3
          (λ i. record { fields = same i })
      one_number d e (variant_of cs) h k =
          let same = same_cases h.1.cases k.1.cases cs h.4 k.4 in
          one_type b.variants (distinct kind.Variant)
          (λ n. def.Interface (ty.Variant (record { 0 = n }))) d e h.0.0 k.0.0 h.1 k.1 h.2 k.2 h.3 k.3
          (λ i. record { cases = same i })
      one_number d e (list_of t) h k =
          let same = one_number (def.Interface h.1.element) (def.Interface k.1.element) t h.4 k.4 in
          one_type b.lists (distinct kind.List)
          (λ n. def.Interface (ty.List (record { 0 = n }))) d e h.0.0 k.0.0 h.1 k.1 h.2 k.2 h.3 k.3
          (λ i. record { element = value_of (same i) })
      one_number d e (tuple_of ts) h k =
          let same = same_vals h.1.types k.1.types ts h.4 k.4 in
          one_type b.tuples (distinct kind.Tuple)
          (λ n. def.Interface (ty.Tuple (record { 0 = n }))) d e h.0.0 k.0.0 h.1 k.1 h.2 k.2 h.3 k.3
          (λ i. record { types = same i })
      one_number d e (flags_of names) h k =
          one_type b.flags (distinct kind.Flags) (λ n. def.Interface (ty.Flags (record { 0 = n }))) d e h.0.0 k.0.0
          (record { names = names }) (record { names = names }) h.1 k.1 h.2 k.2 refl
      one_number d e (enum_of names) h k =
          one_type b.enums (distinct kind.Enum) (λ n. def.Interface (ty.Enum (record { 0 = n }))) d e h.0.0 k.0.0
          (record { names = names }) (record { names = names }) h.1 k.1 h.2 k.2 refl
      one_number d e (option_of t) h k =
          let same = one_number (def.Interface h.1.ty) (def.Interface k.1.ty) t h.4 k.4 in
          one_type b.options (distinct kind.Option)
          (λ n. def.Interface (ty.Option (record { 0 = n }))) d e h.0.0 k.0.0 h.1 k.1 h.2 k.2 h.3 k.3
          (λ i. record { ty = value_of (same i) })
      one_number d e (result_of ok err) h k =
          let oks = same_maybe h.1.ok k.1.ok ok h.4 k.4 in
          let errs = same_maybe h.1.err k.1.err err h.5 k.5 in
          one_type b.results (distinct kind.Result)
          (λ n. def.Interface (ty.Result (record { 0 = n }))) d e h.0.0 k.0.0 h.1 k.1 h.2 k.2 h.3 k.3
          (λ i. record { ok = oks i; err = errs i })
      one_number d e (own_of r) h k =
          one_handles (λ n. def.Interface (ty.Own (record { 0 = n }))) d e h.0 k.0 r h.1 k.1 h.2 k.2
      one_number d e (borrow_of r) h k =
          one_handles (λ n. def.Interface (ty.Borrow (record { 0 = n }))) d e h.0 k.0 r h.1 k.1 h.2 k.2
      one_number d e (stream_of t c) h k =
          let same = same_maybe h.1.payload k.1.payload t h.5 k.5 in
          let place = h.4 ∙ sym k.4 in
          one_type b.stream_tables (distinct kind.StreamTable)
          (λ n. def.Interface (ty.Stream (record { 0 = n }))) d e h.0.0 k.0.0 h.1 k.1 h.2 k.2 h.3 k.3
          (λ i. record { payload = same i; instance = record { 0 = place i } })
      one_number d e (future_of t c) h k =
          let same = same_maybe h.1.payload k.1.payload t h.5 k.5 in
          let place = h.4 ∙ sym k.4 in
          one_type b.future_tables (distinct kind.FutureTable)
          (λ n. def.Interface (ty.Future (record { 0 = n }))) d e h.0.0 k.0.0 h.1 k.1 h.2 k.2 h.3 k.3
          (λ i. record { payload = same i; instance = record { 0 = place i } })
      one_number d e (func_of params result is_async) h k =
          let ps = same_params h.1.param_names k.1.param_names h.2.types k.2.types params h.9 k.9 in
          let rs = same_results h.3.types k.3.types result h.10 k.10 in
          let param_place = one_place b.tuples (distinct kind.Tuple) h.1.params.0 k.1.params.0 h.2 k.2 h.6 k.6
          (λ i. record { types = ps.1 i }) in
          let result_place = one_place b.tuples (distinct kind.Tuple) h.1.results.0 k.1.results.0 h.3 k.3 h.7 k.7
          (λ i. record { types = rs i }) in
          let asyncs = h.8 ∙ sym k.8 in
          one_type b.funcs (distinct kind.Func)
          (λ n. def.ComponentFunc (record { 0 = n })) d e h.0.0 k.0.0 h.1 k.1 h.4 k.4 h.5 k.5
          (λ i.
          record {
            param_names = ps.0 i;
            params = record { 0 = param_place i };
            results =
                record { 0 = result_place i };
            async_ = asyncs i;
          })
      one_number d e (instance_of exports) h k =
          let same = same_externs h.1.exports k.1.exports exports h.4 k.4 in
          one_type b.instances (distinct kind.Instance)
          (λ n. def.ComponentInstance (record { 0 = n })) d e h.0.0 k.0.0 h.1 k.1 h.2 k.2 h.3 k.3
          (λ i. record { exports = same i })
      one_number d e (component_of imports exports) h k =
          let ins = same_externs h.1.imports k.1.imports imports h.4 k.4 in
          let outs = same_externs h.1.exports k.1.exports exports h.5 k.5 in
          one_type b.components (distinct kind.Component)
          (λ n. def.Component (record { 0 = n })) d e h.0.0 k.0.0 h.1 k.1 h.2 k.2 h.3 k.3
          (λ i. record { imports = ins i; exports = outs i })
      one_number d e (module_of imports exports) h k =
          let ins = zip_first (ImportHasTree b who) same_import h.1.imports k.1.imports imports h.4 k.4 in
          let outs = zip_first (ExportHasTree b who) same_export h.1.exports k.1.exports exports h.5 k.5 in
          one_type b.modules (distinct kind.Module)
          (λ n. def.Module (record { 0 = n })) d e h.0.0 k.0.0 h.1 k.1 h.2 k.2 h.3 k.3
          (λ i. record { imports = ins i; exports = outs i })
      one_number d e (resource_of r) h k =
          one_handles (λ n. def.Resource (record { 0 = n })) d e h.0 k.0 r h.1 k.1 h.2 k.2

      -- lists of parts with one list of trees are equal
      same_fields : (fs gs : List (List ℕ × InterfaceType)) (ts : Fields) → FieldsHaveTrees b who fs ts
          → FieldsHaveTrees b who gs ts → fs ≡ gs
      same_fields fs gs no_fields h k = h ∙ sym k
      same_fields fs gs (and_field name t ts) h k =
          h.2 ∙ named_same name h.0 k.0 h.1 k.1
          (ap value_of (one_number (def.Interface h.0) (def.Interface k.0) t h.3 k.3))
          (same_fields h.1 k.1 ts h.4 k.4) ∙ sym k.2

      same_cases : (cs ds : List (List ℕ × Option InterfaceType)) (ts : Cases) → CasesHaveTrees b who cs ts
          → CasesHaveTrees b who ds ts → cs ≡ ds
      same_cases cs ds no_cases h k = h ∙ sym k
      same_cases cs ds (and_case name t ts) h k =
          h.2 ∙ named_same name h.0 k.0 h.1 k.1 (same_maybe h.0 k.0 t h.3 k.3) (same_cases h.1 k.1 ts h.4 k.4) ∙ sym k.2

      same_vals : (vs ws : List InterfaceType) (ts : Trees) → ValsHaveTrees b who vs ts → ValsHaveTrees b who ws ts
          → vs ≡ ws
      same_vals vs ws no_trees h k = h ∙ sym k
      same_vals vs ws (and_tree t ts) h k =
          h.2 ∙ cons_same h.0 k.0 h.1 k.1 (ap value_of (one_number (def.Interface h.0) (def.Interface k.0) t h.3 k.3))
          (same_vals h.1 k.1 ts h.4 k.4) ∙ sym k.2

      same_maybe : (v w : Option InterfaceType) (t : MaybeTree) → MaybeHasTree b who v t → MaybeHasTree b who w t
          → v ≡ w
      same_maybe v w no_tree h k = h ∙ sym k
      same_maybe v w (a_tree t) h k =
          h.1 ∙ ap (λ d. Some (value_of d)) (one_number (def.Interface h.0) (def.Interface k.0) t h.2 k.2) ∙ sym k.1

      -- the names of parameters are equal, and their types
      same_params : (ms ns : List (List ℕ)) (vs ws : List InterfaceType) (ts : Fields) → ParamsHaveTrees b who ms vs ts
          → ParamsHaveTrees b who ns ws ts
          → (ms ≡ ns) × (vs ≡ ws)
      same_params ms ns vs ws no_fields h k = (h.0 ∙ sym k.0, h.1 ∙ sym k.1)
      same_params ms ns vs ws (and_field name t ts) h k =
          let rest = same_params h.1 k.1 h.2 k.2 ts h.6 k.6 in
          let first = one_number (def.Interface h.0) (def.Interface k.0) t h.5 k.5 in (
            h.3 ∙ ap (λ o. name ∷ o) rest.0 ∙ sym k.3,
            h.4 ∙ cons_same h.0 k.0 h.2 k.2 (ap value_of first) rest.1
                ∙ sym k.4,
          )

      same_results : (vs ws : List InterfaceType) (t : MaybeTree) → ResultsHaveTree b who vs t
          → ResultsHaveTree b who ws t → vs ≡ ws
      same_results vs ws no_tree h k = h ∙ sym k
      same_results vs ws (a_tree t) h k =
          h.1 ∙ ap (λ d. value_of d ∷ []) (one_number (def.Interface h.0) (def.Interface k.0) t h.2 k.2) ∙ sym k.1

      same_externs : (es fs : List (List ℕ × TypeDef)) (ts : Fields) → ExternsHaveTrees b who es ts
          → ExternsHaveTrees b who fs ts → es ≡ fs
      same_externs es fs no_fields h k = h ∙ sym k
      same_externs es fs (and_field name t ts) h k =
          h.2 ∙ named_same name h.0 k.0 h.1 k.1 (one_number h.0 k.0 t h.3 k.3) (same_externs h.1 k.1 ts h.4 k.4)
          ∙ sym k.2
