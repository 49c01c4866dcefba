-- The facts of a number are those of its tree.
use Rattle.std.proofs.Common.{◌≡◌, ◌<◌, ℕ, zero, suc, length, List, [], ◌∷◌, Option, Some, refl, sym, ap, ◌∙◌, subst}
use Rattle.std.proofs.Common.{true≢false}
use Rattle.std.specs.Prelude.{slice_get}
use Rattle.std.specs.List.{AllZip}
use Rattle.std.proofs.lemmas.Option.{none-some, same_Some, slice_get_within}
use Rattle.std.proofs.lemmas.Slice.Zip.{AllZip-long}
use Rattle.pc_numbers.specs.declared.runtime.ResourceIndex.{ResourceIndex}
use Rattle.pc_types.specs.declared.parsed.PrimType.{PrimType}
use Rattle.pc_types.specs.declared.parsed.PrimType.TheVariants as prim
use Rattle.pc_types.specs.declared.type_index.TypeFuncIndex.{TypeFuncIndex}
use Rattle.pc_types.specs.declared.types.InterfaceType.{InterfaceType}
use Rattle.pc_types.specs.declared.types.InterfaceType.TheVariants as ty
use Rattle.pc_types.specs.declared.types.TypeFunc.{TypeFunc}
use Rattle.pc_types.specs.declared.types.TypeDef.TheVariants as def
use Rattle.pc_types.specs.TypeTree.{Identity, TypeTree, Fields, Cases, Trees, MaybeTree, primitive, error_context}
use Rattle.pc_types.specs.TypeTree.{record_of, variant_of, list_of, tuple_of, flags_of, enum_of, option_of, result_of}
use Rattle.pc_types.specs.TypeTree.{own_of, borrow_of, stream_of, future_of, func_of, instance_of, component_of}
use Rattle.pc_types.specs.TypeTree.{module_of, resource_of, no_fields, and_field, no_cases, and_case, no_trees}
use Rattle.pc_types.specs.TypeTree.{and_tree, no_tree, a_tree}
use Rattle.pc_types_lists.specs.declared.facts.TypeFacts.{TypeFacts}
use Rattle.pc_types_lists.specs.declared.table.FactTable.{FactTable}
use Rattle.pc_types_lists.specs.Facts.{a_list, facts_of, facts_of_all, facts_of_cases, facts_of_fields, facts_of_maybe, join}
use Rattle.pc_types_lists.specs.Table.{AreJoined, HasFacts, MayHaveFacts, FuncHas, TupleHas, RecordHas, VariantHas, ListHas}
use Rattle.pc_types_lists.specs.Table.{OptionHas, ResultHas}
use Rattle.pc_types_lists.proofs.Joining.{join_none}
use Rattle.pc_types_lists.specs.Types.{Types}
use Rattle.pc_types_lists.specs.Primitive.{plain_type}
use Rattle.pc_types_lists.specs.Trees.{HasTree, FieldsHaveTrees, CasesHaveTrees, ValsHaveTrees, MaybeHasTree}
use Rattle.pc_types_lists.specs.Trees.{ParamsHaveTrees, ResultsHaveTree}
use Rattle.pc_types_lists.specs.KeptFacts.{HaveFactsOf}
use Rattle.pc_types_lists.proofs.HeldLemmas.{value_of, is_value_type}
use Rattle.pc_types_lists.proofs.HeldLemmas.{is_a_func, func_number}

-- the item that stands in the second list where one stands in the first
zip_found : {A B : Type 0} (R : A → B → Type 0) (xs : List A) (ys : List B) → AllZip R xs ys → (n : ℕ) (x : A)
    → slice_get xs n ≡ Some x
    → (y : B) × (slice_get ys n ≡ Some y) × R x y
zip_found R [] ys h n x found = absurd (none-some x found)
zip_found R (a ∷ xs) [] h n x found = absurd h
zip_found R (a ∷ xs) (b ∷ ys) h zero x found = (b, refl, subst (λ v. R v b) (same_Some a x found) h.0)
zip_found R (a ∷ xs) (b ∷ ys) h (suc n) x found = zip_found R xs ys h.1 n x found

-- the facts under a number are those that the type under it has
zip_fact : {A B : Type 0} (R : A → B → Type 0) (xs : List A) (ys : List B) → AllZip R xs ys → (n : ℕ) (x : A) (y : B)
    → slice_get xs n ≡ Some x
    → slice_get ys n ≡ Some y → R x y
zip_fact R xs ys h n x y found is =
    let f = zip_found R xs ys h n x found in
    subst (R x) (same_Some f.0 y (sym f.1 ∙ is)) f.2

module _ (f : FactTable) where
  -- a primitive without a table
  plain_facts : (p : PrimType) (w : InterfaceType) (x : TypeFacts) → plain_type p ≡ Some w → HasFacts f w x
      → x ≡ facts_of (primitive p)
  plain_facts prim.Bool w x h k = subst (λ v. HasFacts f v x) (sym (same_Some ty.Bool w h)) k
  plain_facts prim.S8 w x h k = subst (λ v. HasFacts f v x) (sym (same_Some ty.S8 w h)) k
  plain_facts prim.U8 w x h k = subst (λ v. HasFacts f v x) (sym (same_Some ty.U8 w h)) k
  plain_facts prim.S16 w x h k = subst (λ v. HasFacts f v x) (sym (same_Some ty.S16 w h)) k
  plain_facts prim.U16 w x h k = subst (λ v. HasFacts f v x) (sym (same_Some ty.U16 w h)) k
  plain_facts prim.S32 w x h k = subst (λ v. HasFacts f v x) (sym (same_Some ty.S32 w h)) k
  plain_facts prim.U32 w x h k = subst (λ v. HasFacts f v x) (sym (same_Some ty.U32 w h)) k
  plain_facts prim.S64 w x h k = subst (λ v. HasFacts f v x) (sym (same_Some ty.S64 w h)) k
  plain_facts prim.U64 w x h k = subst (λ v. HasFacts f v x) (sym (same_Some ty.U64 w h)) k
  plain_facts prim.F32 w x h k = subst (λ v. HasFacts f v x) (sym (same_Some ty.F32 w h)) k
  plain_facts prim.F64 w x h k = subst (λ v. HasFacts f v x) (sym (same_Some ty.F64 w h)) k
  plain_facts prim.Char w x h k = subst (λ v. HasFacts f v x) (sym (same_Some ty.Char w h)) k
  plain_facts prim.String w x h k = subst (λ v. HasFacts f v x) (sym (same_Some ty.String w h)) k
  plain_facts prim.ErrorContext w x h k = absurd (none-some w h)

module _ (b : Types) (f : FactTable) (have : HaveFactsOf f b) (who : ResourceIndex → Identity) where
  mutual
    -- the facts of a value type are those of its tree
    pub value_facts : (w : InterfaceType) (x : TypeFacts) (t : TypeTree) → HasTree b who (def.Interface w) t
        → HasFacts f w x → x ≡ facts_of t
    value_facts w x (primitive p) h k = plain_facts f p h.0 x h.2 (subst (λ v. HasFacts f v x) (ap value_of h.1) k)
    value_facts w x (error_context c) h k = subst (λ v. HasFacts f v x) (ap value_of h.1) k
    value_facts w x (record_of fs) h k =
        let has = zip_fact (RecordHas f) b.records f.records have.records h.0.0 h.1 x h.3
        (subst (λ v. HasFacts f v x) (ap value_of h.2) k) in
        fields_facts h.1.fields x fs h.4 has
    value_facts w x (variant_of cs) h k =
        let has = zip_fact (VariantHas f) b.variants f.variants have.variants h.0.0 h.1 x h.3
        (subst (λ v. HasFacts f v x) (ap value_of h.2) k) in
        cases_facts h.1.cases x cs h.4 has
    value_facts w x (list_of t) h k =
        let has = zip_fact (ListHas f) b.lists f.lists have.lists h.0.0 h.1 x h.3
        (subst (λ v. HasFacts f v x) (ap value_of h.2) k) in
        has.2 ∙ ap (λ y. join a_list y) (value_facts h.1.element has.0 t h.4 has.1)
    value_facts w x (tuple_of ts) h k =
        let has = zip_fact (TupleHas f) b.tuples f.tuples have.tuples h.0.0 h.1 x h.3
        (subst (λ v. HasFacts f v x) (ap value_of h.2) k) in
        all_facts h.1.types x ts h.4 has
    value_facts w x (flags_of names) h k = subst (λ v. HasFacts f v x) (ap value_of h.1) k
    value_facts w x (enum_of names) h k = subst (λ v. HasFacts f v x) (ap value_of h.1) k
    value_facts w x (option_of t) h k =
        let has = zip_fact (OptionHas f) b.options f.options have.options h.0.0 h.1 x h.3
        (subst (λ v. HasFacts f v x) (ap value_of h.2) k) in
        value_facts h.1.ty x t h.4 has
    value_facts w x (result_of ok err) h k =
        let has = zip_fact (ResultHas f) b.results f.results have.results h.0.0 h.1 x h.3
        (subst (λ v. HasFacts f v x) (ap value_of h.2) k) in
        has.4
        ∙
        (λ i. join (maybe_value_facts h.1.ok has.0 ok h.4 has.2 i)
        (maybe_value_facts h.1.err has.1 err h.5 has.3 i))
    value_facts w x (own_of r) h k = subst (λ v. HasFacts f v x) (ap value_of h.1) k
    value_facts w x (borrow_of r) h k = subst (λ v. HasFacts f v x) (ap value_of h.1) k
    value_facts w x (stream_of t c) h k = subst (λ v. HasFacts f v x) (ap value_of h.2) k
    value_facts w x (future_of t c) h k = subst (λ v. HasFacts f v x) (ap value_of h.2) k
    value_facts w x (func_of params result is_async) h k = absurd (true≢false (ap is_value_type h.4))
    value_facts w x (instance_of exports) h k = absurd (true≢false (ap is_value_type h.2))
    value_facts w x (component_of imports exports) h k = absurd (true≢false (ap is_value_type h.2))
    value_facts w x (module_of imports exports) h k = absurd (true≢false (ap is_value_type h.2))
    value_facts w x (resource_of r) h k = absurd (true≢false (ap is_value_type h.1))

    -- fields
    fields_facts : (gs : List (List ℕ × InterfaceType)) (x : TypeFacts) (ts : Fields) → FieldsHaveTrees b who gs ts
        → AreJoined (λ (g : List ℕ × InterfaceType). HasFacts f g.1) gs x → x ≡ facts_of_fields ts
    fields_facts gs x no_fields h k = subst (λ l. AreJoined (λ (g : List ℕ × InterfaceType). HasFacts f g.1) l x) h k
    fields_facts gs x (and_field name t ts) h k =
        let j = subst (λ l. AreJoined (λ (g : List ℕ × InterfaceType). HasFacts f g.1) l x) h.2 k in
        j.4 ∙ (λ i. join (value_facts h.0 j.0 t h.3 j.2 i) (fields_facts h.1 j.1 ts h.4 j.3 i))

    -- cases
    cases_facts : (cs : List (List ℕ × Option InterfaceType)) (x : TypeFacts) (ts : Cases) → CasesHaveTrees b who cs ts
        → AreJoined (λ (c : List ℕ × Option InterfaceType). MayHaveFacts f c.1) cs x → x ≡ facts_of_cases ts
    cases_facts cs x no_cases h k =
        subst (λ l. AreJoined (λ (c : List ℕ × Option InterfaceType). MayHaveFacts f c.1) l x) h k
    cases_facts cs x (and_case name t ts) h k =
        let j = subst (λ l. AreJoined (λ (c : List ℕ × Option InterfaceType). MayHaveFacts f c.1) l x) h.2 k in
        j.4 ∙ (λ i. join (maybe_value_facts h.0 j.0 t h.3 j.2 i) (cases_facts h.1 j.1 ts h.4 j.3 i))

    -- the types of a tuple
    all_facts : (ws : List InterfaceType) (x : TypeFacts) (ts : Trees) → ValsHaveTrees b who ws ts
        → AreJoined (HasFacts f) ws x → x ≡ facts_of_all ts
    all_facts ws x no_trees h k = subst (λ l. AreJoined (HasFacts f) l x) h k
    all_facts ws x (and_tree t ts) h k =
        let j = subst (λ l. AreJoined (HasFacts f) l x) h.2 k in
        j.4 ∙ (λ i. join (value_facts h.0 j.0 t h.3 j.2 i) (all_facts h.1 j.1 ts h.4 j.3 i))

    -- a value type that may be left out
    maybe_value_facts : (w : Option InterfaceType) (x : TypeFacts) (t : MaybeTree) → MaybeHasTree b who w t
        → MayHaveFacts f w x → x ≡ facts_of_maybe t
    maybe_value_facts w x no_tree h k = subst (λ v. MayHaveFacts f v x) h k
    maybe_value_facts w x (a_tree t) h k = value_facts h.0 x t h.2 (subst (λ v. MayHaveFacts f v x) h.1 k)

  -- parameters
  params_facts : (names : List (List ℕ)) (ws : List InterfaceType) (x : TypeFacts) (ts : Fields)
      → ParamsHaveTrees b who names ws ts
      → AreJoined (HasFacts f) ws x → x ≡ facts_of_fields ts
  params_facts names ws x no_fields h k = subst (λ l. AreJoined (HasFacts f) l x) h.1 k
  params_facts names ws x (and_field name t ts) h k =
      let j = subst (λ l. AreJoined (HasFacts f) l x) h.4 k in
      j.4 ∙ (λ i. join (value_facts h.0 j.0 t h.5 j.2 i) (params_facts h.1 h.2 j.1 ts h.6 j.3 i))

  -- the type that is returned
  results_facts : (ws : List InterfaceType) (x : TypeFacts) (t : MaybeTree) → ResultsHaveTree b who ws t
      → AreJoined (HasFacts f) ws x → x ≡ facts_of_maybe t
  results_facts ws x no_tree h k = subst (λ l. AreJoined (HasFacts f) l x) h k
  results_facts ws x (a_tree t) h k =
      let j = subst (λ l. AreJoined (HasFacts f) l x) h.1 k in
      j.4 ∙ ap (join j.0) j.3 ∙ join_none j.0 ∙ value_facts h.0 j.0 t h.2 j.2

  -- the facts of a function type are those of its tree
  pub func_facts : (g : TypeFuncIndex) (x : TypeFacts) (t : TypeTree) → HasTree b who (def.ComponentFunc g) t
      → slice_get f.funcs g.0 ≡ Some x → x ≡ facts_of t
  func_facts g x (func_of params result is_async) h k =
      let has = zip_fact (FuncHas f) b.funcs f.funcs have.funcs h.0.0 h.1 x h.5
      (subst (λ n. slice_get f.funcs n ≡ Some x) (ap func_number h.4) k) in
      let ps = zip_fact (TupleHas f) b.tuples f.tuples have.tuples h.1.params.0 h.2 has.0 h.6 has.2 in
      let rs = zip_fact (TupleHas f) b.tuples f.tuples have.tuples h.1.results.0 h.3 has.1 h.7 has.3 in
      has.4
      ∙
      (λ i. join (params_facts h.1.param_names h.2.types has.0 params h.9 ps i)
      (results_facts h.3.types has.1 result h.10 rs i))
  func_facts g x (primitive p) h k = absurd (true≢false (ap is_a_func h.1))
  func_facts g x (error_context c) h k = absurd (true≢false (ap is_a_func h.1))
  func_facts g x (record_of fs) h k = absurd (true≢false (ap is_a_func h.2))
  func_facts g x (variant_of cs) h k = absurd (true≢false (ap is_a_func h.2))
  func_facts g x (list_of y) h k = absurd (true≢false (ap is_a_func h.2))
  func_facts g x (tuple_of ts) h k = absurd (true≢false (ap is_a_func h.2))
  func_facts g x (flags_of names) h k = absurd (true≢false (ap is_a_func h.1))
  func_facts g x (enum_of names) h k = absurd (true≢false (ap is_a_func h.1))
  func_facts g x (option_of y) h k = absurd (true≢false (ap is_a_func h.2))
  func_facts g x (result_of ok err) h k = absurd (true≢false (ap is_a_func h.2))
  func_facts g x (own_of r) h k = absurd (true≢false (ap is_a_func h.1))
  func_facts g x (borrow_of r) h k = absurd (true≢false (ap is_a_func h.1))
  func_facts g x (stream_of y c) h k = absurd (true≢false (ap is_a_func h.2))
  func_facts g x (future_of y c) h k = absurd (true≢false (ap is_a_func h.2))
  func_facts g x (instance_of exports) h k = absurd (true≢false (ap is_a_func h.2))
  func_facts g x (component_of imports exports) h k = absurd (true≢false (ap is_a_func h.2))
  func_facts g x (module_of imports exports) h k = absurd (true≢false (ap is_a_func h.2))
  func_facts g x (resource_of r) h k = absurd (true≢false (ap is_a_func h.1))

-- the tuples of a function type that is held are held
pub func_tuples : (a b : Types) (f : FactTable) → b ≡ a → HaveFactsOf f b → (n : ℕ) (g : TypeFunc)
    → slice_get b.funcs n ≡ Some g
    → (g.params.0 < length a.tuples) × (g.results.0 < length a.tuples)
func_tuples a b f is have n g found =
    let has = zip_found (FuncHas f) b.funcs f.funcs have.funcs n g found in
    let long = AllZip-long (TupleHas f) b.tuples f.tuples have.tuples ∙ ap (λ c. length c.tuples) is in (
      subst (λ m. g.params.0 < m) long (slice_get_within f.tuples g.params.0 has.2.0 has.2.2),
      subst (λ m. g.results.0 < m) long (slice_get_within f.tuples g.results.0 has.2.1 has.2.3),
    )
