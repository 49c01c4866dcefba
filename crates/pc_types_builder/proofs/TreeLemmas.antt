-- Trees stay as the builder grows, whichever resources are known.
use Rattle.std.proofs.Common.{◌≡◌, ℕ, List, [], ◌∷◌, Option, Some, refl, sym, ap, ◌∙◌, subst}
use Rattle.std.proofs.Common.{true≢false, ◌<◌, length, arith}
use Rattle.pc_numbers.specs.declared.runtime.ResourceIndex.{ResourceIndex}
use Rattle.pc_types.specs.declared.parsed.CoreEntity.{CoreEntity}
use Rattle.pc_types.specs.declared.parsed.Entity.{Entity}
use Rattle.pc_types.specs.declared.parsed.TypeTable.{TypeTable}
use Rattle.pc_types.specs.declared.type_index.TypeFuncIndex.{TypeFuncIndex}
use Rattle.pc_types.specs.declared.type_index.TypeResourceTableIndex.{TypeResourceTableIndex}
use Rattle.pc_types.specs.declared.types.InterfaceType.{InterfaceType}
use Rattle.pc_types.specs.declared.types.TypeDef.{TypeDef}
use Rattle.pc_types.specs.declared.types.TypeDef.TheVariants as def
use Rattle.pc_types.specs.TypeTree.{Identity, Resource, CoreTree, TypeTree, Fields, Cases, Trees, MaybeTree, core_func}
use Rattle.pc_types.specs.TypeTree.{core_table, core_memory, core_global, core_tag, primitive, error_context, record_of}
use Rattle.pc_types.specs.TypeTree.{variant_of, list_of, tuple_of, flags_of, enum_of, option_of, result_of, own_of}
use Rattle.pc_types.specs.TypeTree.{borrow_of, stream_of, future_of, func_of, instance_of, component_of, module_of}
use Rattle.pc_types.specs.TypeTree.{resource_of, no_fields, and_field, no_cases, and_case, no_trees, and_tree, no_tree}
use Rattle.pc_types.specs.TypeTree.{a_tree, tree_of}
use Rattle.pc_types_lists.specs.Types.{Types, Grows, KeepsTypes}
use Rattle.pc_types_convert.specs.Plain.{Layers}
use Rattle.pc_types_convert.proofs.LikeLemmas.{like_keeps}
use Rattle.pc_types_builder.specs.Converted.{AreConverted, AreLike, AreTyped}
use Rattle.pc_types_lists.specs.Trees.{NumbersHandlesOf, CoreHasTree, ImportHasTree, ExportHasTree, HasTree}
use Rattle.pc_types_lists.specs.Trees.{FieldsHaveTrees, CasesHaveTrees, ValsHaveTrees, MaybeHasTree, ParamsHaveTrees}
use Rattle.pc_types_lists.specs.Trees.{ResultsHaveTree, ExternsHaveTrees}
use Rattle.pc_types_builder.specs.Trees.{IsEntry, IsEntity, identities}
use Rattle.pc_types.specs.declared.parsed.Entity.TheVariants as entity
use Rattle.pc_types.specs.TypeTree.{declared}
use Rattle.std.proofs.lemmas.Option.{slice_get_within}
use Rattle.pc_types_convert.specs.Needed.{entity_parts}
use Rattle.pc_types_lists.proofs.HeldLemmas.{func_number, is_a_func}
use Rattle.pc_types_lists.proofs.KeptTypes.{grows_keeps}
use Rattle.pc_types_lists.proofs.ZipLemmas.{all_zip_more}

module _ (old new : Types) (g : KeepsTypes old new) (who : ResourceIndex → Identity) where
  -- the number of handles keeps its resource
  handles_keep : (i : TypeResourceTableIndex) (r : Resource) → NumbersHandlesOf old who i r
      → NumbersHandlesOf new who i r
  handles_keep i r h = (h.0, g.resource_tables i.0 h.0 h.1, h.2)

  -- a core entity keeps its tree
  core_keeps : (e : CoreEntity) (t : CoreTree) → CoreHasTree old who e t → CoreHasTree new who e t
  core_keeps e (core_func s) h = (h.0, h.1, g.signatures h.0 s h.2)
  core_keeps e core_table h = h
  core_keeps e (core_memory is_wide) h = h
  core_keeps e core_global h = h
  core_keeps e core_tag h = h

  -- a module's import
  import_keeps : (i : List ℕ × List ℕ × CoreEntity) (j : List ℕ × List ℕ × CoreTree) → ImportHasTree old who i j
      → ImportHasTree new who i j
  import_keeps i j h = (h.0, h.1, core_keeps i.2 j.2 h.2)

  -- a module's export
  export_keeps : (i : List ℕ × CoreEntity) (j : List ℕ × CoreTree) → ExportHasTree old who i j
      → ExportHasTree new who i j
  export_keeps i j h = (h.0, core_keeps i.1 j.1 h.1)

  mutual
    -- a type keeps its tree
    pub tree_keeps : (d : TypeDef) (t : TypeTree) → HasTree old who d t → HasTree new who d t
    tree_keeps d (primitive p) h = h
    tree_keeps d (error_context c) h =
        (h.0, h.1, g.error_context_tables h.0.0 (record { instance = record { 0 = c } }) h.2)
    tree_keeps d (record_of fs) h = (h.0, h.1, h.2, g.records h.0.0 h.1 h.3, fields_keep h.1.fields fs h.4)
    tree_keeps d (variant_of cs) h = (h.0, h.1, h.2, g.variants h.0.0 h.1 h.3, cases_keep h.1.cases cs h.4)
    tree_keeps d (list_of t) h = (h.0, h.1, h.2, g.lists h.0.0 h.1 h.3, tree_keeps (def.Interface h.1.element) t h.4)
    tree_keeps d (tuple_of ts) h = (h.0, h.1, h.2, g.tuples h.0.0 h.1 h.3, vals_keep h.1.types ts h.4)
    tree_keeps d (flags_of names) h = (h.0, h.1, g.flags h.0.0 (record { names = names }) h.2)
    tree_keeps d (enum_of names) h = (h.0, h.1, g.enums h.0.0 (record { names = names }) h.2)
    tree_keeps d (option_of t) h = (h.0, h.1, h.2, g.options h.0.0 h.1 h.3, tree_keeps (def.Interface h.1.ty) t h.4)
    tree_keeps d (result_of ok err) h =
        (h.0, h.1, h.2, g.results h.0.0 h.1 h.3, maybe_tree_keeps h.1.ok ok h.4, maybe_tree_keeps h.1.err err h.5)
    tree_keeps d (own_of r) h = (h.0, h.1, handles_keep h.0 r h.2)
    tree_keeps d (borrow_of r) h = (h.0, h.1, handles_keep h.0 r h.2)
    tree_keeps d (stream_of t c) h =
        (h.0, h.1, h.2, g.stream_tables h.0.0 h.1 h.3, h.4, maybe_tree_keeps h.1.payload t h.5)
    tree_keeps d (future_of t c) h =
        (h.0, h.1, h.2, g.future_tables h.0.0 h.1 h.3, h.4, maybe_tree_keeps h.1.payload t h.5)
    tree_keeps d (func_of params result is_async) h = (
      h.0,
      h.1,
      h.2,
      h.3,
      h.4,
      g.funcs h.0.0 h.1 h.5,
      g.tuples h.1.params.0 h.2 h.6,
      g.tuples h.1.results.0 h.3 h.7,
      h.8,
      params_keep h.1.param_names h.2.types params h.9,
      results_keep h.3.types result h.10,
    )
    tree_keeps d (instance_of exports) h =
        (h.0, h.1, h.2, g.instances h.0.0 h.1 h.3, externs_keep h.1.exports exports h.4)
    tree_keeps d (component_of imports exports) h = (
      h.0,
      h.1,
      h.2,
      g.components h.0.0 h.1 h.3,
      externs_keep h.1.imports imports h.4,
      externs_keep h.1.exports
          exports h.5,
    )
    tree_keeps d (module_of imports exports) h = (
      h.0,
      h.1,
      h.2,
      g.modules h.0.0 h.1 h.3,
      all_zip_more (ImportHasTree old who) (ImportHasTree new who) import_keeps h.1.imports imports h.4,
      all_zip_more (ExportHasTree old who) (ExportHasTree new who) export_keeps h.1.exports exports h.5,
    )
    tree_keeps d (resource_of r) h = (h.0, h.1, handles_keep h.0 r h.2)

    -- fields keep their trees
    fields_keep : (fs : List (List ℕ × InterfaceType)) (ts : Fields) → FieldsHaveTrees old who fs ts
        → FieldsHaveTrees new who fs ts
    fields_keep fs no_fields h = h
    fields_keep fs (and_field name t ts) h =
        (h.0, h.1, h.2, tree_keeps (def.Interface h.0) t h.3, fields_keep h.1 ts h.4)

    -- cases
    cases_keep : (cs : List (List ℕ × Option InterfaceType)) (ts : Cases) → CasesHaveTrees old who cs ts
        → CasesHaveTrees new who cs ts
    cases_keep cs no_cases h = h
    cases_keep cs (and_case name t ts) h = (h.0, h.1, h.2, maybe_tree_keeps h.0 t h.3, cases_keep h.1 ts h.4)

    -- the types of a tuple
    vals_keep : (ws : List InterfaceType) (ts : Trees) → ValsHaveTrees old who ws ts → ValsHaveTrees new who ws ts
    vals_keep ws no_trees h = h
    vals_keep ws (and_tree t ts) h = (h.0, h.1, h.2, tree_keeps (def.Interface h.0) t h.3, vals_keep h.1 ts h.4)

    -- a value type that may be left out
    maybe_tree_keeps : (w : Option InterfaceType) (t : MaybeTree) → MaybeHasTree old who w t → MaybeHasTree new who w t
    maybe_tree_keeps w no_tree h = h
    maybe_tree_keeps w (a_tree t) h = (h.0, h.1, tree_keeps (def.Interface h.0) t h.2)

    -- parameters
    params_keep : (names : List (List ℕ)) (ws : List InterfaceType) (ts : Fields) → ParamsHaveTrees old who names ws ts
        → ParamsHaveTrees new who names ws ts
    params_keep names ws no_fields h = h
    params_keep names ws (and_field name t ts) h =
        (h.0, h.1, h.2, h.3, h.4, tree_keeps (def.Interface h.0) t h.5, params_keep h.1 h.2 ts h.6)

    -- the type that is returned
    results_keep : (ws : List InterfaceType) (t : MaybeTree) → ResultsHaveTree old who ws t
        → ResultsHaveTree new who ws t
    results_keep ws no_tree h = h
    results_keep ws (a_tree t) h = (h.0, h.1, tree_keeps (def.Interface h.0) t h.2)

    -- named types
    externs_keep : (es : List (List ℕ × TypeDef)) (ts : Fields) → ExternsHaveTrees old who es ts
        → ExternsHaveTrees new who es ts
    externs_keep es no_fields h = h
    externs_keep es (and_field name t ts) h = (h.0, h.1, h.2, tree_keeps h.0 t h.3, externs_keep h.1 ts h.4)

-- a type keeps its tree as the builder grows
pub tree_grows : (old new : Types) → Grows old new → (who : ResourceIndex → Identity) (d : TypeDef) (t : TypeTree)
    → HasTree old who d t → HasTree new who d t
tree_grows old new g = tree_keeps old new (grows_keeps old new g)

-- a type stays that of its entry as the builder grows
pub entry_grows : (old new : Types) → Grows old new → (t : TypeTable) (n : ℕ) (d : TypeDef) → IsEntry old t n d
    → IsEntry new t n d
entry_grows old new g t n d h who =
    let was = h who in (
      was.0,
      subst (λ r. tree_of (identities who r.known) r.current.0 t n ≡ Some was.0) (sym g.resources) was.1,
      tree_grows old new g who d was.0 was.2,
    )

-- the types so far stay those of their entries as the builder grows
pub typed_grows : (old new : Types) → Grows old new → (t : TypeTable) (done : List (Option TypeDef))
    → AreTyped old t done → AreTyped new t done
typed_grows old new g t done are = record {
  room = are.room;
  kinds = are.kinds;
  entries = λ n d found. entry_grows old new g t n d (are.entries n d found);
}

-- the types that entries had once keep their labels, whichever resources are known
pub likes_keep : (old new : Types) → KeepsTypes old new → (t : TypeTable) (like : List (Option TypeDef))
    → AreLike old t like → AreLike new t like
likes_keep old new keeps t like are = record {
  each = λ n d e found at. like_keeps old new keeps e d (are.each n d e found at);
}

-- so does all that was converted
pub converted_grows : (old new : Types) → Grows old new → (t : TypeTable) (c : Layers)
    → AreConverted old t c → AreConverted new t c
converted_grows old new g t c are = record {
  all = typed_grows old new g t c.all are.all;
  plain = typed_grows old new g t c.plain are.plain;
  same = are.same;
  layered = are.layered;
  noted = are.noted;
  like = likes_keep old new (grows_keeps old new g) t c.like are.like;
}

-- the number of a function type that has a tree is held
func_held_as : (b : Types) (who : ResourceIndex → Identity) (d : TypeDef) (i : TypeFuncIndex) (tree : TypeTree)
    → d ≡ def.ComponentFunc i → HasTree b who d tree
    → i.0 < length b.funcs
func_held_as b who d i (func_of params result is_async) is h =
    subst (λ n. n < length b.funcs) (ap func_number (sym h.4 ∙ is)) (slice_get_within b.funcs h.0.0 h.1 h.5)
func_held_as b who d i (primitive p) is h = absurd (true≢false (ap is_a_func (sym is ∙ h.1)))
func_held_as b who d i (error_context c) is h = absurd (true≢false (ap is_a_func (sym is ∙ h.1)))
func_held_as b who d i (record_of fs) is h = absurd (true≢false (ap is_a_func (sym is ∙ h.2)))
func_held_as b who d i (variant_of cs) is h = absurd (true≢false (ap is_a_func (sym is ∙ h.2)))
func_held_as b who d i (list_of x) is h = absurd (true≢false (ap is_a_func (sym is ∙ h.2)))
func_held_as b who d i (tuple_of ts) is h = absurd (true≢false (ap is_a_func (sym is ∙ h.2)))
func_held_as b who d i (flags_of names) is h = absurd (true≢false (ap is_a_func (sym is ∙ h.1)))
func_held_as b who d i (enum_of names) is h = absurd (true≢false (ap is_a_func (sym is ∙ h.1)))
func_held_as b who d i (option_of x) is h = absurd (true≢false (ap is_a_func (sym is ∙ h.2)))
func_held_as b who d i (result_of ok err) is h = absurd (true≢false (ap is_a_func (sym is ∙ h.2)))
func_held_as b who d i (own_of r) is h = absurd (true≢false (ap is_a_func (sym is ∙ h.1)))
func_held_as b who d i (borrow_of r) is h = absurd (true≢false (ap is_a_func (sym is ∙ h.1)))
func_held_as b who d i (stream_of x c) is h = absurd (true≢false (ap is_a_func (sym is ∙ h.2)))
func_held_as b who d i (future_of x c) is h = absurd (true≢false (ap is_a_func (sym is ∙ h.2)))
func_held_as b who d i (instance_of exports) is h = absurd (true≢false (ap is_a_func (sym is ∙ h.2)))
func_held_as b who d i (component_of imports exports) is h = absurd (true≢false (ap is_a_func (sym is ∙ h.2)))
func_held_as b who d i (module_of imports exports) is h = absurd (true≢false (ap is_a_func (sym is ∙ h.2)))
func_held_as b who d i (resource_of r) is h = absurd (true≢false (ap is_a_func (sym is ∙ h.1)))

-- the number of a type with the tree of a function is held
pub func_held : (b : Types) (t : TypeTable) (n : ℕ) (i : TypeFuncIndex) → IsEntry b t n (def.ComponentFunc i)
    → i.0 < length b.funcs
func_held b t n i h =
    let who = (λ (r : ResourceIndex). declared 0) in
    let x = h who in
    func_held_as b who (def.ComponentFunc i) i x.0 refl x.2

-- the first of some numbers
abbrev first_of : List ℕ → ℕ
first_of [] = 0
first_of (n ∷ ns) = n

-- the entity has the tree of the entry that it names
pub entity_is : (b : Types) (t : TypeTable) (e : Entity) (n : ℕ) (d : TypeDef) → entity_parts e ≡ n ∷ []
    → IsEntry b t n d → IsEntity b t e d
entity_is b t (entity.Func m) n d is h = subst (λ k. IsEntry b t k d) (sym (ap first_of is)) h
entity_is b t (entity.Instance m) n d is h = subst (λ k. IsEntry b t k d) (sym (ap first_of is)) h
entity_is b t (entity.Component m) n d is h = subst (λ k. IsEntry b t k d) (sym (ap first_of is)) h
entity_is b t (entity.Module m) n d is h = subst (λ k. IsEntry b t k d) (sym (ap first_of is)) h
entity_is b t (entity.Type_ m) n d is h = subst (λ k. IsEntry b t k d) (sym (ap first_of is)) h
entity_is b t entity.Value n d is h = absurd (omega (arith, ap length is))

-- the entry that an entity names has the entity's tree
pub entity_was : (b : Types) (t : TypeTable) (e : Entity) (n : ℕ) (d : TypeDef) → entity_parts e ≡ n ∷ []
    → IsEntity b t e d → IsEntry b t n d
entity_was b t (entity.Func m) n d is h = subst (λ k. IsEntry b t k d) (ap first_of is) h
entity_was b t (entity.Instance m) n d is h = subst (λ k. IsEntry b t k d) (ap first_of is) h
entity_was b t (entity.Component m) n d is h = subst (λ k. IsEntry b t k d) (ap first_of is) h
entity_was b t (entity.Module m) n d is h = subst (λ k. IsEntry b t k d) (ap first_of is) h
entity_was b t (entity.Type_ m) n d is h = subst (λ k. IsEntry b t k d) (ap first_of is) h
entity_was b t entity.Value n d is h = absurd (omega (arith, ap length is))
