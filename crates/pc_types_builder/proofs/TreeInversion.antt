-- The parts of an entry are in the builder where a type that has the entry's tree is.
use Rattle.std.proofs.Common.{◌≡◌, ℕ, List, [], ◌∷◌, Option, Some, None, refl, sym, ap, ◌∙◌, subst}
use Rattle.std.specs.Prelude.{option_and_then}
use Rattle.std.specs.Option.{option_map}
use Rattle.std.specs.List.{flat_map}
use Rattle.std.proofs.lemmas.Option.{none-some, same_Some}
use Rattle.pc_numbers.specs.declared.runtime.ResourceIndex.{ResourceIndex}
use Rattle.pc_types.specs.declared.parsed.DeclType.{DeclType}
use Rattle.pc_types.specs.declared.parsed.DeclType.TheVariants as entry
use Rattle.pc_types.specs.declared.parsed.Entity.{Entity}
use Rattle.pc_types.specs.declared.parsed.Entity.TheVariants as entity
use Rattle.pc_types.specs.declared.parsed.TypeTable.{TypeTable}
use Rattle.pc_types.specs.declared.parsed.ValType.{ValType}
use Rattle.pc_types.specs.declared.parsed.ValType.TheVariants as val
use Rattle.pc_types.specs.declared.types.InterfaceType.{InterfaceType}
use Rattle.pc_types.specs.declared.types.TypeDef.{TypeDef}
use Rattle.pc_types.specs.declared.types.TypeDef.TheVariants as def
use Rattle.pc_types.specs.TypeTree.{Identity, Resource, TypeTree, Fields, Cases, Trees, MaybeTree}
use Rattle.pc_types.specs.TypeTree.{record_of}
use Rattle.pc_types.specs.TypeTree.{variant_of, list_of, tuple_of, option_of, result_of, own_of}
use Rattle.pc_types.specs.TypeTree.{borrow_of, stream_of, future_of, func_of, instance_of, component_of}
use Rattle.pc_types.specs.TypeTree.{resource_of, and_field, and_case, and_tree}
use Rattle.pc_types.specs.TypeTree.{a_tree, val_tree, entity_tree}
use Rattle.pc_types.specs.TypeTree.{earlier_tree, maybe_tree, fields_tree, cases_tree, vals_tree, externs_tree}
use Rattle.pc_types.specs.TypeTree.{entry_tree, own_tree}
use Rattle.pc_types.specs.TypeTree.{borrow_tree}
use Rattle.pc_types_lists.specs.Types.{Types}
use Rattle.pc_types_lists.specs.Trees.{HasTree, FieldsHaveTrees}
use Rattle.pc_types_lists.specs.Trees.{CasesHaveTrees, ValsHaveTrees, MaybeHasTree, ParamsHaveTrees, ResultsHaveTree}
use Rattle.pc_types_lists.specs.Trees.{ExternsHaveTrees}
use Rattle.pc_types_convert.specs.Needed.{Each, parts_of, val_parts, maybe_parts, field_parts, case_parts, entity_parts}
use Rattle.pc_types_convert.specs.Needed.{extern_parts}
use Rattle.pc_types_convert.proofs.AmongLemmas.{each_append}

-- What an answer was made from.
pub map_inv : {A B : Type 0} (f : A → B) (o : Option A) (y : B) → option_map f o ≡ Some y → (x : A) × (o ≡ Some x)
    × (f x ≡ y)
map_inv f None y h = absurd (none-some y h)
map_inv f (Some x) y h = (x, refl, same_Some (f x) y h)

-- of two steps
pub then_inv : {A B : Type 0} (f : A → Option B) (o : Option A) (y : B) → option_and_then f o ≡ Some y → (x : A)
    × (o ≡ Some x) × (f x ≡ Some y)
then_inv f None y h = absurd (none-some y h)
then_inv f (Some x) y h = (x, refl, h)

-- of two parts
pub both_inv : {A B C : Type 0} (g : A → B → C) (o : Option A) (p : Option B) (y : C)
    → option_and_then (λ x. option_map (g x) p) o ≡ Some y
    → (x : A) × (z : B) × (o ≡ Some x) × (p ≡ Some z) × (g x z ≡ y)
both_inv g None p y h = absurd (none-some y h)
both_inv g (Some x) None y h = absurd (none-some y h)
both_inv g (Some x) (Some z) y h = (x, z, refl, refl, same_Some (g x z) y h)

-- of a handle that is owned
pub own_inv : (tree whole : TypeTree) → own_tree tree ≡ Some whole → (r : Resource) × (tree ≡ resource_of r)
    × (own_of r ≡ whole)
own_inv (resource_of r) whole h = (r, refl, same_Some (own_of r) whole h)
own_inv _ whole h = absurd (none-some whole h)

-- of a handle that is borrowed
pub borrow_inv : (tree whole : TypeTree) → borrow_tree tree ≡ Some whole → (r : Resource) × (tree ≡ resource_of r)
    × (borrow_of r ≡ whole)
borrow_inv (resource_of r) whole h = (r, refl, same_Some (borrow_of r) whole h)
borrow_inv _ whole h = absurd (none-some whole h)

module _ (b : Types) (who : ResourceIndex → Identity) (known : List (ℕ × Identity)) (c : ℕ) (t : TypeTable)
    (trees : List (Option TypeTree)) where
  -- the builder has a type with the tree of the entry of this number
  abbrev pub HasTypeOf : ℕ → Type 0
  HasTypeOf n = (d : TypeDef) × (tree : TypeTree) × (earlier_tree known c t trees n ≡ Some tree) × HasTree b who d tree

  -- what a value type names
  val_parts_have : (v : ValType) (d : TypeDef) (tree : TypeTree) → val_tree known c t trees v ≡ Some tree
      → HasTree b who d tree
      → Each HasTypeOf (val_parts v)
  val_parts_have (val.Prim p) d tree got h = tt
  val_parts_have (val.Type_ n) d tree got h = ((d, tree, got, h), tt)

  -- what one that may be left out names
  maybe_parts_have : (v : Option ValType) (w : Option InterfaceType) (tree : MaybeTree)
      → maybe_tree known c t trees v ≡ Some tree → MaybeHasTree b who w tree
      → Each HasTypeOf (maybe_parts v)
  maybe_parts_have None w tree got h = tt
  maybe_parts_have (Some v) w tree got h =
      let x = map_inv a_tree (val_tree known c t trees v) tree got in
      let k = subst (MaybeHasTree b who w) (sym x.2) h in
      val_parts_have v (def.Interface k.0) x.0 x.1 k.2

  -- what a result names
  results_parts_have : (v : Option ValType) (ws : List InterfaceType) (tree : MaybeTree)
      → maybe_tree known c t trees v ≡ Some tree
      → ResultsHaveTree b who ws tree → Each HasTypeOf (maybe_parts v)
  results_parts_have None ws tree got h = tt
  results_parts_have (Some v) ws tree got h =
      let x = map_inv a_tree (val_tree known c t trees v) tree got in
      let k = subst (ResultsHaveTree b who ws) (sym x.2) h in
      val_parts_have v (def.Interface k.0) x.0 x.1 k.2

  -- what fields name
  fields_parts_have : (fs : List (List ℕ × ValType)) (gs : List (List ℕ × InterfaceType)) (ts : Fields)
      → fields_tree known c t trees fs ≡ Some ts
      → FieldsHaveTrees b who gs ts → Each HasTypeOf (flat_map field_parts fs)
  fields_parts_have [] gs ts got h = tt
  fields_parts_have (f ∷ fs) gs ts got h =
      let x = both_inv (and_field f.0) (val_tree known c t trees f.1) (fields_tree known c t trees fs) ts got in
      let k = subst (FieldsHaveTrees b who gs) (sym x.4) h in
      each_append HasTypeOf (field_parts f) (flat_map field_parts fs)
      (val_parts_have f.1 (def.Interface k.0) x.0 x.2 k.3) (fields_parts_have fs k.1 x.1 x.3 k.4)

  -- what parameters name
  params_parts_have : (ps : List (List ℕ × ValType)) (names : List (List ℕ)) (ws : List InterfaceType) (ts : Fields)
      → fields_tree known c t trees ps ≡ Some ts → ParamsHaveTrees b who names ws ts
      → Each HasTypeOf (flat_map field_parts ps)
  params_parts_have [] names ws ts got h = tt
  params_parts_have (p ∷ ps) names ws ts got h =
      let x = both_inv (and_field p.0) (val_tree known c t trees p.1) (fields_tree known c t trees ps) ts got in
      let k = subst (ParamsHaveTrees b who names ws) (sym x.4) h in
      each_append HasTypeOf (field_parts p) (flat_map field_parts ps)
      (val_parts_have p.1 (def.Interface k.0) x.0 x.2 k.5) (params_parts_have ps k.1 k.2 x.1 x.3 k.6)

  -- what cases name
  cases_parts_have : (fs : List (List ℕ × Option ValType)) (gs : List (List ℕ × Option InterfaceType)) (ts : Cases)
      → cases_tree known c t trees fs ≡ Some ts
      → CasesHaveTrees b who gs ts → Each HasTypeOf (flat_map case_parts fs)
  cases_parts_have [] gs ts got h = tt
  cases_parts_have (f ∷ fs) gs ts got h =
      let x = both_inv (and_case f.0) (maybe_tree known c t trees f.1) (cases_tree known c t trees fs) ts got in
      let k = subst (CasesHaveTrees b who gs) (sym x.4) h in
      each_append HasTypeOf (case_parts f) (flat_map case_parts fs)
      (maybe_parts_have f.1 k.0 x.0 x.2 k.3) (cases_parts_have fs k.1 x.1 x.3 k.4)

  -- what the types of a tuple name
  vals_parts_have : (vs : List ValType) (ws : List InterfaceType) (ts : Trees) → vals_tree known c t trees vs ≡ Some ts
      → ValsHaveTrees b who ws ts → Each HasTypeOf (flat_map val_parts vs)
  vals_parts_have [] ws ts got h = tt
  vals_parts_have (v ∷ vs) ws ts got h =
      let x = both_inv and_tree (val_tree known c t trees v) (vals_tree known c t trees vs) ts got in
      let k = subst (ValsHaveTrees b who ws) (sym x.4) h in
      each_append HasTypeOf (val_parts v) (flat_map val_parts vs)
      (val_parts_have v (def.Interface k.0) x.0 x.2 k.3) (vals_parts_have vs k.1 x.1 x.3 k.4)

  -- what an entity names
  entity_parts_have : (e : Entity) (d : TypeDef) (tree : TypeTree) → entity_tree known c t trees e ≡ Some tree
      → HasTree b who d tree
      → Each HasTypeOf (entity_parts e)
  entity_parts_have (entity.Func n) d tree got h = ((d, tree, got, h), tt)
  entity_parts_have (entity.Instance n) d tree got h = ((d, tree, got, h), tt)
  entity_parts_have (entity.Component n) d tree got h = ((d, tree, got, h), tt)
  entity_parts_have (entity.Module n) d tree got h = ((d, tree, got, h), tt)
  entity_parts_have (entity.Type_ n) d tree got h = ((d, tree, got, h), tt)
  entity_parts_have entity.Value d tree got h = tt

  -- what named entities name
  externs_parts_have : (es : List (List ℕ × Entity)) (ds : List (List ℕ × TypeDef)) (ts : Fields)
      → externs_tree known c t trees es ≡ Some ts
      → ExternsHaveTrees b who ds ts → Each HasTypeOf (flat_map extern_parts es)
  externs_parts_have [] ds ts got h = tt
  externs_parts_have (e ∷ es) ds ts got h =
      let x = both_inv (and_field e.0) (entity_tree known c t trees e.1) (externs_tree known c t trees es) ts got in
      let k = subst (ExternsHaveTrees b who ds) (sym x.4) h in
      each_append HasTypeOf (extern_parts e) (flat_map extern_parts es)
      (entity_parts_have e.1 k.0 x.0 x.2 k.3) (externs_parts_have es k.1 x.1 x.3 k.4)

  -- where a type has the tree of an entry, there is a type with the tree of each entry that the entry names
  pub parts_have : (e : DeclType) (d : TypeDef) (tree : TypeTree) → entry_tree known c t trees e ≡ Some tree
      → HasTree b who d tree
      → Each HasTypeOf (parts_of e)
  parts_have entry.Resource d tree got h = tt
  parts_have (entry.Func params result is_async) d tree got h =
      let x = both_inv (λ (ps : Fields) (r : MaybeTree). func_of ps r is_async) (fields_tree known c t trees params)
      (maybe_tree known c t trees result) tree got in
      let k = subst (HasTree b who d) (sym x.4) h in
      each_append HasTypeOf (flat_map field_parts params) (maybe_parts result)
      (params_parts_have params k.1.param_names k.2.types x.0 x.2 k.9)
      (results_parts_have result k.3.types x.1 x.3 k.10)
  parts_have (entry.Val v) d tree got h = val_parts_have v d tree got h
  parts_have (entry.Record fields) d tree got h =
      let x = map_inv record_of (fields_tree known c t trees fields) tree got in
      let k = subst (HasTree b who d) (sym x.2) h in
      fields_parts_have fields k.1.fields x.0 x.1 k.4
  parts_have (entry.Variant cases) d tree got h =
      let x = map_inv variant_of (cases_tree known c t trees cases) tree got in
      let k = subst (HasTree b who d) (sym x.2) h in
      cases_parts_have cases k.1.cases x.0 x.1 k.4
  parts_have (entry.List v) d tree got h =
      let x = map_inv list_of (val_tree known c t trees v) tree got in
      let k = subst (HasTree b who d) (sym x.2) h in
      val_parts_have v (def.Interface k.1.element) x.0 x.1 k.4
  parts_have (entry.Tuple vs) d tree got h =
      let x = map_inv tuple_of (vals_tree known c t trees vs) tree got in
      let k = subst (HasTree b who d) (sym x.2) h in
      vals_parts_have vs k.1.types x.0 x.1 k.4
  parts_have (entry.Flags names) d tree got h = tt
  parts_have (entry.Enum names) d tree got h = tt
  parts_have (entry.Option v) d tree got h =
      let x = map_inv option_of (val_tree known c t trees v) tree got in
      let k = subst (HasTree b who d) (sym x.2) h in
      val_parts_have v (def.Interface k.1.ty) x.0 x.1 k.4
  parts_have (entry.Result ok err) d tree got h =
      let x = both_inv result_of (maybe_tree known c t trees ok) (maybe_tree known c t trees err) tree got in
      let k = subst (HasTree b who d) (sym x.4) h in
      each_append HasTypeOf (maybe_parts ok) (maybe_parts err)
      (maybe_parts_have ok k.1.ok x.0 x.2 k.4) (maybe_parts_have err k.1.err x.1 x.3 k.5)
  parts_have (entry.Own n) d tree got h =
      let x = then_inv own_tree (earlier_tree known c t trees n) tree got in
      let r = own_inv x.0 tree x.2 in
      let k = subst (HasTree b who d) (sym r.2) h in
      ((def.Resource k.0, resource_of r.0, x.1 ∙ ap Some r.1, (k.0, refl, k.2)), tt)
  parts_have (entry.Borrow n) d tree got h =
      let x = then_inv borrow_tree (earlier_tree known c t trees n) tree got in
      let r = borrow_inv x.0 tree x.2 in
      let k = subst (HasTree b who d) (sym r.2) h in
      ((def.Resource k.0, resource_of r.0, x.1 ∙ ap Some r.1, (k.0, refl, k.2)), tt)
  parts_have (entry.Stream v) d tree got h =
      let x = map_inv (λ (p : MaybeTree). stream_of p c) (maybe_tree known c t trees v) tree got in
      let k = subst (HasTree b who d) (sym x.2) h in
      maybe_parts_have v k.1.payload x.0 x.1 k.5
  parts_have (entry.Future v) d tree got h =
      let x = map_inv (λ (p : MaybeTree). future_of p c) (maybe_tree known c t trees v) tree got in
      let k = subst (HasTree b who d) (sym x.2) h in
      maybe_parts_have v k.1.payload x.0 x.1 k.5
  parts_have (entry.Instance exports) d tree got h =
      let x = map_inv instance_of (externs_tree known c t trees exports) tree got in
      let k = subst (HasTree b who d) (sym x.2) h in
      externs_parts_have exports k.1.exports x.0 x.1 k.4
  parts_have (entry.Component imports exports) d tree got h =
      let x = both_inv component_of (externs_tree known c t trees imports)
      (externs_tree known c t trees exports) tree got in
      let k = subst (HasTree b who d) (sym x.4) h in
      each_append HasTypeOf (flat_map extern_parts imports) (flat_map extern_parts exports)
      (externs_parts_have imports k.1.imports x.0 x.2 k.4) (externs_parts_have exports k.1.exports x.1 x.3 k.5)
  parts_have (entry.Module imports exports) d tree got h = tt
