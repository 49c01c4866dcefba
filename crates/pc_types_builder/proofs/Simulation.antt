-- What an entry is in the builder has the entry's tree, where its parts have theirs.
use Rattle.std.proofs.Common.{◌≡◌, ℕ, ◌+◌, Bool, List, [], ◌∷◌, ◌++◌, length, zero, suc, Option, Some, None, refl, sym}
use Rattle.std.proofs.Common.{ap, ◌∙◌, subst, arith, ◌==◌, if◌then◌else◌, true, false, true≢false}
use Rattle.std.specs.Prelude.{slice_get, option_and_then}
use Rattle.std.specs.Option.{option_map}
use Rattle.std.specs.List.{AllZip}
use Rattle.std.specs.Cmp.{nat_eq_equiv}
use Rattle.std.proofs.lemmas.List.{length-append}
use Rattle.std.proofs.lemmas.Option.{none-some, same_Some}
use Rattle.pc_entity.specs.Lists.{Kept, map_all, names_of}
use Rattle.pc_entity.proofs.Growing.{append_kept, kept_refl, kept_trans, slice_get-append_seam}
use Rattle.pc_types.specs.declared.parsed.PrimType.{PrimType}
use Rattle.pc_types.specs.declared.parsed.PrimType.TheVariants as prim
use Rattle.pc_types.specs.declared.parsed.ValType.TheVariants as val
use Rattle.pc_types.specs.declared.parsed.DeclType.{DeclType}
use Rattle.pc_types.specs.declared.parsed.DeclType.TheVariants as entry
use Rattle.pc_types.specs.declared.parsed.Entity.TheVariants as entity
use Rattle.pc_numbers.specs.declared.runtime.ResourceIndex.{ResourceIndex}
use Rattle.pc_types.specs.declared.parsed.CoreEntity.{CoreEntity}
use Rattle.pc_types.specs.declared.parsed.CoreEntity.TheVariants as core
use Rattle.pc_types.specs.declared.parsed.Entity.{Entity}
use Rattle.pc_types.specs.declared.parsed.TypeTable.{TypeTable}
use Rattle.pc_types.specs.declared.parsed.ValType.{ValType}
use Rattle.pc_types.specs.declared.type_index.TypeResourceTableIndex.{TypeResourceTableIndex}
use Rattle.pc_types.specs.declared.types.InterfaceType.{InterfaceType}
use Rattle.pc_types.specs.declared.types.InterfaceType.TheVariants as ty
use Rattle.pc_types.specs.declared.types.TypeDef.{TypeDef}
use Rattle.pc_types.specs.declared.types.TypeDef.TheVariants as def
use Rattle.pc_types.specs.TypeTree.{Identity, Resource, CoreTree, TypeTree, Fields, Cases, Trees, MaybeTree, core_func}
use Rattle.pc_types.specs.TypeTree.{core_table, core_memory, core_global, core_tag, primitive, error_context, record_of}
use Rattle.pc_types.specs.TypeTree.{variant_of, list_of, tuple_of, flags_of, enum_of, option_of, result_of, own_of}
use Rattle.pc_types.specs.TypeTree.{borrow_of, stream_of, future_of, func_of, instance_of, component_of, module_of}
use Rattle.pc_types.specs.TypeTree.{resource_of, no_fields, and_field, no_cases, and_case, no_trees, and_tree, no_tree}
use Rattle.pc_types.specs.TypeTree.{a_tree, trees_from, val_tree, entity_tree}
use Rattle.pc_types.specs.TypeTree.{earlier_tree, maybe_tree, fields_tree, cases_tree, vals_tree, externs_tree}
use Rattle.pc_types.specs.TypeTree.{entry_tree, core_tree, module_import_tree, module_export_tree, own_tree}
use Rattle.pc_types.specs.TypeTree.{borrow_tree, resource_from, identity_of}
use Rattle.pc_types_lists.specs.Types.{Types}
use Rattle.pc_types_lists.specs.Known.{resource_of as known_resource}
use Rattle.pc_types_lists.specs.Trees.{AreHandlesOf, NumbersHandlesOf, CoreHasTree, ImportHasTree, ExportHasTree, HasTree}
use Rattle.pc_types_lists.specs.Trees.{FieldsHaveTrees, CasesHaveTrees, ValsHaveTrees, MaybeHasTree, ParamsHaveTrees}
use Rattle.pc_types_lists.specs.Trees.{ResultsHaveTree, ExternsHaveTrees}
use Rattle.pc_types_builder.specs.Trees.{IsValue, identities, trees_in}
use Rattle.pc_types_convert.specs.Parts.{PrimIs, ValIs, MaybeIs, FieldIs, CaseIs, EntityIs, ExternIs}
use Rattle.pc_types_convert.specs.Entries.{ReturnsAre, CoreIs, ImportIs, ExportIs, EntryIs, handles_of, handles_from}

-- the identity of a known resource is that of the resource
pub known_identity : (who : ResourceIndex → Identity) (known : List (ℕ × ResourceIndex)) (n : ℕ)
    → identity_of (identities who known) n ≡ option_map who (known_resource known n)
known_identity who [] n = refl
known_identity who (k ∷ known) n = first (k.0 == n) (n == k.0) (nat_eq_equiv.symm k.0 n) (known_identity who known n)
  where
    chosen : (x : Bool) → identity_of (identities who known) n ≡ option_map who (known_resource known n)
        → (if x then Some (who k.1) else identity_of (identities who known) n)
        ≡ option_map who (if x then Some k.1 else known_resource known n)
    chosen true later = refl
    chosen false later = later

    -- the first known resource is the one, or it is among the others
    first : (x y : Bool) → x ≡ y → identity_of (identities who known) n ≡ option_map who (known_resource known n)
        → (if x then Some (who k.1) else identity_of (identities who known) n)
        ≡ option_map who (if y then Some k.1 else known_resource known n)
    first x y same later =
        subst (λ z. (if z then Some (who k.1) else identity_of (identities who known) n) ≡ option_map who
        (if y then Some k.1 else known_resource known n))
        (sym same) (chosen y later)

module _ (b : Types) (who : ResourceIndex → Identity) (t : TypeTable) (done : List (Option TypeDef))
    (trees : List (Option TypeTree))
    (parts : (n : ℕ) (d : TypeDef) → slice_get done n ≡ Some (Some d) → (tree : TypeTree)
    × (earlier_tree (identities who b.resources.known) b.resources.current.0 t trees n ≡ Some tree)
    × HasTree b who d tree) where
  -- a value type
  pub val_has : (v : ValType) (w : InterfaceType) → ValIs b done v w
      → (tree : TypeTree) × (val_tree (identities who b.resources.known) b.resources.current.0 t trees v ≡ Some tree)
      × HasTree b who (def.Interface w) tree
  val_has (val.Prim prim.Bool) w h = (primitive prim.Bool, refl, (ty.Bool, ap def.Interface h, refl))
  val_has (val.Prim prim.S8) w h = (primitive prim.S8, refl, (ty.S8, ap def.Interface h, refl))
  val_has (val.Prim prim.U8) w h = (primitive prim.U8, refl, (ty.U8, ap def.Interface h, refl))
  val_has (val.Prim prim.S16) w h = (primitive prim.S16, refl, (ty.S16, ap def.Interface h, refl))
  val_has (val.Prim prim.U16) w h = (primitive prim.U16, refl, (ty.U16, ap def.Interface h, refl))
  val_has (val.Prim prim.S32) w h = (primitive prim.S32, refl, (ty.S32, ap def.Interface h, refl))
  val_has (val.Prim prim.U32) w h = (primitive prim.U32, refl, (ty.U32, ap def.Interface h, refl))
  val_has (val.Prim prim.S64) w h = (primitive prim.S64, refl, (ty.S64, ap def.Interface h, refl))
  val_has (val.Prim prim.U64) w h = (primitive prim.U64, refl, (ty.U64, ap def.Interface h, refl))
  val_has (val.Prim prim.F32) w h = (primitive prim.F32, refl, (ty.F32, ap def.Interface h, refl))
  val_has (val.Prim prim.F64) w h = (primitive prim.F64, refl, (ty.F64, ap def.Interface h, refl))
  val_has (val.Prim prim.Char) w h = (primitive prim.Char, refl, (ty.Char, ap def.Interface h, refl))
  val_has (val.Prim prim.String) w h = (primitive prim.String, refl, (ty.String, ap def.Interface h, refl))
  val_has (val.Prim prim.ErrorContext) w h =
      (error_context b.resources.current.0, refl, (h.0, ap def.Interface h.1, h.2))
  val_has (val.Type_ n) w h = parts n (def.Interface w) h

  -- one that may be left out
  maybe_has : (v : Option ValType) (w : Option InterfaceType) → MaybeIs b done v w
      → (tree : MaybeTree) × (maybe_tree (identities who b.resources.known) b.resources.current.0 t trees v ≡ Some tree)
      × MaybeHasTree b who w tree
  maybe_has None None h = (no_tree, refl, refl)
  maybe_has None (Some w) h = absurd h
  maybe_has (Some v) None h = absurd h
  maybe_has (Some v) (Some w) h =
      let x = val_has v w h in
      (a_tree x.0, rw x.1 refl, (w, refl, x.2))

  -- fields
  fields_have : (fs : List (List ℕ × ValType)) (gs : List (List ℕ × InterfaceType)) → AllZip (FieldIs b done) fs gs
      → (ts : Fields) × (fields_tree (identities who b.resources.known) b.resources.current.0 t trees fs ≡ Some ts)
      × FieldsHaveTrees b who gs ts
  fields_have [] [] h = (no_fields, refl, refl)
  fields_have [] (g ∷ gs) h = absurd h
  fields_have (f ∷ fs) [] h = absurd h
  fields_have (f ∷ fs) (g ∷ gs) h =
      let x = val_has f.1 g.1 h.0.1 in
      let rest = fields_have fs gs h.1 in
      (and_field f.0 x.0 rest.0, rw (x.1, rest.1) refl, (g.1, gs, ap (λ n. (n, g.1) ∷ gs) (sym h.0.0), x.2, rest.2))

  -- cases
  cases_have : (fs : List (List ℕ × Option ValType)) (gs : List (List ℕ × Option InterfaceType))
      → AllZip (CaseIs b done) fs gs
      → (ts : Cases) × (cases_tree (identities who b.resources.known) b.resources.current.0 t trees fs ≡ Some ts)
      × CasesHaveTrees b who gs ts
  cases_have [] [] h = (no_cases, refl, refl)
  cases_have [] (g ∷ gs) h = absurd h
  cases_have (f ∷ fs) [] h = absurd h
  cases_have (f ∷ fs) (g ∷ gs) h =
      let x = maybe_has f.1 g.1 h.0.1 in
      let rest = cases_have fs gs h.1 in
      (and_case f.0 x.0 rest.0, rw (x.1, rest.1) refl, (g.1, gs, ap (λ n. (n, g.1) ∷ gs) (sym h.0.0), x.2, rest.2))

  -- the types of a tuple
  vals_have : (vs : List ValType) (ws : List InterfaceType) → AllZip (ValIs b done) vs ws
      → (ts : Trees) × (vals_tree (identities who b.resources.known) b.resources.current.0 t trees vs ≡ Some ts)
      × ValsHaveTrees b who ws ts
  vals_have [] [] h = (no_trees, refl, refl)
  vals_have [] (w ∷ ws) h = absurd h
  vals_have (v ∷ vs) [] h = absurd h
  vals_have (v ∷ vs) (w ∷ ws) h =
      let x = val_has v w h.0 in
      let rest = vals_have vs ws h.1 in
      (and_tree x.0 rest.0, rw (x.1, rest.1) refl, (w, ws, refl, x.2, rest.2))

  -- parameters
  params_have : (ps : List (List ℕ × ValType)) (ws : List InterfaceType)
      → AllZip (λ (p : List ℕ × ValType) (w : InterfaceType). ValIs b done p.1 w) ps ws
      → (ts : Fields) × (fields_tree (identities who b.resources.known) b.resources.current.0 t trees ps ≡ Some ts)
      × ParamsHaveTrees b who (names_of ps) ws ts
  params_have [] [] h = (no_fields, refl, (refl, refl))
  params_have [] (w ∷ ws) h = absurd h
  params_have (p ∷ ps) [] h = absurd h
  params_have (p ∷ ps) (w ∷ ws) h =
      let x = val_has p.1 w h.0 in
      let rest = params_have ps ws h.1 in
      (and_field p.0 x.0 rest.0, rw (x.1, rest.1) refl, (w, names_of ps, ws, refl, refl, x.2, rest.2))

  -- the type that is returned
  results_have : (v : Option ValType) (ws : List InterfaceType) → ReturnsAre b done v ws
      → (tree : MaybeTree) × (maybe_tree (identities who b.resources.known) b.resources.current.0 t trees v ≡ Some tree)
      × ResultsHaveTree b who ws tree
  results_have None ws h = (no_tree, refl, h)
  results_have (Some v) ws h =
      let x = val_has v h.0 h.2 in
      (a_tree x.0, rw x.1 refl, (h.0, h.1, x.2))

  -- an entity
  pub entity_has : (e : Entity) (d : TypeDef) → EntityIs done e d
      → (tree : TypeTree) × (entity_tree (identities who b.resources.known) b.resources.current.0 t trees e ≡ Some tree)
      × HasTree b who d tree
  entity_has (entity.Func n) d h = parts n d h
  entity_has (entity.Instance n) d h = parts n d h
  entity_has (entity.Component n) d h = parts n d h
  entity_has (entity.Module n) d h = parts n d h
  entity_has (entity.Type_ n) d h = parts n d h
  entity_has entity.Value d h = absurd h

  -- named entities
  externs_have : (es : List (List ℕ × Entity)) (ds : List (List ℕ × TypeDef)) → AllZip (ExternIs done) es ds
      → (ts : Fields) × (externs_tree (identities who b.resources.known) b.resources.current.0 t trees es ≡ Some ts)
      × ExternsHaveTrees b who ds ts
  externs_have [] [] h = (no_fields, refl, refl)
  externs_have [] (d ∷ ds) h = absurd h
  externs_have (e ∷ es) [] h = absurd h
  externs_have (e ∷ es) (d ∷ ds) h =
      let x = entity_has e.1 d.1 h.0.1 in
      let rest = externs_have es ds h.1 in
      (and_field e.0 x.0 rest.0, rw (x.1, rest.1) refl, (d.1, ds, ap (λ n. (n, d.1) ∷ ds) (sym h.0.0), x.2, rest.2))

  -- a core entity
  core_has : (e f : CoreEntity) → CoreIs b t e f → (tree : CoreTree) × (core_tree t e ≡ Some tree)
      × CoreHasTree b who f tree
  core_has (core.Func s) f h = (core_func h.1, rw h.3 refl, (h.0, h.2, h.4))
  core_has core.Table f h = (core_table, refl, h)
  core_has (core.Memory is_wide) f h = (core_memory is_wide, refl, h)
  core_has core.Global f h = (core_global, refl, h)
  core_has core.Tag f h = (core_tag, refl, h)

  -- the imports of a module
  imports_have : (is js : List (List ℕ × List ℕ × CoreEntity)) → AllZip (ImportIs b t) is js
      → (ts : List (List ℕ × List ℕ × CoreTree)) × (map_all (module_import_tree t) is ≡ Some ts)
      × AllZip (ImportHasTree b who) js ts
  imports_have [] [] h = ([], refl, tt)
  imports_have [] (j ∷ js) h = absurd h
  imports_have (i ∷ is) [] h = absurd h
  imports_have (i ∷ is) (j ∷ js) h =
      let x = core_has i.2 j.2 h.0.2 in
      let rest = imports_have is js h.1 in
      ((i.0, i.1, x.0) ∷ rest.0, rw (x.1, rest.1) refl, ((sym h.0.0, sym h.0.1, x.2), rest.2))

  -- the exports of a module
  exports_have : (es fs : List (List ℕ × CoreEntity)) → AllZip (ExportIs b t) es fs
      → (ts : List (List ℕ × CoreTree)) × (map_all (module_export_tree t) es ≡ Some ts)
      × AllZip (ExportHasTree b who) fs ts
  exports_have [] [] h = ([], refl, tt)
  exports_have [] (f ∷ fs) h = absurd h
  exports_have (e ∷ es) [] h = absurd h
  exports_have (e ∷ es) (f ∷ fs) h =
      let x = core_has e.1 f.1 h.0.1 in
      let rest = exports_have es fs h.1 in
      ((e.0, x.0) ∷ rest.0, rw (x.1, rest.1) refl, ((sym h.0.0, x.2), rest.2))

  -- the handles of the resource of a number are those of the resource in its tree
  handles_have : (n : ℕ) → AreHandlesOf b who (handles_of b.resources n)
      (resource_from b.resources.current.0 n (identity_of (identities who b.resources.known) n))
  handles_have n =
      subst (λ o. AreHandlesOf b who (handles_of b.resources n) (resource_from b.resources.current.0 n o))
      (sym (known_identity who b.resources.known n))
      (by (known_resource b.resources.known n))
    where
      by : (o : Option ResourceIndex)
          → AreHandlesOf b who (handles_from b.resources n o) (resource_from b.resources.current.0 n (option_map who o))
      by None = refl
      by (Some r) = (refl, refl)

  -- whether a type is that of handles
  abbrev is_a_resource : TypeDef → Bool
  is_a_resource (def.Resource i) = true
  is_a_resource _ = false

  -- a done resource has the tree of a resource
  resource_tree : (d : TypeDef) (i : TypeResourceTableIndex) (tree : TypeTree) → d ≡ def.Resource i
      → HasTree b who d tree
      → (r : Resource) × (tree ≡ resource_of r) × NumbersHandlesOf b who i r
  resource_tree d i (resource_of r) is h =
      (r, refl, subst (λ j. NumbersHandlesOf b who j r) (same_resource h.0 i (sym h.1 ∙ is)) h.2)
    where
      same_resource : (j k : TypeResourceTableIndex) → def.Resource j ≡ def.Resource k → j ≡ k
      same_resource j k same = ap number same
        where
          number : TypeDef → TypeResourceTableIndex
          number (def.Resource l) = l
          number _ = j
  resource_tree d i (primitive p) is h = absurd (true≢false (ap is_a_resource (sym is ∙ h.1)))
  resource_tree d i (error_context c) is h = absurd (true≢false (ap is_a_resource (sym is ∙ h.1)))
  resource_tree d i (record_of fs) is h = absurd (true≢false (ap is_a_resource (sym is ∙ h.2)))
  resource_tree d i (variant_of cs) is h = absurd (true≢false (ap is_a_resource (sym is ∙ h.2)))
  resource_tree d i (list_of x) is h = absurd (true≢false (ap is_a_resource (sym is ∙ h.2)))
  resource_tree d i (tuple_of ts) is h = absurd (true≢false (ap is_a_resource (sym is ∙ h.2)))
  resource_tree d i (flags_of names) is h = absurd (true≢false (ap is_a_resource (sym is ∙ h.1)))
  resource_tree d i (enum_of names) is h = absurd (true≢false (ap is_a_resource (sym is ∙ h.1)))
  resource_tree d i (option_of x) is h = absurd (true≢false (ap is_a_resource (sym is ∙ h.2)))
  resource_tree d i (result_of ok err) is h = absurd (true≢false (ap is_a_resource (sym is ∙ h.2)))
  resource_tree d i (own_of r) is h = absurd (true≢false (ap is_a_resource (sym is ∙ h.1)))
  resource_tree d i (borrow_of r) is h = absurd (true≢false (ap is_a_resource (sym is ∙ h.1)))
  resource_tree d i (stream_of x c) is h = absurd (true≢false (ap is_a_resource (sym is ∙ h.2)))
  resource_tree d i (future_of x c) is h = absurd (true≢false (ap is_a_resource (sym is ∙ h.2)))
  resource_tree d i (func_of params result is_async) is h = absurd (true≢false (ap is_a_resource (sym is ∙ h.4)))
  resource_tree d i (instance_of exports) is h = absurd (true≢false (ap is_a_resource (sym is ∙ h.2)))
  resource_tree d i (component_of imports exports) is h = absurd (true≢false (ap is_a_resource (sym is ∙ h.2)))
  resource_tree d i (module_of imports exports) is h = absurd (true≢false (ap is_a_resource (sym is ∙ h.2)))

  -- the type has the entry's tree
  pub entry_has : (n : ℕ) (e : DeclType) (d : TypeDef) → length trees ≡ n → EntryIs b done t n e d
      → (tree : TypeTree) × (entry_tree (identities who b.resources.known) b.resources.current.0 t trees e ≡ Some tree)
      × HasTree b who d tree
  entry_has n entry.Resource d len h = (
    resource_of
        (resource_from b.resources.current.0 (length trees)
        (identity_of (identities who b.resources.known) (length trees))),
    refl,
    (
      h.0,
      h.1,
      (
        handles_of b.resources n,
        h.2,
        subst (λ m. AreHandlesOf b who (handles_of b.resources n)
            (resource_from b.resources.current.0 m (identity_of (identities who b.resources.known) m))) (sym len)
            (handles_have n),
      ),
    ),
  )
  entry_has n (entry.Func params result is_async) d len h =
      let f = h.2 in
      let ps = params_have params f.1.types f.8 in
      let r = results_have result f.2.types f.9 in (
        func_of ps.0 r.0 is_async,
        rw (ps.1, r.1) refl,
        (
          h.0,
          f.0,
          f.1,
          f.2,
          h.1,
          f.3,
          f.4,
          f.5,
          f.7,
          subst (λ names. ParamsHaveTrees b who names f.1.types ps.0) (sym f.6) ps.2,
          r.2,
        ),
      )
  entry_has n (entry.Val v) d len h =
      let x = val_has v h.0 h.2 in
      (x.0, x.1, subst (λ e. HasTree b who e x.0) (sym h.1) x.2)
  entry_has n (entry.Record fields) d len h =
      let x = fields_have fields h.1.fields h.4 in
      (record_of x.0, rw x.1 refl, (h.0, h.1, h.2, h.3, x.2))
  entry_has n (entry.Variant cases) d len h =
      let x = cases_have cases h.1.cases h.4 in
      (variant_of x.0, rw x.1 refl, (h.0, h.1, h.2, h.3, x.2))
  entry_has n (entry.List v) d len h =
      let x = val_has v h.1.element h.4 in
      (list_of x.0, rw x.1 refl, (h.0, h.1, h.2, h.3, x.2))
  entry_has n (entry.Tuple vs) d len h =
      let x = vals_have vs h.1.types h.4 in
      (tuple_of x.0, rw x.1 refl, (h.0, h.1, h.2, h.3, x.2))
  entry_has n (entry.Flags names) d len h = (flags_of names, refl, h)
  entry_has n (entry.Enum names) d len h = (enum_of names, refl, h)
  entry_has n (entry.Option v) d len h =
      let x = val_has v h.1.ty h.4 in
      (option_of x.0, rw x.1 refl, (h.0, h.1, h.2, h.3, x.2))
  entry_has n (entry.Result ok err) d len h =
      let x = maybe_has ok h.1.ok h.4 in
      let y = maybe_has err h.1.err h.5 in
      (result_of x.0 y.0, rw (x.1, y.1) refl, (h.0, h.1, h.2, h.3, x.2, y.2))
  entry_has n (entry.Own m) d len h =
      let x = parts m (def.Resource h.0) h.2 in
      let r = resource_tree (def.Resource h.0) h.0 x.0 refl x.2 in
      (own_of r.0, ap (option_and_then own_tree) x.1 ∙ ap own_tree r.1, (h.0, h.1, r.2))
  entry_has n (entry.Borrow m) d len h =
      let x = parts m (def.Resource h.0) h.2 in
      let r = resource_tree (def.Resource h.0) h.0 x.0 refl x.2 in
      (borrow_of r.0, ap (option_and_then borrow_tree) x.1 ∙ ap borrow_tree r.1, (h.0, h.1, r.2))
  entry_has n (entry.Stream v) d len h =
      let x = maybe_has v h.1.payload h.5 in
      (stream_of x.0 b.resources.current.0, rw x.1 refl, (h.0, h.1, h.2, h.3, ap (λ i. i.0) h.4, x.2))
  entry_has n (entry.Future v) d len h =
      let x = maybe_has v h.1.payload h.5 in
      (future_of x.0 b.resources.current.0, rw x.1 refl, (h.0, h.1, h.2, h.3, ap (λ i. i.0) h.4, x.2))
  entry_has n (entry.Instance exports) d len h =
      let x = externs_have exports h.1.exports h.4 in
      (instance_of x.0, rw x.1 refl, (h.0, h.1, h.2, h.3, x.2))
  entry_has n (entry.Component imports exports) d len h =
      let x = externs_have imports h.1.imports h.4 in
      let y = externs_have exports h.1.exports h.5 in
      (component_of x.0 y.0, rw (x.1, y.1) refl, (h.0, h.1, h.2, h.3, x.2, y.2))
  entry_has n (entry.Module imports exports) d len h =
      let x = imports_have imports h.1.imports h.4 in
      let y = exports_have exports h.1.exports h.5 in
      (module_of x.0 y.0, rw (x.1, y.1) refl, (h.0, h.1, h.2, h.3, x.2, y.2))

-- the value type of a primitive has the tree of a value type that is one
pub prim_is_value : (b : Types) (t : TypeTable) (v : ValType) (p : PrimType) (w : InterfaceType) → v ≡ val.Prim p
    → PrimIs b p w → IsValue b t v w
prim_is_value b t v p w is h =
    subst (λ x. IsValue b t x w) (sym is)
    (λ who. val_has b who t [] (trees_in b who t) (λ n d found. absurd (none-some (Some d) found)) (val.Prim p) w h)

-- the trees of the entries in front of a place, the tree there, and those of all
module _ (known : List (ℕ × Identity)) (c : ℕ) (t : TypeTable) where
  -- the trees of earlier entries stay as later ones are made
  trees_kept : (earlier : List (Option TypeTree)) (es : List DeclType) → Kept earlier (trees_from known c t earlier es)
  trees_kept earlier [] = kept_refl earlier
  trees_kept earlier (e ∷ es) =
      kept_trans earlier (earlier ++ entry_tree known c t earlier e ∷ [])
      (trees_from known c t (earlier ++ entry_tree known c t earlier e ∷ []) es)
      (append_kept earlier (entry_tree known c t earlier e ∷ []))
      (trees_kept (earlier ++ entry_tree known c t earlier e ∷ []) es)

  -- there are trees of as many entries as stand in front, which are kept, and the tree of the entry there is made from
  -- them
  pub tree_at : (earlier : List (Option TypeTree)) (es : List DeclType) (k : ℕ) (e : DeclType) → slice_get es k ≡ Some e
      → (before : List (Option TypeTree)) × (length before ≡ length earlier + k)
      × Kept before (trees_from known c t earlier es)
      × (slice_get (trees_from known c t earlier es) (length earlier + k) ≡ Some (entry_tree known c t before e))
  tree_at earlier [] k e at = absurd (none-some e at)
  tree_at earlier (f ∷ es) zero e at = (
    earlier,
    omega arith,
    trees_kept earlier (f ∷ es),
    trees_kept (earlier ++ entry_tree known c t earlier f ∷ []) es (length earlier + 0) (entry_tree known c t earlier e)
        (subst (λ m. slice_get (earlier ++ entry_tree known c t earlier f ∷ []) m ≡ Some
        (entry_tree known c t earlier e)) (omega arith)
        (slice_get-append_seam earlier (entry_tree known c t earlier f) []
        ∙ ap (λ g. Some (entry_tree known c t earlier g)) (same_Some f e at))),
  )
  tree_at earlier (f ∷ es) (suc k) e at =
      let next = tree_at (earlier ++ entry_tree known c t earlier f ∷ []) es k e at in (
        next.0,
        next.1 ∙ grow,
        next.2,
        subst (λ m. slice_get (trees_from known c t earlier (f ∷ es)) m ≡ Some (entry_tree known c t next.0 e)) grow
            next.3,
      )
    where
      grow : length (earlier ++ entry_tree known c t earlier f ∷ []) + k ≡ length earlier + suc k
      grow = omega (arith, length-append earlier (entry_tree known c t earlier f ∷ []))
