-- A type that has an entry's tree is what the entry is in the builder: the converse of the simulation.
use Rattle.std.proofs.Common.{◌≡◌, ℕ, List, [], ◌∷◌, length, Option, Some, None, refl, sym, ap, ◌∙◌, subst}
use Rattle.std.specs.Prelude.{slice_get}
use Rattle.std.specs.Option.{option_map}
use Rattle.std.specs.List.{All, AllZip}
use Rattle.std.proofs.lemmas.List.Elements.{All-head, All-tail}
use Rattle.std.proofs.lemmas.Option.{same_Some}
use Rattle.pc_entity.specs.Lists.{map_all, names_of}
use Rattle.pc_numbers.specs.declared.runtime.ResourceIndex.{ResourceIndex}
use Rattle.pc_numbers.specs.declared.runtime.RuntimeComponentInstanceIndex.{RuntimeComponentInstanceIndex}
use Rattle.pc_types.specs.declared.parsed.DeclType.{DeclType}
use Rattle.pc_types.specs.declared.parsed.DeclType.TheVariants as entry
use Rattle.pc_types.specs.declared.parsed.Entity.{Entity}
use Rattle.pc_types.specs.declared.parsed.Entity.TheVariants as entity
use Rattle.pc_types.specs.declared.parsed.TypeTable.{TypeTable}
use Rattle.pc_types.specs.declared.parsed.ValType.{ValType}
use Rattle.pc_types.specs.declared.parsed.ValType.TheVariants as val
use Rattle.pc_types.specs.declared.types.InterfaceType.{InterfaceType}
use Rattle.pc_types.specs.declared.types.TypeDef.{TypeDef}
use Rattle.pc_types.specs.declared.types.TypeDef.TheVariants as def
use Rattle.pc_types.specs.declared.types.TypeResourceTable.{TypeResourceTable}
use Rattle.pc_types.specs.declared.types.TypeResourceTable.TheVariants as handles
use Rattle.pc_types.specs.TypeTree.{Identity, TypeTree, Fields, Cases, Trees, MaybeTree}
use Rattle.pc_types.specs.TypeTree.{record_of}
use Rattle.pc_types.specs.TypeTree.{variant_of, list_of, tuple_of, flags_of, enum_of, option_of, result_of}
use Rattle.pc_types.specs.TypeTree.{stream_of, future_of, func_of, instance_of, component_of, module_of}
use Rattle.pc_types.specs.TypeTree.{resource_of, no_fields, and_field, no_cases, and_case, no_trees, and_tree, no_tree}
use Rattle.pc_types.specs.TypeTree.{a_tree, val_tree, entity_tree}
use Rattle.pc_types.specs.TypeTree.{earlier_tree, maybe_tree, fields_tree, cases_tree, vals_tree, externs_tree}
use Rattle.pc_types.specs.TypeTree.{entry_tree, module_import_tree, module_export_tree, own_tree}
use Rattle.pc_types.specs.TypeTree.{borrow_tree, resource_from, identity_of}
use Rattle.pc_types_lists.specs.Types.{Types}
use Rattle.pc_types_lists.specs.Known.{resource_of as known_resource}
use Rattle.pc_types_lists.specs.Trees.{AreHandlesOf, ImportHasTree, ExportHasTree, HasTree, FieldsHaveTrees}
use Rattle.pc_types_lists.specs.Trees.{CasesHaveTrees, ValsHaveTrees, MaybeHasTree, ParamsHaveTrees, ResultsHaveTree}
use Rattle.pc_types_lists.specs.Trees.{ExternsHaveTrees}
use Rattle.pc_types_builder.specs.Trees.{identities}
use Rattle.pc_types_convert.specs.Parts.{ValIs, MaybeIs, FieldIs, CaseIs, EntityIs, ExternIs, IsReady}
use Rattle.pc_types_convert.specs.Parts.{MayBeReady, IsThere}
use Rattle.pc_types_convert.specs.Entries.{ReturnsAre, DefinedIs, ImportIs, ExportIs, EntryIs, handles_of}
use Rattle.pc_types_convert.specs.Entries.{handles_from}
use Rattle.pc_types_convert.specs.Steps.{IsReadyEntry}
use Rattle.pc_types_builder.proofs.Simulation.{known_identity}
use Rattle.pc_types_builder.proofs.TreeInversion.{map_inv, then_inv, both_inv, own_inv, borrow_inv}
use Rattle.pc_types_builder.proofs.PartInversion.{prim_from, prim_value, import_from, export_from, all_zip_from}

-- component instances of one number
same_instance : (i j : RuntimeComponentInstanceIndex) → i.0 ≡ j.0 → i ≡ j
same_instance i j same = λ x. record { 0 = same x }

module _ (b : Types) (who : ResourceIndex → Identity) (t : TypeTable) (done : List (Option TypeDef))
    (trees : List (Option TypeTree))
    (parts : (n : ℕ) (d : TypeDef) → slice_get done n ≡ Some (Some d) → (tree : TypeTree)
    × (earlier_tree (identities who b.resources.known) b.resources.current.0 t trees n ≡ Some tree)
    × HasTree b who d tree)
    (one : (d e : TypeDef) (tree : TypeTree) → HasTree b who d tree → HasTree b who e tree → d ≡ e)
    (apart : (r s : ResourceIndex) → who r ≡ who s → r ≡ s) where
  -- the known resources, as trees name them
  abbrev known : List (ℕ × Identity)
  known = identities who b.resources.known

  -- the current component instance
  abbrev here : ℕ
  here = b.resources.current.0

  -- a type with the tree of a done entry is its type
  same_done : (n : ℕ) (d e : TypeDef) (tree : TypeTree) → slice_get done n ≡ Some (Some e)
      → earlier_tree known here t trees n ≡ Some tree → HasTree b who d tree
      → e ≡ d
  same_done n d e tree found got h =
      let x = parts n e found in
      one e d tree (subst (HasTree b who e) (same_Some x.0 tree (sym x.1 ∙ got)) x.2) h

  -- a type with the tree of a done entry is that entry's
  done_from : (n : ℕ) (d e : TypeDef) (tree : TypeTree) → slice_get done n ≡ Some (Some e)
      → earlier_tree known here t trees n ≡ Some tree → HasTree b who d tree
      → slice_get done n ≡ Some (Some d)
  done_from n d e tree found got h = found ∙ ap (λ f. Some (Some f)) (same_done n d e tree found got h)

  -- a value type
  val_from : (v : ValType) (w : InterfaceType) (tree : TypeTree) → IsReady done v
      → val_tree known here t trees v ≡ Some tree
      → HasTree b who (def.Interface w) tree → ValIs b done v w
  val_from (val.Prim p) w tree ready got h = prim_from b who t trees p w tree got h
  val_from (val.Type_ n) w tree ready got h = done_from n (def.Interface w) (def.Interface ready.0) tree ready.1 got h

  -- a type that is a value type
  defined_from : (v : ValType) (d : TypeDef) (tree : TypeTree) → IsReady done v
      → val_tree known here t trees v ≡ Some tree → HasTree b who d tree
      → DefinedIs b done v d
  defined_from (val.Prim p) d tree ready got h =
      let x = prim_value b who t trees p d tree got h in
      (x.0, x.1, prim_from b who t trees p x.0 tree got (subst (λ e. HasTree b who e tree) x.1 h))
  defined_from (val.Type_ n) d tree ready got h =
      (ready.0, sym (same_done n d (def.Interface ready.0) tree ready.1 got h), ready.1)

  -- one that may be left out
  maybe_from : (v : Option ValType) (w : Option InterfaceType) (tree : MaybeTree) → MayBeReady done v
      → maybe_tree known here t trees v ≡ Some tree
      → MaybeHasTree b who w tree → MaybeIs b done v w
  maybe_from None w tree ready got h =
      subst (MaybeIs b done None) (sym (subst (MaybeHasTree b who w) (sym (same_Some no_tree tree got)) h)) tt
  maybe_from (Some v) w tree ready got h =
      let x = map_inv a_tree (val_tree known here t trees v) tree got in
      let k = subst (MaybeHasTree b who w) (sym x.2) h in
      subst (MaybeIs b done (Some v)) (sym k.1) (val_from v k.0 x.0 ready x.1 k.2)

  -- the type that is returned
  returns_from : (v : Option ValType) (ws : List InterfaceType) (tree : MaybeTree) → MayBeReady done v
      → maybe_tree known here t trees v ≡ Some tree
      → ResultsHaveTree b who ws tree → ReturnsAre b done v ws
  returns_from None ws tree ready got h = subst (ResultsHaveTree b who ws) (sym (same_Some no_tree tree got)) h
  returns_from (Some v) ws tree ready got h =
      let x = map_inv a_tree (val_tree known here t trees v) tree got in
      let k = subst (ResultsHaveTree b who ws) (sym x.2) h in
      (k.0, k.1, val_from v k.0 x.0 ready x.1 k.2)

  -- fields
  fields_from : (fs : List (List ℕ × ValType)) (gs : List (List ℕ × InterfaceType)) (ts : Fields)
      → All (λ (f : List ℕ × ValType). IsReady done f.1) fs
      → fields_tree known here t trees fs ≡ Some ts → FieldsHaveTrees b who gs ts → AllZip (FieldIs b done) fs gs
  fields_from [] gs ts ready got h =
      subst (AllZip (FieldIs b done) [])
      (sym (subst (FieldsHaveTrees b who gs) (sym (same_Some no_fields ts got)) h)) tt
  fields_from (f ∷ fs) gs ts ready got h =
      let x = both_inv (and_field f.0) (val_tree known here t trees f.1) (fields_tree known here t trees fs) ts got in
      let k = subst (FieldsHaveTrees b who gs) (sym x.4) h in
      subst (AllZip (FieldIs b done) (f ∷ fs)) (sym k.2) (
        (refl, val_from f.1 k.0 x.0 (All-head (λ (g : List ℕ × ValType). IsReady done g.1) f fs ready) x.2 k.3),
        fields_from fs k.1 x.1 (All-tail (λ (g : List ℕ × ValType). IsReady done g.1) f fs ready) x.3 k.4,
      )

  -- parameters
  params_from : (ps : List (List ℕ × ValType)) (names : List (List ℕ)) (ws : List InterfaceType) (ts : Fields)
      → All (λ (p : List ℕ × ValType). IsReady done p.1) ps
      → fields_tree known here t trees ps ≡ Some ts → ParamsHaveTrees b who names ws ts
      → (names ≡ names_of ps) × AllZip (λ (p : List ℕ × ValType) (w : InterfaceType). ValIs b done p.1 w) ps ws
  params_from [] names ws ts ready got h =
      let k = subst (ParamsHaveTrees b who names ws) (sym (same_Some no_fields ts got)) h in
      (k.0, subst (AllZip (λ (p : List ℕ × ValType) (w : InterfaceType). ValIs b done p.1 w) []) (sym k.1) tt)
  params_from (p ∷ ps) names ws ts ready got h =
      let x = both_inv (and_field p.0) (val_tree known here t trees p.1) (fields_tree known here t trees ps) ts got in
      let k = subst (ParamsHaveTrees b who names ws) (sym x.4) h in
      let rest = params_from ps k.1 k.2 x.1
      (All-tail (λ (q : List ℕ × ValType). IsReady done q.1) p ps ready) x.3 k.6 in (
        k.3 ∙ ap (λ l. p.0 ∷ l) rest.0,
        subst (AllZip (λ (q : List ℕ × ValType) (w : InterfaceType). ValIs b done q.1 w) (p ∷ ps)) (sym k.4)
            (val_from p.1 k.0 x.0 (All-head (λ (q : List ℕ × ValType). IsReady done q.1) p ps ready) x.2 k.5, rest.1),
      )

  -- cases
  cases_from : (fs : List (List ℕ × Option ValType)) (gs : List (List ℕ × Option InterfaceType)) (ts : Cases)
      → All (λ (f : List ℕ × Option ValType). MayBeReady done f.1) fs
      → cases_tree known here t trees fs ≡ Some ts → CasesHaveTrees b who gs ts → AllZip (CaseIs b done) fs gs
  cases_from [] gs ts ready got h =
      subst (AllZip (CaseIs b done) []) (sym (subst (CasesHaveTrees b who gs) (sym (same_Some no_cases ts got)) h)) tt
  cases_from (f ∷ fs) gs ts ready got h =
      let x = both_inv (and_case f.0) (maybe_tree known here t trees f.1) (cases_tree known here t trees fs) ts got in
      let k = subst (CasesHaveTrees b who gs) (sym x.4) h in
      subst (AllZip (CaseIs b done) (f ∷ fs)) (sym k.2) (
        (
          refl,
          maybe_from f.1 k.0 x.0
              (All-head (λ (g : List ℕ × Option ValType). MayBeReady done g.1) f fs ready) x.2 k.3,
        ),
        cases_from fs k.1 x.1 (All-tail (λ (g : List ℕ × Option ValType). MayBeReady done g.1) f fs ready) x.3 k.4,
      )

  -- the types of a tuple
  vals_from : (vs : List ValType) (ws : List InterfaceType) (ts : Trees) → All (IsReady done) vs
      → vals_tree known here t trees vs ≡ Some ts → ValsHaveTrees b who ws ts → AllZip (ValIs b done) vs ws
  vals_from [] ws ts ready got h =
      subst (AllZip (ValIs b done) []) (sym (subst (ValsHaveTrees b who ws) (sym (same_Some no_trees ts got)) h)) tt
  vals_from (v ∷ vs) ws ts ready got h =
      let x = both_inv and_tree (val_tree known here t trees v) (vals_tree known here t trees vs) ts got in
      let k = subst (ValsHaveTrees b who ws) (sym x.4) h in
      subst (AllZip (ValIs b done) (v ∷ vs)) (sym k.2) (
        val_from v k.0 x.0 (All-head (IsReady done) v vs ready) x.2 k.3,
        vals_from vs k.1 x.1
            (All-tail (IsReady done) v vs ready) x.3 k.4,
      )

  -- an entity
  entity_from : (e : Entity) (d : TypeDef) (tree : TypeTree) → IsThere done e
      → entity_tree known here t trees e ≡ Some tree → HasTree b who d tree
      → EntityIs done e d
  entity_from (entity.Func n) d tree ready got h = done_from n d ready.0 tree ready.1 got h
  entity_from (entity.Instance n) d tree ready got h = done_from n d ready.0 tree ready.1 got h
  entity_from (entity.Component n) d tree ready got h = done_from n d ready.0 tree ready.1 got h
  entity_from (entity.Module n) d tree ready got h = done_from n d ready.0 tree ready.1 got h
  entity_from (entity.Type_ n) d tree ready got h = done_from n d ready.0 tree ready.1 got h
  entity_from entity.Value d tree ready got h = absurd ready.1

  -- named entities
  externs_from : (es : List (List ℕ × Entity)) (ds : List (List ℕ × TypeDef)) (ts : Fields)
      → All (λ (e : List ℕ × Entity). IsThere done e.1) es
      → externs_tree known here t trees es ≡ Some ts → ExternsHaveTrees b who ds ts → AllZip (ExternIs done) es ds
  externs_from [] ds ts ready got h =
      subst (AllZip (ExternIs done) [])
      (sym (subst (ExternsHaveTrees b who ds) (sym (same_Some no_fields ts got)) h)) tt
  externs_from (e ∷ es) ds ts ready got h =
      let x = both_inv (and_field e.0) (entity_tree known here t trees e.1)
      (externs_tree known here t trees es) ts got in
      let k = subst (ExternsHaveTrees b who ds) (sym x.4) h in
      subst (AllZip (ExternIs done) (e ∷ es)) (sym k.2) (
        (refl, entity_from e.1 k.0 x.0 (All-head (λ (f : List ℕ × Entity). IsThere done f.1) e es ready) x.2 k.3),
        externs_from es k.1 x.1 (All-tail (λ (f : List ℕ × Entity). IsThere done f.1) e es ready) x.3 k.4,
      )

  -- the handles of the resource of a number in its tree are those of the number
  resource_handles : (n : ℕ) (h : TypeResourceTable) → AreHandlesOf b who h (resource_from here n (identity_of known n))
      → h ≡ handles_of b.resources n
  resource_handles n h are =
      by h (known_resource b.resources.known n)
      (subst (λ o. AreHandlesOf b who h (resource_from here n o)) (known_identity who b.resources.known n) are)
    where
      by : (g : TypeResourceTable) (o : Option ResourceIndex)
          → AreHandlesOf b who g (resource_from here n (option_map who o)) → g ≡ handles_from b.resources n o
      by (handles.Concrete r c) None k = absurd k
      by (handles.Abstract m) None k = ap handles.Abstract k
      by (handles.Concrete r c) (Some s) k =
          ap (λ q. handles.Concrete q c) (apart r s k.0)
          ∙ ap (λ q. handles.Concrete s q) (same_instance c b.resources.current k.1)
      by (handles.Abstract m) (Some s) k = absurd k

  -- a type with an entry's tree is what the entry is in the builder
  pub entry_from : (n : ℕ) (e : DeclType) (d : TypeDef) (tree : TypeTree) → length trees ≡ n → IsReadyEntry t done e
      → entry_tree (identities who b.resources.known) b.resources.current.0 t trees e ≡ Some tree → HasTree b who d tree
      → EntryIs b done t n e d
  entry_from n entry.Resource d tree len ready got h =
      let k = subst (HasTree b who d)
      (sym
      (same_Some (resource_of (resource_from here (length trees) (identity_of known (length trees)))) tree got))
      h in
      (k.0, k.1, k.2.1 ∙ ap Some (resource_handles (length trees) k.2.0 k.2.2 ∙ ap (handles_of b.resources) len))
  entry_from n (entry.Func params result is_async) d tree len ready got h =
      let x = both_inv (λ (ps : Fields) (r : MaybeTree). func_of ps r is_async) (fields_tree known here t trees params)
      (maybe_tree known here t trees result) tree got in
      let k = subst (HasTree b who d) (sym x.4) h in
      let ps = params_from params k.1.param_names k.2.types x.0 ready.0 x.2 k.9 in
      (k.0, k.4, (k.1, k.2, k.3, k.5, k.6, k.7, ps.0, k.8, ps.1, returns_from result k.3.types x.1 ready.1 x.3 k.10))
  entry_from n (entry.Val v) d tree len ready got h = defined_from v d tree ready got h
  entry_from n (entry.Record fields) d tree len ready got h =
      let x = map_inv record_of (fields_tree known here t trees fields) tree got in
      let k = subst (HasTree b who d) (sym x.2) h in
      (k.0, k.1, k.2, k.3, fields_from fields k.1.fields x.0 ready x.1 k.4)
  entry_from n (entry.Variant cases) d tree len ready got h =
      let x = map_inv variant_of (cases_tree known here t trees cases) tree got in
      let k = subst (HasTree b who d) (sym x.2) h in
      (k.0, k.1, k.2, k.3, cases_from cases k.1.cases x.0 ready x.1 k.4)
  entry_from n (entry.List v) d tree len ready got h =
      let x = map_inv list_of (val_tree known here t trees v) tree got in
      let k = subst (HasTree b who d) (sym x.2) h in
      (k.0, k.1, k.2, k.3, val_from v k.1.element x.0 ready x.1 k.4)
  entry_from n (entry.Tuple vs) d tree len ready got h =
      let x = map_inv tuple_of (vals_tree known here t trees vs) tree got in
      let k = subst (HasTree b who d) (sym x.2) h in
      (k.0, k.1, k.2, k.3, vals_from vs k.1.types x.0 ready x.1 k.4)
  entry_from n (entry.Flags names) d tree len ready got h =
      subst (HasTree b who d) (sym (same_Some (flags_of names) tree got)) h
  entry_from n (entry.Enum names) d tree len ready got h =
      subst (HasTree b who d) (sym (same_Some (enum_of names) tree got)) h
  entry_from n (entry.Option v) d tree len ready got h =
      let x = map_inv option_of (val_tree known here t trees v) tree got in
      let k = subst (HasTree b who d) (sym x.2) h in
      (k.0, k.1, k.2, k.3, val_from v k.1.ty x.0 ready x.1 k.4)
  entry_from n (entry.Result ok err) d tree len ready got h =
      let x = both_inv result_of (maybe_tree known here t trees ok) (maybe_tree known here t trees err) tree got in
      let k = subst (HasTree b who d) (sym x.4) h in
      (k.0, k.1, k.2, k.3, maybe_from ok k.1.ok x.0 ready.0 x.2 k.4, maybe_from err k.1.err x.1 ready.1 x.3 k.5)
  entry_from n (entry.Own m) d tree len ready got h =
      let x = then_inv own_tree (earlier_tree known here t trees m) tree got in
      let r = own_inv x.0 tree x.2 in
      let k = subst (HasTree b who d) (sym r.2) h in (
        k.0,
        k.1,
        done_from m (def.Resource k.0) (def.Resource ready.0) (resource_of r.0) ready.1 (x.1 ∙ ap Some r.1)
            (k.0, refl, k.2),
      )
  entry_from n (entry.Borrow m) d tree len ready got h =
      let x = then_inv borrow_tree (earlier_tree known here t trees m) tree got in
      let r = borrow_inv x.0 tree x.2 in
      let k = subst (HasTree b who d) (sym r.2) h in (
        k.0,
        k.1,
        done_from m (def.Resource k.0) (def.Resource ready.0) (resource_of r.0) ready.1 (x.1 ∙ ap Some r.1)
            (k.0, refl, k.2),
      )
  entry_from n (entry.Stream v) d tree len ready got h =
      let x = map_inv (λ (p : MaybeTree). stream_of p here) (maybe_tree known here t trees v) tree got in
      let k = subst (HasTree b who d) (sym x.2) h in (
        k.0,
        k.1,
        k.2,
        k.3,
        same_instance k.1.instance b.resources.current k.4,
        maybe_from v k.1.payload x.0 ready x.1
            k.5,
      )
  entry_from n (entry.Future v) d tree len ready got h =
      let x = map_inv (λ (p : MaybeTree). future_of p here) (maybe_tree known here t trees v) tree got in
      let k = subst (HasTree b who d) (sym x.2) h in (
        k.0,
        k.1,
        k.2,
        k.3,
        same_instance k.1.instance b.resources.current k.4,
        maybe_from v k.1.payload x.0 ready x.1
            k.5,
      )
  entry_from n (entry.Instance exports) d tree len ready got h =
      let x = map_inv instance_of (externs_tree known here t trees exports) tree got in
      let k = subst (HasTree b who d) (sym x.2) h in
      (k.0, k.1, k.2, k.3, externs_from exports k.1.exports x.0 ready x.1 k.4)
  entry_from n (entry.Component imports exports) d tree len ready got h =
      let x = both_inv component_of (externs_tree known here t trees imports)
      (externs_tree known here t trees exports) tree got in
      let k = subst (HasTree b who d) (sym x.4) h in (
        k.0,
        k.1,
        k.2,
        k.3,
        externs_from imports k.1.imports x.0 ready.0 x.2 k.4,
        externs_from exports k.1.exports x.1
            ready.1 x.3 k.5,
      )
  entry_from n (entry.Module imports exports) d tree len ready got h =
      let x = both_inv module_of (map_all (module_import_tree t) imports)
      (map_all (module_export_tree t) exports) tree got in
      let k = subst (HasTree b who d) (sym x.4) h in (
        k.0,
        k.1,
        k.2,
        k.3,
        all_zip_from (module_import_tree t) (ImportIs b t) (ImportHasTree b who)
            (import_from b who t) imports k.1.imports x.0 x.2 k.4,
        all_zip_from (module_export_tree t) (ExportIs b t) (ExportHasTree b who)
            (export_from b who t) exports k.1.exports x.1 x.3 k.5,
      )
