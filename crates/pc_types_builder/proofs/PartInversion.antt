-- A primitive, a core entity or a list of items that has the tree of one is what it is in the builder.
use Rattle.std.proofs.Common.{◌≡◌, ℕ, List, [], ◌∷◌, Option, Some, sym, ap, subst}
use Rattle.std.specs.Prelude.{slice_get, MatchOption}
use Rattle.std.specs.List.{AllZip}
use Rattle.std.proofs.lemmas.Option.{same_Some}
use Rattle.pc_entity.specs.Lists.{map_all}
use Rattle.pc_entity.proofs.MapAll.{map_all_uncons}
use Rattle.pc_numbers.specs.declared.runtime.ResourceIndex.{ResourceIndex}
use Rattle.pc_types.specs.declared.parsed.CoreEntity.{CoreEntity}
use Rattle.pc_types.specs.declared.parsed.CoreEntity.TheVariants as core
use Rattle.pc_types.specs.declared.parsed.PrimType.{PrimType}
use Rattle.pc_types.specs.declared.parsed.PrimType.TheVariants as prim
use Rattle.pc_types.specs.declared.parsed.TypeTable.{TypeTable}
use Rattle.pc_types.specs.declared.parsed.ValType.TheVariants as val
use Rattle.pc_types.specs.declared.type_index.TypeComponentLocalErrorContextTableIndex.{TypeComponentLocalErrorContextTableIndex}
use Rattle.pc_types.specs.declared.types.InterfaceType.{InterfaceType}
use Rattle.pc_types.specs.declared.types.InterfaceType.TheVariants as ty
use Rattle.pc_types.specs.declared.types.TypeDef.{TypeDef}
use Rattle.pc_types.specs.declared.types.TypeDef.TheVariants as def
use Rattle.pc_types.specs.TypeTree.{Identity, CoreTree, TypeTree, core_func}
use Rattle.pc_types.specs.TypeTree.{core_table, core_memory, core_global, core_tag, primitive, error_context}
use Rattle.pc_types.specs.TypeTree.{val_tree}
use Rattle.pc_types.specs.TypeTree.{core_tree, module_import_tree, module_export_tree}
use Rattle.pc_types_lists.specs.Types.{Types}
use Rattle.pc_types_lists.specs.Trees.{CoreHasTree, ImportHasTree, ExportHasTree, HasTree}
use Rattle.pc_types_builder.specs.Trees.{identities}
use Rattle.pc_types_convert.specs.Parts.{IsErrorContext, PrimIs}
use Rattle.pc_types_convert.specs.Entries.{CoreIs, ImportIs, ExportIs}
use Rattle.pc_types_lists.proofs.HeldLemmas.{value_of}
use Rattle.pc_types_builder.proofs.TreeInversion.{map_inv}

-- a value type that has the tree of a primitive that needs no table is the primitive's
plain_from : (b : Types) (who : ResourceIndex → Identity) (p : PrimType) (w : InterfaceType)
    → HasTree b who (def.Interface w) (primitive p) → PrimIs b p w
plain_from b who p w h =
    subst (λ o. MatchOption o
    ((i : TypeComponentLocalErrorContextTableIndex) × (w ≡ ty.ErrorContext i) × IsErrorContext b i) (λ v. w ≡ v))
    (sym h.2) (ap value_of h.1)

-- a value type that has the tree of a primitive is what the primitive is in the builder
pub prim_from : (b : Types) (who : ResourceIndex → Identity) (t : TypeTable) (trees : List (Option TypeTree))
    (p : PrimType) (w : InterfaceType) (tree : TypeTree)
    → val_tree (identities who b.resources.known) b.resources.current.0 t trees (val.Prim p) ≡ Some tree
    → HasTree b who (def.Interface w) tree → PrimIs b p w
prim_from b who t trees prim.ErrorContext w tree got h =
    let k = subst (HasTree b who (def.Interface w))
    (sym (same_Some (error_context b.resources.current.0) tree got)) h in
    (k.0, ap value_of k.1, k.2)
prim_from b who t trees p w tree got h =
    plain_from b who p w (subst (HasTree b who (def.Interface w)) (sym (same_Some (primitive p) tree got)) h)

-- a type that has the tree of a primitive is a value type
pub prim_value : (b : Types) (who : ResourceIndex → Identity) (t : TypeTable) (trees : List (Option TypeTree))
    (p : PrimType) (d : TypeDef) (tree : TypeTree)
    → val_tree (identities who b.resources.known) b.resources.current.0 t trees (val.Prim p) ≡ Some tree
    → HasTree b who d tree
    → (w : InterfaceType) × (d ≡ def.Interface w)
prim_value b who t trees prim.ErrorContext d tree got h =
    let k = subst (HasTree b who d) (sym (same_Some (error_context b.resources.current.0) tree got)) h in
    (ty.ErrorContext k.0, k.1)
prim_value b who t trees p d tree got h =
    let k = subst (HasTree b who d) (sym (same_Some (primitive p) tree got)) h in
    (k.0, k.1)

-- Core entities, and the imports and exports of modules, which name no types.
module _ (b : Types) (who : ResourceIndex → Identity) (t : TypeTable) where
  -- a core entity
  core_from : (e f : CoreEntity) (tree : CoreTree) → core_tree t e ≡ Some tree → CoreHasTree b who f tree
      → CoreIs b t e f
  core_from (core.Func s) f tree got h =
      let x = map_inv core_func (slice_get t.core_funcs s) tree got in
      let k = subst (CoreHasTree b who f) (sym x.2) h in
      (k.0, x.0, k.1, x.1, k.2)
  core_from core.Table f tree got h = subst (CoreHasTree b who f) (sym (same_Some core_table tree got)) h
  core_from (core.Memory is_wide) f tree got h =
      subst (CoreHasTree b who f) (sym (same_Some (core_memory is_wide) tree got)) h
  core_from core.Global f tree got h = subst (CoreHasTree b who f) (sym (same_Some core_global tree got)) h
  core_from core.Tag f tree got h = subst (CoreHasTree b who f) (sym (same_Some core_tag tree got)) h

  -- a module's import
  pub import_from : (i j : List ℕ × List ℕ × CoreEntity) (tree : List ℕ × List ℕ × CoreTree)
      → module_import_tree t i ≡ Some tree → ImportHasTree b who j tree
      → ImportIs b t i j
  import_from i j tree got h =
      let x = map_inv {B = List ℕ × List ℕ × CoreTree} (λ (e : CoreTree). (i.0, i.1, e)) (core_tree t i.2) tree got in
      let k = subst (ImportHasTree b who j) (sym x.2) h in
      (sym k.0, sym k.1, core_from i.2 j.2 x.0 x.1 k.2)

  -- a module's export
  pub export_from : (e f : List ℕ × CoreEntity) (tree : List ℕ × CoreTree) → module_export_tree t e ≡ Some tree
      → ExportHasTree b who f tree → ExportIs b t e f
  export_from e f tree got h =
      let x = map_inv {B = List ℕ × CoreTree} (λ (s : CoreTree). (e.0, s)) (core_tree t e.1) tree got in
      let k = subst (ExportHasTree b who f) (sym x.2) h in
      (sym k.0, core_from e.1 f.1 x.0 x.1 k.1)

-- where `f` gives each item its tree, and what has that tree (S) is what the item is (R), the same holds of lists of
-- them
pub all_zip_from : {A B C : Type 0} (f : A → Option C) (R : A → B → Type 0) (S : B → C → Type 0)
    → ((x : A) (y : B) (z : C) → f x ≡ Some z → S y z → R x y)
    → (xs : List A) (ys : List B) (zs : List C) → map_all f xs ≡ Some zs → AllZip S ys zs → AllZip R xs ys
all_zip_from f R S each [] [] zs got h = tt
all_zip_from f R S each [] (y ∷ ys) zs got h = absurd (subst (AllZip S (y ∷ ys)) (sym (same_Some [] zs got)) h)
all_zip_from f R S each (x ∷ xs) [] zs got h =
    let p = map_all_uncons f x xs zs got in
    absurd (subst (AllZip S []) p.4 h)
all_zip_from f R S each (x ∷ xs) (y ∷ ys) zs got h =
    let p = map_all_uncons f x xs zs got in
    let k = subst (AllZip S (y ∷ ys)) p.4 h in
    (each x y p.0 p.2 k.0, all_zip_from f R S each xs ys p.1 p.3 k.1)
