-- Where the types of modules are held, their conversion adds nothing.
use Rattle.std.proofs.Common.{◌≡◌, ◌≤◌, ◌<◌, ◌∙◌, ◌++◌, ℕ, zero, suc, List, [], ◌∷◌, inl, inr, length, map, Option, None, Some}
use Rattle.std.proofs.Common.{Contains, refl, sym, ap, subst, arith}
use Rattle.std.specs.Prelude.{slice_get, option_and_then, option_map}
use Rattle.std.proofs.lemmas.List.Elements.{Contains-append_cases}
use Rattle.std.proofs.lemmas.Option.{none-some, same_Some, slice_get-get_or, slice_get_within}
use Rattle.pc_entity.specs.Lists.{map_all}
use Rattle.pc_entity.proofs.MapAll.{slice_get-map_all}
use Rattle.pc_numbers.specs.declared.runtime.ResourceIndex.{ResourceIndex}
use Rattle.pc_types.specs.declared.parsed.CoreEntity.{CoreEntity}
use Rattle.pc_types.specs.declared.parsed.CoreEntity.TheVariants as core
use Rattle.pc_types.specs.declared.parsed.CoreFuncSig.{CoreFuncSig}
use Rattle.pc_types.specs.declared.parsed.DeclType.TheVariants as entry
use Rattle.pc_types.specs.declared.parsed.TypeTable.{TypeTable}
use Rattle.pc_types.specs.declared.type_index.TypeModuleIndex.{TypeModuleIndex}
use Rattle.pc_types.specs.declared.types.TypeDef.{TypeDef}
use Rattle.pc_types.specs.declared.types.TypeDef.TheVariants as def
use Rattle.pc_types.specs.declared.types.TypeKind.TheVariants as kind
use Rattle.pc_types.specs.TypeTree.{CoreTree, Identity, core_func, core_tree, module_export_tree}
use Rattle.pc_types.specs.TypeTree.{module_import_tree, module_of}
use Rattle.pc_types_lists.specs.Trees.{ExportHasTree, ImportHasTree}
use Rattle.pc_types_builder.specs.Types.{Grows, IsBuilder, IsTooFullFor, Types}
use Rattle.pc_types_builder.specs.Trees.{HasTree, IsEntry, identities}
use Rattle.pc_types_builder.specs.Asked.{IsReachedSignature, of_module}
use Rattle.pc_types_builder.proofs.TreeLemmas.{tree_grows}
use Rattle.pc_dfg.specs.declared.export.Export.{Export}
use Rattle.pc_translate.proofs.AddsModulesLemmas.{alone, kept_same}
use Rattle.pc_translate.proofs.ListLemmas.{zip_behind}
use Rattle.pc_translate.proofs.ModuleTreeLemmas.{module_entry, module_tree_is, one_entry}
use Rattle.pc_translate.proofs.ModuleTypeLemmas.{no_more}
use Rattle.pc_translate.specs.ModuleTypes.{AddsModules, HoldsModule, HoldsModules, IsExported}

-- what stands in a mapped list stands at a place of the list
at_mapped : {A B : Type 0} (f : A → B) (xs : List A) (y : B) → Contains (map f xs) y
    → (n : ℕ) × (x : A) × (slice_get xs n ≡ Some x) × (f x ≡ y)
at_mapped {A = A} f xs y there = by xs there.0 (slice_get-get_or (map f xs) there.0 y there.1 ∙ ap Some there.2)
  where
    by : (zs : List A) (n : ℕ) → slice_get (map f zs) n ≡ Some y
        → (k : ℕ) × (x : A) × (slice_get zs k ≡ Some x) × (f x ≡ y)
    by [] n at = absurd (none-some y at)
    by (z ∷ zs) zero at = (0, z, refl, same_Some (f z) y at)
    by (z ∷ zs) (suc n) at = let rest = by zs n at in (suc rest.0, rest.1, rest.2, rest.3)

-- what two optional parts make together is made of both
made_from : {A B C : Type 0} (make : A → B → C) (a : Option A) (b : Option B) (c : C)
    → option_and_then (λ x. option_map (make x) b) a ≡ Some c
    → (x : A) × (y : B) × (a ≡ Some x) × (b ≡ Some y) × (make x y ≡ c)
made_from make None b c h = absurd (none-some c h)
made_from make (Some x) None c h = absurd (none-some c h)
made_from make (Some x) (Some y) c h = (x, y, refl, refl, same_Some (make x y) c h)

-- the tree of a core function has its signature
func_tree : (t : TypeTable) (e : CoreEntity) (j : ℕ) (s : CoreFuncSig) → e ≡ core.Func j
    → slice_get t.core_funcs j ≡ Some s → core_tree t e ≡ Some (core_func s)
func_tree t e j s is at = ap (core_tree t) is ∙ ap (option_map core_func) at

module _ (b : Types) (t : TypeTable) (n : ℕ) (h : HoldsModule b t n) where
  abbrev imports : List (List ℕ × List ℕ × CoreEntity)
  imports = (module_entry t n h.there).0

  abbrev exports : List (List ℕ × CoreEntity)
  exports = (module_entry t n h.there).1

  -- the tree that is held is that of the table's entry
  tree_is : option_and_then (λ i. option_map (module_of i) (map_all (module_export_tree t) exports))
      (map_all (module_import_tree t) imports) ≡ Some h.tree
  tree_is = sym (module_tree_is h.known h.component_instance t n imports exports (module_entry t n h.there).2) ∙ h.is

  -- it is made of those of what the module imports and exports
  parts : (i : List (List ℕ × List ℕ × CoreTree)) × (e : List (List ℕ × CoreTree))
      × (map_all (module_import_tree t) imports ≡ Some i) × (map_all (module_export_tree t) exports ≡ Some e)
      × (module_of i e ≡ h.tree)
  parts = made_from module_of (map_all (module_import_tree t) imports) (map_all (module_export_tree t) exports) h.tree
      tree_is

  -- and it is held whatever the resources are
  anyhow : (who : ResourceIndex → Identity) → HasTree b who (def.Module h.number) h.tree
  anyhow who =
      let p = parts in
      subst (HasTree b who (def.Module h.number)) p.4
      (subst (HasTree b h.who (def.Module h.number)) (sym p.4) h.holds)

  -- so the number is that of the entry
  pub entry_held : IsEntry b t n (def.Module h.number)
  entry_held who = (
    h.tree,
    module_tree_is (identities who b.resources.known) b.resources.current.0 t n imports exports
        (module_entry t n h.there).2 ∙ tree_is,
    anyhow who,
  )

  -- a signature that the module names is held
  signature_held : (j : ℕ) (s : CoreFuncSig)
      → Contains (map (λ (i : List ℕ × List ℕ × CoreEntity). i.2) imports
      ++ map (λ (e : List ℕ × CoreEntity). e.1) exports) (core.Func j) → slice_get t.core_funcs j ≡ Some s
      → (k : ℕ) × (slice_get b.signatures k ≡ Some s)
  signature_held j s named found =
      let p = parts in
      let is = subst (HasTree b h.who (def.Module h.number)) (sym p.4) h.holds in
      elim (Contains-append_cases (map (λ (i : List ℕ × List ℕ × CoreEntity). i.2) imports)
      (map (λ (e : List ℕ × CoreEntity). e.1) exports) (core.Func j) named) as
      (λ _. (k : ℕ) × (slice_get b.signatures k ≡ Some s)) [
        | inl imported ↦ (
            let x = at_mapped (λ (i : List ℕ × List ℕ × CoreEntity). i.2) imports (core.Func j) imported in
            let tree : slice_get p.0 x.0 ≡ Some (x.1.0, x.1.1, core_func s) =
            sym (slice_get-map_all (module_import_tree t) imports p.0 x.0 x.1 p.2 x.2)
            ∙ ap (option_map {U = List ℕ × List ℕ × CoreTree} (λ c. (x.1.0, x.1.1, c)))
            (func_tree t x.1.2 j s x.3 found) in
            let y = zip_behind (ImportHasTree b h.who) is.1.imports p.0 is.4 x.0 (x.1.0, x.1.1, core_func s) tree in
            (y.2.2.0, y.2.2.2))
        | inr exported ↦ (
            let x = at_mapped (λ (e : List ℕ × CoreEntity). e.1) exports (core.Func j) exported in
            let tree : slice_get p.1 x.0 ≡ Some (x.1.0, core_func s) =
            sym (slice_get-map_all (module_export_tree t) exports p.1 x.0 x.1 p.3 x.2)
            ∙ ap (option_map {U = List ℕ × CoreTree} (λ c. (x.1.0, c))) (func_tree t x.1.1 j s x.3 found) in
            let y = zip_behind (ExportHasTree b h.who) is.1.exports p.1 is.5 x.0 (x.1.0, core_func s) tree in
            (y.2.1.0, y.2.1.2))
      ]

  -- it is one of the builder's
  pub number_held : h.number.0 < length b.modules
  number_held =
      let p = parts in
      let is = subst (HasTree b h.who (def.Module h.number)) (sym p.4) h.holds in
      let same : h.number ≡ is.0 = cc is.2 in
      subst (λ (i : TypeModuleIndex). i.0 < length b.modules) (sym same) (slice_get_within b.modules is.0.0 is.1 is.3)

-- a module type that is held stays held
abbrev pub held_grows : (old new : Types) → Grows old new → (t : TypeTable) (n : ℕ) → HoldsModule old t n → HoldsModule new t n
held_grows old new g t n h = record {
  there = h.there;
  known = h.known;
  component_instance = h.component_instance;
  tree = h.tree;
  is = h.is;
  number = h.number;
  who = h.who;
  holds = tree_grows old new g h.who (def.Module h.number) h.tree h.holds;
}

-- the number of a module type
abbrev number_in : TypeDef → ℕ
number_in (def.Module i) = i.0
number_in _ = 0

module _ (t : TypeTable) (es : List Export) (old new : Types) (g : Grows old new) (builder : IsBuilder new)
    (adds : AddsModules t (IsExported es) old new) (held : HoldsModules old t es) where
  -- no module type is new
  no_module : (i : ℕ) → length old.modules ≤ i → i < length new.modules → ⊥
  no_module i above below =
      let m = adds.modules i above below in
      let was = held m.0 m.1 in
      let now = held_grows old new g t m.0 was in
      let same = one_entry new builder t m.0 (def.Module (record { 0 = i })) (def.Module was.number) m.2
      (entry_held new t m.0 now) in
      let number : i ≡ was.number.0 = ap number_in same in
      let low = number_held old t m.0 was in
      omega (arith, number, low, above)

  -- and no signature
  no_signature : (i : ℕ) → length old.signatures ≤ i → i < length new.signatures → ⊥
  no_signature i above below = let x = adds.signatures i above below in by x.0 (held x.0 x.1) x.2
    where
      by : (n : ℕ) → HoldsModule old t n → IsReachedSignature new t n i → ⊥
      by n h (of_module m imports exports reached at s found named) =
          let e = module_entry t n h.there in
          let here : entry.Module imports exports ≡ entry.Module e.0 e.1 = same_Some _ _
          (sym (subst (λ q. slice_get t.types q ≡ Some (entry.Module imports exports))
          (alone t n e.0 e.1 e.2 reached) at) ∙ e.2) in
          let same_imports : imports ≡ e.0 = cc here in
          let same_exports : exports ≡ e.1 = cc here in
          let k = signature_held old t n h named.0 s
          (subst (λ ys. Contains (map (λ (i : List ℕ × List ℕ × CoreEntity). i.2) e.0
          ++ map (λ (e : List ℕ × CoreEntity). e.1) ys) (core.Func named.0)) same_exports
          (subst (λ xs. Contains (map (λ (i : List ℕ × List ℕ × CoreEntity). i.2) xs
          ++ map (λ (e : List ℕ × CoreEntity). e.1) exports) (core.Func named.0)) same_imports named.1)) named.2 in
          let low = slice_get_within old.signatures k.0 s k.1 in
          let same = builder.distinct kind.Signature i k.0 s found (g.signatures k.0 s k.1) in
          omega (arith, low, same, above)

  -- so nothing is
  pub held_unchanged : new ≡ old
  held_unchanged =
      let modules : new.modules ≡ old.modules = kept_same old.modules new.modules g.modules no_module in
      let signatures : new.signatures ≡ old.signatures =
      kept_same old.signatures new.signatures g.signatures no_signature in
      adds.rest ∙ (λ i. record old { modules = modules i; signatures = signatures i })

-- and no export's module type lacks a place
pub place_held : (t : TypeTable) (n : ℕ) (b : Types) → IsBuilder b → HoldsModule b t n
    → IsTooFullFor b (λ next. (i : TypeModuleIndex) × IsEntry next t n (def.Module i)) → ⊥
place_held t n b builder h full = full.none b (no_more b) builder (h.number, entry_held b t n h)
