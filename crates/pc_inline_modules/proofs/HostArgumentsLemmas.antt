-- What a module of the host is given, by the imports of its table entry and by those of its tree.
use Rattle.std.proofs.Common.{◌≡◌, ℕ, true, false, List, [], ◌∷◌, map, Option, Some, None, if◌then◌else◌, refl, sym}
use Rattle.std.proofs.Common.{ap, subst, ◌∙◌, length}
use Rattle.std.specs.Prelude.{slice_get, option_and_then, option_map}
use Rattle.std.specs.List.{AllZip}
use Rattle.std.proofs.lemmas.Option.{none-some, same_Some}
use Rattle.pc_entity.specs.Lists.{map_all}
use Rattle.pc_entity.proofs.MapAll.{length-map_all, map_all_cons, map_all_uncons}
use Rattle.pc_types.specs.declared.module_record.ModuleRecord.{ModuleRecord}
use Rattle.pc_types.specs.declared.parsed.CoreEntity.{CoreEntity}
use Rattle.pc_types.specs.declared.parsed.DeclType.{DeclType}
use Rattle.pc_types.specs.declared.parsed.DeclType.TheVariants as entry
use Rattle.pc_types.specs.declared.parsed.TypeTable.{TypeTable}
use Rattle.pc_types.specs.Names.{are_distinct, same_pair}
use Rattle.pc_types.specs.Table.{is_module, table_fault}
use Rattle.pc_types.specs.TypeTree.{CoreTree, TypeTree, module_import_tree, tree_of}
use Rattle.pc_spec_plan.specs.CoreValue.{CoreValue}
use Rattle.pc_spec_plan.specs.Log.{NamedArgument}
use Rattle.pc_parsed.specs.Mark.{Mark}
use Rattle.pc_spec_reading.specs.Arguments.{argument, grouped, has_instances, host_argument, host_arguments}
use Rattle.pc_spec_reading.specs.Arguments.{static_argument}
use Rattle.pc_spec_reading.specs.Scope.{Scope}
use Rattle.pc_spec_reading.specs.Types.{has_entry, module_imports}
use Rattle.pc_dfg.specs.declared.core_def.CoreDef.{CoreDef}
use Rattle.pc_inline_names.specs.Both.{Both, both}
use Rattle.pc_inline_names.specs.Named.{imports_of}
use Rattle.pc_inline_state.specs.declared.frame.Frame.{Frame}
use Rattle.pc_inline_state.specs.Found.{ArgumentStands, ArgumentsStand, knows_instances}
use Rattle.pc_inline_state.specs.Frames.{FrameStands}
use Rattle.pc_inline_state.specs.Stands.{IsTableTree}
use Rattle.pc_inline_state.specs.Tables.{Tables}
use Rattle.pc_inline_state.proofs.ZipLemmas.{both_there, zip_length}
use Rattle.pc_inline_modules.specs.Given.{HostArgumentsStand, NamedStands}
use Rattle.pc_inline_modules.specs.Grouped.{by_module, grouped_by, paired, pair_of}
use Rattle.pc_inline_modules.proofs.GroupLemmas.{as_listed, by_module_listed, grouped_zip, ungrouped}
use Rattle.pc_inline_modules.proofs.ModuleArgumentsLemmas.{same_known}
use Rattle.pc_inline_modules.proofs.ModuleTreeLemmas.{IsModuleTree, import_kept, imports_apart, kind_kept, module_entry}
use Rattle.pc_inline_modules.proofs.ModuleTreeLemmas.{module_tree}

-- an entry that is a module type has imports
pub not_module : (t : TypeTable) (n : ℕ) → has_entry t is_module n ≡ true
    → option_and_then imports_of (slice_get t.types n) ≡ None → ⊥
not_module t n has none =
    let m = module_entry t n has in none-some m.0 (sym none ∙ ap (option_and_then imports_of) m.2)

-- what a module type imports is what its entry says
imports_are : (t : TypeTable) (n : ℕ) (imports others : List (List ℕ × List ℕ × CoreEntity))
    (exports : List (List ℕ × CoreEntity)) → slice_get t.types n ≡ Some (entry.Module others exports)
    → option_and_then imports_of (slice_get t.types n) ≡ Some imports → others ≡ imports
imports_are t n imports others exports at is =
    same_Some others imports (sym (ap (option_and_then imports_of) at) ∙ is)

-- the names of the imports of an entry stand once
pub entry_apart : (t : TypeTable) → table_fault t ≡ None → (n : ℕ) (imports : List (List ℕ × List ℕ × CoreEntity))
    → option_and_then imports_of (slice_get t.types n) ≡ Some imports
    → are_distinct same_pair (map pair_of imports) ≡ true
entry_apart t sound n imports is = by (slice_get t.types n) refl is
  where
    by : (o : Option DeclType) → slice_get t.types n ≡ o → option_and_then imports_of o ≡ Some imports
        → are_distinct same_pair (map pair_of imports) ≡ true
    by None at h = absurd (none-some imports h)
    by (Some (entry.Module others exports)) at h =
        subst (λ is. are_distinct same_pair (map pair_of is) ≡ true) (same_Some others imports h)
        (imports_apart t sound n others exports at)
    by (Some e) at h = absurd (none-some imports h)

-- as many definitions are given as there are imports
pub given_each : {A B C : Type 0} (R : A → B → Type 0) (f : C → Option B) (ds : List A) (xs : List C)
    → Both (AllZip R) (Some ds) (map_all f xs) → length ds ≡ length xs
given_each R f ds xs given =
    let vs = both_there (AllZip R) (Some ds) (map_all f xs) ds given refl in
    zip_length R ds vs.0 vs.2 ∙ length-map_all f xs vs.0 vs.1

module _ (t : TypeTable) (ms : List ModuleRecord) (s : Scope) (args : List (List ℕ × ℕ)) where
  -- what is given for an import under its names
  abbrev under_names : List ℕ × List ℕ × CoreEntity → CoreValue Mark → NamedArgument Mark
  under_names i v = record { module_name = i.0; name = i.1; value = v }

  -- what is given for an import by its tree is what is given by its entry
  host_by_entry : (i : List ℕ × List ℕ × CoreEntity) (x : List ℕ × List ℕ × CoreTree)
      → module_import_tree t i ≡ Some x
      → host_argument ms s args x ≡ option_map (under_names i) (static_argument ms s args i)
  host_by_entry i x is =
      let c = import_kept t i x is in
      ap (host_argument ms s args) c.2
      ∙ ap (λ k. option_map (under_names i) (argument ms s args i.0 i.1 k)) (kind_kept t i.2 c.0 c.1)

  -- where each import is given something by its tree, it is by its entry
  entry_by_host : (imports : List (List ℕ × List ℕ × CoreEntity)) (is : List (List ℕ × List ℕ × CoreTree))
      (zs : List (NamedArgument Mark)) → map_all (module_import_tree t) imports ≡ Some is
      → map_all (host_argument ms s args) is ≡ Some zs
      → (vs : List (CoreValue Mark)) × (map_all (static_argument ms s args) imports ≡ Some vs)
  entry_by_host [] is zs trees given = ([], refl)
  entry_by_host (i ∷ imports) is zs trees given =
      let x = map_all_uncons (module_import_tree t) i imports is trees in
      let y = map_all_uncons (host_argument ms s args) x.0 x.1 zs
      (ap (map_all (host_argument ms s args)) (sym x.4) ∙ given) in
      let rest = entry_by_host imports x.1 y.1 x.3 y.3 in
      let first = by y.0 (static_argument ms s args i) refl (sym (host_by_entry i x.0 x.2) ∙ y.2) in
      (first.0 ∷ rest.0, map_all_cons (static_argument ms s args) i imports first.0 rest.0 first.1 rest.1)
    where
      by : (y : NamedArgument Mark) (o : Option (CoreValue Mark)) → static_argument ms s args i ≡ o
          → option_map (under_names i) o ≡ Some y
          → (v : CoreValue Mark) × (static_argument ms s args i ≡ Some v)
      by y None at h = absurd (none-some y h)
      by y (Some v) at h = (v, at)

  module _ (b : Tables) where
    -- a definition is what is given for an import of the tree
    record IsGivenFor (x : List ℕ × List ℕ × CoreDef) (i : List ℕ × List ℕ × CoreTree) : Type 0 where
      pub module_name : x.0 ≡ i.0
      pub value : NamedArgument Mark
      pub given : host_argument ms s args i ≡ Some value
      pub stands : NamedStands ms b (as_listed x) value

    -- the definitions that are given by the entries are given by the trees
    given_trees : (imports : List (List ℕ × List ℕ × CoreEntity)) (ds : List CoreDef) (vs : List (CoreValue Mark))
        (is : List (List ℕ × List ℕ × CoreTree)) → AllZip (ArgumentStands ms b) ds vs
        → map_all (static_argument ms s args) imports ≡ Some vs → map_all (module_import_tree t) imports ≡ Some is
        → AllZip IsGivenFor (paired imports ds) is
    given_trees [] ds vs is stands given trees = subst (AllZip IsGivenFor []) (same_Some [] is trees) tt
    given_trees (i ∷ imports) [] vs is stands given trees =
        let y = map_all_uncons (static_argument ms s args) i imports vs given in
        absurd (subst (AllZip (ArgumentStands ms b) []) y.4 stands)
    given_trees (i ∷ imports) (d ∷ ds) vs is stands given trees =
        let y = map_all_uncons (static_argument ms s args) i imports vs given in
        let x = map_all_uncons (module_import_tree t) i imports is trees in
        let both_stand = subst (AllZip (ArgumentStands ms b) (d ∷ ds)) y.4 stands in
        let kept = import_kept t i x.0 x.2 in
        subst (AllZip IsGivenFor (paired (i ∷ imports) (d ∷ ds))) (sym x.4) (
          record {
            module_name = ap (λ z. z.0) (sym kept.2);
            value = under_names i y.0;
            given = host_by_entry i x.0 x.2 ∙ ap (option_map (under_names i)) y.2;
            stands = record { module_name = refl; name = refl; value = both_stand.0 };
          },
          given_trees imports ds y.1 x.1 both_stand.1 y.3 x.3,
        )

    -- all of them, listed
    listed_given : (xs : List (List ℕ × List ℕ × CoreDef)) (is : List (List ℕ × List ℕ × CoreTree))
        → AllZip IsGivenFor xs is
        → (ws : List (NamedArgument Mark)) × (map_all (host_argument ms s args) is ≡ Some ws)
        × AllZip (NamedStands ms b) (map as_listed xs) ws
    listed_given [] [] h = ([], refl, tt)
    listed_given [] (i ∷ is) h = absurd h
    listed_given (x ∷ xs) [] h = absurd h
    listed_given (x ∷ xs) (i ∷ is) h =
        let rest = listed_given xs is h.1 in
        let first = h.0 in (
          first.value ∷ rest.0,
          map_all_cons (host_argument ms s args) i is first.value rest.0 first.given rest.1,
          (first.stands, rest.2),
        )

    module _ (n : ℕ) (tree : TypeTree) (tabled : IsTableTree ms b is_module n tree) (table : b.table ≡ t)
        (imports : List (List ℕ × List ℕ × CoreEntity))
        (is : option_and_then imports_of (slice_get t.types n) ≡ Some imports)
        (known : has_instances s args ≡ true) where
      -- the module type with its tree
      parts : IsModuleTree t n tree
      parts = module_tree tabled.known tabled.component_instance t n tree
          (subst (λ (u : TypeTable). has_entry u is_module n ≡ true) table tabled.there)
          (subst (λ (u : TypeTable). tree_of tabled.known tabled.component_instance u n ≡ Some tree) table tabled.is)

      -- the trees of the imports
      trees_are : map_all (module_import_tree t) imports ≡ Some parts.import_trees
      trees_are =
          ap (map_all (module_import_tree t)) (sym (imports_are t n imports parts.imports parts.exports parts.entry is))
          ∙ parts.imports_are

      -- what the reading gives
      reading_gives : host_arguments ms s args tree
          ≡ map_all (host_argument ms s args) (grouped parts.import_trees)
      unfolding host_arguments
      reading_gives =
          ap (λ b. if b then map_all (host_argument ms s args) (grouped (module_imports tree)) else None) known
          ∙ ap (λ y. map_all (host_argument ms s args) (grouped (module_imports y))) parts.is

      -- an import is given nothing
      pub host_missing : map_all (static_argument ms s args) imports ≡ None → host_arguments ms s args tree ≡ None
      host_missing none =
          reading_gives ∙ by (map_all (host_argument ms s args) (grouped parts.import_trees)) refl
        where
          by : (o : Option (List (NamedArgument Mark)))
              → map_all (host_argument ms s args) (grouped parts.import_trees) ≡ o → o ≡ None
          by None at = refl
          by (Some ws) at =
              let all = ungrouped (host_argument ms s args) parts.import_trees ws at in
              let vs = entry_by_host imports parts.import_trees all.0 trees_are all.1 in
              absurd (none-some vs.0 (sym none ∙ vs.1))

      -- each import is given something
      pub host_all : (ds : List CoreDef)
          → Both (ArgumentsStand ms b) (Some ds) (map_all (static_argument ms s args) imports)
          → Both (HostArgumentsStand ms b) (Some (by_module (paired imports ds))) (host_arguments ms s args tree)
      host_all ds given =
          let vs = both_there (ArgumentsStand ms b) (Some ds) (map_all (static_argument ms s args) imports) ds given
          refl in
          let each = given_trees imports ds vs.0 parts.import_trees vs.2 vs.1 trees_are in
          let together = grouped_zip IsGivenFor (λ x i g. g.module_name) (paired imports ds) parts.import_trees each in
          let ws = listed_given (grouped_by (paired imports ds)) (grouped_by parts.import_trees) together in
          subst (Both (HostArgumentsStand ms b) (Some (by_module (paired imports ds)))) (sym (reading_gives ∙ ws.1))
          (both (subst (λ xs. AllZip (NamedStands ms b) xs ws.0) (sym (by_module_listed (paired imports ds))) ws.2))

-- an argument isn't a core instance
pub unknown_host : (ms : List ModuleRecord) (b : Tables) (f : Frame) (args : List (List ℕ × ℕ)) (s : Scope)
    → FrameStands ms b f s → knows_instances f args ≡ false → (tree : TypeTree)
    → host_arguments ms s args tree ≡ None
unfolding host_arguments
unknown_host ms b f args s stands unknown tree = rw (sym (same_known ms b f args s stands) ∙ unknown) refl
