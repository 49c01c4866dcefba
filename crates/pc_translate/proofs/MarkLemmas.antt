-- Side effects and exports of a graph that stand for those of a reading: entries and nodes that have each type twice,
-- as a number and whole.
use Rattle.std.proofs.Common.{◌≡◌, ℕ, List, [], ◌∷◌, All, Option, Some, map, refl, subst, sym}
use Rattle.std.specs.Prelude.{slice_get}
use Rattle.std.specs.List.{AllZip}
use Rattle.pc_numbers.specs.declared.component_entity.StaticModuleIndex.{StaticModuleIndex}
use Rattle.pc_types.specs.declared.parsed.TypeTable.{TypeTable}
use Rattle.pc_types.specs.declared.type_index.TypeModuleIndex.{TypeModuleIndex}
use Rattle.pc_types.specs.declared.types.TypeDef.{TypeDef}
use Rattle.pc_types.specs.declared.types.TypeDef.TheVariants as def
use Rattle.pc_types.specs.TypeTree.{TypeTree}
use Rattle.pc_types_lists.specs.Trees.{HasTree}
use Rattle.pc_types_lists.specs.Types.{Types}
use Rattle.pc_types_builder.specs.Trees.{identities}
use Rattle.pc_trampoline.specs.declared.part.Mark.TheVariants as mark
use Rattle.pc_parsed.specs.Mark as reading
use Rattle.pc_spec_plan.specs.ExportNode as node
use Rattle.pc_spec_plan.specs.ExportNode.{ExportNode, ExportNodes, NamedNode, map_named, map_node, map_nodes}
use Rattle.pc_spec_plan.specs.Log.{Entry, declared, declared_resource, instances_of, instantiated, made, map_entry}
use Rattle.pc_spec_plan.specs.Log.{map_instantiation, map_owned, needed, trace}
use Rattle.pc_dfg.specs.declared.dfg.ComponentDfg.{ComponentDfg}
use Rattle.pc_dfg.specs.declared.instance.SideEffect.{SideEffect}
use Rattle.pc_dfg.specs.Effects.{MeansEffect}
use Rattle.pc_dfg.specs.Lists.{NamedExport}
use Rattle.pc_dfg.specs.declared.export.Export.TheVariants as export
use Rattle.pc_dfg.specs.Nodes.{MeansItem, MeansName, MeansNested, means_and_node, means_host_module}
use Rattle.pc_dfg.specs.Nodes.{means_imported_function, means_instance, means_item, means_lifted, means_no_nodes}
use Rattle.pc_dfg.specs.Nodes.{means_static_module, means_type}
use Rattle.pc_dfg_finish.specs.ModuleTypes.{IsTyped, module_mark}
use Rattle.pc_dfg_linearize.proofs.AllLemmas.{all_at}
use Rattle.pc_inline_exports.specs.Exports.{IsHeldAs, NameStands, NestedStand, NodeStands, and_nested}
use Rattle.pc_inline_exports.specs.Exports.{host_module_stands, imported_stands, instance_stands, lifted_stands}
use Rattle.pc_inline_exports.specs.Exports.{no_nested, static_stands, type_stands}
use Rattle.pc_inline_canon.proofs.MarkLemmas.{entry_twice, node_twice}
use Rattle.pc_inline_state.specs.Fits.{Fits}
use Rattle.pc_inline_state.specs.Holds.{Holds, Numbered, number_of, whole_of}
use Rattle.pc_inline_state.specs.Worlds.{EffectStands, HoldsModule}
use Rattle.pc_translate.proofs.ModuleTreeLemmas.{one_module_tree}
use Rattle.pc_translate.proofs.ModuleTypeLemmas.{mark_typed}
use Rattle.pc_translate.specs.ModuleTypes.{AreModuleTypes}

module _ {τ υ ω : Type 0} (f : τ → υ) (h : υ → ω) where
  -- entries mapped twice are mapped once by both
  pub entries_twice : (es : List (Entry τ))
      → map (map_entry h) (map (map_entry f) es) ≡ map (map_entry (λ m. h (f m))) es
  entries_twice [] = refl
  entries_twice (e ∷ es) =
      let a = entry_twice f h e in
      let b = entries_twice es in
      λ i. a i ∷ b i

  -- and so are exports
  pub named_twice : (ns : List (NamedNode τ))
      → map (map_named h) (map (map_named f) ns) ≡ map (map_named (λ m. h (f m))) ns
  named_twice [] = refl
  named_twice (n ∷ ns) =
      let a = node_twice f h n.node in
      let b = named_twice ns in
      λ i. record { name = n.name; extern_data = n.extern_data; node = a i } ∷ b i

-- the core instances of entries whose marks are mapped
pub instances_mapped : {τ υ : Type 0} (f : τ → υ) (es : List (Entry τ))
    → instances_of (map (map_entry f) es) ≡ map (map_owned f) (instances_of es)
instances_mapped f [] = refl
instances_mapped {τ} f (e ∷ es) = by e (instances_mapped f es)
  where
    by : (x : Entry τ) → instances_of (map (map_entry f) es) ≡ map (map_owned f) (instances_of es)
        → instances_of (map (map_entry f) (x ∷ es)) ≡ map (map_owned f) (instances_of (x ∷ es))
    by (instantiated i c) rest =
        λ j. record { instantiation = map_instantiation f i; component_instance = c } ∷ rest j
    by (declared_resource representation destructor c) rest = rest
    by (declared v) rest = rest
    by (made v) rest = rest
    by (needed path) rest = rest

-- a trace has all core instances of its log
pub instances_traced : {τ : Type 0} (log : List (Entry τ)) → instances_of (trace log) ≡ instances_of log
instances_traced [] = refl
instances_traced {τ} (e ∷ log) = by e (instances_traced log)
  where
    by : (x : Entry τ) → instances_of (trace log) ≡ instances_of log
        → instances_of (trace (x ∷ log)) ≡ instances_of (x ∷ log)
    by (instantiated i c) rest = λ j. record { instantiation = i; component_instance = c } ∷ rest j
    by (declared_resource representation destructor c) rest = rest
    by (declared v) rest = rest
    by (made v) rest = rest
    by (needed path) rest = rest

module _ (types : Types) (g : ComponentDfg) where
  -- entries that have each type twice: with numbers they are what side effects do, with whole types those of a reading
  pub record Entries (es : List SideEffect) (xs : List (Entry reading.Mark)) : Type 0 where
    pub entries : List (Entry (Numbered types (Fits g)))
    pub mean : AllZip (MeansEffect g) es (map (map_entry (number_of types (Fits g))) entries)
    pub are : map (map_entry (whole_of types (Fits g))) entries ≡ xs

  pub all_entries : (es : List SideEffect) (xs : List (Entry reading.Mark)) → AllZip (EffectStands types g) es xs
      → Entries es xs
  all_entries [] [] h = record { entries = []; mean = tt; are = refl }
  all_entries [] (x ∷ xs) h = absurd h
  all_entries (e ∷ es) [] h = absurd h
  all_entries (e ∷ es) (x ∷ xs) h =
      let first = h.0 in
      let rest = all_entries es xs h.1 in
      let one = first.is in
      let more = rest.are in
      record {
        entries = first.numbered ∷ rest.entries;
        mean = (first.means, rest.mean);
        are = λ i. one i ∷ more i;
      }

module _ (t : TypeTable) (types : Types) (g : ComponentDfg) where
  -- a type that is held under a number
  held_mark : (d : TypeDef) (tree : TypeTree) → IsHeldAs t types g d tree
      → Holds types (Fits g) (mark.Type_ d) (reading.of_type tree)
  unfolding Holds
  held_mark d tree held = held

  -- the same, twice
  abbrev twice_of : (d : TypeDef) (tree : TypeTree) → IsHeldAs t types g d tree → Numbered types (Fits g)
  twice_of d tree held =
      record { number = mark.Type_ d; whole = reading.of_type tree; holds = held_mark d tree held }

  module _ (marks : List (Option TypeModuleIndex)) (converted : AreModuleTypes types t marks)
      (typed : All (IsTyped marks) g.export_items) where
    -- the type of a handed-in module that is exported, under the number that it has
    module_twice : (n ty : ℕ) (m : StaticModuleIndex) (held : HoldsModule types t g ty)
        → slice_get g.export_items n ≡ Some (export.ModuleStatic ty m)
        → Holds types (Fits g) (module_mark marks ty) (reading.of_type held.tree)
    unfolding Holds
    module_twice n ty m held at =
        let here = mark_typed types t marks ty converted
        (all_at (IsTyped marks) g.export_items n (export.ModuleStatic ty m) typed at) in
        subst (λ k. Holds types (Fits g) k (reading.of_type held.tree)) (sym here.1)
        (λ who fits.
        let x = here.2 who in
        subst (HasTree types who (def.Module here.0))
        (one_module_tree t ty held.there (identities who types.resources.known) types.resources.current.0 held.known
        held.component_instance x.0 held.tree x.1 held.is) x.2)

    -- a node that has each type twice: with numbers it is what an export item is, with whole types the reading's
    record Twice (n : ℕ) (x : ExportNode reading.Mark) : Type 0 where
      twice : ExportNode (Numbered types (Fits g))
      means : MeansItem g (module_mark marks) n (map_node (number_of types (Fits g)) twice)
      is : map_node (whole_of types (Fits g)) twice ≡ x

    -- the same of what an instance exports
    record NestedTwice (es : List NamedExport) (xs : ExportNodes reading.Mark) : Type 0 where
      twice : ExportNodes (Numbered types (Fits g))
      means : MeansNested g (module_mark marks) es (map_nodes (number_of types (Fits g)) twice)
      is : map_nodes (whole_of types (Fits g)) twice ≡ xs

    mutual
      node_there_twice : {n : ℕ} {x : ExportNode reading.Mark} → NodeStands t types g n x → Twice n x
      node_there_twice (lifted_stands {ty = ty} {tree = tree} at held core options) =
          let a = core.is in
          let b = options.is in
          record {
            twice = node.lifted (twice_of (def.ComponentFunc ty) tree held) core.numbered options.twice;
            means = means_item at (means_lifted core.means options.means);
            is = λ i. node.lifted (reading.of_type tree) (a i) (b i);
          }
      node_there_twice (imported_stands {ty = ty} {path = path} {tree = tree} at leads held) = record {
        twice = node.imported_function (twice_of (def.ComponentFunc ty) tree held) path;
        means = means_item at (means_imported_function leads);
        is = refl;
      }
      node_there_twice (static_stands {n = n} {ty = ty} {m = m} held at) = record {
        twice = node.static_module m.0
            (record { number = module_mark marks ty; whole = reading.of_type held.tree; holds = module_twice n ty m held at });
        means = means_item at means_static_module;
        is = refl;
      }
      node_there_twice (host_module_stands {ty = ty} {path = path} {tree = tree} at leads held) = record {
        twice = node.host_module path (twice_of (def.Module ty) tree held);
        means = means_item at (means_host_module leads);
        is = refl;
      }
      node_there_twice (instance_stands {ty = ty} {tree = tree} at held nested) =
          let rest = nested_there_twice nested in
          let a = rest.is in
          record {
            twice = node.instance (twice_of (def.ComponentInstance ty) tree held) rest.twice;
            means = means_item at (means_instance rest.means);
            is = λ i. node.instance (reading.of_type tree) (a i);
          }
      node_there_twice (type_stands {ty = ty} {tree = tree} at held) = record {
        twice = node.type_node (twice_of ty tree held);
        means = means_item at means_type;
        is = refl;
      }

      nested_there_twice : {es : List NamedExport} {xs : ExportNodes reading.Mark} → NestedStand t types g es xs
          → NestedTwice es xs
      nested_there_twice no_nested = record { twice = node.no_nodes; means = means_no_nodes; is = refl }
      nested_there_twice (and_nested {name = name} {meta = meta} first rest) =
          let x = node_there_twice first in
          let xs = nested_there_twice rest in
          let a = x.is in
          let b = xs.is in
          record {
            twice = node.and_node name meta x.twice xs.twice;
            means = means_and_node x.means xs.means;
            is = λ i. node.and_node name meta (a i) (b i);
          }

    -- nodes that have each type twice: with numbers they are what names export, with whole types those of a reading
    pub record Nodes (es : List NamedExport) (xs : List (NamedNode reading.Mark)) : Type 0 where
      pub nodes : List (NamedNode (Numbered types (Fits g)))
      pub mean : AllZip (MeansName g (module_mark marks)) es (map (map_named (number_of types (Fits g))) nodes)
      pub are : map (map_named (whole_of types (Fits g))) nodes ≡ xs

    pub all_nodes : (es : List NamedExport) (xs : List (NamedNode reading.Mark)) → AllZip (NameStands t types g) es xs
        → Nodes es xs
    all_nodes [] [] h = record { nodes = []; mean = tt; are = refl }
    all_nodes [] (x ∷ xs) h = absurd h
    all_nodes (e ∷ es) [] h = absurd h
    all_nodes (e ∷ es) (x ∷ xs) h =
        let first = h.0 in
        let rest = all_nodes es xs h.1 in
        let here = node_there_twice first.node in
        let one = here.is in
        let more = rest.are in
        record {
          nodes = record { name = x.name; extern_data = x.extern_data; node = here.twice } ∷ rest.nodes;
          mean = (
            record { name = first.name; extern_data = first.extern_data; node = here.means },
            rest.mean,
          );
          are = λ i. record { name = x.name; extern_data = x.extern_data; node = one i } ∷ more i;
        }
