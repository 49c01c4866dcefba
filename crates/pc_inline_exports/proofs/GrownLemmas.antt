-- What is exported stands as the tables grow.
use Rattle.std.proofs.Common.{ℕ, List, sym, subst, ◌∙◌}
use Rattle.std.specs.List.{AllZip}
use Rattle.pc_types.specs.declared.module_record.ModuleRecord.{ModuleRecord}
use Rattle.pc_types.specs.declared.parsed.TypeTable.{TypeTable}
use Rattle.pc_types.specs.declared.type_index.TypeComponentInstanceIndex.{TypeComponentInstanceIndex}
use Rattle.pc_types.specs.declared.types.TypeDef.TheVariants as type
use Rattle.pc_types.specs.Table.{is_instance, is_module}
use Rattle.pc_types.specs.TypeTree.{TypeTree, func_of, instance_of, module_of}
use Rattle.pc_types_lists.specs.Types.{Types}
use Rattle.pc_types_lists.specs.Types as builder
use Rattle.pc_spec_plan.specs.CoreValue.{Options, map_options}
use Rattle.pc_spec_plan.specs.ExportNode.{ExportNode, ExportNodes, NamedNode}
use Rattle.pc_parsed.specs.Mark.{Mark}
use Rattle.pc_dfg.specs.declared.dfg.ComponentDfg.{ComponentDfg}
use Rattle.pc_dfg.specs.Grows as graph
use Rattle.pc_dfg.specs.Lists.{NamedExport}
use Rattle.pc_dfg.specs.Lists as list
use Rattle.pc_dfg.specs.Means.{MeansOptions}
use Rattle.pc_dfg.proofs.GrowLemmas.{kept}
use Rattle.pc_dfg.proofs.KeptLemmas.{options_kept}
use Rattle.pc_inline_state.specs.declared.definition.Definition.{Definition}
use Rattle.pc_inline_state.specs.declared.state.State.{State}
use Rattle.pc_inline_state.specs.Fits.{Fits, FitsBefore}
use Rattle.pc_inline_state.specs.Holds.{Numbered, number_of, whole_of}
use Rattle.pc_inline_state.specs.Tables.{Keeps, Tables, tables_of}
use Rattle.pc_types_builder.proofs.TreeLemmas.{tree_keeps}
use Rattle.pc_types.specs.declared.types.TypeDef.{TypeDef}
use Rattle.pc_inline_state.proofs.ZipLemmas.{zip_more}
use Rattle.pc_inline_canon.proofs.KeptLemmas.{core_kept, members_kept, table_tree_kept, type_kept}
use Rattle.pc_inline_canon.proofs.MarkLemmas.{options_twice, still}
use Rattle.pc_inline_hosts.specs.declared.member.HostMember.{HostMember}
use Rattle.pc_inline_hosts.specs.HostStands.{HostMemberStands, IsInstanceType, component_member, func_member}
use Rattle.pc_inline_hosts.specs.HostStands.{instance_member, module_member, type_member}
use Rattle.pc_inline_exports.specs.declared.build.Open.{Open}
use Rattle.pc_inline_exports.specs.Building.{OpenStands}
use Rattle.pc_inline_exports.specs.Exports.{IsHeldAs, NameStands, NestedStand, NodeStands, OptionsMean, and_nested}
use Rattle.pc_inline_exports.specs.Exports.{host_module_stands, imported_stands, instance_stands, lifted_stands}
use Rattle.pc_inline_exports.specs.Exports.{no_nested}
use Rattle.pc_inline_exports.specs.Exports.{static_stands, type_stands}
use Rattle.pc_inline_exports.specs.Reaching.{HasParts, host_has, made_has}
use Rattle.pc_inline_exports.specs.Subjects.{Part, Reader}

module _ (t : TypeTable) (old new : Types) (g h : ComponentDfg) (types : builder.KeepsTypes old new)
    (grows : graph.Grows g h) (fits : FitsBefore g h) where
  held_still : (d : TypeDef) (tree : TypeTree) → IsHeldAs t old g d tree → IsHeldAs t new h d tree
  held_still d tree is who now = tree_keeps old new types who d tree (is who (fits who now))

  pub options_still : (n : ℕ) (v : Options Mark) → OptionsMean t old g n v → OptionsMean t new h n v
  options_still n v s =
      let on : Numbered old (Fits g) → Numbered new (Fits h) = still old new types g h fits in
      record {
        twice = map_options on s.twice;
        means = subst (MeansOptions h n) (sym (options_twice on (number_of new (Fits h)) s.twice))
            (options_kept g h grows s.means);
        is = options_twice on (whole_of new (Fits h)) s.twice ∙ s.is;
      }

  mutual
    -- an export by number
    pub node_still : (n : ℕ) (x : ExportNode Mark) → NodeStands t old g n x → NodeStands t new h n x
    node_still n x (lifted_stands {ty = ty} {f = f} {o = o} {tree = tree} {v = v} {os = os} at held func options) =
        lifted_stands (kept g h grows list.export_items n _ at) (held_still (type.ComponentFunc ty) tree held)
        (core_kept old new g h types grows fits f v func) (options_still o.0 os options)
    node_still n x (imported_stands {ty = ty} {r = r} {path = path} {tree = tree} at path_is held) =
        imported_stands (kept g h grows list.export_items n _ at) (kept g h grows list.imports r.0 _ path_is)
        (held_still (type.ComponentFunc ty) tree held)
    node_still n x (static_stands {ty = ty} {m = m} held at) =
        static_stands (record {
          there = held.there;
          known = held.known;
          component_instance = held.component_instance;
          tree = held.tree;
          is = held.is;
          number = held.number;
          holds = held_still (type.Module held.number) held.tree held.holds;
        }) (kept g h grows list.export_items n _ at)
    node_still n x (host_module_stands {ty = ty} {r = r} {path = path} {tree = tree} at path_is held) =
        host_module_stands (kept g h grows list.export_items n _ at) (kept g h grows list.imports r.0 _ path_is)
        (held_still (type.Module ty) tree held)
    node_still n x (instance_stands {ty = ty} {es = es} {tree = tree} {nodes = nodes} at held nested) =
        instance_stands (kept g h grows list.export_items n _ at) (held_still (type.ComponentInstance ty) tree held)
        (nested_still es nodes nested)
    node_still n x (type_stands {ty = ty} {tree = tree} at held) =
        type_stands (kept g h grows list.export_items n _ at) (held_still ty tree held)

    nested_still : (es : List NamedExport) (xs : ExportNodes Mark) → NestedStand t old g es xs
        → NestedStand t new h es xs
    nested_still es xs no_nested = no_nested
    nested_still es xs (and_nested {n = n} {es = rest} {x = x} {xs = others} first more) =
        and_nested (node_still n.0 x first) (nested_still rest others more)

  -- and under its name
  pub name_still : (e : NamedExport) (x : NamedNode Mark) → NameStands t old g e x → NameStands t new h e x
  name_still e x s = record { name = s.name; extern_data = s.extern_data; node = node_still e.1.0.0 x.node s.node }

  -- and in order
  pub names_still : (es : List NamedExport) (xs : List (NamedNode Mark)) → AllZip (NameStands t old g) es xs
      → AllZip (NameStands t new h) es xs
  names_still es xs all = zip_more (NameStands t old g) (NameStands t new h) name_still es xs all

module _ (ms : List ModuleRecord) (b c : Tables) (keeps : Keeps b c) where
  -- an instance type twice
  instance_type_kept : (ty : TypeComponentInstanceIndex) (entry : ℕ) (tree : TypeTree)
      → IsInstanceType ms b ty entry tree → IsInstanceType ms c ty entry tree
  instance_type_kept ty entry tree x = record {
    typed = type_kept ms b c keeps (type.ComponentInstance ty) tree x.typed;
    declared = table_tree_kept ms b c keeps is_instance entry tree x.declared;
  }

  pub member_kept : (m : HostMember) (tree : TypeTree) → HostMemberStands ms b m tree → HostMemberStands ms c m tree
  member_kept m tree (func_member {ty = ty} {params = ps} {result = r} {is_async = a} is) =
      func_member (type_kept ms b c keeps (type.ComponentFunc ty) (func_of ps r a) is)
  member_kept m tree (instance_member {ty = ty} {entry = entry} {exports = fs} is) =
      instance_member (instance_type_kept ty entry (instance_of fs) is)
  member_kept m tree (module_member {ty = ty} {entry = entry} {imports = is} {exports = es} typed tabled) =
      module_member (type_kept ms b c keeps (type.Module ty) (module_of is es) typed)
      (table_tree_kept ms b c keeps is_module entry (module_of is es) tabled)
  member_kept m tree component_member = component_member
  member_kept m tree (type_member {d = d} kind is) = type_member kind (type_kept ms b c keeps d tree is)

  -- the parts of an instance
  pub parts_kept : (d : Definition) (ps : List Part) (tree : TypeTree) → HasParts ms b d ps tree
      → HasParts ms c d ps tree
  parts_kept d ps tree (made_has {n = n} {ty = ty} {es = es} {vs = vs} held members typed) =
      made_has (keeps.instances n.0 es held) (members_kept ms b c keeps es vs members)
      (type_kept ms b c keeps (type.ComponentInstance ty) tree typed)
  parts_kept d ps tree (host_has {p = p} {ty = ty} {entry = entry} {path = path} held is) =
      host_has (keeps.paths p.0 path held) (instance_type_kept ty entry tree is)

-- an instance whose parts are being reached
pub open_kept : (t : TypeTable) (ms : List ModuleRecord) (old new : State) → Keeps (tables_of old) (tables_of new)
    → (o : Open) (r : Reader) → OpenStands t ms old o r → OpenStands t ms new o r
open_kept t ms old new keeps o r x = record {
  name = x.name;
  data_ = x.data_;
  parts = parts_kept ms (tables_of old) (tables_of new) keeps o.instance r.parts r.tree x.parts;
  next = x.next;
  apart = x.apart;
  named = x.named;
  items = names_still t old.types new.types old.graph new.graph keeps.types keeps.graph keeps.fits o.items r.reads
      x.items;
}

-- and those that wait
pub opens_kept : (t : TypeTable) (ms : List ModuleRecord) (old new : State) → Keeps (tables_of old) (tables_of new)
    → (os : List Open) (rs : List Reader) → AllZip (OpenStands t ms old) os rs → AllZip (OpenStands t ms new) os rs
opens_kept t ms old new keeps os rs all =
    zip_more (OpenStands t ms old) (OpenStands t ms new) (open_kept t ms old new keeps) os rs all
