-- What is exported, as items of the graph, against the nodes of the reading.
use Rattle.std.specs.Prelude.{◌≡◌, ◌<◌, ◌≤◌, ◌+◌, ◌*◌, ◌⊎◌, ℕ, true, List, Some, Result, Ok, Err, length, slice_get}
use Rattle.std.specs.Prelude.{[], ◌∷◌, ◌++◌}
use Rattle.pc_numbers.specs.declared.runtime.ExportIndex.{ExportIndex}
use Rattle.pc_entity.specs.declared.string_pool.Atom.{Atom}
use Rattle.pc_types.specs.declared.error.Unsupported.{Unsupported}
use Rattle.pc_types.specs.declared.module_record.ModuleRecord.{ModuleRecord}
use Rattle.pc_types.specs.declared.parsed.CoreKind.TheVariants as core
use Rattle.pc_types.specs.declared.parsed.TypeTable.{TypeTable}
use Rattle.pc_types.specs.declared.type_index.TypeComponentInstanceIndex.{TypeComponentInstanceIndex}
use Rattle.pc_types.specs.declared.type_index.TypeFuncIndex.{TypeFuncIndex}
use Rattle.pc_types.specs.declared.types.TypeDef.TheVariants as type
use Rattle.pc_types.specs.TypeTree.{Path, TypeTree}
use Rattle.pc_numbers.specs.declared.component_entity.StaticModuleIndex.{StaticModuleIndex}
use Rattle.pc_spec_plan.specs.ExportNode.{ExportNode}
use Rattle.pc_dfg.specs.declared.dfg.ComponentDfg.{ComponentDfg}
use Rattle.pc_parsed.specs.Mark.{Mark}
use Rattle.pc_spec_reading.specs.Nodes.{Reached, reached, refused, within_total}
use Rattle.pc_spec_reading.specs.Outcome.{unsupported}
use Rattle.pc_spec_reading.specs.Types.{instance_fields}
use Rattle.pc_spec_reading.specs.Value.{NamedValues, Value}
use Rattle.pc_spec_reading.specs.World.{World, grown, has_room}
use Rattle.pc_dfg.specs.declared.core_def.CoreDef.{CoreDef}
use Rattle.pc_dfg.specs.declared.export.Export.{Export}
use Rattle.pc_dfg.specs.declared.export.Export.TheVariants as export
use Rattle.pc_dfg.specs.declared.ids.OptionsId.{OptionsId}
use Rattle.pc_dfg.specs.Grows as graph
use Rattle.pc_dfg.specs.Held.{HeldExport}
use Rattle.pc_dfg.specs.Ordered.{IsOrdered}
use Rattle.pc_dfg.specs.Lists as list
use Rattle.pc_dfg.specs.Lists.{ListName}
use Rattle.pc_inline_paths.specs.declared.path_id.PathId.{PathId}
use Rattle.pc_inline_state.specs.declared.definition.Definition.{Definition}
use Rattle.pc_inline_state.specs.declared.definition.Definition.TheVariants as definition
use Rattle.pc_inline_state.specs.declared.definition.ExportsId.{ExportsId}
use Rattle.pc_inline_state.specs.declared.error.ItemError.{ItemError}
use Rattle.pc_inline_state.specs.declared.error.ItemError.TheVariants as item_error
use Rattle.pc_inline_state.specs.declared.error.ItemFault.TheVariants as item_fault
use Rattle.pc_inline_state.specs.declared.state.Member.{Member}
use Rattle.pc_inline_state.specs.declared.state.State.{State}
use Rattle.pc_inline_state.specs.Adds.{Adds}
use Rattle.pc_inline_state.specs.AddsEach.{AddsEach}
use Rattle.pc_inline_state.specs.Fits.{FitsBefore}
use Rattle.pc_inline_state.specs.Points.{IsFullSomewhere, IsSoundState}
use Rattle.pc_inline_state.specs.Refused.{LacksRoom}
use Rattle.pc_inline_state.specs.Stands.{DefinitionStands, IsType, MembersStand}
use Rattle.pc_inline_state.specs.Tables.{IsItem, Keeps, Tables, tables_of}
use Rattle.pc_inline_state.specs.Worlds.{HoldsModule, WorldStands}
use Rattle.pc_inline_hosts.specs.declared.member.HostMember.{HostMember}
use Rattle.pc_inline_hosts.specs.HostMembers.{definition_at}
use Rattle.pc_inline_hosts.specs.HostStands.{HostMemberStands, IsInstanceType, fields_list}
use Rattle.pc_inline_exports.specs.Exports.{IsWithin, NodeStands, node_size}
use Rattle.pc_inline_exports.specs.Subjects.{Part, Subject, a_value, host_parts, of_host, subject_node, value_parts}

-- an export item is the last of the graph, under its number; or there is no room, and nothing was done
unfoldable pub Pushed : (old : State) → Export → (new : State) → Result ExportIndex ItemError → Type 0
Pushed old e new (Ok n) =
    (n.0 ≡ length old.graph.export_items) × (new.graph.export_items ≡ old.graph.export_items ++ e ∷ [])
Pushed old e new (Err x) = (new ≡ old) × LacksRoom new x

-- an export item is put into the graph
pub record Pushes (old : State) (e : Export) (new : State) (r : Result ExportIndex ItemError) : Type 0 where
  pub rest : new ≡ record old { graph = record old.graph { export_items = new.graph.export_items } }
  pub grows : graph.Grows old.graph new.graph
  pub ordered : HeldExport old.graph (length old.graph.export_items) e → IsOrdered old.graph → IsOrdered new.graph
  pub pushed : Pushed old e new r

-- what one node needs before it is an item: four entries in each list of slots, one among the options, and one among
-- the imports that are used
abbrev pub in_leaf : ListName → ℕ
in_leaf (list.slots k) = 4
in_leaf list.options = 1
in_leaf list.imports = 1
in_leaf l = 0

module _ (ms : List ModuleRecord) (b : Tables) where
  -- a definition is what is exported: a value, or what the host has at a path
  pub data SubjectStands : Definition → Subject → Type 0 where
    stands_value : {d : Definition} {v : Value} → DefinitionStands ms b d v → SubjectStands d (a_value v)
    stands_at : {path : Path} {tree : TypeTree} {d : Definition} (p : PathId) (m : HostMember)
        → slice_get b.paths p.0 ≡ Some path → HostMemberStands ms b m tree → definition_at p m ≡ Some d
        → SubjectStands d (of_host path tree)

  -- a definition is an instance that has these parts and this type
  pub data HasParts : Definition → List Part → TypeTree → Type 0 where
    made_has : {n : ExportsId} {ty : TypeComponentInstanceIndex} {es : List (Atom × Member)} {vs : NamedValues}
        {tree : TypeTree} → slice_get b.instances n.0 ≡ Some es → MembersStand ms b es vs
        → IsType ms b (type.ComponentInstance ty) tree → HasParts (definition.Instance n ty) (value_parts vs) tree
    host_has : {p : PathId} {ty : TypeComponentInstanceIndex} {entry : ℕ} {path : Path} {tree : TypeTree}
        → slice_get b.paths p.0 ≡ Some path → IsInstanceType ms b ty entry tree
        → HasParts (definition.HostInstance p ty entry) (host_parts path (fields_list (instance_fields tree))) tree

  -- it has some
  abbrev pub HasSomeParts : Definition → Type 0
  HasSomeParts d = (parts : List Part) × (tree : TypeTree) × HasParts d parts tree

module _ (t : TypeTable) (ms : List ModuleRecord) where
  -- what all component instances share is in order, and the graph so far does what the log says
  pub record WorkStands (st : State) (w : World) : Type 0 where
    pub sound : IsSoundState t ms st
    pub world : WorldStands st.types st.graph w

  -- it does so in some world, and the definition is something that is exported
  pub record IsReachable (st : State) (d : Definition) : Type 0 where
    pub world : World
    pub subject : Subject
    pub stands : WorkStands st world
    pub is : SubjectStands ms (tables_of st) d subject

  -- an export item is a node, wherever it stands in the graph when that has grown
  pub record ExportStands (st : State) (e : Export) (x : ExportNode Mark) : Type 0 where
    pub stands : (n : ℕ) (h : ComponentDfg) → graph.Grows st.graph h → FitsBefore st.graph h
        → slice_get h.export_items n ≡ Some e → NodeStands t st.types h n x
    pub held : HeldExport st.graph (length st.graph.export_items) e
    pub usable : (ty : TypeFuncIndex) (d : CoreDef) (o : OptionsId) → e ≡ export.LiftedFunction ty d o
        → IsItem ms st.graph core.Func d
    pub listed : (ty : ℕ) (m : StaticModuleIndex) → e ≡ export.ModuleStatic ty m
        → HoldsModule st.types t st.graph ty × (m.0 < length ms)

  -- what is exported is one node, and this is its item
  pub record LeafMade (new : State) (w : World) (x : Subject) (e : Export) : Type 0 where
    pub node : ExportNode Mark
    pub world : World
    pub is : subject_node x w ≡ within_total (grown w.total 8) (reached node world)
    pub total : world.total ≡ grown w.total 8
    pub stands : WorkStands new world
    pub exported : ExportStands new e node
    pub size : node_size node ≡ 1

  -- one node counts for it, whatever then comes of it
  abbrev pub IsCounted : World → Subject → Type 0
  IsCounted w x = (o : Reached (ExportNode Mark)) × (subject_node x w ≡ within_total (grown w.total 8) o)

  -- it has its item, or it is refused before anything was done
  unfoldable pub LeafEnds : (old new : State) → World → Subject → Result Export ItemError → Type 0
  LeafEnds old new w x (Ok e) = LeafMade new w x e
  LeafEnds old new w x (Err (item_error.Fault k)) =
      (u : Unsupported) × (k ≡ item_fault.Unsupported u) × (subject_node x w ≡ refused (unsupported u)) × (new ≡ old)
  LeafEnds old new w x (Err item_error.TooMany) = IsFullSomewhere (tables_of new) × IsCounted w x
  LeafEnds old new w x (Err item_error.NoMemory) = IsCounted w x

  -- so it is of a definition that is no instance, in each world
  abbrev pub IsLeaf : (old : State) → Definition → (new : State) → Result Export ItemError → Type 0
  IsLeaf old d new r =
      (w : World) (x : Subject) → WorkStands old w → SubjectStands ms (tables_of old) d x → LeafEnds old new w x r

  -- so it is of a definition that is no instance; nothing is exported yet by this item
  pub record MakesItem (old : State) (d : Definition) (new : State) (r : Result Export ItemError) : Type 0 where
    pub keeps : Keeps (tables_of old) (tables_of new)
    pub adds : AddsEach in_leaf 0 0 (tables_of old) (tables_of new)
    pub exports : new.graph.exports ≡ old.graph.exports
    pub items : new.graph.export_items ≡ old.graph.export_items
    pub leaf : IsLeaf old d new r

  -- a node has been reached, and is an item of the graph, where the total has grown by so many nodes
  pub record NodeMade (old new : State) (w : World) (nodes : ℕ) (o : Reached (ExportNode Mark)) (n : ExportIndex)
      : Type 0 where
    pub node : ExportNode Mark
    pub world : World
    pub is : o ≡ reached node world
    pub total : world.total ≡ grown w.total (8 * nodes)
    pub stands : WorkStands new world
    pub item : NodeStands t new.types new.graph n.0 node
    pub items : length new.graph.export_items ≡ length old.graph.export_items + node_size node
    pub last : n.0 + 1 ≡ length new.graph.export_items
    -- what was made is that item, or inside it
    pub whole : (k : ℕ) → length old.graph.export_items ≤ k → k < length new.graph.export_items
        → IsWithin new.graph.export_items n.0 k

  -- what was reached is the node; or it is refused; or there are too many nodes, or too many entries of a list
  unfoldable pub NodeEnds : (old new : State) → World → (nodes : ℕ) → Reached (ExportNode Mark)
      → Result ExportIndex ItemError → Type 0
  NodeEnds old new w nodes o (Ok n) = NodeMade old new w nodes o n
  NodeEnds old new w nodes o (Err (item_error.Fault k)) =
      (u : Unsupported) × (k ≡ item_fault.Unsupported u) × (o ≡ refused (unsupported u))
  NodeEnds old new w nodes o (Err item_error.TooMany) = IsFullSomewhere (tables_of new) ⊎ (4294967295 ≤ nodes)
  NodeEnds old new w nodes o (Err item_error.NoMemory) = Unit {0}

  -- what comes of one node
  unfoldable pub OneEnds : (old new : State) → World → Subject → Result ExportIndex ItemError → Type 0
  OneEnds old new w x (Ok n) =
      (o : Reached (ExportNode Mark)) × (subject_node x w ≡ within_total (grown w.total 8) o) × NodeMade old new w 1 o n
  OneEnds old new w x (Err (item_error.Fault k)) =
      (u : Unsupported) × (k ≡ item_fault.Unsupported u) × (subject_node x w ≡ refused (unsupported u)) × (new ≡ old)
  OneEnds old new w x (Err item_error.TooMany) = IsFullSomewhere (tables_of new) × IsCounted w x
  OneEnds old new w x (Err item_error.NoMemory) = IsCounted w x

  -- what is reached at a definition that is no instance
  pub record ReachesOne (old : State) (d : Definition) (new : State) (r : Result ExportIndex ItemError) : Type 0 where
    pub keeps : Keeps (tables_of old) (tables_of new)
    pub adds : Adds t 4 (tables_of old) (tables_of new)
    pub types : new.types ≡ old.types
    pub exports : new.graph.exports ≡ old.graph.exports
    pub reads : (w : World) (x : Subject) → WorkStands old w → SubjectStands ms (tables_of old) d x
        → OneEnds old new w x r

  -- what is reached at a definition, when so many nodes count
  pub record Reaches (old : State) (d : Definition) (new : State) (r : Result ExportIndex ItemError) : Type 0 where
    pub nodes : ℕ
    pub keeps : Keeps (tables_of old) (tables_of new)
    pub adds : Adds t (4 * nodes) (tables_of old) (tables_of new)
    pub types : new.types ≡ old.types
    pub exports : new.graph.exports ≡ old.graph.exports
    pub reads : (w : World) (x : Subject) → has_room w.total ≡ true → WorkStands old w
        → SubjectStands ms (tables_of old) d x
        → (o : Reached (ExportNode Mark)) × (subject_node x w ≡ within_total (grown w.total (8 * nodes)) o)
        × NodeEnds old new w nodes o r
