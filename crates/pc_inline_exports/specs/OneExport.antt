-- One export of the root: what it names, and what comes of its node.
use Rattle.std.specs.Prelude.{◌≡◌, ◌≤◌, ◌+◌, ◌*◌, ◌⊎◌, ⊤, ℕ, true, List, [], ◌∷◌, ◌++◌, Option, Result, Ok, Err, OnOk}
use Rattle.std.specs.Prelude.{option_and_then, slice_get, if◌then◌else◌}
use Rattle.pc_entity.specs.Lists.{names_of}
use Rattle.pc_types_lists.specs.Adds.{most_types}
use Rattle.pc_types.specs.declared.error.Error.{Error}
use Rattle.pc_types.specs.declared.error.Error.TheVariants as error
use Rattle.pc_types.specs.declared.error.Place.TheVariants as place
use Rattle.pc_types.specs.declared.module_record.ModuleRecord.{ModuleRecord}
use Rattle.pc_types.specs.declared.parsed.TypeTable.{TypeTable}
use Rattle.pc_parsed.specs.declared.payload.ExternName.{ExternName}
use Rattle.pc_parsed.specs.declared.payload.ItemKind.{ItemKind}
use Rattle.pc_parsed.specs.Mark.{Mark}
use Rattle.pc_spec_plan.specs.ExportNode.{ExportNode, NamedNode}
use Rattle.pc_spec_reading.specs.Items.{value_at}
use Rattle.pc_spec_reading.specs.Nodes.{Reached, extern_data, reached, refused, value_node, within_total}
use Rattle.pc_spec_reading.specs.Outcome.{unsupported}
use Rattle.pc_spec_reading.specs.Scope.{Scope}
use Rattle.pc_spec_reading.specs.Value.{Value}
use Rattle.pc_spec_reading.specs.World.{World, grown, has_room}
use Rattle.pc_inline_state.specs.declared.definition.Definition.{Definition}
use Rattle.pc_inline_state.specs.declared.definition.DefinitionId.{DefinitionId}
use Rattle.pc_inline_state.specs.declared.error.ItemError.{ItemError}
use Rattle.pc_inline_state.specs.declared.error.ItemError.TheVariants as item_error
use Rattle.pc_inline_state.specs.declared.frame.Frame.{Frame}
use Rattle.pc_inline_state.specs.declared.state.State.{State}
use Rattle.pc_inline_state.specs.Adds.{Adds, is_type_kind}
use Rattle.pc_inline_state.specs.Frames.{Both}
use Rattle.pc_inline_state.specs.Lists.{item_ids}
use Rattle.pc_inline_state.specs.Points.{IsFullSomewhere}
use Rattle.pc_inline_state.specs.Stands.{DefinitionStands}
use Rattle.pc_inline_state.specs.Tables.{Keeps, tables_of}
use Rattle.pc_inline_exports.specs.Exporting.{RootStands}
use Rattle.pc_inline_exports.specs.Exports.{NumbersExports}

-- the definition of an item of a component instance, but a type
abbrev pub item_definition : State → Frame → ItemKind → (index : ℕ) → Option Definition
item_definition st f k n =
    option_and_then (λ (id : DefinitionId). slice_get st.definitions id.0) (slice_get (item_ids f k) n)

-- a name of the root's with its node
abbrev pub node_named : ExternName → ExportNode Mark → NamedNode Mark
node_named name x = record { name = name.name; extern_data = extern_data name; node = x }

-- how many types an item of a kind converts
abbrev pub types_of_kind : ItemKind → ℕ
types_of_kind k = if is_type_kind k then 1 else 0

module _ (t : TypeTable) (ms : List ModuleRecord) where
  -- the root stands somewhere
  abbrev pub IsRoot : State → Frame → Type 0
  IsRoot st f = (s : Scope) × (w : World) × (nodes : List (NamedNode Mark)) × RootStands t ms st f s w nodes

  -- what was found is the value, or neither is there; or a list is full, or there was no memory
  unfoldable pub IsFound : State → Option Value → Result (Option Definition) ItemError → Type 0
  IsFound st o (Ok d) = Both (DefinitionStands ms (tables_of st)) d o
  IsFound st o (Err item_error.TooMany) = IsFullSomewhere (tables_of st)
  IsFound st o (Err item_error.NoMemory) = Unit {0}
  IsFound st o (Err (item_error.Fault k)) = ⊥

  -- what a kind and an index name in the root: a type is converted, and nothing else changes
  pub record FindsExport (k : ItemKind) (n : ℕ) (old : State) (f : Frame) (new : State) (g : Frame)
      (r : Result (Option Definition) ItemError) : Type 0 where
    pub keeps : Keeps (tables_of old) (tables_of new)
    pub adds : Adds t (types_of_kind k * (1 + most_types t)) (tables_of old) (tables_of new)
    pub graph : new.graph ≡ old.graph
    pub stands : (s : Scope) (w : World) (nodes : List (NamedNode Mark)) → RootStands t ms old f s w nodes
        → RootStands t ms new g s w nodes
    pub found : (s : Scope) (w : World) (nodes : List (NamedNode Mark)) → RootStands t ms old f s w nodes
        → IsFound new (value_at t s k n) r

  -- an export has its node, and the root one more
  pub record NodeNamed (old new : State) (f : Frame) (s : Scope) (w : World) (exported : List (NamedNode Mark))
      (nodes : ℕ) (name : ExternName) (o : Reached (ExportNode Mark)) : Type 0 where
    pub node : ExportNode Mark
    pub world : World
    pub is : o ≡ reached node world
    pub total : world.total ≡ grown w.total (8 * nodes)
    pub stands : RootStands t ms new f s world (exported ++ node_named name node ∷ [])
    pub numbers : NumbersExports old.graph exported
        → NumbersExports new.graph (exported ++ node_named name node ∷ [])

  -- it has; or its node is refused; or there are too many nodes, or too many entries of a list
  unfoldable pub OneEnds : (old new : State) → Frame → Scope → World → List (NamedNode Mark) → (nodes : ℕ) → ExternName
      → (number : ℕ) → Reached (ExportNode Mark) → Result ⊤ Error → Type 0
  OneEnds old new f s w exported nodes name number o (Ok end) = NodeNamed old new f s w exported nodes name o
  OneEnds old new f s w exported nodes name number o (Err (error.Unsupported u p)) =
      (o ≡ refused (unsupported u)) × (p ≡ place.Export number)
  OneEnds old new f s w exported nodes name number o (Err error.TooMany) =
      IsFullSomewhere (tables_of new) ⊎ (4294967295 ≤ nodes)
  OneEnds old new f s w exported nodes name number o (Err error.NoMemory) = Unit {0}
  OneEnds old new f s w exported nodes name number o (Err e) = ⊥

  -- what comes of an export that is this definition, when so many nodes count for it
  pub record ExportsOne (name : ExternName) (number : ℕ) (d : Definition) (old new : State) (r : Result ⊤ Error)
      : Type 0 where
    pub nodes : ℕ
    pub keeps : Keeps (tables_of old) (tables_of new)
    pub adds : Adds t (4 * nodes) (tables_of old) (tables_of new)
    pub names : OnOk r (names_of new.graph.exports ≡ names_of old.graph.exports ++ name.name ∷ [])
    pub reads : (f : Frame) (s : Scope) (w : World) (exported : List (NamedNode Mark)) (v : Value)
        → has_room w.total ≡ true → RootStands t ms old f s w exported → DefinitionStands ms (tables_of old) d v
        → (o : Reached (ExportNode Mark)) × (value_node v w ≡ within_total (grown w.total (8 * nodes)) o)
        × OneEnds old new f s w exported nodes name number o r
