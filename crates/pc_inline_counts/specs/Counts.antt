-- How many nodes are counted of what is exported, and what is refused behind them. Each count is made of those before
-- it.
use Rattle.std.specs.Prelude.{◌≡◌, ◌+◌, ℕ, List, [], ◌∷◌, ◌++◌, Option, None, Some, fold, min, slice_get}
use Rattle.pc_entity.specs.declared.string_pool.Atom.{Atom}
use Rattle.pc_types.specs.declared.error.Unsupported.{Unsupported}
use Rattle.pc_types.specs.declared.error.Unsupported.TheVariants.{ComponentImport, ExportedComponent}
use Rattle.pc_types.specs.declared.error.Unsupported.TheVariants.{ReexportedIntrinsic, ReexportedIntrinsics}
use Rattle.pc_types.specs.declared.parsed.DeclType.{DeclType}
use Rattle.pc_types.specs.declared.parsed.DeclType.TheVariants as entry
use Rattle.pc_types.specs.declared.parsed.Entity.{Entity}
use Rattle.pc_types.specs.declared.parsed.Entity.TheVariants as entity
use Rattle.pc_types.specs.declared.parsed.TypeTable.{TypeTable}
use Rattle.pc_inline_state.specs.declared.definition.Definition.{Definition}
use Rattle.pc_inline_state.specs.declared.definition.Definition.TheVariants as definition
use Rattle.pc_inline_state.specs.declared.state.Member.{Member}
use Rattle.pc_inline_state.specs.Tables.{Tables}
use Rattle.pc_inline_counts.specs.declared.count.NodeCount.{NodeCount}
use Rattle.pc_inline_counts.specs.declared.instances.NodeCounts.{NodeCounts}

-- no nodes
abbrev pub nothing : NodeCount
nothing = record { nodes = 0; refusal = None }

-- a node with nothing under it
abbrev pub one_node : NodeCount
one_node = record { nodes = 1; refusal = None }

-- what is refused before it counts
abbrev pub refused_node : Unsupported → NodeCount
refused_node u = record { nodes = 0; refusal = Some u }

-- some nodes and those after them, unless something was refused before
abbrev pub unless_refused : Option Unsupported → NodeCount → NodeCount → NodeCount
unless_refused (Some u) first next = first
unless_refused None first next =
    record { nodes = min (first.nodes + next.nodes) 4294967295; refusal = next.refusal }

-- some nodes and those after them, cut at the greatest number; after one that is refused nothing more is reached
abbrev pub after_nodes : NodeCount → NodeCount → NodeCount
after_nodes first next = unless_refused first.refusal first next

-- a count, if there is one; what isn't there has no nodes
abbrev pub count_or : Option NodeCount → NodeCount
count_or None = nothing
count_or (Some count) = count

-- the count under a number
abbrev pub count_at : List NodeCount → ℕ → NodeCount
count_at counts n = count_or (slice_get counts n)

-- counts in order, each made of those before it
abbrev pub counts_from : {A : Type 0} → (List NodeCount → A → NodeCount) → (earlier : List NodeCount) → List A
    → List NodeCount
counts_from count earlier [] = earlier
counts_from count earlier (x ∷ xs) = counts_from count (earlier ++ count earlier x ∷ []) xs

-- how many nodes are reached of an entity, by the entry that it names; there are no component values
abbrev pub entity_count : List NodeCount → Entity → NodeCount
entity_count earlier (entity.Func n) = count_at earlier n
entity_count earlier (entity.Instance n) = count_at earlier n
entity_count earlier (entity.Component n) = count_at earlier n
entity_count earlier (entity.Module n) = count_at earlier n
entity_count earlier (entity.Type_ n) = count_at earlier n
entity_count earlier entity.Value = nothing

-- some nodes and those of an export
abbrev pub with_export : List NodeCount → NodeCount → List ℕ × Entity → NodeCount
with_export earlier count e = after_nodes count (entity_count earlier e.1)

-- how many nodes are reached of a host item whose type is an entry: an instance is one with those of its exports, and a
-- component is refused
abbrev pub entry_count : List NodeCount → DeclType → NodeCount
entry_count earlier (entry.Instance exports) = fold (with_export earlier) one_node exports
entry_count earlier (entry.Component imports exports) = refused_node ComponentImport
entry_count earlier _ = one_node

-- the same of each entry of a table
abbrev pub entry_counts : TypeTable → List NodeCount
entry_counts t = counts_from entry_count [] t.types

-- how many nodes are reached of a definition, by the counts of entries and of instances
abbrev pub definition_count : (entries instances : List NodeCount) → Definition → NodeCount
definition_count entries instances (definition.HostInstance p ty n) = count_at entries n
definition_count entries instances (definition.Instance n ty) = count_at instances n.0
definition_count entries instances (definition.Component s k) = refused_node ExportedComponent
definition_count entries instances (definition.IntrinsicFunc i) = refused_node ReexportedIntrinsic
definition_count entries instances definition.Intrinsics = refused_node ReexportedIntrinsics
definition_count entries instances _ = one_node

-- the same of one that may be there
abbrev pub maybe_count : (entries instances : List NodeCount) → Option Definition → NodeCount
maybe_count entries instances None = nothing
maybe_count entries instances (Some d) = definition_count entries instances d

module _ (entries : List NodeCount) (definitions : List Definition) where
  -- some nodes and those of a member
  abbrev pub with_member : (instances : List NodeCount) → NodeCount → Atom × Member → NodeCount
  with_member instances count e =
      after_nodes count (maybe_count entries instances (slice_get definitions e.1.item.0))

  -- how many nodes are reached of an instance that exports this: one and those of its members
  abbrev pub members_count : (instances : List NodeCount) → List (Atom × Member) → NodeCount
  members_count instances es = fold (with_member instances) one_node es

  -- the same of each list of members
  abbrev pub instance_counts : List (List (Atom × Member)) → List NodeCount
  instance_counts lists = counts_from members_count [] lists

-- these are the counts of what stands in the tables
pub record AreCounts (b : Tables) (counts : NodeCounts) : Type 0 where
  pub entries : counts.entries ≡ entry_counts b.table
  pub instances : counts.instances ≡ instance_counts (entry_counts b.table) b.definitions b.instances
