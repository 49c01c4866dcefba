-- How much a call adds: to the types builder, to the graph and to the tables.
use Rattle.std.specs.Prelude.{◌≤◌, ◌+◌, ◌*◌, ℕ, Bool, true, false, List, Option, Some, count_by, length, sum_by}
use Rattle.pc_types.specs.declared.parsed.TypeTable.{TypeTable}
use Rattle.pc_types.specs.declared.parsed.ValType.{ValType}
use Rattle.pc_types.specs.declared.parsed.ValType.TheVariants as val
use Rattle.pc_types_lists.specs.Adds.{AddsTypes, most_types}
use Rattle.pc_types_lists.specs.Types.{KeepsTypes}
use Rattle.pc_parsed.specs.declared.payload.ItemKind.{ItemKind}
use Rattle.pc_parsed.specs.declared.payload.ItemKind.TheVariants as kind
use Rattle.pc_spec_reading.specs.Canonical.{canonical_item}
use Rattle.pc_spec_reading.specs.Item
use Rattle.pc_local.specs.declared.item.LocalInitializer.{LocalInitializer}
use Rattle.pc_local.specs.declared.item.LocalInitializer.TheVariants as local
use Rattle.pc_dfg.specs.declared.dfg.ComponentDfg.{ComponentDfg}
use Rattle.pc_dfg.specs.Lists.{ListName, entries_of}
use Rattle.pc_inline_state.specs.Gained.{AddsTables}
use Rattle.pc_inline_state.specs.Tables.{Tables}

-- how many entries a list of a graph has, with the most that the modules of its adapters add to it: 32 for each adapter
abbrev pub with_modules : ComponentDfg → ListName → ℕ
with_modules g l = length (entries_of g l) + 32 * length g.adapters

-- each list of the graph, with what modules of adapters add to it, and each table has at most n entries more, and at
-- most n more component instances have begun
pub record AddsEntries (n : ℕ) (old new : Tables) : Type 0 where
  pub lists : (l : ListName) → with_modules new.graph l ≤ with_modules old.graph l + n
  pub cores : length new.cores ≤ length old.cores + n
  pub definitions : length new.definitions ≤ length old.definitions + n
  pub closures : length new.closures ≤ length old.closures + n
  pub instances : length new.instances ≤ length old.instances + n
  pub begun : new.graph.num_runtime_component_instances ≤ old.graph.num_runtime_component_instances + n
  pub resources : length new.graph.imported_resources + length new.graph.resources
      ≤ length old.graph.imported_resources + length old.graph.resources + n

-- no list of types but that of core signatures has grown by more than w, no list of the graph and no table; what is new
-- in that of core signatures, and which tables of futures, streams and error contexts are new, is said by itself
pub record Adds (t : TypeTable) (w : ℕ) (old new : Tables) : Type 0 where
  pub types : AddsTypes t w old.types new.types
  pub tables : AddsTables t new.graph.num_runtime_component_instances old.types new.types
  pub entries : AddsEntries w old new
  -- types keep their numbers
  pub grows : KeepsTypes old.types new.types
  -- and as many component instances have begun, or more
  pub later : old.graph.num_runtime_component_instances ≤ new.graph.num_runtime_component_instances

-- whether an index is a type number
abbrev pub is_type_kind : ItemKind → Bool
is_type_kind kind.Type_ = true
is_type_kind k = false

-- how many of these indices are type numbers
abbrev pub types_among : {N : Type 0} → List (N × ItemKind × ℕ) → ℕ
types_among {N} xs = count_by (λ (x : N × ItemKind × ℕ). is_type_kind x.1) xs

-- four entries, and what so many conversions add at the most
abbrev pub most_converted : TypeTable → ℕ → ℕ
most_converted t n = 4 + n * (1 + most_types t)

-- what a lowering adds at the most: what a conversion does, and what the module of an adapter adds
abbrev pub most_lowered : TypeTable → ℕ
most_lowered t = 32 + most_converted t 1

-- what an operand of a builtin adds at the most: the types of the type number that it may be
abbrev pub most_operand : TypeTable → Item.Operand → ℕ
most_operand t (Item.a_resource n) = 1 + most_types t
most_operand t (Item.a_stream n) = 1 + most_types t
most_operand t (Item.a_future n) = 1 + most_types t
most_operand t _ = 0

-- what a builtin adds at the most: four entries, two types of its own, and what its operands add
abbrev pub most_builtin : TypeTable → Option Item.Item → ℕ
most_builtin t (Some (Item.builtin_item k signature operands)) = 6 + sum_by (most_operand t) operands
most_builtin t _ = 6

-- what the end of a task with this result adds at the most: a tuple besides, and the types of the result
abbrev pub most_returned : TypeTable → Option ValType → ℕ
most_returned t (Some (val.Type_ n)) = 6 + (1 + most_types t)
most_returned t _ = 6

-- how much an item adds at the most where it is read: four entries, and the types of the type numbers that it converts;
-- and a lowering what the module of an adapter adds besides
abbrev pub most_added : TypeTable → LocalInitializer → ℕ
most_added t (local.Lift func ty core opts) = most_converted t 1
most_added t (local.Lower func ty core opts) = most_lowered t
most_added t (local.Builtin c) = most_builtin t (canonical_item c)
most_added t (local.WaitableSet c) = most_builtin t (canonical_item c)
most_added t (local.TaskReturn signature result opts) = most_returned t result
most_added t (local.ErrorContext c) = most_builtin t (canonical_item c)
most_added t (local.ModuleStatic index ty) = most_converted t 1
most_added t (local.ComponentSynthetic exports ty) = most_converted t (1 + types_among exports)
most_added t (local.ComponentInstantiate component args ty) = most_converted t (1 + types_among args)
most_added t _ = 4

-- how much the exports of a component instance add at the most when it ends: the types that it exports
abbrev pub most_given : TypeTable → LocalInitializer → ℕ
most_given t (local.Export name kind.Type_ n) = 1 + most_types t
most_given t _ = 0

-- how much the preparation of an item adds at the most: that of an import likewise, and others aren't prepared
abbrev pub most_prepared : TypeTable → LocalInitializer → ℕ
most_prepared t (local.Import name ty) = most_converted t 1
most_prepared t _ = 0

-- how much these items add at the most
abbrev pub most_of_items : TypeTable → List LocalInitializer → ℕ
most_of_items t ls = sum_by (most_added t) ls

-- and their preparation
abbrev pub most_prepared_of : TypeTable → List LocalInitializer → ℕ
most_prepared_of t ls = sum_by (most_prepared t) ls
