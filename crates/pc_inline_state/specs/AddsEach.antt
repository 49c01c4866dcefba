-- How much a call adds to each list by itself, where it converts no type.
use Rattle.std.specs.Prelude.{◌≡◌, ◌≤◌, ◌+◌, ℕ, length}
use Rattle.pc_dfg.specs.Lists as list
use Rattle.pc_dfg.specs.Lists.{ListName, entries_of}
use Rattle.pc_inline_state.specs.Tables.{Tables}

-- each list of the graph has at most as many entries more as is said of it, and so have the tables of core items and of
-- definitions, and those of what definitions name; types and component instances are as they were
pub record AddsEach (more : ListName → ℕ) (cores_more definitions_more : ℕ) (old new : Tables) : Type 0 where
  pub types : new.types ≡ old.types
  pub lists : (l : ListName) → length (entries_of new.graph l) ≤ length (entries_of old.graph l) + more l
  pub cores : length new.cores ≤ length old.cores + cores_more
  pub definitions : length new.definitions ≤ length old.definitions + definitions_more
  pub closures : length new.closures ≤ length old.closures + definitions_more
  pub instances : length new.instances ≤ length old.instances + definitions_more
  pub begun : new.graph.num_runtime_component_instances ≡ old.graph.num_runtime_component_instances
  pub resources : length new.graph.imported_resources + length new.graph.resources
      ≤ length old.graph.imported_resources + length old.graph.resources + more list.resources

-- nothing in any list
abbrev pub nowhere : ListName → ℕ
nowhere l = 0

-- one entry in each list but that of adapters
abbrev pub everywhere : ListName → ℕ
everywhere list.adapters = 0
everywhere l = 1

-- one entry among the adapters
abbrev pub in_adapters : ListName → ℕ
in_adapters list.adapters = 1
in_adapters l = 0

-- so many entries in each list of slots
abbrev pub in_slots : ℕ → ListName → ℕ
in_slots n (list.slots k) = n
in_slots n l = 0

-- four entries in each list of slots, and one among the options
abbrev pub in_options : ListName → ℕ
in_options (list.slots k) = 4
in_options list.options = 1
in_options l = 0

-- one entry among the imports that are used
abbrev pub in_imports : ListName → ℕ
in_imports list.imports = 1
in_imports l = 0

-- one entry among the trampolines
abbrev pub in_trampolines : ListName → ℕ
in_trampolines list.trampolines = 1
in_trampolines l = 0

-- one entry among the export items
abbrev pub in_export_items : ListName → ℕ
in_export_items list.export_items = 1
in_export_items l = 0

-- one entry among the exports
abbrev pub in_exports : ListName → ℕ
in_exports list.exports = 1
in_exports l = 0

-- four entries in each list of slots, one among the options, and one among the export items
abbrev pub in_reached : ListName → ℕ
in_reached (list.slots k) = 4
in_reached list.options = 1
in_reached list.export_items = 1
in_reached l = 0
