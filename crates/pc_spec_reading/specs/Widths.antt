-- Whether a memory has 64 bits: by the record of the module that was handed in, or by the type of the host's module,
-- whichever its core instance was made of.
use Rattle.std.specs.Prelude.{ℕ, Bool, false, List, option_map, slice_get, unwrap_or}
use Rattle.pc_entity.specs.Lists.{value_of}
use Rattle.pc_numbers.specs.declared.entity_index.EntityIndex.{EntityIndex}
use Rattle.pc_numbers.specs.declared.entity_index.EntityIndex.TheVariants as entity
use Rattle.pc_types.specs.declared.module_record.ModuleRecord.{ModuleRecord}
use Rattle.pc_types.specs.Record.{memory_widths}
use Rattle.pc_types.specs.TypeTree.{CoreTree, TypeTree, core_memory}
use Rattle.pc_spec_plan.specs.CoreValue.{CoreValue, ExportedItem, by_index, by_name, exported}
use Rattle.pc_spec_plan.specs.Log.{Entry, Instantiation, Owned, instances_of, of_host, of_static}
use Rattle.pc_parsed.specs.Mark.{Mark}
use Rattle.pc_spec_reading.specs.HostTypes.{type_at}
use Rattle.pc_spec_reading.specs.Types.{module_exports}
use Rattle.pc_spec_reading.specs.World.{HostImport}

-- whether an entity of a handed-in module is a 64-bit memory
abbrev pub is_wide_entity : ModuleRecord → EntityIndex → Bool
is_wide_entity r (entity.Memory m) = unwrap_or (slice_get (memory_widths r) m.0) false
is_wide_entity r e = false

-- whether an export of a module type is a 64-bit memory
abbrev pub is_wide_tree : CoreTree → Bool
is_wide_tree (core_memory is_wide) = is_wide
is_wide_tree tree = false

-- the same of one by its name
abbrev pub is_wide_export : (name : List ℕ) → TypeTree → Bool
is_wide_export name tree = unwrap_or (option_map is_wide_tree (value_of name (module_exports tree))) false

module _ (ms : List ModuleRecord) (imports : List HostImport) where
  -- whether an item of a core instance that was made so is a 64-bit memory
  abbrev pub is_wide_item : Instantiation Mark → ExportedItem → Bool
  is_wide_item (of_static n args) (by_index e) =
      unwrap_or (option_map (λ (r : ModuleRecord). is_wide_entity r e) (slice_get ms n)) false
  is_wide_item (of_host path args) (by_name name) =
      unwrap_or (option_map (is_wide_export name) (type_at imports path)) false
  is_wide_item i item = false

  -- whether a core value is a 64-bit memory of a core instance that a log makes
  abbrev pub is_wide : List (Entry Mark) → CoreValue Mark → Bool
  is_wide log (exported n item) =
      unwrap_or (option_map (λ (o : Owned Mark). is_wide_item o.instantiation item) (slice_get (instances_of log) n))
      false
  is_wide log v = false
