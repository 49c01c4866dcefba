-- What local items weigh, by the items of the reading that they are.
use Rattle.std.specs.Prelude.{◌+◌, ℕ, List, Option, None, Some, sum_by}
use Rattle.pc_types.specs.declared.module_record.ModuleRecord.{ModuleRecord}
use Rattle.pc_types.specs.declared.parsed.TypeTable.{TypeTable}
use Rattle.pc_spec_reading.specs.Item
use Rattle.pc_spec_reading.specs.Total.{added_weight}
use Rattle.pc_local.specs.declared.item.LocalInitializer.{LocalInitializer}
use Rattle.pc_local.specs.declared.item.Translation.{Translation}
use Rattle.pc_local.specs.Plain.{plain_item}
use Rattle.pc_weights.specs.Capped.{capped}

module _ (t : TypeTable) (ms : List ModuleRecord) where
  -- what an item weighs besides 8, if there is one
  abbrev pub added_if : Option Item.Item → ℕ
  added_if None = 0
  added_if (Some i) = added_weight t ms i

  -- what a local item weighs; one that hangs on what is around it weighs 8
  abbrev pub local_weight : LocalInitializer → ℕ
  local_weight l = 8 + added_if (plain_item l)

  -- what the preparation of an item weighs, if there is one: that of an import as much as the import
  abbrev pub prepared_if : Option Item.Item → ℕ
  prepared_if (Some (Item.import_item name e)) = 8 + added_weight t ms (Item.import_item name e)
  prepared_if _ = 0

  -- what the preparation of a local item weighs
  abbrev pub prepared_local : LocalInitializer → ℕ
  prepared_local l = prepared_if (plain_item l)

  -- what the local items of a body weigh
  abbrev pub body_sum : List LocalInitializer → ℕ
  body_sum ls = sum_by local_weight ls

  -- and their preparation
  abbrev pub prepared_sum : List LocalInitializer → ℕ
  prepared_sum ls = sum_by prepared_local ls

  -- the weight of a body of a program
  abbrev pub translation_weight : Translation → ℕ
  translation_weight tr = capped (body_sum tr.initializers)
