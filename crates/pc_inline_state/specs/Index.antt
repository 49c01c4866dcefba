-- What is found out of the records of core modules.
use Rattle.std.specs.Prelude.{◌≡◌, Bool, List}
use Rattle.pc_types.specs.declared.module_record.ModuleRecord.{ModuleRecord}
use Rattle.pc_types.specs.Record.{memory_widths}

-- a list has whether each memory of a module is 64-bit
abbrev pub HasMemories : ModuleRecord → List Bool → Type 0
HasMemories r widths = widths ≡ memory_widths r
