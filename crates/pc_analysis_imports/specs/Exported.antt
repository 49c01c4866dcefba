-- Which core modules the exports of a plan hold, as the plan lists them.
use Rattle.std.specs.Prelude.{ℕ, Bool, false, List, ◌==◌}
use Rattle.std.specs.List.{list_any}
use Rattle.pc_info.specs.declared.export.Export.{Export}
use Rattle.pc_info.specs.declared.export.Export.TheVariants as export

-- whether an export item is the module of this number
abbrev pub is_module : (number : ℕ) → Export → Bool
is_module m (export.ModuleStatic ty index) = index.0 == m
is_module m e = false

-- whether one of these export items is
unfoldable pub is_exported_in : List Export → (number : ℕ) → Bool
is_exported_in items m = list_any (is_module m) items
