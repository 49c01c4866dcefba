-- How the resource numbers of a graph are read.
use Rattle.std.specs.Prelude.{◌≡◌, ◌<◌, ◌+◌, ℕ, List, length, Some, slice_get}
use Rattle.pc_numbers.specs.declared.runtime.ImportIndex.{ImportIndex}
use Rattle.pc_numbers.specs.declared.runtime.ResourceIndex.{ResourceIndex}
use Rattle.pc_numbers.specs.declared.runtime.RuntimeImportIndex.{RuntimeImportIndex}
use Rattle.pc_types.specs.TypeTree.{Identity, Path, declared, imported}
use Rattle.pc_dfg.specs.declared.dfg.ComponentDfg.{ComponentDfg}

-- the path to a host item
abbrev pub path_of : ImportIndex × List (List ℕ) → Path
path_of i = record { import = i.0.0; names = i.1 }

-- resource numbers are read so that they fit a graph: those that came with imports are what their paths lead to, and
-- those behind them are the ones that were declared, in order
pub record Fits (g : ComponentDfg) (who : ResourceIndex → Identity) : Type 0 where
  pub given : (n : ℕ) (r : RuntimeImportIndex) (i : ImportIndex × List (List ℕ))
      → slice_get g.imported_resources n ≡ Some r → slice_get g.imports r.0 ≡ Some i
      → who (record { 0 = n }) ≡ imported (path_of i)
  pub own : (n : ℕ) → n < length g.resources → who (record { 0 = length g.imported_resources + n }) ≡ declared n

-- what fits the new graph fits the old one
abbrev pub FitsBefore : (old new : ComponentDfg) → Type 0
FitsBefore old new = (who : ResourceIndex → Identity) → Fits new who → Fits old who
