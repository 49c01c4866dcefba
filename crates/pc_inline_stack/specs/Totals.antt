-- How much the reading of a root comes to, and how much it adds.
use Rattle.std.specs.Prelude.{◌≡◌, ◌<◌, ◌≤◌, ◌+◌, ◌⊎◌, ℕ, length, List, Some}
use Rattle.pc_types_lists.specs.Adds.{AddsTypes}
use Rattle.pc_types_lists.specs.Types.{Types}
use Rattle.pc_types.specs.declared.module_record.ModuleRecord.{ModuleRecord}
use Rattle.pc_types.specs.declared.parsed.TypeTable.{TypeTable}
use Rattle.pc_spec_reading.specs.Item.{Items}
use Rattle.pc_spec_reading.specs.Outcome.{done}
use Rattle.pc_spec_reading.specs.Reading.{Reading, reading_of}
use Rattle.pc_spec_reading.specs.World.{full}
use Rattle.pc_dfg.specs.declared.dfg.ComponentDfg.{ComponentDfg}
use Rattle.pc_dfg.specs.Lists.{ListName}
use Rattle.pc_inline_state.specs.Adds.{with_modules}
use Rattle.pc_inline_state.specs.Gained.{AddsTables}

-- where the total begins with this one
module _ (t : TypeTable) (ms : List ModuleRecord) (limit counted : ℕ) (body : Items) where
  -- its total when the root's exports have been reached
  abbrev pub HasTotal : ℕ → Type 0
  HasTotal last = (r : Reading) × (reading_of t ms limit (Some counted) body ≡ done r) × (r.total ≡ Some last)

  -- what was added is bounded by the total: to the lists of types, and to those of a graph, with what modules of
  -- adapters add to them
  pub record IsCounted (old new : Types) (g : ComponentDfg) : Type 0 where
    pub total : ℕ
    pub is_total : HasTotal total
    pub below : total < full
    pub added : ℕ
    pub few : counted + added < total
    pub types : AddsTypes t added old new
    pub lists : (l : ListName) → with_modules g l ≤ added
    pub resources : length g.imported_resources + length g.resources ≤ added

-- no list of types but that of core signatures grew by more than `added`, and the tables that are new are those of
-- entries, in as many component instances and one more. A total that began with this one grew by more than `added`, if
-- that isn't 0, and wasn't full
pub record GainsFew (t : TypeTable) (counted : ℕ) (old new : Types) : Type 0 where
  pub added : ℕ
  pub types : AddsTypes t added old new
  pub tables : AddsTables t (added + 1) old new
  pub few : (added ≡ 0) ⊎ (counted + added + 1 < full)
