-- A graph that stands for a reading tells what values leave out.
use Rattle.std.proofs.Common.{List, None, Some}
use Rattle.pc_types.specs.declared.module_record.ModuleRecord.{ModuleRecord}
use Rattle.pc_types.specs.declared.parsed.TypeTable.{TypeTable}
use Rattle.pc_types_lists.specs.Types.{IsBuilder, Types}
use Rattle.pc_spec_reading.specs.Reading.{Reading}
use Rattle.pc_dfg.specs.declared.adapter.DataModel.{DataModel}
use Rattle.pc_dfg.specs.declared.adapter.DataModel.TheVariants as side
use Rattle.pc_dfg.specs.declared.dfg.ComponentDfg.{ComponentDfg}
use Rattle.pc_dfg.specs.Told.{IsTold, Unsaid}
use Rattle.pc_inline.specs.Inlines.{GraphStands}
use Rattle.pc_inline.specs.Widths.{IsWideModel, is_wide_memory}
use Rattle.pc_inline_canon.proofs.ToldLemmas as canon
use Rattle.pc_inline_canon.proofs.ToldLemmas.{IsWideAdapter, IsWideSide, unsaid}

module _ (t : TypeTable) (types : Types) (ms : List ModuleRecord) (g : ComponentDfg) (r : Reading) where
  -- what is told: core signatures by the graph, widths of memories by the reading
  abbrev pub as_read : Unsaid
  as_read = unsaid g (is_wide_memory ms r)

  side_wide : (d : DataModel) → IsWideModel ms r d → IsWideSide (is_wide_memory ms r) d
  unfolding IsWideModel
  side_wide side.Gc wide = tt
  side_wide (side.LinearMemory None realloc) wide = tt
  side_wide (side.LinearMemory (Some x) realloc) wide = wide

  pub is_told : GraphStands t ms types g r → IsBuilder types → IsTold as_read g
  is_told stands builder =
      canon.is_told types ms g r.log stands.world.are_declared stands.world.imports stands.items builder
      (is_wide_memory ms r)
      (λ n x at. record {
        lift = side_wide x.lift_options.data_model (stands.widths.lift n x at);
        lower = side_wide x.lower_options.data_model (stands.widths.lower n x at);
      })
