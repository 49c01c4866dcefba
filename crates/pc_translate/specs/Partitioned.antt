-- A graph that stands for a reading, once its adapters have modules.
use Rattle.std.specs.Prelude.{◌≡◌, ◌≤◌, ℕ, true, List, None, length, map}
use Rattle.std.specs.List.{list_all}
use Rattle.pc_types.specs.declared.module_record.ModuleRecord.{ModuleRecord}
use Rattle.pc_types.specs.declared.parsed.TypeTable.{TypeTable}
use Rattle.pc_types.specs.Record.{is_sound}
use Rattle.pc_types.specs.TypeTree.{TypeTree}
use Rattle.pc_types_lists.specs.Types.{Types}
use Rattle.pc_spec_plan.specs.CoreValue.{CoreValue}
use Rattle.pc_trampoline.specs.declared.part.Mark.{Mark}
use Rattle.pc_info.specs.declared.module.ModuleTranslation.{ModuleTranslation}
use Rattle.pc_spec_reading.specs.Reading.{Reading}
use Rattle.pc_dfg.specs.declared.core_def.CoreDef.{CoreDef}
use Rattle.pc_dfg.specs.declared.dfg.ComponentDfg.{ComponentDfg}
use Rattle.pc_dfg.specs.Ordered.{IsOrdered}
use Rattle.pc_dfg.specs.Told.{AreInterned, IsTold, Unsaid}
use Rattle.pc_dfg_linearize.specs.Grouped.{IsGrouped}
use Rattle.pc_dfg_linearize.specs.Wired.{IsWired, Occurs}
use Rattle.pc_adapt_define.specs.Define.{is_taken}
use Rattle.pc_adapt_partition.specs.Adapted.{AreAdapted}
use Rattle.pc_adapt_partition.specs.Made.{AddsShort, AreModulesApart, Keeps}
use Rattle.pc_adapt_partition.specs.Partitions.{facts_by}
use Rattle.pc_adapt_partition.specs.Wired.{HaveValues}
use Rattle.pc_adapt.specs.Asked.{AreTyped}
use Rattle.pc_types.specs.TypeTree.{Identity}
use Rattle.pc_numbers.specs.declared.runtime.ResourceIndex.{ResourceIndex}
use Rattle.pc_inline.specs.Inlines.{GraphStands}
use Rattle.pc_translate.specs.Adapted.{as_handed_in}
use Rattle.pc_translate.specs.Adapters.{first_lacking}

-- the adapters of a graph have got modules, behind those that were handed in, and what the graph had it has kept
pub record IsPartitioned (ms : List ModuleRecord) (r : Reading) (types : Types) (g h : ComponentDfg)
    (modules : List ModuleTranslation) : Type 0 where
  pub complete : first_lacking r ≡ None
  pub keeps : Keeps (length g.adapters) g h
  pub ordered : IsOrdered h
  pub grouped : IsGrouped h
  pub told : (u : Unsaid) → IsTold u g → IsTold u h
  pub distinct : AreModulesApart h
  pub interned : AreInterned h
  pub occurs : (d : CoreDef) → is_taken d ≡ true → Occurs h d → Occurs g d
  pub wired : IsWired h modules
  pub short : AddsShort (map as_handed_in ms) modules
  pub many : length modules ≤ 4294967295
  pub adapted : (who : ResourceIndex → Identity) (lift lower : ℕ → TypeTree) (values : ℕ → CoreValue Mark)
      → AreTyped types who g lift lower → HaveValues g values
      → AreAdapted (facts_by lift) (facts_by lower) values g h (map as_handed_in ms) modules

-- a graph has the modules of the adapters of a graph that stands for some reading, behind modules that can be
-- translated
pub record IsGroupedGraph (t : TypeTable) (types : Types) (h : ComponentDfg) (modules : List ModuleTranslation)
    : Type 0 where
  pub handed_in : List ModuleRecord
  pub sound : list_all (is_sound t) handed_in ≡ true
  pub result : Reading
  pub graph : ComponentDfg
  pub stands : GraphStands t handed_in types graph result
  pub partitioned : IsPartitioned handed_in result types graph h modules
