-- The exports of a plan have their items, and it counts what it has.
use Rattle.std.proofs.Common.{◌≡◌, ℕ, List, sym, ap, subst, ◌∙◌}
use Rattle.std.specs.Prelude.{length, slice_get}
use Rattle.pc_types_lists.specs.Types.{Types}
use Rattle.pc_types.specs.declared.module_record.ModuleRecord.{ModuleRecord}
use Rattle.pc_types.specs.declared.parsed.TypeTable.{TypeTable}
use Rattle.pc_spec_plan.specs.Counts.{own_counts}
use Rattle.pc_names.specs.Stands.{StandsFor}
use Rattle.pc_trampoline.specs.declared.part.Mark.{Mark}
use Rattle.pc_info.specs.declared.component.ComponentTranslation.{ComponentTranslation}
use Rattle.pc_info.specs.declared.module.ModuleTranslation.{ModuleTranslation}
use Rattle.pc_info.specs.View.{counts_view, view}
use Rattle.pc_spec_reading.specs.Reading.{Reading}
use Rattle.pc_dfg.specs.declared.dfg.ComponentDfg.{ComponentDfg}
use Rattle.pc_dfg.specs.Lists.{NamedExport}
use Rattle.pc_dfg_finish.specs.Finishes.{Finishes, IsItem}
use Rattle.pc_inline.specs.Inlines.{GraphStands}
use Rattle.pc_translate.proofs.ListLemmas.{zip_length}
use Rattle.pc_translate.specs.Partitioned.{IsPartitioned}
use Rattle.pc_translate.specs.Lists.{FindsExports, IsTidy, NumbersItems}
use Rattle.pc_translate.specs.Translation.{counts_of}

module _ (t : TypeTable) (types : Types) (ms : List ModuleRecord) (g h : ComponentDfg) (r : Reading)
    (converted : ℕ → Mark) (plan : ComponentTranslation) (modules : List ModuleTranslation)
    (stands : GraphStands t ms types g r) (partitioned : IsPartitioned ms r types g h modules)
    (finished : Finishes h converted plan) where
  pub is_tidy : IsTidy plan
  is_tidy = record {
    adapters_once = finished.adapters_once partitioned.distinct.modules;
    carry = finished.carry;
    late = finished.late;
    options_rise = finished.options_rise;
    trampolines_rise = finished.trampolines_rise;
    lowered_once = finished.lowered_once;
    options_used = finished.used;
    trampolines_used = finished.trampolines_used;
    intrinsics_used = finished.intrinsics_used;
  }

  -- the names of the exports are those of the graph
  names_are : plan.component.exports.definitions ≡ g.exports
  names_are = finished.names ∙ ap (λ (x : ComponentDfg). x.exports) partitioned.keeps.rest

  pub numbers_items : NumbersItems plan.component r.nodes
  numbers_items = record {
    as_many = sym (zip_length IsItem h.export_items plan.component.export_items finished.items)
        ∙ ap (λ (x : ComponentDfg). length x.export_items) partitioned.keeps.rest ∙ stands.numbers.as_many;
    last = λ n e at. stands.numbers.last n e (ap (λ (es : List NamedExport). slice_get es n) (sym names_are) ∙ at);
  }

  pub finds : FindsExports plan.component
  finds = subst (StandsFor (λ text key. key ≡ text) plan.component.exports) (sym finished.names) finished.finds

  pub counts : counts_view plan.component ≡ counts_of (view plan modules) r types
  counts = finished.counts modules
      ∙ (λ i. own_counts (view plan modules) (partitioned.keeps.rest i).num_runtime_component_instances
      (partitioned.keeps.rest i).num_future_tables (partitioned.keeps.rest i).num_stream_tables
      (partitioned.keeps.rest i).num_error_context_tables)
      ∙ (λ i. own_counts (view plan modules) (sym stands.world.begun i) (stands.future_tables i)
      (stands.stream_tables i) (stands.error_context_tables i))
