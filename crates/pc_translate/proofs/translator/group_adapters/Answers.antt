use Rattle.pc_translate.proofs.PlanningLemmas.{groups, held_types, trees}
use Rattle.pc_translate.proofs.translator.group_adapters.Goals as goal

pub partition_adapter_modules-grouped-requires-clause-ordered : goal.partition_adapter_modules-grouped-requires-clause-ordered
partition_adapter_modules-grouped-requires-clause-ordered c = c.requires.stands.3.ordered

pub partition_adapter_modules-grouped-requires-clause-no_modules : goal.partition_adapter_modules-grouped-requires-clause-no_modules
partition_adapter_modules-grouped-requires-clause-no_modules c = c.requires.stands.3.plain.adapter_modules

pub partition_adapter_modules-grouped-requires-clause-ungrouped : goal.partition_adapter_modules-grouped-requires-clause-ungrouped
partition_adapter_modules-grouped-requires-clause-ungrouped c = c.requires.stands.3.plain.adapter_partitionings

pub partition_adapter_modules-grouped-requires-clause-held : goal.partition_adapter_modules-grouped-requires-clause-held
partition_adapter_modules-grouped-requires-clause-held c =
    let s = c.requires.stands in held_types s.0 s.1 _ _ s.2 s.3

pub partition_adapter_modules-grouped-requires-clause-typed : goal.partition_adapter_modules-grouped-requires-clause-typed
partition_adapter_modules-grouped-requires-clause-typed c =
    let s = c.requires.stands in trees s.0 s.1 _ _ s.2 s.3

pub returns : goal.returns
returns c = record {
  groups = λ t ms r stands handed_in.
      let e = c.partition_adapter_modules-grouped.ensures in
      groups t ms _ _ r stands _ _ _ handed_in c.partition_adapter_modules-grouped.result e.bad e.adapted e.keeps
      e.ordered e.grouped e.told e.distinct e.wired c.entries_are_distinct.ensures.all e.occurs e.short e.room e.few e.most e.full
      c.map_err.result c.map_err.ensures.cases;
}
