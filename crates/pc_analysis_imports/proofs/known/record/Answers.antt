use Rattle.std.proofs.Common.{◌<◌, All, ap, refl, subst, sym, ◌∙◌}
use Rattle.std.specs.Prelude.{length}
use Rattle.pc_types.specs.declared.module_record.ModuleRecord.{ModuleRecord}
use Rattle.pc_info.specs.declared.module.ModuleTranslation.{ModuleTranslation}
use Rattle.pc_info.specs.Modules.{module_view}
use Rattle.pc_analysis_imports.specs.Imports.{with_imports}
use Rattle.pc_analysis_imports.proofs.EachLemmas.{each_all, each_count}
use Rattle.pc_analysis_imports.proofs.known.record.Goals as goal

pub record_known_but-requires-clause-count : goal.record_known_but-requires-clause-count
record_known_but-requires-clause-count c =
    c.requires.hidden
    ∙ sym (ap length c.record_imports.ensures
    ∙ each_count with_imports c.into_vec-list.result.items c.args.found.imports.items
    ∙ ap length (c.into_vec-list.ensures ∙ c.replace.ensures.value))

pub record_known_but-requires-clause-numbered : goal.record_known_but-requires-clause-numbered
record_known_but-requires-clause-numbered c =
    subst (λ l. All (λ (m : ModuleTranslation). length m.«module».memories < 4294967296) l)
    (sym c.record_imports.ensures)
    (each_all with_imports module_view (λ (r : ModuleRecord). length r.memories < 4294967296) (λ a b. refl)
    c.into_vec-list.result.items c.args.found.imports.items
    (subst (λ l. All (λ (m : ModuleTranslation). length m.«module».memories < 4294967296) l)
    (sym (c.into_vec-list.ensures ∙ c.replace.ensures.value)) c.requires.numbered))
