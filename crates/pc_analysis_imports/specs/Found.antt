-- What is found of each module of a plan.
use Rattle.std.specs.Prelude.{◌≡◌, ℕ, List, [], length, Some, slice_get}
use Rattle.pc_types.specs.declared.module_record.ModuleRecord.{ModuleRecord}
use Rattle.pc_info.specs.declared.component.ComponentTranslation.{ComponentTranslation}
use Rattle.pc_analysis_imports.specs.declared.imports.Imports.{Imports}
use Rattle.pc_dfg.specs.declared.instantiations.AbstractInstantiations.{AbstractInstantiations}
use Rattle.pc_analysis_imports.specs.declared.known.Found.{Found}
use Rattle.pc_analysis_imports.specs.declared.source.Instance.{Instance}
use Rattle.pc_analysis_imports.specs.Exported.{is_exported_in}
use Rattle.pc_analysis_imports.specs.Followed.{instances_after}
use Rattle.pc_analysis_imports.specs.Imports.{AreImports, always_given}
use Rattle.pc_analysis_imports.specs.Marked.{none_marked, shown_in_all, with_sources}
use Rattle.pc_analysis_imports.specs.Marks.{Marks}
use Rattle.pc_analysis_imports.specs.Ways.{AreWays}

module _ (p : ComponentTranslation) (records : List ModuleRecord) where
  -- the core instances of a plan
  abbrev pub plan_instances : List Instance
  plan_instances = instances_after records [] p.component.initializers

  -- what is marked in a plan whose modules are instantiated in these ways
  abbrev pub plan_marks : List AbstractInstantiations → Marks
  plan_marks ways =
      with_sources (none_marked (length records)) (shown_in_all records plan_instances ways p.component.initializers)

  -- this is found of each module of a plan
  pub record IsFound (found : Found) : Type 0 where
    pub ways : List AbstractInstantiations
    pub ways_count : length ways ≡ length records
    pub are_ways : AreWays (is_exported_in p.component.export_items) p.component.initializers ways
    pub imports_count : length found.imports.items ≡ length records
    pub are_imports : (m : ℕ) (r : ModuleRecord) (i : Imports) → slice_get records m ≡ Some r
        → slice_get found.imports.items m ≡ Some i
        → AreImports p.trampolines (plan_marks ways) r (always_given records plan_instances (slice_get ways m)) i
    pub are_hidden : found.hidden.items ≡ (plan_marks ways).modules

  -- the same by these instances and ways
  pub record IsFoundBy (instances : List Instance) (ways : List AbstractInstantiations) (found : Found) : Type 0 where
    pub marks : Marks
    pub are_marks : marks
        ≡ with_sources (none_marked (length records)) (shown_in_all records instances ways p.component.initializers)
    pub imports_count : length found.imports.items ≡ length records
    pub are_imports : (m : ℕ) (r : ModuleRecord) (i : Imports) → slice_get records m ≡ Some r
        → slice_get found.imports.items m ≡ Some i
        → AreImports p.trampolines marks r (always_given records instances (slice_get ways m)) i
    pub are_hidden : found.hidden.items ≡ marks.modules
