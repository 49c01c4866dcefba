-- What is found by instances and ways is what is found of the plan.
use Rattle.std.proofs.Common.{◌≡◌, ◌<◌, List, [], ◌∷◌, All, length, sym, ap, subst, ◌∙◌, arith}
use Rattle.std.specs.Prelude.{map, slice_get}
use Rattle.std.proofs.lemmas.List.{get_or-map, length-map}
use Rattle.pc_types.specs.declared.module_record.ModuleRecord.{ModuleRecord}
use Rattle.pc_info.specs.declared.component.ComponentTranslation.{ComponentTranslation}
use Rattle.pc_info.specs.declared.module.ModuleTranslation.{ModuleTranslation}
use Rattle.pc_info.specs.Modules.{module_view}
use Rattle.pc_dfg.specs.declared.instantiations.AbstractInstantiations.{AbstractInstantiations}
use Rattle.pc_analysis_imports.specs.declared.known.Found.{Found}
use Rattle.pc_analysis_imports.specs.declared.source.Instance.{Instance}
use Rattle.pc_analysis_imports.specs.Exported.{is_exported_in}
use Rattle.pc_analysis_imports.specs.Followed.{instances_after}
use Rattle.pc_analysis_imports.specs.Found.{IsFound, IsFoundBy, plan_instances}
use Rattle.pc_analysis_imports.specs.Imports.{AreImports, always_given}
use Rattle.pc_analysis_imports.specs.Marks.{Marks}
use Rattle.pc_analysis_imports.specs.Known.{IsNumbered}
use Rattle.pc_analysis_imports.specs.Ways.{AreWays}

-- imports of each record can be numbered
pub numbered_imports : (modules : List ModuleTranslation) (records : List ModuleRecord)
    → All (λ m. IsNumbered (module_view m)) modules → records ≡ map module_view modules
    → All (λ (r : ModuleRecord). length r.imports < 4294967295) records
numbered_imports modules records all is =
    subst (All (λ (r : ModuleRecord). length r.imports < 4294967295)) (sym is) (mapped modules all)
  where
    mapped : (modules : List ModuleTranslation) → All (λ m. IsNumbered (module_view m)) modules
        → All (λ (r : ModuleRecord). length r.imports < 4294967295) (map module_view modules)
    mapped [] all k d few = let bad : ⊥ = omega (arith, few) in absurd bad
    mapped (m ∷ ms) all k d few =
        let within : k < length (m ∷ ms) = omega (arith, few, length-map (m ∷ ms) module_view) in
        subst (λ (r : ModuleRecord). length r.imports < 4294967295)
        (sym (get_or-map module_view (m ∷ ms) k m d within)) (all k m within).imports

-- what is found with the instances and the ways of the plan
found_by : (p : ComponentTranslation) (records : List ModuleRecord) (ways : List AbstractInstantiations)
    (found : Found) → length ways ≡ length records
    → AreWays (is_exported_in p.component.export_items) p.component.initializers ways
    → IsFoundBy p records (plan_instances p records) ways found → IsFound p records found
found_by p records ways found count are is = record {
  ways = ways;
  ways_count = count;
  are_ways = are;
  imports_count = is.imports_count;
  are_imports = λ m r i here there.
      subst (λ a. AreImports p.trampolines a r
      (always_given records (plan_instances p records) (slice_get ways m)) i) is.are_marks
      (is.are_imports m r i here there);
  are_hidden = is.are_hidden ∙ ap (λ (a : Marks). a.modules) is.are_marks;
}

-- the same, as they are at hand
pub found_is : (p : ComponentTranslation) (modules : List ModuleTranslation) (records : List ModuleRecord)
    (instances : List Instance) (ways : List AbstractInstantiations) (found : Found)
    → records ≡ map module_view modules → instances ≡ instances_after records [] p.component.initializers
    → length ways ≡ length records
    → AreWays (is_exported_in p.component.export_items) p.component.initializers ways
    → IsFoundBy p records instances ways found → IsFound p (map module_view modules) found
found_is p modules records instances ways found is_records is_instances count are is =
    subst (λ r. IsFound p r found) is_records
    (found_by p records ways found count are (subst (λ q. IsFoundBy p records q ways found) is_instances is))
