-- The modules of a graph's adapters by the values of the adapters: what they are, and what they are given.
use Rattle.std.specs.Prelude.{◌≡◌, ℕ, ◌+◌, Bool, List, [], ◌∷◌, ◌++◌, length, map}
use Rattle.std.specs.List.{AllZip, flat_map}
use Rattle.pc_numbers.specs.declared.component_entity.StaticModuleIndex.{StaticModuleIndex}
use Rattle.pc_numbers.specs.declared.entity_index.EntityIndex.{EntityIndex}
use Rattle.pc_types.specs.declared.parsed.CoreKind.TheVariants as kind
use Rattle.pc_types.specs.Record.{entity_at}
use Rattle.pc_spec_plan.specs.CoreValue.{CoreValue}
use Rattle.pc_trampoline.specs.declared.part.Mark.{Mark}
use Rattle.pc_info.specs.declared.module.ModuleTranslation.{ModuleTranslation}
use Rattle.pc_info.specs.Modules.{adapter_view, without_facts}
use Rattle.pc_dfg.specs.declared.adapter.Adapter.{Adapter}
use Rattle.pc_dfg.specs.declared.core_def.CoreDef.{CoreDef}
use Rattle.pc_dfg.specs.declared.dfg.ComponentDfg.{ComponentDfg}
use Rattle.pc_dfg.specs.declared.ids.AdapterModuleId.{AdapterModuleId}
use Rattle.pc_dfg.specs.Means.{Means}
use Rattle.pc_spec_adapt.specs.Asked.{FunctionFacts}
use Rattle.pc_spec_adapt.specs.Import.{Import}
use Rattle.pc_spec_adapt.specs.Planned.{planned}
use Rattle.pc_spec_adapt.specs.Record.{Member, functions_in, module_of, records_of}
use Rattle.pc_spec_adapt.specs.Split.{IsFewest}
use Rattle.pc_adapt.specs.Imports.{is_transparent}
use Rattle.pc_adapt.specs.Planned.{is_wide}
use Rattle.pc_adapt_groups.specs.Needs.{Needs}
use Rattle.pc_adapt_modules.specs.Entities.{signature_number}

-- The facts of the types of each adapter, whether it is transparent, and its value.
module _ (lift lower : ℕ → FunctionFacts) (transparent : ℕ → Bool) (vs : ℕ → CoreValue Mark) where
  -- the adapter of this number as a member of a module: with its value, and with what is planned for that, by the widths
  -- of memories that its options tell
  abbrev pub member_at : (number : ℕ) → Adapter → Member Mark
  member_at n x = record {
    number = n;
    adapter = vs n;
    imports = planned (lift n) (lower n) (transparent n) (is_wide x.lift_options.data_model)
        (is_wide x.lower_options.data_model) (vs n);
  }

  -- adapters one after the other, the first of which has this number
  abbrev pub members_from : (number : ℕ) → List Adapter → List (Member Mark)
  members_from n [] = []
  members_from n (x ∷ xs) = member_at n x ∷ members_from (n + 1) xs

-- the numbers of members
abbrev pub numbers_of : List (Member Mark) → List ℕ
numbers_of members = map (λ (x : Member Mark). x.number) members

-- the values of all that is imported for members, one after the other
abbrev pub values_for : List (Member Mark) → List (CoreValue Mark)
values_for members = map (λ (i : Import Mark). i.value) (flat_map (λ (x : Member Mark). x.imports) members)

-- a core module of this number is that of members: it has their record and no facts, and what is said of its adapters
-- is what is said of them
pub record IsModuleOf (core_module : ℕ) (members : List (Member Mark)) (m : ModuleTranslation) : Type 0 where
  pub is : m ≡ without_facts (module_of signature_number members) m.adapters
  pub said : map (adapter_view core_module) m.adapters ≡ records_of signature_number core_module members

-- core modules are those of groups, one by one, the first of which has this number
abbrev pub AreModulesOf : (core_module : ℕ) → List (List (Member Mark)) → List ModuleTranslation → Type 0
AreModulesOf n [] [] = Unit {0}
AreModulesOf n [] (m ∷ ms) = ⊥
AreModulesOf n (members ∷ groups) [] = ⊥
AreModulesOf n (members ∷ groups) (m ∷ ms) = IsModuleOf n members m × AreModulesOf (n + 1) groups ms

-- the modules of groups, the first of which is the core module of this number, are given what is imported for them
abbrev pub AreGivenTo : ComponentDfg → (core_module : ℕ) → List (List (Member Mark))
    → List (StaticModuleIndex × List CoreDef) → Type 0
AreGivenTo h n [] [] = Unit {0}
AreGivenTo h n [] (m ∷ ms) = ⊥
AreGivenTo h n (members ∷ groups) [] = ⊥
AreGivenTo h n (members ∷ groups) (m ∷ ms) =
    (m.0.0 ≡ n) × AllZip (Means h) m.1 (values_for members) × AreGivenTo h (n + 1) groups ms

-- members of a module as its functions, the first of which is this one
abbrev pub functions_for : (adapter_module function : ℕ) → List (Member Mark) → List (AdapterModuleId × EntityIndex)
functions_for m f [] = []
functions_for m f (x ∷ xs) = (record { 0 = m }, entity_at kind.Func f) ∷ functions_for m (f + 1) xs

-- the members of groups, the first of which is this module: each group has the functions behind those that are imported
abbrev pub functions_of : (adapter_module : ℕ) → List (List (Member Mark)) → List (AdapterModuleId × EntityIndex)
functions_of m [] = []
functions_of m (members ∷ groups) =
    functions_for m (functions_in signature_number members) members ++ functions_of (m + 1) groups

-- the second graph, and the second list of modules, have got the modules of the first graph's adapters: by their values,
-- by the facts of their types, and by which of them are transparent in the first graph
pub record AreAdapted (lift lower : ℕ → FunctionFacts) (vs : ℕ → CoreValue Mark) (g h : ComponentDfg)
    (ms ns : List ModuleTranslation) : Type 0 where
  -- all adapters in order, in the fewest groups of which none has an adapter that needs another of the same group
  pub groups : List (List (Member Mark))
  pub all : flat_map (λ (members : List (Member Mark)). members) groups
      ≡ members_from lift lower (is_transparent g) vs 0 g.adapters
  pub fewest : IsFewest (Needs g) (length g.adapters) (map numbers_of groups)
  -- behind the modules that were there stand those of the groups
  pub added : List ModuleTranslation
  pub modules : ns ≡ ms ++ added
  pub are : AreModulesOf (length ms) groups added
  -- each is given the values of its imports
  pub given : AreGivenTo h (length ms) groups h.adapter_modules
  -- and each adapter is a function of the module of its group
  pub places : h.adapter_partitionings ≡ functions_of 0 groups
