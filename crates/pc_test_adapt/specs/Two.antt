-- Two functions that take and give nothing, lifted in component instances 1 and 2 and lowered in 3, in one module.
use Rattle.std.specs.Prelude.{ℕ, false, List, [], ◌∷◌, ◌++◌, codes, None}
use Rattle.pc_numbers.specs.declared.entity_index.EntityIndex.TheVariants as entity
use Rattle.pc_types.specs.declared.encoding.StringEncoding.TheVariants as encoding
use Rattle.pc_types.specs.declared.module_record.ModuleRecord.{ModuleRecord}
use Rattle.pc_types.specs.declared.parsed.CoreEntity.{CoreEntity}
use Rattle.pc_types.specs.declared.parsed.CoreEntity.TheVariants as core
use Rattle.pc_types.specs.declared.trampoline.TrampolineKind.{TrampolineKind}
use Rattle.pc_types.specs.declared.trampoline.TrampolineKind.TheVariants as kind
use Rattle.pc_types_lists.specs.Facts.{no_facts}
use Rattle.pc_spec_plan.specs.CoreValue as value
use Rattle.pc_spec_plan.specs.CoreValue.{CoreValue, Options}
use Rattle.pc_spec_plan.specs.PlanView as plan
use Rattle.pc_spec_adapt.specs.Asked.{FunctionFacts}
use Rattle.pc_spec_adapt.specs.Import.{Import}
use Rattle.pc_spec_adapt.specs.Record.{Member}
use Rattle.pc_test_adapt.specs.Words.{as_flags, as_function, func, parts}

-- nothing is taken or given
abbrev pub of_nothing : FunctionFacts
of_nothing = record { params = no_facts; results = no_facts; is_async = false }

-- options of a component instance without a memory
abbrev pub plain : (component_instance signature : ℕ) → Options ℕ
plain c s =
    value.options c encoding.Utf8 false s value.no_value value.no_value (value.linear value.no_value value.no_value)

-- the adapter of what component instance c lifts from core instance n
abbrev pub lifted_in : (component_instance core_instance : ℕ) → CoreValue ℕ
lifted_in c n = value.adapter 0 (plain c 4) 1 (plain 3 5) (func n 0)

-- one of them
abbrev pub no_memory : CoreValue ℕ
no_memory = lifted_in 1 0

-- a helper without numbers and parts
abbrev pub bare : TrampolineKind → Import ℕ
bare k = as_function 5 (value.helper k (parts (value.mark_part 5 ∷ [])))

-- a trap
abbrev pub trap : Import ℕ
trap = as_function 5 (value.helper kind.Trap (parts (value.number_part 1 ∷ value.mark_part 5 ∷ [])))

-- what is imported for such an adapter
abbrev pub imports_for : (component_instance core_instance : ℕ) → List (Import ℕ)
imports_for c n =
    as_function 4 (func n 0) ∷ as_flags 3 ∷ as_flags c ∷ bare kind.EnterSyncCall ∷ bare kind.ExitSyncCall ∷ trap ∷ []

-- what is imported for that one
abbrev pub sync_imports : List (Import ℕ)
sync_imports = imports_for 1 0

-- both adapters, as a module has them
abbrev pub two_members : List (Member ℕ)
two_members =
    record { number = 0; adapter = lifted_in 1 0; imports = imports_for 1 0 }
    ∷ record { number = 1; adapter = lifted_in 2 1; imports = imports_for 2 1 } ∷ []

-- what is imported under one name: four functions and two globals
abbrev pub named : List ℕ → List (List ℕ × List ℕ × CoreEntity)
named name =
    (name, codes "0", core.Func 4) ∷ (name, codes "1", core.Global) ∷ (name, codes "2", core.Global)
    ∷ (name, codes "3", core.Func 5) ∷ (name, codes "4", core.Func 5) ∷ (name, codes "5", core.Func 5) ∷ []

-- eight functions are imported, so the adapters are functions 8 and 9
abbrev pub two_module : ModuleRecord
two_module = record {
  imports = named (codes "adapter0") ++ named (codes "adapter1");
  funcs = 5 ∷ 5 ∷ [];
  tables = 0;
  memories = [];
  globals = 0;
  tags = 0;
  exports =
      (codes "adapter0", entity.Function (record { 0 = 8 })) ∷ (codes "adapter1", entity.Function (record { 0 = 9 }))
      ∷ [];
}

-- the options of one side, without places
abbrev pub no_places : (component_instance signature : ℕ) → plan.PlanOptions ℕ
no_places c s = record {
  component_instance = c;
  encoding = encoding.Utf8;
  is_async = false;
  signature = s;
  callback = None;
  post_return = None;
  model = plan.linear None None;
}

-- an adapter's record, with its function and the place of its callee
abbrev pub record_of : (component_instance number function callee : ℕ) → plan.AdapterRecord ℕ
record_of c n f callee = record {
  core_module = 2;
  adapter = n;
  function = f;
  callee = callee;
  lift_type = 0;
  lift = no_places c 4;
  lower_type = 1;
  lower = no_places 3 5;
}

-- the second callee stands behind the six imports of the first adapter
abbrev pub two_records : List (plan.AdapterRecord ℕ)
two_records = record_of 1 0 8 0 ∷ record_of 2 1 9 6 ∷ []
