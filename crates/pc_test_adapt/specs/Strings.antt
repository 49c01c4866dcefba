-- A function that takes a string, lifted with compact utf16 in component instance 1 and lowered with utf8 in 2.
use Rattle.std.specs.Prelude.{ℕ, false, List, [], ◌∷◌, codes, None, Some}
use Rattle.pc_numbers.specs.declared.entity_index.EntityIndex.TheVariants as entity
use Rattle.pc_types.specs.declared.encoding.StringEncoding.TheVariants as encoding
use Rattle.pc_types.specs.declared.module_record.ModuleRecord.{ModuleRecord}
use Rattle.pc_types.specs.declared.parsed.CoreEntity.TheVariants as core
use Rattle.pc_types.specs.declared.trampoline.TrampolineKind.TheVariants as kind
use Rattle.pc_types_lists.specs.Facts.{a_string, no_facts}
use Rattle.pc_spec_plan.specs.CoreValue as value
use Rattle.pc_spec_plan.specs.CoreValue.{CoreValue, MaybeValue}
use Rattle.pc_spec_plan.specs.PlanView as plan
use Rattle.pc_spec_adapt.specs.Asked.{FunctionFacts}
use Rattle.pc_spec_adapt.specs.Import.{Import}
use Rattle.pc_test_adapt.specs.Words.{as_flags, as_function, as_memory, func, held, memory, parts}

-- a string is taken, and nothing is given
abbrev pub of_strings : FunctionFacts
of_strings = record { params = a_string; results = no_facts; is_async = false }

-- the adapter with this realloc of the lift: type 7, core signature 5 of the lift and 6 of the lowering
abbrev pub with_realloc : MaybeValue ℕ → CoreValue ℕ
with_realloc realloc =
    value.adapter 7 (value.options 1 encoding.CompactUtf16 false 5 value.no_value value.no_value
    (value.linear (value.a_value (memory 0)) realloc)) 7 (value.options 2 encoding.Utf8 false 6 value.no_value
    value.no_value (value.linear (value.a_value (memory 1)) value.no_value)) (func 0 0)

-- with the realloc that it is asked for
abbrev pub string_adapter : CoreValue ℕ
string_adapter = with_realloc (value.a_value (func 0 1))

-- without a realloc
abbrev pub no_realloc : CoreValue ℕ
no_realloc = with_realloc value.no_value

-- a transcoder of this number from the memory of the lowering to that of the lift
abbrev pub transcoder : ℕ → Import ℕ
transcoder n =
    as_function 6 (value.helper kind.Transcoder (parts (value.number_part n ∷ value.number_part 32
    ∷ value.number_part 32 ∷ value.mark_part 6 ∷ held (memory 1) ∷ held (memory 0) ∷ [])))

-- utf8 becomes latin1 as long as that goes, and else utf16
abbrev pub string_imports : List (Import ℕ)
string_imports =
    as_function 5 (func 0 0) ∷ as_flags 2 ∷ as_flags 1 ∷ as_memory false (memory 0) ∷ as_function 6 (func 0 1)
    ∷ as_memory false (memory 1) ∷ transcoder 10 ∷ transcoder 9
    ∷ as_function 6 (value.helper kind.Trap (parts (value.number_part 1 ∷ value.mark_part 6 ∷ []))) ∷ []

-- five functions are imported, so the adapter is function 5
abbrev pub string_module : ModuleRecord
string_module = record {
  imports =
      (codes "adapter0", codes "0", core.Func 5) ∷ (codes "adapter0", codes "1", core.Global)
      ∷ (codes "adapter0", codes "2", core.Global) ∷ (codes "adapter0", codes "3", core.Memory false)
      ∷ (codes "adapter0", codes "4", core.Func 6) ∷ (codes "adapter0", codes "5", core.Memory false)
      ∷ (codes "adapter0", codes "6", core.Func 6) ∷ (codes "adapter0", codes "7", core.Func 6)
      ∷ (codes "adapter0", codes "8", core.Func 6) ∷ [];
  funcs = 6 ∷ [];
  tables = 0;
  memories = [];
  globals = 0;
  tags = 0;
  exports = (codes "adapter0", entity.Function (record { 0 = 5 })) ∷ [];
}

-- memory and realloc of the lift stand at 3 and 4, the memory of the lowering at 5
abbrev pub string_record : plan.AdapterRecord ℕ
string_record = record {
  core_module = 3;
  adapter = 0;
  function = 5;
  callee = 0;
  lift_type = 7;
  lift = record {
    component_instance = 1;
    encoding = encoding.CompactUtf16;
    is_async = false;
    signature = 5;
    callback = None;
    post_return = None;
    model = plan.linear (Some 3) (Some 4);
  };
  lower_type = 7;
  lower = record {
    component_instance = 2;
    encoding = encoding.Utf8;
    is_async = false;
    signature = 6;
    callback = None;
    post_return = None;
    model = plan.linear (Some 5) None;
  };
}
