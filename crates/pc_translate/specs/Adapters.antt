-- What the adapters of a reading are asked for: by the facts of their types and the widths of their memories.
use Rattle.std.specs.Prelude.{ℕ, Bool, false, List, [], ◌∷◌, ◌+◌, Option, None, Some, if◌then◌else◌}
use Rattle.pc_types.specs.declared.module_record.ModuleRecord.{ModuleRecord}
use Rattle.pc_types_lists.specs.Facts.{no_facts}
use Rattle.pc_spec_plan.specs.CoreValue.{CoreValue, MaybeValue, Options, a_value, adapter, no_value}
use Rattle.pc_spec_adapt.specs.Asked.{FunctionFacts, function_facts, has_options, model_of}
use Rattle.pc_spec_adapt.specs.Needs.{adapters_of}
use Rattle.pc_spec_adapt.specs.Planned.{memory_in}
use Rattle.pc_parsed.specs.Mark.{Mark, of_signature, of_type}
use Rattle.pc_spec_reading.specs.Reading.{Reading}
use Rattle.pc_spec_reading.specs.Widths.{is_wide}

-- the facts of a function that has no types
abbrev pub no_function_facts : FunctionFacts
no_function_facts = record { params = no_facts; results = no_facts; is_async = false }

-- the facts of a function type
abbrev pub facts_in : Mark → FunctionFacts
facts_in (of_type tree) = function_facts tree
facts_in (of_signature s) = no_function_facts

-- those of the type that an adapter's function was lifted with
abbrev pub lift_facts : CoreValue Mark → FunctionFacts
lift_facts (adapter lift_type lift lower_type lower callee) = facts_in lift_type
lift_facts v = no_function_facts

-- and those of the type that it is lowered with
abbrev pub lower_facts : CoreValue Mark → FunctionFacts
lower_facts (adapter lift_type lift lower_type lower callee) = facts_in lower_type
lower_facts v = no_function_facts

-- whether an adapter has the options that its types ask for
abbrev pub is_complete : CoreValue Mark → Bool
is_complete v = has_options (lift_facts v) (lower_facts v) v

-- the number of the first adapter that lacks an option, where the first of these has number n
unfoldable pub lacking_from : (n : ℕ) → List (CoreValue Mark) → Option ℕ
lacking_from n [] = None
lacking_from n (v ∷ vs) = if is_complete v then lacking_from (n + 1) vs else Some n

-- that of a reading's adapters, which are numbered in the order in which they are made
abbrev pub first_lacking : Reading → Option ℕ
first_lacking r = lacking_from 0 (adapters_of r.log)

module _ (ms : List ModuleRecord) (r : Reading) where
  -- whether a memory that may be left out has 64 bits
  abbrev pub is_wide_maybe : MaybeValue Mark → Bool
  is_wide_maybe no_value = false
  is_wide_maybe (a_value v) = is_wide ms r.imports r.log v

  -- whether that of a side does
  abbrev pub is_wide_side : Options Mark → Bool
  is_wide_side o = is_wide_maybe (memory_in (model_of o))

  -- whether that of an adapter's lift does
  abbrev pub lift_width : CoreValue Mark → Bool
  lift_width (adapter lift_type lift lower_type lower callee) = is_wide_side lift
  lift_width v = false

  -- and that of its lowering
  abbrev pub lower_width : CoreValue Mark → Bool
  lower_width (adapter lift_type lift lower_type lower callee) = is_wide_side lower
  lower_width v = false
