-- What it means that a generated input is valid, and a chain of as many adapters as it says.
use Rattle.std.specs.Prelude.{◌≡◌, ℕ, ◌+◌, false, All, length, Option, None, Some, Ok, codes}
use Rattle.std.specs.List.{filter_map}
use Rattle.pc_types.specs.declared.parsed.PrimType.TheVariants.{U32}
use Rattle.pc_types.specs.TypeTree.{TypeTree, a_tree, and_field, func_of, no_fields, primitive}
use Rattle.pc_spec_plan.specs.CoreValue.{CoreValue, adapter}
use Rattle.pc_spec_plan.specs.Log.{Entry, instances_of, made}
use Rattle.pc_parsed.specs.Mark.{Mark, of_type}
use Rattle.pc_spec_reading.specs.Answer.{answer_of}
use Rattle.pc_spec_reading.specs.Reading.{Reading}
use Rattle.pc_generate.specs.Generated.{payloads}
use Rattle.pc_generate.specs.Table.{table}

-- the adapter that an entry makes, if it makes one
abbrev pub adapter_of : Entry Mark → Option (CoreValue Mark)
adapter_of (made v) = Some v
adapter_of _ = None

-- the type of each function
abbrev pub function_tree : TypeTree
function_tree = func_of (and_field (codes "x") (primitive U32) no_fields) (a_tree (primitive U32)) false

-- an adapter lifts and lowers with this type
abbrev pub AdaptsFunction : CoreValue Mark → Type 0
AdaptsFunction (adapter lift_type lift lower_type lower callee) =
    (lift_type ≡ of_type function_tree) × (lower_type ≡ of_type function_tree)
AdaptsFunction v = ⊥

-- each link begins one component instance, makes one core instance of a handed-in module, and makes one adapter; the
-- first component is one instance more, and the root begins too
pub record HasLinks (n : ℕ) (r : Reading) : Type 0 where
  pub begun : r.begun ≡ n + 2
  pub instances : length (instances_of r.log) ≡ n + 1
  pub adapters : length (filter_map adapter_of r.log) ≡ n
  pub typed : All AdaptsFunction (filter_map adapter_of r.log)

-- a chain of so many links has no static fault, and its reading ends with a result, within its limit of component
-- instances and below the bound of totals, where no types were held before; and the result is a chain
pub record IsValid (n : ℕ) : Type 0 where
  pub result_ : Reading
  pub is_done : answer_of table None (n + 2) 0 (payloads n) ≡ Some (Ok result_)
  pub has_links : HasLinks n result_
