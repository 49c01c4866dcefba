-- What the reading does with what an instance exports.
use Rattle.std.specs.Prelude.{ℕ, Result, Ok}
use Rattle.pc_types.specs.declared.parsed.TypeTable.{TypeTable}
use Rattle.pc_types.specs.Table.{is_instance}
use Rattle.pc_types.specs.TypeTree.{TypeTree}
use Rattle.pc_spec_reading.specs.Outcome.{Fault, bad_type, found}
use Rattle.pc_spec_reading.specs.Scope.{Moment, add_value}
use Rattle.pc_spec_reading.specs.Types.{tree_if}
use Rattle.pc_spec_reading.specs.Value.{NamedValues, instance_value, made_instance}

-- an instance of these values, of the type that a number has in the scope now; `BadType` where it is no instance type
abbrev pub made_of : TypeTable → (ty : ℕ) → NamedValues → Moment → Result Moment Fault
made_of t ty vs now =
    found bad_type (tree_if t is_instance now.scope ty) (λ (tree : TypeTree).
    Ok (add_value now (instance_value (made_instance vs tree))))
