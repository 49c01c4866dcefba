-- Builtins of the canonical ABI. The parts of one are its signature and then what it names, in written order.
use Rattle.std.specs.Prelude.{ℕ, List, [], ◌∷◌, Option, Some, None, Result, Ok, slice_get, option_map}
use Rattle.std.specs.Prelude.{option_and_then}
use Rattle.pc_types.specs.declared.parsed.CoreFuncSig.{CoreFuncSig}
use Rattle.pc_types.specs.declared.parsed.CoreKind.TheVariants as core
use Rattle.pc_types.specs.declared.parsed.TypeTable.{TypeTable}
use Rattle.pc_types.specs.declared.parsed.ValType.{ValType}
use Rattle.pc_types.specs.declared.trampoline.TrampolineKind.{TrampolineKind}
use Rattle.pc_types.specs.declared.trampoline.TrampolineKind.TheVariants as kind
use Rattle.pc_types.specs.TypeTree.{TypeTree, error_context}
use Rattle.pc_spec_plan.specs.CoreValue.{CoreValue, Options, Parts, Part, builtin, no_parts, and_part, mark_part}
use Rattle.pc_spec_plan.specs.CoreValue.{number_part, flag_part, value_part, options_part, a_value}
use Rattle.pc_spec_plan.specs.Log.{declared}
use Rattle.pc_parsed.specs.declared.canon.CanonOption.{CanonOption}
use Rattle.pc_parsed.specs.Mark.{Mark, of_type, of_signature}
use Rattle.pc_spec_reading.specs.Item.{Operand, a_resource, a_stream, a_future, a_flag, the_options}
use Rattle.pc_spec_reading.specs.Options.{options_of, memory_options}
use Rattle.pc_spec_reading.specs.Outcome.{Fault, invalid, bad_type, found, after}
use Rattle.pc_spec_reading.specs.Scope.{Scope, Moment, add_core, add_entry}
use Rattle.pc_spec_reading.specs.Types.{type_tree, results_tree, signature_at, known_resource, a_stream_tree, a_future_tree}

-- parts from a list
abbrev pub parts_of : List (Part Mark) → Parts Mark
parts_of [] = no_parts
parts_of (p ∷ ps) = and_part p (parts_of ps)

-- a builtin of this signature and these parts is declared, and is a core function
abbrev pub declaring : Moment → CoreValue Mark → Moment
declaring now v = add_core (add_entry now (declared v)) core.Func v

-- a builtin of this kind, under this signature, with these parts after it
abbrev pub add_builtin : Moment → TrampolineKind → CoreFuncSig → List (Part Mark) → Moment
add_builtin now k s parts =
    declaring now (builtin k now.scope.component_instance (and_part (mark_part (of_signature s)) (parts_of parts)))

-- a type as a part
abbrev pub type_part : TypeTree → Part Mark
type_part tree = mark_part (of_type tree)

-- the options of a builtin that has some
abbrev pub optional_options : Scope → CoreFuncSig → Option (List CanonOption) → Option (List (Part Mark))
optional_options s signature None = Some []
optional_options s signature (Some opts) =
    option_map (λ (o : Options Mark). options_part o ∷ []) (options_of s signature opts)

module _ (t : TypeTable) where
  -- the type of a number as a part, where its tree is of the kind that is asked for: `BadType` where it isn't
  abbrev pub typed_part : (TypeTree → Option TypeTree) → Scope → ℕ → Result (Part Mark) Fault
  typed_part of_kind s n =
      found bad_type (option_and_then of_kind (type_tree t s n)) (λ (tree : TypeTree). Ok (type_part tree))

  -- an operand as a part: a resource that is known, a stream type, a future type, a flag, or options, `Invalid` where an
  -- index of these is missing
  abbrev pub part_of : Scope → CoreFuncSig → Operand → Result (Part Mark) Fault
  part_of s signature (a_resource n) = typed_part known_resource s n
  part_of s signature (a_stream n) = typed_part a_stream_tree s n
  part_of s signature (a_future n) = typed_part a_future_tree s n
  part_of s signature (a_flag is_async) = Ok (flag_part is_async)
  part_of s signature (the_options opts) =
      found invalid (options_of s signature opts) (λ (o : Options Mark). Ok (options_part o))

  -- operands as parts, or why the first is none
  abbrev pub parts_from : Scope → CoreFuncSig → List Operand → Result (List (Part Mark)) Fault
  parts_from s signature [] = Ok []
  parts_from s signature (o ∷ os) =
      after (part_of s signature o) (λ (p : Part Mark).
      after (parts_from s signature os) (λ (ps : List (Part Mark)). Ok (p ∷ ps)))

  -- a builtin: `BadType` where there is no such signature; then its operands, of which types stand before options
  unfoldable pub read_builtin : Moment → TrampolineKind → (signature : ℕ) → List Operand → Result Moment Fault
  read_builtin now k signature operands =
      found bad_type (signature_at t signature) (λ (s : CoreFuncSig).
      after (parts_from now.scope s operands) (λ (parts : List (Part Mark)). Ok (add_builtin now k s parts)))

  -- waiting or polling, with that memory: then `Invalid` where there is no such memory
  unfoldable pub read_waitable : Moment → TrampolineKind → (signature memory : ℕ) → Result Moment Fault
  read_waitable now k signature memory =
      found bad_type (signature_at t signature) (λ (s : CoreFuncSig).
      found invalid (slice_get now.scope.memories memory) (λ (v : CoreValue Mark).
      Ok (add_builtin now k s (options_part (memory_options now.scope s v) ∷ []))))

  -- `task.return`, whose result stands in a tuple, if there is one: `BadType` also where it is no defined type
  unfoldable pub read_task_return : Moment → (signature : ℕ) → Option ValType → List CanonOption → Result Moment Fault
  read_task_return now signature result opts =
      found bad_type (signature_at t signature) (λ (s : CoreFuncSig).
      found bad_type (results_tree t now.scope result) (λ (tree : TypeTree).
      found invalid (options_of now.scope s opts) (λ (o : Options Mark).
      Ok (add_builtin now kind.TaskReturn s (type_part tree ∷ options_part o ∷ [])))))

  -- error contexts, with those of the component instance
  unfoldable pub read_error_context : Moment → TrampolineKind → (signature : ℕ) → Option (List CanonOption)
      → Result Moment Fault
  read_error_context now k signature opts =
      found bad_type (signature_at t signature) (λ (s : CoreFuncSig).
      found invalid (optional_options now.scope s opts) (λ (more : List (Part Mark)).
      Ok (add_builtin now k s (type_part (error_context now.scope.component_instance) ∷ more))))

  -- a new thread, with the start type as a number that isn't looked at: then `Invalid` where there is no such table
  unfoldable pub read_new_thread : Moment → (signature start_type table : ℕ) → Result Moment Fault
  read_new_thread now signature start_type table =
      found bad_type (signature_at t signature) (λ (s : CoreFuncSig).
      found invalid (slice_get now.scope.tables table) (λ (v : CoreValue Mark).
      Ok (add_builtin now kind.ThreadNewIndirect s (number_part start_type ∷ value_part (a_value v) ∷ []))))
