-- How the reading has the parts of a builtin, and the builtin itself.
use Rattle.std.specs.Prelude.{Option, None, Some, Result, Ok, option_and_then, slice_get}
use Rattle.pc_types.specs.declared.parsed.CoreFuncSig.{CoreFuncSig}
use Rattle.pc_types.specs.declared.parsed.TypeTable.{TypeTable}
use Rattle.pc_types.specs.TypeTree.{TypeTree, error_context}
use Rattle.pc_spec_plan.specs.CoreValue as value
use Rattle.pc_spec_plan.specs.CoreValue.{CoreValue, Options, a_value, flag_part, number_part, options_part, value_part}
use Rattle.pc_parsed.specs.Mark.{Mark}
use Rattle.pc_spec_reading.specs.Builtins.{add_builtin, type_part}
use Rattle.pc_spec_reading.specs.Options.{memory_options, options_of}
use Rattle.pc_spec_reading.specs.Outcome.{Fault, after, bad_type, found, invalid}
use Rattle.pc_spec_reading.specs.Scope.{Moment, Scope}
use Rattle.pc_spec_reading.specs.Types.{a_future_tree, a_stream_tree, known_resource, results_tree, signature_at, type_tree}
use Rattle.pc_inline_builtins.specs.declared.builtin.Builtin.{Builtin}
use Rattle.pc_inline_builtins.specs.declared.builtin.First.{First}
use Rattle.pc_inline_builtins.specs.declared.builtin.First.TheVariants as first
use Rattle.pc_inline_builtins.specs.declared.builtin.Handle.{Handle}
use Rattle.pc_inline_builtins.specs.declared.builtin.Handle.TheVariants as handle
use Rattle.pc_inline_builtins.specs.declared.builtin.Second.{Second}
use Rattle.pc_inline_builtins.specs.declared.builtin.Second.TheVariants as second
use Rattle.pc_inline_builtins.specs.Written.{both_of}

-- a part as the reading has it
abbrev pub ReadPart : Type 0
ReadPart = value.Part Mark

-- a tree that is of a kind
abbrev pub of_handle : Handle → TypeTree → Option TypeTree
of_handle handle.Resource = known_resource
of_handle handle.Stream = a_stream_tree
of_handle handle.Future = a_future_tree

-- a type that was found, as a part: `BadType` where none was
abbrev pub typed_or : Option TypeTree → Result (Option ReadPart) Fault
typed_or tree = found bad_type tree (λ (tree : TypeTree). Ok (Some (type_part tree)))

-- options that were found, as a part: `Invalid` where none were
abbrev pub optioned_or : Option (Options Mark) → Result (Option ReadPart) Fault
optioned_or o = found invalid o (λ (o : Options Mark). Ok (Some (options_part o)))

module _ (t : TypeTable) where
  -- what stands first
  unfoldable pub read_first : Scope → First → Result (Option ReadPart) Fault
  read_first s first.Nothing = Ok None
  read_first s (first.Handle h n) = typed_or (option_and_then (of_handle h) (type_tree t s n))
  read_first s (first.Results result) = typed_or (results_tree t s result)
  read_first s first.ErrorContexts = Ok (Some (type_part (error_context s.component_instance)))
  read_first s (first.Number n) = Ok (Some (number_part n))

-- what stands behind it, under a core signature
unfoldable pub read_second : Scope → CoreFuncSig → Second → Result (Option ReadPart) Fault
read_second s signature second.Nothing = Ok None
read_second s signature (second.Flag is_async) = Ok (Some (flag_part is_async))
read_second s signature (second.Options opts) = optioned_or (options_of s signature opts.now)
read_second s signature (second.Memory n) =
    found invalid (slice_get s.memories n) (λ (v : CoreValue Mark).
    Ok (Some (options_part (memory_options s signature v))))
read_second s signature (second.Table n) =
    found invalid (slice_get s.tables n) (λ (v : CoreValue Mark). Ok (Some (value_part (a_value v))))

-- a builtin: `BadType` where there is no such signature; then its parts
unfoldable pub read_made : TypeTable → Builtin → Moment → Result Moment Fault
read_made t b now =
    found bad_type (signature_at t b.core) (λ (s : CoreFuncSig).
    after (read_first t now.scope b.first) (λ (p : Option ReadPart).
    after (read_second now.scope s b.second) (λ (q : Option ReadPart).
    Ok (add_builtin now b.kind s (both_of p q)))))
