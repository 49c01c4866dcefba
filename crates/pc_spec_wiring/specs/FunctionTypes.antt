-- What the mark of a function type tells of it, where marks are whole types.
use Rattle.std.specs.Prelude.{Bool, false}
use Rattle.pc_types.specs.TypeTree.{func_of}
use Rattle.pc_types_lists.specs.Facts as facts
use Rattle.pc_parsed.specs.Mark.{Mark, of_type, of_signature}

-- whether a mark is an async function type
abbrev pub is_async_type : Mark → Bool
is_async_type (of_type (func_of params result is_async)) = is_async
is_async_type m = false

-- whether a handle stands anywhere in a type: to a resource, a future, a stream or an error context
abbrev pub has_handle : Mark → Bool
has_handle (of_type t) = facts.has_handle (facts.facts_of t)
has_handle (of_signature s) = false
