-- What a log asks of a plan beside its steps: the host items that it needs, what is declared, and core signatures.
use Rattle.std.specs.Prelude.{ℕ, Bool, true, false, List, [], Option, Some, None}
use Rattle.std.specs.List.{filter_map}
use Rattle.pc_types.specs.declared.parsed.CoreFuncSig.{CoreFuncSig}
use Rattle.pc_types.specs.TypeTree.{Path}
use Rattle.pc_spec_plan.specs.CoreValue.{CoreValue, and_part, builtin, lowered, mark_part, options}
use Rattle.pc_spec_plan.specs.Log.{Entry, declared, made, needed}
use Rattle.pc_parsed.specs.Mark.{Mark, of_signature}
use Rattle.pc_spec_reading.specs.Once.{each_once, with_once}
use Rattle.pc_spec_reading.specs.SameTypes.{same_path}

-- the path of an import itself
abbrev pub import_path : ℕ → Path
import_path i = record { import = i; names = [] }

-- the path that an entry needs, if it needs one
abbrev pub needed_path : {τ : Type 0} → Entry τ → Option Path
needed_path (needed p) = Some p
needed_path _ = None

-- paths with one more, unless it is one of them
abbrev pub with_path : List Path → Path → List Path
with_path = with_once same_path

-- the paths that a log needs, in order, each once
unfoldable pub paths_needed : {τ : Type 0} → List (Entry τ) → List Path
paths_needed log = each_once same_path (filter_map needed_path log)

-- whether an entry says that a host function was lowered, or that a builtin was added
abbrev pub is_declared : {τ : Type 0} → Entry τ → Bool
is_declared (declared v) = true
is_declared _ = false

-- whether an entry says that an adapter was made
abbrev pub is_made : Entry Mark → Bool
is_made (made v) = true
is_made _ = false

-- the core signature of what is declared: that of a lowering's options, or the first part of a builtin
abbrev pub signature_of : CoreValue Mark → Option CoreFuncSig
signature_of (lowered p ty (options c encoding is_async (of_signature s) callback post_return model)) = Some s
signature_of (builtin k c (and_part (mark_part (of_signature s)) parts)) = Some s
signature_of _ = None
