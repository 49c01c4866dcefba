-- Canonical functions: an array that begins with a name. `s` is the core signature that follows it.
use Rattle.std.specs.Prelude.{ℕ, Bool, List, [], ◌∷◌, Option, Some, None, codes, is_some}
use Rattle.std.specs.Prelude.{if◌then◌else◌}
use Rattle.std.specs.Str.{bytes_eq}
use Rattle.serde_json.specs.Data.{Data}
use Rattle.serde_json.specs.Find.{as_str, as_bool, as_number}
use Rattle.pc_entity.specs.Lists.{value_of}
use Rattle.pc_types.specs.declared.parsed.WasmValType.{WasmValType}
use Rattle.pc_parsed.specs.declared.canon.CanonItem.{CanonItem}
use Rattle.pc_parsed.specs.declared.canon.CanonItem.TheVariants as canon
use Rattle.pc_parsed.specs.declared.canon.CanonOption.{CanonOption}
use Rattle.pc_parsed.specs.declared.canon.CanonOption.TheVariants as option
use Rattle.pc_input_values.specs.Tree.{◌>>=◌, whole, word, or_null, each, headed, numbered}
use Rattle.pc_input_values.specs.Words.{core_types}
use Rattle.pc_input_values.specs.Types.{val_type}

-- options that are words
unfoldable pub option_words : List (List ℕ × CanonOption)
option_words =
    (codes "utf8", option.Utf8)
    ∷ (codes "utf16", option.Utf16)
    ∷ (codes "compact-utf16", option.CompactUtf16)
    ∷ (codes "async", option.Async)
    ∷ (codes "gc", option.Gc)
    ∷ []

-- options of a number
unfoldable pub option_kinds : List (List ℕ × (ℕ → CanonOption))
option_kinds =
    (codes "memory", option.Memory)
    ∷ (codes "realloc", option.Realloc)
    ∷ (codes "post-return", option.PostReturn)
    ∷ (codes "callback", option.Callback)
    ∷ (codes "core-type", option.CoreType)
    ∷ []

-- an option of what follows its name
abbrev pub option_from : List ℕ → List Data → Option CanonOption
option_from w (n ∷ []) = numbered option_kinds w n
option_from w _ = None

-- an option: a word, or an array of a name and a number
unfoldable pub canon_option : Data → Option CanonOption
canon_option d = if is_some (as_str d) then word option_words d else (headed d >>= λ t. option_from t.0 t.1)

-- an array of options
abbrev pub options : Data → Option (List CanonOption)
options = each canon_option

-- what the row of a name makes of a part that f reads
abbrev pub by_part : {A : Type 0} → (A → List (List ℕ × CanonItem)) → List ℕ → (Data → Option A)
    → Data → Option CanonItem
by_part rows w f d = f d >>= λ x. value_of w (rows x)

-- nothing follows
unfoldable pub of_nothing : List (List ℕ × CanonItem)
of_nothing =
    (codes "thread.spawn-ref", canon.ThreadSpawnRef)
    ∷ (codes "thread.spawn-indirect", canon.ThreadSpawnIndirect)
    ∷ (codes "thread.available-parallelism", canon.ThreadAvailableParallelism)
    ∷ (codes "stream.forward", canon.StreamForward)
    ∷ (codes "future.forward", canon.FutureForward)
    ∷ []

-- the signature alone, of threads
unfoldable pub thread_of_signature : ℕ → List (List ℕ × CanonItem)
thread_of_signature s =
    (codes "thread.index", canon.ThreadIndex s)
    ∷ (codes "thread.resume-later", canon.ThreadResumeLater s)
    ∷ (codes "thread.suspend", canon.ThreadSuspend s)
    ∷ (codes "thread.yield", canon.ThreadYield s)
    ∷ (codes "thread.suspend-then-resume", canon.ThreadSuspendThenResume s)
    ∷ (codes "thread.yield-then-resume", canon.ThreadYieldThenResume s)
    ∷ (codes "thread.suspend-then-promote", canon.ThreadSuspendThenPromote s)
    ∷ (codes "thread.yield-then-promote", canon.ThreadYieldThenPromote s)
    ∷ []

-- the signature alone
unfoldable pub of_signature : ℕ → List (List ℕ × CanonItem)
of_signature s =
    (codes "backpressure.inc", canon.BackpressureInc s)
    ∷ (codes "backpressure.dec", canon.BackpressureDec s)
    ∷ (codes "task.cancel", canon.TaskCancel s)
    ∷ (codes "waitable-set.new", canon.WaitableSetNew s)
    ∷ (codes "waitable-set.drop", canon.WaitableSetDrop s)
    ∷ (codes "waitable.join", canon.WaitableJoin s)
    ∷ (codes "subtask.drop", canon.SubtaskDrop s)
    ∷ (codes "error-context.drop", canon.ErrorContextDrop s)
    ∷ thread_of_signature s

-- the signature, and a number: a resource, a memory, a stream or future type
unfoldable pub of_index : ℕ → ℕ → List (List ℕ × CanonItem)
of_index s n =
    (codes "resource.new", canon.ResourceNew s n)
    ∷ (codes "resource.rep", canon.ResourceRep s n)
    ∷ (codes "resource.drop", canon.ResourceDrop s n)
    ∷ (codes "waitable-set.wait", canon.WaitableSetWait s n)
    ∷ (codes "waitable-set.poll", canon.WaitableSetPoll s n)
    ∷ (codes "stream.new", canon.StreamNew s n)
    ∷ (codes "stream.drop-readable", canon.StreamDropReadable s n)
    ∷ (codes "stream.drop-writable", canon.StreamDropWritable s n)
    ∷ (codes "future.new", canon.FutureNew s n)
    ∷ (codes "future.drop-readable", canon.FutureDropReadable s n)
    ∷ (codes "future.drop-writable", canon.FutureDropWritable s n)
    ∷ []

-- the signature, and whether the call is asynchronous
unfoldable pub of_flag : ℕ → Bool → List (List ℕ × CanonItem)
of_flag s async = (codes "subtask.cancel", canon.SubtaskCancel s async) ∷ []

-- the signature, and options
unfoldable pub of_options : ℕ → List CanonOption → List (List ℕ × CanonItem)
of_options s os =
    (codes "error-context.new", canon.ErrorContextNew s os)
    ∷ (codes "error-context.debug-message", canon.ErrorContextDebugMessage s os)
    ∷ []

-- the signature and one part, whose shape tells the tables apart
unfoldable pub of_one : ℕ → List ℕ → Data → Option CanonItem
of_one s w a =
    if is_some (as_bool a) then by_part (of_flag s) w as_bool a
    else (if is_some (as_number a) then by_part (of_index s) w whole a
    else by_part (of_options s) w options a)

-- the signature, a stream or future type, and whether the call is asynchronous
unfoldable pub of_cancel : ℕ → ℕ → Bool → List (List ℕ × CanonItem)
of_cancel s ty async =
    (codes "stream.cancel-read", canon.StreamCancelRead s ty async)
    ∷ (codes "stream.cancel-write", canon.StreamCancelWrite s ty async)
    ∷ (codes "future.cancel-read", canon.FutureCancelRead s ty async)
    ∷ (codes "future.cancel-write", canon.FutureCancelWrite s ty async)
    ∷ []

-- the signature, a stream or future type, and options
unfoldable pub of_copy : ℕ → ℕ → List CanonOption → List (List ℕ × CanonItem)
of_copy s ty os =
    (codes "stream.read", canon.StreamRead s ty os)
    ∷ (codes "stream.write", canon.StreamWrite s ty os)
    ∷ (codes "future.read", canon.FutureRead s ty os)
    ∷ (codes "future.write", canon.FutureWrite s ty os)
    ∷ []

-- the signature, the type of a slot, and the slot
unfoldable pub of_slot : ℕ → WasmValType → ℕ → List (List ℕ × CanonItem)
of_slot s ty slot =
    (codes "context.get", canon.ContextGet s ty slot) ∷ (codes "context.set", canon.ContextSet s ty slot) ∷ []

-- the signature, a start type, and a table
unfoldable pub of_start : ℕ → ℕ → ℕ → List (List ℕ × CanonItem)
of_start s ty table = (codes "thread.new-indirect", canon.ThreadNewIndirect s ty table) ∷ []

-- the signature and two parts, of which the second is a number
unfoldable pub of_two_numbered : ℕ → List ℕ → Data → Data → Option CanonItem
of_two_numbered s w a b =
    if is_some (as_number a) then (whole a >>= λ ty. by_part (of_start s ty) w whole b)
    else (word core_types a >>= λ ty. by_part (of_slot s ty) w whole b)

-- a task's result, which may be left out, and options
abbrev pub task_return : ℕ → Data → Data → Option CanonItem
task_return s a b = do
  x ← or_null val_type a
  os ← options b
  Some (canon.TaskReturn s x os)

-- the signature and two parts, of which the second has options
unfoldable pub of_two_with_options : ℕ → List ℕ → Data → Data → Option CanonItem
of_two_with_options s w a b =
    if bytes_eq w (codes "task.return") then task_return s a b
    else (whole a >>= λ ty. by_part (of_copy s ty) w options b)

-- the signature and two parts, of which the shape of the second tells the tables apart
unfoldable pub of_two : ℕ → List ℕ → Data → Data → Option CanonItem
of_two s w a b =
    if is_some (as_bool b) then (whole a >>= λ ty. by_part (of_cancel s ty) w as_bool b)
    else (if is_some (as_number b) then of_two_numbered s w a b else of_two_with_options s w a b)

-- function, function type, signature, options
unfoldable pub of_function : ℕ → ℕ → ℕ → List CanonOption → List (List ℕ × CanonItem)
of_function f ty s os = (codes "lift", canon.Lift f ty s os) ∷ (codes "lower", canon.Lower f ty s os) ∷ []

-- `lift` or `lower`, by its four parts
unfoldable pub of_four : List ℕ → Data → Data → Data → Data → Option CanonItem
of_four w func ty core opts = do
  f ← whole func
  t ← whole ty
  s ← whole core
  os ← options opts
  value_of w (of_function f t s os)

-- the signature, and what follows it
abbrev pub of_rest : ℕ → List ℕ → List Data → Option CanonItem
of_rest s w [] = value_of w (of_signature s)
of_rest s w (a ∷ []) = of_one s w a
of_rest s w (a ∷ b ∷ []) = of_two s w a b
of_rest s w _ = None

-- the signature, yet to be read, and what follows it
abbrev pub with_signature : List ℕ → Data → List Data → Option CanonItem
with_signature w core rest = whole core >>= λ s. of_rest s w rest

-- a canonical function, by its name and what follows it
unfoldable pub canon_from : List ℕ → List Data → Option CanonItem
canon_from w [] = value_of w of_nothing
canon_from w (func ∷ ty ∷ core ∷ opts ∷ []) = of_four w func ty core opts
canon_from w (core ∷ rest) = with_signature w core rest

-- a canonical function: an array that begins with its name
unfoldable pub canon_item : Data → Option CanonItem
canon_item d = headed d >>= λ t. canon_from t.0 t.1
