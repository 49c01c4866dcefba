-- What a module imports for one of its adapters, in order.
use Rattle.std.specs.Prelude.{ℕ, Bool, true, false, ◌&&◌, ◌||◌, List, [], ◌∷◌, ◌++◌, map, if◌then◌else◌}
use Rattle.pc_types.specs.declared.encoding.StringEncoding.{StringEncoding}
use Rattle.pc_types.specs.declared.encoding.StringEncoding.TheVariants as encoding
use Rattle.pc_types.specs.declared.trampoline.TrampolineKind.{TrampolineKind}
use Rattle.pc_types.specs.declared.trampoline.TrampolineKind.TheVariants as kind
use Rattle.pc_types_lists.specs.declared.facts.TypeFacts.{TypeFacts}
use Rattle.pc_types_lists.specs.Facts.{join}
use Rattle.pc_spec_plan.specs.CoreValue as value
use Rattle.pc_spec_plan.specs.CoreValue.{CoreValue, DataModel, MaybeValue, Parts}
use Rattle.pc_spec_plan.specs.Machine.{with_numbers}
use Rattle.pc_trampoline.specs.declared.transcode.FixedEncoding.TheVariants as fixed
use Rattle.pc_trampoline.specs.declared.transcode.Transcode.{Transcode}
use Rattle.pc_trampoline.specs.declared.transcode.Transcode.TheVariants as op
use Rattle.pc_trampoline.specs.Transcoding.{address_bits, place_of}
use Rattle.pc_spec_adapt.specs.Asked.{FunctionFacts}
use Rattle.pc_spec_adapt.specs.Import.{Import, a_function, a_global, a_memory}

-- what brings a string from one encoding into another
abbrev pub transcodings : (from to : StringEncoding) → List Transcode
transcodings encoding.Utf8 encoding.Utf8 = op.Copy fixed.Utf8 ∷ []
transcodings encoding.Utf8 encoding.Utf16 = op.Utf8ToUtf16 ∷ []
transcodings encoding.Utf8 encoding.CompactUtf16 = op.Utf8ToLatin1 ∷ op.Utf8ToCompactUtf16 ∷ []
transcodings encoding.Utf16 encoding.Utf8 = op.Utf16ToUtf8 ∷ []
transcodings encoding.Utf16 encoding.Utf16 = op.Copy fixed.Utf16 ∷ []
transcodings encoding.Utf16 encoding.CompactUtf16 = op.Utf16ToLatin1 ∷ op.Utf16ToCompactUtf16 ∷ []
transcodings encoding.CompactUtf16 encoding.Utf8 = op.Utf16ToUtf8 ∷ op.Latin1ToUtf8 ∷ []
transcodings encoding.CompactUtf16 encoding.Utf16 = op.Copy fixed.Utf16 ∷ op.Latin1ToUtf16 ∷ []
transcodings encoding.CompactUtf16 encoding.CompactUtf16 =
    op.Utf16ToCompactProbablyUtf16 ∷ op.Copy fixed.Latin1 ∷ []

-- a transfer, where it is asked for
abbrev pub transfer_if : Bool → TrampolineKind → List TrampolineKind
transfer_if asked k = if asked then k ∷ [] else []

-- the transfers of the kinds of handle that stand in a type
abbrev pub transfers : TypeFacts → List TrampolineKind
transfers x =
    transfer_if x.own kind.ResourceTransferOwn ++ transfer_if x.borrow kind.ResourceTransferBorrow
    ++ transfer_if x.future kind.FutureTransfer ++ transfer_if x.stream kind.StreamTransfer
    ++ transfer_if x.error_context kind.ErrorContextTransfer

-- what stands in a function type
abbrev pub all_facts : FunctionFacts → TypeFacts
all_facts f = join f.params f.results

module _ {τ : Type 0} where
  -- the memory of a side in linear memory
  abbrev pub memory_in : DataModel τ → MaybeValue τ
  memory_in value.gc = value.no_value
  memory_in (value.linear memory realloc) = memory

  -- the realloc of a side in linear memory
  abbrev pub realloc_in : DataModel τ → MaybeValue τ
  realloc_in value.gc = value.no_value
  realloc_in (value.linear memory realloc) = realloc

  -- a function
  abbrev pub function : τ → CoreValue τ → Import τ
  function s v = record { value = v; imported_as = a_function s }

  -- the flags of a component instance
  abbrev pub flags_of : ℕ → Import τ
  flags_of c = record { value = value.flags c; imported_as = a_global }

  -- a function that may be left out
  abbrev pub function_if : τ → MaybeValue τ → List (Import τ)
  function_if s value.no_value = []
  function_if s (value.a_value v) = function s v ∷ []

  -- a memory that may be left out
  abbrev pub memory_if : (is_wide : Bool) → MaybeValue τ → List (Import τ)
  memory_if is_wide value.no_value = []
  memory_if is_wide (value.a_value v) = record { value = v; imported_as = a_memory is_wide } ∷ []

  -- the memory, the realloc, the callback and the post-return function of a side, those that are there
  abbrev pub side : τ → (is_wide : Bool) → DataModel τ → (callback post_return : MaybeValue τ) → List (Import τ)
  side s is_wide model callback post_return =
      memory_if is_wide (memory_in model) ++ function_if s (realloc_in model) ++ function_if s callback
      ++ function_if s post_return

  -- a trampoline that adapter modules alone use, with the numbers of its symbol and its parts
  abbrev pub helper : TrampolineKind → List ℕ → τ → Parts τ → Import τ
  helper k symbol s parts = function s (value.helper k (with_numbers symbol (value.and_part (value.mark_part s) parts)))

  -- one part
  abbrev pub one : MaybeValue τ → Parts τ
  one a = value.and_part (value.value_part a) value.no_parts

  -- two parts
  abbrev pub two : (first second : MaybeValue τ) → Parts τ
  two a b = value.and_part (value.value_part a) (one b)

  -- what brings strings from one memory into another
  abbrev pub transcoder : τ → (from_wide to_wide : Bool) → (from to : CoreValue τ) → Transcode → Import τ
  transcoder s from_wide to_wide from to how =
      helper kind.Transcoder (place_of how ∷ address_bits from_wide ∷ address_bits to_wide ∷ []) s
      (two (value.a_value from) (value.a_value to))

  -- the transcoders of one direction, where both sides have a memory
  abbrev pub transcoders : τ → List Transcode → (from_wide to_wide : Bool) → (from to : MaybeValue τ) → List (Import τ)
  transcoders s hows from_wide to_wide (value.a_value from) (value.a_value to) =
      map (transcoder s from_wide to_wide from to) hows
  transcoders s hows from_wide to_wide from to = []

  -- what begins and ends a call: an async one is prepared with the memory, and started with the callback and the
  -- post-return function, of what is called; a sync one is entered and left, unless it can't be told from a plain call
  abbrev pub calls : τ → (is_async is_transparent : Bool) → (memory callback post_return : MaybeValue τ)
      → List (Import τ)
  calls s true t memory callback post_return =
      helper kind.PrepareCall [] s (one memory) ∷ helper kind.StartCall [] s (two callback post_return) ∷ []
  calls s false true memory callback post_return = []
  calls s false false memory callback post_return =
      helper kind.EnterSyncCall [] s value.no_parts ∷ helper kind.ExitSyncCall [] s value.no_parts ∷ []

-- what a module imports for an adapter, by the facts of its two types, whether it is transparent, and whether the
-- memory of each side has 64 bits. The callee has the core signature of the lift, all other functions that of the
-- lowering
unfoldable pub planned : {τ : Type 0} → (lift lower : FunctionFacts) → (is_transparent lift_wide lower_wide : Bool)
    → CoreValue τ → List (Import τ)
planned lift lower is_transparent lift_wide lower_wide
    (value.adapter lift_type (value.options c encoding is_async s callback post_return model) lower_type
    (value.options c2 encoding2 is_async2 s2 callback2 post_return2 model2) callee) =
    (function s callee ∷ flags_of c2 ∷ flags_of c ∷ [])
    ++ side s2 lift_wide model callback post_return
    ++ side s2 lower_wide model2 callback2 post_return2
    ++ (if lift.params.string && lower.params.string
    then transcoders s2 (transcodings encoding2 encoding) lower_wide lift_wide (memory_in model2) (memory_in model)
    else [])
    ++ (if lift.results.string && lower.results.string
    then transcoders s2 (transcodings encoding encoding2) lift_wide lower_wide (memory_in model) (memory_in model2)
    else [])
    ++ map (λ k. helper k [] s2 value.no_parts) (transfers (join (all_facts lift) (all_facts lower)))
    ++ calls s2 (is_async || is_async2 || lift.is_async || lower.is_async) is_transparent (memory_in model) callback
    post_return
    ++ helper kind.Trap (1 ∷ []) s2 value.no_parts ∷ []
planned lift lower is_transparent lift_wide lower_wide v = []
