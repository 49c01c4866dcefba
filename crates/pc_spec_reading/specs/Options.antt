-- The options of a canonical function. Every index that is written is looked at, also one that doesn't count.
use Rattle.std.specs.Prelude.{ℕ, Bool, true, false, List, [], ◌∷◌, length, Option, Some, None, slice_get, nat_lt}
use Rattle.std.specs.Prelude.{option_and_then, unwrap_or, if◌then◌else◌}
use Rattle.std.specs.List.{list_all, list_any}
use Rattle.std.specs.Option.{option_or}
use Rattle.pc_types.specs.declared.encoding.StringEncoding.{StringEncoding}
use Rattle.pc_types.specs.declared.encoding.StringEncoding.TheVariants as encoding
use Rattle.pc_types.specs.declared.parsed.CoreFuncSig.{CoreFuncSig}
use Rattle.pc_spec_plan.specs.CoreValue.{CoreValue, Options, DataModel, MaybeValue, options, gc, linear, no_value}
use Rattle.pc_spec_plan.specs.CoreValue.{a_value}
use Rattle.pc_parsed.specs.declared.canon.CanonOption.{CanonOption}
use Rattle.pc_parsed.specs.declared.canon.CanonOption.TheVariants as option
use Rattle.pc_parsed.specs.Mark.{Mark, of_signature}
use Rattle.pc_spec_reading.specs.Scope.{Scope}

-- whether the index of an option is sound; that of a core type isn't looked at
abbrev pub is_sound_option : Scope → CanonOption → Bool
is_sound_option s (option.Memory n) = nat_lt n (length s.memories)
is_sound_option s (option.Realloc n) = nat_lt n (length s.core_funcs)
is_sound_option s (option.PostReturn n) = nat_lt n (length s.core_funcs)
is_sound_option s (option.Callback n) = nat_lt n (length s.core_funcs)
is_sound_option s _ = true

-- the encoding that an option says
abbrev pub encoding_in : CanonOption → Option StringEncoding
encoding_in option.Utf8 = Some encoding.Utf8
encoding_in option.Utf16 = Some encoding.Utf16
encoding_in option.CompactUtf16 = Some encoding.CompactUtf16
encoding_in _ = None

-- the memory that an option names
abbrev pub memory_in : CanonOption → Option ℕ
memory_in (option.Memory n) = Some n
memory_in _ = None

-- the realloc that an option names
abbrev pub realloc_in : CanonOption → Option ℕ
realloc_in (option.Realloc n) = Some n
realloc_in _ = None

-- the post-return function that an option names
abbrev pub post_return_in : CanonOption → Option ℕ
post_return_in (option.PostReturn n) = Some n
post_return_in _ = None

-- the callback that an option names
abbrev pub callback_in : CanonOption → Option ℕ
callback_in (option.Callback n) = Some n
callback_in _ = None

-- whether an option says that the function is async
abbrev pub is_async : CanonOption → Bool
is_async option.Async = true
is_async _ = false

-- whether an option says that values lie in the managed heap
abbrev pub is_gc : CanonOption → Bool
is_gc option.Gc = true
is_gc _ = false

-- what the last option that says it says
abbrev pub last_of : {A : Type 0} → (CanonOption → Option A) → List CanonOption → Option A
last_of says [] = None
last_of says (o ∷ os) = option_or (last_of says os) (says o)

-- a value that may be left out
abbrev pub maybe : Option (CoreValue Mark) → MaybeValue Mark
maybe None = no_value
maybe (Some v) = a_value v

-- the value of a list at a number that may be left out
abbrev pub chosen : List (CoreValue Mark) → Option ℕ → MaybeValue Mark
chosen values n = maybe (option_and_then (slice_get values) n)

-- where values lie: in the managed heap, whose functions need no memory, or in a linear memory
abbrev pub model_of : Scope → List CanonOption → DataModel Mark
model_of s os =
    if list_any is_gc os
    then gc
    else linear (chosen s.memories (last_of memory_in os)) (chosen s.core_funcs (last_of realloc_in os))

-- the options of an item under its core signature
unfoldable pub the_options : Scope → CoreFuncSig → List CanonOption → Options Mark
the_options s signature os =
    options s.component_instance (unwrap_or (last_of encoding_in os) encoding.Utf8) (list_any is_async os)
    (of_signature signature) (chosen s.core_funcs (last_of callback_in os))
    (chosen s.core_funcs (last_of post_return_in os)) (model_of s os)

-- the same, or nothing where an index is unsound
unfoldable pub options_of : Scope → CoreFuncSig → List CanonOption → Option (Options Mark)
options_of s signature os = if list_all (is_sound_option s) os then Some (the_options s signature os) else None

-- the options of a function that says nothing of them but its memory
unfoldable pub memory_options : Scope → CoreFuncSig → CoreValue Mark → Options Mark
memory_options s signature memory =
    options s.component_instance encoding.Utf8 false (of_signature signature) no_value no_value
    (linear (a_value memory) no_value)
