-- What a head and parts hold, asked for by what it is.
use Rattle.std.specs.Prelude.{ℕ, Bool, Option, Some, None}
use Rattle.pc_numbers.specs.declared.runtime.RuntimeComponentInstanceIndex.{RuntimeComponentInstanceIndex}
use Rattle.pc_types.specs.declared.type_index.TypeComponentLocalErrorContextTableIndex.{TypeComponentLocalErrorContextTableIndex}
use Rattle.pc_types.specs.declared.type_index.TypeFuncIndex.{TypeFuncIndex}
use Rattle.pc_types.specs.declared.type_index.TypeFutureTableIndex.{TypeFutureTableIndex}
use Rattle.pc_types.specs.declared.type_index.TypeResourceTableIndex.{TypeResourceTableIndex}
use Rattle.pc_types.specs.declared.type_index.TypeStreamTableIndex.{TypeStreamTableIndex}
use Rattle.pc_types.specs.declared.type_index.TypeTupleIndex.{TypeTupleIndex}
use Rattle.pc_types.specs.declared.types.InterfaceType.TheVariants as interface
use Rattle.pc_types.specs.declared.types.TypeDef.TheVariants as def
use Rattle.pc_trampoline.specs.declared.part.Head.{Head}
use Rattle.pc_trampoline.specs.declared.part.Head.TheVariants as head
use Rattle.pc_trampoline.specs.declared.part.Part.{Part}
use Rattle.pc_trampoline.specs.declared.part.Part.TheVariants as part
use Rattle.pc_trampoline.specs.declared.part.PartList.{PartList}
use Rattle.pc_trampoline.specs.declared.part.PartList.TheVariants as list
use Rattle.pc_trampoline.specs.declared.transcode.Transcode.{Transcode}
use Rattle.pc_trampoline.specs.declared.transcode.Trap.{Trap}

-- a value of two others, if both are there
abbrev pub with_two : {A B R : Type 0} → (A → B → R) → Option A → Option B → Option R
with_two f (Some a) (Some b) = Some (f a b)
with_two f a b = None

-- a value of three others, if all are there
abbrev pub with_three : {A B C R : Type 0} → (A → B → C → R) → Option A → Option B → Option C → Option R
with_three f (Some a) b c = with_two (f a) b c
with_three f None b c = None

module _ {A B : Type 0} (f : A → Option B) where
  -- what is read of the first part
  abbrev pub first_as : PartList A → Option B
  first_as list.Empty = None
  first_as (list.One x) = f x
  first_as (list.Two x y) = f x

  -- what is read of the second part
  abbrev pub second_as : PartList A → Option B
  second_as (list.Two x y) = f y
  second_as ps = None

module _ {L O : Type 0} where
  -- the component instance of a builtin
  abbrev pub instance_in : Head L O → Option RuntimeComponentInstanceIndex
  instance_in (head.Builtin c) = Some c
  instance_in h = None

  -- what is lowered
  abbrev pub lowering_in : Head L O → Option (L × TypeFuncIndex × O)
  lowering_in (head.Lowering index ty options) = Some (index, ty, options)
  lowering_in h = None

  -- what a transcoder does
  abbrev pub transcoding_in : Head L O → Option (Transcode × Bool × Bool)
  transcoding_in (head.Transcoding op from64 to64) = Some (op, from64, to64)
  transcoding_in h = None

  -- the code of a trap
  abbrev pub trap_in : Head L O → Option Trap
  trap_in (head.Trapping code) = Some code
  trap_in h = None

module _ {O M T C P : Type 0} where
  -- a tuple type
  abbrev pub tuple_in : Part O M T C P → Option TypeTupleIndex
  tuple_in (part.Type_ (def.Interface (interface.Tuple x))) = Some x
  tuple_in p = None

  -- a resource
  abbrev pub resource_in : Part O M T C P → Option TypeResourceTableIndex
  resource_in (part.Type_ (def.Resource x)) = Some x
  resource_in p = None

  -- a stream type
  abbrev pub stream_in : Part O M T C P → Option TypeStreamTableIndex
  stream_in (part.Type_ (def.Interface (interface.Stream x))) = Some x
  stream_in p = None

  -- a future type
  abbrev pub future_in : Part O M T C P → Option TypeFutureTableIndex
  future_in (part.Type_ (def.Interface (interface.Future x))) = Some x
  future_in p = None

  -- error contexts
  abbrev pub error_context_in : Part O M T C P → Option TypeComponentLocalErrorContextTableIndex
  error_context_in (part.Type_ (def.Interface (interface.ErrorContext x))) = Some x
  error_context_in p = None

  -- a number
  abbrev pub number_in : Part O M T C P → Option ℕ
  number_in (part.Number x) = Some x
  number_in p = None

  -- a flag
  abbrev pub flag_in : Part O M T C P → Option Bool
  flag_in (part.Flag x) = Some x
  flag_in p = None

  -- a memory
  abbrev pub memory_in : Part O M T C P → Option M
  memory_in (part.Memory x) = Some x
  memory_in p = None

  -- a memory, if there is one
  abbrev pub maybe_memory_in : Part O M T C P → Option (Option M)
  maybe_memory_in (part.MaybeMemory x) = Some x
  maybe_memory_in p = None

  -- a table
  abbrev pub table_in : Part O M T C P → Option T
  table_in (part.Table x) = Some x
  table_in p = None

  -- a callback, if there is one
  abbrev pub callback_in : Part O M T C P → Option (Option C)
  callback_in (part.Callback x) = Some x
  callback_in p = None

  -- a post-return function, if there is one
  abbrev pub post_return_in : Part O M T C P → Option (Option P)
  post_return_in (part.PostReturn x) = Some x
  post_return_in p = None

  -- options
  abbrev pub options_in : Part O M T C P → Option O
  options_in (part.Options x) = Some x
  options_in p = None
