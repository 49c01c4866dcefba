-- Which parts a trampoline of each kind has.
use Rattle.std.specs.Prelude.{◌≡◌, List, [], ◌∷◌, map}
use Rattle.pc_types.specs.declared.trampoline.TrampolineKind.{TrampolineKind}
use Rattle.pc_types.specs.declared.trampoline.TrampolineKind.TheVariants as kind
use Rattle.pc_types.specs.declared.types.InterfaceType.TheVariants as interface
use Rattle.pc_types.specs.declared.types.TypeDef.{TypeDef}
use Rattle.pc_types.specs.declared.types.TypeDef.TheVariants as def
use Rattle.pc_trampoline.specs.declared.part.Head.{Head}
use Rattle.pc_trampoline.specs.declared.part.Head.TheVariants as head
use Rattle.pc_trampoline.specs.declared.part.Part.{Part}
use Rattle.pc_trampoline.specs.declared.part.Part.TheVariants as part
use Rattle.pc_trampoline.specs.declared.part.PartList.{PartList}
use Rattle.pc_trampoline.specs.declared.part.Parts.{Parts}
use Rattle.pc_trampoline.specs.Parts.{list_of}

-- what stands before the parts
pub data HeadShape : Type 0 where
  lowering : HeadShape
  builtin : HeadShape
  helper : HeadShape
  transcoding : HeadShape
  trapping : HeadShape

-- what a part is
pub data PartShape : Type 0 where
  tuple : PartShape
  resource : PartShape
  stream : PartShape
  future : PartShape
  error_context : PartShape
  another_type : PartShape
  number : PartShape
  flag : PartShape
  memory : PartShape
  maybe_memory : PartShape
  table : PartShape
  callback : PartShape
  post_return : PartShape
  options : PartShape

-- a head and parts
pub record Shape : Type 0 where
  pub head : HeadShape
  pub parts : List PartShape

-- this head with these parts
abbrev pub shape : HeadShape → List PartShape → Shape
shape h ps = record { head = h; parts = ps }

-- the shape that a kind has
unfoldable pub shape_of : TrampolineKind → Shape
shape_of kind.LowerImport = shape lowering []
shape_of kind.ResourceNew = shape builtin (resource ∷ [])
shape_of kind.ResourceRep = shape builtin (resource ∷ [])
shape_of kind.ResourceDrop = shape builtin (resource ∷ [])
shape_of kind.BackpressureInc = shape builtin []
shape_of kind.BackpressureDec = shape builtin []
shape_of kind.TaskReturn = shape builtin (tuple ∷ options ∷ [])
shape_of kind.TaskCancel = shape builtin []
shape_of kind.WaitableSetNew = shape builtin []
shape_of kind.WaitableSetWait = shape builtin (options ∷ [])
shape_of kind.WaitableSetPoll = shape builtin (options ∷ [])
shape_of kind.WaitableSetDrop = shape builtin []
shape_of kind.WaitableJoin = shape builtin []
shape_of kind.SubtaskDrop = shape builtin []
shape_of kind.SubtaskCancel = shape builtin (flag ∷ [])
shape_of kind.StreamNew = shape builtin (stream ∷ [])
shape_of kind.StreamRead = shape builtin (stream ∷ options ∷ [])
shape_of kind.StreamWrite = shape builtin (stream ∷ options ∷ [])
shape_of kind.StreamCancelRead = shape builtin (stream ∷ flag ∷ [])
shape_of kind.StreamCancelWrite = shape builtin (stream ∷ flag ∷ [])
shape_of kind.StreamDropReadable = shape builtin (stream ∷ [])
shape_of kind.StreamDropWritable = shape builtin (stream ∷ [])
shape_of kind.FutureNew = shape builtin (future ∷ [])
shape_of kind.FutureRead = shape builtin (future ∷ options ∷ [])
shape_of kind.FutureWrite = shape builtin (future ∷ options ∷ [])
shape_of kind.FutureCancelRead = shape builtin (future ∷ flag ∷ [])
shape_of kind.FutureCancelWrite = shape builtin (future ∷ flag ∷ [])
shape_of kind.FutureDropReadable = shape builtin (future ∷ [])
shape_of kind.FutureDropWritable = shape builtin (future ∷ [])
shape_of kind.ErrorContextNew = shape builtin (error_context ∷ options ∷ [])
shape_of kind.ErrorContextDebugMessage = shape builtin (error_context ∷ options ∷ [])
shape_of kind.ErrorContextDrop = shape builtin (error_context ∷ [])
shape_of kind.ThreadIndex = shape builtin []
shape_of kind.ThreadNewIndirect = shape builtin (number ∷ table ∷ [])
shape_of kind.ThreadResumeLater = shape builtin []
shape_of kind.ThreadSuspend = shape builtin []
shape_of kind.ThreadYield = shape builtin []
shape_of kind.ThreadSuspendThenResume = shape builtin []
shape_of kind.ThreadYieldThenResume = shape builtin []
shape_of kind.ThreadSuspendThenPromote = shape builtin []
shape_of kind.ThreadYieldThenPromote = shape builtin []
shape_of kind.Transcoder = shape transcoding (memory ∷ memory ∷ [])
shape_of kind.ResourceTransferOwn = shape helper []
shape_of kind.ResourceTransferBorrow = shape helper []
shape_of kind.PrepareCall = shape helper (maybe_memory ∷ [])
shape_of kind.StartCall = shape helper (callback ∷ post_return ∷ [])
shape_of kind.FutureTransfer = shape helper []
shape_of kind.StreamTransfer = shape helper []
shape_of kind.ErrorContextTransfer = shape helper []
shape_of kind.Trap = shape trapping []
shape_of kind.EnterSyncCall = shape helper []
shape_of kind.ExitSyncCall = shape helper []

-- a kind has this head with these parts
abbrev pub HasShape : TrampolineKind → HeadShape → List PartShape → Type 0
HasShape k h ps = shape h ps ≡ shape_of k

-- what a type is as a part
abbrev pub type_shape : TypeDef → PartShape
type_shape (def.Interface (interface.Tuple n)) = tuple
type_shape (def.Interface (interface.Stream n)) = stream
type_shape (def.Interface (interface.Future n)) = future
type_shape (def.Interface (interface.ErrorContext n)) = error_context
type_shape (def.Resource n) = resource
type_shape ty = another_type

-- what stands before the parts
abbrev pub head_shape : {L O : Type 0} → Head L O → HeadShape
head_shape (head.Lowering index ty o) = lowering
head_shape (head.Builtin c) = builtin
head_shape head.Helper = helper
head_shape (head.Transcoding op from64 to64) = transcoding
head_shape (head.Trapping code) = trapping

-- what a part is
abbrev pub part_shape : {O M T C P : Type 0} → Part O M T C P → PartShape
part_shape (part.Type_ ty) = type_shape ty
part_shape (part.Number n) = number
part_shape (part.Flag b) = flag
part_shape (part.Memory m) = memory
part_shape (part.MaybeMemory m) = maybe_memory
part_shape (part.Table t) = table
part_shape (part.Callback c) = callback
part_shape (part.PostReturn p) = post_return
part_shape (part.Options o) = options

module _ {L O M T C P : Type 0} where
  -- the shape of a head and parts
  abbrev pub made_shape : Head L O → PartList (Part O M T C P) → Shape
  made_shape h ps = shape (head_shape h) (map part_shape (list_of ps))

  -- the shape of what a trampoline is made of
  abbrev pub shape_of_parts : Parts L O M T C P → Shape
  shape_of_parts p = made_shape p.head p.parts

  -- the parts are those of their kind
  abbrev pub IsShaped : Parts L O M T C P → Type 0
  IsShaped p = shape_of_parts p ≡ shape_of p.kind
