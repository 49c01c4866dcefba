-- What a builtin names, against the items of the reading.
use Rattle.std.specs.Prelude.{ℕ, List, [], ◌∷◌, Option, None, Some}
use Rattle.std.specs.List.{cons_option}
use Rattle.pc_trampoline.specs.Shape as shape
use Rattle.pc_trampoline.specs.Shape.{HasShape, PartShape}
use Rattle.pc_spec_reading.specs.Item
use Rattle.pc_inline_builtins.specs.declared.builtin.Builtin.{Builtin}
use Rattle.pc_inline_builtins.specs.declared.builtin.First.{First}
use Rattle.pc_inline_builtins.specs.declared.builtin.First.TheVariants as first
use Rattle.pc_inline_builtins.specs.declared.builtin.Handle.{Handle}
use Rattle.pc_inline_builtins.specs.declared.builtin.Handle.TheVariants as handle
use Rattle.pc_inline_builtins.specs.declared.builtin.Second.{Second}
use Rattle.pc_inline_builtins.specs.declared.builtin.Second.TheVariants as second

-- what a type is as a part
abbrev pub handle_shape : Handle → PartShape
handle_shape handle.Resource = shape.resource
handle_shape handle.Stream = shape.stream
handle_shape handle.Future = shape.future

-- what stands first is as a part
abbrev pub first_shape : First → Option PartShape
first_shape first.Nothing = None
first_shape (first.Handle h n) = Some (handle_shape h)
first_shape (first.Results result) = Some shape.tuple
first_shape first.ErrorContexts = Some shape.error_context
first_shape (first.Number n) = Some shape.number

-- what stands behind it
abbrev pub second_shape : Second → Option PartShape
second_shape second.Nothing = None
second_shape (second.Flag b) = Some shape.flag
second_shape (second.Options opts) = Some shape.options
second_shape (second.Memory n) = Some shape.options
second_shape (second.Table n) = Some shape.table

-- none, one or two in order
abbrev pub both_of : {A : Type 0} → Option A → Option A → List A
both_of x y = cons_option x (cons_option y [])

-- a builtin has what its kind has
unfoldable pub HasItsShape : Builtin → Type 0
HasItsShape b = HasShape b.kind shape.builtin (both_of (first_shape b.first) (second_shape b.second))

-- an operand that is a type
abbrev pub handle_operand : Handle → ℕ → Item.Operand
handle_operand handle.Resource n = Item.a_resource n
handle_operand handle.Stream n = Item.a_stream n
handle_operand handle.Future n = Item.a_future n

-- the item that a builtin is which has an item among these: builtins, waits, polls, and those on error contexts
abbrev pub item_of : Builtin → Option Item.Item
item_of b = by b.first b.second
  where
    by : First → Second → Option Item.Item
    by first.Nothing second.Nothing = Some (Item.builtin_item b.kind b.core [])
    by first.Nothing (second.Flag is_async) = Some (Item.builtin_item b.kind b.core (Item.a_flag is_async ∷ []))
    by first.Nothing (second.Memory n) = Some (Item.waitable_item b.kind b.core n)
    by (first.Handle h n) second.Nothing = Some (Item.builtin_item b.kind b.core (handle_operand h n ∷ []))
    by (first.Handle h n) (second.Flag is_async) =
        Some (Item.builtin_item b.kind b.core (handle_operand h n ∷ Item.a_flag is_async ∷ []))
    by (first.Handle h n) (second.Options opts) =
        Some (Item.builtin_item b.kind b.core (handle_operand h n ∷ Item.the_options opts.now ∷ []))
    by first.ErrorContexts second.Nothing = Some (Item.error_context_item b.kind b.core None)
    by first.ErrorContexts (second.Options opts) = Some (Item.error_context_item b.kind b.core (Some opts.now))
    by f s = None

-- an item, if it is one of these
abbrev pub if_builtin : Option Item.Item → Option Item.Item
if_builtin (Some (Item.builtin_item k s operands)) = Some (Item.builtin_item k s operands)
if_builtin (Some (Item.waitable_item k s memory)) = Some (Item.waitable_item k s memory)
if_builtin (Some (Item.error_context_item k s opts)) = Some (Item.error_context_item k s opts)
if_builtin _ = None
