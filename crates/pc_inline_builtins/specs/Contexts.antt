-- Context slots, against the items of the reading.
use Rattle.pc_spec_reading.specs.Item.{Access, Item, context_item, getting, setting}
use Rattle.pc_inline_builtins.specs.declared.context.Access.{Access as AccessOf}
use Rattle.pc_inline_builtins.specs.declared.context.Access.TheVariants as access
use Rattle.pc_inline_builtins.specs.declared.context.Slot.{Slot}

-- a read or a write
abbrev pub access_of : AccessOf → Access
access_of access.Get = getting
access_of access.Set = setting

-- the item that reads or writes a slot
abbrev pub slot_item : Slot → Item
slot_item s = context_item (access_of s.access) s.core s.slot
