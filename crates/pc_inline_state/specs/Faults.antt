-- Why an item isn't read, as the reading and as the code say it.
use Rattle.pc_types.specs.declared.error.Error.{Error}
use Rattle.pc_types.specs.declared.error.Error.TheVariants as error
use Rattle.pc_types.specs.declared.error.Place.{Place}
use Rattle.pc_types.specs.declared.error.TypeError.{TypeError}
use Rattle.pc_types.specs.declared.error.TypeError.TheVariants as type_error
use Rattle.pc_dfg.specs.declared.push_error.PushError.{PushError}
use Rattle.pc_dfg.specs.declared.push_error.PushError.TheVariants as push_error
use Rattle.pc_spec_reading.specs.Outcome.{Fault, invalid, bad_type, unknown_intrinsic, unsupported}
use Rattle.pc_inline_state.specs.declared.error.ItemError.{ItemError}
use Rattle.pc_inline_state.specs.declared.error.ItemError.TheVariants as item_error
use Rattle.pc_inline_state.specs.declared.error.ItemFault.{ItemFault}
use Rattle.pc_inline_state.specs.declared.error.ItemFault.TheVariants as item_fault

-- why an entry has no number in the graph
abbrev pub of_push_error : PushError → ItemError
of_push_error push_error.TooMany = item_error.TooMany
of_push_error push_error.NoMemory = item_error.NoMemory

-- why a type has no number in the builder
abbrev pub of_type_error : TypeError → ItemError
of_type_error type_error.BadNumber = item_error.Fault item_fault.BadType
of_type_error type_error.TooMany = item_error.TooMany
of_type_error type_error.NoMemory = item_error.NoMemory

-- the fault of the reading that the code says
abbrev pub fault_of : ItemFault → Fault
fault_of item_fault.Invalid = invalid
fault_of item_fault.BadType = bad_type
fault_of (item_fault.Unsupported u) = unsupported u
fault_of item_fault.UnknownIntrinsic = unknown_intrinsic

-- the error that is answered at a place
abbrev pub error_of : ItemError → Place → Error
error_of (item_error.Fault item_fault.Invalid) p = error.Invalid p
error_of (item_error.Fault item_fault.BadType) p = error.BadType p
error_of (item_error.Fault (item_fault.Unsupported u)) p = error.Unsupported u p
error_of (item_error.Fault item_fault.UnknownIntrinsic) p = error.UnknownIntrinsic p
error_of item_error.TooMany p = error.TooMany
error_of item_error.NoMemory p = error.NoMemory
