-- Whether the number in a value type is held.
use Rattle.std.specs.Prelude.{◌<◌, length, Option, None, Some}
use Rattle.pc_types.specs.declared.types.InterfaceType.{InterfaceType}
use Rattle.pc_types.specs.declared.types.InterfaceType.TheVariants as ty
use Rattle.pc_types_lists.specs.Types.{Types}

-- a value type whose number is held, if it has one
abbrev pub IsHeld : Types → InterfaceType → Type 0
IsHeld b (ty.ErrorContext i) = i.0 < length b.error_context_tables
IsHeld b (ty.Record i) = i.0 < length b.records
IsHeld b (ty.Variant i) = i.0 < length b.variants
IsHeld b (ty.List i) = i.0 < length b.lists
IsHeld b (ty.Tuple i) = i.0 < length b.tuples
IsHeld b (ty.Flags i) = i.0 < length b.flags
IsHeld b (ty.Enum i) = i.0 < length b.enums
IsHeld b (ty.Option i) = i.0 < length b.options
IsHeld b (ty.Result i) = i.0 < length b.results
IsHeld b (ty.Own i) = i.0 < length b.resource_tables
IsHeld b (ty.Borrow i) = i.0 < length b.resource_tables
IsHeld b (ty.Future i) = i.0 < length b.future_tables
IsHeld b (ty.Stream i) = i.0 < length b.stream_tables
IsHeld b _ = Unit {0}

-- the same of what may be left out
abbrev pub MayBeHeld : Types → Option InterfaceType → Type 0
MayBeHeld b None = Unit {0}
MayBeHeld b (Some w) = IsHeld b w
