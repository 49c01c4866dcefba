-- What callers are told where a type has no place.
use Rattle.pc_types.specs.declared.error.TypeError.{TypeError}
use Rattle.pc_types.specs.declared.error.TypeError.TheVariants as error
use Rattle.pc_types_lists.specs.declared.no_place.NoPlace.{NoPlace}
use Rattle.pc_types_lists.specs.declared.no_place.NoPlace.TheVariants as refusal

-- the error that a public call answers
abbrev pub type_error : NoPlace → TypeError
type_error refusal.TooMany = error.TooMany
type_error refusal.NoMemory = error.NoMemory
