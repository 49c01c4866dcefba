-- What a reader promises.
use Rattle.std.specs.Prelude.{◌≡◌, Option, Some, None, Result, Ok, Err}
use Rattle.pc_input_values.specs.declared.error.DecodeError.{DecodeError}
use Rattle.pc_input_values.specs.declared.error.DecodeError.TheVariants.{NotJson, BadForm, NoMemory}

-- the value that is wanted, or BadForm where there is none; want of memory is free
abbrev pub Reads : {A : Type 0} → Result A DecodeError → Option A → Type 0
Reads (Ok x) wanted = wanted ≡ Some x
Reads (Err NotJson) wanted = ⊥
Reads (Err BadForm) wanted = wanted ≡ None
Reads (Err NoMemory) wanted = Unit {0}
