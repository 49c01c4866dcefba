-- What an error says.
use Rattle.std.specs.Prelude.{ℕ, List, codes}
use Rattle.pc_names.specs.declared.name_error.NameError.{NameError}
use Rattle.pc_names.specs.declared.name_error.NameError.TheVariants as error

-- the text of an error
abbrev pub message_of : NameError → List ℕ
message_of error.DefinedTwice = codes "the name is defined twice"
message_of error.NoMemory = codes "out of memory"
