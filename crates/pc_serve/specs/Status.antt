-- The exit codes.
use Rattle.std.specs.Prelude.{ℕ}
use Rattle.pc_serve.specs.declared.status.Status.{Status}
use Rattle.pc_serve.specs.declared.status.Status.TheVariants as status

-- the exit code of each end of a run
abbrev pub code_of : Status → ℕ
code_of status.Done = 0
code_of status.Refused = 1
code_of status.Usage = 2
code_of status.ReadFault = 3
code_of status.WriteFault = 4
code_of status.NoMemory = 5
code_of status.TooLong = 6
