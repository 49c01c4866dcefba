use Rattle.std.proofs.Common.{◌≡◌, take}
use Rattle.pc_inline_canon.specs.Written.{written}
use Rattle.pc_inline_canon.proofs.options.read_options.Given as goal

abbrev pub invariant-loop-option : goal.invariant-loop-option
invariant-loop-option l = l.written ≡ written (take l.option-index l.opts)
