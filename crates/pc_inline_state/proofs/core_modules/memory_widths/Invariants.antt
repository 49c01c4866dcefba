use Rattle.std.proofs.Common.{◌≡◌, ◌++◌, drop}
use Rattle.pc_types.specs.Record.{memory_widths}
use Rattle.pc_inline_state.proofs.core_modules.memory_widths.Given as goal

abbrev pub invariant-loop-wide : goal.invariant-loop-wide
invariant-loop-wide l = l.widths ++ drop l.wide-index l.fn.record_.memories ≡ memory_widths l.fn.record_
