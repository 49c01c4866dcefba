use Rattle.std.proofs.Common.{◌≡◌, take}
use Rattle.pc_inline_modules.specs.Grouped.{by_module, paired}
use Rattle.pc_inline_modules.proofs.grouped.by_module.Given as goal

abbrev pub invariant-loop-place : goal.invariant-loop-place
invariant-loop-place l = l.args ≡ by_module (take l.place (paired l.fn.imports l.fn.defs))
