use Rattle.std.proofs.Common.{◌≡◌}
use Rattle.pc_adapt_modules.specs.Exports.{exports_of}
use Rattle.pc_adapt_modules.proofs.module.exports_from.Given as goal

abbrev pub invariant-loop-place : goal.invariant-loop-place
invariant-loop-place l = l.exports ≡ exports_of l.function l.number l.place
