use Rattle.std.proofs.Common.{◌≡◌, map}
use Rattle.pc_translate.specs.Adapted.{as_handed_in}
use Rattle.pc_translate.proofs.translator.translations.Given as goal

abbrev pub invariant-loop-module : goal.invariant-loop-module
invariant-loop-module l = l.translations.items ≡ map as_handed_in l.yielded
