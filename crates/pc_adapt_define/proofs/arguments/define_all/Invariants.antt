use Rattle.std.proofs.Common.{◌≡◌, ◌++◌, length}
use Rattle.std.specs.Vec.Iter.{into_iter_items, into_iter_len}
use Rattle.pc_adapt_define.specs.Define.{AreDefined}
use Rattle.pc_adapt_define.proofs.arguments.define_all.Given as goal

abbrev pub invariant-loop-import : goal.invariant-loop-import
invariant-loop-import l =
    (l.yielded ++ into_iter_items l.import-iterator ≡ into_iter_items l.initial.import-iterator)
    × AreDefined l.initial.graph l.graph l.signature l.yielded l.initial.args l.args
    × (into_iter_len l.import-iterator ≡ length (into_iter_items l.import-iterator))
