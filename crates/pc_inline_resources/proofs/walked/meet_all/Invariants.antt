use Rattle.std.proofs.Common.{◌≡◌, take}
use Rattle.pc_inline_resources.specs.Walked.{met_all}
use Rattle.pc_inline_resources.proofs.walked.meet_all.Given as goal

-- those before the place are met
abbrev pub invariant-loop-one : goal.invariant-loop-one
invariant-loop-one l =
    l.met ≡ met_all l.state.types l.state.definitions l.start l.items (take l.one-index l.found)
