use Rattle.std.proofs.Common.{ap, ◌∙◌}
use Rattle.std.proofs.lemmas.List.{take_all}
use Rattle.std.proofs.lemmas.Option.{slice_get-get_or}
use Rattle.pc_inline_resources.specs.Walked.{met_all}
use Rattle.pc_inline_resources.proofs.LoopLemmas.{met_more}
use Rattle.pc_inline_resources.proofs.walked.meet_all.Goals as goal

pub loop-one-preserved : goal.loop-one-preserved
loop-one-preserved c =
    met_more c.args.state.now.types c.args.state.now.definitions c.args.start c.args.items.now c.args.found.now
    c.loop-one.one-index _ (slice_get-get_or _ _ _ c.loop-one-test.true) _ _ c.loop-one.invariant c.in_ok-meet.ensures

pub returns : goal.returns
returns c =
    c.loop-one.invariant
    ∙ ap (met_all c.args.state.now.types c.args.state.now.definitions c.args.start c.args.items.now)
    (take_all _ _ c.loop-one-test.false)
