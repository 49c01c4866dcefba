use Rattle.pc_inline_stack.proofs.DriveLemmas.{driven_first, failed_adds, run_adds, run_ends, run_fails}
use Rattle.pc_inline_stack.proofs.MoveLemmas.{underway}
use Rattle.pc_inline_stack.proofs.MovesLemmas.{moved, none_counted, unmoved}
use Rattle.pc_inline_stack.proofs.driver.run.Goals as goal

pub turns-ended-requires-clause-here : goal.turns-ended-requires-clause-here
turns-ended-requires-clause-here c =
    underway _ _ _ _ _ _ _ _ _ _ _ (driven_first _ _ _ c.args.root.now c.args.state.now c.args.frame c.args.total.now
    c.requires.here c.requires.items c.requires.rooted c.requires.begun c.requires.within c.requires.below _
    c.new.ensures.items)

pub turns-ended-requires-clause-waits : goal.turns-ended-requires-clause-waits
turns-ended-requires-clause-waits c = none_counted _ c.new.ensures.items

pub returns-in_err-ended : goal.returns-in_err-ended
returns-in_err-ended c =
    let first = driven_first _ _ _ c.args.root.now c.args.state.now c.args.frame c.args.total.now c.requires.here
    c.requires.items c.requires.rooted c.requires.begun c.requires.within c.requires.below _ c.new.ensures.items in
    let failed = unmoved _ _ _ _ _ _ _ _ _ _ _ _ _ _ _ first _ _ c.in_err-ended.ensures.moves in
    record {
      keeps = failed.keeps;
      adds = failed_adds _ _ _ c.args.root.now c.args.state.now c.args.frame _ _ _ _ failed;
      runs = run_fails _ _ _ c.args.root.now c.args.state.now c.args.frame _ _ _ _ failed _ c.from_residual.ensures.1;
    }

pub returns : goal.returns
returns c =
    let first = driven_first _ _ _ c.args.root.now c.args.state.now c.args.frame c.args.total.now c.requires.here
    c.requires.items c.requires.rooted c.requires.begun c.requires.within c.requires.below _ c.new.ensures.items in
    let driven = moved _ _ _ _ _ _ _ _ _ _ _ _ _ _ _ first _ c.in_ok-ended.ensures.moves in
    let ends = c.in_ok-ended.ensures.ends in
    record {
      keeps = driven.keeps;
      adds = run_adds _ _ _ c.args.root.now c.args.state.now c.args.frame _ _ _ _ _ driven;
      runs = run_ends _ _ _ c.args.root.now c.args.state.now c.args.frame _ _ _ _ _ driven ends.0 ends.1;
    }
