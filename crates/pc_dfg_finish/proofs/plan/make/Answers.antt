use Rattle.std.proofs.Common.{length, sym, subst}
use Rattle.pc_dfg_linearize.specs.Made.{DoneBefore}
use Rattle.pc_dfg_finish.specs.Instantiated.{AreInstantiated}
use Rattle.pc_dfg_finish.proofs.OutgrownLemmas.{done_too_many}
use Rattle.pc_dfg_finish.proofs.StartLemmas.{none_done, none_instantiated}
use Rattle.pc_dfg_finish.proofs.WholeLemmas.{all_made}
use Rattle.pc_dfg_finish.proofs.plan.make.Goals as goal

pub do_effects-requires-clause-begins : goal.do_effects-requires-clause-begins
do_effects-requires-clause-begins c =
    subst (DoneBefore c.args.graph.now 0) (sym c.in_ok-finish.ensures) (none_done c.args.graph.now)

pub do_effects-requires-clause-none_made : goal.do_effects-requires-clause-none_made
do_effects-requires-clause-none_made c =
    subst (AreInstantiated c.args.graph.now) (sym c.in_ok-finish.ensures) (none_instantiated c.args.graph.now)

pub exports-requires-clause-all_made : goal.exports-requires-clause-all_made
exports-requires-clause-all_made c =
    all_made c.args.graph.now c.requires.ordered c.do_effects.new.finish c.in_ok-do_effects.ensures.done

pub exports-requires-clause-fits : goal.exports-requires-clause-fits
exports-requires-clause-fits c = c.in_ok-do_effects.ensures.done.fits

pub returns-in_err-do_effects-clause-full : goal.returns-in_err-do_effects-clause-full
returns-in_err-do_effects-clause-full c is =
    let too_many = rw is at c.from_residual-in_err-do_effects.ensures.1 in
    c.in_err-do_effects.ensures.full (cc too_many)

pub returns-in_err-exported-clause-full : goal.returns-in_err-exported-clause-full
returns-in_err-exported-clause-full c is =
    let too_many = rw is at c.from_residual-in_err-exported.ensures.1 in
    let full = c.in_err-exported.ensures.full (cc too_many) in
    let g = c.args.graph.now in
    done_too_many g c.requires.ordered (length g.side_effects) c.do_effects.new.finish
    c.in_ok-do_effects.ensures.done full

pub returns-clause-made : goal.returns-clause-made
returns-clause-made c = record {
  before = c.do_effects.new.finish;
  done = c.in_ok-do_effects.ensures.done;
  instantiated = c.in_ok-do_effects.ensures.instantiated;
  further = c.in_ok-exported.ensures.further;
  only = c.in_ok-exported.ensures.only;
  exports = c.in_ok-exported.ensures.exports;
  interned = c.entries_are_distinct.ensures.all;
}
