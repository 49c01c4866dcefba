use Rattle.std.proofs.Common.{sym, ap, subst, ◌∙◌}
use Rattle.pc_info.specs.declared.options.CanonicalOptions.{CanonicalOptions as PlanOptions}
use Rattle.pc_dfg_linearize.specs.declared.id.Id.TheVariants as id
use Rattle.pc_dfg_linearize.specs.declared.state.Finish.{Finish}
use Rattle.pc_dfg_linearize.specs.Added.{IsFull, add_options}
use Rattle.pc_dfg_linearize.specs.Closed.{Closed}
use Rattle.pc_dfg_linearize.specs.Ready.{CanClose}
use Rattle.pc_dfg_linearize.proofs.ClosedSlotLemmas.{ok_then}
use Rattle.pc_dfg_linearize.proofs.OptionsLemmas.{closed_options, options_named, options_within}
use Rattle.pc_dfg_linearize.proofs.close.entries.close_options.Goals as goal

pub index-requires : goal.index-requires
unfolding CanClose
index-requires c = c.requires.can

pub options_of-entry-requires : goal.options_of-entry-requires
options_of-entry-requires c = record {
  numbered = options_named c.args.graph.now c.args.finish.now c.args.options c.index.result.now c.index.ensures
      c.requires.fits c.requires.numbered;
}

pub add_options-requires : goal.add_options-requires
add_options-requires c = record {
  held = options_within c.args.graph.now c.args.finish.now c.args.options c.index.result.now c.index.ensures
      c.requires.fits;
}

pub returns-clause-closed : goal.returns-clause-closed
returns-clause-closed c =
    let f = c.args.finish.now in
    ok_then c.add_options.result (λ is. subst (λ (h : Finish). Closed c.args.graph.now f h (id.Options c.args.options))
    (sym (is ∙ ap (λ (o : PlanOptions). add_options c.args.options.0 o f) c.options_of-entry.ensures))
    (closed_options c.args.graph.now f c.args.options c.index.result.now c.index.ensures c.requires.fits c.requires.held
    c.requires.numbered c.requires.fresh)) c.add_options.ensures.ok

pub returns-clause-full : goal.returns-clause-full
unfolding IsFull
returns-clause-full c = c.add_options.ensures.full
