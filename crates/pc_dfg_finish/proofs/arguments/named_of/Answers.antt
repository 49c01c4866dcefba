use Rattle.std.proofs.Common.{◌≤◌, length, refl, ap, arith, ◌∙◌}
use Rattle.std.proofs.lemmas.List.{take_all}
use Rattle.pc_dfg_linearize.specs.Arguments.{CanNumber, IsNumbered, named_defs, named_in}
use Rattle.pc_dfg_linearize.specs.Converted.{def_in}
use Rattle.pc_dfg_linearize.proofs.AllLemmas.{all_at}
use Rattle.pc_dfg_finish.proofs.ArgumentLemmas.{named_item}
use Rattle.pc_dfg_finish.proofs.NamedLemmas.{copy_absent, copy_next}
use Rattle.pc_dfg_finish.proofs.arguments.named_of.Goals as goal

pub def_of-requires-clause-ready : goal.def_of-requires-clause-ready
def_of-requires-clause-ready c =
    let args = c.args.args.now in
    let at = named_item args c.loop-place.place _ c.entry_at.ensures in
    (all_at (CanNumber c.args.graph.now (length c.args.finish.now.instances)) (named_defs args) _ _ c.requires.ready
    at).itself

pub def_of-requires-clause-numbered : goal.def_of-requires-clause-numbered
def_of-requires-clause-numbered c =
    let args = c.args.args.now in
    let at = named_item args c.loop-place.place _ c.entry_at.ensures in
    all_at (IsNumbered c.args.graph.now c.args.finish.now) (named_defs args) _ _ c.requires.numbered at

pub push_copy-requires : goal.push_copy-requires
push_copy-requires c = record {
  absent = copy_absent (def_in c.args.graph.now c.args.finish.now) c.args.args.now c.loop-place.place _
      c.entry_at.ensures
      c.loop-place.all c.loop-place.invariant _ refl c.names_are_distinct.ensures;
}

pub loop-place-preserved : goal.loop-place-preserved
loop-place-preserved c =
    copy_next (def_in c.args.graph.now c.args.finish.now) c.args.args.now c.loop-place.place _ c.entry_at.ensures
    c.loop-place.all c.loop-place.invariant _ _ _ refl c.in_ok-def.ensures c.in_ok-push_copy.ensures

pub returns : goal.returns
returns c =
    let args = c.args.args.now in
    let ended : length args ≤ c.loop-place.place = omega arith in
    c.loop-place.invariant
    ∙ ap (named_in c.args.graph.now c.args.finish.now) (take_all c.loop-place.place args ended)
