use Rattle.std.proofs.Common.{◌≤◌, length, refl, ap, arith, ◌∙◌}
use Rattle.std.proofs.lemmas.List.{take_all}
use Rattle.pc_dfg_linearize.specs.Arguments.{CanNumber, IsNumbered, host_in, named_in}
use Rattle.pc_dfg_finish.proofs.ArgumentLemmas.{host_all}
use Rattle.pc_dfg_finish.proofs.NamedLemmas.{copy_absent, copy_next}
use Rattle.pc_dfg_finish.proofs.arguments.host_of.Goals as goal

pub named_of-requires-clause-ready : goal.named_of-requires-clause-ready
named_of-requires-clause-ready c =
    host_all (CanNumber c.args.graph.now (length c.args.finish.now.instances)) c.args.args.now c.loop-place.place _
    c.requires.ready c.entry_at.ensures

pub named_of-requires-clause-numbered : goal.named_of-requires-clause-numbered
named_of-requires-clause-numbered c =
    host_all (IsNumbered c.args.graph.now c.args.finish.now) c.args.args.now c.loop-place.place _ c.requires.numbered
    c.entry_at.ensures

pub push_copy-requires : goal.push_copy-requires
push_copy-requires c = record {
  absent = copy_absent (named_in c.args.graph.now c.args.finish.now) c.args.args.now c.loop-place.place _
      c.entry_at.ensures
      c.loop-place.all c.loop-place.invariant _ refl c.names_are_distinct.ensures;
}

pub loop-place-preserved : goal.loop-place-preserved
loop-place-preserved c =
    copy_next (named_in c.args.graph.now c.args.finish.now) c.args.args.now c.loop-place.place _ c.entry_at.ensures
    c.loop-place.all c.loop-place.invariant _ _ _ refl c.in_ok-named.ensures c.in_ok-push_copy.ensures

pub returns : goal.returns
returns c =
    let args = c.args.args.now in
    let ended : length args ≤ c.loop-place.place = omega arith in
    c.loop-place.invariant
    ∙ ap (host_in c.args.graph.now c.args.finish.now) (take_all c.loop-place.place args ended)
