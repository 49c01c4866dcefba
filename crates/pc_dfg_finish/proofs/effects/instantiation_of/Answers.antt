use Rattle.std.proofs.Common.{All, length, map, sym, subst, ap, ◌∙◌}
use Rattle.pc_info.specs.declared.initializer.InstantiateModule.TheVariants as plan_source
use Rattle.pc_dfg.specs.Names.{in_instance}
use Rattle.pc_dfg_linearize.specs.Arguments.{CanNumber, IsNumbered, NumbersAll, host_defs, host_in}
use Rattle.pc_dfg_linearize.specs.Converted.{def_in}
use Rattle.pc_dfg_linearize.specs.Made.{instance_in}
use Rattle.pc_dfg_linearize.specs.Ready.{IsReadyDef}
use Rattle.pc_dfg_finish.proofs.ArgumentLemmas.{all_can_still, all_ready}
use Rattle.pc_dfg_finish.proofs.effects.instantiation_of.Goals as goal

pub number_all-requires-clause-ready : goal.number_all-requires-clause-ready
unfolding in_instance
number_all-requires-clause-ready c =
    let can = CanNumber c.args.graph.now (length c.args.finish.now.instances) in
    subst (All can) (ap in_instance c.in-Static.is ∙ sym c.as_slice.ensures) c.requires.ready

pub defs_of-requires-clause-ready : goal.defs_of-requires-clause-ready
unfolding in_instance
defs_of-requires-clause-ready c =
    let g = c.args.graph.now in
    let f = c.number_all.new.finish in
    let can = CanNumber g (length c.args.finish.now.instances) in
    let ready = subst (All can) (ap in_instance c.in-Static.is ∙ sym c.as_slice.ensures) c.requires.ready in
    subst (All (IsReadyDef g (length f.instances))) (c.as_slice.ensures ∙ sym c.as_slice-in-Static.ensures)
    (all_ready g c.args.finish.now f c.as_slice.result.now c.in_ok-number_all-in-Static.ensures.numbers ready)

pub defs_of-requires-clause-numbered : goal.defs_of-requires-clause-numbered
defs_of-requires-clause-numbered c =
    subst (All (IsNumbered c.args.graph.now c.number_all.new.finish))
    (c.as_slice.ensures ∙ sym c.as_slice-in-Static.ensures) c.in_ok-number_all-in-Static.ensures.numbers.here

pub number_host-requires-clause-ready : goal.number_host-requires-clause-ready
unfolding in_instance
number_host-requires-clause-ready c =
    let can = CanNumber c.args.graph.now (length c.args.finish.now.instances) in
    subst (All can) (ap in_instance c.in-Import.is ∙ ap host_defs (sym c.get-args.ensures)) c.requires.ready

pub host_of-requires-clause-ready : goal.host_of-requires-clause-ready
unfolding in_instance
host_of-requires-clause-ready c =
    let can = CanNumber c.args.graph.now (length c.args.finish.now.instances) in
    all_can_still c.args.graph.now c.args.finish.now c.number_host.new.finish
    c.in_ok-number_host-in-Import.ensures.numbers.continues (host_defs c.get-args.result.now)
    (subst (All can) (ap in_instance c.in-Import.is ∙ ap host_defs (sym c.get-args.ensures)) c.requires.ready)

pub host_of-requires-clause-numbered : goal.host_of-requires-clause-numbered
host_of-requires-clause-numbered c = c.in_ok-number_host-in-Import.ensures.numbers.here

pub returns-in_ok-args-in-Static-clause-prepares : goal.returns-in_ok-args-in-Static-clause-prepares
unfolding in_instance instance_in
returns-in_ok-args-in-Static-clause-prepares c =
    let g = c.args.graph.now in
    let f = c.number_all.new.finish in
    let is = sym c.in-Static.is in
    record {
      numbers = subst (NumbersAll g c.args.finish.now f) (c.as_slice.ensures ∙ ap in_instance is)
          c.in_ok-number_all-in-Static.ensures.numbers;
      is = ap (plan_source.Static c.in-Static.module) (c.in_ok-args-in-Static.ensures
          ∙ ap (map (def_in g f)) c.as_slice-in-Static.ensures) ∙ ap (instance_in g f) is;
    }

pub returns-in_ok-new-in-Import-clause-prepares : goal.returns-in_ok-new-in-Import-clause-prepares
unfolding in_instance instance_in
returns-in_ok-new-in-Import-clause-prepares c =
    let g = c.args.graph.now in
    let f = c.number_host.new.finish in
    let is = sym c.in-Import.is in
    record {
      numbers = subst (NumbersAll g c.args.finish.now f) (ap host_defs c.get-args.ensures ∙ ap in_instance is)
          c.in_ok-number_host-in-Import.ensures.numbers;
      is = ap (plan_source.Import c.in-Import.import) (c.in_ok-new-in-Import.ensures
          ∙ c.in_ok-args-in-Import.ensures ∙ ap (host_in g f) c.get-args.ensures) ∙ ap (instance_in g f) is;
    }

pub returns-in_err-number_all-in-Static-clause-full : goal.returns-in_err-number_all-in-Static-clause-full
returns-in_err-number_all-in-Static-clause-full c is =
    let too_many = rw is at c.from_residual.ensures.1 in
    c.in_err-number_all-in-Static.ensures.full (cc too_many)

pub returns-in_err-number_host-in-Import-clause-full : goal.returns-in_err-number_host-in-Import-clause-full
returns-in_err-number_host-in-Import-clause-full c is =
    let too_many = rw is at c.from_residual-in_err-number_host-in-Import.ensures.1 in
    c.in_err-number_host-in-Import.ensures.full (cc too_many)
