use Rattle.std.proofs.Common.{All, List, length, sym, subst}
use Rattle.pc_dfg.specs.declared.core_def.CoreDef.{CoreDef}
use Rattle.pc_dfg_linearize.specs.Added.{IsFull}
use Rattle.pc_dfg_linearize.specs.Parts.{HasNumber, in_def}
use Rattle.pc_dfg_linearize.specs.Ready.{IsReadyDef}
use Rattle.pc_dfg_linearize.proofs.ClosedSlotLemmas.{ok_then}
use Rattle.pc_dfg_linearize.proofs.ModuleLemmas.{module_can, module_closed, module_ready, module_numbered, module_within}
use Rattle.pc_dfg_linearize.proofs.close.steps.close_adapter_module.Goals as goal

pub index-requires : goal.index-requires
index-requires c = module_can c.args.graph.now _ c.args.adapters c.requires.can

pub defs_of-requires-clause-ready : goal.defs_of-requires-clause-ready
defs_of-requires-clause-ready c =
    subst (λ (ds : List CoreDef). All (IsReadyDef c.args.graph.now (length c.args.finish.now.instances)) ds)
    (sym c.as_slice.ensures)
    (module_ready c.args.graph.now _ c.args.adapters c.index.result.now c.requires.can c.index.ensures)

pub defs_of-requires-clause-numbered : goal.defs_of-requires-clause-numbered
defs_of-requires-clause-numbered c =
    let g = c.args.graph.now in
    let f = c.args.finish.now in
    subst (λ (ds : List CoreDef). All (λ (d : CoreDef). All (HasNumber f) (in_def g d)) ds) (sym c.as_slice.ensures)
    (module_numbered g f c.args.adapters c.index.result.now c.requires.numbered c.index.ensures)

pub instantiate_adapters-requires : goal.instantiate_adapters-requires
instantiate_adapters-requires c = record {
  held = module_within c.args.graph.now c.args.finish.now c.args.adapters c.index.result.now c.index.ensures
      c.requires.fits;
}

pub returns-clause-closed : goal.returns-clause-closed
returns-clause-closed c =
    ok_then c.instantiate_adapters.result (λ is. module_closed c.args.graph.now c.args.finish.now _ c.args.adapters
    c.index.result.now _ _ c.requires.can c.index.ensures c.requires.fits c.requires.numbered c.requires.fresh
    c.as_slice.ensures c.in_ok-args.ensures is) c.instantiate_adapters.ensures.ok

pub returns-clause-full : goal.returns-clause-full
unfolding IsFull
returns-clause-full c = c.instantiate_adapters.ensures.full
