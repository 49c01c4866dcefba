use Rattle.pc_dfg_linearize.proofs.close.steps.host_item.Goals as goal

pub unreachable-requires : goal.unreachable-requires
unreachable-requires c =
    let is = c.requires.lowers in
    c.in_default.not-LowerImport is.0 is.1 is.2 is.3
