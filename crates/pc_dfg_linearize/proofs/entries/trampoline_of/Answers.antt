use Rattle.pc_dfg_linearize.proofs.EntryLemmas.{head_there, list_there, parts_there, stays_shaped}
use Rattle.pc_dfg_linearize.proofs.entries.trampoline_of.Goals as goal

pub head_of-requires : goal.head_of-requires
head_of-requires c = record {
  numbered = head_there c.args.finish.now c.args.number c.args.trampoline.now.0 c.parts-kind.result
      c.parts-kind.ensures.shaped (parts_there c.args.finish.now c.args.number c.args.trampoline.now
      c.parts-kind.result c.parts-kind.ensures.parts c.requires.numbered);
}

pub list_of_parts-requires : goal.list_of_parts-requires
list_of_parts-requires c = record {
  numbered = list_there c.args.finish.now c.args.number c.args.trampoline.now.0 c.parts-kind.result
      c.parts-kind.ensures.shaped (parts_there c.args.finish.now c.args.number c.args.trampoline.now
      c.parts-kind.result c.parts-kind.ensures.parts c.requires.numbered);
}

pub unreachable-requires : goal.unreachable-requires
unreachable-requires c =
    c.in-None.ensures.none (stays_shaped c.args.finish.now c.args.number c.parts-kind.result _ _ c.head_of.ensures
    c.list_of_parts.ensures c.parts-kind.ensures.shaped)
