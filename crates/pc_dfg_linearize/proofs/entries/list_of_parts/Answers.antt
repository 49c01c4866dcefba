use Rattle.pc_dfg_linearize.proofs.EntryLemmas.{first_part, second_part}
use Rattle.pc_dfg_linearize.proofs.entries.list_of_parts.Goals as goal

pub part_of-requires-in-Two : goal.part_of-requires-in-Two
part_of-requires-in-Two c = record {
  numbered = first_part c.args.finish.now _ _ _ c.in-Two.is c.requires.numbered;
}

pub part_of-requires-in-Two-2 : goal.part_of-requires-in-Two-2
part_of-requires-in-Two-2 c = record {
  numbered = second_part c.args.finish.now _ _ _ c.in-Two.is c.requires.numbered;
}
