use Rattle.pc_types_convert.proofs.LayerLemmas.{all_empty}
use Rattle.pc_types_convert.proofs.done.Done.new.Goals as goal

pub returns : goal.returns
returns c =
    all_empty c.new-2.result c.new.result c.new-3.result c.new-4.result c.new-2.ensures.empty c.new.ensures.empty
    c.new-3.ensures.empty c.new-4.ensures.empty c.args.room
