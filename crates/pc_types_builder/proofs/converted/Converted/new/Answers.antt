use Rattle.std.proofs.Common.{◌∙◌, ap, subst, sym}
use Rattle.pc_types_convert.specs.Plain.{none_done}
use Rattle.pc_types_builder.specs.Converted.{AreConverted}
use Rattle.pc_types_builder.proofs.ConvertedLemmas.{none_converted}
use Rattle.pc_types_builder.proofs.converted.Converted.new.Goals as goal

pub returns-clause-converted : goal.returns-clause-converted
returns-clause-converted c b =
    subst (AreConverted b c.args.table.now) (sym (c.new.ensures ∙ ap none_done c.len.ensures))
    (none_converted b c.args.table.now)
