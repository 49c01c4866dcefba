use Rattle.pc_adapt_modules.proofs.MemberLemmas.{record_planned}
use Rattle.pc_adapt_modules.proofs.laws.records_are_of_modules.Goals as goal

pub returns : goal.returns
returns c n xs ms are = record_planned n xs ms are
