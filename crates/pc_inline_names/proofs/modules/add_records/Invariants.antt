use Rattle.std.proofs.Common.{take}
use Rattle.pc_inline_names.specs.Tables.{AreRecordNumbers}
use Rattle.pc_inline_names.proofs.AddedLemmas.{Added}
use Rattle.pc_inline_names.proofs.modules.add_records.Given as goal

abbrev pub invariant-loop-record_ : goal.invariant-loop-record_
invariant-loop-record_ l = Added AreRecordNumbers l.fn.texts (take l.record_-index l.records) l.texts l.all
