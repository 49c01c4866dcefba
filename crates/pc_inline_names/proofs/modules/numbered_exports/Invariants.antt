use Rattle.std.proofs.Common.{take}
use Rattle.std.specs.List.{AllZip}
use Rattle.pc_inline_names.specs.Tables.{HasExports}
use Rattle.pc_inline_names.proofs.modules.numbered_exports.Given as goal

abbrev pub invariant-loop-record_ : goal.invariant-loop-record_
invariant-loop-record_ l = AllZip (HasExports l.texts) (take l.record_-index l.records) l.all
