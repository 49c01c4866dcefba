use Rattle.pc_types.specs.Record.{imported}
use Rattle.pc_types.proofs.KindLemmas.{each_kind}
use Rattle.pc_types.proofs.module_record.ModuleRecord.import_counts.Goals as goal

pub returns : goal.returns
returns c =
    each_kind (imported c.args.self.now) _ c.imported.ensures c.imported-2.ensures c.imported-3.ensures
    c.imported-4.ensures c.imported-5.ensures
