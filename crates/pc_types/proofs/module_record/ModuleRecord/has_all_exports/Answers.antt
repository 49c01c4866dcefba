use Rattle.std.proofs.Common.{arith, ap, ◌∙◌}
use Rattle.std.specs.List.{list_all}
use Rattle.pc_types.specs.Record.{has_entity}
use Rattle.pc_types.proofs.Walking.{all_fail, all_go_on}
use Rattle.pc_types.proofs.module_record.ModuleRecord.has_all_exports.Goals as goal

pub returns-then-not-has_entity : goal.returns-then-not-has_entity
returns-then-not-has_entity c =
    let e = c.export-item in
    all_fail (λ e. has_entity c.args.self.now e.1) c.as_slice-export-items.result.now c.loop-export.export-index
    e.result (omega arith) e.is
    c.has_entity.result c.has_entity.ensures c.if-not-has_entity.true c.loop-export.invariant
    ∙ ap (list_all (λ e. has_entity c.args.self.now e.1)) c.as_slice-export-items.ensures

pub loop-export-preserved : goal.loop-export-preserved
loop-export-preserved c =
    let e = c.export-item in
    all_go_on (λ e. has_entity c.args.self.now e.1) c.as_slice-export-items.result.now c.loop-export.export-index
    e.result (omega arith) e.is
    c.has_entity.result c.has_entity.ensures c.if-not-has_entity.false c.loop-export.invariant
