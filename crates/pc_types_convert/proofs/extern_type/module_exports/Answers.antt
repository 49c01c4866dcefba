use Rattle.pc_types.specs.declared.parsed.CoreEntity.{CoreEntity}
use Rattle.pc_types_convert.proofs.AddsLemmas.{signatures_next}
use Rattle.pc_types_lists.proofs.ErrorLemmas.{passed_on}
use Rattle.std.proofs.Common.{arith, sym, List, ℕ}
use Rattle.pc_types_convert.specs.Entries.{ExportIs}
use Rattle.pc_types_lists.proofs.Growth.{grows_trans}
use Rattle.pc_types_lists.proofs.ZipLemmas.{zip_here}
use Rattle.pc_types_convert.proofs.PartLemmas.{export_is_grows, zip_step}
use Rattle.pc_types_convert.proofs.extern_type.module_exports.Goals as goal

pub returns-in_err-core_entity-clause-grows : goal.returns-in_err-core_entity-clause-grows
returns-in_err-core_entity-clause-grows c =
    grows_trans _ _ _ c.loop-export.invariant.grows c.core_entity.ensures.grows

pub returns-in_err-push-clause-grows : goal.returns-in_err-push-clause-grows
returns-in_err-push-clause-grows c =
    grows_trans _ _ _ c.loop-export.invariant.grows c.core_entity.ensures.grows

pub loop-export-preserved : goal.loop-export-preserved
loop-export-preserved c =
    let l = c.loop-export in
    let s = c.args.table.now in
    let now = c.core_entity.ensures.grows in
    record {
      are =
          zip_step (ExportIs l.interned s) (ExportIs c.core_entity.new.interned s) (export_is_grows _ _ now s)
          c.args.exports.now _ _ l.export-index c.export-item.result (c.in_ok-name.name, c.in_ok-core_entity.field-0)
          (omega arith) c.export-item.is l.invariant.are
          (sym c.in_ok-name.ensures, c.in_ok-core_entity.ensures.is) c.in_ok-push.ensures.ok;
      grows = grows_trans _ _ _ l.invariant.grows now;
      signatures = signatures_next s (λ (e : List ℕ × CoreEntity). e.1) c.args.exports.now l.export-index
          c.export-item.result (omega arith) c.export-item.is
          _ _ _ now l.invariant.signatures c.core_entity.ensures.signatures;
    }

pub returns-in_err-core_entity-clause-full : goal.returns-in_err-core_entity-clause-full
returns-in_err-core_entity-clause-full c =
    passed_on c.from_residual-in_err-core_entity.result c.in_err-core_entity.field-0.0 _ _ _
    c.from_residual-in_err-core_entity.ensures.1 c.in_err-core_entity.ensures.full
    (λ next g is q.
    let here = zip_here
    (ExportIs next c.args.table.now) c.args.exports.now q.0 c.loop-export.export-index c.export-item.result
    (omega arith) c.export-item.is q.1 in
    (here.0.1, here.1.1))

pub returns-in_err-core_entity-clause-signatures : goal.returns-in_err-core_entity-clause-signatures
returns-in_err-core_entity-clause-signatures c =
    signatures_next c.args.table.now (λ (e : List ℕ × CoreEntity). e.1) c.args.exports.now c.loop-export.export-index
    c.export-item.result (omega arith)
    c.export-item.is _ _ _ c.core_entity.ensures.grows c.loop-export.invariant.signatures
    c.core_entity.ensures.signatures

pub returns-in_err-push-clause-signatures : goal.returns-in_err-push-clause-signatures
returns-in_err-push-clause-signatures c =
    signatures_next c.args.table.now (λ (e : List ℕ × CoreEntity). e.1) c.args.exports.now c.loop-export.export-index
    c.export-item.result (omega arith)
    c.export-item.is _ _ _ c.core_entity.ensures.grows c.loop-export.invariant.signatures
    c.core_entity.ensures.signatures
