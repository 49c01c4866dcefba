use Rattle.pc_types.specs.declared.parsed.CoreEntity.{CoreEntity}
use Rattle.pc_types_convert.proofs.AddsLemmas.{signatures_next}
use Rattle.pc_types_lists.proofs.ErrorLemmas.{passed_on}
use Rattle.std.proofs.Common.{arith, List, ℕ}
use Rattle.pc_types_convert.specs.Entries.{ImportIs}
use Rattle.pc_types_lists.proofs.Growth.{grows_trans}
use Rattle.pc_types_lists.proofs.ZipLemmas.{zip_here}
use Rattle.pc_types_convert.proofs.PartLemmas.{import_is_grows, zip_step}
use Rattle.pc_types_convert.proofs.extern_type.module_imports.Goals as goal

pub returns-in_err-module_import-clause-grows : goal.returns-in_err-module_import-clause-grows
returns-in_err-module_import-clause-grows c =
    grows_trans _ _ _ c.loop-import.invariant.grows c.module_import.ensures.grows

pub returns-in_err-push-clause-grows : goal.returns-in_err-push-clause-grows
returns-in_err-push-clause-grows c =
    grows_trans _ _ _ c.loop-import.invariant.grows c.module_import.ensures.grows

pub loop-import-preserved : goal.loop-import-preserved
loop-import-preserved c =
    let l = c.loop-import in
    let s = c.args.table.now in
    let now = c.module_import.ensures.grows in
    record {
      are =
          zip_step (ImportIs l.interned s) (ImportIs c.module_import.new.interned s) (import_is_grows _ _ now s)
          c.args.imports.now _ _ l.import-index c.import-item.result c.in_ok-module_import.field-0 (omega arith)
          c.import-item.is l.invariant.are c.in_ok-module_import.ensures.is c.in_ok-push.ensures.ok;
      grows = grows_trans _ _ _ l.invariant.grows now;
      signatures = signatures_next s (λ (i : List ℕ × List ℕ × CoreEntity). i.2) c.args.imports.now l.import-index
          c.import-item.result (omega arith) c.import-item.is
          _ _ _ now l.invariant.signatures c.module_import.ensures.signatures;
    }

pub returns-in_err-module_import-clause-full : goal.returns-in_err-module_import-clause-full
returns-in_err-module_import-clause-full c =
    passed_on c.from_residual.result c.in_err-module_import.field-0.0 _ _ _ c.from_residual.ensures.1
    c.in_err-module_import.ensures.full
    (λ next g is q.
    let here = zip_here
    (ImportIs next c.args.table.now) c.args.imports.now q.0 c.loop-import.import-index c.import-item.result
    (omega arith) c.import-item.is q.1 in
    here)

pub returns-in_err-module_import-clause-signatures : goal.returns-in_err-module_import-clause-signatures
returns-in_err-module_import-clause-signatures c =
    signatures_next c.args.table.now (λ (i : List ℕ × List ℕ × CoreEntity). i.2) c.args.imports.now
    c.loop-import.import-index c.import-item.result (omega arith)
    c.import-item.is _ _ _ c.module_import.ensures.grows c.loop-import.invariant.signatures
    c.module_import.ensures.signatures

pub returns-in_err-push-clause-signatures : goal.returns-in_err-push-clause-signatures
returns-in_err-push-clause-signatures c =
    signatures_next c.args.table.now (λ (i : List ℕ × List ℕ × CoreEntity). i.2) c.args.imports.now
    c.loop-import.import-index c.import-item.result (omega arith)
    c.import-item.is _ _ _ c.module_import.ensures.grows c.loop-import.invariant.signatures
    c.module_import.ensures.signatures
