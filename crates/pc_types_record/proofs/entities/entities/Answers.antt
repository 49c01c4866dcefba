use Rattle.std.proofs.Common.{arith, ap, sym, ◌∙◌, ◌++◌, ◌∷◌, [], take, drop, append_assoc, if◌then◌else◌, ◌+◌}
use Rattle.std.proofs.Common.{count_by}
use Rattle.pc_types.specs.declared.parsed.CoreKind.{CoreKind}
use Rattle.pc_types.specs.Record.{entity_at, imports_kind, kind_of, same_kind}
use Rattle.pc_types.specs.ByKind.{of_kind}
use Rattle.pc_types_record.specs.Indexed.{entities_after}
use Rattle.pc_entity.proofs.LookupLemmas.{done_here, left_here}
use Rattle.pc_types_record.proofs.Lists.{count_here}
use Rattle.pc_types_record.proofs.entities.entities.Goals as goal

pub loop-import-preserved : goal.loop-import-preserved
loop-import-preserved c =
    let l = c.loop-import in
    let i = l.import-index in
    let x = c.import-item in
    let imports = c.args.imports.now in
    let kind = c.kind-kind.result in
    let after = entities_after (take (i + 1) imports) (drop (i + 1) imports) in
    record {
      counts = λ (k : CoreKind).
          c.count.ensures k
          ∙ ap (λ (t : CoreKind). if same_kind k t then of_kind l.counts k + 1 else of_kind l.counts k)
          c.kind-kind.ensures
          ∙ ap (λ n. if same_kind k (kind_of x.result.2) then n + 1 else n) (l.invariant.counts k)
          ∙ count_here (imports_kind k) imports i x.result (omega arith) x.is;
      found =
          ap (λ found. found ++ after) c.in_ok-push.ensures.ok
          ∙ append_assoc l.found (c.entity.result ∷ []) after
          ∙ ap (λ e. l.found ++ e ∷ after)
          (c.entity.ensures ∙ ap (entity_at kind) (c.of.ensures ∙ l.invariant.counts kind)
          ∙ ap (λ (k : CoreKind). entity_at k (count_by (imports_kind k) (take i imports))) c.kind-kind.ensures)
          ∙ ap (λ before. l.found
          ++ entity_at (kind_of x.result.2) (count_by (imports_kind (kind_of x.result.2)) (take i imports))
          ∷ entities_after before (drop (i + 1) imports))
          (done_here imports i x.result (omega arith) x.is)
          ∙ ap (λ rest. l.found ++ entities_after (take i imports) rest)
          (sym (left_here imports i x.result (omega arith) x.is))
          ∙ l.invariant.found;
    }
