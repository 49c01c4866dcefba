use Rattle.std.proofs.Common.{◌≡◌, ◌++◌, drop, take, [], count_by}
use Rattle.pc_types.specs.declared.parsed.CoreKind.{CoreKind}
use Rattle.pc_types.specs.Record.{imports_kind}
use Rattle.pc_types.specs.ByKind.{of_kind}
use Rattle.pc_types_record.specs.Indexed.{entities_after}
use Rattle.pc_types_record.proofs.entities.entities.Given as goal

abbrev pub invariant-loop-import : goal.invariant-loop-import
invariant-loop-import l = record {
  counts : (k : CoreKind) → of_kind l.counts k ≡ count_by (imports_kind k) (take l.import-index l.imports);
  found : l.found ++ entities_after (take l.import-index l.imports) (drop l.import-index l.imports)
      ≡ entities_after [] l.imports;
}
