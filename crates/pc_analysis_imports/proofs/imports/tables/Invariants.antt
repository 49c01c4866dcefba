use Rattle.pc_types.specs.Record.{entity_at}
use Rattle.pc_types.specs.declared.parsed.CoreKind.TheVariants as kind
use Rattle.pc_analysis_imports.specs.Imports.{table_from, import_source}
use Rattle.pc_analysis_imports.proofs.NoteLemmas.{FilledTo}
use Rattle.pc_analysis_imports.proofs.imports.tables.Given as goal

abbrev pub invariant-loop-n : goal.invariant-loop-n
invariant-loop-n l = FilledTo (λ n. table_from l.ambiguous (import_source l.index l.given (entity_at kind.Table n))) l.n l.known
