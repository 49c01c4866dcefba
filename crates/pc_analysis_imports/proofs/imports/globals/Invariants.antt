use Rattle.pc_types.specs.Record.{entity_at}
use Rattle.pc_types.specs.declared.parsed.CoreKind.TheVariants as kind
use Rattle.pc_analysis_imports.specs.Imports.{global_from, import_source}
use Rattle.pc_analysis_imports.proofs.NoteLemmas.{FilledTo}
use Rattle.pc_analysis_imports.proofs.imports.globals.Given as goal

abbrev pub invariant-loop-n : goal.invariant-loop-n
invariant-loop-n l = FilledTo (λ n. global_from l.ambiguous (import_source l.index l.given (entity_at kind.Global n))) l.n l.known
