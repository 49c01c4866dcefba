use Rattle.std.proofs.Common.{ap, arith, ◌∙◌}
use Rattle.pc_types.specs.Record.{entity_at}
use Rattle.pc_types.specs.declared.parsed.CoreKind.TheVariants as kind
use Rattle.pc_analysis_imports.specs.Imports.{memory_from, import_source}
use Rattle.pc_analysis_imports.proofs.NoteLemmas.{filled_all, filled_next, past_imports}
use Rattle.pc_analysis_imports.proofs.imports.memories.Goals as goal

pub loop-n-preserved : goal.loop-n-preserved
loop-n-preserved c =
    filled_next (λ n. memory_from c.args.ambiguous.now (import_source c.args.index.now c.args.given.now (entity_at kind.Memory n))) c.loop-n.n
    c.loop-n.known _ c.loop-n.invariant
    (c.in_ok-note.ensures.here ∙ c.known_memory.ensures ∙ ap (memory_from c.args.ambiguous.now) c.at-source.ensures) c.in_ok-note.ensures.elsewhere

pub returns : goal.returns
returns c =
    filled_all (λ n. memory_from c.args.ambiguous.now (import_source c.args.index.now c.args.given.now (entity_at kind.Memory n))) c.loop-n.n
    c.loop-n.known c.loop-n.invariant
    (λ n many. ap (memory_from c.args.ambiguous.now) (past_imports c.args.index.now c.args.given.now kind.Memory n
    (omega (arith, many, c.loop-n-test.false, c.imported-n-end.ensures))))
