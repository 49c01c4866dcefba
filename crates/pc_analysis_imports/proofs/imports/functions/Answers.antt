use Rattle.std.proofs.Common.{ap, arith, ◌∙◌}
use Rattle.pc_types.specs.Record.{entity_at}
use Rattle.pc_types.specs.declared.parsed.CoreKind.TheVariants as kind
use Rattle.pc_analysis_imports.specs.Imports.{func_from, import_source}
use Rattle.pc_analysis_imports.proofs.NoteLemmas.{filled_all, filled_next, past_imports}
use Rattle.pc_analysis_imports.proofs.imports.functions.Goals as goal

pub loop-n-preserved : goal.loop-n-preserved
loop-n-preserved c =
    filled_next (λ n. func_from c.args.trampolines.now (import_source c.args.index.now c.args.given.now (entity_at kind.Func n))) c.loop-n.n
    c.loop-n.known _ c.loop-n.invariant
    (c.in_ok-note.ensures.here ∙ c.known_func.ensures ∙ ap (func_from c.args.trampolines.now) c.at-source.ensures) c.in_ok-note.ensures.elsewhere

pub returns : goal.returns
returns c =
    filled_all (λ n. func_from c.args.trampolines.now (import_source c.args.index.now c.args.given.now (entity_at kind.Func n))) c.loop-n.n
    c.loop-n.known c.loop-n.invariant
    (λ n many. ap (func_from c.args.trampolines.now) (past_imports c.args.index.now c.args.given.now kind.Func n
    (omega (arith, many, c.loop-n-test.false, c.imported-n-end.ensures))))
