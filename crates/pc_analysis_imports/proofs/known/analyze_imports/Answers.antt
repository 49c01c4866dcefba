use Rattle.std.proofs.Common.{ap, subst, sym, ◌∙◌}
use Rattle.std.specs.Prelude.{map}
use Rattle.pc_info.specs.Modules.{module_view}
use Rattle.pc_analysis_imports.specs.Found.{IsFound}
use Rattle.pc_analysis_imports.specs.Known.{KnowImports, without_imports}
use Rattle.pc_analysis_imports.proofs.KnownLemmas.{hidden_count, recorded_keeps, recorded_known}
use Rattle.pc_analysis_imports.proofs.known.analyze_imports.Goals as goal

pub record-requires-clause-hidden : goal.record-requires-clause-hidden
record-requires-clause-hidden c =
    hidden_count c.args.translation.now c.args.modules.now c.in_ok-found.found c.requires.followed
    (subst (λ l. IsFound c.args.translation.now (map module_view l) c.in_ok-found.found) c.as_slice.ensures
    c.in_ok-found.ensures)

pub returns-clause-known : goal.returns-clause-known
returns-clause-known c =
    subst (KnowImports c.args.translation.now) (sym c.record.ensures)
    (recorded_known c.args.translation.now c.args.modules.now c.in_ok-found.found c.requires.followed
    (subst (λ l. IsFound c.args.translation.now (map module_view l) c.in_ok-found.found) c.as_slice.ensures
    c.in_ok-found.ensures))

pub returns-clause-kept : goal.returns-clause-kept
returns-clause-kept c =
    ap (map without_imports) c.record.ensures ∙ recorded_keeps c.args.modules.now c.in_ok-found.found
