use Rattle.std.proofs.Common.{sym, List, ℕ}
use Rattle.std.specs.Prelude.{map}
use Rattle.pc_info.specs.declared.core_def.CoreDef.{CoreDef}
use Rattle.pc_analysis_imports.specs.Followed.{source_of}
use Rattle.pc_analysis_imports.proofs.FoldLemmas.{marked_more, marked_none}
use Rattle.pc_analysis_imports.proofs.ambiguous.add_host.Goals as goal

pub loop-place-init : goal.loop-place-init
loop-place-init c = sym (marked_none c.args.ambiguous.now)

pub loop-place-preserved : goal.loop-place-preserved
loop-place-preserved c =
    marked_more (λ (a : List ℕ × List (List ℕ × CoreDef)).
    map (λ b. source_of c.args.records.now c.args.instances.now b.1) a.1) c.args.args.now
    c.loop-place.place (c.entry_at.result.0.now, c.entry_at.result.1.now) _ _ _ c.entry_at.ensures
    c.loop-place.invariant c.in_ok-add_named.ensures
