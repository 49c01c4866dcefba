use Rattle.std.proofs.Common.{subst, sym, ◌∙◌}
use Rattle.pc_analysis_imports.specs.Imports.{with_known_but}
use Rattle.pc_analysis_imports.proofs.WrittenLemmas.{IsWritten, written_all, written_step}
use Rattle.pc_analysis_imports.proofs.record.record_known_but.Goals as goal

pub loop-of_module-preserved : goal.loop-of_module-preserved
loop-of_module-preserved c =
    let l = c.loop-of_module in
    written_step with_known_but c.args.modules.now.items c.args.hidden.items l.left.items c.pop.new.self.items c.in-Some.of_module
    l.modules.items c.len-place.result c.index_mut.result.now c.put_known_but.new.core_module c.requires.count l.invariant.0
    l.invariant.1 c.in-Some.ensures.items (c.len-place.ensures ∙ c.pop.new.self.ok.0) c.index_mut.ensures.value
    c.put_known_but.ensures

pub returns : goal.returns
returns c =
    let l = c.loop-of_module in
    written_all with_known_but c.args.modules.now.items c.args.hidden.items l.modules.items c.requires.count
    (subst (λ n. IsWritten with_known_but c.args.modules.now.items c.args.hidden.items n l.modules.items)
    (sym l.left.ok.0 ∙ c.in_default.ensures.cases.0) l.invariant.1)
