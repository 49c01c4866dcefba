use Rattle.std.proofs.Common.{subst, sym, ◌∙◌}
use Rattle.pc_analysis_imports.specs.Imports.{with_imports}
use Rattle.pc_analysis_imports.proofs.WrittenLemmas.{IsWritten, written_all, written_step}
use Rattle.pc_analysis_imports.proofs.record.record_imports.Goals as goal

pub loop-found-preserved : goal.loop-found-preserved
loop-found-preserved c =
    let l = c.loop-found in
    written_step with_imports c.args.modules.now.items c.args.imports.items l.left.items c.pop.new.self.items c.in-Some.found
    l.modules.items c.len-place.result c.index_mut.result.now c.put_imports.new.core_module c.requires.count l.invariant.0
    l.invariant.1 c.in-Some.ensures.items (c.len-place.ensures ∙ c.pop.new.self.ok.0) c.index_mut.ensures.value
    c.put_imports.ensures

pub returns : goal.returns
returns c =
    let l = c.loop-found in
    written_all with_imports c.args.modules.now.items c.args.imports.items l.modules.items c.requires.count
    (subst (λ n. IsWritten with_imports c.args.modules.now.items c.args.imports.items n l.modules.items)
    (sym l.left.ok.0 ∙ c.in_default.ensures.cases.0) l.invariant.1)
