use Rattle.std.proofs.Common.{◌≡◌, sym, ◌∙◌}
use Rattle.std.proofs.lemmas.Bool.{eqb-true}
use Rattle.pc_test_adapt_graph.proofs.HeldLemmas.{two_from}
use Rattle.pc_test_adapt_graph.proofs.typed.has_two.Goals as goal

pub returns-then-as_u32-eq0 : goal.returns-then-as_u32-eq0
returns-then-as_u32-eq0 c is =
    let one : c.as_u32-then-as_u32-eq0.result ≡ 1 = eqb-true c.as_u32-then-as_u32-eq0.result 1 is in
    two_from c.args.table.now c.convert_func.new.self c.convert_func-2.new.self c.in-Ok.first
    c.in-Ok-convert_func.second c.in-Ok.ensures.tree c.convert_func-2.ensures.grows c.in-Ok-convert_func.ensures.tree
    c.in-Ok-convert_func.ensures.ok.1 (sym c.as_u32.ensures ∙ c.if-as_u32-eq0.true)
    (sym c.as_u32-then-as_u32-eq0.ensures ∙ one)
