use Rattle.std.proofs.Common.{[], ap, ◌∙◌}
use Rattle.std.specs.Prelude.{unwrap_or}
use Rattle.pc_entity.specs.FirstValues.{with_first}
use Rattle.pc_entity.specs.Lists.{value_of, with_value}
use Rattle.pc_inline_modules.proofs.GroupLemmas.{with_value_twice}
use Rattle.pc_inline_modules.proofs.grouped.add_argument.Goals as goal

pub returns : goal.returns
returns c =
    let old = c.args.args.now in
    let m = c.args.import.now.0 in
    let n = c.args.import.now.1 in
    let held = c.or_none-of_module.ensures
    ∙ ap (λ o. unwrap_or o []) (c.in_ok-of_module.ensures.old ∙ ap (λ k. value_of k old) c.in_ok-try_clone.ensures) in
    let given = c.in_ok-insert_first.ensures.ok ∙ ap (λ l. with_first l (n, c.args.def)) held in
    let first = c.in_ok-of_module.ensures.ok
    ∙ (λ i. with_value old (c.in_ok-try_clone.ensures i) (c.new.ensures i)) in
    c.in_ok-insert.ensures.ok
    ∙ (λ i. with_value (first i) (c.in_ok-try_clone-2.ensures i) (given i))
    ∙ with_value_twice old m [] (with_first (unwrap_or (value_of m old) []) (n, c.args.def))
