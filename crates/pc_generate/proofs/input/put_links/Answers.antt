use Rattle.std.proofs.Common.{◌≡◌, ◌+◌, ◌++◌, ◌∙◌, ap, append_assoc, arith}
use Rattle.pc_generate.specs.Generated.{link, links}
use Rattle.pc_generate.proofs.CountLemmas.{links_more}
use Rattle.pc_generate.proofs.input.put_links.Goals as goal

pub loop-number-preserved : goal.loop-number-preserved
loop-number-preserved c =
    let k = c.loop-number.number in
    let same : k ≡ 0 + k = omega arith in
    c.in_ok-put_link.ensures ∙ ap (λ list. list ++ link k) c.loop-number.invariant
    ∙ append_assoc c.args.list.now (links 0 k) (link k)
    ∙ ap (λ list. c.args.list.now ++ list) (ap (λ m. links 0 k ++ link m) same ∙ links_more 0 k)
