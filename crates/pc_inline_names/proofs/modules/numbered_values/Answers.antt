use Rattle.std.proofs.Common.{◌≡◌, ◌+◌, ◌++◌, ◌∷◌, [], take, sym, subst, arith}
use Rattle.std.proofs.lemmas.List.{take_all}
use Rattle.pc_entity.proofs.LookupLemmas.{done_here}
use Rattle.pc_inline_names.specs.Numbers.{HasNumbers}
use Rattle.pc_inline_names.proofs.modules.numbered_values.Goals as goal

pub loop-export-preserved : goal.loop-export-preserved
loop-export-preserved c =
    let i = c.loop-export.export-index in
    let es = c.args.exports.now in
    let e = c.export-item.result in
    let longer : take (i + 1) es ≡ take i es ++ e ∷ [] = done_here es i e c.loop-export-test.true c.export-item.is in
    subst (λ ys. HasNumbers c.args.texts.now ys c.insert_value.new.numbered) (sym longer)
    (c.in_ok-insert_value.ensures (take i es) c.loop-export.invariant)

pub returns : goal.returns
returns c =
    let es = c.args.exports.now in
    subst (λ ys. HasNumbers c.args.texts.now ys c.loop-export.numbered)
    (take_all c.loop-export.export-index es (omega arith)) c.loop-export.invariant
