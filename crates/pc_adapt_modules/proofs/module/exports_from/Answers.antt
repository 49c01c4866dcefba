use Rattle.std.proofs.Common.{◌≡◌, suc, ◌+◌, [], ◌∷◌, ◌++◌, sym, ap, ◌∙◌, arith}
use Rattle.pc_numbers.specs.declared.entity_index.EntityIndex.TheVariants as entity
use Rattle.pc_adapt_modules.specs.Exports.{exports_of}
use Rattle.pc_adapt_modules.proofs.RecordLemmas.{exports_more}
use Rattle.pc_adapt_modules.proofs.module.exports_from.Goals as goal

pub loop-place-preserved : goal.loop-place-preserved
loop-place-preserved c =
    let f = c.args.function in
    let n = c.args.number in
    let k = c.loop-place.place in
    let next : suc k ≡ k + 1 = omega arith in
    c.in_ok-push.ensures.ok
    ∙ (λ i. c.loop-place.invariant i ++ (c.in_ok-name.ensures i, entity.Function (c.from_u32-func.ensures i)) ∷ [])
    ∙ sym (exports_more f n k)
    ∙ ap (exports_of f n) next
