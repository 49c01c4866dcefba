use Rattle.std.proofs.Common.{◌≡◌, suc, ◌+◌, [], ◌∷◌, ◌++◌, sym, ap, ◌∙◌, arith}
use Rattle.std.specs.Prelude.{replicate}
use Rattle.std.proofs.lemmas.List.{append_assoc}
use Rattle.pc_types.specs.declared.parsed.CoreEntity.TheVariants as core
use Rattle.pc_adapt_modules.proofs.RecordLemmas.{replicate_more}
use Rattle.pc_adapt_modules.proofs.entities.put_functions.Goals as goal

pub loop-place-preserved : goal.loop-place-preserved
loop-place-preserved c =
    let f = core.Func c.args.signature.0 in
    let k = c.loop-place.place in
    let before = c.args.entities.now.items in
    let next : suc k ≡ k + 1 = omega arith in
    c.in_ok-push.ensures.items
    ∙ (λ i. c.loop-place.invariant i ++ c.function.ensures i ∷ [])
    ∙ append_assoc before (replicate k f) (f ∷ [])
    ∙ ap (λ ys. before ++ ys) (sym (replicate_more k f))
    ∙ ap (λ n. before ++ replicate n f) next
