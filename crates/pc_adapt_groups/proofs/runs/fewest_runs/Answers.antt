use Rattle.std.proofs.Common.{◌≡◌, ◌+◌, ◌-◌, ◌++◌, ◌∷◌, [], length, get_or, sym}
use Rattle.std.proofs.Common.{subst, ap, ◌∙◌, arith}
use Rattle.std.proofs.lemmas.Option.{slice_get-get_or}
use Rattle.pc_adapt_groups.specs.Lengths.{Reaches, runs_from}
use Rattle.pc_spec_adapt.specs.Split.{IsFewest}
use Rattle.pc_adapt_groups.proofs.GroupLemmas.{Grouped, grouped_more, grouped_closed, grouped_end, grouped_none}
use Rattle.pc_adapt_groups.proofs.runs.fewest_runs.Goals.{then-needed-a+in_ok-push, else-needed-a}
use Rattle.pc_adapt_groups.proofs.runs.fewest_runs.Goals.{then-start-needed+in_ok-push-2, else-start-needed}
use Rattle.pc_adapt_groups.proofs.runs.fewest_runs.Goals as goal

pub loop-a-preserved : goal.loop-a-preserved
loop-a-preserved c =
    let needed = c.args.needed.now in
    let i = c.loop-a.a in
    let at = slice_get-get_or needed i 0 c.loop-a-test.true in
    let m = get_or needed i 0 in
    elim c.if-needed-a.branch [
      | then-needed-a+in_ok-push w ↦
          let items : c.if-needed-a.lengths.items ≡ c.loop-a.lengths.items ++ (i - c.loop-a.start) ∷ [] =
          ap (λ v. v.items) w.lengths-is ∙ w.in_ok-push.ensures.items in
          subst (λ s. Grouped needed (i + 1) s c.if-needed-a.lengths.items) (sym w.start-is)
          (subst (Grouped needed (i + 1) i) (sym items)
          (grouped_closed needed i c.loop-a.start c.loop-a.lengths.items m c.loop-a.invariant at w.if-needed-a.true
          (c.requires.lower i m at)))
      | else-needed-a w ↦
          let items : c.if-needed-a.lengths.items ≡ c.loop-a.lengths.items = ap (λ v. v.items) w.lengths-is in
          subst (λ s. Grouped needed (i + 1) s c.if-needed-a.lengths.items) (sym w.start-is)
          (subst (Grouped needed (i + 1) c.loop-a.start) (sym items)
          (grouped_more needed i c.loop-a.start c.loop-a.lengths.items m c.loop-a.invariant at w.if-needed-a.false))
    ]

pub returns : goal.returns
returns c =
    let needed = c.args.needed.now in
    let start = c.loop-a.start in
    let ls = c.loop-a.lengths.items in
    let whole : Grouped needed (length needed) start ls =
    subst (λ n. Grouped needed n start ls) (omega (arith, c.loop-a-test.false, c.loop-a.auto.a-end))
    c.loop-a.invariant in
    elim c.if-start-needed.branch [
      | then-start-needed+in_ok-push-2 w ↦
          let items : c.if-start-needed.lengths.items ≡ ls ++ (length needed - start) ∷ [] =
          ap (λ v. v.items) w.lengths-is ∙ w.in_ok-push-2.ensures.items in
          subst (λ xs. IsFewest (Reaches needed) (length needed) (runs_from 0 xs)) (sym items)
          (grouped_end needed start ls whole w.if-start-needed.true)
      | else-start-needed w ↦
          subst (λ xs. IsFewest (Reaches needed) (length needed) (runs_from 0 xs))
          (sym (ap (λ v. v.items) w.lengths-is)) (grouped_none needed start ls whole w.if-start-needed.false)
    ]
