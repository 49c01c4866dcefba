use Rattle.std.proofs.Common.{◌≡◌, ◌+◌, ◌++◌, ◌∷◌, [], length, refl, sym, ap, subst, ◌∙◌, length-append}
use Rattle.std.specs.Prelude.{Some, slice_get}
use Rattle.std.proofs.lemmas.Option.{slice_get_read}
use Rattle.pc_analysis_contexts.specs.Homes.{AreMade}
use Rattle.pc_analysis_contexts.specs.Keys.{made_for}
use Rattle.pc_analysis_contexts.proofs.MadeLemmas.{instance_more}
use Rattle.pc_analysis_contexts.proofs.made.instances.Goals as goal

pub loop-instance-preserved : goal.loop-instance-preserved
loop-instance-preserved c =
    let g = c.args.graph.now in
    let k = c.loop-instance.instance-index in
    let xs = c.as_slice-instance-items.result.now in
    let x = c.instance-item.result in
    let known = c.loop-instance.known.items in
    let at : slice_get g.instances k ≡ Some x =
    sym (ap (λ ys. slice_get ys k) c.as_slice-instance-items.ensures)
    ∙ slice_get_read xs (length xs) k x refl c.loop-instance-test.true c.instance-item.is in
    let items : c.push.new.self.items ≡ known ++ c.in_ok-made.made ∷ [] = c.in_ok-push.ensures.items in
    let is : c.in_ok-made.made ≡ made_for c.args.indexes.now known g x =
    c.in_ok-made.ensures ∙ ap (λ ks. made_for c.args.indexes.now ks g x) c.as_slice.ensures.value in
    record {
      size =
          ap length items ∙ length-append known (c.in_ok-made.made ∷ [])
          ∙ ap (λ n. n + 1) c.loop-instance.invariant.size;
      made = λ records all defined.
          let before = c.loop-instance.invariant.made records all defined in
          let next : slice_get g.instances (length known) ≡ Some x =
          ap (slice_get g.instances) c.loop-instance.invariant.size ∙ at in
          subst (AreMade g records) (sym items)
          (subst (λ y. AreMade g records (known ++ y ∷ [])) (sym is)
          (instance_more g records c.args.indexes.now all defined known before c.requires.ordered x next));
    }
