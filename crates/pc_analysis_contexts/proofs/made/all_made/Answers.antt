use Rattle.std.proofs.Common.{◌≡◌, ◌+◌, ◌++◌, ◌∷◌, [], length, refl, sym, ap, subst, ◌∙◌, arith, length-append}
use Rattle.std.specs.Prelude.{Some, slice_get}
use Rattle.std.proofs.lemmas.Option.{slice_get_read}
use Rattle.pc_analysis_contexts.specs.Homes.{AreMade}
use Rattle.pc_analysis_contexts.specs.Keys.{made_of}
use Rattle.pc_analysis_contexts.proofs.MadeLemmas.{all_known, module_more}
use Rattle.pc_analysis_contexts.proofs.made.all_made.Goals as goal

pub loop-adapters-preserved : goal.loop-adapters-preserved
loop-adapters-preserved c =
    let g = c.args.graph.now in
    let k = c.loop-adapters.adapters-index in
    let xs = c.as_slice-adapters-items.result.now in
    let x = c.adapters-item.result in
    let known = c.loop-adapters.known.items in
    let at : slice_get g.adapter_modules k ≡ Some x =
    sym (ap (λ ys. slice_get ys k) c.as_slice-adapters-items.ensures)
    ∙ slice_get_read xs (length xs) k x refl c.loop-adapters-test.true c.adapters-item.is in
    let items : c.push.new.self.items ≡ known ++ c.in_ok-made.made ∷ [] = c.in_ok-push.ensures.items in
    let is : c.in_ok-made.made ≡ made_of c.args.indexes.now known g x.0 x.1 =
    c.in_ok-made.ensures
    ∙ ap (λ ks. made_of c.args.indexes.now ks g x.0 c.as_slice-in-loop-adapters.result.now) c.as_slice.ensures.value
    ∙ ap (made_of c.args.indexes.now known g x.0) c.as_slice-in-loop-adapters.ensures in
    record {
      size =
          let more : length (known ++ c.in_ok-made.made ∷ []) ≡ length known + 1 =
          length-append known (c.in_ok-made.made ∷ []) in
          ap length items ∙ omega (arith, more, c.loop-adapters.invariant.size);
      made = λ records all defined.
          let before = c.loop-adapters.invariant.made records all defined in
          let ordered = c.requires.ordered in
          let many = c.loop-adapters.invariant.size in
          subst (AreMade g records) (sym items)
          (subst (λ y. AreMade g records (known ++ y ∷ [])) (sym is)
          (module_more g records c.args.indexes.now all defined known before ordered k x many at));
    }

pub returns : goal.returns
returns c =
    let g = c.args.graph.now in
    let many : length c.loop-adapters.known.items ≡ length g.instances + length g.adapter_modules =
    omega (
      arith,
      c.loop-adapters.invariant.size,
      c.loop-adapters-test.false,
      c.loop-adapters.auto.adapters-index-end,
      ap length c.as_slice-adapters-items.ensures,
    ) in
    λ records all defined.
    all_known g records c.loop-adapters.known.items (c.loop-adapters.invariant.made records all defined) many
