use Rattle.std.proofs.Common.{◌≡◌, ◌+◌, map, ◌∙◌}
use Rattle.pc_weights.specs.Capped.{capped}
use Rattle.pc_weights.specs.Local.{body_sum, prepared_sum, translation_weight}
use Rattle.pc_weights.proofs.WeightLemmas.{bodies_weigh, root_weighs}
use Rattle.pc_weights.proofs.weights.Weights.new.Goals as goal

pub returns : goal.returns
returns c =
    let t = c.args.table.now in
    let p = c.args.program.now in
    let table = c.in_ok-scale.ensures.table in
    let modules : c.in_ok-scale.scale.modules.now ≡ p.modules =
    c.in_ok-scale.ensures.modules ∙ c.as_slice.ensures in
    let items = c.as_slice-2.ensures in
    let bodies = c.as_slice-3.ensures in
    record {
      root =
          root_weighs t p.modules p.root _
          (c.root_weight-root.ensures
          ∙ (λ i. capped
          (body_sum (table i) (modules i) (items i) + prepared_sum (table i) (modules i) (items i))));
      bodies =
          bodies_weigh t p.modules p.components _
          (c.from_vec.ensures ∙ c.in_ok-bodies.ensures
          ∙ (λ i. map (translation_weight (table i) (modules i)) (bodies i)));
    }
