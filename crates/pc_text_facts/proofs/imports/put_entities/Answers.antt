use Rattle.std.proofs.Common.{◌≡◌, ℕ, ◌++◌, ◌∙◌, ap, arith, option_map, subst}
use Rattle.pc_entity.specs.SecondaryMap.{value_at}
use Rattle.pc_spec_facts.specs.Text.{each_below, fact_line, known}
use Rattle.pc_text_facts.specs.Defined.{defined_as}
use Rattle.pc_text_facts.proofs.Below.{one_more}
use Rattle.pc_text_facts.proofs.imports.put_entities.Goals as goal

pub loop-n-preserved : goal.loop-n-preserved
loop-n-preserved g c k =
    one_more (λ n x. fact_line c.args.word.now known c.args.place n
    (option_map (defined_as g.T.EntityRef.number k) x))
    (value_at c.args.entities.now) _ _ _ _ _
    (c.get.ensures ∙ ap (value_at c.args.entities.now) (ap g.K.EntityRef.number c.from_u32.ensures
    ∙ g.met.K.EntityRef.number_of_number _))
    (c.loop-n.invariant k) (c.in_ok-put_known_entity.ensures k)

pub returns : goal.returns
returns g c k =
    let all : c.loop-n.n ≡ c.args.imported = omega (arith, c.loop-n.auto.n-end, c.loop-n-test.false) in
    subst (λ (m : ℕ). c.loop-n.out.items ≡ c.args.out.now.items
    ++ each_below m (λ n. fact_line c.args.word.now known c.args.place n
    (option_map (defined_as g.T.EntityRef.number k) (value_at c.args.entities.now n))))
    all (c.loop-n.invariant k)
