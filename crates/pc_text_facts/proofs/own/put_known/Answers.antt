use Rattle.std.proofs.Common.{◌∙◌, ap}
use Rattle.pc_spec_facts.specs.Recorded.{is_known_by}
use Rattle.pc_spec_facts.specs.Text.{known_line}
use Rattle.pc_text_facts.proofs.Below.{one_more}
use Rattle.pc_text_facts.proofs.own.put_known.Goals as goal

pub loop-n-preserved : goal.loop-n-preserved
loop-n-preserved g c =
    one_more (known_line c.args.word.now c.args.place) (is_known_by c.args.known.now) _ _ _ _ _
    (c.contains.ensures ∙ ap (is_known_by c.args.known.now) (ap g.K.EntityRef.number c.from_u32.ensures
    ∙ g.met.K.EntityRef.number_of_number _))
    c.loop-n.invariant c.in_ok-put_entity.ensures
