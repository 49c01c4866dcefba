use Rattle.pc_inline_names.proofs.NumberedLemmas.{inserted_value, unnumbered_next}
use Rattle.pc_inline_names.proofs.modules.insert_value.Goals as goal

pub returns-in-Some : goal.returns-in-Some
returns-in-Some c =
    inserted_value c.args.texts.now c.args.numbered.now c.insert_first.new.self c.in-Some.number c.args.name.now
    c.args.value c.insert_first.result c.requires.names.distinct c.in-Some.ensures.held c.insert_first.ensures.ok

pub returns-in-None : goal.returns-in-None
returns-in-None c = λ entries has.
    unnumbered_next c.args.texts.now entries c.args.numbered.now c.args.name.now c.args.value has
    c.in-None.ensures.absent
