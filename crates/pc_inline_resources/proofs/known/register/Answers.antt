use Rattle.pc_inline_resources.proofs.RegisterLemmas.{registered_steps}
use Rattle.pc_inline_resources.proofs.known.register.Goals as goal

pub make_known-requires : goal.make_known-requires
make_known-requires c = record { sound = c.requires.input.table; converted = c.requires.here.1.converted }

pub returns-clause-steps : goal.returns-clause-steps
returns-clause-steps c i is =
    registered_steps _ _ _ _ _ _ _ _ i is c.make_known.ensures.rest c.make_known.ensures.frame
    c.make_known.ensures.current c.make_known.ensures.converted _ c.make_known.ensures.known c.make_known.ensures.err
