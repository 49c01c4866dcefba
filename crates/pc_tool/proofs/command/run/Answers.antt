use Rattle.std.proofs.Common.{map, refl, sym, ◌∙◌}
use Rattle.std.specs.String.{string_bytes}
use Rattle.pc_tool.specs.declared.words.Command.TheVariants as command
use Rattle.pc_tool.proofs.ChainEndLemmas.{chain_unread, chain_within, ended_on, words_apart}
use Rattle.pc_tool.proofs.command.run.Goals as goal

pub write_chain-requires : goal.write_chain-requires
write_chain-requires g c = record {
  few = chain_within (map string_bytes c.args.words.now) c.in-Some.n (sym c.chain_of.ensures ∙ c.in-Some.is);
}

pub returns-in-Some-clause-translated : goal.returns-in-Some-clause-translated
returns-in-Some-clause-translated g c is e =
    absurd (words_apart (map string_bytes c.args.words.now) command.Translate c.in-Some.n is
    (sym c.chain_of.ensures ∙ c.in-Some.is))

pub returns-in-Some-clause-context : goal.returns-in-Some-clause-context
returns-in-Some-clause-context g c is e =
    absurd (words_apart (map string_bytes c.args.words.now) command.Context c.in-Some.n is
    (sym c.chain_of.ensures ∙ c.in-Some.is))

pub returns-in-Some-clause-facts : goal.returns-in-Some-clause-facts
returns-in-Some-clause-facts g c is e =
    absurd (words_apart (map string_bytes c.args.words.now) command.Facts c.in-Some.n is
    (sym c.chain_of.ensures ∙ c.in-Some.is))

pub returns-in-Some-clause-generated : goal.returns-in-Some-clause-generated
returns-in-Some-clause-generated g c n is =
    chain_unread _ n _ _ _ _ _ _ _ (cc (c.chain_of.ensures, c.in-Some.is, is)) refl c.write_chain.ensures

pub returns-in-None-clause-translated : goal.returns-in-None-clause-translated
returns-in-None-clause-translated g c is e =
    c.serve.ensures.ended.done command.Translate (cc (c.command_of.ensures, is)) e

pub returns-in-None-clause-context : goal.returns-in-None-clause-context
returns-in-None-clause-context g c is e =
    c.serve.ensures.ended.done command.Context (cc (c.command_of.ensures, is)) e

pub returns-in-None-clause-facts : goal.returns-in-None-clause-facts
returns-in-None-clause-facts g c is e =
    c.serve.ensures.ended.done command.Facts (cc (c.command_of.ensures, is)) e

pub returns-in-None-clause-no_command : goal.returns-in-None-clause-no_command
returns-in-None-clause-no_command g c none alone = c.serve.ensures.no_command (cc (c.command_of.ensures, none))

pub returns-in-None-clause-ended : goal.returns-in-None-clause-ended
returns-in-None-clause-ended g c none =
    ended_on _ _ _ _ _ _ _ _ _ _ _ _ c.command_of.ensures c.serve.ensures.ended
