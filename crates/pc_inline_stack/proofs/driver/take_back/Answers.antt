use Rattle.pc_inline_stack.proofs.driver.take_back.Goals as goal

pub returns-clause-converted : goal.returns-clause-converted
returns-clause-converted c t old new sound keeps given are = c.exchange_plain.ensures.here t old new sound keeps given are
