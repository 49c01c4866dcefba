use Rattle.pc_inline_builtins.proofs.DeclaredLemmas.{declares_all}
use Rattle.pc_inline_builtins.proofs.declared.declare.Goals as goal

pub returns-clause-declares : goal.returns-clause-declares
returns-clause-declares c =
    declares_all _ _ c.args.state.now _ _ _ _ _ c.trampoline_of.ensures c.push_trampoline.new.self c.requires.begun
    c.requires.held c.push_trampoline.ensures.keeps c.push_trampoline.ensures.put c.push_trampoline.ensures.ordered
    c.push_trampoline.ensures.rest _ c.push_trampoline.ensures.is
