use Rattle.std.proofs.lemmas.Result.{on_ok_weaker}
use Rattle.pc_text_facts.proofs.Groups.{all_groups}
use Rattle.pc_text_facts.proofs.modules.put_module.Goals as goal

pub returns : goal.returns
returns c =
    on_ok_weaker c.put_own.result
    (all_groups c.args.place c.args.which.now _ _ _ _ _ _ c.in_ok-put_functions_of.ensures
    c.in_ok-put_globals_of.ensures c.in_ok-put_memories_of.ensures c.in_ok-put_tables_of.ensures)
    c.put_own.ensures
