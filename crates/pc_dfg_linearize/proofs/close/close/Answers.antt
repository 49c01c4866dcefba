use Rattle.std.proofs.Common.{◌≡◌, All, subst}
use Rattle.pc_dfg.specs.declared.dfg.ComponentDfg.{ComponentDfg}
use Rattle.pc_dfg_linearize.specs.declared.id.Id.{Id}
use Rattle.pc_dfg_linearize.specs.declared.state.Finish.{Finish}
use Rattle.pc_dfg_linearize.specs.Parts.{HasNumber, parts}
use Rattle.pc_dfg_linearize.proofs.close.close.Goals as goal

-- what an id depends on has its numbers, whatever the id is called
numbered : (g : ComponentDfg) (f : Finish) (x y : Id) → x ≡ y → All (HasNumber f) (parts g x)
    → All (HasNumber f) (parts g y)
numbered g f x y is = subst (λ z. All (HasNumber f) (parts g z)) is

pub close_memory-requires-clause-numbered : goal.close_memory-requires-clause-numbered
close_memory-requires-clause-numbered c = numbered _ _ _ _ c.in-Memory.is c.requires.numbered

pub close_table-requires-clause-numbered : goal.close_table-requires-clause-numbered
close_table-requires-clause-numbered c = numbered _ _ _ _ c.in-Table.is c.requires.numbered

pub close_realloc-requires-clause-numbered : goal.close_realloc-requires-clause-numbered
close_realloc-requires-clause-numbered c = numbered _ _ _ _ c.in-Realloc.is c.requires.numbered

pub close_callback-requires-clause-numbered : goal.close_callback-requires-clause-numbered
close_callback-requires-clause-numbered c = numbered _ _ _ _ c.in-Callback.is c.requires.numbered

pub close_post_return-requires-clause-numbered : goal.close_post_return-requires-clause-numbered
close_post_return-requires-clause-numbered c = numbered _ _ _ _ c.in-PostReturn.is c.requires.numbered

pub close_options-requires-clause-numbered : goal.close_options-requires-clause-numbered
close_options-requires-clause-numbered c = numbered _ _ _ _ c.in-Options.is c.requires.numbered

pub close_lowering-requires-clause-numbered : goal.close_lowering-requires-clause-numbered
close_lowering-requires-clause-numbered c = numbered _ _ _ _ c.in-Lowering.is c.requires.numbered

pub close_trampoline-requires-clause-numbered : goal.close_trampoline-requires-clause-numbered
close_trampoline-requires-clause-numbered c = numbered _ _ _ _ c.in-Trampoline.is c.requires.numbered

pub close_adapter_module-requires-clause-numbered : goal.close_adapter_module-requires-clause-numbered
close_adapter_module-requires-clause-numbered c = numbered _ _ _ _ c.in-AdapterModule.is c.requires.numbered
