use Rattle.pc_inline_canon.proofs.SideLemmas.{model_gc, model_linear}
use Rattle.pc_inline_canon.proofs.adapters.side_model.Goals as goal

pub returns-in-Gc : goal.returns-in-Gc
returns-in-Gc c = model_gc _ _ _ _ c.in-Gc.is

pub returns-in_ok-side_definition-in-LinearMemory : goal.returns-in_ok-side_definition-in-LinearMemory
returns-in_ok-side_definition-in-LinearMemory c =
    model_linear _ _ _ _ _ _ _ _ c.in-LinearMemory.is c.in_ok-side_memory-in-LinearMemory.ensures
    c.in_ok-side_definition-in-LinearMemory.ensures
