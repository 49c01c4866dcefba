use Rattle.pc_inline_exports.proofs.ItemLemmas.{func_held, host_made}
use Rattle.pc_inline_exports.proofs.LeafLemmas.{func_counts, func_leaf, lacks_leaf}
use Rattle.pc_inline_exports.proofs.item.host_func_item.Goals as goal

pub use_host-requires-clause-there : goal.use_host-requires-clause-there
use_host-requires-clause-there c = func_held _ _ _ _ _ c.requires.is

pub returns-in_err-import : goal.returns-in_err-import
returns-in_err-import c =
    let e = c.use_host.ensures in
    host_made _ _ _ _ _ e.keeps e.adds e.rest _
    (lacks_leaf _ _ _ _ _ _ _ c.from_residual.ensures.1 c.in_err-import.ensures.err (func_counts _ _ _ _ _))

pub returns : goal.returns
returns c =
    let e = c.use_host.ensures in
    host_made _ _ _ _ _ e.keeps e.adds e.rest _ (func_leaf _ _ _ _ e.keeps _ _ c.in_ok-import.ensures.uses _)
