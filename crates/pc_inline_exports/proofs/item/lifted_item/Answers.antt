use Rattle.std.proofs.Common.{Some, ap, sym, ◌∙◌}
use Rattle.pc_inline_exports.proofs.ItemLemmas.{lifted_held, lifted_options, options_made}
use Rattle.pc_inline_exports.proofs.LeafLemmas.{lacks_leaf, lifted_counts, lifted_leaf, no_memory_leaf}
use Rattle.pc_inline_exports.proofs.item.lifted_item.Goals as goal

pub options_entry-requires-clause-there : goal.options_entry-requires-clause-there
options_entry-requires-clause-there c = lifted_options _ _ _ _ _ _ c.requires.is

pub returns-in_err-options : goal.returns-in_err-options
returns-in_err-options c =
    options_made _ _ _ _ _ c.options_entry.ensures.prepares c.options_entry.ensures.adds _
    (lacks_leaf _ _ _ _ _ _ _ c.from_residual.ensures.1 c.in_err-options.ensures.err (lifted_counts _ _ _ _ _ _))

pub index-requires : goal.index-requires
index-requires c = lifted_held _ _ _ _ _ _ _ c.options_entry.ensures.prepares c.requires.is

pub returns-in_err-func : goal.returns-in_err-func
returns-in_err-func c =
    options_made _ _ _ _ _ c.options_entry.ensures.prepares c.options_entry.ensures.adds _
    (no_memory_leaf _ _ _ _ _ _ c.from_residual-in_err-func.ensures.1 (lifted_counts _ _ _ _ _ _))

pub returns : goal.returns
returns c =
    let p = c.options_entry.ensures.prepares in
    options_made _ _ _ _ _ p c.options_entry.ensures.adds _
    (lifted_leaf _ _ _ _ p _ _ _ _ (c.index.ensures ∙ ap Some (sym c.in_ok-func.ensures)) _
    c.in_ok-options.ensures.entry c.in_ok-options.ensures.held)
