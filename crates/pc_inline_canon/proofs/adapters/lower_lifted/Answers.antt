use Rattle.std.proofs.Common.{ap, ◌∙◌}
use Rattle.pc_types_lists.specs.Types.{Types}
use Rattle.pc_inline_state.specs.AddsEach.{nowhere}
use Rattle.pc_inline_state.proofs.AddsLemmas.{adapter_few, each_refl}
use Rattle.pc_inline_state.proofs.StateLemmas.{keeps_trans}
use Rattle.pc_inline_canon.proofs.LiftedLemmas.{lifted_done}
use Rattle.pc_inline_canon.proofs.adapters.lower_lifted.Goals as goal

pub returns-in_err-number-clause-adds : goal.returns-in_err-number-clause-adds
returns-in_err-number-clause-adds c = adapter_few _ _ _ _ c.adapter_of.ensures.adds (each_refl nowhere 1 0 _)

pub returns-in_err-number-clause-resources : goal.returns-in_err-number-clause-resources
returns-in_err-number-clause-resources c = ap (λ (t : Types). t.resources) c.adapter_of.ensures.adds.types

pub returns-clause-keeps : goal.returns-clause-keeps
returns-clause-keeps c = keeps_trans _ _ _ c.adapter_of.ensures.keeps c.push_core.ensures.keeps

pub returns-clause-adds : goal.returns-clause-adds
returns-clause-adds c = adapter_few _ _ _ _ c.adapter_of.ensures.adds c.push_core.ensures.adds

pub returns-clause-resources : goal.returns-clause-resources
returns-clause-resources c =
    ap (λ (t : Types). t.resources) (c.push_core.ensures.adds.types ∙ c.adapter_of.ensures.adds.types)

pub returns-clause-lowers : goal.returns-clause-lowers
returns-clause-lowers c =
    lifted_done _ _ c.args.state.now _ c.requires.there c.requires.lift c.requires.lower c.adapter_of.new.state
    c.adapter_of.ensures.rest _ c.in_ok-number.ensures.has
    (record { builder = c.types_are_distinct.ensures; trees = c.numbers_are_trees.ensures })
    c.entries_are_distinct.ensures.all _ _ c.push_core.ensures.key c.push_core.ensures.ok
