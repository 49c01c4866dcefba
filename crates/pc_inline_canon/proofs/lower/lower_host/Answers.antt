use Rattle.std.proofs.Common.{ap, refl, ◌∙◌}
use Rattle.pc_entity.proofs.LookupLemmas.{found_at}
use Rattle.pc_types_lists.specs.Types.{Types}
use Rattle.pc_dfg.specs.Lists as list
use Rattle.pc_inline_canon.proofs.LowerHostLemmas.{import_few, lowered_few, lowered_keeps, options_few, trampoline_few}
use Rattle.pc_inline_canon.proofs.LowerHostLemmas.{trampoline_keeps}
use Rattle.pc_inline_canon.proofs.LoweredLemmas.{lowers_all, options_there_kept}
use Rattle.pc_inline_canon.proofs.RoomLemmas.{list_lacks}
use Rattle.pc_inline_state.proofs.StateLemmas.{keeps_trans}
use Rattle.pc_inline_canon.proofs.lower.lower_host.Goals as goal

pub options_entry-requires : goal.options_entry-requires
options_entry-requires c = record {
  sound =
      let held = found_at c.args.state.now.paths.held c.args.path.0 c.requires.there in
      (c.in_ok-index.ensures.uses held.0 held.1).sound c.requires.sound;
  there = options_there_kept _ _ _ c.use_host.ensures.keeps c.args.options c.requires.options;
}

pub returns-in_err-entry-clause-keeps : goal.returns-in_err-entry-clause-keeps
returns-in_err-entry-clause-keeps c =
    keeps_trans _ _ _ c.use_host.ensures.keeps c.options_entry.ensures.prepares.keeps

pub returns-in_err-number-clause-keeps : goal.returns-in_err-number-clause-keeps
returns-in_err-number-clause-keeps c =
    trampoline_keeps c.use_host.ensures.keeps c.options_entry.ensures.prepares.keeps c.push_trampoline.ensures.grows
    c.push_trampoline.ensures.rest

pub returns-in_err-number-clause-err : goal.returns-in_err-number-clause-err
returns-in_err-number-clause-err c =
    list_lacks list.trampolines _ _ c.push_trampoline.ensures.grows _ _ c.in_err-number.was
    c.push_trampoline.ensures.full.0 _ c.from_residual-in_err-number.ensures.1

pub returns-clause-keeps : goal.returns-clause-keeps
returns-clause-keeps c =
    lowered_keeps c.use_host.ensures.keeps c.options_entry.ensures.prepares.keeps c.push_trampoline.ensures.grows
    c.push_trampoline.ensures.rest _ c.push_core.ensures.keeps

pub returns-clause-lowers : goal.returns-clause-lowers
returns-clause-lowers c =
    lowers_all _ _ c.args.state.now c.use_host.new.state c.options_entry.new.state _ _ _ _ _ _ _ refl _ _
    c.use_host.ensures.keeps _ c.in_ok-index.ensures.uses c.options_entry.ensures.prepares c.in_ok-entry.ensures.entry
    c.in_ok-entry.ensures.held c.push_trampoline.ensures.grows c.push_trampoline.ensures.rest
    c.push_trampoline.ensures.ordered c.push_trampoline.ensures.put c.in_ok-number.ensures.held c.push_core.ensures.key
    c.push_core.ensures.ok

pub returns-clause-err : goal.returns-clause-err
returns-clause-err c = c.push_core.ensures.lacks

pub returns-in_err-index-clause-adds : goal.returns-in_err-index-clause-adds
returns-in_err-index-clause-adds c = import_few _ c.use_host.ensures.adds

pub returns-in_err-entry-clause-adds : goal.returns-in_err-entry-clause-adds
returns-in_err-entry-clause-adds c = options_few _ c.use_host.ensures.adds c.options_entry.ensures.adds

pub returns-in_err-number-clause-adds : goal.returns-in_err-number-clause-adds
returns-in_err-number-clause-adds c =
    trampoline_few _ c.use_host.ensures.adds c.options_entry.ensures.adds c.push_trampoline.ensures.rest
    c.push_trampoline.ensures.put

pub returns-clause-adds : goal.returns-clause-adds
returns-clause-adds c =
    lowered_few _ c.use_host.ensures.adds c.options_entry.ensures.adds c.push_trampoline.ensures.rest
    c.push_trampoline.ensures.put _ c.push_core.ensures.adds

pub returns-in_err-index-clause-resources : goal.returns-in_err-index-clause-resources
returns-in_err-index-clause-resources c = ap (λ (t : Types). t.resources) c.use_host.ensures.adds.types

pub returns-in_err-entry-clause-resources : goal.returns-in_err-entry-clause-resources
returns-in_err-entry-clause-resources c =
    c.options_entry.ensures.prepares.resources ∙ ap (λ (t : Types). t.resources) c.use_host.ensures.adds.types

pub returns-in_err-number-clause-resources : goal.returns-in_err-number-clause-resources
returns-in_err-number-clause-resources c =
    c.options_entry.ensures.prepares.resources ∙ ap (λ (t : Types). t.resources) c.use_host.ensures.adds.types

pub returns-clause-resources : goal.returns-clause-resources
returns-clause-resources c =
    ap (λ (t : Types). t.resources) c.push_core.ensures.adds.types ∙ c.options_entry.ensures.prepares.resources
    ∙ ap (λ (t : Types). t.resources) c.use_host.ensures.adds.types
