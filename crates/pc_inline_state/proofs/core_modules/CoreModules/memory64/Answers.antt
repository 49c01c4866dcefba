use Rattle.std.proofs.Common.{Bool, List, sym, ap, ◌∙◌}
use Rattle.std.specs.Prelude.{slice_get, option_and_then}
use Rattle.std.specs.Option.{option_copied}
use Rattle.pc_types.specs.declared.module_record.ModuleRecord.{ModuleRecord}
use Rattle.pc_types.specs.Record.{memory_widths}
use Rattle.pc_inline_state.proofs.LookupLemmas.{found_memory}
use Rattle.pc_inline_state.proofs.core_modules.CoreModules.memory64.Goals as goal

pub returns-in-None : goal.returns-in-None
returns-in-None c =
    let n = c.args.core_module.0 in
    let i = c.args.memory.0 in
    let at = sym (ap option_copied c.in-None.is) ∙ c.at_module.ensures
    ∙ ap (λ widths. slice_get widths n) c.as_slice.ensures.value in
    ap (option_and_then (λ (ws : List Bool). slice_get ws i)) at
    ∙ found_memory c.self.inside.records.now c.self.inside.memories.items n i c.self.invariant
    ∙ ap (λ rs. option_and_then (λ (r : ModuleRecord). slice_get (memory_widths r) i) (slice_get rs n)) c.self.view_is

pub returns-in-Some : goal.returns-in-Some
returns-in-Some c =
    let n = c.args.core_module.0 in
    let i = c.args.memory.0 in
    let at = sym (ap option_copied c.in-Some.is) ∙ c.at_module.ensures
    ∙ ap (λ widths. slice_get widths n) c.as_slice.ensures.value in
    c.width_at.ensures
    ∙ ap (option_and_then (λ (ws : List Bool). slice_get ws i)) at
    ∙ found_memory c.self.inside.records.now c.self.inside.memories.items n i c.self.invariant
    ∙ ap (λ rs. option_and_then (λ (r : ModuleRecord). slice_get (memory_widths r) i) (slice_get rs n)) c.self.view_is
