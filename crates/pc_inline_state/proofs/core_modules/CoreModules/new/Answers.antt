use Rattle.std.proofs.Common.{◌≡◌, ◌<◌, ◌+◌, ◌++◌, ◌∷◌, [], Bool, List, length, take, sym, subst, ap, ◌∙◌, arith}
use Rattle.std.specs.List.{AllZip}
use Rattle.std.proofs.lemmas.Grind.{take_at_read}
use Rattle.pc_inline_state.proofs.ZipLemmas.{zip_push}
use Rattle.pc_inline_state.specs.Index.{HasMemories}
use Rattle.pc_types.specs.declared.module_record.ModuleRecord.{ModuleRecord}
use Rattle.pc_types.specs.Record.{memory_widths}
use Rattle.pc_inline_state.proofs.core_modules.CoreModules.new.Goals as goal

pub loop-shared-preserved : goal.loop-shared-preserved
loop-shared-preserved c =
    let i = c.loop-shared.shared-index in
    let rs = c.args.records.now in
    let r = c.shared-item.result in
    let is_it = c.shared-item.is in
    let within : i < length rs = omega arith in
    let longer : take (i + 1) rs ≡ take i rs ++ r ∷ [] =
    (take_at_read rs i r within).1 ∙ (λ j. take i rs ++ sym is_it j ∷ []) in
    let widths = c.in_ok-memory_widths.field-0 in
    subst (λ (xs : List ModuleRecord). AllZip HasMemories xs c.push.new.self.items) (sym longer)
    (subst (λ (ys : List (List Bool)). AllZip HasMemories (take i rs ++ r ∷ []) ys)
    (sym {A = List (List Bool)} c.in_ok-push.ensures.items)
    (zip_push HasMemories (take i rs) c.loop-shared.memories.items r widths c.loop-shared.invariant
    (c.in_ok-memory_widths.ensures ∙ ap memory_widths c.get.ensures)))
