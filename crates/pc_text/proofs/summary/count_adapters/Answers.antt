use Rattle.std.proofs.Common.{◌≡◌, ℕ, ap, arith, get_or, length, sym, ◌∙◌}
use Rattle.std.proofs.lemmas.List.{take_all}
use Rattle.std.proofs.lemmas.List.Sums.{sum_by_more_le}
use Rattle.std.specs.List.{sum_by}
use Rattle.pc_info.specs.declared.module.ModuleTranslation.{ModuleTranslation}
use Rattle.pc_text.proofs.Modules.{adapters-total}
use Rattle.pc_text.proofs.summary.count_adapters.Goals as goal

pub overflow_add-count : goal.overflow_add-count
overflow_add-count c =
    let most = sum_by_more_le (λ (m : ModuleTranslation). length m.adapters) c.args.modules.now
    c.loop-module.module-index c.module-item.result c.loop-module-test.true in
    let this = ap (λ (m : ModuleTranslation). length m.adapters) c.module-item.is in
    let all = adapters-total 0 c.args.modules.now in
    omega (arith, c.loop-module.invariant, most, this, all, c.len.ensures, c.requires.few)

pub returns : goal.returns
returns c =
    c.loop-module.invariant
    ∙ ap (sum_by (λ (m : ModuleTranslation). length m.adapters))
    (take_all c.loop-module.module-index c.args.modules.now (omega (arith, c.loop-module-test.false)))
    ∙ sym (adapters-total 0 c.args.modules.now)
