use Rattle.std.proofs.Common.{◌≡◌, ◌+◌, ◌++◌, ◌∷◌, [], ℕ, List, take, sym, ap, subst, ◌∙◌}
use Rattle.std.specs.List.{AllZip}
use Rattle.pc_numbers.specs.declared.entity_index.EntityIndex.{EntityIndex}
use Rattle.pc_entity.specs.declared.string_pool.Atom.{Atom}
use Rattle.pc_entity.proofs.LookupLemmas.{done_here}
use Rattle.pc_types.specs.declared.module_record.ModuleRecord.{ModuleRecord}
use Rattle.pc_inline_names.specs.Numbers.{HasNumbers}
use Rattle.pc_inline_names.specs.Tables.{HasExports}
use Rattle.pc_inline_names.proofs.ZipLemmas.{zip_push}
use Rattle.pc_inline_names.proofs.modules.numbered_exports.Goals as goal

pub loop-record_-preserved : goal.loop-record_-preserved
loop-record_-preserved c =
    let names = c.args.texts.now in
    let i = c.loop-record_.record_-index in
    let rs = c.args.records.now in
    let r = c.record_-item.result in
    let map = c.in_ok-numbered_values.field-0 in
    let longer : take (i + 1) rs ≡ take i rs ++ r ∷ [] = done_here rs i r c.loop-record_-test.true c.record_-item.is in
    let exports = c.as_slice.ensures ∙ ap (λ (x : ModuleRecord). x.exports) c.get.ensures in
    let has : HasExports names r map =
    subst (λ (es : List (List ℕ × EntityIndex)). HasNumbers names es map) exports c.in_ok-numbered_values.ensures in
    subst (λ (xs : List ModuleRecord). AllZip (HasExports names) xs c.push.new.self) (sym longer)
    (subst (λ (ys : List (List (Atom × EntityIndex))). AllZip (HasExports names) (take i rs ++ r ∷ []) ys)
    (sym c.in_ok-push.ensures.ok)
    (zip_push (HasExports names) (take i rs) c.loop-record_.all r map c.loop-record_.invariant has))
