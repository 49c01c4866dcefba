use Rattle.std.proofs.Common.{◌≡◌, ◌<◌, ◌≤◌, ◌+◌, ℕ, List, length, get_or, take, refl, sym, ap, subst, ◌∙◌, arith}
use Rattle.std.specs.Prelude.{Some, slice_get}
use Rattle.std.proofs.lemmas.List.{length-map, take_all}
use Rattle.std.proofs.lemmas.Option.{slice_get_read}
use Rattle.pc_types.specs.declared.module_record.ModuleRecord.{ModuleRecord}
use Rattle.pc_info.specs.declared.module.ModuleTranslation.{ModuleTranslation}
use Rattle.pc_info.specs.Modules.{module_view}
use Rattle.pc_analysis_contexts.specs.declared.import_index.ImportIndex.{ImportIndex}
use Rattle.pc_analysis_contexts.specs.Indexed.{AreIndexes, IsIndex}
use Rattle.pc_analysis_contexts.specs.Recorded.{records_of}
use Rattle.pc_analysis_contexts.proofs.IndexLemmas.{few_functions, indexes_more, record_at}
use Rattle.pc_analysis_contexts.proofs.import_index.indexes.Goals as goal

-- the record at the place of a module
record_here : (ms xs : List ModuleTranslation) (k : ℕ) (x : ModuleTranslation) → xs ≡ ms → k < length xs
    → x ≡ get_or xs k x → slice_get (records_of ms) k ≡ Some x.«module»
record_here ms xs k x all within is =
    record_at ms k x (sym (ap (λ ys. slice_get ys k) all) ∙ slice_get_read xs (length xs) k x refl within is)

pub new-requires : goal.new-requires
new-requires c =
    let ms = c.args.modules.now in
    let k = c.loop-held.held-index in
    let x = c.held-item.result in
    let here = record_here ms c.as_slice-held-items.result.now k x c.as_slice-held-items.ensures c.loop-held-test.true
    c.held-item.is in
    record {
      numbered = subst (λ r. length r.imports < 4294967295) (sym {A = ModuleRecord} c.get.ensures)
          (c.requires.few k x.«module» here);
    }

pub loop-held-preserved : goal.loop-held-preserved
loop-held-preserved c =
    let ms = c.args.modules.now in
    let k = c.loop-held.held-index in
    let x = c.held-item.result in
    let here = record_here ms c.as_slice-held-items.result.now k x c.as_slice-held-items.ensures c.loop-held-test.true
    c.held-item.is in
    subst (AreIndexes (take (k + 1) (records_of ms))) (sym {A = List ImportIndex} c.in_ok-push.ensures.items)
    (indexes_more (records_of ms) k x.«module» c.in_ok-new.field-0 c.loop-held.found.items here
    (subst (λ r. IsIndex r c.in_ok-new.field-0) c.get.ensures c.in_ok-new.ensures) c.loop-held.invariant)

pub returns-clause-few : goal.returns-clause-few
returns-clause-few c =
    let ms = c.args.modules.now in
    let past : length (records_of ms) ≤ c.loop-held.held-index =
    omega (arith, c.loop-held-test.false, ap length c.as_slice-held-items.ensures, length-map ms module_view) in
    few_functions (records_of ms) c.loop-held.found.items
    (subst (λ rs. AreIndexes rs c.loop-held.found.items) (take_all c.loop-held.held-index (records_of ms) past)
    c.loop-held.invariant)
    c.requires.few
