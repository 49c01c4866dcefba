use Rattle.std.proofs.Common.{◌≡◌, ◌+◌, ◌++◌, ◌∷◌, [], ℕ, List, take, sym, ap, subst, ◌∙◌, arith}
use Rattle.std.specs.List.{AllZip}
use Rattle.std.proofs.lemmas.List.{take_all}
use Rattle.pc_entity.specs.declared.string_pool.Atom.{Atom}
use Rattle.pc_entity.proofs.LookupLemmas.{done_here}
use Rattle.pc_types.specs.declared.module_record.ModuleRecord.{ModuleRecord}
use Rattle.pc_types.specs.declared.parsed.CoreEntity.{CoreEntity}
use Rattle.pc_inline_names.specs.Numbers.{AreImportNumbers}
use Rattle.pc_inline_names.specs.Tables.{AreRecordNumbers}
use Rattle.pc_inline_names.proofs.AddedLemmas.{Added, added_next, added_none, record_lasts}
use Rattle.pc_inline_names.proofs.modules.add_records.Goals as goal

pub loop-record_-init : goal.loop-record_-init
loop-record_-init c =
    subst (λ (ns : List (List (Atom × Atom))). Added AreRecordNumbers c.args.texts.now [] c.args.texts.now ns)
    (sym c.in_ok-all.ensures) (added_none AreRecordNumbers c.args.texts.now c.requires.names)

pub loop-record_-preserved : goal.loop-record_-preserved
loop-record_-preserved c =
    let old = c.args.texts.now in
    let l = c.loop-record_ in
    let i = l.record_-index in
    let rs = c.args.records.now in
    let r = c.record_-item.result in
    let added = c.in_ok-add_imports in
    let new = c.add_imports.new.texts in
    let longer : take (i + 1) rs ≡ take i rs ++ r ∷ [] = done_here rs i r c.loop-record_-test.true c.record_-item.is in
    let imports = c.as_slice.ensures ∙ ap (λ (x : ModuleRecord). x.imports) c.get.ensures in
    subst (λ (ms : List ModuleRecord). Added AreRecordNumbers old ms new c.push.new.self) (sym longer)
    (subst (λ (ns : List (List (Atom × Atom))). Added AreRecordNumbers old (take i rs ++ r ∷ []) new ns)
    (sym c.in_ok-push.ensures.ok)
    (added_next AreRecordNumbers record_lasts old (take i rs) l.texts l.all r added.field-0 new l.invariant
    added.ensures.adds
    (subst (λ (xs : List (List ℕ × List ℕ × CoreEntity)). AreImportNumbers new xs added.field-0) imports
    added.ensures.numbers)))

pub returns-clause-adds : goal.returns-clause-adds
returns-clause-adds c = c.loop-record_.invariant.adds

pub returns-clause-numbers : goal.returns-clause-numbers
returns-clause-numbers c =
    let rs = c.args.records.now in
    subst (λ (ms : List ModuleRecord). AllZip (AreRecordNumbers c.loop-record_.texts) ms c.loop-record_.all)
    (take_all c.loop-record_.record_-index rs (omega arith)) c.loop-record_.invariant.numbers
