use Rattle.std.proofs.Common.{◌≡◌, ◌+◌, ◌++◌, ◌∷◌, [], List, Option, take, sym, subst, arith}
use Rattle.std.specs.List.{AllZip}
use Rattle.std.proofs.lemmas.List.{take_all}
use Rattle.pc_entity.proofs.LookupLemmas.{done_here}
use Rattle.pc_types.specs.declared.parsed.DeclType.{DeclType}
use Rattle.pc_inline_names.specs.declared.types.TypeNumbers.{TypeNumbers}
use Rattle.pc_inline_names.specs.Tables.{AreTypeNumbers}
use Rattle.pc_inline_names.proofs.AddedLemmas.{Added, added_next, added_none, type_lasts}
use Rattle.pc_inline_names.proofs.types.add_types.Goals as goal

pub loop-entry-init : goal.loop-entry-init
loop-entry-init c =
    subst (λ (xs : List (Option TypeNumbers)). Added AreTypeNumbers c.args.texts.now [] c.args.texts.now xs)
    (sym c.in_ok-all.ensures) (added_none AreTypeNumbers c.args.texts.now c.requires.names)

pub loop-entry-preserved : goal.loop-entry-preserved
loop-entry-preserved c =
    let old = c.args.texts.now in
    let l = c.loop-entry in
    let i = l.entry-index in
    let es = c.args.entries.now in
    let e = c.entry-item.result in
    let added = c.in_ok-add_type in
    let new = c.add_type.new.texts in
    let longer : take (i + 1) es ≡ take i es ++ e ∷ [] = done_here es i e c.loop-entry-test.true c.entry-item.is in
    subst (λ (xs : List DeclType). Added AreTypeNumbers old xs new c.push.new.self) (sym longer)
    (subst (λ (xs : List (Option TypeNumbers)). Added AreTypeNumbers old (take i es ++ e ∷ []) new xs)
    (sym c.in_ok-push.ensures.ok)
    (added_next AreTypeNumbers type_lasts old (take i es) l.texts l.all e added.field-0 new l.invariant
    added.ensures.adds added.ensures.numbers))

pub returns-clause-adds : goal.returns-clause-adds
returns-clause-adds c = c.loop-entry.invariant.adds

pub returns-clause-numbers : goal.returns-clause-numbers
returns-clause-numbers c =
    let es = c.args.entries.now in
    subst (λ (xs : List DeclType). AllZip (AreTypeNumbers c.loop-entry.texts) xs c.loop-entry.all)
    (take_all c.loop-entry.entry-index es (omega arith)) c.loop-entry.invariant.numbers
