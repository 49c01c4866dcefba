use Rattle.std.proofs.Common.{◌≡◌, ◌+◌, ◌++◌, ◌∷◌, [], List, take, sym, subst, arith}
use Rattle.std.specs.List.{AllZip}
use Rattle.std.proofs.lemmas.List.{take_all}
use Rattle.pc_entity.proofs.LookupLemmas.{done_here}
use Rattle.pc_local.specs.declared.item.Translation.{Translation}
use Rattle.pc_inline_names.specs.declared.bodies.BodyNumbers.{BodyNumbers}
use Rattle.pc_inline_names.specs.Tables.{AreBodyNumbers}
use Rattle.pc_inline_names.proofs.AddedLemmas.{Added, added_next, added_none, body_lasts}
use Rattle.pc_inline_names.proofs.bodies.add_bodies.Goals as goal

pub loop-body-init : goal.loop-body-init
loop-body-init c =
    subst (λ (xs : List BodyNumbers). Added AreBodyNumbers c.args.texts.now [] c.args.texts.now xs)
    (sym c.in_ok-all.ensures) (added_none AreBodyNumbers c.args.texts.now c.requires.names)

pub loop-body-preserved : goal.loop-body-preserved
loop-body-preserved c =
    let old = c.args.texts.now in
    let l = c.loop-body in
    let i = l.body-index in
    let bs = c.args.bodies.now in
    let b = c.body-item.result in
    let added = c.in_ok-add_body in
    let new = c.add_body.new.texts in
    let longer : take (i + 1) bs ≡ take i bs ++ b ∷ [] = done_here bs i b c.loop-body-test.true c.body-item.is in
    subst (λ (xs : List Translation). Added AreBodyNumbers old xs new c.push.new.self) (sym longer)
    (subst (λ (xs : List BodyNumbers). Added AreBodyNumbers old (take i bs ++ b ∷ []) new xs)
    (sym c.in_ok-push.ensures.ok)
    (added_next AreBodyNumbers body_lasts old (take i bs) l.texts l.all b added.field-0 new l.invariant
    added.ensures.adds added.ensures.numbers))

pub returns-clause-adds : goal.returns-clause-adds
returns-clause-adds c = c.loop-body.invariant.adds

pub returns-clause-numbers : goal.returns-clause-numbers
returns-clause-numbers c =
    let bs = c.args.bodies.now in
    subst (λ (xs : List Translation). AllZip (AreBodyNumbers c.loop-body.texts) xs c.loop-body.all)
    (take_all c.loop-body.body-index bs (omega arith)) c.loop-body.invariant.numbers
