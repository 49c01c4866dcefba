use Rattle.std.proofs.Common.{◌≡◌, ◌+◌, ◌++◌, ◌∷◌, [], ℕ, List, map, take, sym, ap, subst, ◌∙◌, arith}
use Rattle.std.proofs.lemmas.List.{map-append, take_all}
use Rattle.pc_entity.specs.declared.string_pool.Atom.{Atom}
use Rattle.pc_entity.proofs.LookupLemmas.{done_here}
use Rattle.pc_inline_names.specs.Numbers.{AreNumbersOf, IsNumber}
use Rattle.pc_inline_names.proofs.AddedLemmas.{Added, Numbered, added_next, added_none, number_lasts}
use Rattle.pc_inline_names.proofs.add.add_all.Goals as goal

pub loop-entry-init : goal.loop-entry-init
loop-entry-init g c =
    subst (λ (ns : List Atom). Added Numbered c.args.texts.now [] c.args.texts.now ns) (sym c.in_ok-numbers.ensures)
    (added_none Numbered c.args.texts.now c.requires.names)

pub loop-entry-preserved : goal.loop-entry-preserved
loop-entry-preserved g c =
    let f = g.T.HasName.name_of in
    let old = c.args.texts.now in
    let l = c.loop-entry in
    let i = l.entry-index in
    let es = c.args.entries.now in
    let e = c.entry-item.result in
    let added = c.in_ok-add_name in
    let new = c.add_name.new.texts in
    let longer : map f (take (i + 1) es) ≡ map f (take i es) ++ f e ∷ [] =
    ap (map f) (done_here es i e c.loop-entry-test.true c.entry-item.is) ∙ map-append f (take i es) (e ∷ []) in
    subst (λ (xs : List (List ℕ)). Added Numbered old xs new c.push.new.self) (sym longer)
    (subst (λ (ns : List Atom). Added Numbered old (map f (take i es) ++ f e ∷ []) new ns) (sym c.in_ok-push.ensures.ok)
    (added_next Numbered number_lasts old (map f (take i es)) l.texts l.numbers (f e) added.field-0 new l.invariant
    added.ensures.adds (subst (IsNumber new added.field-0) c.name.ensures added.ensures.number)))

pub returns-clause-adds : goal.returns-clause-adds
returns-clause-adds g c = c.loop-entry.invariant.adds

pub returns-clause-numbers : goal.returns-clause-numbers
returns-clause-numbers g c =
    let es = c.args.entries.now in
    subst (λ ys. AreNumbersOf c.loop-entry.texts (map g.T.HasName.name_of ys) c.loop-entry.numbers)
    (take_all c.loop-entry.entry-index es (omega arith)) c.loop-entry.invariant.numbers
