use Rattle.std.proofs.Common.{◌≡◌, ◌+◌, ◌++◌, ◌∷◌, [], ℕ, List, map, take, refl, sym, ap, subst, ◌∙◌, arith}
use Rattle.std.proofs.lemmas.List.{map-append, take_all}
use Rattle.pc_entity.specs.declared.string_pool.Atom.{Atom}
use Rattle.pc_entity.proofs.LookupLemmas.{done_here}
use Rattle.pc_inline_names.specs.Lists.{Lists}
use Rattle.pc_inline_names.specs.Numbers.{AreNumbersOf, IsNumber}
use Rattle.pc_inline_names.proofs.AddedLemmas.{Added, Numbered, added_next, added_none, number_lasts}
use Rattle.pc_inline_names.proofs.bodies.make_all.Goals as goal

pub loop-entry-init : goal.loop-entry-init
loop-entry-init g c = record {
  added = subst (λ (ns : List Atom). Added Numbered c.args.texts.now [] c.args.texts.now ns) (sym c.requires.begun)
      (added_none Numbered c.args.texts.now c.requires.names);
  ended = refl;
}

pub loop-entry-preserved : goal.loop-entry-preserved
loop-entry-preserved g c =
    let f = g.T.HasName.name_of in
    let old = c.args.texts.now in
    let l = c.loop-entry in
    let i = l.entry-index in
    let es = c.args.entries.now in
    let e = c.entry-item.result in
    let added = c.in_ok-add_name in
    let new = c.add_name.new.texts in
    let pushed = c.in_ok-push.ensures.ok in
    let longer : map f (take (i + 1) es) ≡ map f (take i es) ++ f e ∷ [] =
    ap (map f) (done_here es i e c.loop-entry-test.true c.entry-item.is) ∙ map-append f (take i es) (e ∷ []) in
    record {
      added = subst (λ (xs : List (List ℕ)). Added Numbered old xs new c.push.new.self.open_list) (sym longer)
          (subst (λ (ns : List Atom). Added Numbered old (map f (take i es) ++ f e ∷ []) new ns)
          (sym (ap (λ (x : Lists). x.open_list) pushed))
          (added_next Numbered number_lasts old (map f (take i es)) l.texts l.lists.open_list (f e) added.field-0 new
          l.invariant.added added.ensures.adds (subst (IsNumber new added.field-0) c.name.ensures
          added.ensures.number)));
      ended = ap (λ (x : Lists). x.ended) pushed ∙ l.invariant.ended;
    }

pub returns-clause-adds : goal.returns-clause-adds
returns-clause-adds g c = c.loop-entry.invariant.added.adds

pub returns-clause-numbers : goal.returns-clause-numbers
returns-clause-numbers g c =
    let es = c.args.entries.now in
    record {
      ended = c.loop-entry.invariant.ended;
      numbers = subst
          (λ ys. AreNumbersOf c.loop-entry.texts (map g.T.HasName.name_of ys) c.loop-entry.lists.open_list)
          (take_all c.loop-entry.entry-index es (omega arith)) c.loop-entry.invariant.added.numbers;
    }
