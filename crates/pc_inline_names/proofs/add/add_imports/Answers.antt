use Rattle.std.proofs.Common.{◌≡◌, ◌+◌, ◌++◌, ◌∷◌, [], List, take, sym, subst, arith}
use Rattle.std.proofs.lemmas.List.{take_all}
use Rattle.pc_entity.specs.declared.string_pool.Atom.{Atom}
use Rattle.pc_entity.proofs.LookupLemmas.{done_here}
use Rattle.pc_inline_names.specs.Numbers.{AreImportNumbers, AreNumbers}
use Rattle.pc_inline_names.proofs.AddedLemmas.{Added, added_next, added_none, adds_more}
use Rattle.pc_inline_names.proofs.NumberedLemmas.{import_kept}
use Rattle.pc_inline_names.proofs.add.add_imports.Goals as goal

pub loop-import-init : goal.loop-import-init
loop-import-init c =
    subst (λ (ns : List (Atom × Atom)). Added AreNumbers c.args.texts.now [] c.args.texts.now ns)
    (sym c.in_ok-numbers.ensures) (added_none AreNumbers c.args.texts.now c.requires.names)

pub loop-import-preserved : goal.loop-import-preserved
loop-import-preserved c =
    let old = c.args.texts.now in
    let l = c.loop-import in
    let i = l.import-index in
    let xs = c.args.imports.now in
    let x = c.import-item.result in
    let first = c.in_ok-of_module in
    let second = c.in_ok-of_name in
    let mid = c.add_name.new.texts in
    let new = c.add_name-in-loop-import.new.texts in
    let longer : take (i + 1) xs ≡ take i xs ++ x ∷ [] = done_here xs i x c.loop-import-test.true c.import-item.is in
    subst (λ ys. Added AreNumbers old ys new c.push.new.self) (sym longer)
    (subst (λ (ns : List (Atom × Atom)). Added AreNumbers old (take i xs ++ x ∷ []) new ns)
    (sym c.in_ok-push.ensures.ok)
    (added_next AreNumbers import_kept old (take i xs) l.texts l.numbers x (first.of_module, second.of_name) new
    l.invariant (adds_more l.texts mid new first.ensures.adds second.ensures.adds)
    (record {
      of_module = second.ensures.adds.kept first.of_module.0 x.0 first.ensures.number;
      of_name = second.ensures.number;
    })))

pub returns-clause-adds : goal.returns-clause-adds
returns-clause-adds c = c.loop-import.invariant.adds

pub returns-clause-numbers : goal.returns-clause-numbers
returns-clause-numbers c =
    let xs = c.args.imports.now in
    subst (λ ys. AreImportNumbers c.loop-import.texts ys c.loop-import.numbers)
    (take_all c.loop-import.import-index xs (omega arith)) c.loop-import.invariant.numbers
