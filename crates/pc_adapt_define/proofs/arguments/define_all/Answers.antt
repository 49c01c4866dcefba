use Rattle.std.proofs.Common.{◌≡◌, ◌∷◌, [], ◌++◌, List, length, refl, sym, ap, subst, ◌∙◌, append_assoc, append-nil}
use Rattle.std.proofs.Common.{arith, rules}
use Rattle.std.specs.Vec.Iter.{into_iter_items}
use Rattle.pc_adapt_define.specs.Adds.{Adds}
use Rattle.pc_adapt_define.specs.Define.{AreDefined, callbacks_in, memories_in, post_returns_in, total}
use Rattle.pc_adapt_define.specs.Define.{trampolines_in}
use Rattle.pc_adapt_define.proofs.ArgumentLemmas.{adds_so_far, list_full, next_held, next_stays, none_defined}
use Rattle.pc_adapt_define.proofs.ArgumentLemmas.{one_defined}
use Rattle.pc_adapt_define.proofs.arguments.define_all.Goals as goal

nothing_left : {X : Type 0} (l : List X) → length l ≡ 0 → l ≡ []
nothing_left [] h = refl
nothing_left (x ∷ xs) h = absurd (omega arith)

pub loop-import-init : goal.loop-import-init
loop-import-init c = (refl, none_defined c.args.graph.now c.args.signature c.args.args.now, search rules)

pub define-requires : goal.define-requires
define-requires c =
    let at = c.loop-import in
    let x = c.in-Some.import in
    let steps : into_iter_items at.import-iterator ≡ x ∷ into_iter_items c.next.new.self = c.in-Some.ensures.steps.0 in
    let all = ap (λ xs. at.yielded ++ xs) (sym steps) ∙ at.invariant.0
    ∙ c.into_iter-import-iterator.ensures.into_iter_gives.0 in
    let held = next_held c.args.graph.now at.graph at.invariant.1.adds.grows c.args.imports.items at.yielded
    (into_iter_items c.next.new.self) x c.requires.held all in
    record { held = next_stays c.args.graph.now at.graph at.invariant.1.adds.grows x held }

pub loop-import-preserved : goal.loop-import-preserved
loop-import-preserved c =
    let at = c.loop-import in
    let x = c.in-Some.import in
    let steps : into_iter_items at.import-iterator ≡ x ∷ into_iter_items c.next.new.self = c.in-Some.ensures.steps.0 in
    let all = ap (λ xs. at.yielded ++ xs) (sym steps) ∙ at.invariant.0
    ∙ c.into_iter-import-iterator.ensures.into_iter_gives.0 in
    let held = next_held c.args.graph.now at.graph at.invariant.1.adds.grows c.args.imports.items at.yielded
    (into_iter_items c.next.new.self) x c.requires.held all in (
      append_assoc at.yielded (x ∷ []) _ ∙ rw (← steps) at.invariant.0,
      one_defined c.args.graph.now at.graph c.define.new.graph c.args.signature at.yielded x c.args.args.now at.args
          c.push.new.self c.in_ok-def.def c.requires.ordered held at.invariant.1 c.define.ensures.adds
          c.in_ok-def.ensures.only c.in_ok-def.ensures.defined c.in_ok-push.ensures.ok,
      let was = at.invariant.2 in
          let gone = c.in-Some.ensures.steps.1 in
          let short = ap length steps in
          omega arith,
    )

pub returns-clause-defined : goal.returns-clause-defined
returns-clause-defined c =
    let at = c.loop-import in
    let none = c.in-None.ensures.steps in
    let empty : into_iter_items at.import-iterator ≡ [] = nothing_left _ (sym at.invariant.2 ∙ none.0) in
    let all = sym (append-nil at.yielded) ∙ rw empty at at.invariant.0
    ∙ c.into_iter-import-iterator.ensures.into_iter_gives.0 in
    subst (λ l. AreDefined c.args.graph.now at.graph c.args.signature l c.args.args.now at.args) all at.invariant.1

pub returns-in_err-def-clause-full : goal.returns-in_err-def-clause-full
returns-in_err-def-clause-full c is =
    let too_many = rw is at c.from_residual.ensures.1 in
    list_full c.define.new.graph c.in-Some.import (c.in_err-def.ensures.full (cc too_many))

pub returns-in_err-def-clause-adds : goal.returns-in_err-def-clause-adds
returns-in_err-def-clause-adds c =
    let at = c.loop-import in
    let x = c.in-Some.import in
    let steps : into_iter_items at.import-iterator ≡ x ∷ into_iter_items c.next.new.self = c.in-Some.ensures.steps.0 in
    let all = ap (λ xs. at.yielded ++ xs) (sym steps) ∙ at.invariant.0
    ∙ c.into_iter-import-iterator.ensures.into_iter_gives.0 in
    adds_so_far c.args.graph.now at.graph c.define.new.graph c.args.imports.items at.yielded
    (into_iter_items c.next.new.self) x all at.invariant.1.adds c.define.ensures.adds

pub returns-in_err-push-clause-adds : goal.returns-in_err-push-clause-adds
returns-in_err-push-clause-adds c =
    let at = c.loop-import in
    let x = c.in-Some.import in
    let steps : into_iter_items at.import-iterator ≡ x ∷ into_iter_items c.next.new.self = c.in-Some.ensures.steps.0 in
    let all = ap (λ xs. at.yielded ++ xs) (sym steps) ∙ at.invariant.0
    ∙ c.into_iter-import-iterator.ensures.into_iter_gives.0 in
    adds_so_far c.args.graph.now at.graph c.define.new.graph c.args.imports.items at.yielded
    (into_iter_items c.next.new.self) x all at.invariant.1.adds c.define.ensures.adds

pub returns-clause-adds : goal.returns-clause-adds
returns-clause-adds c =
    let at = c.loop-import in
    let none = c.in-None.ensures.steps in
    let empty : into_iter_items at.import-iterator ≡ [] = nothing_left _ (sym at.invariant.2 ∙ none.0) in
    let all = sym (append-nil at.yielded) ∙ rw empty at at.invariant.0
    ∙ c.into_iter-import-iterator.ensures.into_iter_gives.0 in
    subst (λ l. Adds (total memories_in l) (total callbacks_in l) (total post_returns_in l) (total trampolines_in l)
    c.args.graph.now at.graph) all at.invariant.1.adds
