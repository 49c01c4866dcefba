use Rattle.std.proofs.Common.{◌≡◌, ap, subst, arith, ◌+◌, ◌∷◌, [], Bool, ℕ}
use Rattle.std.specs.Prelude.{if◌then◌else◌}
use Rattle.pc_adapt_define.specs.Define.{callbacks_in, memories_in, post_returns_in, trampolines_in}
use Rattle.pc_dfg.proofs.GrowLemmas.{grows_trans}
use Rattle.pc_adapt_define.specs.Helpers.{IsWanted}
use Rattle.pc_adapt_define.proofs.AddsLemmas.{adds_more, adds_trampoline, adds_twice}
use Rattle.pc_adapt_define.proofs.HelperLemmas.{full_trampolines, helper_defined, helper_held, helper_room}
use Rattle.pc_adapt_define.proofs.HelperLemmas.{helper_stays, not_refused, own_defined}
use Rattle.pc_adapt_define.proofs.OnlyLemmas.{helper_entry, only_trampoline, only_twice}
use Rattle.pc_adapt_define.proofs.SlotLemmas.{trampolines_longer}
use Rattle.pc_adapt_define.proofs.HelperLemmas.{helper_is}
use Rattle.pc_adapt_define.proofs.imports.define.Goals as goal

pub returns-in_err-number-in-Helper-clause-full : goal.returns-in_err-number-in-Helper-clause-full
returns-in_err-number-in-Helper-clause-full c is =
    let asked = subst (IsWanted c.asked_by.new.graph c.args.import) c.in-Helper.is c.in_ok-def.ensures.wanted in
    let too_many = rw is at c.from_residual-in_err-number-in-Helper.ensures.1 in
    full_trampolines c.asked_by.new.graph c.push_trampoline.new.self c.args.import c.in-Helper.helper asked
    c.in_err-number-in-Helper.ensures.err
    (c.in_err-number-in-Helper.ensures.full.0 (cc too_many))

pub returns-in-Definition-clause-defined : goal.returns-in-Definition-clause-defined
returns-in-Definition-clause-defined c =
    own_defined _ _ c.args.signature c.args.import c.in-Definition.def c.asked_by.ensures.adds.grows c.requires.held
    (subst (IsWanted c.asked_by.new.graph c.args.import) c.in-Definition.is c.in_ok-def.ensures.wanted)

pub returns-in_ok-number-in-Helper-clause-adds : goal.returns-in_ok-number-in-Helper-clause-adds
returns-in_ok-number-in-Helper-clause-adds c =
    let m = c.asked_by.new.graph in
    let asked = subst (IsWanted m c.args.import) c.in-Helper.is c.in_ok-def.ensures.wanted in
    let i = c.args.import in
    let one : trampolines_in i ≡ 1 = ap {B = ℕ} (λ (b : Bool). if b then 1 else 0)
    (helper_is m i c.in-Helper.helper asked) in
    let k = memories_in i in
    let l = callbacks_in i in
    let n = post_returns_in i in
    adds_more (k + 0) (l + 0) (n + 0) 1 k l n (trampolines_in i) _ c.push_trampoline.new.self (omega arith)
    (omega arith) (omega arith) (omega (arith, one))
    (adds_twice k l n 0 0 0 0 1 _ m c.push_trampoline.new.self c.asked_by.ensures.adds
    (adds_trampoline m c.push_trampoline.new.self c.push_trampoline.ensures.grows
    (c.push_trampoline.ensures.ordered (helper_held m c.args.signature i c.in-Helper.helper asked))
    (c.args.signature, c.in-Helper.helper) c.push_trampoline.ensures.rest c.push_trampoline.ensures.put))

pub returns-in_ok-number-in-Helper-clause-only : goal.returns-in_ok-number-in-Helper-clause-only
returns-in_ok-number-in-Helper-clause-only c =
    let m = c.asked_by.new.graph in
    let h = c.push_trampoline.new.self in
    let asked = subst (IsWanted m c.args.import) c.in-Helper.is c.in_ok-def.ensures.wanted in
    only_twice (c.args.import ∷ []) _ m h c.in_ok-def.ensures.only
    (only_trampoline m h (c.args.import ∷ []) (c.args.signature, c.in-Helper.helper) c.push_trampoline.ensures.rest
    c.push_trampoline.ensures.put (helper_entry m c.args.signature c.args.import c.in-Helper.helper asked))

pub returns-in_ok-number-in-Helper-clause-defined : goal.returns-in_ok-number-in-Helper-clause-defined
returns-in_ok-number-in-Helper-clause-defined c =
    let g = c.args.graph.now in
    let m = c.asked_by.new.graph in
    let h = c.push_trampoline.new.self in
    let asked = subst (IsWanted m c.args.import) c.in-Helper.is c.in_ok-def.ensures.wanted in
    helper_defined g h c.args.signature c.args.import c.in-Helper.helper c.in_ok-number-in-Helper.number
    (grows_trans g m h c.asked_by.ensures.adds.grows c.push_trampoline.ensures.grows) c.requires.held
    (helper_stays m h c.args.import c.in-Helper.helper c.push_trampoline.ensures.rest asked)
    c.in_ok-number-in-Helper.ensures.held

pub returns-in_ok-number-in-Helper-clause-room : goal.returns-in_ok-number-in-Helper-clause-room
returns-in_ok-number-in-Helper-clause-room c =
    let g = c.args.graph.now in
    let m = c.asked_by.new.graph in
    helper_room g m c.args.import (trampolines_longer g m c.asked_by.ensures.adds.grows) c.in_ok-def.ensures.room
    (λ full. not_refused _ _ (c.in_ok-number-in-Helper.ensures.full.1 full))
