use Rattle.std.proofs.Common.{◌≡◌, ◌<◌, ◌+◌, ◌∷◌, List, length, drop, suc, sym, ◌∙◌, subst, add-one, drop-cons, arith}
use Rattle.std.specs.Option.{option_map}
use Rattle.pc_parsed.specs.declared.payload.Payload.{Payload}
use Rattle.pc_local.specs.Open.{State, state_of}
use Rattle.pc_local.proofs.NextLemmas.{passed_all}
use Rattle.pc_local.proofs.PartLemmas.{drop_all}
use Rattle.pc_local.proofs.PassLemmas.{Passed}
use Rattle.pc_local.proofs.RoomLemmas.{Collected, collected_next, collected_none}
use Rattle.pc_local.proofs.translate.collect.Goals as goal

pub loop-payload-init : goal.loop-payload-init
loop-payload-init c =
    let x = option_map (λ x. x.now) c.args.exposed in
    let ps = c.args.payloads.now in
    subst (λ (s : State). Collected x ps ps s) (sym c.in_ok-open.ensures) (collected_none x ps)

pub loop-payload-preserved : goal.loop-payload-preserved
loop-payload-preserved c =
    let x = option_map (λ x. x.now) c.args.exposed in
    let i = c.loop-payload.payload-index in
    let ps = c.args.payloads.now in
    let p = c.payload-item.result in
    let is_it = c.payload-item.is in
    let within : i < length ps = omega arith in
    let at : drop i ps ≡ p ∷ drop (i + 1) ps = rw add-one
    (drop-cons ps i p within ∙ (λ j. sym is_it j ∷ drop (suc i) ps)) in
    let old = state_of c.loop-payload.open in
    collected_next x ps p (drop (i + 1) ps) old (state_of c.push.new.self) c.in_ok-push.ensures
    (subst (λ (l : List Payload). Collected x ps l old) at c.loop-payload.invariant)

pub returns : goal.returns
returns c =
    let x = option_map (λ x. x.now) c.args.exposed in
    let i = c.loop-payload.payload-index in
    let ps = c.args.payloads.now in
    let all : i ≡ length ps = omega arith in
    let last = state_of c.loop-payload.open in
    λ t sound. passed_all t x ps last
    (subst (λ (l : List Payload). Passed t x ps l last) (drop_all ps i all) (c.loop-payload.invariant.passed t sound))
