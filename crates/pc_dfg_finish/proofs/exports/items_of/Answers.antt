use Rattle.std.proofs.Common.{[], ◌∷◌, All, ap, arith, length, length-append, reverse, subst, sym, ◌∙◌}
use Rattle.std.specs.Prelude.{Some}
use Rattle.std.specs.List.{AllZip}
use Rattle.std.proofs.lemmas.List.{reverse-append}
use Rattle.std.proofs.lemmas.List.Elements.{All-pop}
use Rattle.pc_dfg_finish.specs.Exports.{IsConverted}
use Rattle.pc_dfg_finish.specs.Taken.{CanConvert}
use Rattle.pc_dfg_finish.proofs.TakenLemmas.{Completes, completes_all, completes_next, completes_none}
use Rattle.pc_dfg_finish.proofs.exports.items_of.Goals as goal

pub loop-export-init : goal.loop-export-init
loop-export-init c =
    let R = IsConverted c.args.graph.now c.args.types.now c.args.finish.now in
    let es = c.args.exports.items in (
      c.requires.can,
      subst (λ items. Completes R es es (reverse items)) (sym c.in_ok-items.ensures.items) (completes_none R es),
    )

pub item_of-requires : goal.item_of-requires
item_of-requires c =
    let l = c.loop-export in
    let P = CanConvert c.args.graph.now c.args.types.now c.args.finish.now in
    let popped = c.in-Some.ensures.items in
    let can = (All-pop P l.left.items c.pop.new.self.items (Some c.in-Some.export) popped l.invariant.0).1 in
    record { ready = can.ready; numbered = can.numbered; typed = can.typed }

pub loop-export-preserved : goal.loop-export-preserved
loop-export-preserved c =
    let l = c.loop-export in
    let e = c.in-Some.export in
    let item = c.in_ok-item.item in
    let rest = c.pop.new.self.items in
    let popped = c.in-Some.ensures.items in
    let P = CanConvert c.args.graph.now c.args.types.now c.args.finish.now in
    let R = IsConverted c.args.graph.now c.args.types.now c.args.finish.now in
    let kept = c.give_back_half.ensures in
    let reversed = ap reverse c.in_ok-push_item.ensures ∙ reverse-append l.items.items (item ∷ []) in (
      subst (All P) (sym kept) (All-pop P l.left.items rest (Some e) popped l.invariant.0).0,
      subst (λ left. Completes R c.args.exports.items left (reverse c.push_item.new.items.items)) (sym kept)
          (subst (Completes R c.args.exports.items rest) (sym reversed)
          (completes_next R c.args.exports.items l.left.items rest e (reverse l.items.items) item popped
          c.in_ok-item.ensures l.invariant.1)),
    )

pub loop-export-smaller : goal.loop-export-smaller
loop-export-smaller c =
    let kept = ap length c.give_back_half.ensures in
    let popped = ap length c.in-Some.ensures.items ∙ length-append c.pop.new.self.items (c.in-Some.export ∷ []) in
    omega (arith, kept, popped)

pub returns : goal.returns
returns c =
    let l = c.loop-export in
    let R = IsConverted c.args.graph.now c.args.types.now c.args.finish.now in
    let none = sym l.left.ok.0 ∙ c.in_default.ensures.cases.0 in
    subst (AllZip R c.args.exports.items) (sym (c.from_vec.ensures ∙ c.reverse.ensures.items))
    (completes_all R c.args.exports.items l.left.items (reverse l.items.items) none l.invariant.1)
