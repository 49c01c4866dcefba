use Rattle.std.proofs.Common.{Some, ap, sym, ◌∙◌, arith}
use Rattle.std.proofs.lemmas.Option.{slice_get-get_or}
use Rattle.pc_inline_state.specs.Adds.{most_prepared}
use Rattle.pc_inline.proofs.DriverLemmas.{error_there, item_prepared, item_unprepared, items_prepared, none_prepared}
use Rattle.pc_inline.proofs.DriverLemmas.{root_numbered}
use Rattle.pc_inline_stack.proofs.LoopAddsLemmas.{added_all, added_last, added_more}
use Rattle.pc_inline_state.proofs.StateLemmas.{keeps_trans}
use Rattle.pc_inline.proofs.inliner.prepare_all.Goals as goal

pub loop-n-init : goal.loop-n-init
loop-n-init c = none_prepared _ _ _ _ _ c.requires.here c.requires.undeclared

pub prepare_item-requires : goal.prepare_item-requires
prepare_item-requires c =
    let at = slice_get-get_or c.args.items.now c.loop-n.n _ c.loop-n-test.true ∙ ap Some (sym c.index-items-n.is) in
    record {
      input = c.requires.input;
      ready = c.requires.ready;
      here = c.loop-n.invariant.prepared.point;
      undeclared = c.loop-n.invariant.undeclared;
      numbered = root_numbered _ _ c.loop-n.invariant.prepared.keeps c.args.items.now c.requires.rooted c.loop-n.n _ at _
          c.item-numbers.ensures;
    }

pub loop-n-preserved : goal.loop-n-preserved
loop-n-preserved c =
    let at = slice_get-get_or c.args.items.now c.loop-n.n _ c.loop-n-test.true ∙ ap Some (sym c.index-items-n.is) in
    record {
      prepared = item_prepared _ _ _ _ _ _ _ _ c.requires.items _ at _ _ c.in_default.ensures.same
          c.loop-n.invariant.prepared c.in_default.ensures.steps c.in_default.ensures.keeps;
      adds = added_more _ (most_prepared c.args.context.now.table.now) c.args.items.now c.loop-n.n _
          c.loop-n-test.true c.index-items-n.is _ _ _
          c.loop-n.invariant.adds c.in_default.ensures.adds;
      undeclared = c.in_default.ensures.undeclared;
    }

pub returns-in-Err : goal.returns-in-Err
returns-in-Err c =
    let at = slice_get-get_or c.args.items.now c.loop-n.n _ c.loop-n-test.true ∙ ap Some (sym c.index-items-n.is) in
    record {
      keeps = keeps_trans _ _ _ c.loop-n.invariant.prepared.keeps c.in-Err.ensures.keeps;
      same = c.in-Err.ensures.same ∙ c.loop-n.invariant.prepared.place;
      adds = added_last _ (most_prepared c.args.context.now.table.now) c.args.items.now c.loop-n.n _
          c.loop-n-test.true c.index-items-n.is _ _ _
          c.loop-n.invariant.adds c.in-Err.ensures.adds;
      prepared = item_unprepared _ _ _ _ _ _ _ _ c.requires.items _ at _ _ c.in-Err.ensures.same
          c.loop-n.invariant.prepared c.in-Err.error c.in-Err.ensures.steps _
          (error_there _ _ _ _ c.place_of.ensures c.error_at.ensures);
    }

pub returns : goal.returns
returns c = record {
  keeps = c.loop-n.invariant.prepared.keeps;
  same = c.loop-n.invariant.prepared.place;
  adds = added_all _ (most_prepared c.args.context.now.table.now) c.args.items.now c.loop-n.n _ _ c.loop-n.auto.n-end
      c.loop-n.invariant.adds;
  prepared = items_prepared _ _ _ _ _ _ _ _ c.loop-n.invariant.prepared (omega (arith, c.loop-n-test.false)) tt;
}
