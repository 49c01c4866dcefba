use Rattle.std.proofs.Common.{All, subst}
use Rattle.std.proofs.lemmas.List.{take_all}
use Rattle.std.proofs.lemmas.List.Elements.{All-nil}
use Rattle.pc_types_builder.proofs.Growth.{grows_trans}
use Rattle.pc_dfg_finish.specs.ModuleTypes.{IsTyped}
use Rattle.pc_translate.proofs.AddsModulesLemmas.{adds_item, adds_none}
use Rattle.pc_translate.proofs.ModuleTypeLemmas.{export_at, no_more, typed_next}
use Rattle.pc_translate.proofs.module_types.convert_items.Goals as goal

pub loop-item-init : goal.loop-item-init
loop-item-init c = (
  no_more c.args.types.now,
  c.in_ok-done.ensures c.args.types.now,
  All-nil (IsTyped c.in_ok-done.done),
  adds_none _ _ c.args.types.now,
)

pub returns-in_err-convert_item-clause-grows : goal.returns-in_err-convert_item-clause-grows
returns-in_err-convert_item-clause-grows c =
    grows_trans _ _ _ c.loop-item.invariant.0 c.convert_item.ensures.grows

pub returns-in_err-convert_item-clause-adds : goal.returns-in_err-convert_item-clause-adds
returns-in_err-convert_item-clause-adds c =
    let at = export_at c.args.items.now c.loop-item.item-index c.item-item.result c.loop-item-test.true
    c.item-item.is in
    adds_item _ _ _ _ _ _ _ at c.convert_item.ensures.grows c.loop-item.invariant.3 c.convert_item.ensures.adds

pub loop-item-preserved : goal.loop-item-preserved
loop-item-preserved c =
    let at = export_at c.args.items.now c.loop-item.item-index c.item-item.result c.loop-item-test.true
    c.item-item.is in (
      grows_trans _ _ _ c.loop-item.invariant.0 c.in_ok-convert_item.ensures.grows,
      c.in_ok-convert_item.ensures.done,
      typed_next _ _ c.in_ok-convert_item.ensures.keeps c.args.items.now c.loop-item.item-index c.item-item.result at
          c.loop-item.invariant.2 c.in_ok-convert_item.ensures.here,
      adds_item _ _ _ _ _ _ _ at c.in_ok-convert_item.ensures.grows c.loop-item.invariant.3
          c.in_ok-convert_item.ensures.adds,
    )

pub returns-clause-typed : goal.returns-clause-typed
returns-clause-typed c =
    subst (All (IsTyped c.loop-item.done)) (take_all c.loop-item.item-index c.args.items.now c.loop-item-test.false)
    c.loop-item.invariant.2
