use Rattle.std.proofs.Common.{◌<◌, sym, subst}
use Rattle.std.specs.Option.{IsSome}
use Rattle.pc_dfg_finish.specs.ModuleTypes.{type_at}
use Rattle.pc_translate.specs.ModuleTypes.{AreModuleTypes, StayTyped}
use Rattle.pc_translate.proofs.ModuleTypeLemmas.{is_put, module_there, types_kept, types_put}
use Rattle.pc_translate.proofs.module_types.convert.Goals as goal

pub put-requires : goal.put-requires
put-requires c = record {
  there = subst (λ n. c.args.ty < n) (sym c.requires.done.room)
      (module_there c.args.table.now c.args.ty c.requires.is_module);
}

pub returns-in_ok-index-clause-done : goal.returns-in_ok-index-clause-done
returns-in_ok-index-clause-done c =
    let old = c.requires.done in
    let there = module_there c.args.table.now c.args.ty c.requires.is_module in
    subst (AreModuleTypes c.converted.new.types c.args.table.now) (sym c.put.ensures)
    (types_put c.args.done.now c.args.ty c.in_ok-index.index (subst (λ n. c.args.ty < n) (sym old.room) there)
    c.args.types.now c.converted.new.types c.args.table.now c.in_ok-index.ensures.grows c.in_ok-index.ensures.tree old)

pub returns-in_ok-index-clause-keeps : goal.returns-in_ok-index-clause-keeps
returns-in_ok-index-clause-keeps c =
    let old = c.requires.done in
    let there = module_there c.args.table.now c.args.ty c.requires.is_module in
    subst (StayTyped c.args.done.now) (sym c.put.ensures)
    (types_kept c.args.done.now c.args.ty c.in_ok-index.index (subst (λ n. c.args.ty < n) (sym old.room) there))

pub returns-in_ok-index-clause-here : goal.returns-in_ok-index-clause-here
returns-in_ok-index-clause-here c =
    let old = c.requires.done in
    let there = module_there c.args.table.now c.args.ty c.requires.is_module in
    subst (λ types. IsSome (type_at types c.args.ty)) (sym c.put.ensures)
    (is_put c.args.done.now c.args.ty c.in_ok-index.index (subst (λ n. c.args.ty < n) (sym old.room) there))
