use Rattle.std.proofs.Common.{subst, ◌∙◌}
use Rattle.std.proofs.lemmas.List.{length-map}
use Rattle.pc_entity.specs.Lists.{names_of}
use Rattle.pc_inline_names.proofs.NumberedLemmas.{numbers_many}
use Rattle.pc_inline_modules.proofs.CoreExportsLemmas.{IsBag, bag_made, bag_missing}
use Rattle.pc_inline_canon.proofs.StepLemmas.{steps_memory}
use Rattle.pc_inline_modules.proofs.bags.step_core_exports.Goals as goal

pub bag_of-requires : goal.bag_of-requires
bag_of-requires c = record {
  many = numbers_many c.args.state.now.names.now.texts (names_of c.args.items.now) c.args.numbers.now c.requires.numbered
      ∙ length-map c.args.items.now _;
}

pub returns-in_err-bag-clause-steps : goal.returns-in_err-bag-clause-steps
returns-in_err-bag-clause-steps c = steps_memory _ _ _ _ _ _ _ _ c.from_residual.ensures.1

pub returns-in-None-clause-steps : goal.returns-in-None-clause-steps
returns-in-None-clause-steps c =
    let ms = c.args.context.now.modules in
    bag_missing c.args.context.now.table.now ms c.args.state.now c.args.frame.now c.args.items.now c.args.numbers.now
    c.requires.numbered
    (subst (IsBag ms c.args.frame.now c.args.items.now c.args.numbers.now) c.in-None.is c.in_ok-bag.ensures)

pub returns-in_err-push-in-Some-clause-steps : goal.returns-in_err-push-in-Some-clause-steps
returns-in_err-push-in-Some-clause-steps c =
    steps_memory _ _ _ _ _ _ _ _ c.from_residual-in_err-push-in-Some.ensures.1

pub returns-in_ok-push-in-Some-clause-steps : goal.returns-in_ok-push-in-Some-clause-steps
returns-in_ok-push-in-Some-clause-steps c =
    let ms = c.args.context.now.modules in
    bag_made c.args.context.now.table.now ms c.args.state.now c.args.frame.now c.args.items.now c.args.numbers.now
    c.requires.numbered c.in-Some.bag _ _
    (subst (IsBag ms c.args.frame.now c.args.items.now c.args.numbers.now) c.in-Some.is c.in_ok-bag.ensures)
    (λ i. record c.args.frame.now { core_instances = c.in_ok-push-in-Some.ensures.ok i })
