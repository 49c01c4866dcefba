use Rattle.std.proofs.Common.{subst}
use Rattle.std.specs.Result.{OnOk}
use Rattle.pc_dfg.specs.Names.{each_of}
use Rattle.pc_dfg_linearize.specs.Arguments.{OnlyFromThese}
use Rattle.pc_dfg_finish.specs.Exports.{in_lifted}
use Rattle.pc_dfg_finish.proofs.exports.number_item.Goals as goal

pub returns-in-Some-clause-only : goal.returns-in-Some-clause-only
returns-in-Some-clause-only c =
    let g = c.args.graph.now in
    let new = c.number_function.new.finish in
    subst (λ o. OnOk c.number_function.result (OnlyFromThese g c.args.finish.now new (each_of (in_lifted g) o)))
    c.in-Some.ensures c.number_function.ensures.only
