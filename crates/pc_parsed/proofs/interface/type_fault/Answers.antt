use Rattle.std.proofs.Common.{sym}
use Rattle.pc_parsed.specs.Interface.{type_fault}
use Rattle.pc_parsed.proofs.IntrinsicLemmas.{type_of-unknown}
use Rattle.pc_parsed.proofs.interface.type_fault.Goals as goal

pub returns-in-Err : goal.returns-in-Err
returns-in-Err c =
    let unknown = type_of-unknown c.args.name.now c.in-Err.ensures.unknown in
    λ i. type_fault c.args.prims.now (sym unknown i) c.args.params.now c.args.answer
