use Rattle.std.proofs.Common.{arith}
use Rattle.pc_inline_names.proofs.AddedLemmas.{adds_one}
use Rattle.pc_inline_names.proofs.add.add_name.Goals as goal

pub returns-clause-adds : goal.returns-clause-adds
returns-clause-adds c =
    let push = c.in_ok-push.ensures in
    adds_one c.args.texts.now c.push.new.self c.in_ok-share.field-0 push.grows push.distinct (omega arith)
