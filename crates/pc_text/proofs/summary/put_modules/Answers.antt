use Rattle.std.proofs.Common.{arith}
use Rattle.pc_text.proofs.Appending.{then_holds}
use Rattle.pc_text.proofs.Modules.{adapter_modules-within, handed_in-rest}
use Rattle.pc_text.proofs.summary.put_modules.Goals as goal

pub overflow_sub-handed_in : goal.overflow_sub-handed_in
overflow_sub-handed_in c =
    let made = c.count_adapter_modules-made.ensures in
    let within = adapter_modules-within c.args.modules.now in
    omega (arith, made, within)

pub returns : goal.returns
returns c =
    then_holds c.put_number.result c.put_number.ensures
    (λ e. rw (
      e,
      c.in_ok-put_counted.ensures,
      c.count_adapter_modules-made.ensures,
      handed_in-rest c.args.modules.now,
    ))
