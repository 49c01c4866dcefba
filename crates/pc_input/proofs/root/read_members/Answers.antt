use Rattle.std.proofs.Common.{subst}
use Rattle.pc_input_values.specs.Reads.{Reads}
use Rattle.pc_input.proofs.Agree.{input-Object}
use Rattle.pc_input.proofs.root.read_members.Goals as goal

pub returns : goal.returns
returns g c ms h =
    subst (λ o. Reads c.members.result o) (input-Object c.args.kept c.args.payloads ms _ h) c.members.ensures
