use Rattle.std.proofs.Common.{subst}
use Rattle.pc_input_values.specs.Reads.{Reads}
use Rattle.pc_input.proofs.Agree.{first-Object}
use Rattle.pc_input.proofs.root.read_kept.Goals as goal

pub returns : goal.returns
returns c ms h =
    subst (λ o. Reads c.read_object.result o) (first-Object c.args.kept c.args.payloads ms h) c.read_object.ensures
