use Rattle.std.proofs.Common.{append_assoc}
use Rattle.pc_text.proofs.Appending.{then_holds}
use Rattle.pc_text.proofs.initializer.put_import.Goals as goal

pub returns : goal.returns
returns c =
    then_holds c.put-3.result c.put-3.ensures
    (λ e. rw (
      e,
      c.in_ok-put_arguments.ensures,
      c.in_ok-put-2.ensures,
      c.in_ok-put_maybe_key.ensures,
      c.in_ok-put_key.ensures,
      c.in_ok-put.ensures,
    ) (simp append_assoc))
