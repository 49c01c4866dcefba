use Rattle.std.proofs.Common.{append_assoc}
use Rattle.pc_info.specs.View.{counts_view}
use Rattle.pc_text.proofs.Appending.{then_holds}
use Rattle.pc_text.proofs.Counts.{counts_line_is}
use Rattle.pc_text.proofs.plan.put_counts.Goals as goal

pub returns : goal.returns
returns c =
    then_holds c.put-2.result c.put-2.ensures
    (λ e. rw (
      e,
      c.in_ok-put_numbers.ensures,
      c.in_ok-put.ensures,
      c.from.ensures,
      c.from-2.ensures,
      c.from-3.ensures,
      c.from-4.ensures,
      c.from-5.ensures,
      c.from-6.ensures,
      c.from-7.ensures,
      c.from-8.ensures,
      c.from-9.ensures,
      ← counts_line_is (counts_view c.args.component.now),
    )
    (simp append_assoc))
