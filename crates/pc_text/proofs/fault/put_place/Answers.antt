use Rattle.std.proofs.Common.{append_assoc}
use Rattle.pc_text.proofs.Appending.{then_holds}
use Rattle.pc_text.proofs.fault.put_place.Goals as goal

pub returns-in_ok-put_at-in-Payload : goal.returns-in_ok-put_at-in-Payload
returns-in_ok-put_at-in-Payload c =
    then_holds c.put_at-in-Payload-2.result c.put_at-in-Payload-2.ensures
    (λ e. rw (e, c.in_ok-put_at-in-Payload.ensures, c.in-Payload.is) (simp append_assoc))

pub returns-in_ok-put_at-in-Reading : goal.returns-in_ok-put_at-in-Reading
returns-in_ok-put_at-in-Reading c =
    then_holds c.put_at-in-Reading-2.result c.put_at-in-Reading-2.ensures
    (λ e. rw (e, c.in_ok-put_at-in-Reading.ensures, c.from-in-Reading.ensures, c.in-Reading.is) (simp append_assoc))

pub returns-in-Adapter : goal.returns-in-Adapter
returns-in-Adapter c =
    then_holds c.put_at-in-Adapter.result c.put_at-in-Adapter.ensures
    (λ e. rw (e, c.from-in-Adapter.ensures, c.in-Adapter.is) (simp append_assoc))
