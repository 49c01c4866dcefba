use Rattle.pc_types_convert.proofs.ForgetLemmas.{forgets_all}
use Rattle.pc_types_convert.proofs.done.Done.forget.Goals as goal

pub returns-then-is_err : goal.returns-then-is_err
returns-then-is_err c =
    let was = c.self.inside in
    forgets_all was.own c.clear.new.self was.plain was.users c.clear-then-is_err.new.self was.like was.room
    c.args.n c.args.self.now c.forget_users.new.self c.self.view_is c.forget_users.ensures.plain
    c.forget_users.ensures.like c.forget_users.ensures.room c.clear.ensures.empty
