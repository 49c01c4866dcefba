use Rattle.std.proofs.Common.{◌≡◌, ◌++◌, sym, subst}
use Rattle.std.specs.Prelude.{OnOk}
use Rattle.std.proofs.lemmas.List.{append-nil}
use Rattle.pc_dfg_linearize.specs.Stack.{opens}
use Rattle.pc_dfg_linearize.proofs.open.open_def.Goals as goal

pub returns-in-Some : goal.returns-in-Some
returns-in-Some c =
    subst (λ xs. OnOk c.put.result (c.put.new.tasks.items ≡ c.args.tasks.now.items ++ opens xs)) c.in-Some.ensures
    c.put.ensures

pub returns-in-None : goal.returns-in-None
returns-in-None c =
    let tasks = c.args.tasks.now.items in
    subst (λ xs. tasks ≡ tasks ++ opens xs) c.in-None.ensures (sym (append-nil tasks))
