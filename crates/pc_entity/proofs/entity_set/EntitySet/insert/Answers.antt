use Rattle.std.proofs.Common.{sym, ◌∙◌, ap, not}
use Rattle.std.specs.FinSet as set
use Rattle.std.proofs.lemmas.Result.{err_from_is_err_and}
use Rattle.pc_entity.proofs.Numbers.{contains-has, inserted}
use Rattle.pc_entity.proofs.entity_set.EntitySet.insert.Goals as goal

pub returns-in_err-insert-clause-absent : goal.returns-in_err-insert-clause-absent
returns-in_err-insert-clause-absent g c =
    let p = err_from_is_err_and c.from_residual.result c.from_residual.ensures.1 in
    rw p.1
    (ap (set.contains c.args.self.now) (sym c.as_u32.ensures)
    ∙ ap (λ s. set.contains s c.as_u32.result) (sym c.self.view_is)
    ∙ contains-has c.self.inside.numbers.keys c.as_u32.result
    ∙ c.in_err-insert.ensures.absent)

pub returns-clause-changed : goal.returns-clause-changed
returns-clause-changed g c =
    c.in_ok-insert.ensures.added
    ∙ ap not
    (sym (contains-has c.self.inside.numbers.keys c.as_u32.result)
    ∙ ap (λ s. set.contains s c.as_u32.result) c.self.view_is
    ∙ ap (set.contains c.args.self.now) c.as_u32.ensures)

pub returns-clause-ok : goal.returns-clause-ok
returns-clause-ok g c =
    inserted c.self.inside.numbers.keys c.insert.new.self.keys c.as_u32.result c.in_ok-insert.ensures.updates.0
    ∙ ap (λ s. set.insert s c.as_u32.result) c.self.view_is
    ∙ ap (set.insert c.args.self.now) c.as_u32.ensures
