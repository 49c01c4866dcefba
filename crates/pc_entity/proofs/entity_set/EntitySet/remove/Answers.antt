use Rattle.std.proofs.Common.{sym, ◌∙◌, ap}
use Rattle.std.specs.FinSet as set
use Rattle.pc_entity.proofs.Numbers.{contains-has, removed}
use Rattle.pc_entity.proofs.entity_set.EntitySet.remove.Goals as goal

pub returns-clause-changed : goal.returns-clause-changed
returns-clause-changed g c =
    c.remove.ensures.test
    ∙ sym (contains-has c.self.inside.numbers.keys c.as_u32.result)
    ∙ ap (λ s. set.contains s c.as_u32.result) c.self.view_is
    ∙ ap (set.contains c.args.self.now) c.as_u32.ensures

pub returns-clause-removed : goal.returns-clause-removed
returns-clause-removed g c =
    removed c.self.inside.numbers.keys c.remove.new.self.keys c.as_u32.result c.remove.ensures.updates.0
    ∙ ap (λ s. set.remove s c.as_u32.result) c.self.view_is
    ∙ ap (set.remove c.args.self.now) c.as_u32.ensures
