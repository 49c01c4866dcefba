use Rattle.std.proofs.Common.{sym, ◌∙◌, ap}
use Rattle.std.specs.FinSet as set
use Rattle.pc_entity.proofs.Numbers.{contains-has}
use Rattle.pc_entity.proofs.entity_set.EntitySet.contains.Goals as goal

pub returns : goal.returns
returns g c =
    c.contains.ensures
    ∙ sym (contains-has c.self.inside.numbers.keys c.as_u32.result)
    ∙ ap (λ s. set.contains s c.as_u32.result) c.self.view_is
    ∙ ap (set.contains c.args.self.now) c.as_u32.ensures
