use Rattle.std.proofs.Common.{subst}
use Rattle.pc_entity.specs.Lists.{AreDistinct}
use Rattle.pc_entity.proofs.Distinct.{are_distinct_items}
use Rattle.pc_entity.proofs.interner.Interner.as_slice.Goals as goal

pub returns-clause-distinct : goal.returns-clause-distinct
returns-clause-distinct g c =
    subst AreDistinct c.self.view_is
    (are_distinct_items g.V.PartialEq.eq g.met.V.Eq.laws.refl c.self.inside.values.keys c.as_slice.ensures.unique)
