use Rattle.std.proofs.Common.{subst}
use Rattle.pc_entity.specs.Lists.{AreDistinct}
use Rattle.pc_entity.proofs.Pool.{texts_distinct}
use Rattle.pc_entity.proofs.string_pool.StringPool.len.Goals as goal

pub returns-clause-distinct : goal.returns-clause-distinct
returns-clause-distinct c =
    subst AreDistinct c.self.view_is (texts_distinct c.self.inside.texts.keys c.self.invariant.0)
