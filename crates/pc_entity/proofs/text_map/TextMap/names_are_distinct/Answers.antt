use Rattle.std.proofs.Common.{subst, ap}
use Rattle.std.specs.Str.{bytes_eq}
use Rattle.indexmap.specs.IndexMap.{keys}
use Rattle.pc_entity.specs.Lists.{names_of, AreDistinct}
use Rattle.pc_entity.proofs.Distinct.{are_distinct_items}
use Rattle.pc_entity.proofs.Naming.{bytes_eq-refl}
use Rattle.pc_entity.proofs.text_map.TextMap.names_are_distinct.Goals as goal

pub returns : goal.returns
returns g c =
    subst AreDistinct (ap names_of c.self.view_is)
    (are_distinct_items bytes_eq bytes_eq-refl (keys c.self.inside.entries) c.self.invariant)
