use Rattle.std.proofs.Common.{List, ap, subst}
use Rattle.std.specs.Prelude.{nat_eq}
use Rattle.std.specs.Cmp.{nat_eq_equiv}
use Rattle.indexmap.specs.IndexMap.{keys}
use Rattle.pc_entity.specs.declared.string_pool.Atom.{Atom}
use Rattle.pc_entity.specs.Lists.{AreDistinct}
use Rattle.pc_inline_names.specs.Numbers.{numbers_of}
use Rattle.pc_inline_names.proofs.NumberedLemmas.{keys_distinct}
use Rattle.pc_inline_names.proofs.atom_map.AtomMap.numbers_are_distinct.Goals as goal

pub returns : goal.returns
returns g c =
    subst (λ (ns : List Atom). AreDistinct ns) (ap numbers_of c.self.view_is)
    (keys_distinct (λ (a b : Atom). nat_eq a.0 b.0) (λ n. nat_eq_equiv.refl n.0) (keys c.self.inside.entries)
    c.self.invariant)
