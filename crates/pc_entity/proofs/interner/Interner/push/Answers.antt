use Rattle.pc_entity.proofs.Distinct.{are_distinct_items}
use Rattle.pc_entity.proofs.interner.Interner.push.Goals as goal

pub returns-in_err-place-clause-distinct : goal.returns-in_err-place-clause-distinct
returns-in_err-place-clause-distinct g c =
    are_distinct_items g.V.PartialEq.eq g.met.V.Eq.laws.refl c.insert_full.new.self.keys c.insert_full.ensures.unique

pub returns-clause-distinct : goal.returns-clause-distinct
returns-clause-distinct g c =
    are_distinct_items g.V.PartialEq.eq g.met.V.Eq.laws.refl c.insert_full.new.self.keys c.insert_full.ensures.unique
