use Rattle.std.proofs.Common.{◌∙◌, ap, subst, Some}
use Rattle.pc_entity.specs.Lists.{AreDistinct}
use Rattle.pc_entity.proofs.Pool.{texts_distinct, string_at}
use Rattle.pc_entity.proofs.string_pool.StringPool.insert.Goals as goal

pub returns-in-Some-clause-distinct : goal.returns-in-Some-clause-distinct
returns-in-Some-clause-distinct c =
    subst AreDistinct c.self.view_is (texts_distinct c.self.inside.texts.keys c.self.invariant.0)

pub returns-in_err-from_str-clause-distinct : goal.returns-in_err-from_str-clause-distinct
returns-in_err-from_str-clause-distinct c = texts_distinct c.self.inside.texts.keys c.self.invariant.0

pub returns-in_err-place-clause-distinct : goal.returns-in_err-place-clause-distinct
returns-in_err-place-clause-distinct c = texts_distinct c.insert_full.new.self.keys c.insert_full.ensures.unique

pub returns-clause-held : goal.returns-clause-held
returns-clause-held c =
    let stored = c.in_ok-place.ensures.stored in
    string_at c.insert_full.new.self.keys c.in_ok-place.place stored.0 c.in_ok-from_str.field-0 stored.1 stored.2
    ∙ ap Some c.in_ok-from_str.ensures.ok

pub returns-clause-distinct : goal.returns-clause-distinct
returns-clause-distinct c = texts_distinct c.insert_full.new.self.keys c.insert_full.ensures.unique
