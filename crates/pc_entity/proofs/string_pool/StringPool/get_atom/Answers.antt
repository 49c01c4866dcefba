use Rattle.std.proofs.Common.{sym, ◌∙◌, ap, subst, Contains, true≢false}
use Rattle.std.specs.Prelude.{slice_get}
use Rattle.pc_entity.proofs.Pool.{text_at_position, found_text}
use Rattle.pc_entity.proofs.string_pool.StringPool.get_atom.Goals as goal

pub returns-in-Some-clause-found : goal.returns-in-Some-clause-found
returns-in-Some-clause-found c =
    ap (λ texts. slice_get texts c.in-Some.place) (sym c.self.view_is)
    ∙ text_at_position c.self.inside.texts.keys c.args.text.now c.in-Some.place (sym c.in-Some.ensures.index)

pub returns-in-None-clause-absent : goal.returns-in-None-clause-absent
returns-in-None-clause-absent c =
    λ held. true≢false
    (sym (found_text c.self.inside.texts.keys c.args.text.now
    (subst (λ texts. Contains texts c.args.text.now) (sym c.self.view_is) held))
    ∙ sym c.in-None.ensures.found)
