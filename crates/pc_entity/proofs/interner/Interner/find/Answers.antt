use Rattle.std.proofs.Common.{sym, ◌∙◌, ap, get_or, Some, slice_get}
use Rattle.std.proofs.lemmas.Option.{slice_get-get_or}
use Rattle.std.proofs.lemmas.List.Quantifiers.{position-Some}
use Rattle.pc_entity.proofs.interner.Interner.find.Goals as goal

pub returns-in-Some-clause-held : goal.returns-in-Some-clause-held
returns-in-Some-clause-held g c =
    let keys = c.self.inside.values.keys in
    let value = c.args.value.now in
    let place = c.in-Some.place in
    let p = position-Some (g.V.PartialEq.eq value) keys place value (sym c.in-Some.ensures.index) in
    ap (λ items. slice_get items place) (sym c.self.view_is)
    ∙ slice_get-get_or keys place value p.0
    ∙ ap Some (sym (g.met.V.ExactEq.exact value (get_or keys place value) p.1))
