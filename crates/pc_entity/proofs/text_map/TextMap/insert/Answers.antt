use Rattle.std.proofs.Common.{sym, ◌∙◌, ap}
use Rattle.std.proofs.lemmas.Result.{err_from_is_err_and}
use Rattle.pc_entity.specs.Lists.{value_of, with_value}
use Rattle.pc_entity.proofs.Entries.{value_of-lookup, insert_entry-with_value}
use Rattle.pc_entity.proofs.text_map.TextMap.insert.Goals as goal

pub returns-in_err-insert-clause-absent : goal.returns-in_err-insert-clause-absent
returns-in_err-insert-clause-absent g c =
    let p = err_from_is_err_and c.from_residual.result c.from_residual.ensures.1 in
    rw p.1
    (ap (value_of c.args.name) (sym c.self.view_is)
    ∙ value_of-lookup c.args.name c.self.inside.entries.entries
    ∙ c.in_err-insert.ensures.absent)

pub returns-clause-old : goal.returns-clause-old
returns-clause-old g c =
    c.in_ok-insert.ensures.old
    ∙ sym (value_of-lookup c.args.name c.self.inside.entries.entries)
    ∙ ap (value_of c.args.name) c.self.view_is

pub returns-clause-ok : goal.returns-clause-ok
returns-clause-ok g c =
    c.in_ok-insert.ensures.entries
    ∙ insert_entry-with_value c.self.inside.entries.entries c.args.name c.args.value
    ∙ ap (λ es. with_value es c.args.name c.args.value) c.self.view_is
