use Rattle.std.proofs.Common.{sym, ◌∙◌, ap, not, ◌||◌}
use Rattle.std.specs.Str.{bytes_eq}
use Rattle.pc_types.specs.Names.{has_name}
use Rattle.pc_types.proofs.NameLemmas.{has_name-keys, has_name-added}
use Rattle.pc_types.proofs.name_set.NameSet.insert.Goals as goal

pub returns-clause-added : goal.returns-clause-added
returns-clause-added c =
    c.in_ok-insert.ensures.added
    ∙ ap not (sym (has_name-keys c.self.inside.names.keys c.as_str.result.now))
    ∙ ap (λ names. not (has_name names c.as_str.result.now)) c.self.view_is
    ∙ ap (λ name. not (has_name c.args.self.now name)) c.as_str.ensures

pub returns-clause-names : goal.returns-clause-names
returns-clause-names c q =
    has_name-added c.self.inside.names c.insert.new.self c.as_str.result c.in_ok-insert.ensures.updates q
    ∙ ap (λ names. bytes_eq q c.as_str.result.now || has_name names q) c.self.view_is
    ∙ ap (λ name. bytes_eq q name || has_name c.args.self.now q) c.as_str.ensures
