use Rattle.std.proofs.Common.{nat_eq, sym, ap, ◌∙◌}
use Rattle.std.specs.Prelude.{is_some}
use Rattle.indexmap.specs.IndexMap.{insert_entry}
use Rattle.pc_entity.specs.declared.string_pool.Atom.{Atom}
use Rattle.pc_inline_names.specs.Numbers.{numbered_value}
use Rattle.pc_inline_names.proofs.NumberedLemmas.{insert_first}
use Rattle.pc_inline_names.proofs.atom_map.AtomMap.insert_first.Goals as goal

pub returns-clause-ok : goal.returns-clause-ok
returns-clause-ok g c =
    let n = c.args.number in
    let v = c.args.value in
    c.in_ok-insert.ensures.entries
    ∙ ap (λ es. insert_entry (λ (a b : Atom). nat_eq a.0 b.0) es n v) c.self.view_is
    ∙ insert_first c.args.self.now n v
    (sym (c.contains_key.ensures ∙ ap (λ es. is_some (numbered_value n es)) c.self.view_is) ∙ c.if-contains_key.false)
