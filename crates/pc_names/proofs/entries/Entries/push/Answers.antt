use Rattle.std.proofs.Common.{◌∙◌}
use Rattle.pc_names.proofs.PlaceLemmas.{insert_entry-absent}
use Rattle.pc_names.proofs.entries.Entries.push.Goals as goal

pub returns-clause-ok : goal.returns-clause-ok
returns-clause-ok g c =
    c.in_ok-insert.ensures.ok ∙ insert_entry-absent g.K.PartialEq.eq c.args.self.now c.args.key c.args.value c.requires
