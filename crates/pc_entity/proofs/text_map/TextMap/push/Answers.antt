use Rattle.std.proofs.Common.{◌∙◌}
use Rattle.pc_entity.proofs.Entries.{with_value-absent}
use Rattle.pc_entity.proofs.text_map.TextMap.push.Goals as goal

pub returns-clause-ok : goal.returns-clause-ok
returns-clause-ok g c =
    c.in_ok-insert.ensures.ok ∙ with_value-absent c.args.self.now c.args.name c.args.value c.requires.absent
