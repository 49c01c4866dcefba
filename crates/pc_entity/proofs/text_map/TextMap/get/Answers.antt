use Rattle.std.proofs.Common.{sym, ◌∙◌, ap}
use Rattle.pc_entity.specs.Lists.{value_of}
use Rattle.pc_entity.proofs.Entries.{value_of-lookup}
use Rattle.pc_entity.proofs.text_map.TextMap.get.Goals as goal

pub returns : goal.returns
returns g c =
    c.get.ensures.value ∙ sym (value_of-lookup c.args.name.now c.self.inside.entries.entries)
    ∙ ap (value_of c.args.name.now) c.self.view_is
