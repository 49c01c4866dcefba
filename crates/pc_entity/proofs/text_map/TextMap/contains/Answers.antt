use Rattle.std.proofs.Common.{sym, ◌∙◌, ap, is_some}
use Rattle.pc_entity.specs.Lists.{value_of}
use Rattle.pc_entity.proofs.Entries.{value_of-lookup}
use Rattle.pc_entity.proofs.text_map.TextMap.contains.Goals as goal

pub returns : goal.returns
returns g c =
    c.contains_key.ensures
    ∙ ap is_some (sym (value_of-lookup c.args.name.now c.self.inside.entries.entries)
    ∙ ap (value_of c.args.name.now) c.self.view_is)
