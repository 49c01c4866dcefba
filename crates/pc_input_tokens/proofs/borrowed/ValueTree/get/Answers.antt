use Rattle.std.proofs.Common.{option_map, sym, ap, ◌∙◌}
use Rattle.json.specs.Value.{value_view}
use Rattle.pc_input_tokens.specs.Borrowed.{data_of}
use Rattle.pc_input_tokens.proofs.Trees.{get-data_of, seen_twice}
use Rattle.pc_input_tokens.proofs.borrowed.ValueTree.get.Goals as goal

pub returns : goal.returns
returns c =
    seen_twice c.get.result ∙ ap (option_map data_of) c.get.ensures
    ∙ sym (get-data_of c.args.key.now (value_view c.args.self.now))
