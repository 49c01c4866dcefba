use Rattle.pc_inline_names.specs.Named.{body_at}
use Rattle.pc_inline_names.proofs.LookupLemmas.{item_found}
use Rattle.pc_inline_names.proofs.program_names.ProgramNames.item.Goals as goal

pub returns : goal.returns
returns c = λ l at.
    item_found c.args.self.now.texts (body_at c.args.self.now.bodies c.args.self.now.root c.args.body).initializers
    c.lists.result.now.ended c.args.item l c.list_at.result.now c.lists.ensures at c.list_at.ensures
