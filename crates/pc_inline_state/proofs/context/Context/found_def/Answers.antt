use Rattle.std.proofs.Common.{sym, subst, ◌∙◌}
use Rattle.pc_inline_state.specs.Found.{ArgumentStands, ItemFound}
use Rattle.pc_inline_state.specs.Tables.{tables_of}
use Rattle.pc_inline_state.proofs.FoundLemmas.{entity_argument, known_arguments, named_arguments}
use Rattle.pc_inline_state.proofs.context.Context.found_def.Goals as goal

pub returns-in-Entity : goal.returns-in-Entity
returns-in-Entity c k v found =
    subst (λ d. ArgumentStands c.args.self.now.modules (tables_of c.args.state.now) d v) (sym c.entity_def.ensures)
    (entity_argument _ _ k _ _ v
    (subst (λ i. ItemFound c.args.self.now.modules (tables_of c.args.state.now) k i v) c.in-Entity.is found))

pub returns-in-Known : goal.returns-in-Known
returns-in-Known c =
    known_arguments c.args.self.now.modules (tables_of c.args.state.now) c.try_clone.result c.in-Known.id c.args.item
    c.index.result.now c.in-Known.is c.index.ensures c.try_clone.ensures

pub returns-in-Named : goal.returns-in-Named
returns-in-Named c =
    named_arguments c.args.self.now.modules (tables_of c.args.state.now) c.named_def.result
    c.args.state.now.names.now.table c.args.item c.in-Named.instance c.in-Named.entry c.in-Named.place
    (c.requires.table ∙ sym c.requires.names) c.in-Named.is c.requires.there c.named_def.ensures
