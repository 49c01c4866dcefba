use Rattle.std.proofs.Common.{subst}
use Rattle.pc_inline_state.specs.Found.{ItemFound}
use Rattle.pc_inline_state.specs.Tables.{tables_of}
use Rattle.pc_inline_state.proofs.FoundLemmas.{entity_ids, known_item, named_ids, named_there}
use Rattle.pc_inline_state.proofs.AddsLemmas.{each_refl}
use Rattle.pc_inline_state.specs.AddsEach.{nowhere}
use Rattle.pc_inline_state.proofs.context.Context.found_id.Goals as goal

pub returns-in-Entity-clause-id : goal.returns-in-Entity-clause-id
returns-in-Entity-clause-id c =
    entity_ids c.args.self.now.modules c.args.state.now c.entity_item.new.state c.entity_item.result c.args.item _
    c.in-Entity.is c.entity_item.ensures.rest c.entity_item.ensures.item

pub returns-in-Known-clause-id : goal.returns-in-Known-clause-id
returns-in-Known-clause-id c k v found =
    known_item c.args.self.now.modules (tables_of c.args.state.now) k c.in-Known.id v
    (subst (λ i. ItemFound c.args.self.now.modules (tables_of c.args.state.now) k i v) c.in-Known.is found)

pub returns-in-Known-clause-adds : goal.returns-in-Known-clause-adds
returns-in-Known-clause-adds c = each_refl nowhere 1 0 (tables_of c.args.state.now)

pub host_item-requires : goal.host_item-requires
host_item-requires c = record {
  sound = c.requires.sound;
  there = named_there c.args.self.now.modules (tables_of c.args.state.now) _ c.args.item c.in-Named.instance
      c.in-Named.entry c.in-Named.place c.requires.sound.table c.in-Named.is c.requires.there;
}

pub returns-in-Named-clause-id : goal.returns-in-Named-clause-id
returns-in-Named-clause-id c =
    named_ids c.args.self.now.modules c.args.state.now c.host_item.new.state c.host_item.result
    c.args.self.now.table.now c.args.item _ c.requires.sound.table c.in-Named.is c.host_item.ensures.rest
    c.host_item.ensures.item
