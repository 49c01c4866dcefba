use Rattle.std.proofs.Common.{refl}
use Rattle.std.specs.Option.{option_map}
use Rattle.std.proofs.lemmas.Result.{on_ok_weaker}
use Rattle.pc_local.specs.Open.{state_of}
use Rattle.pc_local.proofs.RoomLemmas.{section_aliased}
use Rattle.pc_local.proofs.open.Open.push.Goals as goal

pub returns-in-ComponentAliasSection : goal.returns-in-ComponentAliasSection
returns-in-ComponentAliasSection c =
    on_ok_weaker c.push_aliases.result
    (λ goes. section_aliased (option_map (λ x. x.now) c.args.exposed) c.args.payload.now
    c.in-ComponentAliasSection.entries c.as_slice-in-ComponentAliasSection.result.now (state_of c.args.self.now)
    (record {
      around = c.args.self.now.around.items;
      body = record { initializers = c.push_aliases.new.items; exports = c.args.self.now.body.exports };
      modules = c.push_aliases.new.modules.items;
      components = c.push_aliases.new.components.items;
      records = c.args.self.now.records;
      ended = c.args.self.now.ended;
    }) c.in-ComponentAliasSection.is c.as_slice-in-ComponentAliasSection.ensures goes refl refl refl refl)
    c.push_aliases.ensures
