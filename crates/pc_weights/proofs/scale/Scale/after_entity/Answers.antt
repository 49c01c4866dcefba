use Rattle.std.proofs.Common.{◌≡◌, ℕ, List, [], ap, ◌∙◌, arith}
use Rattle.pc_spec_reading.specs.Total.{entity_names, names_from}
use Rattle.pc_weights.specs.Capped.{capped}
use Rattle.pc_weights.proofs.NamesLemmas.{capped_entity}
use Rattle.pc_weights.proofs.scale.Scale.after_entity.Goals as goal

pub returns : goal.returns
returns c =
    let t = c.args.self.now.table.now in
    let names : c.entity_names-names.result ≡ capped (entity_names (names_from [] t.types) c.args.entity) =
    c.entity_names-names.ensures
    ∙ ap (λ (ns : List ℕ). entity_names ns c.args.entity) (c.as_slice.ensures.value ∙ c.requires.scale.names)
    ∙ capped_entity (names_from [] t.types) c.args.entity in
    omega (arith, names)
