use Rattle.std.proofs.Common.{ap, length, ◌∙◌}
use Rattle.pc_types.specs.Record.{imported}
use Rattle.pc_types_record.proofs.Lists.{places_count}
use Rattle.pc_types_record.proofs.record_index.RecordIndex.imported.Goals as goal

pub returns : goal.returns
returns c =
    let kind = c.args.kind in
    c.count.ensures
    ∙ ap length (c.self.invariant.imports.positions kind)
    ∙ places_count kind 0 c.self.inside.record.now.imports
    ∙ ap (λ r. imported r kind) c.self.view_is
