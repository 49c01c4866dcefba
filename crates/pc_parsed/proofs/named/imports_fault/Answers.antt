use Rattle.std.proofs.Common.{sym, ◌∙◌, arith}
use Rattle.std.specs.Option.{option_map}
use Rattle.pc_entity.proofs.LookupLemmas.{left_here}
use Rattle.pc_parsed.proofs.NameLemmas.{imports_step}
use Rattle.pc_parsed.proofs.named.imports_fault.Goals as goal

pub loop-n-preserved : goal.loop-n-preserved
loop-n-preserved c =
    let n = c.loop-n.n in
    let xs = c.args.items.now in
    let x = c.index-items-n.result in
    let at = left_here xs n x (omega arith) c.index-items-n.is in
    let none = c.in-None.is in
    imports_step c.args.table.now
    (option_map (λ x. x.now) c.args.exposed) xs n x c.loop-n.names c.import_fault.new.names _ _ at
    (sym c.in_ok-fault.ensures.fault ∙ none)
    (c.in_ok-fault.ensures.gains none) c.loop-n.invariant
