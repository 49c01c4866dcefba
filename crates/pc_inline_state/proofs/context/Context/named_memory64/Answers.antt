use Rattle.std.proofs.Common.{ℕ, List, Option, sym, ap, ◌∙◌}
use Rattle.std.specs.Prelude.{option_and_then}
use Rattle.pc_types.specs.declared.parsed.CoreEntity.{CoreEntity}
use Rattle.pc_types.specs.Record.{width_in}
use Rattle.pc_inline_state.specs.Bags.{module_export}
use Rattle.pc_inline_state.proofs.LookupLemmas.{named_width}
use Rattle.pc_inline_state.proofs.context.Context.named_memory64.Goals as goal

pub returns-in-None : goal.returns-in-None
returns-in-None c =
    let t = c.args.self.now.table.now in
    let n = c.args.entry in
    ap (λ (o : Option ℕ). option_and_then (λ (e : List ℕ × CoreEntity). width_in e.1)
    (option_and_then (module_export t n) o)) (sym c.in-None.is ∙ c.named_place.ensures)
    ∙ named_width t n c.args.name.now

pub returns-in-Some : goal.returns-in-Some
returns-in-Some c =
    let t = c.args.self.now.table.now in
    let n = c.args.entry in
    c.placed_memory64.ensures
    ∙ ap (λ (o : Option ℕ). option_and_then (λ (e : List ℕ × CoreEntity). width_in e.1)
    (option_and_then (module_export t n) o)) (sym c.in-Some.is ∙ c.named_place.ensures)
    ∙ named_width t n c.args.name.now
