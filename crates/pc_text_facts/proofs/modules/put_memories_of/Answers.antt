use Rattle.std.proofs.Common.{◌≡◌, ℕ, ◌++◌, ◌∙◌, OnOk, ap, subst}
use Rattle.pc_types.specs.declared.parsed.CoreKind.TheVariants as kind
use Rattle.pc_types.specs.Record.{imported}
use Rattle.pc_spec_plan.specs.Text.{core_kind}
use Rattle.pc_spec_facts.specs.Recorded.{import_in}
use Rattle.pc_spec_facts.specs.Text.{each_below, fact_line, known}
use Rattle.pc_text_facts.proofs.modules.put_memories_of.Goals as goal

pub returns : goal.returns
returns c =
    subst (λ (m : ℕ). OnOk c.put_entities.result (c.put_entities.new.out.items ≡ c.args.out.now.items
    ++ each_below m (λ n. fact_line (core_kind kind.Memory) known c.args.place n
    (import_in c.args.which.now kind.Memory n))))
    (c.in_ok-imported.ensures ∙ c.imported.ensures ∙ ap (λ r. imported r kind.Memory) c.get.ensures)
    (c.put_entities.ensures kind.Memory)
