use Rattle.std.proofs.Common.{List, ◌++◌, ◌∙◌, ap, sym}
use Rattle.std.proofs.lemmas.List.{append-nil, drop_all}
use Rattle.pc_info.specs.declared.module.ModuleTranslation.{ModuleTranslation}
use Rattle.pc_spec_plan.specs.Text.{numbered}
use Rattle.pc_spec_facts.specs.Text.{module_text}
use Rattle.pc_text_facts.proofs.modules.put_modules.Goals as goal

pub returns : goal.returns
returns c =
    let l = c.loop-place in
    sym (append-nil l.out.items)
    ∙ ap (λ (left : List ModuleTranslation). l.out.items ++ numbered module_text l.place left)
    (sym (drop_all l.place c.args.modules.now c.loop-place-test.false))
    ∙ l.invariant
