use Rattle.std.proofs.Common.{sym, ◌∙◌}
use Rattle.pc_input_tokens.proofs.Trees.{only-one, only-none}
use Rattle.pc_input_tokens.proofs.owned.ValueTree.tagged.Goals as goal

pub returns-then-len-ne1 : goal.returns-then-len-ne1
returns-then-len-ne1 c =
    rw (← c.in_ok-members.ensures) (sym (only-none _ (λ one. c.if-len-ne1.true (c.len.ensures.len ∙ one))))

pub returns : goal.returns
returns c =
    rw (← c.in_ok-members.ensures, c.as_str.ensures.value)
    (sym (only-one _ _ (sym c.len.ensures.len ∙ c.if-len-ne1.false) c.in_ok-key.ensures.first))
