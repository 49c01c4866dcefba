use Rattle.pc_tool.proofs.ChainLemmas.{input_few, input_refused}
use Rattle.pc_tool.proofs.chain.translate_chain.Goals as goal

pub returns-clause-small : goal.returns-clause-small
returns-clause-small c =
    input_few c.args.n c.requires.few c.in_ok-input.input c.in_ok-input.ensures _ c.plan_payloads.ensures.translated

pub returns-clause-valid : goal.returns-clause-valid
returns-clause-valid c =
    input_refused c.args.n c.requires.few c.in_ok-input.input c.in_ok-input.ensures _ c.plan_payloads.ensures.refused
