use Rattle.std.proofs.Common.{sym, ◌∙◌}
use Rattle.std.specs.Option.{option_map}
use Rattle.pc_local.proofs.NextLemmas.{sound_payloads}
use Rattle.pc_local.proofs.translate.translate_payloads.Goals as goal

pub returns-in_ok-collect-in-None-clause-program : goal.returns-in_ok-collect-in-None-clause-program
returns-in_ok-collect-in-None-clause-program c =
    let x = option_map (λ x. x.now) c.args.intrinsics in
    c.in_ok-collect-in-None.ensures c.args.table.now
    (sound_payloads c.args.table.now x c.args.payloads.now (sym c.in_ok-error.ensures ∙ c.in-None.is))
