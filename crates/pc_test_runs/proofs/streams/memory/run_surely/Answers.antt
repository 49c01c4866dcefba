use Rattle.std.proofs.Common.{map}
use Rattle.std.specs.String.{string_bytes}
use Rattle.pc_test_runs.proofs.SureLemmas.{never_fails}
use Rattle.pc_test_runs.proofs.streams.memory.run_surely.Goals as goal

pub returns : goal.returns
returns c =
    never_fails (map string_bytes c.args.words.now) _ _ _ _ _ _ _ _ c.run.ensures.ended c.run.ensures.generated
