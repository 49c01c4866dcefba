use Rattle.std.proofs.Common.{refl}
use Rattle.pc_test_wiring.proofs.Runs as runs
use Rattle.pc_test_wiring.proofs.Quiet.{confined, first_is_kept, first_is_transparent, first_lowers_host}
use Rattle.pc_test_wiring.proofs.two_adapters_are_confined.Goals as goal

pub returns-clause-confined : goal.returns-clause-confined
returns-clause-confined c = confined

pub returns-clause-transparent : goal.returns-clause-transparent
returns-clause-transparent c = first_is_transparent

pub returns-clause-lowers_host : goal.returns-clause-lowers_host
returns-clause-lowers_host c = first_lowers_host

pub returns-clause-kept : goal.returns-clause-kept
returns-clause-kept c = first_is_kept

pub returns-clause-runs : goal.returns-clause-runs
returns-clause-runs c = refl

pub returns-clause-confined_run : goal.returns-clause-confined_run
returns-clause-confined_run c = runs.confined
