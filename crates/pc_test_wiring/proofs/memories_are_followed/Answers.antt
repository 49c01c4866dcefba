use Rattle.pc_test_wiring.proofs.Memories.{known, not_to_importers, origin, seen_by_host, to_importers}
use Rattle.pc_test_wiring.proofs.memories_are_followed.Goals as goal

pub returns-clause-origin : goal.returns-clause-origin
returns-clause-origin c = origin

pub returns-clause-known : goal.returns-clause-known
returns-clause-known c = known

pub returns-clause-to_importers : goal.returns-clause-to_importers
returns-clause-to_importers c = to_importers

pub returns-clause-seen_by_host : goal.returns-clause-seen_by_host
returns-clause-seen_by_host c = seen_by_host

pub returns-clause-kept : goal.returns-clause-kept
returns-clause-kept c = not_to_importers
