use Rattle.std.proofs.Common.{sym}
use Rattle.pc_graph.proofs.NotedLemmas.{last_is-read}
use Rattle.pc_graph.proofs.evaporation.ends_with.Goals as goal

pub returns-in-Some : goal.returns-in-Some
returns-in-Some c =
    last_is-read c.args.list.now c.in-Some.last.now c.args.number.0 (sym c.in-Some.ensures.value)
