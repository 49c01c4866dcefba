use Rattle.pc_graph.proofs.TourLemmas.{run_tours, the_only_tour}
use Rattle.pc_graph.proofs.laws.runs_are_tours.Goals as goal

pub returns : goal.returns
returns g c = record { tour = run_tours; only = the_only_tour }
