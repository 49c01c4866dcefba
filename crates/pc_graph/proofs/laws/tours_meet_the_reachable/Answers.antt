use Rattle.pc_graph.proofs.TourLemmas.{meets_by_its_events, meets_once, tour_meets_reachable}
use Rattle.pc_graph.proofs.laws.tours_meet_the_reachable.Goals as goal

pub returns : goal.returns
returns g c = record { reachable = tour_meets_reachable; order = meets_by_its_events; once = meets_once }
