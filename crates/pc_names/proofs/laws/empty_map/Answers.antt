use Rattle.pc_names.proofs.StandingLemmas.{StandsFor-nothing}
use Rattle.pc_names.proofs.laws.empty_map.Goals as goal

pub returns : goal.returns
returns g c = StandsFor-nothing (g.I.NameMapIntern.has_key c.args.cx.now)
