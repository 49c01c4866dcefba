use Rattle.pc_names.proofs.StandingLemmas.{StandsFor-kept}
use Rattle.pc_names.proofs.laws.other_texts.Goals as goal

pub returns : goal.returns
returns g c map inserted kept = StandsFor-kept (g.I.NameMapIntern.has_key c.args.before.now)
    (g.I.NameMapIntern.has_key c.args.after.now) kept map inserted
