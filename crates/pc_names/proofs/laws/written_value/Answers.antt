use Rattle.pc_names.proofs.TextKeyLemmas.{keys_agree}
use Rattle.pc_names.proofs.CallerLemmas.{StandsFor-written}
use Rattle.pc_names.proofs.laws.written_value.Goals as goal

pub returns : goal.returns
returns g c map inserted name key value =
    let agree =
    keys_agree (g.I.NameMapIntern.has_key c.args.cx.now) g.I.Key.PartialEq.eq
    (g.met.I.NameMapIntern.same_key c.args.cx.now) in
    StandsFor-written agree map inserted name key value
