use Rattle.pc_names.proofs.TextKeyLemmas.{keys_agree}
use Rattle.pc_names.proofs.StandingLemmas.{track-known, track-unknown}
use Rattle.pc_names.proofs.name_map.NameMap.newest.Goals as goal

pub returns-in-Some : goal.returns-in-Some
returns-in-Some g c inserted version stands =
    let agree =
    keys_agree (g.I.NameMapIntern.has_key c.args.cx.now) g.K.PartialEq.eq
    (g.met.I.NameMapIntern.same_key c.args.cx.now) in
    rw c.newest_under.ensures (track-known agree c.args.self.now inserted (c.args.track.now, version) c.in-Some.key
    stands (rw c.in-Some.is at c.in_ok-key.ensures.found))

pub returns-in-None : goal.returns-in-None
returns-in-None g c inserted version stands =
    track-unknown (g.I.NameMapIntern.has_key c.args.cx.now) c.args.self.now inserted (c.args.track.now, version)
    stands (rw c.in-None.is at c.in_ok-key.ensures.missing)
