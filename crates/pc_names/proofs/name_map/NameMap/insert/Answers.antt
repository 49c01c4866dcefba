use Rattle.pc_names.proofs.TextKeyLemmas.{keys_agree}
use Rattle.pc_names.proofs.StandingLemmas.{IsHeld-IsTwice, IsTwice-IsHeld, StandsFor-kept, StandsFor-with_definition}
use Rattle.pc_names.specs.Steps.{keyed_version}
use Rattle.pc_names.proofs.name_map.NameMap.insert.Goals as goal

pub returns-in_err-place-clause-twice : goal.returns-in_err-place-clause-twice
returns-in_err-place-clause-twice g c inserted stands e =
    let agree =
    keys_agree (g.I.NameMapIntern.has_key c.intern.new.self) g.K.PartialEq.eq
    (g.met.I.NameMapIntern.same_key c.intern.new.self) in
    let now =
    StandsFor-kept (g.I.NameMapIntern.has_key c.args.cx.now) (g.I.NameMapIntern.has_key c.intern.new.self)
    c.intern.ensures.kept c.args.self.now inserted stands in
    IsHeld-IsTwice agree c.args.self.now inserted c.args.name.now c.in_ok-key.key c.args.allow_shadowing now
    c.in_ok-key.ensures.key c.in_err-place.ensures.twice.1

pub returns-clause-ok : goal.returns-clause-ok
returns-clause-ok g c inserted stands =
    let agree =
    keys_agree (g.I.NameMapIntern.has_key c.track_key.new.cx) g.K.PartialEq.eq
    (g.met.I.NameMapIntern.same_key c.track_key.new.cx) in
    let now = StandsFor-kept (g.I.NameMapIntern.has_key c.args.cx.now) (g.I.NameMapIntern.has_key c.track_key.new.cx)
    (λ t k h. c.track_key.ensures.kept t k (c.intern.ensures.kept t k h)) c.args.self.now inserted stands in
    rw c.in_ok-put.ensures.ok
    (StandsFor-with_definition agree c.args.self.now inserted c.args.name.now c.in_ok-key.key
    (keyed_version c.in_ok-track.track) c.args.item
    now (c.track_key.ensures.kept _ _ c.in_ok-key.ensures.key) c.in_ok-track.ensures.key)

pub returns-clause-once : goal.returns-clause-once
returns-clause-once g c inserted stands twice =
    let agree =
    keys_agree (g.I.NameMapIntern.has_key c.intern.new.self) g.K.PartialEq.eq
    (g.met.I.NameMapIntern.same_key c.intern.new.self) in
    let now =
    StandsFor-kept (g.I.NameMapIntern.has_key c.args.cx.now) (g.I.NameMapIntern.has_key c.intern.new.self)
    c.intern.ensures.kept c.args.self.now inserted stands in
    c.in_ok-place.ensures.once (IsTwice-IsHeld agree c.args.self.now inserted c.args.name.now c.in_ok-key.key
    c.args.allow_shadowing now c.in_ok-key.ensures.key twice)
