use Rattle.std.proofs.Common.{sym, ap, ◌∙◌}
use Rattle.std.specs.Map.{lookup}
use Rattle.pc_names.proofs.TextKeyLemmas.{keys_agree}
use Rattle.pc_names.proofs.StandingLemmas.{exact-known, exact-unknown}
use Rattle.pc_names.proofs.name_map.NameMap.exact.Goals as goal

pub returns-in-Some : goal.returns-in-Some
returns-in-Some g c inserted stands =
    let agree =
    keys_agree (g.I.NameMapIntern.has_key c.args.cx.now) g.K.PartialEq.eq
    (g.met.I.NameMapIntern.same_key c.args.cx.now) in
    c.get.ensures ∙ ap (λ m. lookup (g.K.PartialEq.eq c.in-Some.key) m.definitions) c.self.view_is
    ∙ exact-known agree c.args.self.now inserted c.args.name.now c.in-Some.key stands
    (rw c.in-Some.is at c.in_ok-key.ensures.found)

pub returns-in-None : goal.returns-in-None
returns-in-None g c inserted stands =
    sym (exact-unknown (g.I.NameMapIntern.has_key c.args.cx.now) c.args.self.now inserted c.args.name.now stands
    (rw c.in-None.is at c.in_ok-key.ensures.missing))
