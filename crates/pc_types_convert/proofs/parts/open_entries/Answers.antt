use Rattle.std.proofs.Common.{arith, subst}
use Rattle.std.proofs.lemmas.List.{take_all}
use Rattle.pc_types_convert.proofs.NeededLemmas.{Opens, opens_next, opens_none, opens_of_one}
use Rattle.pc_types_convert.proofs.parts.open_entries.Goals as goal

pub loop-n-init : goal.loop-n-init
loop-n-init c = opens_none c.args.done.now.all c.args.opened.now.keys

pub loop-n-preserved : goal.loop-n-preserved
loop-n-preserved c =
    let l = c.loop-n in
    let now = c.in_ok-open_entry.ensures in
    opens_next c.args.done.now.all c.args.ns.now l.n-index 0 c.args.opened.now.keys l.opened.keys
    c.open_entry.new.opened.keys (omega arith)
    l.invariant (opens_of_one c.args.done.now.all _ l.opened.keys c.open_entry.new.opened.keys now.kept now.met now.only
    now.fresh)

pub returns-clause-only : goal.returns-clause-only
returns-clause-only c =
    let l = c.loop-n in
    let ns = c.args.ns.now in
    (subst (λ z. Opens c.args.done.now.all z c.args.opened.now.keys l.opened.keys)
    (take_all l.n-index ns (omega arith)) l.invariant).only

pub returns-clause-fresh : goal.returns-clause-fresh
returns-clause-fresh c =
    let l = c.loop-n in
    let ns = c.args.ns.now in
    (subst (λ z. Opens c.args.done.now.all z c.args.opened.now.keys l.opened.keys)
    (take_all l.n-index ns (omega arith)) l.invariant).fresh
