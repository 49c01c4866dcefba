-- A key has the place at which it stood first.
use Rattle.std.proofs.Common.{sym, ◌∙◌}
use Rattle.std.specs.BTreeMap.{get, is_at}
use Rattle.pc_partition.proofs.FirstLemmas.{new_key, old_key}
use Rattle.pc_partition.proofs.least.first_of.Goals as goal

pub returns-in-Some : goal.returns-in-Some
returns-in-Some g c keys so_far here =
    old_key keys c.args.place (get g.K.Ord.cmp c.args.firsts.now) so_far c.args.key here c.in-Some.first
    (sym c.place_of.ensures ∙ c.in-Some.is)

pub returns-in_ok-insert-in-None : goal.returns-in_ok-insert-in-None
returns-in_ok-insert-in-None g c keys so_far here =
    let written = c.in_ok-insert-in-None.ensures.updates in
    new_key keys c.args.place (get g.K.Ord.cmp c.args.firsts.now) so_far c.args.key here
    (get g.K.Ord.cmp c.insert.new.self) (is_at (g.K.Ord.cmp c.args.key))
    (λ q same. g.met.K.ExactEq.exact c.args.key q (g.met.K.Ord.matches_eq c.args.key q ∙ same))
    written.0 written.1 (sym c.place_of.ensures ∙ c.in-None.is)
