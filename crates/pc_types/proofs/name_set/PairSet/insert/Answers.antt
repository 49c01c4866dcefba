use Rattle.std.proofs.Common.{sym, ◌∙◌, ap, not, ◌||◌}
use Rattle.std.specs.List.{list_any}
use Rattle.pc_types.specs.Names.{same_pair}
use Rattle.pc_types.proofs.NameLemmas.{same_pair-keys, same_pair-added}
use Rattle.pc_types.proofs.name_set.PairSet.insert.Goals as goal

pub returns-clause-added : goal.returns-clause-added
returns-clause-added c =
    let first = c.as_str.result in
    let second = c.as_str-2.result in
    c.in_ok-insert.ensures.added
    ∙ ap not (sym (same_pair-keys c.self.inside.pairs.keys (first, second)))
    ∙ ap (λ pairs. not (list_any (same_pair (first.now, second.now)) pairs)) c.self.view_is
    ∙ (λ i. not (list_any (same_pair (c.as_str.ensures i, c.as_str-2.ensures i)) c.args.self.now))

pub returns-clause-pairs : goal.returns-clause-pairs
returns-clause-pairs c q =
    let first = c.as_str.result in
    let second = c.as_str-2.result in
    same_pair-added c.self.inside.pairs c.insert.new.self (first, second) c.in_ok-insert.ensures.updates q
    ∙ ap (λ pairs. same_pair q (first.now, second.now) || list_any (same_pair q) pairs) c.self.view_is
    ∙ (λ i. same_pair q (c.as_str.ensures i, c.as_str-2.ensures i) || list_any (same_pair q) c.args.self.now)
