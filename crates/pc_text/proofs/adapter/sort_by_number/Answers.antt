use Rattle.std.proofs.Common.{rules}
use Rattle.std.proofs.lemmas.List.Sorted.{answers_always, IsNonDecreasingBy-from_sort}
use Rattle.std.proofs.Common.{ℕ}
use Rattle.pc_text.specs.declared.adapter.Placed.{Placed}
use Rattle.pc_text.specs.Placed.{placed_view}
use Rattle.pc_text.proofs.ByNumber.{by_number-from_sort}
use Rattle.pc_text.proofs.adapter.sort_by_number.Goals as goal

-- the number that is sorted by
abbrev number_of : Placed → ℕ
number_of p = p.adapter.now.adapter

pub returns : goal.returns
returns c =
    let keys = answers_always _ _ _ (λ f a r next called. search rules) in
    let sorted = c.in_ok-sort_by_key.ensures.sorted number_of keys in
    let stable = c.in_ok-sort_by_key.ensures.stable number_of keys in
    by_number-from_sort placed_view _ _ (IsNonDecreasingBy-from_sort number_of _ sorted) stable
