-- A log says that an adapter was made exactly where an entry makes this very one.
use Rattle.std.proofs.Common.{◌≡◌, true, List, sym, ap, subst, Contains, true≢false}
use Rattle.std.specs.Bool.{Decides}
use Rattle.std.proofs.lemmas.List.Folds.{Any-from_list_any, list_any-from_Any}
use Rattle.pc_spec_plan.specs.CoreValue.{CoreValue}
use Rattle.pc_spec_plan.specs.Log.{Entry, made}
use Rattle.pc_parsed.specs.Mark.{Mark}
use Rattle.pc_spec_reading.specs.SameValues.{makes, was_made}
use Rattle.pc_spec_reading.proofs.SameValueLemmas.{value_exact, value_itself}

module _ (v : CoreValue Mark) where
  -- an entry that makes an adapter is the one that says so
  makes_it : (e : Entry Mark) → makes v e ≡ true → e ≡ made v
  makes_it (made w) h = ap made (sym (value_exact v w h))
  makes_it e h = absurd (true≢false (sym h))

  -- what counts as made stands in the log
  pub made_there : (log : List (Entry Mark)) → was_made v log ≡ true → Contains log (made v)
  unfolding was_made
  made_there log h =
      let at = Any-from_list_any (makes v) log h in
      subst (Contains log) (makes_it at.1 at.4) (at.0, at.2, at.3)

  -- what stands in the log counts as made
  pub there_made : (log : List (Entry Mark)) → Contains log (made v) → was_made v log ≡ true
  unfolding was_made
  there_made log h = list_any-from_Any (makes v) log (h.0, made v, h.1, h.2, value_itself v)

-- a log says that an adapter was made exactly where an entry makes it
pub made_told : (v : CoreValue Mark) (log : List (Entry Mark)) → Decides (was_made v log) (Contains log (made v))
made_told v log = (made_there v log, there_made v log)
