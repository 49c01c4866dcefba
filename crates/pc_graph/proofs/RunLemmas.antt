-- What the runs of an iterator give that is seen as the list of what is left.
use Rattle.std.proofs.Common.{length, ap}
use Rattle.std.proofs.iter.runs.Sources.{as_is, from_front}
use Rattle.std.specs.Map.Iter.{GivesInOrder, ShowsInOrder, TakesFirst}

-- each run shows what was left, in order
pub shown_in_order : {A X : Type 0} (shows : A → X) → ShowsInOrder shows
shown_in_order shows = from_front (TakesFirst shows) shows (λ s. s) (λ s t h. ap length h.0) (λ s x t h. h)

-- each run gives what was left, in order
pub given_in_order : {X : Type 0} → GivesInOrder X
given_in_order p s = as_is p p.from (shown_in_order (λ x. x) p s)
