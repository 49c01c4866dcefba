-- Where an adapter was made, in a log and among the adapters that it makes.
use Rattle.std.proofs.Common.{◌≡◌, ◌||◌, ℕ, zero, suc, Bool, true, false, List, [], ◌∷◌, ◌++◌, Some, refl, sym, ap, ◌∙◌}
use Rattle.std.proofs.Common.{true≢false}
use Rattle.std.specs.Prelude.{slice_get}
use Rattle.std.specs.List.{list_any}
use Rattle.std.proofs.lemmas.List.Elements.{filter_map-append}
use Rattle.std.proofs.lemmas.Option.{none-some, same_Some}
use Rattle.pc_spec_plan.specs.CoreValue.{CoreValue}
use Rattle.pc_spec_plan.specs.Log.{Entry, declared, declared_resource, instantiated, made, needed}
use Rattle.pc_spec_adapt.specs.Needs.{adapters_of, made_adapter}
use Rattle.pc_parsed.specs.Mark.{Mark}
use Rattle.pc_spec_reading.specs.SameValues.{makes, same_value, was_made}
use Rattle.pc_spec_reading.proofs.SameValueLemmas.{value_exact, value_itself}

module _ (v : CoreValue Mark) where
  made_place : (log : List (Entry Mark)) → list_any (makes v) log ≡ true
      → (k : ℕ) × (slice_get (adapters_of log) k ≡ Some v)
  made_place [] h = absurd (true≢false (sym h))
  made_place (made w ∷ log) h = by (same_value v w) refl h (λ there. made_place log there)
    where
      by : (b : Bool) → same_value v w ≡ b → (b || list_any (makes v) log) ≡ true
          → (list_any (makes v) log ≡ true → (k : ℕ) × (slice_get (adapters_of log) k ≡ Some v))
          → (k : ℕ) × (slice_get (w ∷ adapters_of log) k ≡ Some v)
      by true is h later = (0, ap Some (sym (value_exact v w is)))
      by false is h later = let there = later h in (suc there.0, there.1)
  made_place (instantiated i c ∷ log) h = made_place log h
  made_place (declared_resource representation destructor c ∷ log) h = made_place log h
  made_place (declared w ∷ log) h = made_place log h
  made_place (needed path ∷ log) h = made_place log h

  place_made : (log : List (Entry Mark)) (k : ℕ) → slice_get (adapters_of log) k ≡ Some v
      → list_any (makes v) log ≡ true
  place_made [] k at = absurd (none-some v at)
  place_made (made w ∷ log) zero at =
      let itself : same_value v w ≡ true = ap (same_value v) (same_Some w v at) ∙ value_itself v in
      ap (λ b. b || list_any (makes v) log) itself
  place_made (made w ∷ log) (suc k) at = by (same_value v w) (place_made log k at)
    where
      by : (b : Bool) → list_any (makes v) log ≡ true → (b || list_any (makes v) log) ≡ true
      by true later = refl
      by false later = later
  place_made (instantiated i c ∷ log) k at = place_made log k at
  place_made (declared_resource representation destructor c ∷ log) k at = place_made log k at
  place_made (declared w ∷ log) k at = place_made log k at
  place_made (needed path ∷ log) k at = place_made log k at

  -- what was made is one of the adapters that the log makes
  pub made_among : (log : List (Entry Mark)) → was_made v log ≡ true
      → (k : ℕ) × (slice_get (adapters_of log) k ≡ Some v)
  unfolding was_made
  made_among log = made_place log

  -- and each of those was made
  pub among_made : (log : List (Entry Mark)) (k : ℕ) → slice_get (adapters_of log) k ≡ Some v → was_made v log ≡ true
  unfolding was_made
  among_made log = place_made log

  -- the adapters of a log that makes one more
  pub adapters_of-made : (log : List (Entry Mark)) → adapters_of (log ++ made v ∷ []) ≡ adapters_of log ++ v ∷ []
  adapters_of-made log = filter_map-append made_adapter log (made v ∷ [])
