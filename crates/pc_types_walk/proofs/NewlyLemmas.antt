-- Of what a walk found, what isn't known.
use Rattle.std.proofs.Common.{◌≡◌, ℕ, Bool, true, false, List, [], ◌∷◌, sym, ap, ◌==◌, if◌then◌else◌, true≢false}
use Rattle.std.proofs.Common.{filter}
use Rattle.std.specs.Prelude.{not}
use Rattle.std.specs.List.{AllZip, list_any}
use Rattle.pc_spec_reading.specs.Once.{each_once}
use Rattle.pc_spec_reading.specs.Resource.{ResourcePath, is_new, newly, same_number}
use Rattle.pc_types_walk.specs.declared.walk.Found.{Found}
use Rattle.pc_types_walk.specs.Walks.{IsFound}

module _ {I : Type 0} (known : List (ℕ × I)) where
  -- whether a number isn't known
  abbrev pub is_unknown : ℕ → Bool
  is_unknown n = not (list_any (λ (k : ℕ × I). k.0 == n) known)

  -- what is found beside paths, without what is known on both sides
  unknown_zip : (names : List (List (List ℕ))) (found : List Found) (ps : List ResourcePath)
      → AllZip (IsFound names) found ps
      → AllZip (IsFound names) (filter (λ (f : Found). is_unknown f.number) found) (filter (is_new known) ps)
  unknown_zip names [] [] h = tt
  unknown_zip names [] (p ∷ ps) h = absurd h
  unknown_zip names (f ∷ fs) [] h = absurd h
  unknown_zip names (f ∷ fs) (p ∷ ps) h =
      by (is_unknown f.number) (is_new known p) (ap is_unknown h.0.0) (unknown_zip names fs ps h.1)
    where
      by : (a b : Bool) → a ≡ b
          → AllZip (IsFound names) (filter (λ (g : Found). is_unknown g.number) fs) (filter (is_new known) ps)
          → AllZip (IsFound names)
          (if a then f ∷ filter (λ (g : Found). is_unknown g.number) fs
          else filter (λ (g : Found). is_unknown g.number) fs)
          (if b then p ∷ filter (is_new known) ps else filter (is_new known) ps)
      by true true same rest = (h.0, rest)
      by true false same rest = absurd (true≢false same)
      by false true same rest = absurd (true≢false (sym same))
      by false false same rest = rest

  -- what a walk found and isn't known is at the paths to resources that aren't known, in order
  pub newly_found : (names : List (List (List ℕ))) (found : List Found) (ps : List ResourcePath)
      → AllZip (IsFound names) found (each_once same_number ps)
      → AllZip (IsFound names) (filter (λ (f : Found). is_unknown f.number) found) (newly known ps)
  unfolding newly
  newly_found names found ps h = unknown_zip names found (each_once same_number ps) h
