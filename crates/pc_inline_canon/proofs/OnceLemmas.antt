-- Each path that a log needs stands once among those that it needs.
use Rattle.std.proofs.Common.{◌≡◌, ◌||◌, inl, inr, ℕ, zero, suc, Bool, true, false, List, [], ◌∷◌, ◌++◌, Some}
use Rattle.std.proofs.Common.{if◌then◌else◌, refl, sym, ap, ◌∙◌, true≢false}
use Rattle.std.specs.Prelude.{slice_get}
use Rattle.std.specs.List.{filter_map, fold, list_any}
use Rattle.std.proofs.lemmas.Bool.{eq-eqb}
use Rattle.std.proofs.lemmas.Option.{none-some, same_Some}
use Rattle.pc_entity.specs.Lists.{AreDistinct}
use Rattle.pc_entity.proofs.Elements.{true_and}
use Rattle.pc_entity.proofs.Naming.{bytes_eq-refl}
use Rattle.pc_types.specs.TypeTree.{Path}
use Rattle.pc_spec_plan.specs.Log.{Entry}
use Rattle.pc_parsed.specs.Mark.{Mark}
use Rattle.pc_spec_reading.specs.Asked.{needed_path, paths_needed, with_path}
use Rattle.pc_spec_reading.specs.SameTypes.{same_names, same_path}
use Rattle.pc_dfg.proofs.AddLemmas.{get_appended}

-- names are the same as themselves
names_themselves : (names : List (List ℕ)) → same_names names names ≡ true
names_themselves [] = refl
names_themselves (name ∷ names) = true_and _ _ (bytes_eq-refl name) (names_themselves names)

-- so is a path
path_itself : (p : Path) → same_path p p ≡ true
path_itself p = true_and _ _ (eq-eqb p.import p.import refl) (names_themselves p.names)

-- a path that is none of a list doesn't stand in it
isnt_there : (ps : List Path) (q : Path) → list_any (same_path q) ps ≡ false → (k : ℕ) → slice_get ps k ≡ Some q → ⊥
isnt_there [] q none k at = none-some q at
isnt_there (p ∷ ps) q none zero at =
    let itself : same_path q p ≡ true = ap (same_path q) (same_Some p q at) ∙ path_itself q in
    true≢false (sym (ap (λ b. b || list_any (same_path q) ps) itself) ∙ none)
isnt_there (p ∷ ps) q none (suc k) at = isnt_there ps q (later (same_path q p) none) k at
  where
    later : (b : Bool) → (b || list_any (same_path q) ps) ≡ false → list_any (same_path q) ps ≡ false
    later true h = absurd (true≢false h)
    later false h = h

-- paths stay distinct with one more
distinct_with : (ps : List Path) (q : Path) → AreDistinct ps → AreDistinct (with_path ps q)
distinct_with ps q distinct = by (list_any (same_path q) ps) refl
  where
    ends : list_any (same_path q) ps ≡ false → AreDistinct (ps ++ q ∷ [])
    ends none i j x at_i at_j = elim (get_appended ps q i x at_i) [
      | inl before_i ↦ elim (get_appended ps q j x at_j) [
        | inl before_j ↦ distinct i j x before_i before_j
        | inr end_j ↦ absurd (isnt_there ps q none i (before_i ∙ ap Some (sym end_j.1)))
      ]
      | inr end_i ↦ elim (get_appended ps q j x at_j) [
        | inl before_j ↦ absurd (isnt_there ps q none j (before_j ∙ ap Some (sym end_i.1)))
        | inr end_j ↦ sym end_i.0 ∙ end_j.0
      ]
    ]

    by : (b : Bool) → list_any (same_path q) ps ≡ b → AreDistinct (if b then ps else ps ++ q ∷ [])
    by true is = distinct
    by false is = ends is

-- and with several
distinct_paths : (ps qs : List Path) → AreDistinct ps → AreDistinct (fold with_path ps qs)
distinct_paths ps [] distinct = distinct
distinct_paths ps (q ∷ qs) distinct = distinct_paths (with_path ps q) qs (distinct_with ps q distinct)

-- each path that a log needs stands once
pub once_each : (log : List (Entry Mark)) → AreDistinct (paths_needed log)
unfolding paths_needed
once_each log = distinct_paths [] (filter_map needed_path log) (λ i j x at_i at_j. absurd (none-some x at_i))
