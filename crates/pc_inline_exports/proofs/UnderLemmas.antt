-- The items that are under names: what was under them stays so, and what is under an instance is inside it.
use Rattle.std.proofs.Common.{◌≡◌, ◌<◌, ◌≤◌, ◌++◌, ◌⊎◌, inl, inr, ℕ, zero, suc, List, [], ◌∷◌, length, Some, sym, ap}
use Rattle.std.proofs.Common.{subst, ◌∙◌, arith, append-nil, length-append}
use Rattle.std.specs.Prelude.{slice_get}
use Rattle.std.proofs.lemmas.Bool.{cases_lt}
use Rattle.pc_entity.proofs.Growing.{slice_get-append, slice_get-append_seam}
use Rattle.pc_types.specs.declared.type_index.TypeComponentInstanceIndex.{TypeComponentInstanceIndex}
use Rattle.pc_dfg.specs.declared.dfg.ComponentDfg.{ComponentDfg}
use Rattle.pc_dfg.specs.declared.export.Export.{Export}
use Rattle.pc_dfg.specs.declared.export.Export.TheVariants as export
use Rattle.pc_dfg.specs.Grows as graph
use Rattle.pc_dfg.specs.Lists as list
use Rattle.pc_dfg.specs.Lists.{NamedExport}
use Rattle.pc_inline_exports.specs.Exports.{IsUnder, IsWithin, is_in, is_inside, is_it, is_named}

-- each item of a list is one of another
abbrev pub AreAmong : List NamedExport → List NamedExport → Type 0
AreAmong es fs = (k : ℕ) (e : NamedExport) → slice_get es k ≡ Some e → (j : ℕ) × (slice_get fs j ≡ Some e)

-- each item keeps its number
abbrev pub Stay : List Export → List Export → Type 0
Stay xs ys = (k : ℕ) (x : Export) → slice_get xs k ≡ Some x → slice_get ys k ≡ Some x

-- so it is where a graph has grown
pub grown_stay : (g h : ComponentDfg) → graph.Grows g h → Stay g.export_items h.export_items
grown_stay g h grows k x at =
    let more = grows.lists list.export_items in
    ap (λ l. slice_get l k) more.is ∙ slice_get-append g.export_items more.more k x at

-- what is under names stays under them, and is under more of them
pub under_kept : (xs ys : List Export) → Stay xs ys → (es fs : List NamedExport) (n : ℕ) → AreAmong es fs
    → IsUnder xs es n → IsUnder ys fs n
under_kept xs ys stay es fs n among (is_named {e = e} k at) = let there = among k e at in is_named there.0 there.1
under_kept xs ys stay es fs n among (is_inside {inner = inner} {e = e} {ty = ty} k at is under) =
    let there = among k e at in
    is_inside there.0 there.1 (stay e.1.0.0 (export.Instance ty inner) is)
    (under_kept xs ys stay inner inner n (λ j f at_j. (j, at_j)) under)

-- what is within the item of a name is under that name
pub under_name : (xs : List Export) (es : List NamedExport) (k : ℕ) (e : NamedExport) (n : ℕ)
    → slice_get es k ≡ Some e → IsWithin xs e.1.0.0 n → IsUnder xs es n
under_name xs es k e n at is_it = is_named k at
under_name xs es k e n at (is_in is under) = is_inside k at is under

-- items of two lists are of one of them
split_item : {A : Type 0} (xs ys : List A) (k : ℕ) (x : A) → slice_get (xs ++ ys) k ≡ Some x
    → (slice_get xs k ≡ Some x) ⊎ ((j : ℕ) × (slice_get ys j ≡ Some x))
split_item [] ys k x at = inr (k, at)
split_item (y ∷ xs) ys zero x at = inl at
split_item (y ∷ xs) ys (suc k) x at = split_item xs ys k x at

pub under_either : (items : List Export) (xs ys : List NamedExport) (n : ℕ) → IsUnder items (xs ++ ys) n
    → IsUnder items xs n ⊎ IsUnder items ys n
under_either items xs ys n (is_named {e = e} k at) =
    elim (split_item xs ys k e at) as (λ _. IsUnder items xs e.1.0.0 ⊎ IsUnder items ys e.1.0.0) [
      | inl first ↦ inl (is_named k first)
      | inr second ↦ inr (is_named second.0 second.1)
    ]
under_either items xs ys n (is_inside {e = e} k at is under) =
    elim (split_item xs ys k e at) as (λ _. IsUnder items xs n ⊎ IsUnder items ys n) [
      | inl first ↦ inl (is_inside k first is under)
      | inr second ↦ inr (is_inside second.0 second.1 is under)
    ]

-- with one item more in the middle all are there
pub among_more : (xs ys : List NamedExport) (e : NamedExport) → AreAmong (xs ++ ys) ((xs ++ e ∷ []) ++ ys)
among_more [] ys e k f at = (suc k, at)
among_more (x ∷ xs) ys e zero f at = (zero, at)
among_more (x ∷ xs) ys e (suc k) f at = let later = among_more xs ys e k f at in (suc later.0, later.1)

-- and so is that one
pub middle : (xs ys : List NamedExport) (e : NamedExport)
    → (j : ℕ) × (slice_get ((xs ++ e ∷ []) ++ ys) j ≡ Some e)
middle xs ys e =
    (length xs, slice_get-append (xs ++ e ∷ []) ys (length xs) e (slice_get-append_seam xs e []))

-- what is new is under the one name more
module _ (xs ys : List Export) (stay : Stay xs ys) (first : ℕ) (es fs : List NamedExport) (e : NamedExport)
    (whole : (n : ℕ) → first ≤ n → n < length xs → IsUnder xs (es ++ fs) n)
    (made : (n : ℕ) → length xs ≤ n → n < length ys → IsWithin ys e.1.0.0 n) where
  pub whole_more : (n : ℕ) → first ≤ n → n < length ys → IsUnder ys ((es ++ e ∷ []) ++ fs) n
  whole_more n from to =
      elim (cases_lt n (length xs)) as (λ _. IsUnder ys ((es ++ e ∷ []) ++ fs) n) [
        | inl before ↦
            under_kept xs ys stay (es ++ fs) ((es ++ e ∷ []) ++ fs) n (among_more es fs e) (whole n from before)
        | inr behind ↦
            let there = middle es fs e in
            under_name ys ((es ++ e ∷ []) ++ fs) there.0 e n there.1 (made n behind to)
      ]

-- an instance of these items stands at the end
module _ (xs : List Export) (first : ℕ) (es : List NamedExport) (ty : TypeComponentInstanceIndex) where
  closed_stay : Stay xs (xs ++ export.Instance ty es ∷ [])
  closed_stay k x at = slice_get-append xs (export.Instance ty es ∷ []) k x at

  -- what was under them is inside it
  pub inside_closed : (n : ℕ) → IsUnder xs es n → IsWithin (xs ++ export.Instance ty es ∷ []) (length xs) n
  inside_closed n under =
      is_in (slice_get-append_seam xs (export.Instance ty es) [])
      (under_kept xs (xs ++ export.Instance ty es ∷ []) closed_stay es es n (λ j f at. (j, at)) under)

  pub closed_whole : ((n : ℕ) → first ≤ n → n < length xs → IsUnder xs (es ++ []) n) → (n : ℕ) → first ≤ n
      → n < length (xs ++ export.Instance ty es ∷ []) → IsWithin (xs ++ export.Instance ty es ∷ []) (length xs) n
  closed_whole whole n from to =
      elim (cases_lt n (length xs)) as (λ _. IsWithin (xs ++ export.Instance ty es ∷ []) (length xs) n) [
        | inl before ↦ inside_closed n (subst (λ l. IsUnder xs l n) (append-nil es) (whole n from before))
        | inr behind ↦
            let one = length-append xs (export.Instance ty es ∷ []) in
            let same : length xs ≡ n = omega (arith, behind, to, one) in
            subst (IsWithin (xs ++ export.Instance ty es ∷ []) (length xs)) same is_it
      ]

  -- and with it in the instance around it all are under what is open
  pub left_whole : (fs gs : List NamedExport) (e : NamedExport) → e.1.0.0 ≡ length xs
      → ((n : ℕ) → first ≤ n → n < length xs → IsUnder xs (es ++ (fs ++ gs)) n) → (n : ℕ) → first ≤ n
      → n < length (xs ++ export.Instance ty es ∷ [])
      → IsUnder (xs ++ export.Instance ty es ∷ []) ((fs ++ e ∷ []) ++ gs) n
  left_whole fs gs e number whole n from to =
      elim (cases_lt n (length xs)) as (λ _. IsUnder (xs ++ export.Instance ty es ∷ []) ((fs ++ e ∷ []) ++ gs) n) [
        | inl before ↦
            elim (under_either xs es (fs ++ gs) n (whole n from before))
            as (λ _. IsUnder (xs ++ export.Instance ty es ∷ []) ((fs ++ e ∷ []) ++ gs) n) [
              | inl inner ↦ in_new n (inside_closed n inner)
              | inr outer ↦
                  under_kept xs (xs ++ export.Instance ty es ∷ []) closed_stay (fs ++ gs) ((fs ++ e ∷ []) ++ gs) n
                  (among_more fs gs e) outer
            ]
        | inr behind ↦
            let one = length-append xs (export.Instance ty es ∷ []) in
            let same : length xs ≡ n = omega (arith, behind, to, one) in
            in_new n (subst (IsWithin (xs ++ export.Instance ty es ∷ []) (length xs)) same is_it)
      ]
    where
      in_new : (m : ℕ) → IsWithin (xs ++ export.Instance ty es ∷ []) (length xs) m
          → IsUnder (xs ++ export.Instance ty es ∷ []) ((fs ++ e ∷ []) ++ gs) m
      in_new m within =
          let there = middle fs gs e in
          under_name (xs ++ export.Instance ty es ∷ []) ((fs ++ e ∷ []) ++ gs) there.0 e m there.1
          (subst (λ k. IsWithin (xs ++ export.Instance ty es ∷ []) k m) (sym number) within)
