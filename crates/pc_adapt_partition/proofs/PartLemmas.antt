-- Slices of adapters, and what is made of each: one more at the end.
use Rattle.std.proofs.Common.{Bool, ◌≡◌, ◌<◌, ◌≤◌, ℕ, zero, suc, ◌+◌, List, [], ◌∷◌, ◌++◌, length, take, drop}
use Rattle.std.proofs.Common.{refl, sym, ap, ◌∙◌, arith}
use Rattle.std.specs.Prelude.{Some, None, slice_get}
use Rattle.std.proofs.lemmas.List.{append-nil, append_assoc, get_or-drop, length-drop, length-take-le, take_more}
use Rattle.std.proofs.lemmas.Option.{get_or_from_slice_get, slice_get_within}
use Rattle.pc_dfg.specs.declared.adapter.Adapter.{Adapter}
use Rattle.pc_spec_adapt.specs.Asked.{FunctionFacts}
use Rattle.pc_adapt.specs.Imports.{imports_of}
use Rattle.pc_adapt.specs.Places.{record_of}
use Rattle.pc_adapt_modules.specs.Entities.{entities_for, named_entities}
use Rattle.pc_adapt_modules.specs.Members.{signatures_of}
use Rattle.pc_adapt_partition.specs.Parts.{Part, adapters_in, entities_of, parts_of, records_from, slice, total_imports}

-- a slice with one item more
pub slice_step : {A : Type 0} (first k : ℕ) (xs : List A) (x : A) → slice_get xs (first + k) ≡ Some x
    → slice first (k + 1) xs ≡ slice first k xs ++ x ∷ []
slice_step first k xs x at =
    let below = slice_get_within xs (first + k) x at in
    let long = length-drop first xs in
    let inside : k < length (drop first xs) = omega (arith, below, long) in
    take_more (drop first xs) k x inside
    ∙ ap (λ y. slice first k xs ++ y ∷ [])
    (get_or-drop first xs k x ∙ get_or_from_slice_get xs (first + k) x x at)

-- it has as many items as it is to have
pub length_slice : {A : Type 0} (first k : ℕ) (xs : List A) → first + k ≤ length xs → length (slice first k xs) ≡ k
length_slice first k xs few =
    let long = length-drop first xs in
    length-take-le k (drop first xs) (omega (arith, few, long))

no_item : {A : Type 0} (x : A) → None ≡ Some x → ⊥
no_item x e = grind (arith, e)

taken_at : {A : Type 0} (l : ℕ) (xs : List A) (k : ℕ) (x : A) → slice_get (take l xs) k ≡ Some x
    → slice_get xs k ≡ Some x
taken_at zero xs k x at = absurd (no_item x at)
taken_at (suc l) [] k x at = absurd (no_item x at)
taken_at (suc l) (y ∷ ys) zero x at = at
taken_at (suc l) (y ∷ ys) (suc k) x at = taken_at l ys k x at

none_taken : {A : Type 0} (m k : ℕ) → slice_get {X = A} (take m []) k ≡ None
none_taken zero k = refl
none_taken (suc m) k = refl

-- what is in it is in the list
pub slice_at : {A : Type 0} (first l : ℕ) (xs : List A) (k : ℕ) (x : A) → slice_get (slice first l xs) k ≡ Some x
    → slice_get xs (first + k) ≡ Some x
slice_at zero l xs k x at =
    let here : 0 + k ≡ k = omega arith in
    ap (slice_get xs) here ∙ taken_at l xs k x at
slice_at {A} (suc first) l [] k x at = absurd (no_item x (sym (none_taken {A = A} l k) ∙ at))
slice_at (suc first) l (y ∷ ys) k x at =
    let here : suc first + k ≡ suc (first + k) = omega arith in
    ap (slice_get (y ∷ ys)) here ∙ slice_at first l ys k x at

module _ (lift lower : ℕ → FunctionFacts) (clear : ℕ → Bool) where
  -- one adapter more
  pub parts_more : (n : ℕ) (xs : List Adapter) (x : Adapter)
      → parts_of lift lower clear n (xs ++ x ∷ [])
      ≡ parts_of lift lower clear n xs
      ++ (x, imports_of (lift (n + length xs)) (lower (n + length xs)) (clear (n + length xs)) x) ∷ []
  parts_more n [] x =
      let here : n ≡ n + 0 = omega arith in
      ap (λ k. (x, imports_of (lift k) (lower k) (clear k) x) ∷ []) here
  parts_more n (y ∷ ys) x =
      let here : n + 1 + length ys ≡ n + suc (length ys) = omega arith in
      ap (λ ps. (y, imports_of (lift n) (lower n) (clear n) y) ∷ ps)
      (parts_more (n + 1) ys x
      ∙ ap (λ k. parts_of lift lower clear (n + 1) ys ++ (x, imports_of (lift k) (lower k) (clear k) x) ∷ []) here)

  pub length_parts : (n : ℕ) (xs : List Adapter) → length (parts_of lift lower clear n xs) ≡ length xs
  length_parts n [] = refl
  length_parts n (x ∷ xs) = ap suc (length_parts (n + 1) xs)

pub entities_more : (n : ℕ) (ps : List Part) (p : Part)
    → entities_of n (ps ++ p ∷ [])
    ≡ entities_of n ps ++ named_entities (n + length ps) 0 (entities_for p.0 (length p.1))
entities_more n [] p =
    let here : n ≡ n + 0 = omega arith in
    append-nil (named_entities n 0 (entities_for p.0 (length p.1)))
    ∙ ap (λ k. named_entities k 0 (entities_for p.0 (length p.1))) here
entities_more n (q ∷ qs) p =
    let here : n + 1 + length qs ≡ n + suc (length qs) = omega arith in
    let own = named_entities n 0 (entities_for q.0 (length q.1)) in
    let last = named_entities (n + suc (length qs)) 0 (entities_for p.0 (length p.1)) in
    ap (λ es. own ++ es)
    (entities_more (n + 1) qs p
    ∙ ap (λ k. entities_of (n + 1) qs ++ named_entities k 0 (entities_for p.0 (length p.1))) here)
    ∙ sym (append_assoc own (entities_of (n + 1) qs) last)

pub signatures_more : (ps : List Part) (p : Part)
    → signatures_of (adapters_in (ps ++ p ∷ []))
    ≡ signatures_of (adapters_in ps) ++ p.0.lower_options.core_type.0 ∷ []
signatures_more [] p = refl
signatures_more (q ∷ qs) p = ap (λ ss. q.0.lower_options.core_type.0 ∷ ss) (signatures_more qs p)

pub records_more : (first n : ℕ) (ps : List Part) (p : Part)
    → records_from first n (ps ++ p ∷ [])
    ≡ records_from first n ps ++ record_of (first + total_imports ps) (n + length ps) p.0 ∷ []
records_more first n [] p =
    let place : first ≡ first + 0 = omega arith in
    let number : n ≡ n + 0 = omega arith in
    λ i. record_of (place i) (number i) p.0 ∷ []
records_more first n (q ∷ qs) p =
    let place : first + length q.1 + total_imports qs ≡ first + (length q.1 + total_imports qs) = omega arith in
    let number : n + 1 + length qs ≡ n + suc (length qs) = omega arith in
    ap (λ rs. record_of first n q.0 ∷ rs)
    (records_more (first + length q.1) (n + 1) qs p
    ∙ (λ i. records_from (first + length q.1) (n + 1) qs ++ record_of (place i) (number i) p.0 ∷ []))

pub length_records : (first n : ℕ) (ps : List Part) → length (records_from first n ps) ≡ length ps
length_records first n [] = refl
length_records first n (p ∷ ps) = ap suc (length_records (first + length p.1) (n + 1) ps)

pub total_more : (ps : List Part) (p : Part) → total_imports (ps ++ p ∷ []) ≡ total_imports ps + length p.1
total_more [] p = omega arith
total_more (q ∷ qs) p = let rest = total_more qs p in omega (arith, rest)
