-- Names in a set, and names that stand twice in a list.
use Rattle.std.proofs.Common.{◌≡◌, ◌<◌, ◌+◌, suc, get_or, drop, ℕ, Bool, true, false, ◌||◌, ◌&&◌, not, List, [], ◌∷◌}
use Rattle.std.proofs.Common.{◌++◌, map, take, length, cond, refl, sym, ap, ◌∙◌, Bor, true≢false}
use Rattle.std.specs.List.{list_any}
use Rattle.indexmap.specs.IndexSet.{IndexSet, Updates}
use Rattle.std.specs.Str.{bytes_eq}
use Rattle.std.proofs.lemmas.Slice.Eq.{bytes_eq-Decides}
use Rattle.std.proofs.lemmas.Bool.Decides.{same_from_decides}
use Rattle.std.proofs.lemmas.Grind.{take_at_read}
use Rattle.std.proofs.lemmas.List.{take-append-drop, map_push, map-append}
use Rattle.std.proofs.Math.Seq.{drop-cons}
use Rattle.std.proofs.lemmas.List.Folds.{list_any-append}
use Rattle.pc_entity.proofs.Elements.{and_true, true_and}
use Rattle.pc_types.specs.Names.{has_name, are_distinct, same_pair}

-- neither part of a disjunction that fails
or_false : (a b : Bool) → (a || b) ≡ false → (a ≡ false) × (b ≡ false)
or_false true b h = absurd (true≢false h)
or_false false b h = (refl, h)

-- what the negation of a test says
pub not_true : (b c : Bool) → b ≡ not c → b ≡ true → c ≡ false
not_true b true e h = absurd (true≢false (sym h ∙ e))
not_true b false e h = refl

pub not_false : (b c : Bool) → b ≡ not c → b ≡ false → c ≡ true
not_false b true e h = refl
not_false b false e h = absurd (true≢false (sym e ∙ h))

-- texts compare alike from both sides
pub bytes_eq-sym : (a b : List ℕ) → bytes_eq a b ≡ bytes_eq b a
bytes_eq-sym a b =
    same_from_decides (bytes_eq a b) (bytes_eq b a) (bytes_eq-Decides a b)
    ((λ h. sym ((bytes_eq-Decides b a).0 h)), (λ h. (bytes_eq-Decides b a).1 (sym h)))

-- pairs compare alike from both sides
pub same_pair-sym : (a b : List ℕ × List ℕ) → same_pair a b ≡ same_pair b a
same_pair-sym a b = λ i. bytes_eq-sym a.0 b.0 i && bytes_eq-sym a.1 b.1 i

-- a name is among those behind the keys of a set exactly where the set has it
pub has_name-keys : (keys : List (Bor (List ℕ))) (q : List ℕ)
    → has_name (map (λ k. k.now) keys) q ≡ list_any (λ k. bytes_eq q k.now) keys
has_name-keys [] q = refl
has_name-keys (k ∷ ks) q = λ i. bytes_eq q k.now || has_name-keys ks q i

-- a choice of true is a disjunction
cond_or : {a b c d : Bool} → a ≡ b → c ≡ d → cond a true c ≡ (b || d)
cond_or {a} {b} {c} {d} p e = (λ i. cond (p i) true (e i)) ∙ join b d
  where
    join : (x y : Bool) → cond x true y ≡ (x || y)
    join true y = refl
    join false y = refl

-- the names after one is added
pub has_name-added : {S : Type 0} (s n : IndexSet (Bor (List ℕ)) S) (name : Bor (List ℕ))
    → Updates (λ x y. bytes_eq x.now y.now) s n name true → (q : List ℕ)
    → has_name (map (λ k. k.now) n.keys) q ≡ (bytes_eq q name.now || has_name (map (λ k. k.now) s.keys) q)
has_name-added s n name updates q =
    has_name-keys n.keys q
    ∙ updates.0 (record { ref_ptr = name.ref_ptr; now = q })
    ∙ cond_or (bytes_eq-sym name.now q) (sym (has_name-keys s.keys q))

-- whether references to two texts each are to the same ones
abbrev compare_pairs : Bor (List ℕ) × Bor (List ℕ) → Bor (List ℕ) × Bor (List ℕ) → Bool
compare_pairs x y = same_pair (x.0.now, x.1.now) (y.0.now, y.1.now)

-- a pair is among those behind the keys of a set exactly where the set has it
pub same_pair-keys : (keys : List (Bor (List ℕ) × Bor (List ℕ))) (q : Bor (List ℕ) × Bor (List ℕ))
    → list_any (same_pair (q.0.now, q.1.now)) (map (λ k. (k.0.now, k.1.now)) keys) ≡ list_any (compare_pairs q) keys
same_pair-keys [] q = refl
same_pair-keys (k ∷ ks) q = λ i. compare_pairs q k || same_pair-keys ks q i

-- the pairs after one is added
pub same_pair-added : {S : Type 0} (s n : IndexSet (Bor (List ℕ) × Bor (List ℕ)) S) (x : Bor (List ℕ) × Bor (List ℕ))
    → Updates compare_pairs s n x true → (q : List ℕ × List ℕ)
    → list_any (same_pair q) (map (λ k. (k.0.now, k.1.now)) n.keys)
    ≡ (same_pair q (x.0.now, x.1.now) || list_any (same_pair q) (map (λ k. (k.0.now, k.1.now)) s.keys))
same_pair-added s n x updates q =
    let r = referred q in
    same_pair-keys n.keys r
    ∙ updates.0 r
    ∙ cond_or (same_pair-sym (x.0.now, x.1.now) q) (sym (same_pair-keys s.keys r))
  where
    referred : List ℕ × List ℕ → Bor (List ℕ) × Bor (List ℕ)
    referred q = (record { ref_ptr = x.0.ref_ptr; now = q.0 }, record { ref_ptr = x.0.ref_ptr; now = q.1 })

module _ {A : Type 0} (same : A → A → Bool) (mirrored : (a b : A) → same a b ≡ same b a) where
  -- one more item that is like none of those before keeps them distinct
  pub are_distinct-push : (xs : List A) (y : A) → are_distinct same xs ≡ true → list_any (same y) xs ≡ false
      → are_distinct same (xs ++ y ∷ []) ≡ true
  are_distinct-push [] y distinct new = refl
  are_distinct-push (x ∷ xs) y distinct new =
      let apart = and_true (not (list_any (same x) xs)) (are_distinct same xs) distinct in
      let here = or_false (same y x) (list_any (same y) xs) new in
      true_and (not (list_any (same x) (xs ++ y ∷ []))) (are_distinct same (xs ++ y ∷ []))
      (rw (list_any-append (same x) xs (y ∷ []), mirrored x y, here.0) (by (list_any (same x) xs) apart.0))
      (are_distinct-push xs y apart.1 here.1)
    where
      by : (b : Bool) → not b ≡ true → not (b || (false || false)) ≡ true
      by true h = h
      by false h = refl

  -- an item that is like one before makes the list repeat itself
  pub are_distinct-met : (xs ys : List A) (y : A) → list_any (same y) xs ≡ true
      → are_distinct same (xs ++ y ∷ ys) ≡ false
  are_distinct-met [] ys y met = absurd (true≢false (sym met))
  are_distinct-met (x ∷ xs) ys y met = by (same y x) refl met (are_distinct-met xs ys y)
    where
      hides : (a b c : Bool) → (not (a || (true || b)) && c) ≡ false
      hides true b c = refl
      hides false b c = refl

      none : (a b : Bool) → b ≡ false → (a && b) ≡ false
      none true b h = h
      none false b h = refl

      by : (b : Bool) → same y x ≡ b → (b || list_any (same y) xs) ≡ true
          → (list_any (same y) xs ≡ true → are_distinct same (xs ++ y ∷ ys) ≡ false)
          → (not (list_any (same x) (xs ++ y ∷ ys)) && are_distinct same (xs ++ y ∷ ys)) ≡ false
      by true is met later =
          rw (list_any-append (same x) xs (y ∷ ys), mirrored x y, is)
          (hides (list_any (same x) xs) (list_any (same x) ys) (are_distinct same (xs ++ y ∷ ys)))
      by false is met later =
          none (not (list_any (same x) (xs ++ y ∷ ys))) (are_distinct same (xs ++ y ∷ ys)) (later met)

-- A list of items, seen through f, at the item x of number i.
module _ {A B : Type 0} (f : A → B) (items : List A) (i : ℕ) (x : A)
    (within : i < length items) (is : x ≡ get_or items i x) where
  -- the items up to x are those before and x
  pub map-take_next : map f (take (i + 1) items) ≡ map f (take i items) ++ f x ∷ []
  map-take_next =
      ap (map f) ((take_at_read items i x within).1 ∙ ap (λ y. take i items ++ y ∷ []) (sym is))
      ∙ map_push f (take i items) x

  -- the items are those before, x and those behind
  pub map-split : map f items ≡ map f (take i items) ++ f x ∷ map f (drop (suc i) items)
  map-split =
      ap (map f) (sym (take-append-drop i items)
      ∙ ap (λ l. take i items ++ l) (drop-cons items i x within ∙ ap (λ y. y ∷ drop (suc i) items) (sym is)))
      ∙ map-append f (take i items) (x ∷ drop (suc i) items)

  module _ (same : B → B → Bool) (mirrored : (a b : B) → same a b ≡ same b a) where
    -- x is like none before, and the items up to it are distinct
    pub are_distinct-next : are_distinct same (map f (take i items)) ≡ true
        → list_any (same (f x)) (map f (take i items)) ≡ false
        → are_distinct same (map f (take (i + 1) items)) ≡ true
    are_distinct-next distinct new =
        rw map-take_next (are_distinct-push same mirrored (map f (take i items)) (f x) distinct new)

    -- x is like one before, and the items are not distinct
    pub are_distinct-again : list_any (same (f x)) (map f (take i items)) ≡ true
        → are_distinct same (map f items) ≡ false
    are_distinct-again met =
        rw map-split (are_distinct-met same mirrored (map f (take i items)) (map f (drop (suc i) items)) (f x) met)

    -- what is like one of the items up to x is like one before or like x
    pub list_any-next : (y : B)
        → list_any (same y) (map f (take (i + 1) items)) ≡ (same y (f x) || list_any (same y) (map f (take i items)))
    list_any-next y =
        rw (map-take_next, list_any-append (same y) (map f (take i items)) (f x ∷ []))
        (swapped (list_any (same y) (map f (take i items))) (same y (f x)))
      where
        swapped : (a b : Bool) → (a || (b || false)) ≡ (b || a)
        swapped true true = refl
        swapped true false = refl
        swapped false true = refl
        swapped false false = refl
