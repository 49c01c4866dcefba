-- Numbers that are among some, and what each of them has.
use Rattle.std.proofs.Common.{◌≡◌, ℕ, ◌<◌, ◌+◌, List, [], ◌∷◌, ◌++◌, length, Some, refl, sym, ap}
use Rattle.std.proofs.Common.{◌∙◌, subst, inl, inr, ◌⊎◌, take, get_or}
use Rattle.std.specs.Prelude.{slice_get}
use Rattle.std.specs.BTreeSet.{insert_key}
use Rattle.std.specs.declared.cmp.Ordering.{Ordering}
use Rattle.std.specs.declared.cmp.Ordering.TheVariants.{Less, Equal, Greater}
use Rattle.std.specs.List.{All, flat_map}
use Rattle.std.specs.Ordering.{MatchOrdering, match_ordering, nat_cmp}
use Rattle.std.proofs.lemmas.Cmp.{ranked}
use Rattle.std.proofs.lemmas.List.{append-nil, append_assoc}
use Rattle.std.proofs.lemmas.List.Elements.{All-head, All-tail}
use Rattle.std.proofs.lemmas.Grind.{take_at_read, flat_map-append}
use Rattle.std.proofs.lemmas.Option.{same_Some}
use Rattle.pc_types_convert.specs.Needed.{Each, IsAmong}

-- what holds of each number, and what follows from it
pub each_more : (P Q : ℕ → Type 0) → ((n : ℕ) → P n → Q n) → (ns : List ℕ) → Each P ns → Each Q ns
each_more P Q more [] h = tt
each_more P Q more (n ∷ ns) h = (more n h.0, each_more P Q more ns h.1)

module _ (P : ℕ → Type 0) where
  -- of two lists together
  pub each_append : (ns ms : List ℕ) → Each P ns → Each P ms → Each P (ns ++ ms)
  each_append [] ms h k = k
  each_append (n ∷ ns) ms h k = (h.0, each_append ns ms h.1 k)

  -- of the first of two lists
  pub each_front : (ns ms : List ℕ) → Each P (ns ++ ms) → Each P ns
  each_front [] ms h = tt
  each_front (n ∷ ns) ms h = (h.0, each_front ns ms h.1)

  -- of the second of two lists
  pub each_back : (ns ms : List ℕ) → Each P (ns ++ ms) → Each P ms
  each_back [] ms h = h
  each_back (n ∷ ns) ms h = each_back ns ms h.1

-- one of some numbers has what each has
pub each_among : (P : ℕ → Type 0) (ns : List ℕ) (m : ℕ) → Each P ns → IsAmong m ns → P m
each_among P [] m h among = absurd among
each_among P (n ∷ ns) m h among = elim among as (λ _. P m) [
  | inl same ↦ subst P (sym same) h.0
  | inr later ↦ each_among P ns m h.1 later
]

-- the same of what a list has at each place
pub all_among : (P : ℕ → Type 0) (ns : List ℕ) (m : ℕ) → All P ns → IsAmong m ns → P m
all_among P [] m h among = absurd among
all_among P (n ∷ ns) m h among = elim among as (λ _. P m) [
  | inl same ↦ subst P (sym same) (All-head P n ns h)
  | inr later ↦ all_among P ns m (All-tail P n ns h) later
]

-- the numbers of two lists
pub among_front : (ns ms : List ℕ) (m : ℕ) → IsAmong m ns → IsAmong m (ns ++ ms)
among_front [] ms m among = absurd among
among_front (n ∷ ns) ms m among = elim among as (λ _. IsAmong m (n ∷ (ns ++ ms))) [
  | inl same ↦ inl same
  | inr later ↦ inr (among_front ns ms m later)
]

-- one of the second list
pub among_back : (ns ms : List ℕ) (m : ℕ) → IsAmong m ms → IsAmong m (ns ++ ms)
among_back [] ms m among = among
among_back (n ∷ ns) ms m among = inr (among_back ns ms m among)

-- one of both lists is of the first or of the second
pub among_either : (ns ms : List ℕ) (m : ℕ) → IsAmong m (ns ++ ms) → IsAmong m ns ⊎ IsAmong m ms
among_either [] ms m among = inr among
among_either (n ∷ ns) ms m among = elim among as (λ _. IsAmong m (n ∷ ns) ⊎ IsAmong m ms) [
  | inl same ↦ inl (inl same)
  | inr later ↦ elim (among_either ns ms m later) as (λ _. IsAmong m (n ∷ ns) ⊎ IsAmong m ms) [
    | inl front ↦ inl (inr front)
    | inr back ↦ inr back
  ]
]

-- the number of one is it
pub among_one : (m n : ℕ) → IsAmong m (n ∷ []) → m ≡ n
among_one m n among = elim among as (λ _. m ≡ n) [
  | inl same ↦ same
  | inr none ↦ absurd none
]

-- a key is put in its place: what was there stays
pub among_kept : (ks : List ℕ) (k m : ℕ) → IsAmong m ks → IsAmong m (insert_key nat_cmp ks k)
among_kept [] k m among = absurd among
among_kept (x ∷ xs) k m among = by (nat_cmp k x) (λ later. among_kept xs k m later)
  where
    by : (r : Ordering) → (IsAmong m xs → IsAmong m (insert_key nat_cmp xs k))
        → IsAmong m (match_ordering r (k ∷ x ∷ xs) (x ∷ xs) (x ∷ insert_key nat_cmp xs k))
    by Less more = inr among
    by Equal more = among
    by Greater more = elim among as (λ _. IsAmong m (x ∷ insert_key nat_cmp xs k)) [
      | inl same ↦ inl same
      | inr later ↦ inr (more later)
    ]

-- the key is there
pub among_inserted : (ks : List ℕ) (k : ℕ) → IsAmong k (insert_key nat_cmp ks k)
among_inserted [] k = inl refl
among_inserted (x ∷ xs) k = by (nat_cmp k x) (ranked k x (nat_cmp k x) refl) (among_inserted xs k)
  where
    by : (r : Ordering) → MatchOrdering r (k < x) (k ≡ x) (x < k) → IsAmong k (insert_key nat_cmp xs k)
        → IsAmong k (match_ordering r (k ∷ x ∷ xs) (x ∷ xs) (x ∷ insert_key nat_cmp xs k))
    by Less h later = inl refl
    by Equal h later = inl h
    by Greater h later = inr later

-- and nothing else is
pub among_from : (ks : List ℕ) (k m : ℕ) → IsAmong m (insert_key nat_cmp ks k) → IsAmong m ks ⊎ (m ≡ k)
among_from [] k m among = inr (among_one m k among)
among_from (x ∷ xs) k m among = by (nat_cmp k x) among (λ later. among_from xs k m later)
  where
    by : (r : Ordering) → IsAmong m (match_ordering r (k ∷ x ∷ xs) (x ∷ xs) (x ∷ insert_key nat_cmp xs k))
        → (IsAmong m (insert_key nat_cmp xs k) → IsAmong m xs ⊎ (m ≡ k)) → IsAmong m (x ∷ xs) ⊎ (m ≡ k)
    by Less h more = elim h as (λ _. IsAmong m (x ∷ xs) ⊎ (m ≡ k)) [
      | inl same ↦ inr same
      | inr later ↦ inl later
    ]
    by Equal h more = inl h
    by Greater h more = elim h as (λ _. IsAmong m (x ∷ xs) ⊎ (m ≡ k)) [
      | inl same ↦ inl (inl same)
      | inr later ↦ elim (more later) as (λ _. IsAmong m (x ∷ xs) ⊎ (m ≡ k)) [
        | inl old ↦ inl (inr old)
        | inr new ↦ inr new
      ]
    ]

-- two looks at one place find one value
pub same_found : {A : Type 0} (xs : List A) (i : ℕ) (x y : A) → slice_get xs i ≡ Some x → slice_get xs i ≡ Some y
    → x ≡ y
same_found xs i x y h k = same_Some x y (sym h ∙ k)

-- a list of what each item names, with one item more
flat_map_next : {A : Type 0} (parts : A → List ℕ) (xs : List A) (i : ℕ) (x : A) → i < length xs → x ≡ get_or xs i x
    → flat_map parts (take (i + 1) xs) ≡ flat_map parts (take i xs) ++ parts x
flat_map_next parts xs i x within is =
    ap (flat_map parts) ((take_at_read xs i x within).1 ∙ ap (λ z. take i xs ++ z ∷ []) (sym is))
    ∙ flat_map-append parts (take i xs) (x ∷ []) ∙ ap (λ l. flat_map parts (take i xs) ++ l) (append-nil (parts x))

-- a step of a loop that pushes what each item names
pub pushed_next : {A : Type 0} (parts : A → List ℕ) (xs : List A) (i : ℕ) (x : A) (start old new : List ℕ)
    → i < length xs → x ≡ get_or xs i x → old ≡ start ++ flat_map parts (take i xs) → new ≡ old ++ parts x
    → new ≡ start ++ flat_map parts (take (i + 1) xs)
pushed_next parts xs i x start old new within is before after =
    after ∙ ap (λ l. l ++ parts x) before ∙ append_assoc start (flat_map parts (take i xs)) (parts x)
    ∙ ap (λ l. start ++ l) (sym (flat_map_next parts xs i x within is))
