-- Lists that stand one behind the other, of which one more is being made.
use Rattle.std.proofs.Common.{◌≡◌, ◌-◌, ◌<◌, ◌≤◌, ℕ, zero, suc, List, [], ◌∷◌, ◌++◌, length, get_or, take, drop}
use Rattle.std.proofs.Common.{Some, None, slice_get, slice_range, refl, sym, ap, subst, ◌∙◌, arith}
use Rattle.std.proofs.lemmas.List.{drop-append-le, drop_all, length-drop, take-append-le, take_all}
use Rattle.pc_entity.specs.declared.string_pool.Atom.{Atom}
use Rattle.pc_inline_names.specs.Lists.{Ascend, cut, end_from, lists_in, start_of}

-- where a list begins, behind others
abbrev begin_at : ℕ → List ℕ → ℕ → ℕ
begin_at start ends zero = start
begin_at start ends (suc k) = get_or ends k 0

-- the last end is within the items, and not below the first place
pub end_within : (start : ℕ) (ends : List ℕ) (last : ℕ) → Ascend start ends last
    → (start ≤ end_from start ends) × (end_from start ends ≤ last)
end_within start [] last h = (omega arith, h)
end_within start (e ∷ ends) last h = let later = end_within e ends last h.1 in
    (omega (arith, h.0, later.0), later.1)

-- places that ascend to one ascend to a later one
pub ascend_more : (start : ℕ) (ends : List ℕ) (last more : ℕ) → last ≤ more → Ascend start ends last
    → Ascend start ends more
ascend_more start [] last more later h = omega (arith, later, h)
ascend_more start (e ∷ ends) last more later h = (h.0, ascend_more e ends last more later h.1)

-- one more end, behind the others
pub ascend_push : (start : ℕ) (ends : List ℕ) (last : ℕ) → Ascend start ends last
    → Ascend start (ends ++ last ∷ []) last
ascend_push start [] last h = (h, omega arith)
ascend_push start (e ∷ ends) last h = (h.0, ascend_push e ends last h.1)

end_push : (start : ℕ) (ends : List ℕ) (last : ℕ) → end_from start (ends ++ last ∷ []) ≡ last
end_push start [] last = refl
end_push start (e ∷ ends) last = end_push e ends last

module _ {X : Type 0} where
  -- a range within the items stays where one more is appended
  range_grown : (xs : List X) (x : X) (start end : ℕ) → start ≤ end → end ≤ length xs
      → slice_range (xs ++ x ∷ []) start end ≡ slice_range xs start end
  range_grown xs x start end ordered within =
      ap (take (end - start)) (drop-append-le start xs (x ∷ []) (omega (arith, ordered, within)))
      ∙ take-append-le (end - start) (drop start xs) (x ∷ [])
      (let many = length-drop start xs in omega (arith, many, ordered, within))

  -- and so do the lists
  pub cut_grown : (start : ℕ) (xs : List X) (x : X) (ends : List ℕ) → Ascend start ends (length xs)
      → cut start (xs ++ x ∷ []) ends ≡ cut start xs ends
  cut_grown start xs x [] h = refl
  cut_grown start xs x (e ∷ ends) h =
      let below = end_within e ends (length xs) h.1 in
      ap (λ l. l ∷ cut e (xs ++ x ∷ []) ends) (range_grown xs x start e h.0 (omega (arith, below.0, below.1)))
      ∙ ap (λ ls. slice_range xs start e ∷ ls) (cut_grown e xs x ends h.1)

  -- the range to the end is the rest
  range_rest : (xs : List X) (start : ℕ) → start ≤ length xs → slice_range xs start (length xs) ≡ drop start xs
  range_rest xs start h =
      take_all (length xs - start) (drop start xs) (let many = length-drop start xs in omega (arith, many))

  -- one more list, to the end
  pub cut_push : (start : ℕ) (xs : List X) (ends : List ℕ) → Ascend start ends (length xs)
      → cut start xs (ends ++ length xs ∷ []) ≡ cut start xs ends ++ drop (end_from start ends) xs ∷ []
  cut_push start xs [] h = ap (λ l. l ∷ []) (range_rest xs start h)
  cut_push start xs (e ∷ ends) h = ap (λ ls. slice_range xs start e ∷ ls) (cut_push e xs ends h.1)

  -- the list of a number
  cut_from : (start : ℕ) (items : List X) (ends : List ℕ) (last k : ℕ) → Ascend start ends last → k < length ends
      → (slice_get (cut start items ends) k ≡ Some (slice_range items (begin_at start ends k) (get_or ends k 0)))
      × (begin_at start ends k ≤ get_or ends k 0) × (get_or ends k 0 ≤ last)
  cut_from start items [] last k h below = absurd (omega (arith, below))
  cut_from start items (e ∷ ends) last zero h below =
      let later = end_within e ends last h.1 in (refl, h.0, omega (arith, later.0, later.1))
  cut_from start items (e ∷ ends) last (suc zero) h below =
      cut_from e items ends last zero h.1 (omega (arith, below))
  cut_from start items (e ∷ ends) last (suc (suc k)) h below =
      cut_from e items ends last (suc k) h.1 (omega (arith, below))

  cut_at : (items : List X) (ends : List ℕ) (last k : ℕ) → Ascend 0 ends last → k < length ends
      → (slice_get (cut 0 items ends) k ≡ Some (slice_range items (start_of ends k) (get_or ends k 0)))
      × (start_of ends k ≤ get_or ends k 0) × (get_or ends k 0 ≤ last)
  cut_at items ends last zero h below = cut_from 0 items ends last zero h below
  cut_at items ends last (suc k) h below = cut_from 0 items ends last (suc k) h below

-- the list of a number, from its start to its end
pub got_between : {X : Type 0} (items : List X) (ends these : List ℕ) (k start : ℕ) → Ascend 0 ends (length items)
    → these ≡ ends → k < length these → start ≡ start_of these k
    → (slice_get (cut 0 items ends) k ≡ Some (slice_range items start (get_or these k 0))) × (start ≤ get_or these k 0)
    × (get_or these k 0 ≤ length items)
got_between {X} items ends these k start h are below begins =
    subst (λ (es : List ℕ). (slice_get (cut 0 items ends) k ≡ Some (slice_range items start (get_or es k 0)))
    × (start ≤ get_or es k 0) × (get_or es k 0 ≤ length items)) (sym are)
    (subst (λ (n : ℕ). (slice_get (cut 0 items ends) k ≡ Some (slice_range items n (get_or ends k 0)))
    × (n ≤ get_or ends k 0) × (get_or ends k 0 ≤ length items)) (sym (begins ∙ ap (λ (es : List ℕ). start_of es k) are))
    (cut_at items ends (length items) k h (omega (arith, ap length are, below))))

-- no list has a number past the ends
pub cut_none : {X : Type 0} (start : ℕ) (items : List X) (ends : List ℕ) (k : ℕ) → length ends ≤ k
    → slice_get (cut start items ends) k ≡ None
cut_none start items [] k h = refl
cut_none start items (e ∷ ends) zero h = absurd (omega (arith, h))
cut_none start items (e ∷ ends) (suc k) h = cut_none e items ends k (omega (arith, h))

-- one more number in the list that is being made
pub lists_push : (numbers more : List Atom) (ends : List ℕ) (n : Atom) → Ascend 0 ends (length numbers)
    → more ≡ numbers ++ n ∷ []
    → lists_in more ends
    ≡ record { ended = cut 0 numbers ends; open_list = drop (end_from 0 ends) numbers ++ n ∷ [] }
lists_push numbers more ends n h is =
    ap (λ (ns : List Atom). lists_in ns ends) is
    ∙ ap (λ (ls : List (List Atom)). record {
      ended = ls;
      open_list = drop (end_from 0 ends) (numbers ++ n ∷ []);
    }) (cut_grown 0 numbers n ends h)
    ∙ ap (λ (ns : List Atom). record { ended = cut 0 numbers ends; open_list = ns })
    (drop-append-le (end_from 0 ends) numbers (n ∷ []) (end_within 0 ends (length numbers) h).1)

-- the list that was made, and the next
pub lists_end : (numbers : List Atom) (ends more : List ℕ) → Ascend 0 ends (length numbers)
    → more ≡ ends ++ length numbers ∷ []
    → lists_in numbers more
    ≡ record { ended = cut 0 numbers ends ++ drop (end_from 0 ends) numbers ∷ []; open_list = [] }
lists_end numbers ends more h is =
    ap (λ (es : List ℕ). lists_in numbers es) is
    ∙ ap (λ (ls : List (List Atom)). record {
      ended = ls;
      open_list = drop (end_from 0 (ends ++ length numbers ∷ [])) numbers;
    }) (cut_push 0 numbers ends h)
    ∙ ap (λ (ns : List Atom). record {
      ended = cut 0 numbers ends ++ drop (end_from 0 ends) numbers ∷ [];
      open_list = ns;
    }) (ap (λ e. drop e numbers) (end_push 0 ends (length numbers)) ∙ drop_all (length numbers) numbers (omega arith))
