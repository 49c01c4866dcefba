-- Lists of lists, lists without repetition, and lists whose items stand in others.
use Rattle.std.proofs.Common.{◌≡◌, ℕ, zero, suc, ◌+◌, ◌-◌, ◌<◌, ◌≤◌, List, [], ◌∷◌, ◌++◌, length, get_or, take, drop}
use Rattle.std.proofs.Common.{slice_get, slice_range, Some, reverse, refl, sym, ◌∙◌, ap, subst, inl, inr, append_assoc}
use Rattle.std.proofs.Common.{zero-add, arith}
use Rattle.std.specs.List.{Contains}
use Rattle.std.proofs.lemmas.List.{append-nil, drop_at, length-append, reverse-append, reverse-reverse, take_at}
use Rattle.std.proofs.lemmas.List.Elements.{Contains-append_left, Contains-append_right, Contains-append_cases}
use Rattle.pc_entity.specs.Lists.{AreDistinct}
use Rattle.pc_graph.specs.Classes.{Ascend, EndWith, IsPart, cut, ends_from, flat, start_of}
use Rattle.pc_graph.specs.Searching.{IsUnique}
use Rattle.pc_graph.proofs.MemberLemmas.{contains_cases, contains_first, contains_from_reversed, contains_got}
use Rattle.pc_graph.proofs.MemberLemmas.{contains_later, contains_none, contains_place, distinct_more}
use Rattle.pc_graph.proofs.PushLemmas.{reverse_push}

-- where a list begins, behind others
abbrev begin_at : ℕ → List ℕ → ℕ → ℕ
begin_at start ends zero = start
begin_at start ends (suc k) = get_or ends k 0

-- the last place is not below the first
pub ascend_last : (start : ℕ) (ends : List ℕ) (last : ℕ) → Ascend start ends last → start ≤ last
ascend_last start [] last h = h
ascend_last start (e ∷ ends) last h = let later = ascend_last e ends last h.1 in omega arith

module _ {X : Type 0} where
  -- the items of two lists of lists
  pub flat-append : (xs ys : List (List X)) → flat (xs ++ ys) ≡ flat xs ++ flat ys
  flat-append [] ys = refl
  flat-append (x ∷ xs) ys = ap (λ zs. x ++ zs) (flat-append xs ys) ∙ sym (append_assoc x (flat xs) (flat ys))

  -- one list more
  pub flat-push : (xs : List (List X)) (x : List X) → flat (xs ++ x ∷ []) ≡ flat xs ++ x
  flat-push xs x = flat-append xs (x ∷ []) ∙ ap (λ ys. flat xs ++ ys) (append-nil x)

  -- where one list more ends
  pub ends-push : (k : ℕ) (xs : List (List X)) (x : List X)
      → ends_from k (xs ++ x ∷ []) ≡ ends_from k xs ++ (k + (length (flat xs) + length x)) ∷ []
  ends-push k [] x = let e : k + length x ≡ k + (0 + length x) = omega arith in ap (λ n. n ∷ []) e
  ends-push k (y ∷ ys) x =
      let e : k + length y + (length (flat ys) + length x) ≡ k + (length (y ++ flat ys) + length x) =
      (let l = length-append y (flat ys) in omega arith) in
      ap (λ ns. (k + length y) ∷ ns) (ends-push (k + length y) ys x)
      ∙ ap (λ n. (k + length y) ∷ (ends_from (k + length y) ys ++ n ∷ [])) e

  -- the lists are cut out of their items
  pub cut-flat : (before : List X) (xs : List (List X)) (k : ℕ) → length before ≡ k
      → cut k (before ++ flat xs) (ends_from k xs) ≡ xs
  cut-flat before [] k is = refl
  cut-flat before (x ∷ xs) k is =
      let whole : before ++ (x ++ flat xs) ≡ (before ++ x) ++ flat xs = sym (append_assoc before x (flat xs)) in
      let size : length (before ++ x) ≡ k + length x = length-append before x ∙ ap (λ n. n + length x) is in
      let gap : k + length x - k ≡ length x = omega arith in
      let first : slice_range (before ++ (x ++ flat xs)) k (k + length x) ≡ x =
      ap (λ n. take n (drop k (before ++ (x ++ flat xs)))) gap
      ∙ ap (λ ys. take (length x) ys) (drop_at before (x ++ flat xs) k is)
      ∙ take_at x (flat xs) (length x) refl in
      ap (λ y. y ∷ cut (k + length x) (before ++ (x ++ flat xs)) (ends_from (k + length x) xs)) first
      ∙ ap (λ ys. x ∷ cut (k + length x) ys (ends_from (k + length x) xs)) whole
      ∙ ap (λ ys. x ∷ ys) (cut-flat (before ++ x) xs (k + length x) size)

  -- and their ends ascend
  pub ends_ascend : (k n : ℕ) (xs : List (List X)) → n ≡ k + length (flat xs) → Ascend k (ends_from k xs) n
  ends_ascend k n [] is = omega arith
  ends_ascend k n (x ∷ xs) is = let l = length-append x (flat xs) in
      (omega arith, ends_ascend (k + length x) n xs (omega arith))

  -- lists that were packed are cut out again
  pub cut_again : (items : List X) (ends : List ℕ) (xs : List (List X)) → items ≡ flat xs → ends ≡ ends_from 0 xs
      → cut 0 items ends ≡ xs
  cut_again items ends xs items_are ends_are =
      ap (λ ys. cut 0 ys ends) items_are ∙ ap (λ es. cut 0 (flat xs) es) ends_are ∙ cut-flat [] xs 0 refl

  -- and their ends ascend to the number of items
  pub ends_within : (items : List X) (ends : List ℕ) (xs : List (List X)) → items ≡ flat xs → ends ≡ ends_from 0 xs
      → Ascend 0 ends (length items)
  ends_within items ends xs items_are ends_are =
      let size : length items ≡ 0 + length (flat xs) = ap length items_are ∙ sym (zero-add (length (flat xs))) in
      subst (λ es. Ascend 0 es (length items)) (sym ends_are) (ends_ascend 0 (length items) xs size)

  -- as many lists as ends
  pub length-cut : (start : ℕ) (items : List X) (ends : List ℕ) → length (cut start items ends) ≡ length ends
  length-cut start items [] = refl
  length-cut start items (e ∷ ends) = ap suc (length-cut e items ends)

  -- the list of a number
  cut_at_from : (start : ℕ) (items : List X) (ends : List ℕ) (last k : ℕ) → Ascend start ends last → k < length ends
      → (slice_get (cut start items ends) k ≡ Some (slice_range items (begin_at start ends k) (get_or ends k 0)))
      × (begin_at start ends k ≤ get_or ends k 0) × (get_or ends k 0 ≤ last)
  cut_at_from start items [] last k h below = absurd (omega arith)
  cut_at_from start items (e ∷ ends) last zero h below = (refl, h.0, ascend_last e ends last h.1)
  cut_at_from start items (e ∷ ends) last (suc zero) h below = cut_at_from e items ends last zero h.1 (omega arith)
  cut_at_from start items (e ∷ ends) last (suc (suc k)) h below =
      cut_at_from e items ends last (suc k) h.1 (omega arith)

  -- the list of a number, where the first begins at 0
  cut_at : (items : List X) (ends : List ℕ) (last k : ℕ) → Ascend 0 ends last → k < length ends
      → (slice_get (cut 0 items ends) k ≡ Some (slice_range items (start_of ends k) (get_or ends k 0)))
      × (start_of ends k ≤ get_or ends k 0) × (get_or ends k 0 ≤ last)
  cut_at items ends last zero h below = cut_at_from 0 items ends last zero h below
  cut_at items ends last (suc k) h below = cut_at_from 0 items ends last (suc k) h below

  -- an item of one of the lists
  pub contains_flat : (xs : List (List X)) (x : List X) (y : X) → Contains xs x → Contains x y → Contains (flat xs) y
  contains_flat [] x y there h = absurd (contains_none x there)
  contains_flat (z ∷ zs) x y there h = elim (contains_cases zs z x there) [
    | inl one ↦ Contains-append_left z (flat zs) y (subst (λ w. Contains w y) one h)
    | inr more ↦ Contains-append_right z (flat zs) y (contains_flat zs x y more h)
  ]

  -- two lists without repetition that share nothing have none together
  pub unique_append : (xs ys : List X) → IsUnique xs → IsUnique ys → ((x : X) → Contains xs x → Contains ys x → ⊥)
      → IsUnique (xs ++ ys)
  unique_append [] ys one two apart = two
  unique_append (x ∷ xs) ys one two apart = (
    λ h. elim (Contains-append_cases xs ys x h) [ inl l ↦ one.0 l | inr r ↦ apart x (contains_first xs x) r ],
    unique_append xs ys one.1 two (λ y l r. apart y (contains_later xs x y l) r),
  )

  -- the front of a list without repetition has none
  pub unique_left : (xs ys : List X) → IsUnique (xs ++ ys) → IsUnique xs
  unique_left [] ys h = tt
  unique_left (x ∷ xs) ys h = (λ l. h.0 (Contains-append_left xs ys x l), unique_left xs ys h.1)

  -- the rest of a list without repetition has none
  pub unique_right : (xs ys : List X) → IsUnique (xs ++ ys) → IsUnique ys
  unique_right [] ys h = h
  unique_right (x ∷ xs) ys h = unique_right xs ys h.1

  -- the front and the rest of a list without repetition share no item
  pub unique_apart : (xs ys : List X) → IsUnique (xs ++ ys) → (x : X) → Contains xs x → Contains ys x → ⊥
  unique_apart [] ys h x l r = contains_none x l
  unique_apart (y ∷ xs) ys h x l r = elim (contains_cases xs y x l) [
    | inl one ↦ h.0 (Contains-append_right xs ys y (subst (λ z. Contains ys z) one r))
    | inr more ↦ unique_apart xs ys h.1 x more r
  ]

  -- the first part goes last
  pub unique_rotate : (xs ys : List X) → IsUnique (xs ++ ys) → IsUnique (ys ++ xs)
  unique_rotate xs ys h =
      unique_append ys xs (unique_right xs ys h) (unique_left xs ys h) (λ x l r. unique_apart xs ys h x r l)

  -- the items of a list without repetition are distinct
  pub unique_distinct : (xs : List X) → IsUnique xs → AreDistinct xs
  unique_distinct [] h i j x first second = absurd (none_got i x first)
    where
      none_got : (k : ℕ) (y : X) → slice_get [] k ≡ Some y → ⊥
      none_got k y e = cc
  unique_distinct (x ∷ xs) h i j y first second = distinct_more xs x (unique_distinct xs h.1) h.0 i j y first second

  -- a list of distinct items has no repetition
  distinct_unique : (xs : List X) → AreDistinct xs → IsUnique xs
  distinct_unique [] h = tt
  distinct_unique (x ∷ xs) h = (
    λ there. (let (k, is) = contains_place xs x there in let same : 0 ≡ suc k = h 0 (suc k) x refl is in
        absurd (omega arith)),
    distinct_unique xs (λ i j y first second. let same : suc i ≡ suc j = h (suc i) (suc j) y first second in
        omega arith),
  )

  -- no item stands in two of the lists
  lists_apart : (xs : List (List X)) (i k : ℕ) (one other : List X) (x : X) → IsUnique (flat xs) → i < k
      → slice_get xs i ≡ Some one
      → slice_get xs k ≡ Some other → Contains one x → Contains other x → ⊥
  lists_apart [] i k one other x h below first second l r = cc
  lists_apart (y ∷ ys) i zero one other x h below first second l r = absurd (omega arith)
  lists_apart (y ∷ ys) zero (suc k) one other x h below first second l r =
      let same : one ≡ y = cc in
      unique_apart y (flat ys) h x (subst (λ z. Contains z x) same l)
      (contains_flat ys other x (contains_got ys k other second) r)
  lists_apart (y ∷ ys) (suc i) (suc k) one other x h below first second l r =
      lists_apart ys i k one other x (unique_right y (flat ys) h) (omega arith) first second l r

  -- no item stands in two lists of distinct items
  pub distinct_apart : (xs : List (List X)) (i k : ℕ) (one other : List X) (x : X) → AreDistinct (flat xs) → i < k
      → slice_get xs i ≡ Some one
      → slice_get xs k ≡ Some other → Contains one x → Contains other x → ⊥
  distinct_apart xs i k one other x h = lists_apart xs i k one other x (distinct_unique (flat xs) h)

  -- an item of all lists stands in one of them
  pub in_some_list : (xs : List (List X)) (x : X) → Contains (flat xs) x → (i : ℕ) × (list : List X)
      × (slice_get xs i ≡ Some list) × Contains list x
  in_some_list [] x there = absurd (contains_none x there)
  in_some_list (y ∷ ys) x there = elim (Contains-append_cases y (flat ys) x there) [
    | inl here ↦ (0, y, refl, here)
    | inr more ↦ (let (i, list, is, later) = in_some_list ys x more in (suc i, list, is, later))
  ]

  -- an item that stands once and last has nothing behind it
  pub nothing_behind : (before behind start : List X) (x : X) → IsUnique (before ++ x ∷ behind)
      → before ++ x ∷ behind ≡ start ++ x ∷ []
      → behind ≡ []
  nothing_behind before behind start x once is = go (reverse behind) refl
    where
      turned : reverse behind ++ (x ∷ []) ++ reverse before ≡ x ∷ reverse start
      turned =
          sym (reverse-append before (x ∷ behind) ∙ ap (λ ys. ys ++ reverse before) (reverse-append (x ∷ []) behind))
          ∙ ap reverse is ∙ reverse_push start x

      go : (r : List X) → r ≡ reverse behind → behind ≡ []
      go [] e = sym (reverse-reverse behind) ∙ ap reverse (sym e)
      go (y ∷ ys) e =
          let first : y ∷ (ys ++ (x ∷ []) ++ reverse before) ≡ x ∷ reverse start =
          ap (λ zs. zs ++ (x ∷ []) ++ reverse before) e ∙ turned in
          let same : y ≡ x = cc in
          let there : Contains behind x =
          contains_from_reversed behind x
          (subst (λ zs. Contains zs x) e (subst (λ z. Contains (z ∷ ys) x) (sym same) (contains_first ys x))) in
          absurd ((unique_right before (x ∷ behind) once).0 there)

  -- what stands in a part of a list
  pub part_wider : (xs before ys : List X) → IsPart xs ys → IsPart xs (before ++ ys)
  part_wider [] before ys h = tt
  part_wider (x ∷ xs) before ys (start, after, is, more) =
      (before ++ start, after, ap (λ zs. before ++ zs) is ∙ sym (append_assoc before start (x ∷ after)), more)

  -- what stands in a list, in a longer one
  pub part_longer : (xs ys after : List X) → IsPart xs ys → IsPart xs (ys ++ after)
  part_longer [] ys after h = tt
  part_longer (x ∷ xs) ys after (start, behind, is, more) = (
    start,
    behind ++ after,
    ap (λ zs. zs ++ after) is
        ∙ append_assoc start (x ∷ behind) after,
    part_longer xs behind after more,
  )

  -- parts of two lists, one behind the other
  pub part_append : (xs ys zs ws : List X) → IsPart xs ys → IsPart zs ws → IsPart (xs ++ zs) (ys ++ ws)
  part_append [] ys zs ws one two = part_wider zs ys ws two
  part_append (x ∷ xs) ys zs ws (start, behind, is, more) two = (
    start,
    behind ++ ws,
    ap (λ vs. vs ++ ws) is
        ∙ append_assoc start (x ∷ behind) ws,
    part_append xs behind zs ws more two,
  )

  -- an item is a part of itself
  pub part_one : (x : X) → IsPart (x ∷ []) (x ∷ [])
  part_one x = ([], [], refl, tt)

  -- the last items of two lists of lists
  pub end_with-append : (cs es : List (List X)) (ns ms : List X) → EndWith cs ns → EndWith es ms
      → EndWith (cs ++ es) (ns ++ ms)
  end_with-append [] es [] ms one two = two
  end_with-append [] es (n ∷ ns) ms one two = absurd one
  end_with-append (c ∷ cs) es [] ms one two = absurd one
  end_with-append (c ∷ cs) es (n ∷ ns) ms one two = (one.0, end_with-append cs es ns ms one.1 two)

-- an item within a list, whatever stands for one past its end
pub same_item : {X : Type 0} (xs : List X) (k : ℕ) (d e : X) → k < length xs → get_or xs k d ≡ get_or xs k e
same_item [] k d e below = absurd (omega arith)
same_item (x ∷ xs) zero d e below = refl
same_item (x ∷ xs) (suc k) d e below = same_item xs k d e (omega arith)

-- the list of a number, from its start to its end
pub cut_between : {X : Type 0} (items : List X) (ends : List ℕ) (last k start end : ℕ) → Ascend 0 ends last
    → k < length ends → start ≡ start_of ends k → end ≡ get_or ends k end
    → (slice_get (cut 0 items ends) k ≡ Some (slice_range items start end)) × (start ≤ end) × (end ≤ last)
cut_between items ends last k start end h below begins stops =
    let (at, ordered, within) = cut_at items ends last k h below in
    let stop : end ≡ get_or ends k 0 = stops ∙ same_item ends k end 0 below in (
      at ∙ ap (λ b. Some (slice_range items b (get_or ends k 0))) (sym begins)
          ∙ ap (λ e. Some (slice_range items start e)) (sym stop),
      subst (λ e. start ≤ e) (sym stop) (subst (λ b. b ≤ get_or ends k 0) (sym begins) ordered),
      subst (λ e. e ≤ last) (sym stop) within,
    )
