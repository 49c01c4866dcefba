-- What the lists hold once an edge, or some edges, are noted in them.
use Rattle.std.proofs.Common.{◌≡◌, ◌⊎◌, ◌↔◌, ℕ, zero, suc, ◌≤◌, Some, List, [], ◌∷◌, ◌++◌, slice_get, refl, sym, ◌∙◌}
use Rattle.std.proofs.Common.{ap, subst, inl, inr, arith, ◌≢◌, ◌+◌, ◌-◌, ◌<◌, ◌==◌, ◌||◌, Bool, true, false, length}
use Rattle.std.proofs.Common.{get_or, map, slice_index, slice_set}
use Rattle.std.specs.List.{Contains}
use Rattle.std.proofs.lemmas.List.{length-set}
use Rattle.std.proofs.lemmas.List.Elements.{Contains-append_left, Contains-push, Contains-push_cases}
use Rattle.pc_graph.proofs.MemberLemmas.{contains_cases, contains_first, contains_later, contains_none}
use Rattle.pc_graph.proofs.PartLemmas.{same_item}
use Rattle.std.specs.Bool.{if◌then◌else◌}
use Rattle.std.specs.List.Sorted.{IsStrictlyIncreasing}
use Rattle.std.proofs.lemmas.Bool.{eqb-true}
use Rattle.std.proofs.lemmas.Bool.Decides.{eqb_tells}
use Rattle.std.proofs.lemmas.Option.{slice_get_within, unwrap_or-slice_get}
use Rattle.pc_entity.proofs.Growing.{slice_get-set_same, slice_get-set_other}
use Rattle.pc_graph.specs.Listed.{row_at}
use Rattle.pc_graph.specs.Noting.{last_is, noted, noted_all}
use Rattle.pc_graph.specs.declared.scc.Scc.{Scc}

-- the last of the numbers, as it is read
last_at : (xs : List Scc) (x : Scc) (n k : ℕ) → k + 1 ≡ length xs → slice_get xs k ≡ Some x → (x.0 == n) ≡ last_is xs n
last_at [] x n k last h = absurd (omega arith)
last_at (y ∷ []) x n zero last h = let same : x ≡ y = cc in ap (λ z. z.0 == n) same
last_at (y ∷ []) x n (suc k) last h = absurd (omega arith)
last_at (y ∷ z ∷ xs) x n zero last h = absurd (omega arith)
last_at (y ∷ z ∷ xs) x n (suc k) last h = last_at (z ∷ xs) x n k (omega arith) h

-- the test of the last number, as the program makes it
pub last_is-read : (xs : List Scc) (x : Scc) (n : ℕ) → slice_get xs (length xs - 1) ≡ Some x → (x.0 == n) ≡ last_is xs n
last_is-read xs x n h = let within = slice_get_within xs (length xs - 1) x h in
    last_at xs x n (length xs - 1) (omega arith) h

-- ascending numbers without the first
ascending_tail : (x : ℕ) (xs : List ℕ) → IsStrictlyIncreasing (x ∷ xs) → IsStrictlyIncreasing xs
ascending_tail x xs h k within =
    let e : suc k + 1 ≡ suc (k + 1) = omega arith in
    subst (λ m. slice_index xs k < slice_index (x ∷ xs) m) e (h (suc k) (omega arith))

-- the last number is one of them
last_there : (xs : List Scc) (n : ℕ) → last_is xs n ≡ true → Contains xs (record { 0 = n })
last_there [] n h = cc
last_there (x ∷ []) n h = subst (λ m. Contains (x ∷ []) (record { 0 = m })) (eqb-true x.0 n h) (contains_first [] x)
last_there (x ∷ y ∷ xs) n h = contains_later (y ∷ xs) x (record { 0 = n }) (last_there (y ∷ xs) n h)

-- ascending numbers none of which is above n lie below it, if it is not the last
all_below : (xs : List Scc) (n : ℕ) → IsStrictlyIncreasing (map (λ j. j.0) xs) → ((j : Scc) → Contains xs j → j.0 ≤ n)
    → last_is xs n ≡ false
    → (j : Scc) → Contains xs j → j.0 < n
all_below [] n h most last j there = absurd (contains_none j there)
all_below (x ∷ []) n h most last j there =
    elim (contains_cases [] x j there) [
      | inl one ↦
          let x_most = most x (contains_first [] x) in
          elim (eqb_tells x.0 n) [
            | inl same ↦ absurd (true_not_false (sym same.0 ∙ last))
            | inr apart ↦
                (let ne = apart.1 in let x_below : x.0 < n = omega arith in subst (λ z. z.0 < n) (sym one) x_below)
          ]
      | inr more ↦ absurd (contains_none j more)
    ]
  where
    true_not_false : true ≡ false → ⊥
    true_not_false e = cc
all_below (x ∷ y ∷ xs) n h most last j there =
    let later = all_below (y ∷ xs) n (ascending_tail x.0 (map (λ i. i.0) (y ∷ xs)) h)
    (λ i t. most i (contains_later (y ∷ xs) x i t)) last in
    elim (contains_cases (y ∷ xs) x j there) [
      | inl one ↦
          let first : x.0 < y.0 = h 0 (omega arith) in
          let next = later y (contains_first xs y) in
          let x_below : x.0 < n = omega arith in
          subst (λ z. z.0 < n) (sym one) x_below
      | inr more ↦ later j more
    ]

-- a greater number goes last
increasing_more : (xs : List Scc) (x : Scc) → IsStrictlyIncreasing (map (λ j. j.0) xs)
    → ((j : Scc) → Contains xs j → j.0 < x.0)
    → IsStrictlyIncreasing (map (λ j. j.0) (xs ++ x ∷ []))
increasing_more [] x h below k within = absurd (omega arith)
increasing_more (y ∷ []) x h below zero within = below y (contains_first [] y)
increasing_more (y ∷ []) x h below (suc k) within = absurd (omega arith)
increasing_more (y ∷ z ∷ xs) x h below zero within = h 0 (omega arith)
increasing_more (y ∷ z ∷ xs) x h below (suc k) within =
    let all = map (λ j. j.0) (z ∷ xs ++ x ∷ []) in
    let e : suc (k + 1) ≡ suc k + 1 = omega arith in
    let tail = increasing_more (z ∷ xs) x (ascending_tail y.0 (map (λ j. j.0) (z ∷ xs)) h)
    (λ j there. below j (contains_later (z ∷ xs) y j there)) in
    subst (λ m. slice_index all k < slice_index (y.0 ∷ all) m) e (tail k (omega arith))

-- the list of a number that is held
pub row_at-held : {X : Type 0} (rows : List (List X)) (k : ℕ) → k < length rows
    → slice_get rows k ≡ Some (row_at rows k)
row_at-held [] k within = absurd (omega arith)
row_at-held (row ∷ rows) zero within = refl
row_at-held (row ∷ rows) (suc k) within = row_at-held rows k (omega arith)

-- the lists hold, of the pairs that P says, those of two numbers
pub record Notes (count : ℕ) (P : ℕ → ℕ → Type 0) (rows : List (List Scc)) : Type 0 where
  pub size : length rows ≡ count
  pub exact : (i : ℕ) (list : List Scc) (j : Scc) → slice_get rows i ≡ Some list → Contains list j
      ↔ ((j.0 ≢ i) × P j.0 i)
  pub ascending : (i : ℕ) (list : List Scc) → slice_get rows i ≡ Some list → IsStrictlyIncreasing (map (λ j. j.0) list)

-- what the lists hold, by another name
pub notes_same : (count : ℕ) (P Q : ℕ → ℕ → Type 0) (rows : List (List Scc)) → ((j i : ℕ) → P j i ↔ Q j i)
    → Notes count P rows → Notes count Q rows
notes_same count P Q rows same h = record {
  size = h.size;
  exact = λ i list j is. (
    (λ there. (((h.exact i list j is).0 there).0, (same j.0 i).0 ((h.exact i list j is).0 there).1)),
    (λ holds. (h.exact i list j is).1 (holds.0, (same j.0 i).1 holds.1)),
  );
  ascending = h.ascending;
}

-- a Boolean is one of two
tell : (b : Bool) → (b ≡ true) ⊎ (b ≡ false)
tell true = inl refl
tell false = inr refl

module _ (from into : ℕ) (rows : List (List Scc)) where
  -- noting an edge changes nothing, or puts the number last
  noted_cases : ((noted from rows into ≡ rows) × ((from ≡ into) ⊎ Contains (row_at rows into) (record { 0 = from })))
      ⊎ ((from ≢ into) × (last_is (row_at rows into) from ≡ false)
      × (noted from rows into ≡ slice_set rows into (row_at rows into ++ record { 0 = from } ∷ [])))
  noted_cases =
      let changed = slice_set rows into (row_at rows into ++ record { 0 = from } ∷ []) in
      elim (eqb_tells from into) [
        | inl same ↦ inl (ap (λ b. if b || last_is (row_at rows into) from then rows else changed) same.0, inl same.1)
        | inr apart ↦ elim (tell (last_is (row_at rows into) from)) [
          | inl last ↦ inl (
            ap (λ b. if b || last_is (row_at rows into) from then rows else changed) apart.0
                ∙ ap (λ b. if b then rows else changed) last,
            inr (last_there (row_at rows into) from last),
          )
          | inr other ↦ inr (
            apart.1,
            other,
            ap (λ b. if b || last_is (row_at rows into) from then rows else changed) apart.0
                ∙ ap (λ b. if b then rows else changed) other,
          )
        ]
      ]

  -- one edge more is noted
  pub note_more : (count : ℕ) (P : ℕ → ℕ → Type 0) → ((j i : ℕ) → P j i → j ≤ from) → into < count → Notes count P rows
      → Notes count (λ j i. P j i ⊎ ((j ≡ from) × (i ≡ into))) (noted from rows into)
  note_more count P most within h =
      let number : Scc = record { 0 = from } in
      let Q : ℕ → ℕ → Type 0 = λ j i. P j i ⊎ ((j ≡ from) × (i ≡ into)) in
      let row = row_at rows into in
      let held = row_at-held rows into (subst (λ n. into < n) (sym h.size) within) in
      elim noted_cases [
        | inl same ↦ subst (λ rs. Notes count Q rs) (sym same.0) (record {
          size = h.size;
          exact = λ i list j is. (
            (λ there. (((h.exact i list j is).0 there).0, inl ((h.exact i list j is).0 there).1)),
            (λ holds. elim holds.1 [
              | inl old ↦ (h.exact i list j is).1 (holds.0, old)
              | inr new ↦ elim same.1 [
                | inl equal ↦ absurd (holds.0 (new.0 ∙ equal ∙ sym new.1))
                | inr there ↦ kept i list j is new.0 new.1 there
              ]
            ]),
          );
          ascending = h.ascending;
        })
        | inr more ↦ subst (λ rs. Notes count Q rs) (sym more.2) (record {
          size = length-set rows into (row ++ number ∷ []) ∙ h.size;
          exact = λ i list j is. elim (eqb_tells i into) [
            | inl at ↦
                let list_is : row ++ number ∷ [] ≡ list = put i list is at.1 in
                let found : slice_get rows i ≡ Some row = ap (λ k. slice_get rows k) at.1 ∙ held in (
                  (λ there. elim (Contains-push_cases row number j (subst (λ l. Contains l j) (sym list_is) there)) [
                    | inl old ↦ (((h.exact i row j found).0 old).0, inl ((h.exact i row j found).0 old).1)
                    | inr one ↦ (λ e. more.0 (ap (λ s. s.0) one ∙ e ∙ at.1), inr (sym (ap (λ s. s.0) one), at.1))
                  ]),
                  (λ holds. subst (λ l. Contains l j) list_is (elim holds.1 [
                    | inl old ↦ Contains-append_left row (number ∷ []) j ((h.exact i row j found).1 (holds.0, old))
                    | inr new ↦ subst (λ n. Contains (row ++ number ∷ []) (record { 0 = n })) (sym new.0)
                        (Contains-push row number)
                  ])),
                )
            | inr apart ↦
                let found = sym (slice_get-set_other rows into i (row ++ number ∷ []) apart.1) ∙ is in (
                  (λ there. (((h.exact i list j found).0 there).0, inl ((h.exact i list j found).0 there).1)),
                  (λ holds. elim holds.1 [
                    | inl old ↦ (h.exact i list j found).1 (holds.0, old)
                    | inr new ↦ absurd (apart.1 new.1)
                  ]),
                )
          ];
          ascending = λ i list is. elim (eqb_tells i into) [
            | inl at ↦
                let list_is : row ++ number ∷ [] ≡ list = put i list is at.1 in
                let ascending = h.ascending into row held in
                let below = all_below row from ascending
                (λ j there. most j.0 into ((h.exact into row j held).0 there).1) more.1 in
                subst (λ l. IsStrictlyIncreasing (map (λ j. j.0) l)) list_is
                (increasing_more row number ascending below)
            | inr apart ↦ h.ascending i list (sym (slice_get-set_other rows into i (row ++ number ∷ []) apart.1) ∙ is)
          ];
        })
      ]
    where
      some_same : (x y : List Scc) → Some x ≡ Some y → x ≡ y
      some_same x y e = cc

      put : (i : ℕ) (list : List Scc) → slice_get
          (slice_set rows into (row_at rows into ++ record { 0 = from } ∷ [])) i ≡ Some list → i ≡ into
          → row_at rows into ++ record { 0 = from } ∷ [] ≡ list
      put i list is at =
          let changed = row_at rows into ++ record { 0 = from } ∷ [] in
          some_same changed list
          (sym (slice_get-set_same rows into changed (subst (λ n. into < n) (sym h.size) within))
          ∙ ap (λ k. slice_get (slice_set rows into changed) k) (sym at) ∙ is)

      kept : (i : ℕ) (list : List Scc) (j : Scc) → slice_get rows i ≡ Some list → j.0 ≡ from → i ≡ into
          → Contains (row_at rows into) (record { 0 = from }) → Contains list j
      kept i list j is j_is i_is there =
          let same : row_at rows into ≡ list =
          some_same (row_at rows into) list (sym (row_at-held rows into (subst (λ n. into < n) (sym h.size) within))
          ∙ ap (λ k. slice_get rows k) (sym i_is) ∙ is) in
          subst (λ l. Contains l j) same (subst (λ n. Contains (row_at rows into) (record { 0 = n })) (sym j_is) there)

-- what the program does at an edge
pub noted_itself : (from into : ℕ) (rows : List (List Scc)) → from ≡ into → rows ≡ noted from rows into
noted_itself from into rows same = elim (noted_cases from into rows)
    [ inl kept ↦ sym kept.0 | inr more ↦ absurd (more.0 same) ]

module _ (from into : ℕ) (rows : List (List Scc)) (row d : List Scc) (within : into < length rows)
    (row_is : row ≡ get_or rows into d) where
  -- the list that the program reads
  read : row ≡ row_at rows into
  read = row_is ∙ same_item rows into d [] within ∙ sym (unwrap_or-slice_get rows into [])

  -- a number that is the last already isn't put again
  pub noted_again : true ≡ last_is row from → rows ≡ noted from rows into
  noted_again last = elim (noted_cases from into rows) [
    | inl kept ↦ sym kept.0
    | inr more ↦ absurd (different (last ∙ ap (λ l. last_is l from) read ∙ more.1))
  ]
    where
      different : true ≡ false → ⊥
      different e = cc

  -- another number is put last
  pub noted_new : (longer : List Scc) → from ≢ into → false ≡ last_is row from
      → longer ≡ row ++ record { 0 = from } ∷ []
      → slice_set rows into longer ≡ noted from rows into
  noted_new longer apart other longer_is =
      let changed = slice_set rows into (row_at rows into ++ record { 0 = from } ∷ []) in
      let last : last_is (row_at rows into) from ≡ false = ap (λ l. last_is l from) (sym read) ∙ sym other in
      elim (eqb_tells from into) [
        | inl same ↦ absurd (apart same.1)
        | inr differ ↦ ap (λ l. slice_set rows into l) (longer_is ∙ ap (λ l. l ++ record { 0 = from } ∷ []) read)
            ∙ ap (λ b. if b then rows else changed) (sym last)
            ∙ ap (λ b. if b || last_is (row_at rows into) from then rows else changed) (sym differ.0)
      ]

-- all edges of a list more are noted
pub note_all_more : (from : ℕ) (more : List ℕ) (rows : List (List Scc)) (count : ℕ) (P : ℕ → ℕ → Type 0)
    → ((j i : ℕ) → P j i → j ≤ from) → ((k : ℕ) → Contains more k → k < count) → Notes count P rows
    → Notes count (λ j i. P j i ⊎ ((j ≡ from) × Contains more i)) (noted_all from rows more)
note_all_more from [] rows count P most within h =
    notes_same count P (λ j i. P j i ⊎ ((j ≡ from) × Contains [] i)) rows
    (λ j i. ((λ p. inl p), (λ q. elim q [ inl p ↦ p | inr none ↦ absurd (contains_none i none.1) ]))) h
note_all_more from (into ∷ more) rows count P most within h =
    let One : ℕ → ℕ → Type 0 = λ j i. P j i ⊎ ((j ≡ from) × (i ≡ into)) in
    let All : ℕ → ℕ → Type 0 = λ j i. One j i ⊎ ((j ≡ from) × Contains more i) in
    let Want : ℕ → ℕ → Type 0 = λ j i. P j i ⊎ ((j ≡ from) × Contains (into ∷ more) i) in
    notes_same count All Want (noted_all from (noted from rows into) more)
    (λ j i. (
      (λ p. elim p [
        | inl one ↦ elim one [
          | inl old ↦ inl old
          | inr new ↦ inr (new.0, subst (λ k. Contains (into ∷ more) k) (sym new.1) (contains_first more into))
        ]
        | inr later ↦ inr (later.0, contains_later more into i later.1)
      ]),
      (λ p. elim p [
        | inl old ↦ inl (inl old)
        | inr new ↦ elim (contains_cases more into i new.1)
            [ inl one ↦ inl (inr (new.0, one)) | inr later ↦ inr (new.0, later) ]
      ]),
    ))
    (note_all_more from more (noted from rows into) count One
    (λ j i p. elim p [ inl old ↦ most j i old | inr new ↦ omega (arith, new.0) ])
    (λ k there. within k (contains_later more into k there))
    (note_more from into rows count P most (within into (contains_first more into)) h))

-- some edges and then others
pub noted_all-append : (from : ℕ) (rows : List (List Scc)) (xs ys : List ℕ)
    → noted_all from rows (xs ++ ys) ≡ noted_all from (noted_all from rows xs) ys
noted_all-append from rows [] ys = refl
noted_all-append from rows (x ∷ xs) ys = noted_all-append from (noted from rows x) xs ys
