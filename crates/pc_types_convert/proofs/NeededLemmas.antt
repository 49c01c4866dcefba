-- Which entries are open on the way, and which are needed.
use Rattle.std.proofs.Common.{◌≡◌, ℕ, ◌<◌, ◌≤◌, ◌+◌, List, [], ◌∷◌, ◌++◌, length, suc, max, Option, None, Some, refl}
use Rattle.std.proofs.Common.{sym, subst, arith, false, inl, inr, ◌⊎◌, take, get_or, true, true≢false}
use Rattle.std.specs.Prelude.{slice_get}
use Rattle.std.specs.BTreeMap.Range.{IsLtBy}
use Rattle.std.specs.List.{All}
use Rattle.std.specs.Ordering.{MatchOrdering, nat_cmp}
use Rattle.std.proofs.lemmas.Cmp.{ranked}
use Rattle.std.proofs.lemmas.Grind.{take_at_read}
use Rattle.pc_types.specs.declared.parsed.DeclType.{DeclType}
use Rattle.pc_types.specs.declared.parsed.TypeTable.{TypeTable}
use Rattle.pc_types.specs.declared.types.TypeDef.{TypeDef}
use Rattle.pc_types.specs.Table.{table_fault}
use Rattle.pc_types_convert.specs.Needed.{parts_of, Each, Ascend, IsAmong, IsDone, AreNeeded}
use Rattle.pc_types_convert.proofs.AmongLemmas.{each_more, each_append, each_among, all_among, among_front, among_back}
use Rattle.pc_types_convert.proofs.AmongLemmas.{among_either, among_one, same_found}
use Rattle.pc_types_convert.proofs.SoundLemmas.{names_earlier}

-- Opening some entries: those that aren't done come to the open ones, and nothing else does.
pub record Opens (done : List (Option TypeDef)) (ns old new : List ℕ) : Type 0 where
  pub kept : (m : ℕ) → IsAmong m old → IsAmong m new
  pub met : Each (λ n. IsDone done n ⊎ IsAmong n new) ns
  pub only : (m : ℕ) → IsAmong m new → IsAmong m old ⊎ IsAmong m ns
  pub fresh : (m : ℕ) → IsAmong m new → IsDone done m → IsAmong m old

module _ (done : List (Option TypeDef)) where
  -- opening none
  pub opens_none : (old : List ℕ) → Opens done [] old old
  opens_none old = record {
    kept = λ m among. among;
    met = tt;
    only = λ m among. inl among;
    fresh = λ m among is_done. among;
  }

  -- opening some, and then others
  pub opens_more : (ns ms old middle new : List ℕ) → Opens done ns old middle → Opens done ms middle new
      → Opens done (ns ++ ms) old new
  opens_more ns ms old middle new first second = record {
    kept = λ m among. second.kept m (first.kept m among);
    met = each_append (λ n. IsDone done n ⊎ IsAmong n new) ns ms
        (each_more (λ n. IsDone done n ⊎ IsAmong n middle) (λ n. IsDone done n ⊎ IsAmong n new)
        (λ n h.
        elim h as (λ _. IsDone done n ⊎ IsAmong n new) [
          | inl is_done ↦ inl is_done
          | inr among ↦ inr
              (second.kept n among)
        ])
        ns first.met)
        second.met;
    only = λ m among. elim (second.only m among) as (λ _. IsAmong m old ⊎ IsAmong m (ns ++ ms)) [
      | inl before ↦ elim (first.only m before) as (λ _. IsAmong m old ⊎ IsAmong m (ns ++ ms)) [
        | inl at_first ↦ inl at_first
        | inr named ↦ inr (among_front ns ms m named)
      ]
      | inr named ↦ inr (among_back ns ms m named)
    ];
    fresh = λ m among is_done. first.fresh m (second.fresh m among is_done) is_done;
  }

  -- a step of a loop that opens entries
  pub opens_next : (ns : List ℕ) (i d : ℕ) (old middle new : List ℕ) → i < length ns → Opens done (take i ns) old middle
      → Opens done (get_or ns i d ∷ []) middle new → Opens done (take (i + 1) ns) old new
  opens_next ns i d old middle new within before now =
      subst (λ l. Opens done l old new) (sym (take_at_read ns i d within).1)
      (opens_more (take i ns) (get_or ns i d ∷ []) old middle new before now)

  -- opening one
  pub opens_of_one : (n : ℕ) (old new : List ℕ) → ((m : ℕ) → IsAmong m old → IsAmong m new) → IsDone done n
      ⊎ IsAmong n new
      → ((m : ℕ) → IsAmong m new → IsAmong m old ⊎ (m ≡ n))
      → ((m : ℕ) → IsAmong m new → IsDone done m → IsAmong m old) → Opens done (n ∷ []) old new
  opens_of_one n old new kept met only fresh = record {
    kept = kept;
    met = (met, tt);
    only = λ m among. elim (only m among) as (λ _. IsAmong m old ⊎ IsAmong m (n ∷ [])) [
      | inl before ↦ inl before
      | inr same ↦ inr (inl same)
    ];
    fresh = fresh;
  }

-- one past the greatest of some numbers
abbrev pub top : List ℕ → ℕ
top [] = 0
top (n ∷ ns) = max (suc n) (top ns)

-- each of the numbers is below it
top_above : (ns : List ℕ) (m : ℕ) → IsAmong m ns → m < top ns
top_above [] m among = absurd among
top_above (n ∷ ns) m among = elim among as (λ _. m < max (suc n) (top ns)) [
  | inl same ↦ omega (arith, same)
  | inr later ↦ (let h : m < top ns = top_above ns m later in omega (arith, h))
]

-- it is at most what each of them is below
top_within : (ns : List ℕ) (k : ℕ) → ((m : ℕ) → IsAmong m ns → m < k) → top ns ≤ k
top_within [] k h = omega arith
top_within (n ∷ ns) k h =
    let here : n < k = h n (inl refl) in
    let there : top ns ≤ k = top_within ns k (λ m among. h m (inr among)) in
    omega (arith, here, there)

-- Entries are open on the way, and others were met, the last one first: all that an entry names that was met is done,
-- met or open, and each of them is named by one that was met. None of them was done.
pub record Going (t : TypeTable) (done : List (Option TypeDef)) (n : ℕ) (opened back : List ℕ) : Type 0 where
  pub asked : IsDone done n ⊎ (IsAmong n back ⊎ IsAmong n opened)
  pub none_done : (k : ℕ) → IsAmong k back ⊎ IsAmong k opened → IsDone done k → ⊥
  pub ascend : Ascend back
  pub apart : (m : ℕ) → IsAmong m opened → Each (λ k. m < k) back
  pub within : Each (λ k. k < length t.types) back
  pub there : (m : ℕ) → IsAmong m opened → m < length t.types
  pub closed : (k : ℕ) (e : DeclType) → IsAmong k back → slice_get t.types k ≡ Some e
      → Each (λ p. IsDone done p ⊎ (IsAmong p back ⊎ IsAmong p opened)) (parts_of e)
  pub reason : (k : ℕ) → IsAmong k back ⊎ IsAmong k opened
      → (k ≡ n) ⊎ ((p : ℕ) × (e : DeclType) × IsAmong p back × (slice_get t.types p ≡ Some e) × IsAmong k (parts_of e))

module _ (t : TypeTable) (done : List (Option TypeDef)) (n : ℕ) where
  -- the entry that is asked for was opened
  pub going_start : (opened : List ℕ) → n < length t.types → Opens done (n ∷ []) [] opened → Going t done n opened []
  going_start opened below opens = record {
    asked = elim opens.met.0 as (λ _. IsDone done n ⊎ (IsAmong n [] ⊎ IsAmong n opened)) [
      | inl is_done ↦ inl is_done
      | inr among ↦ inr (inr among)
    ];
    none_done = λ k h is_done. elim h as (λ _. ⊥) [
      | inl none ↦ none
      | inr among ↦ opens.fresh k among is_done
    ];
    ascend = tt;
    apart = λ m among. tt;
    within = tt;
    there = λ m among. subst (λ k. k < length t.types) (sym (asked_alone m among)) below;
    closed = λ k e among at. absurd among;
    reason = λ k h.
        elim h as (λ _.
        (k ≡ n) ⊎ ((p : ℕ) × (e : DeclType) × IsAmong p [] × (slice_get t.types p ≡ Some e) × IsAmong k (parts_of e))) [
          | inl none ↦ absurd none
          | inr among ↦ inl (asked_alone k among)
        ];
  }
    where
      asked_alone : (m : ℕ) → IsAmong m opened → m ≡ n
      asked_alone m among = elim (opens.only m among) as (λ _. m ≡ n) [
        | inl none ↦ absurd none
        | inr one ↦ among_one m n one
      ]

  -- no entry is open any more
  pub going_end : (back : List ℕ) → Going t done n [] back → AreNeeded t done n back
  going_end back going = record {
    asked = met n going.asked;
    none_done = λ k among. going.none_done k (inl among);
    ascend = going.ascend;
    within = going.within;
    closed = λ k e among at.
        each_more (λ p. IsDone done p ⊎ (IsAmong p back ⊎ IsAmong p [])) (λ p. IsDone done p ⊎ IsAmong p back) met
        (parts_of e)
        (going.closed k e among at);
    reason = λ k among. going.reason k (inl among);
  }
    where
      met : (p : ℕ) → IsDone done p ⊎ (IsAmong p back ⊎ IsAmong p []) → IsDone done p ⊎ IsAmong p back
      met p h = elim h as (λ _. IsDone done p ⊎ IsAmong p back) [
        | inl is_done ↦ inl is_done
        | inr held ↦ elim held as (λ _. IsDone done p ⊎ IsAmong p back) [
          | inl among ↦ inr among
          | inr none ↦ absurd none
        ]
      ]

  -- the last open entry is met, and what it names is opened
  module _ (rest back : List ℕ) (k : ℕ) (e : DeclType) (opened : List ℕ)
      (going : Going t done n (rest ++ k ∷ []) back) (last : (m : ℕ) → IsAmong m rest → m < k)
      (at : slice_get t.types k ≡ Some e) (earlier : Each (λ p. p < k) (parts_of e))
      (opens : Opens done (parts_of e) rest opened) where
    -- the entry was open
    was_open : IsAmong k (rest ++ k ∷ [])
    was_open = among_back rest (k ∷ []) k (inl refl)

    -- what is open now is below the entry
    pub opened_below : (m : ℕ) → IsAmong m opened → m < k
    opened_below m among = elim (opens.only m among) as (λ _. m < k) [
      | inl before ↦ last m before
      | inr named ↦ each_among (λ p. p < k) (parts_of e) m earlier named
    ]

    -- what was done, met or open is so still
    held : (p : ℕ) → IsDone done p ⊎ (IsAmong p back ⊎ IsAmong p (rest ++ k ∷ [])) → IsDone done p
        ⊎ (IsAmong p (k ∷ back) ⊎ IsAmong p opened)
    held p h = elim h as (λ _. IsDone done p ⊎ (IsAmong p (k ∷ back) ⊎ IsAmong p opened)) [
      | inl is_done ↦ inl is_done
      | inr was ↦ elim was as (λ _. IsDone done p ⊎ (IsAmong p (k ∷ back) ⊎ IsAmong p opened)) [
        | inl among ↦ inr (inl (inr among))
        | inr among ↦
            elim (among_either rest (k ∷ []) p among) as (λ _. IsDone done p
            ⊎ (IsAmong p (k ∷ back) ⊎ IsAmong p opened)) [
              | inl before ↦ inr (inr (opens.kept p before))
              | inr one ↦ inr (inl (inl (among_one p k one)))
            ]
      ]
    ]

    -- why a number is needed after the step
    abbrev Reason : ℕ → Type 0
    Reason
        m = (m ≡ n)
        ⊎ ((p : ℕ) × (f : DeclType) × IsAmong p (k ∷ back) × (slice_get t.types p ≡ Some f) × IsAmong m (parts_of f))

    -- a number that was needed has its reason still
    old_reason : (m : ℕ) → IsAmong m back ⊎ IsAmong m (rest ++ k ∷ []) → Reason m
    old_reason m h = elim (going.reason m h) as (λ _. Reason m) [
      | inl same ↦ inl same
      | inr by ↦ inr (by.0, by.1, inr by.2, by.3, by.4)
    ]

    -- the step keeps all that is said of the entries on the way
    pub going_step : Going t done n opened (k ∷ back)
    going_step = record {
      asked = held n going.asked;
      none_done = λ m h is_done. elim h as (λ _. ⊥) [
        | inl among ↦ elim among as (λ _. ⊥) [
          | inl same ↦ going.none_done m (inr (subst (λ j. IsAmong j (rest ++ k ∷ [])) (sym same) was_open)) is_done
          | inr before ↦ going.none_done m (inl before) is_done
        ]
        | inr among ↦
            going.none_done m (inr (among_front rest (k ∷ []) m (opens.fresh m among is_done))) is_done
      ];
      ascend = (going.apart k was_open, going.ascend);
      apart = λ m among. (
        opened_below m among,
        each_more (λ j. k < j) (λ j. m < j)
            (λ j above. let below : m < k = opened_below m among in omega (arith, above, below)) back
            (going.apart k was_open),
      );
      within = (going.there k was_open, going.within);
      there = λ m among.
          let below : m < k = opened_below m among in
          let within : k < length t.types = going.there k was_open in
          omega (arith, below, within);
      closed = λ j f among found.
          elim among as (λ _. Each (λ p. IsDone done p ⊎ (IsAmong p (k ∷ back) ⊎ IsAmong p opened)) (parts_of f)) [
            | inl same ↦
                subst (λ g. Each (λ p. IsDone done p ⊎ (IsAmong p (k ∷ back) ⊎ IsAmong p opened)) (parts_of g))
                (same_found t.types j e f (subst (λ i. slice_get t.types i ≡ Some e) (sym same) at) found)
                (each_more (λ p. IsDone done p ⊎ IsAmong p opened)
                (λ p. IsDone done p ⊎ (IsAmong p (k ∷ back) ⊎ IsAmong p opened))
                (λ p h.
                elim h as (λ _. IsDone done p ⊎ (IsAmong p (k ∷ back) ⊎ IsAmong p opened)) [
                  | inl is_done ↦ inl
                      is_done
                  | inr now ↦ inr (inr now)
                ])
                (parts_of e) opens.met)
            | inr before ↦
                each_more (λ p. IsDone done p ⊎ (IsAmong p back ⊎ IsAmong p (rest ++ k ∷ [])))
                (λ p. IsDone done p ⊎ (IsAmong p (k ∷ back) ⊎ IsAmong p opened)) held (parts_of f)
                (going.closed j f before found)
          ];
      reason = λ m h. elim h as (λ _. Reason m) [
        | inl among ↦ elim among as (λ _. Reason m) [
          | inl same ↦ old_reason m (inr (subst (λ j. IsAmong j (rest ++ k ∷ [])) (sym same) was_open))
          | inr before ↦ old_reason m (inl before)
        ]
        | inr among ↦ elim (opens.only m among) as (λ _. Reason m) [
          | inl before ↦ old_reason m (inr (among_front rest (k ∷ []) m before))
          | inr named ↦ inr (k, e, inl refl, at, named)
        ]
      ];
    }

    -- and so the greatest open entry falls
    pub top_falls : top opened < top (rest ++ k ∷ [])
    top_falls =
        let within : top opened ≤ k = top_within opened k opened_below in
        let above : k < top (rest ++ k ∷ []) = top_above (rest ++ k ∷ []) k was_open in
        omega (arith, within, above)

-- what is below by the order of the keys is below
below_last : (rest : List ℕ) (k : ℕ) → All (λ q. IsLtBy nat_cmp q k) rest → (m : ℕ) → IsAmong m rest → m < k
below_last rest k h m among =
    subst (λ r. MatchOrdering r (m < k) (m ≡ k) (k < m)) (all_among (λ q. IsLtBy nat_cmp q k) rest m h among)
    (ranked m k (nat_cmp m k) refl)

-- The last open entry is taken out of the set.
module _ (t : TypeTable) (done : List (Option TypeDef)) (n : ℕ) (opened back rest : List ℕ) (k : ℕ)
    (going : Going t done n opened back) (taken : opened ≡ rest ++ k ∷ []) where
  -- it is an entry
  pub taken_there : k < length t.types
  taken_there = going.there k (subst (λ ks. IsAmong k ks) (sym taken) (among_back rest (k ∷ []) k (inl refl)))

  -- what it names is opened, and the greatest open entry falls
  pub taken_met : (e : DeclType) (named new : List ℕ) → All (λ q. IsLtBy nat_cmp q k) rest
      → slice_get t.types k ≡ Some e → Each (λ p. p < k) (parts_of e) → named ≡ parts_of e
      → Opens done named rest new → Going t done n new (k ∷ back) × (top new < top opened)
  taken_met e named new last at earlier names opens =
      let now = subst (λ ks. Going t done n ks back) taken going in
      let opens_parts = subst (λ ps. Opens done ps rest new) names opens in
      let below = below_last rest k last in (
        going_step t done n rest back k e new now below at earlier opens_parts,
        subst (λ ks. top new < top ks) (sym taken)
            (top_falls t done n rest back k e new now below at earlier opens_parts),
      )

  -- the same of a sound table, and of what a call that opens some entries promises
  pub round_met : table_fault t ≡ None → (e : DeclType) (named new : List ℕ) → All (λ q. IsLtBy nat_cmp q k) rest
      → slice_get t.types k ≡ Some e → named ≡ parts_of e → ((m : ℕ) → IsAmong m rest → IsAmong m new)
      → Each (λ p. IsDone done p ⊎ IsAmong p new) named
      → ((m : ℕ) → IsAmong m new → IsAmong m rest ⊎ IsAmong m named)
      → ((m : ℕ) → IsAmong m new → IsDone done m → IsAmong m rest)
      → Going t done n new (k ∷ back) × (top new < top opened)
  round_met sound e named new last at names kept met only fresh =
      taken_met e named new last at (names_earlier t k sound e at) names
      (record { kept = kept; met = met; only = only; fresh = fresh })

-- nothing is open where nothing was taken
pub none_open : (ks : List ℕ) → (0 < length ks → false ≡ true) → ks ≡ []
none_open [] h = refl
none_open (k ∷ ks) h = absurd (true≢false (sym (h (omega arith))))
