-- Forgetting an entry, and each that leads to it.
use Rattle.std.proofs.Common.{◌≡◌, ◌⊎◌, ◌<◌, ◌+◌, ◌∷◌, ◌++◌, ℕ, Bool, true, false, List, [], length, Option, Some, None}
use Rattle.std.proofs.Common.{refl, sym, ap, ◌∙◌, subst, arith, inl, inr, ◌==◌, true≢false, sum_by, option_map}
use Rattle.std.specs.Prelude.{Vec, is_some}
use Rattle.std.specs.Ordering.{nat_cmp}
use Rattle.std.specs.Option.{unwrap_or}
use Rattle.std.specs.BTreeMap.{BTreeMap, Updates, get, is_at, values}
use Rattle.std.specs.Map.{lookup, remove_entry, values_of}
use Rattle.std.specs.declared.alloc.Global.{Global}
use Rattle.std.proofs.lemmas.Bool.{eqb-true, eq-eqb}
use Rattle.std.proofs.lemmas.List.{length-append}
use Rattle.std.proofs.lemmas.Map.Entries.{sum_by-remove_entry}
use Rattle.std.proofs.lemmas.Option.{none-some}
use Rattle.pc_types.specs.declared.types.TypeDef.{TypeDef}
use Rattle.pc_types_convert.specs.Needed.{IsAmong, IsDone}
use Rattle.pc_types_convert.specs.Plain.{AreLayered, Forgets, IsNoted, Layers, StandsAt}
use Rattle.pc_types_convert.specs.Tabulated.{tabulated}
use Rattle.pc_types_convert.specs.Users.{numbers_in, users_of}
use Rattle.pc_types_convert.proofs.AmongLemmas.{among_back, among_either, among_front, among_one}
use Rattle.pc_types_convert.proofs.LayerLemmas.{are_layered, in_either, layers, noted_from, noted_in, stands_in}
use Rattle.pc_types_convert.proofs.TabulatedLemmas.{other_kept, set_in_map, tabulated_found, tabulated_length}

-- The entries that are left to be forgotten, where `n` is to be: an entry stays that one which stays was noted for, but
-- for those that are left.
pub record Forgetting (n : ℕ) (old new : Layers) (left : List ℕ) : Type 0 where
  pub room : length new.all ≡ length old.all
  pub plain : new.plain ≡ old.plain
  pub like : new.like ≡ old.like
  pub own : (k : ℕ) (d : TypeDef) → StandsAt new.own k d → StandsAt old.own k d
  pub asked : IsDone new.own n → IsAmong n left
  pub users : (p k : ℕ) → IsDone new.own k → IsDone old.own p → IsNoted old.users p k
      → (IsDone new.own p × IsNoted new.users p k) ⊎ IsAmong k left

-- entry `m` goes from the types of this component instance, and what was noted for it is among what was moved
pub record Drops (m : ℕ) (ks : List ℕ) (old new : Layers) : Type 0 where
  pub room : length new.all ≡ length old.all
  pub plain : new.plain ≡ old.plain
  pub like : new.like ≡ old.like
  pub own : (k : ℕ) (d : TypeDef) → StandsAt new.own k d → StandsAt old.own k d × (k ≡ m → ⊥)
  pub others : (p : ℕ) → (p ≡ m → ⊥) → IsDone old.own p → IsDone new.own p
  pub noted : (p k : ℕ) → (p ≡ m → ⊥) → IsNoted old.users p k → IsNoted new.users p k
  pub moved : (k : ℕ) → IsDone old.own m → IsNoted old.users m k → IsAmong k ks

-- it ends where none is left
pub forgetting_end : (n : ℕ) (old new : Layers) → Forgetting n old new [] → AreLayered new → Forgets n old new
forgetting_end n old new on layered = record {
  room = on.room;
  plain = on.plain;
  like = on.like;
  own = on.own;
  gone = on.asked;
  users = λ p k done was noted.
      elim (on.users p k done was noted) as (λ _. IsDone new.own p × IsNoted new.users p k) [
        | inl stays ↦ stays
        | inr none ↦ absurd none
      ];
  layered = layered;
}

-- where the last one that is left is dropped, what was noted for it is left beside the others
pub forgetting_next : (n m : ℕ) (old middle new : Layers) (left rest moved left' : List ℕ)
    → Forgetting n old middle left → left ≡ rest ++ m ∷ [] → left' ≡ rest ++ moved → Drops m moved middle new
    → Forgetting n old new left'
forgetting_next n m old middle new left rest moved left' on was is drops =
    subst (Forgetting n old new) (sym is) (record {
      room = drops.room ∙ on.room;
      plain = drops.plain ∙ on.plain;
      like = drops.like ∙ on.like;
      own = λ k d stands. on.own k d (drops.own k d stands).0;
      asked = λ done.
          let before = drops.own n done.0 done.1 in
          among_front rest moved n (still n before.1 (on.asked (done.0, before.0)));
      users = λ p k done was_done noted.
          let before = drops.own k done.0 done.1 in
          elim (on.users p k (done.0, before.0) was_done noted) as
          (λ _. (IsDone new.own p × IsNoted new.users p k) ⊎ IsAmong k (rest ++ moved)) [
            | inl stays ↦ by p k (p == m) refl stays
            | inr among ↦ inr (among_front rest moved k (still k before.1 among))
          ];
    })
  where
    still : (k : ℕ) → (k ≡ m → ⊥) → IsAmong k left → IsAmong k rest
    still k differs among = elim (among_either rest (m ∷ []) k (subst (IsAmong k) was among)) as (λ _. IsAmong k rest) [
      | inl front ↦ front
      | inr last ↦ absurd (differs (among_one k m last))
    ]

    by : (p k : ℕ) (b : Bool) → (p == m) ≡ b → IsDone middle.own p × IsNoted middle.users p k
        → (IsDone new.own p × IsNoted new.users p k) ⊎ IsAmong k (rest ++ moved)
    by p k true same stays =
        let is_it : p ≡ m = eqb-true p m same in
        inr
        (among_back rest moved k
        (drops.moved k (subst (IsDone middle.own) is_it stays.0)
        (subst (λ q. IsNoted middle.users q k) is_it stays.1)))
    by p k false other stays =
        let differs : (p ≡ m → ⊥) = λ same. true≢false (sym (eq-eqb p m same) ∙ other) in
        inl (drops.others p differs stays.0, drops.noted p k differs stays.1)

-- the maps after one entry went, where the numbers of the others are kept
pub dropped : (own new plain : BTreeMap ℕ TypeDef) (users left : BTreeMap ℕ (Vec ℕ Global))
    (like : BTreeMap ℕ TypeDef) (room m : ℕ) (moved : List ℕ) → Updates nat_cmp own new m None
    → ((q : ℕ) → (q ≡ m → ⊥) → get nat_cmp left q ≡ get nat_cmp users q)
    → ((k : ℕ) → is_some (get nat_cmp own m) ≡ true → IsAmong k (users_of users m) → IsAmong k moved)
    → Drops m moved (layers own plain users like room) (layers new plain left like room)
dropped own new plain users left like room m moved updates kept moves = record {
  room = tabulated_length (in_either new plain) 0 room ∙ sym (tabulated_length (in_either own plain) 0 room);
  plain = refl;
  like = refl;
  own = λ k d stands.
      let there = tabulated_found (get nat_cmp new) room k (Some d) stands in
      let differs : (k ≡ m → ⊥) = λ same.
      none-some d (sym (ap (get nat_cmp new) same ∙ updates.1) ∙ there.1) in
      (stands_in own room k d there.0 (sym (other k differs) ∙ there.1), differs);
  others = λ p differs done.
      let there = tabulated_found (get nat_cmp own) room p (Some done.0) done.1 in
      (done.0, stands_in new room p done.0 there.0 (other p differs ∙ there.1));
  noted = λ p k differs noted.
      let there = noted_from users room p k noted in
      noted_in left room p k there.0 (subst (λ o. IsAmong k (numbers_in o)) (sym (kept p differs)) there.1);
  moved = λ k done noted.
      let there = tabulated_found (get nat_cmp own) room m (Some done.0) done.1 in
      moves k (ap is_some there.1) (noted_from users room m k noted).1;
}
  where
    other : (q : ℕ) → (q ≡ m → ⊥) → get nat_cmp new q ≡ get nat_cmp own q
    other q differs = set_in_map own new m None updates q ∙ other_kept (get nat_cmp own) m None q differs

-- the numbers of the entry went too
pub dropped_users : (own new plain : BTreeMap ℕ TypeDef) (users left : BTreeMap ℕ (Vec ℕ Global))
    (like : BTreeMap ℕ TypeDef) (room m : ℕ) (ns : Option (Vec ℕ Global)) → Updates nat_cmp own new m None
    → Updates nat_cmp users left m None → ns ≡ get nat_cmp users m
    → Drops m (numbers_in ns) (layers own plain users like room) (layers new plain left like room)
dropped_users own new plain users left like room m ns updates gone there =
    dropped own new plain users left like room m (numbers_in ns) updates
    (λ q differs. set_in_map users left m None gone q ∙ other_kept (get nat_cmp users) m None q differs)
    (λ k has among. subst (λ o. IsAmong k (numbers_in o)) (sym there) among)

-- it begins with the numbers of the entry that is asked for, where that and its numbers went
pub forgetting_start : (own new plain : BTreeMap ℕ TypeDef) (users left : BTreeMap ℕ (Vec ℕ Global))
    (like : BTreeMap ℕ TypeDef) (room n : ℕ) (ns : Option (Vec ℕ Global)) (old : Layers)
    → layers own plain users like room ≡ old → Updates nat_cmp own new n None → Updates nat_cmp users left n None
    → ns ≡ get nat_cmp users n → Forgetting n old (layers new plain left like room) (numbers_in ns)
forgetting_start own new plain users left like room n ns old is updates gone there =
    forgetting_next n n old old (layers new plain left like room) (n ∷ []) [] (numbers_in ns) (numbers_in ns) asked refl
    refl
    (subst (λ was. Drops n (numbers_in ns) was (layers new plain left like room)) is
    (dropped_users own new plain users left like room n ns updates gone there))
  where
    asked : Forgetting n old old (n ∷ [])
    asked = record {
      room = refl;
      plain = refl;
      like = refl;
      own = λ k d stands. stands;
      asked = λ done. inl refl;
      users = λ p k done was noted. inl (was, noted);
    }

-- the entry wasn't there
pub dropped_none : (own new plain : BTreeMap ℕ TypeDef) (users : BTreeMap ℕ (Vec ℕ Global)) (like : BTreeMap ℕ TypeDef)
    (room m : ℕ) → Updates nat_cmp own new m None → is_some (get nat_cmp own m) ≡ false
    → Drops m [] (layers own plain users like room) (layers new plain users like room)
dropped_none own new plain users like room m updates none =
    dropped own new plain users users like room m [] updates (λ q differs. refl)
    (λ k has among. absurd (true≢false (sym has ∙ none)))

-- the lists stay as long as they are
pub same_room : (own new plain : BTreeMap ℕ TypeDef) (room : ℕ)
    → length (tabulated (in_either new plain) 0 room) ≡ length (tabulated (in_either own plain) 0 room)
same_room own new plain room =
    tabulated_length (in_either new plain) 0 room ∙ sym (tabulated_length (in_either own plain) 0 room)

-- the maps after they lost all but the plain ones
pub forgets_all : (own new plain : BTreeMap ℕ TypeDef) (users none : BTreeMap ℕ (Vec ℕ Global))
    (like : BTreeMap ℕ TypeDef) (room n : ℕ) (old middle : Layers) → layers own plain users like room ≡ middle
    → middle.plain ≡ old.plain → middle.like ≡ old.like → length middle.all ≡ length old.all → new.entries ≡ []
    → Forgets n old (layers new plain none like room)
forgets_all own new plain users none like room n old middle is same same_like rooms empty = record {
  room = same_room own new plain room ∙ ap (λ (l : Layers). length l.all) is ∙ rooms;
  plain = ap (λ (l : Layers). l.plain) is ∙ same;
  like = ap (λ (l : Layers). l.like) is ∙ same_like;
  own = λ k d stands. absurd (gone k (d, stands));
  gone = gone n;
  users = λ p k done was noted. absurd (gone k done);
  layered = are_layered new plain none like room;
}
  where
    gone : (k : ℕ) → IsDone (layers new plain none like room).own k → ⊥
    gone k done =
        let there = tabulated_found (get nat_cmp new) room k (Some done.0) done.1 in
        none-some done.0 (sym (ap (lookup (is_at (nat_cmp k))) empty) ∙ there.1)

-- how many numbers are left, and how many are noted
abbrev pub ahead : List ℕ → BTreeMap ℕ (Vec ℕ Global) → ℕ
ahead left users = length left + sum_by (λ ns. length ns.items) (values users)

-- it falls where those that are noted for the last one are left instead
pub ahead_falls : (m : ℕ) (left rest left' : List ℕ) (users users' : BTreeMap ℕ (Vec ℕ Global)) (ns : Vec ℕ Global)
    → left ≡ rest ++ m ∷ [] → left' ≡ rest ++ ns.items → Some ns ≡ get nat_cmp users m
    → users'.entries ≡ remove_entry (is_at (nat_cmp m)) users.entries → ahead left' users' < ahead left users
ahead_falls m left rest left' users users' ns was is there gone =
    let size : Vec ℕ Global → ℕ = λ ns. length ns.items in
    let noted : sum_by size (values users') + length ns.items ≡ sum_by size (values users) =
    subst (λ o. sum_by size (values users') + unwrap_or (option_map size o) 0 ≡ sum_by size (values users)) (sym there)
    (subst (λ es. sum_by size (values_of es) + unwrap_or (option_map size (get nat_cmp users m)) 0
    ≡ sum_by size (values users)) (sym gone)
    (sum_by-remove_entry size (is_at (nat_cmp m)) users.entries)) in
    omega (
      arith,
      noted,
      ap length was,
      length-append rest (m ∷ []),
      ap length is,
      length-append rest ns.items,
    )

-- a list of no numbers is empty
pub none_left : (xs : List ℕ) → length xs ≡ 0 → xs ≡ []
none_left [] is = refl
none_left (x ∷ xs) is = absurd (omega (arith, is))
