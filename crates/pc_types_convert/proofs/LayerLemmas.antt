-- What is done, by number, against the maps that hold it.
use Rattle.std.proofs.Common.{◌≡◌, ◌⊎◌, ◌<◌, ℕ, Bool, true, false, List, [], length, Option, Some, None, refl}
use Rattle.std.proofs.Common.{sym, ap, ◌∙◌, subst, arith, inl, inr, if◌then◌else◌, ◌==◌, true≢false, Result, Ok, Err}
use Rattle.std.proofs.Common.{OnErr}
use Rattle.std.specs.Borrow.{Bor}
use Rattle.std.specs.Prelude.{Vec, is_some, slice_set}
use Rattle.std.specs.Ordering.{nat_cmp}
use Rattle.std.specs.Option.{option_copied, option_or}
use Rattle.std.specs.BTreeMap.{BTreeMap, Updates, get, is_at}
use Rattle.std.specs.Map.{lookup}
use Rattle.std.specs.declared.alloc.Global.{Global}
use Rattle.std.proofs.lemmas.Bool.{eqb-true}
use Rattle.std.proofs.lemmas.Option.{same_Some}
use Rattle.pc_types.specs.declared.types.TypeDef.{TypeDef}
use Rattle.pc_types_convert.specs.Needed.{IsAmong}
use Rattle.pc_types_convert.specs.Plain.{AreLayered, HadOnce, IsNoted, Layers, NotesMore, PutsOwn, PutsPlain, StandsAt}
use Rattle.pc_types_convert.specs.Plain.{Takes, none_done}
use Rattle.pc_types_convert.specs.Tabulated.{tabulated}
use Rattle.pc_types_convert.specs.Users.{KeepsUsers, numbers_in, users_of}
use Rattle.pc_types_convert.proofs.TabulatedLemmas.{set_in_map, tabulated_alike, tabulated_found, tabulated_here}
use Rattle.pc_types_convert.proofs.TabulatedLemmas.{tabulated_length, tabulated_put}

-- what a number has in the first of two maps, or else in the other
abbrev pub in_either : (own plain : BTreeMap ℕ TypeDef) → ℕ → Option TypeDef
in_either own plain n = option_or (get nat_cmp own n) (get nat_cmp plain n)

-- what a contract sees of the maps
abbrev pub layers : (own plain : BTreeMap ℕ TypeDef) → (users : BTreeMap ℕ (Vec ℕ Global))
    → (like : BTreeMap ℕ TypeDef) → (room : ℕ) → Layers
layers own plain users like room = record {
  all = tabulated (in_either own plain) 0 room;
  plain = tabulated (get nat_cmp plain) 0 room;
  own = tabulated (get nat_cmp own) 0 room;
  users = tabulated (users_of users) 0 room;
  like = tabulated (get nat_cmp like) 0 room;
}

-- nothing is done where all are empty
pub all_empty : (own plain : BTreeMap ℕ TypeDef) (users : BTreeMap ℕ (Vec ℕ Global)) (like : BTreeMap ℕ TypeDef)
    → own.entries ≡ [] → plain.entries ≡ [] → users.entries ≡ [] → like.entries ≡ [] → (room : ℕ)
    → layers own plain users like room ≡ none_done room
all_empty own plain users like no_own no_plain no_users no_like room =
    (λ i. record {
      all = tabulated (λ n. option_or (lookup (is_at (nat_cmp n)) (no_own i)) (lookup (is_at (nat_cmp n)) (no_plain i)))
          0 room;
      plain = tabulated (λ n. lookup (is_at (nat_cmp n)) (no_plain i)) 0 room;
      own = tabulated (λ n. lookup (is_at (nat_cmp n)) (no_own i)) 0 room;
      users = tabulated (λ n. numbers_in (lookup (is_at (nat_cmp n)) (no_users i))) 0 room;
      like = tabulated (λ n. lookup (is_at (nat_cmp n)) (no_like i)) 0 room;
    })
    ∙ (λ i. record {
      all = tabulated_alike {A = Option TypeDef} None 0 room i;
      plain = tabulated_alike {A = Option TypeDef} None 0 room i;
      own = tabulated_alike {A = Option TypeDef} None 0 room i;
      users = tabulated_alike {A = List ℕ} [] 0 room i;
      like = tabulated_alike {A = Option TypeDef} None 0 room i;
    })

-- what has nothing is nothing
pub none_there : {A : Type 0} (o : Option A) → is_some o ≡ false → o ≡ None
none_there None h = refl
none_there (Some x) h = absurd (true≢false h)

-- what holds, holds after an error
pub after_error : {T E P : Type 0} (r : Result T E) → P → OnErr r P
after_error (Ok x) p = tt
after_error (Err e) p = p

-- a copy of one of two is one of their copies
pub copied_or : {A : Type 0} (a b : Option (Bor A))
    → option_copied (option_or a b) ≡ option_or (option_copied a) (option_copied b)
copied_or None b = refl
copied_or (Some x) b = refl

-- a type that one of two has is that of the first, or that of the other
either_has : (a b : Option TypeDef) (d : TypeDef) → option_or a b ≡ Some d → (a ≡ Some d) ⊎ (b ≡ Some d)
either_has None b d h = inr h
either_has (Some x) b d h = inl h

-- what the first has stands in front
front_has : (a b : Option TypeDef) (d : TypeDef) → a ≡ Some d → option_or a b ≡ Some d
front_has a b d h = ap (λ x. option_or x b) h

-- a type stands in a map's list where the map has it
pub stands_in : (m : BTreeMap ℕ TypeDef) (room n : ℕ) (d : TypeDef) → n < room → get nat_cmp m n ≡ Some d
    → StandsAt (tabulated (get nat_cmp m) 0 room) n d
stands_in m room n d within has = tabulated_here (get nat_cmp m) room n within ∙ ap Some has

-- a number is noted where it is in the map of them
pub noted_in : (users : BTreeMap ℕ (Vec ℕ Global)) (room p k : ℕ) → p < room → IsAmong k (users_of users p)
    → IsNoted (tabulated (users_of users) 0 room) p k
noted_in users room p k within among = (users_of users p, tabulated_here (users_of users) room p within, among)

-- and nowhere else
pub noted_from : (users : BTreeMap ℕ (Vec ℕ Global)) (room p k : ℕ)
    → IsNoted (tabulated (users_of users) 0 room) p k → (p < room) × IsAmong k (users_of users p)
noted_from users room p k noted =
    let there = tabulated_found (users_of users) room p noted.0 noted.1 in
    (there.0, subst (IsAmong k) (sym there.1) noted.2)

-- the maps are layers
pub are_layered : (own plain : BTreeMap ℕ TypeDef) (users : BTreeMap ℕ (Vec ℕ Global)) (like : BTreeMap ℕ TypeDef)
    (room : ℕ) → AreLayered (layers own plain users like room)
are_layered own plain users like room = record {
  own_room = tabulated_length (get nat_cmp own) 0 room ∙ sym (tabulated_length (in_either own plain) 0 room);
  users_room = tabulated_length (users_of users) 0 room ∙ sym (tabulated_length (in_either own plain) 0 room);
  front = λ n d found.
      let there = tabulated_found (get nat_cmp own) room n (Some d) found in
      tabulated_here (in_either own plain) room n there.0
      ∙ ap Some (front_has (get nat_cmp own n) (get nat_cmp plain n) d there.1);
  either = λ n d found.
      let there = tabulated_found (in_either own plain) room n (Some d) found in
      elim (either_has (get nat_cmp own n) (get nat_cmp plain n) d there.1) as
      (λ _. StandsAt (tabulated (get nat_cmp own) 0 room) n d ⊎ StandsAt (tabulated (get nat_cmp plain) 0 room) n d) [
        | inl is ↦ inl (stands_in own room n d there.0 is)
        | inr is ↦ inr (stands_in plain room n d there.0 is)
      ];
}

-- a change of the first is one of both together
pub own_changed : (own new plain : BTreeMap ℕ TypeDef) (k : ℕ) (d : TypeDef) → Updates nat_cmp own new k (Some d)
    → (room : ℕ)
    → tabulated (in_either new plain) 0 room ≡ slice_set (tabulated (in_either own plain) 0 room) k (Some d)
own_changed own new plain k d updates room =
    tabulated_put (in_either own plain) (in_either new plain) k (Some d)
    (λ q. ap (λ x. option_or x (get nat_cmp plain q)) (set_in_map own new k (Some d) updates q) ∙ by q (q == k)) room
  where
    by : (q : ℕ) (b : Bool)
        → option_or (if b then Some d else get nat_cmp own q) (get nat_cmp plain q)
        ≡ (if b then Some d else in_either own plain q)
    by q true = refl
    by q false = refl

-- so is a change of the other, where the first has nothing
pub plain_changed : (own plain new : BTreeMap ℕ TypeDef) (k : ℕ) (d : TypeDef) → Updates nat_cmp plain new k (Some d)
    → get nat_cmp own k ≡ None → (room : ℕ)
    → tabulated (in_either own new) 0 room ≡ slice_set (tabulated (in_either own plain) 0 room) k (Some d)
plain_changed own plain new k d updates none room =
    tabulated_put (in_either own plain) (in_either own new) k (Some d)
    (λ q. ap (option_or (get nat_cmp own q)) (set_in_map plain new k (Some d) updates q)
    ∙ by q (q == k) (λ same. eqb-true q k same)) room
  where
    by : (q : ℕ) (b : Bool) → (b ≡ true → q ≡ k)
        → option_or (get nat_cmp own q) (if b then Some d else get nat_cmp plain q)
        ≡ (if b then Some d else in_either own plain q)
    by q true same =
        ap (λ x. option_or x (Some d)) (subst (λ m. get nat_cmp own m ≡ None) (sym (same refl)) none)
    by q false same = refl

-- and one of a map alone
map_put : (m new : BTreeMap ℕ TypeDef) (k : ℕ) (d : TypeDef) → Updates nat_cmp m new k (Some d) → (room : ℕ)
    → tabulated (get nat_cmp new) 0 room ≡ slice_set (tabulated (get nat_cmp m) 0 room) k (Some d)
map_put m new k d updates room =
    tabulated_put (get nat_cmp m) (get nat_cmp new) k (Some d) (set_in_map m new k (Some d) updates) room

-- the types that entries had once, where they are the same
pub had_same : (k : ℕ) (d : TypeDef) (old new : List (Option TypeDef)) → new ≡ old → HadOnce k d old new
had_same k d old new same n e stands = inl (subst (λ l. StandsAt l n e) same stands)

-- the same where that of entry `k` was written
pub had_written : (like new : BTreeMap ℕ TypeDef) (k : ℕ) (d : TypeDef) → Updates nat_cmp like new k (Some d)
    → (room : ℕ) → HadOnce k d (tabulated (get nat_cmp like) 0 room) (tabulated (get nat_cmp new) 0 room)
had_written like new k d updates room n e stands =
    by (n == k) (λ same. eqb-true n k same)
    (sym (set_in_map like new k (Some d) updates n) ∙ (tabulated_found (get nat_cmp new) room n (Some e) stands).1)
  where
    by : (b : Bool) → (b ≡ true → n ≡ k) → (if b then Some d else get nat_cmp like n) ≡ Some e
        → StandsAt (tabulated (get nat_cmp like) 0 room) n e ⊎ ((n ≡ k) × (e ≡ d))
    by true same is = inr (same refl, sym (same_Some d e is))
    by false same is =
        inl (stands_in like room n e (tabulated_found (get nat_cmp new) room n (Some e) stands).0 is)

-- an entry gets a type that is the same everywhere
pub puts_plain : (own plain new : BTreeMap ℕ TypeDef) (users : BTreeMap ℕ (Vec ℕ Global)) (like : BTreeMap ℕ TypeDef)
    (room k : ℕ) (d : TypeDef) (old : Layers) → layers own plain users like room ≡ old
    → Updates nat_cmp plain new k (Some d) → PutsPlain k d old (layers own new users like room)
puts_plain own plain new users like room k d old is updates = record {
  like = ap (λ (l : Layers). l.like) is;
  plain = map_put plain new k d updates room ∙ ap (λ (l : Layers). slice_set l.plain k (Some d)) is;
  own = ap (λ (l : Layers). l.own) is;
  users = ap (λ (l : Layers). l.users) is;
}

-- what was noted is noted in the list
pub kept_noted : (users new : BTreeMap ℕ (Vec ℕ Global)) (room p m : ℕ) → KeepsUsers users new
    → IsNoted (tabulated (users_of users) 0 room) p m → IsNoted (tabulated (users_of new) 0 room) p m
kept_noted users new room p m kept noted =
    let there = noted_from users room p m noted in
    noted_in new room p m there.0 (kept p m there.1)

-- no type has changed where the maps have the entries that they had, and more is noted
pub notes_more : (own own' plain plain' : BTreeMap ℕ TypeDef) (users users' : BTreeMap ℕ (Vec ℕ Global))
    (like like' : BTreeMap ℕ TypeDef) (room k : ℕ) (d : TypeDef) (old : Layers)
    → layers own plain users like room ≡ old → own'.entries ≡ own.entries → plain'.entries ≡ plain.entries
    → KeepsUsers users users'
    → HadOnce k d (tabulated (get nat_cmp like) 0 room) (tabulated (get nat_cmp like') 0 room)
    → NotesMore k d old (layers own' plain' users' like' room)
notes_more own own' plain plain' users users' like like' room k d old is same_own same_plain kept had =
    subst (λ c. NotesMore k d c (layers own' plain' users' like' room)) is (record {
      like = had;
      all = λ i. tabulated
          (λ n. option_or (lookup (is_at (nat_cmp n)) (same_own i)) (lookup (is_at (nat_cmp n)) (same_plain i))) 0 room;
      plain = λ i. tabulated (λ n. lookup (is_at (nat_cmp n)) (same_plain i)) 0 room;
      own = λ i. tabulated (λ n. lookup (is_at (nat_cmp n)) (same_own i)) 0 room;
      users = λ p m noted. kept_noted users users' room p m kept noted;
      layered = are_layered own' plain' users' like' room;
    })

-- an entry gets a type of this component instance, and was noted for its parts
pub puts_own : (own plain new : BTreeMap ℕ TypeDef) (users noted : BTreeMap ℕ (Vec ℕ Global))
    (like like' : BTreeMap ℕ TypeDef) (room k : ℕ) (d : TypeDef) (parts : List ℕ) (old : Layers)
    → layers own plain users like room ≡ old → Updates nat_cmp own new k (Some d) → KeepsUsers users noted
    → ((p : ℕ) → IsAmong p parts → is_some (get nat_cmp own p) ≡ true → IsAmong k (users_of noted p))
    → Updates nat_cmp like like' k (Some d) → PutsOwn k d parts old (layers new plain noted like' room)
puts_own own plain new users noted like like' room k d parts old is updates kept notes had =
    subst (λ c. PutsOwn k d parts c (layers new plain noted like' room)) is (record {
      like = had_written like like' k d had room;
      plain = refl;
      own = map_put own new k d updates room;
      users = λ p m before. kept_noted users noted room p m kept before;
      noted = λ p among done.
          let there = tabulated_found (get nat_cmp own) room p (Some done.0) done.1 in
          noted_in noted room p k there.0 (notes p among (ap is_some there.1));
    })

-- where the plain ones are others, and so are those that entries had once, the lists are those after an exchange
pub exchanged : (own plain : BTreeMap ℕ TypeDef) (users : BTreeMap ℕ (Vec ℕ Global)) (like : BTreeMap ℕ TypeDef)
    (other_own other_plain : BTreeMap ℕ TypeDef) (other_users : BTreeMap ℕ (Vec ℕ Global))
    (other_like : BTreeMap ℕ TypeDef) (room room' : ℕ)
    → length (layers own plain users like room).all
    ≡ length (layers other_own other_plain other_users other_like room').all
    → Takes (layers own plain users like room) (layers other_own other_plain other_users other_like room')
    (layers own other_plain users other_like room)
exchanged own plain users like other_own other_plain other_users other_like room room' same =
    let rooms : room ≡ room' = omega (
      arith,
      same,
      tabulated_length (in_either own plain) 0 room,
      tabulated_length (in_either other_own other_plain) 0 room',
    ) in
    record {
      room = tabulated_length (in_either own other_plain) 0 room
          ∙ sym (tabulated_length (in_either own plain) 0 room);
      plain = ap (tabulated (get nat_cmp other_plain) 0) rooms;
      like = ap (tabulated (get nat_cmp other_like) 0) rooms;
      own = refl;
      users = refl;
      layered = are_layered own other_plain users other_like room;
    }

-- the same of what a contract sees of them
pub exchanged_as : (own plain : BTreeMap ℕ TypeDef) (users : BTreeMap ℕ (Vec ℕ Global)) (like : BTreeMap ℕ TypeDef)
    (other_own other_plain : BTreeMap ℕ TypeDef) (other_users : BTreeMap ℕ (Vec ℕ Global))
    (other_like new new_like : BTreeMap ℕ TypeDef) (room room' : ℕ) (here there : Layers)
    → layers own plain users like room ≡ here → layers other_own other_plain other_users other_like room' ≡ there
    → new ≡ other_plain → new_like ≡ other_like → length here.all ≡ length there.all
    → Takes here there (layers own new users new_like room)
exchanged_as own plain users like other_own other_plain other_users other_like new new_like room room' here there is
    other swapped swapped_like same =
    subst (λ x. Takes here there (layers own x users new_like room)) (sym swapped)
    (subst (λ x. Takes here there (layers own other_plain users x room)) (sym swapped_like)
    (subst (λ h. Takes h there (layers own other_plain users other_like room)) is
    (subst (λ h. Takes (layers own plain users like room) h (layers own other_plain users other_like room)) other
    (exchanged own plain users like other_own other_plain other_users other_like room room'
    (ap (λ (l : Layers). length l.all) is ∙ same ∙ sym (ap (λ (l : Layers). length l.all) other))))))
