-- What stands under the numbers of names.
use Rattle.std.proofs.Common.{◌≡◌, ◌⊎◌, ◌+◌, ◌<◌, ℕ, zero, suc, Bool, true, false, List, [], ◌∷◌, ◌++◌, length, map}
use Rattle.std.proofs.Common.{Option, None, Some, Contains, Result, Ok, Err, if◌then◌else◌, refl, sym, ap, subst, ◌∙◌}
use Rattle.std.proofs.Common.{true≢false, inl, inr, get_or, take, arith}
use Rattle.std.specs.Prelude.{OnOk, is_some, nat_eq, slice_get}
use Rattle.std.specs.Cmp.{nat_eq_equiv, unsigned_Decides}
use Rattle.std.specs.List.{AllZip, IsDistinct}
use Rattle.std.specs.Map.{lookup}
use Rattle.std.specs.Option.{option_map}
use Rattle.std.specs.Str.{bytes_eq}
use Rattle.std.proofs.lemmas.Option.{get_or_from_slice_get, none-some, same_Some, slice_get-map, slice_get_within}
use Rattle.std.proofs.lemmas.Map.Keys.{apart_from_distinct}
use Rattle.indexmap.specs.IndexMap.{insert_entry}
use Rattle.pc_entity.specs.declared.string_pool.Atom.{Atom}
use Rattle.pc_entity.specs.Exact.{same_texts}
use Rattle.pc_entity.specs.Lists.{AreDistinct, Kept, names_of, value_of}
use Rattle.pc_entity.proofs.Growing.{append_kept, kept_refl}
use Rattle.pc_entity.proofs.LookupLemmas.{done_here}
use Rattle.pc_entity.proofs.Naming.{bytes_eq-refl, value_of-append_absent, value_of-append_held}
use Rattle.pc_types.specs.declared.parsed.CoreEntity.{CoreEntity}
use Rattle.pc_inline_names.specs.Both.{Both, both, neither}
use Rattle.pc_inline_names.specs.Numbers.{AreImportNumbers, AreNumbers, AreNumbersOf, HasNumbers, IsNumber, SameNamed}
use Rattle.pc_inline_names.specs.Numbers.{numbered_value, with_first_number}
use Rattle.pc_inline_names.proofs.ZipLemmas.{zip_length, zip_more}

-- where no two keys compare equal, and each equals itself, none stands twice
pub keys_distinct : {A : Type 0} (eq : A → A → Bool) → ((x : A) → eq x x ≡ true) → (xs : List A)
    → IsDistinct eq xs → AreDistinct xs
keys_distinct {A} eq same xs distinct i j x at_i at_j =
    omega (arith, apart_before i j at_i at_j, apart_before j i at_j at_i)
  where
    apart_before : (i j : ℕ) → slice_get xs i ≡ Some x → slice_get xs j ≡ Some x → i < j → ⊥
    apart_before i j at_i at_j before =
        let differ = apart_from_distinct eq xs i j x distinct before (slice_get_within xs j x at_j) in
        let first : get_or xs i x ≡ x = get_or_from_slice_get xs i x x at_i in
        let second : get_or xs j x ≡ x = get_or_from_slice_get xs j x x at_j in
        let equal : eq x x ≡ true = same x in
        true≢false (cc)

-- what has a place in a list is contained
pub place_contains : {A : Type 0} (xs : List A) (i : ℕ) (x : A) → slice_get xs i ≡ Some x → Contains xs x
place_contains xs i x h = (i, slice_get_within xs i x h, get_or_from_slice_get xs i x x h)

-- a test is true or false
told : {P : Type 0} (b : Bool) → (b ≡ true → P) → (b ≡ false → P) → P
told true on_true on_false = on_true refl
told false on_true on_false = on_false refl

-- a look-up is answered or isn't
answered : {A P : Type 0} (o : Option A) → ((x : A) → o ≡ Some x → P) → (o ≡ None → P) → P
answered (Some x) there missing = there x refl
answered None there missing = missing refl

module _ {V : Type 0} where
  -- a number that had a value has it still, one that had none has what comes last, and another one what it had
  pub look_held : (n : Atom) (es fs : List (Atom × V)) (v : V) → numbered_value n es ≡ Some v
      → numbered_value n (es ++ fs) ≡ Some v
  look_held n [] fs v h = absurd (none-some v h)
  look_held n (e ∷ es) fs v h = by (nat_eq n.0 e.0.0) (look_held n es fs v) h
    where
      by : (b : Bool) → (numbered_value n es ≡ Some v → numbered_value n (es ++ fs) ≡ Some v)
          → (if b then Some e.1 else numbered_value n es) ≡ Some v
          → (if b then Some e.1 else numbered_value n (es ++ fs)) ≡ Some v
      by true rest k = k
      by false rest k = rest k

  look_last : (n : Atom) (es : List (Atom × V)) (v : V) → numbered_value n es ≡ None
      → numbered_value n (es ++ (n, v) ∷ []) ≡ Some v
  look_last n [] v h = ap (λ b. if b then Some v else None) (nat_eq_equiv.refl n.0)
  look_last n (e ∷ es) v h = by (nat_eq n.0 e.0.0) (look_last n es v) h
    where
      by : (b : Bool) → (numbered_value n es ≡ None → numbered_value n (es ++ (n, v) ∷ []) ≡ Some v)
          → (if b then Some e.1 else numbered_value n es) ≡ None
          → (if b then Some e.1 else numbered_value n (es ++ (n, v) ∷ [])) ≡ Some v
      by true rest k = absurd (none-some e.1 (sym k))
      by false rest k = rest k

  look_other : (m n : Atom) (es : List (Atom × V)) (v : V) → nat_eq m.0 n.0 ≡ false
      → numbered_value m (es ++ (n, v) ∷ []) ≡ numbered_value m es
  look_other m n [] v h = ap (λ b. if b then Some v else None) h
  look_other m n (e ∷ es) v h = ap (λ r. if nat_eq m.0 e.0.0 then Some e.1 else r) (look_other m n es v h)

  -- a number that had none has what the entries at the end give it
  pub look_end : (n : Atom) (es fs : List (Atom × V)) → numbered_value n es ≡ None
      → numbered_value n (es ++ fs) ≡ numbered_value n fs
  look_end n [] fs h = refl
  look_end n (e ∷ es) fs h = by (nat_eq n.0 e.0.0) (look_end n es fs) h
    where
      by : (b : Bool) → (numbered_value n es ≡ None → numbered_value n (es ++ fs) ≡ numbered_value n fs)
          → (if b then Some e.1 else numbered_value n es) ≡ None
          → (if b then Some e.1 else numbered_value n (es ++ fs)) ≡ numbered_value n fs
      by true rest k = absurd (none-some e.1 (sym k))
      by false rest k = rest k

  -- the same of names
  name_last : (name : List ℕ) (es : List (List ℕ × V)) (v : V) → value_of name es ≡ None
      → value_of name (es ++ (name, v) ∷ []) ≡ Some v
  name_last name es v h =
      value_of-append_absent name es ((name, v) ∷ []) h ∙ ap (λ b. if b then Some v else None) (bytes_eq-refl name)

  name_other : (other name : List ℕ) (es : List (List ℕ × V)) (v : V) → bytes_eq other name ≡ false
      → value_of other (es ++ (name, v) ∷ []) ≡ value_of other es
  name_other other name [] v h = ap (λ b. if b then Some v else None) h
  name_other other name (e ∷ es) v h =
      ap (λ r. if bytes_eq other e.0 then Some e.1 else r) (name_other other name es v h)

  -- a number that is put has its first value, and another keeps what it had
  put_held : (ns : List (Atom × V)) (n : Atom) (v w : V) → numbered_value n ns ≡ Some w
      → numbered_value n (with_first_number ns n v) ≡ Some w
  put_held ns n v w h = ap (λ b. numbered_value n (if b then ns else ns ++ (n, v) ∷ [])) (ap is_some h) ∙ h

  put_absent : (ns : List (Atom × V)) (n : Atom) (v : V) → numbered_value n ns ≡ None
      → numbered_value n (with_first_number ns n v) ≡ Some v
  put_absent ns n v h =
      ap (λ b. numbered_value n (if b then ns else ns ++ (n, v) ∷ [])) (ap is_some h) ∙ look_last n ns v h

  put_other : (ns : List (Atom × V)) (m n : Atom) (v : V) → nat_eq m.0 n.0 ≡ false
      → numbered_value m (with_first_number ns n v) ≡ numbered_value m ns
  put_other ns m n v h = by (is_some (numbered_value n ns))
    where
      by : (b : Bool) → numbered_value m (if b then ns else ns ++ (n, v) ∷ []) ≡ numbered_value m ns
      by true = refl
      by false = look_other m n ns v h

  -- a value that is put into a map at a number that has none goes last
  insert_last : (es : List (Atom × V)) (n : Atom) (v : V) → numbered_value n es ≡ None
      → insert_entry (λ (a b : Atom). nat_eq a.0 b.0) es n v ≡ es ++ (n, v) ∷ []
  insert_last [] n v h = refl
  insert_last (e ∷ es) n v h = by (nat_eq n.0 e.0.0) (insert_last es n v) h
    where
      by : (b : Bool)
          → (numbered_value n es ≡ None → insert_entry (λ (a b : Atom). nat_eq a.0 b.0) es n v ≡ es ++ (n, v) ∷ [])
          → (if b then Some e.1 else numbered_value n es) ≡ None
          → (if b then (e.0, v) ∷ es else e ∷ insert_entry (λ (a b : Atom). nat_eq a.0 b.0) es n v)
          ≡ e ∷ (es ++ (n, v) ∷ [])
      by true rest k = absurd (none-some e.1 (sym k))
      by false rest k = ap (λ l. e ∷ l) (rest k)

  pub insert_first : (es : List (Atom × V)) (n : Atom) (v : V) → is_some (numbered_value n es) ≡ false
      → insert_entry (λ (a b : Atom). nat_eq a.0 b.0) es n v ≡ with_first_number es n v
  insert_first es n v h = by (numbered_value n es) refl h
    where
      by : (o : Option V) → numbered_value n es ≡ o → is_some o ≡ false
          → insert_entry (λ (a b : Atom). nat_eq a.0 b.0) es n v ≡ if is_some o then es else es ++ (n, v) ∷ []
      by (Some w) at absent = absurd (true≢false absent)
      by None at absent = insert_last es n v at

module _ (names : List (List ℕ)) where
  -- names are apart where their numbers are, and a name that has no number is apart from those that have one
  apart : (m n : Atom) (other name : List ℕ) → AreDistinct names → IsNumber names m other → IsNumber names n name
      → nat_eq m.0 n.0 ≡ false → bytes_eq other name ≡ false
  apart m n other name distinct is_other is_name differ = told (bytes_eq other name) alike (λ h. h)
    where
      alike : bytes_eq other name ≡ true → bytes_eq other name ≡ false
      alike h =
          let there = is_other ∙ ap Some (same_texts other name h) in
          absurd (true≢false (sym ((unsigned_Decides m.0 n.0).1 (distinct m.0 n.0 name there is_name)) ∙ differ))

  unnamed : (m : Atom) (other name : List ℕ) → ¬ Contains names name → IsNumber names m other
      → bytes_eq other name ≡ false
  unnamed m other name absent is = told (bytes_eq other name) alike (λ h. h)
    where
      alike : bytes_eq other name ≡ true → bytes_eq other name ≡ false
      alike h = absurd (absent (place_contains names m.0 name (is ∙ ap Some (same_texts other name h))))

  -- the one test is true where the other is
  pub number_alike : (m n : Atom) (a b : List ℕ) → AreDistinct names → IsNumber names m a → IsNumber names n b
      → nat_eq m.0 n.0 ≡ bytes_eq a b
  number_alike m n a b distinct is_a is_b = told (nat_eq m.0 n.0) same differ
    where
      same : nat_eq m.0 n.0 ≡ true → nat_eq m.0 n.0 ≡ bytes_eq a b
      same h =
          let number = (unsigned_Decides m.0 n.0).0 h in
          let alike : b ≡ a = same_Some b a (sym is_b ∙ ap (slice_get names) (sym number) ∙ is_a) in
          h ∙ sym (ap (bytes_eq a) alike ∙ bytes_eq-refl a)

      differ : nat_eq m.0 n.0 ≡ false → nat_eq m.0 n.0 ≡ bytes_eq a b
      differ h = h ∙ sym (apart m n a b distinct is_a is_b h)

module _ {V : Type 0} (names : List (List ℕ)) where
  module _ (es : List (List ℕ × V)) (ns : List (Atom × V)) (name : List ℕ) (v : V) (has : HasNumbers names es ns) where
    -- a value at the end of the entries is put under the number of its name
    pub numbered_next : (n : Atom) → AreDistinct names → IsNumber names n name
        → HasNumbers names (es ++ (name, v) ∷ []) (with_first_number ns n v)
    numbered_next n distinct is m other is_other = told (nat_eq m.0 n.0) same differ
      where
        here : numbered_value n (with_first_number ns n v) ≡ value_of name (es ++ (name, v) ∷ [])
        here = answered (numbered_value n ns)
            (λ w at. put_held ns n v w at
            ∙ sym (value_of-append_held name es ((name, v) ∷ []) w (sym (has n name is) ∙ at)))
            (λ none. put_absent ns n v none ∙ sym (name_last name es v (sym (has n name is) ∙ none)))

        same : nat_eq m.0 n.0 ≡ true
            → numbered_value m (with_first_number ns n v) ≡ value_of other (es ++ (name, v) ∷ [])
        same h =
            let number = (unsigned_Decides m.0 n.0).0 h in
            let alike : name ≡ other =
            same_Some name other (sym is ∙ ap (slice_get names) (sym number) ∙ is_other) in
            ap (λ (k : ℕ). lookup (λ (a : Atom). nat_eq k a.0) (with_first_number ns n v)) number
            ∙ here
            ∙ ap (λ (x : List ℕ). value_of x (es ++ (name, v) ∷ [])) alike

        differ : nat_eq m.0 n.0 ≡ false
            → numbered_value m (with_first_number ns n v) ≡ value_of other (es ++ (name, v) ∷ [])
        differ h =
            put_other ns m n v h
            ∙ has m other is_other
            ∙ sym (name_other other name es v (apart names m n other name distinct is_other is h))

    -- a value whose name has no number is left out
    pub unnumbered_next : ¬ Contains names name → HasNumbers names (es ++ (name, v) ∷ []) ns
    unnumbered_next absent m other is =
        has m other is ∙ sym (name_other other name es v (unnamed names m other name absent is))

-- what a map is in which a value was put under the number of its name
pub inserted_value : {V T E : Type 0} (names : List (List ℕ)) (old new : List (Atom × V)) (n : Atom) (name : List ℕ)
    (v : V) (r : Result T E) → AreDistinct names → IsNumber names n name → OnOk r (new ≡ with_first_number old n v)
    → OnOk r ((es : List (List ℕ × V)) → HasNumbers names es old → HasNumbers names (es ++ (name, v) ∷ []) new)
inserted_value names old new n name v (Err e) distinct held put = tt
inserted_value names old new n name v (Ok x) distinct held put =
    λ es has. subst (HasNumbers names (es ++ (name, v) ∷ [])) (sym put)
    (numbered_next names es old name v has n distinct held)

-- the numbers of names stay theirs where names are added
pub numbers_kept : (old new : List (List ℕ)) → Kept old new → (xs : List (List ℕ)) (ns : List Atom)
    → AreNumbersOf old xs ns → AreNumbersOf new xs ns
numbers_kept old new kept =
    zip_more (λ (x : List ℕ) (n : Atom). IsNumber old n x) (λ (x : List ℕ) (n : Atom). IsNumber new n x)
    (λ x n is. kept n.0 x is)

-- the same of the names of imports
pub import_kept : (old new : List (List ℕ)) → Kept old new → (i : List ℕ × List ℕ × CoreEntity) (ns : Atom × Atom)
    → AreNumbers old i ns → AreNumbers new i ns
import_kept old new kept i ns are = record {
  of_module = kept ns.0.0 i.0 are.of_module;
  of_name = kept ns.1.0 i.1 are.of_name;
}

pub imports_kept : (old new : List (List ℕ)) → Kept old new → (xs : List (List ℕ × List ℕ × CoreEntity))
    (ns : List (Atom × Atom)) → AreImportNumbers old xs ns → AreImportNumbers new xs ns
imports_kept old new kept = zip_more (AreNumbers old) (AreNumbers new) (import_kept old new kept)

-- what an interner makes of its values and one more keeps them
pub grown_kept : {A : Type 0} (old new : List A) (x : A) → (new ≡ old) ⊎ (new ≡ old ++ x ∷ []) → Kept old new
grown_kept old new x (inl same) = subst (Kept old) (sym same) (kept_refl old)
grown_kept old new x (inr more) = subst (Kept old) (sym more) (append_kept old (x ∷ []))

module _ (names : List (List ℕ)) where
  -- there are as many numbers as names
  pub numbers_many : (xs : List (List ℕ)) (ns : List Atom) → AreNumbersOf names xs ns → length ns ≡ length xs
  numbers_many xs ns are = sym (zip_length (λ (x : List ℕ) (n : Atom). IsNumber names n x) xs ns are)

  -- the number at the place of a name is its number
  pub number_at : (xs : List (List ℕ)) (ns : List Atom) → AreNumbersOf names xs ns → (i : ℕ) (x : List ℕ) (n d : Atom)
      → slice_get xs i ≡ Some x → n ≡ get_or ns i d → IsNumber names n x
  number_at [] ns are i x n d at is = absurd (none-some x at)
  number_at (y ∷ xs) [] are i x n d at is = absurd are
  number_at (y ∷ xs) (m ∷ ns) are zero x n d at is =
      ap (λ (k : Atom). slice_get names k.0) is ∙ are.0 ∙ at
  number_at (y ∷ xs) (m ∷ ns) are (suc i) x n d at is = number_at xs ns are.1 i x n d at is

  -- the number of a single name
  pub one_number : (x : List ℕ) (ns : List Atom) → AreNumbersOf names (x ∷ []) ns
      → (0 < length ns) × ((n d : Atom) → n ≡ get_or ns 0 d → IsNumber names n x)
  one_number x ns are =
      let many = numbers_many (x ∷ []) ns are in
      (omega (arith, many), λ n d is. number_at (x ∷ []) ns are 0 x n d refl is)

-- the numbers of the names of some items, item by item
pub numbers_along : {A : Type 0} (names : List (List ℕ)) (name_of : A → List ℕ) (xs : List A) (ns : List Atom)
    → AreNumbersOf names (map name_of xs) ns → AllZip (λ (x : A) (n : Atom). IsNumber names n (name_of x)) xs ns
numbers_along names name_of [] [] are = are
numbers_along names name_of [] (n ∷ ns) are = are
numbers_along names name_of (x ∷ xs) [] are = are
numbers_along names name_of (x ∷ xs) (n ∷ ns) are = (are.0, numbers_along names name_of xs ns are.1)

-- the same of named values
pub numbers_each : {V : Type 0} (names : List (List ℕ)) (es : List (List ℕ × V)) (ns : List Atom)
    → AreNumbersOf names (names_of es) ns → AllZip (λ (e : List ℕ × V) (n : Atom). IsNumber names n e.0) es ns
numbers_each {V} names = numbers_along names (λ (e : List ℕ × V). e.0)

-- the item at a place within a list
item_at : {A : Type 0} (xs : List A) (i : ℕ) (x : A) → i < length xs → x ≡ get_or xs i x → slice_get xs i ≡ Some x
item_at [] i x within is = absurd (omega (arith, within))
item_at (y ∷ xs) zero x within is = ap Some (sym is)
item_at (y ∷ xs) (suc i) x within is = item_at xs i x (omega (arith, within)) is

module _ {A B : Type 0} (names : List (List ℕ)) (R : A → B → Type 0) where
  -- an item under a name that is new, and under its number
  pub numbered_push : (xs : List (Atom × A)) (ys : List (List ℕ × B)) (n : Atom) (k : List ℕ) (x : A) (y : B)
      → AreDistinct names → IsNumber names n k → SameNamed names R xs ys → R x y
      → SameNamed names R (xs ++ (n, x) ∷ []) (ys ++ (k, y) ∷ [])
  numbered_push xs ys n k x y distinct is same r m name is_name =
      by (numbered_value m xs) (value_of name ys) refl refl (same m name is_name)
    where
      end : (a b : Bool) → a ≡ b → Both R (if a then Some x else None) (if b then Some y else None)
      end true true e = both r
      end true false e = absurd (true≢false e)
      end false true e = absurd (true≢false (sym e))
      end false false e = neither

      by : (o : Option A) (w : Option B) → numbered_value m xs ≡ o → value_of name ys ≡ w → Both R o w
          → Both R (numbered_value m (xs ++ (n, x) ∷ [])) (value_of name (ys ++ (k, y) ∷ []))
      by None None p q both_none =
          rw (look_end m xs ((n, x) ∷ []) p, value_of-append_absent name ys ((k, y) ∷ []) q)
          (end (nat_eq m.0 n.0) (bytes_eq name k) (number_alike names m n name k distinct is_name is))
      by None (Some b) p q s = elim s [ ]
      by (Some a) None p q s = elim s [ ]
      by (Some a) (Some b) p q s =
          rw (look_held m xs ((n, x) ∷ []) a p, value_of-append_held name ys ((k, y) ∷ []) b q) s

  -- an item under a name that is there already
  pub numbered_again : (xs : List (Atom × A)) (ys : List (List ℕ × B)) (n : Atom) (k : List ℕ) (y : B)
      → AreDistinct names → IsNumber names n k → SameNamed names R xs ys → is_some (numbered_value n xs) ≡ true
      → SameNamed names R xs (ys ++ (k, y) ∷ [])
  numbered_again xs ys n k y distinct is same there m name is_name =
      by (numbered_value m xs) (value_of name ys) refl refl (same m name is_name)
    where
      other : (t : Bool) → bytes_eq name k ≡ t → numbered_value m xs ≡ None → (if t then Some y else None) ≡ None
      other false e p = refl
      other true e p =
          let alike = (unsigned_Decides m.0 n.0).0 (number_alike names m n name k distinct is_name is ∙ e) in
          absurd (true≢false (sym there
          ∙ ap is_some (ap (λ (i : ℕ). lookup (λ (a : Atom). nat_eq i a.0) xs) (sym alike) ∙ p)))

      by : (o : Option A) (w : Option B) → numbered_value m xs ≡ o → value_of name ys ≡ w → Both R o w
          → Both R o (value_of name (ys ++ (k, y) ∷ []))
      by None None p q both_none =
          rw (value_of-append_absent name ys ((k, y) ∷ []) q) (rw (other (bytes_eq name k) refl p) neither)
      by None (Some b) p q s = elim s [ ]
      by (Some a) None p q s = elim s [ ]
      by (Some a) (Some b) p q s = rw (value_of-append_held name ys ((k, y) ∷ []) b q) s

  -- so an item whose first value counts may go under the number of its name
  pub named_first : (xs : List (Atom × A)) (ys : List (List ℕ × B)) (n : Atom) (k : List ℕ) (x : A) (y : B)
      → AreDistinct names → IsNumber names n k → SameNamed names R xs ys → R x y
      → SameNamed names R (with_first_number xs n x) (ys ++ (k, y) ∷ [])
  named_first xs ys n k x y distinct is same r = by (is_some (numbered_value n xs)) refl
    where
      by : (there : Bool) → is_some (numbered_value n xs) ≡ there
          → SameNamed names R (if there then xs else xs ++ (n, x) ∷ []) (ys ++ (k, y) ∷ [])
      by true there = numbered_again xs ys n k y distinct is same there
      by false absent = numbered_push xs ys n k x y distinct is same r

-- the next of some entries goes under its number
pub numbered_here : {V : Type 0} (names : List (List ℕ)) (es : List (List ℕ × V)) (numbers : List Atom) (i : ℕ)
    (e : List ℕ × V) (n d : Atom) (ns more : List (Atom × V)) → AreDistinct names
    → AreNumbersOf names (names_of es) numbers → i < length es → e ≡ get_or es i e → n ≡ get_or numbers i d
    → HasNumbers names (take i es) ns
    → more ≡ with_first_number ns n e.1 → HasNumbers names (take (i + 1) es) more
numbered_here {V} names es numbers i e n d ns more distinct are within is_entry is_number has put =
    let at = item_at es i e within is_entry in
    let number : IsNumber names n e.0 =
    number_at names (names_of es) numbers are i e.0 n d
    (slice_get-map (λ (x : List ℕ × V). x.0) es i ∙ ap (option_map (λ (x : List ℕ × V). x.0)) at) is_number in
    subst (λ (xs : List (List ℕ × V)). HasNumbers names xs more) (sym (done_here es i e within is_entry))
    (subst (HasNumbers names (take i es ++ e ∷ [])) (sym put)
    (numbered_next names (take i es) ns e.0 e.1 has n distinct number))
