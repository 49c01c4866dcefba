-- The arguments of a module of the host, by module name: how they grow, and in which order they stand.
use Rattle.std.proofs.Common.{◌≡◌, ◌≤◌, ◌+◌, ◌||◌, ◌&&◌, ℕ, zero, suc, Bool, true, false, List, [], ◌∷◌, ◌++◌, map}
use Rattle.std.proofs.Common.{Option, Some, None, cond, if◌then◌else◌, refl, sym, ap, subst, ◌∙◌, true≢false, not, take}
use Rattle.std.proofs.Common.{length, get_or, arith}
use Rattle.std.specs.Prelude.{is_some, slice_get, unwrap_or}
use Rattle.std.specs.List.{AllZip, flat_map, fold, list_any}
use Rattle.std.specs.Str.{bytes_eq}
use Rattle.std.proofs.lemmas.List.{map-append, map_push, take_all}
use Rattle.std.proofs.lemmas.List.Elements.{filter-append}
use Rattle.std.proofs.lemmas.List.Folds.{list_any-append}
use Rattle.std.proofs.lemmas.List.Sums.{fold-append}
use Rattle.std.proofs.lemmas.Option.{none-some, same_Some, slice_get-get_or, slice_get_within}
use Rattle.std.proofs.lemmas.Slice.Eq.{bytes_eq-Decides}
use Rattle.pc_entity.specs.FirstValues.{with_first}
use Rattle.pc_entity.specs.Lists.{map_all, value_of, with_value}
use Rattle.pc_entity.proofs.Elements.{and_true}
use Rattle.pc_entity.proofs.LookupLemmas.{done_here}
use Rattle.pc_entity.proofs.MapAll.{map_all_cons, map_all_uncons}
use Rattle.pc_entity.proofs.Naming.{bytes_eq-refl}
use Rattle.pc_types.specs.declared.parsed.CoreEntity.{CoreEntity}
use Rattle.pc_types.specs.Names.{are_distinct, distinct_names, same_pair}
use Rattle.pc_types.proofs.NameLemmas.{are_distinct-push, bytes_eq-sym, not_true, same_pair-sym}
use Rattle.pc_spec_reading.specs.Once.{each_once, with_once}
use Rattle.pc_dfg.specs.declared.core_def.CoreDef.{CoreDef}
use Rattle.pc_dfg.specs.Effects.{Argument, host_arguments}
use Rattle.pc_inline_modules.specs.Grouped.{by_module, given_to, grouped_by, is_given_to, module_names, pair_of}
use Rattle.pc_inline_modules.specs.Grouped.{paired, with_argument}

-- neither part of a disjunction that fails
or_false : (a b : Bool) → (a || b) ≡ false → (a ≡ false) × (b ≡ false)
or_false true b h = absurd (true≢false h)
or_false false b h = (refl, h)

-- a disjunction with what fails
or_none : (a : Bool) → (a || false) ≡ a
or_none true = refl
or_none false = refl

-- a disjunction with what holds
or_some : (a : Bool) → (a || true) ≡ true
or_some true = refl
or_some false = refl

-- disjunctions in a row
or_assoc : (a b c : Bool) → ((a || b) || c) ≡ (a || (b || c))
or_assoc true b c = refl
or_assoc false b c = refl

-- a name that is told apart from another is another, seen from both sides
apart_too : (a b : List ℕ) → bytes_eq a b ≡ false → bytes_eq b a ≡ false
apart_too a b h = bytes_eq-sym b a ∙ h

-- a name that is told to be another is it
name_is : (a b : List ℕ) → bytes_eq a b ≡ true → a ≡ b
name_is a b h = (bytes_eq-Decides a b).0 h

module _ {V : Type 0} where
  -- of two values that are put at a name the second counts
  pub with_value_twice : (es : List (List ℕ × V)) (m : List ℕ) (a b : V)
      → with_value (with_value es m a) m b ≡ with_value es m b
  with_value_twice [] m a b = rw (bytes_eq-refl m) refl
  with_value_twice (e ∷ es) m a b = by (bytes_eq m e.0) refl (with_value_twice es m a b)
    where
      by : (t : Bool) → bytes_eq m e.0 ≡ t → with_value (with_value es m a) m b ≡ with_value es m b
          → with_value (if t then (e.0, a) ∷ es else e ∷ with_value es m a) m b
          ≡ (if t then (e.0, b) ∷ es else e ∷ with_value es m b)
      by true h rest = ap (λ t. if t then (e.0, b) ∷ es else (e.0, a) ∷ with_value es m b) h
      by false h rest =
          ap (λ t. if t then (e.0, b) ∷ with_value es m a else e ∷ with_value (with_value es m a) m b) h
          ∙ ap (λ l. e ∷ l) rest

  -- a value that is put at a new name goes last
  absent_last : (es : List (List ℕ × V)) (m : List ℕ) (a : V) → value_of m es ≡ None
      → with_value es m a ≡ es ++ (m, a) ∷ []
  absent_last [] m a h = refl
  absent_last (e ∷ es) m a h = by (bytes_eq m e.0) (absent_last es m a) h
    where
      by : (t : Bool) → (value_of m es ≡ None → with_value es m a ≡ es ++ (m, a) ∷ [])
          → (if t then Some e.1 else value_of m es) ≡ None
          → (if t then (e.0, a) ∷ es else e ∷ with_value es m a) ≡ e ∷ es ++ (m, a) ∷ []
      by true rest k = absurd (none-some e.1 (sym k))
      by false rest k = ap (λ l. e ∷ l) (rest k)

-- a value for each of these names
abbrev tabled : {V : Type 0} → (List ℕ → V) → List (List ℕ) → List (List ℕ × V)
tabled f names = map (λ k. (k, f k)) names

module _ {V : Type 0} (f : List ℕ → V) (m : List ℕ) where
  -- another name has no value
  table_absent : (names : List (List ℕ)) → list_any (bytes_eq m) names ≡ false → value_of m (tabled f names) ≡ None
  table_absent [] h = refl
  table_absent (k ∷ ks) h =
      let both = or_false (bytes_eq m k) (list_any (bytes_eq m) ks) h in
      ap (λ t. if t then Some (f k) else value_of m (tabled f ks)) both.0 ∙ table_absent ks both.1

  -- one of them has its value
  table_present : (names : List (List ℕ)) → list_any (bytes_eq m) names ≡ true
      → value_of m (tabled f names) ≡ Some (f m)
  table_present [] h = absurd (true≢false (sym h))
  table_present (k ∷ ks) h = by (bytes_eq m k) refl h (table_present ks)
    where
      by : (t : Bool) → bytes_eq m k ≡ t → (t || list_any (bytes_eq m) ks) ≡ true
          → (list_any (bytes_eq m) ks ≡ true → value_of m (tabled f ks) ≡ Some (f m))
          → (if t then Some (f k) else value_of m (tabled f ks)) ≡ Some (f m)
      by true is h rest = ap (λ n. Some (f n)) (sym (name_is m k is))
      by false is h rest = rest h

  module _ (g : List ℕ → V) (other : (k : List ℕ) → bytes_eq m k ≡ false → g k ≡ f k) where
    -- values that differ at another name alone are the same here
    table_other : (names : List (List ℕ)) → list_any (bytes_eq m) names ≡ false → tabled g names ≡ tabled f names
    table_other [] h = refl
    table_other (k ∷ ks) h =
        let both = or_false (bytes_eq m k) (list_any (bytes_eq m) ks) h in
        let a = other k both.0 in
        let b = table_other ks both.1 in
        λ i. (k, a i) ∷ b i

    -- a value that is put at one of them changes that one
    table_put : (v : V) → g m ≡ v → (names : List (List ℕ)) → distinct_names names ≡ true
        → list_any (bytes_eq m) names ≡ true → with_value (tabled f names) m v ≡ tabled g names
    table_put v is [] distinct h = absurd (true≢false (sym h))
    table_put v is (k ∷ ks) distinct h =
        let apart = and_true (not (list_any (bytes_eq k) ks)) (distinct_names ks) distinct in
        by (bytes_eq m k) refl h (not_true _ (list_any (bytes_eq k) ks) refl apart.0) (table_put v is ks apart.1)
      where
        by : (t : Bool) → bytes_eq m k ≡ t → (t || list_any (bytes_eq m) ks) ≡ true
            → list_any (bytes_eq k) ks ≡ false
            → (list_any (bytes_eq m) ks ≡ true → with_value (tabled f ks) m v ≡ tabled g ks)
            → (if t then (k, v) ∷ tabled f ks else (k, f k) ∷ with_value (tabled f ks) m v) ≡ tabled g (k ∷ ks)
        by true same h none rest =
            let here = name_is m k same in
            let a : v ≡ g k = sym is ∙ ap g here in
            let b : tabled f ks ≡ tabled g ks =
            sym (table_other ks (ap (λ n. list_any (bytes_eq n) ks) here ∙ none)) in
            λ i. (k, a i) ∷ b i
        by false same h none rest =
            let a : f k ≡ g k = sym (other k same) in
            let b = rest h in
            λ i. (k, a i) ∷ b i

-- a name stands in a list with one more where it stood in the list or is that one
once_one : (m : List ℕ) (acc : List (List ℕ)) (y : List ℕ)
    → list_any (bytes_eq m) (with_once bytes_eq acc y) ≡ (list_any (bytes_eq m) acc || bytes_eq m y)
once_one m acc y = by (list_any (bytes_eq y) acc) refl
  where
    held : (t : Bool) → bytes_eq m y ≡ t → list_any (bytes_eq y) acc ≡ true
        → list_any (bytes_eq m) acc ≡ (list_any (bytes_eq m) acc || t)
    held false is there = sym (or_none (list_any (bytes_eq m) acc))
    held true is there =
        ap (λ n. list_any (bytes_eq n) acc) (name_is m y is) ∙ there
        ∙ sym (or_some (list_any (bytes_eq m) acc))

    by : (t : Bool) → list_any (bytes_eq y) acc ≡ t
        → list_any (bytes_eq m) (if t then acc else acc ++ y ∷ []) ≡ (list_any (bytes_eq m) acc || bytes_eq m y)
    by true there = held (bytes_eq m y) refl there
    by false there =
        list_any-append (bytes_eq m) acc (y ∷ []) ∙ ap (λ t. list_any (bytes_eq m) acc || t) (or_none (bytes_eq m y))

-- each name stands once where it stood
once_any : (m : List ℕ) (acc ys : List (List ℕ))
    → list_any (bytes_eq m) (fold (with_once bytes_eq) acc ys)
    ≡ (list_any (bytes_eq m) acc || list_any (bytes_eq m) ys)
once_any m acc [] = sym (or_none (list_any (bytes_eq m) acc))
once_any m acc (y ∷ ys) =
    once_any m (with_once bytes_eq acc y) ys
    ∙ ap (λ t. t || list_any (bytes_eq m) ys) (once_one m acc y)
    ∙ or_assoc (list_any (bytes_eq m) acc) (bytes_eq m y) (list_any (bytes_eq m) ys)

-- no name stands twice then
once_distinct : (acc ys : List (List ℕ)) → distinct_names acc ≡ true
    → distinct_names (fold (with_once bytes_eq) acc ys) ≡ true
once_distinct acc [] h = h
once_distinct acc (y ∷ ys) h = once_distinct (with_once bytes_eq acc y) ys (by (list_any (bytes_eq y) acc) refl)
  where
    by : (t : Bool) → list_any (bytes_eq y) acc ≡ t → distinct_names (if t then acc else acc ++ y ∷ []) ≡ true
    by true there = h
    by false there = are_distinct-push bytes_eq bytes_eq-sym acc y h there

module _ {A : Type 0} where
  -- the names of an argument
  abbrev pub names_in : List ℕ × List ℕ × A → List ℕ × List ℕ
  names_in x = (x.0, x.1)

  -- an argument under its name
  abbrev named : List ℕ × List ℕ × A → List ℕ × A
  named x = (x.1, x.2)

  -- what a module name is given, under the names
  abbrev given_named : List (List ℕ × List ℕ × A) → List ℕ → List (List ℕ × A)
  given_named xs m = map (λ x. (x.1, x.2)) (given_to xs m)

  -- the module names with one argument more
  names-push : (xs : List (List ℕ × List ℕ × A)) (x : List ℕ × List ℕ × A)
      → module_names (xs ++ x ∷ []) ≡ with_once bytes_eq (module_names xs) x.0
  names-push xs x =
      ap (fold (with_once bytes_eq) []) (map_push (λ (y : List ℕ × List ℕ × A). y.0) xs x)
      ∙ fold-append (with_once bytes_eq) [] (map (λ (y : List ℕ × List ℕ × A). y.0) xs) (x.0 ∷ [])

  -- a name is one of them where an argument has it
  names_any : (m : List ℕ) (xs : List (List ℕ × List ℕ × A))
      → list_any (bytes_eq m) (module_names xs)
      ≡ list_any (bytes_eq m) (map (λ (y : List ℕ × List ℕ × A). y.0) xs)
  names_any m xs = once_any m [] (map (λ (y : List ℕ × List ℕ × A). y.0) xs)

  -- another name is given nothing
  given_none : (m : List ℕ) (xs : List (List ℕ × List ℕ × A))
      → list_any (bytes_eq m) (map (λ (y : List ℕ × List ℕ × A). y.0) xs) ≡ false → given_to xs m ≡ []
  given_none m [] h = refl
  given_none m (x ∷ xs) h =
      let both = or_false (bytes_eq m x.0) (list_any (bytes_eq m) (map (λ (y : List ℕ × List ℕ × A). y.0) xs)) h in
      ap (λ t. cond t (x ∷ given_to xs m) (given_to xs m)) both.0 ∙ given_none m xs both.1

  -- one argument more is given to its module name alone
  given-push : (m : List ℕ) (xs : List (List ℕ × List ℕ × A)) (x : List ℕ × List ℕ × A) (t : Bool)
      → bytes_eq m x.0 ≡ t
      → given_named (xs ++ x ∷ []) m ≡ (if t then given_named xs m ++ (x.1, x.2) ∷ [] else given_named xs m)
  given-push m xs x t is =
      ap (map named) (filter-append (is_given_to m) xs (x ∷ []))
      ∙ map-append named (given_to xs m) (given_to (x ∷ []) m)
      ∙ ap (λ b. given_named xs m ++ map named (cond b (x ∷ []) [])) is ∙ by t
    where
      nil : (ys : List (List ℕ × A)) → ys ++ [] ≡ ys
      nil [] = refl
      nil (y ∷ ys) = ap (λ l. y ∷ l) (nil ys)

      by : (b : Bool) → given_named xs m ++ map named (cond b (x ∷ []) [])
          ≡ (if b then given_named xs m ++ (x.1, x.2) ∷ [] else given_named xs m)
      by true = refl
      by false = nil (given_named xs m)

  -- a name that no argument of the module name has isn't given to it
  given_absent : (m n : List ℕ) (xs : List (List ℕ × List ℕ × A))
      → list_any (same_pair (m, n)) (map names_in xs) ≡ false → value_of n (given_named xs m) ≡ None
  given_absent m n [] h = refl
  given_absent m n (x ∷ xs) h =
      let both = or_false (same_pair (m, n) (x.0, x.1)) (list_any (same_pair (m, n)) (map names_in xs)) h in
      by (bytes_eq m x.0) both.0 (given_absent m n xs both.1)
    where
      by : (t : Bool) → (t && bytes_eq n x.1) ≡ false → value_of n (given_named xs m) ≡ None
          → value_of n (map named (cond t (x ∷ given_to xs m) (given_to xs m))) ≡ None
      by true apart rest = ap (λ b. if b then Some x.2 else value_of n (given_named xs m)) apart ∙ rest
      by false apart rest = rest

  module _ (xs : List (List ℕ × List ℕ × A)) (x : List ℕ × List ℕ × A)
      (apart : list_any (same_pair (x.0, x.1)) (map names_in xs) ≡ false) where
    -- what its module name was given
    held_so_far : unwrap_or (value_of x.0 (by_module xs)) [] ≡ given_named xs x.0
    held_so_far = by (list_any (bytes_eq x.0) (module_names xs)) refl
      where
        by : (t : Bool) → list_any (bytes_eq x.0) (module_names xs) ≡ t
            → unwrap_or (value_of x.0 (by_module xs)) [] ≡ given_named xs x.0
        by true there =
            ap (λ (o : Option (List (List ℕ × A))). unwrap_or o [])
            (table_present (given_named xs) x.0 (module_names xs) there)
        by false there =
            ap (λ (o : Option (List (List ℕ × A))). unwrap_or o [])
            (table_absent (given_named xs) x.0 (module_names xs) there)
            ∙ sym (ap (map named) (given_none x.0 xs (sym (names_any x.0 xs) ∙ there)))

    -- what it is given then
    held_then : with_first (unwrap_or (value_of x.0 (by_module xs)) []) (x.1, x.2)
        ≡ given_named (xs ++ x ∷ []) x.0
    held_then =
        ap (λ l. with_first l (x.1, x.2)) held_so_far
        ∙ ap (λ (o : Option A). if is_some o then given_named xs x.0 else given_named xs x.0 ++ (x.1, x.2) ∷ [])
        (given_absent x.0 x.1 xs apart)
        ∙ sym (given-push x.0 xs x true (bytes_eq-refl x.0))

    -- other module names are given what they were given
    others_same : (k : List ℕ) → bytes_eq x.0 k ≡ false → given_named (xs ++ x ∷ []) k ≡ given_named xs k
    others_same k other = given-push k xs x false (apart_too x.0 k other)

    -- the arguments by module name with one more
    pub by_module-push : with_argument (by_module xs) x.0 x.1 x.2 ≡ by_module (xs ++ x ∷ [])
    by_module-push =
        ap (with_value (by_module xs) x.0) held_then
        ∙ by (list_any (bytes_eq x.0) (module_names xs)) refl
        ∙ ap (tabled (given_named (xs ++ x ∷ []))) (sym (names-push xs x))
      where
        by : (t : Bool) → list_any (bytes_eq x.0) (module_names xs) ≡ t
            → with_value (by_module xs) x.0 (given_named (xs ++ x ∷ []) x.0)
            ≡ tabled (given_named (xs ++ x ∷ [])) (if t then module_names xs else module_names xs ++ x.0 ∷ [])
        by true there =
            table_put (given_named xs) x.0 (given_named (xs ++ x ∷ [])) others_same
            (given_named (xs ++ x ∷ []) x.0) refl (module_names xs)
            (once_distinct [] (map (λ (y : List ℕ × List ℕ × A). y.0) xs) refl) there
        by false there =
            absent_last (by_module xs) x.0 (given_named (xs ++ x ∷ []) x.0)
            (table_absent (given_named xs) x.0 (module_names xs) there)
            ∙ ap (λ l. l ++ (x.0, given_named (xs ++ x ∷ []) x.0) ∷ [])
            (sym (table_other (given_named xs) x.0 (given_named (xs ++ x ∷ [])) others_same (module_names xs) there))
            ∙ sym (map_push (λ k. (k, given_named (xs ++ x ∷ []) k)) (module_names xs) x.0)

-- an argument as those of a module of the host are listed
abbrev pub as_listed : List ℕ × List ℕ × CoreDef → Argument
as_listed x = (x.0, (x.1, x.2))

-- what a module name is given, listed
listed_given : (m : List ℕ) (xs : List (List ℕ × List ℕ × CoreDef))
    → ◌≡◌ {A = List Argument} (map (λ (a : List ℕ × CoreDef). (m, a)) (given_named xs m))
    (map as_listed (given_to xs m))
listed_given m [] = refl
listed_given m (x ∷ xs) = by (bytes_eq m x.0) refl (listed_given m xs)
  where
    by : (t : Bool) → bytes_eq m x.0 ≡ t
        → ◌≡◌ {A = List Argument} (map (λ (a : List ℕ × CoreDef). (m, a)) (given_named xs m))
        (map as_listed (given_to xs m))
        → ◌≡◌ {A = List Argument} (map (λ (a : List ℕ × CoreDef). (m, a))
        (map named (cond t (x ∷ given_to xs m) (given_to xs m))))
        (map as_listed (cond t (x ∷ given_to xs m) (given_to xs m)))
    by true is rest = let a = name_is m x.0 is in λ i. (a i, (x.1, x.2)) ∷ rest i
    by false is rest = rest

-- what all of these are given, listed
listed_names : (xs : List (List ℕ × List ℕ × CoreDef)) (names : List (List ℕ))
    → host_arguments (tabled (given_named xs) names) ≡ map as_listed (flat_map (given_to xs) names)
listed_names xs [] = refl
listed_names xs (k ∷ ks) =
    (λ i. listed_given k xs i ++ listed_names xs ks i)
    ∙ sym (map-append as_listed (given_to xs k) (flat_map (given_to xs) ks))

-- the arguments by module name, listed, are those of one module name together
pub by_module_listed : (xs : List (List ℕ × List ℕ × CoreDef))
    → host_arguments (by_module xs) ≡ map as_listed (grouped_by xs)
by_module_listed xs = listed_names xs (module_names xs)

-- lists that stand so, one behind another
zip_append : {A B : Type 0} (R : A → B → Type 0) (xs us : List A) (ys vs : List B) → AllZip R xs ys → AllZip R us vs
    → AllZip R (xs ++ us) (ys ++ vs)
zip_append R [] us [] vs h k = k
zip_append R [] us (y ∷ ys) vs h k = absurd h
zip_append R (x ∷ xs) us [] vs h k = absurd h
zip_append R (x ∷ xs) us (y ∷ ys) vs h k = (h.0, zip_append R xs us ys vs h.1 k)

module _ {A B : Type 0} (P : List ℕ × List ℕ × A → List ℕ × List ℕ × B → Type 0)
    (same : (x : List ℕ × List ℕ × A) (y : List ℕ × List ℕ × B) → P x y → x.0 ≡ y.0) where
  -- arguments that stand so have the same module names
  names_same : (xs : List (List ℕ × List ℕ × A)) (ys : List (List ℕ × List ℕ × B)) → AllZip P xs ys
      → map (λ (x : List ℕ × List ℕ × A). x.0) xs ≡ map (λ (y : List ℕ × List ℕ × B). y.0) ys
  names_same [] [] h = refl
  names_same [] (y ∷ ys) h = absurd h
  names_same (x ∷ xs) [] h = absurd h
  names_same (x ∷ xs) (y ∷ ys) h =
      let a = same x y h.0 in
      let b = names_same xs ys h.1 in
      λ i. a i ∷ b i

  -- those of a module name stand so
  given_zip : (m : List ℕ) (xs : List (List ℕ × List ℕ × A)) (ys : List (List ℕ × List ℕ × B)) → AllZip P xs ys
      → AllZip P (given_to xs m) (given_to ys m)
  given_zip m [] [] h = tt
  given_zip m [] (y ∷ ys) h = absurd h
  given_zip m (x ∷ xs) [] h = absurd h
  given_zip m (x ∷ xs) (y ∷ ys) h =
      by (bytes_eq m x.0) (bytes_eq m y.0) (ap (bytes_eq m) (same x y h.0)) (given_zip m xs ys h.1)
    where
      by : (s t : Bool) → s ≡ t → AllZip P (given_to xs m) (given_to ys m)
          → AllZip P (cond s (x ∷ given_to xs m) (given_to xs m)) (cond t (y ∷ given_to ys m) (given_to ys m))
      by true true is rest = (h.0, rest)
      by false false is rest = rest
      by true false is rest = absurd (true≢false is)
      by false true is rest = absurd (true≢false (sym is))

  -- and those of several
  several_zip : (xs : List (List ℕ × List ℕ × A)) (ys : List (List ℕ × List ℕ × B)) → AllZip P xs ys
      → (names : List (List ℕ)) → AllZip P (flat_map (given_to xs) names) (flat_map (given_to ys) names)
  several_zip xs ys h [] = tt
  several_zip xs ys h (k ∷ ks) =
      zip_append P (given_to xs k) (flat_map (given_to xs) ks) (given_to ys k) (flat_map (given_to ys) ks)
      (given_zip k xs ys h) (several_zip xs ys h ks)

  -- arguments that stand so do with those of one module name together
  pub grouped_zip : (xs : List (List ℕ × List ℕ × A)) (ys : List (List ℕ × List ℕ × B)) → AllZip P xs ys
      → AllZip P (grouped_by xs) (grouped_by ys)
  grouped_zip xs ys h =
      subst (λ names. AllZip P (grouped_by xs) (flat_map (given_to ys) (each_once bytes_eq names)))
      (names_same xs ys h) (several_zip xs ys h (module_names xs))

module _ {A B : Type 0} (f : List ℕ × List ℕ × A → Option B) where
  -- each of these has an answer
  abbrev Answers : List (List ℕ × List ℕ × A) → Type 0
  Answers [] = Unit {0}
  Answers (x ∷ xs) = ((y : B) × (f x ≡ Some y)) × Answers xs

  -- where all have, each has
  answered : (xs : List (List ℕ × List ℕ × A)) (ys : List B) → map_all f xs ≡ Some ys → Answers xs
  answered [] ys h = tt
  answered (x ∷ xs) ys h = let p = map_all_uncons f x xs ys h in ((p.0, p.2), answered xs p.1 p.3)

  -- and where each has, all have
  all_answered : (xs : List (List ℕ × List ℕ × A)) → Answers xs → (ys : List B) × (map_all f xs ≡ Some ys)
  all_answered [] h = ([], refl)
  all_answered (x ∷ xs) h =
      let rest = all_answered xs h.1 in
      (h.0.0 ∷ rest.0, map_all_cons f x xs h.0.0 rest.0 h.0.1 rest.1)

  -- those in front have answers where all have
  answers_front : (xs ys : List (List ℕ × List ℕ × A)) → Answers (xs ++ ys) → Answers xs
  answers_front [] ys h = tt
  answers_front (x ∷ xs) ys h = (h.0, answers_front xs ys h.1)

  -- and so have those behind
  answers_back : (xs ys : List (List ℕ × List ℕ × A)) → Answers (xs ++ ys) → Answers ys
  answers_back [] ys h = h
  answers_back (x ∷ xs) ys h = answers_back xs ys h.1

  -- where those of several module names have answers, those of each have
  answers_of : (xs : List (List ℕ × List ℕ × A)) (names : List (List ℕ)) → Answers (flat_map (given_to xs) names)
      → (m : List ℕ) → list_any (bytes_eq m) names ≡ true → Answers (given_to xs m)
  answers_of xs [] h m there = absurd (true≢false (sym there))
  answers_of xs (k ∷ ks) h m there =
      by (bytes_eq m k) refl there (answers_front (given_to xs k) (flat_map (given_to xs) ks) h)
      (answers_of xs ks (answers_back (given_to xs k) (flat_map (given_to xs) ks) h) m)
    where
      by : (t : Bool) → bytes_eq m k ≡ t → (t || list_any (bytes_eq m) ks) ≡ true → Answers (given_to xs k)
          → (list_any (bytes_eq m) ks ≡ true → Answers (given_to xs m)) → Answers (given_to xs m)
      by true is there here rest = subst (λ n. Answers (given_to xs n)) (sym (name_is m k is)) here
      by false is there here rest = rest there

  -- where those of each module name have answers, each has
  answers_each : (xs : List (List ℕ × List ℕ × A))
      → ((m : List ℕ) → list_any (bytes_eq m) (map (λ (y : List ℕ × List ℕ × A). y.0) xs) ≡ true
      → Answers (given_to xs m)) → Answers xs
  answers_each [] h = tt
  answers_each (x ∷ xs) h = (
    here (bytes_eq x.0 x.0) (bytes_eq-refl x.0)
        (h x.0 (ap (λ t. t || list_any (bytes_eq x.0) (map (λ (y : List ℕ × List ℕ × A). y.0) xs))
        (bytes_eq-refl x.0))),
    answers_each xs (λ m there. later m (bytes_eq m x.0) (h m (ap (λ t. bytes_eq m x.0 || t) there
        ∙ or_some (bytes_eq m x.0)))),
  )
    where
      here : (t : Bool) → t ≡ true → Answers (cond t (x ∷ given_to xs x.0) (given_to xs x.0))
          → (y : B) × (f x ≡ Some y)
      here true is all = all.0
      here false is all = absurd (true≢false (sym is))

      later : (m : List ℕ) (t : Bool) → Answers (cond t (x ∷ given_to xs m) (given_to xs m)) → Answers (given_to xs m)
      later m true all = all.1
      later m false all = all

  -- where those of one module name together have answers, all have
  pub ungrouped : (xs : List (List ℕ × List ℕ × A)) (ys : List B) → map_all f (grouped_by xs) ≡ Some ys
      → (zs : List B) × (map_all f xs ≡ Some zs)
  ungrouped xs ys h =
      all_answered xs (answers_each xs (λ m there.
      answers_of xs (module_names xs) (answered (grouped_by xs) ys h) m (names_any m xs ∙ there)))

-- an item of a list of which none is like another is like none in front of it
apart_before : {A : Type 0} (same : A → A → Bool) → ((a b : A) → same a b ≡ same b a) → (xs : List A)
    → are_distinct same xs ≡ true → (i : ℕ) (x : A) → slice_get xs i ≡ Some x → list_any (same x) (take i xs) ≡ false
apart_before {A} same mirrored [] distinct i x at = absurd (none-some x at)
apart_before {A} same mirrored (y ∷ xs) distinct zero x at = refl
apart_before {A} same mirrored (y ∷ xs) distinct (suc i) x at =
    let both = and_true (not (list_any (same y) xs)) (are_distinct same xs) distinct in
    let none = not_true _ (list_any (same y) xs) refl both.0 in
    ap (λ t. t || list_any (same x) (take i xs)) (mirrored x y ∙ other xs i at none)
    ∙ apart_before same mirrored xs both.1 i x at
  where
    other : (zs : List A) (j : ℕ) → slice_get zs j ≡ Some x → list_any (same y) zs ≡ false → same y x ≡ false
    other [] j found none = absurd (none-some x found)
    other (z ∷ zs) zero found none =
        ap (same y) (sym (same_Some z x found)) ∙ (or_false (same y z) (list_any (same y) zs) none).0
    other (z ∷ zs) (suc j) found none = other zs j found (or_false (same y z) (list_any (same y) zs) none).1

-- what is made of the first items are the first of what is made of all
map_take : {A B : Type 0} (f : A → B) (xs : List A) (i : ℕ) → map f (take i xs) ≡ take i (map f xs)
map_take f xs zero = refl
map_take f [] (suc i) = refl
map_take f (x ∷ xs) (suc i) = ap (λ l. f x ∷ l) (map_take f xs i)

-- an import with its definition, at a place
paired_at : (is : List (List ℕ × List ℕ × CoreEntity)) (ds : List CoreDef) (n : ℕ) (x : List ℕ × List ℕ × CoreEntity)
    (d : CoreDef) → slice_get is n ≡ Some x → slice_get ds n ≡ Some d → slice_get (paired is ds) n ≡ Some (x.0, x.1, d)
paired_at [] ds n x d p q = absurd (none-some x p)
paired_at (i ∷ is) [] n x d p q = absurd (none-some d q)
paired_at (i ∷ is) (e ∷ ds) zero x d p q =
    let a = same_Some i x p in
    let b = same_Some e d q in
    λ j. Some ((a j).0, (a j).1, b j)
paired_at (i ∷ is) (e ∷ ds) (suc n) x d p q = paired_at is ds n x d p q

-- imports with their definitions have the names of the imports
paired_names : (is : List (List ℕ × List ℕ × CoreEntity)) (ds : List CoreDef) → length ds ≡ length is
    → map names_in (paired is ds) ≡ map pair_of is
paired_names [] ds h = refl
paired_names (i ∷ is) [] h = absurd (omega (arith, h))
paired_names (i ∷ is) (d ∷ ds) h = ap (λ l. (i.0, i.1) ∷ l) (paired_names is ds (omega (arith, h)))

-- and are as many
paired_length : (is : List (List ℕ × List ℕ × CoreEntity)) (ds : List CoreDef) → length ds ≡ length is
    → length (paired is ds) ≡ length is
paired_length [] ds h = refl
paired_length (i ∷ is) [] h = absurd (omega (arith, h))
paired_length (i ∷ is) (d ∷ ds) h = ap suc (paired_length is ds (omega (arith, h)))

module _ (is : List (List ℕ × List ℕ × CoreEntity)) (ds : List CoreDef) (each : length ds ≡ length is) where
  -- the first arguments by module name with the next one
  pub argument_next : are_distinct same_pair (map pair_of is) ≡ true → (n : ℕ) (x : List ℕ × List ℕ × CoreEntity)
      (d : CoreDef) → slice_get is n ≡ Some x → slice_get ds n ≡ Some d
      → with_argument (by_module (take n (paired is ds))) x.0 x.1 d ≡ by_module (take (n + 1) (paired is ds))
  argument_next apart n x d p q =
      let at = paired_at is ds n x d p q in
      let within = slice_get_within (paired is ds) n (x.0, x.1, d) at in
      let longer = done_here (paired is ds) n (x.0, x.1, d) within
      (same_Some (x.0, x.1, d) (get_or (paired is ds) n (x.0, x.1, d))
      (sym at ∙ slice_get-get_or (paired is ds) n (x.0, x.1, d) within)) in
      let new : list_any (same_pair (x.0, x.1)) (map names_in (take n (paired is ds))) ≡ false =
      ap (list_any (same_pair (x.0, x.1))) (map_take names_in (paired is ds) n ∙ ap (take n) (paired_names is ds each))
      ∙ apart_before same_pair same_pair-sym (map pair_of is) apart n (x.0, x.1) (pair_at is n p) in
      by_module-push (take n (paired is ds)) (x.0, x.1, d) new ∙ ap by_module (sym longer)
    where
      pair_at : (js : List (List ℕ × List ℕ × CoreEntity)) (j : ℕ) → slice_get js j ≡ Some x
          → slice_get (map pair_of js) j ≡ Some (x.0, x.1)
      pair_at [] j found = absurd (none-some x found)
      pair_at (y ∷ js) zero found = ap (λ z. Some (pair_of z)) (same_Some y x found)
      pair_at (y ∷ js) (suc j) found = pair_at js j found

  -- past the last of them are all
  pub arguments_all : (n : ℕ) → length is ≤ n → by_module (take n (paired is ds)) ≡ by_module (paired is ds)
  arguments_all n past =
      let long = paired_length is ds each in
      ap by_module (take_all n (paired is ds) (omega (arith, past, long)))
