-- How a held graph grows, node by node.
use Rattle.std.proofs.Common.{◌≡◌, ◌≢◌, ℕ, zero, suc, ◌+◌, ◌-◌, ◌<◌, ◌≤◌, ◌==◌, Bool, true, false, max, List, [], ◌∷◌}
use Rattle.std.proofs.Common.{◌++◌, length, replicate, map, refl, sym, ◌∙◌, ap, subst, append_assoc, Ok, Err, Some}
use Rattle.std.proofs.Common.{take, drop, get_or, inl, inr, zero-add, arith}
use Rattle.std.specs.List.{All, range_with_len}
use Rattle.std.specs.Bool.{if◌then◌else◌}
use Rattle.std.specs.declared.vec.Vec.{Vec}
use Rattle.std.specs.declared.alloc.Global.{Global}
use Rattle.std.proofs.Common.{Result}
use Rattle.std.proofs.lemmas.List.{append-nil, length_push, length-append, length-map, map-append, length-replicate}
use Rattle.std.proofs.lemmas.List.{length-set, length-take, drop_more, get_or-take, take_more, take-append-drop}
use Rattle.std.proofs.lemmas.Option.{slice_get-get_or}
use Rattle.pc_entity.specs.Lists.{AreDistinct}
use Rattle.std.proofs.lemmas.List.Elements.{All-head, All-map, All-tail}
use Rattle.std.proofs.lemmas.Bool.{eqb-true}
use Rattle.std.proofs.lemmas.Bool.Decides.{eqb_tells}
use denote.Ref.{MutBor}
use denote.Param.Members.{Mut}
use Rattle.pc_entity.specs.SecondaryMap.{filled, with_value_at}
use Rattle.pc_entity.proofs.Defaults.{value_at-set_same, value_at-set_other}
use Rattle.pc_graph.specs.Listed.{Collects, Gives, Refuses, count_to, found_for, held, row_at}

-- one number more behind others
pub numbers_more : {X : Type 0} (f : ℕ → X) (a k : ℕ)
    → map f (range_with_len a (suc k)) ≡ map f (range_with_len a k) ++ f (a + k) ∷ []
numbers_more f a zero = let e : a ≡ a + 0 = omega arith in ap (λ n. f n ∷ []) e
numbers_more f a (suc k) =
    let e : a + 1 + k ≡ a + suc k = omega arith in
    ap (λ xs. f a ∷ xs) (numbers_more f (a + 1) k) ∙ ap (λ n. f a ∷ (map f (range_with_len (a + 1) k) ++ f n ∷ [])) e

-- how far the numbers go once one is behind them
pub count_to-more : (ns : List ℕ) (n : ℕ) → count_to (ns ++ n ∷ []) ≡ max (count_to ns) (n + 1)
count_to-more [] n = omega arith
count_to-more (m ∷ ns) n = let e = count_to-more ns n in omega arith

-- one number more, appended to others
pub appended_more : {X : Type 0} (f : ℕ → X) (old items : List X) (k : ℕ) (x : X)
    → items ≡ old ++ map f (range_with_len 0 k) → x ≡ f k
    → items ++ x ∷ [] ≡ old ++ map f (range_with_len 0 (k + 1))
appended_more f old items k x so_far is =
    let one : k + 1 ≡ suc k = omega arith in
    ap (λ xs. xs ++ x ∷ []) so_far ∙ append_assoc old (map f (range_with_len 0 k)) (x ∷ [])
    ∙ ap (λ y. old ++ (map f (range_with_len 0 k) ++ y ∷ [])) (is ∙ ap f (sym (zero-add k)))
    ∙ ap (λ xs. old ++ xs) (sym (numbers_more f 0 k)) ∙ ap (λ n. old ++ map f (range_with_len 0 n)) (sym one)

module _ {Node : Type 0} where
  -- nothing stands past the end
  pub row_at-past : (rows : List (List Node)) (k : ℕ) → length rows ≤ k → row_at rows k ≡ []
  row_at-past [] k past = refl
  row_at-past (row ∷ rows) zero past = absurd (omega arith)
  row_at-past (row ∷ rows) (suc k) past = row_at-past rows k (omega arith)

  -- nothing is filled up where the place is held
  pub filled_full : (rows : List (List Node)) (n : ℕ) → n ≤ length rows → filled (held rows) n ≡ rows
  filled_full rows n within =
      let none : n - length rows ≡ 0 = omega arith in
      ap (λ k. rows ++ replicate k []) none ∙ append-nil rows

  -- how many numbers are held once a list was put at one of them
  pub length-put : (rows : List (List Node)) (key : ℕ) (row : List Node)
      → length (with_value_at (held rows) key row).items ≡ max (length rows) (key + 1)
  length-put rows key row =
      let more = key + 1 - length rows in
      omega (
        arith,
        length-set (filled (held rows) (key + 1)) key row,
        length-append rows
            (replicate more []),
        length-replicate {A = List Node} more [],
      )

  -- one empty list more does not change what is filled up
  pub filled_more : (rows : List (List Node)) (key : ℕ) → length rows < key + 1
      → filled (held (rows ++ [] ∷ [])) (key + 1) ≡ filled (held rows) (key + 1)
  filled_more rows key below =
      let one = length_push rows [] in
      let less : key + 1 - length rows ≡ suc (key + 1 - length (rows ++ [] ∷ [])) = omega arith in
      append_assoc rows ([] ∷ []) (replicate (key + 1 - length (rows ++ [] ∷ [])) [])
      ∙ ap (λ n. rows ++ replicate n []) (sym less)

  -- what every number has once a list was put at one of them
  pub row_at-put : (rows : List (List Node)) (key k : ℕ) (row : List Node)
      → row_at (with_value_at (held rows) key row).items k ≡ (if key == k then row else row_at rows k)
  row_at-put rows key k row = elim (eqb_tells key k) [
    | inl same ↦ ap (λ n. row_at (with_value_at (held rows) key row).items n) (sym same.1)
        ∙ value_at-set_same (held rows) key row
        ∙ ap (λ b. if b then row else row_at rows k) (sym same.0)
    | inr apart ↦ value_at-set_other (held rows) key k row (λ e. apart.1 (sym e))
        ∙ ap (λ b. if b then row else row_at rows k) (sym apart.0)
  ]

  -- a choice by a test that is decided
  choose : (first second : Bool) (x y z : List Node) → (first ≡ true → second ≡ true → ⊥)
      → (if first then x else (if second then y else z)) ≡ (if second then y else (if first then x else z))
  choose true true x y z apart = absurd (apart refl refl)
  choose true false x y z apart = refl
  choose false true x y z apart = refl
  choose false false x y z apart = refl

  -- what was found once one is behind them
  pub found_for-more : (ns : List ℕ) (rows : List (List Node)) (n k : ℕ) (row : List Node)
      → length ns ≡ length rows → All (λ m. m ≢ n) ns
      → found_for (ns ++ n ∷ []) (rows ++ row ∷ []) k ≡ (if n == k then row else found_for ns rows k)
  found_for-more [] [] n k row same apart = refl
  found_for-more [] (r ∷ rows) n k row same apart = absurd (omega arith)
  found_for-more (m ∷ ns) [] n k row same apart = absurd (omega arith)
  found_for-more (m ∷ ns) (r ∷ rows) n k row same apart =
      let ih = found_for-more ns rows n k row (omega arith) (All-tail (λ m. m ≢ n) m ns apart) in
      ap (λ xs. if m == k then r else xs) ih
      ∙ choose (m == k) (n == k) r row (found_for ns rows k)
      (λ p q. All-head (λ m. m ≢ n) m ns apart (eqb-true m k p ∙ sym (eqb-true n k q)))

module _ {F Node E : Type 0}
    (calls : Mut F (Node × (MutBor (Vec Node Global) × Unit {0}))
    (Result (Unit {0}) E × (MutBor (Vec Node Global) × Unit {0}))) where
  -- one list for each node
  pub collects-length : (f : F) (ns : List Node) (rows : List (List Node)) (f' : F) → Collects calls f ns rows f'
      → length ns ≡ length rows
  collects-length f [] rows f' h = ap length (sym h.0)
  collects-length f (n ∷ ns) [] f' h = absurd h
  collects-length f (n ∷ ns) (row ∷ rows) f' (mid, gives, more) = ap suc (collects-length mid ns rows f' more)

  -- one call more
  pub collects-more : (f : F) (ns : List Node) (rows : List (List Node)) (mid : F) (n : Node) (row : List Node)
      (last : F)
      → Collects calls f ns rows mid → Gives calls mid n (Ok tt) row last
      → Collects calls f (ns ++ n ∷ []) (rows ++ row ∷ []) last
  collects-more f [] rows mid n row last h gives =
      let P : List (List Node) → Type 0 = λ rs. Collects calls f (n ∷ []) (rs ++ row ∷ []) last in
      let Q : F → Type 0 = λ s. Gives calls s n (Ok tt) row last in
      subst P (sym h.0) (last, subst Q h.1 gives, (refl, refl))
  collects-more f (m ∷ ns) [] mid n row last h gives = absurd h
  collects-more f (m ∷ ns) (r ∷ rows) mid n row last (next, first, more) gives =
      (next, first, collects-more next ns rows mid n row last more gives)

  module _ (number : Node → ℕ) where
    -- what is held once the closure was called on some of the nodes
    abbrev pub Collected : F → List Node → List (List Node) → F → Type 0
    Collected f nodes rows f' = (found : List (List Node)) × Collects calls f nodes found f'
        × (length rows ≡ count_to (map number nodes)) × ((k : ℕ) → row_at rows k ≡ found_for (map number nodes) found k)

  module _ (number : Node → ℕ) (injective : (a b : Node) → number a ≡ number b → a ≡ b) where
    -- among distinct nodes those before a place have other numbers
    earlier_differ : (nodes : List Node) (i : ℕ) (n : Node) → AreDistinct nodes → i < length nodes
        → n ≡ get_or nodes i n
        → All (λ m. m ≢ number n) (map number (take i nodes))
    earlier_differ nodes i n distinct within is =
        All-map (λ m. m ≢ number n) number (take i nodes) (λ k d below e.
        let k_below : k < i = omega (arith, length-take i nodes) in
        let same = sym (get_or-take i nodes k d k_below) ∙ injective (get_or (take i nodes) k d) n e in
        let at_k = slice_get-get_or nodes k d (omega arith) ∙ ap Some same in
        let at_i = slice_get-get_or nodes i n within ∙ ap Some (sym is) in
        let equal : k ≡ i = distinct k i n at_k at_i in
        absurd (omega arith))

    -- one node more
    pub collected-more : (f : F) (nodes : List Node) (i : ℕ) (n : Node) (rows later : List (List Node)) (mid last : F)
        (row : List Node)
        → AreDistinct nodes → i < length nodes → n ≡ get_or nodes i n
        → later ≡ (with_value_at (held rows) (number n) row).items
        → Gives calls mid n (Ok tt) row last
        → Collected number f (take i nodes) rows mid → Collected number f (take (i + 1) nodes) later last
    collected-more f nodes i n rows later mid last row distinct within is put gives (found, collects, counted, same) =
        let P : List Node → Type 0 = λ ns. Collected number f ns later last in
        let ns = take i nodes in
        let numbers : map number (ns ++ n ∷ []) ≡ map number ns ++ number n ∷ [] = map-append number ns (n ∷ []) in
        let Q : List ℕ → Type 0 = λ ms. length later ≡ count_to ms in
        let R : List ℕ → Type 0 = λ ms. (k : ℕ) → row_at later k ≡ found_for ms (found ++ row ∷ []) k in
        let lengths : length (map number ns) ≡ length found = length-map ns number
        ∙ collects-length f ns found mid collects in
        let counts : length later ≡ count_to (map number ns ++ number n ∷ []) =
        ap length put ∙ length-put rows (number n) row ∙ ap (λ m. max m (number n + 1)) counted
        ∙ sym (count_to-more (map number ns) (number n)) in
        let finds : (k : ℕ) → row_at later k ≡ found_for (map number ns ++ number n ∷ []) (found ++ row ∷ []) k =
        λ k. ap (λ items. row_at items k) put ∙ row_at-put rows (number n) k row
        ∙ ap (λ xs. if number n == k then row else xs) (same k)
        ∙ sym (found_for-more (map number ns) found (number n) k row lengths
        (earlier_differ nodes i n distinct within is)) in
        subst P (sym (take_more nodes i n within ∙ ap (λ x. ns ++ x ∷ []) (sym is))) (
          found ++ row ∷ [],
          collects-more f ns found mid n row last collects gives,
          subst Q
              (sym numbers) counts,
          subst R (sym numbers) finds,
        )

  -- the call at the next node refuses
  pub refused-at : (f : F) (nodes : List Node) (i : ℕ) (n : Node) (found : List (List Node)) (mid last : F)
      (row : List Node) (e : E)
      → i < length nodes → n ≡ get_or nodes i n → Collects calls f (take i nodes) found mid
      → Gives calls mid n (Err e) row last
      → Refuses calls f nodes e
  refused-at f nodes i n found mid last row e within is collects gives = (
    take i nodes,
    drop (i + 1) nodes,
    n,
    found,
    row,
    mid,
    last,
    sym (take-append-drop i nodes) ∙ ap (λ ns. take i nodes ++ ns)
        (drop_more nodes i n within ∙ ap (λ x. x ∷ drop (i + 1) nodes) (sym is)),
    collects,
    gives,
  )
