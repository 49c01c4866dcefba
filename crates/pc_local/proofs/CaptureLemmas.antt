-- One level further in on the way of an alias.
use Rattle.std.proofs.Common.{◌≡◌, ◌⊎◌, ◌≢◌, ℕ, suc, ◌<◌, ◌+◌, List, [], ◌∷◌, ◌++◌, length, Some, refl, sym, ap, ◌∙◌}
use Rattle.std.proofs.Common.{subst, inl, inr, arith, add-one, get_or, ◌-◌}
use Rattle.std.specs.Prelude.{slice_get, slice_set}
use Rattle.std.proofs.lemmas.List.{length-append, length-set}
use Rattle.std.proofs.lemmas.Option.{slice_get_read}
use Rattle.std.proofs.lemmas.Slice.Zip.{all_zipped_more}
use Rattle.pc_entity.specs.Lists.{Kept}
use Rattle.pc_entity.proofs.Growing.{slice_get-append}
use Rattle.pc_spec_reading.specs.Item.{Item, Lent}
use Rattle.pc_local.specs.declared.captured.Captured.{Captured}
use Rattle.pc_local.specs.declared.captured.Variable.{Variable}
use Rattle.pc_local.specs.declared.captured.Variable.TheVariants as variable
use Rattle.pc_local.specs.Captured.{Captures, Grows, Linked, UsedBut, at_or, items_at, names_at, nothing, so_far}
use Rattle.pc_local.specs.Captured.{variables_at}
use Rattle.pc_local.specs.Standing.{Gives, Has, Leaves, Reads, name_of}
use Rattle.pc_local.proofs.PlaceLemmas.{at_found, at_set_same, at_set_other, found_in_push, same_or_not}

-- a variable reads the same where the names have grown
pub reads_more : (names more : List (ℕ × ℕ)) (v : Variable) (c n : ℕ) → Kept names more → Reads names v c n
    → Reads more v c n
reads_more names more (variable.Local i) c n kept r = r
reads_more names more (variable.Upvar i) c n kept r = (r.0, r.1, kept i (r.0, n) r.2)

-- and so do all that a body is given
pub gives_more : (names more : List (ℕ × ℕ)) (vs : List Variable) (inner : List (ℕ × ℕ)) → Kept names more
    → Gives names vs inner → Gives more vs inner
gives_more names more [] [] kept g = g
gives_more names more [] (o ∷ os) kept g = absurd g
gives_more names more (v ∷ vs) [] kept g = absurd g
gives_more names more (v ∷ vs) (o ∷ os) kept g =
    (reads_more names more v o.0 o.1 kept g.0, gives_more names more vs os kept g.1)

-- the same lists give the same
pub gives_same : (names names' : List (ℕ × ℕ)) (vs vs' : List Variable) (inner inner' : List (ℕ × ℕ))
    → names ≡ names' → vs ≡ vs' → inner ≡ inner' → Gives names vs inner → Gives names' vs' inner'
gives_same names names' vs vs' inner inner' same_names same_vs same_inner g =
    subst (λ (x : List (ℕ × ℕ)). Gives names' vs' x) same_inner
    (subst (λ (x : List Variable). Gives names' x inner) same_vs
    (subst (λ (x : List (ℕ × ℕ)). Gives x vs inner) same_names g))

-- names that are the same have the same
pub has_same : (a b : List (ℕ × ℕ)) (c n : ℕ) → a ≡ b → Has a c n → Has b c n
has_same a b c n same h = subst (λ (x : List (ℕ × ℕ)). Has x c n) same h

-- what grows keeps its names
pub grows_kept : (old new : Captured) (name : ℕ × ℕ) (v : Variable) → Grows old name v new → Kept old.names new.names
grows_kept old new name v (inl same) i x h = subst (λ (l : List (ℕ × ℕ)). slice_get l i ≡ Some x) (sym same.0) h
grows_kept old new name v (inr more) i x h =
    subst (λ (l : List (ℕ × ℕ)). slice_get l i ≡ Some x) (sym more.0) (slice_get-append old.names (name ∷ []) i x h)

-- what is held after it has grown was held before, or is the name
grown_has : (old new : Captured) (name : ℕ × ℕ) (v : Variable) (c n : ℕ) → Grows old name v new → Has new.names c n
    → Has old.names c n ⊎ (name ≡ (c, n))
grown_has old new name v c n (inl same) h = inl (has_same new.names old.names c n same.0 h)
grown_has old new name v c n (inr more) h =
    elim (found_in_push old.names name h.0 (c, n) (subst
    (λ (l : List (ℕ × ℕ)). slice_get l h.0 ≡ Some (name_of c n)) more.0 h.1))
    as (λ _. Has old.names c n ⊎ (name ≡ (c, n))) [ inl before ↦ inl (h.0, before) | inr is ↦ inr is ]

-- what grows is given one variable more, for the name
grown_gives : (names : List (ℕ × ℕ)) (old new : Captured) (c n : ℕ) (v : Variable) → Grows old (c, n) v new
    → Reads names v c n → Gives names old.variables old.names → Gives names new.variables new.names
grown_gives names old new c n v (inl same) r g =
    gives_same names names old.variables new.variables old.names new.names refl (sym same.1) (sym same.0) g
grown_gives names old new c n v (inr more) r g =
    gives_same names names (old.variables ++ v ∷ []) new.variables (old.names ++ (c, n) ∷ []) new.names refl
    (sym more.1) (sym more.0)
    (all_zipped_more (λ (w : Variable) (o : ℕ × ℕ). Reads names w o.0 o.1) old.variables old.names v (c, n) g r)

-- an alias that is found at a level needs nothing further out
pub captures_start : (stack : List Captured) (level count index : ℕ) (v : Variable)
    → Reads (names_at stack level) v count index → Captures stack level count index stack v
captures_start stack level count index v r = record {
  deep = refl;
  reads = r;
  keeps = λ j i x h. h;
  linked = λ h. h;
  used = λ k levels u j c n h.
      elim (u j c n h) as (λ _. Leaves k c n (so_far (items_at levels j))
      ⊎ (Has (names_at stack (suc j)) (suc c) n ⊎ ((j ≡ level) × (suc c ≡ count) × (n ≡ index)))) [
        | inl leaves ↦ inl leaves
        | inr further ↦ inr (inl further)
      ];
}

module _ (old stack : List Captured) (level count index place : ℕ) (v : Variable) (new : Captured)
    (h : Captures old level count index stack v) (within : suc level < length stack)
    (grows : Grows (at_or nothing stack (suc level)) (count, index) v new)
    (held : slice_get new.names place ≡ Some (name_of count index)) where
  -- the levels, with one that has captured
  abbrev next : List Captured
  next = slice_set stack (suc level) new

  -- the level that has captured
  here : at_or nothing next (suc level) ≡ new
  here = at_set_same nothing stack (suc level) new within

  -- another level
  there : (j : ℕ) → j ≢ suc level → at_or nothing next j ≡ at_or nothing stack j
  there j other = at_set_other nothing stack (suc level) j new other

  -- the names of a level stay
  kept : (j : ℕ) → Kept (names_at stack j) (names_at next j)
  kept j i x is = elim (same_or_not j (suc level)) as (λ _. slice_get (names_at next j) i ≡ Some x) [
    | inl same ↦
        subst (λ (m : ℕ). slice_get (names_at next m) i ≡ Some x) (sym same)
        (subst (λ (c : Captured). slice_get c.names i ≡ Some x) (sym here)
        (grows_kept (at_or nothing stack (suc level)) new (count, index) v grows i x
        (subst (λ (m : ℕ). slice_get (names_at stack m) i ≡ Some x) same is)))
    | inr other ↦ subst (λ (c : Captured). slice_get c.names i ≡ Some x) (sym (there j other)) is
  ]

  -- what a level had, it has
  has_kept : (j c n : ℕ) → Has (names_at stack j) c n → Has (names_at next j) c n
  has_kept j c n has = (has.0, kept j has.0 (c, n) has.1)

  -- each level is given what its names say, still
  still_linked : Linked stack → Linked next
  still_linked l = record {
    root = ap (λ (c : Captured). c.names) (there 0 (λ e. omega (arith, e))) ∙ l.root;
    each = λ j. elim (same_or_not (suc j) (suc level))
        as (λ _. Gives (names_at next j) (variables_at next (suc j)) (names_at next (suc j))) [
          | inl same ↦
              (let is : j ≡ level = omega (arith, same) in
              subst (λ (m : ℕ). Gives (names_at next m) (variables_at next (suc m)) (names_at next (suc m))) (sym is)
              (subst (λ (c : Captured). Gives (names_at next level) c.variables c.names) (sym here)
              (grown_gives (names_at next level) (at_or nothing stack (suc level)) new count index v grows
              (reads_more (names_at stack level) (names_at next level) v count index (kept level) h.reads)
              (gives_more (names_at stack level) (names_at next level) (variables_at stack (suc level))
              (names_at stack (suc level)) (kept level) (l.each level)))))
          | inr other ↦
              subst (λ (c : Captured). Gives (names_at next j) c.variables c.names) (sym (there (suc j) other))
              (gives_more (names_at stack j) (names_at next j) (variables_at stack (suc j)) (names_at stack (suc j))
              (kept j) (l.each j))
        ];
  }

  module _ (k : Lent) (levels : List (List Item)) (u : UsedBut k levels stack level count index) where
    -- what a level that had the name is used for
    old_used : (j c n : ℕ) → Has (names_at stack j) c n
        → Leaves k c n (so_far (items_at levels j))
        ⊎ (Has (names_at next (suc j)) (suc c) n ⊎ ((j ≡ suc level) × (suc c ≡ suc count) × (n ≡ index)))
    old_used j c n has =
        elim (u j c n has) as (λ _. Leaves k c n (so_far (items_at levels j))
        ⊎ (Has (names_at next (suc j)) (suc c) n ⊎ ((j ≡ suc level) × (suc c ≡ suc count) × (n ≡ index)))) [
          | inl leaves ↦ inl leaves
          | inr other ↦ elim other as (λ _. Leaves k c n (so_far (items_at levels j))
              ⊎ (Has (names_at next (suc j)) (suc c) n ⊎ ((j ≡ suc level) × (suc c ≡ suc count) × (n ≡ index)))) [
                | inl further ↦ inr (inl (has_kept (suc j) (suc c) n further))
                | inr but ↦ inr (inl (
                  place,
                  subst (λ (m : ℕ). slice_get (names_at next (suc m)) place ≡ Some (name_of (suc c) n)) (sym but.0)
                      (subst (λ (x : Captured). slice_get x.names place ≡ Some (name_of (suc c) n)) (sym here)
                      (subst (λ (m : ℕ). slice_get new.names place ≡ Some (name_of m n)) (sym but.1)
                      (subst (λ (m : ℕ). slice_get new.names place ≡ Some (name_of count m)) (sym but.2) held))),
                ))
              ]
        ]

    -- each name is used, but for that of the level that has captured
    next_used : UsedBut k levels next (suc level) (suc count) index
    next_used j c n has = elim (same_or_not j (suc level)) as (λ _. Leaves k c n (so_far (items_at levels j))
        ⊎ (Has (names_at next (suc j)) (suc c) n ⊎ ((j ≡ suc level) × (suc c ≡ suc count) × (n ≡ index)))) [
          | inl same ↦
              elim (grown_has (at_or nothing stack (suc level)) new (count, index) v c n grows
              (subst (λ (x : Captured). Has x.names c n) here (subst (λ (m : ℕ). Has (names_at next m) c n) same has)))
              as (λ _. Leaves k c n (so_far (items_at levels j))
              ⊎ (Has (names_at next (suc j)) (suc c) n ⊎ ((j ≡ suc level) × (suc c ≡ suc count) × (n ≡ index)))) [
                | inl before ↦ old_used j c n (subst (λ (m : ℕ). Has (names_at stack m) c n) (sym same) before)
                | inr is ↦
                    inr (inr (same, ap suc (ap (λ (p : ℕ × ℕ). p.0) (sym is)), ap (λ (p : ℕ × ℕ). p.1) (sym is)))
              ]
          | inr other ↦
              old_used j c n (subst (λ (x : Captured). Has x.names c n) (there j other) has)
        ]

  -- one level further in
  pub captures_next : Captures old (suc level) (suc count) index next (variable.Upvar place)
  captures_next = record {
    deep = length-set stack (suc level) new ∙ h.deep;
    reads = (
      count,
      refl,
      subst (λ (x : Captured). slice_get x.names place ≡ Some (name_of count index))
          (sym here) held,
    );
    keeps = λ j i x is. kept j i x (h.keeps j i x is);
    linked = λ l. still_linked (h.linked l);
    used = λ k levels u. next_used k levels (h.used k levels u);
  }

-- a list that may have gained a name is as it was where it is as long
pub gained_none : (old new : List (ℕ × ℕ)) (name : ℕ × ℕ) → (new ≡ old) ⊎ (new ≡ old ++ name ∷ [])
    → length new ≡ length old → new ≡ old
gained_none old new name (inl same) h = same
gained_none old new name (inr more) h =
    let longer : length (old ++ name ∷ []) ≡ length old + 1 = length-append old (name ∷ []) in
    let is = ap (λ (l : List (ℕ × ℕ)). length l) more in
    absurd (omega (arith, longer, is, h))

-- and has gained it where it isn't
pub gained_one : (old new : List (ℕ × ℕ)) (name : ℕ × ℕ) → (new ≡ old) ⊎ (new ≡ old ++ name ∷ [])
    → length new ≢ length old → new ≡ old ++ name ∷ []
gained_one old new name (inl same) h = absurd (h (ap (λ (l : List (ℕ × ℕ)). length l) same))
gained_one old new name (inr more) h = more

-- the level of an element that was read
pub at_read : (stack : List Captured) (i : ℕ) (c : Captured) → i < length stack → c ≡ get_or stack i c
    → at_or nothing stack i ≡ c
at_read stack i c within is = at_found nothing stack i c (slice_get_read stack (length stack) i c refl within is)

-- a variable that is found is what the alias names
pub known_reads : (stack : List Captured) (base left index place : ℕ) (c : Captured) → base + left < length stack
    → c ≡ get_or stack (base + left) c → 0 < left → slice_get c.names place ≡ Some (name_of (left - 1) index)
    → Reads (names_at stack (base + left)) (variable.Upvar place) left index
known_reads stack base left index place c within is some held = (
  left - 1,
  omega (arith, some),
  subst (λ (x : Captured). slice_get x.names place ≡ Some (name_of (left - 1) index))
      (sym (at_read stack (base + left) c within is)) held,
)

-- one level further in, as a loop counts
pub captures_step : (old stack : List Captured) (base left index place : ℕ) (v : Variable) (c new : Captured)
    → Captures old (base + left) left index stack v → base + left + 1 < length stack
    → c ≡ get_or stack (base + left + 1) c → Grows c (name_of left index) v new
    → slice_get new.names place ≡ Some (name_of left index)
    → Captures old (base + (left + 1)) (left + 1) index (slice_set stack (base + left + 1) new) (variable.Upvar place)
captures_step old stack base left index place v c new h within is grows held =
    let next : base + left + 1 ≡ suc (base + left) = add-one (base + left) in
    let level : suc (base + left) ≡ base + (left + 1) = omega arith in
    let count : suc left ≡ left + 1 = sym (add-one left) in
    let inside : suc (base + left) < length stack = omega (arith, within) in
    let here : Grows (at_or nothing stack (suc (base + left))) (name_of left index) v new =
    subst (λ (i : ℕ). Grows (at_or nothing stack i) (name_of left index) v new) next
    (subst (λ (x : Captured). Grows x (name_of left index) v new)
    (sym (at_read stack (base + left + 1) c within is)) grows) in
    subst (λ (i : ℕ). Captures old (base + (left + 1)) (left + 1) index (slice_set stack i new) (variable.Upvar place))
    (sym next)
    (subst (λ (n : ℕ). Captures old n (left + 1) index (slice_set stack (suc (base + left)) new) (variable.Upvar place))
    level
    (subst (λ (n : ℕ). Captures old (suc (base + left)) n index (slice_set stack (suc (base + left)) new)
    (variable.Upvar place)) count
    (captures_next old stack (base + left) left index place v new h inside here held)))
