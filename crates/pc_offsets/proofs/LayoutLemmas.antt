-- Running sums: they never fall, and a field that is laid out ends within its layout.
use Rattle.std.proofs.Common.{◌≡◌, ℕ, ◌+◌, ◌-◌, ◌*◌, ◌/◌, ◌<◌, ◌≤◌, zero, suc, List, [], ◌∷◌, ◌++◌, length, take, drop}
use Rattle.std.proofs.Common.{set, get_or}
use Rattle.std.proofs.Common.{Some, refl, subst, sym, ap, ◌∙◌, arith}
use Rattle.std.specs.Prelude.{slice_get}
use Rattle.std.proofs.lemmas.Nat.{div-add-mod'}
use Rattle.std.proofs.lemmas.List.{append_assoc, append-nil, drop_all, take_more_set}
use Rattle.std.proofs.lemmas.Option.{none-some, same_Some, slice_get-get_or}
use Rattle.std.proofs.Math.Nat.{mod-lt, div-mul-le_self, le-mul_of_pos_right}
use Rattle.std.proofs.Math.Seq.{take-length}
use Rattle.pc_offsets.specs.declared.layout.Field.{Field}
use Rattle.pc_offsets.specs.Layout.{aligned, start_of, end_of, offsets, offsets_from, end_from, size_of, AreAligned}
use Rattle.pc_offsets.specs.Layout.{AreApart, IsFieldAt, IsKept}

-- a multiple of an alignment isn't before the place that it is for, and not a whole alignment behind it
pub aligned_after : (align place : ℕ) → 0 < align → place ≤ aligned align place
aligned_after align place pos =
    let parts = div-add-mod' (place + (align - 1)) align in
    let rest = mod-lt (place + (align - 1)) pos in
    omega (arith, parts, rest, pos)

pub aligned_near : (align place : ℕ) → aligned align place ≤ place + (align - 1)
aligned_near align place = div-mul-le_self (place + (align - 1)) align

-- a field ends behind its place, and behind its start
end_after_place : (place : ℕ) (f : Field) → 0 < f.align → place ≤ end_of place f
end_after_place place f pos = let after = aligned_after f.align place pos in omega (arith, after)

-- running sums don't fall
pub sum_after : (place : ℕ) (fs : List Field) → AreAligned fs → place ≤ end_from place fs
sum_after place [] al = omega arith
sum_after place (f ∷ fs) al =
    let one = end_after_place place f al.0 in
    let more = sum_after (end_of place f) fs al.1 in
    omega (arith, one, more)

-- a field ends within its layout
pub ends_within : (place : ℕ) (fs : List Field) → AreAligned fs → (n start : ℕ) (f : Field)
    → slice_get (offsets_from place fs) n ≡ Some start → slice_get fs n ≡ Some f
    → start + f.count * f.size ≤ end_from place fs
ends_within place [] al n start f begins is = absurd (none-some f is)
ends_within place (g ∷ fs) al zero start f begins is =
    let same : g ≡ f = same_Some g f is in
    let at : start_of place g ≡ start = same_Some (start_of place g) start begins in
    subst (λ (x : Field). start + x.count * x.size ≤ end_from place (g ∷ fs)) same
    (subst (λ (x : ℕ). x + g.count * g.size ≤ end_from place (g ∷ fs)) at (sum_after (end_of place g) fs al.1))
ends_within place (g ∷ fs) al (suc n) start f begins is = ends_within (end_of place g) fs al.1 n start f begins is

-- a field with more entries than a place has makes its layout end past the place
pub past_by_field : (fs : List Field) → AreAligned fs → (n start : ℕ) (f : Field)
    → slice_get (offsets fs) n ≡ Some start → slice_get fs n ≡ Some f
    → 0 < f.size → (most : ℕ) → most < f.count → most < size_of fs
past_by_field fs al n start f begins is pos most past =
    let inside = ends_within 0 fs al n start f begins is in
    let bytes = le-mul_of_pos_right f.count pos in
    omega (arith, inside, bytes, past)

-- there is an offset for each field
pub length-offsets : (place : ℕ) (fs : List Field) → length (offsets_from place fs) ≡ length fs
length-offsets place [] = refl
length-offsets place (f ∷ fs) = ap suc (length-offsets (end_of place f) fs)

-- fields at their offsets are aligned, apart, and in order
pub apart : (place : ℕ) (fs : List Field) → AreAligned fs → AreApart place fs (offsets_from place fs)
apart place [] al = tt
apart place (f ∷ fs) al =
    (aligned_after f.align place al.0, ((place + (f.align - 1)) / f.align, refl), apart (end_of place f) fs al.1)

-- the loop that lays fields out: n of them are laid out, and the next has its turn at a place
module _ (fs : List Field) (starts : List ℕ) (n place : ℕ)
    (laid : offsets fs ≡ take n starts ++ offsets_from place (drop n fs))
    (sized : size_of fs ≡ end_from place (drop n fs)) where
  -- the next one is laid out
  module _ (f : Field) (split : drop n fs ≡ f ∷ drop (n + 1) fs) (aligned : AreAligned (drop n fs)) where
    rest_aligned : AreAligned (f ∷ drop (n + 1) fs)
    rest_aligned = subst AreAligned split aligned

    pub next_aligned : AreAligned (drop (n + 1) fs)
    next_aligned = rest_aligned.1

    pub next_has_alignment : 0 < f.align
    next_has_alignment = rest_aligned.0

    pub next_sized : (end : ℕ) → end ≡ end_of place f → size_of fs ≡ end_from end (drop (n + 1) fs)
    next_sized end is = sized ∙ ap (end_from place) split ∙ ap (λ e. end_from e (drop (n + 1) fs)) (sym is)

    pub next_laid : (start end : ℕ) → start ≡ start_of place f → end ≡ end_of place f → n < length starts
        → offsets fs ≡ take (n + 1) (set starts n start) ++ offsets_from end (drop (n + 1) fs)
    next_laid start end start_is end_is within =
        let rest = offsets_from end (drop (n + 1) fs) in
        let now : offsets_from place (drop n fs) ≡ start ∷ rest =
        ap (offsets_from place) split
        ∙ ap (λ s. s ∷ offsets_from (end_of place f) (drop (n + 1) fs)) (sym start_is)
        ∙ ap (λ e. start ∷ offsets_from e (drop (n + 1) fs)) (sym end_is) in
        laid ∙ ap (λ l. take n starts ++ l) now ∙ sym (append_assoc (take n starts) (start ∷ []) rest)
        ∙ ap (λ l. l ++ rest) (sym (take_more_set starts n start within))

    -- one that ends past a place makes the whole end past it
    pub next_past : (most : ℕ) → most < end_of place f → most < size_of fs
    next_past most past =
        let after = sum_after (end_of place f) (drop (n + 1) fs) next_aligned in
        let size = next_sized (end_of place f) refl in
        omega (arith, after, size, past)

  -- all are laid out
  pub all_sized : length fs ≤ n → place ≡ size_of fs
  all_sized done = sym (sized ∙ ap (end_from place) (drop_all n fs done))

  pub all_laid : length fs ≤ n → n ≡ length starts → starts ≡ offsets fs
  all_laid done full =
      let none : offsets_from place (drop n fs) ≡ [] = ap (offsets_from place) (drop_all n fs done) in
      sym (laid ∙ ap (λ l. take n starts ++ l) none ∙ append-nil (take n starts)
      ∙ ap (λ m. take m starts) full ∙ take-length starts)

-- a field of a layout that is kept: it fits, and its offset is its own
module _ (fs : List Field) (starts : List ℕ) (end : ℕ) (kept : IsKept fs starts end) (aligned : AreAligned fs) (n : ℕ)
    (within : n < length fs) (d : Field) (e : ℕ) where
  start_is : slice_get (offsets fs) n ≡ Some (get_or starts n e)
  start_is =
      let long : n < length (offsets fs) = let same = length-offsets 0 fs in omega (arith, same, within) in
      slice_get-get_or (offsets fs) n e long ∙ ap (λ (l : List ℕ). Some (get_or l n e)) (sym kept.starts_are)

  field_is : slice_get fs n ≡ Some (get_or fs n d)
  field_is = slice_get-get_or fs n d within

  pub field_fits : get_or starts n e + (get_or fs n d).count * (get_or fs n d).size ≤ 4294967295
  field_fits =
      let inside = ends_within 0 fs aligned n (get_or starts n e) (get_or fs n d) start_is field_is in
      let size = kept.end_is in
      let fits = kept.end_fits in
      omega (arith, inside, size, fits)

  pub field_at : IsFieldAt fs n (get_or starts n e) (get_or fs n d).count (get_or fs n d).size
  field_at = record { begins = start_is; field = get_or fs n d; is = field_is; count = refl; size = refl }

-- a layout that is kept, under another name for its fields, doesn't pass the greatest `u32`, and its fields are apart
module _ (fs gs : List Field) (starts : List ℕ) (end : ℕ) (kept : IsKept fs starts end) (same : fs ≡ gs) where
  pub kept_fits : 4294967295 < size_of gs → ⊥
  kept_fits past =
      let size = kept.end_is in
      let fits = kept.end_fits in
      let more = ap size_of same in
      omega (arith, size, fits, more, past)

  pub kept_apart : AreAligned gs → AreApart 0 gs starts
  kept_apart aligned = subst (AreApart 0 gs) (sym (kept.starts_are ∙ ap offsets same)) (apart 0 gs aligned)
