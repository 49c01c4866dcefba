-- A layout: a list of fields, each in its turn behind the one before.
use Rattle.std.specs.Prelude.{◌≡◌, ℕ, ◌+◌, ◌-◌, ◌*◌, ◌/◌, ◌<◌, ◌≤◌, List, [], ◌∷◌, Some, slice_get}
use Rattle.pc_offsets.specs.declared.layout.Field.{Field}

-- the first multiple of an alignment that isn't before a place
abbrev pub aligned : (align place : ℕ) → ℕ
aligned align place = (place + (align - 1)) / align * align

-- where a field begins whose turn comes at a place
abbrev pub start_of : (place : ℕ) → Field → ℕ
start_of place f = aligned f.align place

-- where it ends: behind its entries
abbrev pub end_of : (place : ℕ) → Field → ℕ
end_of place f = start_of place f + f.count * f.size

-- the offsets of fields, the first of which has its turn at a place
abbrev pub offsets_from : (place : ℕ) → List Field → List ℕ
offsets_from place [] = []
offsets_from place (f ∷ fs) = start_of place f ∷ offsets_from (end_of place f) fs

-- where the last of these fields ends
abbrev pub end_from : (place : ℕ) → List Field → ℕ
end_from place [] = place
end_from place (f ∷ fs) = end_from (end_of place f) fs

-- the offsets of the fields of a layout
abbrev pub offsets : List Field → List ℕ
offsets fs = offsets_from 0 fs

-- the size of a layout
abbrev pub size_of : List Field → ℕ
size_of fs = end_from 0 fs

-- each of these fields has an alignment
abbrev pub AreAligned : List Field → Type 0
AreAligned [] = Unit {0}
AreAligned (f ∷ fs) = (0 < f.align) × AreAligned fs

-- fields at these offsets are aligned, apart from each other, and in order behind a place
abbrev pub AreApart : (place : ℕ) → List Field → (offsets : List ℕ) → Type 0
AreApart place [] [] = Unit {0}
AreApart place [] (o ∷ os) = ⊥
AreApart place (f ∷ fs) [] = ⊥
AreApart place (f ∷ fs) (o ∷ os) =
    (place ≤ o) × ((n : ℕ) × (o ≡ n * f.align)) × AreApart (o + f.count * f.size) fs os

-- what is kept of a layout: its offsets and its size, which a `u32` holds
pub record IsKept (fs : List Field) (starts : List ℕ) (end : ℕ) : Type 0 where
  pub starts_are : starts ≡ offsets fs
  pub end_is : end ≡ size_of fs
  pub end_fits : end ≤ 4294967295

-- an array is the nth field of a layout: it begins at a place and has so many entries of so many bytes
pub record IsFieldAt (fs : List Field) (n place entries bytes : ℕ) : Type 0 where
  pub begins : slice_get (offsets fs) n ≡ Some place
  pub field : Field
  pub is : slice_get fs n ≡ Some field
  pub count : entries ≡ field.count
  pub size : bytes ≡ field.size

-- a place is that many bytes into the jth entry of the nth field of a layout
pub record IsInEntry (fs : List Field) (n j bytes place : ℕ) : Type 0 where
  pub start : ℕ
  pub count : ℕ
  pub size : ℕ
  pub array : IsFieldAt fs n start count size
  pub at : place ≡ start + j * size + bytes
