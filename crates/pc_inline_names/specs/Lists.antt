-- Lists that stand one behind the other in one, and where each of them ends.
use Rattle.std.specs.Prelude.{◌≤◌, ℕ, zero, suc, List, [], ◌∷◌, drop, slice_index, slice_range}
use Rattle.pc_entity.specs.declared.string_pool.Atom.{Atom}

-- the places ascend, from this one to the last
abbrev pub Ascend : ℕ → List ℕ → ℕ → Type 0
Ascend start [] last = start ≤ last
Ascend start (end ∷ ends) last = (start ≤ end) × Ascend end ends last

-- where the list of a number begins, by where the lists end
abbrev pub start_of : List ℕ → ℕ → ℕ
start_of ends zero = 0
start_of ends (suc k) = slice_index ends k

-- where the last list ends, if none does, the first begins
abbrev pub end_from : ℕ → List ℕ → ℕ
end_from start [] = start
end_from start (end ∷ ends) = end_from end ends

-- the lists that end at these places among the items, where the first begins at this one
abbrev pub cut : {X : Type 0} → ℕ → List X → List ℕ → List (List X)
cut start items [] = []
cut start items (end ∷ ends) = slice_range items start end ∷ cut end items ends

-- lists of numbers, and one more that is being made
pub record Lists : Type 0 where
  pub ended : List (List Atom)
  pub open_list : List Atom

-- those that end at these places; what is behind the last end is being made
abbrev pub lists_in : List Atom → (ends : List ℕ) → Lists
lists_in numbers ends = record { ended = cut 0 numbers ends; open_list = drop (end_from 0 ends) numbers }
