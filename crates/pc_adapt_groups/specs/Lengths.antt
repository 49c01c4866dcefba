-- Runs by their lengths, and needs by one number each: one more than the greatest that is needed.
use Rattle.std.specs.Prelude.{◌≡◌, ℕ, ◌+◌, ◌<◌, ◌≤◌, List, [], ◌∷◌, Some, slice_get}
use Rattle.std.specs.List.{range_with_len}

-- runs of these lengths, from number s on
abbrev pub runs_from : ℕ → List ℕ → List (List ℕ)
runs_from s [] = []
runs_from s (l ∷ ls) = range_with_len s l ∷ runs_from (s + l) ls

-- where they end
abbrev pub end_of : ℕ → List ℕ → ℕ
end_of s [] = s
end_of s (l ∷ ls) = end_of (s + l) ls

-- a number below the one that stands at place a
abbrev pub Reaches : List ℕ → ℕ → ℕ → Type 0
Reaches needed a b = (m : ℕ) × (slice_get needed a ≡ Some m) × (b < m)

-- no number is past its place
abbrev pub AreLower : List ℕ → Type 0
AreLower needed = (a m : ℕ) → slice_get needed a ≡ Some m → m ≤ a

-- no number from place s on, up to place e, is past s
abbrev pub StaysBelow : List ℕ → ℕ → ℕ → Type 0
StaysBelow needed s e = (k m : ℕ) → s ≤ k → k < e → slice_get needed k ≡ Some m → m ≤ s

-- so it is in each of these runs
abbrev pub AllStay : List ℕ → ℕ → List ℕ → Type 0
AllStay needed s [] = Unit {0}
AllStay needed s (l ∷ ls) = StaysBelow needed s (s + l) × AllStay needed (s + l) ls
