-- The word that says how long a generated chain is.
use Rattle.std.specs.Prelude.{◌≡◌, ◌≤◌, ℕ, List, Option, None, Some, nat_le, ◌&&◌, if◌then◌else◌}
use Rattle.std.specs.Fmt.{decimal}
use Rattle.std.specs.Str.{bytes_eq}
use Rattle.std.specs.Str.Parse.{digits_value}

-- a number, if its decimal text is the word, and it is at least 1 and at most 10000
abbrev pub count_if : (word : List ℕ) → (n : ℕ) → Option ℕ
count_if word n = if bytes_eq word (decimal n) && nat_le 1 n && nat_le n 10000 then Some n else None

-- the number that a word is in decimal, without a zero in front: at least 1, and at most 10000
unfoldable pub count_in : (word : List ℕ) → Option ℕ
count_in word = count_if word (digits_value 10 word)

-- a word is such a number
abbrev pub IsCount : (word : List ℕ) → (n : ℕ) → Type 0
IsCount word n = (1 ≤ n) × (n ≤ 10000) × (word ≡ decimal n)
