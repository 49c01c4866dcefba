-- The lines of a list's entries from a place on.
use Rattle.std.proofs.Common.{◌≡◌, ℕ, ◌+◌, ◌<◌, List, ◌∷◌, ◌++◌, length, map, drop, get_or, ◌∙◌, append_assoc, add-one}
use Rattle.std.proofs.Math.Seq.{drop-cons}
use Rattle.std.specs.List.{flat_map}
use Rattle.pc_spec_plan.specs.Text.{numbered}

-- the line of one item was appended, and those after it are left
pub numbered_done : {A B : Type 0} (line : ℕ → B → List ℕ) (f : A → B) (start before after : List ℕ) (xs : List A)
    (i : ℕ) (d : A) → i < length xs → after ≡ before ++ line i (f (get_or xs i d))
    → before ++ numbered line i (map f (drop i xs)) ≡ start
    → after ++ numbered line (i + 1) (map f (drop (i + 1) xs)) ≡ start
numbered_done line f start before after xs i d within put left =
    let rest = numbered line (i + 1) (map f (drop (i + 1) xs)) in
    let here : drop i xs ≡ get_or xs i d ∷ drop (i + 1) xs = rw (add-one, drop-cons xs i d within) in
    let whole : before ++ (line i (f (get_or xs i d)) ++ rest) ≡ start = rw here at left in
    rw put (append_assoc before (line i (f (get_or xs i d))) rest ∙ whole)

-- the same of lines that don't say their number
pub line_done : {A B : Type 0} (line : B → List ℕ) (f : A → B) (start before after : List ℕ) (xs : List A) (i : ℕ)
    (d : A) → i < length xs → after ≡ before ++ line (f (get_or xs i d))
    → before ++ flat_map line (map f (drop i xs)) ≡ start
    → after ++ flat_map line (map f (drop (i + 1) xs)) ≡ start
line_done line f start before after xs i d within put left =
    let rest = flat_map line (map f (drop (i + 1) xs)) in
    let here : drop i xs ≡ get_or xs i d ∷ drop (i + 1) xs = rw (add-one, drop-cons xs i d within) in
    let whole : before ++ (line (f (get_or xs i d)) ++ rest) ≡ start = rw here at left in
    rw put (append_assoc before (line (f (get_or xs i d))) rest ∙ whole)
