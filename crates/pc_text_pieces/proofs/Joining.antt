-- Lists of texts that are written piece by piece.
use Rattle.std.proofs.Common.{◌≡◌, Bool, true, false, List, ℕ, [], ◌∷◌, ◌++◌, map, refl, ap, ◌∙◌, sym}
use Rattle.std.proofs.Common.{append_assoc, append-nil}
use Rattle.std.proofs.Math.Dec.{eqb-suc-zero}
use Rattle.std.specs.Prelude.{◌&&◌, codes, nat_eq, length}
use Rattle.pc_spec_plan.specs.PlanView.{NamedDefinition}
use Rattle.pc_spec_plan.specs.Text.{definition, listed, named_definitions, quoted}
use Rattle.pc_text_pieces.specs.Joined.{joined, separator}

-- from the first one on, the texts are a list
pub joined-first : (xs : List (List ℕ)) → joined true xs ≡ listed xs
joined-first [] = refl
joined-first (x ∷ []) = append-nil x
joined-first (x ∷ y ∷ ys) =
    let rest : y ++ joined false ys ≡ listed (y ∷ ys) = joined-first (y ∷ ys) in
    let whole = ap (λ (l : List ℕ). (x ++ codes ", ") ++ l) rest in
    rw (← whole) (simp append_assoc)

-- whether the next text is the first one, behind these
abbrev pub first_behind : Bool → List (List ℕ) → Bool
first_behind are_first [] = are_first
first_behind are_first (x ∷ xs) = false

first_behind-false : (xs : List (List ℕ)) → first_behind false xs ≡ false
first_behind-false [] = refl
first_behind-false (x ∷ xs) = refl

-- texts behind others
pub joined-append : (are_first : Bool) (xs ys : List (List ℕ))
    → joined are_first (xs ++ ys) ≡ joined are_first xs ++ joined (first_behind are_first xs) ys
joined-append are_first [] ys = refl
joined-append are_first (x ∷ xs) ys =
    let more = joined-append false xs ys in
    let now : joined (first_behind false xs) ys ≡ joined false ys =
    ap (λ (b : Bool). joined b ys) (first_behind-false xs) in
    let rest = more ∙ ap (λ (l : List ℕ). joined false xs ++ l) now in
    let all = ap (λ (l : List ℕ). (separator are_first ++ x) ++ l) rest in
    all ∙ sym (append_assoc (separator are_first ++ x) (joined false xs) (joined false ys))

-- the texts of arguments behind others
pub named_definitions-append : (ds es : List NamedDefinition)
    → named_definitions (ds ++ es) ≡ named_definitions ds ++ named_definitions es
named_definitions-append [] es = refl
named_definitions-append (d ∷ ds) es =
    let text = quoted d.module_name ++ codes " " ++ quoted d.name ++ codes " " ++ definition d.definition in
    ap (λ (rest : List (List ℕ)). text ∷ rest) (named_definitions-append ds es)

-- there is a text for each argument
pub first_behind-named : {A : Type 0} (f : A → NamedDefinition) (are_first : Bool) (xs : List A)
    → first_behind are_first (named_definitions (map f xs)) ≡ (are_first && nat_eq (length xs) 0)
first_behind-named f true [] = refl
first_behind-named f false [] = refl
first_behind-named f true (x ∷ xs) = sym (eqb-suc-zero (length xs))
first_behind-named f false (x ∷ xs) = refl
