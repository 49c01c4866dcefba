-- The words that say how long a chain is.
use Rattle.std.proofs.Common.{◌≡◌, ◌≤◌, ◌<◌, ℕ, zero, suc, Bool, true, false, List, Option, Some, None, Result, Ok}
use Rattle.std.proofs.Common.{length, get_or, refl, sym, ap, ◌∙◌, arith, subst, if◌then◌else◌}
use Rattle.std.proofs.lemmas.Bool.{le-leb, leb-true}
use Rattle.std.proofs.lemmas.Fmt.{decimal-digits_value, decimal_digit, decimal_is_IsNumeral, decimal_nonempty}
use Rattle.std.proofs.lemmas.Fmt.{first_decimal, parse-decimal}
use Rattle.std.proofs.lemmas.Str.Parse.{digit_at, numerals_by_value, tells_digits, without_leading_plus_none}
use Rattle.std.proofs.lemmas.Slice.Eq.{bytes_eq-Decides}
use Rattle.std.specs.Fmt.{decimal}
use Rattle.std.specs.Prelude.{nat_le, ◌&&◌}
use Rattle.std.specs.Str.{bytes_eq}
use Rattle.std.specs.Str.Parse.{IsNumeral, ParsesUnsigned, digits_value}
use Rattle.pc_generate.specs.Count.{IsCount, count_if, count_in}

-- it begins with a digit other than zero
pub count_first : (w : List ℕ) (n : ℕ) → IsCount w n → (0 < length w) × (49 ≤ get_or w 0 0) × (get_or w 0 0 ≤ 57)
count_first w n is =
    let small : n < 18446744073709551616 = omega (arith, is.1) in
    let some = decimal_nonempty n small in
    let range = digit_at (decimal n) 0 (decimal_is_IsNumeral n small).0.1 some in
    subst (λ bs. (0 < length bs) × (49 ≤ get_or bs 0 0) × (get_or bs 0 0 ≤ 57)) (sym is.2)
    (some, omega (arith, first_decimal n (omega (arith, is.0)) small), range.1)

-- it is read as its number
pub count_read : {E : Type 0} (w : List ℕ) (n : ℕ) (r : Result ℕ E) → IsCount w n → ParsesUnsigned 32 10 w r → r ≡ Ok n
count_read w n r is h =
    parse-decimal 32 n w r (omega (arith, is.1)) (omega (arith, is.1)) is.2 h

-- no number in digits begins with a digit other than zero, and is zero
not_zero : (w : List ℕ) (x : ℕ) → 49 ≤ get_or w 0 0 → w ≡ decimal x → 1 ≤ x
not_zero w zero first is =
    let e : get_or w 0 0 ≡ 48 = ap (λ bs. get_or bs 0 0) (is ∙ decimal_digit 0 (omega arith)) in omega (arith, e, first)
not_zero w (suc x) first is = omega arith

-- a word that is read, and begins with a digit other than zero
pub count_is : {E : Type 0} (w : List ℕ) (x : ℕ) (r : Result ℕ E) → 49 ≤ get_or w 0 0 → r ≡ Ok x
    → ParsesUnsigned 32 10 w r → x ≤ 10000 → IsCount w x
count_is w x r first is h few =
    let plain = without_leading_plus_none w (λ e. absurd (let no : ⊥ = omega (arith, e, first) in no)) in
    let read = subst (ParsesUnsigned 32 10 w) is h in
    let number : IsNumeral 10 w = subst (IsNumeral 10) plain read.0.0 in
    let value : x ≡ digits_value 10 w = read.1 ∙ ap (digits_value 10) plain in
    let spelled = decimal-digits_value (numerals_by_value _ tells_digits) w number.1 number.0
    (λ e. absurd (let no : ⊥ = omega (arith, e, first) in no)) (omega (arith, value, few)) in
    let word : w ≡ decimal x = sym spelled ∙ ap decimal (sym value) in
    (not_zero w x first word, few, word)

-- a word that is a number is found to be it
pub count_found : (w : List ℕ) (n : ℕ) → IsCount w n → count_in w ≡ Some n
unfolding count_in
count_found w n is =
    let small : n < 18446744073709551616 = omega (arith, is.1) in
    let value : digits_value 10 w ≡ n = ap (digits_value 10) is.2 ∙ (decimal_is_IsNumeral n small).1 in
    ap (count_if w) value
    ∙ (rw ((bytes_eq-Decides w (decimal n)).1 is.2, le-leb 1 n is.0, le-leb n 10000 is.1) refl)

-- what holds where a number is answered only if three tests do
three_tests : (a b c : Bool) (k n : ℕ) → (if a && b && c then Some k else None) ≡ Some n
    → (a ≡ true) × (b ≡ true) × (c ≡ true) × (k ≡ n)
three_tests true true true k n is = (refl, refl, refl, cc)
three_tests true true false k n is = absurd (let no : ⊥ = cc in no)
three_tests true false c k n is = absurd (let no : ⊥ = cc in no)
three_tests false b c k n is = absurd (let no : ⊥ = cc in no)

-- the number that is found is that of the word
pub found_count : (w : List ℕ) (n : ℕ) → count_in w ≡ Some n → IsCount w n
unfolding count_in
found_count w n is =
    let x : ℕ = digits_value 10 w in
    let (spelled, low, high, value) =
    three_tests (bytes_eq w (decimal x)) (nat_le 1 x) (nat_le x 10000) x n is in
    subst (IsCount w) value
    (leb-true 1 x low, leb-true x 10000 high, (bytes_eq-Decides w (decimal x)).0 spelled)

-- where an option has no value there is none
no_value : (o : Option ℕ) → ((n : ℕ) → ¬ (o ≡ Some n)) → o ≡ None
no_value None never = refl
no_value (Some n) never = absurd (never n refl)

-- where a word is no such number, none is found
pub count_absent : (w : List ℕ) → ((n : ℕ) → ¬ (IsCount w n)) → count_in w ≡ None
count_absent w never = no_value (count_in w) (λ n is. never n (found_count w n is))
