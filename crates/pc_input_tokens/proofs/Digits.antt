-- Numbers that are written with digits alone.
use Rattle.std.proofs.Common.{◌≡◌, ℕ, ◌+◌, ◌-◌, ◌*◌, ◌^◌, ◌<◌, ◌≤◌, List, [], length, take, false, Some}
use Rattle.std.proofs.Common.{refl, sym, ap, ◌∙◌, arith, append-nil, ◌==◌, slice_index, lt-ltb, ne_eqb, length-take}
use Rattle.std.specs.Str.Parse.{AllDigits, digits_value}
use Rattle.std.specs.Char.{digit_value}
use Rattle.std.specs.Float.Numeral.{Parts, IsWellFormed, scan_numeral, minus}
use Rattle.std.proofs.lemmas.Int.Digits.{digits_more, digits_value_more}
use Rattle.std.proofs.lemmas.Str.{digit_value_digit}
use Rattle.std.proofs.lemmas.Str.Parse.{digit_at, digit_from_value, tells_digits, numerals_by_value, digits_value_short}
use Rattle.std.proofs.lemmas.Float.Parse.{scan_numeral-text_of}
use Rattle.fast_float.specs.Text.{scan}
use Rattle.serde_json.specs.Data.{unsigned}
use Rattle.serde_json.specs.Read.{number_of}

-- the parts of a numeral of digits alone
abbrev pub digits_parts : List ℕ → Parts
digits_parts s = record {
  whole = s;
  point = false;
  fraction = [];
  exponent_negative = false;
  exponent = [];
  len = length s;
}

-- a text of digits is scanned whole
scan-digits : (s : List ℕ) → AllDigits 10 s → scan s ≡ digits_parts s
unfolding scan
scan-digits s all =
    let well : IsWellFormed (digits_parts s) = record {
      whole_digits = all;
      fraction_digits = tt;
      exponent_digits = tt;
      no_point = λ none. refl;
      no_exponent = λ none. refl;
      len_is = sym (ap length (append-nil s));
    } in
    ap scan_numeral (sym (append-nil s)) ∙ scan_numeral-text_of (digits_parts s) well

-- up to k digits write a number below 10^k
below_tens : (s : List ℕ) (k : ℕ) → AllDigits 10 s → length s ≤ k → digits_value 10 s < 10 ^ k
below_tens s k all short = digits_value_short (numerals_by_value (AllDigits 10) tells_digits) s k all short

not_minus : (s : List ℕ) → AllDigits 10 s → 0 < length s → (slice_index s 0 == minus) ≡ false
not_minus s all some = ne_eqb _ 45 (λ e. omega (arith, e, digit_at s 0 all some))

-- up to 19 digits are a whole number that 64 bits hold
pub number_of-digits : (s : List ℕ) → AllDigits 10 s → 0 < length s → length s ≤ 19
    → number_of s ≡ Some (unsigned (digits_value 10 s))
unfolding number_of
number_of-digits s all some short =
    let small : digits_value 10 s < 2 ^ 64 = omega (arith, below_tens s 19 all short) in
    rw (not_minus s all some, scan-digits s all, append-nil s, lt-ltb 0 (length s) some, lt-ltb _ _ small) refl

-- what is known after one more digit
pub record OneMore (s : List ℕ) (i value : ℕ) : Type 0 where
  pub digits : AllDigits 10 (take (i + 1) s)
  pub value_is : value ≡ digits_value 10 (take (i + 1) s)
  pub small : value < 2 ^ 64

-- one more digit of up to 19
pub one_more : (s : List ℕ) (i value : ℕ) → i < length s → length s ≤ 19 → AllDigits 10 (take i s)
    → value ≡ digits_value 10 (take i s) → digit_value (slice_index s i) < 10
    → OneMore s i (value * 10 + (slice_index s i - 48))
one_more s i value within short all is digit =
    let longer = digits_more 10 s i within all digit in
    let worth : digit_value (slice_index s i) ≡ slice_index s i - 48 =
    omega (arith, digit_value_digit (slice_index s i) (digit_from_value (slice_index s i) digit)) in
    let value_is : value * 10 + (slice_index s i - 48) ≡ digits_value 10 (take (i + 1) s) =
    rw (digits_value_more 10 s i within, ← is, worth) refl in
    let length_is : length (take (i + 1) s) ≤ 19 = omega (arith, length-take (i + 1) s) in
    record {
      digits = longer;
      value_is = value_is;
      small = omega (arith, value_is, below_tens (take (i + 1) s) 19 longer length_is);
    }
