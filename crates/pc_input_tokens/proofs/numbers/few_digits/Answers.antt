use Rattle.std.proofs.Common.{◌≡◌, ◌<◌, arith, take, length, take_all, ap, sym, ◌∙◌, Some}
use Rattle.serde_json.specs.Data.{unsigned}
use Rattle.serde_json.specs.Read.{number_of}
use Rattle.pc_input_tokens.proofs.Digits.{one_more, number_of-digits}
use Rattle.pc_input_tokens.proofs.numbers.few_digits.Goals as goal

pub overflow_mul-number : goal.overflow_mul-number
overflow_mul-number c =
    let l = c.loop-byte in
    let more = one_more _ l.byte-index l.number c.loop-byte-test.true c.if-bytes-gt19.false l.invariant.digits
    l.invariant.value c.if-not-is_ascii_digit.ensures.bound in
    omega (arith, more.small)

pub overflow_add-number : goal.overflow_add-number
overflow_add-number c =
    let l = c.loop-byte in
    let more = one_more _ l.byte-index l.number c.loop-byte-test.true c.if-bytes-gt19.false l.invariant.digits
    l.invariant.value c.if-not-is_ascii_digit.ensures.bound in
    omega (arith, more.small)

pub loop-byte-preserved : goal.loop-byte-preserved
loop-byte-preserved c =
    let l = c.loop-byte in
    let more = one_more _ l.byte-index l.number c.loop-byte-test.true c.if-bytes-gt19.false l.invariant.digits
    l.invariant.value c.if-not-is_ascii_digit.ensures.bound in
    record { digits = more.digits; value = more.value_is }

pub returns : goal.returns
returns c =
    let s = c.as_bytes-bytes.result.now in
    let l = c.loop-byte in
    let whole : take l.byte-index s ≡ s = take_all l.byte-index s c.loop-byte-test.false in
    let digits = rw whole at l.invariant.digits in
    let value = rw whole at l.invariant.value in
    let some : 0 < length s = grind arith in
    ap number_of (sym c.as_bytes-bytes.ensures.value) ∙ number_of-digits s digits some c.if-bytes-gt19.false
    ∙ ap (λ n. Some (unsigned n)) (sym value)
