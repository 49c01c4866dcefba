use Rattle.std.proofs.Common.{◌≡◌, ap, arith, get_or, length, ◌∙◌, sym}
use Rattle.std.proofs.lemmas.Bool.{eqb-true}
use Rattle.pc_generate.proofs.WordLemmas.{count_absent, count_first, count_found, count_is, count_read}
use Rattle.pc_generate.proofs.count.count_of.Goals.{then-is_empty-via-then-is_empty}
use Rattle.pc_generate.proofs.count.count_of.Goals.{then-is_empty-via-else-is_empty+then-bytes-lt49}
use Rattle.pc_generate.proofs.count.count_of.Goals.{then-is_empty-via-else-is_empty+else-bytes-lt49+then-bytes-gt57}
use Rattle.pc_generate.proofs.count.count_of.Goals as goal

pub returns-then-is_empty : goal.returns-then-is_empty
returns-then-is_empty c =
    sym (count_absent c.args.word.now (λ n is. let first = count_first c.args.word.now n is in
    let same = ap (λ bs. get_or bs 0 0) c.as_bytes-bytes.ensures.value in
    elim c.then-is_empty.branch [
      | then-is_empty-via-then-is_empty w ↦
          let none = eqb-true _ 0 (sym c.is_empty.ensures ∙ w.if-is_empty.true) in
          let long = ap length c.as_bytes-bytes.ensures.value in omega (arith, none, long, first)
      | then-is_empty-via-else-is_empty+then-bytes-lt49 w ↦ omega (arith, same, first, w.if-bytes-lt49.true)
      | then-is_empty-via-else-is_empty+else-bytes-lt49+then-bytes-gt57 w ↦
          omega (arith, same, first, w.if-bytes-gt57.true)
    ]))

pub returns-in-Ok : goal.returns-in-Ok
returns-in-Ok c =
    sym (count_found c.args.word.now c.in-Ok.n (count_is c.args.word.now c.in-Ok.n c.parse.result
    (omega (arith, c.if-bytes-lt49.false, ap (λ bs. get_or bs 0 0) c.as_bytes-bytes.ensures.value)) c.in-Ok.is
    c.parse.ensures.value.0 (omega (arith, c.if-n-le10000.true))))

pub returns-in_default : goal.returns-in_default
returns-in_default c =
    sym (count_absent c.args.word.now (λ n is.
    absurd (let read = count_read c.args.word.now n c.parse.result is c.parse.ensures.value.0 in
    let same : n ≡ c.in-Ok.n = cc in let no : ⊥ = omega (arith, same, is.1, c.if-n-le10000.false) in no)))

pub returns-in_default-2 : goal.returns-in_default-2
returns-in_default-2 c =
    sym (count_absent c.args.word.now (λ n is.
    absurd (let read = count_read c.args.word.now n c.parse.result is c.parse.ensures.value.0 in
    let no : ⊥ = cc in no)))
