-- What follows of the bytes that were read so far and one piece more.
use Rattle.std.proofs.Common.{◌≡◌, ◌↔◌, ℕ, ◌<◌, ◌≤◌, ◌+◌, Bool, true, false, ltb, List, [], ◌++◌, length, drop, Option}
use Rattle.std.proofs.Common.{None, Some, Result, Ok, Err, sym, ap, ◌∙◌, subst, length-append, arith}
use Rattle.std.proofs.lemmas.Bool.Decides.{nat_tests}
use Rattle.std.proofs.lemmas.List.{append-nil, nil_from_length}
use Rattle.std.proofs.lemmas.Result.{IfOk-at_ok}
use Rattle.pc_stream.specs.declared.whole.ReadEnd.{ReadEnd}
use Rattle.pc_stream.specs.declared.whole.ReadEnd.TheVariants.{TooLong}
use Rattle.pc_stream.specs.declared.whole.TheConstants.{MAX_INPUT}
use Rattle.pc_stream.specs.Stream.{Gives, IsAtEnd}
use Rattle.pc_stream.specs.Piece.{AddsPiece}
use Rattle.pc_stream.proofs.StreamLemmas.{Gives-then, Gives-told}

-- all bytes that were told, where none is left
all_told : (told bytes : List ℕ) (old new : Option (List ℕ)) → old ≡ Some told → Gives old new bytes → IsAtEnd new
    → (bytes ≡ told) × (new ≡ Some [])
all_told told bytes None new is_told gives at_end = absurd (cc is_told)
all_told told bytes (Some left) None is_told gives at_end = absurd gives
all_told told bytes (Some left) (Some rest) is_told gives at_end =
    let split : told ≡ bytes ++ rest = cc (is_told, gives) in
    (sym (split ∙ ap (λ (l : List ℕ). bytes ++ l) at_end ∙ append-nil bytes), ap (λ (l : List ℕ). Some l) at_end)

-- a piece of n bytes that fits is added
pub piece-added : (old new : Option (List ℕ)) (before after given : List ℕ) (n : ℕ) → length given ≡ n
    → Gives old new given → after ≡ before ++ given → (n ≡ 0 → IsAtEnd new) → length before + n ≤ MAX_INPUT
    → AddsPiece old new before after (Ok (ltb 0 n))
piece-added old new before after given n long front added at_end within = record {
  given = given;
  front = front;
  added = added;
  more = λ e. let some : ltb 0 n ≡ true = cc e in grind (arith, nat_tests);
  at_end = λ e.
      let none : ltb 0 n ≡ false = cc e in
      let is_zero : n ≡ 0 = grind (arith, nat_tests) in
      (nil_from_length given (long ∙ is_zero), at_end is_zero);
  too_long = (λ e. absurd (cc e), λ over. absurd (omega (arith, long)));
}

module _ (old mid new : Option (List ℕ)) (before after : List ℕ) (r : Result Bool ReadEnd)
    (gave : Gives old mid before) (piece : AddsPiece mid new before after r) where
  -- what a source gave, behind what it gave before
  gives : Gives old new (before ++ piece.given)
  gives = Gives-then old mid new before piece.given gave piece.front

  -- where it is Ok, the bytes so far are those that were given so far
  pub piece-so_far : (more : Bool) → r ≡ Ok more → Gives old new after
  piece-so_far more is_ok =
      let P : List ℕ → Type 0 = Gives old new in
      subst P (sym (IfOk-at_ok (λ _. after ≡ before ++ piece.given) is_ok piece.added)) gives

  -- at the end they are all the bytes told
  pub piece-at_end : (told : List ℕ) → old ≡ Some told → r ≡ Ok false → (after ≡ told) × (new ≡ Some [])
  piece-at_end told is_told is_end =
      all_told told after old new is_told (piece-so_far false is_end) (piece.at_end is_end).1

  -- how many of the bytes told were given, and that only too many of them are too long
  pub piece-told : (told : List ℕ) → old ≡ Some told
      → (n : ℕ) × (n ≤ length told) × (new ≡ Some (drop n told)) × ((r ≡ Err TooLong) ↔ (MAX_INPUT < n))
  piece-told told is_told =
      let part = Gives-told told (before ++ piece.given) old new is_told gives in
      let P : ℕ → Type 0 = λ n. (r ≡ Err TooLong) ↔ (MAX_INPUT < n) in (
        length (before ++ piece.given),
        part.0,
        part.1,
        subst P (sym (length-append before piece.given)) piece.too_long,
      )
