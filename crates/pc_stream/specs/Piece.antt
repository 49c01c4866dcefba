-- What one read adds to the bytes that were read so far.
use Rattle.std.specs.Prelude.{◌≡◌, ◌↔◌, ℕ, ◌+◌, ◌<◌, List, [], ◌++◌, length, Bool, true, false, Option, Result, Ok, Err}
use Rattle.std.specs.Prelude.{OnOk}
use Rattle.pc_stream.specs.declared.whole.ReadEnd.{ReadEnd}
use Rattle.pc_stream.specs.declared.whole.ReadEnd.TheVariants.{TooLong}
use Rattle.pc_stream.specs.declared.whole.TheConstants.{MAX_INPUT}
use Rattle.pc_stream.specs.Stream.{Gives, IsAtEnd}

-- the source gave these bytes, which are added where the answer is Ok, and too many exactly where it is too long
pub record AddsPiece (old new : Option (List ℕ)) (before after : List ℕ) (result : Result Bool ReadEnd) : Type 0 where
  pub given : List ℕ
  pub front : Gives old new given
  pub added : OnOk result (after ≡ before ++ given)
  pub more : result ≡ Ok true → 0 < length given
  pub at_end : result ≡ Ok false → (given ≡ []) × IsAtEnd new
  pub too_long : (result ≡ Err TooLong) ↔ (MAX_INPUT < length before + length given)
