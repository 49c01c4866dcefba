-- What a last piece leaves, where it may be refused, and pieces one after the other.
use Rattle.std.proofs.Common.{◌≡◌, ℕ, List, ◌++◌, Result, Ok, Err, OnOk, append_assoc}

-- what holds once the last piece stands, by what holds of the piece
pub then_holds : {T E P Q : Type 0} (r : Result T E) → OnOk r P → (P → Q) → OnOk r Q
then_holds (Ok x) p f = f p
then_holds (Err e) p f = p

-- eight pieces one by one are a line of eight pieces
pub eight_pieces : (x a b c d e f g h : List ℕ) →
    x ++ a ++ b ++ c ++ d ++ e ++ f ++ g ++ h ≡ x ++ (a ++ b ++ c ++ d ++ e ++ f ++ g ++ h)
eight_pieces x a b c d e f g h = simp append_assoc
