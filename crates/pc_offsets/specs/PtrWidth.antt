-- The sizes of a pointer.
use Rattle.std.specs.Prelude.{◌≡◌, ◌⊎◌, ℕ}
use Rattle.std.proofs.Common.{inl, inr, refl}
use Rattle.pc_offsets.specs.declared.ptr_size.PtrWidth.{PtrWidth}
use Rattle.pc_offsets.specs.declared.ptr_size.PtrWidth.TheVariants as width

-- the bytes of a pointer of each width
abbrev pub bytes_of : PtrWidth → ℕ
bytes_of width.Four = 4
bytes_of width.Eight = 8

-- each width is one of the two
pub four_or_eight_of : (w : PtrWidth) → (bytes_of w ≡ 4) ⊎ (bytes_of w ≡ 8)
four_or_eight_of width.Four = inl refl
four_or_eight_of width.Eight = inr refl
