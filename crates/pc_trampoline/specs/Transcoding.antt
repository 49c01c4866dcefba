-- Transcodings by number, and what is known of the encodings.
use Rattle.std.specs.Prelude.{ℕ, Bool, true, false, List, [], ◌∷◌, codes}
use Rattle.pc_trampoline.specs.declared.transcode.FixedEncoding.{FixedEncoding}
use Rattle.pc_trampoline.specs.declared.transcode.FixedEncoding.TheVariants as encoding
use Rattle.pc_trampoline.specs.declared.transcode.Transcode.{Transcode}
use Rattle.pc_trampoline.specs.declared.transcode.Transcode.TheVariants as op

-- the number of a transcoding, by which the table of their words has it
abbrev pub place_of : Transcode → ℕ
place_of (op.Copy encoding.Utf8) = 0
place_of (op.Copy encoding.Utf16) = 1
place_of (op.Copy encoding.Latin1) = 2
place_of op.Latin1ToUtf16 = 3
place_of op.Latin1ToUtf8 = 4
place_of op.Utf16ToCompactProbablyUtf16 = 5
place_of op.Utf16ToCompactUtf16 = 6
place_of op.Utf16ToLatin1 = 7
place_of op.Utf16ToUtf8 = 8
place_of op.Utf8ToCompactUtf16 = 9
place_of op.Utf8ToLatin1 = 10
place_of op.Utf8ToUtf16 = 11

-- what the transcodings do, in words, each at its number
abbrev pub descriptions : List (List ℕ)
descriptions =
    codes "utf8-to-utf8" ∷ codes "utf16-to-utf16" ∷ codes "latin1-to-latin1" ∷ codes "latin1-to-utf16"
    ∷ codes "latin1-to-utf8" ∷ codes "utf16-to-compact-probably-utf16" ∷ codes "utf16-to-compact-utf16"
    ∷ codes "utf16-to-latin1" ∷ codes "utf16-to-utf8" ∷ codes "utf8-to-compact-utf16" ∷ codes "utf8-to-latin1"
    ∷ codes "utf8-to-utf16" ∷ []

-- how many bytes a unit of an encoding takes
abbrev pub width_of : FixedEncoding → ℕ
width_of encoding.Utf8 = 1
width_of encoding.Utf16 = 2
width_of encoding.Latin1 = 1

-- what the address of a string is a multiple of: a latin1 string may become a utf16 one where it stands
abbrev pub alignment_of : FixedEncoding → ℕ
alignment_of encoding.Utf8 = 1
alignment_of encoding.Utf16 = 2
alignment_of encoding.Latin1 = 2

-- how many bits the addresses of a memory have
abbrev pub address_bits : Bool → ℕ
address_bits true = 64
address_bits false = 32
