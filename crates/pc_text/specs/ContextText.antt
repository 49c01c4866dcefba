-- The text of how many bytes the context of a plan takes.
use Rattle.std.specs.Prelude.{ℕ, List, ◌++◌, Option, codes}
use Rattle.pc_spec_plan.specs.Text.{line_end, maybe_number}

-- a line that begins with this head and ends with a size
abbrev pub size_line : (head : List ℕ) → (size : Option ℕ) → List ℕ
size_line head size = head ++ maybe_number size ++ line_end

-- the sizes with pointers of four bytes and of eight
abbrev pub context_text : (four eight : Option ℕ) → List ℕ
context_text four eight = size_line (codes "context 4") four ++ size_line (codes "context 8") eight
