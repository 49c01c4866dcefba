-- What follows the symbol of a trampoline.
use Rattle.std.specs.Prelude.{ℕ, List, ◌++◌, map}
use Rattle.std.specs.List.{flat_map}
use Rattle.pc_numbers.specs.declared.runtime.LoweredIndex.{LoweredIndex}
use Rattle.pc_numbers.specs.declared.runtime.OptionsIndex.{OptionsIndex}
use Rattle.pc_spec_plan.specs.Text.{number, part}
use Rattle.pc_trampoline.specs.declared.part.Head.{Head}
use Rattle.pc_trampoline.specs.declared.part.Head.TheVariants as head
use Rattle.pc_trampoline.specs.Parts.{list_of}
use Rattle.pc_trampoline.specs.View.{PlanParts, part_by, plan_numbers}

-- the numbers of a head and the text of the parts behind it; those of a lowering aren't printed, since it has none
abbrev pub after_head : Head LoweredIndex OptionsIndex → (parts : List ℕ) → List ℕ
after_head (head.Lowering index ty options) parts = number index.0 ++ number options.0
after_head (head.Builtin c) parts = number c.0 ++ parts
after_head head.Helper parts = parts
after_head (head.Transcoding op from64 to64) parts = parts
after_head (head.Trapping code) parts = parts

-- what follows the symbol of what a trampoline is made of
abbrev pub after_symbol : PlanParts → List ℕ
after_symbol made = after_head made.head (flat_map part (map (part_by plan_numbers) (list_of made.parts)))
