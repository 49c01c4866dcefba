-- What the program `plan` writes for words that name no command.
use Rattle.std.specs.Prelude.{ℕ, List, ◌++◌, codes}
use Rattle.pc_spec_plan.specs.Text.{line_end}

-- the words of each command
abbrev pub usage : List ℕ
usage = codes "usage: plan translate | plan context | plan facts | plan gen N" ++ line_end
