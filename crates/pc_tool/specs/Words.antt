-- The commands that words name.
use Rattle.std.specs.Prelude.{ℕ, List, [], ◌∷◌, Option, Some, None, codes, if◌then◌else◌}
use Rattle.std.specs.Str.{bytes_eq}
use Rattle.pc_generate.specs.Count.{count_in}
use Rattle.pc_tool.specs.declared.words.Command.{Command}
use Rattle.pc_tool.specs.declared.words.Command.TheVariants as command

-- each of the words `translate`, `context` and `facts`, where it stands alone, names a command, and no other words do
abbrev pub command_of : List (List ℕ) → Option Command
command_of [] = None
command_of (word ∷ []) =
    if bytes_eq word (codes "translate") then Some command.Translate
    else (if bytes_eq word (codes "context") then Some command.Context
    else (if bytes_eq word (codes "facts") then Some command.Facts else None))
command_of (word ∷ next ∷ more) = None

-- the words `gen` and a number ask for a generated chain of that length, and no other words do
abbrev pub chain_of : List (List ℕ) → Option ℕ
chain_of (word ∷ number ∷ []) = if bytes_eq word (codes "gen") then count_in number else None
chain_of words = None
