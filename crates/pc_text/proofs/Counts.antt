-- The line of the counts, as a list of numbers.
use Rattle.std.proofs.Common.{◌≡◌, ℕ, List, [], ◌∷◌, ◌++◌, append_assoc}
use Rattle.std.specs.Prelude.{codes}
use Rattle.std.specs.List.{flat_map}
use Rattle.pc_spec_plan.specs.PlanView.{Counts}
use Rattle.pc_spec_plan.specs.Text.{counts_line, line_end, number}

-- the counts in the order of the line
abbrev pub numbers : Counts → List ℕ
numbers c =
    c.runtime_instances ∷ c.component_instances ∷ c.lowerings ∷ c.memories ∷ c.tables ∷ c.reallocs ∷ c.callbacks
    ∷ c.post_returns ∷ c.resources ∷ c.future_tables ∷ c.stream_tables ∷ c.error_context_tables ∷ []

-- twelve texts between two more, grouped in either way
grouped : (x a b c d e f g h i j k l z : List ℕ) →
    x ++ (a ++ (b ++ (c ++ (d ++ (e ++ (f ++ (g ++ (h ++ (i ++ (j ++ (k ++ (l ++ [])))))))))))) ++ z
    ≡ x ++ a ++ b ++ c ++ d ++ e ++ f ++ g ++ h ++ i ++ j ++ k ++ l ++ z
grouped x a b c d e f g h i j k l z = simp append_assoc

-- the line is made of its numbers
pub counts_line_is : (c : Counts) → codes "counts" ++ flat_map number (numbers c) ++ line_end ≡ counts_line c
counts_line_is c =
    grouped (codes "counts") (number c.runtime_instances) (number c.component_instances) (number c.lowerings)
    (number c.memories) (number c.tables) (number c.reallocs) (number c.callbacks) (number c.post_returns)
    (number c.resources) (number c.future_tables) (number c.stream_tables) (number c.error_context_tables) line_end
