-- Resource numbers that a component instance changed, and how they are taken back.
use Rattle.std.specs.Prelude.{◌≡◌, ◌==◌, ℕ, List, [], ◌∷◌, Option, if◌then◌else◌}
use Rattle.pc_numbers.specs.declared.runtime.ResourceIndex.{ResourceIndex}
use Rattle.pc_types_lists.specs.Known.{resource_of}
use Rattle.pc_types_lists.specs.Types.{Resources}
use Rattle.pc_inline_state.specs.declared.frame.Change.{Change}

-- what a number stands for when changes are taken back, the oldest of which stands first: what it stood for before the
-- first of them that changed it
abbrev pub undone : List Change → (ℕ → Option ResourceIndex) → ℕ → Option ResourceIndex
undone [] known n = known n
undone (c ∷ cs) known n = if n == c.number then c.was else undone cs known n

-- what is known changed by these further changes alone: taken back, they leave what the earlier ones leave; and types
-- are converted for the same component instance
pub record Trails (before : List Change) (old : Resources) (after : List Change) (new : Resources) : Type 0 where
  pub known : (n : ℕ) → undone after (resource_of new.known) n ≡ undone before (resource_of old.known) n
  pub current : new.current ≡ old.current
