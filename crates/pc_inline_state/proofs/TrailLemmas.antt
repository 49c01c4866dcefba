-- Trails of changes, one after another.
use Rattle.std.proofs.Common.{◌≡◌, List, refl, ap, ◌∙◌}
use Rattle.pc_types_lists.specs.Known.{resource_of}
use Rattle.pc_types_lists.specs.Types.{Resources}
use Rattle.pc_inline_state.specs.declared.frame.Change.{Change}
use Rattle.pc_inline_state.specs.Trails.{Trails, undone}

-- nothing was changed
pub trails_refl : (cs : List Change) (k : Resources) → Trails cs k cs k
trails_refl cs k = record { known = λ n. refl; current = refl }

-- what was changed, and then more
pub trails_trans : (a : List Change) (i : Resources) (b : List Change) (j : Resources) (c : List Change) (k : Resources)
    → Trails a i b j → Trails b j c k → Trails a i c k
trails_trans a i b j c k first second = record {
  known = λ n. second.known n ∙ first.known n;
  current = second.current ∙ first.current;
}

-- the changes are the same ones, and so are the resources
pub trails_same : (a : List Change) (i : Resources) (b : List Change) (j : Resources) → b ≡ a → j ≡ i → Trails a i b j
trails_same a i b j changes same = record {
  known = λ n x. undone (changes x) (resource_of (same x).known) n;
  current = ap (λ (r : Resources). r.current) same;
}
