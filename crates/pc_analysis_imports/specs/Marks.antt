-- Marks on entities and flags.
use Rattle.std.specs.Prelude.{List}
use Rattle.std.specs.Ordering.{nat_cmp}
use Rattle.std.specs.FinSet as set
use Rattle.pc_analysis_imports.specs.declared.ambiguous.Hidden.{Hidden}

-- the component instances whose flags are marked, and what is marked of each module
pub record Marks : Type 0 where
  pub flags : set.FinSet nat_cmp
  pub modules : List Hidden
