-- A graph whose adapters have their modules: as few as can be.
use Rattle.std.specs.Prelude.{◌<◌, ℕ, List, length}
use Rattle.pc_info.specs.declared.module.ModuleTranslation.{ModuleTranslation}
use Rattle.pc_types.specs.TypeTree.{TypeTree}
use Rattle.pc_dfg.specs.declared.dfg.ComponentDfg.{ComponentDfg}
use Rattle.pc_spec_adapt.specs.Asked.{FunctionFacts, function_facts}
use Rattle.pc_spec_adapt.specs.Split.{IsFewest}
use Rattle.pc_adapt.specs.Imports.{is_transparent}
use Rattle.pc_adapt_groups.specs.Lengths.{runs_from}
use Rattle.pc_adapt_groups.specs.Needs.{Needs}
use Rattle.pc_adapt_partition.specs.Made.{HasLong, IsPast, Makes, cut}

-- a list of slots or trampolines has more entries than it may have
pub data HasFullSlots (g : ComponentDfg) : Type 0 where
  of_memories : 4294967294 < length g.memories → HasFullSlots g
  of_callbacks : 4294967294 < length g.callbacks → HasFullSlots g
  of_post_returns : 4294967294 < length g.post_returns → HasFullSlots g
  of_trampolines : 4294967294 < length g.trampolines → HasFullSlots g

-- the facts of the types of each adapter, by the trees of the types
abbrev pub facts_by : (ℕ → TypeTree) → ℕ → FunctionFacts
facts_by trees a = function_facts (trees a)

module _ (lift lower : ℕ → FunctionFacts) where
  -- the second graph, and the second list of modules, have got a module for each of the fewest groups of adapters
  pub record Partitions (g h : ComponentDfg) (ms ns : List ModuleTranslation) : Type 0 where
    pub lengths : List ℕ
    pub fewest : IsFewest (Needs g) (length g.adapters) (runs_from 0 lengths)
    pub makes : Makes lift lower (is_transparent g) g h ms ns lengths

  -- the second graph, or the second list of modules, has a list that is past its bound, or one of the fewest groups of
  -- adapters has more imports than a module may have
  pub data HasTooMany (g h : ComponentDfg) (ns : List ModuleTranslation) : Type 0 where
    past : IsPast h ns → HasTooMany g h ns
    long : (lengths : List ℕ) → IsFewest (Needs g) (length g.adapters) (runs_from 0 lengths)
        → HasLong lift lower (is_transparent g) 0 (cut lengths 0 g.adapters) → HasTooMany g h ns
