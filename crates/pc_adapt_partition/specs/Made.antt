-- A graph that has got the modules of its adapters.
use Rattle.std.specs.Prelude.{◌≡◌, ◌⊎◌, ◌<◌, ℕ, Bool, ◌+◌, ◌*◌, ◌≤◌, List, [], ◌∷◌, ◌++◌, All, length, map}
use Rattle.pc_entity.specs.Lists.{AreDistinct}
use Rattle.pc_numbers.specs.declared.component_entity.StaticModuleIndex.{StaticModuleIndex}
use Rattle.pc_info.specs.declared.module.ModuleTranslation.{ModuleTranslation}
use Rattle.pc_dfg.specs.declared.adapter.Adapter.{Adapter}
use Rattle.pc_dfg.specs.declared.core_def.CoreDef.{CoreDef}
use Rattle.pc_dfg.specs.declared.dfg.ComponentDfg.{ComponentDfg}
use Rattle.pc_dfg.specs.Grows.{Grows}
use Rattle.pc_dfg.specs.Ordered.{IsOrdered}
use Rattle.pc_spec_adapt.specs.Asked.{FunctionFacts}
use Rattle.pc_adapt_define.specs.Only.{AddsOwn}
use Rattle.pc_adapt_partition.specs.Gathered.{AreGiven}
use Rattle.pc_adapt_partition.specs.Parts.{functions_from, functions_in, module_for, modules_of, parts_of, places_of}
use Rattle.pc_adapt_partition.specs.Parts.{slice, total_imports}

-- the second graph is the first one with modules of adapters, and with what stands for their imports, at most so much for
-- so many adapters
pub record Keeps (many : ℕ) (g h : ComponentDfg) : Type 0 where
  pub grows : Grows g h
  -- its order is kept
  pub ordered : IsOrdered g → IsOrdered h
  -- all but these lists is as it was
  pub rest : h ≡ record g {
    memories = h.memories;
    callbacks = h.callbacks;
    post_returns = h.post_returns;
    trampolines = h.trampolines;
    adapter_modules = h.adapter_modules;
    adapter_partitionings = h.adapter_partitionings;
  }
  -- slots and trampolines are added only for adapters of the first one
  pub own : AddsOwn g h
  pub few_memories : length h.memories ≤ length g.memories + 9 * many
  pub few_callbacks : length h.callbacks ≤ length g.callbacks + many
  pub few_post_returns : length h.post_returns ≤ length g.post_returns + many
  pub few_trampolines : length h.trampolines ≤ length g.trampolines + 12 * many

-- a list of graph or modules that is added to has more entries than it may have
pub data IsPast (g : ComponentDfg) (ms : List ModuleTranslation) : Type 0 where
  of_memories : 4294967294 < length g.memories → IsPast g ms
  of_callbacks : 4294967294 < length g.callbacks → IsPast g ms
  of_post_returns : 4294967294 < length g.post_returns → IsPast g ms
  of_trampolines : 4294967294 < length g.trampolines → IsPast g ms
  of_adapter_modules : 4294967294 < length g.adapter_modules → IsPast g ms
  of_adapters : 4294967294 < length g.adapter_partitionings → IsPast g ms
  of_modules : 4294967294 < length ms → IsPast g ms

-- modules are added for at most so many adapters, each of which is in one
pub record AddsFew (many : ℕ) (ms ns : List ModuleTranslation) (h : ComponentDfg) : Type 0 where
  pub few_modules : length ns ≤ length ms + many
  pub few_adapter_modules : length h.adapter_modules ≤ many
  pub all_adapters : length h.adapter_partitionings ≡ many

-- no module that is added imports more than there are numbers
pub record AddsShort (ms ns : List ModuleTranslation) : Type 0 where
  pub added : List ModuleTranslation
  pub modules : ns ≡ ms ++ added
  pub short : All (λ (m : ModuleTranslation). length m.«module».imports ≤ 4294967294) added

-- at most so much is added to a graph and to modules for so many adapters, and so many modules of them
pub record AddsAtMost (many groups : ℕ) (g h : ComponentDfg) (ms ns : List ModuleTranslation) : Type 0 where
  pub few_memories : length h.memories ≤ length g.memories + 9 * many
  pub few_callbacks : length h.callbacks ≤ length g.callbacks + many
  pub few_post_returns : length h.post_returns ≤ length g.post_returns + many
  pub few_trampolines : length h.trampolines ≤ length g.trampolines + 12 * many
  pub few_adapter_modules : length h.adapter_modules ≤ length g.adapter_modules + groups
  pub few_adapters : length h.adapter_partitionings ≤ length g.adapter_partitionings + many
  pub few_modules : length ns ≤ length ms + groups

-- no two modules of adapters are one core module, and no two adapters are one function of one module
pub record AreModulesApart (h : ComponentDfg) : Type 0 where
  pub modules : AreDistinct (map (λ (x : StaticModuleIndex × List CoreDef). x.0) h.adapter_modules)
  pub adapters : AreDistinct h.adapter_partitionings

-- the sum of numbers
abbrev pub sum_of : List ℕ → ℕ
sum_of [] = 0
sum_of (l ∷ ls) = l + sum_of ls

-- lists of these lengths, which a list consists of
abbrev pub cut : {A : Type 0} → List ℕ → (first : ℕ) → List A → List (List A)
cut [] first xs = []
cut (l ∷ ls) first xs = slice first l xs ∷ cut ls (first + l) xs

-- The facts of the types of each adapter, and whether it is transparent.
module _ (lift lower : ℕ → FunctionFacts) (transparent : ℕ → Bool) where
  -- the arguments of modules of adapters, where the first one is a core module of this number, and its first adapter has
  -- this number
  abbrev pub AreArguments : (g h : ComponentDfg) → (core_module number : ℕ) → List (List Adapter)
      → List (StaticModuleIndex × List CoreDef) → Type 0
  AreArguments g h s n [] [] = Unit {0}
  AreArguments g h s n [] (m ∷ ms) = ⊥
  AreArguments g h s n (xs ∷ groups) [] = ⊥
  AreArguments g h s n (xs ∷ groups) (m ∷ ms) =
      (m.0.0 ≡ s) × AreGiven g h (parts_of lift lower transparent n xs) m.1
      × AreArguments g h (s + 1) (n + length xs) groups ms

  -- the module of adapters, the first of which has this number, is added to modules and graph
  pub record AddsModule (g h : ComponentDfg) (ms ns : List ModuleTranslation) (number : ℕ) (xs : List Adapter)
      : Type 0 where
    pub keeps : Keeps (length xs) g h
    pub modules : ns ≡ ms ++ module_for number (parts_of lift lower transparent number xs) ∷ []
    pub args : List CoreDef
    pub adapter_modules : h.adapter_modules ≡ g.adapter_modules ++ (record { 0 = length ms }, args) ∷ []
    pub given : AreGiven g h (parts_of lift lower transparent number xs) args
    pub places : h.adapter_partitionings ≡ g.adapter_partitionings
        ++ functions_from (length g.adapter_modules) (functions_in number (parts_of lift lower transparent number xs))
        (length xs)
    pub room : total_imports (parts_of lift lower transparent number xs) ≤ 4294967294

  -- one of these groups has more imports than a module may have, where the first adapter has this number
  abbrev pub HasLong : (number : ℕ) → List (List Adapter) → Type 0
  HasLong n [] = ⊥
  HasLong n (xs ∷ groups) =
      (4294967294 < total_imports (parts_of lift lower transparent n xs)) ⊎ HasLong (n + length xs) groups

  -- the modules of groups of these lengths, which are adapters in order, are added to modules and graph
  pub record Makes (g h : ComponentDfg) (ms ns : List ModuleTranslation) (lengths : List ℕ) : Type 0 where
    pub keeps : Keeps (sum_of lengths) g h
    pub modules : ns ≡ ms ++ modules_of lift lower transparent 0 (cut lengths 0 g.adapters)
    pub adapter_modules : List (StaticModuleIndex × List CoreDef)
    pub has_modules : h.adapter_modules ≡ g.adapter_modules ++ adapter_modules
    pub given : AreArguments g h (length ms) 0 (cut lengths 0 g.adapters) adapter_modules
    pub places : h.adapter_partitionings ≡ g.adapter_partitionings
        ++ places_of lift lower transparent (length g.adapter_modules) 0 (cut lengths 0 g.adapters)
    pub room : ¬ (HasLong 0 (cut lengths 0 g.adapters))
