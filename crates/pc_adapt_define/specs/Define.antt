-- An import of a module of adapters as a definition of the graph.
use Rattle.std.specs.Prelude.{◌≡◌, ◌⊎◌, ◌+◌, Bool, true, false, List, [], ◌∷◌, ◌++◌, option_map, ℕ, if◌then◌else◌}
use Rattle.std.specs.List.{AllZip}
use Rattle.pc_numbers.specs.declared.module_entity.ModuleInternedTypeIndex.{ModuleInternedTypeIndex}
use Rattle.pc_numbers.specs.declared.runtime.TrampolineIndex.{TrampolineIndex}
use Rattle.pc_spec_plan.specs.CoreValue.{CoreValue}
use Rattle.pc_trampoline.specs.declared.part.Mark.{Mark}
use Rattle.pc_trampoline.specs.declared.part.Mark.TheVariants as mark
use Rattle.pc_dfg.specs.declared.core_def.CoreDef.{CoreDef}
use Rattle.pc_dfg.specs.declared.core_def.CoreDef.TheVariants as def
use Rattle.pc_dfg.specs.declared.dfg.ComponentDfg.{ComponentDfg}
use Rattle.pc_dfg.specs.Held.{IsHeld, AreHeld}
use Rattle.pc_dfg.specs.Means.{Means}
use Rattle.pc_dfg.specs.Names.{if_any, Thing, OneNames}
use Rattle.pc_dfg.specs.Numbers.{memory_def}
use Rattle.pc_adapt.specs.declared.import.Import.{Import}
use Rattle.pc_adapt.specs.declared.import.Import.TheVariants as import
use Rattle.pc_adapt.specs.Planned.{HasValue}
use Rattle.pc_adapt_define.specs.Adds.{Adds, IsFull, IsFullFor, one_if}
use Rattle.pc_adapt_define.specs.Only.{AddsOnly}

-- the definitions in an import
abbrev pub in_import : Import → List CoreDef
in_import (import.CoreDef d) = d ∷ []
in_import (import.Transcode op from from64 to to64) = memory_def from ∷ memory_def to ∷ []
in_import (import.PrepareCall m) = if_any (option_map memory_def m)
in_import (import.StartCall c p) = if_any c ++ if_any p
in_import i = []

-- whether an import is a helper
abbrev pub is_helper : Import → Bool
is_helper (import.CoreDef d) = false
is_helper i = true

-- whether a module takes a definition from what there is: an export of a core instance, an intrinsic or an adapter.
-- Flags and helpers are there for it
abbrev pub is_taken : CoreDef → Bool
is_taken (def.Export e) = true
is_taken (def.InstanceFlags c) = false
is_taken (def.Trampoline t) = false
is_taken (def.UnsafeIntrinsic s i) = true
is_taken (def.Adapter a) = true

-- a definition is a trampoline
abbrev pub IsTrampoline : CoreDef → Type 0
IsTrampoline d = (t : TrampolineIndex) × (d ≡ def.Trampoline t)

-- a definition of the second graph stands for an import to the first one, with helpers under this core signature
pub record IsDefined (g h : ComponentDfg) (s : ModuleInternedTypeIndex) (i : Import) (d : CoreDef) : Type 0 where
  -- it is the definition in the import, or a trampoline for a helper
  pub form : (i ≡ import.CoreDef d) ⊎ ((is_helper i ≡ true) × IsTrampoline d)
  -- its number is held
  pub held : IsHeld h d
  -- it has the value of the import
  pub value : (v : CoreValue Mark) → HasValue g (mark.Signature s) i v → Means h d v
  -- it names nothing but what the definitions in the import named
  pub names : (y : Thing) → AreHeld g → OneNames h (d ∷ []) y → OneNames g (in_import i) y

-- how many memories an import has slots for
abbrev pub memories_in : Import → ℕ
memories_in (import.Transcode op from from64 to to64) = 2
memories_in (import.PrepareCall m) = one_if m
memories_in i = 0

-- how many callbacks
abbrev pub callbacks_in : Import → ℕ
callbacks_in (import.StartCall c p) = one_if c
callbacks_in i = 0

-- how many post-return functions
abbrev pub post_returns_in : Import → ℕ
post_returns_in (import.StartCall c p) = one_if p
post_returns_in i = 0

-- one trampoline for a helper
abbrev pub trampolines_in : Import → ℕ
trampolines_in i = if is_helper i then 1 else 0

-- so many of several
abbrev pub total : (Import → ℕ) → List Import → ℕ
total f [] = 0
total f (i ∷ is) = f i + total f is

-- a list that the slots of an import are in is full
abbrev pub HasFullSlots : ComponentDfg → Import → Type 0
HasFullSlots g (import.Transcode op from from64 to to64) = IsFull g.memories
HasFullSlots g (import.PrepareCall m) = IsFullFor m g.memories
HasFullSlots g (import.StartCall c p) = IsFullFor c g.callbacks ⊎ IsFullFor p g.post_returns
HasFullSlots g i = ⊥

-- so is a list that an import is put into, that of trampolines among them
abbrev pub HasFullList : ComponentDfg → Import → Type 0
HasFullList g i = HasFullSlots g i ⊎ ((is_helper i ≡ true) × IsFull g.trampolines)

-- one of the lists that imports are put into is full
abbrev pub HasNoRoom : ComponentDfg → Type 0
HasNoRoom g = (IsFull g.memories ⊎ IsFull g.callbacks) ⊎ (IsFull g.post_returns ⊎ IsFull g.trampolines)

-- definitions of the second graph, behind others, stand for imports to the first one, one by one
pub record AreDefined (g h : ComponentDfg) (s : ModuleInternedTypeIndex) (is : List Import)
    (before after : List CoreDef) : Type 0 where
  pub adds : Adds (total memories_in is) (total callbacks_in is) (total post_returns_in is) (total trampolines_in is)
      g h
  pub only : AddsOnly is g h
  pub defs : List CoreDef
  pub are : after ≡ before ++ defs
  pub each : AllZip (IsDefined g h s) is defs
