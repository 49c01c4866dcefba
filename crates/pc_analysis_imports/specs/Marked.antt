-- Which entities and flags are given to modules that may name them otherwise.
use Rattle.std.specs.Prelude.{ℕ, Bool, true, false, List, [], ◌∷◌, map, flat_map, replicate, Option, None, Some, slice_get, slice_set}
use Rattle.std.specs.Prelude.{if◌then◌else◌}
use Rattle.std.specs.FinSet as set
use Rattle.pc_types.specs.declared.module_record.ModuleRecord.{ModuleRecord}
use Rattle.pc_types.specs.declared.parsed.CoreKind.{CoreKind}
use Rattle.pc_types.specs.declared.parsed.CoreKind.TheVariants as kind
use Rattle.pc_info.specs.declared.core_def.CoreDef.{CoreDef}
use Rattle.pc_info.specs.declared.initializer.GlobalInitializer.{GlobalInitializer}
use Rattle.pc_info.specs.declared.initializer.GlobalInitializer.TheVariants as init
use Rattle.pc_info.specs.declared.initializer.InstantiateModule.{InstantiateModule}
use Rattle.pc_info.specs.declared.initializer.InstantiateModule.TheVariants as module_source
use Rattle.pc_analysis_imports.specs.declared.ambiguous.Hidden.{Hidden}
use Rattle.pc_dfg.specs.declared.instantiations.AbstractInstantiations.{AbstractInstantiations}
use Rattle.pc_dfg.specs.declared.instantiations.AbstractInstantiations.TheVariants as abstract
use Rattle.pc_analysis_imports.specs.declared.source.Instance.{Instance}
use Rattle.pc_analysis_imports.specs.declared.source.Source.{Source}
use Rattle.pc_analysis_imports.specs.declared.source.Source.TheVariants as source
use Rattle.pc_analysis_imports.specs.Followed.{source_of}
use Rattle.pc_analysis_imports.specs.Marks.{Marks}

-- nothing of a module is marked
abbrev pub none_hidden : Hidden
none_hidden = record { globals = set.empty; memories = set.empty; tables = set.empty }

-- nothing is marked of so many modules
abbrev pub none_marked : (modules : ℕ) → Marks
none_marked modules = record { flags = set.empty; modules = replicate modules none_hidden }

-- one entity of a kind that a module defines is marked, if it holds data
abbrev pub with_hidden : Hidden → CoreKind → (n : ℕ) → Hidden
with_hidden h kind.Global n = record h { globals = set.insert h.globals n }
with_hidden h kind.Memory n = record h { memories = set.insert h.memories n }
with_hidden h kind.Table n = record h { tables = set.insert h.tables n }
with_hidden h k n = h

-- whether an entity of a kind is marked
abbrev pub is_hidden : Hidden → CoreKind → (n : ℕ) → Bool
is_hidden h kind.Global n = set.contains h.globals n
is_hidden h kind.Memory n = set.contains h.memories n
is_hidden h kind.Table n = set.contains h.tables n
is_hidden h k n = false

-- whether an entity is marked of a module that is held
abbrev pub is_hidden_in : Option Hidden → CoreKind → (n : ℕ) → Bool
is_hidden_in None k n = false
is_hidden_in (Some h) k n = is_hidden h k n

-- one entity more of a module, if the module is held
abbrev pub with_hidden_at : List Hidden → (m : ℕ) → CoreKind → (n : ℕ) → Option Hidden → List Hidden
with_hidden_at hs m k n None = hs
with_hidden_at hs m k n (Some h) = slice_set hs m (with_hidden h k n)

-- one source more
abbrev pub with_source : Marks → Source → Marks
with_source s (source.Defined m k n) =
    record { flags = s.flags; modules = with_hidden_at s.modules m.0 k n (slice_get s.modules m.0) }
with_source s (source.Flags c) = record { flags = set.insert s.flags c.0; modules = s.modules }
with_source s x = s

-- these sources more
unfoldable pub with_sources : Marks → List Source → Marks
with_sources s [] = s
with_sources s (x ∷ xs) = with_sources (with_source s x) xs

-- whether a module is always given the same
abbrev pub is_one : Option AbstractInstantiations → Bool
is_one (Some (abstract.One args)) = true
is_one w = false

module _ (records : List ModuleRecord) (instances : List Instance) where
  -- what arguments of a host module are
  abbrev pub host_sources : List (List ℕ × List (List ℕ × CoreDef)) → List Source
  host_sources args = flat_map (λ a. map (λ b. source_of records instances b.1) a.1) args

  module _ (ways : List AbstractInstantiations) where
    -- what a module is given that isn't always given the same
    abbrev pub shown_by : InstantiateModule → List Source
    shown_by (module_source.Static m args) =
        if is_one (slice_get ways m.0) then [] else map (source_of records instances) args
    shown_by (module_source.Import r args) = host_sources args

    -- what is given in a step to a module that may name it otherwise
    unfoldable pub shown_in : GlobalInitializer → List Source
    shown_in (init.InstantiateModule s c) = shown_by s
    shown_in i = []

    -- what is given in this way in all these steps
    unfoldable pub shown_in_all : List GlobalInitializer → List Source
    shown_in_all steps = flat_map shown_in steps
