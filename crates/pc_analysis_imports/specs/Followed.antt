-- What the arguments of core instances are, as they are found from the front of a plan to its back.
use Rattle.std.specs.Prelude.{ℕ, ◌-◌, List, [], ◌∷◌, ◌++◌, map, Option, None, Some, slice_get, nat_lt}
use Rattle.std.specs.Prelude.{if◌then◌else◌}
use Rattle.pc_numbers.specs.declared.entity_index.EntityIndex.{EntityIndex}
use Rattle.pc_numbers.specs.declared.component_entity.StaticModuleIndex.{StaticModuleIndex}
use Rattle.pc_types.specs.declared.module_record.ModuleRecord.{ModuleRecord}
use Rattle.pc_types.specs.declared.parsed.CoreKind.{CoreKind}
use Rattle.pc_types.specs.Record.{defined, import_place, imported, index_kind, index_number}
use Rattle.pc_info.specs.declared.core_def.CoreDef.{CoreDef}
use Rattle.pc_info.specs.declared.core_def.CoreDef.TheVariants as def
use Rattle.pc_info.specs.declared.core_def.ExportItem.{ExportItem}
use Rattle.pc_info.specs.declared.core_def.ExportItem.TheVariants as item
use Rattle.pc_info.specs.declared.initializer.GlobalInitializer.{GlobalInitializer}
use Rattle.pc_info.specs.declared.initializer.GlobalInitializer.TheVariants as init
use Rattle.pc_info.specs.declared.initializer.InstantiateModule.{InstantiateModule}
use Rattle.pc_info.specs.declared.initializer.InstantiateModule.TheVariants as module_source
use Rattle.pc_analysis_imports.specs.declared.source.Instance.{Instance}
use Rattle.pc_analysis_imports.specs.declared.source.Instance.TheVariants as instance
use Rattle.pc_analysis_imports.specs.declared.source.Source.{Source}
use Rattle.pc_analysis_imports.specs.declared.source.Source.TheVariants as source

-- what an import that a module exports again is, from what it is given: an entity that a module defines stays one
abbrev pub seen_through : Option Source → Source
seen_through (Some (source.Defined m k n)) = source.Defined m k n
seen_through s = source.Unknown

-- the entity of a kind and a number that a module defines, if it defines it; the imported ones have the first numbers
abbrev pub numbered_source : StaticModuleIndex → ModuleRecord → CoreKind → (number : ℕ) → Source
numbered_source m r k n =
    if nat_lt n (imported r k) then source.Unknown
    else (if nat_lt (n - imported r k) (defined r k) then source.Defined m k (n - imported r k) else source.Unknown)

-- the same of an entity
abbrev pub defined_source : StaticModuleIndex → ModuleRecord → EntityIndex → Source
defined_source m r e = numbered_source m r (index_kind e) (index_number e)

-- what an entity of an instance is, by the place of its import
abbrev pub placed_source : StaticModuleIndex → ModuleRecord → (given : List Source) → EntityIndex → (place : Option ℕ)
    → Source
placed_source m r given e None = defined_source m r e
placed_source m r given e (Some place) = seen_through (slice_get given place)

-- what an entity of an instance is that is given these for its imports
abbrev pub entity_source : StaticModuleIndex → ModuleRecord → (given : List Source) → EntityIndex → Source
entity_source m r given e = placed_source m r given e (import_place r e)

-- the same, if the module is held
abbrev pub held_source : StaticModuleIndex → Option ModuleRecord → (given : List Source) → EntityIndex → Source
held_source m None given e = source.Unknown
held_source m (Some r) given e = entity_source m r given e

module _ (records : List ModuleRecord) where
  -- what an item of an instance of a module is
  abbrev pub item_in : StaticModuleIndex → (given : List Source) → ExportItem EntityIndex → Source
  item_in m given (item.Index e) = held_source m (slice_get records m.0) given e
  item_in m given (item.Name name) = source.Unknown

  -- what an item of a core instance is; those of the host can't be seen through
  abbrev pub item_source : Option Instance → ExportItem EntityIndex → Source
  item_source (Some (instance.Static m given)) i = item_in m given i
  item_source x i = source.Unknown

  -- what a definition is, where these instances were made before
  unfoldable pub source_of : List Instance → CoreDef → Source
  source_of instances (def.Export e) = item_source (slice_get instances e.instance.0) e.item
  source_of instances (def.InstanceFlags c) = source.Flags c
  source_of instances (def.Trampoline t) = source.Trampoline t
  source_of instances (def.UnsafeIntrinsic i) = source.Intrinsic i

  -- the instance that is made of a module
  abbrev pub instance_of : List Instance → InstantiateModule → Instance
  instance_of instances (module_source.Static m args) = instance.Static m (map (source_of instances) args)
  instance_of instances (module_source.Import r args) = instance.Host

  -- the instances after a step
  abbrev pub with_step : List Instance → GlobalInitializer → List Instance
  with_step instances (init.InstantiateModule s c) = instances ++ instance_of instances s ∷ []
  with_step instances i = instances

  -- the instances after these steps
  unfoldable pub instances_after : List Instance → List GlobalInitializer → List Instance
  instances_after instances [] = instances
  instances_after instances (i ∷ is) = instances_after (with_step instances i) is
