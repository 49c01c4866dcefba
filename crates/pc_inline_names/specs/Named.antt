-- The names of a program, by number, and what has them.
use Rattle.std.specs.Prelude.{ℕ, List, [], ◌∷◌, Option, None, Some, map, slice_get, unwrap_or}
use Rattle.pc_numbers.specs.declared.component_entity.StaticComponentIndex.{StaticComponentIndex}
use Rattle.pc_entity.specs.Lists.{names_of}
use Rattle.pc_types.specs.declared.module_record.ModuleRecord.{ModuleRecord}
use Rattle.pc_types.specs.declared.parsed.CoreEntity.{CoreEntity}
use Rattle.pc_types.specs.declared.parsed.DeclType.{DeclType}
use Rattle.pc_types.specs.declared.parsed.DeclType.TheVariants as entry
use Rattle.pc_types.specs.declared.parsed.TypeTable.{TypeTable}
use Rattle.pc_parsed.specs.declared.payload.ItemKind.{ItemKind}
use Rattle.pc_local.specs.declared.item.LocalInitializer.{LocalInitializer}
use Rattle.pc_local.specs.declared.item.LocalInitializer.TheVariants as local
use Rattle.pc_local.specs.declared.item.Translation.{Translation}
use Rattle.pc_local.specs.Sound.{export_name}

-- the names of a program, each at its number, and what has them: its core modules, its type table and its bodies
pub record Named : Type 0 where
  pub texts : List (List ℕ)
  pub modules : List ModuleRecord
  pub table : TypeTable
  pub root : Translation
  pub bodies : List Translation

-- the nested body of this number; the root has none
abbrev pub nested_at : List Translation → Option StaticComponentIndex → Option Translation
nested_at bodies None = None
nested_at bodies (Some s) = slice_get bodies s.0

-- the body of this number, that of the root where there is none
abbrev pub body_at : List Translation → (root : Translation) → Option StaticComponentIndex → Translation
body_at bodies root s = unwrap_or (nested_at bodies s) root

-- the imports of a module type; another type has none
abbrev pub imports_of : DeclType → Option (List (List ℕ × List ℕ × CoreEntity))
imports_of (entry.Module imports exports) = Some imports
imports_of e = None

-- the names of the exports of a module type; another type has none of these
abbrev pub module_names : DeclType → List (List ℕ)
module_names (entry.Module imports exports) = names_of exports
module_names e = []

-- the name of an argument of a component instance
abbrev pub argument_name : List ℕ × ItemKind × ℕ → List ℕ
argument_name a = a.0

-- the names under which an item finds or puts something, in order. An export has its name among those of its body
unfoldable pub item_names : LocalInitializer → List (List ℕ)
item_names (local.Import name ty) = name.name ∷ []
item_names (local.ModuleInstantiate m args) = names_of args
item_names (local.ModuleSynthetic items) = names_of items
item_names (local.ComponentInstantiate c args ty) = map argument_name args
item_names (local.ComponentSynthetic exports ty) = map export_name exports
item_names (local.AliasCoreExport k n name) = name ∷ []
item_names (local.AliasComponentExport k n name) = name ∷ []
item_names l = []
