-- How names are numbered, and what is kept by their numbers.
use Rattle.std.specs.Prelude.{◌≡◌, ◌≤◌, ◌+◌, ℕ, List, [], ◌∷◌, length, map, Option, None, Some, nat_eq, if◌then◌else◌}
use Rattle.std.specs.List.{AllZip}
use Rattle.pc_numbers.specs.declared.entity_index.EntityIndex.{EntityIndex}
use Rattle.pc_entity.specs.declared.string_pool.Atom.{Atom}
use Rattle.pc_entity.specs.Lists.{AreDistinct, Kept}
use Rattle.pc_types.specs.declared.module_record.ModuleRecord.{ModuleRecord}
use Rattle.pc_types.specs.declared.parsed.DeclType.{DeclType}
use Rattle.pc_types.specs.declared.parsed.TypeTable.{TypeTable}
use Rattle.pc_types_walk.specs.Names.{export_names}
use Rattle.pc_local.specs.declared.item.LocalInitializer.{LocalInitializer}
use Rattle.pc_local.specs.declared.item.LocalProgram.{LocalProgram}
use Rattle.pc_local.specs.declared.item.Translation.{Translation}
use Rattle.pc_local.specs.Sound.{export_name}
use Rattle.pc_inline_names.specs.declared.bodies.BodyNumbers.{BodyNumbers}
use Rattle.pc_inline_names.specs.declared.program_names.NameTables.{NameTables}
use Rattle.pc_inline_names.specs.declared.types.TypeNumbers.{TypeNumbers}
use Rattle.pc_inline_names.specs.Both.{Both}
use Rattle.pc_inline_names.specs.Lists.{Lists}
use Rattle.pc_inline_names.specs.Named.{imports_of, item_names, module_names}
use Rattle.pc_inline_names.specs.Numbers.{AreImportNumbers, AreNumbersOf, HasNumbers, numbered_value}

-- names of which each has one number
pub record AreNames (names : List (List ℕ)) : Type 0 where
  pub distinct : AreDistinct names
  pub few : length names ≤ 4294967295

-- names were added, and those that were there keep their numbers
pub record AddsNames (old new : List (List ℕ)) : Type 0 where
  pub kept : Kept old new
  pub names : AreNames new

-- the first place of a number among some numbers, counted from i
abbrev pub number_place : ℕ → Atom → List Atom → Option ℕ
number_place i n [] = None
number_place i n (m ∷ ms) = if nat_eq n.0 m.0 then Some i else number_place (i + 1) n ms

module _ (names : List (List ℕ)) where
  -- the list that is being made has the numbers of these names, behind these lists
  pub record IsMade (xs : List (List ℕ)) (lists : List (List Atom)) (x : Lists) : Type 0 where
    pub ended : x.ended ≡ lists
    pub numbers : AreNumbersOf names xs x.open_list

  -- the numbers of the names in each item, in order
  abbrev pub AreItemNumbers : List LocalInitializer → List (List Atom) → Type 0
  AreItemNumbers ls nss =
      AllZip (λ (l : LocalInitializer) (ns : List Atom). AreNumbersOf names (item_names l) ns) ls nss

  -- those of a body
  pub record AreBodyNumbers (tr : Translation) (x : BodyNumbers) : Type 0 where
    pub items : AreItemNumbers tr.initializers x.items.ended
    pub exports : AreNumbersOf names (map export_name tr.exports) x.exports

  -- those of the imports of a core module
  abbrev pub AreRecordNumbers : ModuleRecord → List (Atom × Atom) → Type 0
  AreRecordNumbers r ns = AreImportNumbers names r.imports ns

  -- the exports of a core module by number
  abbrev pub HasExports : ModuleRecord → List (Atom × EntityIndex) → Type 0
  HasExports r numbered = HasNumbers names r.exports numbered

  -- the numbers of an instance type or a module type: the names at the places, the places of the names, the imports,
  -- and the names of a module type's exports themselves
  pub record HasTypeNumbers (e : DeclType) (x : TypeNumbers) : Type 0 where
    pub exports : AreNumbersOf names (export_names e) x.exports
    pub places : (n : Atom) → numbered_value n x.places ≡ number_place 0 n x.exports
    pub imports : Both (AreImportNumbers names) (imports_of e) x.imports
    pub texts : x.names ≡ module_names e

  -- those of an entry of a table, where an entry that has none has no such names
  abbrev pub AreTypeNumbers : DeclType → Option TypeNumbers → Type 0
  AreTypeNumbers e None = (export_names e ≡ []) × (imports_of e ≡ None)
  AreTypeNumbers e (Some x) = HasTypeNumbers e x

  -- what is kept of an entry, and nothing where there is no entry
  pub data EntryHas : Option DeclType → Option TypeNumbers → Type 0 where
    no_entry : EntryHas None None
    an_entry : {e : DeclType} {x : Option TypeNumbers} → AreTypeNumbers e x → EntryHas (Some e) x

  -- all that is kept of a program and its table
  pub record AreTables (program : LocalProgram) (t : TypeTable) (x : NameTables) : Type 0 where
    pub imports : AllZip AreRecordNumbers program.modules x.imports
    pub exports : AllZip HasExports program.modules x.exports
    pub types : AllZip AreTypeNumbers t.types x.types
    pub root : AreItemNumbers program.root.initializers x.root.ended
    pub bodies : AllZip AreBodyNumbers program.components x.bodies
