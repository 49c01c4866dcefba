-- The entries of a table that were converted so far, and what they are in the builder.
use Rattle.std.specs.Prelude.{◌≡◌, ◌⊎◌, ℕ, false, List, length, Option, Some, slice_get}
use Rattle.pc_types.specs.declared.parsed.DeclType.{DeclType}
use Rattle.pc_types.specs.declared.parsed.DeclType.TheVariants as entry
use Rattle.pc_types.specs.declared.parsed.TypeTable.{TypeTable}
use Rattle.pc_types.specs.declared.type_index.TypeComponentIndex.{TypeComponentIndex}
use Rattle.pc_types.specs.declared.type_index.TypeComponentInstanceIndex.{TypeComponentInstanceIndex}
use Rattle.pc_types.specs.declared.type_index.TypeFuncIndex.{TypeFuncIndex}
use Rattle.pc_types.specs.declared.type_index.TypeModuleIndex.{TypeModuleIndex}
use Rattle.pc_types.specs.declared.type_index.TypeResourceTableIndex.{TypeResourceTableIndex}
use Rattle.pc_types.specs.declared.types.InterfaceType.{InterfaceType}
use Rattle.pc_types.specs.declared.types.TypeDef.{TypeDef}
use Rattle.pc_types.specs.declared.types.TypeDef.TheVariants as def
use Rattle.pc_types_lists.specs.Types.{Types}
use Rattle.pc_types_convert.specs.Needed.{Each, IsAmong, IsDone, parts_of}
use Rattle.pc_types_convert.specs.Labels.{IsLike}
use Rattle.pc_types_convert.specs.Plain.{AreLayered, IsNoted, Layers, StandsAt}
use Rattle.pc_types_builder.specs.Depends.{depends}
use Rattle.pc_types_builder.specs.Trees.{IsEntry}

-- the type is of the kind of the entry
abbrev pub IsOfKind : DeclType → TypeDef → Type 0
IsOfKind entry.Resource d = (i : TypeResourceTableIndex) × (d ≡ def.Resource i)
IsOfKind (entry.Func params result is_async) d = (i : TypeFuncIndex) × (d ≡ def.ComponentFunc i)
IsOfKind (entry.Instance exports) d = (i : TypeComponentInstanceIndex) × (d ≡ def.ComponentInstance i)
IsOfKind (entry.Component imports exports) d = (i : TypeComponentIndex) × (d ≡ def.Component i)
IsOfKind (entry.Module imports exports) d = (i : TypeModuleIndex) × (d ≡ def.Module i)
IsOfKind _ d = (w : InterfaceType) × (d ≡ def.Interface w)

-- a place for each entry of the table, where each type that stands there has the entry's tree and is of its kind
pub record AreTyped (b : Types) (t : TypeTable) (done : List (Option TypeDef)) : Type 0 where
  pub room : length done ≡ length t.types
  pub kinds : (n : ℕ) (d : TypeDef) (e : DeclType) → slice_get done n ≡ Some (Some d) → slice_get t.types n ≡ Some e
      → IsOfKind e d
  pub entries : (n : ℕ) (d : TypeDef) → slice_get done n ≡ Some (Some d) → IsEntry b t n d

-- these entries depend on no component instance and on no known resource: they don't by themselves, and what they name
-- is among them
pub record ArePlain (t : TypeTable) (plain : List (Option TypeDef)) : Type 0 where
  pub form : (n : ℕ) (e : DeclType) → IsDone plain n → slice_get t.types n ≡ Some e → depends e ≡ false
  pub closed : (n : ℕ) (e : DeclType) → IsDone plain n → slice_get t.types n ≡ Some e → Each (IsDone plain) (parts_of e)

-- the entry is one of those that depend on no component instance and on no known resource
abbrev pub IsPlainEntry : TypeTable → ℕ → Type 0
IsPlainEntry t n = (plain : List (Option TypeDef)) × ArePlain t plain × IsDone plain n

-- each entry that has a type of this component instance is noted for what it names, but for what is the same in each
pub record AreNoted (t : TypeTable) (c : Layers) : Type 0 where
  pub noted : (k p : ℕ) (e : DeclType) → IsDone c.own k → slice_get t.types k ≡ Some e → IsAmong p (parts_of e)
      → (IsDone c.own p × IsNoted c.users p k) ⊎ IsPlainEntry t p

-- each type that an entry had once has its labels
pub record AreLike (b : Types) (t : TypeTable) (like : List (Option TypeDef)) : Type 0 where
  pub each : (n : ℕ) (d : TypeDef) (e : DeclType) → StandsAt like n d → slice_get t.types n ≡ Some e → IsLike b e d

-- what was converted, what of it is the same in each component instance, and what names what of the rest
pub record AreConverted (b : Types) (t : TypeTable) (c : Layers) : Type 0 where
  pub all : AreTyped b t c.all
  pub plain : AreTyped b t c.plain
  pub same : ArePlain t c.plain
  pub layered : AreLayered c
  pub noted : AreNoted t c
  pub like : AreLike b t c.like
