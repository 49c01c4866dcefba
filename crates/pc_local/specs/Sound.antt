-- Bodies of a local program without a static fault: each core module in them was handed in, and no name is exported
-- twice.
use Rattle.std.specs.Prelude.{◌≡◌, ◌<◌, ℕ, true, List, Some, map, slice_get}
use Rattle.std.specs.List.{Contains}
use Rattle.pc_types.specs.Names.{distinct_names}
use Rattle.pc_parsed.specs.declared.payload.ExternName.{ExternName}
use Rattle.pc_parsed.specs.declared.payload.ItemKind.{ItemKind}
use Rattle.pc_local.specs.declared.item.LocalInitializer.{LocalInitializer}
use Rattle.pc_local.specs.declared.item.LocalInitializer.TheVariants as local
use Rattle.pc_local.specs.declared.item.Translation.{Translation}

-- the name of an export
abbrev pub export_name : ExternName × ItemKind × ℕ → List ℕ
export_name e = e.0.name

module _ (modules : ℕ) where
  -- an item where so many modules are handed in: a module is one of them, and no name stands twice among the exports of
  -- an instance from items
  unfoldable pub IsSoundItem : LocalInitializer → Type 0
  IsSoundItem (local.ModuleStatic index ty) = index.0 < modules
  IsSoundItem (local.ComponentSynthetic exports ty) = distinct_names (map export_name exports) ≡ true
  IsSoundItem _ = Unit {0}

  -- a body of such items, among whose exports no name stands twice
  pub record IsSoundBody (body : Translation) : Type 0 where
    pub exports : distinct_names (map export_name body.exports) ≡ true
    pub items : (l : LocalInitializer) → Contains body.initializers l → IsSoundItem l

  -- so are all these
  abbrev pub AreSoundBodies : List Translation → Type 0
  AreSoundBodies bodies = (n : ℕ) (body : Translation) → slice_get bodies n ≡ Some body → IsSoundBody body
