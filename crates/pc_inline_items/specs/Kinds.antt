-- The kinds of the items that imports take.
use Rattle.pc_types.specs.declared.parsed.Entity.{Entity}
use Rattle.pc_types.specs.declared.parsed.Entity.TheVariants as entity
use Rattle.pc_parsed.specs.declared.payload.ItemKind.{ItemKind}
use Rattle.pc_parsed.specs.declared.payload.ItemKind.TheVariants as kind

-- the kind of an entity
abbrev pub kind_of : Entity → ItemKind
kind_of (entity.Func n) = kind.Func
kind_of (entity.Instance n) = kind.Instance
kind_of (entity.Component n) = kind.Component
kind_of (entity.Module n) = kind.Module
kind_of (entity.Type_ n) = kind.Type_
kind_of entity.Value = kind.Value
