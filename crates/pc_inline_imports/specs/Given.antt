-- What the host gives for an import of the root.
use Rattle.std.specs.Prelude.{◌≡◌, ℕ, Bool, true, false, List}
use Rattle.pc_types.specs.declared.parsed.DeclType.{DeclType}
use Rattle.pc_types.specs.declared.parsed.Entity.{Entity}
use Rattle.pc_types.specs.declared.parsed.Entity.TheVariants as entity
use Rattle.pc_types.specs.declared.parsed.TypeTable.{TypeTable}
use Rattle.pc_types.specs.declared.type_index.TypeComponentInstanceIndex.{TypeComponentInstanceIndex}
use Rattle.pc_types.specs.declared.type_index.TypeFuncIndex.{TypeFuncIndex}
use Rattle.pc_types.specs.declared.type_index.TypeModuleIndex.{TypeModuleIndex}
use Rattle.pc_types.specs.declared.types.ComponentExtern.{ComponentExtern}
use Rattle.pc_types.specs.declared.types.TypeDef.{TypeDef}
use Rattle.pc_types.specs.declared.types.TypeDef.TheVariants as type
use Rattle.pc_types_lists.specs.Types.{Types}
use Rattle.pc_types_builder.specs.Trees.{IsEntry}
use Rattle.pc_parsed.specs.declared.payload.ExternName.{ExternName}
use Rattle.pc_spec_reading.specs.Nodes.{extern_data}
use Rattle.pc_inline_paths.specs.declared.path_id.PathId.{PathId}
use Rattle.pc_inline_state.specs.declared.definition.Definition.{Definition}
use Rattle.pc_inline_state.specs.declared.definition.Definition.TheVariants as definition

-- any entry
abbrev pub is_any : DeclType → Bool
is_any e = true

-- the table number that an entity names; a value names none
abbrev pub entity_number : Entity → ℕ
entity_number (entity.Func n) = n
entity_number (entity.Instance n) = n
entity_number (entity.Component n) = n
entity_number (entity.Module n) = n
entity_number (entity.Type_ n) = n
entity_number entity.Value = 0

-- whether an entity is a component
abbrev pub is_component_entity : Entity → Bool
is_component_entity (entity.Component n) = true
is_component_entity e = false

-- the type is of the kind of an entity
abbrev pub IsOfEntityKind : Entity → TypeDef → Type 0
IsOfEntityKind (entity.Func n) d = (ty : TypeFuncIndex) × (d ≡ type.ComponentFunc ty)
IsOfEntityKind (entity.Instance n) d = (ty : TypeComponentInstanceIndex) × (d ≡ type.ComponentInstance ty)
IsOfEntityKind (entity.Module n) d = (ty : TypeModuleIndex) × (d ≡ type.Module ty)
IsOfEntityKind e d = Unit {0}

-- the type is that of the entry that an entity names
pub record IsEntityType (types : Types) (t : TypeTable) (e : Entity) (d : TypeDef) : Type 0 where
  pub kind : IsOfEntityKind e d
  pub entry : IsEntry types t (entity_number e) d

-- what the host gives for an import, by its path
abbrev pub host_definition : PathId → Entity → TypeDef → Definition
host_definition p (entity.Func n) (type.ComponentFunc ty) = definition.HostFunc p ty
host_definition p (entity.Instance n) (type.ComponentInstance ty) = definition.HostInstance p ty n
host_definition p (entity.Module n) (type.Module ty) = definition.HostModule p ty n
host_definition p e d = definition.Type_ d

-- an import of this type, under its name
abbrev pub import_of : ExternName → TypeDef → List ℕ × ComponentExtern
import_of name d = (name.name, record { ty = d; data_ = extern_data name })
