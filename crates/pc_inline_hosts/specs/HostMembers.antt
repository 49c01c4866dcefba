-- What a host instance has at a place and under a name, as the code finds it.
use Rattle.std.specs.Prelude.{ℕ, List, Option, None, Some, option_and_then, option_map, slice_get}
use Rattle.pc_types.specs.declared.parsed.Entity.{Entity}
use Rattle.pc_types.specs.declared.parsed.Entity.TheVariants as entity
use Rattle.pc_types.specs.declared.parsed.TypeTable.{TypeTable}
use Rattle.pc_types.specs.declared.type_index.TypeComponentInstanceIndex.{TypeComponentInstanceIndex}
use Rattle.pc_types.specs.declared.types.TypeComponentInstance.{TypeComponentInstance}
use Rattle.pc_types.specs.declared.types.TypeDef.{TypeDef}
use Rattle.pc_types.specs.declared.types.TypeDef.TheVariants as type
use Rattle.pc_types_lists.specs.Types.{Types}
use Rattle.pc_types_walk.specs.Walks.{export_at}
use Rattle.pc_inline_paths.specs.declared.path_id.PathId.{PathId}
use Rattle.pc_inline_state.specs.declared.definition.Definition.{Definition}
use Rattle.pc_inline_state.specs.declared.definition.Definition.TheVariants as definition
use Rattle.pc_inline_hosts.specs.declared.member.HostMember.{HostMember}
use Rattle.pc_inline_hosts.specs.declared.member.HostMember.TheVariants as member

-- the number of the entry that an entity names; a value names none
abbrev pub entry_of : Entity → ℕ
entry_of (entity.Func n) = n
entry_of (entity.Instance n) = n
entry_of (entity.Component n) = n
entry_of (entity.Module n) = n
entry_of (entity.Type_ n) = n
entry_of entity.Value = 0

-- what stands there, by its type and the number of its entry
abbrev pub member_of : TypeDef → (entry : ℕ) → HostMember
member_of (type.ComponentFunc ty) n = member.Func ty
member_of (type.ComponentInstance ty) n = member.Instance ty n
member_of (type.Module ty) n = member.Module ty n
member_of (type.Component ty) n = member.Component
member_of d n = member.Type_ d

-- the type of an export of an instance type, by its place
abbrev pub export_type : Types → TypeComponentInstanceIndex → (place : ℕ) → Option TypeDef
export_type b ty place =
    option_and_then
    (λ (i : TypeComponentInstance). option_map (λ (e : List ℕ × TypeDef). e.1) (slice_get i.exports place))
    (slice_get b.instances ty.0)

-- what an instance has at a place: its kind and its type are those in the types builder, its entry is the one that the
-- table names there
abbrev pub member_at : TypeTable → Types → TypeComponentInstanceIndex → (entry place : ℕ) → Option HostMember
member_at t b ty n place =
    option_and_then
    (λ (e : List ℕ × Entity). option_map (λ (d : TypeDef). member_of d (entry_of e.1)) (export_type b ty place))
    (export_at t n place)

-- the definition of what stands at the end of a path; a component of the host has none
abbrev pub definition_at : PathId → HostMember → Option Definition
definition_at p (member.Func ty) = Some (definition.HostFunc p ty)
definition_at p (member.Instance ty n) = Some (definition.HostInstance p ty n)
definition_at p (member.Module ty n) = Some (definition.HostModule p ty n)
definition_at p (member.Type_ d) = Some (definition.Type_ d)
definition_at p member.Component = None
