-- What becomes of an alias of what a component instance of the host exports, and of a definition that becomes an item.
use Rattle.std.specs.Prelude.{◌≡◌, ⊤, ℕ, List, Result, Ok, Some, true, slice_get}
use Rattle.pc_types.specs.declared.module_record.ModuleRecord.{ModuleRecord}
use Rattle.pc_types.specs.declared.parsed.TypeTable.{TypeTable}
use Rattle.pc_types.specs.declared.type_index.TypeComponentInstanceIndex.{TypeComponentInstanceIndex}
use Rattle.pc_types.specs.TypeTree.{Path, TypeTree}
use Rattle.pc_parsed.specs.declared.payload.ItemKind.{ItemKind}
use Rattle.pc_spec_reading.specs.Instances.{alias_in, alias_member, is_of_kind}
use Rattle.pc_spec_reading.specs.Member.{field_under, further, host_member}
use Rattle.pc_spec_reading.specs.Scope.{Moment, add_value}
use Rattle.pc_spec_reading.specs.Types.{instance_fields}
use Rattle.pc_spec_reading.specs.Value.{Instance, Value, instance_value}
use Rattle.pc_inline_paths.specs.declared.path_id.PathId.{PathId}
use Rattle.pc_inline_state.specs.declared.definition.Definition.{Definition}
use Rattle.pc_inline_state.specs.declared.definition.Definition.TheVariants as definition
use Rattle.pc_inline_state.specs.declared.error.ItemError.{ItemError}
use Rattle.pc_inline_state.specs.declared.frame.Frame.{Frame}
use Rattle.pc_inline_state.specs.declared.state.State.{State}
use Rattle.pc_inline_state.specs.Points.{Follows, PointStands}
use Rattle.pc_inline_state.specs.Stands.{DefinitionStands, IsHostType}
use Rattle.pc_inline_state.specs.Tables.{tables_of}
use Rattle.pc_inline_hosts.specs.declared.member.HostMember.{HostMember}
use Rattle.pc_inline_hosts.specs.HostStands.{HostMemberStands}

-- what stands under a name of a host instance at a path is an item as the reading has it, whatever the moment
unfoldable pub HostMemberAlias : ItemKind → PathId → (name : List ℕ) → HostMember → State → Frame → State → Frame
    → Result ⊤ ItemError → Type 0
HostMemberAlias k p name m st f st' f' r =
    (t : TypeTable) (ms : List ModuleRecord) (now : Moment) (path : Path) (tree field : TypeTree)
    → PointStands t ms st f now → slice_get st.paths.held p.0 ≡ Some path → IsHostType ms (tables_of st) path tree
    → field_under name (instance_fields tree) ≡ Some field → HostMemberStands ms (tables_of st) m field
    → Follows t ms st' f' (alias_member now k (host_member (further path name) field)) r

-- what a host instance exports under a name likewise, or nothing
unfoldable pub HostAlias : TypeTable → List ModuleRecord → ItemKind → PathId → TypeComponentInstanceIndex → (entry : ℕ)
    → (name : List ℕ) → State → Frame → State → Frame → Result ⊤ ItemError → Type 0
HostAlias t ms k p ty entry name st f st' f' r =
    (now : Moment) (i : Instance) → PointStands t ms st f now
    → DefinitionStands ms (tables_of st) (definition.HostInstance p ty entry) (instance_value i)
    → Follows t ms st' f' (alias_in now k name i) r

-- a definition is an item of a kind as the reading has it, whatever value of the kind it is
unfoldable pub AddsDefined : ItemKind → Definition → State → Frame → State → Frame → Result ⊤ ItemError → Type 0
AddsDefined k d st f st' f' r = (t : TypeTable) (ms : List ModuleRecord) (now : Moment) (v : Value)
    → PointStands t ms st f now → DefinitionStands ms (tables_of st) d v → is_of_kind k v ≡ true
    → Follows t ms st' f' (Ok (add_value now v)) r
