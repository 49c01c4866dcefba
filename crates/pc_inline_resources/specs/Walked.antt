-- What stands at the places of a walk, and what is declared.
use Rattle.std.specs.Prelude.{◌≡◌, ◌+◌, ◌++◌, ℕ, zero, suc, List, [], ◌∷◌, Option, None, Some, Result, Ok, Err}
use Rattle.std.specs.Prelude.{option_map, slice_get}
use Rattle.std.specs.Prelude.{option_and_then}
use Rattle.std.specs.Borrow.{Bor}
use Rattle.std.specs.List.{fold}
use Rattle.pc_entity.specs.declared.string_pool.Atom.{Atom}
use Rattle.pc_numbers.specs.declared.runtime.ResourceIndex.{ResourceIndex}
use Rattle.pc_types.specs.declared.module_record.ModuleRecord.{ModuleRecord}
use Rattle.pc_types.specs.declared.parsed.CoreKind.TheVariants as core
use Rattle.pc_types.specs.declared.type_index.TypeComponentInstanceIndex.{TypeComponentInstanceIndex}
use Rattle.pc_types.specs.declared.types.TypeDef.{TypeDef}
use Rattle.pc_types.specs.declared.types.TypeDef.TheVariants as type
use Rattle.pc_types.specs.declared.types.TypeResourceTable.{TypeResourceTable}
use Rattle.pc_types.specs.declared.types.TypeResourceTable.TheVariants as handles
use Rattle.pc_types.specs.TypeTree.{Identity, Path, TypeTree}
use Rattle.pc_types_lists.specs.Known.{resource_of}
use Rattle.pc_types_lists.specs.Types.{Types}
use Rattle.pc_types_walk.specs.declared.walk.Found.{Found}
use Rattle.pc_spec_plan.specs.CoreValue.{CoreValue, MaybeValue}
use Rattle.pc_spec_plan.specs.CoreValue as value
use Rattle.pc_parsed.specs.Mark.{Mark}
use Rattle.pc_spec_reading.specs.Member.{host_member, resource_at, value_in, value_of_member}
use Rattle.pc_spec_reading.specs.Resource.{ResourcePath}
use Rattle.pc_spec_reading.specs.Value.{NamedValues, Value, host_instance, instance_value, made_instance}
use Rattle.pc_dfg.specs.declared.core_def.CoreDef.{CoreDef}
use Rattle.pc_dfg.specs.declared.dfg.ComponentDfg.{ComponentDfg}
use Rattle.pc_inline_state.specs.declared.definition.Definition.{Definition}
use Rattle.pc_inline_state.specs.declared.definition.Definition.TheVariants as definition
use Rattle.pc_inline_state.specs.declared.definition.DefinitionId.{DefinitionId}
use Rattle.pc_inline_state.specs.declared.definition.ExportsId.{ExportsId}
use Rattle.pc_inline_state.specs.declared.error.ItemError.{ItemError}
use Rattle.pc_inline_state.specs.declared.error.ItemError.TheVariants as item_error
use Rattle.pc_inline_state.specs.declared.error.ItemFault.TheVariants as item_fault
use Rattle.pc_inline_state.specs.declared.state.Member.{Member}
use Rattle.pc_inline_names.specs.Numbers.{numbered_value}
use Rattle.pc_inline_state.specs.Frames.{Both}
use Rattle.pc_inline_state.specs.KnowsSame.{IsResource}
use Rattle.pc_inline_state.specs.Members.{item_of}
use Rattle.pc_inline_state.specs.Stands.{CoreStands, MembersStand, Stands}
use Rattle.pc_inline_state.specs.Tables.{IsItem, Tables}
use Rattle.pc_inline_hosts.specs.declared.member.HostMember.{HostMember}
use Rattle.pc_inline_hosts.specs.declared.member.HostMember.TheVariants as member
use Rattle.pc_inline_hosts.specs.HostStands.{HostMemberStands, IsInstanceType}
use Rattle.pc_inline_resources.specs.declared.walked.InstanceOf.{InstanceOf}
use Rattle.pc_inline_resources.specs.declared.walked.InstanceOf.TheVariants as instance
use Rattle.pc_inline_resources.specs.declared.walked.Item.{Item}
use Rattle.pc_inline_resources.specs.declared.walked.Item.TheVariants as item
use Rattle.pc_inline_resources.specs.declared.walked.Met.{Met}
use Rattle.pc_inline_resources.specs.declared.walked.Start.{Start}
use Rattle.pc_inline_resources.specs.declared.walked.Start.TheVariants as start

-- the value along names from a value
abbrev pub value_along : List (List ℕ) → Value → Option Value
value_along [] v = Some v
value_along (name ∷ names) v = option_and_then (value_along names) (value_in name v)

-- no resource stands along any names from it
unfoldable pub HasNoResource : Option Value → Type 0
HasNoResource v = (names : List (List ℕ)) → option_and_then (resource_at names) v ≡ None

module _ (ms : List ModuleRecord) (b : Tables) where
  -- what stands at a place: nothing that leads to a resource, a definition, or an item of the host
  pub data ItemIs : Item → Option Value → Type 0 where
    is_nothing : {v : Option Value} → HasNoResource v → ItemIs item.Nothing v
    is_defined : {id : DefinitionId} {v : Value} → Stands ms b id v → ItemIs (item.Defined id) (Some v)
    is_host : {m : HostMember} {tree : TypeTree} (path : Path) → HostMemberStands ms b m tree
        → ItemIs (item.Host m) (value_of_member (host_member path tree))

  -- an instance that exports so much, or one of the host; or what has nothing that leads to a resource under any name
  pub data InstanceIs : InstanceOf → Option Value → Type 0 where
    is_none : {v : Option Value} → ((name : List ℕ) → HasNoResource (option_and_then (value_in name) v))
        → InstanceIs instance.Nothing v
    has_exports : {n : ExportsId} {es : List (Atom × Member)} {vs : NamedValues} {tree : TypeTree}
        → slice_get b.instances n.0 ≡ Some es → MembersStand ms b es vs
        → InstanceIs (instance.Exports n) (Some (instance_value (made_instance vs tree)))
    is_of_host : {ty : TypeComponentInstanceIndex} {entry : ℕ} {path : Path} {tree : TypeTree}
        → IsInstanceType ms b ty entry tree
        → InstanceIs (instance.Host ty entry) (Some (instance_value (host_instance path tree)))

  -- what a walk starts at: a value, or an instance that exports so much
  pub data StartIs : Start → Value → Type 0 where
    is_value : {id : DefinitionId} {v : Value} → Stands ms b id v → StartIs (start.Value id) v
    is_exports : {es : Bor (List (Atom × Member))} {vs : NamedValues} {tree : TypeTree} → MembersStand ms b es.now vs
        → StartIs (start.Exports es) (instance_value (made_instance vs tree))

  -- at each place stands what is along the names that lead to it
  abbrev pub AreItems : (names : List (List (List ℕ))) → List Item → Value → Type 0
  AreItems names items v =
      (k : ℕ) (i : Item) (prefix : List (List ℕ)) → slice_get items k ≡ Some i
      → slice_get names (k + 1) ≡ Some prefix → ItemIs i (value_along prefix v)

  -- what stands at a place, with the start as the first
  abbrev pub ParentIs : Start → List Item → ℕ → Option Value → Type 0
  ParentIs x items zero w = (v : Value) × StartIs x v × (w ≡ Some v)
  ParentIs x items (suc k) w = (i : Item) × (slice_get items k ≡ Some i) × ItemIs i w

-- the instance that a definition is
abbrev pub instance_in : Option Definition → InstanceOf
instance_in (Some (definition.Instance n ty)) = instance.Exports n
instance_in (Some (definition.HostInstance p ty entry)) = instance.Host ty entry
instance_in d = instance.Nothing

-- the instance that an item is
abbrev pub instance_of : List Definition → Item → InstanceOf
instance_of ds (item.Defined id) = instance_in (slice_get ds id.0)
instance_of ds (item.Host (member.Instance ty entry)) = instance.Host ty entry
instance_of ds i = instance.Nothing

-- a definition that was found, as an item
abbrev pub found_item : Option DefinitionId → Item
found_item None = item.Nothing
found_item (Some id) = item.Defined id

-- what an instance exports under the name of this number
abbrev pub exported_item : List (Atom × Member) → Atom → Item
exported_item es n = found_item (option_map item_of (numbered_value n es))

-- the resource of handles, if they are those of one that is known
abbrev pub handled : TypeResourceTable → Option ResourceIndex
handled (handles.Concrete r c) = Some r
handled (handles.Abstract m) = None

-- the number of a path, and the resource that stands at its end
abbrev pub IsMet : ComponentDfg → (find : List (List ℕ) → Option Identity) → Met → ResourcePath → Type 0
IsMet g find m p = (m.number ≡ p.number) × Both (IsResource g) m.resource (find p.names)

-- the resource that a type is, if it is one that is known
abbrev pub type_resource : Types → TypeDef → Option ResourceIndex
type_resource b (type.Resource i) = option_and_then handled (slice_get b.resource_tables i.0)
type_resource b d = None

-- that of a definition
abbrev pub definition_resource : Types → Option Definition → Option ResourceIndex
definition_resource b (Some (definition.Type_ d)) = type_resource b d
definition_resource b d = None

-- that of an item
abbrev pub item_resource : Types → List Definition → Option Item → Option ResourceIndex
item_resource b ds (Some (item.Defined id)) = definition_resource b (slice_get ds id.0)
item_resource b ds (Some (item.Host (member.Type_ d))) = type_resource b d
item_resource b ds i = None

-- that of the start of a walk
abbrev pub start_resource : Types → List Definition → Start → Option ResourceIndex
start_resource b ds (start.Value id) = definition_resource b (slice_get ds id.0)
start_resource b ds (start.Exports es) = None

-- and that at a place, with the start as the first
abbrev pub place_resource : Types → List Definition → Start → List Item → ℕ → Option ResourceIndex
place_resource b ds x items zero = start_resource b ds x
place_resource b ds x items (suc k) = item_resource b ds (slice_get items k)

-- the number of a path is met with a resource, unless it is known
abbrev pub met_with : (known : Option ResourceIndex) → (n : ℕ) → Option ResourceIndex → List Met → List Met
met_with (Some r) n x met = met
met_with None n x met = met ++ record { number = n; resource = x } ∷ []

-- the numbers that a walk came to and that aren't known, each with the resource at its place
abbrev pub met_all : Types → List Definition → Start → List Item → List Found → List Met
met_all b ds x items found =
    fold
    (λ (met : List Met) (f : Found).
    met_with (resource_of b.resources.known f.number) f.number (place_resource b ds x items f.place) met)
    [] found

-- a destructor, which may be left out
pub data DestructorStands (ms : List ModuleRecord) (types : Types) (g : ComponentDfg)
    : Option CoreDef → MaybeValue Mark → Type 0 where
  no_destructor : DestructorStands ms types g None value.no_value
  a_destructor : {d : CoreDef} {v : CoreValue Mark} → CoreStands types g d v → IsItem ms g core.Func d
      → DestructorStands ms types g (Some d) (value.a_value v)

-- the destructor that is chosen, or none is there, which is said, or memory ran out
unfoldable pub FindsDestructor : List ModuleRecord → Types → ComponentDfg → Option (MaybeValue Mark)
    → Result (Option CoreDef) ItemError → Type 0
FindsDestructor ms types g found (Ok d) =
    (v : MaybeValue Mark) × (found ≡ Some v) × DestructorStands ms types g d v
FindsDestructor ms types g found (Err (item_error.Fault k)) = (k ≡ item_fault.Invalid) × (found ≡ None)
FindsDestructor ms types g found (Err item_error.TooMany) = ⊥
FindsDestructor ms types g found (Err item_error.NoMemory) = Unit {0}
