-- What stands at the places of a host instance, by the tree of its type.
use Rattle.std.specs.Prelude.{◌≡◌, ℕ, Bool, true, false, List, [], ◌∷◌, Option, slice_get}
use Rattle.pc_types.specs.declared.module_record.ModuleRecord.{ModuleRecord}
use Rattle.pc_types.specs.declared.type_index.TypeComponentInstanceIndex.{TypeComponentInstanceIndex}
use Rattle.pc_types.specs.declared.type_index.TypeFuncIndex.{TypeFuncIndex}
use Rattle.pc_types.specs.declared.type_index.TypeModuleIndex.{TypeModuleIndex}
use Rattle.pc_types.specs.declared.types.TypeDef.{TypeDef}
use Rattle.pc_types.specs.declared.types.TypeDef.TheVariants as type
use Rattle.pc_types.specs.Table.{is_instance, is_module}
use Rattle.pc_types.specs.TypeTree.{CoreTree, Fields, MaybeTree, TypeTree, and_field, component_of, func_of}
use Rattle.pc_types.specs.TypeTree.{instance_of}
use Rattle.pc_types.specs.TypeTree.{module_of, no_fields}
use Rattle.pc_spec_reading.specs.Types.{instance_fields}
use Rattle.pc_inline_state.specs.Stands.{IsFunc, IsTableTree, IsType}
use Rattle.pc_inline_state.specs.Tables.{Tables}
use Rattle.pc_inline_hosts.specs.declared.member.HostMember.{HostMember}
use Rattle.pc_inline_hosts.specs.declared.member.HostMember.TheVariants as member

-- fields as a list, in order
abbrev pub fields_list : Fields → List (List ℕ × TypeTree)
fields_list no_fields = []
fields_list (and_field name tree fs) = (name, tree) ∷ fields_list fs

-- the field at a place of an instance type
abbrev pub field_at : TypeTree → (place : ℕ) → Option (List ℕ × TypeTree)
field_at tree place = slice_get (fields_list (instance_fields tree)) place

-- whether a tree is that of a type: it is none of a function, an instance, a component or a module
abbrev pub is_type_tree : TypeTree → Bool
is_type_tree (func_of params result is_async) = false
is_type_tree (instance_of exports) = false
is_type_tree (component_of imports exports) = false
is_type_tree (module_of imports exports) = false
is_type_tree _ = true

module _ (ms : List ModuleRecord) (b : Tables) where
  -- an instance type twice: as a number of the types builder, and as an entry of the type table
  pub record IsInstanceType (ty : TypeComponentInstanceIndex) (entry : ℕ) (tree : TypeTree) : Type 0 where
    pub typed : IsType ms b (type.ComponentInstance ty) tree
    pub declared : IsTableTree ms b is_instance entry tree

  -- what an instance has where its type has this tree
  pub data HostMemberStands : HostMember → TypeTree → Type 0 where
    func_member : {ty : TypeFuncIndex} {params : Fields} {result : MaybeTree} {is_async : Bool}
        → IsFunc ms b ty (func_of params result is_async)
        → HostMemberStands (member.Func ty) (func_of params result is_async)
    instance_member : {ty : TypeComponentInstanceIndex} {entry : ℕ} {exports : Fields}
        → IsInstanceType ty entry (instance_of exports)
        → HostMemberStands (member.Instance ty entry) (instance_of exports)
    module_member : {ty : TypeModuleIndex} {entry : ℕ} {imports : List (List ℕ × List ℕ × CoreTree)}
        {exports : List (List ℕ × CoreTree)} → IsType ms b (type.Module ty) (module_of imports exports)
        → IsTableTree ms b is_module entry (module_of imports exports)
        → HostMemberStands (member.Module ty entry) (module_of imports exports)
    component_member : {imports exports : Fields} → HostMemberStands member.Component (component_of imports exports)
    type_member : {d : TypeDef} {tree : TypeTree} → is_type_tree tree ≡ true → IsType ms b d tree
        → HostMemberStands (member.Type_ d) tree

  -- the same of a field, with its name
  abbrev pub HostFieldStands : HostMember → List ℕ × TypeTree → Type 0
  HostFieldStands m f = HostMemberStands m f.1
