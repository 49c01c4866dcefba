-- An instance that is exported has parts.
use Rattle.std.proofs.Common.{◌≡◌, ℕ, true, List, Some, refl, sym, ap, subst, ◌∙◌}
use Rattle.std.specs.Prelude.{slice_get}
use Rattle.pc_types.specs.declared.module_record.ModuleRecord.{ModuleRecord}
use Rattle.pc_types.specs.declared.type_index.TypeComponentInstanceIndex.{TypeComponentInstanceIndex}
use Rattle.pc_types.specs.declared.types.TypeDef.TheVariants as type
use Rattle.pc_types.specs.TypeTree as tree
use Rattle.pc_types.specs.TypeTree.{Fields, Path, TypeTree, func_of, instance_of, module_of}
use Rattle.pc_spec_reading.specs.Nodes.{counting, host_node, instance_node}
use Rattle.pc_spec_reading.specs.Nodes.{then_reach, value_node, instance_value_node}
use Rattle.pc_spec_reading.specs.Value.{Value}
use Rattle.pc_spec_reading.specs.World.{World}
use Rattle.pc_inline_paths.specs.declared.path_id.PathId.{PathId}
use Rattle.pc_inline_state.specs.declared.definition.Definition.{Definition}
use Rattle.pc_inline_state.specs.declared.definition.Definition.TheVariants as definition
use Rattle.pc_inline_state.specs.declared.state.State.{State}
use Rattle.pc_inline_state.specs.Stands.{DefinitionStands, IsType}
use Rattle.pc_inline_state.specs.Stands.{stands_component, stands_host, stands_host_instance, stands_host_module}
use Rattle.pc_inline_state.specs.Stands.{stands_instance, stands_intrinsic, stands_intrinsics, stands_lifted}
use Rattle.pc_inline_state.specs.Stands.{stands_static, stands_type}
use Rattle.pc_inline_state.specs.Tables.{tables_of}
use Rattle.pc_inline_state.proofs.FitsLemmas.{who_fits, who_of}
use Rattle.pc_inline_hosts.specs.declared.member.HostMember.{HostMember}
use Rattle.pc_inline_hosts.specs.HostMembers.{definition_at}
use Rattle.pc_inline_hosts.specs.HostStands.{HostMemberStands, component_member, func_member, instance_member}
use Rattle.pc_inline_hosts.specs.HostStands.{module_member, type_member}
use Rattle.std.proofs.lemmas.Option.{same_Some}
use Rattle.pc_types_lists.specs.Trees.{HasTree}
use Rattle.pc_spec_reading.specs.Member.{further}
use Rattle.pc_spec_reading.specs.Nodes.{host_nodes, more, no_data}
use Rattle.pc_spec_reading.specs.Types.{instance_fields}
use Rattle.pc_types.specs.TypeTree.{and_field, no_fields}
use Rattle.pc_inline_exports.specs.Found.{nests}
use Rattle.pc_inline_hosts.specs.HostStands.{IsInstanceType, fields_list}
use Rattle.pc_inline_exports.specs.Building.{instance_type}
use Rattle.pc_inline_exports.specs.Reaching.{HasParts, SubjectStands, host_has, made_has, stands_at, stands_value}
use Rattle.pc_inline_exports.specs.Subjects.{Part, Subject, a_value, host_parts, of_host, part_nodes, subject_node}
use Rattle.pc_inline_exports.specs.Subjects.{value_parts}
use Rattle.pc_inline_exports.proofs.WithinLemmas.{values_are}

-- what the host has at the names of an instance type is read as parts
fields_are : (p : Path) (fs : Fields) (w : World) → host_nodes p fs w ≡ part_nodes (host_parts p (fields_list fs)) w
unfolding host_nodes
fields_are p no_fields w = refl
fields_are p (and_field name t fs) w =
    λ i. then_reach (host_node (further p name) t w) (λ n v. then_reach (fields_are p fs v i) (more name no_data n))

module _ (ms : List ModuleRecord) (st : State) where
  -- an instance has parts, which are read after it has counted
  pub record InstanceView (d : Definition) (x : Subject) : Type 0 where
    pub parts : List Part
    pub tree : TypeTree
    pub has : HasParts ms (tables_of st) d parts tree
    pub reads : (w : World)
        → subject_node x w ≡ counting w (λ v. then_reach (part_nodes parts v) (instance_node tree))

  -- a type of an instance is an instance type
  pub fields_of : (ty : TypeComponentInstanceIndex) (tree : TypeTree)
      → HasTree st.types (who_of st.graph) (type.ComponentInstance ty) tree → tree ≡ instance_of (instance_fields tree)
  fields_of ty (tree.instance_of a) h = refl
  fields_of ty (tree.primitive a) h = absurd (let is = h.1 in let no : ⊥ = cc in no)
  fields_of ty (tree.error_context a) h = absurd (let is = h.1 in let no : ⊥ = cc in no)
  fields_of ty (tree.record_of a) h = absurd (let is = h.2 in let no : ⊥ = cc in no)
  fields_of ty (tree.variant_of a) h = absurd (let is = h.2 in let no : ⊥ = cc in no)
  fields_of ty (tree.list_of a) h = absurd (let is = h.2 in let no : ⊥ = cc in no)
  fields_of ty (tree.tuple_of a) h = absurd (let is = h.2 in let no : ⊥ = cc in no)
  fields_of ty (tree.flags_of a) h = absurd (let is = h.1 in let no : ⊥ = cc in no)
  fields_of ty (tree.enum_of a) h = absurd (let is = h.1 in let no : ⊥ = cc in no)
  fields_of ty (tree.option_of a) h = absurd (let is = h.2 in let no : ⊥ = cc in no)
  fields_of ty (tree.result_of a b) h = absurd (let is = h.2 in let no : ⊥ = cc in no)
  fields_of ty (tree.own_of a) h = absurd (let is = h.1 in let no : ⊥ = cc in no)
  fields_of ty (tree.borrow_of a) h = absurd (let is = h.1 in let no : ⊥ = cc in no)
  fields_of ty (tree.stream_of a b) h = absurd (let is = h.2 in let no : ⊥ = cc in no)
  fields_of ty (tree.future_of a b) h = absurd (let is = h.2 in let no : ⊥ = cc in no)
  fields_of ty (tree.func_of a b c) h = absurd (let is = h.4 in let no : ⊥ = cc in no)
  fields_of ty (tree.component_of a b) h = absurd (let is = h.2 in let no : ⊥ = cc in no)
  fields_of ty (tree.module_of a b) h = absurd (let is = h.2 in let no : ⊥ = cc in no)
  fields_of ty (tree.resource_of a) h = absurd (let is = h.1 in let no : ⊥ = cc in no)

  -- what a host instance has is read as its parts
  host_reads : (path : Path) (fields : Fields) (w : World) → host_node path (instance_of fields) w
      ≡ counting w (λ v. then_reach (part_nodes (host_parts path (fields_list fields)) v) (instance_node (instance_of fields)))
  unfolding host_node
  host_reads path fields w =
      λ i. counting w (λ v. then_reach (fields_are path fields v i) (instance_node (instance_of fields)))

  host_view : (p : PathId) (ty : TypeComponentInstanceIndex) (entry : ℕ) (path : Path) (tree : TypeTree)
      → slice_get st.paths.held p.0 ≡ Some path → IsInstanceType ms (tables_of st) ty entry tree → (x : Subject)
      → ((w : World) → subject_node x w ≡ host_node path tree w)
      → InstanceView (definition.HostInstance p ty entry) x
  host_view p ty entry path tree held both x is =
      let same = fields_of ty tree (both.typed (who_of st.graph) (who_fits st.graph)) in
      record {
        parts = host_parts path (fields_list (instance_fields tree));
        tree = tree;
        has = host_has held both;
        reads = λ w. is w ∙ ap (λ y. host_node path y w) same ∙ host_reads path (instance_fields tree) w
            ∙ ap (λ y. counting w (λ v.
            then_reach (part_nodes (host_parts path (fields_list (instance_fields tree))) v) (instance_node y))) (sym same);
      }

  value_view : (d : Definition) (v : Value) → DefinitionStands ms (tables_of st) d v
      → nests d ≡ true → InstanceView d (a_value v)
  unfolding value_node instance_value_node
  value_view d v (stands_host held given typed) is = absurd (let no : ⊥ = cc in no)
  value_view d v (stands_lifted typed func options) is = absurd (let no : ⊥ = cc in no)
  value_view d v stands_intrinsic is = absurd (let no : ⊥ = cc in no)
  value_view d v stands_intrinsics is = absurd (let no : ⊥ = cc in no)
  value_view d v (stands_static handed_in tabled i typed) is = absurd (let no : ⊥ = cc in no)
  value_view d v (stands_host_module held given tabled typed) is = absurd (let no : ⊥ = cc in no)
  value_view d v (stands_component there body leaving held modules components) is = absurd (let no : ⊥ = cc in no)
  value_view d v (stands_type typed) is = absurd (let no : ⊥ = cc in no)
  value_view d v (stands_host_instance {p = p} {ty = ty} {entry = entry} {path = path} {tree = tree} held given tabled
      typed) is =
      host_view p ty entry path tree held (record { typed = typed; declared = tabled }) _ (λ w. refl)
  value_view d v (stands_instance {n = n} {ty = ty} {es = es} {vs = vs} {tree = tree} held parts typed) is = record {
    parts = value_parts vs;
    tree = tree;
    has = made_has held parts typed;
    reads = λ w. λ i. counting w (λ u. then_reach (values_are vs u i) (instance_node tree));
  }

  there_view : (d : Definition) (p : PathId) (path : Path) (m : HostMember) (tree : TypeTree)
      → slice_get st.paths.held p.0 ≡ Some path → HostMemberStands ms (tables_of st) m tree → definition_at p m ≡ Some d
      → nests d ≡ true → InstanceView d (of_host path tree)
  there_view d p path m tree held (func_member typed) at is =
      absurd (let same = sym (same_Some _ d at) in let no : ⊥ = cc in no)
  there_view d p path m tree held (module_member typed tabled) at is =
      absurd (let same = sym (same_Some _ d at) in let no : ⊥ = cc in no)
  there_view d p path m tree held component_member at is = absurd (let no : ⊥ = cc in no)
  there_view d p path m tree held (type_member sort typed) at is =
      absurd (let same = sym (same_Some _ d at) in let no : ⊥ = cc in no)
  there_view d p path m tree held (instance_member {ty = ty} {entry = entry} {exports = fields} both) at is =
      subst (λ e. InstanceView e (of_host path (instance_of fields))) (same_Some _ d at)
      (host_view p ty entry path (instance_of fields) held both (of_host path (instance_of fields)) (λ w. refl))

  -- an instance
  pub instance_view : (d : Definition) (x : Subject) → SubjectStands ms (tables_of st) d x
      → nests d ≡ true → InstanceView d x
  instance_view d x (stands_value {v = v} stands) is = value_view d v stands is
  instance_view d x (stands_at {path = path} {tree = tree} p m held stands at) is =
      there_view d p path m tree held stands at is

  -- what has parts is an instance
  pub parts_kind : (d : Definition) (ps : List Part) (tree : TypeTree) → HasParts ms (tables_of st) d ps tree
      → nests d ≡ true
  parts_kind d ps tree (made_has held parts typed) = refl
  parts_kind d ps tree (host_has held both) = refl

  -- the type of an instance that has parts
  pub parts_type : (d : Definition) (ps : List Part) (tree : TypeTree) → HasParts ms (tables_of st) d ps tree
      → (ty : TypeComponentInstanceIndex) → instance_type d ≡ Some ty
      → IsType ms (tables_of st) (type.ComponentInstance ty) tree
  parts_type d ps tree (made_has {ty = u} held parts typed) ty same =
      subst (λ k. IsType ms (tables_of st) (type.ComponentInstance k) tree) (same_Some u ty same) typed
  parts_type d ps tree (host_has {ty = u} held both) ty same =
      subst (λ k. IsType ms (tables_of st) (type.ComponentInstance k) tree) (same_Some u ty same) both.typed
