-- What stands at the end of a path as an item of a component.
use Rattle.std.proofs.Common.{◌≡◌, ℕ, true, true≢false, List, [], ◌∷◌, ◌++◌, Option, None, Some, refl, sym, ap, subst}
use Rattle.std.proofs.Common.{◌∙◌}
use Rattle.std.specs.Prelude.{slice_get, option_and_then}
use Rattle.std.proofs.lemmas.Option.{none-some, same_Some}
use Rattle.pc_types.specs.declared.module_record.ModuleRecord.{ModuleRecord}
use Rattle.pc_types.specs.TypeTree.{Path, TypeTree, component_of, func_of, instance_of, module_of}
use Rattle.pc_spec_reading.specs.HostTypes.{tree_along}
use Rattle.pc_spec_reading.specs.Member.{a_host_component, a_value, field_under, further, host_member}
use Rattle.pc_spec_reading.specs.Types.{instance_fields}
use Rattle.pc_spec_reading.specs.Value.{Value, func_value, host_function, host_instance, host_module, instance_value}
use Rattle.pc_spec_reading.specs.Value.{module_value, type_value}
use Rattle.pc_inline_paths.specs.declared.path_id.PathId.{PathId}
use Rattle.pc_inline_state.specs.declared.definition.Definition.{Definition}
use Rattle.pc_inline_state.specs.Stands.{DefinitionStands, IsHostType, stands_host, stands_host_instance}
use Rattle.pc_inline_state.specs.Stands.{stands_host_module, stands_type}
use Rattle.pc_inline_state.specs.Tables.{Tables}
use Rattle.pc_inline_hosts.specs.declared.member.HostMember.{HostMember}
use Rattle.pc_inline_hosts.specs.HostMembers.{definition_at}
use Rattle.pc_inline_hosts.specs.HostStands.{HostMemberStands, component_member, func_member, instance_member}
use Rattle.pc_inline_hosts.specs.HostStands.{is_type_tree, module_member, type_member}

-- what stands where a type is, is the type
type_there : (path : Path) (tree : TypeTree) → is_type_tree tree ≡ true
    → host_member path tree ≡ a_value (type_value tree)
type_there path (func_of params result is_async) is = absurd (true≢false (sym is))
type_there path (instance_of exports) is = absurd (true≢false (sym is))
type_there path (component_of imports exports) is = absurd (true≢false (sym is))
type_there path (module_of imports exports) is = absurd (true≢false (sym is))
type_there path _ is = refl

-- names and one more lead one field further
along_more : (names : List (List ℕ)) (name : List ℕ) (whole : TypeTree)
    → tree_along (names ++ name ∷ []) whole
    ≡ option_and_then (λ tree. field_under name (instance_fields tree)) (tree_along names whole)
along_more [] name whole = by (field_under name (instance_fields whole))
  where
    by : (o : Option TypeTree) → option_and_then (tree_along []) o ≡ o
    by None = refl
    by (Some tree) = refl
along_more (n ∷ names) name whole = by (along_more names name) (field_under n (instance_fields whole))
  where
    by : ((tree : TypeTree) → tree_along (names ++ name ∷ []) tree
        ≡ option_and_then (λ tree. field_under name (instance_fields tree)) (tree_along names tree))
        → (o : Option TypeTree) → option_and_then (tree_along (names ++ name ∷ [])) o
        ≡ option_and_then (λ tree. field_under name (instance_fields tree)) (option_and_then (tree_along names) o)
    by more None = refl
    by more (Some tree) = more tree

module _ (ms : List ModuleRecord) (b : Tables) where
  -- what the host gives one name further has the tree of the field
  pub further_type : (path : Path) (tree : TypeTree) → IsHostType ms b path tree → (name : List ℕ) (field : TypeTree)
      → field_under name (instance_fields tree) ≡ Some field → IsHostType ms b (further path name) field
  further_type path tree is name field at = record {
    import = is.import;
    there = is.there;
    whole = is.whole;
    typed = is.typed;
    along =
        along_more path.names name is.whole
        ∙ ap (option_and_then (λ x. field_under name (instance_fields x))) is.along ∙ at;
  }

  module _ (p : PathId) (path : Path) (held : slice_get b.paths p.0 ≡ Some path) where
    -- an item of the host is the one that the reading has at its path
    pub member_value : (m : HostMember) (tree : TypeTree) → HostMemberStands ms b m tree → IsHostType ms b path tree
        → (d : Definition) → definition_at p m ≡ Some d
        → (v : Value) × (host_member path tree ≡ a_value v) × DefinitionStands ms b d v
    member_value m tree (func_member func) host d is = (
      func_value (host_function path),
      refl,
      subst (λ x. DefinitionStands ms b x (func_value (host_function path))) (same_Some _ d is)
          (stands_host held host func),
    )
    member_value m tree (instance_member {exports = exports} type) host d is = (
      instance_value (host_instance path (instance_of exports)),
      refl,
      subst (λ x. DefinitionStands ms b x (instance_value (host_instance path (instance_of exports))))
          (same_Some _ d is)
          (stands_host_instance held host type.declared type.typed),
    )
    member_value m tree (module_member {imports = imports} {exports = exports} typed declared) host d is = (
      module_value (host_module path (module_of imports exports)),
      refl,
      subst (λ x. DefinitionStands ms b x (module_value (host_module path (module_of imports exports))))
          (same_Some _ d is) (stands_host_module held host declared typed),
    )
    member_value m tree component_member host d is = absurd (none-some d is)
    member_value m tree (type_member {tree = plain} kind typed) host d is = (
      type_value plain,
      type_there path plain kind,
      subst (λ x. DefinitionStands ms b x (type_value plain)) (same_Some _ d is) (stands_type typed),
    )

    -- and a component of the host is none
    pub component_value : (m : HostMember) (tree : TypeTree) → HostMemberStands ms b m tree → definition_at p m ≡ None
        → host_member path tree ≡ a_host_component
    component_value m tree (func_member func) is = absurd (none-some _ (sym is))
    component_value m tree (instance_member type) is = absurd (none-some _ (sym is))
    component_value m tree (module_member typed declared) is = absurd (none-some _ (sym is))
    component_value m tree component_member is = refl
    component_value m tree (type_member kind typed) is = absurd (none-some _ (sym is))
