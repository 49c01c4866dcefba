-- What stands at the places of a walk.
use Rattle.std.proofs.Common.{◌≡◌, ◌-◌, ℕ, zero, suc, Bool, true, false, List, [], ◌∷◌, Option, None, Some, refl, sym}
use Rattle.std.proofs.Common.{subst, ◌∙◌, arith, if◌then◌else◌, true≢false}
use Rattle.std.specs.Prelude.{nat_eq, slice_get, option_and_then}
use Rattle.std.specs.Borrow.{Bor}
use Rattle.std.specs.Option.{option_map}
use Rattle.std.specs.Str.{bytes_eq}
use Rattle.std.proofs.lemmas.Option.{none-some, same_Some}
use Rattle.pc_entity.specs.declared.string_pool.Atom.{Atom}
use Rattle.pc_entity.specs.Lists.{AreDistinct}
use Rattle.pc_types.specs.declared.module_record.ModuleRecord.{ModuleRecord}
use Rattle.pc_types.specs.declared.type_index.TypeComponentInstanceIndex.{TypeComponentInstanceIndex}
use Rattle.pc_types.specs.Intrinsic.{intrinsic_names}
use Rattle.pc_types.specs.TypeTree.{Path, TypeTree, component_of, func_of}
use Rattle.pc_types.specs.TypeTree.{instance_of, module_of}
use Rattle.pc_spec_reading.specs.Member.{a_value, field_under, further, host_member, member, type_identity, value_in}
use Rattle.pc_spec_reading.specs.Member.{place_from, resource_at, value_of_member}
use Rattle.pc_spec_reading.specs.Types.{instance_fields}
use Rattle.pc_spec_reading.specs.Value.{NamedValues, Value, func_value, host_instance, instance_value}
use Rattle.pc_spec_reading.specs.Value.{intrinsic_function, made_instance, the_intrinsics, type_value, value_named}
use Rattle.pc_inline_names.specs.Numbers.{IsNumber, numbered_value}
use Rattle.pc_inline_names.proofs.NumberedLemmas.{number_alike}
use Rattle.pc_inline_state.specs.declared.definition.Definition.{Definition}
use Rattle.pc_inline_state.specs.declared.definition.DefinitionId.{DefinitionId}
use Rattle.pc_inline_state.specs.declared.definition.ExportsId.{ExportsId}
use Rattle.pc_inline_state.specs.declared.state.Member.{Member}
use Rattle.pc_inline_state.specs.Frames.{Both, neither}
use Rattle.pc_inline_state.specs.KnowsSame.{IsResource}
use Rattle.pc_inline_state.specs.Members.{item_of}
use Rattle.pc_inline_state.specs.Stands.{DefinitionStands, MembersStand, Stands, and_member, no_members, stands}
use Rattle.pc_inline_state.specs.Stands.{stands_component, stands_host, stands_host_instance, stands_host_module}
use Rattle.pc_inline_state.specs.Stands.{stands_instance, stands_intrinsic, stands_intrinsics, stands_lifted}
use Rattle.pc_inline_state.specs.Stands.{stands_static, stands_type}
use Rattle.pc_inline_state.specs.Tables.{Tables}
use Rattle.pc_inline_state.proofs.ZipLemmas.{both_missing, both_there}
use Rattle.pc_inline_hosts.specs.declared.member.HostMember.{HostMember}
use Rattle.pc_inline_hosts.specs.declared.member.HostMember.TheVariants as host
use Rattle.pc_inline_hosts.specs.HostStands.{HostMemberStands, IsInstanceType, component_member, func_member}
use Rattle.pc_inline_hosts.specs.HostStands.{instance_member, is_type_tree, module_member, type_member}
use Rattle.pc_inline_resources.specs.declared.walked.InstanceOf.{InstanceOf}
use Rattle.pc_inline_resources.specs.declared.walked.InstanceOf.TheVariants as instance
use Rattle.pc_inline_resources.specs.declared.walked.Item.{Item}
use Rattle.pc_inline_resources.specs.declared.walked.Item.TheVariants as item
use Rattle.pc_inline_resources.specs.declared.walked.Start.{Start}
use Rattle.pc_inline_resources.specs.declared.walked.Start.TheVariants as start
use Rattle.pc_inline_resources.specs.Walked as walked
use Rattle.pc_inline_resources.specs.Walked.{HasNoResource, InstanceIs, ItemIs, ParentIs, StartIs, definition_resource}
use Rattle.pc_inline_resources.specs.Walked.{exported_item, found_item}
use Rattle.pc_inline_resources.specs.Walked.{has_exports, instance_in, is_defined, is_exports, is_host, is_none}
use Rattle.pc_inline_resources.specs.Walked.{is_nothing, is_of_host, is_value, item_resource}
use Rattle.pc_inline_resources.specs.Walked.{place_resource, start_resource}
use Rattle.pc_inline_resources.proofs.IdentityLemmas.{type_known}
use Rattle.pc_inline_resources.proofs.ValueLemmas.{made_value}

-- what the host has where a type stands is that type
type_there : (path : Path) (tree : TypeTree) → is_type_tree tree ≡ true
    → host_member path tree ≡ a_value (type_value tree)
type_there path (func_of params result is_async) is = absurd (true≢false (sym is))
type_there path (instance_of exports) is = absurd (true≢false (sym is))
type_there path (component_of imports exports) is = absurd (true≢false (sym is))
type_there path (module_of imports exports) is = absurd (true≢false (sym is))
type_there path tree is = refl

-- where nothing is no resource is
no_value : HasNoResource None
unfolding HasNoResource
no_value names = refl

-- under the name of an intrinsic is a function, which leads to no resource
the_functions : (o : Option ℕ)
    → HasNoResource (option_and_then value_of_member (option_map (λ f. a_value (func_value f))
    (option_map intrinsic_function o)))
unfolding HasNoResource resource_at
the_functions None names = refl
the_functions (Some n) [] = refl
the_functions (Some n) (name ∷ names) = refl

intrinsics_named : (name : List ℕ) → HasNoResource (value_in name (instance_value the_intrinsics))
unfolding member
intrinsics_named name = the_functions (place_from 0 name intrinsic_names)

-- what leads to no resource has nothing under a name that does
none_under : (v : Option Value) → HasNoResource v → (name : List ℕ) → HasNoResource (option_and_then (value_in name) v)
unfolding HasNoResource resource_at
none_under None none name names = refl
none_under (Some x) none name names = none (name ∷ names)

-- nor is it a resource
none_here : (v : Option Value) → HasNoResource v → option_and_then type_identity v ≡ None
unfolding HasNoResource resource_at
none_here None none = refl
none_here (Some x) none = none []

module _ (ms : List ModuleRecord) (b : Tables) where
  -- what a host instance has under a name
  pub host_some : (path : Path) (tree : TypeTree) (name : List ℕ) (o : Option HostMember) (m : HostMember)
      → Both (HostMemberStands ms b) o (field_under name (instance_fields tree)) → o ≡ Some m
      → ItemIs ms b (item.Host m) (value_in name (instance_value (host_instance path tree)))
  unfolding member
  host_some path tree name o m found is =
      let t = both_there (HostMemberStands ms b) o (field_under name (instance_fields tree)) m found is in
      subst (λ w. ItemIs ms b (item.Host m)
      (option_and_then value_of_member (option_map (host_member (further path name)) w))) (sym t.1)
      (is_host (further path name) t.2)

  -- and where it has nothing
  pub host_none : (path : Path) (tree : TypeTree) (name : List ℕ) (o : Option HostMember)
      → Both (HostMemberStands ms b) o (field_under name (instance_fields tree)) → o ≡ None
      → ItemIs ms b item.Nothing (value_in name (instance_value (host_instance path tree)))
  unfolding member
  host_none path tree name o found is =
      let none = both_missing (HostMemberStands ms b) o (field_under name (instance_fields tree)) found is in
      subst (λ w. ItemIs ms b item.Nothing
      (option_and_then value_of_member (option_map (host_member (further path name)) w))) (sym none) (is_nothing no_value)

  module _ (distinct : AreDistinct b.names.texts) (k : Atom) (name : List ℕ)
      (number : IsNumber b.names.texts k name) where
    -- what an instance exports under a name, by the number of the name
    exported_named : (es : List (Atom × Member)) (vs : NamedValues) → MembersStand ms b es vs
        → ItemIs ms b (exported_item es k) (value_named name vs)
    exported_named es vs no_members = is_nothing no_value
    exported_named es vs (and_member {name = n} {n = j} {m = m} {v = v} {es = rest} {vs = others} here data_ is more) =
        by (nat_eq k.0 j.0) (bytes_eq name n.name) (number_alike b.names.texts k j name n.name distinct number here)
        (exported_named rest others more)
      where
        by : (x y : Bool) → x ≡ y → ItemIs ms b (exported_item rest k) (value_named name others)
            → ItemIs ms b (found_item (option_map item_of (if x then Some m else numbered_value k rest)))
            (if y then Some v else value_named name others)
        by true true alike r = is_defined is
        by true false alike r = absurd (true≢false alike)
        by false true alike r = absurd (true≢false (sym alike))
        by false false alike r = r

    exported_is : (es : List (Atom × Member)) (vs : NamedValues) (tree : TypeTree) → MembersStand ms b es vs
        → ItemIs ms b (exported_item es k) (value_in name (instance_value (made_instance vs tree)))
    exported_is es vs tree members =
        subst (ItemIs ms b (exported_item es k)) (sym (made_value name vs tree)) (exported_named es vs members)

    -- so does an instance by the number of what it exports
    pub exports_named : (x : InstanceOf) (n : ExportsId) → x ≡ instance.Exports n → (v : Option Value)
        → InstanceIs ms b x v
        → ItemIs ms b (found_item (option_map item_of (option_and_then (numbered_value k) (slice_get b.instances n.0))))
        (option_and_then (value_in name) v)
    exports_named x n same v is = by v (subst (λ y. InstanceIs ms b y v) same is)
      where
        by : (w : Option Value) → InstanceIs ms b (instance.Exports n) w
            → ItemIs ms b
            (found_item (option_map item_of (option_and_then (numbered_value k) (slice_get b.instances n.0))))
            (option_and_then (value_in name) w)
        by w (has_exports {es = es} {vs = vs} {tree = tree} held members) =
            subst (λ o. ItemIs ms b (found_item (option_map item_of (option_and_then (numbered_value k) o)))
            (value_in name (instance_value (made_instance vs tree)))) (sym held) (exported_is es vs tree members)

    -- and a walk that starts at what an instance exports
    pub start_exports : (x : Start) (es : Bor (List (Atom × Member))) → x ≡ start.Exports es → (v : Value)
        → StartIs ms b x v → ItemIs ms b (exported_item es.now k) (value_in name v)
    start_exports x es same v is = by v (subst (λ y. StartIs ms b y v) same is)
      where
        by : (w : Value) → StartIs ms b (start.Exports es) w → ItemIs ms b (exported_item es.now k) (value_in name w)
        by w (is_exports {vs = vs} {tree = tree} members) = exported_is es.now vs tree members

  -- what is no instance has nothing under a name
  pub nothing_named : (x : InstanceOf) → x ≡ instance.Nothing → (v : Option Value) → InstanceIs ms b x v
      → (name : List ℕ) → ItemIs ms b item.Nothing (option_and_then (value_in name) v)
  nothing_named x same v is name = by v (subst (λ y. InstanceIs ms b y v) same is)
    where
      by : (w : Option Value) → InstanceIs ms b instance.Nothing w
          → ItemIs ms b item.Nothing (option_and_then (value_in name) w)
      by w (is_none none) = is_nothing (none name)

  -- an instance of the host
  pub record OfHost (ty : TypeComponentInstanceIndex) (entry : ℕ) (v : Option Value) : Type 0 where
    pub path : Path
    pub tree : TypeTree
    pub typed : IsInstanceType ms b ty entry tree
    pub is : v ≡ Some (instance_value (host_instance path tree))

  pub host_is : (x : InstanceOf) (ty : TypeComponentInstanceIndex) (entry : ℕ) → x ≡ instance.Host ty entry
      → (v : Option Value) → InstanceIs ms b x v → OfHost ty entry v
  host_is x ty entry same v is = by v (subst (λ y. InstanceIs ms b y v) same is)
    where
      by : (w : Option Value) → InstanceIs ms b (instance.Host ty entry) w → OfHost ty entry w
      by w (is_of_host {path = path} {tree = tree} typed) =
          record { path = path; tree = tree; typed = typed; is = refl }

  -- the instance that a definition is
  definition_is : (d : Definition) (v : Value) → DefinitionStands ms b d v
      → InstanceIs ms b (instance_in (Some d)) (Some v)
  definition_is d v (stands_host held typed is) = is_none (λ name. no_value)
  definition_is d v (stands_lifted is func options) = is_none (λ name. no_value)
  definition_is d v stands_intrinsic = is_none (λ name. no_value)
  definition_is d v stands_intrinsics = is_none intrinsics_named
  definition_is d v (stands_static handed_in tabled i is) = is_none (λ name. no_value)
  definition_is d v (stands_host_module held host tabled is) = is_none (λ name. no_value)
  definition_is d v (stands_component there body leaving held modules components) = is_none (λ name. no_value)
  definition_is d v (stands_host_instance held host tabled is) =
      is_of_host (record { typed = is; declared = tabled })
  definition_is d v (stands_instance held members is) = has_exports held members
  definition_is d v (stands_type is) = is_none (λ name. no_value)

  instance_is : (id : DefinitionId) (v : Value) → Stands ms b id v
      → InstanceIs ms b (instance_in (slice_get b.definitions id.0)) (Some v)
  instance_is id v (stands {d = d} held x) =
      subst (λ o. InstanceIs ms b (instance_in o) (Some v)) (sym held) (definition_is d v x)

  -- the instance that an item of the host is
  member_is : (m : HostMember) (tree : TypeTree) (path : Path) → HostMemberStands ms b m tree
      → InstanceIs ms b (walked.instance_of b.definitions (item.Host m)) (value_of_member (host_member path tree))
  member_is m tree path (func_member is) = is_none (λ name. no_value)
  member_is m tree path (instance_member is) = is_of_host is
  member_is m tree path (module_member is tabled) = is_none (λ name. no_value)
  member_is m tree path component_member = is_none (λ name. no_value)
  member_is m tree path (type_member {d = d} kind is) =
      subst (λ x. InstanceIs ms b (walked.instance_of b.definitions (item.Host (host.Type_ d))) (value_of_member x))
      (sym (type_there path tree kind)) (is_none (λ name. no_value))

  -- the instance that an item is
  item_is : (i : Item) (v : Option Value) → ItemIs ms b i v
      → InstanceIs ms b (walked.instance_of b.definitions i) v
  item_is i v (is_nothing none) = is_none (none_under v none)
  item_is i v (is_defined {id = id} {v = w} is) = instance_is id w is
  item_is i v (is_host {m = m} {tree = tree} path is) = member_is m tree path is

  pub item_instance : (i : Item) (r : InstanceOf) → r ≡ walked.instance_of b.definitions i → (v : Option Value)
      → ItemIs ms b i v → InstanceIs ms b r v
  item_instance i r made v is = subst (λ y. InstanceIs ms b y v) (sym made) (item_is i v is)

  -- the resource that a definition is
  definition_knows : (d : Definition) (v : Value) → DefinitionStands ms b d v
      → Both (IsResource b.graph) (definition_resource b.types (Some d)) (type_identity v)
  definition_knows d v (stands_host held typed is) = neither
  definition_knows d v (stands_lifted is func options) = neither
  definition_knows d v stands_intrinsic = neither
  definition_knows d v stands_intrinsics = neither
  definition_knows d v (stands_static handed_in tabled i is) = neither
  definition_knows d v (stands_host_module held host tabled is) = neither
  definition_knows d v (stands_component there body leaving held modules components) = neither
  definition_knows d v (stands_host_instance held host tabled is) = neither
  definition_knows d v (stands_instance held exports is) = neither
  definition_knows d v (stands_type {d = e} {tree = tree} is) = type_known ms b e tree is

  definition_known : (id : DefinitionId) (v : Value) → Stands ms b id v
      → Both (IsResource b.graph) (definition_resource b.types (slice_get b.definitions id.0)) (type_identity v)
  definition_known id v (stands {d = d} held x) =
      subst (λ o. Both (IsResource b.graph) (definition_resource b.types o) (type_identity v)) (sym held)
      (definition_knows d v x)

  -- that an item of the host is
  member_known : (m : HostMember) (tree : TypeTree) (path : Path) → HostMemberStands ms b m tree
      → Both (IsResource b.graph) (item_resource b.types b.definitions (Some (item.Host m)))
      (option_and_then type_identity (value_of_member (host_member path tree)))
  member_known m tree path (func_member is) = neither
  member_known m tree path (instance_member is) = neither
  member_known m tree path (module_member is tabled) = neither
  member_known m tree path component_member = neither
  member_known m tree path (type_member {d = d} kind is) =
      subst (λ x. Both (IsResource b.graph) (item_resource b.types b.definitions (Some (item.Host (host.Type_ d))))
      (option_and_then type_identity (value_of_member x)))
      (sym (type_there path tree kind)) (type_known ms b d tree is)

  -- that an item is
  item_known : (i : Item) (v : Option Value) → ItemIs ms b i v
      → Both (IsResource b.graph) (item_resource b.types b.definitions (Some i)) (option_and_then type_identity v)
  item_known i v (is_nothing none) =
      subst (λ o. Both (IsResource b.graph) None o) (sym (none_here v none)) neither
  item_known i v (is_defined {id = id} {v = w} is) = definition_known id w is
  item_known i v (is_host {m = m} {tree = tree} path is) = member_known m tree path is

  -- what the start is
  start_value : (id : DefinitionId) (v : Value) → StartIs ms b (start.Value id) v → Stands ms b id v
  start_value id v (is_value is) = is

  pub start_instance : (x : Start) (id : DefinitionId) → x ≡ start.Value id → (r : InstanceOf)
      → r ≡ instance_in (slice_get b.definitions id.0) → (v : Value) → StartIs ms b x v → InstanceIs ms b r (Some v)
  start_instance x id same r made v is =
      subst (λ y. InstanceIs ms b y (Some v)) (sym made)
      (instance_is id v (start_value id v (subst (λ y. StartIs ms b y v) same is)))

  start_known : (x : Start) (v : Value) → StartIs ms b x v
      → Both (IsResource b.graph) (start_resource b.types b.definitions x) (type_identity v)
  start_known x v (is_value {id = id} {v = w} is) = definition_known id w is
  start_known x v (is_exports exports) = neither

  module _ (x : Start) (items : List Item) (v : Option Value) where
    -- the resource at a place
    pub place_known : (n : ℕ) → ParentIs ms b x items n v
        → Both (IsResource b.graph) (place_resource b.types b.definitions x items n) (option_and_then type_identity v)
    place_known zero p =
        subst (λ w. Both (IsResource b.graph) (start_resource b.types b.definitions x)
        (option_and_then type_identity w)) (sym p.2) (start_known x p.0 p.1)
    place_known (suc k) p =
        subst (λ o. Both (IsResource b.graph) (item_resource b.types b.definitions o)
        (option_and_then type_identity v)) (sym p.1) (item_known p.0 v p.2)

    -- what stands at a place that isn't the first
    pub later_parent : (n : ℕ) → (n ≡ 0 → ⊥) → ParentIs ms b x items n v → (i : Item)
        → slice_get items (n - 1) ≡ Some i → ItemIs ms b i v
    later_parent zero later p i at = absurd (later refl)
    later_parent (suc k) later p i at =
        let less : suc k - 1 ≡ k = omega arith in
        subst (λ j. ItemIs ms b j v)
        (same_Some p.0 i (sym p.1 ∙ subst (λ m. slice_get items m ≡ Some i) less at)) p.2

    -- it is there
    pub later_there : (n : ℕ) → (n ≡ 0 → ⊥) → ParentIs ms b x items n v
        → slice_get items (n - 1) ≡ None → ⊥
    later_there zero later p none = absurd (later refl)
    later_there (suc k) later p none =
        let less : suc k - 1 ≡ k = omega arith in
        none-some p.0 (sym (subst (λ m. slice_get items m ≡ None) less none) ∙ p.1)
