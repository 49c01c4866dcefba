-- What a host instance has at a place and under a name stands as the field there.
use Rattle.std.proofs.Common.{◌≡◌, ℕ, ◌<◌, ◌+◌, Bool, true, false, List, [], ◌∷◌, suc, length, Option, None, Some}
use Rattle.std.proofs.Common.{refl, sym, ap, subst, ◌∙◌, arith, if◌then◌else◌}
use Rattle.std.specs.Prelude.{slice_get, option_and_then}
use Rattle.std.specs.Option.{option_map}
use Rattle.std.specs.List.{AllZip}
use Rattle.std.specs.Str.{bytes_eq}
use Rattle.std.proofs.lemmas.Option.{none-some, same_Some, slice_get_within}
use Rattle.pc_entity.specs.Lists.{names_of}
use Rattle.pc_numbers.specs.declared.runtime.ResourceIndex.{ResourceIndex}
use Rattle.pc_types.specs.declared.module_record.ModuleRecord.{ModuleRecord}
use Rattle.pc_types.specs.declared.parsed.Entity.{Entity}
use Rattle.pc_types.specs.declared.parsed.DeclType.TheVariants as entry
use Rattle.pc_types.specs.declared.parsed.TypeTable.{TypeTable}
use Rattle.pc_types.specs.declared.type_index.TypeComponentInstanceIndex.{TypeComponentInstanceIndex}
use Rattle.pc_types.specs.declared.types.TypeComponentInstance.{TypeComponentInstance}
use Rattle.pc_types.specs.declared.types.TypeDef.{TypeDef}
use Rattle.pc_types.specs.declared.types.TypeDef.TheVariants as type
use Rattle.pc_types.specs.Table.{table_fault}
use Rattle.pc_types.specs.TypeTree.{Fields, Identity, TypeTree, and_field, borrow_of, component_of, enum_of}
use Rattle.pc_types.specs.TypeTree.{error_context}
use Rattle.pc_types.specs.TypeTree.{flags_of, func_of, future_of, instance_of, list_of, module_of, no_fields, option_of}
use Rattle.pc_types.specs.TypeTree.{own_of, primitive, record_of, resource_of, result_of, stream_of, tree_of, tuple_of}
use Rattle.pc_types.specs.TypeTree.{variant_of}
use Rattle.pc_types_lists.specs.Trees.{ExternsHaveTrees, HasTree}
use Rattle.pc_types_walk.specs.Names.{export_names, export_place}
use Rattle.pc_types_walk.specs.Walks.{exports_of}
use Rattle.pc_spec_reading.specs.Member.{field_under, place_from}
use Rattle.pc_spec_reading.specs.Types.{instance_fields}
use Rattle.pc_inline_state.specs.Fits.{Fits}
use Rattle.pc_inline_state.specs.Frames.{Both, both, neither}
use Rattle.pc_inline_state.specs.Stands.{IsType}
use Rattle.pc_inline_state.specs.Tables.{Tables}
use Rattle.pc_inline_state.proofs.FitsLemmas.{who_fits, who_of}
use Rattle.pc_inline_state.proofs.ZipLemmas.{zip_at}
use Rattle.pc_inline_hosts.specs.declared.member.HostMember.{HostMember}
use Rattle.pc_inline_hosts.specs.declared.member.HostMember.TheVariants as member
use Rattle.pc_inline_hosts.specs.HostMembers.{entry_of, member_at, member_of}
use Rattle.pc_inline_hosts.specs.HostStands.{HostFieldStands, HostMemberStands, IsInstanceType, component_member}
use Rattle.pc_inline_hosts.specs.HostStands.{field_at}
use Rattle.pc_inline_hosts.specs.HostStands.{fields_list, func_member, instance_member, is_type_tree, module_member}
use Rattle.pc_inline_hosts.specs.HostStands.{type_member}
use Rattle.pc_inline_hosts.proofs.FieldLemmas.{IsField, fields_declared, names_declared}
use Rattle.pc_inline_hosts.proofs.KindLemmas.{instance_declared, module_declared}

-- both are there
both_is : {A B : Type 0} (R : A → B → Type 0) (a : A) (b : B) → Both R (Some a) (Some b) → R a b
both_is R a b (both r) = r

-- the number of an instance type
abbrev instance_number : TypeDef → ℕ
instance_number (type.ComponentInstance i) = i.0
instance_number d = 0

-- a name that has no place is that of no field
under_none : (name : List ℕ) (k : ℕ) (fs : Fields) → place_from k name (names_of (fields_list fs)) ≡ None
    → field_under name fs ≡ None
under_none name k no_fields h = refl
under_none name k (and_field n tree fs) h = by (bytes_eq name n) (under_none name (k + 1) fs) h
  where
    by : (b : Bool)
        → (place_from (k + 1) name (names_of (fields_list fs)) ≡ None → field_under name fs ≡ None)
        → (if b then Some k else place_from (k + 1) name (names_of (fields_list fs))) ≡ None
        → (if b then Some tree else field_under name fs) ≡ None
    by true more h = absurd (none-some k (sym h))
    by false more h = more h

-- one that has a place is that of the field there
under_some : (name : List ℕ) (k : ℕ) (fs : Fields) (i : ℕ) → place_from k name (names_of (fields_list fs)) ≡ Some i
    → (j : ℕ) × (i ≡ k + j)
    × (option_map (λ (f : List ℕ × TypeTree). f.1) (slice_get (fields_list fs) j) ≡ field_under name fs)
under_some name k no_fields i h = absurd (none-some i h)
under_some name k (and_field n tree fs) i h = by (bytes_eq name n) (under_some name (k + 1) fs i) h
  where
    by : (b : Bool)
        → (place_from (k + 1) name (names_of (fields_list fs)) ≡ Some i → (j : ℕ) × (i ≡ (k + 1) + j)
        × (option_map (λ (f : List ℕ × TypeTree). f.1) (slice_get (fields_list fs) j) ≡ field_under name fs))
        → (if b then Some k else place_from (k + 1) name (names_of (fields_list fs))) ≡ Some i
        → (j : ℕ) × (i ≡ k + j)
        × (option_map (λ (f : List ℕ × TypeTree). f.1) (slice_get ((n, tree) ∷ fields_list fs) j)
        ≡ (if b then Some tree else field_under name fs))
    by true more h = let same = same_Some k i h in (0, omega (arith, same), refl)
    by false more h = let u = more h in (suc u.0, omega (arith, u.1), u.2)

module _ (ms : List ModuleRecord) (b : Tables) where
  -- where a value or a resource has a type, a type stands there
  typed_member : (d e : TypeDef) (n : ℕ) (tree : TypeTree) → IsType ms b d tree → is_type_tree tree ≡ true
      → member_of e n ≡ member.Type_ e → d ≡ e → HostMemberStands ms b (member_of d n) tree
  typed_member d e n tree is kind made same =
      subst (λ x. HostMemberStands ms b (member_of x n) tree) (sym same)
      (subst (λ m. HostMemberStands ms b m tree) (sym made)
      (type_member kind (subst (λ x. IsType ms b x tree) same is)))

  module _ (known : List (ℕ × Identity)) (c : ℕ) (sound : table_fault b.table ≡ None) (n : ℕ) where
    -- what stands where an entry and a type have this tree
    member_stands : (d : TypeDef) (tree : TypeTree) → IsType ms b d tree → tree_of known c b.table n ≡ Some tree
        → HostMemberStands ms b (member_of d n) tree
    member_stands d tree is got = by tree is got (is (who_of b.graph) (who_fits b.graph))
      where
        by : (x : TypeTree) → IsType ms b d x → tree_of known c b.table n ≡ Some x
            → HasTree b.types (who_of b.graph) d x → HostMemberStands ms b (member_of d n) x
        by (func_of params result is_async) t g h =
            subst (λ e. HostMemberStands ms b (member_of e n) (func_of params result is_async)) (sym h.4)
            (func_member (subst (λ e. IsType ms b e (func_of params result is_async)) h.4 t))
        by (instance_of exports) t g h =
            subst (λ e. HostMemberStands ms b (member_of e n) (instance_of exports)) (sym h.2)
            (instance_member (record {
              typed = subst (λ e. IsType ms b e (instance_of exports)) h.2 t;
              declared = record {
                there = instance_declared known c b.table sound n exports g;
                known = known;
                component_instance = c;
                is = g;
              };
            }))
        by (module_of imports exports) t g h =
            subst (λ e. HostMemberStands ms b (member_of e n) (module_of imports exports)) (sym h.2)
            (module_member (subst (λ e. IsType ms b e (module_of imports exports)) h.2 t) (record {
              there = module_declared known c b.table sound n imports exports g;
              known = known;
              component_instance = c;
              is = g;
            }))
        by (component_of imports exports) t g h =
            subst (λ e. HostMemberStands ms b (member_of e n) (component_of imports exports)) (sym h.2) component_member
        by (resource_of r) t g h = typed_member d (type.Resource h.0) n (resource_of r) t refl refl h.1
        by (primitive p) t g h = typed_member d (type.Interface h.0) n (primitive p) t refl refl h.1
        by (error_context i) t g h = typed_member d _ n (error_context i) t refl refl h.1
        by (record_of fs) t g h = typed_member d _ n (record_of fs) t refl refl h.2
        by (variant_of cs) t g h = typed_member d _ n (variant_of cs) t refl refl h.2
        by (list_of x) t g h = typed_member d _ n (list_of x) t refl refl h.2
        by (tuple_of xs) t g h = typed_member d _ n (tuple_of xs) t refl refl h.2
        by (flags_of names) t g h = typed_member d _ n (flags_of names) t refl refl h.1
        by (enum_of names) t g h = typed_member d _ n (enum_of names) t refl refl h.1
        by (option_of x) t g h = typed_member d _ n (option_of x) t refl refl h.2
        by (result_of ok err) t g h = typed_member d _ n (result_of ok err) t refl refl h.2
        by (own_of r) t g h = typed_member d _ n (own_of r) t refl refl h.1
        by (borrow_of r) t g h = typed_member d _ n (borrow_of r) t refl refl h.1
        by (stream_of x i) t g h = typed_member d _ n (stream_of x i) t refl refl h.2
        by (future_of x i) t g h = typed_member d _ n (future_of x i) t refl refl h.2

  -- an instance type of the types builder, whose exports have the trees of these fields
  record Held (ty : TypeComponentInstanceIndex) (fields : Fields) : Type 0 where
    its : TypeComponentInstance
    there : slice_get b.types.instances ty.0 ≡ Some its
    have : (who : ResourceIndex → Identity) → Fits b.graph who → ExternsHaveTrees b.types who its.exports fields

  held : (ty : TypeComponentInstanceIndex) (fields : Fields)
      → IsType ms b (type.ComponentInstance ty) (instance_of fields) → Held ty fields
  held ty fields is =
      let first = is (who_of b.graph) (who_fits b.graph) in
      let at = ap (λ i. slice_get b.types.instances i) (ap instance_number first.2) ∙ first.3 in
      record {
        its = first.1;
        there = at;
        have = λ who fits.
            let other = is who fits in
            let there = ap (λ i. slice_get b.types.instances i) (ap instance_number other.2) ∙ other.3 in
            subst (λ (x : TypeComponentInstance). ExternsHaveTrees b.types who x.exports fields)
            (same_Some other.1 first.1 (sym there ∙ at)) other.4;
      }

  -- the exports of a type and the fields of its tree, one by one
  abbrev HasTreeOf : (ResourceIndex → Identity) → List ℕ × TypeDef → List ℕ × TypeTree → Type 0
  HasTreeOf who e f = HasTree b.types who e.1 f.1

  externs_zip : (who : ResourceIndex → Identity) (es : List (List ℕ × TypeDef)) (fs : Fields)
      → ExternsHaveTrees b.types who es fs → AllZip (HasTreeOf who) es (fields_list fs)
  externs_zip who es no_fields h = subst (λ xs. AllZip (HasTreeOf who) xs []) (sym h) tt
  externs_zip who es (and_field name tree fs) h =
      subst (λ xs. AllZip (HasTreeOf who) xs ((name, tree) ∷ fields_list fs)) (sym h.2)
      (h.3, externs_zip who h.1 fs h.4)

  module _ (ty : TypeComponentInstanceIndex) (n : ℕ) (tree : TypeTree) (is : IsInstanceType ms b ty n tree) where
    -- the fields of the tree are the exports of the entry
    abbrev IsFieldHere : List ℕ × Entity → List ℕ × TypeTree → Type 0
    IsFieldHere = IsField is.declared.known is.declared.component_instance b.table

    fields : (exports : List (List ℕ × Entity)) × (fs : Fields)
        × (slice_get b.table.types n ≡ Some (entry.Instance exports)) × (instance_of fs ≡ tree)
        × AllZip IsFieldHere exports (fields_list fs)
    fields =
        fields_declared is.declared.known is.declared.component_instance b.table n tree is.declared.there is.declared.is

    its_type : Held ty fields.1
    its_type = held ty fields.1 (subst (IsType ms b (type.ComponentInstance ty)) (sym fields.3) is.typed)

    -- the instance type is held
    pub instance_held : ty.0 < length b.types.instances
    instance_held = slice_get_within b.types.instances ty.0 its_type.its its_type.there

    module _ (sound : table_fault b.table ≡ None) where
      -- one place of the table, of the types builder and of the tree
      at_place : (x : Option (List ℕ × Entity)) (y : Option (List ℕ × TypeDef)) (z : Option (List ℕ × TypeTree))
          → Both IsFieldHere x z
          → ((who : ResourceIndex → Identity) → Fits b.graph who → Both (HasTreeOf who) y z)
          → Both (HostFieldStands ms b)
          (option_and_then (λ (e : List ℕ × Entity). option_map (λ (d : TypeDef). member_of d (entry_of e.1))
          (option_map (λ (e : List ℕ × TypeDef). e.1) y)) x) z
      at_place None y None m k = neither
      at_place None y (Some f) m k = elim m [ ]
      at_place (Some e) y None m k = elim m [ ]
      at_place (Some e) None (Some f) m k = elim (k (who_of b.graph) (who_fits b.graph)) [ ]
      at_place (Some e) (Some d) (Some f) m k =
          both (member_stands is.declared.known is.declared.component_instance sound (entry_of e.1) d.1 f.1
          (λ who fits. both_is (HasTreeOf who) d f (k who fits)) (both_is IsFieldHere e f m).1)

      -- what stands at a place
      pub host_at : (place : ℕ)
          → Both (HostFieldStands ms b) (member_at b.table b.types ty n place) (field_at tree place)
      host_at place =
          let f = fields in
          let h = its_type in
          let named = ap (option_and_then (λ e. slice_get (exports_of e) place)) f.2 in
          let typed = ap (option_and_then (λ (i : TypeComponentInstance).
          option_map (λ (e : List ℕ × TypeDef). e.1) (slice_get i.exports place))) h.there in
          let made : member_at b.table b.types ty n place
          ≡ option_and_then (λ (e : List ℕ × Entity). option_map (λ (d : TypeDef). member_of d (entry_of e.1))
          (option_map (λ (e : List ℕ × TypeDef). e.1) (slice_get h.its.exports place))) (slice_get f.0 place) =
          (λ i. option_and_then (λ (e : List ℕ × Entity). option_map (λ (d : TypeDef). member_of d (entry_of e.1))
          (typed i)) (named i)) in
          subst (λ x. Both (HostFieldStands ms b) (member_at b.table b.types ty n place) (field_at x place)) f.3
          (subst (λ x. Both (HostFieldStands ms b) x (slice_get (fields_list f.1) place)) (sym made)
          (at_place (slice_get f.0 place) (slice_get h.its.exports place) (slice_get (fields_list f.1) place)
          (zip_at IsFieldHere f.0 (fields_list f.1) place f.4)
          (λ who fits. zip_at (HasTreeOf who) h.its.exports (fields_list f.1) place
          (externs_zip who h.its.exports f.1 (h.have who fits)))))

      -- what stands under a name
      pub host_under : (name : List ℕ) (place : Option ℕ) → place ≡ export_place b.table n name
          → Both (HostMemberStands ms b) (option_and_then (member_at b.table b.types ty n) place)
          (field_under name (instance_fields tree))
      host_under name place is_first =
          let f = fields in
          let first = is_first ∙ ap (option_and_then (λ e. place_from 0 name (export_names e))) f.2
          ∙ ap (place_from 0 name)
          (names_declared is.declared.known is.declared.component_instance b.table f.0 (fields_list f.1) f.4) in
          subst (λ x. Both (HostMemberStands ms b) (option_and_then (member_at b.table b.types ty n) place)
          (field_under name (instance_fields x))) f.3 (by f.1 f.3 place first)
        where
          named : (o : Option HostMember) (w : Option (List ℕ × TypeTree)) → Both (HostFieldStands ms b) o w
              → Both (HostMemberStands ms b) o (option_map (λ (f : List ℕ × TypeTree). f.1) w)
          named None None m = neither
          named None (Some f) m = elim m [ ]
          named (Some x) None m = elim m [ ]
          named (Some x) (Some f) (both r) = both r

          by : (fs : Fields) → instance_of fs ≡ tree → (o : Option ℕ)
              → o ≡ place_from 0 name (names_of (fields_list fs))
              → Both (HostMemberStands ms b) (option_and_then (member_at b.table b.types ty n) o) (field_under name fs)
          by fs same None at = subst (Both (HostMemberStands ms b) None) (sym (under_none name 0 fs (sym at))) neither
          by fs same (Some i) at =
              let u = under_some name 0 fs i (sym at) in
              let here : u.0 ≡ i = omega (arith, u.1) in
              subst (Both (HostMemberStands ms b) (member_at b.table b.types ty n i)) u.2
              (named (member_at b.table b.types ty n i) (slice_get (fields_list fs) u.0)
              (subst (λ j. Both (HostFieldStands ms b) (member_at b.table b.types ty n i)
              (slice_get (fields_list fs) j))
              (sym here)
              (subst (λ x. Both (HostFieldStands ms b) (member_at b.table b.types ty n i) (field_at x i)) (sym same)
              (host_at i))))

module _ (ms : List ModuleRecord) (b : Tables) (t : TypeTable) (same : b.table ≡ t) (sound : table_fault t ≡ None)
    (ty : TypeComponentInstanceIndex) (n : ℕ) (tree : TypeTree) (is : IsInstanceType ms b ty n tree) where
  -- what was found at a place
  pub found_at_place : (place : ℕ) (m : Option HostMember) → m ≡ member_at t b.types ty n place
      → Both (HostFieldStands ms b) m (field_at tree place)
  found_at_place place m found =
      subst (λ x. Both (HostFieldStands ms b) x (field_at tree place))
      (ap (λ x. member_at x b.types ty n place) same ∙ sym found)
      (host_at ms b ty n tree is (ap table_fault same ∙ sound) place)

  -- what was found under a name
  pub found_under : (name : List ℕ) (place : Option ℕ) → place ≡ export_place t n name → (m : Option HostMember)
      → m ≡ option_and_then (member_at t b.types ty n) place
      → Both (HostMemberStands ms b) m (field_under name (instance_fields tree))
  found_under name place first m found =
      subst (λ x. Both (HostMemberStands ms b) x (field_under name (instance_fields tree)))
      (ap (λ x. option_and_then (member_at x b.types ty n) place) same ∙ sym found)
      (host_under ms b ty n tree is (ap table_fault same ∙ sound) name place
      (first ∙ ap (λ x. export_place x n name) (sym same)))
