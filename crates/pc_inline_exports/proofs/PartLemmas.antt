-- What an instance has at a place is the part there.
use Rattle.std.proofs.Common.{◌≡◌, ◌<◌, ◌∙◌, ℕ, zero, suc, List, length, Option, None, Some, Result, Ok, Err}
use Rattle.std.proofs.Common.{refl, sym, ap, subst, arith}
use Rattle.std.specs.Prelude.{option_and_then, slice_get}
use Rattle.std.specs.Option.{option_map}
use Rattle.std.specs.Result.{IsErrAnd}
use Rattle.std.proofs.lemmas.Option.{none-some, same_Some, slice_get_within}
use Rattle.pc_entity.specs.declared.string_pool.Atom.{Atom}
use Rattle.pc_types.specs.declared.error.Unsupported.TheVariants.{ComponentImport}
use Rattle.pc_types.specs.declared.module_record.ModuleRecord.{ModuleRecord}
use Rattle.pc_types.specs.declared.parsed.DeclType.{DeclType}
use Rattle.pc_types.specs.declared.parsed.TypeTable.{TypeTable}
use Rattle.pc_types.specs.declared.type_index.TypeComponentInstanceIndex.{TypeComponentInstanceIndex}
use Rattle.pc_types.specs.declared.types.TypeDef.TheVariants as type
use Rattle.pc_types.specs.TypeTree.{Fields, Path, TypeTree, instance_of}
use Rattle.pc_types_lists.specs.Trees.{HasTree}
use Rattle.pc_types_walk.specs.Names.{export_names}
use Rattle.pc_spec_reading.specs.Member.{further}
use Rattle.pc_spec_reading.specs.Nodes.{host_node, no_data, refused}
use Rattle.pc_spec_reading.specs.Outcome.{unsupported}
use Rattle.pc_spec_reading.specs.Types.{instance_fields}
use Rattle.pc_spec_reading.specs.Value.{NamedValues}
use Rattle.pc_spec_reading.specs.World.{World}
use Rattle.pc_inline_paths.specs.declared.path_id.PathId.{PathId}
use Rattle.pc_inline_names.specs.Both.{Both, both}
use Rattle.pc_inline_names.specs.Numbers.{IsNumber}
use Rattle.pc_inline_state.specs.declared.definition.Definition.{Definition}
use Rattle.pc_inline_state.specs.declared.definition.Definition.TheVariants as definition
use Rattle.pc_inline_state.specs.declared.definition.DefinitionId.{DefinitionId}
use Rattle.pc_inline_state.specs.declared.definition.ExportsId.{ExportsId}
use Rattle.pc_inline_state.specs.declared.error.ItemError.{ItemError}
use Rattle.pc_inline_state.specs.declared.error.ItemError.TheVariants as item_error
use Rattle.pc_inline_state.specs.declared.error.ItemFault.TheVariants as item_fault
use Rattle.pc_inline_state.specs.declared.state.Member.{Member}
use Rattle.pc_inline_state.specs.declared.state.State.{State}
use Rattle.pc_inline_state.specs.AddsEach.{AddsEach, nowhere}
use Rattle.pc_inline_state.specs.Points.{IsSoundState}
use Rattle.pc_inline_state.specs.Stands.{MembersStand, and_member, no_members, stands}
use Rattle.pc_inline_state.specs.Tables.{Keeps, Tables, tables_of}
use Rattle.pc_inline_state.specs.TakesPath.{SoundWithPaths, TakesPath}
use Rattle.pc_inline_state.specs.Worlds.{WorldStands}
use Rattle.pc_inline_state.proofs.AddsLemmas.{adds_each}
use Rattle.pc_inline_state.proofs.FitsLemmas.{who_fits, who_of}
use Rattle.pc_inline_state.proofs.ZipLemmas.{both_missing, both_there}
use Rattle.pc_inline_hosts.specs.declared.member.HostMember.{HostMember}
use Rattle.pc_inline_hosts.specs.declared.member.HostMember.TheVariants as member
use Rattle.pc_inline_hosts.specs.HostMembers.{definition_at}
use Rattle.pc_inline_hosts.specs.HostStands.{HostFieldStands, HostMemberStands, IsInstanceType, component_member}
use Rattle.pc_inline_hosts.specs.HostStands.{field_at}
use Rattle.pc_inline_hosts.specs.HostStands.{fields_list, func_member, instance_member, module_member, type_member}
use Rattle.pc_inline_hosts.proofs.FieldLemmas.{fields_declared, names_declared}
use Rattle.pc_inline_exports.specs.declared.part.Found.{Found}
use Rattle.pc_inline_exports.specs.Building.{AddsPath, Finds, FindsPart, StillStands}
use Rattle.pc_inline_exports.specs.Found.{found_member, made_part}
use Rattle.pc_inline_exports.specs.Reaching.{HasParts, HasSomeParts, host_has, made_has, stands_at, stands_value}
use Rattle.pc_inline_exports.specs.Subjects.{Part, host_part, host_parts, value_parts}
use Rattle.pc_inline_exports.proofs.GrownLemmas.{member_kept}
use Rattle.pc_inline_exports.proofs.NamesLemmas.{slice_mapped}
use Rattle.pc_inline_exports.proofs.InstanceLemmas.{fields_of}

-- a component of the host is refused
module _ {ms : List ModuleRecord} {b : Tables} where
  component_refused : (path : Path) (m : HostMember) (tree : TypeTree) → HostMemberStands ms b m tree
      → m ≡ member.Component → (w : World) → host_node path tree w ≡ refused (unsupported ComponentImport)
  unfolding host_node
  component_refused path m tree (func_member typed) same w = absurd (let no : ⊥ = cc in no)
  component_refused path m tree (instance_member is) same w = absurd (let no : ⊥ = cc in no)
  component_refused path m tree (module_member typed tabled) same w = absurd (let no : ⊥ = cc in no)
  component_refused path m tree (type_member sort typed) same w = absurd (let no : ⊥ = cc in no)
  component_refused path m tree component_member same w = refl

-- a path more, of a call
pub path_added : (t : TypeTable) (ms : List ModuleRecord) (st new : State) → Keeps (tables_of st) (tables_of new)
    → AddsEach nowhere 0 0 (tables_of st) (tables_of new)
    → new ≡ record st { paths = new.paths; used = new.used } → AddsPath t ms st new
path_added t ms st new keeps adds rest = record {
  keeps = keeps;
  adds = adds_each t nowhere 0 0 0 (tables_of st) (tables_of new) (λ l. omega arith) (omega arith) (omega arith) adds;
  types = ap (λ (y : State). y.types) rest;
  graph = ap (λ (y : State). y.graph) rest;
}

pub path_stands : (t : TypeTable) (ms : List ModuleRecord) (st new : State) → SoundWithPaths st new
    → new ≡ record st { paths = new.paths; used = new.used } → StillStands t ms st new
path_stands t ms st new sound rest w s = record {
  sound = sound t ms s.sound;
  world = subst (λ (y : State). WorldStands y.types y.graph w) (sym rest) s.world;
}

-- the name of an export of an entry, by its place
abbrev pub name_at : TypeTable → (entry place : ℕ) → Option (List ℕ)
name_at t n place = option_and_then (λ (e : DeclType). slice_get (export_names e) place) (slice_get t.types n)

-- what has no number is not there
unnumbered : {A B : Type 0} (R : A → B → Type 0) (o : Option A) (w : Option B) → Both R o w → w ≡ None → o ≡ None
unnumbered R None w m none = refl
unnumbered R (Some a) None m none = elim m [ ]
unnumbered R (Some a) (Some b) m none = absurd (none-some b (sym none))

-- what has one is
named_by : {A B : Type 0} (R : A → B → Type 0) (o : Option A) (w : Option B) (y : B) → Both R o w → w ≡ Some y
    → (x : A) × (o ≡ Some x) × R x y
named_by R None None y m some = absurd (none-some y some)
named_by R None (Some b) y m some = elim m [ ]
named_by R (Some a) None y m some = elim m [ ]
named_by R (Some a) (Some b) y (both r) some = (a, refl, subst (R a) (same_Some b y some) r)

module _ (t : TypeTable) (ms : List ModuleRecord) (st : State) where
  module _ (new : State) (r : Result (Option Found) ItemError) (d : Definition) (place : ℕ) where
    -- memory ran out
    pub memory_finds : IsErrAnd r (λ e. e ≡ item_error.NoMemory) → Finds t ms st d place new r
    unfolding FindsPart
    memory_finds is parts tree has = by r is
      where
        by : (q : Result (Option Found) ItemError) → IsErrAnd q (λ e. e ≡ item_error.NoMemory)
            → FindsPart t ms new (slice_get parts place) q
        by (Ok x) is = absurd is
        by (Err e) is = subst (λ y. FindsPart t ms new (slice_get parts place) (Err y)) (sym is) tt

  -- a member with its name and its definition
  found_as : (e : Atom × Member) (name : List ℕ) → IsNumber st.names.now.texts e.0 name → (n : DefinitionId)
      (d : Definition) → n ≡ e.1.item → slice_get st.definitions n.0 ≡ Some d
      → found_member st.names.now.texts st.definitions e
      ≡ Some (record { name = name; data_ = e.1.data_; definition = d })
  found_as e name numbered n d same held =
      let made : List ℕ → Definition → Found = λ l y. record { name = l; data_ = e.1.data_; definition = y } in
      ap (option_and_then (λ (l : List ℕ). option_map (made l) (slice_get st.definitions e.1.item.0))) numbered
      ∙ ap (option_map (made name)) (ap (λ (k : DefinitionId). slice_get st.definitions k.0) (sym same) ∙ held)

  members_find : (es : List (Atom × Member)) (vs : NamedValues) → MembersStand ms (tables_of st) es vs → (place : ℕ)
      → FindsPart t ms st (slice_get (value_parts vs) place)
      (Ok (option_and_then (found_member st.names.now.texts st.definitions) (slice_get es place)))
  unfolding FindsPart
  members_find es vs no_members place = refl
  members_find es vs (and_member {name = name} {n = n} {m = m} {v = v} {es = rest} {vs = others} numbered says
      (stands {d = d} held x) more) zero =
      subst (λ f. FindsPart t ms st (slice_get (value_parts vs) zero) (Ok f))
      (sym (found_as (n, m) name.name numbered m.item d refl held))
      (_, refl, record { name = refl; data_ = says; is = stands_value x })
  members_find es vs (and_member {es = rest} {vs = others} numbered says x more) (suc place) =
      members_find rest others more place

  made_at : (d : Definition) (parts : List Part) (tree : TypeTree) → HasParts ms (tables_of st) d parts tree
      → (n : ExportsId) (ty : TypeComponentInstanceIndex) → d ≡ definition.Instance n ty → (place : ℕ)
      → FindsPart t ms st (slice_get parts place) (Ok (made_part st n place))
  made_at d parts tree (made_has {n = m} {es = es} {vs = vs} held members typed) n ty same place =
      let one : m ≡ n = cc in
      subst (λ o. FindsPart t ms st (slice_get (value_parts vs) place) (Ok o))
      (sym (ap (option_and_then (λ (l : List (Atom × Member)).
      option_and_then (found_member st.names.now.texts st.definitions) (slice_get l place)))
      (ap (λ (k : ExportsId). slice_get st.instances k.0) (sym one) ∙ held)))
      (members_find es vs members place)
  made_at d parts tree (host_has held is) n ty same place = absurd (let no : ⊥ = cc in no)

  -- what an instance that was made has
  pub made_finds : (d : Definition) (n : ExportsId) (ty : TypeComponentInstanceIndex) → d ≡ definition.Instance n ty
      → (place : ℕ) (o : Option Found) → o ≡ made_part st n place → Finds t ms st d place st (Ok o)
  made_finds d n ty same place o is parts tree has =
      subst (λ y. FindsPart t ms st (slice_get parts place) (Ok y)) (sym is)
      (made_at d parts tree has n ty same place)

  -- the name of an export of an instance type in the type table is that of the field
  declared_name : (ty : TypeComponentInstanceIndex) (entry : ℕ) (tree : TypeTree)
      → IsInstanceType ms (tables_of st) ty entry tree → (place : ℕ)
      → name_at st.table.now entry place ≡ option_map (λ (f : List ℕ × TypeTree). f.0) (field_at tree place)
  declared_name ty entry tree is place =
      let d = is.declared in
      let f = fields_declared d.known d.component_instance st.table.now entry tree d.there d.is in
      ap (option_and_then (λ (e : DeclType). slice_get (export_names e) place)) f.2
      ∙ ap (λ (ns : List (List ℕ)). slice_get ns place)
      (names_declared d.known d.component_instance st.table.now f.0 (fields_list f.1) f.4)
      ∙ slice_mapped (λ (g : List ℕ × TypeTree). g.0) (fields_list f.1) place
      ∙ ap (λ (y : TypeTree). option_map (λ (g : List ℕ × TypeTree). g.0) (field_at y place)) f.3

  module _ (entry place : ℕ) (n : Option Atom)
      (numbers : Both (λ name k. IsNumber st.names.now.texts k name) (name_at st.names.now.table entry place) n) where
    -- the number of an export of an entry is that of a name
    number_named : (k : Atom) → n ≡ Some k → (name : List ℕ)
        × (name_at st.names.now.table entry place ≡ Some name) × IsNumber st.names.now.texts k name
    number_named k some = named_by (λ name j. IsNumber st.names.now.texts j name) _ n k numbers some

    -- so paths go further by it
    pub number_held : IsSoundState t ms st → (k : Atom) → n ≡ Some k → k.0 < length st.paths.names
    number_held sound k some =
        let x = number_named k some in
        subst (λ (names : List (List ℕ)). k.0 < length names) (sym sound.names.paths)
        (slice_get_within st.names.now.texts k.0 x.0 x.2)

  type_below : (ty : TypeComponentInstanceIndex) (fields : Fields)
      → HasTree st.types (who_of st.graph) (type.ComponentInstance ty) (instance_of fields)
      → ty.0 < length st.types.instances
  type_below ty fields h =
      let same : ty ≡ h.0 = (let is = h.2 in cc) in
      slice_get_within st.types.instances ty.0 h.1
      (ap (λ (k : TypeComponentInstanceIndex). slice_get st.types.instances k.0) same ∙ h.3)

  module _ (p : PathId) (ty : TypeComponentInstanceIndex) (entry : ℕ) where
    abbrev pub instance : Definition
    instance = definition.HostInstance p ty entry

    -- a host instance, as it has its parts
    pub record HostHas (parts : List Part) : Type 0 where
      pub path : Path
      pub tree : TypeTree
      pub held : slice_get st.paths.held p.0 ≡ Some path
      pub is : IsInstanceType ms (tables_of st) ty entry tree
      pub are : parts ≡ host_parts path (fields_list (instance_fields tree))

    host_as : (d : Definition) (parts : List Part) (tree : TypeTree) → HasParts ms (tables_of st) d parts tree
        → d ≡ instance → HostHas parts
    host_as d parts tree (made_has held members typed) same = absurd (let no : ⊥ = cc in no)
    host_as d parts tree (host_has {p = q} {ty = u} {entry = m} {path = path} held is) same =
        let one : q ≡ p = cc in
        let two : u ≡ ty = cc in
        let three : m ≡ entry = cc in
        record {
          path = path;
          tree = tree;
          held = subst (λ (k : PathId). slice_get st.paths.held k.0 ≡ Some path) one held;
          is = subst (λ k. IsInstanceType ms (tables_of st) ty k tree) three
              (subst (λ k. IsInstanceType ms (tables_of st) k m tree) two is);
          are = refl;
        }

    pub host_type_held : HasSomeParts ms (tables_of st) instance → ty.0 < length st.types.instances
    host_type_held some =
        let v = host_as instance some.0 some.1 some.2 refl in
        let h = v.is.typed (who_of st.graph) (who_fits st.graph) in
        type_below ty (instance_fields v.tree)
        (subst (HasTree st.types (who_of st.graph) (type.ComponentInstance ty)) (fields_of ms st ty v.tree h) h)

    pub host_path_held : HasSomeParts ms (tables_of st) instance → p.0 < length st.paths.held
    host_path_held some =
        let v = host_as instance some.0 some.1 some.2 refl in slice_get_within st.paths.held p.0 v.path v.held

    module _ (place : ℕ) where
      part_of : (parts : List Part) (v : HostHas parts)
          → slice_get parts place ≡ option_map (host_part v.path) (field_at v.tree place)
      part_of parts v =
          ap (λ l. slice_get l place) v.are
          ∙ slice_mapped (host_part v.path) (fields_list (instance_fields v.tree)) place

      -- there is nothing
      pub host_none : (o : Option HostMember) → ((js : List ModuleRecord) (tree : TypeTree)
          → IsInstanceType js (tables_of st) ty entry tree
          → Both (HostFieldStands js (tables_of st)) o (field_at tree place)) → o ≡ None
          → Finds t ms st instance place st (Ok None)
      unfolding FindsPart
      host_none o finds none parts tree has =
          let v = host_as instance parts tree has refl in
          part_of parts v ∙ ap (option_map (host_part v.path))
          (both_missing (HostFieldStands ms (tables_of st)) o (field_at v.tree place) (finds ms v.tree v.is) none)

      mapped_none : {A B : Type 0} (f : A → B) (o : Option A) → option_map f o ≡ None → o ≡ None
      mapped_none f None is = refl
      mapped_none f (Some x) is = absurd (let no : ⊥ = cc in no)

      -- the number of a name is that of the field
      module _ (sound : IsSoundState t ms st) (n : Option Atom)
          (numbers : Both (λ name k. IsNumber st.names.now.texts k name) (name_at st.names.now.table entry place) n)
        where
          field_name : (parts : List Part) (v : HostHas parts) → name_at st.names.now.table entry place
              ≡ option_map (λ (f : List ℕ × TypeTree). f.0) (field_at v.tree place)
          field_name parts v =
              ap (λ (y : TypeTable). name_at y entry place) (sound.names.table ∙ sym sound.table)
              ∙ declared_name ty entry v.tree v.is place

          -- there is no number
          pub host_unnumbered : n ≡ None → Finds t ms st instance place st (Ok None)
          unfolding FindsPart
          host_unnumbered none parts tree has =
              let v = host_as instance parts tree has refl in
              part_of parts v ∙ ap (option_map (host_part v.path))
              (mapped_none (λ (f : List ℕ × TypeTree). f.0) (field_at v.tree place)
              (sym (field_name parts v) ∙ unnumbered (λ name k. IsNumber st.names.now.texts k name) _ n numbers none))

          -- a number has a text
          pub host_untold : (k : Atom) → n ≡ Some k → (o : Option (List ℕ)) → o ≡ slice_get st.names.now.texts k.0
              → o ≡ None → Finds t ms st instance place st (Ok None)
          host_untold k some o told none =
              let x = number_named entry place n numbers k some in
              absurd (none-some x.0 (sym none ∙ told ∙ x.2))

          -- which is the name of the field
          pub field_named : (k : Atom) → n ≡ Some k → (label : List ℕ) → slice_get st.names.now.texts k.0 ≡ Some label
              → (parts : List Part) (v : HostHas parts) (f : List ℕ × TypeTree) → field_at v.tree place ≡ Some f
              → label ≡ f.0
          field_named k some label told parts v f there =
              let x = number_named entry place n numbers k some in
              same_Some label f.0 (sym told ∙ x.2 ∙ sym x.1 ∙ field_name parts v
              ∙ ap (option_map (λ (y : List ℕ × TypeTree). y.0)) there)

      module _ (o : Option HostMember) (finds : (js : List ModuleRecord) (tree : TypeTree)
          → IsInstanceType js (tables_of st) ty entry tree
          → Both (HostFieldStands js (tables_of st)) o (field_at tree place)) (m : HostMember) (some : o ≡ Some m) where
        -- what stands there, and its field
        field_there : (parts : List Part) (v : HostHas parts) → (f : List ℕ × TypeTree)
            × (field_at v.tree place ≡ Some f) × HostFieldStands ms (tables_of st) m f
        field_there parts v =
            both_there (HostFieldStands ms (tables_of st)) o (field_at v.tree place) m (finds ms v.tree v.is) some

        -- a component
        pub host_component : m ≡ member.Component
            → Finds t ms st instance place st (Err (item_error.Fault (item_fault.Unsupported ComponentImport)))
        unfolding FindsPart
        host_component same parts tree has =
            let v = host_as instance parts tree has refl in
            let f = field_there parts v in (
              host_part v.path f.0,
              part_of parts v ∙ ap (option_map (host_part v.path)) f.1,
              ComponentImport,
              refl,
              λ w. component_refused (further v.path f.0.0) m f.0.1 f.2 same w,
            )

        -- anything else
        module _ (label : List ℕ) (named : (parts : List Part) (v : HostHas parts) (f : List ℕ × TypeTree)
            → field_at v.tree place ≡ Some f → label ≡ f.0) (new : State) (keeps : Keeps (tables_of st) (tables_of new))
            (id : PathId)
            (takes : (path : Path) → slice_get st.paths.held p.0 ≡ Some path → TakesPath (further path label) st new id)
            (d : Definition) (at : definition_at id m ≡ Some d) where
          pub host_found : (name : List ℕ) → name ≡ label
              → Finds t ms st instance place new (Ok (Some (record { name = name; data_ = no_data; definition = d })))
          unfolding FindsPart
          host_found name copied parts tree has =
              let v = host_as instance parts tree has refl in
              let f = field_there parts v in
              let same = named parts v f.0 f.1 in (
                host_part v.path f.0,
                part_of parts v ∙ ap (option_map (host_part v.path)) f.1,
                record {
                  name = copied ∙ same;
                  data_ = refl;
                  is = stands_at id m
                      (subst (λ (l : List ℕ). slice_get new.paths.held id.0 ≡ Some (further v.path l)) same
                      (takes v.path v.held).held)
                      (member_kept ms (tables_of st) (tables_of new) keeps m f.0.1 f.2) at;
                },
              )
