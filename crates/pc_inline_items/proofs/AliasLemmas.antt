-- The step of an alias of what a component instance exports.
use Rattle.std.proofs.Common.{◌≡◌, ℕ, Bool, true, false, true≢false, List, Ok, Err, Option, Some, None, Result, refl}
use Rattle.std.proofs.Common.{sym, ap, subst, ◌∙◌}
use Rattle.std.specs.Prelude.{⊤, option_and_then, option_map, slice_get}
use Rattle.std.proofs.lemmas.Option.{none-some, same_Some}
use Rattle.pc_entity.specs.declared.string_pool.Atom.{Atom}
use Rattle.pc_types.specs.declared.module_record.ModuleRecord.{ModuleRecord}
use Rattle.pc_types.specs.declared.parsed.TypeTable.{TypeTable}
use Rattle.pc_types.specs.declared.type_index.TypeComponentInstanceIndex.{TypeComponentInstanceIndex}
use Rattle.pc_types.specs.Table.{is_some_and}
use Rattle.pc_types.specs.TypeTree.{TypeTree}
use Rattle.pc_parsed.specs.declared.payload.ItemKind.{ItemKind}
use Rattle.pc_spec_reading.specs.Instances.{alias_in, alias_member, is_of_kind, read_alias}
use Rattle.pc_spec_reading.specs.Item.{Item, alias_item}
use Rattle.pc_spec_reading.specs.Member.{a_value, member}
use Rattle.pc_spec_reading.specs.Outcome.{Fault, found, held, invalid}
use Rattle.pc_spec_reading.specs.Rows.{read_row}
use Rattle.pc_spec_reading.specs.Scope.{Moment, add_value}
use Rattle.pc_spec_reading.specs.Value.{Instance, NamedValues, Value, instance_value, made_instance, the_intrinsics}
use Rattle.pc_spec_reading.specs.Value.{value_named}
use Rattle.pc_inline_paths.specs.declared.path_id.PathId.{PathId}
use Rattle.pc_inline_names.specs.Both.{Both}
use Rattle.pc_inline_names.specs.Numbers.{IsNumber, numbered_value}
use Rattle.pc_inline_state.specs.declared.definition.Definition.{Definition}
use Rattle.pc_inline_state.specs.declared.definition.Definition.TheVariants as definition
use Rattle.pc_inline_state.specs.declared.definition.DefinitionId.{DefinitionId}
use Rattle.pc_inline_state.specs.declared.definition.ExportsId.{ExportsId}
use Rattle.pc_inline_state.specs.declared.error.ItemError.{ItemError}
use Rattle.pc_inline_state.specs.declared.error.ItemError.TheVariants as item_error
use Rattle.pc_inline_state.specs.declared.error.ItemFault.TheVariants as item_fault
use Rattle.pc_inline_state.specs.declared.frame.Frame.{Frame}
use Rattle.pc_inline_state.specs.declared.state.Member.{Member}
use Rattle.pc_inline_state.specs.declared.state.State.{State}
use Rattle.pc_inline_state.specs.Definitions as definitions
use Rattle.pc_inline_state.specs.Frames.{InstanceStands}
use Rattle.pc_inline_state.specs.Lists.{with_item_id}
use Rattle.pc_inline_state.specs.Members.{item_of}
use Rattle.pc_inline_state.specs.Points.{Follows, PointStands, Steps, StepsItem}
use Rattle.pc_inline_state.specs.Stands.{DefinitionStands, MembersStand, Stands, stands, stands_host_instance}
use Rattle.pc_inline_state.specs.Stands.{stands_instance, stands_intrinsics}
use Rattle.pc_inline_state.specs.Tables.{tables_of}
use Rattle.pc_inline_state.proofs.ZipLemmas.{both_missing, both_there, zip_at}
use Rattle.pc_inline_canon.proofs.StepLemmas.{steps_stuck}
use Rattle.pc_inline_items.specs.declared.source.InstanceSource.{InstanceSource}
use Rattle.pc_inline_items.specs.declared.source.InstanceSource.TheVariants as source
use Rattle.pc_inline_items.specs.Aliases.{HostAlias}
use Rattle.pc_inline_items.specs.Sources.{instance_source}
use Rattle.pc_inline_items.proofs.FollowLemmas.{follows_row}
use Rattle.pc_inline_items.proofs.ItemLemmas.{item_point, members_named, stands_kind}

-- what the row makes of what an instance has under a name, or of nothing
abbrev taken_of : ItemKind → Moment → Option Value → Result Moment Fault
taken_of k now o = found invalid o (λ (v : Value). held invalid (is_of_kind k v) (Ok (add_value now v)))

same_taken : (k : ItemKind) (now : Moment) (o : Option Value)
    → found invalid (option_map a_value o) (alias_member now k) ≡ taken_of k now o
same_taken k now None = refl
same_taken k now (Some v) = refl

alias_made_is : (k : ItemKind) (now : Moment) (name : List ℕ) (vs : NamedValues) (tree : TypeTree)
    → alias_in now k name (made_instance vs tree) ≡ taken_of k now (value_named name vs)
unfolding member
alias_made_is k now name vs tree = same_taken k now (value_named name vs)

-- whether an instance was made
abbrev is_made_source : InstanceSource → Bool
is_made_source (source.Made n) = true
is_made_source (source.Host p ty entry) = false
is_made_source source.Intrinsics = false

-- the number of what an instance exports that was made
abbrev made_number : InstanceSource → ℕ
made_number (source.Made n) = n.0
made_number (source.Host p ty entry) = 0
made_number source.Intrinsics = 0

-- the path of one of the host
abbrev host_path : InstanceSource → PathId
host_path (source.Made n) = record { 0 = 0 }
host_path (source.Host p ty entry) = p
host_path source.Intrinsics = record { 0 = 0 }

-- its type
abbrev host_type : InstanceSource → TypeComponentInstanceIndex
host_type (source.Made n) = record { 0 = 0 }
host_type (source.Host p ty entry) = ty
host_type source.Intrinsics = record { 0 = 0 }

-- and its entry
abbrev host_entry : InstanceSource → ℕ
host_entry (source.Made n) = 0
host_entry (source.Host p ty entry) = entry
host_entry source.Intrinsics = 0

-- the definition of an instance that was made
made_source : (o : Option Definition) (e : ExportsId) → option_and_then instance_source o ≡ Some (source.Made e)
    → (ty : TypeComponentInstanceIndex) × (o ≡ Some (definition.Instance e ty))
made_source None e h = absurd (none-some _ h)
made_source (Some (definition.Instance n ty)) e h =
    let number = ap made_number (same_Some (source.Made n) (source.Made e) h) in
    (ty, λ i. Some (definition.Instance (record { 0 = number i }) ty))
made_source (Some (definition.HostInstance p ty entry)) e h =
    absurd (true≢false (sym (ap is_made_source (same_Some (source.Host p ty entry) (source.Made e) h))))
made_source (Some definition.Intrinsics) e h =
    absurd (true≢false (sym (ap is_made_source (same_Some source.Intrinsics (source.Made e) h))))
made_source (Some _) e h = absurd (none-some _ h)

-- the definition of one of the host
host_source : (o : Option Definition) (p : PathId) (ty : TypeComponentInstanceIndex) (entry : ℕ)
    → option_and_then instance_source o ≡ Some (source.Host p ty entry) → o ≡ Some (definition.HostInstance p ty entry)
host_source None p ty entry h = absurd (none-some _ h)
host_source (Some (definition.Instance n t)) p ty entry h =
    absurd (true≢false (ap is_made_source (same_Some (source.Made n) (source.Host p ty entry) h)))
host_source (Some (definition.HostInstance q t n)) p ty entry h =
    let same = same_Some (source.Host q t n) (source.Host p ty entry) h in
    λ i. Some (definition.HostInstance (host_path (same i)) (host_type (same i)) (host_entry (same i)))
host_source (Some definition.Intrinsics) p ty entry h = absurd (let k : ⊥ = cc in k)
host_source (Some _) p ty entry h = absurd (none-some _ h)

-- the definition of the intrinsics
intrinsics_source : (o : Option Definition) → option_and_then instance_source o ≡ Some source.Intrinsics
    → o ≡ Some definition.Intrinsics
intrinsics_source None h = absurd (none-some _ h)
intrinsics_source (Some definition.Intrinsics) h = refl
intrinsics_source (Some (definition.Instance n t)) h =
    absurd (true≢false (ap is_made_source (same_Some (source.Made n) source.Intrinsics h)))
intrinsics_source (Some (definition.HostInstance q t n)) h = absurd (let k : ⊥ = cc in k)
intrinsics_source (Some _) h = absurd (none-some _ h)

-- Of an instance that was made.
module _ (t : TypeTable) (ms : List ModuleRecord) (st : State) (f : Frame) (k : ItemKind) (n : ExportsId)
    (number : Atom) (name : List ℕ) (is_number : IsNumber st.names.now.texts number name) (now : Moment)
    (es : List (Atom × Member)) (vs : NamedValues) (tree : TypeTree)
    (at : PointStands t ms st f now) (held_there : slice_get st.instances n.0 ≡ Some es)
    (stand : MembersStand ms (tables_of st) es vs) (found_ : Option DefinitionId)
    (is_found : found_ ≡ option_map item_of (option_and_then (numbered_value number) (slice_get st.instances n.0)))
  where
    both_found : Both (Stands ms (tables_of st)) found_ (value_named name vs)
    both_found =
        subst (λ o. Both (Stands ms (tables_of st)) o (value_named name vs))
        (sym (is_found ∙ ap (λ o. option_map item_of (option_and_then (numbered_value number) o)) held_there))
        (members_named ms (tables_of st) es vs stand at.sound.names.distinct number name is_number)

    -- it has no such name
    pub made_misses : found_ ≡ None → (f' : Frame)
        → Follows t ms st f' (alias_in now k name (made_instance vs tree)) (Err (item_error.Fault item_fault.Invalid))
    unfolding Follows
    made_misses none f' =
        alias_made_is k now name vs tree ∙ ap (taken_of k now)
        (both_missing (Stands ms (tables_of st)) _ _ both_found none)

    module _ (id : DefinitionId) (some : found_ ≡ Some id) where
      named : (v : Value) × (value_named name vs ≡ Some v) × Stands ms (tables_of st) id v
      named = both_there (Stands ms (tables_of st)) _ _ id both_found some

      -- what stands there is of another kind
      pub made_other : (f' : Frame) → is_some_and (definitions.is_of_kind k) (slice_get st.definitions id.0) ≡ false
          → Follows t ms st f' (alias_in now k name (made_instance vs tree)) (Err (item_error.Fault item_fault.Invalid))
      unfolding Follows
      made_other f' isnt =
          let other = sym (stands_kind ms (tables_of st) k id named.0 named.2) ∙ isnt in
          alias_made_is k now name vs tree ∙ ap (taken_of k now) named.1 ∙ rw (other) refl

      -- it is an item of the component instance now
      pub made_follows : (f' : Frame) (r : ⊤)
          → is_some_and (definitions.is_of_kind k) (slice_get st.definitions id.0) ≡ true → f' ≡ with_item_id f k id
          → Follows t ms st f' (alias_in now k name (made_instance vs tree)) (Ok r)
      unfolding Follows
      made_follows f' r does framed =
          let is = sym (stands_kind ms (tables_of st) k id named.0 named.2) ∙ does in
          subst (λ g. Follows t ms st g (alias_in now k name (made_instance vs tree)) (Ok r)) (sym framed) (record {
            now = add_value now named.0;
            stands = item_point t ms st f now at k id named.0 named.2 is;
            done = alias_made_is k now name vs tree ∙ ap (taken_of k now) named.1 ∙ rw (is) refl;
          })

module _ (t : TypeTable) (ms : List ModuleRecord) (st : State) (f : Frame) (k : ItemKind) (n : ℕ) (name : List ℕ) where
  abbrev alias : Item
  alias = alias_item k n name

  abbrev reads : Moment → Result Moment Fault
  reads now = read_row t ms now alias

  alias_none : (now : Moment) → slice_get now.scope.instances n ≡ None → read_row t ms now alias ≡ Err invalid
  unfolding read_row read_alias
  alias_none now none = rw (none) refl

  alias_row : (now : Moment) (i : Instance) → slice_get now.scope.instances n ≡ Some i
      → read_row t ms now alias ≡ alias_in now k name i
  unfolding read_row read_alias
  alias_row now i at = rw (at) refl

  -- the instance is missing
  pub instance_misses : (st' : State) (f' : Frame) → slice_get f.instances n ≡ None
      → StepsItem t ms alias st f st' f' (Err (item_error.Fault item_fault.Invalid))
  instance_misses st' f' none = steps_stuck t ms reads st f st' f' item_fault.Invalid (λ now at.
      alias_none now (both_missing (InstanceStands ms (tables_of st)) _ _
      (zip_at (InstanceStands ms (tables_of st)) f.instances now.scope.instances n at.frame.instances) none))

  module _ (id : DefinitionId) (there : slice_get f.instances n ≡ Some id) where
    -- the instance
    its_instance : (now : Moment) → PointStands t ms st f now
        → (i : Instance) × (slice_get now.scope.instances n ≡ Some i) × Stands ms (tables_of st) id (instance_value i)
    its_instance now at =
        both_there (InstanceStands ms (tables_of st)) _ _ id
        (zip_at (InstanceStands ms (tables_of st)) f.instances now.scope.instances n at.frame.instances) there

    -- what it is by number
    defined_as : (d : Definition) → slice_get st.definitions id.0 ≡ Some d → (v : Value) → Stands ms (tables_of st) id v
        → DefinitionStands ms (tables_of st) d v
    defined_as d at v (stands {d = e} held entry) =
        subst (λ x. DefinitionStands ms (tables_of st) x v) (same_Some e d (sym held ∙ at)) entry

    -- it was made
    pub alias_of_made : (e : ExportsId)
        → option_and_then instance_source (slice_get st.definitions id.0) ≡ Some (source.Made e) → (st' : State)
        (f' : Frame)
        → (r : Result ⊤ ItemError)
        → ((now : Moment) (es : List (Atom × Member)) (vs : NamedValues) (tree : TypeTree) → PointStands t ms st f now
        → slice_get st.instances e.0 ≡ Some es → MembersStand ms (tables_of st) es vs
        → Follows t ms st' f' (alias_in now k name (made_instance vs tree)) r) → StepsItem t ms alias st f st' f' r
    unfolding Steps
    alias_of_made e from st' f' r follows now at =
        let i = its_instance now at in
        let d = made_source (slice_get st.definitions id.0) e from in
        follows_row t ms st' f' now alias (alias_in now k name i.0) (alias_row now i.0 i.1) r
        (by d.0 i.0 (defined_as (definition.Instance e d.0) d.1 (instance_value i.0) i.2))
      where
        by : (ty : TypeComponentInstanceIndex) (i : Instance) → DefinitionStands ms (tables_of st)
            (definition.Instance e ty) (instance_value i)
            → Follows t ms st' f' (alias_in now k name i) r
        by ty i (stands_instance {es = es} {vs = vs} {tree = tree} held members typed) =
            follows now es vs tree at held members

    -- it is one of the host
    pub alias_of_host : (p : PathId) (ty : TypeComponentInstanceIndex) (entry : ℕ)
        → option_and_then instance_source (slice_get st.definitions id.0) ≡ Some (source.Host p ty entry)
        → (st' : State) (f' : Frame) → (r : Result ⊤ ItemError) → HostAlias t ms k p ty entry name st f st' f' r
        → StepsItem t ms alias st f st' f' r
    unfolding Steps HostAlias
    alias_of_host p ty entry from st' f' r follows now at =
        let i = its_instance now at in
        let is = host_source (slice_get st.definitions id.0) p ty entry from in
        follows_row t ms st' f' now alias (alias_in now k name i.0) (alias_row now i.0 i.1) r
        (follows now i.0 at (defined_as (definition.HostInstance p ty entry) is (instance_value i.0) i.2))

    -- what one of the host is
    pub host_stands : (p : PathId) (ty : TypeComponentInstanceIndex) (entry : ℕ)
        → option_and_then instance_source (slice_get st.definitions id.0) ≡ Some (source.Host p ty entry)
        → (now : Moment) → PointStands t ms st f now
        → (v : Value) × DefinitionStands ms (tables_of st) (definition.HostInstance p ty entry) v
    host_stands p ty entry from now at =
        let i = its_instance now at in (
          instance_value i.0,
          defined_as (definition.HostInstance p ty entry)
              (host_source (slice_get st.definitions id.0) p ty entry from) (instance_value i.0) i.2,
        )

    -- it is that of the unsafe intrinsics
    pub alias_of_intrinsics : option_and_then instance_source (slice_get st.definitions id.0) ≡ Some source.Intrinsics
        → (st' : State) (f' : Frame) (r : Result ⊤ ItemError)
        → ((now : Moment) → PointStands t ms st f now → Follows t ms st' f' (alias_in now k name the_intrinsics) r)
        → StepsItem t ms alias st f st' f' r
    unfolding Steps
    alias_of_intrinsics from st' f' r follows now at =
        let i = its_instance now at in
        follows_row t ms st' f' now alias (alias_in now k name i.0) (alias_row now i.0 i.1) r
        (by i.0 (defined_as definition.Intrinsics (intrinsics_source (slice_get st.definitions id.0) from)
        (instance_value i.0) i.2))
      where
        by : (i : Instance) → DefinitionStands ms (tables_of st) definition.Intrinsics (instance_value i)
            → Follows t ms st' f' (alias_in now k name i) r
        by i stands_intrinsics = follows now at

    -- it is none of these: that isn't so
    pub alias_of_none : option_and_then instance_source (slice_get st.definitions id.0) ≡ None → (st' : State)
        (f' : Frame) (r : Result ⊤ ItemError) → StepsItem t ms alias st f st' f' r
    unfolding Steps
    alias_of_none none st' f' r now at =
        let i = its_instance now at in absurd (neither_is i.0 i.2)
      where
        neither_is : (i : Instance) → Stands ms (tables_of st) id (instance_value i) → ⊥
        neither_is i (stands held (stands_instance there exported typed)) =
            none-some _ (sym none ∙ ap (option_and_then instance_source) held)
        neither_is i (stands held (stands_host_instance there host declared typed)) =
            none-some _ (sym none ∙ ap (option_and_then instance_source) held)
        neither_is i (stands held stands_intrinsics) =
            none-some _ (sym none ∙ ap (option_and_then instance_source) held)
