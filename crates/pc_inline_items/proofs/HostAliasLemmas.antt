-- An alias of what a component instance of the host exports.
use Rattle.std.proofs.Common.{◌≡◌, ◌<◌, ◌∷◌, ◌++◌, [], ℕ, true, false, List, Ok, Err, Option, Some, None, Result}
use Rattle.std.proofs.Common.{length}
use Rattle.std.proofs.Common.{refl, sym, ap, subst, ◌∙◌, ◌+◌, arith}
use Rattle.std.specs.Prelude.{⊤, option_map, slice_get}
use Rattle.std.specs.Result.{IsErrAnd}
use Rattle.std.proofs.lemmas.Option.{none-some, same_Some, slice_get_within}
use Rattle.pc_types.specs.declared.error.Unsupported.TheVariants.{ComponentImport}
use Rattle.pc_types.specs.declared.module_record.ModuleRecord.{ModuleRecord}
use Rattle.pc_types.specs.declared.parsed.TypeTable.{TypeTable}
use Rattle.pc_types.specs.declared.type_index.TypeComponentInstanceIndex.{TypeComponentInstanceIndex}
use Rattle.pc_types.specs.TypeTree.{Path, TypeTree}
use Rattle.pc_parsed.specs.declared.payload.ItemKind.{ItemKind}
use Rattle.pc_spec_reading.specs.Instances.{alias_in, alias_member}
use Rattle.pc_spec_reading.specs.Member.{a_value, field_under, further, host_member, member}
use Rattle.pc_spec_reading.specs.Outcome.{found, invalid}
use Rattle.pc_spec_reading.specs.Scope.{add_value}
use Rattle.pc_spec_reading.specs.Types.{instance_fields}
use Rattle.pc_spec_reading.specs.Value.{Instance, Value, host_instance, instance_value}
use Rattle.pc_inline_paths.specs.declared.path_id.PathId.{PathId}
use Rattle.pc_inline_state.specs.declared.definition.Definition.{Definition}
use Rattle.pc_inline_state.specs.declared.definition.Definition.TheVariants as definition
use Rattle.pc_inline_state.specs.declared.definition.DefinitionId.{DefinitionId}
use Rattle.pc_inline_state.specs.declared.error.ItemError.{ItemError}
use Rattle.pc_inline_state.specs.declared.error.ItemError.TheVariants as item_error
use Rattle.pc_inline_state.specs.declared.error.ItemFault.TheVariants as item_fault
use Rattle.pc_inline_state.specs.declared.frame.Frame.{Frame}
use Rattle.pc_inline_state.specs.declared.state.State.{State}
use Rattle.pc_inline_state.specs.Adds.{Adds}
use Rattle.pc_inline_state.specs.AddsEach.{AddsEach, nowhere}
use Rattle.pc_inline_state.specs.Definitions as definitions
use Rattle.pc_inline_state.specs.Frames.{Both}
use Rattle.pc_inline_state.specs.Lists.{with_item_id}
use Rattle.pc_inline_state.specs.Points.{Follows}
use Rattle.pc_inline_state.specs.Prepares.{Prepares}
use Rattle.pc_inline_state.specs.Refused.{LacksRoom}
use Rattle.pc_inline_state.specs.Stands.{DefinitionStands, IsHostType, stands_host_instance}
use Rattle.pc_inline_state.specs.TakesPath.{SoundWithPaths}
use Rattle.pc_inline_state.specs.Tables.{Keeps, Tables, tables_of}
use Rattle.pc_inline_state.proofs.AddsLemmas.{adds_each, each_trans}
use Rattle.pc_inline_state.proofs.MembersLemmas.{no_instance}
use Rattle.pc_inline_state.proofs.StateLemmas.{definition_prepares}
use Rattle.pc_inline_state.proofs.ZipLemmas.{both_missing, both_there}
use Rattle.pc_inline_canon.proofs.DefinitionLemmas.{definition_added}
use Rattle.pc_inline_canon.proofs.KeptLemmas.{definition_kept, host_type_kept, table_tree_kept, type_kept}
use Rattle.pc_inline_canon.proofs.WorldLemmas.{point_kept}
use Rattle.pc_types.specs.declared.types.TypeDef.TheVariants as type
use Rattle.pc_types.specs.Table.{is_instance, is_module}
use Rattle.pc_types.specs.TypeTree.{func_of, instance_of, module_of}
use Rattle.pc_inline_hosts.specs.declared.member.HostMember.{HostMember}
use Rattle.pc_inline_hosts.specs.declared.member.HostMember.TheVariants as hosts
use Rattle.pc_inline_hosts.specs.HostMembers.{definition_at}
use Rattle.pc_inline_hosts.specs.HostStands.{HostMemberStands, IsInstanceType, component_member, func_member}
use Rattle.pc_inline_hosts.specs.HostStands.{instance_member, module_member, type_member}
use Rattle.pc_inline_hosts.proofs.HostLemmas.{instance_held}
use Rattle.pc_inline_hosts.proofs.ValueLemmas.{component_value, further_type, member_value}
use Rattle.pc_inline_items.specs.Aliases.{HostAlias, HostMemberAlias}
use Rattle.pc_inline_items.proofs.FollowLemmas.{follows_as, follows_lacking, follows_unfed, path_point}
use Rattle.pc_inline_items.proofs.ItemLemmas.{item_point, kind_entry}

-- a path adds to no list that is counted
pub path_adds : (t : TypeTable) (a b : Tables) → AddsEach nowhere 0 0 a b → Adds t 4 a b
path_adds t a b h = adds_each t nowhere 0 0 4 a b (λ l. omega arith) (omega arith) (omega arith) h

-- nor does it in front of a definition
pub path_then : (t : TypeTable) (a b c : Tables) → AddsEach nowhere 0 0 a b → AddsEach nowhere 0 1 b c → Adds t 4 a c
path_then t a b c h k =
    adds_each t (λ l. nowhere l + nowhere l) 0 1 4 a c (λ l. omega arith) (omega arith) (omega arith)
    (each_trans nowhere nowhere 0 0 0 1 a b c h k)

-- an item of the host is no instance from items
member_exports : (p : PathId) (m : HostMember) (d : Definition) → definition_at p m ≡ Some d
    → definitions.exports_of d ≡ None
member_exports p (hosts.Func ty) d is = ap definitions.exports_of (sym (same_Some _ d is))
member_exports p (hosts.Instance ty n) d is = ap definitions.exports_of (sym (same_Some _ d is))
member_exports p (hosts.Module ty n) d is = ap definitions.exports_of (sym (same_Some _ d is))
member_exports p (hosts.Type_ ty) d is = ap definitions.exports_of (sym (same_Some _ d is))
member_exports p hosts.Component d is = absurd (none-some d is)

-- what a host instance has stands as it stood when tables have grown
member_kept : (ms : List ModuleRecord) (b c : Tables) → Keeps b c → (m : HostMember) (tree : TypeTree)
    → HostMemberStands ms b m tree → HostMemberStands ms c m tree
member_kept ms b c keeps m tree (func_member {ty = ty} {params = ps} {result = r} {is_async = a} typed) =
    func_member (type_kept ms b c keeps (type.ComponentFunc ty) (func_of ps r a) typed)
member_kept ms b c keeps m tree (instance_member {ty = ty} {entry = n} {exports = es} is) =
    instance_member (record {
      typed = type_kept ms b c keeps (type.ComponentInstance ty) (instance_of es) is.typed;
      declared = table_tree_kept ms b c keeps is_instance n (instance_of es) is.declared;
    })
member_kept ms b c keeps m tree (module_member {ty = ty} {entry = n} {imports = is} {exports = es} typed declared) =
    module_member (type_kept ms b c keeps (type.Module ty) (module_of is es) typed)
    (table_tree_kept ms b c keeps is_module n (module_of is es) declared)
member_kept ms b c keeps m tree component_member = component_member
member_kept ms b c keeps m tree (type_member {d = d} {tree = x} kind typed) =
    type_member kind (type_kept ms b c keeps d x typed)

-- An item of the host whose path was taken in.
module _ (k : ItemKind) (parent : PathId) (name : List ℕ) (m : HostMember) (st : State) (f : Frame) (mid : State)
    (rest : mid ≡ record st { paths = mid.paths; used = mid.used }) (keeps : Keeps (tables_of st) (tables_of mid))
    (sound : SoundWithPaths st mid) (p : PathId)
    (takes : (path : Path) → slice_get st.paths.held parent.0 ≡ Some path
    → slice_get mid.paths.held p.0 ≡ Some (further path name)) where
  -- it is a component
  pub alias_component : definition_at p m ≡ None → (st' : State) (f' : Frame)
      → HostMemberAlias k parent name m st f st' f'
      (Err (item_error.Fault (item_fault.Unsupported ComponentImport)))
  unfolding HostMemberAlias Follows
  alias_component none st' f' t ms now path tree field at held host under stands =
      let kept = member_kept ms (tables_of st) (tables_of mid) keeps m field stands in
      ap (alias_member now k)
      (component_value ms (tables_of mid) p (further path name) (takes path held) m field kept none)

  module _ (d : Definition) (is : definition_at p m ≡ Some d) where
    -- its value
    value_of_it : (ms : List ModuleRecord) (path : Path) (tree field : TypeTree)
        → slice_get st.paths.held parent.0 ≡ Some path → IsHostType ms (tables_of st) path tree
        → field_under name (instance_fields tree) ≡ Some field → HostMemberStands ms (tables_of st) m field
        → (v : Value) × (host_member (further path name) field ≡ a_value v) × DefinitionStands ms (tables_of mid) d v
    value_of_it ms path tree field held host under stands =
        let there = further_type ms (tables_of mid) path tree
        (host_type_kept ms (tables_of st) (tables_of mid) keeps path tree host) name field under in
        member_value ms (tables_of mid) p (further path name) (takes path held) m field
        (member_kept ms (tables_of st) (tables_of mid) keeps m field stands) there d is

    -- it is of another kind
    pub alias_unlike : definitions.is_of_kind k d ≡ false → (st' : State) (f' : Frame)
        → HostMemberAlias k parent name m st f st' f' (Err (item_error.Fault item_fault.Invalid))
    unfolding HostMemberAlias Follows
    alias_unlike isnt st' f' t ms now path tree field at held host under stands =
        let v = value_of_it ms path tree field held host under stands in
        let other = sym (kind_entry ms (tables_of mid) k d v.0 v.2) ∙ isnt in
        ap (alias_member now k) v.1 ∙ rw (other) refl

    -- it is an item of the component instance now
    pub alias_added : definitions.is_of_kind k d ≡ true → (new : State)
        → new ≡ record mid { definitions = mid.definitions ++ d ∷ [] } → (id : DefinitionId)
        → id.0 ≡ length mid.definitions → (f' : Frame) → f' ≡ with_item_id f k id → (r : ⊤)
        → HostMemberAlias k parent name m st f new f' (Ok r)
    unfolding HostMemberAlias Follows
    alias_added does new grown id key f' framed r t ms now path tree field at held host under stands =
        let v = value_of_it ms path tree field held host under stands in
        let kind = sym (kind_entry ms (tables_of mid) k d v.0 v.2) ∙ does in
        let prepares = subst (Prepares t ms mid) (sym grown)
        (definition_prepares t ms mid d (no_instance (length mid.instances) d (member_exports p m d is))) in
        let here = point_kept t ms mid new prepares f now (path_point t ms st mid f now rest keeps sound at) in
        let entry = definition_added ms (tables_of new) mid.definitions d id v.0
        (ap (λ (x : State). x.definitions) grown) key
        (definition_kept ms (tables_of mid) (tables_of new) prepares.keeps d v.0 v.2) in
        subst (λ g. Follows t ms new g (alias_member now k (host_member (further path name) field)) (Ok r)) (sym framed)
        (record {
          now = add_value now v.0;
          stands = item_point t ms new f now here k id v.0 entry kind;
          done = ap (alias_member now k) v.1 ∙ rw (kind) refl;
        })

-- there was no room for it
pub alias_crowded : (k : ItemKind) (parent : PathId) (name : List ℕ) (m : HostMember) (st : State) (f : Frame)
    (st' : State) (f' : Frame) (r : Result ⊤ ItemError) (x : ItemError) → IsErrAnd r (λ y. y ≡ x) → LacksRoom st' x
    → HostMemberAlias k parent name m st f st' f' r
unfolding HostMemberAlias
alias_crowded k parent name m st f st' f' r x is lacks t ms now path tree field at held host under stands =
    follows_lacking t ms st' f' (alias_member now k (host_member (further path name) field)) r x is lacks

-- or no memory
pub alias_unfed : (k : ItemKind) (parent : PathId) (name : List ℕ) (m : HostMember) (st : State) (f : Frame)
    (st' : State) (f' : Frame) (r : Result ⊤ ItemError) → IsErrAnd r (λ y. y ≡ item_error.NoMemory)
    → HostMemberAlias k parent name m st f st' f' r
unfolding HostMemberAlias
alias_unfed k parent name m st f st' f' r is t ms now path tree field at held host under stands =
    follows_unfed t ms st' f' (alias_member now k (host_member (further path name) field)) r is

-- A component instance of the host.
module _ (ms : List ModuleRecord) (p : PathId) (ty : TypeComponentInstanceIndex) (entry : ℕ) (st : State) where
  -- its type is held
  pub host_held : (v : Value) → DefinitionStands ms (tables_of st) (definition.HostInstance p ty entry) v
      → ty.0 < length st.types.instances
  host_held v (stands_host_instance {tree = tree} held host declared typed) =
      instance_held ms (tables_of st) ty entry tree (record { typed = typed; declared = declared })

  -- and its path
  pub path_held : (v : Value) → DefinitionStands ms (tables_of st) (definition.HostInstance p ty entry) v
      → p.0 < length st.paths.held
  path_held v (stands_host_instance {path = path} held host declared typed) =
      slice_get_within st.paths.held p.0 path held

-- What it has under a name.
module _ (t : TypeTable) (ms : List ModuleRecord) (k : ItemKind) (p : PathId) (ty : TypeComponentInstanceIndex)
    (entry : ℕ) (name : List ℕ) (st : State) (f : Frame) where
  module _ (found_ : Option HostMember)
      (is_found : (tree : TypeTree) → IsInstanceType ms (tables_of st) ty entry tree
      → Both (HostMemberStands ms (tables_of st)) found_ (field_under name (instance_fields tree))) where
    -- it has no such name
    pub host_misses : found_ ≡ None → (st' : State) (f' : Frame)
        → HostAlias t ms k p ty entry name st f st' f' (Err (item_error.Fault item_fault.Invalid))
    unfolding HostAlias Follows member
    host_misses none st' f' now i at stands = by i stands
      where
        by : (i : Instance) → DefinitionStands ms (tables_of st) (definition.HostInstance p ty entry) (instance_value i)
            → alias_in now k name i ≡ Err invalid
        by i (stands_host_instance {path = path} {tree = tree} held host declared typed) =
            ap (λ o. found invalid (option_map (host_member (further path name)) o) (alias_member now k))
            (both_missing (HostMemberStands ms (tables_of st)) _ _
            (is_found tree (record { typed = typed; declared = declared })) none)

    -- what it has under the name is what was found
    pub host_follows : (m : HostMember) → found_ ≡ Some m → (st' : State) (f' : Frame) (r : Result ⊤ ItemError)
        → HostMemberAlias k p name m st f st' f' r → HostAlias t ms k p ty entry name st f st' f' r
    unfolding HostAlias HostMemberAlias member
    host_follows m some st' f' r follows now i at stands = by i stands
      where
        by : (i : Instance) → DefinitionStands ms (tables_of st) (definition.HostInstance p ty entry) (instance_value i)
            → Follows t ms st' f' (alias_in now k name i) r
        by i (stands_host_instance {path = path} {tree = tree} held host declared typed) =
            let x = both_there (HostMemberStands ms (tables_of st)) _ _ m
            (is_found tree (record { typed = typed; declared = declared })) some in
            follows_as t ms st' f' (alias_member now k (host_member (further path name) x.0))
            (alias_in now k name (host_instance path tree))
            (ap (λ o. found invalid (option_map (host_member (further path name)) o) (alias_member now k)) x.1) r
            (follows t ms now path tree x.0 at held host x.1 x.2)
