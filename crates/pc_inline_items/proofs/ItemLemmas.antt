-- Items by kind and index (`item_there`, `item_kind`, `item_framed`, `item_goes`), of which kind a definition is
-- (`kind_entry`, `stands_kind`), and what component instances have under the number of a name (`members_push`,
-- `members_named`).
use Rattle.std.proofs.Common.{◌≡◌, ℕ, Bool, true, false, List, [], ◌∷◌, ◌++◌, Option, None, Some, Ok, refl, sym, ap}
use Rattle.std.proofs.Common.{true≢false, ◌∙◌, if◌then◌else◌, subst}
use Rattle.std.specs.Prelude.{option_map, slice_get}
use Rattle.std.specs.Str.{bytes_eq}
use Rattle.std.proofs.lemmas.Option.{none-some, same_Some}
use Rattle.pc_entity.specs.declared.string_pool.Atom.{Atom}
use Rattle.pc_entity.specs.Lists.{AreDistinct}
use Rattle.pc_types.specs.declared.module_record.ModuleRecord.{ModuleRecord}
use Rattle.pc_types.specs.declared.parsed.TypeTable.{TypeTable}
use Rattle.pc_types.specs.Table.{is_some_and}
use Rattle.pc_parsed.specs.declared.payload.ItemKind.{ItemKind}
use Rattle.pc_parsed.specs.declared.payload.ItemKind.TheVariants as kind
use Rattle.pc_spec_reading.specs.Instances.{is_of_kind}
use Rattle.pc_spec_reading.specs.Items.{value_at}
use Rattle.pc_spec_reading.specs.Item.{Item}
use Rattle.pc_spec_reading.specs.Rows.{read_row}
use Rattle.pc_spec_reading.specs.Scope.{Moment, Scope, add_value, with_value}
use Rattle.pc_spec_reading.specs.Types.{type_tree}
use Rattle.pc_spec_reading.specs.Value.{NamedValue, NamedValues, Value, component_value, func_value}
use Rattle.pc_spec_reading.specs.Value.{instance_value, module_value, pack_values, type_value, value_named}
use Rattle.pc_inline_names.specs.Both.{Both, both, neither}
use Rattle.pc_inline_names.specs.Numbers.{IsNumber, numbered_value}
use Rattle.pc_inline_names.proofs.NumberedLemmas.{number_alike}
use Rattle.pc_inline_state.specs.declared.definition.Definition.{Definition}
use Rattle.pc_inline_state.specs.declared.definition.DefinitionId.{DefinitionId}
use Rattle.pc_inline_state.specs.declared.frame.Frame.{Frame}
use Rattle.pc_inline_state.specs.declared.state.State.{State}
use Rattle.pc_inline_state.specs.declared.state.Member.{Member}
use Rattle.pc_inline_state.specs.Adds.{is_type_kind}
use Rattle.pc_inline_state.specs.Definitions as definitions
use Rattle.pc_inline_state.specs.Frames.{ComponentStands, FrameStands, FuncStands, InstanceStands, ModuleStands}
use Rattle.pc_inline_state.specs.Lists.{item_ids, with_item_id}
use Rattle.pc_inline_state.specs.Members.{item_of}
use Rattle.pc_inline_items.specs.Members.{member_of}
use Rattle.pc_inline_state.specs.Points.{Goes, PointStands}
use Rattle.pc_inline_state.specs.Stands.{DefinitionStands, MembersStand, Stands, and_member, no_members, stands}
use Rattle.pc_inline_state.specs.Stands.{stands_component, stands_host, stands_host_instance, stands_host_module}
use Rattle.pc_inline_state.specs.Stands.{stands_instance, stands_intrinsic, stands_intrinsics, stands_lifted}
use Rattle.pc_inline_state.specs.Stands.{stands_static, stands_type}
use Rattle.pc_inline_state.specs.Tables.{Tables, tables_of}
use Rattle.pc_inline_canon.proofs.FrameLemmas.{component_framed, framed_point, func_framed, made_framed, module_framed}
use Rattle.pc_inline_state.proofs.ZipLemmas.{zip_at}

-- one item more leaves the component instance where it is
pub item_same : (f : Frame) (k : ItemKind) (id : DefinitionId)
    → (with_item_id f k id).component_instance ≡ f.component_instance
item_same f kind.Func id = refl
item_same f kind.Module id = refl
item_same f kind.Instance id = refl
item_same f kind.Component id = refl
item_same f kind.Type_ id = refl
item_same f kind.Value id = refl

-- and what was converted for it
item_done : (f : Frame) (k : ItemKind) (id : DefinitionId) → (with_item_id f k id).converted ≡ f.converted
item_done f kind.Func id = refl
item_done f kind.Module id = refl
item_done f kind.Instance id = refl
item_done f kind.Component id = refl
item_done f kind.Type_ id = refl
item_done f kind.Value id = refl

-- and what it changed
pub item_changes : (f : Frame) (k : ItemKind) (id : DefinitionId) → (with_item_id f k id).changes ≡ f.changes
item_changes f kind.Func id = refl
item_changes f kind.Module id = refl
item_changes f kind.Instance id = refl
item_changes f kind.Component id = refl
item_changes f kind.Type_ id = refl
item_changes f kind.Value id = refl

-- one value more leaves the resources that a scope knows
value_known : (s : Scope) (v : Value) → (with_value s v).known ≡ s.known
value_known s (func_value f) = refl
value_known s (module_value m) = refl
value_known s (instance_value i) = refl
value_known s (component_value c) = refl
value_known s (type_value t) = refl

-- a kind that is another than that of types
pub other_kind : (k : ItemKind) → ¬ (k ≡ kind.Type_) → is_type_kind k ≡ false
other_kind kind.Func isnt = refl
other_kind kind.Module isnt = refl
other_kind kind.Instance isnt = refl
other_kind kind.Component isnt = refl
other_kind kind.Type_ isnt = absurd (isnt refl)
other_kind kind.Value isnt = refl

-- what stands as a value of one kind stands as a value
both_value : {A : Type 0} (ms : List ModuleRecord) (b : Tables) (value : A → Value) (o : Option DefinitionId)
    (w : Option A) → Both (λ id x. Stands ms b id (value x)) o w → Both (Stands ms b) o (option_map value w)
both_value ms b value None None h = neither
both_value ms b value None (Some x) h = elim h [ ]
both_value ms b value (Some id) None h = elim h [ ]
both_value ms b value (Some id) (Some x) (both r) = both r

-- the item of a kind at an index, but a type
pub item_there : (t : TypeTable) (ms : List ModuleRecord) (b : Tables) (f : Frame) (s : Scope) → FrameStands ms b f s
    → (k : ItemKind) → is_type_kind k ≡ false → (n : ℕ)
    → Both (Stands ms b) (slice_get (item_ids f k) n) (value_at t s k n)
unfolding value_at
item_there t ms b f s h kind.Func other n =
    both_value ms b func_value (slice_get f.funcs n) (slice_get s.funcs n)
    (zip_at (FuncStands ms b) f.funcs s.funcs n h.funcs)
item_there t ms b f s h kind.Module other n =
    both_value ms b module_value (slice_get f.modules n) (slice_get s.modules n)
    (zip_at (ModuleStands ms b) f.modules s.modules n h.modules)
item_there t ms b f s h kind.Instance other n =
    both_value ms b instance_value (slice_get f.instances n) (slice_get s.instances n)
    (zip_at (InstanceStands ms b) f.instances s.instances n h.instances)
item_there t ms b f s h kind.Component other n =
    both_value ms b component_value (slice_get f.components n) (slice_get s.components n)
    (zip_at (ComponentStands ms b) f.components s.components n h.components)
item_there t ms b f s h kind.Type_ other n = absurd (true≢false other)
item_there t ms b f s h kind.Value other n = neither

-- a component instance with one item more
item_framed : (ms : List ModuleRecord) (b : Tables) (f : Frame) (s : Scope) → FrameStands ms b f s → (k : ItemKind)
    (id : DefinitionId) (v : Value) → Stands ms b id v → is_of_kind k v ≡ true
    → FrameStands ms b (with_item_id f k id) (with_value s v)
item_framed ms b f s h kind.Func id (func_value x) y is = func_framed ms b f s h id x y
item_framed ms b f s h kind.Module id (module_value x) y is = module_framed ms b f s h id x y
item_framed ms b f s h kind.Instance id (instance_value x) y is = made_framed ms b f s h id x y
item_framed ms b f s h kind.Component id (component_value x) y is = component_framed ms b f s h id x y
item_framed ms b f s h kind.Type_ id (type_value tree) y is = h
item_framed ms b f s h k id v y is = absurd (true≢false (sym is))

-- a moment with one item more
pub item_point : (t : TypeTable) (ms : List ModuleRecord) (st : State) (f : Frame) (now : Moment)
    → PointStands t ms st f now → (k : ItemKind) (id : DefinitionId) (v : Value) → Stands ms (tables_of st) id v
    → is_of_kind k v ≡ true → PointStands t ms st (with_item_id f k id) (add_value now v)
item_point t ms st f now at k id v x is =
    framed_point t ms st f (with_item_id f k id) now (with_value now.scope v) at (item_same f k id) (item_done f k id)
    (value_known now.scope v) (item_framed ms (tables_of st) f now.scope at.frame k id v x is)

-- an item whose row adds a value of a kind
pub item_goes : (t : TypeTable) (ms : List ModuleRecord) (st : State) (f : Frame) (now : Moment)
    → PointStands t ms st f now → (k : ItemKind) (id : DefinitionId) (v : Value) → Stands ms (tables_of st) id v
    → is_of_kind k v ≡ true → (i : Item) → read_row t ms now i ≡ Ok (add_value now v)
    → Goes t ms st (with_item_id f k id) (read_row t ms now i)
item_goes t ms st f now at k id v x is i row = record {
  now = add_value now v;
  stands = item_point t ms st f now at k id v x is;
  done = row;
}

of_kind : {A : Type 0} (k : ItemKind) (value : A → Value) → ((x : A) → is_of_kind k (value x) ≡ true) → (o : Option A)
    (v : Value) → option_map value o ≡ Some v → is_of_kind k v ≡ true
of_kind k value each None v at = absurd (none-some v at)
of_kind k value each (Some x) v at = subst (λ w. is_of_kind k w ≡ true) (same_Some (value x) v at) (each x)

-- what a kind and an index name is of the kind
pub item_kind : (t : TypeTable) (s : Scope) (k : ItemKind) (n : ℕ) (v : Value) → value_at t s k n ≡ Some v
    → is_of_kind k v ≡ true
unfolding value_at
item_kind t s kind.Func n v at = of_kind kind.Func func_value (λ x. refl) (slice_get s.funcs n) v at
item_kind t s kind.Module n v at = of_kind kind.Module module_value (λ x. refl) (slice_get s.modules n) v at
item_kind t s kind.Instance n v at = of_kind kind.Instance instance_value (λ x. refl) (slice_get s.instances n) v at
item_kind t s kind.Component n v at = of_kind kind.Component component_value (λ x. refl) (slice_get s.components n) v at
item_kind t s kind.Type_ n v at = of_kind kind.Type_ type_value (λ x. refl) (type_tree t s n) v at
item_kind t s kind.Value n v at = absurd (none-some v at)

module _ (ms : List ModuleRecord) (b : Tables) where
  -- a definition is of a kind where its value is
  pub kind_entry : (k : ItemKind) (d : Definition) (v : Value) → DefinitionStands ms b d v
      → definitions.is_of_kind k d ≡ is_of_kind k v
  kind_entry kind.Func d v (stands_host held host typed) = refl
  kind_entry k d v (stands_host held host typed) = refl
  kind_entry kind.Func d v (stands_lifted is_func func options) = refl
  kind_entry k d v (stands_lifted is_func func options) = refl
  kind_entry kind.Func d v stands_intrinsic = refl
  kind_entry k d v stands_intrinsic = refl
  kind_entry kind.Module d v (stands_static below declared i typed) = refl
  kind_entry k d v (stands_static below declared i typed) = refl
  kind_entry kind.Module d v (stands_host_module held host declared typed) = refl
  kind_entry k d v (stands_host_module held host declared typed) = refl
  kind_entry kind.Component d v (stands_component tr body leaving closure modules components) = refl
  kind_entry k d v (stands_component tr body leaving closure modules components) = refl
  kind_entry kind.Instance d v (stands_host_instance held host declared typed) = refl
  kind_entry k d v (stands_host_instance held host declared typed) = refl
  kind_entry kind.Instance d v (stands_instance held members typed) = refl
  kind_entry k d v (stands_instance held members typed) = refl
  kind_entry kind.Instance d v stands_intrinsics = refl
  kind_entry k d v stands_intrinsics = refl
  kind_entry kind.Type_ d v (stands_type typed) = refl
  kind_entry k d v (stands_type typed) = refl

  -- and by number
  pub stands_kind : (k : ItemKind) (id : DefinitionId) (v : Value) → Stands ms b id v
      → is_some_and (definitions.is_of_kind k) (slice_get b.definitions id.0) ≡ is_of_kind k v
  stands_kind k id v (stands {d = d} held entry) =
      ap (is_some_and (definitions.is_of_kind k)) held ∙ kind_entry k d v entry

module _ (ms : List ModuleRecord) (b : Tables) where
  -- one member more
  pub members_push : (es : List (Atom × Member)) (vs : List NamedValue) (n : Atom) (x : NamedValue) (id : DefinitionId)
      → MembersStand ms b es (pack_values vs) → IsNumber b.names.texts n x.name.name → Stands ms b id x.value
      → MembersStand ms b (es ++ (n, member_of x.name id) ∷ []) (pack_values (vs ++ x ∷ []))
  members_push es [] n x id no_members is y = and_member is refl y no_members
  members_push es (v ∷ vs) n x id (and_member {es = rest} number said z more) is y =
      and_member number said z (members_push rest vs n x id more is y)

  -- a name has on one side what its number has on the other
  pub members_named : (es : List (Atom × Member)) (vs : NamedValues) → MembersStand ms b es vs
      → AreDistinct b.names.texts → (n : Atom) (name : List ℕ) → IsNumber b.names.texts n name
      → Both (Stands ms b) (option_map item_of (numbered_value n es)) (value_named name vs)
  members_named es vs no_members distinct n name is = neither
  members_named es vs (and_member {name = k} {n = m} {m = e} {v = v} {es = rest} {vs = others} number said x more)
      distinct n name is =
      subst (λ (t : Bool). Both (Stands ms b) (option_map item_of (if t then Some e else numbered_value n rest))
      (if bytes_eq name k.name then Some v else value_named name others))
      (sym (number_alike b.names.texts n m name k.name distinct is number))
      (by (bytes_eq name k.name) (members_named rest others more distinct n name is))
    where
      by : (t : Bool) → Both (Stands ms b) (option_map item_of (numbered_value n rest)) (value_named name others)
          → Both (Stands ms b) (option_map item_of (if t then Some e else numbered_value n rest))
          (if t then Some v else value_named name others)
      by true go = both x
      by false go = go
