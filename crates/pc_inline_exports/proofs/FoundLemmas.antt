-- What an export of the root names.
use Rattle.std.proofs.Common.{◌≡◌, ◌*◌, ◌+◌, ℕ, true, false, true≢false, List, Option, None, Some, Result, Ok, Err}
use Rattle.std.proofs.Common.{refl, sym, ap}
use Rattle.std.proofs.Common.{subst, ◌∙◌, Bool, Bor}
use Rattle.std.specs.Prelude.{is_some, not, option_and_then, option_copied, option_map, slice_get}
use Rattle.std.specs.Result.{IsErrAnd}
use Rattle.std.proofs.lemmas.Option.{none-some}
use Rattle.pc_types.specs.declared.module_record.ModuleRecord.{ModuleRecord}
use Rattle.pc_types.specs.declared.parsed.TypeTable.{TypeTable}
use Rattle.pc_types.specs.declared.types.TypeDef.{TypeDef}
use Rattle.pc_types_lists.specs.Adds.{most_types}
use Rattle.pc_types_builder.specs.Plain.{Layers}
use Rattle.pc_types_builder.specs.Trees.{IsEntry}
use Rattle.pc_spec_plan.specs.ExportNode.{NamedNode}
use Rattle.pc_parsed.specs.declared.payload.ItemKind.{ItemKind}
use Rattle.pc_parsed.specs.declared.payload.ItemKind.TheVariants as kind
use Rattle.pc_parsed.specs.Mark.{Mark}
use Rattle.pc_spec_reading.specs.Items.{value_at}
use Rattle.pc_spec_reading.specs.Scope.{Scope}
use Rattle.pc_spec_reading.specs.Types.{type_tree}
use Rattle.pc_spec_reading.specs.Value.{Value, component_value, func_value, instance_value, module_value, type_value}
use Rattle.pc_spec_reading.specs.World.{World}
use Rattle.pc_inline_state.specs.declared.definition.Definition.{Definition}
use Rattle.pc_inline_state.specs.declared.definition.Definition.TheVariants as definition
use Rattle.pc_inline_state.specs.declared.definition.DefinitionId.{DefinitionId}
use Rattle.pc_inline_state.specs.declared.error.ItemError.{ItemError}
use Rattle.pc_inline_state.specs.declared.error.ItemError.TheVariants as item_error
use Rattle.pc_inline_state.specs.declared.error.ItemFault.TheVariants as item_fault
use Rattle.pc_inline_state.specs.declared.frame.Frame.{Frame}
use Rattle.pc_inline_state.specs.declared.state.State.{State}
use Rattle.pc_inline_state.specs.Adds.{Adds, is_type_kind}
use Rattle.pc_inline_state.specs.Frames.{Both, ComponentStands, FrameStands, FuncStands, InstanceStands, ModuleStands}
use Rattle.pc_inline_state.specs.Frames.{both}
use Rattle.pc_inline_state.specs.Frames.{neither}
use Rattle.pc_inline_state.specs.Prepares.{Converts}
use Rattle.pc_inline_state.specs.Refused.{LacksRoomOr}
use Rattle.pc_inline_state.specs.Stands.{DefinitionStands, Stands, stands, stands_type}
use Rattle.pc_inline_state.specs.Tables.{Tables, tables_of}
use Rattle.pc_inline_state.proofs.AddsLemmas.{adds_refl, converted_one}
use Rattle.pc_inline_state.proofs.KnowsLemmas.{entry_here}
use Rattle.pc_inline_state.proofs.StateLemmas.{converts_prepares, keeps_refl}
use Rattle.pc_inline_state.proofs.ZipLemmas.{zip_at}
use Rattle.pc_inline_hosts.proofs.FieldLemmas.{no_tree_past}
use Rattle.pc_inline_exports.specs.Exporting.{RootStands}
use Rattle.pc_inline_exports.specs.OneExport.{FindsExport, IsFound, item_definition, types_of_kind}
use Rattle.pc_inline_exports.proofs.RootLemmas.{root_converted}

module _ (ms : List ModuleRecord) (b : Tables) where
  -- what stands by number stands by its definition
  defined : {A : Type 0} (value : A → Value) (o : Option DefinitionId) (x : Option A)
      → Both (λ id v. Stands ms b id (value v)) o x
      → Both (DefinitionStands ms b) (option_and_then (λ (id : DefinitionId). slice_get b.definitions id.0) o)
      (option_map value x)
  defined value None None h = neither
  defined value None (Some v) h = elim h [ ]
  defined value (Some id) None h = elim h [ ]
  defined {A} value (Some id) (Some v) (both s) = by (value v) s
    where
      by : (w : Value) → Stands ms b id w → Both (DefinitionStands ms b) (slice_get b.definitions id.0) (Some w)
      by w (stands {d = d} at is) =
          subst (λ o. Both (DefinitionStands ms b) o (Some w)) (sym at) (both is)

-- the item of a kind at an index, but a type
pub definition_there : (t : TypeTable) (ms : List ModuleRecord) (st : State) (f : Frame) (s : Scope)
    → FrameStands ms (tables_of st) f s → (k : ItemKind) → is_type_kind k ≡ false → (n : ℕ)
    → Both (DefinitionStands ms (tables_of st)) (item_definition st f k n) (value_at t s k n)
unfolding value_at
definition_there t ms st f s h kind.Func other n =
    defined ms (tables_of st) func_value (slice_get f.funcs n) (slice_get s.funcs n)
    (zip_at (FuncStands ms (tables_of st)) f.funcs s.funcs n h.funcs)
definition_there t ms st f s h kind.Module other n =
    defined ms (tables_of st) module_value (slice_get f.modules n) (slice_get s.modules n)
    (zip_at (ModuleStands ms (tables_of st)) f.modules s.modules n h.modules)
definition_there t ms st f s h kind.Instance other n =
    defined ms (tables_of st) instance_value (slice_get f.instances n) (slice_get s.instances n)
    (zip_at (InstanceStands ms (tables_of st)) f.instances s.instances n h.instances)
definition_there t ms st f s h kind.Component other n =
    defined ms (tables_of st) component_value (slice_get f.components n) (slice_get s.components n)
    (zip_at (ComponentStands ms (tables_of st)) f.components s.components n h.components)
definition_there t ms st f s h kind.Type_ other n = absurd (true≢false other)
definition_there t ms st f s h kind.Value other n = neither

-- a kind that isn't that of types
pub other_kind : (k : ItemKind) → (k ≡ kind.Type_ → ⊥) → is_type_kind k ≡ false
other_kind kind.Type_ other = absurd (other refl)
other_kind kind.Func other = refl
other_kind kind.Module other = refl
other_kind kind.Instance other = refl
other_kind kind.Component other = refl
other_kind kind.Value other = refl

-- an entry that isn't there, by the test of what was looked up
pub no_entry : {A : Type 0} (o : Option (Bor A)) (x : Option A) → option_copied o ≡ x → (b : Bool)
    → is_some o ≡ not b → b ≡ true → x ≡ None
no_entry None x is b test set = sym is
no_entry (Some y) x is b test set = absurd (true≢false (test ∙ ap not set))

-- one that is there
pub some_entry : {A : Type 0} (o : Option (Bor A)) (x : Option A) → option_copied o ≡ x → (b : Bool)
    → is_some o ≡ not b → b ≡ false → x ≡ None → ⊥
some_entry None x is b test unset none = true≢false (sym (test ∙ ap not unset))
some_entry (Some y) x is b test unset none = none-some _ (sym none ∙ sym is)

module _ (t : TypeTable) (ms : List ModuleRecord) where
  -- an item that is no type is found where it is, and nothing changes
  pub finds_item : (k : ItemKind) (n : ℕ) (st : State) (f : Frame) → is_type_kind k ≡ false
      → (d : Option Definition) → d ≡ item_definition st f k n → FindsExport t ms k n st f st f (Ok d)
  unfolding IsFound
  finds_item k n st f other d is = record {
    keeps = keeps_refl (tables_of st);
    adds = adds_refl t (types_of_kind k * (1 + most_types t)) (tables_of st);
    graph = refl;
    stands = λ s w nodes root. root;
    found = λ s w nodes root. subst (λ o. Both (DefinitionStands ms (tables_of st)) o (value_at t s k n)) (sym is)
        (definition_there t ms st f s root.frame k other n);
  }

  -- a type whose number isn't held is missing
  pub finds_no_type : (n : ℕ) (st : State) (f : Frame) → slice_get t.types n ≡ None
      → FindsExport t ms kind.Type_ n st f st f (Ok None)
  unfolding IsFound value_at type_tree
  finds_no_type n st f none = record {
    keeps = keeps_refl (tables_of st);
    adds = adds_refl t (1 * (1 + most_types t)) (tables_of st);
    graph = refl;
    stands = λ s w nodes root. root;
    found = λ s w nodes root. subst (Both (DefinitionStands ms (tables_of st)) None)
        (ap (option_map type_value) (sym (no_tree_past s.known s.component_instance t n none))) neither;
  }

  module _ (n : ℕ) (old : State) (f : Frame) (new : State) (done : Layers)
      (converts : Converts t old f.converted new done) (few : Adds t (most_types t) (tables_of old) (tables_of new)) where
    -- what is found of a type that was to be converted
    abbrev pub IsTypeFound : Result (Option Definition) ItemError → Type 0
    IsTypeFound r = (s : Scope) (w : World) (nodes : List (NamedNode Mark)) → RootStands t ms old f s w nodes
        → IsFound t ms new (value_at t s kind.Type_ n) r

    -- a type was to be converted
    finds_type : (r : Result (Option Definition) ItemError) → IsTypeFound r
        → FindsExport t ms kind.Type_ n old f new (record f { converted = done }) r
    finds_type r found = record {
      keeps = (converts_prepares t ms old f.converted new done converts).keeps;
      adds = converted_one t (tables_of old) (tables_of new) few;
      graph = ap (λ (x : State). x.graph) converts.rest;
      stands = root_converted t ms old new f done converts;
      found = found;
    }

    -- it was
    pub finds_converted : (d : TypeDef) → IsEntry new.types t n d
        → FindsExport t ms kind.Type_ n old f new (record f { converted = done }) (Ok (Some (definition.Type_ d)))
    unfolding IsFound value_at
    finds_converted d entry =
        finds_type (Ok (Some (definition.Type_ d))) (λ s w nodes root.
        let there = root_converted t ms old new f done converts s w nodes root in
        let x = entry_here new.graph new.types s there.here t n d entry in
        subst (Both (DefinitionStands ms (tables_of new)) (Some (definition.Type_ d)))
        (ap (option_map type_value) (sym x.1)) (both (stands_type x.2)))

    lacks_found : (e : ItemError) → LacksRoomOr item_fault.BadType (slice_get t.types n ≡ None) new e
        → (held : slice_get t.types n ≡ None → ⊥) → IsTypeFound (Err e)
    unfolding IsFound LacksRoomOr
    lacks_found (item_error.Fault k) lacks held s w nodes root = held lacks.1
    lacks_found item_error.TooMany lacks held s w nodes root = lacks
    lacks_found item_error.NoMemory lacks held s w nodes root = tt

    -- or there was no room
    pub finds_no_room : (r : Result (Option Definition) ItemError) (e : ItemError) → IsErrAnd r (λ x. x ≡ e)
        → LacksRoomOr item_fault.BadType (slice_get t.types n ≡ None) new e → (slice_get t.types n ≡ None → ⊥)
        → FindsExport t ms kind.Type_ n old f new (record f { converted = done }) r
    finds_no_room (Ok x) e is lacks held = absurd is
    finds_no_room (Err x) e is lacks held =
        finds_type (Err x) (subst (λ y. IsTypeFound (Err y)) (sym is) (lacks_found e lacks held))
