-- Component instances from what they export: `add_instance`, and the step of an instance from items.
use Rattle.std.proofs.Common.{◌≡◌, ◌∙◌, ◌<◌, ◌+◌, ◌*◌, ℕ, List, [], ◌∷◌, ◌++◌, length, true, false, None, Some}
use Rattle.std.proofs.Common.{Result, Ok, Err, refl, sym, subst, ap, map, arith}
use Rattle.std.specs.Prelude.{⊤, Contains, slice_get}
use Rattle.std.proofs.lemmas.List.{length-append}
use Rattle.std.proofs.Math.Nat.{add-mul}
use Rattle.std.proofs.lemmas.Option.{slice_get-get_or}
use Rattle.pc_entity.specs.Lists.{map_all}
use Rattle.pc_entity.proofs.Growing.{slice_get-append_seam}
use Rattle.pc_entity.specs.declared.string_pool.Atom.{Atom}
use Rattle.pc_types.specs.declared.module_record.ModuleRecord.{ModuleRecord}
use Rattle.pc_types.specs.declared.parsed.TypeTable.{TypeTable}
use Rattle.pc_types.specs.declared.type_index.TypeComponentInstanceIndex.{TypeComponentInstanceIndex}
use Rattle.pc_types.specs.declared.types.TypeDef.TheVariants as type
use Rattle.pc_types.specs.Table.{is_instance, table_fault}
use Rattle.pc_types.specs.TypeTree.{TypeTree}
use Rattle.pc_types_lists.specs.Adds.{most_types}
use Rattle.pc_types_builder.specs.Plain.{Layers}
use Rattle.pc_types_builder.specs.Trees.{IsEntry}
use Rattle.pc_parsed.specs.declared.payload.ExternName.{ExternName}
use Rattle.pc_parsed.specs.declared.payload.ItemKind.{ItemKind}
use Rattle.pc_spec_reading.specs.Instances.{read_component_exports}
use Rattle.pc_spec_reading.specs.Item.{Item, component_exports_item}
use Rattle.pc_spec_reading.specs.Items.{exported_value, exports_at}
use Rattle.pc_spec_reading.specs.Outcome.{bad_type, found}
use Rattle.pc_spec_reading.specs.Rows.{read_row}
use Rattle.pc_spec_reading.specs.Scope.{Moment, add_value}
use Rattle.pc_spec_reading.specs.Section.{named_item}
use Rattle.pc_spec_reading.specs.Types.{has_entry, tree_if}
use Rattle.pc_spec_reading.specs.Value.{NamedValue, NamedValues, instance_value, made_instance, pack_values}
use Rattle.pc_inline_state.specs.declared.definition.Definition.TheVariants as definition
use Rattle.pc_inline_state.specs.declared.definition.DefinitionId.{DefinitionId}
use Rattle.pc_inline_state.specs.declared.definition.ExportsId.{ExportsId}
use Rattle.pc_inline_state.specs.declared.error.ItemError.{ItemError}
use Rattle.pc_inline_state.specs.declared.error.ItemError.TheVariants as item_error
use Rattle.pc_inline_state.specs.declared.error.ItemFault.TheVariants as item_fault
use Rattle.pc_inline_state.specs.declared.frame.Frame.{Frame}
use Rattle.pc_inline_state.specs.declared.state.Member.{Member}
use Rattle.pc_inline_state.specs.declared.state.State.{State}
use Rattle.pc_inline_state.specs.Adds.{Adds, most_converted}
use Rattle.pc_inline_state.specs.Points.{Follows, PointStands, StepsItem, Steps}
use Rattle.pc_inline_state.specs.Prepares.{Converts}
use Rattle.pc_inline_state.specs.Stands.{MembersStand, stands_instance}
use Rattle.pc_inline_state.specs.Tables.{Keeps, Tables, tables_of}
use Rattle.pc_inline_state.proofs.AddsLemmas.{adds_both, adds_then, adds_weaken}
use Rattle.pc_inline_state.proofs.KnowsLemmas.{entry_here}
use Rattle.pc_inline_state.proofs.MembersLemmas.{an_instance}
use Rattle.pc_inline_state.proofs.StateLemmas.{converts_prepares, definition_prepares, instance_prepares, keeps_trans}
use Rattle.pc_inline_state.proofs.StateLemmas.{prepares_trans}
use Rattle.pc_inline_canon.proofs.DefinitionLemmas.{definition_added}
use Rattle.pc_inline_canon.proofs.FrameLemmas.{converted_point, framed_point, made_framed}
use Rattle.pc_inline_canon.proofs.KeptLemmas.{members_kept, type_kept}
use Rattle.pc_inline_canon.proofs.StepLemmas.{steps_stuck}
use Rattle.pc_inline_canon.proofs.TreeLemmas.{instance_tree}
use Rattle.pc_inline_canon.proofs.WorldLemmas.{point_kept}
use Rattle.pc_inline_items.specs.Made.{made_of}
use Rattle.pc_inline_items.specs.Members.{are_there, are_typed}
use Rattle.pc_inline_items.proofs.FollowLemmas.{follows_row, members_held}
use Rattle.pc_inline_items.proofs.MemberLemmas.{exports_all, exports_lack, exports_typed}

-- what a list contains stands at a place
contains_place : {A : Type 0} (xs : List A) (x : A) → Contains xs x → (k : ℕ) × (slice_get xs k ≡ Some x)
contains_place xs x c = (c.0, slice_get-get_or xs c.0 x c.1 ∙ ap Some c.2)

-- An instance that was added, after its type was converted.
module _ (t : TypeTable) (ms : List ModuleRecord) (st : State) (f : Frame) (mid : State) (done : Layers)
    (converts : Converts t st f.converted mid done) (ty : ℕ) (has : has_entry t is_instance ty ≡ true)
    (i : TypeComponentInstanceIndex) (entry : IsEntry mid.types t ty (type.ComponentInstance i))
    (es : List (Atom × Member)) (n : ExportsId) (number : n.0 ≡ length mid.instances) (key : DefinitionId)
    (last : key.0 ≡ length mid.definitions) where
  abbrev with_members : State
  with_members = record mid { instances = mid.instances ++ es ∷ [] }

  abbrev end : State
  end = record with_members { definitions = mid.definitions ++ definition.Instance n i ∷ [] }

  abbrev with_it : Frame
  with_it = record f { converted = done; instances = f.instances ++ key ∷ [] }

  below : n.0 < length with_members.instances
  below = rw (length-append mid.instances (es ∷ [])) (omega (arith, number))

  -- it is an instance of what it exports, of its type
  pub instance_added : (now : Moment) (vs : NamedValues) → PointStands t ms st f now
      → MembersStand ms (tables_of st) es vs → (r : ⊤) → Follows t ms end with_it (made_of t ty vs now) (Ok r)
  unfolding Follows tree_if
  instance_added now vs at members r =
      let here = converted_point t ms st f mid done converts now at in
      let keeps = (converts_prepares t ms st f.converted mid done converts).keeps in
      let first = members_kept ms (tables_of st) (tables_of mid) keeps es vs members in
      let x = entry_here mid.graph mid.types now.scope here.here t ty (type.ComponentInstance i) entry in
      let tree : tree_if t is_instance now.scope ty ≡ Some x.0 = rw (has) x.1 in
      let prepares = prepares_trans t ms mid with_members end
      (instance_prepares t ms mid es (λ e among. let p = contains_place es e among in
      members_held ms (tables_of mid) es vs first p.0 e p.1))
      (definition_prepares t ms with_members (definition.Instance n i)
      (an_instance (length with_members.instances) (definition.Instance n i) n refl below)) in
      let g : Frame = record f { converted = done } in
      let there = point_kept t ms mid end prepares g now here in
      let c = tables_of end in
      let held_there : slice_get c.instances n.0 ≡ Some es =
      ap (slice_get (mid.instances ++ es ∷ [])) number ∙ slice_get-append_seam mid.instances es [] in
      let made = made_instance vs x.0 in
      let is = definition_added ms c mid.definitions (definition.Instance n i) key (instance_value made) refl last
      (stands_instance held_there (members_kept ms (tables_of mid) c prepares.keeps es vs first)
      (type_kept ms (tables_of mid) c prepares.keeps (type.ComponentInstance i) x.0 x.2)) in
      record {
        now = add_value now (instance_value made);
        stands = framed_point t ms end g with_it now _ there refl refl refl
            (made_framed ms c g now.scope there.frame key made is);
        done = ap (λ o. found bad_type o (λ (tree : TypeTree).
            Ok (add_value now (instance_value (made_instance vs tree)))))
            tree;
      }

-- the same of states and of a frame that are equal to these
pub instance_done : (t : TypeTable) (ms : List ModuleRecord) (st : State) (f : Frame) (mid : State)
    (done : Layers) → Converts t st f.converted mid done → (ty : ℕ) → has_entry t is_instance ty ≡ true
    → (i : TypeComponentInstanceIndex) → IsEntry mid.types t ty (type.ComponentInstance i)
    → (es : List (Atom × Member)) (n : ExportsId) → n.0 ≡ length mid.instances → (key : DefinitionId)
    (st1 st2 : State) (is : List DefinitionId) → st1 ≡ record mid { instances = mid.instances ++ es ∷ [] }
    → key.0 ≡ length st1.definitions
    → st2 ≡ record st1 { definitions = st1.definitions ++ definition.Instance n i ∷ [] }
    → is ≡ f.instances ++ key ∷ [] → (now : Moment) (vs : NamedValues) → PointStands t ms st f now
    → MembersStand ms (tables_of st) es vs → (r : ⊤)
    → Follows t ms st2 (record f { converted = done; instances = is }) (made_of t ty vs now) (Ok r)
instance_done t ms st f mid done converts ty has i entry es n number key st1 st2 is is1 last is2 is3 now vs at members
    r =
    let same = last ∙ ap (λ (x : State). length x.definitions) is1 in
    let at_end = is2 ∙ (λ j. record (is1 j) { definitions = (is1 j).definitions ++ definition.Instance n i ∷ [] }) in
    subst (λ x. Follows t ms x (record f { converted = done; instances = is }) (made_of t ty vs now) (Ok r))
    (sym at_end)
    (subst (λ x. Follows t ms (end t ms st f mid done converts ty has i entry es n number key same)
    (record f { converted = done; instances = x }) (made_of t ty vs now) (Ok r)) (sym is3)
    (instance_added t ms st f mid done converts ty has i entry es n number key same now vs at members r))

-- what a step keeps and adds after a type was converted
module _ (t : TypeTable) (st mid : State) (before after : Layers)
    (converts : Converts t st before mid after)
    (few : Adds t (most_types t) (tables_of st) (tables_of mid)) where
  -- that alone
  pub converted_keeps : Keeps (tables_of st) (tables_of mid)
  converted_keeps = (converts_prepares t [] st before mid after converts).keeps

  pub converted_adds : Adds t (most_converted t 1) (tables_of st) (tables_of mid)
  converted_adds = adds_weaken t (most_types t) (most_converted t 1) (tables_of st) (tables_of mid) (omega arith) few

  -- and more
  pub then_keeps : (x : Tables) → Keeps (tables_of mid) x → Keeps (tables_of st) x
  then_keeps x keeps = keeps_trans (tables_of st) (tables_of mid) x converted_keeps keeps

  pub then_adds : (x : Tables) → Adds t 4 (tables_of mid) x → Adds t (most_converted t 1) (tables_of st) x
  then_adds x more = adds_then t 4 (tables_of st) (tables_of mid) x (omega arith) few more

-- some conversions are fewer than those and one more
pub exports_adds : (t : TypeTable) (n : ℕ) (a b : Tables) → Adds t (n * (1 + most_types t)) a b
    → Adds t (most_converted t (1 + n)) a b
exports_adds t n a b h =
    adds_weaken t (n * (1 + most_types t)) (most_converted t (1 + n)) a b
    (let split = add-mul 1 n (1 + most_types t) in omega (arith, split)) h

-- some conversions, and then that of a type and four entries
pub members_adds : (t : TypeTable) (n : ℕ) (a b x : Tables) → Adds t (n * (1 + most_types t)) a b
    → Adds t (most_converted t 1) b x → Adds t (most_converted t (1 + n)) a x
members_adds t n a b x h k =
    adds_both t (n * (1 + most_types t)) (most_converted t 1) (most_converted t (1 + n)) a b x
    (let split = add-mul 1 n (1 + most_types t) in omega (arith, split)) h k

-- An instance from items.
module _ (t : TypeTable) (ms : List ModuleRecord) (xs : List (ExternName × ItemKind × ℕ)) (ty : ℕ) where
  abbrev from_items : Item
  from_items = component_exports_item (map named_item xs) ty

  -- its type is no instance type
  pub exports_untyped : (st : State) (f : Frame) (st' : State) (f' : Frame) → has_entry t is_instance ty ≡ false
      → StepsItem t ms from_items st f st' f' (Err (item_error.Fault item_fault.BadType))
  unfolding read_row read_component_exports tree_if
  exports_untyped st f st' f' none = steps_stuck t ms _ st f st' f' item_fault.BadType (λ now at.
      rw (none) refl)

  module _ (sound : table_fault t ≡ None) (has : has_entry t is_instance ty ≡ true) where
    -- the number of a type is missing
    pub exports_unheld : (st : State) (f : Frame) (st' : State) (f' : Frame) → are_typed t xs ≡ false
        → StepsItem t ms from_items st f st' f' (Err (item_error.Fault item_fault.BadType))
    unfolding read_row read_component_exports
    exports_unheld st f st' f' none = steps_stuck t ms _ st f st' f' item_fault.BadType (λ now at.
        let tree = instance_tree t sound now.scope ty has in
        rw (tree.1, exports_typed t xs ∙ none) refl)

    module _ (typed : are_typed t xs ≡ true) where
      -- an item is missing
      pub exports_miss : (st : State) (f : Frame) (st' : State) (f' : Frame) → are_there f xs ≡ false
          → StepsItem t ms from_items st f st' f' (Err (item_error.Fault item_fault.Invalid))
      unfolding read_row read_component_exports
      exports_miss st f st' f' missing = steps_stuck t ms _ st f st' f' item_fault.Invalid (λ now at.
          let tree = instance_tree t sound now.scope ty has in
          let none = exports_lack t ms (tables_of st) f now.scope at.frame sound xs typed missing in
          rw (tree.1, exports_typed t xs ∙ typed, none) refl)

      -- none is
      made_row : (now : Moment) (vs : List NamedValue)
          → map_all (exported_value t now.scope) (map named_item xs) ≡ Some vs
          → read_row t ms now from_items ≡ made_of t ty (pack_values vs) now
      unfolding read_row read_component_exports
      made_row now vs there =
          let tree = instance_tree t sound now.scope ty has in rw (tree.1, exports_typed t xs ∙ typed, there) refl

      pub exports_follow : (st : State) (f : Frame) → are_there f xs ≡ true → (st' : State) (f' : Frame)
          → (r : Result ⊤ ItemError)
          → ((now : Moment) → PointStands t ms st f now
          → Follows t ms st' f' (made_of t ty (pack_values (exports_at t now.scope (map named_item xs))) now) r)
          → StepsItem t ms from_items st f st' f' r
      unfolding Steps
      exports_follow st f there st' f' r follows now at =
          let vs = exports_at t now.scope (map named_item xs) in
          let all = exports_all t ms (tables_of st) f now.scope at.frame sound xs typed there in
          follows_row t ms st' f' now from_items (made_of t ty (pack_values vs) now) (made_row now vs all) r
          (follows now at)
