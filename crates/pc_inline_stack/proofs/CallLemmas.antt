-- What a child begins with, or why it can't begin.
use Rattle.std.proofs.Common.{◌≡◌, ℕ, true, false, List, Option, None, Some, Result, Ok, Err, map, refl, sym}
use Rattle.std.proofs.Common.{ap, subst, ◌∙◌, IsErrAnd}
use Rattle.std.specs.Prelude.{option_and_then, slice_get}
use Rattle.std.specs.List.{filter_map, list_all}
use Rattle.std.proofs.lemmas.Option.{none-some, same_Some}
use Rattle.pc_entity.specs.declared.string_pool.Atom.{Atom}
use Rattle.pc_entity.specs.Lists.{map_all}
use Rattle.pc_types.specs.declared.module_record.ModuleRecord.{ModuleRecord}
use Rattle.pc_types.specs.declared.parsed.TypeTable.{TypeTable}
use Rattle.pc_types.specs.Table.{is_instance, table_fault}
use Rattle.pc_types_lists.specs.Types.{Types}
use Rattle.pc_types_builder.specs.Converted.{AreConverted}
use Rattle.pc_parsed.specs.declared.payload.ItemKind.{ItemKind}
use Rattle.pc_numbers.specs.declared.component_entity.StaticComponentIndex.{StaticComponentIndex}
use Rattle.pc_spec_reading.specs.Components.{read_call}
use Rattle.pc_spec_reading.specs.Item.{ArgumentOf}
use Rattle.pc_spec_reading.specs.Items.{argument_value, is_typed_argument}
use Rattle.pc_spec_reading.specs.Scope.{Moment, Scope}
use Rattle.pc_spec_reading.specs.Section.{argument_of}
use Rattle.pc_spec_reading.specs.Types.{has_entry}
use Rattle.pc_spec_reading.specs.Value.{Component, Value, component_value}
use Rattle.pc_inline_names.specs.Named.{Named}
use Rattle.pc_inline_names.specs.Numbers.{SameNamed}
use Rattle.pc_inline_state.specs.declared.definition.ClosureId.{ClosureId}
use Rattle.pc_inline_state.specs.declared.definition.Definition.{Definition}
use Rattle.pc_inline_state.specs.declared.definition.DefinitionId.{DefinitionId}
use Rattle.pc_inline_stack.specs.declared.driver.Call.{Call}
use Rattle.pc_inline_state.specs.declared.error.ItemError.{ItemError}
use Rattle.pc_inline_state.specs.declared.error.ItemError.TheVariants as item_error
use Rattle.pc_inline_state.specs.declared.error.ItemFault.TheVariants as item_fault
use Rattle.pc_inline_state.specs.declared.frame.Frame.{Frame}
use Rattle.pc_inline_state.specs.declared.state.State.{State}
use Rattle.pc_inline_stack.specs.Calls.{CallFollows, CallStands, Calls, Stays}
use Rattle.pc_inline_items.specs.Captures.{IsEnclosed}
use Rattle.pc_inline_items.specs.Members.{are_there, are_typed}
use Rattle.pc_inline_state.specs.Definitions.{component_parts}
use Rattle.pc_inline_state.specs.Frames.{ComponentStands}
use Rattle.pc_inline_state.specs.Points.{IsPoint, PointStands}
use Rattle.pc_inline_state.specs.Refused.{LacksRoom}
use Rattle.pc_inline_state.specs.Stands.{Stands, stands, stands_component}
use Rattle.pc_inline_state.specs.Tables.{Keeps, tables_of}
use Rattle.pc_inline_items.proofs.MemberLemmas.{arguments_all, arguments_lack, arguments_typed}
use Rattle.pc_inline_stack.proofs.EnclosedLemmas.{child_enclosed}
use Rattle.pc_inline_canon.proofs.FrameLemmas.{converted_framed}
use Rattle.pc_inline_canon.proofs.KeptLemmas.{stands_kept}
use Rattle.pc_inline_state.proofs.ZipLemmas.{both_missing, both_there, zip_at}

-- a component instance is still where it was
pub stays_so : (t : TypeTable) (ms : List ModuleRecord) (st : State) (f : Frame) (st' : State) (f' : Frame)
    → ((now : Moment) → PointStands t ms st f now → PointStands t ms st' f' now) → Stays t ms st f st' f'
unfolding Stays
stays_so t ms st f st' f' stays = stays

-- so it is with other types converted
pub lent_point : (t : TypeTable) (ms : List ModuleRecord) (st : State) (f g : Frame) (now : Moment)
    → PointStands t ms st f now → g ≡ record f { converted = g.converted } → AreConverted st.types t g.converted
    → PointStands t ms st g now
lent_point t ms st f g now at same converted =
    subst (λ x. PointStands t ms st x now) (sym same)
    (record {
      sound = at.sound;
      here = at.here;
      converted = converted;
      frame = converted_framed ms (tables_of st) f now.scope at.frame g.converted;
      world = at.world;
      unexported = at.unexported;
    })

-- where a call began, its caller is at a moment
pub stays_point : (t : TypeTable) (ms : List ModuleRecord) (st : State) (f : Frame) (st' : State) (f' : Frame)
    → Stays t ms st f st' f' → IsPoint t ms st f → IsPoint t ms st' f'
unfolding Stays
stays_point t ms st f st' f' stays at = (at.0, stays at.0 at.1)

-- it stays where it was with other types converted
pub lent_stays : (t : TypeTable) (ms : List ModuleRecord) (st : State) (f : Frame) (st' : State) (g h : Frame)
    → Stays t ms st f st' g → h ≡ record g { converted = h.converted }
    → ((b : Types) → AreConverted b t g.converted → AreConverted b t h.converted) → Stays t ms st f st' h
unfolding Stays
lent_stays t ms st f st' g h stays same are now at =
    let there = stays now at in
    lent_point t ms st' g h now there same (are st'.types there.converted)

-- and nothing else has changed
pub lent_same : (f g h : Frame) → g ≡ record f { converted = g.converted } → h ≡ record g { converted = h.converted }
    → h ≡ record f { converted = h.converted }
lent_same f g h first second = second ∙ ap (λ (x : Frame). record x { converted = h.converted }) first

-- what a call begins with
call_made : (t : TypeTable) (s : Scope) (n : ℕ) (as_ : List ArgumentOf) (ty : ℕ) (c : Component)
    (vs : List (List ℕ × Value)) → list_all (is_typed_argument t) as_ ≡ true
    → has_entry t is_instance ty ≡ true → slice_get s.components n ≡ Some c
    → map_all (argument_value t s) as_ ≡ Some vs
    → read_call t s n as_ ty ≡ Ok (record { component = c; arguments = vs })
unfolding read_call
call_made t s n as_ ty c vs typed is at given = rw (typed, is, at, given) refl

module _ (t : TypeTable) (ms : List ModuleRecord) (st : State) (f : Frame) (n : ℕ) (xs : List (List ℕ × ItemKind × ℕ))
    (ty : ℕ) where
  abbrev the_args : List ArgumentOf
  the_args = map argument_of xs

  -- a type number isn't held
  pub call_mistyped : are_typed t xs ≡ false
      → Calls t ms n the_args ty st f st (Err (item_error.Fault item_fault.BadType))
  unfolding Calls CallFollows read_call
  call_mistyped other now at = rw (arguments_typed t xs ∙ other) refl

  -- want of memory and full lists
  call_lacking : (st' : State) (e : ItemError) → LacksRoom st' e → Calls t ms n the_args ty st f st' (Err e)
  unfolding Calls CallFollows LacksRoom
  call_lacking st' (item_error.Fault k) lacks now at = absurd lacks
  call_lacking st' item_error.TooMany lacks now at = lacks
  call_lacking st' item_error.NoMemory lacks now at = tt

  -- whatever is answered then
  pub call_crowded : (st' : State) (r : Result Call ItemError) (e : ItemError) → IsErrAnd r (λ x. x ≡ e)
      → LacksRoom st' e → Calls t ms n the_args ty st f st' r
  call_crowded st' (Ok x) e is lacks = absurd is
  call_crowded st' (Err x) e is lacks =
      subst (λ k. Calls t ms n the_args ty st f st' (Err k)) (sym is) (call_lacking st' e lacks)

  module _ (numbers : are_typed t xs ≡ true) where
    typed_all : list_all (is_typed_argument t) the_args ≡ true
    typed_all = arguments_typed t xs ∙ numbers

    -- no instance type
    pub call_untyped : has_entry t is_instance ty ≡ false
        → Calls t ms n the_args ty st f st (Err (item_error.Fault item_fault.BadType))
    unfolding Calls CallFollows read_call
    call_untyped other now at = rw (typed_all, other) refl

    module _ (typed : has_entry t is_instance ty ≡ true) where
      -- no such component
      pub call_missing : slice_get f.components n ≡ None
          → Calls t ms n the_args ty st f st (Err (item_error.Fault item_fault.Invalid))
      unfolding Calls CallFollows read_call
      call_missing none now at =
          rw (
            typed_all,
            typed,
            both_missing _ _ _ (zip_at (ComponentStands ms (tables_of st)) f.components now.scope.components n
                at.frame.components) none,
          ) refl

      module _ (id : DefinitionId) (there : slice_get f.components n ≡ Some id) where
        -- an argument is missing
        pub call_lacks : table_fault t ≡ None → are_there f xs ≡ false
            → Calls t ms n the_args ty st f st (Err (item_error.Fault item_fault.Invalid))
        unfolding Calls CallFollows read_call
        call_lacks sound missing now at =
            let c = both_there _ _ _ id (zip_at (ComponentStands ms (tables_of st)) f.components now.scope.components n
            at.frame.components) there in
            let none = arguments_lack t ms (tables_of st) f now.scope at.frame sound xs numbers missing in
            rw (typed_all, typed, c.1, none) refl

        -- what stands there is a component
        pub call_other : option_and_then component_parts (slice_get st.definitions id.0) ≡ None
            → Calls t ms n the_args ty st f st (Err (item_error.Fault item_fault.Invalid))
        unfolding Calls CallFollows
        call_other none now at =
            let c = both_there _ _ _ id (zip_at (ComponentStands ms (tables_of st)) f.components now.scope.components n
            at.frame.components) there in
            absurd (by c.0 c.2)
          where
            by : (c : Component) → Stands ms (tables_of st) id (component_value c) → ⊥
            by c (stands held (stands_component {s = s} {k = k} tr body leaving closure modules components)) =
                absurd (none-some (s, k) (sym none ∙ ap (option_and_then component_parts) held))

        -- the child can begin
        pub call_ready : table_fault t ≡ None → are_there f xs ≡ true → (s : StaticComponentIndex) (k : ClosureId)
            → option_and_then component_parts (slice_get st.definitions id.0) ≡ Some (s, k)
            → (st' : State) → Keeps (tables_of st) (tables_of st') → (given : List (Atom × DefinitionId))
            → ((now : Moment) → PointStands t ms st f now
            → SameNamed st.names.now.texts (Stands ms (tables_of st')) given
            (filter_map (argument_value t now.scope) the_args))
            → Calls t ms n the_args ty st f st' (Ok (record { body = s; closure = k; arguments = given }))
        unfolding Calls CallFollows
        call_ready sound all s k parts st' keeps given are now at =
            let c = both_there _ _ _ id (zip_at (ComponentStands ms (tables_of st)) f.components now.scope.components n
            at.frame.components) there in
            let vs = filter_map (argument_value t now.scope) the_args in
            record {
              read = record { component = c.0; arguments = vs };
              done = call_made t now.scope n the_args ty c.0 vs typed_all typed c.1
                  (arguments_all t ms (tables_of st) f now.scope at.frame sound xs numbers all);
              stands = component_stands c.0 (stands_kept ms (tables_of st) (tables_of st') keeps id
                  (component_value c.0)
                  c.2) vs (subst (λ (n : Named). SameNamed n.texts (Stands ms (tables_of st')) given vs) (sym keeps.names)
                  (are now at));
              is_typed = typed;
            }
          where
            parts_now : option_and_then component_parts (slice_get st'.definitions id.0) ≡ Some (s, k)
            parts_now = by (slice_get st.definitions id.0) refl parts
              where
                by : (o : Option Definition) → slice_get st.definitions id.0 ≡ o
                    → option_and_then component_parts o ≡ Some (s, k)
                    → option_and_then component_parts (slice_get st'.definitions id.0) ≡ Some (s, k)
                by None at is = absurd (none-some (s, k) is)
                by (Some d) at is = ap (option_and_then component_parts) (keeps.definitions id.0 d at) ∙ is

            component_stands : (c : Component) → Stands ms (tables_of st') id (component_value c)
                → (vs : List (List ℕ × Value)) → SameNamed st'.names.now.texts (Stands ms (tables_of st')) given vs
                → CallStands t ms (tables_of st') (record { body = s; closure = k; arguments = given })
                (record { component = c; arguments = vs })
            component_stands c (stands held (stands_component {s = i} {k = j} {tr = tr} {inner = inner} {body = body}
                {closure = closure} {chain = chain} at stand leaving captured modules components)) vs same =
                let pair : (i, j) ≡ (s, k) =
                same_Some _ _ (sym (ap (option_and_then component_parts) held) ∙ parts_now) in
                let index : i ≡ s = ap (λ p. p.0) pair in
                let number : j ≡ k = ap (λ p. p.1) pair in
                record {
                  names = inner;
                  body = body;
                  chain = chain;
                  translation = tr;
                  is = refl;
                  there = subst (λ (x : StaticComponentIndex). slice_get st'.bodies.now x.0 ≡ Some tr) index at;
                  stands = stand;
                  closure = closure;
                  captured = subst (λ (x : ClosureId). slice_get st'.closures x.0 ≡ Some closure) number captured;
                  enclosed = subst (λ (x : ClosureId). IsEnclosed ms (tables_of st') inner (Some x) chain) number
                      (child_enclosed ms (tables_of st') inner j closure chain captured modules components);
                  arguments = same;
                }
