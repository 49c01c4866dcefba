-- A child has ended: what it changed is taken back, and its caller goes on.
use Rattle.std.proofs.Common.{◌≡◌, ◌+◌, ℕ, List, [], ◌∷◌, length, None, Option, Result, Ok, Err, map, sym, ap, subst, ◌∙◌}
use Rattle.std.proofs.Common.{IsErrAnd, if◌then◌else◌, ◌==◌, arith}
use Rattle.std.specs.Prelude.{⊤, OnOk}
use Rattle.pc_numbers.specs.declared.runtime.ResourceIndex.{ResourceIndex}
use Rattle.pc_entity.specs.declared.string_pool.Atom.{Atom}
use Rattle.pc_types.specs.declared.module_record.ModuleRecord.{ModuleRecord}
use Rattle.pc_types.specs.declared.parsed.TypeTable.{TypeTable}
use Rattle.pc_types_lists.specs.Known.{resource_of}
use Rattle.pc_types.specs.Table.{table_fault}
use Rattle.pc_types_lists.specs.Types.{KeepsTypes, Resources, Types}
use Rattle.pc_types_lists.proofs.KeptTypes.{keeps_same, keeps_whatever}
use Rattle.pc_types_builder.specs.Converted.{AreConverted}
use Rattle.pc_parsed.specs.declared.payload.ExternName.{ExternName}
use Rattle.pc_parsed.specs.declared.payload.ItemKind.{ItemKind}
use Rattle.pc_spec_reading.specs.Items.{exports_at}
use Rattle.pc_spec_reading.specs.Scope.{Moment, Scope}
use Rattle.pc_spec_reading.specs.Section.{named_item}
use Rattle.pc_spec_reading.specs.Value.{NamedValue, pack_values}
use Rattle.pc_inline_state.specs.declared.error.ItemError.{ItemError}
use Rattle.pc_inline_state.specs.declared.error.ItemError.TheVariants as item_error
use Rattle.pc_inline_state.specs.declared.frame.Change.{Change}
use Rattle.pc_inline_state.specs.declared.frame.Frame.{Frame}
use Rattle.pc_inline_state.specs.declared.state.Member.{Member}
use Rattle.pc_inline_state.specs.declared.state.State.{State}
use Rattle.pc_inline_state.specs.Adds.{Adds}
use Rattle.pc_inline_state.specs.Points.{Follows, IsPoint, PointStands}
use Rattle.pc_inline_state.specs.Refused.{LacksRoom}
use Rattle.pc_inline_state.specs.Stands.{MembersStand}
use Rattle.pc_inline_state.specs.Tables.{Keeps, Tables, tables_of}
use Rattle.pc_inline_state.specs.Trails.{Trails, undone}
use Rattle.pc_inline_state.proofs.AddsLemmas.{adds_weaken}
use Rattle.pc_inline_state.proofs.KnowsLemmas.{knows_as, knows_grown}
use Rattle.pc_inline_state.proofs.StateLemmas.{keeps_trans}
use Rattle.pc_inline_canon.proofs.KeptLemmas.{frame_kept, members_kept}
use Rattle.pc_inline_stack.specs.Begins.{converting_for}
use Rattle.pc_inline_stack.specs.Calls.{AddsChild, GivesBack, IsReturn, ReturnStands, TrailsBack}
use Rattle.pc_inline_stack.specs.Stacks.{Waits}
use Rattle.pc_inline_stack.proofs.CallLemmas.{lent_point}
use Rattle.pc_inline_stack.proofs.CurrentLemmas.{converted_again, converted_still, current_adds, current_keeps}
use Rattle.pc_inline_stack.proofs.CurrentLemmas.{current_sound, current_world, going_on_with}

-- changes taken back leave the same where the same is known
pub undone_same : (cs : List Change) (known other : ℕ → Option ResourceIndex) → ((n : ℕ) → known n ≡ other n) → (n : ℕ)
    → undone cs known n ≡ undone cs other n
undone_same [] known other same n = same n
undone_same (c ∷ cs) known other same n =
    let rest = undone_same cs known other same n in
    λ i. if n == c.number then c.was else rest i

-- what holds of it whatever happens
pub on_ok : {A E X : Type 0} (r : Result A E) → X → OnOk r X
on_ok (Ok x) h = h
on_ok (Err e) h = tt

-- a caller takes back what its child converted
abbrev pub Retakes : TypeTable → (child caller : Frame) → Frame → Type 0
Retakes t child f g =
    (old new : Types) → table_fault t ≡ None → KeepsTypes old new → AreConverted old t child.converted
    → AreConverted new t f.converted → AreConverted new t g.converted

-- both have a place for each entry
pub return_room : (t : TypeTable) (ms : List ModuleRecord) (st : State) (child f : Frame) (st1 : State) (child1 : Frame)
    → ((now : Moment) → PointStands t ms st child now → PointStands t ms st1 child1 now) → IsReturn t ms st child f
    → length f.converted.all ≡ length child1.converted.all
unfolding IsReturn
return_room t ms st child f st1 child1 stays ends =
    ends.3.converted.all.room ∙ sym (stays ends.0 ends.3.ended).converted.all.room

-- where a child has ended it is at a moment
pub return_point : (t : TypeTable) (ms : List ModuleRecord) (st : State) (child f : Frame) → IsReturn t ms st child f
    → IsPoint t ms st child
unfolding IsReturn
return_point t ms st child f ends = (ends.0, ends.3.ended)

module _ (t : TypeTable) (a : Tables) (st : State) (ts : Types) (r : Resources) (is : ts ≡ going_on_with st.types r)
  where
    -- each number keeps what it names where other resources are known
    pub aside_keeps : Keeps a (tables_of st) → Keeps a (tables_of (record st { types = ts }))
    aside_keeps keeps =
        subst (λ b. Keeps a (tables_of (record st { types = b }))) (sym is)
        (keeps_trans a (tables_of st) (tables_of (record st { types = going_on_with st.types r })) keeps
        (current_keeps (tables_of st) r))

    -- and no more was added
    pub aside_adds : (w more : ℕ) → Adds t w a (tables_of st) → Adds t (w + more) a
        (tables_of (record st { types = ts }))
    aside_adds w more adds =
        subst (λ b. Adds t (w + more) a (tables_of (record st { types = b }))) (sym is)
        (current_adds t (w + more) a (tables_of st) r
        (adds_weaken t w (w + more) a (tables_of st) (omega arith) adds))

module _ (t : TypeTable) (ms : List ModuleRecord) (es : List (ExternName × ItemKind × ℕ)) (ty : ℕ) (st : State)
    (child f : Frame) where
  module _ (st' : State) (f' : Frame) where
    crowded : (e : ItemError) → LacksRoom st' e → GivesBack t ms es ty st child f st' f' (Err e)
    unfolding GivesBack Follows LacksRoom
    crowded (item_error.Fault k) lacks now s j x = absurd lacks
    crowded item_error.TooMany lacks now s j x = lacks
    crowded item_error.NoMemory lacks now s j x = tt

    -- there was no room for what it exports
    pub back_crowded : (r : Result ⊤ ItemError) (e : ItemError) → IsErrAnd r (λ x. x ≡ e) → LacksRoom st' e
        → GivesBack t ms es ty st child f st' f' r
    back_crowded (Ok x) e is lacks = absurd is
    back_crowded (Err x) e is lacks =
        subst (λ k. GivesBack t ms es ty st child f st' f' (Err k)) (sym is) (crowded e lacks)

    -- or no memory
    pub back_starved : (r : Result ⊤ ItemError) → IsErrAnd r (λ x. x ≡ item_error.NoMemory)
        → GivesBack t ms es ty st child f st' f' r
    unfolding LacksRoom
    back_starved r is = back_crowded r item_error.NoMemory is tt

  module _ (st1 : State) (child1 : Frame) (keeps1 : Keeps (tables_of st) (tables_of st1))
      (known1 : st1.types.resources ≡ st.types.resources) (frame1 : child1 ≡ record child
      { converted = child1.converted })
      (stays : (now : Moment) → PointStands t ms st child now → PointStands t ms st1 child1 now)
      (changes : List Change) (are : changes ≡ child1.changes) (us : Types)
      (taken : (q : ℕ) → resource_of us.resources.known q ≡ undone changes (resource_of st1.types.resources.known) q)
      (rest : us ≡ record st1.types { resources = record st1.types.resources { known = us.resources.known } })
      (ts : Types) (current : ts ≡ converting_for us f.component_instance) where
    abbrev resources : Resources
    resources = record { known = us.resources.known; current = f.component_instance }

    abbrev st_back : State
    st_back = record st1 { types = going_on_with st1.types resources }

    abbrev pub st2 : State
    st2 = record st1 { types = ts }

    types_back : ts ≡ going_on_with st1.types resources
    types_back = current ∙ ap (λ u. converting_for u f.component_instance) rest

    state_back : st_back ≡ st2
    state_back = λ i. record st1 { types = sym types_back i }

    keeps_back : Keeps (tables_of st) (tables_of st_back)
    keeps_back =
        keeps_trans (tables_of st) (tables_of st1) (tables_of st_back) keeps1 (current_keeps (tables_of st1) resources)

    -- each number keeps what it names
    pub back_keeps : Keeps (tables_of st) (tables_of st2)
    back_keeps = subst (λ s. Keeps (tables_of st) (tables_of s)) state_back keeps_back

    -- no more was added
    pub back_adds : (w : ℕ) → Adds t w (tables_of st) (tables_of st1) → Adds t w (tables_of st) (tables_of st2)
    back_adds w adds =
        subst (λ s. Adds t w (tables_of st) (tables_of s)) state_back
        (current_adds t w (tables_of st) (tables_of st1) resources adds)

    -- what is known then is what the caller goes on with
    same_known : (j : Resources) → Waits st.types.resources child f j → (q : ℕ)
        → resource_of resources.known q ≡ resource_of j.known q
    same_known j w q =
        taken q ∙ ap (λ cs. undone cs (resource_of st1.types.resources.known) q)
        (are ∙ ap (λ (g : Frame). g.changes) frame1)
        ∙ ap (λ (r : Resources). undone child.changes (resource_of r.known) q) known1
        ∙ sym (w.known q)

    module _ (now : Moment) (s : Scope) (j : Resources) (x : ReturnStands t ms st child f now s j) where
      point_back : PointStands t ms st_back f (record { scope = s; world = now.world })
      point_back =
          let p = stays now x.ended in
          let same = same_known j x.waits in
          let number = sym x.waits.current in
          record {
            sound = current_sound t ms st1 resources p.sound;
            here = knows_as st1.graph j s (knows_grown st.graph j s x.here st1.graph keeps1.fits) resources same number;
            converted = converted_again j resources same number st1.types t f.converted
                (converted_still st.types st1.types keeps1.types j t f.converted x.converted);
            frame = frame_kept ms (tables_of st) (tables_of st_back) keeps_back f s x.frame;
            world = current_world st1.types st1.graph resources now.world p.world;
            unexported = p.unexported;
          }

      -- the caller is at a moment again
      back_point : PointStands t ms st2 f (record { scope = s; world = now.world })
      back_point = subst (λ q. PointStands t ms q f (record { scope = s; world = now.world })) state_back point_back

      -- so it is when the child has given back the types that are the same in each component instance
      taken_point : (g : Frame) → g ≡ record f { converted = g.converted } → Retakes t child1 f g
          → table_fault t ≡ None → PointStands t ms st2 g (record { scope = s; world = now.world })
      taken_point g framed retakes sound =
          lent_point t ms st2 f g (record { scope = s; world = now.world }) back_point framed
          (retakes st1.types ts sound
          (subst (KeepsTypes st1.types) (sym types_back)
          (keeps_whatever st1.types st1.types st1.types.resources resources (keeps_same st1.types)))
          (stays now x.ended).converted back_point.converted)

    module _ (members : List (Atom × Member))
        (given : (now : Moment) → PointStands t ms st child now
        → MembersStand ms (tables_of st1) members (pack_values (exports_at t now.scope (map named_item es)))) where
      members_back : (now : Moment) → PointStands t ms st child now
          → MembersStand ms (tables_of st2) members (pack_values (exports_at t now.scope (map named_item es)))
      members_back now at =
          let vs = pack_values (exports_at t now.scope (map named_item es)) in
          subst (λ q. MembersStand ms (tables_of q) members vs) state_back
          (members_kept ms (tables_of st1) (tables_of st_back) (current_keeps (tables_of st1) resources) members vs
          (given now at))

      -- what it has of the child is what the reading gives it
      pub back_given : (g : Frame) → g ≡ record f { converted = g.converted } → Retakes t child1 f g
          → table_fault t ≡ None → (st' : State) (f' : Frame) (r : Result ⊤ ItemError)
          → AddsChild t ms members ty st2 g st' f' r → GivesBack t ms es ty st child f st' f' r
      unfolding AddsChild GivesBack
      back_given g framed retakes sound st' f' r adds now s j x =
          adds (record { scope = s; world = now.world }) (exports_at t now.scope (map named_item es))
          (taken_point now s j x g framed retakes sound) (members_back now x.ended)

      -- where a child has ended its caller is at a moment again, and there are values that the members stand for
      pub back_here : (g : Frame) → g ≡ record f { converted = g.converted } → Retakes t child1 f g
          → table_fault t ≡ None → IsReturn t ms st child f → IsPoint t ms st2 g
      unfolding IsReturn
      back_here g framed retakes sound ends = (
        record { scope = ends.1; world = ends.0.world },
        taken_point ends.0 ends.1 ends.2 ends.3 g framed retakes sound,
      )

      -- the same of the members
      pub back_members : IsReturn t ms st child f
          → (exports : List NamedValue) × MembersStand ms (tables_of st2) members (pack_values exports)
      unfolding IsReturn
      back_members ends = (
        exports_at t ends.0.scope (map named_item es),
        members_back ends.0 ends.3.ended,
      )

    -- what the caller notes from there on it notes from the resources with which it goes on
    pub back_trails : (g : Frame) → g ≡ record f { converted = g.converted } → (st' : State) (f' : Frame)
        → Trails g.changes st2.types.resources f'.changes st'.types.resources → TrailsBack st child f st' f'
    unfolding TrailsBack
    back_trails g framed st' f' noted j w =
        let trail = subst (λ (x : Frame). Trails x.changes st2.types.resources f'.changes st'.types.resources) framed
        noted in
        record {
          known = λ n. trail.known n
              ∙ ap (λ (b : Types). undone f.changes (resource_of b.resources.known) n) types_back
              ∙ undone_same f.changes (resource_of resources.known) (resource_of j.known) (same_known j w) n;
          current = trail.current ∙ ap (λ (b : Types). b.resources.current) types_back ∙ sym w.current;
        }
