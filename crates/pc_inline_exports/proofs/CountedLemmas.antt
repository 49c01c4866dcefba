-- The exports of the root while they are counted, before a node of them is made.
use Rattle.std.proofs.Common.{◌≡◌, inl, inr, ◌<◌, ◌≤◌, ◌+◌, ◌*◌, ℕ, Bool, true, false, List, [], ◌∷◌, ◌++◌, length, map, drop}
use Rattle.std.proofs.Common.{get_or, Option, None, Some, Result, Ok, Err, refl, sym, ap, subst, ◌∙◌, arith, true≢false}
use Rattle.std.specs.Prelude.{⊤, if◌then◌else◌, nat_lt, option_and_then, option_map, slice_get}
use Rattle.std.specs.Result.{IsErrAnd}
use Rattle.std.proofs.lemmas.Bool.{ltb-true}
use Rattle.std.proofs.lemmas.Bool.Decides.{Decides-ltb}
use Rattle.std.proofs.lemmas.List.{drop_all}
use Rattle.std.proofs.lemmas.Option.{none-some}
use Rattle.pc_entity.proofs.LookupLemmas.{left_here}
use Rattle.pc_types.specs.declared.error.Error.{Error}
use Rattle.pc_types.specs.declared.error.Error.TheVariants as error
use Rattle.pc_types.specs.declared.error.Place.TheVariants as place
use Rattle.pc_types.specs.declared.error.Unsupported.{Unsupported}
use Rattle.pc_types.specs.declared.module_record.ModuleRecord.{ModuleRecord}
use Rattle.pc_types.specs.declared.parsed.DeclType.{DeclType}
use Rattle.pc_types.specs.declared.parsed.TypeTable.{TypeTable}
use Rattle.pc_types.specs.Table.{is_some_and, table_fault}
use Rattle.pc_spec_plan.specs.ExportNode.{NamedNode}
use Rattle.pc_parsed.specs.declared.payload.ExternName.{ExternName}
use Rattle.pc_parsed.specs.declared.payload.ItemKind.{ItemKind}
use Rattle.pc_parsed.specs.declared.payload.ItemKind.TheVariants as kind
use Rattle.pc_parsed.specs.Mark.{Mark}
use Rattle.pc_spec_reading.specs.Item.{ExportOf}
use Rattle.pc_spec_reading.specs.Items.{value_at}
use Rattle.pc_spec_reading.specs.Nodes.{Finish, at_export, value_node}
use Rattle.pc_spec_reading.specs.Outcome.{Outcome, and_then, done, fault, past, unsupported}
use Rattle.pc_spec_reading.specs.Reading.{root_exports}
use Rattle.pc_spec_reading.specs.Scope.{Scope}
use Rattle.pc_spec_reading.specs.Section.{named_item}
use Rattle.pc_spec_reading.specs.Types.{type_tree}
use Rattle.pc_spec_reading.specs.Value.{Value, type_value}
use Rattle.pc_spec_reading.specs.World.{World, full, grown, has_room}
use Rattle.pc_inline_state.specs.declared.definition.Definition.{Definition}
use Rattle.pc_inline_state.specs.declared.definition.DefinitionId.{DefinitionId}
use Rattle.pc_inline_state.specs.declared.frame.Frame.{Frame}
use Rattle.pc_inline_state.specs.declared.state.State.{State}
use Rattle.pc_inline_state.specs.Adds.{is_type_kind, types_among}
use Rattle.pc_inline_state.specs.Frames.{Both, both, neither}
use Rattle.pc_inline_state.specs.Lists.{item_ids}
use Rattle.pc_inline_state.specs.Points.{IsInput}
use Rattle.pc_inline_state.specs.Stands.{DefinitionStands}
use Rattle.pc_inline_state.specs.Tables.{tables_of}
use Rattle.pc_inline_state.proofs.AddsLemmas.{adds_refl}
use Rattle.pc_inline_state.proofs.StateLemmas.{keeps_refl}
use Rattle.pc_inline_canon.proofs.TreeLemmas.{tested_tree}
use Rattle.pc_inline_hosts.proofs.FieldLemmas.{no_tree_past}
use Rattle.pc_inline_counts.specs.declared.count.NodeCount.{NodeCount}
use Rattle.pc_inline_counts.specs.declared.instances.NodeCounts.{NodeCounts}
use Rattle.pc_inline_counts.specs.Counts.{AreCounts, one_node}
use Rattle.pc_inline_counts.specs.Follows.{CountsNodes, Follows, HasHostTypes}
use Rattle.pc_inline_counts.proofs.CountLemmas.{counted_before, counts_made, host_types, type_follows}
use Rattle.pc_inline_counts.proofs.FollowsLemmas.{follows_reached, follows_refused, follows_within}
use Rattle.pc_inline_exports.specs.Counting.{AreFew, CountedSoFar, CountsExport, CountsExports, CountsValue}
use Rattle.pc_inline_exports.specs.Counting.{CountsMore, type_count}
use Rattle.pc_inline_exports.specs.Exporting.{ExportsAll, ExportsEnd, IsForetold, MakesExports, RootStands, behind}
use Rattle.pc_inline_exports.specs.Exporting.{if_room, most_exported}
use Rattle.pc_inline_exports.specs.OneExport.{item_definition, node_named}
use Rattle.pc_inline_exports.proofs.FoundLemmas.{definition_there}
use Rattle.pc_inline_exports.proofs.OnwardLemmas.{at_node, behind_more, behind_node, behind_none, both_none, both_some}
use Rattle.pc_inline_exports.proofs.OnwardLemmas.{err_passed, grown_none, missing_here, room_before, room_is, room_same}
use Rattle.pc_inline_exports.proofs.OnwardLemmas.{eight_both, roomy, roomy_has, roomy_same, total_twice}
use Rattle.pc_inline_exports.proofs.RootLemmas.{root_total}

-- the imports of a world stay where its total isn't counted
roomy_imports : (v : World) → (roomy v).imports ≡ v.imports
roomy_imports v = by (has_room v.total)
  where
    by : (b : Bool) → (if b then v else record v { total = None }).imports ≡ v.imports
    by true = refl
    by false = refl

-- a definition that is found by a number has one
numbered : (st : State) (o : Option DefinitionId) (d : Definition)
    → option_and_then (λ (id : DefinitionId). slice_get st.definitions id.0) o ≡ Some d
    → (id : DefinitionId) × (slice_get st.definitions id.0 ≡ Some d)
numbered st None d at = absurd (none-some d at)
numbered st (Some id) d at = (id, at)

-- one export more makes too many nodes
pub more_crowded : (total nodes : ℕ) (c : NodeCount) (n : ℕ) → full ≤ total + 8 * (nodes + c.nodes)
    → CountsMore total nodes c n (Err error.TooMany)
unfolding CountsMore
more_crowded total nodes c n many = many

-- or is refused
pub more_refused : (total nodes : ℕ) (c : NodeCount) (n : ℕ) (u : Unsupported)
    → total + 8 * (nodes + c.nodes) < full → c.refusal ≡ Some u
    → CountsMore total nodes c n (Err (error.Unsupported u (place.Export n)))
unfolding CountsMore
more_refused total nodes c n u few is = (few, is, refl)

-- or counts
pub more_counted : (total nodes : ℕ) (c : NodeCount) (n m : ℕ) → m ≡ nodes + c.nodes → total + 8 * m < full
    → c.refusal ≡ None → CountsMore total nodes c n (Ok m)
unfolding CountsMore
more_counted total nodes c n m is few none = (is, few, none)

-- whether an outcome is done
abbrev is_done : {A : Type 0} → Outcome A → Bool
is_done (done x) = true
is_done _ = false

-- what a total leaves that is past
no_room : {A : Type 0} (total : Option ℕ) (o : Outcome A) → has_room total ≡ false → if_room total o ≡ past
no_room total o room = rw room refl

-- a number that is below another
below_is : (n m : ℕ) → n < m → nat_lt n m ≡ true
below_is n m less = (Decides-ltb n m).1 less

-- an error that comes before anything is done
foretold_so : (st : State) (f : Frame) (e : Error) → IsForetold st f st f (Err e)
unfolding IsForetold
foretold_so st f (error.Unsupported u p) = (refl, refl)
foretold_so st f error.TooMany = tt
foretold_so st f error.NoMemory = tt
foretold_so st f (error.Invalid p) = tt
foretold_so st f (error.BadType p) = tt
foretold_so st f error.TooManyInstances = tt
foretold_so st f (error.Malformed p) = tt
foretold_so st f (error.BadTable p) = tt
foretold_so st f (error.BadIntrinsics p) = tt
foretold_so st f (error.UnknownIntrinsic p) = tt
foretold_so st f (error.DefinedTwice p) = tt
foretold_so st f (error.BadOptions p) = tt

-- a total that is below stays so where nothing counts
nothing_more : (total : ℕ) → total < full → total + 8 * 0 < full
nothing_more total below = omega (arith, below)

module _ (t : TypeTable) (ms : List ModuleRecord) where
  -- a type is one node, where its number is held
  counts_held : (st : State) (f : Frame) (n : ℕ) → IsInput t ms → CountsExport t ms st f kind.Type_ n (type_count t n)
  unfolding value_at type_tree
  counts_held st f n input s w nodes root = by (slice_get t.types n) refl
    where
      by : (o : Option DeclType) → slice_get t.types n ≡ o
          → Both (CountsValue t ms st) (type_count t n) (value_at t s kind.Type_ n)
      by None at =
          subst (λ o. Both (CountsValue t ms st) (option_map (λ (e : DeclType). one_node) o) (value_at t s kind.Type_ n))
          (sym at)
          (subst (λ o. Both (CountsValue t ms st) None (option_map type_value o))
          (sym (no_tree_past s.known s.component_instance t n at)) neither)
      by (Some e) at =
          let x = tested_tree t input.table (λ d. true) s.known s.component_instance n (ap (is_some_and (λ d. true)) at) in
          subst (λ o. Both (CountsValue t ms st) (option_map (λ (e : DeclType). one_node) o) (value_at t s kind.Type_ n))
          (sym at)
          (subst (λ o. Both (CountsValue t ms st) (Some one_node) (option_map type_value o)) (sym x.1)
          (both (λ u room types. type_follows x.0 u)))

  pub counts_type : (st : State) (f : Frame) (k : ItemKind) (n : ℕ) → k ≡ kind.Type_ → IsInput t ms
      → (c : Option NodeCount) → c ≡ type_count t n → CountsExport t ms st f k n c
  counts_type st f k n type input c is =
      subst (λ x. CountsExport t ms st f x n c) (sym type)
      (subst (CountsExport t ms st f kind.Type_ n) (sym is) (counts_held st f n input))

  module _ (st : State) (f : Frame) (k : ItemKind) (other : is_type_kind k ≡ false) (n : ℕ) where
    -- an item that is no type has the count of its definition
    pub counts_item : (d : Definition) → Some d ≡ item_definition st f k n → (counts : NodeCounts)
        → AreCounts (tables_of st) counts → IsInput t ms → (c : NodeCount) → CountsNodes counts d c
        → CountsExport t ms st f k n (Some c)
    unfolding CountsNodes
    counts_item d is counts made input c counting s w nodes root =
        let there = both_some (DefinitionStands ms (tables_of st)) d (value_at t s k n)
        (subst (λ o. Both (DefinitionStands ms (tables_of st)) o (value_at t s k n)) (sym is)
        (definition_there t ms st f s root.frame k other n)) in
        let held = numbered st (slice_get (item_ids f k) n) d (sym is) in
        subst (Both (CountsValue t ms st) (Some c)) (sym there.1)
        (both (λ u room types. counting ms (tables_of st) there.0 u (ap table_fault root.sound.table ∙ input.table)
        (counts_made (tables_of st) counts root.sound.members made)
        (counted_before (tables_of st) counts root.sound.members made held.0.0 d held.1) there.2 room types))

    -- and it may be missing
    pub counts_missing : None ≡ item_definition st f k n → CountsExport t ms st f k n None
    counts_missing is s w nodes root =
        subst (Both (CountsValue t ms st) None)
        (sym (both_none (DefinitionStands ms (tables_of st)) (value_at t s k n)
        (subst (λ o. Both (DefinitionStands ms (tables_of st)) o (value_at t s k n)) (sym is)
        (definition_there t ms st f s root.frame k other n)))) neither

  module _ (es : List (ExternName × ItemKind × ℕ)) (total : ℕ) (st : State) (f : Frame) where
    -- the exports are counted so far
    abbrev pub CountedTo : (i n nodes : ℕ) → Type 0
    CountedTo i n nodes = CountedSoFar t ms es total i n nodes st f

    -- the same, of numbers that are equal
    pub counted_as : (i n m nodes k : ℕ) → n ≡ m → nodes ≡ k → CountedTo i m k → CountedTo i n nodes
    counted_as i n m nodes k number same x =
        subst (λ y. CountedTo i y nodes) (sym number) (subst (CountedTo i m) (sym same) x)

    -- nothing is counted yet
    pub counts_begin : total < full → CountedTo 0 0 0
    counts_begin below = record {
      there = omega arith;
      few = nothing_more total below;
      goes = λ s w room root. (
        [],
        w,
        grown_none w.total,
        refl,
        behind_none t ms (root_exports t s (map named_item es) 0 w)
            ∙ sym (room_is (grown w.total 0) (and_then (root_exports t s (map named_item es) 0 w) (behind t ms []))
            (subst (λ o. has_room o ≡ true) (grown_none w.total) room)),
      );
    }

    -- all are counted
    pub counts_end : (i n nodes : ℕ) → CountedTo i n nodes → length es ≤ i → CountsExports t ms es total st f (Ok tt)
    unfolding CountsExports root_exports
    counts_end i n nodes far end = record {
      nodes = nodes;
      few = far.few;
      reads = λ s w room root.
          let here = far.goes s w room root in
          let all : map named_item (drop i es) ≡ [] = ap (map named_item) (drop_all i es end) in (
            (here.0 ++ [], here.1),
            here.4 ∙ ap (λ l. if_room (grown w.total (8 * nodes))
                (and_then (root_exports t s l n here.1) (behind t ms here.0))) all,
          );
    }

    -- there was no memory before the first
    pub counts_unbegun : total < full → (r : Result ⊤ Error) → IsErrAnd r (λ x. x ≡ error.NoMemory)
        → CountsExports t ms es total st f r
    unfolding CountsExports ExportsEnd
    counts_unbegun below r is =
        subst (CountsExports t ms es total st f) (sym (err_passed r error.NoMemory is)) unbegun
      where
        unbegun : ExportsAll t ms es total st f st f (Err error.NoMemory)
        unbegun = record {
          made = record {
            nodes = 0;
            keeps = keeps_refl (tables_of st);
            adds = adds_refl t (most_exported t 0 (types_among es)) (tables_of st);
            exports = λ s w room stands. (
              root_exports t s (map named_item es) 0 w,
              sym (room_is (grown w.total 0) (root_exports t s (map named_item es) 0 w)
                  (subst (λ o. has_room o ≡ true) (grown_none w.total) room)),
              tt,
            );
          };
          within = inl (nothing_more total below);
          foretold = foretold_so st f error.NoMemory;
        }

    module _ (i n nodes : ℕ) (far : CountedTo i n nodes) (e : ExternName × ItemKind × ℕ) (within : i < length es)
        (is : e ≡ get_or es i e) where
      abbrev rest : List ExportOf
      rest = map named_item (drop (i + 1) es)

      left : map named_item (drop i es) ≡ named_item e ∷ rest
      left = ap (map named_item) (left_here es i e within is)

      -- what is left of the reading at this export
      here_on : (s : Scope) (w : World) → has_room w.total ≡ true → RootStands t ms st f s w []
          → (exported : List (NamedNode Mark)) × (v : World) × (v.total ≡ grown w.total (8 * nodes))
          × (v.imports ≡ w.imports)
          × (root_exports t s (map named_item es) 0 w ≡ if_room (grown w.total (8 * nodes))
          (and_then (root_exports t s (named_item e ∷ rest) n v) (behind t ms exported)))
      here_on s w room root =
          let here = far.goes s w room root in (
            here.0,
            here.1,
            here.2,
            here.3,
            here.4 ∙ ap (λ l. if_room (grown w.total (8 * nodes))
                (and_then (root_exports t s l n here.1) (behind t ms here.0))) left,
          )

      -- what is left behind it, where so many nodes were reached
      abbrev GoesTo : Scope → World → ℕ → Type 0
      GoesTo s w k =
          (exported : List (NamedNode Mark)) × (v : World) × (v.total ≡ grown w.total (8 * k)) × (v.imports ≡ w.imports)
          × (root_exports t s (map named_item es) 0 w ≡ if_room (grown w.total (8 * k))
          (and_then (root_exports t s rest (n + 1) v) (behind t ms exported)))

      -- one that names nothing
      pub counts_none : (q : Option NodeCount) → CountsExport t ms st f e.1 e.2 q → q ≡ None → CountedTo (i + 1) n nodes
      counts_none q counted is = by (subst (CountsExport t ms st f e.1 e.2) is counted)
        where
          by : CountsExport t ms st f e.1 e.2 None → CountedTo (i + 1) n nodes
          by none = record {
            there = omega (arith, far.there);
            few = far.few;
            goes = λ s w room root.
                let here = here_on s w room root in
                let missing = both_none (CountsValue t ms st) (value_at t s e.1 e.2) (none s w [] root) in (
                  here.0,
                  here.1,
                  here.2,
                  here.3,
                  here.4 ∙ ap (λ o. if_room (grown w.total (8 * nodes)) (and_then o (behind t ms here.0)))
                      (missing_here t ms s e rest n here.1 missing),
                );
          }

      module _ (q : Option NodeCount) (counts : CountsExport t ms st f e.1 e.2 q) (c : NodeCount) (found : q ≡ Some c)
        where
          counted : CountsExport t ms st f e.1 e.2 (Some c)
          counted = subst (CountsExport t ms st f e.1 e.2) found counts

          -- the value that is exported, and what is reached at it
          value_here : (s : Scope) (w v : World) → RootStands t ms st f s w [] → v.imports ≡ w.imports
              → (x : Value) × (value_at t s e.1 e.2 ≡ Some x) × Follows c (roomy v) (value_node x (roomy v))
          value_here s w v root same =
              let x = both_some (CountsValue t ms st) c (value_at t s e.1 e.2) (counted s w [] root) in (
                x.0,
                x.1,
                x.2 (roomy v) (roomy_has v)
                    (subst (HasHostTypes ms (tables_of st)) (sym (roomy_imports v ∙ same)) (host_types ms st w root.world)),
              )

          -- what is left at the value
          left_at : (s : Scope) (w : World) (room : has_room w.total ≡ true) (root : RootStands t ms st f s w [])
              → (exported : List (NamedNode Mark)) × (v : World) × (x : Value) × (v.total ≡ grown w.total (8 * nodes))
              × (v.imports ≡ w.imports) × Follows c (roomy v) (value_node x (roomy v))
              × (root_exports t s (map named_item es) 0 w ≡ if_room (grown w.total (8 * (nodes + c.nodes)))
              (and_then (at_export n (value_node x (roomy v)) (behind_node t ms s e rest n)) (behind t ms exported)))
          left_at s w room root =
              let here = here_on s w room root in
              let x = value_here s w here.1 root here.3 in (
                here.0,
                here.1,
                x.0,
                here.2,
                here.3,
                x.2,
                here.4 ∙ at_node t ms s e rest n nodes c.nodes w here.1 here.0 x.0 (value_node x.0 (roomy here.1)) here.2
                    x.1 (follows_within c (roomy here.1) (value_node x.0 (roomy here.1)) x.2),
              )

          -- where there is room behind it, so there is in front of it
          room_here : (w v : World) → v.total ≡ grown w.total (8 * nodes)
              → has_room (grown w.total (8 * (nodes + c.nodes))) ≡ true
              → (roomy v ≡ v) × (has_room (grown (roomy v).total (8 * c.nodes)) ≡ true)
          room_here w v grew room =
              let both = subst (λ k. has_room (grown w.total k) ≡ true) (sym (eight_both nodes c.nodes)) room in
              let before = room_before w.total (8 * nodes) (8 * c.nodes) both in
              let same = roomy_same v (ap has_room grew ∙ before) in (
                same,
                ap (λ (u : World). has_room (grown u.total (8 * c.nodes))) same
                    ∙ ap has_room (total_twice nodes c.nodes w v grew) ∙ room,
              )

          -- its nodes are too many
          counts_crowded : full ≤ total + 8 * (nodes + c.nodes) → CountsExports t ms es total st f (Err error.TooMany)
          unfolding CountsExports ExportsEnd
          counts_crowded many = record {
            made = record {
              nodes = nodes + c.nodes;
              keeps = keeps_refl (tables_of st);
              adds = adds_refl t (most_exported t (nodes + c.nodes) (types_among es)) (tables_of st);
              exports = λ s w room root.
                  let here = left_at s w room root in (
                    and_then (at_export n (value_node here.2 (roomy here.1)) (behind_node t ms s e rest n))
                        (behind t ms here.0),
                    here.6,
                    inr many,
                  );
            };
            within = inr (record { reaches = many; is = refl; state = refl; frame = refl });
            foretold = foretold_so st f error.TooMany;
          }

          -- it is refused
          counts_refused : total + 8 * (nodes + c.nodes) < full → (u : Unsupported) → c.refusal ≡ Some u
              → CountsExports t ms es total st f (Err (error.Unsupported u (place.Export n)))
          unfolding CountsExports ExportsEnd
          counts_refused few u refusal = record {
            made = record {
              nodes = nodes + c.nodes;
              keeps = keeps_refl (tables_of st);
              adds = adds_refl t (most_exported t (nodes + c.nodes) (types_among es)) (tables_of st);
              exports = λ s w room root.
                  let here = left_at s w room root in
                  let o = value_node here.2 (roomy here.1) in
                  let end : Outcome Finish = fault (unsupported u) (place.Export n) in (
                    end,
                    here.6 ∙ room_same (grown w.total (8 * (nodes + c.nodes)))
                        (and_then (at_export n o (behind_node t ms s e rest n)) (behind t ms here.0)) end
                        (λ still.
                        let r = room_here w here.1 here.3 still in
                        ap (λ q. and_then (at_export n q (behind_node t ms s e rest n)) (behind t ms here.0))
                        (follows_refused c (roomy here.1) o here.5 r.1 u refusal)),
                    refl,
                  );
            };
            within = inl few;
            foretold = foretold_so st f (error.Unsupported u (place.Export n));
          }

          -- or its nodes are too many
          pub counts_fail : (x : Error) → CountsMore total nodes c n (Err x) → (r : Result ⊤ Error)
              → IsErrAnd r (λ y. y ≡ x) → CountsExports t ms es total st f r
          unfolding CountsMore
          counts_fail x h r up = subst (CountsExports t ms es total st f) (sym (err_passed r x up)) (by x h)
            where
              by : (y : Error) → CountsMore total nodes c n (Err y) → CountsExports t ms es total st f (Err y)
              by (error.Unsupported u p) k =
                  subst (λ q. CountsExports t ms es total st f (Err (error.Unsupported u q))) (sym k.2)
                  (counts_refused k.0 u k.1)
              by error.TooMany k = counts_crowded k
              by error.NoMemory k = absurd k
              by (error.Invalid p) k = absurd k
              by (error.BadType p) k = absurd k
              by error.TooManyInstances k = absurd k
              by (error.Malformed p) k = absurd k
              by (error.BadTable p) k = absurd k
              by (error.BadIntrinsics p) k = absurd k
              by (error.UnknownIntrinsic p) k = absurd k
              by (error.DefinedTwice p) k = absurd k
              by (error.BadOptions p) k = absurd k

          -- or it goes on behind it
          pub counts_next : (m : ℕ) → CountsMore total nodes c n (Ok m) → CountedTo (i + 1) (n + 1) m
          unfolding CountsMore
          counts_next m h = record {
            there = omega (arith, far.there);
            few = h.1;
            goes = λ s w room root.
                let here = left_at s w room root in
                subst (GoesTo s w) (sym h.0)
                (by s w here.0 here.1 here.2 here.3 here.4 here.5 here.6
                (has_room (grown w.total (8 * (nodes + c.nodes)))) refl);
          }
            where
              by : (s : Scope) (w : World) (exported : List (NamedNode Mark)) (v : World) (x : Value)
                  → v.total ≡ grown w.total (8 * nodes) → v.imports ≡ w.imports
                  → Follows c (roomy v) (value_node x (roomy v))
                  → root_exports t s (map named_item es) 0 w ≡ if_room (grown w.total (8 * (nodes + c.nodes)))
                  (and_then (at_export n (value_node x (roomy v)) (behind_node t ms s e rest n)) (behind t ms exported))
                  → (b : Bool) → has_room (grown w.total (8 * (nodes + c.nodes))) ≡ b → GoesTo s w (nodes + c.nodes)
              by s w exported v x grew same follows reads true still =
                  let r = room_here w v grew still in
                  let q = follows_reached c (roomy v) (value_node x (roomy v)) follows r.1 h.2 in
                  let named = node_named e.0 q.0 in (
                    exported ++ named ∷ [],
                    q.1,
                    q.3.total ∙ ap (λ (u : World). grown u.total (8 * c.nodes)) r.0
                        ∙ total_twice nodes c.nodes w v grew,
                    q.3.imports ∙ roomy_imports v ∙ same,
                    reads ∙ ap (λ o. if_room (grown w.total (8 * (nodes + c.nodes)))
                        (and_then (at_export n o (behind_node t ms s e rest n)) (behind t ms exported))) q.2
                        ∙ ap (λ o. if_room (grown w.total (8 * (nodes + c.nodes))) o)
                        (behind_more t ms exported named (root_exports t s rest (n + 1) q.1)),
                  )
              by s w exported v x grew same follows reads false still =
                  let last = record v { total = grown w.total (8 * (nodes + c.nodes)) } in (
                    exported,
                    last,
                    refl,
                    same,
                    reads ∙ room_same (grown w.total (8 * (nodes + c.nodes)))
                        (and_then (at_export n (value_node x (roomy v)) (behind_node t ms s e rest n))
                        (behind t ms exported))
                        (and_then (root_exports t s rest (n + 1) last) (behind t ms exported))
                        (λ room. absurd (true≢false (sym room ∙ still))),
                  )

    module _ (few : AreFew t ms es total st f) (root : (s : Scope) × (w : World) × RootStands t ms st f s w []) where
      -- in a world with this total
      abbrev with_total : Option ℕ → World
      with_total counted = record root.1 { total = counted }

      total_stands : (counted : Option ℕ) → RootStands t ms st f root.0 (with_total counted) []
      total_stands counted = root_total t ms st f root.0 root.1 counted [] root.2

      -- where the nodes of all exports leave room, they are read
      all_done : (counted : Option ℕ) → has_room counted ≡ true → has_room (grown counted (8 * few.nodes)) ≡ true
          → (x : Finish) × (root_exports t root.0 (map named_item es) 0 (with_total counted) ≡ done x)
      all_done counted room after =
          let x = few.reads root.0 (with_total counted) room (total_stands counted) in
          (x.0, x.1 ∙ room_is (grown counted (8 * few.nodes)) (done x.0) after)

      -- this total has room, and so it has after all of them
      fits_before : has_room (Some total) ≡ true
      fits_before = let below = few.few in below_is total full (omega (arith, below))

      fits_after : has_room (Some (total + 8 * few.nodes)) ≡ true
      fits_after = below_is (total + 8 * few.nodes) full few.few

      -- so it has after those that were made
      few_within : (new : State) (g : Frame) (r : Result ⊤ Error) (h : MakesExports t ms es 0 st f new g r)
          → total + 8 * h.nodes < full
      few_within new g r h = by (has_room (Some (total + 8 * h.nodes))) refl
        where
          by : (b : Bool) → has_room (Some (total + 8 * h.nodes)) ≡ b → total + 8 * h.nodes < full
          by true room = ltb-true (total + 8 * h.nodes) full room
          by false room =
              let x = all_done (Some total) fits_before fits_after in
              let y = h.exports root.0 (with_total (Some total)) fits_before (total_stands (Some total)) in
              absurd (true≢false (ap is_done (sym x.1 ∙ y.1 ∙ no_room (Some (total + 8 * h.nodes)) y.0 room)))

      -- and nothing is refused later
      few_foretold : (new : State) (g : Frame) (r : Result ⊤ Error) → MakesExports t ms es 0 st f new g r
          → IsForetold st f new g r
      unfolding IsForetold ExportsEnd
      few_foretold new g (Ok end) h = tt
      few_foretold new g (Err (error.Unsupported u p)) h =
          let x = all_done None refl refl in
          let y = h.exports root.0 (with_total None) refl (total_stands None) in
          absurd (true≢false (ap is_done (sym x.1 ∙ y.1 ∙ y.2)))
      few_foretold new g (Err error.TooMany) h = tt
      few_foretold new g (Err error.NoMemory) h = tt
      few_foretold new g (Err (error.Invalid p)) h = tt
      few_foretold new g (Err (error.BadType p)) h = tt
      few_foretold new g (Err error.TooManyInstances) h = tt
      few_foretold new g (Err (error.Malformed p)) h = tt
      few_foretold new g (Err (error.BadTable p)) h = tt
      few_foretold new g (Err (error.BadIntrinsics p)) h = tt
      few_foretold new g (Err (error.UnknownIntrinsic p)) h = tt
      few_foretold new g (Err (error.DefinedTwice p)) h = tt
      few_foretold new g (Err (error.BadOptions p)) h = tt

      -- nodes that are too many by themselves are too many for this total
      ends_for : (new : State) (g : Frame) (s : Scope) (w : World) (nodes : ℕ) (o : Outcome Finish)
          (r : Result ⊤ Error) → ExportsEnd t ms 0 new g s w nodes o r → ExportsEnd t ms total new g s w nodes o r
      unfolding ExportsEnd
      ends_for new g s w nodes o (Ok end) h = h
      ends_for new g s w nodes o (Err (error.Unsupported u p)) h = h
      ends_for new g s w nodes o (Err error.TooMany) h =
          elim h as (λ _. ExportsEnd t ms total new g s w nodes o (Err error.TooMany)) [
            | inl crowded ↦ inl crowded
            | inr many ↦ inr (omega (arith, many))
          ]
      ends_for new g s w nodes o (Err error.NoMemory) h = tt
      ends_for new g s w nodes o (Err (error.Invalid p)) h = absurd h
      ends_for new g s w nodes o (Err (error.BadType p)) h = absurd h
      ends_for new g s w nodes o (Err error.TooManyInstances) h = absurd h
      ends_for new g s w nodes o (Err (error.Malformed p)) h = absurd h
      ends_for new g s w nodes o (Err (error.BadTable p)) h = absurd h
      ends_for new g s w nodes o (Err (error.BadIntrinsics p)) h = absurd h
      ends_for new g s w nodes o (Err (error.UnknownIntrinsic p)) h = absurd h
      ends_for new g s w nodes o (Err (error.DefinedTwice p)) h = absurd h
      ends_for new g s w nodes o (Err (error.BadOptions p)) h = absurd h

      -- so the exports are made from this total on
      pub few_made : (new : State) (g : Frame) (r : Result ⊤ Error) → MakesExports t ms es 0 st f new g r
          → ExportsAll t ms es total st f new g r
      few_made new g r h = record {
        made = record {
          nodes = h.nodes;
          keeps = h.keeps;
          adds = h.adds;
          exports = λ s w room stands.
              let x = h.exports s w room stands in (x.0, x.1, ends_for new g s w h.nodes x.0 r x.2);
        };
        within = inl (few_within new g r h);
        foretold = few_foretold new g r h;
      }

    -- exports that can be made
    pub few_of : CountsExports t ms es total st f (Ok tt) → AreFew t ms es total st f
    unfolding CountsExports
    few_of h = h

    -- how exports end that can't, once they are counted
    pub counts_end_so : (e : Error) → CountsExports t ms es total st f (Err e) → (r : Result ⊤ Error)
        → IsErrAnd r (λ x. x ≡ e) → ExportsAll t ms es total st f st f r
    unfolding CountsExports
    counts_end_so e h r is = subst (ExportsAll t ms es total st f st f) (sym (err_passed r e is)) h
