-- One turn after the other: a part is reached, or an instance has all its items.
use Rattle.std.proofs.Common.{None}
use Rattle.std.proofs.Common.{◌≡◌, ◌⊎◌, inl, ◌<◌, ◌≤◌, ◌+◌, ◌*◌, ◌∙◌, ℕ, true, List, [], ◌∷◌}
use Rattle.std.proofs.Common.{Some, Result, Ok, Err, length, refl, reverse, sym, ap, subst, arith}
use Rattle.std.specs.Prelude.{slice_get}
use Rattle.std.specs.List.{AllZip}
use Rattle.std.proofs.lemmas.List.{length-append, reverse-append}
use Rattle.pc_numbers.specs.declared.runtime.ExportIndex.{ExportIndex}
use Rattle.pc_types.specs.declared.module_record.ModuleRecord.{ModuleRecord}
use Rattle.pc_types.specs.declared.parsed.TypeTable.{TypeTable}
use Rattle.pc_spec_plan.specs.ExportNode.{ExportNode}
use Rattle.pc_parsed.specs.Mark.{Mark}
use Rattle.pc_spec_reading.specs.Nodes.{Reached, refused, then_reach, within_total}
use Rattle.pc_spec_reading.specs.Outcome.{unsupported}
use Rattle.pc_spec_reading.specs.World.{World, grown, has_room}
use Rattle.pc_dfg.specs.Lists as list
use Rattle.pc_dfg.specs.Lists.{ListName}
use Rattle.pc_inline_state.specs.declared.definition.Definition.{Definition}
use Rattle.pc_inline_state.specs.declared.error.ItemError.{ItemError}
use Rattle.pc_inline_state.specs.declared.error.ItemError.TheVariants as item_error
use Rattle.pc_inline_state.specs.declared.error.ItemFault.{ItemFault}
use Rattle.pc_inline_state.specs.declared.state.State.{State}
use Rattle.pc_inline_state.specs.Adds.{Adds}
use Rattle.pc_inline_state.specs.AddsEach.{AddsEach, in_export_items}
use Rattle.pc_inline_exports.specs.Found.{nests}
use Rattle.pc_inline_state.specs.Points.{IsFullSomewhere}
use Rattle.pc_inline_state.specs.Tables.{Keeps, tables_of}
use Rattle.pc_inline_state.proofs.AddsLemmas.{adds_both, adds_each, adds_refl, adds_weaken}
use Rattle.pc_inline_state.proofs.StateLemmas.{keeps_refl, keeps_trans}
use Rattle.pc_inline_exports.specs.declared.build.Stack.{Stack}
use Rattle.pc_inline_exports.specs.declared.part.Found.{Found}
use Rattle.pc_inline_exports.specs.Building.{AddsPath, Climbs, Enters, Finds, FindsPart}
use Rattle.pc_inline_exports.specs.Building.{OpenStands, PartFound, StillStands, Working, items_of, opened, with_item}
use Rattle.pc_inline_exports.specs.Exports.{IsUnder}
use Rattle.pc_inline_exports.specs.Reaching.{HasParts, HasSomeParts, IsReachable, NodeEnds, OneEnds, Reaches}
use Rattle.pc_inline_exports.specs.Reaching.{ReachesOne, SubjectStands, WorkStands}
use Rattle.pc_inline_exports.specs.Subjects.{Part, Reader, Subject, reads_on, resume, subject_node, with_node}
use Rattle.pc_entity.specs.Lists.{value_of}
use Rattle.pc_inline_exports.specs.Building.{IsApart}
use Rattle.pc_inline_exports.proofs.ClimbLemmas.{next_items, part_absent}
use Rattle.pc_inline_exports.proofs.ClimbLemmas.{climb_in, climb_leaf, counts_on}
use Rattle.pc_inline_exports.proofs.GrownLemmas.{open_kept, opens_kept}
use Rattle.pc_inline_exports.proofs.InstanceLemmas.{instance_view, parts_kind}
use Rattle.pc_inline_exports.proofs.LeafLemmas.{work_total}
use Rattle.pc_inline_exports.proofs.WithinLemmas.{reads_part, resume_refused}

-- an export item is one in each list at the most
pub one_item : (t : TypeTable) (old new : State) → AddsEach in_export_items 0 0 (tables_of old) (tables_of new)
    → Adds t 4 (tables_of old) (tables_of new)
one_item t old new h =
    adds_each t in_export_items 0 0 4 (tables_of old) (tables_of new) le (omega arith) (omega arith) h
  where
    le : (l : ListName) → in_export_items l + 32 * in_export_items list.adapters ≤ 4
    le list.export_items = omega arith
    le (list.slots k) = omega arith
    le l = omega arith

module _ (t : TypeTable) (ms : List ModuleRecord) (old : State) (d : Definition) where
  -- what changes no graph changes nothing that was reached
  unfoldable pub working_path : (st new : State) (s : Stack) → AddsPath t ms st new → StillStands t ms st new
      → Working t ms old d st s
      → Working t ms old d new s
  working_path st new s path still k = record {
    made = k.made;
    few = k.few;
    keeps = keeps_trans (tables_of old) (tables_of st) (tables_of new) k.keeps path.keeps;
    adds = adds_both t (4 * k.made) 0 (4 * k.made) (tables_of old) (tables_of st) (tables_of new) (omega arith) k.adds
        path.adds;
    types = path.types ∙ k.types;
    exports = ap (λ g. g.exports) path.graph ∙ k.exports;
    starts = k.starts;
    reads = λ w x stands is.
        let c = k.reads w x stands is in
        record {
          readers = c.readers;
          reader = c.reader;
          world = c.world;
          total = c.total;
          stands = still c.world c.stands;
          callers = opens_kept t ms st new path.keeps (reverse s.callers.items) c.readers c.callers;
          top = open_kept t ms st new path.keeps s.top c.reader c.top;
          waits = c.waits;
          same = c.same;
          items = ap (λ g. length g.export_items) path.graph ∙ c.items;
          whole = λ n from to.
              subst (λ g. IsUnder g.export_items (items_of s) n) (sym path.graph)
              (c.whole n from (subst (λ g. n < length g.export_items) path.graph to));
        };
  }

  -- it begins with the parts of an instance
  pub working_first : IsReachable t ms old d → nests d ≡ true → IsApart t ms old d → (f : Found)
      → f.definition ≡ d
      → (s : Stack) → s.callers.items ≡ [] → s.top ≡ opened f → s.nodes ≡ 1 → Working t ms old d old s
  unfolding resume
  working_first reachable is apart f same s none top one = record {
    made = 0;
    few = rw (none, one) (omega arith);
    keeps = keeps_refl (tables_of old);
    adds = adds_refl t (4 * 0) (tables_of old);
    types = refl;
    exports = refl;
    starts = reachable;
    reads = λ w x stands subject.
        let v = instance_view ms old d x subject is in
        let inner : Reader =
        record { name = f.name; meta = f.data_; parts = v.parts; tree = v.tree; reads = [] } in
        let next = record w { total = grown w.total 8 } in
        record {
          readers = [];
          reader = inner;
          world = next;
          total = ap (λ k. grown w.total (8 * k)) (sym one);
          stands = work_total t ms old w (grown w.total 8) stands;
          callers = subst (λ ks. AllZip (OpenStands t ms old) (reverse ks) []) (sym none) tt;
          top = subst (λ o. OpenStands t ms old o inner) (sym top) (record {
            name = refl;
            data_ = refl;
            parts = subst (λ e. HasParts ms (tables_of old) e v.parts v.tree) (sym same) v.has;
            next = refl;
            apart = apart v.parts v.tree v.has;
            named = refl;
            items = tt;
          });
          waits = tt;
          same = v.reads w
              ∙ ap (λ k. within_total (grown w.total (8 * k)) (resume [] f.name f.data_ (reads_on inner next))) (sym one);
          items = omega arith;
          whole = λ n from to. absurd (omega (arith, from, to));
        };
  }

  module _ (st : State) (s : Stack) (k : Working t ms old d st s) where
    -- there is a world in which it goes on
    pub climbs : (w : World) × (x : Subject) × Climbs t ms old x w st s
    climbs =
        let y = k.starts in
        (y.world, y.subject, k.reads y.world y.subject y.stands y.is)

    -- the innermost is an instance that has parts
    pub top_parts : HasSomeParts ms (tables_of st) s.top.instance
    top_parts = let c = climbs.2 in (c.reader.parts, c.reader.tree, c.top.parts)

    pub top_kind : nests s.top.instance ≡ true
    top_kind = let c = climbs.2 in parts_kind ms st s.top.instance c.reader.parts c.reader.tree c.top.parts

    few_nodes : 4 * k.made ≤ 4 * s.nodes
    few_nodes = let few = k.few in omega (arith, few)

    -- memory ran out
    pub fails_memory : Reaches t ms old d st (Err item_error.NoMemory)
    unfolding NodeEnds
    fails_memory = record {
      nodes = s.nodes;
      keeps = k.keeps;
      adds = adds_weaken t (4 * k.made) (4 * s.nodes) (tables_of old) (tables_of st) few_nodes k.adds;
      types = k.types;
      exports = k.exports;
      reads = λ w x room stands is. let c = k.reads w x stands is in (_, c.same, tt);
    }

    -- too many nodes were reached, or a list is full
    pub fails_full : IsFullSomewhere (tables_of st) ⊎ (4294967295 ≤ s.nodes)
        → Reaches t ms old d st (Err item_error.TooMany)
    unfolding NodeEnds
    fails_full full = record {
      nodes = s.nodes;
      keeps = k.keeps;
      adds = adds_weaken t (4 * k.made) (4 * s.nodes) (tables_of old) (tables_of st) few_nodes k.adds;
      types = k.types;
      exports = k.exports;
      reads = λ w x room stands is. let c = k.reads w x stands is in (_, c.same, full);
    }

  -- The next part of the innermost is refused, or memory runs out.
  module _ (st0 st : State) (s : Stack) (k0 : Working t ms old d st0 s) (path : AddsPath t ms st0 st) where
    still_keeps : Keeps (tables_of old) (tables_of st)
    still_keeps = keeps_trans (tables_of old) (tables_of st0) (tables_of st) k0.keeps path.keeps

    still_adds : Adds t (4 * s.nodes) (tables_of old) (tables_of st)
    still_adds =
        let few = k0.few in
        adds_both t (4 * k0.made) 0 (4 * s.nodes) (tables_of old) (tables_of st0) (tables_of st) (omega (arith, few))
        k0.adds path.adds

    refused_at : (f : ItemFault) → (w : World) (x : Subject) → has_room w.total ≡ true
        → (c : Climbs t ms old x w st0 s)
        → FindsPart t ms st (slice_get c.reader.parts s.top.next) (Err (item_error.Fault f))
        → (o : Reached (ExportNode Mark)) × (subject_node x w ≡ within_total (grown w.total (8 * s.nodes)) o)
        × NodeEnds t ms old st w s.nodes o (Err (item_error.Fault f))
    unfolding NodeEnds FindsPart
    refused_at f w x room c found =
        let p = found.0 in
        let at = subst (λ n. slice_get c.reader.parts n ≡ Some p) c.top.next found.1 in (
          refused (unsupported found.2),
          c.same
              ∙ ap (λ q. within_total (grown w.total (8 * s.nodes)) (resume c.readers c.reader.name c.reader.meta q))
              (reads_part c.reader p at c.world
              ∙ ap (λ q. then_reach q (λ y u. reads_on (with_node c.reader p.name p.meta y) u)) (found.4 c.world))
              ∙ ap (within_total (grown w.total (8 * s.nodes)))
              (resume_refused c.readers c.reader.name c.reader.meta (unsupported found.2)),
          (found.2, found.3, refl),
        )

    pub fails_part : (e : ItemError) → Finds t ms st0 s.top.instance s.top.next st (Err e)
        → Reaches t ms old d st (Err e)
    unfolding FindsPart NodeEnds
    fails_part (item_error.Fault f) finds = record {
      nodes = s.nodes;
      keeps = still_keeps;
      adds = still_adds;
      types = path.types ∙ k0.types;
      exports = ap (λ g. g.exports) path.graph ∙ k0.exports;
      reads = λ w x room stands is.
          let c = k0.reads w x stands is in
          refused_at f w x room c (finds c.reader.parts c.reader.tree c.top.parts);
    }
    fails_part item_error.TooMany finds =
        let y = k0.starts in
        let c = k0.reads y.world y.subject y.stands y.is in
        absurd (finds c.reader.parts c.reader.tree c.top.parts)
    fails_part item_error.NoMemory finds = record {
      nodes = s.nodes;
      keeps = still_keeps;
      adds = still_adds;
      types = path.types ∙ k0.types;
      exports = ap (λ g. g.exports) path.graph ∙ k0.exports;
      reads = λ w x room stands is. let c = k0.reads w x stands is in (_, c.same, tt);
    }

  -- A part that is found.
  module _ (st0 st : State) (s : Stack) (k0 : Working t ms old d st0 s) (path : AddsPath t ms st0 st)
      (still : StillStands t ms st0 st) (f : Found)
      (finds : Finds t ms st0 s.top.instance s.top.next st (Ok (Some f))) where
    -- with what was reached before it
    pub k : Working t ms old d st s
    k = working_path st0 st s path still k0

    -- wherever it began, the part is there
    pub facing : (w : World) (x : Subject) → WorkStands t ms old w → SubjectStands ms (tables_of old) d x
        → (c : Climbs t ms old x w st s) × (p : Part) × (slice_get c.reader.parts s.top.next ≡ Some p)
        × PartFound t ms st p f
    unfolding FindsPart k working_path
    facing w x stands is =
        let c0 = k0.reads w x stands is in
        let found = finds c0.reader.parts c0.reader.tree c0.top.parts in
        (k.reads w x stands is, found.0, found.1, found.2)

    -- it is something that is exported
    pub part_reachable : IsReachable t ms st f.definition
    part_reachable =
        let y = k0.starts in
        let c = facing y.world y.subject y.stands y.is in
        record { world = c.0.world; subject = c.1.subject; stands = c.0.stands; is = c.3.is }

    -- the innermost has no item of its name yet
    pub found_absent : value_of f.name s.top.items ≡ None
    found_absent =
        let y = k0.starts in
        let c = facing y.world y.subject y.stands y.is in
        part_absent t ms st s.top c.0.reader c.0.top c.1
        (subst (λ n. slice_get c.0.reader.parts n ≡ Some c.1) c.0.top.next c.2) f.name c.3.name

    pub found_next : s.top.next ≡ length s.top.items
    found_next =
        let y = k0.starts in
        let c = facing y.world y.subject y.stands y.is in
        next_items t ms st s.top c.0.reader c.0.top

    -- it is an instance, which is reached next
    pub goes_in : nests f.definition ≡ true → IsApart t ms st f.definition → (s' : Stack)
        → Enters (record s { nodes = s.nodes + 1 }) f s' → Working t ms old d st s'
    goes_in is apart s' enters =
        let callers : reverse s'.callers.items ≡ s.top ∷ reverse s.callers.items =
        ap reverse enters.0 ∙ reverse-append s.callers.items (s.top ∷ []) in
        let few = k.few in
        let more : length s'.callers.items ≡ length s.callers.items + 1 =
        ap length enters.0 ∙ length-append s.callers.items (s.top ∷ []) in
        let nodes = enters.2 in
        record {
          made = k.made;
          few = omega (arith, few, more, nodes);
          keeps = k.keeps;
          adds = k.adds;
          types = k.types;
          exports = k.exports;
          starts = k.starts;
          reads = λ w x stands subject.
              let c = facing w x stands subject in
              climb_in t ms old x w st s c.0 c.1 c.2 f c.3 is apart s' callers enters.1 enters.2;
        }

    module _ (new : State) (made : Result ExportIndex ItemError) (one : ReachesOne t ms st f.definition new made) where
      keeps_on : Keeps (tables_of old) (tables_of new)
      keeps_on = keeps_trans (tables_of old) (tables_of st) (tables_of new) k.keeps one.keeps

      adds_on : (n : ℕ) → k.made + 1 ≤ n → Adds t (4 * n) (tables_of old) (tables_of new)
      adds_on n le =
          adds_both t (4 * k.made) 4 (4 * n) (tables_of old) (tables_of st) (tables_of new) (omega (arith, le))
          k.adds one.adds

      few_made : k.made + 1 ≤ s.nodes
      few_made = let few = k.few in omega (arith, few)

      -- it is none, and has its item
      pub goes_leaf : (n : ExportIndex) → made ≡ Ok n
          → Working t ms old d new (record s { top = with_item s.top f.name n f.data_; nodes = s.nodes + 1 })
      goes_leaf n is =
          let few = k.few in
          record {
            made = k.made + 1;
            few = omega (arith, few);
            keeps = keeps_on;
            adds = adds_on (k.made + 1) (omega arith);
            types = one.types ∙ k.types;
            exports = one.exports ∙ k.exports;
            starts = k.starts;
            reads = λ w x stands subject.
                let c = facing w x stands subject in
                climb_leaf t ms old x w st s c.0 c.1 c.2 f c.3 new one.keeps n
                (subst (OneEnds t ms st new c.0.world c.1.subject) is
                (one.reads c.0.world c.1.subject c.0.stands c.3.is));
          }

      counted_on : (w : World) (x : Subject) (c : Climbs t ms old x w st s) (p : Part)
          → slice_get c.reader.parts s.top.next ≡ Some p → (o : Reached (ExportNode Mark))
          → subject_node p.subject c.world ≡ within_total (grown c.world.total 8) o
          → subject_node x w ≡ within_total (grown w.total (8 * (s.nodes + 1)))
          (resume c.readers c.reader.name c.reader.meta
          (then_reach o (λ y u. reads_on (with_node c.reader p.name p.meta y) u)))
      counted_on w x c p at o is =
          c.same
          ∙ ap (λ q. within_total (grown w.total (8 * s.nodes)) (resume c.readers c.reader.name c.reader.meta q))
          (reads_part c.reader p (subst (λ n. slice_get c.reader.parts n ≡ Some p) c.top.next at) c.world)
          ∙ counts_on w.total s.nodes c.world.total c.total c.readers c.reader.name c.reader.meta
          (subject_node p.subject c.world) o (λ y u. reads_on (with_node c.reader p.name p.meta y) u) is

      leaf_refused : (q : ItemFault) (w : World) (x : Subject) (c : Climbs t ms old x w st s) (p : Part)
          → slice_get c.reader.parts s.top.next ≡ Some p
          → OneEnds t ms st new c.world p.subject (Err (item_error.Fault q))
          → (o : Reached (ExportNode Mark)) × (subject_node x w ≡ within_total (grown w.total (8 * s.nodes)) o)
          × NodeEnds t ms old new w s.nodes o (Err (item_error.Fault q))
      unfolding NodeEnds OneEnds
      leaf_refused q w x c p at ends = (
        refused (unsupported ends.0),
        c.same
            ∙ ap (λ y. within_total (grown w.total (8 * s.nodes)) (resume c.readers c.reader.name c.reader.meta y))
            (reads_part c.reader p (subst (λ n. slice_get c.reader.parts n ≡ Some p) c.top.next at) c.world
            ∙ ap (λ y. then_reach y (λ z u. reads_on (with_node c.reader p.name p.meta z) u)) ends.2)
            ∙ ap (within_total (grown w.total (8 * s.nodes)))
            (resume_refused c.readers c.reader.name c.reader.meta (unsupported ends.0)),
        (ends.0, ends.1, refl),
      )

      -- it has none
      pub fails_leaf : (e : ItemError) → made ≡ Err e → Reaches t ms old d new (Err e)
      unfolding NodeEnds OneEnds
      fails_leaf (item_error.Fault q) is = record {
        nodes = s.nodes;
        keeps = keeps_on;
        adds = adds_on s.nodes few_made;
        types = one.types ∙ k.types;
        exports = one.exports ∙ k.exports;
        reads = λ w x room stands subject.
            let c = facing w x stands subject in
            leaf_refused q w x c.0 c.1 c.2
            (subst (OneEnds t ms st new c.0.world c.1.subject) is
            (one.reads c.0.world c.1.subject c.0.stands c.3.is));
      }
      fails_leaf item_error.TooMany is = record {
        nodes = s.nodes + 1;
        keeps = keeps_on;
        adds = adds_on (s.nodes + 1) (let few = few_made in omega (arith, few));
        types = one.types ∙ k.types;
        exports = one.exports ∙ k.exports;
        reads = λ w x room stands subject.
            let c = facing w x stands subject in
            let ends = subst (OneEnds t ms st new c.0.world c.1.subject) is
            (one.reads c.0.world c.1.subject c.0.stands c.3.is) in
            (_, counted_on w x c.0 c.1 c.2 ends.1.0 ends.1.1, inl ends.0);
      }
      fails_leaf item_error.NoMemory is = record {
        nodes = s.nodes + 1;
        keeps = keeps_on;
        adds = adds_on (s.nodes + 1) (let few = few_made in omega (arith, few));
        types = one.types ∙ k.types;
        exports = one.exports ∙ k.exports;
        reads = λ w x room stands subject.
            let c = facing w x stands subject in
            let ends = subst (OneEnds t ms st new c.0.world c.1.subject) is
            (one.reads c.0.world c.1.subject c.0.stands c.3.is) in
            (_, counted_on w x c.0 c.1 c.2 ends.0 ends.1, tt);
      }

      -- memory ran out
      pub fails_there : Reaches t ms old d new (Err item_error.NoMemory)
      unfolding NodeEnds
      fails_there = record {
        nodes = s.nodes;
        keeps = keeps_on;
        adds = adds_on s.nodes few_made;
        types = one.types ∙ k.types;
        exports = one.exports ∙ k.exports;
        reads = λ w x room stands subject. let c = k.reads w x stands subject in (_, c.same, tt);
      }
