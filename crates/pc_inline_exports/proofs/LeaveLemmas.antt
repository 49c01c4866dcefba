-- An instance all parts of which have items gets its own.
use Rattle.std.proofs.Common.{◌≡◌, inl, ◌<◌, ◌≤◌, ◌+◌, ◌*◌, ◌∙◌, ℕ, List, [], ◌∷◌, ◌++◌}
use Rattle.std.proofs.Common.{None, Result, Ok, Err, length, refl, reverse, sym, ap, subst, arith}
use Rattle.std.specs.Prelude.{slice_get}
use Rattle.std.specs.List.{AllZip}
use Rattle.pc_numbers.specs.declared.runtime.ExportIndex.{ExportIndex}
use Rattle.pc_types.specs.declared.module_record.ModuleRecord.{ModuleRecord}
use Rattle.pc_types.specs.declared.parsed.TypeTable.{TypeTable}
use Rattle.pc_spec_plan.specs.ExportNode as node
use Rattle.pc_spec_plan.specs.ExportNode.{ExportNode}
use Rattle.pc_parsed.specs.Mark.{Mark, of_type}
use Rattle.pc_spec_reading.specs.Nodes.{reached, within_total}
use Rattle.pc_spec_reading.specs.World.{World, grown}
use Rattle.pc_dfg.specs.declared.export.Export.TheVariants as export
use Rattle.pc_inline_state.specs.declared.definition.Definition.{Definition}
use Rattle.pc_inline_state.specs.declared.error.ItemError.{ItemError}
use Rattle.pc_inline_state.specs.declared.error.ItemError.TheVariants as item_error
use Rattle.pc_inline_state.specs.declared.state.State.{State}
use Rattle.pc_inline_state.specs.Adds.{Adds}
use Rattle.pc_inline_state.specs.Refused.{LacksRoom}
use Rattle.pc_inline_state.specs.Tables.{Keeps, tables_of}
use Rattle.pc_inline_state.proofs.AddsLemmas.{adds_both}
use Rattle.pc_inline_state.proofs.StateLemmas.{keeps_trans}
use Rattle.pc_inline_exports.specs.declared.build.Open.{Open}
use Rattle.pc_inline_exports.specs.declared.build.Stack.{Stack}
use Rattle.pc_inline_exports.specs.Building.{WaitFor}
use Rattle.pc_inline_exports.specs.Building.{AddsPath, Climbs, Closes, Finds, FindsPart, OpenStands}
use Rattle.pc_inline_exports.specs.Building.{StillStands, Working}
use Rattle.pc_inline_exports.specs.Building.{items_among, items_of, sizes_in, with_item}
use Rattle.pc_inline_exports.specs.Exports.{IsUnder, IsWithin}
use Rattle.pc_inline_exports.proofs.UnderLemmas.{closed_whole, left_whole}
use Rattle.pc_dfg.specs.Lists.{NamedExport}
use Rattle.pc_inline_exports.specs.Reaching.{ExportStands, NodeEnds, Pushed, Pushes, Reaches, SubjectStands, WorkStands}
use Rattle.pc_inline_exports.specs.Subjects.{Reader, Subject, put_before, resume, subject_node, with_node}
use Rattle.pc_inline_exports.proofs.ClimbLemmas.{instance_size, instance_exported, open_more, sizes_more}
use Rattle.pc_inline_exports.proofs.GrownLemmas.{open_kept, opens_kept}
use Rattle.pc_inline_exports.proofs.InstanceLemmas.{parts_type}
use Rattle.pc_inline_exports.proofs.PushLemmas.{is_put, push_adds, push_exports, push_keeps, push_last, push_more}
use Rattle.pc_inline_exports.proofs.PushLemmas.{push_node}
use Rattle.pc_inline_exports.proofs.PushLemmas.{push_types}
use Rattle.pc_inline_exports.proofs.PushLemmas.{push_work}
use Rattle.pc_inline_exports.proofs.TurnLemmas.{fails_full, fails_memory, one_item, working_path}
use Rattle.pc_inline_exports.proofs.WithinLemmas.{reads_end}

-- the first that waits, and those behind it
module _ (t : TypeTable) (ms : List ModuleRecord) (st : State) where
  pub record OneWaits (caller : Open) (os : List Open) (rs : List Reader) : Type 0 where
    pub reader : Reader
    pub readers : List Reader
    pub are : rs ≡ reader ∷ readers
    pub stands : OpenStands t ms st caller reader
    pub rest : AllZip (OpenStands t ms st) os readers

  pub one_waits : (caller : Open) (os : List Open) (rs : List Reader)
      → AllZip (OpenStands t ms st) (caller ∷ os) rs → OneWaits caller os rs
  one_waits caller os [] all = absurd all
  one_waits caller os (r ∷ rs) all =
      record { reader = r; readers = rs; are = refl; stands = all.0; rest = all.1 }

module _ (t : TypeTable) (ms : List ModuleRecord) (old : State) (d : Definition) (st0 st : State) (s : Stack)
    (k0 : Working t ms old d st0 s) (path : AddsPath t ms st0 st) (still : StillStands t ms st0 st)
    (finds : Finds t ms st0 s.top.instance s.top.next st (Ok None)) where
  -- with what was reached before it
  pub k : Working t ms old d st s
  k = working_path t ms old d st0 st s path still k0

  -- wherever it began, it has no part more
  pub ended : (w : World) (x : Subject) → WorkStands t ms old w → SubjectStands ms (tables_of old) d x
      → (c : Climbs t ms old x w st s) × (slice_get c.reader.parts (length c.reader.reads) ≡ None)
  unfolding FindsPart k working_path
  ended w x stands is =
      let c0 = k0.reads w x stands is in
      let found = finds c0.reader.parts c0.reader.tree c0.top.parts in
      (k.reads w x stands is, subst (λ n. slice_get c0.reader.parts n ≡ None) c0.top.next found)

  module _ (new : State) (made : Result ExportIndex ItemError) (closes : Closes st s.top.instance s.top.items new made)
    where
      keeps_on : Keeps (tables_of old) (tables_of new)
      keeps_on = keeps_trans (tables_of old) (tables_of st) (tables_of new) k.keeps
          (push_keeps t ms st (export.Instance closes.ty s.top.items) new made closes.pushes)

      adds_on : (n : ℕ) → k.made + 1 ≤ n → Adds t (4 * n) (tables_of old) (tables_of new)
      adds_on n le =
          adds_both t (4 * k.made) 4 (4 * n) (tables_of old) (tables_of st) (tables_of new) (omega (arith, le))
          k.adds
          (one_item t st new (push_adds t ms st (export.Instance closes.ty s.top.items) new made closes.pushes))

      types_on : new.types ≡ old.types
      types_on = push_types t ms st (export.Instance closes.ty s.top.items) new made closes.pushes ∙ k.types

      exports_on : new.graph.exports ≡ old.graph.exports
      exports_on = push_exports t ms st (export.Instance closes.ty s.top.items) new made closes.pushes ∙ k.exports

      few_made : k.made + 1 ≤ s.nodes
      few_made = let few = k.few in omega (arith, few)

      -- there is no room for it
      lacks_close : (e : ItemError) → (new ≡ st) → LacksRoom new e → Reaches t ms old d new (Err e)
      unfolding LacksRoom
      lacks_close (item_error.Fault f) same lacks = absurd lacks
      lacks_close item_error.TooMany same lacks =
          fails_full t ms old d new s (subst (λ (y : State). Working t ms old d y s) (sym same) k) (inl lacks)
      lacks_close item_error.NoMemory same lacks =
          fails_memory t ms old d new s (subst (λ (y : State). Working t ms old d y s) (sym same) k)

      pub fails_close : (e : ItemError) → made ≡ Err e → Reaches t ms old d new (Err e)
      unfolding Pushed
      fails_close e is =
          let put = subst (Pushed st (export.Instance closes.ty s.top.items) new) is closes.pushes.pushed in
          lacks_close e put.0 put.1

      -- memory ran out
      pub fails_there : Reaches t ms old d new (Err item_error.NoMemory)
      unfolding NodeEnds
      fails_there = record {
        nodes = s.nodes;
        keeps = keeps_on;
        adds = adds_on s.nodes few_made;
        types = types_on;
        exports = exports_on;
        reads = λ w x room stands subject. let c = k.reads w x stands subject in (_, c.same, tt);
      }

      module _ (n : ExportIndex) (is : made ≡ Ok n) where
        pushes : Pushes st (export.Instance closes.ty s.top.items) new (Ok n)
        pushes = subst (Pushes st (export.Instance closes.ty s.top.items) new) is closes.pushes

        abbrev node_of : Reader → ExportNode Mark
        node_of r = node.instance (of_type r.tree) (put_before r.reads node.no_nodes)

        stands_as : (w : World) (x : Subject) (c : Climbs t ms old x w st s)
            → ExportStands t ms st (export.Instance closes.ty s.top.items) (node_of c.reader)
        stands_as w x c =
            instance_exported t ms st closes.ty c.reader.tree
            (parts_type ms st s.top.instance c.reader.parts c.reader.tree c.top.parts closes.ty closes.typed) s.top.items
            c.reader.reads c.top.items

        read_as : (w : World) (x : Subject) (c : Climbs t ms old x w st s)
            → slice_get c.reader.parts (length c.reader.reads) ≡ None
            → subject_node x w ≡ within_total (grown w.total (8 * s.nodes))
            (resume c.readers c.reader.name c.reader.meta (reached (node_of c.reader) c.world))
        read_as w x c none =
            c.same
            ∙ ap (λ q. within_total (grown w.total (8 * s.nodes)) (resume c.readers c.reader.name c.reader.meta q))
            (reads_end c.reader none c.world)

        -- the instance around it goes on
        module _ (caller : Open) (rest : List Open) (waits : reverse s.callers.items ≡ caller ∷ rest) (s' : Stack)
            (callers : reverse s'.callers.items ≡ rest) (fewer : length s.callers.items ≡ length s'.callers.items + 1)
            (top : s'.top ≡ with_item caller s.top.name n s.top.data_) (nodes : s'.nodes ≡ s.nodes) where
          left_items : (w : World) (x : Subject) → Climbs t ms old x w st s → (m : ℕ)
              → length old.graph.export_items ≤ m → m < length new.graph.export_items
              → IsUnder new.graph.export_items (items_of s') m
          left_items w x c m from to =
              let put = is_put t ms st (export.Instance closes.ty s.top.items) new n pushes in
              let entry : NamedExport = (s.top.name, (n, s.top.data_)) in
              let open_now : items_of s' ≡ (caller.items ++ entry ∷ []) ++ items_among rest =
              λ i. (top i).items ++ items_among (callers i) in
              let open_then : items_of s ≡ s.top.items ++ (caller.items ++ items_among rest) =
              ap (λ os. s.top.items ++ items_among os) waits in
              subst (λ l. IsUnder l (items_of s') m) (sym put.1)
              (subst (λ l. IsUnder (st.graph.export_items ++ export.Instance closes.ty s.top.items ∷ []) l m)
              (sym open_now)
              (left_whole st.graph.export_items (length old.graph.export_items) s.top.items closes.ty caller.items
              (items_among rest) entry put.0
              (λ k a b. subst (λ l. IsUnder st.graph.export_items l k) open_then (c.whole k a b)) m from
              (subst (λ l. m < length l) put.1 to)))

          climb_out : (w : World) (x : Subject) (c : Climbs t ms old x w st s)
              → slice_get c.reader.parts (length c.reader.reads) ≡ None → Climbs t ms old x w new s'
          unfolding resume
          climb_out w x c none =
              let y = one_waits t ms st caller rest c.readers
              (subst (λ ks. AllZip (OpenStands t ms st) ks c.readers) waits c.callers) in
              let waiting = subst (λ rs. WaitFor rs c.reader.name) y.are c.waits in
              let e = export.Instance closes.ty s.top.items in
              let keeps = push_keeps t ms st e new made closes.pushes in
              let stands = stands_as w x c in
              let inner = node_of c.reader in
              let more = sizes_more y.reader.reads
              (record { name = c.reader.name; extern_data = c.reader.meta; node = inner }) in
              let size = instance_size c.reader.tree c.reader.reads in
              let before = c.items in
              let one = push_more t ms st e new n pushes in
              let are = ap sizes_in y.are in
              record {
                readers = y.readers;
                reader = with_node y.reader c.reader.name c.reader.meta inner;
                world = c.world;
                total = c.total ∙ ap (λ m. grown w.total (8 * m)) (sym nodes);
                stands = push_work t ms st e new n pushes inner stands c.world c.stands;
                callers = subst (λ ks. AllZip (OpenStands t ms new) ks y.readers) (sym callers)
                    (opens_kept t ms st new keeps rest y.readers y.rest);
                top =
                    subst (λ o. OpenStands t ms new o (with_node y.reader c.reader.name c.reader.meta inner)) (sym top)
                    (open_more t ms new caller y.reader (open_kept t ms st new keeps caller y.reader y.stands)
                    waiting.0.0 waiting.0.1 c.reader.name waiting.0.2 s.top.name c.top.name n s.top.data_ c.reader.meta c.top.data_ inner
                    (push_node t ms st e new n pushes inner stands));
                waits = waiting.1;
                same = read_as w x c none
                    ∙ ap (λ rs. within_total (grown w.total (8 * s.nodes))
                    (resume rs c.reader.name c.reader.meta (reached inner c.world))) y.are
                    ∙ ap (λ m. within_total (grown w.total (8 * m))
                    (resume (y.reader ∷ y.readers) c.reader.name c.reader.meta (reached inner c.world))) (sym nodes);
                items = omega (arith, more, size, before, one, are);
                whole = left_items w x c;
              }

          pub goes_out : Working t ms old d new s'
          goes_out =
              let few = k.few in
              record {
                made = k.made + 1;
                few = omega (arith, few, fewer, nodes);
                keeps = keeps_on;
                adds = adds_on (k.made + 1) (omega arith);
                types = types_on;
                exports = exports_on;
                starts = k.starts;
                reads = λ w x stands subject. let c = ended w x stands subject in climb_out w x c.0 c.1;
              }

        -- it is the outermost
        none_waits : (rs : List Reader) → AllZip (OpenStands t ms st) [] rs → rs ≡ []
        none_waits [] all = refl
        none_waits (r ∷ rs) all = absurd all

        closed_items : s.callers.items ≡ [] → (w : World) (x : Subject) → Climbs t ms old x w st s → (m : ℕ)
            → length old.graph.export_items ≤ m → m < length new.graph.export_items
            → IsWithin new.graph.export_items n.0 m
        closed_items none w x c m from to =
            let put = is_put t ms st (export.Instance closes.ty s.top.items) new n pushes in
            let all = st.graph.export_items ++ export.Instance closes.ty s.top.items ∷ [] in
            let open_then : items_of s ≡ s.top.items ++ [] =
            ap (λ os. s.top.items ++ items_among (reverse os)) none in
            subst (λ l. IsWithin l n.0 m) (sym put.1)
            (subst (λ k. IsWithin all k m) (sym put.0)
            (closed_whole st.graph.export_items (length old.graph.export_items) s.top.items closes.ty
            (λ k a b. subst (λ l. IsUnder st.graph.export_items l k) open_then (c.whole k a b)) m from
            (subst (λ l. m < length l) put.1 to)))

        pub closed : s.callers.items ≡ [] → Reaches t ms old d new (Ok n)
        unfolding NodeEnds resume
        closed none = record {
          nodes = s.nodes;
          keeps = keeps_on;
          adds = adds_on s.nodes few_made;
          types = types_on;
          exports = exports_on;
          reads = λ w x room stands subject.
              let both = ended w x stands subject in
              let c = both.0 in
              let e = export.Instance closes.ty s.top.items in
              let is_stood = stands_as w x c in
              let inner = node_of c.reader in
              let alone = none_waits c.readers
              (subst (λ ks. AllZip (OpenStands t ms st) (reverse ks) c.readers) none c.callers) in
              let size = instance_size c.reader.tree c.reader.reads in
              let before = c.items in
              let one = push_more t ms st e new n pushes in
              let are = ap sizes_in alone in (
                reached inner c.world,
                read_as w x c both.1
                    ∙ ap (λ rs. within_total (grown w.total (8 * s.nodes))
                    (resume rs c.reader.name c.reader.meta (reached inner c.world))) alone,
                record {
                  node = inner;
                  world = c.world;
                  is = refl;
                  total = c.total;
                  stands = push_work t ms st e new n pushes inner is_stood c.world c.stands;
                  item = push_node t ms st e new n pushes inner is_stood;
                  items = omega (arith, size, before, one, are);
                  last = push_last t ms st e new n pushes;
                  whole = closed_items none w x c;
                },
              );
        }
