-- A node of a part is reached, and the reading goes on behind it.
use Rattle.std.proofs.Common.{map, None}
use Rattle.std.proofs.Common.{◌≡◌, ◌<◌, ◌+◌, ◌*◌, ◌∙◌, ℕ, true, List, [], ◌∷◌, ◌++◌, Option, Some, Ok}
use Rattle.std.proofs.Common.{length, refl, reverse, sym, ap, subst, arith}
use Rattle.std.specs.Prelude.{slice_get}
use Rattle.std.specs.List.{AllZip}
use Rattle.std.proofs.lemmas.List.{length-append}
use Rattle.std.proofs.lemmas.List.Elements.{All-cons, All-nil}
use Rattle.pc_numbers.specs.declared.runtime.ExportIndex.{ExportIndex}
use Rattle.pc_types.specs.declared.module_record.ModuleRecord.{ModuleRecord}
use Rattle.pc_types.specs.declared.parsed.TypeTable.{TypeTable}
use Rattle.pc_types.specs.declared.types.ComponentExternData.{ComponentExternData}
use Rattle.pc_types.specs.declared.type_index.TypeComponentInstanceIndex.{TypeComponentInstanceIndex}
use Rattle.pc_types.specs.declared.types.TypeDef.TheVariants as type
use Rattle.pc_types.specs.TypeTree.{TypeTree}
use Rattle.pc_spec_plan.specs.ExportNode as node
use Rattle.pc_spec_plan.specs.ExportNode.{ExportNode, NamedNode}
use Rattle.pc_parsed.specs.Mark.{Mark, of_type}
use Rattle.pc_spec_reading.specs.Nodes.{Reached, then_reach, within_total}
use Rattle.pc_spec_reading.specs.World.{World, grown}
use Rattle.pc_dfg.specs.declared.dfg.ComponentDfg.{ComponentDfg}
use Rattle.pc_dfg.specs.declared.export.Export.TheVariants as export
use Rattle.pc_dfg.specs.Held.{HeldExport, NamesBelow}
use Rattle.pc_dfg.specs.Lists.{NamedExport}
use Rattle.pc_inline_state.specs.declared.state.State.{State}
use Rattle.pc_inline_exports.specs.Found.{nests}
use Rattle.pc_inline_state.specs.Stands.{IsType}
use Rattle.pc_inline_state.specs.Tables.{Keeps, tables_of}
use Rattle.pc_inline_state.proofs.ZipLemmas.{zip_push}
use Rattle.std.proofs.lemmas.Option.{slice_get_within}
use Rattle.pc_inline_exports.specs.declared.build.Open.{Open}
use Rattle.pc_inline_exports.specs.declared.build.Stack.{Stack}
use Rattle.pc_inline_exports.specs.declared.part.Found.{Found}
use Rattle.pc_inline_exports.specs.Building.{Climbs, OpenStands, PartFound, items_among, items_of, opened, with_item}
use Rattle.pc_inline_exports.specs.Exports.{IsUnder, NameStands, NestedStand, NodeStands, and_nested}
use Rattle.pc_inline_exports.specs.Exports.{host_module_stands}
use Rattle.pc_inline_exports.proofs.UnderLemmas.{grown_stay, whole_more}
use Rattle.pc_inline_exports.specs.Exports.{imported_stands, instance_stands, lifted_stands, no_nested, node_size}
use Rattle.pc_inline_exports.specs.Exports.{nodes_size, sizes, static_stands, type_stands}
use Rattle.pc_types_lists.specs.Types.{Types}
use Rattle.pc_inline_state.proofs.StateLemmas.{types_refl}
use Rattle.pc_inline_exports.specs.Reaching.{ExportStands, OneEnds}
use Rattle.pc_inline_exports.specs.Subjects.{Part, Reader, Subject, put_before, reads_on, resume, subject_node}
use Rattle.pc_inline_exports.specs.Subjects.{with_node}
use Rattle.pc_inline_exports.proofs.GrownLemmas.{names_still, open_kept, opens_kept}
use Rattle.pc_inline_exports.proofs.InstanceLemmas.{instance_view}
use Rattle.pc_inline_exports.proofs.LeafLemmas.{work_total}
use Rattle.pc_entity.specs.Lists.{value_of}
use Rattle.std.specs.Option.{option_map}
use Rattle.std.proofs.Common.{suc, take}
use Rattle.pc_inline_state.proofs.ZipLemmas.{zip_length}
use Rattle.pc_inline_exports.specs.Building.{IsApart, part_name}
use Rattle.pc_inline_exports.proofs.NamesLemmas.{names_more, next_absent, slice_mapped}
use Rattle.pc_inline_exports.proofs.WithinLemmas.{one_more}
use Rattle.pc_inline_exports.proofs.WithinLemmas.{grown_twice, reads_part, resume_within, then_within, within_more}

-- one node more counts
next_total : (n : ℕ) → 8 * n + 8 ≡ 8 * (n + 1)
next_total n = omega arith

pub total_on : (o : Option ℕ) (n : ℕ) (a b : Option ℕ) → a ≡ grown o (8 * n) → b ≡ grown a 8 → b ≡ grown o (8 * (n + 1))
total_on o n a b first second =
    second ∙ ap (λ x. grown x 8) first ∙ grown_twice o (8 * n) 8 ∙ ap (grown o) (next_total n)

-- what waits goes on behind a node that counts
pub counts_on : {A : Type 0} (o : Option ℕ) (n : ℕ) (a : Option ℕ) → a ≡ grown o (8 * n) → (rs : List Reader)
    (name : List ℕ) (meta : ComponentExternData) (q r : Reached A) (go : A → World → Reached (ExportNode Mark))
    → q ≡ within_total (grown a 8) r
    → within_total (grown o (8 * n)) (resume rs name meta (then_reach q go))
    ≡ within_total (grown o (8 * (n + 1))) (resume rs name meta (then_reach r go))
counts_on o n a first rs name meta q r go is =
    ap (λ x. within_total (grown o (8 * n)) (resume rs name meta (then_reach x go))) is
    ∙ ap (λ x. within_total (grown o (8 * n)) (resume rs name meta x)) (then_within (grown a 8) r go)
    ∙ ap (within_total (grown o (8 * n))) (resume_within rs name meta (grown a 8) (then_reach r go))
    ∙ ap (λ x. within_total (grown o (8 * n)) (within_total (grown x 8) (resume rs name meta (then_reach r go)))) first
    ∙ ap (λ x. within_total (grown o (8 * n)) (within_total x (resume rs name meta (then_reach r go))))
    (grown_twice o (8 * n) 8)
    ∙ within_more o (8 * n) 8 (resume rs name meta (then_reach r go))
    ∙ ap (λ x. within_total (grown o x) (resume rs name meta (then_reach r go))) (next_total n)

-- one node more
pub sizes_more : (xs : List (NamedNode Mark)) (x : NamedNode Mark) → sizes (xs ++ x ∷ []) ≡ sizes xs + node_size x.node
sizes_more [] x = omega arith
sizes_more (y ∷ xs) x = let rest = sizes_more xs x in omega (arith, rest)

-- all nodes under an instance
before_size : (xs : List (NamedNode Mark)) → nodes_size (put_before xs node.no_nodes) ≡ sizes xs
before_size [] = refl
before_size (x ∷ xs) = ap (λ n. node_size x.node + n) (before_size xs)

pub instance_size : (tree : TypeTree) (xs : List (NamedNode Mark))
    → node_size (node.instance (of_type tree) (put_before xs node.no_nodes)) ≡ sizes xs + 1
instance_size tree xs = let rest = before_size xs in omega (arith, rest)

-- The item of an instance all parts of which have items.
module _ (t : TypeTable) (ms : List ModuleRecord) (st : State) where
  -- the nodes of its parts, in order
  nested : (types : Types) (h : ComponentDfg) (es : List NamedExport) (xs : List (NamedNode Mark))
      → AllZip (NameStands t types h) es xs → NestedStand t types h es (put_before xs node.no_nodes)
  nested types h [] [] all = no_nested
  nested types h [] (x ∷ xs) all = absurd all
  nested types h (e ∷ es) [] all = absurd all
  nested types h (e ∷ es) (x ∷ xs) all =
      let first = all.0 in
      subst (λ name. NestedStand t types h (e ∷ es)
      (node.and_node name x.extern_data x.node (put_before xs node.no_nodes))) (sym first.name)
      (subst (λ meta. NestedStand t types h (e ∷ es) (node.and_node e.0 meta x.node (put_before xs node.no_nodes)))
      (sym first.extern_data) (and_nested first.node (nested types h es xs all.1)))

  -- a node that stands has its number below
  node_below : (n : ℕ) (x : ExportNode Mark) → NodeStands t st.types st.graph n x → n < length st.graph.export_items
  node_below n x (lifted_stands at held func options) = slice_get_within st.graph.export_items n _ at
  node_below n x (imported_stands at path held) = slice_get_within st.graph.export_items n _ at
  node_below n x (static_stands held at) = slice_get_within st.graph.export_items n _ at
  node_below n x (host_module_stands at path held) = slice_get_within st.graph.export_items n _ at
  node_below n x (instance_stands at held parts) = slice_get_within st.graph.export_items n _ at
  node_below n x (type_stands at held) = slice_get_within st.graph.export_items n _ at

  names_below : (es : List NamedExport) (xs : List (NamedNode Mark)) → AllZip (NameStands t st.types st.graph) es xs
      → NamesBelow st.graph (length st.graph.export_items) es
  names_below [] xs all = All-nil (λ (e : NamedExport). e.1.0.0 < length st.graph.export_items)
  names_below (e ∷ es) [] all = absurd all
  names_below (e ∷ es) (x ∷ xs) all = All-cons (λ (y : NamedExport). y.1.0.0 < length st.graph.export_items) e es
      (node_below e.1.0.0 x.node all.0.node) (names_below es xs all.1)

  pub instance_exported : (ty : TypeComponentInstanceIndex) (tree : TypeTree)
      → IsType ms (tables_of st) (type.ComponentInstance ty) tree → (es : List NamedExport) (xs : List (NamedNode Mark))
      → AllZip (NameStands t st.types st.graph) es xs
      → ExportStands t ms st (export.Instance ty es) (node.instance (of_type tree) (put_before xs node.no_nodes))
  unfolding HeldExport
  instance_exported ty tree typed es xs all = record {
    stands = λ n h grows fits at. instance_stands at (λ who now. typed who (fits who now))
        (nested st.types h es xs
        (names_still t st.types st.types st.graph h (types_refl st.types) grows fits es xs all));
    held = names_below es xs all;
    usable = λ a b c is. absurd (let no : ⊥ = cc in no);
    listed = λ a b is. absurd (let no : ⊥ = cc in no);
  }

module _ (t : TypeTable) (ms : List ModuleRecord) (st : State) where
  -- an instance with one item more
  pub open_more : (o : Open) (r : Reader) → OpenStands t ms st o r → (p : Part)
      → slice_get r.parts (length r.reads) ≡ Some p → (name : List ℕ) → p.name ≡ name → (label : List ℕ)
      → label ≡ name → (n : ExportIndex) (data_ meta : ComponentExternData) → data_ ≡ meta → (x : ExportNode Mark)
      → NodeStands t st.types st.graph n.0 x
      → OpenStands t ms st (with_item o label n data_) (with_node r name meta x)
  open_more o r stands p at name is_name label same n data_ meta says x is =
      let y : NamedNode Mark = record { name = name; extern_data = meta; node = x } in
      let more : length (r.reads ++ y ∷ []) ≡ suc (length r.reads) =
      length-append r.reads (y ∷ []) ∙ one_more (length r.reads) in
      record {
        name = stands.name;
        data_ = stands.data_;
        parts = stands.parts;
        next = ap (λ k. k + 1) stands.next ∙ sym (length-append r.reads (y ∷ []));
        apart = stands.apart;
        named = names_more (map part_name r.parts) (length r.reads) p.name
            (slice_mapped part_name r.parts (length r.reads) ∙ ap (option_map part_name) at) o.items stands.named label
            (same ∙ sym is_name) (n, data_)
            ∙ ap (λ k. take k (map part_name r.parts)) (sym more);
        items = zip_push (NameStands t st.types st.graph) o.items r.reads (label, (n, data_)) y stands.items
            (record { name = sym same; extern_data = sym says; node = is });
      }

  -- the next part of an instance has no item yet
  pub part_absent : (o : Open) (r : Reader) → OpenStands t ms st o r → (p : Part)
      → slice_get r.parts (length r.reads) ≡ Some p → (label : List ℕ) → label ≡ p.name → value_of label o.items ≡ None
  part_absent o r stands p at label same =
      subst (λ l. value_of l o.items ≡ None) (sym same)
      (next_absent (map part_name r.parts) stands.apart (length r.reads) p.name
      (slice_mapped part_name r.parts (length r.reads) ∙ ap (option_map part_name) at) o.items stands.named)

  -- as many parts are behind it as it has items
  pub next_items : (o : Open) (r : Reader) → OpenStands t ms st o r → o.next ≡ length o.items
  next_items o r stands =
      stands.next ∙ sym (zip_length (NameStands t st.types st.graph) o.items r.reads stands.items)

module _ (t : TypeTable) (ms : List ModuleRecord) (old : State) (x : Subject) (w : World) where
  -- where a part is, when an instance stands
  next_part : (r : Reader) (n : ℕ) → n ≡ length r.reads → (p : Part) → slice_get r.parts n ≡ Some p
      → slice_get r.parts (length r.reads) ≡ Some p
  next_part r n is p at = subst (λ k. slice_get r.parts k ≡ Some p) is at

  module _ (st : State) (s : Stack) (c : Climbs t ms old x w st s) (p : Part)
      (at : slice_get c.reader.parts s.top.next ≡ Some p) where
    -- what is read of the part, then of what is behind it
    abbrev Behind : ExportNode Mark → World → Reached (ExportNode Mark)
    Behind y u = reads_on (with_node c.reader p.name p.meta y) u

    here : subject_node x w ≡ within_total (grown w.total (8 * s.nodes))
        (resume c.readers c.reader.name c.reader.meta (then_reach (subject_node p.subject c.world) Behind))
    here = c.same ∙ ap (λ q. within_total (grown w.total (8 * s.nodes))
        (resume c.readers c.reader.name c.reader.meta q))
        (reads_part c.reader p (next_part c.reader s.top.next c.top.next p at) c.world)

    -- a part that is no instance has its item
    pub climb_leaf : (f : Found) → PartFound t ms st p f → (new : State) → Keeps (tables_of st) (tables_of new)
        → (n : ExportIndex) → OneEnds t ms st new c.world p.subject (Ok n)
        → Climbs t ms old x w new (record s { top = with_item s.top f.name n f.data_; nodes = s.nodes + 1 })
    unfolding OneEnds
    climb_leaf f found new keeps n one =
        let made = one.2 in
        let top = open_kept t ms st new keeps s.top c.reader c.top in
        let more = sizes_more c.reader.reads (record { name = p.name; extern_data = p.meta; node = made.node }) in
        let before = c.items in
        let after = made.items in
        record {
          readers = c.readers;
          reader = with_node c.reader p.name p.meta made.node;
          world = made.world;
          total = total_on w.total s.nodes c.world.total made.world.total c.total made.total;
          stands = made.stands;
          callers = opens_kept t ms st new keeps (reverse s.callers.items) c.readers c.callers;
          top =
              open_more t ms new s.top c.reader top p (next_part c.reader s.top.next c.top.next p at) p.name refl f.name
              found.name n f.data_ p.meta found.data_ made.node made.item;
          waits = c.waits;
          same = here
              ∙ counts_on w.total s.nodes c.world.total c.total c.readers c.reader.name c.reader.meta
              (subject_node p.subject c.world) one.0 Behind one.1
              ∙ ap (λ q. within_total (grown w.total (8 * (s.nodes + 1)))
              (resume c.readers c.reader.name c.reader.meta (then_reach q Behind))) made.is;
          items = omega (arith, more, before, after);
          whole =
              whole_more st.graph.export_items new.graph.export_items (grown_stay st.graph new.graph keeps.graph)
              (length old.graph.export_items) s.top.items (items_among (reverse s.callers.items))
              (f.name, (n, f.data_)) c.whole made.whole;
        }

    -- a part that is an instance is reached next
    pub climb_in : (f : Found) → PartFound t ms st p f → nests f.definition ≡ true
        → IsApart t ms st f.definition → (s' : Stack)
        → reverse s'.callers.items ≡ s.top ∷ reverse s.callers.items → s'.top ≡ opened f → s'.nodes ≡ s.nodes + 1
        → Climbs t ms old x w st s'
    unfolding resume
    climb_in f found is apart s' callers top nodes =
        let v = instance_view ms st f.definition p.subject found.is is in
        let inner : Reader =
        record { name = p.name; meta = p.meta; parts = v.parts; tree = v.tree; reads = [] } in
        let next = record c.world { total = grown c.world.total 8 } in
        let before = c.items in
        record {
          readers = c.reader ∷ c.readers;
          reader = inner;
          world = next;
          total = total_on w.total s.nodes c.world.total next.total c.total refl
              ∙ ap (λ k. grown w.total (8 * k)) (sym nodes);
          stands = work_total t ms st c.world (grown c.world.total 8) c.stands;
          callers = subst (λ ks. AllZip (OpenStands t ms st) ks (c.reader ∷ c.readers)) (sym callers)
              (c.top, c.callers);
          top = subst (λ o. OpenStands t ms st o inner) (sym top) (record {
            name = found.name;
            data_ = found.data_;
            parts = v.has;
            next = refl;
            apart = apart v.parts v.tree v.has;
            named = refl;
            items = tt;
          });
          waits = ((p, next_part c.reader s.top.next c.top.next p at, refl), c.waits);
          same = here
              ∙ counts_on w.total s.nodes c.world.total c.total c.readers c.reader.name c.reader.meta
              (subject_node p.subject c.world) (reads_on inner next) Behind (v.reads c.world)
              ∙ ap (λ k. within_total (grown w.total (8 * k))
              (resume (c.reader ∷ c.readers) p.name p.meta (reads_on inner next))) (sym nodes);
          items = omega (arith, before);
          whole = λ n from to.
              let same : items_of s' ≡ items_of s = λ i. (top i).items ++ items_among (callers i) in
              subst (λ l. IsUnder st.graph.export_items l n) (sym same) (c.whole n from to);
        }
