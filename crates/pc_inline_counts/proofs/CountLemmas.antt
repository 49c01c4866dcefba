-- What the counts say: what is reached of a definition follows its count.
use Rattle.std.proofs.Common.{◌≡◌, ◌<◌, ℕ, true, List, ◌∷◌, Contains, fold, length, zero, suc}
use Rattle.std.proofs.Common.{Option, None, Some}
use Rattle.std.proofs.Common.{refl, sym, ap, subst, ◌∙◌, arith}
use Rattle.std.specs.Prelude.{slice_get, option_and_then}
use Rattle.pc_entity.specs.declared.string_pool.Atom.{Atom}
use Rattle.pc_entity.specs.Lists.{Kept}
use Rattle.pc_entity.proofs.Growing.{kept_refl}
use Rattle.pc_types.specs.declared.error.Unsupported.TheVariants.{ExportedComponent, ReexportedIntrinsic}
use Rattle.pc_types.specs.declared.error.Unsupported.TheVariants.{ReexportedIntrinsics}
use Rattle.pc_types.specs.declared.module_record.ModuleRecord.{ModuleRecord}
use Rattle.pc_types.specs.declared.types.ComponentExtern.{ComponentExtern}
use Rattle.pc_types.specs.Table.{table_fault}
use Rattle.pc_types.specs.TypeTree.{TypeTree}
use Rattle.pc_types_convert.proofs.OneTree.{one_tree}
use Rattle.pc_spec_plan.specs.ExportNode as node
use Rattle.pc_spec_plan.specs.ExportNode.{and_node}
use Rattle.pc_parsed.specs.Mark.{of_type}
use Rattle.pc_spec_reading.specs.HostTypes.{tree_along, type_at}
use Rattle.pc_spec_reading.specs.Nodes.{extern_data, host_function_node, instance_value_node, more, then_reach}
use Rattle.pc_spec_reading.specs.Nodes.{value_node, value_nodes}
use Rattle.pc_spec_reading.specs.Value.{NamedValues, Value, instance_value, made_instance, type_value}
use Rattle.pc_spec_reading.specs.World.{HostImport, World, has_room}
use Rattle.pc_inline_state.specs.declared.definition.Definition.{Definition}
use Rattle.pc_inline_state.specs.declared.definition.ExportsId.{ExportsId}
use Rattle.pc_inline_state.specs.declared.state.Member.{Member}
use Rattle.pc_inline_state.specs.declared.state.State.{State}
use Rattle.pc_inline_state.specs.Definitions.{exports_of}
use Rattle.pc_inline_state.specs.Holds.{Holds}
use Rattle.pc_inline_state.specs.Members.{AreEarlier, IsInstanceOf}
use Rattle.pc_inline_state.specs.Stands.{DefinitionStands, IsType, MembersStand, Stands, and_member, no_members}
use Rattle.pc_inline_state.specs.Stands.{stands, stands_component, stands_host, stands_host_instance}
use Rattle.pc_inline_state.specs.Stands.{stands_host_module, stands_instance, stands_intrinsic, stands_intrinsics}
use Rattle.pc_inline_state.specs.Stands.{stands_lifted, stands_static, stands_type}
use Rattle.pc_inline_state.specs.Tables.{Tables, tables_of}
use Rattle.pc_inline_state.specs.Worlds.{ImportStands, WorldStands}
use Rattle.pc_inline_state.proofs.FitsLemmas.{who_fits, who_of}
use Rattle.pc_inline_state.proofs.ZipLemmas.{both_there, zip_at}
use Rattle.pc_inline_counts.specs.declared.count.NodeCount.{NodeCount}
use Rattle.pc_inline_counts.specs.declared.instances.NodeCounts.{NodeCounts}
use Rattle.pc_inline_counts.specs.Counts.{AreCounts, after_nodes, count_at, count_or, definition_count, entry_counts}
use Rattle.pc_inline_counts.specs.Counts.{instance_counts, maybe_count, members_count, one_node, with_member}
use Rattle.pc_inline_counts.specs.Follows.{AreStillCounts, CountsNodes, Follows, Grew, HasHostTypes, IsCounted}
use Rattle.pc_inline_counts.proofs.FoldLemmas.{count_made, counts_length, fold_goes_on, kept_at}
use Rattle.pc_inline_counts.proofs.HostLemmas.{entry_follows}
use Rattle.pc_inline_counts.proofs.FollowsLemmas.{counting_follows, host_leaf_follows, leaf_follows}
use Rattle.pc_inline_counts.proofs.FollowsLemmas.{next_follows, put_follows, refused_follows}

-- what is in the rest of a list is in the list
further : {A : Type 0} (x : A) (xs : List A) (y : A) → Contains xs y → Contains (x ∷ xs) y
further x xs y among = (suc among.0, omega (arith, among.1), among.2)

-- what is first in a list is in it
first_of : {A : Type 0} (x : A) (xs : List A) → Contains (x ∷ xs) x
first_of x xs = (0, omega arith, refl)

-- a world after some nodes has the imports that were there
still_typed : (ms : List ModuleRecord) (b : Tables) (w v : World) (c : NodeCount) → Grew w v c
    → HasHostTypes ms b w.imports
    → HasHostTypes ms b v.imports
still_typed ms b w v c g typed = subst (HasHostTypes ms b) (sym g.imports) typed

module _ (ms : List ModuleRecord) (b : Tables) (sound : table_fault b.table ≡ None) where
  -- so many nodes are counted of an instance with these members
  abbrev ListFollows : NodeCount → (n : ℕ) → Type 0
  ListFollows count n =
      (es : List (Atom × Member)) (vs : NamedValues) (tree : TypeTree) → slice_get b.instances n ≡ Some es
      → MembersStand ms b es vs → (w : World) → HasHostTypes ms b w.imports
      → Follows count w (value_node (instance_value (made_instance vs tree)) w)

  -- so many nodes are counted of a definition, where that holds of the members of an instance
  definition_follows : (instances : List NodeCount) (d : Definition) (v : Value) → DefinitionStands ms b d v
      → ((j : ExportsId) → exports_of d ≡ Some j → ListFollows (count_at instances j.0) j.0)
      → (w : World) → has_room w.total ≡ true → HasHostTypes ms b w.imports
      → Follows (definition_count (entry_counts b.table) instances d) w (value_node v w)
  unfolding value_node instance_value_node
  definition_follows instances d v (stands_host {path = path} {tree = tree} held given typed) lists w room types =
      subst (λ (o : Option TypeTree). Follows one_node w (host_function_node path o w)) (sym (types path tree given))
      (host_leaf_follows path _ w)
  definition_follows instances d v (stands_lifted typed func options) lists w room types = leaf_follows _ w
  definition_follows instances d v stands_intrinsic lists w room types =
      refused_follows _ ReexportedIntrinsic w room
  definition_follows instances d v (stands_static handed_in tabled i typed) lists w room types = leaf_follows _ w
  definition_follows instances d v (stands_host_module {path = path} held given tabled typed) lists w room types =
      host_leaf_follows path _ w
  definition_follows instances d v (stands_component there body leaving held modules components) lists w room types =
      refused_follows _ ExportedComponent w room
  definition_follows instances d v (stands_host_instance {entry = n} {path = path} {tree = tree} held given tabled typed)
      lists w room types =
      entry_follows tabled.known tabled.component_instance b.table sound n tree tabled.is path w room
  definition_follows instances d v (stands_instance {n = n} {es = es} {vs = vs} {tree = tree} held members typed) lists w
      room types =
      lists n refl es vs tree held members w types
  definition_follows instances d v stands_intrinsics lists w room types =
      refused_follows _ ReexportedIntrinsics w room
  definition_follows instances d v (stands_type typed) lists w room types = leaf_follows _ w

  module _ (ds : List Definition) (lists : List (List (Atom × Member))) (kept : Kept ds b.definitions)
      (same_lists : Kept lists b.instances) (are : AreEarlier ds lists) where
    -- the counts of all instances
    abbrev all : List NodeCount
    all = instance_counts (entry_counts b.table) ds lists

    -- a member, whose instance is before this many
    abbrev IsEarlier : ℕ → Atom × Member → Type 0
    IsEarlier n e = (e.1.item.0 < length ds) × ((j : ExportsId) → IsInstanceOf ds e.1.item.0 j → j.0 < n)

    module _ (n : ℕ) (before : List NodeCount) (same : (m : ℕ) → m < n → count_at before m ≡ count_at all m)
        (earlier : (m : ℕ) → m < n → ListFollows (count_at all m) m) where
      -- a member
      member_follows : (e : Atom × Member) → IsEarlier n e → (v : Value) → Stands ms b e.1.item v
          → (w : World) → has_room w.total ≡ true → HasHostTypes ms b w.imports
          → Follows (maybe_count (entry_counts b.table) before (slice_get ds e.1.item.0)) w (value_node v w)
      member_follows e is v (stands {d = d} held value) w room types =
          let there = kept_at ds b.definitions kept e.1.item.0 is.0 ∙ held in
          subst (λ o. Follows (maybe_count (entry_counts b.table) before o) w (value_node v w)) (sym there)
          (definition_follows before d v value
          (λ j exported. let below = is.1 j (d, there, exported) in
          subst (λ (k : NodeCount). ListFollows k j.0) (sym (same j.0 below)) (earlier j.0 below)) w room types)

      -- the members after some
      members_follow : (es : List (Atom × Member)) (vs : NamedValues) → MembersStand ms b es vs
          → ((e : Atom × Member) → Contains es e → IsEarlier n e) → (count : NodeCount) (w v : World)
          → Grew w v count → HasHostTypes ms b w.imports
          → Follows (fold (with_member (entry_counts b.table) ds before) count es) w (value_nodes vs v)
      unfolding value_nodes Follows
      members_follow es vs no_members is count w v g types = g
      members_follow es vs (and_member {name = name} {n = number} {m = m} {v = x} {es = rest} {vs = xs} numbered said here
          others) is count w v g types =
          let e : Atom × Member = (number, m) in
          let d = maybe_count (entry_counts b.table) before (slice_get ds m.item.0) in
          let whole = fold (with_member (entry_counts b.table) ds before) (after_nodes count d) rest in
          next_follows count d whole w v g (value_node x v)
          (member_follows e (is e (first_of e rest)) x here v g.room (still_typed ms b w v count g types))
          (fold_goes_on
          (λ (y : Atom × Member). maybe_count (entry_counts b.table) before (slice_get ds y.1.item.0))
          (after_nodes count d) rest)
          (λ y u. then_reach (value_nodes xs u) (more name.name (extern_data name) y))
          (λ y u grew. put_follows (and_node name.name (extern_data name) y) whole w (value_nodes xs u)
          (members_follow rest xs others (λ k among. is k (further e rest k among)) (after_nodes count d) w u grew types))

      -- an instance with its members
      made_follows : (es : List (Atom × Member)) (vs : NamedValues) (tree : TypeTree) → MembersStand ms b es vs
          → ((e : Atom × Member) → Contains es e → IsEarlier n e) → (w : World) → HasHostTypes ms b w.imports
          → Follows (members_count (entry_counts b.table) ds before es) w
          (value_node (instance_value (made_instance vs tree)) w)
      unfolding value_node instance_value_node
      made_follows es vs tree stand is w types =
          counting_follows (members_count (entry_counts b.table) ds before es) w
          (fold_goes_on
          (λ (y : Atom × Member). maybe_count (entry_counts b.table) before (slice_get ds y.1.item.0)) one_node es) _
          (λ v g. put_follows (node.instance (of_type tree)) (members_count (entry_counts b.table) ds before es) w
          (value_nodes vs v) (members_follow es vs stand is one_node w v g types))

    -- an instance before this many
    instance_below : (k n : ℕ) → n < k → n < length lists → ListFollows (count_at all n) n
    instance_below zero n below within es vs tree held stand w types = absurd (omega (arith, below))
    instance_below (suc k) n below within es vs tree held stand w types =
        let at : slice_get lists n ≡ Some es = kept_at lists b.instances same_lists n within ∙ held in
        let m = count_made (members_count (entry_counts b.table) ds) lists n es at in
        subst (λ (c : NodeCount). Follows c w (value_node (instance_value (made_instance vs tree)) w)) (sym m.is)
        (made_follows n m.before
        (λ j less. ap count_or (kept_at m.before all m.kept j (omega (arith, less, m.many))))
        (λ j less. instance_below k j (omega (arith, less, below)) (omega (arith, less, within))) es vs tree stand
        (λ e among. (are.held n es e at among, λ j is. are.earlier n es e j at among is)) w types)

    -- a definition
    counts_follow : (d : Definition) (v : Value) → DefinitionStands ms b d v
        → ((j : ExportsId) → exports_of d ≡ Some j → j.0 < length lists) → (w : World) → has_room w.total ≡ true
        → HasHostTypes ms b w.imports → Follows (definition_count (entry_counts b.table) all d) w (value_node v w)
    counts_follow d v is within w room types =
        definition_follows all d v is
        (λ j exported. instance_below (suc j.0) j.0 (omega arith) (within j exported)) w room types

-- there are as many counts as lists
counts_many : (b : Tables) (counts : NodeCounts) → AreCounts b counts → length counts.instances ≡ length b.instances
counts_many b counts made =
    ap (λ (cs : List NodeCount). length cs) made.instances
    ∙ counts_length (members_count (entry_counts b.table) b.definitions) b.instances

-- what is reached of a definition takes as much as was counted, or more
pub count_follows : (counts : NodeCounts) (d : Definition)
    → CountsNodes counts d (definition_count counts.entries counts.instances d)
unfolding CountsNodes
count_follows counts d ms b v w sound still counted is room types =
    let old = still.made_of in
    let entries : counts.entries ≡ entry_counts b.table = still.made.entries ∙ ap entry_counts (sym still.table) in
    let lists : counts.instances ≡ instance_counts (entry_counts b.table) old.definitions old.instances =
    still.made.instances
    ∙ ap (λ t. instance_counts (entry_counts t) old.definitions old.instances) (sym still.table) in
    let many = counts_many old counts still.made in
    subst (λ (c : NodeCount). Follows c w (value_node v w))
    (λ i. definition_count (sym entries i) (sym lists i) d)
    (counts_follow ms b sound old.definitions old.instances still.definitions still.instances still.earlier d v is
    (λ j exported. let below = counted j exported in omega (arith, below, many)) w room types)

-- a type is one node
pub type_follows : (tree : TypeTree) (w : World) → Follows one_node w (value_node (type_value tree) w)
unfolding value_node
type_follows tree w = leaf_follows (node.type_node (of_type tree)) w

-- counts are still those of the tables that they were made of
pub counts_made : (b : Tables) (counts : NodeCounts) → AreEarlier b.definitions b.instances → AreCounts b counts
    → AreStillCounts b counts
counts_made b counts are made = record {
  made_of = b;
  made = made;
  earlier = are;
  definitions = kept_refl b.definitions;
  instances = kept_refl b.instances;
  table = refl;
}

-- a definition that was there was counted
pub counted_before : (b : Tables) (counts : NodeCounts) → AreEarlier b.definitions b.instances → AreCounts b counts
    → (n : ℕ) (d : Definition) → slice_get b.definitions n ≡ Some d → IsCounted counts d
counted_before b counts are made n d held j exported =
    let below = are.there n j (d, held, exported) in
    let many = counts_many b counts made in
    omega (arith, below, many)

module _ (ms : List ModuleRecord) (st : State) where
  -- an import of the root has the type that the reading gave it
  import_typed : (i : List ℕ × ComponentExtern) (h : HostImport) → ImportStands st.types st.graph i h
      → (whole : TypeTree) → IsType ms (tables_of st) i.1.ty whole → h.import_type ≡ whole
  unfolding Holds
  import_typed i h s whole is =
      let who = who_of st.graph in
      let fits = who_fits st.graph in
      one_tree st.types who i.1.ty h.import_type whole (s.typed who fits) (is who fits)

  -- in a world that the graph does, each path to a host item has its type
  pub host_types : (w : World) → WorldStands st.types st.graph w → HasHostTypes ms (tables_of st) w.imports
  unfolding type_at
  host_types w world path t given =
      let found = both_there (ImportStands st.types st.graph) (slice_get st.graph.import_types path.import)
      (slice_get w.imports path.import) given.import
      (zip_at (ImportStands st.types st.graph) st.graph.import_types w.imports path.import world.import_types)
      given.there in
      ap (λ (o : Option HostImport). option_and_then (λ (i : HostImport). tree_along path.names i.import_type) o)
      found.1
      ∙ ap (tree_along path.names) (import_typed given.import found.0 found.2 given.whole given.typed) ∙ given.along
