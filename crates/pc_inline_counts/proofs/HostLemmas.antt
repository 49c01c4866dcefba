-- What the counts of entries say of what is reached of the host.
use Rattle.std.proofs.Common.{◌≡◌, ◌<◌, ◌||◌, ℕ, Bool, true, false, List, [], ◌∷◌, fold, length, take, zero, suc}
use Rattle.std.proofs.Common.{None, Some, refl, sym, ap, subst, ◌∙◌, arith, true≢false}
use Rattle.std.specs.Prelude.{slice_get}
use Rattle.std.specs.List.{AllZip, list_all, list_any}
use Rattle.std.proofs.lemmas.Option.{same_Some, slice_get_within}
use Rattle.std.proofs.lemmas.Bool.{ltb-true}
use Rattle.std.proofs.lemmas.List.{length-take}
use Rattle.pc_entity.proofs.Elements.{and_true}
use Rattle.pc_entity.specs.Lists.{names_of}
use Rattle.pc_types.specs.declared.error.Unsupported.TheVariants.{ComponentImport}
use Rattle.pc_types.specs.declared.parsed.DeclType.{DeclType}
use Rattle.pc_types.specs.declared.parsed.DeclType.TheVariants as entry
use Rattle.pc_types.specs.declared.parsed.Entity.{Entity}
use Rattle.pc_types.specs.declared.parsed.Entity.TheVariants as entity
use Rattle.pc_types.specs.declared.parsed.TypeTable.{TypeTable}
use Rattle.pc_types.specs.Names.{distinct_names}
use Rattle.pc_types.specs.Table.{is_component, is_defined_type, is_func, is_instance}
use Rattle.pc_types.specs.Table.{is_module, is_some_and, is_sound_entity, is_value, table_fault}
use Rattle.pc_types.specs.TypeTree.{Fields, Identity, Path, TypeTree, and_field, component_of, func_of}
use Rattle.pc_types.specs.TypeTree.{instance_of, module_of, no_fields, tree_of}
use Rattle.pc_types_convert.proofs.SoundLemmas.{found_by, sound_at}
use Rattle.pc_spec_plan.specs.ExportNode as node
use Rattle.pc_spec_plan.specs.ExportNode.{and_node}
use Rattle.pc_parsed.specs.Mark.{of_type}
use Rattle.pc_spec_reading.specs.Member.{further}
use Rattle.pc_spec_reading.specs.Nodes.{host_node, host_nodes, more, no_data, then_reach}
use Rattle.pc_spec_reading.specs.World.{World, has_room}
use Rattle.pc_inline_hosts.specs.HostMembers.{entry_of}
use Rattle.pc_inline_hosts.specs.HostStands.{fields_list}
use Rattle.pc_inline_hosts.proofs.FieldLemmas.{IsField, both_inv, fields_declared, tree_at}
use Rattle.pc_inline_hosts.proofs.KindLemmas.{both_pass, entry_there, is_instance_tree, is_value_tree, taken_at}
use Rattle.pc_inline_hosts.proofs.KindLemmas.{value_tree}
use Rattle.pc_inline_counts.specs.declared.count.NodeCount.{NodeCount}
use Rattle.pc_inline_counts.specs.Counts.{after_nodes, count_at, count_or, entity_count, entry_count, entry_counts}
use Rattle.pc_inline_counts.specs.Counts.{one_node}
use Rattle.pc_inline_counts.specs.Counts.{refused_node, with_export}
use Rattle.pc_inline_counts.specs.Follows.{Follows, Grew}
use Rattle.pc_inline_counts.proofs.FoldLemmas.{count_made, fold_goes_on, kept_at}
use Rattle.pc_inline_counts.proofs.FollowsLemmas.{counting_follows, host_leaf_follows, leaf_follows, next_follows}
use Rattle.pc_inline_counts.proofs.FollowsLemmas.{put_follows, refused_follows}

-- the tree of a component type
abbrev is_component_tree : TypeTree → Bool
is_component_tree (component_of imports exports) = true
is_component_tree _ = false

-- a host item that is neither an instance nor a component is one node
plain_follows : (t : TypeTree) → is_instance_tree t ≡ false → is_component_tree t ≡ false → (p : Path) (w : World)
    → Follows one_node w (host_node p t w)
unfolding host_node
plain_follows (func_of params result is_async) i c p w = host_leaf_follows p _ w
plain_follows (instance_of exports) i c p w = absurd (true≢false i)
plain_follows (component_of imports exports) i c p w = absurd (true≢false c)
plain_follows (module_of imports exports) i c p w = host_leaf_follows p _ w
plain_follows _ i c p w = leaf_follows _ w

-- a component of the host is refused
component_follows : (imports exports : Fields) → (p : Path) (w : World) → has_room w.total ≡ true
    → Follows (refused_node ComponentImport) w (host_node p (component_of imports exports) w)
unfolding host_node
component_follows imports exports p w room = refused_follows _ ComponentImport w room

-- the tree of a type that values have is neither that of an instance nor that of a component
value_plain : (t : TypeTree) → is_value_tree t ≡ true → (is_instance_tree t ≡ false) × (is_component_tree t ≡ false)
value_plain (instance_of exports) is = absurd (true≢false (sym is))
value_plain (component_of imports exports) is = absurd (true≢false (sym is))
value_plain _ is = (refl, refl)

-- none of two
or_false : (a b : Bool) → (a || b) ≡ false → (a ≡ false) × (b ≡ false)
or_false true b is = absurd (true≢false is)
or_false false b is = (refl, is)

-- an entity names an entry before this many
abbrev IsBelow : ℕ → Entity → Type 0
IsBelow n e = (entry_of e < n) × ((counts : List NodeCount) → entity_count counts e ≡ count_at counts (entry_of e))

module _ (known : List (ℕ × Identity)) (c : ℕ) (t : TypeTable) (sound : table_fault t ≡ None) where
  -- the counts of all entries
  abbrev all : List NodeCount
  all = entry_counts t

  -- what passes a test among the entries before stands before
  found_below : (test : DeclType → Bool) (n m : ℕ) → is_some_and test (slice_get (take n t.types) m) ≡ true → m < n
  found_below test n m is =
      let f = found_by test (slice_get (take n t.types) m) is in
      (taken_at t.types n m f.0 f.1).0

  -- an entity of a sound entry
  entity_below : (n : ℕ) → n < length t.types → (e : Entity) → is_sound_entity (take n t.types) e ≡ true
      → is_value e ≡ false → IsBelow n e
  entity_below n within (entity.Func m) ok not = (found_below is_func n m ok, λ counts. refl)
  entity_below n within (entity.Instance m) ok not = (found_below is_instance n m ok, λ counts. refl)
  entity_below n within (entity.Component m) ok not = (found_below is_component n m ok, λ counts. refl)
  entity_below n within (entity.Module m) ok not = (found_below is_module n m ok, λ counts. refl)
  entity_below n within (entity.Type_ m) ok not =
      let less = ltb-true m (length (take n t.types)) ok in
      (omega (arith, less, within, length-take n t.types), λ counts. refl)
  entity_below n within entity.Value ok not = absurd (true≢false not)

  -- so many nodes are counted of what the host has where its type is an entry
  abbrev EntryFollows : ℕ → Type 0
  EntryFollows m =
      (tree : TypeTree) → tree_of known c t m ≡ Some tree → (p : Path) (w : World) → has_room w.total ≡ true
      → Follows (count_at all m) w (host_node p tree w)

  module _ (n : ℕ) (within : n < length t.types) (earlier : (m : ℕ) → m < n → EntryFollows m) (before : List NodeCount)
      (same : (m : ℕ) → m < n → count_at before m ≡ count_at all m) where
    -- an export
    export_follows : (e : Entity) → IsBelow n e → (tree : TypeTree) → tree_of known c t (entry_of e) ≡ Some tree
        → (p : Path) (w : World) → has_room w.total ≡ true → Follows (entity_count before e) w (host_node p tree w)
    export_follows e below tree got p w room =
        subst (λ (d : NodeCount). Follows d w (host_node p tree w))
        (sym (below.1 before ∙ same (entry_of e) below.0))
        (earlier (entry_of e) below.0 tree got p w room)

    -- the exports after some
    exports_follow : (es : List (List ℕ × Entity)) (fs : Fields)
        → list_all (λ (e : List ℕ × Entity). is_sound_entity (take n t.types) e.1) es ≡ true
        → list_any (λ (e : List ℕ × Entity). is_value e.1) es ≡ false
        → AllZip (IsField known c t) es (fields_list fs) → (p : Path) (count : NodeCount) (w v : World)
        → Grew w v count → Follows (fold (with_export before) count es) w (host_nodes p fs v)
    unfolding host_nodes Follows
    exports_follow [] no_fields ok none are p count w v g = g
    exports_follow [] (and_field name tree fs) ok none are p count w v g = absurd are
    exports_follow (e ∷ es) no_fields ok none are p count w v g = absurd are
    exports_follow (e ∷ es) (and_field name tree fs) ok none are p count w v g =
        let both =
        and_true (is_sound_entity (take n t.types) e.1)
        (list_all (λ (x : List ℕ × Entity). is_sound_entity (take n t.types) x.1) es) ok in
        let neither = or_false (is_value e.1) (list_any (λ (x : List ℕ × Entity). is_value x.1) es) none in
        let d = entity_count before e.1 in
        let rest = fold (with_export before) (after_nodes count d) es in
        next_follows count d rest w v g (host_node (further p name) tree v)
        (export_follows e.1 (entity_below n within e.1 both.0 neither.0) tree are.0.1 (further p name) v g.room)
        (fold_goes_on (λ (x : List ℕ × Entity). entity_count before x.1) (after_nodes count d) es)
        (λ x u. then_reach (host_nodes p fs u) (more name no_data x))
        (λ x u grew. put_follows (and_node name no_data x) rest w (host_nodes p fs u)
        (exports_follow es fs both.1 neither.1 are.1 p (after_nodes count d) w u grew))

    -- an instance with its exports
    instance_follows : (es : List (List ℕ × Entity)) (fs : Fields)
        → list_all (λ (e : List ℕ × Entity). is_sound_entity (take n t.types) e.1) es ≡ true
        → list_any (λ (e : List ℕ × Entity). is_value e.1) es ≡ false
        → AllZip (IsField known c t) es (fields_list fs) → (p : Path) (w : World)
        → Follows (fold (with_export before) one_node es) w (host_node p (instance_of fs) w)
    unfolding host_node
    instance_follows es fs ok none are p w =
        counting_follows (fold (with_export before) one_node es) w
        (fold_goes_on (λ (x : List ℕ × Entity). entity_count before x.1) one_node es) _
        (λ v g. put_follows (node.instance (of_type (instance_of fs))) (fold (with_export before) one_node es) w
        (host_nodes p fs v) (exports_follow es fs ok none are p one_node w v g))

    -- an entry, of each kind
    kind_follows : (e : DeclType) → slice_get t.types n ≡ Some e → (tree : TypeTree) → tree_of known c t n ≡ Some tree
        → (p : Path) (w : World) → has_room w.total ≡ true → Follows (entry_count before e) w (host_node p tree w)
    kind_follows (entry.Instance exports) at tree got p w room =
        let f = fields_declared known c t n tree (ap (is_some_and is_instance) at) got in
        let one : f.0 ≡ exports = cc in
        let s = sound_at t n (entry.Instance exports) sound at in
        let ok =
        (and_true (list_all (λ (e : List ℕ × Entity). is_sound_entity (take n t.types) e.1) exports)
        (distinct_names (names_of exports)) s.0).0 in
        subst (λ k. Follows (fold (with_export before) one_node exports) w (host_node p k w)) f.3
        (instance_follows exports f.1 ok s.1
        (subst (λ (es : List (List ℕ × Entity)). AllZip (IsField known c t) es (fields_list f.1)) one f.4) p w)
    kind_follows (entry.Component imports exports) at tree got p w room =
        let x = tree_at known c t n (entry.Component imports exports) at in
        let b = both_inv component_of _ _ tree (sym x.2 ∙ got) in
        subst (λ k. Follows (refused_node ComponentImport) w (host_node p k w)) b.4 (component_follows b.0 b.1 p w room)
    kind_follows entry.Resource at tree got p w room =
        let x = tree_at known c t n entry.Resource at in
        let s = same_Some _ tree (sym x.2 ∙ got) in
        plain_follows tree (ap is_instance_tree (sym s)) (ap is_component_tree (sym s)) p w
    kind_follows (entry.Func params result is_async) at tree got p w room =
        let x = tree_at known c t n (entry.Func params result is_async) at in
        plain_follows tree
        (both_pass is_instance_tree (λ ps r. func_of ps r is_async) false (λ ps r. refl) _ _ tree (sym x.2 ∙ got))
        (both_pass is_component_tree (λ ps r. func_of ps r is_async) false (λ ps r. refl) _ _ tree (sym x.2 ∙ got))
        p w
    kind_follows (entry.Module imports exports) at tree got p w room =
        let x = tree_at known c t n (entry.Module imports exports) at in
        plain_follows tree (both_pass is_instance_tree module_of false (λ i e. refl) _ _ tree (sym x.2 ∙ got))
        (both_pass is_component_tree module_of false (λ i e. refl) _ _ tree (sym x.2 ∙ got)) p w
    kind_follows d at tree got p w room = defined d at refl refl
      where
        defined : (e : DeclType) → slice_get t.types n ≡ Some e → is_defined_type e ≡ true
            → entry_count before e ≡ one_node
            → Follows (entry_count before e) w (host_node p tree w)
        defined e there is one =
            let v = value_plain tree (value_tree known c t sound n e tree there is got) in
            subst (λ k. Follows k w (host_node p tree w)) (sym one) (plain_follows tree v.0 v.1 p w)

  -- an entry before this many
  entry_below : (k n : ℕ) → n < k → EntryFollows n
  entry_below zero n below tree got p w room = absurd (omega (arith, below))
  entry_below (suc k) n below tree got p w room =
      let e = entry_there known c t sound n tree got in
      let m = count_made entry_count t.types n e.0 e.1 in
      subst (λ d. Follows d w (host_node p tree w)) (sym m.is)
      (kind_follows n (slice_get_within t.types n e.0 e.1)
      (λ j less. entry_below k j (omega (arith, less, below))) m.before
      (λ j less. ap count_or (kept_at m.before all m.kept j (omega (arith, less, m.many)))) e.0 e.1 tree got p w room)

  -- so many nodes are counted of what the host has where its type is this entry
  pub entry_follows : (n : ℕ) → EntryFollows n
  entry_follows n = entry_below (suc n) n (omega arith)
