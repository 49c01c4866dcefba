-- What a core instance has under a name, against what the reading finds there.
use Rattle.std.proofs.Common.{◌≡◌, ℕ, Bool, true, false, List, [], ◌∷◌, ◌++◌, Option, Some, None, if◌then◌else◌, refl}
use Rattle.std.proofs.Common.{sym, ap, subst, ◌∙◌, ◌+◌, arith}
use Rattle.std.specs.Prelude.{slice_get, option_and_then}
use Rattle.std.specs.List.{AllZip, list_all}
use Rattle.std.specs.Str.{bytes_eq}
use Rattle.std.proofs.lemmas.Option.{none-some, same_Some}
use Rattle.pc_entity.specs.declared.string_pool.Atom.{Atom}
use Rattle.pc_entity.specs.Lists.{map_all, names_of, value_of}
use Rattle.pc_entity.proofs.Elements.{all_at, and_true}
use Rattle.pc_entity.proofs.MapAll.{map_all-push}
use Rattle.pc_dfg.specs.declared.ids.InstanceId.{InstanceId}
use Rattle.pc_numbers.specs.declared.component_entity.StaticModuleIndex.{StaticModuleIndex}
use Rattle.pc_numbers.specs.declared.entity_index.EntityIndex.{EntityIndex}
use Rattle.pc_types.specs.declared.module_record.ModuleRecord.{ModuleRecord}
use Rattle.pc_types.specs.declared.parsed.CoreEntity.{CoreEntity}
use Rattle.pc_types.specs.declared.parsed.CoreKind.{CoreKind}
use Rattle.pc_types.specs.declared.parsed.CoreKind.TheVariants as core
use Rattle.pc_types.specs.declared.parsed.TypeTable.{TypeTable}
use Rattle.pc_types.specs.Record.{export_of, has_entity, index_kind, is_sound, kind_of, same_kind}
use Rattle.pc_types.specs.Table.{is_module}
use Rattle.pc_types.specs.TypeTree.{CoreTree, TypeTree, core_tree}
use Rattle.pc_types_walk.specs.Names.{export_names, export_place}
use Rattle.pc_spec_plan.specs.CoreValue.{CoreValue, by_index, by_name, exported}
use Rattle.pc_parsed.specs.Mark.{Mark}
use Rattle.pc_spec_reading.specs.Arguments as reading_of
use Rattle.pc_spec_reading.specs.Arguments.{core_export, host_item, record_item, static_argument}
use Rattle.pc_spec_reading.specs.Member.{place_from}
use Rattle.pc_spec_reading.specs.Scope as reading
use Rattle.pc_spec_reading.specs.Scope.{Scope}
use Rattle.pc_spec_reading.specs.Types.{module_exports}
use Rattle.pc_dfg.specs.declared.core_def.CoreDef.{CoreDef}
use Rattle.pc_dfg.specs.declared.instance.Instance.TheVariants as source
use Rattle.pc_inline_names.specs.Both.{Both, both, neither}
use Rattle.pc_inline_names.specs.Numbers.{AreNumbers, HasNumbers, IsNumber, numbered_value}
use Rattle.pc_inline_state.specs.declared.core_item.CoreItem.{CoreItem}
use Rattle.pc_inline_state.specs.declared.core_item.CoreItem.TheVariants as item
use Rattle.pc_inline_state.specs.declared.definition.CoreId.{CoreId}
use Rattle.pc_inline_state.specs.declared.frame.CoreInstance.{CoreInstance}
use Rattle.pc_inline_state.specs.declared.frame.Frame.{Frame}
use Rattle.pc_inline_state.specs.Bags as bags
use Rattle.pc_inline_state.specs.Bags.{argument_item, entity_of_kind, export_item, known_of_kind, module_export}
use Rattle.pc_inline_state.specs.Bags.{named_of_kind}
use Rattle.pc_inline_state.specs.Found.{FoundThere, ItemFound, entity_found, known_found, named_found}
use Rattle.pc_inline_state.specs.Frames.{BagItemStands, CoreInstanceStands, FrameStands, bag_stands, host_stands}
use Rattle.pc_inline_state.specs.Frames.{made_stands}
use Rattle.pc_inline_state.specs.Points.{IsInput}
use Rattle.pc_inline_state.specs.Stands.{IsTableTree, ItemStands}
use Rattle.pc_inline_state.specs.Tables.{IsHostInstance, Tables}
use Rattle.pc_inline_state.proofs.ZipLemmas.{both_there, zip_at, zip_push}
use Rattle.pc_inline_modules.proofs.ModuleTreeLemmas.{ExportFound, IsModuleTree, export_found, found_there, kind_kept}
use Rattle.pc_inline_modules.proofs.ModuleTreeLemmas.{module_tree, not_found}

-- kinds that are one are equal
same_kind_is : (a b : CoreKind) → same_kind a b ≡ true → a ≡ b
same_kind_is core.Func core.Func h = refl
same_kind_is core.Func core.Table h = cc
same_kind_is core.Func core.Memory h = cc
same_kind_is core.Func core.Global h = cc
same_kind_is core.Func core.Tag h = cc
same_kind_is core.Table core.Func h = cc
same_kind_is core.Table core.Table h = refl
same_kind_is core.Table core.Memory h = cc
same_kind_is core.Table core.Global h = cc
same_kind_is core.Table core.Tag h = cc
same_kind_is core.Memory core.Func h = cc
same_kind_is core.Memory core.Table h = cc
same_kind_is core.Memory core.Memory h = refl
same_kind_is core.Memory core.Global h = cc
same_kind_is core.Memory core.Tag h = cc
same_kind_is core.Global core.Func h = cc
same_kind_is core.Global core.Table h = cc
same_kind_is core.Global core.Memory h = cc
same_kind_is core.Global core.Global h = refl
same_kind_is core.Global core.Tag h = cc
same_kind_is core.Tag core.Func h = cc
same_kind_is core.Tag core.Table h = cc
same_kind_is core.Tag core.Memory h = cc
same_kind_is core.Tag core.Global h = cc
same_kind_is core.Tag core.Tag h = refl

-- a sound record exports entities that the module has
sound_exports : (t : TypeTable) (r : ModuleRecord) → is_sound t r ≡ true
    → list_all (λ (e : List ℕ × EntityIndex). has_entity r e.1) r.exports ≡ true
sound_exports t r h = (and_true _ _ (and_true _ _ h).0).1

-- what is found under a name passes a test that all pass
found_passes : {A : Type 0} (test : A → Bool) (name : List ℕ) (xs : List (List ℕ × A)) (x : A)
    → list_all (λ (e : List ℕ × A). test e.1) xs ≡ true → value_of name xs ≡ Some x → test x ≡ true
found_passes test name [] x h k = absurd (none-some x k)
found_passes {A} test name (e ∷ es) x h k =
    let parts = and_true (test e.1) (list_all (λ (q : List ℕ × A). test q.1) es) h in
    by (bytes_eq name e.0) k parts.0 (λ k'. found_passes test name es x parts.1 k')
  where
    by : (b : Bool) → (if b then Some e.1 else value_of name es) ≡ Some x → test e.1 ≡ true
        → (value_of name es ≡ Some x → test x ≡ true) → test x ≡ true
    by true q here later = subst (λ (y : A). test y ≡ true) (same_Some e.1 x q) here
    by false q here later = later q

module _ (t : TypeTable) (ms : List ModuleRecord) (input : IsInput t ms) (b : Tables) where
  -- an entity of a core instance that was made
  made_export : (k : CoreKind) (name : List ℕ) (i : InstanceId) (m : StaticModuleIndex) (args : List CoreDef)
      → slice_get b.graph.instances i.0 ≡ Some (source.Static m args)
      → Both (ItemFound ms b k)
      (option_and_then (entity_of_kind i k) (option_and_then (λ (r : ModuleRecord). export_of r name)
      (slice_get ms m.0)))
      (option_and_then (record_item i.0 k) (option_and_then (λ (r : ModuleRecord). export_of r name)
      (slice_get ms m.0)))
  made_export k name i m args made = by (slice_get ms m.0) refl
    where
      entity : (r : ModuleRecord) → slice_get ms m.0 ≡ Some r → (e : EntityIndex) → export_of r name ≡ Some e
          → (is : Bool) → same_kind k (index_kind e) ≡ is
          → Both (ItemFound ms b k) (if is then Some (item.Entity i e) else None)
          (if is then Some (exported i.0 (by_index e)) else None)
      entity r held e found false is = neither
      entity r held e found true is =
          both (entity_found (sym (same_kind_is k (index_kind e) is)) (record {
            core_module = m;
            arguments = args;
            module_record = r;
            made = made;
            handed_in = held;
            has = found_passes (has_entity r) name r.exports e
                (sound_exports t r (all_at (is_sound t) ms m.0 r input.modules held)) found;
          }))

      inner : (r : ModuleRecord) → slice_get ms m.0 ≡ Some r → (o : Option EntityIndex) → export_of r name ≡ o
          → Both (ItemFound ms b k) (option_and_then (entity_of_kind i k) o) (option_and_then (record_item i.0 k) o)
      inner r held None found = neither
      inner r held (Some e) found = entity r held e found (same_kind k (index_kind e)) refl

      by : (o : Option ModuleRecord) → slice_get ms m.0 ≡ o
          → Both (ItemFound ms b k)
          (option_and_then (entity_of_kind i k) (option_and_then (λ (r : ModuleRecord). export_of r name) o))
          (option_and_then (record_item i.0 k) (option_and_then (λ (r : ModuleRecord). export_of r name) o))
      by None held = neither
      by (Some r) held = inner r held (export_of r name) refl

  -- an item of a bag
  bag_export : (k : CoreKind) (x : CoreKind × CoreId) (i : reading.CoreItem) → BagItemStands ms b x i
      → Both (ItemFound ms b k) (known_of_kind k x) (reading_of.bag_item k i)
  bag_export k x i stands = by (same_kind k x.0) (same_kind k i.kind) refl (ap (same_kind k) stands.kind)
    where
      by : (a c : Bool) → same_kind k x.0 ≡ a → c ≡ a
          → Both (ItemFound ms b k) (if a then Some (item.Known x.1) else None) (if c then Some i.value else None)
      by false false is same = neither
      by true true is same =
          both (known_found (subst (λ j. ItemStands ms b j x.1 i.value) (sym (same_kind_is k x.0 is)) stands.item))
      by true false is same = cc
      by false true is same = cc

  -- what an instance of a module of the host has under a name
  host_export : (k : CoreKind) (name : List ℕ) (i : InstanceId) (n : ℕ) (tree : TypeTree) → IsHostInstance b.graph i
      → IsTableTree ms b is_module n tree
      → Both (ItemFound ms b k) (option_and_then (named_of_kind b.table i n k) (export_place b.table n name))
      (option_and_then (host_item i.0 k name) (value_of name (module_exports tree)))
  host_export k name i n tree host tabled =
      let m = module_tree tabled.known tabled.component_instance b.table n tree tabled.there tabled.is in
      subst (λ (o : Option ℕ). Both (ItemFound ms b k) (option_and_then (named_of_kind b.table i n k) o)
      (option_and_then (host_item i.0 k name) (value_of name (module_exports tree))))
      (sym (ap (option_and_then (λ e. place_from 0 name (export_names e))) m.entry))
      (subst (λ (y : TypeTree). Both (ItemFound ms b k)
      (option_and_then (named_of_kind b.table i n k) (place_from 0 name (names_of m.exports)))
      (option_and_then (host_item i.0 k name) (value_of name (module_exports y)))) (sym m.is)
      (by m _ _ (export_found b.table m.exports m.export_trees m.exports_are name 0)))
    where
      there : (e : List ℕ × CoreEntity) (place : ℕ) → module_export b.table n place ≡ Some e → e.0 ≡ name
          → (c : CoreTree) → core_tree b.table e.1 ≡ Some c → (is : Bool) → same_kind k (kind_of e.1) ≡ is
          → Both (ItemFound ms b k) (if is then Some (item.Named i n place) else None)
          (if is then Some (exported i.0 (by_name name)) else None)
      there e place at named c kind false is = neither
      there e place at named c kind true is =
          subst (λ (x : List ℕ). Both (ItemFound ms b k) (Some (item.Named i n place))
          (Some (exported i.0 (by_name x)))) named
          (both (named_found at (sym (same_kind_is k (kind_of e.1) is)) host))

      by : (m : IsModuleTree b.table n tree) (o : Option ℕ) (w : Option CoreTree)
          → ExportFound b.table m.exports name 0 o w
          → Both (ItemFound ms b k) (option_and_then (named_of_kind b.table i n k) o)
          (option_and_then (host_item i.0 k name) w)
      by m o w not_found = neither
      by m o w (found_there {p = p} q {e = e} {c = c} at held named kind) =
          let same : p ≡ q = at ∙ (let none : 0 + q ≡ q = omega arith in none) in
          let export_at : module_export b.table n p ≡ Some e =
          ap (option_and_then (λ x. slice_get (bags.module_exports x) p)) m.entry ∙ ap (slice_get m.exports) same
          ∙ held in
          subst (λ (x : Option (List ℕ × CoreEntity)). Both (ItemFound ms b k)
          (option_and_then (λ (y : List ℕ × CoreEntity).
          if same_kind k (kind_of y.1) then Some (item.Named i n p) else None) x) (host_item i.0 k name c))
          (sym export_at)
          (subst (λ j. Both (ItemFound ms b k)
          (if same_kind k (kind_of e.1) then Some (item.Named i n p) else None)
          (if same_kind k j then Some (exported i.0 (by_name name)) else None)) (sym (kind_kept b.table e.1 c kind))
          (there e p export_at named c kind (same_kind k (kind_of e.1)) refl))

  module _ (table : b.table ≡ t) where
    -- what a core instance has under the number of a name
    export_stands : (k : CoreKind) (number : Atom) (name : List ℕ) → IsNumber b.names.texts number name
        → (x : CoreInstance) (i : reading.CoreInstance) → CoreInstanceStands ms b x i
        → Both (ItemFound ms b k) (export_item t ms k number name x) (core_export ms k name i)
    unfolding core_export
    export_stands k number name named x i (made_stands {i = n} {m = m} {args = args} made) =
        made_export k name n m args made
    export_stands k number name named x i (host_stands {i = n} {entry = entry} {tree = tree} host tabled) =
        subst (λ (u : TypeTable). Both (ItemFound ms b k)
        (option_and_then (named_of_kind u n entry k) (export_place u entry name))
        (option_and_then (host_item n.0 k name) (value_of name (module_exports tree)))) table
        (host_export k name n entry tree host tabled)
    export_stands k number name named x i (bag_stands {xs = xs} {items = items} same) =
        by (numbered_value number xs) (value_of name items) (same number name named)
      where
        by : (o : Option (CoreKind × CoreId)) (w : Option reading.CoreItem) → Both (BagItemStands ms b) o w
            → Both (ItemFound ms b k) (option_and_then (known_of_kind k) o)
            (option_and_then (reading_of.bag_item k) w)
        by None None neither = neither
        by None (Some y) m = elim m [ ]
        by (Some y) None m = elim m [ ]
        by (Some y) (Some z) (both r) = bag_export k y z r

    -- what is looked up after what stands for it
    pub found_in : (k : CoreKind) (number : Atom) (name : List ℕ) → IsNumber b.names.texts number name
        → (o : Option CoreInstance) (w : Option reading.CoreInstance) → Both (CoreInstanceStands ms b) o w
        → Both (ItemFound ms b k) (option_and_then (export_item t ms k number name) o)
        (option_and_then (core_export ms k name) w)
    found_in k number name named None None neither = neither
    found_in k number name named None (Some y) m = elim m [ ]
    found_in k number name named (Some x) None m = elim m [ ]
    found_in k number name named (Some x) (Some y) (both r) = export_stands k number name named x y r

    -- what is given for an import whose names have these numbers
    pub argument_stands : (f : Frame) (s : Scope) → FrameStands ms b f s → (args : List (Atom × ℕ))
        (written : List (List ℕ × ℕ)) → HasNumbers b.names.texts written args
        → (i : List ℕ × List ℕ × CoreEntity) (ns : Atom × Atom) → AreNumbers b.names.texts i ns
        → Both (ItemFound ms b (kind_of i.2)) (argument_item t ms f args ns.0 ns.1 i.1 (kind_of i.2))
        (static_argument ms s written i)
    argument_stands f s stands args written has i ns are =
        by (numbered_value ns.0 args) (value_of i.0 written) (has ns.0 i.0 are.of_module)
      where
        k : CoreKind
        k = kind_of i.2

        by : (o w : Option ℕ) → o ≡ w
            → Both (ItemFound ms b k)
            (option_and_then (λ n. option_and_then (export_item t ms k ns.1 i.1) (slice_get f.core_instances n)) o)
            (option_and_then (λ n. option_and_then (core_export ms k i.1) (slice_get s.core_instances n)) w)
        by None None is = neither
        by None (Some y) is = absurd (none-some y is)
        by (Some y) None is = absurd (none-some y (sym is))
        by (Some y) (Some z) is =
            subst (λ n. Both (ItemFound ms b k)
            (option_and_then (export_item t ms k ns.1 i.1) (slice_get f.core_instances y))
            (option_and_then (core_export ms k i.1) (slice_get s.core_instances n))) (same_Some y z is)
            (found_in k ns.1 i.1 are.of_name _ _
            (zip_at (CoreInstanceStands ms b) f.core_instances s.core_instances y stands.core_instances))

-- what was found is there
pub item_found_there : (ms : List ModuleRecord) (b : Tables) (k : CoreKind) (x : CoreItem) (v : CoreValue Mark)
    → ItemFound ms b k x v → FoundThere ms b x
item_found_there ms b k x v (entity_found is has) = tt
item_found_there ms b k x v (named_found {e = e} at kind host) = (e, at)
item_found_there ms b k x v (known_found stands) =
    (k, record { definition = stands.definition; held = stands.held; usable = stands.usable })

-- answers for a list with one item more
pub answers_push : {X A B : Type 0} (R : A → B → Type 0) (f : X → Option B) (ds : List A) (xs : List X) (x : X) (d : A)
    (v : B) → Both (AllZip R) (Some ds) (map_all f xs) → f x ≡ Some v → R d v
    → Both (AllZip R) (Some (ds ++ d ∷ [])) (map_all f (xs ++ x ∷ []))
answers_push R f ds xs x d v so_far is r =
    let e = both_there (AllZip R) (Some ds) (map_all f xs) ds so_far refl in
    subst (Both (AllZip R) (Some (ds ++ d ∷ []))) (sym (map_all-push f xs e.0 x v e.1 is))
    (both (zip_push R ds e.0 d v e.2 r))

-- the same of lists that are equal to these
pub answers_more : {X A B : Type 0} (R : A → B → Type 0) (f : X → Option B) (ds es : List A) (xs ys : List X) (x : X)
    (d : A) (v : B) → es ≡ ds ++ d ∷ [] → ys ≡ xs ++ x ∷ [] → Both (AllZip R) (Some ds) (map_all f xs) → f x ≡ Some v
    → R d v → Both (AllZip R) (Some es) (map_all f ys)
answers_more R f ds es xs ys x d v grown longer so_far is r =
    subst (λ zs. Both (AllZip R) (Some es) (map_all f zs)) (sym longer)
    (subst (λ zs. Both (AllZip R) (Some zs) (map_all f (xs ++ x ∷ []))) (sym grown)
    (answers_push R f ds xs x d v so_far is r))
