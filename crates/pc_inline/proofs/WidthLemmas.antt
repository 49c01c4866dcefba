-- Whether the memories of adapters have 64 bits: the code's answer is the reading's.
use Rattle.std.proofs.Common.{◌≡◌, ◌<◌, ℕ, Bool, true, false, List, [], ◌∷◌, length, Option, None, Some, refl, sym, ap}
use Rattle.std.proofs.Common.{subst, ◌∙◌, if◌then◌else◌, arith, true≢false}
use Rattle.std.specs.Prelude.{option_and_then, option_map, slice_get, unwrap_or}
use Rattle.std.specs.List.{AllZip, cons_option, filter_map}
use Rattle.std.specs.Str.{bytes_eq}
use Rattle.std.proofs.lemmas.Option.{none-some, same_Some, slice_get-get_or, slice_get_within}
use Rattle.pc_entity.specs.Lists.{map_all, value_of}
use Rattle.pc_entity.proofs.MapAll.{map_all_uncons}
use Rattle.pc_numbers.specs.declared.component_entity.StaticModuleIndex.{StaticModuleIndex}
use Rattle.pc_numbers.specs.declared.entity_index.EntityIndex.TheVariants as entity
use Rattle.pc_numbers.specs.declared.module_entity.MemoryIndex.{MemoryIndex}
use Rattle.pc_numbers.specs.declared.runtime.RuntimeImportIndex.{RuntimeImportIndex}
use Rattle.pc_types.specs.declared.module_record.ModuleRecord.{ModuleRecord}
use Rattle.pc_types.specs.declared.parsed.CoreEntity.{CoreEntity}
use Rattle.pc_types.specs.declared.parsed.CoreEntity.TheVariants as core
use Rattle.pc_types.specs.declared.parsed.DeclType.{DeclType}
use Rattle.pc_types.specs.declared.parsed.DeclType.TheVariants as decl
use Rattle.pc_types.specs.declared.parsed.TypeTable.{TypeTable}
use Rattle.pc_types.specs.Record.{memory_widths, width_in}
use Rattle.pc_types.specs.Table.{is_module, is_some_and}
use Rattle.pc_types.specs.TypeTree.{CoreTree, Identity, Path, TypeTree, core_func, core_tree, module_export_tree}
use Rattle.pc_types.specs.TypeTree.{module_import_tree, module_of, tree_of}
use Rattle.pc_types_lists.specs.Types.{Types}
use Rattle.pc_spec_plan.specs.CoreValue.{CoreValue}
use Rattle.pc_spec_plan.specs.Log.{Entry, Instantiation, NamedArgument, Owned, declared, declared_resource}
use Rattle.pc_spec_plan.specs.Log.{instances_of, instantiated, made, map_entry, map_instantiation, needed, of_host}
use Rattle.pc_spec_plan.specs.Log.{of_static, owned_of, trace}
use Rattle.pc_info.specs.declared.core_def.ExportItem.{ExportItem}
use Rattle.pc_info.specs.declared.core_def.ExportItem.TheVariants as item
use Rattle.pc_info.specs.Definitions.{item_view}
use Rattle.pc_info.specs.Mapped.{map_item}
use Rattle.pc_parsed.specs.Mark.{Mark}
use Rattle.pc_spec_reading.specs.HostTypes.{type_at}
use Rattle.pc_spec_reading.specs.Reading.{Reading}
use Rattle.pc_spec_reading.specs.Types.{has_entry}
use Rattle.pc_spec_reading.specs.Widths.{is_wide_export, is_wide_item, is_wide_tree}
use Rattle.pc_spec_reading.specs.World.{HostImport}
use Rattle.pc_dfg.specs.declared.adapter.DataModel.{DataModel}
use Rattle.pc_dfg.specs.declared.adapter.DataModel.TheVariants as side
use Rattle.pc_dfg.specs.declared.core_def.CoreDef.{CoreDef}
use Rattle.pc_dfg.specs.declared.core_def.CoreExport.{CoreExport}
use Rattle.pc_dfg.specs.declared.dfg.ComponentDfg.{ComponentDfg}
use Rattle.pc_dfg.specs.declared.instance.Instance.{Instance}
use Rattle.pc_dfg.specs.declared.instance.Instance.TheVariants as source
use Rattle.pc_dfg.specs.declared.instance.SideEffect.{SideEffect}
use Rattle.pc_dfg.specs.Effects.{MeansEffect, MeansInstance, means_declared, means_host, means_made, means_static}
use Rattle.pc_dfg.specs.Means.{HasPath}
use Rattle.pc_dfg.specs.Ordered.{made_by, made_in}
use Rattle.pc_inline_state.specs.declared.instance_module.InstanceModule.{InstanceModule}
use Rattle.pc_inline_state.specs.declared.instance_module.InstanceModule.TheVariants as of
use Rattle.pc_inline_state.specs.declared.state.State.{State}
use Rattle.pc_inline_state.specs.Fits.{Fits, path_of}
use Rattle.pc_inline_state.specs.Frames.{Both, both, neither}
use Rattle.pc_inline_state.specs.Holds.{Numbered, number_of, whole_of}
use Rattle.pc_inline_state.specs.Instances.{HasModelWidth, HasWidth, IsMadeOf, is_wide_in, is_wide_named}
use Rattle.pc_inline_state.specs.Instances.{made_of_import, made_of_static}
use Rattle.pc_inline_state.specs.Points.{IsSoundState}
use Rattle.pc_inline_state.specs.Stands.{IsTableTree}
use Rattle.pc_inline_state.specs.Tables.{tables_of}
use Rattle.pc_inline_state.specs.Worlds.{EffectStands, WorldStands}
use Rattle.pc_inline_state.proofs.EntryLemmas.{tree_from}
use Rattle.pc_inline_state.proofs.ZipLemmas.{both_there, zip_at}
use Rattle.pc_inline_exports.proofs.ViewLemmas.{type_given}
use Rattle.pc_inline.specs.Inlines.{last_world}
use Rattle.pc_inline.specs.Widths.{AreWide, IsWideModel, is_wide_memory}

-- what stands place by place gives what stands so
zip_filtered : {A B C D : Type 0} (R : A → B → Type 0) (S : C → D → Type 0) (f : A → Option C) (h : B → Option D)
    → ((x : A) (y : B) → R x y → Both S (f x) (h y)) → (xs : List A) (ys : List B) → AllZip R xs ys
    → AllZip S (filter_map f xs) (filter_map h ys)
zip_filtered R S f h each [] [] all = tt
zip_filtered R S f h each [] (y ∷ ys) all = absurd all
zip_filtered R S f h each (x ∷ xs) [] all = absurd all
zip_filtered {C = C} {D = D} R S f h each (x ∷ xs) (y ∷ ys) all =
    by (f x) (h y) (each x y all.0) (filter_map f xs) (filter_map h ys) (zip_filtered R S f h each xs ys all.1)
  where
    by : (o : Option C) (w : Option D) → Both S o w → (cs : List C) (ds : List D) → AllZip S cs ds
        → AllZip S (cons_option o cs) (cons_option w ds)
    by None None one cs ds rest = rest
    by None (Some d) one cs ds rest = elim one [ ]
    by (Some c) None one cs ds rest = elim one [ ]
    by (Some c) (Some d) (both one) cs ds rest = (one, rest)

-- a trace has all core instances of its log
instances_traced : (log : List (Entry Mark)) → instances_of (trace log) ≡ instances_of log
instances_traced [] = refl
instances_traced (e ∷ log) = by e (instances_traced log)
  where
    by : (x : Entry Mark) → instances_of (trace log) ≡ instances_of log
        → instances_of (trace (x ∷ log)) ≡ instances_of (x ∷ log)
    by (instantiated i c) rest = λ j. record { instantiation = i; component_instance = c } ∷ rest j
    by (declared_resource representation destructor c) rest = rest
    by (declared v) rest = rest
    by (made v) rest = rest
    by (needed path) rest = rest

-- a core instance is made of the module that an instantiation names
data IsInstantiation (g : ComponentDfg) : Instance → Instantiation Mark → Type 0 where
  is_static : {m : StaticModuleIndex} {args : List CoreDef} {vs : List (CoreValue Mark)}
      → IsInstantiation g (source.Static m args) (of_static m.0 vs)
  is_host : {r : RuntimeImportIndex} {args : List (List ℕ × List (List ℕ × CoreDef))} {path : Path}
      {vs : List (NamedArgument Mark)} → HasPath g r.0 path
      → IsInstantiation g (source.Import r args) (of_host path vs)

module _ (types : Types) (g : ComponentDfg) where
  instance_is : (x : Instance) (w : Instantiation (Numbered types (Fits g)))
      → MeansInstance g x (map_instantiation (number_of types (Fits g)) w)
      → IsInstantiation g x (map_instantiation (whole_of types (Fits g)) w)
  instance_is x (of_static n vs) (means_static all) = is_static
  instance_is x (of_host path vs) (means_host has all) = is_host has

  -- so is the core instance of this number
  record IsMade (n : ℕ) (o : Owned Mark) : Type 0 where
    made_instance : Instance
    at : slice_get g.instances n ≡ Some made_instance
    is : IsInstantiation g made_instance o.instantiation

  -- a side effect makes a core instance where the entry that it does makes one
  numbered_makes : (e : SideEffect) (w : Entry (Numbered types (Fits g)))
      → MeansEffect g e (map_entry (number_of types (Fits g)) w)
      → Both IsMade (made_by e) (owned_of (map_entry (whole_of types (Fits g)) w))
  numbered_makes e (instantiated v c) (means_made {x = x} at means) =
      both (record { made_instance = x; at = at; is = instance_is x v means })
  numbered_makes e (declared_resource representation destructor c) (means_declared at means) = neither
  numbered_makes e (declared v) means = elim means [ ]
  numbered_makes e (made v) means = elim means [ ]
  numbered_makes e (needed path) means = elim means [ ]

  effect_makes : (e : SideEffect) (x : Entry Mark) → EffectStands types g e x → Both IsMade (made_by e) (owned_of x)
  effect_makes e x s =
      subst (λ y. Both IsMade (made_by e) (owned_of y)) s.is (numbered_makes e s.numbered s.means)

  -- the core instances of a trace are those that side effects make
  instances_made : (es : List SideEffect) (xs : List (Entry Mark)) → AllZip (EffectStands types g) es xs
      → AllZip IsMade (made_in es) (instances_of xs)
  instances_made = zip_filtered (EffectStands types g) IsMade made_by owned_of effect_makes

-- an entity is a 64-bit memory where its tree is
wide_tree : (t : TypeTable) (e : CoreEntity) (c : CoreTree) → core_tree t e ≡ Some c
    → unwrap_or (width_in e) false ≡ is_wide_tree c
wide_tree t (core.Func s) c is = by (slice_get t.core_funcs s) is
  where
    by : (o : Option _) → option_map core_func o ≡ Some c → false ≡ is_wide_tree c
    by None h = absurd (none-some c h)
    by (Some x) h = ap is_wide_tree (same_Some (core_func x) c h)
wide_tree t core.Table c is = ap is_wide_tree (same_Some _ c is)
wide_tree t (core.Memory wide) c is = ap is_wide_tree (same_Some _ c is)
wide_tree t core.Global c is = ap is_wide_tree (same_Some _ c is)
wide_tree t core.Tag c is = ap is_wide_tree (same_Some _ c is)

-- an export with its tree has the name that it had
export_kept : (t : TypeTable) (e : List ℕ × CoreEntity) (x : List ℕ × CoreTree) → module_export_tree t e ≡ Some x
    → (c : CoreTree) × (core_tree t e.1 ≡ Some c) × (x ≡ (e.0, c))
export_kept t e x is = by (core_tree t e.1) refl is
  where
    by : (o : Option CoreTree) → core_tree t e.1 ≡ o
        → option_map {U = List ℕ × CoreTree} (λ c. (e.0, c)) o ≡ Some x
        → (c : CoreTree) × (core_tree t e.1 ≡ Some c) × (x ≡ (e.0, c))
    by None at h = absurd (none-some x h)
    by (Some c) at h = (c, at, sym (same_Some _ x h))

-- what exports have under a name is a 64-bit memory where their trees have one
wide_named : (t : TypeTable) (name : List ℕ) (exports : List (List ℕ × CoreEntity)) (trees : List (List ℕ × CoreTree))
    → map_all (module_export_tree t) exports ≡ Some trees
    → unwrap_or (option_and_then width_in (value_of name exports)) false
    ≡ unwrap_or (option_map is_wide_tree (value_of name trees)) false
wide_named t name [] trees are =
    ap (λ (xs : List (List ℕ × CoreTree)). unwrap_or (option_map is_wide_tree (value_of name xs)) false)
    (same_Some [] trees are)
wide_named t name (e ∷ es) trees are =
    let parts = map_all_uncons (module_export_tree t) e es trees are in
    let first = export_kept t e parts.0 parts.2 in
    subst (λ (xs : List (List ℕ × CoreTree)).
    unwrap_or (option_and_then width_in (value_of name (e ∷ es))) false
    ≡ unwrap_or (option_map is_wide_tree (value_of name xs)) false)
    (sym (parts.4 ∙ ap (λ x. x ∷ parts.1) first.2))
    (by first.0 first.1 parts.1 (bytes_eq name e.0) (wide_named t name es parts.1 parts.3))
  where
    by : (c : CoreTree) → core_tree t e.1 ≡ Some c → (xs : List (List ℕ × CoreTree)) (b : Bool)
        → unwrap_or (option_and_then width_in (value_of name es)) false
        ≡ unwrap_or (option_map is_wide_tree (value_of name xs)) false
        → unwrap_or (option_and_then width_in (if b then Some e.1 else value_of name es)) false
        ≡ unwrap_or (option_map is_wide_tree (if b then Some c else value_of name xs)) false
    by c tree xs true rest = wide_tree t e.1 c tree
    by c tree xs false rest = rest

-- the tree of a module type is that of its exports
module_shape : (o : Option (List (List ℕ × List ℕ × CoreTree))) (p : Option (List (List ℕ × CoreTree)))
    (tree : TypeTree) → option_and_then (λ i. option_map (module_of i) p) o ≡ Some tree
    → (imports : List (List ℕ × List ℕ × CoreTree)) × (exports : List (List ℕ × CoreTree)) × (p ≡ Some exports)
    × (module_of imports exports ≡ tree)
module_shape None p tree is = absurd (none-some tree is)
module_shape (Some imports) None tree is = absurd (none-some tree is)
module_shape (Some imports) (Some exports) tree is =
    (imports, exports, refl, same_Some (module_of imports exports) tree is)

-- so it is of an entry of the table that is a module type
wide_entry : (t : TypeTable) (known : List (ℕ × Identity)) (c n : ℕ) (tree : TypeTree) → has_entry t is_module n ≡ true
    → tree_of known c t n ≡ Some tree → (name : List ℕ)
    → unwrap_or (option_and_then (is_wide_named name) (slice_get t.types n)) false ≡ is_wide_export name tree
wide_entry t known c n tree there is name = by (slice_get t.types n) refl there
  where
    by : (o : Option DeclType) → slice_get t.types n ≡ o → is_some_and is_module o ≡ true
        → unwrap_or (option_and_then (is_wide_named name) o) false ≡ is_wide_export name tree
    by None at h = absurd (true≢false (sym h))
    by (Some (decl.Module imports exports)) at h =
        let from = tree_from known c t n (decl.Module imports exports) tree at is in
        let shape = module_shape (map_all (module_import_tree t) imports) (map_all (module_export_tree t) exports) tree
        from.1 in
        wide_named t name exports shape.1 shape.2 ∙ ap (is_wide_export name) shape.3
    by (Some e) at h = absurd (true≢false (sym h))

-- of a module that was handed in
static_item : (t : TypeTable) (ms : List ModuleRecord) (imports : List HostImport) (m : StaticModuleIndex)
    (vs : List (CoreValue Mark)) (i : ExportItem MemoryIndex)
    → is_wide_in t ms (of.Static m) i
    ≡ is_wide_item ms imports (of_static m.0 vs) (item_view (map_item entity.Memory i))
static_item t ms imports m vs (item.Index e) = by (slice_get ms m.0)
  where
    by : (o : Option ModuleRecord)
        → unwrap_or (option_and_then (λ (r : ModuleRecord). slice_get (memory_widths r) e.0) o) false
        ≡ unwrap_or (option_map (λ (r : ModuleRecord). unwrap_or (slice_get (memory_widths r) e.0) false) o) false
    by None = refl
    by (Some r) = refl
static_item t ms imports m vs (item.Name name) = refl

-- of a module of the host, which has this tree
host_item : (t : TypeTable) (ms : List ModuleRecord) (imports : List HostImport) (path : Path) (tree : TypeTree)
    → type_at imports path ≡ Some tree → (known : List (ℕ × Identity)) (c n : ℕ) → has_entry t is_module n ≡ true
    → tree_of known c t n ≡ Some tree → (vs : List (NamedArgument Mark)) (i : ExportItem MemoryIndex)
    → is_wide_in t ms (of.Import n) i
    ≡ is_wide_item ms imports (of_host path vs) (item_view (map_item entity.Memory i))
host_item t ms imports path tree given known c n there is vs (item.Index e) = refl
host_item t ms imports path tree given known c n there is vs (item.Name name) =
    wide_entry t known c n tree there is name
    ∙ sym (ap (λ (o : Option TypeTree). unwrap_or (option_map (is_wide_export name) o) false) given)

module _ (t : TypeTable) (ms : List ModuleRecord) (st : State) (r : Reading) (sound : IsSoundState t ms st)
    (world : WorldStands st.types st.graph (last_world r)) where
  -- the tree of an entry, by the table that is given
  here_tabled : (n : ℕ) (tree : TypeTree) → IsTableTree ms (tables_of st) is_module n tree
      → (has_entry t is_module n ≡ true) × (known : List (ℕ × Identity)) × (c : ℕ) × (tree_of known c t n ≡ Some tree)
  here_tabled n tree x = (
    subst (λ (u : TypeTable). has_entry u is_module n ≡ true) sound.table x.there,
    x.known,
    x.component_instance,
    subst (λ (u : TypeTable). tree_of x.known x.component_instance u n ≡ Some tree) sound.table x.is,
  )

  -- an item of a core instance is a 64-bit memory where it is one as the log has it
  same_item : (n : ℕ) (m : InstanceModule) (x : Instance) (v : Instantiation Mark) → IsMadeOf ms (tables_of st) n m
      → slice_get st.graph.instances n ≡ Some x → IsInstantiation st.graph x v → (i : ExportItem MemoryIndex)
      → is_wide_in t ms m i ≡ is_wide_item ms r.imports v (item_view (map_item entity.Memory i))
  same_item n m x v (made_of_static {m = j} {args = xs} is) at (is_static {m = k} {args = ys} {vs = vs}) i =
      let same : source.Static k ys ≡ source.Static j xs = same_Some _ _ (sym at ∙ is) in
      let one : k ≡ j = cc in
      subst (λ (l : StaticModuleIndex). is_wide_in t ms (of.Static j) i
      ≡ is_wide_item ms r.imports (of_static l.0 vs) (item_view (map_item entity.Memory i))) (sym one)
      (static_item t ms r.imports j vs i)
  same_item n m x v (made_of_static {m = j} {args = xs} is) at (is_host {r = q} {args = ys} has) i =
      absurd (let same : source.Import q ys ≡ source.Static j xs = same_Some _ _ (sym at ∙ is) in
      let no : ⊥ = cc in no)
  same_item n m x v (made_of_import {r = p} {args = xs} is given typed tabled) at (is_static {m = k} {args = ys}) i =
      absurd (let same : source.Static k ys ≡ source.Import p xs = same_Some _ _ (sym at ∙ is) in
      let no : ⊥ = cc in no)
  same_item n m x v (made_of_import {r = p} {args = xs} {entry = e} {path = path} {tree = tree} is given typed tabled)
      at (is_host {r = q} {args = ys} {path = other} {vs = vs} has) i =
      let same : source.Import q ys ≡ source.Import p xs = same_Some _ _ (sym at ∙ is) in
      let one : q ≡ p = cc in
      let there = ap (λ (l : RuntimeImportIndex). slice_get st.graph.imports l.0) one in
      let path_is : other ≡ path = ap path_of (same_Some _ _ (sym has ∙ there ∙ given)) in
      let here = here_tabled e tree tabled in
      subst (λ (l : Path). is_wide_in t ms (of.Import e) i
      ≡ is_wide_item ms r.imports (of_host l vs) (item_view (map_item entity.Memory i))) (sym path_is)
      (host_item t ms r.imports path tree (type_given ms st (last_world r) world path tree typed) here.1 here.2 e here.0
      here.3 vs i)

  -- the core instance of a number is the one of that number in the log
  instance_logged : (n : ℕ) → n < length st.graph.instances
      → (o : Owned Mark) × (slice_get (instances_of r.log) n ≡ Some o) × IsMade st.types st.graph n o
  instance_logged n below =
      let ordered = sound.ordered.instances in
      let many = ordered.all in
      let at = slice_get-get_or (made_in st.graph.side_effects) n 0 (omega (arith, below, many)) in
      let zip = zip_at (IsMade st.types st.graph) (made_in st.graph.side_effects) (instances_of (trace r.log)) n
      (instances_made st.types st.graph st.graph.side_effects (trace r.log) world.effects) in
      let there = both_there (IsMade st.types st.graph) (slice_get (made_in st.graph.side_effects) n)
      (slice_get (instances_of (trace r.log)) n) _ zip at in (
        there.0,
        ap (λ (os : List (Owned Mark)). slice_get os n) (sym (instances_traced r.log)) ∙ there.1,
        subst (λ k. IsMade st.types st.graph k there.0) (ordered.each n _ at) there.2,
      )

  -- the flag beside a memory is the reading's
  wide_memory : (x : CoreExport MemoryIndex × Bool) → HasWidth t ms st.runtime_instances.items x
      → x.1 ≡ is_wide_memory ms r x.0
  wide_memory x w =
      let n = x.0.instance.0 in
      let within = slice_get_within st.runtime_instances.items n w.instance_module w.made in
      let many = sound.instances.as_many in
      let there = instance_logged n (omega (arith, within, many)) in
      w.is
      ∙ same_item n w.instance_module there.2.made_instance there.0.instantiation
      (sound.instances.each n w.instance_module w.made) there.2.at there.2.is x.0.item
      ∙ sym (ap (λ (o : Option (Owned Mark)). unwrap_or (option_map (λ (y : Owned Mark).
      is_wide_item ms r.imports y.instantiation (item_view (map_item entity.Memory x.0.item))) o) false) there.1)

  wide_model : (d : DataModel) → HasModelWidth t ms st.runtime_instances.items d → IsWideModel ms r d
  unfolding HasModelWidth IsWideModel
  wide_model side.Gc w = tt
  wide_model (side.LinearMemory None realloc) w = tt
  wide_model (side.LinearMemory (Some x) realloc) w = wide_memory x w

  -- and so are the flags of all adapters
  pub are_wide : AreWide ms r st.graph
  are_wide = record {
    lift = λ n x at. wide_model x.lift_options.data_model (sound.widths.lift n x at);
    lower = λ n x at. wide_model x.lower_options.data_model (sound.widths.lower n x at);
  }
