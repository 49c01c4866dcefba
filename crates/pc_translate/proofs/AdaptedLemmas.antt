-- The modules of adapters of a plan are those of the adapters that the reading makes.
use Rattle.std.proofs.Common.{◌≡◌, ◌+◌, ℕ, zero, suc, All, List, [], ◌∷◌, length, map, None, Some, refl, sym, ap}
use Rattle.std.proofs.Common.{subst, ◌∙◌, arith}
use Rattle.std.specs.Prelude.{slice_get}
use Rattle.std.specs.List.{AllZip}
use Rattle.std.proofs.lemmas.Option.{none-some, same_Some}
use Rattle.pc_entity.proofs.LookupLemmas.{found_at}
use Rattle.pc_numbers.specs.declared.component_entity.StaticModuleIndex.{StaticModuleIndex}
use Rattle.pc_numbers.specs.declared.runtime.ResourceIndex.{ResourceIndex}
use Rattle.pc_types.specs.declared.module_record.ModuleRecord.{ModuleRecord}
use Rattle.pc_types.specs.declared.parsed.TypeTable.{TypeTable}
use Rattle.pc_types.specs.TypeTree.{Identity}
use Rattle.pc_types_lists.specs.Types.{Types}
use Rattle.pc_spec_plan.specs.CoreValue.{CoreValue}
use Rattle.pc_spec_plan.specs.Log.{of_static}
use Rattle.pc_spec_plan.specs.Machine.{RuntimeInstance, State}
use Rattle.pc_trampoline.specs.declared.part.Mark.{Mark}
use Rattle.pc_info.specs.declared.module.ModuleTranslation.{ModuleTranslation}
use Rattle.pc_spec_reading.specs.Reading.{Reading}
use Rattle.pc_spec_adapt.specs.Asked.{function_facts}
use Rattle.pc_spec_adapt.specs.Needs.{Needs, adapters_of}
use Rattle.pc_spec_adapt.specs.Record.{Member}
use Rattle.pc_spec_adapt.specs.Split.{IsFewest}
use Rattle.pc_dfg.specs.declared.adapter.Adapter.{Adapter}
use Rattle.pc_dfg.specs.declared.core_def.CoreDef.{CoreDef}
use Rattle.pc_dfg.specs.declared.core_def.CoreDef.TheVariants as def
use Rattle.pc_dfg.specs.declared.dfg.ComponentDfg.{ComponentDfg}
use Rattle.pc_dfg.specs.declared.ids.AdapterId.{AdapterId}
use Rattle.pc_dfg.specs.Means.{Means}
use Rattle.pc_dfg.specs.Told.{IsTold, Unsaid}
use Rattle.pc_dfg.proofs.KeptLemmas.{means_kept}
use Rattle.pc_dfg.proofs.SameLemmas.{adapter_signed, defs_same}
use Rattle.pc_dfg.proofs.UniqueLemmas.{means_unique}
use Rattle.pc_dfg_finish.specs.Apart.{IsOfAdapters}
use Rattle.pc_adapt.specs.Imports.{is_transparent}
use Rattle.pc_adapt_partition.specs.Adapted.{AreAdapted, AreGivenTo, AreModulesOf, numbers_of, values_for}
use Rattle.pc_adapt_partition.specs.Partitions.{facts_by}
use Rattle.pc_adapt_partition.specs.Wired.{HaveValues}
use Rattle.pc_inline.specs.Inlines.{GraphStands}
use Rattle.pc_inline_canon.proofs.NumberLemmas.{TellsApart}
use Rattle.pc_inline_state.proofs.HoldsLemmas.{reads_fit, so, some_reading}
use Rattle.pc_inline_state.specs.Fits.{Fits}
use Rattle.pc_inline_state.specs.Holds.{Numbered, ReadsAs, number_of, whole_of}
use Rattle.pc_inline_state.specs.Stands.{CoreStands}
use Rattle.pc_translate.specs.Adapted.{Adapts, IsGivenPlanned, NumberedMember, as_handed_in, map_member, whole_adapter}
use Rattle.pc_translate.specs.Adapted.{IsPlanned, with_numbers}
use Rattle.pc_translate.specs.Partitioned.{IsPartitioned}
use Rattle.pc_translate.specs.Transparent.{TellsTransparent}
use Rattle.pc_translate.proofs.FewestLemmas.{fewest_read}
use Rattle.pc_translate.proofs.GroupLemmas.{Regrouped, map_both, regroup}
use Rattle.pc_translate.proofs.MemberLemmas.{AreAdapters, IsMarked, IsSame, Twice, adapter_means, adapter_whole}
use Rattle.pc_translate.proofs.MemberLemmas.{all_adapters}
use Rattle.pc_translate.proofs.MemberLemmas.{in_numbers, in_whole, members, members_planned, members_same}
use Rattle.pc_translate.proofs.MemberLemmas.{members_whole, value_at}
use Rattle.pc_translate.proofs.MemberLemmas.{value_in, wholes_are}
use Rattle.pc_adapt_marks.proofs.NamedLemmas.{behind_map}
use Rattle.pc_translate.proofs.PartitionLemmas.{are_typed, as_read, lift_tree_of, lift_trees, lower_tree_of}
use Rattle.pc_translate.proofs.PartitionLemmas.{lower_trees}
use Rattle.pc_translate.proofs.WidthLemmas.{lift_told, lower_told}

-- what is given to the modules of groups, by their places
given_at : (h : ComponentDfg) (n : ℕ) (groups : List (List (Member Mark)))
    (modules : List (StaticModuleIndex × List CoreDef)) → AreGivenTo h n groups modules → (k : ℕ)
    (m : StaticModuleIndex × List CoreDef) → slice_get modules k ≡ Some m
    → (members : List (Member Mark)) × (slice_get groups k ≡ Some members) × (m.0.0 ≡ n + k)
    × AllZip (Means h) m.1 (values_for members)
given_at h n [] [] given k m at = absurd (none-some m at)
given_at h n [] (x ∷ modules) given k m at = absurd given
given_at h n (members ∷ groups) [] given k m at = absurd given
given_at h n (members ∷ groups) (x ∷ modules) given zero m at =
    let same : x ≡ m = same_Some x m at in
    let here : n ≡ n + 0 = omega arith in (
      members,
      refl,
      subst (λ (y : StaticModuleIndex × List CoreDef). y.0.0 ≡ n + 0) same (given.0 ∙ here),
      subst (λ (y : StaticModuleIndex × List CoreDef). AllZip (Means h) y.1 (values_for members)) same given.1,
    )
given_at h n (members ∷ groups) (x ∷ modules) given (suc k) m at =
    let rest = given_at h (n + 1) groups modules given.2 k m at in
    let next : n + 1 + k ≡ n + suc k = omega arith in
    (rest.0, rest.1, rest.2 ∙ next, rest.3)

-- definitions have one list of values
values_same : (h : ComponentDfg) (ds : List CoreDef) (vs ws : List (CoreValue Mark)) → AllZip (Means h) ds vs
    → AllZip (Means h) ds ws → vs ≡ ws
values_same h [] [] [] a b = refl
values_same h [] [] (w ∷ ws) a b = absurd b
values_same h [] (v ∷ vs) ws a b = absurd a
values_same h (d ∷ ds) [] ws a b = absurd a
values_same h (d ∷ ds) (v ∷ vs) [] a b = absurd b
values_same h (d ∷ ds) (v ∷ vs) (w ∷ ws) a b =
    let first = means_unique h a.0 b.0 in
    let rest = values_same h ds vs ws a.1 b.1 in
    λ i. first i ∷ rest i

module _ (t : TypeTable) (types : Types) (ms : List ModuleRecord) (g h : ComponentDfg) (r : Reading)
    (modules : List ModuleTranslation) (stands : GraphStands t ms types g r) (tells : TellsApart types) (u : Unsaid)
    (marks : TellsTransparent r g)
    (told : IsTold u g) (partitioned : IsPartitioned ms r types g h modules) (last : State Mark)
    (of_adapters : (n : ℕ) (m : RuntimeInstance Mark) → slice_get last.instances n ≡ Some m
    → m.component_instance ≡ None → IsOfAdapters h m.instantiation) where
  abbrev reads : (ResourceIndex → Identity) → Type 0
  reads = ReadsAs r.imported_resources

  -- the adapters that the reading makes, with each type twice
  numbered : (xs : List (Twice types g)) × AreAdapters types g 0 (adapters_of r.log) xs
  numbered = all_adapters types g 0 (adapters_of r.log) (λ k v at.
      let here : k ≡ 0 + k = omega arith in
      subst (λ j. CoreStands types g (def.Adapter (record { 0 = j })) v) here (stands.world.adapters.each k v at))

  module _ (xs : List (Twice types g)) (are : AreAdapters types g 0 (adapters_of r.log) xs) where
    abbrev values : ℕ → CoreValue Mark
    values = value_in types g xs

    -- there are as many as the graph has
    long : length g.adapters ≡ length xs
    long =
        stands.world.adapters.as_many ∙ sym (ap length (wholes_are types g 0 (adapters_of r.log) xs are))
        ∙ length_mapped (in_whole types g) xs
      where
        length_mapped : {A B : Type 0} (f : A → B) (ys : List A) → length (map f ys) ≡ length ys
        length_mapped f [] = refl
        length_mapped f (y ∷ ys) = let rest = length_mapped f ys in omega (arith, rest)

    have_values : HaveValues g values
    have_values a below =
        let found = found_at xs a (omega (arith, below, long)) in
        let here : 0 + a ≡ a = omega arith in
        subst (λ j. Means g (def.Adapter (record { 0 = j })) (values a)) here
        (subst (Means g (def.Adapter (record { 0 = 0 + a }))) (sym (value_at types g xs a found.0 found.1))
        (adapter_means types g 0 (adapters_of r.log) xs are a found.0 found.1))

    -- resource numbers as they are read by the paths of the reading
    fits : Fits g (some_reading r.imported_resources).0
    fits =
        reads_fit g r.imported_resources stands.world.imported_resources (some_reading r.imported_resources).0
        (some_reading r.imported_resources).1

    adapted : AreAdapted (facts_by (lift_trees types g r.log stands.world.adapters))
        (facts_by (lower_trees types g r.log stands.world.adapters)) values g h (map as_handed_in ms) modules
    adapted =
        partitioned.adapted (some_reading r.imported_resources).0 (lift_trees types g r.log stands.world.adapters)
        (lower_trees types g r.log stands.world.adapters) values
        (are_typed types g r.log stands.world.adapters (some_reading r.imported_resources).0 fits) have_values

    abbrev as_reading : Numbered types (Fits g) → Numbered types reads
    as_reading = so types (Fits g) reads (reads_fit g r.imported_resources stands.world.imported_resources)

    abbrev all : List (NumberedMember types ms r)
    all = members types ms g r as_reading (λ m. refl) (λ m. refl) (is_transparent g) 0 xs

    -- each adapter of the graph is the reading's
    same_adapter : (k : ℕ) (a : Adapter) (x : Twice types g) → slice_get g.adapters k ≡ Some a
        → slice_get xs k ≡ Some x
        → IsSame types ms g r as_reading (λ m. refl) (λ m. refl) (is_transparent g)
        (facts_by (lift_trees types g r.log stands.world.adapters))
        (facts_by (lower_trees types g r.log stands.world.adapters)) values (0 + k) a x
    same_adapter k a x at_a at_x =
        let here : k ≡ 0 + k = omega arith in
        let whole = adapter_whole types g 0 (adapters_of r.log) xs are k x at_x in
        let is = as_read types g r.log stands.world.adapters k a (in_whole types g x) at_a whole in
        let zero_k : 0 + k ≡ k = omega arith in
        let means = subst (λ j. Means g (def.Adapter (record { 0 = j })) (in_numbers types g x)) zero_k
        (adapter_means types g 0 (adapters_of r.log) xs are k x at_x) in
        subst (λ j. IsSame types ms g r as_reading (λ m. refl) (λ m. refl) (is_transparent g)
        (facts_by (lift_trees types g r.log stands.world.adapters))
        (facts_by (lower_trees types g r.log stands.world.adapters)) values j a x) here
        (record {
          value = value_at types g xs k x at_x;
          lift_same = ap (λ o. function_facts (lift_tree_of types g r.log stands.world.adapters o)) whole ∙ is.lift_is;
          lower_same = ap (λ o. function_facts (lower_tree_of types g r.log stands.world.adapters o)) whole
              ∙ is.lower_is;
          lift_wide = lift_told ms r g (number_of types (Fits g))
              (whole_of types (Fits g)) stands.widths k a at_a x means;
          lower_wide =
              lower_told ms r g (number_of types (Fits g)) (whole_of types (Fits g)) stands.widths k a at_a x means;
        })

    -- each is told transparent exactly where it is
    marked : (k : ℕ) (x : Twice types g) → slice_get xs k ≡ Some x
        → IsMarked types ms g r as_reading (λ m. refl) (λ m. refl) (is_transparent g) (0 + k) x
    unfolding TellsTransparent
    marked k x at =
        let here : k ≡ 0 + k = omega arith in
        subst (λ j. IsMarked types ms g r as_reading (λ m. refl) (λ m. refl) (is_transparent g) j x) here
        (marks k (in_whole types g x) (adapter_whole types g 0 (adapters_of r.log) xs are k x at))

    -- so the members of the graph's modules are these
    regrouped : Regrouped (map_member (number_of types reads)) adapted.groups all
    regrouped =
        regroup (map_member (number_of types reads)) adapted.groups all
        (adapted.all ∙ members_same types ms g r as_reading (λ m. refl) (λ m. refl) (is_transparent g)
        (facts_by (lift_trees types g r.log stands.world.adapters))
        (facts_by (lower_trees types g r.log stands.world.adapters)) values 0 g.adapters xs long same_adapter)

    -- what means one adapter is one
    one_adapter : (a b : AdapterId) (v : CoreValue Mark) → Means g (def.Adapter a) v → Means g (def.Adapter b) v → a ≡ b
    one_adapter a b v first second =
        let grows = partitioned.keeps.grows in
        let one = defs_same h u partitioned.interned (partitioned.told u told) (adapter_signed u a) (adapter_signed u b)
        refl (means_kept g h grows first) (means_kept g h grows second) in
        cc

    given_planned : (n : ℕ) (m : RuntimeInstance Mark) → slice_get last.instances n ≡ Some m
        → m.component_instance ≡ None → IsGivenPlanned types ms r regrouped.groups m.instantiation
    given_planned n m at none =
        let o = of_adapters n m at none in
        let given = given_at h (length (map as_handed_in ms)) adapted.groups h.adapter_modules adapted.given o.place
        o.adapters o.at in
        let found = behind_map (map (map_member (number_of types reads))) regrouped.groups o.place given.0
        (ap (λ gs. slice_get gs o.place) regrouped.are ∙ given.1) in
        let long = length_handed_in ms in
        let number : o.adapters.0.0 ≡ length ms + o.place = given.2 ∙ ap (λ k. k + o.place) long in
        let values = values_same h o.adapters.1 o.values (values_for given.0) o.means given.3
        ∙ ap values_for (sym found.2) in
        (o.place, found.0, found.1, o.is ∙ (λ i. of_static (number i) (values i)))
      where
        length_handed_in : (xs : List ModuleRecord) → length (map as_handed_in xs) ≡ length xs
        length_handed_in [] = refl
        length_handed_in (x ∷ xs) = let rest = length_handed_in xs in omega (arith, rest)

    adapts_as : Adapts types ms r modules last
    adapts_as =
        let flat = regrouped.all in
        record {
          groups = regrouped.groups;
          adapters = ap (map (whole_adapter types ms r)) flat
              ∙ members_whole types ms g r as_reading (λ m. refl) (λ m. refl) (is_transparent g) 0 xs
              ∙ wholes_are types g 0 (adapters_of r.log) xs are;
          fewest = subst (IsFewest (Needs r.log) (length (adapters_of r.log)))
              (ap (map numbers_of) (sym regrouped.are)
              ∙ map_both (with_numbers types ms r) numbers_of regrouped.groups)
              (fewest_read types g r tells stands.world.resources_apart stands.world.imported_resources
              stands.world.effects xs are stands.world.adapters.as_many one_adapter (map numbers_of adapted.groups)
              adapted.fewest);
          planned = subst (All (IsPlanned types ms r)) (sym flat)
              (members_planned types ms g r as_reading (λ m. refl) (λ m. refl) (is_transparent g) 0 xs marked);
          added = adapted.added;
          modules_are = adapted.modules;
          are = subst (λ n. AreModulesOf n (map (with_numbers types ms r) regrouped.groups) adapted.added)
              (length_records ms)
              (subst (λ gs. AreModulesOf (length (map as_handed_in ms)) gs adapted.added) (sym regrouped.are)
              adapted.are);
          given = given_planned;
        }
      where
        length_records : (ys : List ModuleRecord) → length (map as_handed_in ys) ≡ length ys
        length_records [] = refl
        length_records (y ∷ ys) = let rest = length_records ys in omega (arith, rest)

  -- the modules of the plan are those of the reading's adapters
  pub adapts : Adapts types ms r modules last
  adapts = let n = numbered in adapts_as n.0 n.1
