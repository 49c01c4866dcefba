-- The fewest groups of a graph's adapters are the fewest groups of the adapters that the reading makes.
use Rattle.std.proofs.Common.{◌≡◌, ◌+◌, ℕ, true, List, [], ◌∷◌, ◌++◌, length, map, refl, sym, ap, subst, ◌∙◌, arith}
use Rattle.std.proofs.Common.{true≢false}
use Rattle.std.specs.Prelude.{slice_get}
use Rattle.std.specs.List.{AllZip}
use Rattle.std.proofs.lemmas.List.{append-nil}
use Rattle.std.proofs.lemmas.List.Elements.{filter-append, filter_map-append}
use Rattle.pc_entity.specs.Lists.{AreDistinct}
use Rattle.pc_numbers.specs.declared.runtime.RuntimeImportIndex.{RuntimeImportIndex}
use Rattle.pc_types_lists.specs.Types.{Types}
use Rattle.pc_spec_plan.specs.CoreValue.{CoreValue}
use Rattle.pc_spec_plan.specs.Log.{Entry, declared, declared_resource, instantiated, is_effect, made, map_entry, needed}
use Rattle.pc_spec_plan.specs.Log.{trace}
use Rattle.pc_trampoline.specs.declared.part.Mark.{Mark}
use Rattle.pc_parsed.specs.Mark as reading
use Rattle.pc_spec_reading.specs.Reading.{Reading}
use Rattle.pc_spec_adapt.specs.Needs.{Needs, adapters_of, made_adapter}
use Rattle.pc_spec_adapt.specs.Split.{IsFewest}
use Rattle.pc_dfg.specs.declared.core_def.CoreDef.TheVariants as def
use Rattle.pc_dfg.specs.declared.dfg.ComponentDfg.{ComponentDfg}
use Rattle.pc_dfg.specs.declared.ids.AdapterId.{AdapterId}
use Rattle.pc_dfg.specs.declared.instance.SideEffect.{SideEffect}
use Rattle.pc_dfg.specs.Effects.{EffectsMean, MeansEffect, means_declared, means_made}
use Rattle.pc_dfg.specs.Means.{HasPath, Means}
use Rattle.pc_adapt_groups.specs.Needs as graph
use Rattle.pc_adapt_names.specs.Made.{HasMade}
use Rattle.pc_adapt_names.proofs.NeedsLemmas.{fewest_alike, fewest_of_log}
use Rattle.pc_inline_canon.proofs.NumberLemmas.{TellsApart, one_numbered_value, one_whole_value}
use Rattle.pc_inline_state.specs.Fits.{Fits}
use Rattle.pc_inline_state.specs.Holds.{Numbered, number_of, whole_of}
use Rattle.pc_inline_state.specs.Worlds.{EffectStands}
use Rattle.pc_translate.proofs.MarkLemmas.{Entries, all_entries}
use Rattle.pc_translate.proofs.MemberLemmas.{AreAdapters, Twice, adapter_means, in_numbers, in_whole, wholes_are}
use Rattle.pc_adapt_marks.proofs.NamedLemmas.{behind_map, needs_carried}

-- what a side effect does is an effect
effect_meant : (g : ComponentDfg) {s : SideEffect} {x : Entry Mark} → MeansEffect g s x → is_effect x ≡ true
effect_meant g (means_made at means) = refl
effect_meant g (means_declared at means) = refl

module _ {τ : Type 0} (f : τ → Mark) where
  effect_mapped : (e : Entry τ) → is_effect (map_entry f e) ≡ is_effect e
  effect_mapped (instantiated i c) = refl
  effect_mapped (declared_resource representation destructor c) = refl
  effect_mapped (declared v) = refl
  effect_mapped (made v) = refl
  effect_mapped (needed path) = refl

  module _ (g : ComponentDfg) where
    -- entries that side effects do are a trace, and none of them makes an adapter
    all_effects : (es : List SideEffect) (xs : List (Entry τ)) → AllZip (MeansEffect g) es (map (map_entry f) xs)
        → (trace (map (map_entry f) xs) ≡ map (map_entry f) xs) × (adapters_of (map (map_entry f) xs) ≡ [])
    all_effects es [] zip = (refl, refl)
    all_effects [] (x ∷ xs) zip = absurd zip
    all_effects (e ∷ es) (x ∷ xs) zip =
        by x (sym (effect_mapped x) ∙ effect_meant g zip.0) (all_effects es xs zip.1)
      where
        by : (y : Entry τ) → is_effect y ≡ true
            → (trace (map (map_entry f) xs) ≡ map (map_entry f) xs) × (adapters_of (map (map_entry f) xs) ≡ [])
            → (trace (map (map_entry f) (y ∷ xs)) ≡ map (map_entry f) (y ∷ xs))
            × (adapters_of (map (map_entry f) (y ∷ xs)) ≡ [])
        by (instantiated i c) is rest = (ap (λ es. map_entry f (instantiated i c) ∷ es) rest.0, rest.1)
        by (declared_resource representation destructor c) is rest =
            (ap (λ es. map_entry f (declared_resource representation destructor c) ∷ es) rest.0, rest.1)
        by (declared v) is rest = absurd (true≢false (sym is))
        by (made v) is rest = absurd (true≢false (sym is))
        by (needed path) is rest = absurd (true≢false (sym is))

-- adapters that are made are no effects, and are the adapters of their entries
made_only : {τ : Type 0} (vs : List (CoreValue τ)) → (trace (map made vs) ≡ []) × (adapters_of (map made vs) ≡ vs)
made_only [] = (refl, refl)
made_only (v ∷ vs) = let rest = made_only vs in (rest.0, ap (λ ws. v ∷ ws) rest.1)

length_mapped : {A B : Type 0} (f : A → B) (xs : List A) → length (map f xs) ≡ length xs
length_mapped f [] = refl
length_mapped f (x ∷ xs) = let rest = length_mapped f xs in omega (arith, rest)

module _ (types : Types) (g : ComponentDfg) (r : Reading) (tells : TellsApart types)
    (apart : AreDistinct r.imported_resources)
    (at_paths : AllZip (λ (x : RuntimeImportIndex). HasPath g x.0) g.imported_resources r.imported_resources)
    (effects : AllZip (EffectStands types g) g.side_effects (trace r.log)) (xs : List (Twice types g))
    (are : AreAdapters types g 0 (adapters_of r.log) xs) (as_many : length g.adapters ≡ length (adapters_of r.log))
    (one : (a b : AdapterId) (v : CoreValue Mark) → Means g (def.Adapter a) v → Means g (def.Adapter b) v → a ≡ b)
  where
    abbrev numbers : Numbered types (Fits g) → Mark
    numbers = number_of types (Fits g)

    abbrev wholes : Numbered types (Fits g) → reading.Mark
    wholes = whole_of types (Fits g)

    -- what the side effects do, with each type twice
    abbrev entries : Entries types g g.side_effects (trace r.log)
    entries = all_entries types g g.side_effects (trace r.log) effects

    -- a log with numbers that does the same: its adapters come last, which makes no difference to what they need
    abbrev numbered : List (Entry Mark)
    numbered = map (map_entry numbers) entries.entries ++ map made (map (in_numbers types g) xs)

    parts : (trace (map (map_entry numbers) entries.entries) ≡ map (map_entry numbers) entries.entries)
        × (adapters_of (map (map_entry numbers) entries.entries) ≡ [])
    parts = all_effects numbers g g.side_effects entries.entries entries.mean

    trace_is : trace numbered ≡ map (map_entry numbers) entries.entries
    trace_is =
        let ends = made_only (map (in_numbers types g) xs) in
        let first = parts.0 in
        let second = ends.0 in
        filter-append is_effect (map (map_entry numbers) entries.entries) (map made (map (in_numbers types g) xs))
        ∙ (λ i. first i ++ second i) ∙ append-nil (map (map_entry numbers) entries.entries)

    adapters_are : adapters_of numbered ≡ map (in_numbers types g) xs
    adapters_are =
        let ends = made_only (map (in_numbers types g) xs) in
        let first = parts.1 in
        let second = ends.1 in
        filter_map-append made_adapter (map (map_entry numbers) entries.entries) (map made (map (in_numbers types g) xs))
        ∙ (λ i. first i ++ second i)

    wholes_here : adapters_of r.log ≡ map (in_whole types g) xs
    wholes_here = sym (wholes_are types g 0 (adapters_of r.log) xs are)

    many : length g.adapters ≡ length (adapters_of numbered)
    many =
        as_many ∙ ap length wholes_here ∙ length_mapped (in_whole types g) xs
        ∙ sym (length_mapped (in_numbers types g) xs) ∙ sym (ap length adapters_are)

    effects_mean : EffectsMean g (trace numbered)
    unfolding EffectsMean
    effects_mean = subst (λ t. AllZip (MeansEffect g) g.side_effects t) (sym trace_is) entries.mean

    has_made : HasMade g numbered
    has_made = record {
      many = many;
      values = λ k v at.
          let found = behind_map (in_numbers types g) xs k v (ap (λ vs. slice_get vs k) (sym adapters_are) ∙ at) in
          let here : 0 + k ≡ k = omega arith in
          subst (λ j. Means g (def.Adapter (record { 0 = j })) v) here
          (subst (Means g (def.Adapter (record { 0 = 0 + k }))) found.2
          (adapter_means types g 0 (adapters_of r.log) xs are k found.0 found.1));
      effects = effects_mean;
      one = one;
    }

    there : (a b : ℕ) → Needs numbered a b → Needs r.log a b
    there =
        needs_carried numbers wholes (one_whole_value types tells g r.imported_resources apart at_paths) xs entries.entries
        numbered r.log adapters_are wholes_here trace_is (sym entries.are)

    back : (a b : ℕ) → Needs r.log a b → Needs numbered a b
    back =
        needs_carried wholes numbers (one_numbered_value types tells g r.imported_resources apart at_paths) xs
        entries.entries r.log numbered wholes_here adapters_are (sym entries.are) trace_is

    -- the fewest groups of the graph are the fewest of the reading
    pub fewest_read : (runs : List (List ℕ)) → IsFewest (graph.Needs g) (length g.adapters) runs
        → IsFewest (Needs r.log) (length (adapters_of r.log)) runs
    fewest_read runs least =
        subst (λ n. IsFewest (Needs r.log) n runs) (sym many ∙ as_many)
        (fewest_alike (Needs numbered) (Needs r.log) (length (adapters_of numbered)) runs there back
        (fewest_of_log g numbered has_made runs least))
