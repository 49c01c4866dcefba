-- Two function imports have one key exactly where they are given functions of one home.
use Rattle.std.proofs.Common.{◌≡◌, ◌≢◌, ◌+◌, ◌↔◌, inl, inr, ℕ, List, length, map, Option, None, Some, refl, sym}
use Rattle.std.proofs.Common.{ap, ◌∙◌, arith}
use Rattle.std.specs.Prelude.{option_map, slice_get, unwrap_or}
use Rattle.std.proofs.lemmas.Option.{none-some, same_Some, slice_get-map, slice_get_within}
use Rattle.pc_entity.proofs.LookupLemmas.{found_at}
use Rattle.pc_types.specs.declared.module_record.ModuleRecord.{ModuleRecord}
use Rattle.pc_types.specs.declared.parsed.CoreKind.TheVariants as kind
use Rattle.pc_types.specs.ByKind.{of_kind}
use Rattle.pc_types.specs.Record.{entity_at}
use Rattle.pc_spec_wiring.specs.Origin.{Given}
use Rattle.pc_spec_wiring.specs.Sharing.{HasHome, Home, core_instance, home_of}
use Rattle.pc_partition.specs.Least.{Share}
use Rattle.pc_partition.specs.declared.vmctx_key.VmctxKey.TheVariants as key
use Rattle.pc_dfg.specs.declared.dfg.ComponentDfg.{ComponentDfg}
use Rattle.pc_analysis_contexts.specs.declared.import_index.ImportIndex.{ImportIndex}
use Rattle.pc_analysis_contexts.specs.Cores.{GraphEnd, graph_cores, graph_home}
use Rattle.pc_analysis_contexts.specs.Homes.{HasKey, IsThere, TakeAll, home_for}
use Rattle.pc_analysis_contexts.specs.Indexed.{IsIndex}
use Rattle.pc_analysis_contexts.specs.Keys.{ContextKey, key_at}
use Rattle.pc_analysis_contexts.specs.Shared.{function_keys}
use Rattle.pc_analysis_contexts.proofs.IndexLemmas.{place_is}
use Rattle.pc_analysis_contexts.proofs.OriginLemmas.{one_from}

same_instance : {a b : ℕ} → core_instance a ≡ core_instance b → a ≡ b
same_instance e = cc

-- one home has one key
same_key : (g : ComponentDfg) (k l : ContextKey) → IsThere g k → IsThere g l → home_for g k ≡ home_for g l → k ≡ l
same_key g key.Component key.Component a b e = refl
same_key g key.Component (key.CoreInstance i) a b e = cc
same_key g key.Component (key.AdapterModule m) a b e = cc
same_key g (key.CoreInstance i) key.Component a b e = cc
same_key g (key.CoreInstance i) (key.CoreInstance j) a b e =
    let same : i.0 ≡ j.0 = same_instance e in
    ap (λ n. key.CoreInstance (record { 0 = n })) same
same_key g (key.CoreInstance i) (key.AdapterModule m) a b e =
    let same : i.0 ≡ length g.instances + m.0 = same_instance e in
    absurd (omega (arith, a, same))
same_key g (key.AdapterModule m) key.Component a b e = cc
same_key g (key.AdapterModule m) (key.CoreInstance i) a b e =
    let same : length g.instances + m.0 ≡ i.0 = same_instance e in
    absurd (omega (arith, b, same))
same_key g (key.AdapterModule m) (key.AdapterModule n) a b e =
    let same : length g.instances + m.0 ≡ length g.instances + n.0 = same_instance e in
    let number : m.0 ≡ n.0 = omega (arith, same) in
    ap (λ n. key.AdapterModule (record { 0 = n })) number

-- what a function makes of an item that is found was made of one
mapped_from : {A B : Type 0} (f : A → B) (xs : List A) (i : ℕ) (y : B) → slice_get (map f xs) i ≡ Some y
    → (x : A) × (slice_get xs i ≡ Some x) × (f x ≡ y)
mapped_from {A} {B} f xs i y at = by (slice_get xs i) refl
  where
    by : (o : Option A) → slice_get xs i ≡ o → (x : A) × (slice_get xs i ≡ Some x) × (f x ≡ y)
    by None is = absurd (none-some y (sym (slice_get-map f xs i ∙ ap (option_map f) is) ∙ at))
    by (Some x) is = (x, is, same_Some _ _ (sym (slice_get-map f xs i ∙ ap (option_map f) is) ∙ at))

-- a key at a place is an entry there
entry_at : (keys : List (Option ContextKey)) (place : ℕ) (k : ContextKey) → key_at keys place ≡ Some k
    → slice_get keys place ≡ Some (Some k)
entry_at keys place k at = by (slice_get keys place) refl
  where
    by : (o : Option (Option ContextKey)) → slice_get keys place ≡ o → slice_get keys place ≡ Some (Some k)
    by None is = absurd (none-some k (sym (ap (λ (x : Option (Option ContextKey)). unwrap_or x None) is) ∙ at))
    by (Some x) is =
        is ∙ ap Some (sym (ap (λ (y : Option (Option ContextKey)). unwrap_or y None) is) ∙ at)

module _ (g : ComponentDfg) (records : List ModuleRecord) (r : ModuleRecord) (given : List (Given GraphEnd))
    (keys : List (Option ContextKey)) (s : ImportIndex) (take : TakeAll g records given keys) (index : IsIndex r s)
  where
    -- a function import of this key is given a function of its home
    key_home : (f : ℕ) (k : ContextKey) → slice_get (function_keys s keys) f ≡ Some (Some k)
        → HasHome graph_home (graph_cores g records) r given f (home_for g k)
    key_home f k at =
        let place = mapped_from (key_at keys) (of_kind s.places kind.Func) f (Some k) at in
        let entry = entry_at keys place.0 k place.2 in
        let what = found_at given place.0 (omega (arith, take.size, slice_get_within keys place.0 (Some k) entry)) in
        let has : HasKey g records what.0 k = take.each place.0 what.0 (Some k) what.1 entry in
        record {
          place = place.0;
          what = what.0;
          origin = has.origin;
          imports = sym (place_is r s index (entity_at kind.Func f)) ∙ place.1;
          gets = what.1;
          from = has.from;
          home = has.home;
        }

    -- one that is given a function of some home has its key
    home_key : (f : ℕ) (x : Home) → HasHome graph_home (graph_cores g records) r given f x
        → (k : ContextKey) × (slice_get (function_keys s keys) f ≡ Some (Some k)) × (home_for g k ≡ x) × IsThere g k
    home_key f x h =
        let entry = found_at keys h.place (omega (arith, take.size, slice_get_within given h.place h.what h.gets)) in
        by entry.0 entry.1
      where
        by : (o : Option ContextKey) → slice_get keys h.place ≡ Some o
            → (k : ContextKey) × (slice_get (function_keys s keys) f ≡ Some (Some k)) × (home_for g k ≡ x) × IsThere g k
        by None is = absurd (none-some x (sym (take.each h.place h.what None h.gets is h.origin h.from) ∙ h.home))
        by (Some k) is =
            let has : HasKey g records h.what k = take.each h.place h.what (Some k) h.gets is in
            let place : slice_get (of_kind s.places kind.Func) f ≡ Some h.place =
            place_is r s index (entity_at kind.Func f) ∙ h.imports in
            let same : has.origin ≡ h.origin = one_from (graph_cores g records) has.from h.from in (
              k,
              slice_get-map (key_at keys) (of_kind s.places kind.Func) f ∙ ap (option_map (key_at keys)) place
                  ∙ ap (λ (y : Option (Option ContextKey)). Some (unwrap_or y None)) is,
              same_Some _ _ (sym has.home ∙ ap (home_of graph_home) same ∙ h.home),
              has.there,
            )

    -- two of them have one key exactly where both are given functions of one home
    pub shares : (f h : ℕ) → f ≢ h → Share (function_keys s keys) f h
        ↔ ((x : Home) × HasHome graph_home (graph_cores g records) r given f x
        × HasHome graph_home (graph_cores g records) r given h x)
    shares f h apart = (there, back)
      where
        there : Share (function_keys s keys) f h → (x : Home) × HasHome graph_home (graph_cores g records) r given f x
            × HasHome graph_home (graph_cores g records) r given h x
        there (inl same) = absurd (apart same)
        there (inr (k, one, other)) = (home_for g k, key_home f k one, key_home h k other)

        back : ((x : Home) × HasHome graph_home (graph_cores g records) r given f x
            × HasHome graph_home (graph_cores g records) r given h x) → Share (function_keys s keys) f h
        back (x, one, other) =
            let a = home_key f x one in
            let b = home_key h x other in
            let same : b.0 ≡ a.0 = same_key g b.0 a.0 b.3 a.3 (b.2 ∙ sym a.2) in
            inr (a.0, a.1, b.1 ∙ ap (λ k. Some (Some k)) same)
