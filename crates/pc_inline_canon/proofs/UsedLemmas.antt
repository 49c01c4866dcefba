-- A host item that is used: the first time it gets a number, and later it has it.
use Rattle.std.proofs.Common.{◌≡◌, ◌≢◌, ◌⊎◌, ◌<◌, ◌≤◌, ◌+◌, ◌||◌, inl, inr, ℕ, zero, suc, Bool, true, false, List, []}
use Rattle.std.proofs.Common.{◌∷◌, ◌++◌, length, map, Option, None, Some, refl, sym, ap, subst, ◌∙◌, arith}
use Rattle.std.specs.Prelude.{Contains, slice_get, slice_set}
use Rattle.std.specs.List.{AllZip, list_any}
use Rattle.std.proofs.lemmas.Bool.Decides.{eqb_tells}
use Rattle.std.proofs.lemmas.List.{append-nil, map_push}
use Rattle.std.proofs.lemmas.List.Elements.{filter_map-append}
use Rattle.std.proofs.lemmas.List.Folds.{list_any-append}
use Rattle.std.proofs.lemmas.Option.{none-some, same_Some}
use Rattle.pc_entity.proofs.Growing.{slice_get-append, slice_get-append_seam, slice_get-set_other, slice_get-set_same}
use Rattle.pc_types_lists.specs.Types.{Types}
use Rattle.pc_types_lists.proofs.Growth.{contains_at}
use Rattle.pc_numbers.specs.declared.runtime.ImportIndex.{ImportIndex}
use Rattle.pc_numbers.specs.declared.runtime.RuntimeImportIndex.{RuntimeImportIndex}
use Rattle.pc_types.specs.TypeTree.{Path}
use Rattle.pc_spec_plan.specs.Log.{instances_of, needed, owned_of, trace}
use Rattle.pc_spec_reading.specs.Asked.{with_path}
use Rattle.pc_spec_reading.specs.SameTypes.{same_path}
use Rattle.pc_spec_reading.specs.World.{World, logging}
use Rattle.pc_spec_reading.proofs.SameTypeLemmas.{path_exact, path_itself}
use Rattle.pc_dfg.specs.declared.dfg.ComponentDfg.{ComponentDfg}
use Rattle.pc_dfg.specs.Grows as graph
use Rattle.pc_dfg.specs.Means.{HasPath}
use Rattle.pc_inline_state.specs.Fits.{FitsBefore, path_of}
use Rattle.pc_inline_state.specs.Worlds.{AreUsed, EffectStands, WorldStands}
use Rattle.pc_inline_canon.proofs.CoreInstanceLemmas.{found_in_push}
use Rattle.pc_inline_canon.proofs.LogLemmas.{declared_on, none_more, paths-push, trace-push, world_on}
use Rattle.pc_inline_state.proofs.StateLemmas.{types_refl}
use Rattle.pc_inline_canon.proofs.WorldLemmas.{effect_still}
use Rattle.pc_inline_state.proofs.ZipLemmas.{zip_more}

-- two paths that aren't one aren't the same
pub path_other : (p q : Path) → (p ≡ q → ⊥) → same_path p q ≡ false
path_other p q other = by (same_path p q) refl
  where
    by : (b : Bool) → same_path p q ≡ b → b ≡ false
    by true is = absurd (other (path_exact p q is))
    by false is = refl

-- a path that has a number is that of one of the host items that are used
known_path : (is : List (ImportIndex × List (List ℕ))) (r : ℕ) (p : Path)
    → slice_get is r ≡ Some (record { 0 = p.import }, p.names) → list_any (same_path p) (map path_of is) ≡ true
known_path [] r p at = absurd (none-some _ at)
known_path (x ∷ is) zero p at =
    let same = same_Some x (record { 0 = p.import }, p.names) at in
    rw (ap (λ y. same_path p (path_of y)) same ∙ path_itself p) refl
known_path (x ∷ is) (suc r) p at =
    rw (known_path is r p at) (by (same_path p (path_of x)))
  where
    by : (b : Bool) → (b || true) ≡ true
    by true = refl
    by false = refl

-- the graph so far does what the log says with one path more, once the path is one of its host items
pub needed_world : (types : Types) (g h : ComponentDfg) → graph.Grows g h → FitsBefore g h → (p : Path)
    → h.side_effects ≡ g.side_effects → h.instances ≡ g.instances → h.trampolines ≡ g.trampolines
    → h.adapters ≡ g.adapters → h.imported_resources ≡ g.imported_resources → h.resources ≡ g.resources
    → h.import_types ≡ g.import_types → h.num_runtime_component_instances ≡ g.num_runtime_component_instances
    → h.unsafe_intrinsics ≡ g.unsafe_intrinsics
    → map path_of h.imports ≡ with_path (map path_of g.imports) p → (w : World) → WorldStands types g w
    → WorldStands types h (logging w (needed p))
needed_world types g h grows fits p effects instances trampolines adapters imported resources import_types begun intrinsics
    paths w s =
    world_on types g h grows fits w (needed p) s
    (subst (λ es. AllZip (EffectStands types h) es (trace (w.log ++ needed p ∷ []))) (sym effects)
    (subst (AllZip (EffectStands types h) g.side_effects) (sym (trace-push w.log (needed p) ∙ append-nil (trace w.log)))
    (zip_more (EffectStands types g) (EffectStands types h) (effect_still types types g h (types_refl types) grows fits)
    g.side_effects (trace w.log) s.effects)))
    (ap length (filter_map-append owned_of w.log (needed p ∷ []) ∙ append-nil (instances_of w.log)) ∙ s.order
    ∙ ap length (sym instances))
    (λ k x at. declared_on types g h grows fits w (needed p) s k x
    (subst (λ ts. slice_get ts k ≡ Some x) trampolines at))
    (λ v is. absurd (let k : ⊥ = cc in k))
    (few (ap length trampolines))
    (paths ∙ ap (λ ps. with_path ps p) s.imports ∙ sym (paths-push w.log (needed p))) imported
    (none_more (ap length resources)) import_types begun intrinsics refl adapters
  where
    few : {a b : ℕ} → a ≡ b → a ≤ b + 0
    few is = omega (arith, is)

-- a path that is that of one of the host items adds none
pub path_known : (is : List (ImportIndex × List (List ℕ))) (r : ℕ) (p : Path)
    → slice_get is r ≡ Some (record { 0 = p.import }, p.names) → map path_of is ≡ with_path (map path_of is) p
path_known is r p at = rw (known_path is r p at) refl

-- one that isn't goes last
pub path_new : (is : List (ImportIndex × List (List ℕ))) (i : ImportIndex × List (List ℕ))
    → list_any (same_path (path_of i)) (map path_of is) ≡ false
    → map path_of (is ++ i ∷ []) ≡ with_path (map path_of is) (path_of i)
path_new is i new = map_push path_of is i ∙ rw new refl

-- what stands in a list in which one place was set stood there, or it is what was set
set_cases : {A : Type 0} (old : List A) (n : ℕ) (x : A) (q : ℕ) (y : A) → n < length old
    → slice_get (slice_set old n x) q ≡ Some y
    → ((q ≡ n) × (x ≡ y)) ⊎ ((q ≢ n) × (slice_get old q ≡ Some y))
set_cases old n x q y below at = elim (eqb_tells q n)
    as (λ _. ((q ≡ n) × (x ≡ y)) ⊎ ((q ≢ n) × (slice_get old q ≡ Some y))) [
      | inl here ↦ inl (
        here.1,
        same_Some x y (sym (slice_get-set_same old n x below)
            ∙ sym (ap (slice_get (slice_set old n x)) here.1) ∙ at),
      )
      | inr apart ↦ inr (apart.1, sym (slice_get-set_other old n q x apart.1) ∙ at)
    ]

module _ (g h : ComponentDfg) (paths : List Path) (old new : List (Option RuntimeImportIndex)) (n : ℕ)
    (i : ImportIndex × List (List ℕ)) (r : RuntimeImportIndex) (held : slice_get paths n ≡ Some (path_of i))
    (imports : h.imports ≡ g.imports ++ i ∷ []) (types : h.import_types ≡ g.import_types)
    (set : new ≡ slice_set old n (Some r)) (same : length new ≡ length old) (number : r.0 ≡ length g.imports)
    (below : n < length old) (used : AreUsed g paths old) where
  -- a path by its place is the one that was added, or it stood at another place
  cases : (q : ℕ) (s : Option RuntimeImportIndex) → slice_get new q ≡ Some s
      → ((q ≡ n) × (Some r ≡ s)) ⊎ ((q ≢ n) × (slice_get old q ≡ Some s))
  cases q s at = set_cases old n (Some r) q s below (sym (ap (λ l. slice_get l q) set) ∙ at)

  numbers : (q : ℕ) (path : Path) (s : RuntimeImportIndex) → slice_get paths q ≡ Some path
      → slice_get new q ≡ Some (Some s) → HasPath h s.0 path
  numbers q path s there at = elim (cases q (Some s) at) as (λ _. HasPath h s.0 path) [
    | inl here ↦ (
        let mine : r ≡ s = same_Some r s here.1 in
        let path_is : path_of i ≡ path = same_Some (path_of i) path (sym held ∙ ap (slice_get paths) (sym here.0)
        ∙ there) in
        ap (λ l. slice_get l s.0) imports
        ∙ ap (slice_get (g.imports ++ i ∷ [])) (ap (λ k. k.0) (sym mine) ∙ number)
        ∙ slice_get-append_seam g.imports i []
        ∙ ap (λ (k : Path). Some (record { 0 = k.import }, k.names)) path_is)
    | inr apart ↦
        ap (λ l. slice_get l s.0) imports
        ∙ slice_get-append g.imports (i ∷ []) s.0 (record { 0 = path.import }, path.names)
        (used.numbers q path s there apart.1)
  ]

  others : (q : ℕ) (path : Path) → slice_get paths q ≡ Some path → slice_get new q ≡ Some None
      → list_any (same_path path) (map path_of h.imports) ≡ false
  others q path there at =
      ap (list_any (same_path path)) (ap (map path_of) imports ∙ map_push path_of g.imports i)
      ∙ list_any-append (same_path path) (map path_of g.imports) (path_of i ∷ [])
      ∙ (elim (cases q None at) as (λ _. (list_any (same_path path) (map path_of g.imports)
      || (same_path path (path_of i) || false)) ≡ false) [
        | inl here ↦ absurd (none-some r (sym here.1))
        | inr apart ↦ rw (
          used.others q path there apart.1,
          path_other path (path_of i)
              (λ is. apart.0 (used.distinct q n path there (held ∙ ap Some (sym is)))),
        ) refl
      ])

  known : (k : ℕ) (x : ImportIndex × List (List ℕ)) → slice_get h.imports k ≡ Some x → Contains paths (path_of x)
  known k x at = elim (found_in_push g.imports i k x (sym (ap (λ l. slice_get l k) imports) ∙ at))
      as (λ _. Contains paths (path_of x)) [
        | inl before ↦ used.known k x before
        | inr last ↦ subst (λ y. Contains paths (path_of y)) last (contains_at paths n (path_of i) held)
      ]

  -- the numbers of the host items that are used, with one more
  pub used_more : AreUsed h paths new
  used_more = record {
    room = same ∙ used.room;
    distinct = used.distinct;
    imports = λ q path there. subst (λ ts. path.import < length ts) (sym types) (used.imports q path there);
    numbers = numbers;
    others = others;
    known = known;
  }
