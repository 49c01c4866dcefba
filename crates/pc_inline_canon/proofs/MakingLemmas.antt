-- An adapter comes into a graph exactly where it comes into the log of the reading.
use Rattle.std.proofs.Common.{◌≡◌, ◌<◌, inl, inr, ℕ, true, false, List, [], ◌∷◌, ◌++◌, length, Some, refl, sym}
use Rattle.std.proofs.Common.{ap, subst, ◌∙◌, ◌+◌, true≢false, get_or}
use Rattle.std.specs.Prelude.{Contains, slice_get}
use Rattle.std.specs.List.{AllZip}
use Rattle.std.proofs.lemmas.List.{length-append}
use Rattle.std.proofs.lemmas.List.Elements.{Contains-get_or}
use Rattle.std.proofs.lemmas.Option.{same_Some, slice_get-get_or, slice_get_within}
use Rattle.pc_entity.proofs.Growing.{slice_get-append, slice_get-append_seam}
use Rattle.pc_entity.proofs.LookupLemmas.{found_at}
use Rattle.pc_entity.specs.Lists.{AreDistinct}
use Rattle.pc_numbers.specs.declared.runtime.RuntimeImportIndex.{RuntimeImportIndex}
use Rattle.pc_types.specs.TypeTree.{Path}
use Rattle.pc_types_lists.specs.Types.{Types}
use Rattle.pc_spec_plan.specs.CoreValue.{CoreValue}
use Rattle.pc_spec_plan.specs.Log.{Entry, made}
use Rattle.pc_spec_adapt.specs.Needs.{adapters_of}
use Rattle.pc_parsed.specs.Mark.{Mark}
use Rattle.pc_spec_reading.specs.SameValues.{was_made}
use Rattle.pc_dfg.specs.declared.adapter.Adapter.{Adapter}
use Rattle.pc_dfg.specs.declared.core_def.CoreDef.TheVariants as def
use Rattle.pc_dfg.specs.declared.dfg.ComponentDfg.{ComponentDfg}
use Rattle.pc_dfg.specs.declared.ids.AdapterId.{AdapterId}
use Rattle.pc_dfg.specs.Grows as graph
use Rattle.pc_dfg.specs.Means.{HasPath}
use Rattle.pc_dfg.specs.Pushed.{IsPut}
use Rattle.pc_dfg.specs.Told.{AreInterned, IsTold, Unsaid}
use Rattle.pc_dfg.proofs.AddLemmas.{get_appended}
use Rattle.pc_dfg.proofs.SameLemmas.{adapter_signed, defs_same}
use Rattle.pc_inline_state.specs.Fits.{FitsBefore}
use Rattle.pc_inline_state.specs.Stands.{CoreStands}
use Rattle.pc_inline_state.specs.Worlds.{AdaptersStand}
use Rattle.pc_inline_state.proofs.FitsLemmas.{fits_grown}
use Rattle.pc_inline_state.proofs.StateLemmas.{types_refl}
use Rattle.pc_inline_canon.proofs.KeptLemmas.{core_kept}
use Rattle.pc_inline_canon.proofs.MadeLemmas.{adapters_of-made, among_made, made_among}
use Rattle.pc_inline_canon.proofs.NumberLemmas.{TellsApart, means_shared, stands_unique}
use Rattle.pc_inline_canon.proofs.SideMeansLemmas.{AdapterMeans, adapter_stands}

-- what stands at a place stands in the list
contains_at : {A : Type 0} (xs : List A) (n : ℕ) (x : A) → slice_get xs n ≡ Some x → Contains xs x
contains_at xs n x at =
    let below = slice_get_within xs n x at in
    let same : get_or xs n x ≡ x = same_Some (get_or xs n x) x (sym (slice_get-get_or xs n x below) ∙ at) in
    subst (Contains xs) same (Contains-get_or xs n x below)

module _ (types : Types) (tells : TellsApart types) (g : ComponentDfg) (adapters : List Adapter) (x : Adapter)
    (v : CoreValue Mark) (k : AdapterId) where
  -- the graph with these adapters
  abbrev pub making_in : ComponentDfg
  making_in = record g { adapters = adapters }

  module _ (grows : graph.Grows g making_in) (at : slice_get adapters k.0 ≡ Some x) (put : IsPut g.adapters adapters x)
      (means : AdapterMeans types g x v) (log : List (Entry Mark)) (stand : AdaptersStand types g log)
      (paths : List Path) (apart : AreDistinct paths)
      (at_paths : AllZip (λ (r : RuntimeImportIndex). HasPath making_in r.0) g.imported_resources paths) where
    fits : FitsBefore g making_in
    fits = fits_grown g making_in grows refl refl

    -- each number of the adapter stands for its value
    made_stands : (n : ℕ) → slice_get adapters n ≡ Some x
        → CoreStands types making_in (def.Adapter (record { 0 = n })) v
    made_stands n there = adapter_stands types g making_in grows fits x v means (record { 0 = n }) there

    -- and what was made before stands for what it did
    before_stands : (n : ℕ) (y : CoreValue Mark) → slice_get (adapters_of log) n ≡ Some y
        → CoreStands types making_in (def.Adapter (record { 0 = n })) y
    before_stands n y there =
        core_kept types types g making_in (types_refl types) grows fits (def.Adapter (record { 0 = n })) y
        (stand.each n y there)

    -- an adapter that the graph had was made
    was_there : adapters ≡ g.adapters → was_made v log ≡ true
    was_there same =
        let below : k.0 < length (adapters_of log) =
        subst (λ n. k.0 < n) (ap length same ∙ stand.as_many) (slice_get_within adapters k.0 x at) in
        let there = found_at (adapters_of log) k.0 below in
        let one : there.0 ≡ v = stands_unique types tells making_in paths apart at_paths (def.Adapter k) there.0 v
        (before_stands k.0 there.0 there.1) (made_stands k.0 at) in
        among_made v log k.0 (there.1 ∙ ap Some one)

    -- so one that wasn't made is new
    is_new : was_made v log ≡ false → adapters ≡ g.adapters ++ x ∷ []
    is_new none = elim put.0 as (λ _. adapters ≡ g.adapters ++ x ∷ []) [
      | inl same ↦ absurd (true≢false (sym (was_there same) ∙ none))
      | inr more ↦ more
    ]

    -- one that was made is the one that the graph has
    pub is_old : (u : Unsaid) → AreInterned making_in → IsTold u making_in → was_made v log ≡ true
        → adapters ≡ g.adapters
    is_old u interned told is =
        let before = made_among v log is in
        let j : AdapterId = record { 0 = before.0 } in
        let first = before_stands before.0 v before.1 in
        let one : def.Adapter j ≡ def.Adapter k = defs_same making_in u interned told (adapter_signed u j)
        (adapter_signed u k) refl first.means
        (means_shared types tells making_in paths apart at_paths (def.Adapter j) (def.Adapter k) v first
        (made_stands k.0 at)) in
        let number : j ≡ k = cc in
        let place : before.0 ≡ k.0 = ap (λ (a : AdapterId). a.0) number in
        let below : k.0 < length g.adapters =
        subst (λ n. n < length g.adapters) place
        (subst (λ n. before.0 < n) (sym stand.as_many) (slice_get_within (adapters_of log) before.0 v before.1)) in
        elim put.0 as (λ _. adapters ≡ g.adapters) [
          | inl same ↦ same
          | inr more ↦ put.1 (contained more below)
        ]
      where
        contained : adapters ≡ g.adapters ++ x ∷ [] → k.0 < length g.adapters → Contains g.adapters x
        contained more below =
            let there = found_at g.adapters k.0 below in
            let same : there.0 ≡ x = same_Some there.0 x
            (sym (slice_get-append g.adapters (x ∷ []) k.0 there.0 there.1)
            ∙ ap (λ l. slice_get l k.0) (sym more) ∙ at) in
            contains_at g.adapters k.0 x (there.1 ∙ ap Some same)

    -- so the adapters are those of the log, where it makes this one
    pub made_now : was_made v log ≡ false → AdaptersStand types making_in (log ++ made v ∷ [])
    made_now none = record {
      as_many = ap length new ∙ length-append g.adapters (x ∷ []) ∙ ap (λ n. n + 1) stand.as_many
          ∙ sym (ap length logged ∙ length-append (adapters_of log) (v ∷ []));
      each = λ n y there. elim (get_appended (adapters_of log) v n y (subst (λ l. slice_get l n ≡ Some y) logged there))
          as (λ _. CoreStands types making_in (def.Adapter (record { 0 = n })) y) [
            | inl old ↦ before_stands n y old
            | inr last ↦ subst (λ z. CoreStands types making_in (def.Adapter (record { 0 = n })) z) last.1
                (made_stands n (subst (λ m. slice_get adapters m ≡ Some x) (stand.as_many ∙ last.0) at_end))
          ];
    }
      where
        new : adapters ≡ g.adapters ++ x ∷ []
        new = is_new none

        logged : adapters_of (log ++ made v ∷ []) ≡ adapters_of log ++ v ∷ []
        logged = adapters_of-made v log

        at_end : slice_get adapters (length g.adapters) ≡ Some x
        at_end = ap (λ l. slice_get l (length g.adapters)) new ∙ slice_get-append_seam g.adapters x []
