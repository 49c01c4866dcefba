-- The calls for a host function that is lowered: an import, options, a trampoline, and a core item.
use Rattle.std.proofs.Common.{◌≡◌, List}
use Rattle.pc_types.specs.declared.parsed.TypeTable.{TypeTable}
use Rattle.pc_dfg.specs.declared.dfg.ComponentDfg.{ComponentDfg}
use Rattle.pc_dfg.specs.Grows as graph
use Rattle.pc_dfg.specs.Numbers.{SignedTrampoline}
use Rattle.pc_dfg.specs.Pushed.{IsPut}
use Rattle.pc_inline_state.specs.Adds.{Adds}
use Rattle.pc_inline_state.specs.AddsEach.{AddsEach, in_imports, in_options, in_trampolines, nowhere}
use Rattle.pc_inline_state.specs.Tables.{Keeps, Tables}
use Rattle.pc_inline_state.proofs.AddsLemmas.{each_refl, lowered_adds}
use Rattle.pc_inline_state.proofs.AddsPushLemmas.{trampoline_adds}
use Rattle.pc_inline_state.proofs.FitsLemmas.{fits_grown}
use Rattle.pc_inline_state.proofs.GrowthLemmas.{graph_grown}
use Rattle.pc_inline_state.proofs.StateLemmas.{keeps_trans}

module _ {a b x : Tables} {h : ComponentDfg} (keeps : Keeps a b) (later : Keeps b x)
    (grows : graph.Grows x.graph h) {ts : List SignedTrampoline} (rest : h ≡ record x.graph { trampolines = ts }) where
  -- what was there is there beside the trampoline
  pub trampoline_keeps : Keeps a (record x { graph = h })
  trampoline_keeps =
      keeps_trans a x (record x { graph = h }) (keeps_trans a b x keeps later)
      (graph_grown x h grows
      (fits_grown x.graph h grows (λ i. (rest i).imported_resources) (λ i. (rest i).resources)))

  -- and beside the core item
  pub lowered_keeps : (y : Tables) → Keeps (record x { graph = h }) y → Keeps a y
  lowered_keeps y last = keeps_trans a (record x { graph = h }) y trampoline_keeps last

module _ (t : TypeTable) {a b : Tables} (imports : AddsEach in_imports 0 0 a b) where
  -- an import alone
  pub import_few : Adds t 4 a b
  import_few =
      lowered_adds t a b b b b imports (each_refl in_options 0 0 b) (each_refl in_trampolines 0 0 b)
      (each_refl nowhere 1 0 b)

  module _ {x : Tables} (options : AddsEach in_options 0 0 b x) where
    -- an import and options
    pub options_few : Adds t 4 a x
    options_few =
        lowered_adds t a b x x x imports options (each_refl in_trampolines 0 0 x) (each_refl nowhere 1 0 x)

    module _ {h : ComponentDfg} {p : SignedTrampoline} (rest : h ≡ record x.graph { trampolines = h.trampolines })
        (put : IsPut x.graph.trampolines h.trampolines p) where
      -- a core item after these and a trampoline
      pub lowered_few : (y : Tables) → AddsEach nowhere 1 0 (record x { graph = h }) y → Adds t 4 a y
      lowered_few y core =
          lowered_adds t a b x (record x { graph = h }) y imports options (trampoline_adds x h p rest put) core

      -- all but the core item
      pub trampoline_few : Adds t 4 a (record x { graph = h })
      trampoline_few = lowered_few (record x { graph = h }) (each_refl nowhere 1 0 (record x { graph = h }))
