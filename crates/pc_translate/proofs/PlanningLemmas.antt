-- A plan of a body, or why there is none, from the graph that stands for its reading.
use Rattle.std.proofs.Common.{◌≡◌, ℕ, ◌≤◌, ◌<◌, ◌⊎◌, inl, inr, List, length, map, Some, None, Result, Ok, Err}
use Rattle.std.proofs.Common.{All, IfOk, arith, refl, sym, ap, subst, ◌∙◌, true}
use Rattle.std.specs.Prelude.{IfErr, IsSomeAnd, MatchResult, OnOk, Option, slice_get, ⊤, ◌↔◌}
use Rattle.std.specs.List.{list_all}
use Rattle.std.specs.Result.{IsErrAnd}
use Rattle.std.proofs.lemmas.Bool.{cases_lt}
use Rattle.std.proofs.lemmas.Option.{none-some, same_Some, slice_get-get_or}
use Rattle.pc_numbers.specs.declared.runtime.ResourceIndex.{ResourceIndex}
use Rattle.pc_types.specs.Record.{is_sound}
use Rattle.pc_types.specs.TypeTree.{Identity, TypeTree}
use Rattle.pc_types_lists.specs.Types.{IsBuilder, IsTooFullFor, KeepsTypes, Types}
use Rattle.pc_types_builder.specs.Trees.{IsEntry}
use Rattle.pc_types.specs.declared.error.Error.{Error}
use Rattle.pc_types.specs.declared.error.Error.TheVariants as error
use Rattle.pc_types.specs.declared.error.Place.{Place}
use Rattle.pc_types.specs.declared.error.Place.TheVariants as place
use Rattle.pc_types.specs.declared.module_record.ModuleRecord.{ModuleRecord}
use Rattle.pc_types.specs.declared.parsed.TypeTable.{TypeTable}
use Rattle.pc_types.specs.declared.type_index.TypeModuleIndex.{TypeModuleIndex}
use Rattle.pc_types.specs.declared.types.TypeDef.TheVariants as def
use Rattle.pc_spec_plan.specs.CoreValue.{CoreValue}
use Rattle.pc_trampoline.specs.declared.part.Mark.{Mark}
use Rattle.pc_info.specs.declared.component.ComponentTranslation.{ComponentTranslation}
use Rattle.pc_info.specs.declared.module.ModuleTranslation.{ModuleTranslation}
use Rattle.pc_spec_facts.specs.Recorded.{bare}
use Rattle.pc_spec_reading.specs.Answer.{ending}
use Rattle.pc_spec_reading.specs.Item.{Items}
use Rattle.pc_spec_reading.specs.Outcome.{Outcome, done}
use Rattle.pc_spec_reading.specs.Reading.{Reading, reading_of}
use Rattle.pc_dfg.specs.declared.core_def.CoreDef.{CoreDef}
use Rattle.pc_dfg.specs.declared.dfg.ComponentDfg.{ComponentDfg}
use Rattle.pc_dfg.specs.declared.export.Export.{Export}
use Rattle.pc_dfg.specs.declared.export.Export.TheVariants as export
use Rattle.pc_dfg.specs.declared.ids.AdapterId.{AdapterId}
use Rattle.pc_dfg.specs.Ordered.{IsOrdered}
use Rattle.pc_dfg.specs.Told.{AreInterned, IsTold, Unsaid}
use Rattle.pc_dfg_linearize.specs.declared.error.FinishError.{FinishError}
use Rattle.pc_dfg_linearize.specs.declared.error.FinishError.TheVariants as finish_error
use Rattle.pc_dfg_linearize.specs.Full.{HasTooMany}
use Rattle.pc_dfg_linearize.specs.Grouped.{IsGrouped}
use Rattle.pc_dfg_linearize.specs.Wired.{IsWired, Occurs}
use Rattle.pc_dfg_finish.specs.ModuleTypes.{static_type}
use Rattle.pc_adapt.specs.declared.error.AdaptError.{AdaptError}
use Rattle.pc_adapt.specs.declared.error.AdaptError.TheVariants as refusal
use Rattle.pc_adapt.specs.Asked.{AreTyped, HoldTypes, LacksFirst}
use Rattle.pc_adapt_define.specs.Define.{is_taken}
use Rattle.pc_adapt_partition.specs.Adapted.{AreAdapted}
use Rattle.pc_adapt_partition.specs.Facts.{HaveTrees}
use Rattle.pc_adapt_partition.specs.Made.{AddsAtMost, AddsFew, AddsShort, AreModulesApart, Keeps}
use Rattle.pc_adapt_partition.specs.Made as made
use Rattle.pc_adapt_partition.specs.Partitions as parts
use Rattle.pc_adapt_partition.specs.Partitions.{facts_by}
use Rattle.pc_adapt_partition.specs.Wired.{AreHandedIn, HaveValues, LiftFunctions}
use Rattle.pc_inline.specs.Inlines.{GraphStands, StandsForReading}
use Rattle.pc_inline_stack.specs.Totals.{GainsFew}
use Rattle.pc_inline_state.proofs.HoldsLemmas.{reads_fit, some_reading}
use Rattle.pc_inline_state.specs.Fits.{Fits}
use Rattle.pc_inline_state.specs.Worlds as worlds
use Rattle.pc_inline_state.specs.Worlds.{AdaptersStand}
use Rattle.pc_translate.proofs.CrowdedLemmas.{finish_crowded, none_crowded, too_many_crowded}
use Rattle.pc_translate.proofs.HeldModuleLemmas.{place_held}
use Rattle.pc_translate.proofs.LackingLemmas.{lacks_read, read_lacks}
use Rattle.pc_translate.proofs.PartitionLemmas.{are_typed, have_trees, have_values, hold_types, lift_trees, lower_trees}
use Rattle.pc_translate.proofs.PartitionLemmas.{values}
use Rattle.pc_translate.proofs.WiredLemmas.{are_handed_in, are_modules, lift_functions, wired}
use Rattle.pc_translate.specs.Adapted.{as_handed_in}
use Rattle.pc_translate.specs.Adapters.{first_lacking}
use Rattle.pc_translate.specs.Causes.{in_the_end, or_lacking}
use Rattle.pc_translate.specs.Finished.{IsFinished}
use Rattle.pc_translate.specs.ModuleTypes.{HasModuleType, HoldsModule, HoldsModules, LacksPlace}
use Rattle.pc_translate.specs.Partitioned.{IsGroupedGraph, IsPartitioned}
use Rattle.pc_translate.specs.Planning.{Groups, HasGraph, IsGraphOf, IsPlanOfGraph, Plans}
use Rattle.pc_translate.specs.Planning.{PlansGraph, StopsFinish, StopsGraph, error_of_adapt, error_of_finish}
use Rattle.pc_translate.specs.Recorded.{HasFacts}
use Rattle.pc_translate.specs.Translation.{GainsCounted}

-- the graph that was answered stands for the reading, and tells which of its adapters are transparent
graph_is : (t : TypeTable) (ms : List ModuleRecord) (limit counted : ℕ) (body : Items) (old types : Types)
    (g : ComponentDfg) → HasGraph t ms limit counted body old types (Ok g)
    → IsGraphOf t ms limit counted body old types g
unfolding HasGraph
graph_is t ms limit counted body old types g h = h

-- where a reading ends with an error, so does the answer
error_ends : (o : Outcome Reading) (e : Error) → (e ≡ error.NoMemory) ⊎ (ending o ≡ Err e)
    → (e ≡ error.NoMemory) ⊎ (in_the_end (ending o) ≡ Err e)
error_ends o e (inl memory) = inl memory
error_ends o e (inr ends) = inr (ap in_the_end ends)

-- and where it is done, at the first adapter that lacks an option
lacking_ends : (o : Outcome Reading) (r : Reading) (a : ℕ) (p : Place) → o ≡ done r → first_lacking r ≡ Some a
    → p ≡ place.Adapter a → in_the_end (ending o) ≡ Err (error.BadOptions p)
lacking_ends o r a p is first at =
    (λ i. in_the_end (ending (is i))) ∙ (λ i. or_lacking (first i) r) ∙ (λ i. Err (error.BadOptions (sym at i)))

-- so an instantiation's own error is the plan's
pub fault_plans : (t : TypeTable) (ms : List ModuleRecord) (limit counted : ℕ) (body : Items) (old types : Types)
    (e : Error) → HasGraph t ms limit counted body old types (Err e)
    → Plans t ms limit counted body old types (Err e)
unfolding HasGraph Plans
fault_plans t ms limit counted body old types e h = error_ends (reading_of t ms limit (Some counted) body) e h

-- two readings that are done alike are one
same_done : (r s : Reading) → ◌≡◌ {A = Outcome Reading} (done r) (done s) → r ≡ s
same_done r s is = cc

-- an answer is no error
ok_no_error : {A E : Type 0} (a : A) (e : E) → ◌≡◌ {A = Result A E} (Ok a) (Err e) → ⊥
ok_no_error a e same = let no : ⊥ = cc in no

-- a graph that stands for a reading
module _ (t : TypeTable) (ms : List ModuleRecord) (types : Types) (g : ComponentDfg) (r : Reading)
    (s : GraphStands t ms types g r) where
  -- resource numbers can be read so that they fit the graph
  some : (who : ResourceIndex → Identity) × Fits g who
  some =
      let reads = some_reading r.imported_resources in
      (reads.0, reads_fit g r.imported_resources s.world.imported_resources reads.0 reads.1)

  -- the types of the handed-in modules that are exported are held
  pub held_modules : HoldsModules types t g.export_items
  held_modules n x = by x.0 (slice_get-get_or g.export_items x.1.0 x.0 x.1.1 ∙ ap Some x.1.2) x.2
    where
      module_held : (ty : ℕ) → worlds.HoldsModule types t g ty → HoldsModule types t ty
      module_held ty h = record {
        there = h.there;
        known = h.known;
        component_instance = h.component_instance;
        tree = h.tree;
        is = h.is;
        number = h.number;
        who = some.0;
        holds = h.holds some.0 some.1;
      }

      by : (e : Export) → slice_get g.export_items x.1.0 ≡ Some e → static_type e ≡ Some n → HoldsModule types t n
      by (export.ModuleStatic ty m) at is =
          subst (HoldsModule types t) (same_Some ty n is) (module_held ty (s.held.modules x.1.0 ty m at))
      by (export.LiftedFunction ty f o) at is = absurd (none-some n is)
      by (export.ImportedFunction ty r) at is = absurd (none-some n is)
      by (export.ModuleImport ty r) at is = absurd (none-some n is)
      by (export.Instance ty es) at is = absurd (none-some n is)
      by (export.Type_ ty) at is = absurd (none-some n is)

  pub has_types : All (HasModuleType t) g.export_items
  has_types = are_modules g s.plain types t s.held

  -- the types of its adapters are held, and have trees
  abbrev stand : AdaptersStand types g r.log
  stand = s.world.adapters

  abbrev lift : ℕ → TypeTree
  lift = lift_trees types g r.log stand

  abbrev lower : ℕ → TypeTree
  lower = lower_trees types g r.log stand

  typed : AreTyped types some.0 g lift lower
  typed = are_typed types g r.log stand some.0 some.1

  pub trees : HaveTrees types g
  trees = have_trees types g r.log stand some.0 some.1

  pub held_types : HoldTypes types g
  held_types = hold_types types g r.log stand some.0 some.1

  -- a graph that has got the modules of its adapters
  module _ (h : ComponentDfg) (old modules : List ModuleTranslation) (handed_in : old ≡ map as_handed_in ms) where
    partitioned : ((a : AdapterId) → LacksFirst g lift lower a.0 → ⊥)
        → ((who : ResourceIndex → Identity) (l w : ℕ → TypeTree) (vs : ℕ → CoreValue Mark)
        → AreTyped types who g l w → HaveValues g vs → AreAdapted (facts_by l) (facts_by w) vs g h old modules)
        → Keeps (length g.adapters) g h → IsOrdered h → IsGrouped h → ((u : Unsaid) → IsTold u g → IsTold u h)
        → AreModulesApart h → AreInterned h → ((d : CoreDef) → is_taken d ≡ true → Occurs h d → Occurs g d)
        → ((who : ResourceIndex → Identity) (l w : ℕ → TypeTree) (vs : ℕ → CoreValue Mark)
        → AreTyped types who g l w → AreHandedIn old → HaveValues g vs → LiftFunctions g → IsWired g old
        → IsWired h modules)
        → AddsShort old modules → (made.IsPast h modules → ⊥) → IsPartitioned ms r types g h modules
    partitioned none adapted keeps ordered grouped told distinct interned occurs stays short room = record {
      complete = by (first_lacking r) refl;
      keeps = keeps;
      ordered = ordered;
      grouped = grouped;
      told = told;
      distinct = distinct;
      interned = interned;
      occurs = occurs;
      wired = stays some.0 lift lower (values types g r.log stand) typed
          (subst AreHandedIn (sym handed_in) (are_handed_in ms)) (have_values types g r.log stand)
          (lift_functions g s.plain ms s.items) (subst (IsWired g) (sym handed_in) (wired g s.plain ms s.items));
      short = subst (λ ds. AddsShort ds modules) handed_in short;
      many = numbered (cases_lt 4294967294 (length modules));
      adapted = λ who l w vs are have.
          subst (λ ds. AreAdapted (facts_by l) (facts_by w) vs g h ds modules) handed_in (adapted who l w vs are have);
    }
      where
        numbered : (4294967294 < length modules) ⊎ (length modules ≤ 4294967294) → length modules ≤ 4294967295
        numbered (inl past) = absurd (room (made.of_modules past))
        numbered (inr few) = omega (arith, few)

        by : (o : Option ℕ) → first_lacking r ≡ o → first_lacking r ≡ None
        by None is = is
        by (Some a) is = absurd (none (record { 0 = a }) (read_lacks types g r.log stand a is))

    crowded : AddsAtMost (length g.adapters) (length g.adapters) g h old modules
        → parts.HasTooMany (facts_by lift) (facts_by lower) g h modules → StopsGraph ms r g error.TooMany
    crowded most many =
        too_many_crowded ms g h modules s.plain.adapter_modules s.plain.adapter_partitionings
        (subst (λ ds. AddsAtMost (length g.adapters) (length g.adapters) g h ds modules) handed_in most)
        (facts_by lift) (facts_by lower) (values types g r.log stand) (have_values types g r.log stand) many

    -- its adapters have got modules, or there is a cause for want of them
    pub groups : (res : Result ⊤ AdaptError)
        → ((who : ResourceIndex → Identity) (l w : ℕ → TypeTree) → AreTyped types who g l w → (a : AdapterId)
        → (res ≡ Err (refusal.BadOptions a)) ↔ LacksFirst g l w a.0)
        → OnOk res ((who : ResourceIndex → Identity) (l w : ℕ → TypeTree) (vs : ℕ → CoreValue Mark)
        → AreTyped types who g l w → HaveValues g vs → AreAdapted (facts_by l) (facts_by w) vs g h old modules)
        → OnOk res (Keeps (length g.adapters) g h) → OnOk res (IsOrdered h) → OnOk res (IsGrouped h)
        → OnOk res ((u : Unsaid) → IsTold u g → IsTold u h) → OnOk res (AreModulesApart h)
        → OnOk res ((who : ResourceIndex → Identity) (l w : ℕ → TypeTree) (vs : ℕ → CoreValue Mark)
        → AreTyped types who g l w → AreHandedIn old → HaveValues g vs → LiftFunctions g → IsWired g old
        → IsWired h modules)
        → AreInterned h → OnOk res ((d : CoreDef) → is_taken d ≡ true → Occurs h d → Occurs g d)
        → OnOk res (AddsShort old modules) → OnOk res (made.IsPast h modules → ⊥)
        → OnOk res (AddsFew (length g.adapters) old modules h)
        → AddsAtMost (length g.adapters) (length g.adapters) g h old modules
        → (res ≡ Err refusal.TooMany → (who : ResourceIndex → Identity) (l w : ℕ → TypeTree)
        → AreTyped types who g l w → parts.HasTooMany (facts_by l) (facts_by w) g h modules)
        → (out : Result ⊤ Error)
        → MatchResult res (λ x. out ≡ Ok x) (λ e. IsErrAnd out (λ y. y ≡ error_of_adapt e))
        → Groups ms r types g h modules out
    unfolding Groups
    groups (Ok u) bad adapted keeps ordered grouped told distinct stays interned occurs short room few most full (Ok v) same = (
      partitioned (λ a lacks. ok_no_error u (refusal.BadOptions a) ((bad some.0 lift lower typed a).1 lacks)) adapted
          keeps ordered grouped told distinct interned occurs stays short room,
      subst (λ ds. AddsFew (length g.adapters) ds modules h) handed_in few,
    )
    groups (Ok u) bad adapted keeps ordered grouped told distinct stays interned occurs short room few most full (Err e) same =
        absurd (ok_no_error u e (sym same))
    groups (Err (refusal.BadOptions a)) bad adapted keeps ordered grouped told distinct stays interned occurs short room few most
        full (Err e) same =
        subst (StopsGraph ms r g) (sym same)
        (a.0, lacks_read types g r.log stand a.0 ((bad some.0 lift lower typed a).0 refl), refl)
    groups (Err refusal.TooMany) bad adapted keeps ordered grouped told distinct stays interned occurs short room few most full
        (Err e) same =
        subst (StopsGraph ms r g) (sym same) (crowded most (full refl some.0 lift lower typed))
    groups (Err refusal.NoMemory) bad adapted keeps ordered grouped told distinct stays interned occurs short room few most full
        (Err e) same =
        subst (StopsGraph ms r g) (sym same) tt
    groups (Err x) bad adapted keeps ordered grouped told distinct stays interned occurs short room few most full (Ok v) same =
        absurd same

  -- a graph whose adapters have modules, and its plan
  module _ (h : ComponentDfg) (modules : List ModuleTranslation) (end : ⊤)
      (is : Groups ms r types g h modules (Ok end)) where
    done_groups : IsPartitioned ms r types g h modules × AddsFew (length g.adapters) (map as_handed_in ms) modules h
    unfolding Groups
    done_groups = is

    stops_finish : (e : Error) → StopsFinish h e → StopsGraph ms r g e
    stops_finish error.TooMany many = finish_crowded ms g h modules done_groups.0.keeps done_groups.1 many
    stops_finish error.NoMemory none = tt
    stops_finish (error.BadOptions p) none = absurd none
    stops_finish (error.Malformed p) none = absurd none
    stops_finish (error.BadTable p) none = absurd none
    stops_finish (error.Unsupported u p) none = absurd none
    stops_finish (error.BadIntrinsics p) none = absurd none
    stops_finish (error.UnknownIntrinsic p) none = absurd none
    stops_finish (error.DefinedTwice p) none = absurd none
    stops_finish (error.Invalid p) none = absurd none
    stops_finish (error.BadType p) none = absurd none
    stops_finish error.TooManyInstances none = absurd none

    pub finish_stops : (e : Error) → StopsFinish h e → PlansGraph t ms r types g (Err e)
    unfolding PlansGraph
    finish_stops e stops = stops_finish e stops

    -- the graph of a plan's modules, whatever is recorded of these later
    pub grouped_graph : list_all (is_sound t) ms ≡ true → IsGroupedGraph t types h modules
    grouped_graph sound = record {
      handed_in = ms;
      sound = sound;
      result = r;
      graph = g;
      stands = s;
      partitioned = done_groups.0;
    }

    pub finish_plans : (plan : ComponentTranslation) (ns : List ModuleTranslation) → IsFinished types t h plan
        → map bare ns ≡ modules → HasFacts plan ns → PlansGraph t ms r types g (Ok (plan, ns))
    unfolding PlansGraph
    finish_plans plan ns finished same facts = (
      subst (λ ds. IsPlanOfGraph t ms r types g plan ds) (sym same)
          (record { grouped = h; partitioned = done_groups.0; finished = finished }),
      facts,
    )

  pub groups_stops : (h : ComponentDfg) (modules : List ModuleTranslation) (e : Error)
      → Groups ms r types g h modules (Err e) → PlansGraph t ms r types g (Err e)
  unfolding Groups PlansGraph
  groups_stops h modules e stops = stops

  pub no_memory_stops : (e : Error) → e ≡ error.NoMemory → PlansGraph t ms r types g (Err e)
  unfolding PlansGraph
  no_memory_stops e is = subst (StopsGraph ms r g) (sym is) tt

-- a graph whose adapters have modules
module _ (t : TypeTable) (types : Types) (h : ComponentDfg) (modules : List ModuleTranslation)
    (grouped : IsGroupedGraph t types h modules) where
  pub grouped_ordered : IsOrdered h
  grouped_ordered = grouped.partitioned.ordered

  pub grouped_grouped : IsGrouped h
  grouped_grouped = grouped.partitioned.grouped

  same_exports : h.export_items ≡ grouped.graph.export_items
  same_exports = ap (λ (i : ComponentDfg). i.export_items) grouped.partitioned.keeps.rest

  pub grouped_types : All (HasModuleType t) h.export_items
  grouped_types =
      subst (All (HasModuleType t)) (sym same_exports)
      (has_types t grouped.handed_in types grouped.graph grouped.result grouped.stands)

  pub grouped_held : HoldsModules types t h.export_items
  grouped_held =
      subst (HoldsModules types t) (sym same_exports)
      (held_modules t grouped.handed_in types grouped.graph grouped.result grouped.stands)

-- the plan of a graph, where the types that it exports were held
module _ (t : TypeTable) (h : ComponentDfg) (b new : Types) (same : new ≡ b) where
  pub finished_still : (res : Result ComponentTranslation FinishError) → IfOk res (λ p. IsFinished new t h p)
      → (out : Result ComponentTranslation Error)
      → MatchResult res (λ x. out ≡ Ok x) (λ e. IsErrAnd out (λ y. y ≡ error_of_finish e))
      → IfOk out (λ p. IsFinished b t h p)
  finished_still (Ok plan) finished (Ok p) is =
      subst (λ x. IsFinished x t h p) same (subst (λ x. IsFinished new t h x) (sym (the p plan is)) finished)
    where
      the : (x y : ComponentTranslation) → ◌≡◌ {A = Result ComponentTranslation Error} (Ok x) (Ok y) → x ≡ y
      the x y e = cc
  finished_still (Ok plan) finished (Err e) is = tt
  finished_still (Err x) finished (Err e) is = tt
  finished_still (Err x) finished (Ok p) is = absurd is

  -- no module type lacks a place
  lacks_none : HoldsModules b t h.export_items → IsBuilder b → LacksPlace t h.export_items b new → ⊥
  lacks_none held builder l = by (static_type l.item) refl l.no_place
    where
      by : (o : Option ℕ) → static_type l.item ≡ o
          → IsSomeAnd o (λ ty. IsTooFullFor new (λ next. (i : TypeModuleIndex) × IsEntry next t ty (def.Module i)))
          → ⊥
      by None is lacks = lacks
      by (Some ty) is lacks =
          place_held t ty b builder (held ty (l.item, l.exported, is))
          (subst (λ x. IsTooFullFor x (λ next. (i : TypeModuleIndex) × IsEntry next t ty (def.Module i))) same lacks)

  pub finish_refused : HoldsModules b t h.export_items → IsBuilder b
      → (res : Result ComponentTranslation FinishError)
      → (res ≡ Err finish_error.TooMany → HasTooMany h ⊎ LacksPlace t h.export_items b new)
      → (out : Result ComponentTranslation Error)
      → MatchResult res (λ x. out ≡ Ok x) (λ e. IsErrAnd out (λ y. y ≡ error_of_finish e))
      → IfErr out (λ e. StopsFinish h e)
  finish_refused held builder (Ok plan) full (Ok p) is = tt
  finish_refused held builder (Ok plan) full (Err e) is = absurd (ok_no_error plan e (sym is))
  finish_refused held builder (Err finish_error.TooMany) full (Err e) is =
      subst (StopsFinish h) (sym is) (by (full refl))
    where
      by : HasTooMany h ⊎ LacksPlace t h.export_items b new → HasTooMany h
      by (inl many) = many
      by (inr lacks) = absurd (lacks_none held builder lacks)
  finish_refused held builder (Err finish_error.NoMemory) full (Err e) is = subst (StopsFinish h) (sym is) tt
  finish_refused held builder (Err x) full (Ok p) is = absurd is

-- a graph that was answered
module _ (t : TypeTable) (ms : List ModuleRecord) (limit counted : ℕ) (body : Items) (old mid : Types)
    (g : ComponentDfg) (is : HasGraph t ms limit counted body old mid (Ok g)) where
  graph : IsGraphOf t ms limit counted body old mid g
  graph = graph_is t ms limit counted body old mid g is

  abbrev answered : StandsForReading t ms limit counted body mid g
  answered = graph.stands

  -- it stands for the reading of the body, also where its modules were taken out of the program
  taken_stands : (taken : List ModuleRecord) → taken ≡ ms → GraphStands t taken mid g answered.result
  taken_stands taken all =
      subst (λ (rs : List ModuleRecord). GraphStands t rs mid g answered.result) (sym all) answered.stands

  pub stands_for : (taken : List ModuleRecord) → taken ≡ ms → (r : Reading) × GraphStands t taken mid g r
  stands_for taken all = (answered.result, taken_stands taken all)

  -- the total that bounds its lists is that of the reading
  same_reading : graph.few.is_total.0 ≡ answered.result
  same_reading = same_done graph.few.is_total.0 answered.result (sym graph.few.is_total.1 ∙ answered.outcome)

  -- so the types that were gained are counted
  gains_counted : GainsCounted t counted answered.result old mid
  gains_counted = record {
    total = graph.few.total;
    is_total = subst (λ (r : Reading). r.total ≡ Some graph.few.total) same_reading graph.few.is_total.2;
    below = graph.few.below;
    added = graph.few.added;
    few = graph.few.few;
    types = graph.few.types;
    tables = graph.tables;
  }

  -- what stops its plan is the end of the answer, where the modules that were handed in are counted: it isn't crowded
  refused_by : length ms ≤ counted → (e : Error) → StopsGraph ms answered.result g e
      → (e ≡ error.NoMemory) ⊎ (in_the_end (ending (reading_of t ms limit (Some counted) body)) ≡ Err e)
  refused_by begins (error.BadOptions p) stops =
      inr (lacking_ends (reading_of t ms limit (Some counted) body) answered.result stops.0 p answered.outcome stops.1
      stops.2)
  refused_by begins error.TooMany stops =
      absurd (none_crowded t ms limit counted body old mid g begins graph.few stops)
  refused_by begins error.NoMemory stops = inl refl
  refused_by begins (error.Malformed p) stops = absurd stops
  refused_by begins (error.BadTable p) stops = absurd stops
  refused_by begins (error.Unsupported u p) stops = absurd stops
  refused_by begins (error.BadIntrinsics p) stops = absurd stops
  refused_by begins (error.UnknownIntrinsic p) stops = absurd stops
  refused_by begins (error.DefinedTwice p) stops = absurd stops
  refused_by begins (error.Invalid p) stops = absurd stops
  refused_by begins (error.BadType p) stops = absurd stops
  refused_by begins error.TooManyInstances stops = absurd stops

  plans : length ms ≤ counted → (res : Result (ComponentTranslation × List ModuleTranslation) Error)
      → PlansGraph t ms answered.result mid g res → Plans t ms limit counted body old mid res
  unfolding PlansGraph Plans
  plans begins (Ok p) of_graph = (
    record {
      graph = g;
      stands = answered;
      tells = graph.tells;
      gains = gains_counted;
      grouped = of_graph.0.grouped;
      partitioned = of_graph.0.partitioned;
      finished = of_graph.0.finished;
    },
    of_graph.1,
  )
  plans begins (Err e) stops = refused_by begins e stops

  -- so the body has a plan, or there is a cause for want of one
  pub still_plans : (taken : List ModuleRecord) → taken ≡ ms → (new : Types) → new ≡ mid → length ms ≤ counted
      → (res : Result (ComponentTranslation × List ModuleTranslation) Error)
      → ((r : Reading) → GraphStands t taken mid g r → PlansGraph t taken r mid g res)
      → Plans t ms limit counted body old new res
  still_plans taken all new same begins res of_graph =
      subst (λ x. Plans t ms limit counted body old x res) (sym same)
      (plans begins res (subst (λ (rs : List ModuleRecord). PlansGraph t rs answered.result mid g res) all
      (of_graph answered.result (taken_stands taken all))))

-- modules that were taken out of a program are sound
pub taken_sound : (t : TypeTable) (ms taken : List ModuleRecord) → taken ≡ ms → list_all (is_sound t) ms ≡ true
    → list_all (is_sound t) taken ≡ true
taken_sound t ms taken all sound = subst (λ (rs : List ModuleRecord). list_all (is_sound t) rs ≡ true) (sym all) sound

-- types keep their numbers
pub still_keeps : (old mid new : Types) → new ≡ mid → KeepsTypes old mid → KeepsTypes old new
still_keeps old mid new same keeps = subst (KeepsTypes old) (sym same) keeps

-- as few were gained
pub still_gains : (t : TypeTable) (counted : ℕ) (old mid new : Types) → new ≡ mid → GainsFew t counted old mid
    → GainsFew t counted old new
still_gains t counted old mid new same few = subst (GainsFew t counted old) (sym same) few
