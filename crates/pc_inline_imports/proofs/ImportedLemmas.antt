-- The reading's moment after the resources of an import became known.
use Rattle.std.proofs.Common.{◌≡◌, ◌≤◌, ◌+◌, ◌⊎◌, inl, inr, ℕ, List, [], ◌∷◌, ◌++◌, length, map, Some}
use Rattle.std.proofs.Common.{refl, sym, ap, subst, ◌∙◌, arith}
use Rattle.std.specs.Prelude.{Contains, count_by, filter, slice_get}
use Rattle.std.specs.List.{filter_map, fold}
use Rattle.std.proofs.lemmas.List.{append-nil, append_assoc}
use Rattle.std.proofs.lemmas.List.Elements.{Contains-append_cases, Contains-push_cases, filter-append, filter_map-append}
use Rattle.std.proofs.lemmas.List.Sums.{fold-append, sum_by-append}
use Rattle.pc_types.specs.TypeTree.{Identity, imported}
use Rattle.pc_types_lists.specs.Types.{Types}
use Rattle.pc_spec_plan.specs.CoreValue.{CoreValue}
use Rattle.pc_spec_plan.specs.Log.{Entry, declared, instances_of, is_effect, needed, owned_of, trace}
use Rattle.pc_spec_adapt.specs.Needs.{adapters_of, made_adapter}
use Rattle.pc_parsed.specs.Mark.{Mark}
use Rattle.pc_spec_reading.specs.Asked.{is_declared, needed_path, paths_needed, with_path}
use Rattle.pc_spec_reading.specs.Imports.{import_resources, importing, resource_path}
use Rattle.pc_spec_reading.specs.Resource.{ResourcePath, knowing, newly}
use Rattle.pc_spec_reading.specs.Scope.{Moment}
use Rattle.pc_spec_reading.specs.World.{is_declaration}
use Rattle.pc_dfg.specs.declared.dfg.ComponentDfg.{ComponentDfg}
use Rattle.pc_inline_state.specs.Worlds.{AdaptersStand}

module _ (i : ℕ) where
  -- what is known when the resources at these paths became known in order
  abbrev pub knowing_all : List (ℕ × Identity) → List ResourcePath → List (ℕ × Identity)
  knowing_all known [] = known
  knowing_all known (p ∷ ps) = knowing_all (knowing known p.number (imported (resource_path i p))) ps

  -- the entry that says that a resource is needed
  abbrev pub needs : ResourcePath → Entry Mark
  needs p = needed (resource_path i p)

  -- the moment then
  abbrev pub with_resources : Moment → List ResourcePath → Moment
  with_resources now ps = record {
    scope = record now.scope { known = knowing_all now.scope.known ps };
    world = record now.world {
      log = now.world.log ++ map needs ps;
      imported_resources = now.world.imported_resources ++ map (resource_path i) ps;
    };
  }

  each_imported : (ps : List ResourcePath) (now : Moment)
      → fold (λ (m : Moment) (p : ResourcePath). importing m i p) now ps ≡ with_resources now ps
  each_imported [] now = λ j. record {
    scope = now.scope;
    world = record now.world {
      log = sym (append-nil now.world.log) j;
      imported_resources = sym (append-nil now.world.imported_resources) j;
    };
  }
  each_imported (p ∷ ps) now =
      each_imported ps (importing now i p)
      ∙ (λ j. record {
        scope = record now.scope { known = knowing_all now.scope.known (p ∷ ps) };
        world = record now.world {
          log = append_assoc now.world.log (needs p ∷ []) (map needs ps) j;
          imported_resources =
              append_assoc now.world.imported_resources (resource_path i p ∷ []) (map (resource_path i) ps) j;
        };
      })

  -- it is that of the reading
  pub resources_imported : (now : Moment) (ps : List ResourcePath)
      → import_resources now i ps ≡ with_resources now (newly now.scope.known ps)
  unfolding import_resources
  resources_imported now ps = each_imported (newly now.scope.known ps) now

  no_effects : (ps : List ResourcePath) → filter is_effect (map needs ps) ≡ []
  no_effects [] = refl
  no_effects (p ∷ ps) = no_effects ps

  no_instances : (ps : List ResourcePath) → filter_map owned_of (map needs ps) ≡ []
  no_instances [] = refl
  no_instances (p ∷ ps) = no_instances ps

  all_needed : (ps : List ResourcePath) → filter_map needed_path (map needs ps) ≡ map (resource_path i) ps
  all_needed [] = refl
  all_needed (p ∷ ps) = λ j. resource_path i p ∷ all_needed ps j

  no_adapters : (ps : List ResourcePath) → filter_map made_adapter (map needs ps) ≡ []
  no_adapters [] = refl
  no_adapters (p ∷ ps) = no_adapters ps

  none_counted : (ps : List ResourcePath) → count_by is_declaration (map needs ps) ≡ 0
  none_counted [] = refl
  none_counted (p ∷ ps) = none_counted ps

  none_declared : (ps : List ResourcePath) (v : CoreValue Mark) → Contains (map needs ps) (declared v) → ⊥
  none_declared [] v there = absurd (let below = there.1 in omega (arith, below))
  none_declared (p ∷ ps) v there =
      elim (Contains-append_cases (needs p ∷ []) (map needs ps) (declared v) there) as (λ _. ⊥) [
        | inl first ↦ here (Contains-push_cases [] (needs p) (declared v) first)
        | inr later ↦ none_declared ps v later
      ]
    where
      here : Contains [] (declared v) ⊎ (needs p ≡ declared v) → ⊥
      here (inl none) = let below = none.1 in absurd (omega (arith, below))
      here (inr is) = let x : ⊥ = cc in x

  module _ (log : List (Entry Mark)) (ps : List ResourcePath) where
    -- the side effects are those of before
    pub same_effects : trace (log ++ map needs ps) ≡ trace log
    same_effects =
        filter-append is_effect log (map needs ps) ∙ ap (λ es. trace log ++ es) (no_effects ps) ∙ append-nil (trace log)

    -- and so are the core instances
    pub same_instances : instances_of (log ++ map needs ps) ≡ instances_of log
    same_instances =
        filter_map-append owned_of log (map needs ps) ∙ ap (λ es. instances_of log ++ es) (no_instances ps)
        ∙ append-nil (instances_of log)

    -- what is needed is more
    pub more_needed : paths_needed (log ++ map needs ps)
        ≡ fold with_path (paths_needed log) (map (resource_path i) ps)
    unfolding paths_needed
    more_needed =
        ap (fold with_path []) (filter_map-append needed_path log (map needs ps))
        ∙ fold-append with_path [] (filter_map needed_path log) (filter_map needed_path (map needs ps))
        ∙ ap (fold with_path (fold with_path [] (filter_map needed_path log))) (all_needed ps)

    -- and the adapters
    same_adapters : adapters_of (log ++ map needs ps) ≡ adapters_of log
    same_adapters =
        filter_map-append made_adapter log (map needs ps) ∙ ap (λ vs. adapters_of log ++ vs) (no_adapters ps)
        ∙ append-nil (adapters_of log)

    -- which stand as they stood
    pub adapters_needed : (types : Types) (g : ComponentDfg) → AdaptersStand types g log
        → AdaptersStand types g (log ++ map needs ps)
    adapters_needed types g s = record {
      as_many = s.as_many ∙ ap length (sym same_adapters);
      each = λ k v at. s.each k v (subst (λ vs. slice_get vs k ≡ Some v) same_adapters at);
    }

    -- no resource was declared
    pub same_declarations : count_by is_declaration (log ++ map needs ps) ≡ count_by is_declaration log
    same_declarations =
        let both : count_by is_declaration (log ++ map needs ps)
        ≡ count_by is_declaration log + count_by is_declaration (map needs ps) = sum_by-append _ log (map needs ps) in
        let none = none_counted ps in
        omega (arith, both, none)

    -- what was declared was declared before
    pub declared_before : (v : CoreValue Mark) → Contains (log ++ map needs ps) (declared v) → Contains log (declared v)
    declared_before v there =
        elim (Contains-append_cases log (map needs ps) (declared v) there) as (λ _. Contains log (declared v)) [
          | inl before ↦ before
          | inr here ↦ absurd (none_declared ps v here)
        ]

    -- and as many trampolines are declared
    pub as_many : (n : ℕ) → n ≤ count_by is_declared log → n ≤ count_by is_declared (log ++ map needs ps)
    as_many n le =
        let both : count_by is_declared (log ++ map needs ps)
        ≡ count_by is_declared log + count_by is_declared (map needs ps) = sum_by-append _ log (map needs ps) in
        omega (arith, le, both)
