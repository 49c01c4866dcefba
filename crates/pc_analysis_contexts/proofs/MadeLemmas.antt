-- What is kept of core instances is right.
use Rattle.std.proofs.Common.{◌≡◌, ◌≤◌, ◌+◌, inl, inr, ℕ, List, [], ◌∷◌, ◌++◌, length, map, Option}
use Rattle.std.proofs.Common.{None, Some, refl, sym, ap, subst, ◌∙◌, arith}
use Rattle.std.specs.Prelude.{slice_get}
use Rattle.std.proofs.lemmas.Option.{none-some, same_Some, slice_get_within}
use Rattle.pc_numbers.specs.declared.component_entity.StaticModuleIndex.{StaticModuleIndex}
use Rattle.pc_types.specs.declared.module_record.ModuleRecord.{ModuleRecord}
use Rattle.pc_spec_wiring.specs.Origin.{Core}
use Rattle.pc_dfg.specs.declared.core_def.CoreDef.{CoreDef}
use Rattle.pc_dfg.specs.declared.dfg.ComponentDfg.{ComponentDfg}
use Rattle.pc_dfg.specs.declared.instance.Instance.{Instance}
use Rattle.pc_dfg.specs.declared.instance.Instance.TheVariants as source
use Rattle.pc_dfg.specs.Ordered.{IsOrdered}
use Rattle.pc_analysis_contexts.specs.declared.import_index.ImportIndex.{ImportIndex}
use Rattle.pc_analysis_contexts.specs.declared.made.Made.{Made}
use Rattle.pc_analysis_contexts.specs.Cores.{GraphEnd, core_in, given_in, graph_cores, instance_core, module_core}
use Rattle.pc_analysis_contexts.specs.Homes.{AreAllMade, AreMade, IsMade}
use Rattle.pc_analysis_contexts.specs.Indexed.{AreIndexes}
use Rattle.pc_analysis_contexts.specs.Keys.{made_for, made_if, made_of}
use Rattle.pc_analysis_contexts.specs.Recorded.{AreDefined}
use Rattle.pc_analysis_contexts.proofs.CoreLemmas.{AreBelow, cores_count, earlier, held, instance_at, module_at}
use Rattle.pc_analysis_contexts.proofs.IndexLemmas.{get_pushed, index_of, record_of}
use Rattle.pc_analysis_contexts.proofs.KeyLemmas.{args_take}

module _ (g : ComponentDfg) (records : List ModuleRecord) where
  -- nothing is kept at first
  pub made_none : AreMade g records []
  made_none n c x at found = absurd (none-some x found)

  -- one core instance more
  pub made_more : (known : List Made) (c : Core GraphEnd) (x : Made) → AreMade g records known
      → slice_get (graph_cores g records) (length known) ≡ Some c → IsMade g records c x
      → AreMade g records (known ++ x ∷ [])
  made_more known c x are at is n d y core found =
      elim (get_pushed known x n y found) [
        | inl old ↦ are n d y core old
        | inr new ↦
            let same : c ≡ d = same_Some c d (sym at ∙ ap (slice_get (graph_cores g records)) (sym new.0) ∙ core) in
            subst (λ e. IsMade g records e y) same (subst (IsMade g records c) new.1 is)
      ]

  module _ (indexes : List ImportIndex) (all : AreIndexes records indexes) (defined : AreDefined g records)
      (known : List Made) (are : AreMade g records known) where
    -- a core instance of a module, if it has a record
    made_core : (n : ℕ) (m : StaticModuleIndex) (args : List CoreDef) → n ≤ length known → n ≤ length g.instances
        → AreBelow n args
        → IsMade g records (core_in m.0 (slice_get records m.0) (map (given_in g) args))
        (made_of indexes known g m args)
    unfolding made_of
    made_core n m args seen few below = by (slice_get records m.0) refl
      where
        no_index : (o : Option ImportIndex) → slice_get indexes m.0 ≡ o → slice_get records m.0 ≡ None
            → IsMade g records (core_in m.0 None (map (given_in g) args)) (made_if indexes known g m args o)
        no_index None is none = tt
        no_index (Some s) is none =
            let x = record_of records indexes m.0 s all is in
            absurd (none-some x.0 (sym none ∙ x.1))

        by : (o : Option ModuleRecord) → slice_get records m.0 ≡ o
            → IsMade g records (core_in m.0 o (map (given_in g) args))
            (made_if indexes known g m args (slice_get indexes m.0))
        by None none = no_index (slice_get indexes m.0) refl none
        by (Some r) some =
            let x = index_of records indexes m.0 r all some in
            let take = args_take g records indexes all defined known are n args seen few below in
            let core = core_in m.0 (Some r) (map (given_in g) args) in
            subst (λ o. IsMade g records core (made_if indexes known g m args o)) (sym x.1) (refl, some, take)

    -- an instance of the graph
    pub made_instance : IsOrdered g → (x : Instance) → slice_get g.instances (length known) ≡ Some x
        → IsMade g records (instance_core g records x) (made_for indexes known g x)
    unfolding made_for
    made_instance ordered (source.Static m args) at =
        let within = slice_get_within g.instances (length known) _ at in
        made_core (length known) m args (omega arith) (omega (arith, within))
        (earlier g ordered (length known) m args at)
    made_instance ordered (source.Import r args) at = tt

    -- one more of these is known
    pub instance_more : IsOrdered g → (x : Instance) → slice_get g.instances (length known) ≡ Some x
        → AreMade g records (known ++ made_for indexes known g x ∷ [])
    instance_more ordered x at =
        made_more known (instance_core g records x) _ are (instance_at g records (length known) x at)
        (made_instance ordered x at)

    -- one more module of adapters is known
    pub module_more : IsOrdered g → (n : ℕ) (x : StaticModuleIndex × List CoreDef)
        → length known ≡ length g.instances + n → slice_get g.adapter_modules n ≡ Some x
        → AreMade g records (known ++ made_of indexes known g x.0 x.1 ∷ [])
    module_more ordered n x many at =
        made_more known (module_core g records x) _ are
        (ap (slice_get (graph_cores g records)) many ∙ module_at g records n x at)
        (made_core (length g.instances) x.0 x.1 (omega (arith, many)) (omega arith) (held g ordered n x at))

  -- all are known
  pub all_known : (known : List Made) → AreMade g records known
      → length known ≡ length g.instances + length g.adapter_modules → AreAllMade g records known
  all_known known are many = record { count = many ∙ sym (cores_count g records); each = are }
