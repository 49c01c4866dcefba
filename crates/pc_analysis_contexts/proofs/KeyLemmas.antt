-- The keys of what is given are right.
use Rattle.std.proofs.Common.{◌≡◌, ◌<◌, ◌≤◌, ◌+◌, ℕ, Bool, true, false, List, length, map, Option, None, Some, refl}
use Rattle.std.proofs.Common.{sym, ap, subst, ◌∙◌, arith, true≢false}
use Rattle.std.specs.Prelude.{option_map, slice_get, unwrap_or, if◌then◌else◌}
use Rattle.std.proofs.lemmas.List.{length-map}
use Rattle.std.proofs.lemmas.Option.{none-some, same_Some, slice_get-map, slice_get_within}
use Rattle.pc_entity.proofs.LookupLemmas.{found_at}
use Rattle.pc_numbers.specs.declared.entity_index.EntityIndex.{EntityIndex}
use Rattle.pc_types.specs.declared.module_record.ModuleRecord.{ModuleRecord}
use Rattle.pc_types.specs.Record.{has_entity, import_place}
use Rattle.pc_spec_plan.specs.CoreValue.{ExportedItem, by_index, by_name}
use Rattle.pc_spec_wiring.specs.Origin.{Core, Given, Origin, IsFrom, an_item, defined_in, ended}
use Rattle.pc_spec_wiring.specs.Origin.{from_end, from_item, imported_there, its_own, of_host, of_record}
use Rattle.pc_spec_wiring.specs.Sharing.{home_of}
use Rattle.pc_info.specs.Definitions.{item_view}
use Rattle.pc_partition.specs.declared.vmctx_key.VmctxKey.TheVariants as key
use Rattle.pc_dfg.specs.declared.core_def.CoreDef.{CoreDef}
use Rattle.pc_dfg.specs.declared.core_def.CoreDef.TheVariants as def
use Rattle.pc_dfg.specs.declared.dfg.ComponentDfg.{ComponentDfg}
use Rattle.pc_dfg.specs.declared.ids.AdapterModuleId.{AdapterModuleId}
use Rattle.pc_dfg.specs.declared.ids.InstanceId.{InstanceId}
use Rattle.pc_analysis_contexts.specs.declared.import_index.ImportIndex.{ImportIndex}
use Rattle.pc_analysis_contexts.specs.declared.made.Made.{Made}
use Rattle.pc_analysis_contexts.specs.declared.made.Made.TheVariants as made
use Rattle.pc_analysis_contexts.specs.Cores.{GraphEnd, adapter_in, core_in, given_in, graph_cores, graph_home}
use Rattle.pc_analysis_contexts.specs.Homes.{AreMade, HasKey, IsMade, NamesBelow, TakeAll, Takes}
use Rattle.pc_analysis_contexts.specs.Indexed.{AreIndexes, IsIndex}
use Rattle.pc_analysis_contexts.specs.Keys.{ContextKey, adapter_key, def_key, indexed_key, item_key}
use Rattle.pc_analysis_contexts.specs.Keys.{made_key, placed_key}
use Rattle.pc_analysis_contexts.specs.Recorded.{AreDefined}
use Rattle.pc_analysis_contexts.proofs.CoreLemmas.{AreBelow, cores_count, module_at}
use Rattle.pc_analysis_contexts.proofs.IndexLemmas.{defines_is, index_of, place_is}
use Rattle.pc_analysis_contexts.proofs.OriginLemmas.{end_only, imported_only, item_only, name_nowhere, nowhere}
use Rattle.pc_analysis_contexts.proofs.OriginLemmas.{own_has}

-- a list is found as far as another one of its length
nothing_past : {A B : Type 0} (xs : List A) (ys : List B) (i : ℕ) (y : B) → length xs ≡ length ys
    → slice_get xs i ≡ None → slice_get ys i ≡ Some y → ⊥
nothing_past xs ys i y same none some =
    let f = found_at xs i (omega (arith, same, slice_get_within ys i y some)) in
    none-some f.0 (sym none ∙ f.1)

module _ (g : ComponentDfg) (records : List ModuleRecord) where
  -- the key of what an item leads to is that of the item
  key_through : {d b : Given GraphEnd} {k : ContextKey}
      → ((o : Origin GraphEnd) → IsFrom (graph_cores g records) d o → IsFrom (graph_cores g records) b o)
      → HasKey g records d k → HasKey g records b k
  key_through leads h = record { origin = h.origin; from = leads h.origin h.from; home = h.home; there = h.there }

  -- what comes from nowhere has no home
  nowhere_takes : {d : Given GraphEnd} → ((o : Origin GraphEnd) → IsFrom (graph_cores g records) d o → ⊥)
      → Takes g records d None
  nowhere_takes none o from = absurd (none o from)

  module _ (i : InstanceId) (e : EntityIndex) (m : ℕ) (r : ModuleRecord) (given : List (Given GraphEnd))
      (keys : List (Option ContextKey)) (s : ImportIndex)
      (at : slice_get (graph_cores g records) i.0 ≡ Some (of_record m r given)) (take : TakeAll g records given keys)
      (index : IsIndex r s) (there : i.0 < length g.instances) where
    -- the entity as what is given
    abbrev entity_given : Given GraphEnd
    entity_given = an_item i.0 (by_index e)

    -- an entity that the module defines has the key of the instance, and one that it hasn't comes from nowhere
    own_takes : import_place r e ≡ None → (b : Bool) → has_entity r e ≡ b
        → Takes g records entity_given (if b then Some (key.CoreInstance i) else None)
    own_takes none true has = record {
      origin = defined_in i.0 m e;
      from = from_item (its_own at none has);
      home = refl;
      there = there;
    }
    own_takes none false has =
        nowhere_takes (λ o from. true≢false (sym (own_has (graph_cores g records) at none (item_only _ from)) ∙ has))

    -- an entity that it imports has the key of what it is given
    import_takes : (place : ℕ) → import_place r e ≡ Some place → (k : Option (Option ContextKey))
        → slice_get keys place ≡ k → Takes g records entity_given (unwrap_or k None)
    import_takes place some None none =
        nowhere_takes (λ o from.
        let x = imported_only (graph_cores g records) at some (item_only _ from) in
        nothing_past keys given place x.0 take.size none x.1)
    import_takes place some (Some None) found =
        λ o from.
        let x = imported_only (graph_cores g records) at some (item_only _ from) in
        take.each place x.0 None x.1 found o x.2
    import_takes place some (Some (Some k)) found =
        let f = found_at given place (omega (arith, take.size, slice_get_within keys place (Some k) found)) in
        key_through (λ o from. from_item (imported_there at some f.1 from)) (take.each place f.0 (Some k) f.1 found)

    -- the key of an entity
    entity_takes : (p : Option ℕ) → import_place r e ≡ p → Takes g records entity_given (placed_key s keys i e p)
    entity_takes None none =
        subst (λ b. Takes g records entity_given (if b then Some (key.CoreInstance i) else None))
        (sym (defines_is r s index e none)) (own_takes none (has_entity r e) refl)
    entity_takes (Some place) some = import_takes place some (slice_get keys place) refl

  module _ (indexes : List ImportIndex) (all : AreIndexes records indexes) where
    -- the key of an entity of what was made
    made_takes : (i : InstanceId) (e : EntityIndex) (c : Core GraphEnd) (x : Made) → i.0 < length g.instances
        → slice_get (graph_cores g records) i.0 ≡ Some c → IsMade g records c x
        → Takes g records (an_item i.0 (by_index e)) (made_key indexes (Some x) i e)
    made_takes i e (of_record m r given) (made.Module n keys) there at (same, held, take) =
        let x = index_of records indexes m r all held in
        subst (λ o. Takes g records (an_item i.0 (by_index e)) (indexed_key o keys i e))
        (sym (ap (slice_get indexes) same ∙ x.1))
        (subst (λ p. Takes g records (an_item i.0 (by_index e)) (placed_key x.0 keys i e p))
        (sym (place_is r x.0 x.2 e))
        (entity_takes i e m r given keys x.0 at take x.2 there (import_place r e) refl))
    made_takes i e (of_record m r given) made.Host there at h = absurd h
    made_takes i e of_host (made.Module n keys) there at h = absurd h
    made_takes i e of_host made.Host there at h =
        nowhere_takes (λ o from. nowhere (graph_cores g records) at (item_only _ from))

    module _ (defined : AreDefined g records) (known : List Made) (are : AreMade g records known) where
      -- the key of an item of an instance that was looked at
      item_takes : (n : ℕ) (i : InstanceId) (x : ExportedItem) → n ≤ length known → n ≤ length g.instances → i.0 < n
          → Takes g records (an_item i.0 x) (item_key indexes known i x)
      item_takes n i (by_index e) seen few below =
          let core = found_at (graph_cores g records) i.0 (omega (arith, few, below, cores_count g records)) in
          let made = found_at known i.0 (omega (arith, seen, below)) in
          subst (λ o. Takes g records (an_item i.0 (by_index e)) (made_key indexes o i e)) (sym made.1)
          (made_takes i e core.0 made.0 (omega (arith, few, below)) core.1 (are i.0 core.0 made.0 core.1 made.1))
      item_takes n i (by_name name) seen few below = nowhere_takes (λ o from. name_nowhere (graph_cores g records) from)

      -- the key of an adapter
      adapter_takes : (a : ℕ) (p : Option (AdapterModuleId × EntityIndex)) → slice_get g.adapter_partitionings a ≡ p
          → Takes g records (adapter_in (length g.instances) a p) (adapter_key p)
      adapter_takes a None none = λ o from. ap (home_of graph_home) (end_only (graph_cores g records) from)
      adapter_takes a (Some p) some =
          let d = defined a p some in
          let at = module_at g records p.0.0 d.made d.there
          ∙ ap (λ x. Some (core_in d.made.0.0 x (map (given_in g) d.made.1))) d.held in
          record {
            origin = defined_in (length g.instances + p.0.0) d.made.0.0 p.1;
            from = from_item (its_own at d.own d.has);
            home = refl;
            there = tt;
          }

      -- the key of a definition
      pub def_takes : (n : ℕ) (d : CoreDef) → n ≤ length known → n ≤ length g.instances → NamesBelow n d
          → Takes g records (given_in g d) (def_key indexes known g d)
      def_takes n (def.Export e) seen few below = item_takes n e.instance (item_view e.item) seen few below
      def_takes n (def.InstanceFlags c) seen few below =
          λ o from. ap (home_of graph_home) (end_only (graph_cores g records) from)
      def_takes n (def.Trampoline t) seen few below =
          record { origin = ended _; from = from_end; home = refl; there = tt }
      def_takes n (def.UnsafeIntrinsic s x) seen few below =
          record { origin = ended _; from = from_end; home = refl; there = tt }
      def_takes n (def.Adapter a) seen few below =
          adapter_takes a.0 (slice_get g.adapter_partitionings a.0) refl

      -- the keys of arguments
      pub args_take : (n : ℕ) (args : List CoreDef) → n ≤ length known → n ≤ length g.instances → AreBelow n args
          → TakeAll g records (map (given_in g) args) (map (def_key indexes known g) args)
      args_take n args seen few below = record {
        size = length-map args (def_key indexes known g) ∙ sym (length-map args (given_in g));
        each = λ i d k here found.
            let f = found_at args i
            (omega (arith, slice_get_within (map (given_in g) args) i d here, length-map args (given_in g))) in
            let gives : given_in g f.0 ≡ d =
            same_Some _ _ (sym (slice_get-map (given_in g) args i ∙ ap (option_map (given_in g)) f.1) ∙ here) in
            let keys : def_key indexes known g f.0 ≡ k =
            same_Some _ _
            (sym (slice_get-map (def_key indexes known g) args i ∙ ap (option_map (def_key indexes known g)) f.1)
            ∙ found) in
            subst (λ y. Takes g records y k) gives
            (subst (λ y. Takes g records (given_in g f.0) y) keys (def_takes n f.0 seen few (below i f.0 f.1)));
      }
