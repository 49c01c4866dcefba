-- Partitions, a core instance at a time.
use Rattle.std.proofs.Common.{◌≡◌, ◌≢◌, ◌<◌, ◌+◌, ◌↔◌, inl, inr, ℕ, Bool, true, false, List, length}
use Rattle.std.proofs.Common.{Option, Some, refl, sym, ap, subst, ◌∙◌, arith, true≢false}
use Rattle.std.specs.Prelude.{slice_get}
use Rattle.std.proofs.lemmas.Bool.{cases_eq, cases_lt}
use Rattle.std.proofs.lemmas.Option.{same_Some, slice_get_within}
use Rattle.std.proofs.Math.ListN.{length-set}
use Rattle.pc_entity.proofs.Growing.{slice_get-set_other, slice_get-set_same}
use Rattle.pc_types.specs.declared.module_record.ModuleRecord.{ModuleRecord}
use Rattle.pc_types.specs.declared.parsed.CoreKind.TheVariants as kind
use Rattle.pc_types.specs.Record.{imported}
use Rattle.pc_spec_wiring.specs.Origin.{Core, Given, of_host, of_record}
use Rattle.pc_spec_wiring.specs.Sharing.{AlwaysShare, AreRecorded, HasHome, Home}
use Rattle.pc_partition.specs.Partition.{IsPartition, Together, representative}
use Rattle.pc_partition.specs.declared.partition.SameVmctxPartition.{SameVmctxPartition}
use Rattle.pc_dfg.specs.declared.dfg.ComponentDfg.{ComponentDfg}
use Rattle.pc_analysis_contexts.specs.declared.import_index.ImportIndex.{ImportIndex}
use Rattle.pc_analysis_contexts.specs.declared.made.Made.{Made}
use Rattle.pc_analysis_contexts.specs.declared.made.Made.TheVariants as made
use Rattle.pc_analysis_contexts.specs.Cores.{GraphEnd, graph_cores, graph_home, is_exported_in}
use Rattle.pc_analysis_contexts.specs.Homes.{IsMade, TakeAll}
use Rattle.pc_analysis_contexts.specs.Indexed.{AreIndexes, IsIndex}
use Rattle.pc_analysis_contexts.specs.Keys.{ContextKey}
use Rattle.pc_analysis_contexts.specs.Recorded.{RecordsContexts}
use Rattle.pc_analysis_contexts.specs.Shared.{ArePartitionsTo, AreStart, IsPartitionTo, IsRefined, Refines}
use Rattle.pc_analysis_contexts.specs.Shared.{ShareBefore, function_keys, start_of}
use Rattle.pc_analysis_contexts.proofs.IndexLemmas.{index_of}
use Rattle.pc_analysis_contexts.proofs.OriginLemmas.{one_module}
use Rattle.pc_analysis_contexts.proofs.ShareLemmas.{shares}

-- before any core instance is looked at, all imports of a module are together, unless it is exported
start_is : (b : Bool) → IsPartition (start_of b)
start_is true = record { below = λ f. omega arith; own = λ f. refl }
start_is false = record { below = λ f. omega arith; own = λ f. refl }

module _ (g : ComponentDfg) (records : List ModuleRecord) where
  start_together : (b : Bool) (m f h : ℕ) → f ≢ h
      → Together (start_of b) f h ↔ ((b ≡ false) × ShareBefore g records 0 m f h)
  start_together true m f h apart = (λ same. absurd (apart same), λ p. absurd (true≢false p.0))
  start_together false m f h apart = (λ same. (refl, λ i r given below at. absurd (omega (arith, below))), λ p. refl)

  pub started : (partitions : List SameVmctxPartition) → AreStart g (length records) partitions
      → ArePartitionsTo g records 0 partitions
  started partitions start = record {
    count = start.size;
    each = λ m r p held at.
        subst (IsPartitionTo g records 0 m r) (sym (start.each m p at)) (record {
          is_partition = start_is (is_exported_in g m);
          together = λ f h small few apart. start_together (is_exported_in g m) m f h apart;
        });
  }

  -- an instance of a module gives two function imports functions of one home
  abbrev OneHome : (f h : ℕ) → ModuleRecord → List (Given GraphEnd) → Type 0
  OneHome f h r given =
      (x : Home) × HasHome graph_home (graph_cores g records) r given f x
      × HasHome graph_home (graph_cores g records) r given h x

  module _ (n m : ℕ) where
    -- a core instance that is none of a module says nothing of its imports
    quiet : (f h : ℕ)
        → ((r : ModuleRecord) (given : List (Given GraphEnd))
        → slice_get (graph_cores g records) n ≡ Some (of_record m r given) → ⊥)
        → ShareBefore g records n m f h ↔ ShareBefore g records (n + 1) m f h
    quiet f h other = (there, λ share i r given below at. share i r given (omega (arith, below)) at)
      where
        there : ShareBefore g records n m f h → ShareBefore g records (n + 1) m f h
        there share i r given below at = elim (cases_lt i n) [
          | inl before ↦ share i r given before at
          | inr past ↦
              let same : i ≡ n = omega (arith, below, past) in
              absurd (other r given (ap (slice_get (graph_cores g records)) (sym same) ∙ at))
        ]

    -- one that is says which of them are given functions of one home
    telling : (f h : ℕ) (r : ModuleRecord) (given : List (Given GraphEnd))
        → slice_get (graph_cores g records) n ≡ Some (of_record m r given)
        → (ShareBefore g records n m f h × OneHome f h r given) ↔ ShareBefore g records (n + 1) m f h
    telling f h r given here = (there, back)
      where
        there : (ShareBefore g records n m f h × OneHome f h r given) → ShareBefore g records (n + 1) m f h
        there p i s xs below at = elim (cases_lt i n) [
          | inl before ↦ p.0 i s xs before at
          | inr past ↦
              let same : i ≡ n = omega (arith, below, past) in
              let parts = one_module (graph_cores g records) n here
              (ap (slice_get (graph_cores g records)) (sym same) ∙ at) in
              subst (λ ys. OneHome f h s ys) parts.2 (subst (λ t. OneHome f h t given) parts.1 p.1)
        ]

        back : ShareBefore g records (n + 1) m f h → ShareBefore g records n m f h × OneHome f h r given
        back share = (λ i s xs below at. share i s xs (omega (arith, below)) at, share n r given (omega arith) here)

  -- a partition stays that of a module where a core instance is none of it
  kept_to : (n m : ℕ) (r : ModuleRecord) (p : SameVmctxPartition)
      → ((s : ModuleRecord) (given : List (Given GraphEnd))
      → slice_get (graph_cores g records) n ≡ Some (of_record m s given) → ⊥)
      → IsPartitionTo g records n m r p → IsPartitionTo g records (n + 1) m r p
  kept_to n m r p other is = record {
    is_partition = is.is_partition;
    together = λ f h small few apart.
        let now = is.together f h small few apart in
        let more = quiet n m f h other in
        (λ t. ((now.0 t).0, more.0 (now.0 t).1), λ q. now.1 (q.0, more.1 q.1));
  }

  -- and with what an instance of it says it is that with one core instance more
  refined_to : (n m : ℕ) (r : ModuleRecord) (given : List (Given GraphEnd)) (keys : List (Option ContextKey))
      (s : ImportIndex) (p q : SameVmctxPartition)
      → slice_get (graph_cores g records) n ≡ Some (of_record m r given) → TakeAll g records given keys → IsIndex r s
      → IsRefined p (function_keys s keys) q → IsPartitionTo g records n m r p → IsPartitionTo g records (n + 1) m r q
  refined_to n m r given keys s p q here take index refined is = record {
    is_partition = refined.meet.is_partition;
    together = λ f h small few apart.
        let now = is.together f h small few apart in
        let met = refined.meet.together f h in
        let said = refined.of_keys.together f h in
        let share = shares g records r given keys s take index f h apart in
        let more = telling n m f h r given here in (
          λ t.
              let both = met.0 t in
              ((now.0 both.0).0, more.0 ((now.0 both.0).1, share.0 (said.0 both.1))),
          λ x.
              let both = more.1 x.1 in
              met.1 (now.1 (x.0, both.0), said.1 (share.1 both.1)),
        );
  }

  -- all partitions, with one core instance more
  pub one_more : (indexes : List ImportIndex) (n : ℕ) (c : Core GraphEnd) (x : Made) (old new : List SameVmctxPartition)
      → AreIndexes records indexes → slice_get (graph_cores g records) n ≡ Some c → IsMade g records c x
      → Refines indexes x old new → ArePartitionsTo g records n old → ArePartitionsTo g records (n + 1) new
  one_more indexes n (of_record m r given) (made.Module k keys) old new all at (same, held, take) refines are =
      step (index_of records indexes m r all held)
    where
      step : (s : ImportIndex) × (slice_get indexes m ≡ Some s) × IsIndex r s → ArePartitionsTo g records (n + 1) new
      step (s, found, index) =
          let x = refines s (ap (slice_get indexes) same ∙ found) in
          let within : k.0 < length old = slice_get_within old k.0 x.before x.there in
          record {
            count = ap length x.is ∙ length-set old k.0 x.after ∙ are.count;
            each = λ j t p held_t at_p. elim (cases_eq j k.0) [
              | inl here ↦
                  let number : j ≡ m = here ∙ same in
                  let it : r ≡ t =
                  same_Some r t (sym held ∙ ap (slice_get records) (sym number) ∙ held_t) in
                  let is : x.after ≡ p =
                  same_Some x.after p
                  (sym (ap (λ ps. slice_get ps k.0) x.is ∙ slice_get-set_same old k.0 x.after within)
                  ∙ ap (slice_get new) (sym here) ∙ at_p) in
                  let before : IsPartitionTo g records n m r x.before =
                  are.each m r x.before held (ap (slice_get old) (sym same) ∙ x.there) in
                  let after : IsPartitionTo g records (n + 1) m r x.after =
                  refined_to n m r given keys s x.before x.after at take index x.refined before in
                  subst (λ i. IsPartitionTo g records (n + 1) i t p) (sym number)
                  (subst (λ u. IsPartitionTo g records (n + 1) m u p) it
                  (subst (IsPartitionTo g records (n + 1) m r) is after))
              | inr other ↦
                  kept_to n j t p
                  (λ u xs here. other (sym (one_module (graph_cores g records) n at here).0 ∙ sym same))
                  (are.each j t p held_t
                  (sym (ap (λ ps. slice_get ps j) x.is ∙ slice_get-set_other old k.0 j x.after other) ∙ at_p))
            ];
          }
  one_more indexes n (of_record m r given) made.Host old new all at h refines are = absurd h
  one_more indexes n of_host (made.Module k keys) old new all at h refines are = absurd h
  one_more indexes n of_host made.Host old new all at h refines are = record {
    count = ap length refines ∙ are.count;
    each = λ j t p held_t at_p.
        kept_to n j t p (λ u xs here. other (same_Some _ _ (sym at ∙ here)))
        (are.each j t p held_t (sym (ap (λ ps. slice_get ps j) refines) ∙ at_p));
  }
    where
      other : {j : ℕ} {u : ModuleRecord} {xs : List (Given GraphEnd)} → of_host ≡ of_record j u xs → ⊥
      other e = cc

  -- what is recorded by a partition that all core instances are looked at for
  pub all_told : (m : ℕ) (r : ModuleRecord) (p : SameVmctxPartition) (recorded : ℕ → Option ℕ)
      → IsPartitionTo g records (length (graph_cores g records)) m r p
      → AreRecorded (imported r kind.Func) (representative p) recorded → RecordsContexts g records m r recorded
  unfolding AlwaysShare
  all_told m r p recorded is exact = record {
    representative = representative p;
    partitioned = record {
      together = λ f h small few apart.
          let now = is.together f h small few apart in (
            λ t. ((now.0 t).0, λ n s xs at. (now.0 t).1 n s xs (slice_get_within (graph_cores g records) n _ at) at),
            λ x. now.1 (x.0, λ n s xs below at. x.1 n s xs at),
          );
      own = λ f small. is.is_partition.own f;
      least = λ f small. is.is_partition.below f;
    };
    exact = exact;
  }
