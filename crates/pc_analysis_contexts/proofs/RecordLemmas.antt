-- What is recorded of modules.
use Rattle.std.proofs.Common.{◌≡◌, ◌≢◌, ◌<◌, ◌≤◌, ◌+◌, ◌↔◌, ◌⊎◌, inl, inr, ℕ, List, [], ◌∷◌, length, Option, Some}
use Rattle.std.proofs.Common.{refl, sym, ap, subst, ◌∙◌, arith}
use Rattle.std.specs.Prelude.{option_map, slice_get, slice_set, zero, suc, Result, Ok, Err, OnOk, OnErr}
use Rattle.std.proofs.lemmas.Bool.{cases_eq, cases_lt}
use Rattle.std.proofs.lemmas.List.{length-map}
use Rattle.std.proofs.lemmas.Option.{none-some, same_Some, slice_get_past, slice_get_within}
use Rattle.std.proofs.Math.ListN.{length-set}
use Rattle.pc_entity.proofs.Defaults.{value_at-set_other, value_at-set_same}
use Rattle.pc_entity.proofs.Growing.{slice_get-set_other, slice_get-set_same}
use Rattle.pc_entity.proofs.LookupLemmas.{found_at}
use Rattle.pc_entity.specs.PackedOption.{as_option}
use Rattle.pc_entity.specs.SecondaryMap.{Defaulted, with_value_at}
use Rattle.pc_entity.specs.declared.packed_option.PackedOption.{PackedOption}
use Rattle.pc_entity.specs.declared.packed_option.PackedOption.TheVariants as packed
use Rattle.pc_numbers.specs.declared.module_entity.FuncIndex.{FuncIndex}
use Rattle.pc_types.specs.declared.module_record.ModuleRecord.{ModuleRecord}
use Rattle.pc_types.specs.declared.parsed.CoreKind.TheVariants as kind
use Rattle.pc_types.specs.Record.{imported}
use Rattle.pc_info.specs.declared.module.ModuleTranslation.{ModuleTranslation}
use Rattle.pc_info.specs.Modules.{module_view}
use Rattle.pc_spec_facts.specs.Recorded.{representative_in}
use Rattle.pc_spec_wiring.specs.Sharing.{AreRecorded}
use Rattle.pc_partition.specs.Partition.{representative}
use Rattle.pc_partition.specs.declared.partition.SameVmctxPartition.{SameVmctxPartition}
use Rattle.pc_dfg.specs.declared.dfg.ComponentDfg.{ComponentDfg}
use Rattle.pc_analysis_contexts.specs.Cores.{graph_cores}
use Rattle.pc_analysis_contexts.specs.Recorded.{AreAllRecorded, AreKept, HasContexts, HaveFewImports, IsKept}
use Rattle.pc_analysis_contexts.specs.Recorded.{MayBeRecorded, RecordsContexts, records_of}
use Rattle.pc_analysis_contexts.specs.Shared.{IsPartitionTo, RecordsAt, recorded_in}
use Rattle.pc_analysis_contexts.proofs.IndexLemmas.{record_at}
use Rattle.pc_analysis_contexts.proofs.PartitionLemmas.{all_told}

-- what is recorded of one import, where so many are looked at
abbrev RecordsOne : (size : ℕ) → (least : ℕ → ℕ) → (recorded : ℕ → Option ℕ) → (f g : ℕ) → Type 0
RecordsOne size least recorded f g = (recorded f ≡ Some g) ↔ ((f < size) × (g ≢ f) × (g ≡ least f))

-- that of all imports, one by one
opened : (size : ℕ) (least : ℕ → ℕ) (recorded : ℕ → Option ℕ) → AreRecorded size least recorded → (f g : ℕ)
    → RecordsOne size least recorded f g
unfolding AreRecorded
opened size least recorded are = are

closed : (size : ℕ) (least : ℕ → ℕ) (recorded : ℕ → Option ℕ) → ((f g : ℕ) → RecordsOne size least recorded f g)
    → AreRecorded size least recorded
unfolding AreRecorded
closed size least recorded are = are

module _ (least : ℕ → ℕ) where
  -- nothing is recorded at first
  pub none_recorded : AreRecorded 0 least (recorded_in (record { items = []; default = packed.None }))
  none_recorded =
      closed 0 least _ (λ f g. (λ e. absurd (none-some g e), λ p. absurd (omega (arith, p.0))))

  module _ (k : ℕ) (facts : Defaulted (PackedOption FuncIndex)) (are : AreRecorded k least (recorded_in facts)) where
    -- an import that represents itself isn't recorded
    own_one : least k ≡ k → (f g : ℕ) → RecordsOne (k + 1) least (recorded_in facts) f g
    own_one own f g = (there, back)
      where
        there : recorded_in facts f ≡ Some g → (f < k + 1) × (g ≢ f) × (g ≡ least f)
        there e =
            let p = (opened k least (recorded_in facts) are f g).0 e in
            (omega (arith, p.0), p.1, p.2)

        back : (f < k + 1) × (g ≢ f) × (g ≡ least f) → recorded_in facts f ≡ Some g
        back (small, other, is) = elim (cases_lt f k) [
          | inl before ↦ (opened k least (recorded_in facts) are f g).1 (before, other, is)
          | inr past ↦
              let here : f ≡ k = omega (arith, past, small) in
              absurd (other (is ∙ ap least here ∙ own ∙ sym here))
        ]

    pub own_recorded : least k ≡ k → AreRecorded (k + 1) least (recorded_in facts)
    own_recorded own = closed (k + 1) least (recorded_in facts) (own_one own)

    -- and another one is
    more_one : (x : FuncIndex) → x.0 ≡ least k → x.0 ≢ k → (f g : ℕ)
        → RecordsOne (k + 1) least (recorded_in (with_value_at facts k (packed.Some x))) f g
    more_one x is other f g = by (cases_eq f k)
      where
        by : (f ≡ k) ⊎ (f ≡ k → ⊥)
            → RecordsOne (k + 1) least (recorded_in (with_value_at facts k (packed.Some x))) f g
        by (inl here) =
            let value : recorded_in (with_value_at facts k (packed.Some x)) f ≡ Some x.0 =
            ap (recorded_in (with_value_at facts k (packed.Some x))) here
            ∙ ap (λ v. option_map (λ (r : FuncIndex). r.0) (as_option v))
            (value_at-set_same facts k (packed.Some x)) in (
              λ e.
                  let same : x.0 ≡ g = same_Some x.0 g (sym value ∙ e) in
                  (omega (arith, here), λ y. other (same ∙ y ∙ here), sym same ∙ is ∙ ap least (sym here)),
              λ p. value ∙ ap Some (is ∙ ap least (sym here) ∙ sym p.2),
            )
        by (inr apart) =
            let value : recorded_in (with_value_at facts k (packed.Some x)) f ≡ recorded_in facts f =
            ap (λ v. option_map (λ (r : FuncIndex). r.0) (as_option v))
            (value_at-set_other facts k f (packed.Some x) apart) in (
              λ e.
                  let p = (opened k least (recorded_in facts) are f g).0 (sym value ∙ e) in
                  (omega (arith, p.0), p.1, p.2),
              λ p.
                  let before : f < k = omega (arith, p.0, apart) in
                  value ∙ (opened k least (recorded_in facts) are f g).1 (before, p.1, p.2),
            )

    pub more_recorded : (x : FuncIndex) → x.0 ≡ least k → x.0 ≢ k
        → AreRecorded (k + 1) least (recorded_in (with_value_at facts k (packed.Some x)))
    more_recorded x is other = closed (k + 1) least _ (more_one x is other)

-- a module that is kept twice is kept
kept_twice : (x y z : ModuleTranslation) → IsKept x y → IsKept y z → IsKept x z
kept_twice x y z one two =
    two ∙ ap (λ (w : ModuleTranslation). record w {
      imported_func_vmctx_representative = z.imported_func_vmctx_representative;
    }) one

-- the first modules have their contexts, the others are as they were
pub record AreWritten (g : ComponentDfg) (old : List ModuleTranslation) (k : ℕ) (new : List ModuleTranslation)
    : Type 0 where
  pub kept : AreKept old new
  pub done : (m : ℕ) (y : ModuleTranslation) → m < k → slice_get new m ≡ Some y → HasContexts g (records_of old) m y
  pub rest : (m : ℕ) → k ≤ m → slice_get new m ≡ slice_get old m

module _ (old new : List ModuleTranslation) (kept : AreKept old new) where
  -- modules that are kept have their records
  same_records : (m : ℕ) → slice_get (records_of new) m ≡ slice_get (records_of old) m
  same_records m = elim (cases_lt m (length old)) [
    | inl within ↦
        let x = found_at old m within in
        let y = found_at new m (omega (arith, within, kept.count)) in
        record_at new m y.0 y.1 ∙ ap (λ (z : ModuleTranslation). Some z.«module») (kept.each m x.0 y.0 x.1 y.1)
        ∙ sym (record_at old m x.0 x.1)
    | inr past ↦
        slice_get_past (records_of new) m (omega (arith, past, kept.count, length-map new module_view))
        ∙ sym (slice_get_past (records_of old) m (omega (arith, past, length-map old module_view)))
  ]

  pub few_kept : HaveFewImports (records_of old) → HaveFewImports (records_of new)
  few_kept few m r at = few m r (sym (same_records m) ∙ at)

module _ (g : ComponentDfg) (old : List ModuleTranslation) where
  -- at first all modules are as they were
  pub none_written : AreWritten g old 0 old
  none_written = record {
    kept = record {
      count = refl;
      each = λ m x y at here. subst (IsKept x) (same_Some x y (sym at ∙ here)) refl;
    };
    done = λ m y below at. absurd (omega (arith, below));
    rest = λ m past. refl;
  }

  -- one module more has its contexts
  pub more_written : (k : ℕ) (p : SameVmctxPartition) (now new : List ModuleTranslation) → AreWritten g old k now
      → RecordsAt (representative p) k now new
      → ((r : ModuleRecord) → slice_get (records_of old) k ≡ Some r
      → IsPartitionTo g (records_of old) (length (graph_cores g (records_of old))) k r p)
      → AreWritten g old (k + 1) new
  more_written k p now new are w is =
      let within : k < length now = slice_get_within now k w.before w.there in
      let here : slice_get new k ≡ Some w.after =
      ap (λ ms. slice_get ms k) w.is ∙ slice_get-set_same now k w.after within in
      let there : (m : ℕ) → (m ≡ k → ⊥) → slice_get new m ≡ slice_get now m =
      λ m other. ap (λ ms. slice_get ms m) w.is ∙ slice_get-set_other now k m w.after other in
      let first = found_at old k (omega (arith, within, are.kept.count)) in
      let kept : IsKept first.0 w.before = are.kept.each k first.0 w.before first.1 w.there in
      let same : w.before.«module» ≡ first.0.«module» = ap (λ (z : ModuleTranslation). z.«module») kept in
      let after : w.after.«module» ≡ first.0.«module» = ap (λ (z : ModuleTranslation). z.«module») w.kept ∙ same in
      let told : RecordsContexts g (records_of old) k first.0.«module» (representative_in w.after) =
      all_told g (records_of old) k first.0.«module» p (representative_in w.after)
      (is first.0.«module» (record_at old k first.0 first.1))
      (subst (λ (r : ModuleRecord). AreRecorded (imported r kind.Func) (representative p) (representative_in w.after))
      same w.recorded) in
      record {
        kept = record {
          count = ap length w.is ∙ length-set now k w.after ∙ are.kept.count;
          each = λ m x y at now_at. elim (cases_eq m k) [
            | inl e ↦
                let x_is : first.0 ≡ x = same_Some first.0 x (sym first.1 ∙ ap (slice_get old) (sym e) ∙ at) in
                let y_is : w.after ≡ y = same_Some w.after y (sym here ∙ ap (slice_get new) (sym e) ∙ now_at) in
                subst (λ z. IsKept z y) x_is
                (subst (IsKept first.0) y_is (kept_twice first.0 w.before w.after kept w.kept))
            | inr other ↦ are.kept.each m x y at (sym (there m other) ∙ now_at)
          ];
        };
        done = λ m y below at. elim (cases_eq m k) [
          | inl e ↦
              let y_is : w.after ≡ y = same_Some w.after y (sym here ∙ ap (slice_get new) (sym e) ∙ at) in
              subst (λ i. HasContexts g (records_of old) i y) (sym e)
              (subst (HasContexts g (records_of old) k) y_is
              (subst (λ r. RecordsContexts g (records_of old) k r (representative_in w.after)) (sym after) told))
          | inr other ↦
              let before : m < k = omega (arith, below, other) in
              are.done m y before (sym (there m other) ∙ at)
        ];
        rest = λ m past.
            there m (λ e. omega (arith, past, e)) ∙ are.rest m (omega (arith, past));
      }

  -- all modules have their contexts
  pub all_written : (k : ℕ) (new : List ModuleTranslation) → AreWritten g old k new → length old ≤ k
      → AreAllRecorded g old new
  all_written k new are past m y at =
      are.done m y (omega (arith, past, are.kept.count, slice_get_within new m y at)) at

  -- each has them, or is as it was
  pub some_written : (k : ℕ) (new : List ModuleTranslation) → AreWritten g old k new → MayBeRecorded g old new
  some_written k new are m x y at here = elim (cases_lt m k) [
    | inl before ↦ inr (are.done m y before here)
    | inr past ↦ inl (same_Some y x (sym here ∙ are.rest m past ∙ at))
  ]

-- what follows from two facts of a call that succeeds
pub both_ok : {T E A B C : Type 0} (r : Result T E) → (A → B → C) → OnOk r A → OnOk r B → OnOk r C
both_ok (Ok x) f a b = f a b
both_ok (Err e) f a b = a

-- and from one of a call that is refused
pub err_then : {T E A B : Type 0} (r : Result T E) → (A → B) → OnErr r A → OnErr r B
err_then (Ok x) f a = a
err_then (Err e) f a = f a

-- a list in which an item is written over itself
pub set_same : {A : Type 0} (xs : List A) (i : ℕ) (x : A) → slice_get xs i ≡ Some x → slice_set xs i x ≡ xs
set_same [] i x at = absurd (none-some x at)
set_same (y ∷ ys) zero x at = ap (λ z. z ∷ ys) (sym (same_Some y x at))
set_same (y ∷ ys) (suc i) x at = ap (λ zs. y ∷ zs) (set_same ys i x at)
