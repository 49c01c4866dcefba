-- What is known of modules before any core instance is looked at.
use Rattle.std.proofs.Common.{◌≡◌, ◌≤◌, ◌+◌, ◌||◌, inl, inr, ℕ, zero, suc, Bool, true, false, List, [], length, take}
use Rattle.std.proofs.Common.{Some, refl, sym, ap, ◌∙◌, arith}
use Rattle.std.specs.Prelude.{slice_get, slice_set, replicate, ◌==◌}
use Rattle.std.specs.List.{list_any}
use Rattle.std.proofs.lemmas.Bool.{cases_eq}
use Rattle.std.proofs.lemmas.Bool.Decides.{nat_tests}
use Rattle.std.proofs.lemmas.List.{length-replicate, take_all}
use Rattle.std.proofs.lemmas.List.Folds.{list_any_more}
use Rattle.std.proofs.lemmas.Option.{get_or_from_slice_get, none-some, same_Some, slice_get_within}
use Rattle.std.proofs.Math.ListN.{length-set}
use Rattle.pc_entity.proofs.Growing.{slice_get-set_other, slice_get-set_same}
use Rattle.pc_numbers.specs.declared.component_entity.StaticModuleIndex.{StaticModuleIndex}
use Rattle.pc_partition.specs.declared.partition.SameVmctxPartition.{SameVmctxPartition}
use Rattle.pc_partition.specs.declared.partition.SameVmctxPartition.TheVariants as variant
use Rattle.pc_dfg.specs.declared.dfg.ComponentDfg.{ComponentDfg}
use Rattle.pc_dfg.specs.declared.export.Export.{Export}
use Rattle.pc_dfg.specs.declared.export.Export.TheVariants as export
use Rattle.pc_analysis_contexts.specs.Cores.{exports_static}
use Rattle.pc_analysis_contexts.specs.Shared.{AreStart, parted, start_of}

-- these are so many partitions, where so many exports were looked at
pub record AreParted (exports : List Export) (n count : ℕ) (partitions : List SameVmctxPartition) : Type 0 where
  pub size : length partitions ≡ count
  pub each : (m : ℕ) (p : SameVmctxPartition) → slice_get partitions m ≡ Some p
      → p ≡ start_of (list_any (exports_static m) (take n exports))

-- one item more may have a property that some have
any_next : {A : Type 0} (p : A → Bool) (xs : List A) (n : ℕ) (x : A) → slice_get xs n ≡ Some x
    → list_any p (take (n + 1) xs) ≡ (list_any p (take n xs) || p x)
any_next p xs n x at =
    list_any_more p xs n x (slice_get_within xs n x at)
    ∙ ap (λ y. list_any p (take n xs) || p y) (get_or_from_slice_get xs n x x at)

or_true : (b : Bool) → (b || true) ≡ true
or_true true = refl
or_true false = refl

or_false : (b : Bool) → (b || false) ≡ b
or_false true = refl
or_false false = refl

same_test : (a b : ℕ) → a ≡ b → (a == b) ≡ true
same_test a b e = grind (arith, nat_tests)

other_test : (a b : ℕ) → (a ≡ b → ⊥) → (a == b) ≡ false
other_test a b e = grind (arith, nat_tests)

-- so many partitions of which nothing is said
pub all_tops : (exports : List Export) (count : ℕ) → AreParted exports 0 count (replicate count variant.Top)
all_tops exports count = record {
  size = length-replicate count variant.Top;
  each = λ m p at. tops count m p at;
}
  where
    tops : (count m : ℕ) (p : SameVmctxPartition) → slice_get (replicate count variant.Top) m ≡ Some p
        → p ≡ variant.Top
    tops zero m p at = absurd (none-some p at)
    tops (suc count) zero p at = sym (same_Some variant.Top p at)
    tops (suc count) (suc m) p at = tops count m p at

module _ (exports : List Export) (n count : ℕ) (partitions : List SameVmctxPartition)
    (are : AreParted exports n count partitions) where
  -- an export that is no such module
  other_export : (x : Export) → slice_get exports n ≡ Some x → ((m : ℕ) → exports_static m x ≡ false)
      → AreParted exports (n + 1) count partitions
  other_export x at none = record {
    size = are.size;
    each = λ m p found.
        are.each m p found
        ∙ ap start_of (sym (any_next (exports_static m) exports n x at
        ∙ ap (λ b. list_any (exports_static m) (take n exports) || b) (none m)
        ∙ or_false (list_any (exports_static m) (take n exports))));
  }

  -- an export that is one
  static_export : (ty : ℕ) (k : StaticModuleIndex) → slice_get exports n ≡ Some (export.ModuleStatic ty k)
      → AreParted exports (n + 1) count (slice_set partitions k.0 (variant.Known []))
  static_export ty k at = record {
    size = length-set partitions k.0 (variant.Known []) ∙ are.size;
    each = λ m p found. elim (cases_eq m k.0) [
      | inl here ↦
          let is : variant.Known [] ≡ p =
          same_Some _ _
          (sym (slice_get-set_same partitions k.0 (variant.Known [])
          (omega (
            arith,
            here,
            slice_get_within (slice_set partitions k.0 (variant.Known [])) m p found,
            length-set partitions k.0 (variant.Known []),
          )))
          ∙ ap (slice_get (slice_set partitions k.0 (variant.Known []))) (sym here) ∙ found) in
          sym is
          ∙ ap start_of (sym (any_next (exports_static m) exports n _ at
          ∙ ap (λ b. list_any (exports_static m) (take n exports) || b) (same_test k.0 m (sym here))
          ∙ or_true (list_any (exports_static m) (take n exports))))
      | inr other ↦
          are.each m p (sym (slice_get-set_other partitions k.0 m (variant.Known []) other) ∙ found)
          ∙ ap start_of (sym (any_next (exports_static m) exports n _ at
          ∙ ap (λ b. list_any (exports_static m) (take n exports) || b)
          (other_test k.0 m (λ e. other (sym e))) ∙ or_false (list_any (exports_static m) (take n exports))))
    ];
  }

  -- one export more
  pub parted_more : (x : Export) → slice_get exports n ≡ Some x → AreParted exports (n + 1) count (parted x partitions)
  parted_more (export.LiftedFunction ty f o) at = other_export _ at (λ m. refl)
  parted_more (export.ImportedFunction ty i) at = other_export _ at (λ m. refl)
  parted_more (export.ModuleStatic ty k) at = static_export ty k at
  parted_more (export.ModuleImport ty i) at = other_export _ at (λ m. refl)
  parted_more (export.Instance ty es) at = other_export _ at (λ m. refl)
  parted_more (export.Type_ ty) at = other_export _ at (λ m. refl)

-- all exports
pub all_parted : (g : ComponentDfg) (n count : ℕ) (partitions : List SameVmctxPartition)
    → length g.export_items ≤ n → AreParted g.export_items n count partitions → AreStart g count partitions
all_parted g n count partitions past are = record {
  size = are.size;
  each = λ m p at.
      are.each m p at ∙ ap (λ es. start_of (list_any (exports_static m) es)) (take_all n g.export_items past);
}
