-- Maps that are filled from the first number on.
use Rattle.std.proofs.Common.{◌≡◌, ◌≢◌, ◌<◌, ◌≤◌, ◌+◌, ℕ, [], None, Option, refl, sym, ap, ◌∙◌, arith, inl, inr}
use Rattle.std.proofs.lemmas.Bool.{cases_eq, cases_lt}
use Rattle.std.proofs.Common.{List, length}
use Rattle.std.proofs.lemmas.List.Sums.{count_by-le-length}
use Rattle.std.proofs.lemmas.Option.{slice_get_past}
use Rattle.pc_entity.specs.SecondaryMap.{Defaulted, value_at}
use Rattle.pc_types.specs.declared.module_record.ModuleRecord.{ModuleRecord}
use Rattle.pc_types.specs.declared.parsed.CoreKind.{CoreKind}
use Rattle.pc_types.specs.declared.parsed.CoreKind.TheVariants as kind
use Rattle.pc_types.specs.Record.{entity_at, imported, imports_kind, places_from}
use Rattle.pc_analysis_imports.specs.declared.source.Source.{Source}
use Rattle.pc_analysis_imports.specs.declared.source.Source.TheVariants as source
use Rattle.pc_analysis_imports.specs.Imports.{import_source, source_at}
use Rattle.pc_analysis_imports.proofs.FollowedLemmas.{places_count}

-- the numbers below this one have their values, and no other number has one
pub record FilledTo {V : Type 0} (f : ℕ → Option V) (n : ℕ) (m : Defaulted (Option V)) : Type 0 where
  pub below : (k : ℕ) → k < n → value_at m k ≡ f k
  pub behind : (k : ℕ) → n ≤ k → value_at m k ≡ None

module _ {V : Type 0} (f : ℕ → Option V) where
  -- at the beginning
  pub filled_none : FilledTo f 0 (record { items = []; default = None })
  filled_none = record { below = λ k few. absurd (omega (arith, few)); behind = λ k many. refl }

  -- one number more
  pub filled_next : (n : ℕ) (m now : Defaulted (Option V)) → FilledTo f n m → value_at now n ≡ f n
      → ((k : ℕ) → k ≢ n → value_at now k ≡ value_at m k) → FilledTo f (n + 1) now
  filled_next n m now filled here elsewhere = record {
    below = λ k few. elim (cases_eq k n) [
      | inl same ↦ ap (value_at now) same ∙ here ∙ ap f (sym same)
      | inr other ↦ elsewhere k other ∙ filled.below k (less k few other)
    ];
    behind = λ k many. elsewhere k (λ same. omega (arith, same, many)) ∙ filled.behind k (omega (arith, many));
  }
    where
      less : (k : ℕ) → k < n + 1 → (k ≡ n → ⊥) → k < n
      less k few other = elim (cases_lt k n) [
        | inl below ↦ below
        | inr many ↦ absurd (other (omega (arith, few, many)))
      ]

  -- in the end, where all numbers behind have no value
  pub filled_all : (n : ℕ) (m : Defaulted (Option V)) → FilledTo f n m → ((k : ℕ) → n ≤ k → f k ≡ None) → (k : ℕ)
      → value_at m k ≡ f k
  filled_all n m filled none k = elim (cases_lt k n) [
    | inl few ↦ filled.below k few
    | inr many ↦ filled.behind k many ∙ sym (none k many)
  ]

-- behind the imports of a kind nothing is given
pub past_imports : (r : ModuleRecord) (given : List Source) (k : CoreKind) (n : ℕ) → imported r k ≤ n
    → import_source r given (entity_at k n) ≡ source.Unknown
past_imports r given kind.Func n many =
    ap (source_at given) (slice_get_past (places_from kind.Func 0 r.imports) n
    (omega (arith, many, places_count kind.Func 0 r.imports)))
past_imports r given kind.Table n many =
    ap (source_at given) (slice_get_past (places_from kind.Table 0 r.imports) n
    (omega (arith, many, places_count kind.Table 0 r.imports)))
past_imports r given kind.Memory n many =
    ap (source_at given) (slice_get_past (places_from kind.Memory 0 r.imports) n
    (omega (arith, many, places_count kind.Memory 0 r.imports)))
past_imports r given kind.Global n many =
    ap (source_at given) (slice_get_past (places_from kind.Global 0 r.imports) n
    (omega (arith, many, places_count kind.Global 0 r.imports)))
past_imports r given kind.Tag n many =
    ap (source_at given) (slice_get_past (places_from kind.Tag 0 r.imports) n
    (omega (arith, many, places_count kind.Tag 0 r.imports)))

-- the imports of a kind can be numbered where all imports can
pub few_imports : (r : ModuleRecord) (k : CoreKind) → length r.imports < 4294967295 → imported r k < 4294967295
few_imports r k few = omega (arith, few, count_by-le-length (imports_kind k) r.imports)
