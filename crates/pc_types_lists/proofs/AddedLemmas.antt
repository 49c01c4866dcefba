-- What steps add, one after another, and what a type adds that is put into its list.
use Rattle.std.proofs.Common.{◌≡◌, ◌≤◌, ◌<◌, ◌⊎◌, ℕ, List, [], ◌∷◌, length}
use Rattle.std.proofs.Common.{Some, sym, subst, ap, inl, inr, arith, suc, zero}
use Rattle.std.proofs.Common.{◌∙◌, ◌++◌}
use Rattle.std.specs.Prelude.{slice_get}
use Rattle.std.proofs.lemmas.List.{length_push}
use Rattle.pc_entity.proofs.Growing.{slice_get-append_seam}
use Rattle.pc_types.specs.declared.types.TypeKind.{TypeKind}
use Rattle.pc_types.specs.declared.types.TypeKind.TheVariants as kind
use Rattle.pc_types.specs.declared.types.TypeFunc.{TypeFunc}
use Rattle.pc_types.specs.declared.types.TypeTuple.{TypeTuple}
use Rattle.pc_types.specs.declared.types.TypeRecord.{TypeRecord}
use Rattle.pc_types.specs.declared.types.TypeVariant.{TypeVariant}
use Rattle.pc_types.specs.declared.types.TypeList.{TypeList}
use Rattle.pc_types.specs.declared.types.TypeOption.{TypeOption}
use Rattle.pc_types.specs.declared.types.TypeResult.{TypeResult}
use Rattle.pc_types.specs.declared.types.TypeFlags.{TypeFlags}
use Rattle.pc_types.specs.declared.types.TypeEnum.{TypeEnum}
use Rattle.pc_types.specs.declared.types.TypeResourceTable.{TypeResourceTable}
use Rattle.pc_types.specs.declared.types.TypeFutureTable.{TypeFutureTable}
use Rattle.pc_types.specs.declared.types.TypeStreamTable.{TypeStreamTable}
use Rattle.pc_types.specs.declared.types.TypeErrorContextTable.{TypeErrorContextTable}
use Rattle.pc_types.specs.declared.types.TypeComponentInstance.{TypeComponentInstance}
use Rattle.pc_types.specs.declared.types.TypeComponent.{TypeComponent}
use Rattle.pc_types.specs.declared.types.TypeModule.{TypeModule}
use Rattle.pc_types.specs.declared.parsed.CoreFuncSig.{CoreFuncSig}
use Rattle.pc_types_lists.specs.Types.{Types, held}
use Rattle.pc_types_lists.specs.Interned.{IsPut}
use Rattle.pc_types_lists.specs.Added.{AddsOnly}

-- a number is below another, or isn't
pub below_or : (i n : ℕ) → (i < n) ⊎ (n ≤ i)
below_or zero zero = inr (omega arith)
below_or zero (suc n) = inl (omega arith)
below_or (suc i) zero = inr (omega arith)
below_or (suc i) (suc n) = elim (below_or i n) as (λ _. (suc i < suc n) ⊎ (suc n ≤ suc i)) [
  | inl below ↦ inl (omega (arith, below))
  | inr above ↦ inr (omega (arith, above))
]

-- what changes nothing adds nothing
pub only_none : (Q : TypeKind → ℕ → Type 0) (a b : Types) → b ≡ a → AddsOnly Q a b
only_none Q a b same = subst (AddsOnly Q a) (sym same)
    (record { each = λ k i above below. absurd (omega (arith, above, below)) })

-- two steps together
pub only_both : (Q : TypeKind → ℕ → Type 0) (a b c : Types) → AddsOnly Q a b → AddsOnly Q b c → AddsOnly Q a c
only_both Q a b c first second = record {
  each = λ k i above below. elim (below_or i (held b k)) as (λ _. Q k i) [
    | inl early ↦ first.each k i above early
    | inr late ↦ second.each k i late below
  ];
}

-- what each new number has, and what follows from it
pub only_more : (Q R : TypeKind → ℕ → Type 0) → ((k : TypeKind) (i : ℕ) → Q k i → R k i) → (a b : Types)
    → AddsOnly Q a b → AddsOnly R a b
only_more Q R more a b adds = record { each = λ k i above below. more k i (adds.each k i above below) }

-- the new number of a list is that of the type that was put into it
pub put_there : {V : Type 0} (old new : List V) (value : V) → IsPut old new value → (i : ℕ) → length old ≤ i
    → i < length new → slice_get new i ≡ Some value
put_there old new value put i above below = elim put as (λ _. slice_get new i ≡ Some value) [
  | inl same ↦ absurd (omega (arith, above, below, ap length same))
  | inr more ↦ (
      let last : i ≡ length old = omega (arith, above, below, ap length more.0 ∙ length_push old value) in
      subst (λ xs. slice_get xs i ≡ Some value) (sym more.0)
      (subst (λ n. slice_get (old ++ value ∷ []) n ≡ Some value) (sym last) (slice_get-append_seam old value [])))
]

module _ (Q : TypeKind → ℕ → Type 0) (old new : Types) where
  -- a type that was put into the list of its kind: funcs
  pub only_funcs : (value : TypeFunc) → new ≡ record old { funcs = new.funcs } → IsPut old.funcs new.funcs value
      → ((i : ℕ) → slice_get new.funcs i ≡ Some value → Q kind.Func i) → AddsOnly Q old new
  only_funcs value rest put give = record {
    each = λ k i above below. by k i above (subst (λ n. i < n) (ap (λ (t : Types). held t k) rest) below);
  }
    where
      by : (k : TypeKind) (i : ℕ) → held old k ≤ i → i < held (record old { funcs = new.funcs }) k → Q k i
      by kind.Func i above below = give i (put_there old.funcs new.funcs value put i above below)
      by k i above below = absurd (omega (arith, above, below))

  -- a type that was put into the list of its kind: tuples
  pub only_tuples : (value : TypeTuple) → new ≡ record old { tuples = new.tuples } → IsPut old.tuples new.tuples value
      → ((i : ℕ) → slice_get new.tuples i ≡ Some value → Q kind.Tuple i) → AddsOnly Q old new
  only_tuples value rest put give = record {
    each = λ k i above below. by k i above (subst (λ n. i < n) (ap (λ (t : Types). held t k) rest) below);
  }
    where
      by : (k : TypeKind) (i : ℕ) → held old k ≤ i → i < held (record old { tuples = new.tuples }) k → Q k i
      by kind.Tuple i above below = give i (put_there old.tuples new.tuples value put i above below)
      by k i above below = absurd (omega (arith, above, below))

  -- a type that was put into the list of its kind: records
  pub only_records : (value : TypeRecord) → new ≡ record old { records = new.records }
      → IsPut old.records new.records value
      → ((i : ℕ) → slice_get new.records i ≡ Some value → Q kind.Record i) → AddsOnly Q old new
  only_records value rest put give = record {
    each = λ k i above below. by k i above (subst (λ n. i < n) (ap (λ (t : Types). held t k) rest) below);
  }
    where
      by : (k : TypeKind) (i : ℕ) → held old k ≤ i → i < held (record old { records = new.records }) k → Q k i
      by kind.Record i above below = give i (put_there old.records new.records value put i above below)
      by k i above below = absurd (omega (arith, above, below))

  -- a type that was put into the list of its kind: variants
  pub only_variants : (value : TypeVariant) → new ≡ record old { variants = new.variants }
      → IsPut old.variants new.variants value
      → ((i : ℕ) → slice_get new.variants i ≡ Some value → Q kind.Variant i) → AddsOnly Q old new
  only_variants value rest put give = record {
    each = λ k i above below. by k i above (subst (λ n. i < n) (ap (λ (t : Types). held t k) rest) below);
  }
    where
      by : (k : TypeKind) (i : ℕ) → held old k ≤ i → i < held (record old { variants = new.variants }) k → Q k i
      by kind.Variant i above below = give i (put_there old.variants new.variants value put i above below)
      by k i above below = absurd (omega (arith, above, below))

  -- a type that was put into the list of its kind: lists
  pub only_lists : (value : TypeList) → new ≡ record old { lists = new.lists } → IsPut old.lists new.lists value
      → ((i : ℕ) → slice_get new.lists i ≡ Some value → Q kind.List i) → AddsOnly Q old new
  only_lists value rest put give = record {
    each = λ k i above below. by k i above (subst (λ n. i < n) (ap (λ (t : Types). held t k) rest) below);
  }
    where
      by : (k : TypeKind) (i : ℕ) → held old k ≤ i → i < held (record old { lists = new.lists }) k → Q k i
      by kind.List i above below = give i (put_there old.lists new.lists value put i above below)
      by k i above below = absurd (omega (arith, above, below))

  -- a type that was put into the list of its kind: options
  pub only_options : (value : TypeOption) → new ≡ record old { options = new.options }
      → IsPut old.options new.options value
      → ((i : ℕ) → slice_get new.options i ≡ Some value → Q kind.Option i) → AddsOnly Q old new
  only_options value rest put give = record {
    each = λ k i above below. by k i above (subst (λ n. i < n) (ap (λ (t : Types). held t k) rest) below);
  }
    where
      by : (k : TypeKind) (i : ℕ) → held old k ≤ i → i < held (record old { options = new.options }) k → Q k i
      by kind.Option i above below = give i (put_there old.options new.options value put i above below)
      by k i above below = absurd (omega (arith, above, below))

  -- a type that was put into the list of its kind: results
  pub only_results : (value : TypeResult) → new ≡ record old { results = new.results }
      → IsPut old.results new.results value
      → ((i : ℕ) → slice_get new.results i ≡ Some value → Q kind.Result i) → AddsOnly Q old new
  only_results value rest put give = record {
    each = λ k i above below. by k i above (subst (λ n. i < n) (ap (λ (t : Types). held t k) rest) below);
  }
    where
      by : (k : TypeKind) (i : ℕ) → held old k ≤ i → i < held (record old { results = new.results }) k → Q k i
      by kind.Result i above below = give i (put_there old.results new.results value put i above below)
      by k i above below = absurd (omega (arith, above, below))

  -- a type that was put into the list of its kind: flags
  pub only_flags : (value : TypeFlags) → new ≡ record old { flags = new.flags } → IsPut old.flags new.flags value
      → ((i : ℕ) → slice_get new.flags i ≡ Some value → Q kind.Flags i) → AddsOnly Q old new
  only_flags value rest put give = record {
    each = λ k i above below. by k i above (subst (λ n. i < n) (ap (λ (t : Types). held t k) rest) below);
  }
    where
      by : (k : TypeKind) (i : ℕ) → held old k ≤ i → i < held (record old { flags = new.flags }) k → Q k i
      by kind.Flags i above below = give i (put_there old.flags new.flags value put i above below)
      by k i above below = absurd (omega (arith, above, below))

  -- a type that was put into the list of its kind: enums
  pub only_enums : (value : TypeEnum) → new ≡ record old { enums = new.enums } → IsPut old.enums new.enums value
      → ((i : ℕ) → slice_get new.enums i ≡ Some value → Q kind.Enum i) → AddsOnly Q old new
  only_enums value rest put give = record {
    each = λ k i above below. by k i above (subst (λ n. i < n) (ap (λ (t : Types). held t k) rest) below);
  }
    where
      by : (k : TypeKind) (i : ℕ) → held old k ≤ i → i < held (record old { enums = new.enums }) k → Q k i
      by kind.Enum i above below = give i (put_there old.enums new.enums value put i above below)
      by k i above below = absurd (omega (arith, above, below))

  -- a type that was put into the list of its kind: resource_tables
  pub only_resource_tables : (value : TypeResourceTable)
      → new ≡ record old { resource_tables = new.resource_tables } → IsPut old.resource_tables new.resource_tables value
      → ((i : ℕ) → slice_get new.resource_tables i ≡ Some value → Q kind.ResourceTable i) → AddsOnly Q old new
  only_resource_tables value rest put give = record {
    each = λ k i above below. by k i above (subst (λ n. i < n) (ap (λ (t : Types). held t k) rest) below);
  }
    where
      by : (k : TypeKind) (i : ℕ) → held old k ≤ i
          → i < held (record old { resource_tables = new.resource_tables }) k → Q k i
      by kind.ResourceTable i above below = give i (put_there old.resource_tables new.resource_tables value put i
          above below)
      by k i above below = absurd (omega (arith, above, below))

  -- a type that was put into the list of its kind: future_tables
  pub only_future_tables : (value : TypeFutureTable) → new ≡ record old { future_tables = new.future_tables }
      → IsPut old.future_tables new.future_tables value
      → ((i : ℕ) → slice_get new.future_tables i ≡ Some value → Q kind.FutureTable i) → AddsOnly Q old new
  only_future_tables value rest put give = record {
    each = λ k i above below. by k i above (subst (λ n. i < n) (ap (λ (t : Types). held t k) rest) below);
  }
    where
      by : (k : TypeKind) (i : ℕ) → held old k ≤ i → i < held (record old { future_tables = new.future_tables }) k
          → Q k i
      by kind.FutureTable i above below = give i (put_there old.future_tables new.future_tables value put i above below)
      by k i above below = absurd (omega (arith, above, below))

  -- a type that was put into the list of its kind: stream_tables
  pub only_stream_tables : (value : TypeStreamTable) → new ≡ record old { stream_tables = new.stream_tables }
      → IsPut old.stream_tables new.stream_tables value
      → ((i : ℕ) → slice_get new.stream_tables i ≡ Some value → Q kind.StreamTable i) → AddsOnly Q old new
  only_stream_tables value rest put give = record {
    each = λ k i above below. by k i above (subst (λ n. i < n) (ap (λ (t : Types). held t k) rest) below);
  }
    where
      by : (k : TypeKind) (i : ℕ) → held old k ≤ i → i < held (record old { stream_tables = new.stream_tables }) k
          → Q k i
      by kind.StreamTable i above below = give i (put_there old.stream_tables new.stream_tables value put i above below)
      by k i above below = absurd (omega (arith, above, below))

  -- a type that was put into the list of its kind: error_context_tables
  pub only_error_context_tables : (value : TypeErrorContextTable)
      → new ≡ record old { error_context_tables = new.error_context_tables }
      → IsPut old.error_context_tables new.error_context_tables value
      → ((i : ℕ) → slice_get new.error_context_tables i ≡ Some value → Q kind.ErrorContextTable i) → AddsOnly Q old new
  only_error_context_tables value rest put give = record {
    each = λ k i above below. by k i above (subst (λ n. i < n) (ap (λ (t : Types). held t k) rest) below);
  }
    where
      by : (k : TypeKind) (i : ℕ) → held old k ≤ i
          → i < held (record old { error_context_tables = new.error_context_tables }) k → Q k i
      by kind.ErrorContextTable i above below = give i (put_there old.error_context_tables new.error_context_tables
          value put i above below)
      by k i above below = absurd (omega (arith, above, below))

  -- a type that was put into the list of its kind: instances
  pub only_instances : (value : TypeComponentInstance) → new ≡ record old { instances = new.instances }
      → IsPut old.instances new.instances value
      → ((i : ℕ) → slice_get new.instances i ≡ Some value → Q kind.Instance i) → AddsOnly Q old new
  only_instances value rest put give = record {
    each = λ k i above below. by k i above (subst (λ n. i < n) (ap (λ (t : Types). held t k) rest) below);
  }
    where
      by : (k : TypeKind) (i : ℕ) → held old k ≤ i → i < held (record old { instances = new.instances }) k → Q k i
      by kind.Instance i above below = give i (put_there old.instances new.instances value put i above below)
      by k i above below = absurd (omega (arith, above, below))

  -- a type that was put into the list of its kind: components
  pub only_components : (value : TypeComponent) → new ≡ record old { components = new.components }
      → IsPut old.components new.components value
      → ((i : ℕ) → slice_get new.components i ≡ Some value → Q kind.Component i) → AddsOnly Q old new
  only_components value rest put give = record {
    each = λ k i above below. by k i above (subst (λ n. i < n) (ap (λ (t : Types). held t k) rest) below);
  }
    where
      by : (k : TypeKind) (i : ℕ) → held old k ≤ i → i < held (record old { components = new.components }) k → Q k i
      by kind.Component i above below = give i (put_there old.components new.components value put i above below)
      by k i above below = absurd (omega (arith, above, below))

  -- a type that was put into the list of its kind: modules
  pub only_modules : (value : TypeModule) → new ≡ record old { modules = new.modules }
      → IsPut old.modules new.modules value
      → ((i : ℕ) → slice_get new.modules i ≡ Some value → Q kind.Module i) → AddsOnly Q old new
  only_modules value rest put give = record {
    each = λ k i above below. by k i above (subst (λ n. i < n) (ap (λ (t : Types). held t k) rest) below);
  }
    where
      by : (k : TypeKind) (i : ℕ) → held old k ≤ i → i < held (record old { modules = new.modules }) k → Q k i
      by kind.Module i above below = give i (put_there old.modules new.modules value put i above below)
      by k i above below = absurd (omega (arith, above, below))

  -- a type that was put into the list of its kind: signatures
  pub only_signatures : (value : CoreFuncSig) → new ≡ record old { signatures = new.signatures }
      → IsPut old.signatures new.signatures value
      → ((i : ℕ) → slice_get new.signatures i ≡ Some value → Q kind.Signature i) → AddsOnly Q old new
  only_signatures value rest put give = record {
    each = λ k i above below. by k i above (subst (λ n. i < n) (ap (λ (t : Types). held t k) rest) below);
  }
    where
      by : (k : TypeKind) (i : ℕ) → held old k ≤ i → i < held (record old { signatures = new.signatures }) k → Q k i
      by kind.Signature i above below = give i (put_there old.signatures new.signatures value put i above below)
      by k i above below = absurd (omega (arith, above, below))

  -- signatures alone
  pub only_in_signatures : new ≡ record old { signatures = new.signatures }
      → ((i : ℕ) → length old.signatures ≤ i → i < length new.signatures → Q kind.Signature i) → AddsOnly Q old new
  only_in_signatures rest give = record {
    each = λ k i above below. by k i above (subst (λ n. i < n) (ap (λ (t : Types). held t k) rest) below);
  }
    where
      by : (k : TypeKind) (i : ℕ) → held old k ≤ i → i < held (record old { signatures = new.signatures }) k → Q k i
      by kind.Signature i above below = give i above below
      by k i above below = absurd (omega (arith, above, below))
