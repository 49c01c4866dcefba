-- A list that grows, and all lists with it.
use Rattle.std.proofs.Common.{◌≡◌, ◌≤◌, ℕ, List, [], ◌∷◌, length, Contains, Some, sym, subst, ◌∙◌, inl, inr}
use Rattle.std.proofs.Common.{arith, get_or}
use Rattle.std.specs.Prelude.{slice_get}
use Rattle.std.proofs.lemmas.Option.{same_Some, slice_get-get_or, slice_get_within}
use Rattle.pc_entity.specs.Lists.{Kept}
use Rattle.pc_entity.proofs.Growing.{append_kept, kept_refl, kept_trans}
use Rattle.pc_types.specs.declared.types.TypeFunc.{TypeFunc}
use Rattle.pc_types.specs.declared.types.TypeTuple.{TypeTuple}
use Rattle.pc_types.specs.declared.types.TypeRecord.{TypeRecord}
use Rattle.pc_types.specs.declared.types.TypeVariant.{TypeVariant}
use Rattle.pc_types.specs.declared.types.TypeList.{TypeList}
use Rattle.pc_types.specs.declared.types.TypeOption.{TypeOption}
use Rattle.pc_types.specs.declared.types.TypeResult.{TypeResult}
use Rattle.pc_types.specs.declared.types.TypeFlags.{TypeFlags}
use Rattle.pc_types.specs.declared.types.TypeEnum.{TypeEnum}
use Rattle.pc_types.specs.declared.types.TypeResourceTable.{TypeResourceTable}
use Rattle.pc_types.specs.declared.types.TypeFutureTable.{TypeFutureTable}
use Rattle.pc_types.specs.declared.types.TypeStreamTable.{TypeStreamTable}
use Rattle.pc_types.specs.declared.types.TypeErrorContextTable.{TypeErrorContextTable}
use Rattle.pc_types.specs.declared.types.TypeComponentInstance.{TypeComponentInstance}
use Rattle.pc_types.specs.declared.types.TypeComponent.{TypeComponent}
use Rattle.pc_types.specs.declared.types.TypeModule.{TypeModule}
use Rattle.pc_types.specs.declared.parsed.CoreFuncSig.{CoreFuncSig}
use Rattle.pc_types.specs.declared.types.TypeKind.TheVariants as kind
use Rattle.pc_types_lists.specs.Types.{Types, Grows, HasNumber, IsBuilder, IsTooFullFor}
use Rattle.pc_types_lists.specs.Interned.{IsPut}
use Rattle.pc_entity.proofs.LookupLemmas.{found_at}

-- a list into which a type was put keeps its look-ups
pub put_kept : {V : Type 0} (old new : List V) (value : V) → IsPut old new value → Kept old new
put_kept old new value put = elim put as (λ _. Kept old new) [
  | inl same ↦ subst (Kept old) (sym same) (kept_refl old)
  | inr more ↦ subst (Kept old) (sym more.0) (append_kept old (value ∷ []))
]

-- what keeps what keeps the types keeps them
pub grows_trans : (a b c : Types) → Grows a b → Grows b c → Grows a c
grows_trans a b c first second = record {
  funcs = kept_trans a.funcs b.funcs c.funcs first.funcs second.funcs;
  tuples = kept_trans a.tuples b.tuples c.tuples first.tuples second.tuples;
  records = kept_trans a.records b.records c.records first.records second.records;
  variants = kept_trans a.variants b.variants c.variants first.variants second.variants;
  lists = kept_trans a.lists b.lists c.lists first.lists second.lists;
  options = kept_trans a.options b.options c.options first.options second.options;
  results = kept_trans a.results b.results c.results first.results second.results;
  flags = kept_trans a.flags b.flags c.flags first.flags second.flags;
  enums = kept_trans a.enums b.enums c.enums first.enums second.enums;
  resource_tables = kept_trans a.resource_tables b.resource_tables c.resource_tables first.resource_tables
      second.resource_tables;
  future_tables = kept_trans a.future_tables b.future_tables c.future_tables first.future_tables second.future_tables;
  stream_tables = kept_trans a.stream_tables b.stream_tables c.stream_tables first.stream_tables second.stream_tables;
  error_context_tables = kept_trans a.error_context_tables b.error_context_tables c.error_context_tables
      first.error_context_tables second.error_context_tables;
  instances = kept_trans a.instances b.instances c.instances first.instances second.instances;
  components = kept_trans a.components b.components c.components first.components second.components;
  modules = kept_trans a.modules b.modules c.modules first.modules second.modules;
  signatures = kept_trans a.signatures b.signatures c.signatures first.signatures second.signatures;
  resources = second.resources ∙ first.resources;
}

-- what stays keeps the types
pub grows_same : (a : Types) → Grows a a
grows_same a = search kept_refl

-- three, four and five steps that keep the types
pub grows_3 : (a b c d : Types) → Grows a b → Grows b c → Grows c d → Grows a d
grows_3 a b c d ab bc cd = grows_trans a b d ab (grows_trans b c d bc cd)

pub grows_4 : (a b c d e : Types) → Grows a b → Grows b c → Grows c d → Grows d e → Grows a e
grows_4 a b c d e ab bc cd de = grows_trans a b e ab (grows_3 b c d e bc cd de)

pub grows_5 : (a b c d e f : Types) → Grows a b → Grows b c → Grows c d → Grows d e → Grows e f → Grows a f
grows_5 a b c d e f ab bc cd de ef = grows_trans a b f ab (grows_4 b c d e f bc cd de ef)

-- a builder with one list in which a type was put keeps all types
pub grows_funcs : (old new : Types) (value : TypeFunc) → new ≡ record old { funcs = new.funcs }
    → IsPut old.funcs new.funcs value → Grows old new
grows_funcs old new value rest put =
    let kept = put_kept old.funcs new.funcs value put in
    subst (Grows old) (sym rest) (search (kept_refl, kept))

pub grows_tuples : (old new : Types) (value : TypeTuple) → new ≡ record old { tuples = new.tuples }
    → IsPut old.tuples new.tuples value → Grows old new
grows_tuples old new value rest put =
    let kept = put_kept old.tuples new.tuples value put in
    subst (Grows old) (sym rest) (search (kept_refl, kept))

pub grows_records : (old new : Types) (value : TypeRecord) → new ≡ record old { records = new.records }
    → IsPut old.records new.records value → Grows old new
grows_records old new value rest put =
    let kept = put_kept old.records new.records value put in
    subst (Grows old) (sym rest) (search (kept_refl, kept))

pub grows_variants : (old new : Types) (value : TypeVariant) → new ≡ record old { variants = new.variants }
    → IsPut old.variants new.variants value → Grows old new
grows_variants old new value rest put =
    let kept = put_kept old.variants new.variants value put in
    subst (Grows old) (sym rest) (search (kept_refl, kept))

pub grows_lists : (old new : Types) (value : TypeList) → new ≡ record old { lists = new.lists }
    → IsPut old.lists new.lists value → Grows old new
grows_lists old new value rest put =
    let kept = put_kept old.lists new.lists value put in
    subst (Grows old) (sym rest) (search (kept_refl, kept))

pub grows_options : (old new : Types) (value : TypeOption) → new ≡ record old { options = new.options }
    → IsPut old.options new.options value → Grows old new
grows_options old new value rest put =
    let kept = put_kept old.options new.options value put in
    subst (Grows old) (sym rest) (search (kept_refl, kept))

pub grows_results : (old new : Types) (value : TypeResult) → new ≡ record old { results = new.results }
    → IsPut old.results new.results value → Grows old new
grows_results old new value rest put =
    let kept = put_kept old.results new.results value put in
    subst (Grows old) (sym rest) (search (kept_refl, kept))

pub grows_flags : (old new : Types) (value : TypeFlags) → new ≡ record old { flags = new.flags }
    → IsPut old.flags new.flags value → Grows old new
grows_flags old new value rest put =
    let kept = put_kept old.flags new.flags value put in
    subst (Grows old) (sym rest) (search (kept_refl, kept))

pub grows_enums : (old new : Types) (value : TypeEnum) → new ≡ record old { enums = new.enums }
    → IsPut old.enums new.enums value → Grows old new
grows_enums old new value rest put =
    let kept = put_kept old.enums new.enums value put in
    subst (Grows old) (sym rest) (search (kept_refl, kept))

pub grows_resource_tables : (old new : Types) (value : TypeResourceTable)
    → new ≡ record old { resource_tables = new.resource_tables } → IsPut old.resource_tables new.resource_tables value
    → Grows old new
grows_resource_tables old new value rest put =
    let kept = put_kept old.resource_tables new.resource_tables value put in
    subst (Grows old) (sym rest) (search (kept_refl, kept))

pub grows_future_tables : (old new : Types) (value : TypeFutureTable)
    → new ≡ record old { future_tables = new.future_tables } → IsPut old.future_tables new.future_tables value
    → Grows old new
grows_future_tables old new value rest put =
    let kept = put_kept old.future_tables new.future_tables value put in
    subst (Grows old) (sym rest) (search (kept_refl, kept))

pub grows_stream_tables : (old new : Types) (value : TypeStreamTable)
    → new ≡ record old { stream_tables = new.stream_tables } → IsPut old.stream_tables new.stream_tables value
    → Grows old new
grows_stream_tables old new value rest put =
    let kept = put_kept old.stream_tables new.stream_tables value put in
    subst (Grows old) (sym rest) (search (kept_refl, kept))

pub grows_error_context_tables : (old new : Types) (value : TypeErrorContextTable)
    → new ≡ record old { error_context_tables = new.error_context_tables }
    → IsPut old.error_context_tables new.error_context_tables value → Grows old new
grows_error_context_tables old new value rest put =
    let kept = put_kept old.error_context_tables new.error_context_tables value put in
    subst (Grows old) (sym rest) (search (kept_refl, kept))

pub grows_instances : (old new : Types) (value : TypeComponentInstance) → new ≡ record old { instances = new.instances }
    → IsPut old.instances new.instances value → Grows old new
grows_instances old new value rest put =
    let kept = put_kept old.instances new.instances value put in
    subst (Grows old) (sym rest) (search (kept_refl, kept))

pub grows_components : (old new : Types) (value : TypeComponent) → new ≡ record old { components = new.components }
    → IsPut old.components new.components value → Grows old new
grows_components old new value rest put =
    let kept = put_kept old.components new.components value put in
    subst (Grows old) (sym rest) (search (kept_refl, kept))

pub grows_modules : (old new : Types) (value : TypeModule) → new ≡ record old { modules = new.modules }
    → IsPut old.modules new.modules value → Grows old new
grows_modules old new value rest put =
    let kept = put_kept old.modules new.modules value put in
    subst (Grows old) (sym rest) (search (kept_refl, kept))

pub grows_signatures : (old new : Types) (value : CoreFuncSig) → new ≡ record old { signatures = new.signatures }
    → IsPut old.signatures new.signatures value → Grows old new
grows_signatures old new value rest put =
    let kept = put_kept old.signatures new.signatures value put in
    subst (Grows old) (sym rest) (search (kept_refl, kept))

-- what was found is contained
pub contains_at : {V : Type 0} (xs : List V) (n : ℕ) (x : V) → slice_get xs n ≡ Some x → Contains xs x
contains_at xs n x h =
    let within = slice_get_within xs n x h in
    (n, within, same_Some (get_or xs n x) x (sym (slice_get-get_or xs n x within) ∙ h))

-- a full list that lacks a type lacks it for good
none_more : {V : Type 0} (old new : List V) (value : V) → length old ≡ 4294967294 → (Contains old value → ⊥)
    → Kept old new → length new ≤ 4294967294 → HasNumber new value → ⊥
none_more old new value full absent kept within has =
    let f = found_at old has.0 (omega (arith, full, within, slice_get_within new has.0 value has.1)) in
    absent (contains_at old has.0 value (f.1 ∙ sym (kept has.0 f.0 f.1) ∙ has.1))

-- a builder with a full list that lacks a type is too full for it
pub full_funcs : (b : Types) (value : TypeFunc) → length b.funcs ≡ 4294967294 → (Contains b.funcs value → ⊥)
    → IsTooFullFor b (λ next. HasNumber next.funcs value)
full_funcs b value full absent = record {
  full = (kind.Func, full);
  none = λ next g is has. none_more b.funcs next.funcs value full absent g.funcs (is.within kind.Func) has;
}

pub full_tuples : (b : Types) (value : TypeTuple) → length b.tuples ≡ 4294967294 → (Contains b.tuples value → ⊥)
    → IsTooFullFor b (λ next. HasNumber next.tuples value)
full_tuples b value full absent = record {
  full = (kind.Tuple, full);
  none = λ next g is has. none_more b.tuples next.tuples value full absent g.tuples (is.within kind.Tuple) has;
}

pub full_records : (b : Types) (value : TypeRecord) → length b.records ≡ 4294967294 → (Contains b.records value → ⊥)
    → IsTooFullFor b (λ next. HasNumber next.records value)
full_records b value full absent = record {
  full = (kind.Record, full);
  none = λ next g is has. none_more b.records next.records value full absent g.records (is.within kind.Record) has;
}

pub full_variants : (b : Types) (value : TypeVariant) → length b.variants ≡ 4294967294 → (Contains b.variants value → ⊥)
    → IsTooFullFor b (λ next. HasNumber next.variants value)
full_variants b value full absent = record {
  full = (kind.Variant, full);
  none = λ next g is has. none_more b.variants next.variants value full absent g.variants (is.within kind.Variant) has;
}

pub full_lists : (b : Types) (value : TypeList) → length b.lists ≡ 4294967294 → (Contains b.lists value → ⊥)
    → IsTooFullFor b (λ next. HasNumber next.lists value)
full_lists b value full absent = record {
  full = (kind.List, full);
  none = λ next g is has. none_more b.lists next.lists value full absent g.lists (is.within kind.List) has;
}

pub full_options : (b : Types) (value : TypeOption) → length b.options ≡ 4294967294 → (Contains b.options value → ⊥)
    → IsTooFullFor b (λ next. HasNumber next.options value)
full_options b value full absent = record {
  full = (kind.Option, full);
  none = λ next g is has. none_more b.options next.options value full absent g.options (is.within kind.Option) has;
}

pub full_results : (b : Types) (value : TypeResult) → length b.results ≡ 4294967294 → (Contains b.results value → ⊥)
    → IsTooFullFor b (λ next. HasNumber next.results value)
full_results b value full absent = record {
  full = (kind.Result, full);
  none = λ next g is has. none_more b.results next.results value full absent g.results (is.within kind.Result) has;
}

pub full_flags : (b : Types) (value : TypeFlags) → length b.flags ≡ 4294967294 → (Contains b.flags value → ⊥)
    → IsTooFullFor b (λ next. HasNumber next.flags value)
full_flags b value full absent = record {
  full = (kind.Flags, full);
  none = λ next g is has. none_more b.flags next.flags value full absent g.flags (is.within kind.Flags) has;
}

pub full_enums : (b : Types) (value : TypeEnum) → length b.enums ≡ 4294967294 → (Contains b.enums value → ⊥)
    → IsTooFullFor b (λ next. HasNumber next.enums value)
full_enums b value full absent = record {
  full = (kind.Enum, full);
  none = λ next g is has. none_more b.enums next.enums value full absent g.enums (is.within kind.Enum) has;
}

pub full_resource_tables : (b : Types) (value : TypeResourceTable) → length b.resource_tables ≡ 4294967294
    → (Contains b.resource_tables value → ⊥) → IsTooFullFor b (λ next. HasNumber next.resource_tables value)
full_resource_tables b value full absent = record {
  full = (kind.ResourceTable, full);
  none = λ next g is has. none_more b.resource_tables next.resource_tables value full absent g.resource_tables
      (is.within kind.ResourceTable) has;
}

pub full_future_tables : (b : Types) (value : TypeFutureTable) → length b.future_tables ≡ 4294967294
    → (Contains b.future_tables value → ⊥) → IsTooFullFor b (λ next. HasNumber next.future_tables value)
full_future_tables b value full absent = record {
  full = (kind.FutureTable, full);
  none = λ next g is has. none_more b.future_tables next.future_tables value full absent g.future_tables
      (is.within kind.FutureTable) has;
}

pub full_stream_tables : (b : Types) (value : TypeStreamTable) → length b.stream_tables ≡ 4294967294
    → (Contains b.stream_tables value → ⊥) → IsTooFullFor b (λ next. HasNumber next.stream_tables value)
full_stream_tables b value full absent = record {
  full = (kind.StreamTable, full);
  none = λ next g is has. none_more b.stream_tables next.stream_tables value full absent g.stream_tables
      (is.within kind.StreamTable) has;
}

pub full_error_context_tables : (b : Types) (value : TypeErrorContextTable) → length b.error_context_tables ≡ 4294967294
    → (Contains b.error_context_tables value → ⊥) → IsTooFullFor b (λ next. HasNumber next.error_context_tables value)
full_error_context_tables b value full absent = record {
  full = (kind.ErrorContextTable, full);
  none = λ next g is has. none_more b.error_context_tables next.error_context_tables value full absent
      g.error_context_tables (is.within kind.ErrorContextTable) has;
}

pub full_instances : (b : Types) (value : TypeComponentInstance) → length b.instances ≡ 4294967294
    → (Contains b.instances value → ⊥) → IsTooFullFor b (λ next. HasNumber next.instances value)
full_instances b value full absent = record {
  full = (kind.Instance, full);
  none = λ next g is has. none_more b.instances next.instances value full absent g.instances
      (is.within kind.Instance) has;
}

pub full_components : (b : Types) (value : TypeComponent) → length b.components ≡ 4294967294
    → (Contains b.components value → ⊥) → IsTooFullFor b (λ next. HasNumber next.components value)
full_components b value full absent = record {
  full = (kind.Component, full);
  none = λ next g is has. none_more b.components next.components value full absent g.components
      (is.within kind.Component) has;
}

pub full_modules : (b : Types) (value : TypeModule) → length b.modules ≡ 4294967294 → (Contains b.modules value → ⊥)
    → IsTooFullFor b (λ next. HasNumber next.modules value)
full_modules b value full absent = record {
  full = (kind.Module, full);
  none = λ next g is has. none_more b.modules next.modules value full absent g.modules (is.within kind.Module) has;
}

pub full_signatures : (b : Types) (value : CoreFuncSig) → length b.signatures ≡ 4294967294
    → (Contains b.signatures value → ⊥) → IsTooFullFor b (λ next. HasNumber next.signatures value)
full_signatures b value full absent = record {
  full = (kind.Signature, full);
  none = λ next g is has. none_more b.signatures next.signatures value full absent g.signatures
      (is.within kind.Signature) has;
}

-- a builder that is too full for what another thing wants is too full for that
pub too_full : (b : Types) (P Q : Types → Type 0) → ((next : Types) → Grows b next → IsBuilder next → Q next → P next)
    → IsTooFullFor b P → IsTooFullFor b Q
too_full b P Q wants h = record { full = h.full; none = λ next g is q. h.none next g is (wants next g is q) }
