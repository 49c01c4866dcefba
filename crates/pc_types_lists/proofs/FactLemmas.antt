-- The facts of types stay beside them as the lists grow.
use Rattle.std.proofs.Common.{◌≡◌, ℕ, ◌<◌, List, [], ◌∷◌, ◌++◌, length, Option, None, Some, refl, sym, subst, inl, inr}
use Rattle.std.specs.Prelude.{◌⊎◌}
use Rattle.std.specs.List.{AllZip}
use Rattle.std.proofs.lemmas.Slice.Zip.{AllZip-long}
use Rattle.pc_entity.specs.Lists.{Kept}
use Rattle.pc_entity.proofs.Growing.{append_kept, kept_refl}
use Rattle.pc_types.specs.declared.types.InterfaceType.{InterfaceType}
use Rattle.pc_types.specs.declared.types.InterfaceType.TheVariants as ty
use Rattle.pc_types.specs.declared.types.TypeFunc.{TypeFunc}
use Rattle.pc_types.specs.declared.types.TypeTuple.{TypeTuple}
use Rattle.pc_types.specs.declared.types.TypeRecord.{TypeRecord}
use Rattle.pc_types.specs.declared.types.TypeVariant.{TypeVariant}
use Rattle.pc_types.specs.declared.types.TypeList.{TypeList}
use Rattle.pc_types.specs.declared.types.TypeOption.{TypeOption}
use Rattle.pc_types.specs.declared.types.TypeResult.{TypeResult}
use Rattle.pc_types_lists.specs.declared.facts.TypeFacts.{TypeFacts}
use Rattle.pc_types_lists.specs.declared.table.FactTable.{FactTable}
use Rattle.pc_types_lists.specs.Table.{Keeps, Knows, MayKnow, FuncHas, TupleHas, RecordHas, VariantHas, ListHas, OptionHas}
use Rattle.pc_types_lists.specs.Table.{ResultHas}
use Rattle.pc_types_lists.proofs.Keeping.{func_keeps, tuple_keeps, record_keeps, variant_keeps, list_keeps, option_keeps}
use Rattle.pc_types_lists.proofs.Keeping.{result_keeps}
use Rattle.pc_types_lists.specs.Types.{Types}
use Rattle.pc_types_lists.specs.Held.{IsHeld, MayBeHeld}
use Rattle.pc_types_lists.specs.Interned.{IsPutWith}
use Rattle.pc_types_lists.specs.KeptFacts.{HaveFacts, HaveFactsOf}
use Rattle.pc_types_lists.proofs.ZipLemmas.{all_zip_more, all_zip_push}

-- What becomes of a list and the list of its facts.
module _ {V : Type 0} where
  -- they are as they were, or have a type and what R has for it at their ends
  abbrev pub Puts : (V → TypeFacts → Type 0) → (old new : List V) → (facts more : List TypeFacts) → Type 0
  Puts R old new facts more = (v : V) × (x : TypeFacts) × (R v x) × IsPutWith old new facts more v x

  -- both are as they were
  abbrev pub Stays : (old new : List V) → (facts more : List TypeFacts) → Type 0
  Stays old new facts more = (new ≡ old) × (more ≡ facts)

  -- they stay, or a type is put into them
  abbrev pub Goes : (V → TypeFacts → Type 0) → (old new : List V) → (facts more : List TypeFacts) → Type 0
  Goes R old new facts more = Stays old new facts more ⊎ Puts R old new facts more

  -- lists that nothing is put into
  pub stays : (R : V → TypeFacts → Type 0) (vs : List V) (facts : List TypeFacts) → Goes R vs vs facts facts
  stays R vs facts = inl (refl, refl)

  -- the facts keep their places
  goes_kept : (R : V → TypeFacts → Type 0) (old new : List V) (facts more : List TypeFacts) → Goes R old new facts more
      → Kept facts more
  goes_kept R old new facts more goes = elim goes as (λ _. Kept facts more) [
    | inl same ↦ subst (Kept facts) (sym same.1) (kept_refl facts)
    | inr put ↦ elim put.3 as (λ _. Kept facts more) [
      | inl same ↦ subst (Kept facts) (sym same.1) (kept_refl facts)
      | inr pair ↦ subst (Kept facts) (sym pair.1) (append_kept facts (put.1 ∷ []))
    ]
  ]

  -- types stay beside their facts where nothing is put
  pairs_stay : (S : V → TypeFacts → Type 0) (old new : List V) (facts more : List TypeFacts) → Stays old new facts more
      → AllZip S old facts → AllZip S new more
  pairs_stay S old new facts more same h =
      subst (λ l. AllZip S l more) (sym same.0) (subst (λ m. AllZip S old m) (sym same.1) h)

  -- each type is beside its facts afterwards, under the new table of facts
  goes_pairs : (R S : V → TypeFacts → Type 0) → ((v : V) (x : TypeFacts) → R v x → S v x)
      → (old new : List V) (facts more : List TypeFacts)
      → Goes R old new facts more → AllZip R old facts → AllZip S new more
  goes_pairs R S k old new facts more goes h =
      let stay = all_zip_more R S k old facts h in
      elim goes as (λ _. AllZip S new more) [
        | inl same ↦ pairs_stay S old new facts more same stay
        | inr put ↦ elim put.3 as (λ _. AllZip S new more) [
          | inl same ↦ pairs_stay S old new facts more same stay
          | inr pair ↦ subst (λ l. AllZip S l more) (sym pair.0)
              (subst (λ m. AllZip S (old ++ put.0 ∷ []) m) (sym pair.1)
              (all_zip_push S old facts put.0 put.1 stay (k put.0 put.1 put.2)))
        ]
      ]

-- each list goes on with its facts
facts_go : (f g : FactTable) (gs gs' : List TypeFunc) (ts ts' : List TypeTuple) (rs rs' : List TypeRecord)
    (vs vs' : List TypeVariant) (ls ls' : List TypeList) (os os' : List TypeOption) (es es' : List TypeResult)
    → Goes (FuncHas f) gs gs' f.funcs g.funcs
    → Goes (TupleHas f) ts ts' f.tuples g.tuples
    → Goes (RecordHas f) rs rs' f.records g.records
    → Goes (VariantHas f) vs vs' f.variants g.variants
    → Goes (ListHas f) ls ls' f.lists g.lists
    → Goes (OptionHas f) os os' f.options g.options
    → Goes (ResultHas f) es es' f.results g.results
    → HaveFacts f gs ts rs vs ls os es → HaveFacts g gs' ts' rs' vs' ls' os' es'
facts_go f g gs gs' ts ts' rs rs' vs vs' ls ls' os os' es es' pg pt pr pv pl po pe h =
    let k : Keeps f g = record {
      funcs = goes_kept (FuncHas f) gs gs' f.funcs g.funcs pg;
      tuples = goes_kept (TupleHas f) ts ts' f.tuples g.tuples pt;
      records = goes_kept (RecordHas f) rs rs' f.records g.records pr;
      variants = goes_kept (VariantHas f) vs vs' f.variants g.variants pv;
      lists = goes_kept (ListHas f) ls ls' f.lists g.lists pl;
      options = goes_kept (OptionHas f) os os' f.options g.options po;
      results = goes_kept (ResultHas f) es es' f.results g.results pe;
    } in record {
      funcs = goes_pairs (FuncHas f) (FuncHas g) (func_keeps f g k) gs gs' f.funcs g.funcs pg h.funcs;
      tuples = goes_pairs (TupleHas f) (TupleHas g) (tuple_keeps f g k) ts ts' f.tuples g.tuples pt h.tuples;
      records = goes_pairs (RecordHas f) (RecordHas g) (record_keeps f g k) rs rs' f.records g.records pr h.records;
      variants = goes_pairs (VariantHas f) (VariantHas g)
          (variant_keeps f g k) vs vs' f.variants g.variants pv h.variants;
      lists = goes_pairs (ListHas f) (ListHas g) (list_keeps f g k) ls ls' f.lists g.lists pl h.lists;
      options = goes_pairs (OptionHas f) (OptionHas g) (option_keeps f g k) os os' f.options g.options po h.options;
      results = goes_pairs (ResultHas f) (ResultHas g) (result_keeps f g k) es es' f.results g.results pe h.results;
    }

-- A type is put into one list, and its facts beside it.
module _ (f : FactTable) (b : Types) (h : HaveFactsOf f b) where
  -- the lists that nothing is put into
  funcs_stay : Goes (FuncHas f) b.funcs b.funcs f.funcs f.funcs
  funcs_stay = stays (FuncHas f) b.funcs f.funcs

  tuples_stay : Goes (TupleHas f) b.tuples b.tuples f.tuples f.tuples
  tuples_stay = stays (TupleHas f) b.tuples f.tuples

  records_stay : Goes (RecordHas f) b.records b.records f.records f.records
  records_stay = stays (RecordHas f) b.records f.records

  variants_stay : Goes (VariantHas f) b.variants b.variants f.variants f.variants
  variants_stay = stays (VariantHas f) b.variants f.variants

  lists_stay : Goes (ListHas f) b.lists b.lists f.lists f.lists
  lists_stay = stays (ListHas f) b.lists f.lists

  options_stay : Goes (OptionHas f) b.options b.options f.options f.options
  options_stay = stays (OptionHas f) b.options f.options

  results_stay : Goes (ResultHas f) b.results b.results f.results f.results
  results_stay = stays (ResultHas f) b.results f.results

  -- a function type
  pub put_funcs : (new : List TypeFunc) (more : List TypeFacts) (v : TypeFunc) (x : TypeFacts) → FuncHas f v x
      → IsPutWith b.funcs new f.funcs more v x
      → HaveFacts (record f { funcs = more }) new b.tuples b.records b.variants b.lists b.options b.results
  put_funcs new more v x is put =
      facts_go f (record f { funcs = more }) b.funcs new b.tuples b.tuples b.records b.records b.variants b.variants
      b.lists b.lists b.options b.options b.results b.results
      (inr (v, x, is, put)) tuples_stay records_stay variants_stay lists_stay options_stay results_stay h

  -- a tuple
  pub put_tuples : (new : List TypeTuple) (more : List TypeFacts) (v : TypeTuple) (x : TypeFacts) → TupleHas f v x
      → IsPutWith b.tuples new f.tuples more v x
      → HaveFacts (record f { tuples = more }) b.funcs new b.records b.variants b.lists b.options b.results
  put_tuples new more v x is put =
      facts_go f (record f { tuples = more }) b.funcs b.funcs b.tuples new b.records b.records b.variants b.variants
      b.lists b.lists b.options b.options b.results b.results
      funcs_stay (inr (v, x, is, put)) records_stay variants_stay lists_stay options_stay results_stay h

  -- a record
  pub put_records : (new : List TypeRecord) (more : List TypeFacts) (v : TypeRecord) (x : TypeFacts) → RecordHas f v x
      → IsPutWith b.records new f.records more v x
      → HaveFacts (record f { records = more }) b.funcs b.tuples new b.variants b.lists b.options b.results
  put_records new more v x is put =
      facts_go f (record f { records = more }) b.funcs b.funcs b.tuples b.tuples b.records new b.variants b.variants
      b.lists b.lists b.options b.options b.results b.results
      funcs_stay tuples_stay (inr (v, x, is, put)) variants_stay lists_stay options_stay results_stay h

  -- a variant
  pub put_variants : (new : List TypeVariant) (more : List TypeFacts) (v : TypeVariant) (x : TypeFacts)
      → VariantHas f v x
      → IsPutWith b.variants new f.variants more v x
      → HaveFacts (record f { variants = more }) b.funcs b.tuples b.records new b.lists b.options b.results
  put_variants new more v x is put =
      facts_go f (record f { variants = more }) b.funcs b.funcs b.tuples b.tuples b.records b.records b.variants new
      b.lists b.lists b.options b.options b.results b.results
      funcs_stay tuples_stay records_stay (inr (v, x, is, put)) lists_stay options_stay results_stay h

  -- a list
  pub put_lists : (new : List TypeList) (more : List TypeFacts) (v : TypeList) (x : TypeFacts) → ListHas f v x
      → IsPutWith b.lists new f.lists more v x
      → HaveFacts (record f { lists = more }) b.funcs b.tuples b.records b.variants new b.options b.results
  put_lists new more v x is put =
      facts_go f (record f { lists = more }) b.funcs b.funcs b.tuples b.tuples b.records b.records b.variants b.variants
      b.lists new b.options b.options b.results b.results
      funcs_stay tuples_stay records_stay variants_stay (inr (v, x, is, put)) options_stay results_stay h

  -- an option
  pub put_options : (new : List TypeOption) (more : List TypeFacts) (v : TypeOption) (x : TypeFacts) → OptionHas f v x
      → IsPutWith b.options new f.options more v x
      → HaveFacts (record f { options = more }) b.funcs b.tuples b.records b.variants b.lists new b.results
  put_options new more v x is put =
      facts_go f
      (record f { options = more }) b.funcs b.funcs b.tuples b.tuples b.records b.records b.variants b.variants
      b.lists b.lists b.options new b.results b.results
      funcs_stay tuples_stay records_stay variants_stay lists_stay (inr (v, x, is, put)) results_stay h

  -- a result
  pub put_results : (new : List TypeResult) (more : List TypeFacts) (v : TypeResult) (x : TypeFacts) → ResultHas f v x
      → IsPutWith b.results new f.results more v x
      → HaveFacts (record f { results = more }) b.funcs b.tuples b.records b.variants b.lists b.options new
  put_results new more v x is put =
      facts_go f
      (record f { results = more }) b.funcs b.funcs b.tuples b.tuples b.records b.records b.variants b.variants
      b.lists b.lists b.options b.options b.results new
      funcs_stay tuples_stay records_stay variants_stay lists_stay options_stay (inr (v, x, is, put)) h

-- the facts of what is held are known
module _ (a b : Types) (f : FactTable) (is : b ≡ a) (h : HaveFactsOf f b) where
  -- the facts of a held value type are in the table
  known_by : (w : InterfaceType) → IsHeld b w → Knows f w
  known_by ty.Bool k = tt
  known_by ty.S8 k = tt
  known_by ty.U8 k = tt
  known_by ty.S16 k = tt
  known_by ty.U16 k = tt
  known_by ty.S32 k = tt
  known_by ty.U32 k = tt
  known_by ty.S64 k = tt
  known_by ty.U64 k = tt
  known_by ty.F32 k = tt
  known_by ty.F64 k = tt
  known_by ty.Char k = tt
  known_by ty.String k = tt
  known_by (ty.ErrorContext i) k = tt
  known_by (ty.Record i) k = subst (λ n. i.0 < n) (sym (AllZip-long (RecordHas f) b.records f.records h.records)) k
  known_by (ty.Variant i) k = subst (λ n. i.0 < n) (sym (AllZip-long (VariantHas f) b.variants f.variants h.variants)) k
  known_by (ty.List i) k = subst (λ n. i.0 < n) (sym (AllZip-long (ListHas f) b.lists f.lists h.lists)) k
  known_by (ty.Tuple i) k = subst (λ n. i.0 < n) (sym (AllZip-long (TupleHas f) b.tuples f.tuples h.tuples)) k
  known_by (ty.Flags i) k = tt
  known_by (ty.Enum i) k = tt
  known_by (ty.Option i) k = subst (λ n. i.0 < n) (sym (AllZip-long (OptionHas f) b.options f.options h.options)) k
  known_by (ty.Result i) k = subst (λ n. i.0 < n) (sym (AllZip-long (ResultHas f) b.results f.results h.results)) k
  known_by (ty.Own i) k = tt
  known_by (ty.Borrow i) k = tt
  known_by (ty.Future i) k = tt
  known_by (ty.Stream i) k = tt

  -- the same, as a contract sees the types
  pub known : (w : InterfaceType) → IsHeld a w → Knows f w
  known w k = known_by w (subst (λ c. IsHeld c w) (sym is) k)

  -- the same of what may be left out
  pub may_be_known : (w : Option InterfaceType) → MayBeHeld a w → MayKnow f w
  may_be_known None k = tt
  may_be_known (Some w) k = known w k

  -- the facts of a held tuple are in the table
  pub known_tuple : (n : ℕ) → n < length a.tuples → n < length f.tuples
  known_tuple n k =
      subst (λ m. n < m) (sym (AllZip-long (TupleHas f) b.tuples f.tuples h.tuples))
      (subst (λ c. n < length c.tuples) (sym is) k)

  -- the facts of a held function type are in the table
  pub known_func : (n : ℕ) → n < length a.funcs → n < length f.funcs
  known_func n k =
      subst (λ m. n < m) (sym (AllZip-long (FuncHas f) b.funcs f.funcs h.funcs))
      (subst (λ c. n < length c.funcs) (sym is) k)
