-- The lists stay within their bounds, with facts beside their types, where a type is put into one of them.
use Rattle.std.proofs.Common.{◌≤◌, List, length}
use Rattle.pc_types.specs.declared.types.TypeFlags.{TypeFlags}
use Rattle.pc_types.specs.declared.types.TypeEnum.{TypeEnum}
use Rattle.pc_types.specs.declared.types.TypeResourceTable.{TypeResourceTable}
use Rattle.pc_types.specs.declared.types.TypeFutureTable.{TypeFutureTable}
use Rattle.pc_types.specs.declared.types.TypeStreamTable.{TypeStreamTable}
use Rattle.pc_types.specs.declared.types.TypeErrorContextTable.{TypeErrorContextTable}
use Rattle.pc_types.specs.declared.types.TypeComponentInstance.{TypeComponentInstance}
use Rattle.pc_types.specs.declared.types.TypeComponent.{TypeComponent}
use Rattle.pc_types.specs.declared.types.TypeModule.{TypeModule}
use Rattle.pc_types.specs.declared.parsed.CoreFuncSig.{CoreFuncSig}
use Rattle.pc_types.specs.declared.types.TypeFunc.{TypeFunc}
use Rattle.pc_types.specs.declared.types.TypeTuple.{TypeTuple}
use Rattle.pc_types.specs.declared.types.TypeRecord.{TypeRecord}
use Rattle.pc_types.specs.declared.types.TypeVariant.{TypeVariant}
use Rattle.pc_types.specs.declared.types.TypeList.{TypeList}
use Rattle.pc_types.specs.declared.types.TypeOption.{TypeOption}
use Rattle.pc_types.specs.declared.types.TypeResult.{TypeResult}
use Rattle.pc_types_lists.specs.declared.facts.TypeFacts.{TypeFacts}
use Rattle.pc_types_lists.specs.Table.{FuncHas, TupleHas, RecordHas, VariantHas, ListHas, OptionHas, ResultHas}
use Rattle.pc_types_lists.specs.declared.interned_types.InternedTypes.TheInside.{Inside}
use Rattle.pc_types_lists.specs.Interned.{IsPutWith}
use Rattle.pc_types_lists.specs.View.{IsWithin, types_of}
use Rattle.pc_types_lists.proofs.FactLemmas.{put_funcs, put_tuples, put_records, put_variants, put_lists, put_options}
use Rattle.pc_types_lists.proofs.FactLemmas.{put_results}

module _ (s : Inside) (i : IsWithin s) where
  -- lists of types without parts of their own
  pub flags_within : (new : List TypeFlags) → length new ≤ 4294967294 → IsWithin (record s { flags = new })
  flags_within new h = search (i, h)

  pub enums_within : (new : List TypeEnum) → length new ≤ 4294967294 → IsWithin (record s { enums = new })
  enums_within new h = search (i, h)

  pub resource_tables_within : (new : List TypeResourceTable) → length new ≤ 4294967294
      → IsWithin (record s { resource_tables = new })
  resource_tables_within new h = search (i, h)

  pub future_tables_within : (new : List TypeFutureTable) → length new ≤ 4294967294
      → IsWithin (record s { future_tables = new })
  future_tables_within new h = search (i, h)

  pub stream_tables_within : (new : List TypeStreamTable) → length new ≤ 4294967294
      → IsWithin (record s { stream_tables = new })
  stream_tables_within new h = search (i, h)

  pub error_context_tables_within : (new : List TypeErrorContextTable) → length new ≤ 4294967294
      → IsWithin (record s { error_context_tables = new })
  error_context_tables_within new h = search (i, h)

  pub instances_within : (new : List TypeComponentInstance) → length new ≤ 4294967294
      → IsWithin (record s { instances = new })
  instances_within new h = search (i, h)

  pub components_within : (new : List TypeComponent) → length new ≤ 4294967294
      → IsWithin (record s { components = new })
  components_within new h = search (i, h)

  pub modules_within : (new : List TypeModule) → length new ≤ 4294967294 → IsWithin (record s { modules = new })
  modules_within new h = search (i, h)

  pub signatures_within : (new : List CoreFuncSig) → length new ≤ 4294967294 → IsWithin (record s { signatures = new })
  signatures_within new h = search (i, h)

  -- lists of types that have facts beside them
  pub funcs_within : (new : List TypeFunc) (more : List TypeFacts) (v : TypeFunc) (x : TypeFacts) → FuncHas s.facts v x
      → IsPutWith s.funcs new s.facts.funcs more v x → length new ≤ 4294967294
      → IsWithin (record s { funcs = new; facts = record s.facts { funcs = more } })
  funcs_within new more v x is put h =
      let facts = put_funcs s.facts (types_of s) i.facts new more v x is put in search (i, h, facts)

  pub tuples_within : (new : List TypeTuple) (more : List TypeFacts) (v : TypeTuple) (x : TypeFacts)
      → TupleHas s.facts v x
      → IsPutWith s.tuples new s.facts.tuples more v x → length new ≤ 4294967294
      → IsWithin (record s { tuples = new; facts = record s.facts { tuples = more } })
  tuples_within new more v x is put h =
      let facts = put_tuples s.facts (types_of s) i.facts new more v x is put in search (i, h, facts)

  pub records_within : (new : List TypeRecord) (more : List TypeFacts) (v : TypeRecord) (x : TypeFacts)
      → RecordHas s.facts v x
      → IsPutWith s.records new s.facts.records more v x → length new ≤ 4294967294
      → IsWithin (record s { records = new; facts = record s.facts { records = more } })
  records_within new more v x is put h =
      let facts = put_records s.facts (types_of s) i.facts new more v x is put in search (i, h, facts)

  pub variants_within : (new : List TypeVariant) (more : List TypeFacts) (v : TypeVariant) (x : TypeFacts)
      → VariantHas s.facts v x
      → IsPutWith s.variants new s.facts.variants more v x → length new ≤ 4294967294
      → IsWithin (record s { variants = new; facts = record s.facts { variants = more } })
  variants_within new more v x is put h =
      let facts = put_variants s.facts (types_of s) i.facts new more v x is put in search (i, h, facts)

  pub lists_within : (new : List TypeList) (more : List TypeFacts) (v : TypeList) (x : TypeFacts) → ListHas s.facts v x
      → IsPutWith s.lists new s.facts.lists more v x → length new ≤ 4294967294
      → IsWithin (record s { lists = new; facts = record s.facts { lists = more } })
  lists_within new more v x is put h =
      let facts = put_lists s.facts (types_of s) i.facts new more v x is put in search (i, h, facts)

  pub options_within : (new : List TypeOption) (more : List TypeFacts) (v : TypeOption) (x : TypeFacts)
      → OptionHas s.facts v x
      → IsPutWith s.options new s.facts.options more v x → length new ≤ 4294967294
      → IsWithin (record s { options = new; facts = record s.facts { options = more } })
  options_within new more v x is put h =
      let facts = put_options s.facts (types_of s) i.facts new more v x is put in search (i, h, facts)

  pub results_within : (new : List TypeResult) (more : List TypeFacts) (v : TypeResult) (x : TypeFacts)
      → ResultHas s.facts v x
      → IsPutWith s.results new s.facts.results more v x → length new ≤ 4294967294
      → IsWithin (record s { results = new; facts = record s.facts { results = more } })
  results_within new more v x is put h =
      let facts = put_results s.facts (types_of s) i.facts new more v x is put in search (i, h, facts)
