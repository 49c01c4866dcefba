-- The facts that are kept of the types that have parts.
use Rattle.std.specs.Prelude.{List}
use Rattle.std.specs.List.{AllZip}
use Rattle.pc_types.specs.declared.types.TypeFunc.{TypeFunc}
use Rattle.pc_types.specs.declared.types.TypeTuple.{TypeTuple}
use Rattle.pc_types.specs.declared.types.TypeRecord.{TypeRecord}
use Rattle.pc_types.specs.declared.types.TypeVariant.{TypeVariant}
use Rattle.pc_types.specs.declared.types.TypeList.{TypeList}
use Rattle.pc_types.specs.declared.types.TypeOption.{TypeOption}
use Rattle.pc_types.specs.declared.types.TypeResult.{TypeResult}
use Rattle.pc_types_lists.specs.declared.table.FactTable.{FactTable}
use Rattle.pc_types_lists.specs.Types.{Types}
use Rattle.pc_types_lists.specs.Table.{FuncHas, TupleHas, RecordHas, VariantHas, ListHas, OptionHas, ResultHas}

-- each type of these lists has its facts in the table, at the same place
pub record HaveFacts (f : FactTable) (gs : List TypeFunc) (ts : List TypeTuple) (rs : List TypeRecord)
    (vs : List TypeVariant) (ls : List TypeList) (os : List TypeOption) (es : List TypeResult) : Type 0 where
  pub funcs : AllZip (FuncHas f) gs f.funcs
  pub tuples : AllZip (TupleHas f) ts f.tuples
  pub records : AllZip (RecordHas f) rs f.records
  pub variants : AllZip (VariantHas f) vs f.variants
  pub lists : AllZip (ListHas f) ls f.lists
  pub options : AllZip (OptionHas f) os f.options
  pub results : AllZip (ResultHas f) es f.results

-- the same of all lists
abbrev pub HaveFactsOf : FactTable → Types → Type 0
HaveFactsOf f b = HaveFacts f b.funcs b.tuples b.records b.variants b.lists b.options b.results
