-- Facts stay as a table grows.
use Rattle.std.proofs.Common.{ℕ, List, Option, None, Some}
use Rattle.pc_types.specs.declared.types.InterfaceType.{InterfaceType}
use Rattle.pc_types.specs.declared.types.InterfaceType.TheVariants as ty
use Rattle.pc_types.specs.declared.types.TypeFunc.{TypeFunc}
use Rattle.pc_types.specs.declared.types.TypeTuple.{TypeTuple}
use Rattle.pc_types.specs.declared.types.TypeRecord.{TypeRecord}
use Rattle.pc_types.specs.declared.types.TypeVariant.{TypeVariant}
use Rattle.pc_types.specs.declared.types.TypeList.{TypeList}
use Rattle.pc_types.specs.declared.types.TypeOption.{TypeOption}
use Rattle.pc_types.specs.declared.types.TypeResult.{TypeResult}
use Rattle.pc_types_lists.specs.declared.facts.TypeFacts.{TypeFacts}
use Rattle.pc_types_lists.specs.declared.table.FactTable.{FactTable}
use Rattle.pc_types_lists.specs.Table.{HasFacts, MayHaveFacts, FuncHas, TupleHas, RecordHas, VariantHas, ListHas, OptionHas}
use Rattle.pc_types_lists.specs.Table.{ResultHas, Keeps}
use Rattle.pc_types_lists.proofs.Joining.{joined_more}

module _ (old new : FactTable) (k : Keeps old new) where
  pub facts_keep : (w : InterfaceType) (x : TypeFacts) → HasFacts old w x → HasFacts new w x
  facts_keep ty.Bool x h = h
  facts_keep ty.S8 x h = h
  facts_keep ty.U8 x h = h
  facts_keep ty.S16 x h = h
  facts_keep ty.U16 x h = h
  facts_keep ty.S32 x h = h
  facts_keep ty.U32 x h = h
  facts_keep ty.S64 x h = h
  facts_keep ty.U64 x h = h
  facts_keep ty.F32 x h = h
  facts_keep ty.F64 x h = h
  facts_keep ty.Char x h = h
  facts_keep ty.String x h = h
  facts_keep (ty.ErrorContext i) x h = h
  facts_keep (ty.Record i) x h = k.records i.0 x h
  facts_keep (ty.Variant i) x h = k.variants i.0 x h
  facts_keep (ty.List i) x h = k.lists i.0 x h
  facts_keep (ty.Tuple i) x h = k.tuples i.0 x h
  facts_keep (ty.Flags i) x h = h
  facts_keep (ty.Enum i) x h = h
  facts_keep (ty.Option i) x h = k.options i.0 x h
  facts_keep (ty.Result i) x h = k.results i.0 x h
  facts_keep (ty.Own i) x h = h
  facts_keep (ty.Borrow i) x h = h
  facts_keep (ty.Future i) x h = h
  facts_keep (ty.Stream i) x h = h

  may_keep : (w : Option InterfaceType) (x : TypeFacts) → MayHaveFacts old w x → MayHaveFacts new w x
  may_keep None x h = h
  may_keep (Some w) x h = facts_keep w x h

  pub func_keeps : (g : TypeFunc) (x : TypeFacts) → FuncHas old g x → FuncHas new g x
  func_keeps g x h = (h.0, h.1, k.tuples g.params.0 h.0 h.2, k.tuples g.results.0 h.1 h.3, h.4)

  pub tuple_keeps : (t : TypeTuple) (x : TypeFacts) → TupleHas old t x → TupleHas new t x
  tuple_keeps t x h = joined_more (HasFacts old) (HasFacts new) facts_keep t.types x h

  pub record_keeps : (r : TypeRecord) (x : TypeFacts) → RecordHas old r x → RecordHas new r x
  record_keeps r x h =
      joined_more (λ (g : List ℕ × InterfaceType). HasFacts old g.1) (λ (g : List ℕ × InterfaceType). HasFacts new g.1)
      (λ g y q. facts_keep g.1 y q) r.fields x h

  pub variant_keeps : (v : TypeVariant) (x : TypeFacts) → VariantHas old v x → VariantHas new v x
  variant_keeps v x h =
      joined_more (λ (c : List ℕ × Option InterfaceType). MayHaveFacts old c.1)
      (λ (c : List ℕ × Option InterfaceType). MayHaveFacts new c.1)
      (λ c y q. may_keep c.1 y q) v.cases x h

  pub list_keeps : (l : TypeList) (x : TypeFacts) → ListHas old l x → ListHas new l x
  list_keeps l x h = (h.0, facts_keep l.element h.0 h.1, h.2)

  pub option_keeps : (o : TypeOption) (x : TypeFacts) → OptionHas old o x → OptionHas new o x
  option_keeps o x h = facts_keep o.ty x h

  pub result_keeps : (r : TypeResult) (x : TypeFacts) → ResultHas old r x → ResultHas new r x
  result_keeps r x h = (h.0, h.1, may_keep r.ok h.0 h.2, may_keep r.err h.1 h.3, h.4)
