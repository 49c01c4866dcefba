-- The facts of a type by those of its parts, where a table has the facts of the types that have numbers.
use Rattle.std.specs.Prelude.{◌≡◌, ℕ, ◌<◌, List, [], ◌∷◌, length, Option, None, Some, slice_get}
use Rattle.pc_entity.specs.Lists.{Kept}
use Rattle.pc_types.specs.declared.types.InterfaceType.{InterfaceType}
use Rattle.pc_types.specs.declared.types.InterfaceType.TheVariants as ty
use Rattle.pc_types.specs.declared.types.TypeFunc.{TypeFunc}
use Rattle.pc_types.specs.declared.types.TypeTuple.{TypeTuple}
use Rattle.pc_types.specs.declared.types.TypeRecord.{TypeRecord}
use Rattle.pc_types.specs.declared.types.TypeVariant.{TypeVariant}
use Rattle.pc_types.specs.declared.types.TypeList.{TypeList}
use Rattle.pc_types.specs.declared.types.TypeOption.{TypeOption}
use Rattle.pc_types.specs.declared.types.TypeResult.{TypeResult}
use Rattle.pc_types_lists.specs.declared.facts.TypeFacts.{TypeFacts}
use Rattle.pc_types_lists.specs.declared.table.FactTable.{FactTable}
use Rattle.pc_types_lists.specs.Facts.{no_facts, join, a_string, a_list, an_own, a_borrow, a_future, a_stream}
use Rattle.pc_types_lists.specs.Facts.{an_error_context}

-- the table with no facts
abbrev pub no_table : FactTable
no_table = record { funcs = []; tuples = []; records = []; variants = []; lists = []; options = []; results = [] }

-- the facts of the items, as R has them, come to these
abbrev pub AreJoined : {A : Type 0} → (A → TypeFacts → Type 0) → List A → TypeFacts → Type 0
AreJoined R [] x = x ≡ no_facts
AreJoined R (w ∷ ws) x = (y z : TypeFacts) × R w y × AreJoined R ws z × (x ≡ join y z)

module _ (f : FactTable) where
  -- the table has the facts of the value type's number, if it has one with parts
  abbrev pub Knows : InterfaceType → Type 0
  Knows (ty.Tuple i) = i.0 < length f.tuples
  Knows (ty.Record i) = i.0 < length f.records
  Knows (ty.Variant i) = i.0 < length f.variants
  Knows (ty.List i) = i.0 < length f.lists
  Knows (ty.Option i) = i.0 < length f.options
  Knows (ty.Result i) = i.0 < length f.results
  Knows _ = Unit {0}

  -- the table has the facts of a value type that may be left out
  abbrev pub MayKnow : Option InterfaceType → Type 0
  MayKnow None = Unit {0}
  MayKnow (Some w) = Knows w

  -- the table has the facts of the parameters and results
  abbrev pub KnowsFunc : TypeFunc → Type 0
  KnowsFunc g = (g.params.0 < length f.tuples) × (g.results.0 < length f.tuples)

  -- these are the facts of the value type
  abbrev pub HasFacts : InterfaceType → TypeFacts → Type 0
  HasFacts (ty.Tuple i) x = slice_get f.tuples i.0 ≡ Some x
  HasFacts (ty.Record i) x = slice_get f.records i.0 ≡ Some x
  HasFacts (ty.Variant i) x = slice_get f.variants i.0 ≡ Some x
  HasFacts (ty.List i) x = slice_get f.lists i.0 ≡ Some x
  HasFacts (ty.Option i) x = slice_get f.options i.0 ≡ Some x
  HasFacts (ty.Result i) x = slice_get f.results i.0 ≡ Some x
  HasFacts ty.String x = x ≡ a_string
  HasFacts (ty.Own i) x = x ≡ an_own
  HasFacts (ty.Borrow i) x = x ≡ a_borrow
  HasFacts (ty.Future i) x = x ≡ a_future
  HasFacts (ty.Stream i) x = x ≡ a_stream
  HasFacts (ty.ErrorContext i) x = x ≡ an_error_context
  HasFacts _ x = x ≡ no_facts

  -- these are the facts of a value type that may be left out
  abbrev pub MayHaveFacts : Option InterfaceType → TypeFacts → Type 0
  MayHaveFacts None x = x ≡ no_facts
  MayHaveFacts (Some w) x = HasFacts w x

  -- these are the facts of the function type
  abbrev pub FuncHas : TypeFunc → TypeFacts → Type 0
  FuncHas g x =
      (y z : TypeFacts) × (slice_get f.tuples g.params.0 ≡ Some y) × (slice_get f.tuples g.results.0 ≡ Some z)
      × (x ≡ join y z)

  -- these are the facts of the tuple type
  abbrev pub TupleHas : TypeTuple → TypeFacts → Type 0
  TupleHas t x = AreJoined HasFacts t.types x

  -- these are the facts of the record type
  abbrev pub RecordHas : TypeRecord → TypeFacts → Type 0
  RecordHas r x = AreJoined (λ (g : List ℕ × InterfaceType). HasFacts g.1) r.fields x

  -- these are the facts of the variant type
  abbrev pub VariantHas : TypeVariant → TypeFacts → Type 0
  VariantHas v x = AreJoined (λ (c : List ℕ × Option InterfaceType). MayHaveFacts c.1) v.cases x

  -- these are the facts of the list type, itself among them
  abbrev pub ListHas : TypeList → TypeFacts → Type 0
  ListHas l x = (y : TypeFacts) × HasFacts l.element y × (x ≡ join a_list y)

  -- these are the facts of the option type
  abbrev pub OptionHas : TypeOption → TypeFacts → Type 0
  OptionHas o x = HasFacts o.ty x

  -- these are the facts of the result type
  abbrev pub ResultHas : TypeResult → TypeFacts → Type 0
  ResultHas r x = (y z : TypeFacts) × MayHaveFacts r.ok y × MayHaveFacts r.err z × (x ≡ join y z)

-- each number keeps its facts
pub record Keeps (old new : FactTable) : Type 0 where
  pub funcs : Kept old.funcs new.funcs
  pub tuples : Kept old.tuples new.tuples
  pub records : Kept old.records new.records
  pub variants : Kept old.variants new.variants
  pub lists : Kept old.lists new.lists
  pub options : Kept old.options new.options
  pub results : Kept old.results new.results
