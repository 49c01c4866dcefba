use Rattle.std.proofs.Common.{refl}
use Rattle.std.proofs.lemmas.Slice.Zip.{AllZip-long}
use Rattle.pc_types_lists.specs.Table.{RecordHas}
use Rattle.pc_types_lists.specs.View.{types_of}
use Rattle.pc_types_lists.proofs.FactLemmas.{known}
use Rattle.pc_types_lists.proofs.Growth.{full_records, grows_records}
use Rattle.pc_types_lists.proofs.PutLemmas.{records_within}
use Rattle.pc_types_lists.proofs.ErrorLemmas.{passed}
use Rattle.pc_types_lists.proofs.interned_types.InternedTypes.put_record_type.Goals as goal

pub of_record-facts-requires : goal.of_record-facts-requires
of_record-facts-requires c =
    let s = c.self.inside in
    record {
      known = λ k d below. known c.args.self.now (types_of s) s.facts c.self.view_is c.self.invariant.facts _
          (c.requires.parts k d below);
    }

pub put_with-requires-clause-paired : goal.put_with-requires-clause-paired
put_with-requires-clause-paired c =
    let s = c.self.inside in
    AllZip-long (RecordHas s.facts) s.records s.facts.records c.self.invariant.facts.records

pub invariant_of-self : goal.invariant_of-self
invariant_of-self c =
    let put = c.put_with.ensures in
    records_within c.self.inside c.self.invariant _ _ c.args.value _ c.of_record-facts.ensures put.facts put.within

pub returns-in_err-number-clause-grows : goal.returns-in_err-number-clause-grows
returns-in_err-number-clause-grows c =
    rw (← c.self.view_is) (grows_records _ _ c.args.value refl c.put_with.ensures.put)

pub invariant_of-self-2 : goal.invariant_of-self-2
invariant_of-self-2 c =
    let put = c.put_with.ensures in
    records_within c.self.inside c.self.invariant _ _ c.args.value _ c.of_record-facts.ensures put.facts put.within

pub returns-clause-grows : goal.returns-clause-grows
returns-clause-grows c = rw (← c.self.view_is) (grows_records _ _ c.args.value refl c.put_with.ensures.put)

pub returns-in_err-number-clause-full : goal.returns-in_err-number-clause-full
returns-in_err-number-clause-full c h =
    let refused = passed c.from_residual.result c.in_err-number.field-0.0 c.from_residual.ensures.1
    c.in_err-number.ensures.full h in
    full_records _ c.args.value refused.0 refused.1
