use Rattle.std.proofs.Common.{refl}
use Rattle.std.proofs.lemmas.Slice.Zip.{AllZip-long}
use Rattle.pc_types_lists.specs.Table.{FuncHas}
use Rattle.pc_types_lists.specs.View.{types_of}
use Rattle.pc_types_lists.proofs.FactLemmas.{known_tuple}
use Rattle.pc_types_lists.proofs.Growth.{full_funcs, grows_funcs}
use Rattle.pc_types_lists.proofs.PutLemmas.{funcs_within}
use Rattle.pc_types_lists.proofs.ErrorLemmas.{passed}
use Rattle.pc_types_lists.proofs.interned_types.InternedTypes.put_func.Goals as goal

pub of_func-facts-requires : goal.of_func-facts-requires
of_func-facts-requires c =
    let s = c.self.inside in
    record {
      known = (
        known_tuple c.args.self.now
            (types_of s) s.facts c.self.view_is c.self.invariant.facts _ c.requires.params,
        known_tuple c.args.self.now
            (types_of s) s.facts c.self.view_is c.self.invariant.facts _ c.requires.results,
      );
    }

pub put_with-requires-clause-paired : goal.put_with-requires-clause-paired
put_with-requires-clause-paired c =
    let s = c.self.inside in
    AllZip-long (FuncHas s.facts) s.funcs s.facts.funcs c.self.invariant.facts.funcs

pub invariant_of-self : goal.invariant_of-self
invariant_of-self c =
    let put = c.put_with.ensures in
    funcs_within c.self.inside c.self.invariant _ _ c.args.value _ c.of_func-facts.ensures put.facts put.within

pub returns-in_err-number-clause-grows : goal.returns-in_err-number-clause-grows
returns-in_err-number-clause-grows c =
    rw (← c.self.view_is) (grows_funcs _ _ c.args.value refl c.put_with.ensures.put)

pub invariant_of-self-2 : goal.invariant_of-self-2
invariant_of-self-2 c =
    let put = c.put_with.ensures in
    funcs_within c.self.inside c.self.invariant _ _ c.args.value _ c.of_func-facts.ensures put.facts put.within

pub returns-clause-grows : goal.returns-clause-grows
returns-clause-grows c = rw (← c.self.view_is) (grows_funcs _ _ c.args.value refl c.put_with.ensures.put)

pub returns-in_err-number-clause-full : goal.returns-in_err-number-clause-full
returns-in_err-number-clause-full c h =
    let refused = passed c.from_residual.result c.in_err-number.field-0.0 c.from_residual.ensures.1
    c.in_err-number.ensures.full h in
    full_funcs _ c.args.value refused.0 refused.1
