use Rattle.std.proofs.Common.{refl}
use Rattle.pc_types_lists.proofs.Growth.{full_flags, grows_flags}
use Rattle.pc_types_lists.proofs.ErrorLemmas.{passed}
use Rattle.pc_types_lists.proofs.PutLemmas.{flags_within}
use Rattle.pc_types_lists.proofs.interned_types.InternedTypes.put_flags.Goals as goal

pub invariant_of-self : goal.invariant_of-self
invariant_of-self c = flags_within c.self.inside c.self.invariant _ c.intern.ensures.within

pub invariant_of-self-2 : goal.invariant_of-self-2
invariant_of-self-2 c = flags_within c.self.inside c.self.invariant _ c.intern.ensures.within

pub returns-in_err-intern-clause-grows : goal.returns-in_err-intern-clause-grows
returns-in_err-intern-clause-grows c = rw (← c.self.view_is) (grows_flags _ _ c.args.value refl c.intern.ensures.put)

pub returns-clause-grows : goal.returns-clause-grows
returns-clause-grows c = rw (← c.self.view_is) (grows_flags _ _ c.args.value refl c.intern.ensures.put)

pub returns-in_err-intern-clause-full : goal.returns-in_err-intern-clause-full
returns-in_err-intern-clause-full c h =
    let refused = passed c.from_residual.result c.in_err-intern.field-0.0 c.from_residual.ensures.1
    c.in_err-intern.ensures.full h in
    full_flags _ c.args.value refused.0 refused.1
