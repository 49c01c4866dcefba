use Rattle.std.proofs.Common.{refl}
use Rattle.pc_types_lists.proofs.Growth.{full_components, grows_components}
use Rattle.pc_types_lists.proofs.ErrorLemmas.{passed}
use Rattle.pc_types_lists.proofs.PutLemmas.{components_within}
use Rattle.pc_types_lists.proofs.interned_types.InternedTypes.put_component.Goals as goal

pub invariant_of-self : goal.invariant_of-self
invariant_of-self c = components_within c.self.inside c.self.invariant _ c.put.ensures.within

pub invariant_of-self-2 : goal.invariant_of-self-2
invariant_of-self-2 c = components_within c.self.inside c.self.invariant _ c.put.ensures.within

pub returns-in_err-put-clause-grows : goal.returns-in_err-put-clause-grows
returns-in_err-put-clause-grows c =
    rw (← c.self.view_is) (grows_components _ _ c.args.value refl c.put.ensures.put)

pub returns-clause-grows : goal.returns-clause-grows
returns-clause-grows c = rw (← c.self.view_is) (grows_components _ _ c.args.value refl c.put.ensures.put)

pub returns-in_err-put-clause-full : goal.returns-in_err-put-clause-full
returns-in_err-put-clause-full c h =
    let refused = passed c.from_residual.result c.in_err-put.field-0.0 c.from_residual.ensures.1
    c.in_err-put.ensures.full h in
    full_components _ c.args.value refused.0 refused.1
