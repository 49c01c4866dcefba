use Rattle.pc_inline_canon.proofs.GotLemmas.{got_by}
use Rattle.pc_inline_resources.proofs.DestructorLemmas.{chosen_missing, chosen_there, chosen_unfed, chosen_within}
use Rattle.pc_inline_resources.proofs.DestructorLemmas.{none_chosen}
use Rattle.pc_inline_resources.proofs.declare.destructor.Goals as goal

pub returns-in_default : goal.returns-in_default
returns-in_default c now at = none_chosen _ _ _ _ at.frame.core_funcs _ c.in_default.is

pub definition-requires : goal.definition-requires
definition-requires c = record {
  there = chosen_within _ _ _ _ c.requires.here.1.frame.core_funcs _ _ c.in-Some.is _
      (got_by _ _ _ c.as_slice.ensures _ _ c.at.ensures c.in-Some-at.is);
}

pub returns-in_err-definition-in-Some-at : goal.returns-in_err-definition-in-Some-at
returns-in_err-definition-in-Some-at c now at =
    chosen_unfed _ _ _ _ at.frame.core_funcs _ _ c.from_residual.ensures.1

pub returns-in_ok-definition-in-Some-at : goal.returns-in_ok-definition-in-Some-at
returns-in_ok-definition-in-Some-at c now at =
    chosen_there _ _ _ _ at.frame.core_funcs _ _ c.in-Some.is _
    (got_by _ _ _ c.as_slice.ensures _ _ c.at.ensures c.in-Some-at.is) _ c.in_ok-definition-in-Some-at.ensures

pub returns-in-None : goal.returns-in-None
returns-in-None c now at =
    chosen_missing _ _ _ _ at.frame.core_funcs _ _ c.in-Some.is
    (got_by _ _ _ c.as_slice.ensures _ _ c.at.ensures c.in-None.is)
