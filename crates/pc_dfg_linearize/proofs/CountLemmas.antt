-- A plan that gets one more step counts it.
use Rattle.std.proofs.Common.{◌≡◌, ℕ, ◌+◌, ◌++◌, ◌∷◌, [], Bool, List, length, map, cond, sym, ap, ◌∙◌, arith}
use Rattle.std.specs.Prelude.{count_by}
use Rattle.std.proofs.lemmas.List.Sums.{sum_by-append, sum_by-cons}
use Rattle.std.proofs.lemmas.List.{map-append}
use Rattle.pc_spec_plan.specs.Counts.{makes_instance, lowers_import, fills, declares_resource}
use Rattle.pc_spec_plan.specs.PlanView as plan
use Rattle.pc_info.specs.declared.initializer.GlobalInitializer.{GlobalInitializer}
use Rattle.pc_info.specs.Definitions.{initializer_view}
use Rattle.pc_dfg_linearize.specs.declared.state.Finish.{Finish}
use Rattle.pc_dfg_linearize.specs.Sound.{CountsSteps}
use Rattle.pc_dfg_linearize.specs.Plan.{slot_count, steps_view}

-- what a test counts of one step
abbrev pub one : Bool → ℕ
one b = cond b 1 0

-- a count grows by what the last one counts
pub count_by-push : {A : Type 0} (test : A → Bool) (xs : List A) (x : A)
    → count_by test (xs ++ x ∷ []) ≡ count_by test xs + one (test x)
count_by-push test xs x =
    let all = sum_by-append (λ y. one (test y)) xs (x ∷ []) in
    let last = sum_by-cons (λ y. one (test y)) x [] in
    omega (arith, all, last)

-- a plan has one more step, and each of its counts is larger by what that step counts
pub record CountsOne (old new : Finish) (i : GlobalInitializer) : Type 0 where
  pub steps : new.steps ≡ old.steps ++ i ∷ []
  pub instances : new.counts.instances ≡ old.counts.instances + one (makes_instance (initializer_view i))
  pub lowerings : new.counts.lowerings ≡ old.counts.lowerings + one (lowers_import (initializer_view i))
  pub slots : (k : plan.SlotKind) → slot_count new k ≡ slot_count old k + one (fills k (initializer_view i))
  pub resources : length new.resources ≡ length old.resources + one (declares_resource (initializer_view i))

module _ (old new : Finish) (i : GlobalInitializer) (adds : CountsOne old new i) (counts : CountsSteps old) where
  -- so a count that was right is right
  one_more : (test : plan.Initializer → Bool) (m n : ℕ) → count_by test (steps_view old) ≡ m
      → n ≡ m + one (test (initializer_view i)) → count_by test (steps_view new) ≡ n
  one_more test m n before after =
      let view : steps_view new ≡ steps_view old ++ initializer_view i ∷ [] =
      ap (map initializer_view) adds.steps ∙ map-append initializer_view old.steps (i ∷ []) in
      ap (count_by test) view ∙ count_by-push test (steps_view old) (initializer_view i)
      ∙ ap (λ (k : ℕ). k + one (test (initializer_view i))) before ∙ sym after

  pub counts_more : CountsSteps new
  counts_more = record {
    instances = one_more makes_instance _ _ counts.instances adds.instances;
    lowerings = one_more lowers_import _ _ counts.lowerings adds.lowerings;
    slots = λ k. one_more (fills k) _ _ (counts.slots k) (adds.slots k);
    resources = one_more declares_resource _ _ counts.resources adds.resources;
  }
