-- What a plan was before: it stays so while the plan is made further.
use Rattle.std.proofs.Common.{◌≡◌, ◌≤◌, ◌+◌, ◌++◌, inl, inr, ℕ, List, [], ◌∷◌, length, sym, ap, ◌∙◌, arith}
use Rattle.std.proofs.lemmas.Bool.{cases_lt}
use Rattle.std.proofs.lemmas.List.{append-nil, append_assoc, length-append}
use Rattle.pc_dfg.specs.declared.dfg.ComponentDfg.{ComponentDfg}
use Rattle.pc_dfg_linearize.specs.declared.state.Finish.{Finish}
use Rattle.pc_dfg_linearize.specs.Closed.{AddsSteps, Continues}
use Rattle.pc_dfg_linearize.specs.Once.{Stay}
use Rattle.pc_dfg_linearize.specs.Sound.{HasBeen, HasPassed, IsLater, IsSound}

-- a list that stays, or gets one item, has one more at most
pub none_more : (n : ℕ) → n ≤ n + 1
none_more n = omega arith

pub one_more : {A : Type 0} (xs : List A) (x : A) → length (xs ++ x ∷ []) ≤ length xs + 1
one_more xs x = omega (arith, length-append xs (x ∷ []))

-- a plan is later than itself, and than those than which an earlier one is
pub later_refl : (f : Finish) → IsLater f f
later_refl f = record {
  stay = λ y n at. at;
  more = [];
  steps = sym (append-nil f.steps);
  made = [];
  instances = sym (append-nil f.instances);
}

pub later_then : (a b c : Finish) → IsLater a b → IsLater b c → IsLater a c
later_then a b c first second = record {
  stay = λ y n at. second.stay y n (first.stay y n at);
  more = first.more ++ second.more;
  steps = second.steps ∙ ap (λ l. l ++ second.more) first.steps ∙ append_assoc a.steps first.more second.more;
  made = first.made ++ second.made;
  instances =
      second.instances ∙ ap (λ l. l ++ second.made) first.instances
      ∙ append_assoc a.instances first.made second.made;
}

-- with steps that make no core instance a plan is later
pub later_by : (a b : Finish) → Stay a b → AddsSteps a b → b.instances ≡ a.instances → IsLater a b
later_by a b stay adds instances = record {
  stay = stay;
  more = adds.more;
  steps = adds.is;
  made = [];
  instances = instances ∙ sym (append-nil a.instances);
}

-- a plan that was made further is later
pub continues_later : (g : ComponentDfg) (a b : Finish) → Continues g a b → IsLater a b
continues_later g a b continues = later_by a b continues.stay continues.steps continues.instances

-- and sound where it was
pub continues_sound : (g : ComponentDfg) (a b : Finish) → Continues g a b → IsSound g a → IsSound g b
continues_sound g a b continues sound = record {
  counts = continues.counts sound.counts;
  fills = continues.fills sound.fills;
  represents = continues.represents sound.represents;
  are_steps = continues.are_steps sound.counts sound.fills sound.are_steps;
}

-- what a plan was before, a later one was before
been_later : (g : ComponentDfg) (old new before : Finish) → IsLater old new → HasBeen g old before
    → HasBeen g new before
been_later g old new before later been =
    record { later = later_then before old new been.later later; sound = been.sound }

-- so it is with one entry more at most
module _ (g : ComponentDfg) (old new : Finish) (later : IsLater old new) (sound : IsSound g new)
    (options : length new.options ≤ length old.options + 1)
    (trampolines : length new.trampolines ≤ length old.trampolines + 1) where
  here : HasBeen g new new
  here = record { later = later_refl new; sound = sound }

  pub passes : HasPassed g old → HasPassed g new
  passes passed = record {
    options = λ n below. elim (cases_lt n (length old.options)) [
      | inl less ↦
          let q = passed.options n less in
          (q.0, been_later g old new q.0 later q.1, q.2)
      | inr not_less ↦ (new, here, omega (arith, options, below, not_less))
    ];
    trampolines = λ n below. elim (cases_lt n (length old.trampolines)) [
      | inl less ↦
          let q = passed.trampolines n less in
          (q.0, been_later g old new q.0 later q.1, q.2)
      | inr not_less ↦ (new, here, omega (arith, trampolines, below, not_less))
    ];
  }
