-- A run that goes on by one step, and what it does by that.
use Rattle.std.proofs.Common.{◌≡◌, ℕ, ◌≤◌, ◌++◌, ◌∷◌, [], Bool, true, false, List, length, Option, None, Some, refl}
use Rattle.std.proofs.Common.{sym, ap, ◌∙◌, arith}
use Rattle.std.specs.Prelude.{option_and_then, option_map, if◌then◌else◌, nat_le}
use Rattle.std.proofs.lemmas.List.{append-nil, append_assoc}
use Rattle.std.proofs.lemmas.Option.{none-some, same_Some}
use Rattle.std.proofs.lemmas.Bool.{le-leb}
use Rattle.pc_entity.proofs.Elements.{true_and}
use Rattle.pc_spec_plan.specs.Log.{Entry}
use Rattle.pc_spec_plan.specs.Machine.{State, run_from, step, is_within}
use Rattle.pc_spec_plan.specs.Machine as machine
use Rattle.pc_spec_plan.specs.PlanView as plan
use Rattle.pc_spec_plan.specs.Trace.{gained, trace_from}
use Rattle.pc_trampoline.specs.declared.part.Mark.{Mark}
use Rattle.pc_info.specs.declared.module.ModuleTranslation.{ModuleTranslation}
use Rattle.pc_dfg.specs.declared.dfg.ComponentDfg.{ComponentDfg}
use Rattle.pc_dfg_linearize.specs.declared.state.Finish.{Finish}
use Rattle.pc_dfg_linearize.specs.Plan.{Extends, slot_count}
use Rattle.pc_dfg_linearize.specs.Reached.{all_linked}

-- what a function made something of
behind_map : {A B : Type 0} (f : A → B) (o : Option A) (y : B) → option_map f o ≡ Some y
    → (x : A) × (o ≡ Some x) × (f x ≡ y)
behind_map f None y h = absurd (none-some y h)
behind_map f (Some x) y h = (x, refl, same_Some (f x) y h)

module _ (p : plan.PlanView Mark) where
  -- the run from a state on
  abbrev onwards : List plan.Initializer → State Mark → Option (State Mark)
  onwards is next = if is_within p next then run_from p all_linked is next else None

  -- what is done from a state on
  abbrev doing : List plan.Initializer → State Mark → State Mark → Option (List (Entry Mark))
  doing is s next =
      if is_within p next
      then option_map (λ (rest : List (Entry Mark)). gained s next ++ rest) (trace_from p all_linked is next)
      else None

  -- a run that goes on by one step
  pub run_more : (is : List plan.Initializer) (i : plan.Initializer) (s t u : State Mark)
      → run_from p all_linked is s ≡ Some t → step p all_linked t i ≡ Some u → is_within p u ≡ true
      → run_from p all_linked (is ++ i ∷ []) s ≡ Some u
  run_more [] i s t u run stepped within = rw (same_Some s t run, stepped, within) refl
  run_more (j ∷ is) i s t u run stepped within =
      by (step p all_linked s j) run (λ n h. run_more is i n t u h stepped within)
    where
      here : (n : State Mark) (b : Bool) → (if b then run_from p all_linked is n else None) ≡ Some t
          → ((m : State Mark) → run_from p all_linked is m ≡ Some t
          → run_from p all_linked (is ++ i ∷ []) m ≡ Some u)
          → (if b then run_from p all_linked (is ++ i ∷ []) n else None) ≡ Some u
      here n false h later = absurd (none-some t h)
      here n true h later = later n h

      by : (o : Option (State Mark)) → option_and_then (onwards is) o ≡ Some t
          → ((m : State Mark) → run_from p all_linked is m ≡ Some t
          → run_from p all_linked (is ++ i ∷ []) m ≡ Some u)
          → option_and_then (onwards (is ++ i ∷ [])) o ≡ Some u
      by None h later = absurd (none-some t h)
      by (Some n) h later = here n (is_within p n) h later

  -- does what it did, and what it gained by the step
  pub trace_more : (is : List plan.Initializer) (i : plan.Initializer) (s t u : State Mark) (trace : List (Entry Mark))
      → run_from p all_linked is s ≡ Some t → trace_from p all_linked is s ≡ Some trace
      → step p all_linked t i ≡ Some u → is_within p u ≡ true
      → trace_from p all_linked (is ++ i ∷ []) s ≡ Some (trace ++ gained t u)
  trace_more [] i s t u trace run did stepped within =
      rw (same_Some s t run, stepped, within, append-nil (gained t u), ← same_Some [] trace did) refl
  trace_more (j ∷ is) i s t u trace run did stepped within =
      by (step p all_linked s j) run did (λ n rest h d. trace_more is i n t u rest h d stepped within)
    where
      here : (n : State Mark) (b : Bool) → (if b then run_from p all_linked is n else None) ≡ Some t
          → (if b then option_map (λ (rest : List (Entry Mark)). gained s n ++ rest) (trace_from p all_linked is n)
          else None) ≡ Some trace
          → ((m : State Mark) (rest : List (Entry Mark)) → run_from p all_linked is m ≡ Some t
          → trace_from p all_linked is m ≡ Some rest
          → trace_from p all_linked (is ++ i ∷ []) m ≡ Some (rest ++ gained t u))
          → (if b then option_map (λ (rest : List (Entry Mark)). gained s n ++ rest)
          (trace_from p all_linked (is ++ i ∷ []) n) else None) ≡ Some (trace ++ gained t u)
      here n false h d later = absurd (none-some t h)
      here n true h d later =
          let rest = behind_map (λ (more : List (Entry Mark)). gained s n ++ more) (trace_from p all_linked is n)
          trace d in
          ap (option_map (λ (more : List (Entry Mark)). gained s n ++ more)) (later n rest.0 h rest.1)
          ∙ ap Some (sym (append_assoc (gained s n) rest.0 (gained t u)) ∙ ap (λ es. es ++ gained t u) rest.2)

      by : (o : Option (State Mark)) → option_and_then (onwards is) o ≡ Some t
          → option_and_then (doing is s) o ≡ Some trace
          → ((m : State Mark) (rest : List (Entry Mark)) → run_from p all_linked is m ≡ Some t
          → trace_from p all_linked is m ≡ Some rest
          → trace_from p all_linked (is ++ i ∷ []) m ≡ Some (rest ++ gained t u))
          → option_and_then (doing (is ++ i ∷ []) s) o ≡ Some (trace ++ gained t u)
      by None h d later = absurd (none-some t h)
      by (Some n) h d later = here n (is_within p n) h d later

-- a state has as many instances, lowerings, slots and resources as were counted
pub record IsCounted (f : Finish) (s : State Mark) : Type 0 where
  pub instances : length s.instances ≡ f.counts.instances
  pub lowerings : length s.lowerings ≡ f.counts.lowerings
  pub slots : (k : plan.SlotKind) → length (machine.slots_of s k) ≡ slot_count f k
  pub resources : length s.resources ≡ length f.resources

-- so it is within the counts of each plan that has what was made so far
pub is_within_counts : (g : ComponentDfg) (ms : List ModuleTranslation) (f : Finish) (s : State Mark)
    (p : plan.PlanView Mark) → IsCounted f s → Extends g ms f p → is_within p s ≡ true
is_within_counts g ms f s p counted extends =
    let slot = λ (k : plan.SlotKind). le _ _ _ (counted.slots k) (extends.slots k) in
    true_and _ _ (true_and _ _ (true_and _ _ (true_and _ _ (true_and _ _ (true_and _ _ (true_and _ _
    (le _ _ _ counted.instances extends.instances) (le _ _ _ counted.lowerings extends.lowerings))
    (slot plan.memory)) (slot plan.table)) (slot plan.realloc)) (slot plan.callback)) (slot plan.post_return))
    (le _ _ _ counted.resources extends.resources)
  where
    le : (m n k : ℕ) → m ≡ n → n ≤ k → nat_le m k ≡ true
    le m n k same below = le-leb m k (omega arith)
