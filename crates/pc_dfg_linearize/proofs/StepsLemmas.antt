-- The steps of a plan stay those of the graph while it grows.
use Rattle.std.proofs.Common.{◌≡◌, ◌≤◌, ◌++◌, ◌⊎◌, inl, inr, ℕ, List, [], ◌∷◌, length, map, take, All, None}
use Rattle.std.proofs.Common.{Some, refl, sym, ap, subst, ◌∙◌, arith}
use Rattle.std.specs.Prelude.{slice_get, count_by}
use Rattle.std.specs.List.{Contains}
use Rattle.std.proofs.lemmas.List.{append-nil, length-append, map-append, take-append-le, take_all}
use Rattle.std.proofs.lemmas.List.Elements.{All-head, All-tail, All-weaker, Contains-append_cases, Contains-append_left}
use Rattle.std.proofs.lemmas.List.Elements.{Contains-push}
use Rattle.std.proofs.lemmas.Option.{slice_get_within}
use Rattle.pc_entity.proofs.Growing.{slice_get-append, slice_get-append_seam}
use Rattle.pc_numbers.specs.declared.runtime.RuntimeInstanceIndex.{RuntimeInstanceIndex}
use Rattle.pc_spec_plan.specs.Counts.{makes_instance}
use Rattle.pc_spec_plan.specs.PlanView as plan
use Rattle.pc_info.specs.declared.initializer.GlobalInitializer.{GlobalInitializer}
use Rattle.pc_info.specs.Definitions.{def_view, initializer_view}
use Rattle.pc_dfg.specs.declared.core_def.CoreDef.{CoreDef}
use Rattle.pc_dfg.specs.declared.core_def.CoreDef.TheVariants as def
use Rattle.pc_dfg.specs.declared.dfg.ComponentDfg.{ComponentDfg}
use Rattle.pc_dfg_linearize.specs.declared.state.Finish.{Finish}
use Rattle.pc_dfg_linearize.specs.Converted.{def_in}
use Rattle.pc_dfg_linearize.specs.Numbers.{number_at}
use Rattle.pc_dfg_linearize.specs.Once.{Fills, Stay}
use Rattle.pc_dfg_linearize.specs.Parts.{HasNumber, in_def, slot_numbers}
use Rattle.pc_dfg_linearize.specs.Plan.{steps_view}
use Rattle.pc_dfg_linearize.specs.Ready.{IsReadyDef}
use Rattle.pc_info.specs.Standing.{CarriesNext, Piece, named_in}
use Rattle.pc_dfg_linearize.specs.Steps.{AreSteps, IsConvertible, IsInstanceStep, IsModuleOf, IsOwned, IsSlotOf, IsThere}
use Rattle.pc_dfg_linearize.proofs.FillLemmas.{pushed_back}
use Rattle.pc_dfg_linearize.proofs.TakeLemmas.{none_in, one_in}
use Rattle.pc_dfg_linearize.proofs.ThereLemmas.{KeepsInstances, def_stays, there_later}

-- steps carry their numbers, each by those before it
abbrev pub Carry : List plan.Initializer → Type 0
Carry xs = (i : ℕ) (s : plan.Initializer) → slice_get xs i ≡ Some s → CarriesNext (take i xs) s

-- so they do with one more that carries the next
pub carry_one : (xs : List plan.Initializer) (s : plan.Initializer) → Carry xs → CarriesNext xs s
    → Carry (xs ++ s ∷ [])
carry_one xs s carry next i t at = elim (pushed_back xs s t i at) [
  | inl last ↦
      let all : take i (xs ++ s ∷ []) ≡ xs =
      take-append-le i xs (s ∷ []) (omega (arith, last.0)) ∙ take_all i xs (omega (arith, last.0)) in
      subst (λ ys. CarriesNext ys t) (sym all) (subst (CarriesNext xs) last.1 next)
  | inr before ↦
      let within = slice_get_within xs i t before in
      subst (λ ys. CarriesNext ys t) (sym (take-append-le i xs (s ∷ []) (omega (arith, within)))) (carry i t before)
]

-- a definition that was ready is
pub ready_later : (g : ComponentDfg) (made made' : ℕ) → made ≤ made' → (d : CoreDef) → IsReadyDef g made d
    → IsReadyDef g made' d
unfolding IsReadyDef
ready_later g made made' le (def.Export e) ready = omega (arith, le, ready)
ready_later g made made' le (def.InstanceFlags c) ready = ready
ready_later g made made' le (def.Trampoline t) ready = ready
ready_later g made made' le (def.UnsafeIntrinsic s i) ready = ready
ready_later g made made' le (def.Adapter a) ready = ready

module _ (g : ComponentDfg) (f f' : Finish) (stay : Stay f f') (made : List RuntimeInstanceIndex)
    (instances : f'.instances ≡ f.instances ++ made) (more : List GlobalInitializer)
    (steps : f'.steps ≡ f.steps ++ more) where
  pub view_more : steps_view f' ≡ steps_view f ++ map initializer_view more
  view_more = ap (map initializer_view) steps ∙ map-append initializer_view f.steps more

  pub kept : KeepsInstances f f'
  kept k n at = ap (λ l. slice_get l k) instances ∙ slice_get-append f.instances made k n at

  pub convertible_later : (d : CoreDef) → IsConvertible g f d → IsConvertible g f' d
  convertible_later d can =
      let long = ap length instances ∙ length-append f.instances made in
      record {
        ready = ready_later g (length f.instances) (length f'.instances) (omega (arith, long)) d can.ready;
        numbered =
            All-weaker (HasNumber f) (HasNumber f') (λ x has. (has.0, stay x has.0 has.1)) (in_def g d) can.numbered;
      }

  pub converted_later : (d : CoreDef) → IsConvertible g f d → def_in g f' d ≡ def_in g f d
  converted_later d can = def_stays f f' stay kept g d can.ready can.numbered

  pub all_converted : (ds : List CoreDef) → All (IsConvertible g f) ds
      → map def_view (map (def_in g f') ds) ≡ map def_view (map (def_in g f) ds)
  all_converted [] all = refl
  all_converted (d ∷ ds) all =
      let first = converted_later d (All-head (IsConvertible g f) d ds all) in
      let rest = all_converted ds (All-tail (IsConvertible g f) d ds all) in
      λ i. def_view (first i) ∷ rest i

  slot_later : (k : plan.SlotKind) (entry n : ℕ) → IsSlotOf g f k entry n → IsSlotOf g f' k entry n
  slot_later k entry n is = record {
    what = is.what;
    at = is.at;
    convertible = convertible_later is.what is.convertible;
    step =
        subst (λ d. Contains (steps_view f') (plan.extract k n (def_view d)))
        (sym (converted_later is.what is.convertible))
        (subst (λ l. Contains l (plan.extract k n (def_view (def_in g f is.what)))) (sym view_more)
        (Contains-append_left (steps_view f) (map initializer_view more) _ is.step));
  }

  instance_later : (s : plan.Initializer) (n : ℕ) → IsInstanceStep g f s n → IsInstanceStep g f' s n
  instance_later s n is =
      let within = slice_get_within (steps_view f) is.place s is.at in
      record {
        place = is.place;
        at = ap (λ l. slice_get l is.place) view_more
            ∙ slice_get-append (steps_view f) (map initializer_view more) is.place s is.at;
        number_of_it = ap (λ l. count_by makes_instance (take is.place l)) view_more
            ∙ ap (count_by makes_instance)
            (take-append-le is.place (steps_view f) (map initializer_view more) (omega (arith, within)))
            ∙ is.number_of_it;
      }

  module_later : (entry n : ℕ) → IsModuleOf g f entry n → IsModuleOf g f' entry n
  module_later entry n is = record {
    what = is.what;
    at = is.at;
    convertible = All-weaker (IsConvertible g f) (IsConvertible g f') convertible_later is.what.1 is.convertible;
    step =
        subst (λ args. IsInstanceStep g f' (plan.instantiate_static is.what.0.0 args None) n)
        (sym (all_converted is.what.1 is.convertible)) (instance_later _ n is.step);
  }

  pub owned_later : (n : ℕ) → IsOwned g f n → IsOwned g f' n
  owned_later n is = record {
    step = is.step;
    effect = is.effect;
    makes = is.makes;
    stands = instance_later is.step n is.stands;
  }

  there_before : Fills f → Fills f' → AreSteps g f
      → ((s : plan.Initializer) → Contains (map initializer_view more) s → (x : Piece) → Contains (named_in s) x
      → IsThere f' x)
      → (s : plan.Initializer) → Contains (steps_view f') s → (x : Piece) → Contains (named_in s) x → IsThere f' x
  there_before fills fills' are new s inside x names =
      let either = subst (λ l. Contains l s) view_more inside in
      elim (Contains-append_cases (steps_view f) (map initializer_view more) s either) [
        | inl old ↦ there_later f f' stay kept fills fills' x (are.there s old x names)
        | inr last ↦ new s last x names
      ]

  -- what was made before is there, and what is new is as it should be
  pub steps_more : Fills f → Fills f' → AreSteps g f
      → ((k : plan.SlotKind) (entry n : ℕ) → number_at (slot_numbers f' k) entry ≡ Some n
      → (number_at (slot_numbers f k) entry ≡ Some n) ⊎ IsSlotOf g f' k entry n)
      → ((entry n : ℕ) → number_at f'.numbers.adapter_modules entry ≡ Some n
      → (number_at f.numbers.adapter_modules entry ≡ Some n) ⊎ IsModuleOf g f' entry n)
      → ((k : ℕ) (n : RuntimeInstanceIndex) → slice_get f'.instances k ≡ Some n
      → (slice_get f.instances k ≡ Some n) ⊎ IsOwned g f' n.0)
      → Carry (steps_view f')
      → ((s : plan.Initializer) → Contains (map initializer_view more) s → (x : Piece) → Contains (named_in s) x
      → IsThere f' x)
      → AreSteps g f'
  steps_more fills fills' are slots modules owned carry new = record {
    slots = λ k entry n at. elim (slots k entry n at) [
      | inl old ↦ slot_later k entry n (are.slots k entry n old)
      | inr is ↦ is
    ];
    modules = λ entry n at. elim (modules entry n at) [
      | inl old ↦ module_later entry n (are.modules entry n old)
      | inr is ↦ is
    ];
    owned = λ k n at. elim (owned k n at) [
      | inl old ↦ owned_later n.0 (are.owned k n old)
      | inr is ↦ is
    ];
    carry = carry;
    there = there_before fills fills' are new;
  }

-- where no step is added and nothing that has a step got a number, the steps are those that they were
pub steps_still : (g : ComponentDfg) (f f' : Finish) → Stay f f' → f'.instances ≡ f.instances → f'.steps ≡ f.steps
    → ((k : plan.SlotKind) → slot_numbers f' k ≡ slot_numbers f k)
    → f'.numbers.adapter_modules ≡ f.numbers.adapter_modules → Fills f → Fills f' → AreSteps g f → AreSteps g f'
steps_still g f f' stay instances steps slots modules fills fills' are =
    let longer = steps ∙ sym (append-nil f.steps) in
    steps_more g f f' stay [] (instances ∙ sym (append-nil f.instances)) [] longer fills fills' are
    (λ k entry n at. inl (ap (λ l. number_at l entry) (sym (slots k)) ∙ at))
    (λ entry n at. inl (ap (λ l. number_at l entry) (sym modules) ∙ at))
    (λ k n at. inl (ap (λ l. slice_get l k) (sym instances) ∙ at))
    (subst Carry (sym (ap (map initializer_view) steps)) are.carry)
    (λ s inside. absurd (none_in s inside))

-- with one step more, which carries its number and names what is there
module _ (g : ComponentDfg) (f f' : Finish) (stay : Stay f f') (made : List RuntimeInstanceIndex)
    (instances : f'.instances ≡ f.instances ++ made) (i : GlobalInitializer) (steps : f'.steps ≡ f.steps ++ i ∷ [])
    (fills : Fills f) (fills' : Fills f') where
  pub steps_one : AreSteps g f
      → ((k : plan.SlotKind) (entry n : ℕ) → number_at (slot_numbers f' k) entry ≡ Some n
      → (number_at (slot_numbers f k) entry ≡ Some n) ⊎ IsSlotOf g f' k entry n)
      → ((entry n : ℕ) → number_at f'.numbers.adapter_modules entry ≡ Some n
      → (number_at f.numbers.adapter_modules entry ≡ Some n) ⊎ IsModuleOf g f' entry n)
      → ((k : ℕ) (n : RuntimeInstanceIndex) → slice_get f'.instances k ≡ Some n
      → (slice_get f.instances k ≡ Some n) ⊎ IsOwned g f' n.0)
      → CarriesNext (steps_view f) (initializer_view i)
      → ((x : Piece) → Contains (named_in (initializer_view i)) x → IsThere f x)
      → AreSteps g f'
  steps_one are slots modules owned carries names =
      let view = view_more g f f' stay made instances (i ∷ []) steps in
      steps_more g f f' stay made instances (i ∷ []) steps fills fills' are slots modules owned
      (subst Carry (sym view) (carry_one (steps_view f) (initializer_view i) are.carry carries))
      (λ s inside x named.
      let same = one_in (initializer_view i) s inside in
      there_later f f' stay (kept g f f' stay made instances (i ∷ []) steps) fills fills' x
      (names x (subst (λ t. Contains (named_in t) x) (sym same) named)))

  -- the step stands last, and makes the next instance
  pub last_instance : (s : plan.Initializer) (n : ℕ) → initializer_view i ≡ s
      → count_by makes_instance (steps_view f) ≡ n → IsInstanceStep g f' s n
  last_instance s n is count =
      let view = view_more g f f' stay made instances (i ∷ []) steps in
      let xs = steps_view f in
      record {
        place = length xs;
        at = ap (λ l. slice_get l (length xs)) view ∙ slice_get-append_seam xs (initializer_view i) [] ∙ ap Some is;
        number_of_it = ap (λ l. count_by makes_instance (take (length xs) l)) view
            ∙ ap (count_by makes_instance)
            (take-append-le (length xs) xs (initializer_view i ∷ []) (omega arith) ∙ take_all (length xs) xs
            (omega arith)) ∙ count;
      }

  -- and the plan has it
  pub last_step : (s : plan.Initializer) → initializer_view i ≡ s → Contains (steps_view f') s
  last_step s is =
      let view = view_more g f f' stay made instances (i ∷ []) steps in
      subst (λ l. Contains l s) (sym view) (subst (λ t. Contains (steps_view f ++ t ∷ []) s) (sym is)
      (Contains-push (steps_view f) s))
