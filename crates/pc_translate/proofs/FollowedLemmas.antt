-- A plan that never gets stuck can be followed from front to back: its steps make instances of modules that are there,
-- and name instances that were made before.
use Rattle.std.proofs.Common.{◌≡◌, ◌<◌, ◌+◌, ◌&&◌, ◌==◌, ℕ, zero, suc, Bool, true, false, List, [], ◌∷◌, Option, None}
use Rattle.std.proofs.Common.{Some, IfSome, refl, sym, ap, subst, ◌∙◌, arith, length, map, cond, if◌then◌else◌, true≢false}
use Rattle.std.proofs.Common.{length-append, option_and_then}
use Rattle.std.specs.Prelude.{Contains, count_by, filter, nat_lt, option_map, slice_get, take}
use Rattle.std.proofs.lemmas.Bool.{ltb-true}
use Rattle.std.proofs.lemmas.List.Sums.{sum_by-cons}
use Rattle.std.proofs.lemmas.Option.{none-some, same_Some, slice_get_within}
use Rattle.pc_entity.proofs.MapAll.{map_all_uncons}
use Rattle.pc_entity.specs.Lists.{map_all}
use Rattle.pc_spec_plan.specs.CoreValue.{CoreValue, ExportedItem}
use Rattle.pc_spec_plan.specs.Counts.{makes_instance}
use Rattle.pc_spec_plan.specs.Log.{NamedArgument, of_host, of_static}
use Rattle.pc_spec_plan.specs.Machine.{PlanModule, RuntimeInstance, State, adapter_module, add_instance, can_make, fill}
use Rattle.pc_spec_plan.specs.Machine.{fits, handed_in, instance_item, is_counted, is_within, module_at, owned_before}
use Rattle.pc_spec_plan.specs.Machine.{path_of, resolve, resolve_maybe, resolve_named, run, run_from, slots_of, start, step}
use Rattle.pc_spec_plan.specs.PlanView as plan
use Rattle.pc_spec_plan.specs.PlanView.{Definition, Initializer, NamedDefinition, PlanView, SlotKind}
use Rattle.pc_info.specs.Slots.{step_definitions}
use Rattle.pc_translate.proofs.SaidLemmas.{behind_map, place_of}

module _ {A B : Type 0} (P : B → Type 0) where
  -- what is made of what was found
  each_is : (f : A → Option B) (o : Option A) → ((x : A) → o ≡ Some x → IfSome (f x) P)
      → IfSome (option_and_then f o) P
  each_is f None each = tt
  each_is f (Some x) each = each x refl

module _ {A : Type 0} (P : A → Type 0) where
  -- what a test lets through
  tested : (b : Bool) (o : Option A) → IfSome o P → IfSome (if b then o else None) P
  tested true o h = h
  tested false o h = tt

  -- what is true of a value that is there
  there : (o : Option A) (x : A) → o ≡ Some x → IfSome o P → P x
  there o x is h = subst (λ q. IfSome q P) is h

-- of several items each has a value
one_of : {A B : Type 0} (f : A → Option B) (xs : List A) (ys : List B) (k : ℕ) (x : A) → map_all f xs ≡ Some ys
    → slice_get xs k ≡ Some x → (y : B) × (f x ≡ Some y)
one_of f [] ys k x all at = absurd (none-some x at)
one_of f (w ∷ xs) ys zero x all at =
    let p = map_all_uncons f w xs ys all in
    (p.0, ap f (sym (same_Some w x at)) ∙ p.2)
one_of f (w ∷ xs) ys (suc k) x all at = let p = map_all_uncons f w xs ys all in one_of f xs p.1 k x p.3 at

-- one where a test holds
abbrev one_if : Bool → ℕ
one_if b = cond b 1 0

-- what is said of the adapters of a module
abbrev records_in : {τ : Type 0} → PlanView τ → (number : ℕ) → List (plan.AdapterRecord τ)
records_in {τ} p m = filter (λ (r : plan.AdapterRecord τ). r.core_module == m) p.adapters

module _ {τ : Type 0} (p : PlanView τ) where
  -- a module that is there has a number of the plan
  held_at : (m : ℕ) (core : PlanModule τ) → module_at p m ≡ Some core → m < length p.handed_in + p.adapter_modules
  held_at m core is = by (nat_lt m (length p.handed_in)) is
    where
      own : (o : Option _) → slice_get p.handed_in m ≡ o → option_map handed_in o ≡ Some core
          → m < length p.handed_in + p.adapter_modules
      own None at same = absurd (none-some core same)
      own (Some r) at same = let below = slice_get_within p.handed_in m r at in omega (arith, below)

      other : (b : Bool) (rs : List (plan.AdapterRecord τ))
          → nat_lt m (length p.handed_in + p.adapter_modules) ≡ b
          → (if b then Some (adapter_module rs) else None) ≡ Some core → m < length p.handed_in + p.adapter_modules
      other true rs at same = ltb-true m (length p.handed_in + p.adapter_modules) at
      other false rs at same = absurd (none-some core same)

      by : (b : Bool)
          → (if b then option_map handed_in (slice_get p.handed_in m)
          else (if nat_lt m (length p.handed_in + p.adapter_modules) then Some (adapter_module (records_in p m)) else None))
          ≡ Some core
          → m < length p.handed_in + p.adapter_modules
      by true same = own (slice_get p.handed_in m) refl same
      by false same = other (nat_lt m (length p.handed_in + p.adapter_modules)) (records_in p m) refl same

  -- an instance that is named is there
  named_at : (s : State τ) (r : ℕ) (item : ExportedItem) (v : CoreValue τ) → resolve p s (plan.export r item) ≡ Some v
      → r < length s.instances
  named_at s r item v is = by (slice_get s.instances r) refl is
    where
      by : (o : Option (RuntimeInstance τ)) → slice_get s.instances r ≡ o
          → option_and_then (λ (m : RuntimeInstance τ). instance_item p (owned_before s r) item m.instantiation) o
          ≡ Some v
          → r < length s.instances
      by None at same = absurd (none-some v same)
      by (Some m) at same = slice_get_within s.instances r m at

  -- the value of a named argument
  value_of : (s : State τ) (a : NamedDefinition) (x : NamedArgument τ) → resolve_named p s a ≡ Some x
      → (v : CoreValue τ) × (resolve p s a.definition ≡ Some v)
  value_of s a x is = by (resolve p s a.definition) refl is
    where
      by : (o : Option (CoreValue τ)) → resolve p s a.definition ≡ o
          → option_map (λ v. record { module_name = a.module_name; name = a.name; value = v }) o ≡ Some x
          → (v : CoreValue τ) × (resolve p s a.definition ≡ Some v)
      by None at same = absurd (none-some x same)
      by (Some v) at same = (v, at)

  module _ (linked : ℕ → Bool) where
    -- what a step that isn't stuck tells
    record Tells (s : State τ) (i : Initializer) (next : State τ) : Type 0 where
      many : length next.instances ≡ length s.instances + one_if (makes_instance i)
      held : (m : ℕ) (args : List Definition) (c : Option ℕ) → i ≡ plan.instantiate_static m args c
          → m < length p.handed_in + p.adapter_modules
      earlier : makes_instance i ≡ true → (r : ℕ) (item : ExportedItem)
          → Contains (step_definitions i) (plan.export r item) → r < length s.instances

    abbrev module_in : Initializer → ℕ
    module_in (plan.instantiate_static m args c) = m
    module_in i = 0

    abbrev is_static : Initializer → Bool
    is_static (plan.instantiate_static m args c) = true
    is_static i = false

    -- of a step that makes no instance
    none_made : (s next : State τ) (i : Initializer) → makes_instance i ≡ false → is_static i ≡ false
        → length next.instances ≡ length s.instances → Tells s i next
    none_made s next i none other same = record {
      many = let no_more : one_if (makes_instance i) ≡ one_if false = ap one_if none in omega (arith, same, no_more);
      held = λ m args c is.
          let static : is_static i ≡ true = ap is_static is in absurd (true≢false (sym static ∙ other));
      earlier = λ makes. absurd (true≢false (sym makes ∙ none));
    }

    filled : (s : State τ) (k : SlotKind) (v : CoreValue τ) → length (fill s k v).instances ≡ length s.instances
    filled s plan.memory v = refl
    filled s plan.table v = refl
    filled s plan.realloc v = refl
    filled s plan.callback v = refl
    filled s plan.post_return v = refl

    step_tells : (s : State τ) (i : Initializer) → IfSome (step p linked s i) (Tells s i)
    step_tells s (plan.instantiate_static m args c) =
        let i = plan.instantiate_static m args c in
        each_is (Tells s i) _ (module_at p m) (λ core is.
        each_is (Tells s i) _ (map_all (resolve p s) args) (λ vs all.
        tested (Tells s i) (can_make p core (length vs) c) (Some (add_instance s (of_static m vs) c)) (record {
          many = length-append s.instances (record { instantiation = of_static m vs; component_instance = c } ∷ []);
          held = λ n xs d same.
              subst (λ k. k < length p.handed_in + p.adapter_modules) (ap module_in same) (held_at m core is);
          earlier = λ makes r item at.
              let place = place_of args (plan.export r item) at in
              let value = one_of (resolve p s) args vs place.0 (plan.export r item) all place.1 in
              named_at s r item value.0 value.1;
        })))
    step_tells s (plan.instantiate_import r args None) = tt
    step_tells s (plan.instantiate_import r args (Some c)) =
        let i = plan.instantiate_import r args (Some c) in
        each_is (Tells s i) _ (path_of p r) (λ path is.
        each_is (Tells s i) _ (map_all (resolve_named p s) args) (λ vs all.
        tested (Tells s i) (linked r && is_counted p c) (Some (add_instance s (of_host path vs) (Some c))) (record {
          many =
              length-append s.instances (record { instantiation = of_host path vs; component_instance = Some c } ∷ []);
          held = λ n xs d same.
              let static : false ≡ true = ap is_static same in absurd (true≢false (sym static));
          earlier = λ makes k item at.
              let place = place_of (map (λ (a : NamedDefinition). a.definition) args) (plan.export k item) at in
              let named = behind_map (λ (a : NamedDefinition). a.definition) args place.0 (plan.export k item) place.1 in
              let argument = one_of (resolve_named p s) args vs place.0 named.0 all named.1 in
              let value = value_of s named.0 argument.0 argument.1 in
              named_at s k item value.0 (ap (resolve p s) (sym named.2) ∙ value.1);
        })))
    step_tells s (plan.lower_import index r) =
        let i = plan.lower_import index r in
        each_is (Tells s i) _ (path_of p r) (λ path is.
        tested (Tells s i) (linked r && index == length s.lowerings) _ (none_made s _ i refl refl refl))
    step_tells s (plan.extract k index d) =
        let i = plan.extract k index d in
        each_is (Tells s i) _ (resolve p s d) (λ v is.
        tested (Tells s i) (fits k d && index == length (slots_of s k)) (Some (fill s k v))
        (none_made s (fill s k v) i refl refl (filled s k v)))
    step_tells s (plan.declare_resource index representation d c) =
        let i = plan.declare_resource index representation d c in
        each_is (Tells s i) _ (resolve_maybe p s d) (λ v is.
        tested (Tells s i) (index == length s.resources && is_counted p c) _ (none_made s _ i refl refl refl))

    -- what the steps of a run tell from a state on
    record TellsAt (s : State τ) (is : List Initializer) (k : ℕ) (i : Initializer) : Type 0 where
      held : (m : ℕ) (args : List Definition) (c : Option ℕ) → i ≡ plan.instantiate_static m args c
          → m < length p.handed_in + p.adapter_modules
      earlier : makes_instance i ≡ true → (r : ℕ) (item : ExportedItem)
          → Contains (step_definitions i) (plan.export r item)
          → r < length s.instances + count_by makes_instance (take k is)

    run_tells : (is : List Initializer) (s last : State τ) → run_from p linked is s ≡ Some last → (k : ℕ)
        (i : Initializer) → slice_get is k ≡ Some i → TellsAt s is k i
    run_tells [] s last runs k i at = absurd (none-some i at)
    run_tells (j ∷ is) s last runs k i at =
        by (λ next goes n at_n. run_tells is next last goes n i at_n) (step p linked s j) (step_tells s j) runs k at
      where
        first : (next : State τ) → Tells s j next → j ≡ i → TellsAt s (j ∷ is) 0 i
        first next tells same = record {
          held = λ m args c is_i. tells.held m args c (same ∙ is_i);
          earlier = λ makes r item named.
              let below = tells.earlier (ap makes_instance same ∙ makes) r item
              (subst (λ x. Contains (step_definitions x) (plan.export r item)) (sym same) named) in
              omega (arith, below);
        }

        later : (next : State τ) → Tells s j next → (n : ℕ) → TellsAt next is n i → TellsAt s (j ∷ is) (suc n) i
        later next tells n rest = record {
          held = rest.held;
          earlier = λ makes r item named.
              let below = rest.earlier makes r item named in
              let counted = sum_by-cons (λ (x : Initializer). one_if (makes_instance x)) j (take n is) in
              omega (arith, below, tells.many, counted);
        }

        within : ((next : State τ) → run_from p linked is next ≡ Some last → (n : ℕ) → slice_get is n ≡ Some i
            → TellsAt next is n i)
            → (next : State τ) → Tells s j next → (b : Bool)
            → (if b then run_from p linked is next else None) ≡ Some last → (n : ℕ)
            → slice_get (j ∷ is) n ≡ Some i → TellsAt s (j ∷ is) n i
        within onward next tells false goes n at_n = absurd (none-some last goes)
        within onward next tells true goes zero at_n = first next tells (same_Some j i at_n)
        within onward next tells true goes (suc n) at_n = later next tells n (onward next goes n at_n)

        by : ((next : State τ) → run_from p linked is next ≡ Some last → (n : ℕ) → slice_get is n ≡ Some i
            → TellsAt next is n i)
            → (o : Option (State τ)) → IfSome o (Tells s j)
            → option_and_then (λ (next : State τ). if is_within p next then run_from p linked is next else None) o
            ≡ Some last
            → (n : ℕ) → slice_get (j ∷ is) n ≡ Some i → TellsAt s (j ∷ is) n i
        by onward None tells goes n at_n = absurd (none-some last goes)
        by onward (Some next) tells goes n at_n = within onward next tells (is_within p next) goes n at_n

  -- a module of which a step makes an instance is there
  pub steps_held : (last : State τ) → run p ≡ Some last → (m : ℕ) (args : List Definition) (c : Option ℕ)
      → Contains p.initializers (plan.instantiate_static m args c) → m < length p.handed_in + p.adapter_modules
  steps_held last runs m args c at =
      let place = place_of p.initializers (plan.instantiate_static m args c) at in
      (run_tells (λ r. true) p.initializers start last runs place.0 (plan.instantiate_static m args c) place.1).held m
      args c refl

  -- an argument of an instance names an instance that was made before
  pub names_earlier : (last : State τ) → run p ≡ Some last → (k r : ℕ) (i : Initializer) (item : ExportedItem)
      → slice_get p.initializers k ≡ Some i → makes_instance i ≡ true
      → Contains (step_definitions i) (plan.export r item) → r < count_by makes_instance (take k p.initializers)
  names_earlier last runs k r i item at makes named =
      let below = (run_tells (λ n. true) p.initializers start last runs k i at).earlier makes r item named in
      omega (arith, below)
