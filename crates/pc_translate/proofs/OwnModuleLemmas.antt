-- In the run of a plan the modules of which instances are made for component instances were handed in.
use Rattle.std.proofs.Common.{◌≡◌, ◌<◌, ◌&&◌, ◌==◌, ◌+◌, ℕ, Bool, true, false, List, [], ◌∷◌, Option, None, Some}
use Rattle.std.proofs.Common.{IfSome, refl, sym, subst, ap, ◌∙◌, length, if◌then◌else◌, option_and_then, true≢false}
use Rattle.std.specs.Prelude.{All, filter, nat_lt, option_map, slice_get}
use Rattle.std.proofs.lemmas.List.Elements.{All-append, All-cons, All-nil}
use Rattle.std.proofs.lemmas.Option.{slice_get_within}
use Rattle.pc_entity.specs.Lists.{map_all}
use Rattle.pc_spec_plan.specs.CoreValue.{CoreValue}
use Rattle.pc_spec_plan.specs.Log.{Instantiation, of_host, of_static}
use Rattle.pc_spec_plan.specs.Machine.{PlanModule, RuntimeInstance, State, adapter_module, add_instance, can_make}
use Rattle.pc_spec_plan.specs.Machine.{fill, fits, handed_in, is_counted, is_within, module_at, path_of, resolve}
use Rattle.pc_spec_plan.specs.Machine.{resolve_maybe, resolve_named, run, run_from, slots_of, start, step}
use Rattle.pc_spec_plan.specs.PlanView as plan
use Rattle.pc_spec_plan.specs.PlanView.{Initializer, PlanView, SlotKind}

module _ {A : Type 0} (P : A → Type 0) where
  -- what a test lets through
  tested : (b : Bool) (o : Option A) → (b ≡ true → IfSome o P) → IfSome (if b then o else None) P
  tested true o h = h refl
  tested false o h = tt

module _ {A B : Type 0} (P : B → Type 0) where
  -- what is made of what was found
  each_found : (Q : A → Type 0) (f : A → Option B) (o : Option A) → IfSome o Q → ((x : A) → Q x → IfSome (f x) P)
      → IfSome (option_and_then f o) P
  each_found Q f None h each = tt
  each_found Q f (Some x) h each = each x h

  each_any : (f : A → Option B) (o : Option A) → ((x : A) → IfSome (f x) P) → IfSome (option_and_then f o) P
  each_any f None each = tt
  each_any f (Some x) each = each x

-- what is said of the adapters of a module
abbrev records_in : {τ : Type 0} → PlanView τ → (number : ℕ) → List (plan.AdapterRecord τ)
records_in {τ} p m = filter (λ (r : plan.AdapterRecord τ). r.core_module == m) p.adapters

module _ {τ : Type 0} (p : PlanView τ) where
  -- the module of an instance was handed in, if the instance was made for a component instance
  abbrev pub IsOwnModule : RuntimeInstance τ → Type 0
  IsOwnModule i =
      (m c : ℕ) (args : List (CoreValue τ)) → i.instantiation ≡ of_static m args → i.component_instance ≡ Some c
      → m < length p.handed_in

  abbrev AllOwn : State τ → Type 0
  AllOwn s = All IsOwnModule s.instances

  added : (s : State τ) (i : Instantiation τ) (c : Option ℕ) → AllOwn s
      → IsOwnModule (record { instantiation = i; component_instance = c }) → AllOwn (add_instance s i c)
  added s i c before this =
      let one : RuntimeInstance τ = record { instantiation = i; component_instance = c } in
      All-append IsOwnModule s.instances (one ∷ []) before
      (All-cons IsOwnModule one [] this (All-nil IsOwnModule))

  filled : (s : State τ) (k : SlotKind) (v : CoreValue τ) → AllOwn s → AllOwn (fill s k v)
  filled s plan.memory v before = before
  filled s plan.table v before = before
  filled s plan.realloc v before = before
  filled s plan.callback v before = before
  filled s plan.post_return v before = before

  -- a module that may be made for a component instance was handed in
  abbrev MayBeOwn : ℕ → PlanModule τ → Type 0
  MayBeOwn m core = (n c : ℕ) → can_make p core n (Some c) ≡ true → m < length p.handed_in

  may_be : (m : ℕ) → IfSome (module_at p m) (MayBeOwn m)
  may_be m = by (nat_lt m (length p.handed_in))
    where
      there : (o : Option _) → slice_get p.handed_in m ≡ o → IfSome (option_map handed_in o) (MayBeOwn m)
      there None is = tt
      there (Some r) is = λ n c can. slice_get_within p.handed_in m r is

      other : (b : Bool) (rs : List (plan.AdapterRecord τ))
          → IfSome (if b then Some (adapter_module rs) else None) (MayBeOwn m)
      other true rs = λ n c can. absurd (true≢false (sym can))
      other false rs = tt

      by : (b : Bool)
          → IfSome (if b then option_map handed_in (slice_get p.handed_in m)
          else (if nat_lt m (length p.handed_in + p.adapter_modules) then Some (adapter_module (records_in p m)) else None))
          (MayBeOwn m)
      by true = there (slice_get p.handed_in m) refl
      by false = other (nat_lt m (length p.handed_in + p.adapter_modules)) (records_in p m)

  module _ (linked : ℕ → Bool) where
    step_own : (s : State τ) → AllOwn s → (i : Initializer) → IfSome (step p linked s i) AllOwn
    step_own s before (plan.instantiate_static m args c) =
        each_found AllOwn (MayBeOwn m) _ (module_at p m) (may_be m) (λ core may.
        each_any AllOwn _ (map_all (resolve p s) args) (λ vs.
        tested AllOwn (can_make p core (length vs) c) (Some (add_instance s (of_static m vs) c)) (λ can.
        added s (of_static m vs) c before (λ n d xs is at.
        subst (λ k. k < length p.handed_in) (number_same is)
        (may (length vs) d (ap (can_make p core (length vs)) (sym at) ∙ can))))))
      where
        number_of : Instantiation τ → ℕ
        number_of (of_static n vs) = n
        number_of (of_host path vs) = 0

        number_same : {n k : ℕ} {vs xs : List (CoreValue τ)} → of_static n vs ≡ of_static k xs → n ≡ k
        number_same is = ap number_of is
    step_own s before (plan.instantiate_import r args None) = tt
    step_own s before (plan.instantiate_import r args (Some c)) =
        each_any AllOwn _ (path_of p r) (λ path.
        each_any AllOwn _ (map_all (resolve_named p s) args) (λ vs.
        tested AllOwn (linked r && is_counted p c) (Some (add_instance s (of_host path vs) (Some c))) (λ can.
        added s (of_host path vs) (Some c) before (λ n d xs is at. absurd (true≢false (ap is_host is))))))
      where
        is_host : Instantiation τ → Bool
        is_host (of_static n vs) = false
        is_host (of_host path vs) = true
    step_own s before (plan.lower_import index r) =
        each_any AllOwn _ (path_of p r) (λ path.
        tested AllOwn (linked r && index == length s.lowerings) _ (λ can. before))
    step_own s before (plan.extract k index d) =
        each_any AllOwn _ (resolve p s d) (λ v.
        tested AllOwn (fits k d && index == length (slots_of s k)) (Some (fill s k v)) (λ can. filled s k v before))
    step_own s before (plan.declare_resource index representation d c) =
        each_any AllOwn _ (resolve_maybe p s d) (λ v.
        tested AllOwn (index == length s.resources && is_counted p c) _ (λ can. before))

    run_own : (is : List Initializer) (s : State τ) → AllOwn s → IfSome (run_from p linked is s) AllOwn
    run_own [] s before = before
    run_own (i ∷ is) s before =
        each_found AllOwn AllOwn _ (step p linked s i) (step_own s before i) (λ next own.
        tested AllOwn (is_within p next) (run_from p linked is next) (λ within. run_own is next own))

  -- so it is at the end of a run
  pub own_modules : (last : State τ) → run p ≡ Some last → All IsOwnModule last.instances
  own_modules last runs =
      subst (λ o. IfSome o AllOwn) runs (run_own (λ r. true) p.initializers start (All-nil IsOwnModule))
