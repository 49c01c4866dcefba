-- In the log of two adapters nothing leaves a component instance but by an adapter, and none may see the state of a
-- thread.
use Rattle.std.proofs.Common.{List, ◌≡◌, ℕ, [], ◌∷◌, false, refl, sym, ◌∙◌, arith, All, true≢false}
use Rattle.std.proofs.lemmas.List.Elements.{All-cons, All-contains, All-nil}
use Rattle.pc_spec_plan.specs.CoreValue.{CoreValue, a_value, adapter, builtin, lowered}
use Rattle.pc_spec_plan.specs.Log.{Entry, Owned, declared, declared_resource, instances_of, instantiated, made}
use Rattle.pc_spec_plan.specs.Log.{of_static}
use Rattle.pc_parsed.specs.Mark.{Mark}
use Rattle.pc_spec_wiring.specs.Confined.{Belongs, IsConfined, Tells, adapter_is_of, item_is_of}
use Rattle.pc_spec_wiring.specs.FunctionTypes.{is_async_type}
use Rattle.pc_spec_wiring.specs.Held.{arguments_of, instance_of, lifts_of, options_list}
use Rattle.pc_spec_wiring.specs.Opaque.{IsOpaqueIn, IsTransparentIn, IsUsedIn, as_argument, as_destructor, as_export}
use Rattle.pc_spec_wiring.specs.Opaque.{as_lifted, as_lower_option, declares_builtin, is_context_value, lowers_async}
use Rattle.pc_spec_wiring.specs.Opaque.{lowers_host, transparent, uses_context}
use Rattle.pc_types.specs.declared.parsed.WasmValType.TheVariants as core
use Rattle.pc_spec_plan.specs.CoreValue.{intrinsic}
use Rattle.pc_test_wiring.specs.Logs.{async_adapter, handle_adapter, log_with_context, log_with_load}
use Rattle.pc_test_wiring.specs.Logs.{first_adapter, lifted_function, log, log_with_host, second_adapter}

-- what holds of one holds of a list of it
pub one : {X : Type 0} (P : X → Type 0) (x : X) → P x → All P (x ∷ [])
one P x p = All-cons P x [] p (All-nil P)

-- the core instances, each with its component instance
abbrev first_instance : Owned Mark
first_instance = record { instantiation = of_static 0 []; component_instance = 1 }

abbrev second_instance : Owned Mark
second_instance = record { instantiation = of_static 0 []; component_instance = 2 }

abbrev third_instance : Owned Mark
third_instance = record {
  instantiation = of_static 1 (first_adapter ∷ second_adapter ∷ []);
  component_instance = 3;
}

-- what holds of the three core instances holds of all
all_instances : (P : Owned Mark → Type 0) → P first_instance → P second_instance → P third_instance
    → All P (instances_of log)
all_instances P a b c =
    All-cons P first_instance (second_instance ∷ third_instance ∷ []) a
    (All-cons P second_instance (third_instance ∷ []) b (one P third_instance c))

-- what holds of the five entries holds of all
all_entries : (P : Entry Mark → Type 0) → P (instantiated (of_static 0 []) 1) → P (instantiated (of_static 0 []) 2)
    → P (made first_adapter) → P (made second_adapter)
    → P (instantiated (of_static 1 (first_adapter ∷ second_adapter ∷ [])) 3) → All P log
all_entries P a b c d e =
    All-cons P (instantiated (of_static 0 []) 1)
    (instantiated (of_static 0 []) 2 ∷ made first_adapter ∷ made second_adapter
    ∷ instantiated (of_static 1 (first_adapter ∷ second_adapter ∷ [])) 3 ∷ []) a
    (All-cons P (instantiated (of_static 0 []) 2)
    (made first_adapter ∷ made second_adapter
    ∷ instantiated (of_static 1 (first_adapter ∷ second_adapter ∷ [])) 3 ∷ []) b
    (All-cons P (made first_adapter)
    (made second_adapter ∷ instantiated (of_static 1 (first_adapter ∷ second_adapter ∷ [])) 3 ∷ []) c
    (All-cons P (made second_adapter) (instantiated (of_static 1 (first_adapter ∷ second_adapter ∷ [])) 3 ∷ []) d
    (one P (instantiated (of_static 1 (first_adapter ∷ second_adapter ∷ [])) 3) e))))

-- what a core instance is given belongs to its component instance
abbrev GivenOwn : Owned Mark → Type 0
GivenOwn o = All (Belongs log o.component_instance) (arguments_of o.instantiation)

-- an entry declares no resource, and an adapter that it makes lifts what belongs to the component instance that lifts
abbrev LiftsOwn : Entry Mark → Type 0
LiftsOwn (declared_resource r d c) = ⊥
LiftsOwn (made (adapter t lift u lower callee)) = All (Belongs log (instance_of lift)) (lifts_of lift callee)
LiftsOwn e = Unit {0}

first_belongs : Belongs log 3 first_adapter
unfolding Tells
first_belongs = record { whose = adapter_is_of refl; told = (2, omega arith, refl) }

second_belongs : Belongs log 3 second_adapter
unfolding Tells
second_belongs = record { whose = adapter_is_of refl; told = (3, omega arith, refl) }

first_callee : Belongs log 1 (lifted_function 0)
unfolding Tells
first_callee = record { whose = item_is_of (first_instance, refl, refl); told = tt }

second_callee : Belongs log 2 (lifted_function 1)
unfolding Tells
second_callee = record { whose = item_is_of (second_instance, refl, refl); told = tt }

all_own : All GivenOwn (instances_of log)
all_own =
    all_instances GivenOwn (All-nil (Belongs log 1)) (All-nil (Belongs log 2))
    (All-cons (Belongs log 3) first_adapter (second_adapter ∷ []) first_belongs
    (one (Belongs log 3) second_adapter second_belongs))

all_lift_own : All LiftsOwn log
all_lift_own =
    all_entries LiftsOwn tt tt (one (Belongs log 1) (lifted_function 0) first_callee)
    (one (Belongs log 2) (lifted_function 1) second_callee) tt

pub confined : IsConfined log
confined = record {
  arguments = λ o at. All-contains GivenOwn (instances_of log) o all_own at;
  destructors = λ r d c at. absurd (All-contains LiftsOwn log (declared_resource r d c) all_lift_own at);
  callees = λ t u lift lower callee at.
      All-contains LiftsOwn log (made (adapter t lift u lower callee)) all_lift_own at;
}

-- a value is no intrinsic that reads or writes the slots of a context
abbrev pub Plain : CoreValue Mark → Type 0
Plain v = is_context_value v ≡ false

-- a core instance is given no such intrinsic
abbrev pub GivenPlain : Owned Mark → Type 0
GivenPlain o = All Plain (arguments_of o.instantiation)

-- an entry declares no function, the destructor of a resource is plain, and an adapter that it makes isn't async and
-- holds no such intrinsic
abbrev pub Quiet : Entry Mark → Type 0
Quiet (declared v) = ⊥
Quiet (declared_resource r (a_value v) c) = Plain v
Quiet (made (adapter t lift u lower callee)) =
    (is_async_type t ≡ false) × All Plain (lifts_of lift callee) × All Plain (options_list lower)
Quiet e = Unit {0}

all_plain : All GivenPlain (instances_of log)
all_plain =
    all_instances GivenPlain (All-nil Plain) (All-nil Plain)
    (All-cons Plain first_adapter (second_adapter ∷ []) refl (one Plain second_adapter refl))

all_quiet : All Quiet log
all_quiet =
    all_entries Quiet tt tt (refl, one Plain (lifted_function 0) refl, All-nil Plain)
    (refl, one Plain (lifted_function 1) refl, All-nil Plain) tt

module _ (l : List (Entry Mark)) (quiet : All Quiet l) (plain : All GivenPlain (instances_of l)) where
  -- what is used in a component instance is plain
  used_is_plain : (c : ℕ) (v : CoreValue Mark) → IsUsedIn l [] c v → Plain v
  used_is_plain c v (as_argument {o} at same among) =
      All-contains Plain (arguments_of o.instantiation) v (All-contains GivenPlain (instances_of l) o plain at) among
  used_is_plain c v (as_lifted {t} {u} {lift} {lower} {callee} at same among) =
      All-contains Plain (lifts_of lift callee) v
      (All-contains Quiet l (made (adapter t lift u lower callee)) quiet at).1 among
  used_is_plain c v (as_lower_option {t} {u} {lift} {lower} {callee} at same among) =
      All-contains Plain (options_list lower) v
      (All-contains Quiet l (made (adapter t lift u lower callee)) quiet at).2 among
  used_is_plain c v (as_destructor {r} at) =
      All-contains Quiet l (declared_resource r (a_value v) c) quiet at
  used_is_plain c v (as_export {n} {f} {o} at among same among2) =
      absurd (All-contains (λ m. ⊥) [] n (All-nil (λ m. ⊥)) at)

  -- so no component instance is opaque
  pub none_is_opaque : (c : ℕ) → ¬ (IsOpaqueIn l [] c)
  none_is_opaque c (lowers_host {p} {ty} {o} at same) = All-contains Quiet l (declared (lowered p ty o)) quiet at
  none_is_opaque c (declares_builtin {k} {ps} at) = All-contains Quiet l (declared (builtin k c ps)) quiet at
  none_is_opaque c (lowers_async {t} {u} {lift} {lower} {callee} at same asks) =
      true≢false (sym asks ∙ (All-contains Quiet l (made (adapter t lift u lower callee)) quiet at).0)
  none_is_opaque c (uses_context {v} used asks) = true≢false (sym asks ∙ used_is_plain c v used)

pub first_is_transparent : IsTransparentIn log [] first_adapter
first_is_transparent = transparent refl refl refl refl refl refl (none_is_opaque log all_quiet all_plain 1)

pub first_lowers_host : IsOpaqueIn log_with_host [] 1
first_lowers_host = lowers_host (0, omega arith, refl) refl

pub first_is_kept : ¬ (IsTransparentIn log_with_host [] first_adapter)
first_is_kept (transparent a b c d e f closed) = closed first_lowers_host

pub async_is_kept : ¬ (IsTransparentIn log [] async_adapter)
async_is_kept (transparent a b c d e f closed) = true≢false d

pub handle_is_kept : ¬ (IsTransparentIn log [] handle_adapter)
handle_is_kept (transparent a b c d e f closed) = true≢false e

pub context_is_used : IsOpaqueIn log_with_context [] 1
context_is_used = uses_context (as_destructor (0, omega arith, refl)) refl

pub load_is_quiet : ¬ (IsOpaqueIn log_with_load [] 1)
load_is_quiet =
    none_is_opaque log_with_load
    (All-cons Quiet (declared_resource core.I32 (a_value (intrinsic 1)) 1) log refl all_quiet) all_plain 1
