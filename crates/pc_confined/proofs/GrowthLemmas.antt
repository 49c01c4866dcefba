-- What belongs goes on belonging when a log gets longer.
use Rattle.std.proofs.Common.{ℕ, List, [], ◌∷◌, ◌++◌, refl, sym, ap, subst, ◌∙◌, append-nil, append_assoc}
use Rattle.std.specs.Prelude.{slice_get, All}
use Rattle.std.proofs.lemmas.List.Elements.{All-push, All-weaker, Contains-append_left, filter_map-append}
use Rattle.pc_entity.proofs.Growing.{slice_get-append}
use Rattle.pc_spec_plan.specs.CoreValue.{CoreValue, adapter, builtin, exported, flags, helper, intrinsic, lowered}
use Rattle.pc_spec_plan.specs.Log.{Entry, declared, declared_resource, instances_of, instantiated, made, needed}
use Rattle.pc_spec_plan.specs.Log.{owned_of}
use Rattle.pc_parsed.specs.Mark.{Mark}
use Rattle.pc_spec_reading.specs.Scope.{CoreInstance, CoreItem, Scope, bag, core_list, of_host_module, of_module}
use Rattle.pc_spec_reading.specs.Value.{Function, Instance, NamedValues, Value, and_value, component_value}
use Rattle.pc_spec_reading.specs.Value.{func_value}
use Rattle.pc_spec_reading.specs.Value.{host_function, host_instance, instance_value, intrinsic_function}
use Rattle.pc_spec_reading.specs.Value.{lifted_function, made_instance, module_value, no_values, the_intrinsics}
use Rattle.pc_spec_reading.specs.Value.{type_value}
use Rattle.pc_spec_wiring.specs.Confined.{Belongs, IsOf, Tells, WasMadeFor}
use Rattle.pc_spec_wiring.specs.Confined as of
use Rattle.pc_spec_wiring.specs.Held.{arguments_of, instance_of, lifts_of, maybe_list}
use Rattle.pc_confined.proofs.Sound.{AreConfined, AreSoundValues, Grows, IsConfinedAdapter, IsConfinedEntry}
use Rattle.pc_confined.proofs.Sound.{IsSoundArgument}
use Rattle.pc_confined.proofs.Sound.{IsSoundCore, IsSoundFunction, IsSoundInstance, IsSoundScope, IsSoundValue}

module _ (log more : List (Entry Mark)) where
  -- a core instance that was made
  made_grown : (n c : ℕ) → WasMadeFor (instances_of log) n c → WasMadeFor (instances_of (log ++ more)) n c
  made_grown n c h = (
    h.0,
    ap (λ xs. slice_get xs n) (filter_map-append owned_of log more)
        ∙ slice_get-append (instances_of log) (instances_of more) n h.0 h.1,
    h.2,
  )

  of_grown : (c : ℕ) (v : CoreValue Mark) → IsOf (instances_of log) c v → IsOf (instances_of (log ++ more)) c v
  of_grown c v (of.item_is_of {n = n} h) = of.item_is_of (made_grown n c h)
  of_grown c v (of.lowering_is_of h) = of.lowering_is_of h
  of_grown c v of.builtin_is_of = of.builtin_is_of
  of_grown c v of.intrinsic_is_of = of.intrinsic_is_of
  of_grown c v (of.adapter_is_of h) = of.adapter_is_of h

  tells_grown : (v : CoreValue Mark) → Tells log v → Tells (log ++ more) v
  unfolding Tells
  tells_grown (exported n item) h = tt
  tells_grown (lowered p ty o) h = Contains-append_left log more _ h
  tells_grown (builtin k c ps) h = Contains-append_left log more _ h
  tells_grown (intrinsic n) h = tt
  tells_grown (adapter t lift u lower v) h = Contains-append_left log more _ h
  tells_grown (flags c) h = tt
  tells_grown (helper k ps) h = tt

  -- a core value
  belongs_grown : (c : ℕ) (v : CoreValue Mark) → Belongs log c v → Belongs (log ++ more) c v
  belongs_grown c v h = record { whose = of_grown c v h.whose; told = tells_grown v h.told }

  -- several
  belong_grown : (c : ℕ) (vs : List (CoreValue Mark)) → All (Belongs log c) vs → All (Belongs (log ++ more) c) vs
  belong_grown c vs h = All-weaker (Belongs log c) (Belongs (log ++ more) c) (belongs_grown c) vs h

  -- an entry
  pub entry_grown : (e : Entry Mark) → IsConfinedEntry log e → IsConfinedEntry (log ++ more) e
  entry_grown (instantiated i c) h = belong_grown c (arguments_of i) h
  entry_grown (declared_resource r d c) h = belong_grown c (maybe_list d) h
  entry_grown (declared v) h = tt
  entry_grown (made v) h = by v h
    where
      by : (v : CoreValue Mark) → IsConfinedAdapter log v → IsConfinedAdapter (log ++ more) v
      by (exported n item) h = tt
      by (lowered p ty o) h = tt
      by (builtin k c ps) h = tt
      by (intrinsic n) h = tt
      by (adapter t lift u lower v) h = belong_grown (instance_of lift) (lifts_of lift v) h
      by (flags c) h = tt
      by (helper k ps) h = tt
  entry_grown (needed p) h = tt

  -- a function
  function_grown : (f : Function) → IsSoundFunction log f → IsSoundFunction (log ++ more) f
  function_grown (lifted_function tree v o) h = belong_grown (instance_of o) (lifts_of o v) h
  function_grown (host_function p) h = tt
  function_grown (intrinsic_function n) h = tt

  mutual
    -- a value
    value_grown : (v : Value) → IsSoundValue log v → IsSoundValue (log ++ more) v
    value_grown (func_value f) h = function_grown f h
    value_grown (module_value m) h = tt
    value_grown (instance_value i) h = instance_grown i h
    value_grown (component_value c) h = tt
    value_grown (type_value t) h = tt

    instance_grown : (i : Instance) → IsSoundInstance log i → IsSoundInstance (log ++ more) i
    instance_grown (made_instance vs tree) h = values_grown vs h
    instance_grown (host_instance p tree) h = tt
    instance_grown the_intrinsics h = tt

    values_grown : (vs : NamedValues) → AreSoundValues log vs → AreSoundValues (log ++ more) vs
    values_grown no_values h = tt
    values_grown (and_value name v vs) h = (value_grown v h.0, values_grown vs h.1)

  -- a core instance
  core_grown : (c : ℕ) (i : CoreInstance) → IsSoundCore log c i → IsSoundCore (log ++ more) c i
  core_grown c (of_module order number) h = made_grown order c h
  core_grown c (of_host_module order tree) h = made_grown order c h
  core_grown c (bag items) h =
      All-weaker (λ (e : List ℕ × CoreItem). Belongs log c e.1.value)
      (λ (e : List ℕ × CoreItem). Belongs (log ++ more) c e.1.value) (λ e b. belongs_grown c e.1.value b) items h

  scope_more : (s : Scope) → IsSoundScope log s → IsSoundScope (log ++ more) s
  scope_more s sound = record {
    cores = λ k. belong_grown s.component_instance (core_list s k) (sound.cores k);
    core_instances =
        All-weaker (IsSoundCore log s.component_instance) (IsSoundCore (log ++ more) s.component_instance)
        (core_grown s.component_instance) s.core_instances sound.core_instances;
    funcs =
        All-weaker (IsSoundFunction log) (IsSoundFunction (log ++ more)) function_grown s.funcs sound.funcs;
    instances =
        All-weaker (IsSoundInstance log) (IsSoundInstance (log ++ more)) instance_grown s.instances sound.instances;
    arguments =
        All-weaker (IsSoundArgument log) (IsSoundArgument (log ++ more)) (λ a b. value_grown a.1 b) s.arguments
        sound.arguments;
  }

-- a log is as long as itself
pub stays : (log : List (Entry Mark)) → Grows log log
stays log = record { more = []; is = sym (append-nil log) }

-- one entry more
pub one_more : (log : List (Entry Mark)) (e : Entry Mark) → Grows log (log ++ e ∷ [])
one_more log e = record { more = e ∷ []; is = refl }

-- what got longer gets longer still
pub longer : (a b c : List (Entry Mark)) → Grows a b → Grows b c → Grows a c
longer a b c first second = record {
  more = first.more ++ second.more;
  is = second.is ∙ ap (λ xs. xs ++ second.more) first.is ∙ append_assoc a first.more second.more;
}

-- a sound scope stays sound
pub scope_grown : (log later : List (Entry Mark)) → Grows log later → (s : Scope) → IsSoundScope log s
    → IsSoundScope later s
scope_grown log later g s sound = subst (λ l. IsSoundScope l s) (sym g.is) (scope_more log g.more s sound)

-- a confined log stays confined with one confined entry more
pub confined_more : (log : List (Entry Mark)) (e : Entry Mark) → AreConfined log → IsConfinedEntry log e
    → AreConfined (log ++ e ∷ [])
confined_more log e all one =
    All-push (IsConfinedEntry (log ++ e ∷ [])) log e
    (All-weaker (IsConfinedEntry log) (IsConfinedEntry (log ++ e ∷ [])) (entry_grown log (e ∷ [])) log all)
    (entry_grown log (e ∷ []) e one)
