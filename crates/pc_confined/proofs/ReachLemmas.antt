-- In a confined log a transparent adapter leads to nothing that may see the state of a thread.
use Rattle.std.proofs.Common.{◌≡◌, ℕ, Bool, true, false, List, refl, sym, subst, ◌∙◌, Contains}
use Rattle.std.proofs.lemmas.List.Elements.{All-contains}
use Rattle.std.proofs.lemmas.Option.{get_or_from_slice_get, same_Some, slice_get_within}
use Rattle.pc_spec_plan.specs.CoreValue.{CoreValue, ExportedItem, adapter, builtin, exported, flags, helper}
use Rattle.pc_spec_plan.specs.CoreValue.{intrinsic, lowered}
use Rattle.pc_spec_plan.specs.ExportNode.{NamedNode}
use Rattle.pc_spec_plan.specs.Log.{Entry, Owned, instances_of, made}
use Rattle.pc_spec_wiring.specs.Confined.{Belongs, IsConfined, IsOf, Tells, WasMadeFor}
use Rattle.pc_spec_wiring.specs.Confined as of
use Rattle.pc_spec_wiring.specs.Held.{arguments_of, instance_of, lifts_of}
use Rattle.pc_spec_wiring.specs.Opaque.{IsOpaque, IsTransparent, IsUsedIn, is_context, transparent}
use Rattle.pc_spec_wiring.specs.Opaque as why
use Rattle.pc_spec_wiring.specs.Reached.{IsReached, KeepsThreads, Leads, sees_thread}
use Rattle.pc_spec_wiring.specs.Reached as reach

module _ {τ : Type 0} (is_async has_handle : τ → Bool) (log : List (Entry τ)) (nodes : List (NamedNode τ)) where
  -- a core value belongs to a component instance that can't see the state of a thread, and is used there
  record IsHeld (v : CoreValue τ) : Type 0 where
    component_instance : ℕ
    clear : ¬ (IsOpaque is_async log nodes component_instance)
    belongs : Belongs log component_instance v
    used : IsUsedIn log nodes component_instance v

  -- what is held can't see it
  held_blind : (c : ℕ) (v : CoreValue τ) → ¬ (IsOpaque is_async log nodes c) → IsOf (instances_of log) c v
      → Tells log v → IsUsedIn log nodes c v → sees_thread is_async v ≡ false
  unfolding Tells
  held_blind c (exported n item) clear whose told used = refl
  held_blind c (lowered p ty o) clear (of.lowering_is_of e) told used = absurd (clear (why.lowers_host told e))
  held_blind c (builtin k d ps) clear of.builtin_is_of told used = absurd (clear (why.declares_builtin told))
  held_blind c (intrinsic place) clear whose told used = by (is_context place) refl
    where
      by : (b : Bool) → is_context place ≡ b → is_context place ≡ false
      by true is = absurd (clear (why.uses_context used is))
      by false is = is
  held_blind c (adapter t lift u lower callee) clear (of.adapter_is_of e) told used = by (is_async t) refl
    where
      by : (b : Bool) → is_async t ≡ b → is_async t ≡ false
      by true is = absurd (clear (why.lowers_async told e is))
      by false is = is
  held_blind c (flags d) clear whose told used = refl
  held_blind c (helper k ps) clear whose told used = refl

  module _ (confined : IsConfined log) where
    -- a transparent adapter that was made leads to what its lifting side holds
    adapter_leads : (a v : CoreValue τ) → IsTransparent is_async has_handle log nodes a → Contains log (made a)
        → Leads log a v → IsHeld v
    adapter_leads a v
        (transparent {t = t} {u = u} {lift = lift} {lower = lower} {callee = callee} p q r s x y clear) told
        (reach.to_lifted at) = record {
          component_instance = instance_of lift;
          clear = clear;
          belongs =
              All-contains (Belongs log (instance_of lift)) (lifts_of lift callee) v
              (confined.callees t u lift lower callee told) at;
          used = why.as_lifted told refl at;
        }

    -- an adapter that is told of was made
    told_made : (a : CoreValue τ) → IsTransparent is_async has_handle log nodes a → Tells log a → Contains log (made a)
    unfolding Tells
    told_made a (transparent p q r s x y clear) told = told

    -- an item of a core instance leads to what that is given
    item_leads : (c n : ℕ) (item : ExportedItem) (v : CoreValue τ) → ¬ (IsOpaque is_async log nodes c)
        → IsOf (instances_of log) c (exported n item) → Leads log (exported n item) v → IsHeld v
    item_leads c n item v clear (of.item_is_of m) (reach.to_argument {o = o} there at) =
        let same : m.0 ≡ o = same_Some m.0 o (sym m.1 ∙ there) in
        let whose : o.component_instance ≡ c = subst (λ (x : Owned τ). x.component_instance ≡ c) same m.2 in
        let within = slice_get_within (instances_of log) n o there in
        let stands : Contains (instances_of log) o =
        (n, within, get_or_from_slice_get (instances_of log) n o o there) in
        record {
          component_instance = c;
          clear = clear;
          belongs =
              subst (λ d. Belongs log d v) whose
              (All-contains (Belongs log o.component_instance) (arguments_of o.instantiation) v
              (confined.arguments o stands) at);
          used = why.as_argument stands whose at;
        }

    -- whatever is reached is held
    reached_held : (a v : CoreValue τ) → Contains log (made a) → IsTransparent is_async has_handle log nodes a
        → IsReached is_async has_handle log nodes a v → IsHeld v
    reached_held a v told clear (reach.at_once l) = adapter_leads a v clear told l
    reached_held a v told clear (reach.past_item {n = n} {item = item} r l) =
        let h = reached_held a (exported n item) told clear r in
        item_leads h.component_instance n item v h.clear h.belongs.whose l
    reached_held a v told clear (reach.past_adapter {a = b} r next l) =
        let h = reached_held a b told clear r in
        adapter_leads b v next (told_made b next h.belongs.told) l

    -- so no state of a thread is seen
    pub threads_kept : KeepsThreads is_async has_handle log nodes
    unfolding KeepsThreads
    threads_kept a v told clear r =
        let h = reached_held a v told clear r in
        held_blind h.component_instance v h.clear h.belongs.whose h.belongs.told h.used
