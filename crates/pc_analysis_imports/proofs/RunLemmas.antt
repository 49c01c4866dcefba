-- A plan that never gets stuck can be followed, for callers.
use Rattle.std.proofs.Common.{◌≡◌, ◌<◌, ◌+◌, ℕ, zero, suc, Bool, true, false, List, [], ◌∷◌, length, map, filter}
use Rattle.std.proofs.Common.{Some, None, Option, refl, sym, ap, ◌∙◌, arith, take, cond, length-append, true≢false}
use Rattle.std.specs.Prelude.{slice_get, count_by, option_and_then, option_map, nat_lt, ◌==◌, if◌then◌else◌}
use Rattle.std.specs.List.{Contains}
use Rattle.std.proofs.lemmas.Bool.{ltb-true}
use Rattle.std.proofs.lemmas.List.{length-map}
use Rattle.std.proofs.lemmas.List.Sums.{sum_by-cons}
use Rattle.std.proofs.lemmas.Option.{none-some, same_Some, slice_get_within}
use Rattle.pc_entity.specs.Lists.{map_all}
use Rattle.pc_entity.proofs.LookupLemmas.{found_at}
use Rattle.pc_entity.proofs.MapAll.{length-map_all, slice_get-map_all}
use Rattle.pc_spec_plan.specs.CoreValue.{CoreValue, ExportedItem}
use Rattle.pc_spec_plan.specs.Counts.{makes_instance}
use Rattle.pc_spec_plan.specs.Log.{of_host, of_static}
use Rattle.pc_spec_plan.specs.Machine as machine
use Rattle.pc_spec_plan.specs.Machine.{PlanModule, State, add_instance, can_make, exported_item, fill, instance_item}
use Rattle.pc_spec_plan.specs.Machine.{is_within, module_at, owned_before, path_of, resolve, resolve_maybe}
use Rattle.pc_spec_plan.specs.Machine.{resolve_named, run_from, start, step}
use Rattle.pc_spec_plan.specs.PlanView as plan
use Rattle.pc_trampoline.specs.declared.part.Mark.{Mark}
use Rattle.pc_info.specs.declared.component.ComponentTranslation.{ComponentTranslation}
use Rattle.pc_info.specs.declared.module.ModuleTranslation.{ModuleTranslation}
use Rattle.pc_info.specs.Modules.{has_some, is_adapter_module, is_handed_in, module_view}
use Rattle.pc_info.specs.Slots.{step_definitions}
use Rattle.pc_info.specs.Standing.{steps_in}
use Rattle.pc_info.specs.View.{view}
use Rattle.pc_analysis_imports.specs.Known.{CanBeFollowed}
use Rattle.pc_analysis_imports.proofs.FoldLemmas.{placed}
use Rattle.pc_analysis_imports.proofs.OneWayLemmas.{from_mapped}

-- what stands behind an answer
then_some : {A B : Type 0} (f : A → Option B) (o : Option A) (y : B) → option_and_then f o ≡ Some y
    → (x : A) × (o ≡ Some x) × (f x ≡ Some y)
then_some f None y h = absurd (none-some y h)
then_some f (Some x) y h = (x, refl, h)

if_some : {A : Type 0} (b : Bool) (x y : A) → (if b then Some x else None) ≡ Some y → x ≡ y
if_some true x y h = same_Some x y h
if_some false x y h = absurd (none-some y h)

module _ (p : plan.PlanView Mark) (linked : ℕ → Bool) where
  -- a state after an instance was added
  one_more : (s next : State Mark) (b : Bool) (added : State Mark)
      → length added.instances ≡ length s.instances + 1 → (if b then Some added else None) ≡ Some next
      → length next.instances ≡ length s.instances + 1
  one_more s next b added counts h = sym (ap (λ (q : State Mark). length q.instances) (if_some b added next h)) ∙ counts

  same_count : (s next : State Mark) (b : Bool) (other : State Mark) → other.instances ≡ s.instances
      → (if b then Some other else None) ≡ Some next → length next.instances ≡ length s.instances + 0
  same_count s next b other keeps h =
      sym (ap (λ (q : State Mark). length q.instances) (if_some b other next h)) ∙ ap length keeps ∙ omega arith

  fill_keeps : (s : State Mark) (k : plan.SlotKind) (v : CoreValue Mark) → (fill s k v).instances ≡ s.instances
  fill_keeps s plan.memory v = refl
  fill_keeps s plan.table v = refl
  fill_keeps s plan.realloc v = refl
  fill_keeps s plan.callback v = refl
  fill_keeps s plan.post_return v = refl

  -- a step makes an instance, or leaves them
  step_counts : (s next : State Mark) (x : plan.Initializer) → step p linked s x ≡ Some next
      → length next.instances ≡ length s.instances + cond (makes_instance x) 1 0
  step_counts s next (plan.instantiate_static m args c) h =
      let core = then_some _ (module_at p m) next h in
      let vs = then_some _ (map_all (resolve p s) args) next core.2 in
      one_more s next (can_make p core.0 (length vs.0) c) (add_instance s (of_static m vs.0) c)
      (length-append s.instances _) vs.2
  step_counts s next (plan.instantiate_import r args None) h = absurd (none-some next h)
  step_counts s next (plan.instantiate_import r args (Some c)) h =
      let path = then_some _ (path_of p r) next h in
      let vs = then_some _ (map_all (resolve_named p s) args) next path.2 in
      one_more s next _ (add_instance s (of_host path.0 vs.0) (Some c)) (length-append s.instances _) vs.2
  step_counts s next (plan.lower_import n r) h =
      let path = then_some _ (path_of p r) next h in
      same_count s next _ _ refl path.2
  step_counts s next (plan.extract k n d) h =
      let v = then_some _ (resolve p s d) next h in
      same_count s next _ (fill s k v.0) (fill_keeps s k v.0) v.2
  step_counts s next (plan.declare_resource n rep d c) h =
      let v = then_some _ (resolve_maybe p s d) next h in
      same_count s next _ _ refl v.2

  -- each step of a run is one from a state that has the instances that steps before it made
  reached : (xs : List plan.Initializer) (s last : State Mark) → run_from p linked xs s ≡ Some last → (i : ℕ)
      → (x : plan.Initializer) → slice_get xs i ≡ Some x
      → (now next : State Mark) × (step p linked now x ≡ Some next)
      × (length now.instances ≡ length s.instances + count_by makes_instance (take i xs))
  reached [] s last runs i x at = absurd (none-some x at)
  reached (y ∷ ys) s last runs zero x at =
      let first = then_some _ (step p linked s y) last runs in
      (s, first.0, ap (step p linked s) (sym (same_Some y x at)) ∙ first.1, omega arith)
  reached (y ∷ ys) s last runs (suc i) x at =
      let first = then_some _ (step p linked s y) last runs in
      let rest = reached ys first.0 last (within (is_within p first.0) first.0 first.2) i x at in
      let here = step_counts s first.0 y first.1 in
      let counted : count_by makes_instance (y ∷ take i ys)
      ≡ cond (makes_instance y) 1 0 + count_by makes_instance (take i ys) =
      sum_by-cons (λ j. cond (makes_instance j) 1 0) y (take i ys) in
      (rest.0, rest.1, rest.2, omega (arith, rest.3, here, counted))
    where
      within : (b : Bool) (next : State Mark) → (if b then run_from p linked ys next else None) ≡ Some last
          → run_from p linked ys next ≡ Some last
      within true next h = h
      within false next h = absurd (none-some last h)

  -- what resolves to an item of an instance has that instance
  resolves_within : (s : State Mark) (r : ℕ) (i : ExportedItem) (v : CoreValue Mark)
      → resolve p s (plan.export r i) ≡ Some v → r < length s.instances
  resolves_within s r i v h =
      let made = then_some _ (slice_get s.instances r) v h in
      slice_get_within s.instances r made.0 made.1

  arguments_within : (s next : State Mark) (x : plan.Initializer) → step p linked s x ≡ Some next
      → makes_instance x ≡ true → (r : ℕ) (i : ExportedItem) → Contains (step_definitions x) (plan.export r i)
      → r < length s.instances
  arguments_within s next (plan.instantiate_static m args c) h makes r i inside =
      let core = then_some _ (module_at p m) next h in
      let vs = then_some _ (map_all (resolve p s) args) next core.2 in
      let at = placed args (plan.export r i) inside in
      let is = slice_get-map_all (resolve p s) args vs.0 at.0 (plan.export r i) vs.1 at.1 in
      let within = slice_get_within args at.0 (plan.export r i) at.1 in
      let value = found_at vs.0 at.0 (omega (arith, within, length-map_all (resolve p s) args vs.0 vs.1)) in
      resolves_within s r i value.0 (is ∙ value.1)
  arguments_within s next (plan.instantiate_import n args None) h makes r i inside = absurd (none-some next h)
  arguments_within s next (plan.instantiate_import n args (Some c)) h makes r i inside =
      let path = then_some _ (path_of p n) next h in
      let vs = then_some _ (map_all (resolve_named p s) args) next path.2 in
      let from = from_mapped (λ (a : plan.NamedDefinition). a.definition) args (plan.export r i) inside in
      let at = placed args from.0 from.1 in
      let is = slice_get-map_all (resolve_named p s) args vs.0 at.0 from.0 vs.1 at.1 in
      let within = slice_get_within args at.0 from.0 at.1 in
      let value = found_at vs.0 at.0 (omega (arith, within, length-map_all (resolve_named p s) args vs.0 vs.1)) in
      let named = behind_map _ (resolve p s from.0.definition) value.0 (is ∙ value.1) in
      resolves_within s r i named.0 (ap (resolve p s) (sym from.2) ∙ named.1)
    where
      behind_map : {A B : Type 0} (f : A → B) (o : Option A) (y : B) → option_map f o ≡ Some y
          → (x : A) × (o ≡ Some x)
      behind_map f None y h = absurd (none-some y h)
      behind_map f (Some x) y h = (x, refl)
  arguments_within s next (plan.lower_import n q) h makes r i inside = absurd (true≢false (sym makes))
  arguments_within s next (plan.extract k n d) h makes r i inside = absurd (true≢false (sym makes))
  arguments_within s next (plan.declare_resource n rep d c) h makes r i inside = absurd (true≢false (sym makes))

  -- a module that is instantiated is one of the plan
  module_within : (m : ℕ) (core : PlanModule Mark) → module_at p m ≡ Some core
      → m < length p.handed_in + p.adapter_modules
  module_within m core h =
      by (nat_lt m (length p.handed_in)) refl (nat_lt m (length p.handed_in + p.adapter_modules)) refl h
    where
      by : (a : Bool) → nat_lt m (length p.handed_in) ≡ a → (b : Bool)
          → nat_lt m (length p.handed_in + p.adapter_modules) ≡ b
          → (if a then option_map machine.handed_in (slice_get p.handed_in m)
          else (if b then Some (machine.adapter_module (filter (λ (r : plan.AdapterRecord Mark). r.core_module == m)
          p.adapters)) else None)) ≡ Some core → m < length p.handed_in + p.adapter_modules
      by true is b h k =
          let less = ltb-true m (length p.handed_in) is in
          omega (arith, less)
      by false is true h k = ltb-true m (length p.handed_in + p.adapter_modules) h
      by false is false h k = absurd (none-some core k)

both_kinds : (ms : List ModuleTranslation)
    → length (filter is_handed_in ms) + length (filter is_adapter_module ms) ≡ length ms
both_kinds [] = refl
both_kinds (m ∷ ms) = by (has_some m.adapters) (both_kinds ms)
  where
    by : (b : Bool) → length (filter is_handed_in ms) + length (filter is_adapter_module ms) ≡ length ms
        → length (cond (if b then false else true) (m ∷ filter is_handed_in ms) (filter is_handed_in ms))
        + length (cond b (m ∷ filter is_adapter_module ms) (filter is_adapter_module ms)) ≡ suc (length ms)
    by true rest = omega (arith, rest)
    by false rest = omega (arith, rest)

-- each module was handed in or is one of adapters
all_modules : (modules : List ModuleTranslation)
    → length (map module_view (filter is_handed_in modules)) + length (filter is_adapter_module modules)
    ≡ length modules
all_modules modules =
    let handed = length-map (filter is_handed_in modules) module_view in
    omega (arith, handed, both_kinds modules)

-- a plan that never gets stuck, with its modules in order
pub followed : (t : ComponentTranslation) (modules : List ModuleTranslation) (last : State Mark)
    → machine.run (view t modules) ≡ Some last → CanBeFollowed (map module_view modules) (steps_in t)
followed t modules last runs = record {
  held = λ m args c inside.
      let at = placed (steps_in t) (plan.instantiate_static m args c) inside in
      let step_at = reached (view t modules) (λ r. true) (steps_in t) start last runs at.0 _ at.1 in
      let core = then_some _ (module_at (view t modules) m) step_at.1 step_at.2 in
      let few = module_within (view t modules) (λ r. true) m core.0 core.1 in
      omega (arith, few, all_modules modules, length-map modules module_view);
  earlier = λ i r s item at makes inside.
      let step_at = reached (view t modules) (λ r. true) (steps_in t) start last runs i s at in
      let within =
      arguments_within (view t modules) (λ r. true) step_at.0 step_at.1 s step_at.2 makes r item inside in
      omega (arith, within, step_at.3);
}
