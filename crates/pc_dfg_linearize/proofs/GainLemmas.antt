-- What stood for a value in a state stands for it in one that has gained.
use Rattle.std.proofs.Common.{◌≡◌, ◌≤◌, ℕ, Bool, true, false, List, [], ◌∷◌, length, drop, take, Option, None}
use Rattle.std.proofs.Common.{Some, refl, ap, ◌∙◌, arith}
use Rattle.std.specs.Prelude.{slice_get, option_and_then, option_map, if◌then◌else◌, count_by, is_some, All}
use Rattle.std.specs.List.{filter_map}
use Rattle.std.proofs.Math.Seq.{drop-append_seam}
use Rattle.std.proofs.lemmas.List.{take-append-le}
use Rattle.std.proofs.lemmas.List.Elements.{All-head, All-tail}
use Rattle.std.proofs.lemmas.Option.{none-some, same_Some, slice_get_within}
use Rattle.pc_entity.proofs.Growing.{slice_get-append}
use Rattle.pc_spec_plan.specs.CoreValue as value
use Rattle.pc_spec_plan.specs.CoreValue.{CoreValue, Options, DataModel, MaybeValue, Parts, Part, a_value, ExportedItem}
use Rattle.pc_spec_plan.specs.Machine.{State, RuntimeInstance, chosen, model_from, options_from}
use Rattle.pc_spec_plan.specs.Machine.{options_at, part_value}
use Rattle.pc_spec_plan.specs.Machine.{part_values, trampoline_value, resolve, exported_item, instance_item}
use Rattle.pc_spec_plan.specs.Machine.{owned_before, owned_of}
use Rattle.pc_spec_plan.specs.Machine.{is_counted, path_of, with_numbers, slots_of}
use Rattle.pc_spec_plan.specs.PlanView as plan
use Rattle.pc_spec_plan.specs.Trace.{gained}
use Rattle.pc_trampoline.specs.declared.part.Mark.{Mark}
use Rattle.pc_dfg_linearize.specs.Reached.{Gains}

-- a look-up that answers what another one did
abbrev pub Keeps : {A : Type 0} → (old new : Option A) → Type 0
Keeps {A} old new = (x : A) → old ≡ Some x → new ≡ Some x

module _ {A B : Type 0} where
  -- what a function made something of
  pub behind_map : (f : A → B) (o : Option A) (y : B) → option_map f o ≡ Some y → (x : A) × (o ≡ Some x) × (f x ≡ y)
  behind_map f None y h = absurd (none-some y h)
  behind_map f (Some x) y h = (x, refl, same_Some (f x) y h)

  -- and one that may make nothing
  pub behind_then : (f : A → Option B) (o : Option A) (y : B) → option_and_then f o ≡ Some y
      → (x : A) × (o ≡ Some x) × (f x ≡ Some y)
  behind_then f None y h = absurd (none-some y h)
  behind_then f (Some x) y h = (x, refl, h)

  -- what is made of it is kept
  map_kept : (f : A → B) (o w : Option A) → Keeps o w → Keeps (option_map f o) (option_map f w)
  map_kept f o w keeps y h =
      let b = behind_map f o y h in
      ap (option_map f) (keeps b.0 b.1) ∙ ap Some b.2

  then_kept : (f g : A → Option B) (o w : Option A) → Keeps o w → ((x : A) → Keeps (f x) (g x))
      → Keeps (option_and_then f o) (option_and_then g w)
  then_kept f g o w keeps each y h =
      let b = behind_then f o y h in
      ap (option_and_then g) (keeps b.0 b.1) ∙ each b.0 y b.2

-- under a test too
tested_kept : {A : Type 0} (b : Bool) (o w : Option A) → Keeps o w
    → Keeps (if b then o else None) (if b then w else None)
tested_kept false o w keeps y h = h
tested_kept true o w keeps y h = keeps y h

module _ (s t : State Mark) (gains : Gains s t) where
  -- an instance that is there stays, with as many before it that have a component instance
  pub instance_stays : (n : ℕ) → Keeps (slice_get s.instances n) (slice_get t.instances n)
  instance_stays n m h = rw gains.instances (slice_get-append s.instances gains.more n m h)

  pub before_stays : (n : ℕ) → n ≤ length s.instances → owned_before t n ≡ owned_before s n
  before_stays n le =
      ap (λ (l : List (RuntimeInstance Mark)). count_by (λ (m : RuntimeInstance Mark). is_some m.component_instance) l)
      (ap (take n) gains.instances ∙ take-append-le n s.instances gains.more le)

module _ (p : plan.PlanView Mark) (s t : State Mark) (gains : Gains s t) where
  slot_kept : (k : plan.SlotKind) (n : Option ℕ) → Keeps (chosen (slots_of s k) n) (chosen (slots_of t k) n)
  slot_kept k None v h = h
  slot_kept k (Some n) v h = map_kept a_value _ _ (gains.slots k n) v h

  model_kept : (m : plan.ModelEntry)
      → Keeps (model_from p s.memories s.reallocs m) (model_from p t.memories t.reallocs m)
  model_kept plan.gc v h = h
  model_kept (plan.linear m r) v h =
      then_kept (λ w. option_map (value.linear w) (chosen s.reallocs r))
      (λ w. option_map (value.linear w) (chosen t.reallocs r))
      (chosen s.memories m) (chosen t.memories m)
      (slot_kept plan.memory m) (λ w. map_kept (value.linear w) _ _ (slot_kept plan.realloc r)) v h

  entry_kept : (o : plan.PlanOptions Mark)
      → Keeps (options_from p s.callbacks s.post_returns s.memories s.reallocs o)
      (options_from p t.callbacks t.post_returns t.memories t.reallocs o)
  entry_kept o =
      let made = λ (cb pr : MaybeValue Mark). value.options o.component_instance o.encoding o.is_async o.signature cb
      pr in
      tested_kept (is_counted p o.component_instance) _ _
      (then_kept
      (λ cb. option_and_then (λ pr. option_map (made cb pr) (model_from p s.memories s.reallocs o.model))
      (chosen s.post_returns o.post_return))
      (λ cb. option_and_then (λ pr. option_map (made cb pr) (model_from p t.memories t.reallocs o.model))
      (chosen t.post_returns o.post_return))
      (chosen s.callbacks o.callback) (chosen t.callbacks o.callback) (slot_kept plan.callback o.callback)
      (λ cb. then_kept (λ pr. option_map (made cb pr) (model_from p s.memories s.reallocs o.model))
      (λ pr. option_map (made cb pr) (model_from p t.memories t.reallocs o.model))
      (chosen s.post_returns o.post_return) (chosen t.post_returns o.post_return)
      (slot_kept plan.post_return o.post_return)
      (λ pr. map_kept (made cb pr) _ _ (model_kept o.model))))

  -- options stand for what they stood for
  pub options_kept : (n : ℕ) → Keeps (options_at p s n) (options_at p t n)
  options_kept n =
      then_kept (options_from p s.callbacks s.post_returns s.memories s.reallocs)
      (options_from p t.callbacks t.post_returns t.memories t.reallocs) (slice_get p.options n) (slice_get p.options n)
      (λ x h. h) entry_kept

  part_kept : (x : plan.TrampolinePart Mark) → Keeps (part_value p s x) (part_value p t x)
  part_kept (plan.mark m) v h = h
  part_kept (plan.number n) v h = h
  part_kept (plan.flag b) v h = h
  part_kept (plan.slot k n) v h = map_kept value.value_part _ _ (slot_kept k n) v h
  part_kept (plan.options n) v h = map_kept value.options_part _ _ (options_kept n) v h

  parts_kept : (xs : List (plan.TrampolinePart Mark)) → Keeps (part_values p s xs) (part_values p t xs)
  parts_kept [] v h = h
  parts_kept (x ∷ xs) v h =
      then_kept (λ w. option_map (value.and_part w) (part_values p s xs))
      (λ w. option_map (value.and_part w) (part_values p t xs))
      (part_value p s x) (part_value p t x) (part_kept x) (λ w. map_kept (value.and_part w) _ _ (parts_kept xs)) v h

  -- a trampoline stands for what it stood for
  trampoline_kept : (e : plan.TrampolineEntry Mark) → Keeps (trampoline_value p s e) (trampoline_value p t e)
  trampoline_kept (plan.lowers index signature ty o) v h =
      then_kept (λ path. option_map (value.lowered path ty) (options_at p s o))
      (λ path. option_map (value.lowered path ty) (options_at p t o))
      (option_and_then (path_of p) (slice_get s.lowerings index))
      (option_and_then (path_of p) (slice_get t.lowerings index))
      (then_kept (path_of p) (path_of p) (slice_get s.lowerings index) (slice_get t.lowerings index)
      (gains.lowerings index)
      (λ r path same. same))
      (λ path. map_kept (value.lowered path ty) _ _ (options_kept o)) v h
  trampoline_kept (plan.builtin k symbol c parts) v h =
      tested_kept (is_counted p c) _ _ (map_kept (value.builtin k c) _ _ (parts_kept parts)) v h
  trampoline_kept (plan.helper k symbol parts) v h =
      map_kept (λ ps. value.helper k (with_numbers symbol ps)) _ _ (parts_kept parts) v h

  item_kept : (r : ℕ) (item : ExportedItem) → Keeps (exported_item p s r item) (exported_item p t r item)
  item_kept r item v h =
      let b = behind_then (λ (m : RuntimeInstance Mark). instance_item p (owned_before s r) item m.instantiation)
      (slice_get s.instances r) v h in
      let within = slice_get_within s.instances r b.0 b.1 in
      rw (instance_stays s t gains r b.0 b.1, before_stays s t gains r (omega (arith, within))) b.2

  -- a definition stands for what it stood for
  pub resolve_kept : (d : plan.Definition) → Keeps (resolve p s d) (resolve p t d)
  resolve_kept (plan.export r item) v h = item_kept r item v h
  resolve_kept (plan.flags c) v h = h
  resolve_kept (plan.trampoline n) v h =
      then_kept (trampoline_value p s) (trampoline_value p t) (slice_get p.trampolines n) (slice_get p.trampolines n)
      (λ x same. same) trampoline_kept v h
  resolve_kept (plan.intrinsic i) v h = h

-- instances of no component instance are in no trace
unowned : (ms : List (RuntimeInstance Mark)) → All (λ (m : RuntimeInstance Mark). m.component_instance ≡ None) ms
    → filter_map owned_of ms ≡ []
unowned [] all = refl
unowned (m ∷ ms) all =
    rw (All-head (λ (m : RuntimeInstance Mark). m.component_instance ≡ None) m ms all)
    (unowned ms (All-tail (λ (m : RuntimeInstance Mark). m.component_instance ≡ None) m ms all))

drop_all : {A : Type 0} (xs : List A) → drop (length xs) xs ≡ []
drop_all [] = refl
drop_all (x ∷ xs) = drop_all xs

-- what was gained shows in no trace
pub gains_nothing : (s t : State Mark) → Gains s t → gained s t ≡ []
gains_nothing s t gains =
    let more = ap (drop (length s.instances)) gains.instances ∙ drop-append_seam s.instances gains.more in
    let resources = ap (drop (length s.resources)) gains.resources ∙ drop_all s.resources in
    rw (more, unowned gains.more gains.unowned, resources) refl
