-- What held definitions name is there.
use Rattle.std.proofs.Common.{◌≡◌, ◌<◌, ℕ, List, [], ◌∷◌, ◌++◌, length, All, Option, None, Some, refl}
use Rattle.std.specs.Prelude.{slice_get}
use Rattle.std.specs.List.{flat_map}
use Rattle.std.proofs.lemmas.List.Elements.{All-append, All-contains, All-nil, All-cons}
use Rattle.pc_spec_plan.specs.PlanView as plan
use Rattle.pc_trampoline.specs.declared.part.Mark.{Mark}
use Rattle.pc_dfg.specs.declared.core_def.CoreDef.{CoreDef}
use Rattle.pc_dfg.specs.declared.dfg.ComponentDfg.{ComponentDfg}
use Rattle.pc_dfg.specs.Held.{IsHeld, HoldsEntry, AreHeld}
use Rattle.pc_dfg.specs.Lists as list
use Rattle.pc_dfg.specs.Names.{if_any, each_of, in_slot, in_model, in_entry, in_options, in_part, in_trampoline}
use Rattle.pc_dfg.specs.Names.{Thing, an_instance, an_adapter, Names, names_instance, names_adapter, names_through}
use Rattle.pc_dfg.specs.Names.{OneNames}
use Rattle.pc_dfg.specs.Numbers.{options_entry, trampoline_entry, slots_of}

module _ (g : ComponentDfg) (held : AreHeld g) where
  any_held : (o : Option CoreDef) → ((d : CoreDef) → o ≡ Some d → IsHeld g d) → All (IsHeld g) (if_any o)
  any_held None each = All-nil (IsHeld g)
  any_held (Some d) each = All-cons (IsHeld g) d [] (each d refl) (All-nil (IsHeld g))

  each_held : {A : Type 0} (f : A → List CoreDef) (o : Option A) → ((x : A) → o ≡ Some x → All (IsHeld g) (f x))
      → All (IsHeld g) (each_of f o)
  each_held f None each = All-nil (IsHeld g)
  each_held f (Some x) each = each x refl

  slot_held : (k : plan.SlotKind) (n : Option ℕ) → All (IsHeld g) (in_slot g k n)
  unfolding HoldsEntry
  slot_held k n =
      each_held (λ i. if_any (slice_get (slots_of g k) i)) n
      (λ i is. any_held (slice_get (slots_of g k) i) (held (list.slots k) i))

  model_held : (m : plan.ModelEntry) → All (IsHeld g) (in_model g m)
  model_held plan.gc = All-nil (IsHeld g)
  model_held (plan.linear m r) =
      All-append (IsHeld g) (in_slot g plan.memory m) (in_slot g plan.realloc r) (slot_held plan.memory m)
      (slot_held plan.realloc r)

  entry_held : (e : plan.PlanOptions Mark) → All (IsHeld g) (in_entry g e)
  entry_held e =
      let xs = in_slot g plan.callback e.callback in
      let ys = in_slot g plan.post_return e.post_return in
      All-append (IsHeld g) (xs ++ ys) (in_model g e.model)
      (All-append (IsHeld g) xs ys (slot_held plan.callback e.callback) (slot_held plan.post_return e.post_return))
      (model_held e.model)

  options_held : (o : ℕ) → All (IsHeld g) (in_options g o)
  options_held o =
      each_held (λ x. in_entry g (options_entry x)) (slice_get g.options o) (λ x at. entry_held (options_entry x))

  part_held : (p : plan.TrampolinePart Mark) → All (IsHeld g) (in_part g p)
  part_held (plan.mark m) = All-nil (IsHeld g)
  part_held (plan.number n) = All-nil (IsHeld g)
  part_held (plan.flag b) = All-nil (IsHeld g)
  part_held (plan.slot k n) = slot_held k n
  part_held (plan.options o) = options_held o

  parts_held : (ps : List (plan.TrampolinePart Mark)) → All (IsHeld g) (flat_map (in_part g) ps)
  parts_held [] = All-nil (IsHeld g)
  parts_held (p ∷ ps) =
      All-append (IsHeld g) (in_part g p) (flat_map (in_part g) ps) (part_held p) (parts_held ps)

  -- the definitions in a trampoline are held
  pub trampoline_held : (e : plan.TrampolineEntry Mark) → All (IsHeld g) (in_trampoline g e)
  unfolding in_trampoline
  trampoline_held (plan.lowers r s ty o) = options_held o
  trampoline_held (plan.builtin k symbol c ps) = parts_held ps
  trampoline_held (plan.helper k symbol ps) = parts_held ps

  -- a core instance or an adapter that is there
  abbrev pub IsThere : Thing → Type 0
  IsThere (an_instance n) = n < length g.instances
  IsThere (an_adapter a) = a < length g.adapters

  -- what a held definition names is there
  pub names_there : {d : CoreDef} {y : Thing} → Names g d y → IsHeld g d → IsThere y
  unfolding IsHeld
  names_there names_instance is = is
  names_there names_adapter is = is
  names_there (names_through {x = x} {d = d} at inside rest) is =
      let e = trampoline_entry x in
      names_there rest (All-contains (IsHeld g) (in_trampoline g e) d (trampoline_held e) inside)

  -- the same of several
  pub one_there : (ds : List CoreDef) (y : Thing) → All (IsHeld g) ds → OneNames g ds y → IsThere y
  unfolding OneNames
  one_there ds y all one = names_there one.2 (All-contains (IsHeld g) ds one.0 all one.1)
