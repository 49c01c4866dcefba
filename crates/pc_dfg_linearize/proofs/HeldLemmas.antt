-- Definitions in slots, options and trampolines are held, and what they name is there.
use Rattle.std.proofs.Common.{◌≡◌, ◌<◌, ℕ, List, [], ◌∷◌, ◌++◌, length, All, Option, None, Some, refl}
use Rattle.std.specs.Prelude.{slice_get}
use Rattle.std.specs.List.{flat_map}
use Rattle.std.proofs.lemmas.List.Elements.{All-nil, All-append, All-contains}
use Rattle.pc_spec_plan.specs.PlanView as plan
use Rattle.pc_trampoline.specs.declared.part.Mark.{Mark}
use Rattle.pc_dfg.specs.declared.core_def.CoreDef.{CoreDef}
use Rattle.pc_dfg.specs.declared.dfg.ComponentDfg.{ComponentDfg}
use Rattle.pc_dfg.specs.Held.{AreHeld, IsHeld, HoldsEntry}
use Rattle.pc_dfg.specs.Lists as list
use Rattle.pc_dfg.specs.Names as names
use Rattle.pc_dfg.specs.Names.{an_instance, an_adapter, if_any, Names, names_instance, names_adapter, names_through}
use Rattle.pc_dfg.specs.Names.{Thing}
use Rattle.pc_dfg.specs.Numbers.{options_entry, trampoline_entry, slots_of}
use Rattle.pc_dfg_linearize.proofs.PartLemmas.{all_one, all_each}

module _ (g : ComponentDfg) (held : AreHeld g) where
  any_held : (o : Option CoreDef) → ((d : CoreDef) → o ≡ Some d → IsHeld g d) → All (IsHeld g) (if_any o)
  any_held None each = All-nil (IsHeld g)
  any_held (Some d) each = all_one (IsHeld g) d (each d refl)

  slot_held : (k : plan.SlotKind) (n : Option ℕ) → All (IsHeld g) (names.in_slot g k n)
  unfolding HoldsEntry
  slot_held k n =
      all_each (IsHeld g) (λ i. if_any (slice_get (slots_of g k) i)) n
      (λ i is. any_held (slice_get (slots_of g k) i) (held (list.slots k) i))

  model_held : (m : plan.ModelEntry) → All (IsHeld g) (names.in_model g m)
  model_held plan.gc = All-nil (IsHeld g)
  model_held (plan.linear m r) =
      All-append (IsHeld g) (names.in_slot g plan.memory m) (names.in_slot g plan.realloc r)
      (slot_held plan.memory m) (slot_held plan.realloc r)

  -- the definitions in options are held
  pub entry_held : (e : plan.PlanOptions Mark) → All (IsHeld g) (names.in_entry g e)
  entry_held e =
      let xs = names.in_slot g plan.callback e.callback in
      let ys = names.in_slot g plan.post_return e.post_return in
      All-append (IsHeld g) (xs ++ ys) (names.in_model g e.model)
      (All-append (IsHeld g) xs ys (slot_held plan.callback e.callback) (slot_held plan.post_return e.post_return))
      (model_held e.model)

  pub options_held : (o : ℕ) → All (IsHeld g) (names.in_options g o)
  options_held o =
      all_each (IsHeld g) (λ x. names.in_entry g (options_entry x)) (slice_get g.options o)
      (λ x at. entry_held (options_entry x))

  part_held : (p : plan.TrampolinePart Mark) → All (IsHeld g) (names.in_part g p)
  part_held (plan.mark m) = All-nil (IsHeld g)
  part_held (plan.number n) = All-nil (IsHeld g)
  part_held (plan.flag b) = All-nil (IsHeld g)
  part_held (plan.slot k n) = slot_held k n
  part_held (plan.options o) = options_held o

  all_held : (ps : List (plan.TrampolinePart Mark)) → All (IsHeld g) (flat_map (names.in_part g) ps)
  all_held [] = All-nil (IsHeld g)
  all_held (p ∷ ps) =
      All-append (IsHeld g) (names.in_part g p) (flat_map (names.in_part g) ps) (part_held p) (all_held ps)

  -- the definitions in a trampoline are held
  pub trampoline_held : (e : plan.TrampolineEntry Mark) → All (IsHeld g) (names.in_trampoline g e)
  unfolding names.in_trampoline
  trampoline_held (plan.lowers r s ty o) = options_held o
  trampoline_held (plan.builtin k symbol c ps) = all_held ps
  trampoline_held (plan.helper k symbol ps) = all_held ps

  -- a core instance or an adapter that is there
  abbrev pub IsThere : Thing → Type 0
  IsThere (an_instance n) = n < length g.instances
  IsThere (an_adapter a) = a < length g.adapters

  -- what a held definition names is there
  pub names_there : {d : CoreDef} {y : Thing} → Names g d y → IsHeld g d → IsThere y
  unfolding IsHeld
  names_there names_instance is = is
  names_there names_adapter is = is
  names_there (names_through {x = x} {d = d} at inside rest) is =
      let e = trampoline_entry x in
      names_there rest (All-contains (IsHeld g) (names.in_trampoline g e) d (trampoline_held e) inside)
