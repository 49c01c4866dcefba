-- What held definitions name is held, and they name the same however the graph grows.
use Rattle.std.proofs.Common.{◌≡◌, ◌<◌, ℕ, List, [], ◌∷◌, ◌++◌, length, All, Contains, Option, None, Some, refl, ap}
use Rattle.std.proofs.Common.{sym, subst, ◌∙◌}
use Rattle.std.specs.Prelude.{slice_get}
use Rattle.std.specs.List.{flat_map}
use Rattle.std.proofs.lemmas.List.Elements.{All-append, All-contains}
use Rattle.std.proofs.lemmas.Option.{same_Some}
use Rattle.pc_entity.proofs.LookupLemmas.{found_at}
use Rattle.pc_spec_plan.specs.PlanView as plan
use Rattle.pc_trampoline.specs.declared.part.Mark.{Mark}
use Rattle.pc_dfg.specs.declared.core_def.CoreDef.{CoreDef}
use Rattle.pc_dfg.specs.declared.dfg.ComponentDfg.{ComponentDfg}
use Rattle.pc_dfg.specs.Grows.{Grows}
use Rattle.pc_dfg.specs.Held.{IsHeld, HeldSlot, HeldModel, HeldOptions, HeldPart, HeldTrampoline, HoldsEntry, AreHeld}
use Rattle.pc_dfg.specs.Lists as list
use Rattle.pc_dfg.specs.Names.{if_any, each_of, in_slot, in_model, in_entry, in_options, in_part, in_trampoline}
use Rattle.pc_dfg.specs.Names.{Thing, an_instance, an_adapter, Names, names_instance, names_adapter, names_through}
use Rattle.pc_dfg.specs.Names.{OneNames}
use Rattle.pc_dfg.specs.Numbers.{options_entry, trampoline_entry, slots_of}
use Rattle.pc_dfg.proofs.AllLemmas.{all_none, all_one, all_first, all_rest, all_flat_map}
use Rattle.pc_dfg.proofs.GrowLemmas.{kept}

module _ (g : ComponentDfg) (held : AreHeld g) where
  -- the definitions in what is held are held
  slot_held : (k : plan.SlotKind) (n : Option ℕ) → HeldSlot g k n → All (IsHeld g) (in_slot g k n)
  unfolding HeldSlot HoldsEntry
  slot_held k None below = all_none (IsHeld g)
  slot_held k (Some n) below =
      let found = found_at (slots_of g k) n below in
      subst (λ o. All (IsHeld g) (if_any o)) (sym found.1)
      (all_one (IsHeld g) found.0 (held (list.slots k) n found.0 found.1))

  model_held : (m : plan.ModelEntry) → HeldModel g m → All (IsHeld g) (in_model g m)
  unfolding HeldModel
  model_held plan.gc here = all_none (IsHeld g)
  model_held (plan.linear m r) here =
      All-append (IsHeld g) (in_slot g plan.memory m) (in_slot g plan.realloc r) (slot_held plan.memory m here.0)
      (slot_held plan.realloc r here.1)

  entry_held : (e : plan.PlanOptions Mark) → HeldOptions g e → All (IsHeld g) (in_entry g e)
  entry_held e here =
      All-append (IsHeld g) (in_slot g plan.callback e.callback ++ in_slot g plan.post_return e.post_return)
      (in_model g e.model)
      (All-append (IsHeld g) (in_slot g plan.callback e.callback) (in_slot g plan.post_return e.post_return)
      (slot_held plan.callback e.callback here.callback) (slot_held plan.post_return e.post_return here.post_return))
      (model_held e.model here.model)

  options_held : (o : ℕ) → o < length g.options → All (IsHeld g) (in_options g o)
  unfolding HoldsEntry
  options_held o below =
      let found = found_at g.options o below in
      subst (λ x. All (IsHeld g) (each_of (λ y. in_entry g (options_entry y)) x)) (sym found.1)
      (entry_held (options_entry found.0) (held list.options o found.0 found.1))

  part_held : (p : plan.TrampolinePart Mark) → HeldPart g p → All (IsHeld g) (in_part g p)
  unfolding HeldPart
  part_held (plan.mark m) here = all_none (IsHeld g)
  part_held (plan.number n) here = all_none (IsHeld g)
  part_held (plan.flag b) here = all_none (IsHeld g)
  part_held (plan.slot k n) here = slot_held k n here
  part_held (plan.options o) here = options_held o here

  pub trampoline_held : (e : plan.TrampolineEntry Mark) → HeldTrampoline g e → All (IsHeld g) (in_trampoline g e)
  unfolding HeldTrampoline in_trampoline
  trampoline_held (plan.lowers r s ty o) here = options_held o here.1
  trampoline_held (plan.builtin k symbol c ps) here =
      all_flat_map (HeldPart g) (IsHeld g) (in_part g) part_held ps here.1
  trampoline_held (plan.helper k symbol ps) here =
      all_flat_map (HeldPart g) (IsHeld g) (in_part g) part_held ps here

  -- a core instance or an adapter that is there
  abbrev pub IsThere : Thing → Type 0
  IsThere (an_instance n) = n < length g.instances
  IsThere (an_adapter a) = a < length g.adapters

  -- what a held definition names is there
  pub names_there : {d : CoreDef} {y : Thing} → IsHeld g d → Names g d y → IsThere y
  unfolding IsHeld HoldsEntry
  names_there here names_instance = here
  names_there here names_adapter = here
  names_there here (names_through {t = t} {x = x} {d = d} at inside rest) =
      let ds = in_trampoline g (trampoline_entry x) in
      names_there (All-contains (IsHeld g) ds d
      (trampoline_held (trampoline_entry x) (held list.trampolines t.0 x at)) inside) rest

  -- the same of several
  pub one_there : (ds : List CoreDef) (y : Thing) → All (IsHeld g) ds → OneNames g ds y → IsThere y
  unfolding OneNames
  one_there ds y all one = names_there (All-contains (IsHeld g) ds one.0 all one.1) one.2

module _ (g h : ComponentDfg) (grows : Grows g h) (held : AreHeld g) where
  -- in what is held stand the same definitions as before
  slot_same : (k : plan.SlotKind) (n : Option ℕ) → HeldSlot g k n → in_slot h k n ≡ in_slot g k n
  unfolding HeldSlot
  slot_same k None below = refl
  slot_same k (Some n) below =
      let found = found_at (slots_of g k) n below in
      ap if_any (kept g h grows (list.slots k) n found.0 found.1 ∙ sym found.1)

  model_same : (m : plan.ModelEntry) → HeldModel g m → in_model h m ≡ in_model g m
  unfolding HeldModel
  model_same plan.gc here = refl
  model_same (plan.linear m r) here =
      let memory = slot_same plan.memory m here.0 in
      let realloc = slot_same plan.realloc r here.1 in
      λ i. memory i ++ realloc i

  entry_same : (e : plan.PlanOptions Mark) → HeldOptions g e → in_entry h e ≡ in_entry g e
  entry_same e here =
      let callback = slot_same plan.callback e.callback here.callback in
      let post_return = slot_same plan.post_return e.post_return here.post_return in
      let model = model_same e.model here.model in
      λ i. callback i ++ post_return i ++ model i

  options_same : (o : ℕ) → o < length g.options → in_options h o ≡ in_options g o
  unfolding HoldsEntry
  options_same o below =
      let found = found_at g.options o below in
      ap (each_of (λ y. in_entry h (options_entry y))) (kept g h grows list.options o found.0 found.1)
      ∙ entry_same (options_entry found.0) (held list.options o found.0 found.1)
      ∙ ap (each_of (λ y. in_entry g (options_entry y))) (sym found.1)

  part_same : (p : plan.TrampolinePart Mark) → HeldPart g p → in_part h p ≡ in_part g p
  unfolding HeldPart
  part_same (plan.mark m) here = refl
  part_same (plan.number n) here = refl
  part_same (plan.flag b) here = refl
  part_same (plan.slot k n) here = slot_same k n here
  part_same (plan.options o) here = options_same o here

  parts_same : (ps : List (plan.TrampolinePart Mark)) → All (HeldPart g) ps
      → flat_map (in_part h) ps ≡ flat_map (in_part g) ps
  parts_same [] here = refl
  parts_same (p ∷ ps) here =
      let first = part_same p (all_first (HeldPart g) p ps here) in
      let rest = parts_same ps (all_rest (HeldPart g) p ps here) in
      λ i. first i ++ rest i

  pub trampoline_same : (e : plan.TrampolineEntry Mark) → HeldTrampoline g e → in_trampoline h e ≡ in_trampoline g e
  unfolding HeldTrampoline in_trampoline
  trampoline_same (plan.lowers r s ty o) here = options_same o here.1
  trampoline_same (plan.builtin k symbol c ps) here = parts_same ps here.1
  trampoline_same (plan.helper k symbol ps) here = parts_same ps here

  -- a held definition named before what it names now
  pub names_back : {d : CoreDef} {y : Thing} → IsHeld g d → Names h d y → Names g d y
  unfolding IsHeld HoldsEntry
  names_back here names_instance = names_instance
  names_back here names_adapter = names_adapter
  names_back here (names_through {t = t} {x = x} {d = d} at inside rest) =
      let found = found_at g.trampolines t.0 here in
      let same = same_Some found.0 x (sym (kept g h grows list.trampolines t.0 found.0 found.1) ∙ at) in
      let before : slice_get g.trampolines t.0 ≡ Some x = found.1 ∙ ap Some same in
      let e = trampoline_entry x in
      let holds : HeldTrampoline g e = held list.trampolines t.0 x before in
      let inner : Contains (in_trampoline g e) d = subst (λ ds. Contains ds d) (trampoline_same e holds) inside in
      names_through before inner
      (names_back (All-contains (IsHeld g) (in_trampoline g e) d (trampoline_held g held e holds) inner) rest)

  -- the same of several
  pub one_back : (ds : List CoreDef) (y : Thing) → All (IsHeld g) ds → OneNames h ds y → OneNames g ds y
  unfolding OneNames
  one_back ds y all one = (one.0, one.1, names_back (All-contains (IsHeld g) ds one.0 all one.1) one.2)
