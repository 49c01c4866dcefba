-- What held definitions name after a graph has grown, they named before.
use Rattle.std.proofs.Common.{◌≡◌, ◌<◌, ℕ, List, [], ◌∷◌, ◌++◌, length, All, Contains, Option, None, Some, refl, ap}
use Rattle.std.proofs.Common.{sym, subst, ◌∙◌}
use Rattle.std.specs.Prelude.{slice_get}
use Rattle.std.specs.List.{flat_map}
use Rattle.std.proofs.lemmas.List.Elements.{All-contains, All-head, All-tail}
use Rattle.std.proofs.lemmas.Option.{same_Some}
use Rattle.pc_entity.proofs.LookupLemmas.{found_at}
use Rattle.pc_spec_plan.specs.PlanView as plan
use Rattle.pc_trampoline.specs.declared.part.Mark.{Mark}
use Rattle.pc_dfg.specs.declared.core_def.CoreDef.{CoreDef}
use Rattle.pc_dfg.specs.declared.dfg.ComponentDfg.{ComponentDfg}
use Rattle.pc_dfg.specs.Grows.{Grows}
use Rattle.pc_dfg.specs.Held.{IsHeld, HeldSlot, HeldModel, HeldOptions, HeldPart, HeldTrampoline, HoldsEntry, AreHeld}
use Rattle.pc_dfg.specs.Lists as list
use Rattle.pc_dfg.specs.Names.{if_any, each_of, in_slot, in_model, in_entry, in_options, in_part, in_trampoline}
use Rattle.pc_dfg.specs.Names.{Thing, Names, names_instance, names_adapter, names_through}
use Rattle.pc_dfg.specs.Names.{OneNames}
use Rattle.pc_dfg.specs.Numbers.{options_entry, trampoline_entry, slots_of}
use Rattle.pc_dfg.proofs.GrowLemmas.{kept}
use Rattle.pc_adapt_groups.proofs.NameLemmas.{trampoline_held}

module _ (g h : ComponentDfg) (grows : Grows g h) (held : AreHeld g) where
  -- in what is held stand the same definitions as before
  slot_same : (k : plan.SlotKind) (n : Option ℕ) → HeldSlot g k n → in_slot h k n ≡ in_slot g k n
  unfolding HeldSlot
  slot_same k None below = refl
  slot_same k (Some n) below =
      let found = found_at (slots_of g k) n below in
      ap if_any (kept g h grows (list.slots k) n found.0 found.1 ∙ sym found.1)

  model_same : (m : plan.ModelEntry) → HeldModel g m → in_model h m ≡ in_model g m
  unfolding HeldModel
  model_same plan.gc here = refl
  model_same (plan.linear m r) here =
      let memory = slot_same plan.memory m here.0 in
      let realloc = slot_same plan.realloc r here.1 in
      λ i. memory i ++ realloc i

  entry_same : (e : plan.PlanOptions Mark) → HeldOptions g e → in_entry h e ≡ in_entry g e
  entry_same e here =
      let callback = slot_same plan.callback e.callback here.callback in
      let post_return = slot_same plan.post_return e.post_return here.post_return in
      let model = model_same e.model here.model in
      λ i. callback i ++ post_return i ++ model i

  options_same : (o : ℕ) → o < length g.options → in_options h o ≡ in_options g o
  unfolding HoldsEntry
  options_same o below =
      let found = found_at g.options o below in
      ap (each_of (λ y. in_entry h (options_entry y))) (kept g h grows list.options o found.0 found.1)
      ∙ entry_same (options_entry found.0) (held list.options o found.0 found.1)
      ∙ ap (each_of (λ y. in_entry g (options_entry y))) (sym found.1)

  part_same : (p : plan.TrampolinePart Mark) → HeldPart g p → in_part h p ≡ in_part g p
  unfolding HeldPart
  part_same (plan.mark m) here = refl
  part_same (plan.number n) here = refl
  part_same (plan.flag b) here = refl
  part_same (plan.slot k n) here = slot_same k n here
  part_same (plan.options o) here = options_same o here

  parts_same : (ps : List (plan.TrampolinePart Mark)) → All (HeldPart g) ps
      → flat_map (in_part h) ps ≡ flat_map (in_part g) ps
  parts_same [] here = refl
  parts_same (p ∷ ps) here =
      let first = part_same p (All-head (HeldPart g) p ps here) in
      let rest = parts_same ps (All-tail (HeldPart g) p ps here) in
      λ i. first i ++ rest i

  pub trampoline_same : (e : plan.TrampolineEntry Mark) → HeldTrampoline g e → in_trampoline h e ≡ in_trampoline g e
  unfolding HeldTrampoline in_trampoline
  trampoline_same (plan.lowers r s ty o) here = options_same o here.1
  trampoline_same (plan.builtin k symbol c ps) here = parts_same ps here.1
  trampoline_same (plan.helper k symbol ps) here = parts_same ps here

  -- a held definition named before what it names now
  pub names_back : {d : CoreDef} {y : Thing} → IsHeld g d → Names h d y → Names g d y
  unfolding IsHeld HoldsEntry
  names_back here names_instance = names_instance
  names_back here names_adapter = names_adapter
  names_back here (names_through {t = t} {x = x} {d = d} at inside rest) =
      let found = found_at g.trampolines t.0 here in
      let same = same_Some found.0 x (sym (kept g h grows list.trampolines t.0 found.0 found.1) ∙ at) in
      let before : slice_get g.trampolines t.0 ≡ Some x = found.1 ∙ ap Some same in
      let e = trampoline_entry x in
      let holds : HeldTrampoline g e = held list.trampolines t.0 x before in
      let inner : Contains (in_trampoline g e) d = subst (λ ds. Contains ds d) (trampoline_same e holds) inside in
      names_through before inner
      (names_back (All-contains (IsHeld g) (in_trampoline g e) d (trampoline_held g held e) inner) rest)

  -- the same of several
  pub one_back : (ds : List CoreDef) (y : Thing) → All (IsHeld g) ds → OneNames h ds y → OneNames g ds y
  unfolding OneNames
  one_back ds y all one = (one.0, one.1, names_back (All-contains (IsHeld g) ds one.0 all one.1) one.2)
