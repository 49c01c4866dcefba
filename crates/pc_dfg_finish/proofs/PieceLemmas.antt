-- Where an id leads to another one, so do the pieces of the plan that they have become.
use Rattle.std.proofs.Common.{◌≡◌, ◌++◌, ◌⊎◌, inl, inr, ℕ, zero, suc, List, [], ◌∷◌, Option, None, Some, refl, sym}
use Rattle.std.proofs.Common.{ap, subst, ◌∙◌, arith}
use Rattle.std.specs.List.{Contains, flat_map}
use Rattle.std.proofs.lemmas.List.Elements.{All-contains, Contains-append_cases}
use Rattle.std.proofs.lemmas.Option.{same_Some}
use Rattle.pc_names.specs.Contents.{Contents}
use Rattle.pc_numbers.specs.declared.runtime.TrampolineIndex.{TrampolineIndex}
use Rattle.pc_spec_plan.specs.PlanView as plan
use Rattle.pc_trampoline.specs.declared.part.Mark.{Mark}
use Rattle.pc_trampoline.specs.Parts.{parts_of}
use Rattle.pc_trampoline.specs.View.{parts_entry, plan_numbers}
use Rattle.pc_info.specs.declared.component.ComponentTranslation.{ComponentTranslation}
use Rattle.pc_info.specs.declared.export.Export.{Export as PlanItem}
use Rattle.pc_dfg.specs.declared.dfg.ComponentDfg.{ComponentDfg}
use Rattle.pc_dfg.specs.Names.{each_of}
use Rattle.pc_dfg.specs.Numbers.{options_entry, trampoline_entry}
use Rattle.pc_dfg_linearize.specs.declared.id.Id.{Id}
use Rattle.pc_dfg_linearize.specs.declared.id.Id.TheVariants as id
use Rattle.pc_dfg_linearize.specs.declared.state.Finish.{Finish}
use Rattle.pc_dfg_finish.specs.Exports.{Target}
use Rattle.pc_dfg_linearize.specs.Numbers.{number_at}
use Rattle.pc_dfg_linearize.specs.Parts.{HasNumber, in_def, in_entry, in_model, in_part, in_slot, in_trampoline, maybe_slot}
use Rattle.pc_dfg_linearize.specs.Parts.{number_of, options_id, parts, slot_id, slot_numbers}
use Rattle.pc_dfg_linearize.specs.Ready.{Leads, here, through}
use Rattle.pc_info.specs.Slots.{TakesLowering, TakesOptions, TakesSlot}
use Rattle.pc_dfg_linearize.specs.Sound.{IsSound}
use Rattle.pc_info.specs.Standing.{LeadsTo, Needs, a_slot, an_instance, by_need, of_adapters, of_lowering}
use Rattle.pc_info.specs.Standing.{of_options, of_part, of_slot, of_trampoline, to_itself}
use Rattle.pc_dfg_linearize.specs.Steps.{piece_of}
use Rattle.pc_dfg_finish.specs.Whole.{component_of}
use Rattle.pc_dfg_linearize.proofs.EntryLemmas.{slot_number}
use Rattle.pc_dfg_finish.proofs.LoweringUseLemmas.{trampoline_lowers}
use Rattle.pc_dfg_linearize.proofs.RepresentedLemmas.{copied_parts, options_parts}
use Rattle.pc_dfg_finish.proofs.SlotUseLemmas.{copied_view, options_name, trampoline_names}
use Rattle.pc_dfg_linearize.proofs.TakeLemmas.{none_in, one_in, parts_take}
use Rattle.pc_dfg_linearize.proofs.ThereLemmas.{def_names, defs_name}

-- an id is that of a slot
abbrev IsSlot : Id → Type 0
IsSlot y = (k : plan.SlotKind) × (i : ℕ) × (slot_id k i ≡ y)

-- an id is that of options
abbrev IsOptions : Id → Type 0
IsOptions y = (o : ℕ) × (options_id o ≡ y)

maybe_is : (k : plan.SlotKind) (n : Option ℕ) (y : Id) → Contains (maybe_slot k n) y → IsSlot y
maybe_is k None y inside = absurd (none_in y inside)
maybe_is k (Some i) y inside = (k, i, one_in (slot_id k i) y inside)

model_is : (m : plan.ModelEntry) (y : Id) → Contains (in_model m) y → IsSlot y
model_is plan.gc y inside = absurd (none_in y inside)
model_is (plan.linear m r) y inside =
    elim (Contains-append_cases (maybe_slot plan.memory m) (maybe_slot plan.realloc r) y inside) [
      | inl first ↦ maybe_is plan.memory m y first
      | inr second ↦ maybe_is plan.realloc r y second
    ]

-- options depend on slots alone
entry_is : (e : plan.PlanOptions Mark) (y : Id) → Contains (in_entry e) y → IsSlot y
entry_is e y inside =
    let ms = in_model e.model in
    let cs = maybe_slot plan.callback e.callback in
    elim (Contains-append_cases (ms ++ cs) (maybe_slot plan.post_return e.post_return) y inside) [
      | inl front ↦ elim (Contains-append_cases ms cs y front) [
        | inl first ↦ model_is e.model y first
        | inr second ↦ maybe_is plan.callback e.callback y second
      ]
      | inr last ↦ maybe_is plan.post_return e.post_return y last
    ]

part_is : (p : plan.TrampolinePart Mark) (y : Id) → Contains (in_part p) y → IsSlot y ⊎ IsOptions y
part_is (plan.mark m) y inside = absurd (none_in y inside)
part_is (plan.number n) y inside = absurd (none_in y inside)
part_is (plan.flag b) y inside = absurd (none_in y inside)
part_is (plan.slot k n) y inside = inl (maybe_is k n y inside)
part_is (plan.options o) y inside = inr (o, one_in (options_id o) y inside)

parts_are : (ps : List (plan.TrampolinePart Mark)) (y : Id) → Contains (flat_map in_part ps) y
    → IsSlot y ⊎ IsOptions y
parts_are [] y inside = absurd (none_in y inside)
parts_are (p ∷ ps) y inside = elim (Contains-append_cases (in_part p) (flat_map in_part ps) y inside) [
  | inl first ↦ part_is p y first
  | inr later ↦ parts_are ps y later
]

-- a trampoline depends on its lowering, slots and options
trampoline_is : (t : TrampolineIndex) (e : plan.TrampolineEntry Mark) (y : Id) → Contains (in_trampoline t e) y
    → (id.Lowering t ≡ y) ⊎ (IsSlot y ⊎ IsOptions y)
trampoline_is t (plan.lowers r s ty o) y (zero, below, is) = inl is
trampoline_is t (plan.lowers r s ty o) y (suc zero, below, is) = inr (inr (o, is))
trampoline_is t (plan.lowers r s ty o) y (suc (suc j), below, is) = absurd (omega (arith, below))
trampoline_is t (plan.builtin k symbol c ps) y inside = inr (parts_are ps y inside)
trampoline_is t (plan.helper k symbol ps) y inside = inr (parts_are ps y inside)

-- the piece of a slot's id
pub slot_piece : (k : plan.SlotKind) (i n : ℕ) → piece_of (slot_id k i) n ≡ a_slot k n
unfolding piece_of
slot_piece plan.memory i n = refl
slot_piece plan.table i n = refl
slot_piece plan.realloc i n = refl
slot_piece plan.callback i n = refl
slot_piece plan.post_return i n = refl

module _ (g : ComponentDfg) (h : Finish) (sound : IsSound g h) (names : Contents (List ℕ) Target)
    (items : List PlanItem) where
  -- the plan
  abbrev p : ComponentTranslation
  p = record { component = component_of g h names items; trampolines = h.trampolines }

  -- a slot needs what its definition depends on
  slot_needs : (k : plan.SlotKind) (i n m : ℕ) (y : Id) → number_at (slot_numbers h k) i ≡ Some n
      → number_of h y ≡ Some m → Contains (in_slot g k i) y → Needs p (a_slot k n) (piece_of y m)
  slot_needs k i n m y at is inside =
      let slot = sound.are_steps.slots k i n at in
      let within = subst (λ o. Contains (each_of (in_def g) o) y) slot.at inside in
      of_slot slot.step (def_names g h slot.what y m within is)

  options_need : (o n m : ℕ) (y : Id) → number_at h.numbers.options o ≡ Some n → number_of h y ≡ Some m
      → Contains (parts g (options_id o)) y → Needs p (piece_of (options_id o) n) (piece_of y m)
  unfolding piece_of
  options_need o n m y at is inside =
      let e = sound.represents.options o n at in
      let within = subst (λ l. Contains l y) (options_parts g o e.entry e.at) inside in
      let slot = entry_is (options_entry e.entry) y within in
      let number = sym (slot_number h slot.0 slot.1) ∙ ap (number_of h) slot.2 ∙ is in
      let there = subst (Contains (in_entry (options_entry e.entry))) (sym slot.2) within in
      subst (Needs p (piece_of (options_id o) n)) (sym (slot_piece slot.0 slot.1 m) ∙ ap (λ z. piece_of z m) slot.2)
      (of_options e.there (options_name h slot.0 slot.1 m number e.entry there))

  trampoline_needs : (t : TrampolineIndex) (n m : ℕ) (y : Id) → number_at h.numbers.trampolines t.0 ≡ Some n
      → number_of h y ≡ Some m → Contains (parts g (id.Trampoline t)) y
      → Needs p (piece_of (id.Trampoline t) n) (piece_of y m)
  unfolding piece_of number_of
  trampoline_needs t n m y at is inside =
      let c = sound.represents.trampolines t.0 n at in
      let within = subst (λ l. Contains l y) (copied_parts g t.0 c.entry c.at) inside in
      let view = copied_view g h sound.represents t.0 n c in
      let made = parts_of c.entry.1 in
      elim (trampoline_is t (trampoline_entry c.entry) y within) [
        | inl same ↦
            let there = subst (Contains (in_trampoline t (trampoline_entry c.entry))) (sym same) within in
            let number : number_at h.numbers.lowerings t.0 ≡ Some m = ap (number_of h) same ∙ is in
            let takes = subst (λ q. TakesLowering m (parts_entry plan_numbers c.entry.0 q)) (sym c.is)
            (trampoline_lowers h t m number c.entry.0 made there) in
            subst (λ z. Needs p (piece_of (id.Trampoline t) n) (piece_of z m)) same (of_lowering view takes)
        | inr other ↦ elim other [
          | inl slot ↦
              let there = subst (Contains (in_trampoline t (trampoline_entry c.entry))) (sym slot.2) within in
              let number = sym (slot_number h slot.0 slot.1) ∙ ap (number_of h) slot.2 ∙ is in
              let takes = subst (λ q. TakesSlot slot.0 m (parts_entry plan_numbers c.entry.0 q)) (sym c.is)
              (trampoline_names h slot.0 slot.1 m number c.entry.0 t made there) in
              subst (Needs p (piece_of (id.Trampoline t) n))
              (sym (slot_piece slot.0 slot.1 m) ∙ ap (λ z. piece_of z m) slot.2) (of_part view takes)
          | inr options ↦
              let there = subst (Contains (in_trampoline t (trampoline_entry c.entry))) (sym options.1) within in
              let number : number_at h.numbers.options options.0 ≡ Some m = ap (number_of h) options.1 ∙ is in
              let takes = subst (λ q. TakesOptions m (parts_entry plan_numbers c.entry.0 q)) (sym c.is)
              (parts_take h options.0 m number c.entry.0 t made there) in
              subst (λ z. Needs p (piece_of (id.Trampoline t) n) (piece_of z m)) options.1 (of_trampoline view takes)
        ]
      ]

  module_needs : (a n m : ℕ) (y : Id) → number_at h.numbers.adapter_modules a ≡ Some n → number_of h y ≡ Some m
      → Contains (parts g (id.AdapterModule (record { 0 = a }))) y → Needs p (an_instance n) (piece_of y m)
  unfolding parts
  module_needs a n m y at is inside =
      let made = sound.are_steps.modules a n at in
      let within = subst (λ o. Contains (each_of (λ x. flat_map (in_def g) x.1) o) y) made.at inside in
      subst (λ r. Needs p (an_instance r) (piece_of y m)) made.step.number_of_it
      (of_adapters made.step.place made.step.at (defs_name g h made.what.1 y m within is))

  -- what an id depends on, its piece needs
  id_needs : (x y : Id) (n m : ℕ) → Contains (parts g x) y → number_of h x ≡ Some n → number_of h y ≡ Some m
      → Needs p (piece_of x n) (piece_of y m)
  unfolding parts number_of piece_of
  id_needs (id.Memory i) y n m inside at is = slot_needs plan.memory i.0 n m y at is inside
  id_needs (id.Table i) y n m inside at is = slot_needs plan.table i.0 n m y at is inside
  id_needs (id.Realloc i) y n m inside at is = slot_needs plan.realloc i.0 n m y at is inside
  id_needs (id.Callback i) y n m inside at is = slot_needs plan.callback i.0 n m y at is inside
  id_needs (id.PostReturn i) y n m inside at is = slot_needs plan.post_return i.0 n m y at is inside
  id_needs (id.Options o) y n m inside at is = options_need o.0 n m y at is inside
  id_needs (id.Lowering t) y n m inside at is = absurd (none_in y inside)
  id_needs (id.Trampoline t) y n m inside at is = trampoline_needs t n m y at is inside
  id_needs (id.Intrinsic s i) y n m inside at is = absurd (none_in y inside)
  id_needs (id.AdapterModule a) y n m inside at is = module_needs a.0 n m y at is inside

  -- where an id leads to another one, so does its piece
  pub piece_leads : (x y : Id) (n m : ℕ) → Leads g x y → number_of h x ≡ Some n → number_of h y ≡ Some m
      → LeadsTo p (piece_of x n) (piece_of y m)
  piece_leads x y n m here at is =
      subst (λ k. LeadsTo p (piece_of x n) (piece_of x k)) (same_Some n m (sym at ∙ is)) to_itself
  piece_leads x y n m (through {y = z} first leads) at is =
      let has = All-contains (HasNumber h) (parts g x) z (sound.represents.parts x (n, at)) first in
      by_need (id_needs x z n has.0 first at has.1) (piece_leads z y has.0 m leads has.1 is)
