-- Options entries and trampolines have their numbers after those that they lead to.
use Rattle.std.proofs.Common.{◌≡◌, ◌<◌, ◌+◌, ◌⊎◌, inl, inr, ℕ, suc, List, [], ◌∷◌, length, Some, refl, ap, arith}
use Rattle.std.specs.Prelude.{slice_get}
use Rattle.std.proofs.lemmas.Option.{slice_get_within}
use Rattle.pc_names.specs.Contents.{Contents}
use Rattle.pc_numbers.specs.declared.module_entity.ModuleInternedTypeIndex.{ModuleInternedTypeIndex}
use Rattle.pc_trampoline.specs.declared.part.Mark.{Mark}
use Rattle.pc_trampoline.specs.View.{PlanTrampoline}
use Rattle.pc_spec_plan.specs.PlanView as plan
use Rattle.pc_info.specs.declared.component.ComponentTranslation.{ComponentTranslation}
use Rattle.pc_info.specs.declared.export.Export.{Export as PlanItem}
use Rattle.pc_info.specs.Standing.{AreNumberedBehind, LeadsTo, Needs, Piece, a_lowering, a_slot, a_trampoline, by_need}
use Rattle.pc_info.specs.Standing.{an_instance, an_intrinsic, an_options_entry, of_adapters, of_lowering, of_options}
use Rattle.pc_info.specs.Standing.{of_part, of_slot, of_trampoline, to_itself}
use Rattle.pc_info.specs.View.{trampolines_view}
use Rattle.pc_dfg.specs.declared.dfg.ComponentDfg.{ComponentDfg}
use Rattle.pc_dfg_linearize.specs.declared.state.Finish.{Finish}
use Rattle.pc_dfg_linearize.specs.Sound.{HasPassed, IsSound}
use Rattle.pc_dfg_linearize.specs.Steps.{IsThere}
use Rattle.pc_dfg_finish.specs.Exports.{Target}
use Rattle.pc_dfg_finish.specs.Whole.{component_of}
use Rattle.pc_dfg_finish.proofs.SealedLemmas.{sealed}

-- there are as many trampolines as are seen
viewed_length : (n : ℕ) (signatures : List ModuleInternedTypeIndex) (ts : List PlanTrampoline)
    → length (trampolines_view n signatures ts) ≡ length ts
viewed_length n signatures [] = refl
viewed_length n signatures (t ∷ ts) = ap (λ (m : ℕ). suc m) (viewed_length (n + 1) signatures ts)

-- the number of a piece
piece_number : Piece → ℕ
piece_number (a_slot k n) = n
piece_number (a_lowering n) = n
piece_number (an_options_entry n) = n
piece_number (a_trampoline n) = n
piece_number (an_intrinsic n) = n
piece_number (an_instance n) = n

module _ (g : ComponentDfg) (h : Finish) (sound : IsSound g h) (passed : HasPassed g h)
    (names : Contents (List ℕ) Target) (items : List PlanItem) where
  -- the plan
  abbrev p : ComponentTranslation
  p = record { component = component_of g h names items; trampolines = h.trampolines }

  -- an options entry and a trampoline are in their lists
  Stands : Piece → Type 0
  Stands (a_slot k n) = Unit {0}
  Stands (a_lowering n) = Unit {0}
  Stands (an_options_entry n) = n < length h.options
  Stands (a_trampoline n) = n < length h.trampolines
  Stands (an_intrinsic n) = Unit {0}
  Stands (an_instance n) = Unit {0}

  viewed_there : (m : ℕ) (t : plan.TrampolineEntry Mark)
      → slice_get (trampolines_view 0 h.signatures h.trampolines) m ≡ Some t → m < length h.trampolines
  viewed_there m t at =
      let within = slice_get_within (trampolines_view 0 h.signatures h.trampolines) m t at in
      omega (arith, within, viewed_length 0 h.signatures h.trampolines)

  -- what needs something is there
  stands_first : (x y : Piece) → Needs p x y → Stands x
  unfolding Stands
  stands_first x y (of_slot inside named) = tt
  stands_first x y (of_options {m = m} {o = o} at takes) = slice_get_within h.options m o at
  stands_first x y (of_lowering {m = m} {t = t} at takes) = viewed_there m t at
  stands_first x y (of_trampoline {m = m} {t = t} at takes) = viewed_there m t at
  stands_first x y (of_part {m = m} {t = t} at takes) = viewed_there m t at
  stands_first x y (of_adapters i at inside) = tt

  -- so a piece leads to itself alone, or is there
  itself_or_there : (x y : Piece) → LeadsTo p x y → (x ≡ y) ⊎ Stands x
  itself_or_there x y to_itself = inl refl
  itself_or_there x y (by_need {y = z} need leads) = inr (stands_first x z need)

  options_rise : AreNumberedBehind p an_options_entry
  unfolding Stands IsThere piece_number
  options_rise m n leads = elim (itself_or_there (an_options_entry m) (an_options_entry n) leads) [
    | inl same ↦ let number : m ≡ n = ap piece_number same in omega (arith, number)
    | inr there ↦
        let q = passed.options m there in
        let first : m < length q.0.options = omega (arith, q.2) in
        let last : n < length q.0.options =
        sealed g q.0 h q.1.sound sound q.1.later names items (an_options_entry m) (an_options_entry n) leads first in
        omega (arith, last, q.2)
  ]

  trampolines_rise : AreNumberedBehind p a_trampoline
  unfolding Stands IsThere piece_number
  trampolines_rise m n leads = elim (itself_or_there (a_trampoline m) (a_trampoline n) leads) [
    | inl same ↦ let number : m ≡ n = ap piece_number same in omega (arith, number)
    | inr there ↦
        let q = passed.trampolines m there in
        let first : m < length q.0.trampolines = omega (arith, q.2) in
        let last : n < length q.0.trampolines =
        sealed g q.0 h q.1.sound sound q.1.later names items (a_trampoline m) (a_trampoline n) leads first in
        omega (arith, last, q.2)
  ]

  pub rises : AreNumberedBehind p an_options_entry × AreNumberedBehind p a_trampoline
  rises = (options_rise, trampolines_rise)
