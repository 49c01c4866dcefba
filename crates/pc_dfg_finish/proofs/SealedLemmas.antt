-- What was made at some point leads to nothing that was made later.
use Rattle.std.proofs.Common.{◌≡◌, ◌<◌, ◌≤◌, ◌+◌, ◌++◌, ◌⊎◌, inl, inr, ℕ, zero, suc, Bool, true, List, [], ◌∷◌, length, map}
use Rattle.std.proofs.Common.{All, take, None, Some, refl, sym, ap, subst, ◌∙◌, arith}
use Rattle.std.specs.Prelude.{slice_get, count_by}
use Rattle.std.specs.List.{Contains, flat_map}
use Rattle.std.proofs.lemmas.List.{map-append}
use Rattle.std.proofs.lemmas.List.Elements.{Contains-append_left}
use Rattle.std.proofs.lemmas.List.Sums.{sum_by-cons}
use Rattle.std.proofs.lemmas.Bool.{cases_lt}
use Rattle.std.proofs.lemmas.Option.{get_or_from_slice_get, none-some, same_Some, slice_get-get_or, slice_get_within}
use Rattle.pc_names.specs.Contents.{Contents}
use Rattle.pc_numbers.specs.declared.runtime.TrampolineIndex.{TrampolineIndex}
use Rattle.pc_spec_plan.specs.Counts.{fills, makes_instance, same_slot}
use Rattle.pc_spec_plan.specs.PlanView as plan
use Rattle.pc_trampoline.specs.declared.part.Mark.{Mark}
use Rattle.pc_trampoline.specs.Parts.{parts_of}
use Rattle.pc_trampoline.specs.View.{entry_view, parts_entry, plan_numbers}
use Rattle.pc_info.specs.declared.component.ComponentTranslation.{ComponentTranslation}
use Rattle.pc_info.specs.declared.export.Export.{Export as PlanItem}
use Rattle.pc_info.specs.declared.options.CanonicalOptions.{CanonicalOptions as PlanOptions}
use Rattle.pc_info.specs.Definitions.{initializer_view}
use Rattle.pc_info.specs.View.{trampolines_view}
use Rattle.pc_dfg.specs.declared.dfg.ComponentDfg.{ComponentDfg}
use Rattle.pc_dfg_linearize.specs.declared.id.Id.TheVariants as id
use Rattle.pc_dfg_linearize.specs.declared.state.Finish.{Finish}
use Rattle.pc_dfg_linearize.specs.Entries.{options_in, parts_in}
use Rattle.pc_dfg_finish.specs.Exports.{Target}
use Rattle.pc_dfg_linearize.specs.Parts.{HasNumber, number_of, options_id}
use Rattle.pc_dfg_linearize.specs.Plan.{slot_count, steps_view}
use Rattle.pc_dfg_linearize.specs.Sound.{IsLater, IsSound}
use Rattle.pc_info.specs.Standing.{LeadsTo, Needs, Piece, by_need}
use Rattle.pc_info.specs.Standing.{named_by, of_adapters, of_lowering, of_options}
use Rattle.pc_info.specs.Standing.{of_part, of_slot, of_trampoline, to_itself}
use Rattle.pc_dfg_linearize.specs.Steps.{IsThere}
use Rattle.pc_dfg_finish.specs.Whole.{component_of}
use Rattle.pc_dfg_linearize.proofs.CountLemmas.{one}
use Rattle.pc_dfg_finish.proofs.RangeLemmas.{options_within_slots, trampoline_within_lowerings, trampoline_within_options}
use Rattle.pc_dfg_finish.proofs.RangeLemmas.{trampoline_within_slots}
use Rattle.pc_dfg_linearize.proofs.RepresentedLemmas.{copied_parts, lowering_alone, options_parts, options_stay}
use Rattle.pc_dfg_linearize.proofs.RepresentedLemmas.{trampoline_as_before}
use Rattle.pc_dfg_finish.proofs.SlotUseLemmas.{copied_view}

module _ (test : plan.Initializer → Bool) where
  -- what passes a test is counted
  count_cons : (x : plan.Initializer) (xs : List plan.Initializer)
      → count_by test (x ∷ xs) ≡ one (test x) + count_by test xs
  count_cons x xs = sum_by-cons (λ y. one (test y)) x xs

  -- up to a place behind a list there are as many as in the list
  pub count_late : (xs ys : List plan.Initializer) (i : ℕ) → length xs ≤ i
      → count_by test xs ≤ count_by test (take i (xs ++ ys))
  count_late [] ys i behind = omega arith
  count_late (x ∷ xs) ys zero behind = absurd (omega (arith, behind))
  count_late (x ∷ xs) ys (suc i) behind =
      let rest = count_late xs ys i (omega (arith, behind)) in
      omega (arith, rest, count_cons x xs, count_cons x (take i (xs ++ ys)))

  -- before a place that counts there are fewer
  pub count_early : (xs ys : List plan.Initializer) (i : ℕ) (s : plan.Initializer) → slice_get xs i ≡ Some s
      → test s ≡ true → count_by test (take i (xs ++ ys)) < count_by test xs
  count_early [] ys i s at passes = absurd (none-some s at)
  count_early (x ∷ xs) ys zero s at passes =
      let here : one (test x) ≡ 1 = ap (λ y. one (test y)) (same_Some x s at) ∙ ap one passes in
      omega (arith, here, count_cons x xs)
  count_early (x ∷ xs) ys (suc i) s at passes =
      let rest = count_early xs ys i s at passes in
      omega (arith, rest, count_cons x xs, count_cons x (take i (xs ++ ys)))

  -- and fewer than before a later place
  count_between : (xs : List plan.Initializer) (i j : ℕ) (s : plan.Initializer) → slice_get xs i ≡ Some s
      → test s ≡ true → i < j → count_by test (take i xs) < count_by test (take j xs)
  count_between [] i j s at passes less = absurd (none-some s at)
  count_between (x ∷ xs) i zero s at passes less = absurd (omega (arith, less))
  count_between (x ∷ xs) zero (suc j) s at passes less =
      let here : one (test x) ≡ 1 = ap (λ y. one (test y)) (same_Some x s at) ∙ ap one passes in
      omega (arith, here, count_cons x (take j xs))
  count_between (x ∷ xs) (suc i) (suc j) s at passes less =
      let rest = count_between xs i j s at passes (omega (arith, less)) in
      omega (arith, rest, count_cons x (take i xs), count_cons x (take j xs))

  -- so two steps that count stand at one place where as many are before each
  pub one_place : (xs : List plan.Initializer) (i j : ℕ) (s t : plan.Initializer) → slice_get xs i ≡ Some s
      → test s ≡ true → slice_get xs j ≡ Some t → test t ≡ true
      → count_by test (take i xs) ≡ count_by test (take j xs) → i ≡ j
  one_place xs i j s t at passes at' passes' same = elim (cases_lt i j) [
    | inl less ↦ absurd (omega (arith, same, count_between xs i j s at passes less))
    | inr not_less ↦ elim (cases_lt j i) [
      | inl more ↦ absurd (omega (arith, same, count_between xs j i t at' passes' more))
      | inr not_more ↦ omega (arith, not_less, not_more)
    ]
  ]

-- what stands in two lists stands in the first, or not before its end
pub first_or_behind : {A : Type 0} (xs ys : List A) (i : ℕ) (x : A) → slice_get (xs ++ ys) i ≡ Some x
    → (slice_get xs i ≡ Some x) ⊎ (length xs ≤ i)
first_or_behind [] ys i x at = inr (omega arith)
first_or_behind (y ∷ xs) ys zero x at = inl at
first_or_behind (y ∷ xs) ys (suc i) x at = elim (first_or_behind xs ys i x at) [
  | inl before ↦ inl before
  | inr behind ↦ inr (omega (arith, behind))
]

-- what stands at a place is in the list, and the other way round
pub at_contains : {A : Type 0} (xs : List A) (i : ℕ) (x : A) → slice_get xs i ≡ Some x → Contains xs x
at_contains xs i x at = (i, slice_get_within xs i x at, get_or_from_slice_get xs i x x at)

pub contained_at : {A : Type 0} (xs : List A) (x : A) → Contains xs x → (i : ℕ) × (slice_get xs i ≡ Some x)
contained_at xs x inside = (inside.0, slice_get-get_or xs inside.0 x inside.1 ∙ ap (λ y. Some y) inside.2)

-- a step that fills a slot is counted
pub fills_it : (k : plan.SlotKind) → same_slot k k ≡ true
fills_it plan.memory = refl
fills_it plan.table = refl
fills_it plan.realloc = refl
fills_it plan.callback = refl
fills_it plan.post_return = refl

module _ (a h : Finish) (later : IsLater a h) where
  -- the steps of a later plan
  pub view_later : steps_view h ≡ steps_view a ++ map initializer_view later.more
  view_later = ap (map initializer_view) later.steps ∙ map-append initializer_view a.steps later.more

  -- a step of the later plan is one of the earlier, or stands behind them
  pub early_or_late : (i : ℕ) (s : plan.Initializer) → slice_get (steps_view h) i ≡ Some s
      → (slice_get (steps_view a) i ≡ Some s) ⊎ (length (steps_view a) ≤ i)
  early_or_late i s at =
      first_or_behind (steps_view a) (map initializer_view later.more) i s
      (ap (λ l. slice_get l i) (sym view_later) ∙ at)

  pub counted_late : (test : plan.Initializer → Bool) (i : ℕ) → length (steps_view a) ≤ i
      → count_by test (steps_view a) ≤ count_by test (take i (steps_view h))
  counted_late test i behind =
      subst (λ l. count_by test (steps_view a) ≤ count_by test (take i l)) (sym view_later)
      (count_late test (steps_view a) (map initializer_view later.more) i behind)

  pub counted_early : (test : plan.Initializer → Bool) (i : ℕ) (s : plan.Initializer)
      → slice_get (steps_view a) i ≡ Some s → test s ≡ true
      → count_by test (take i (steps_view h)) < count_by test (steps_view a)
  counted_early test i s at passes =
      subst (λ l. count_by test (take i l) < count_by test (steps_view a)) (sym view_later)
      (count_early test (steps_view a) (map initializer_view later.more) i s at passes)

module _ (g : ComponentDfg) (a h : Finish) (sound_a : IsSound g a) (sound : IsSound g h) (later : IsLater a h) where
  -- an options entry that was there is the same
  same_options : (m : ℕ) (o : PlanOptions) → m < length a.options → slice_get h.options m ≡ Some o
      → slice_get a.options m ≡ Some o
  unfolding number_of
  same_options m o within at =
      let given = sound_a.fills.options.given m within in
      let e = sound_a.represents.options given.0 m given.1 in
      let d = sound.represents.options given.0 m (later.stay (options_id given.0) m given.1) in
      let entry = same_Some d.entry e.entry (sym d.at ∙ e.at) in
      let all = subst (All (HasNumber a)) (options_parts g given.0 e.entry e.at)
      (sound_a.represents.parts (options_id given.0) (m, given.1)) in
      let kept = options_stay a h later.stay e.entry all in
      e.there ∙ ap (λ x. Some x) (sym kept ∙ ap (options_in h) (sym entry)) ∙ sym d.there ∙ at

  -- and so is a trampoline
  same_trampoline : (m : ℕ) (t : plan.TrampolineEntry Mark) → m < length a.trampolines
      → slice_get (trampolines_view 0 h.signatures h.trampolines) m ≡ Some t
      → slice_get (trampolines_view 0 a.signatures a.trampolines) m ≡ Some t
  unfolding number_of
  same_trampoline m t within at =
      let given = sound_a.fills.trampolines.given m within in
      let i : TrampolineIndex = record { 0 = given.0 } in
      let c = sound_a.represents.trampolines given.0 m given.1 in
      let d = sound.represents.trampolines given.0 m (later.stay (id.Trampoline i) m given.1) in
      let entry = same_Some d.entry c.entry (sym d.at ∙ c.at) in
      let all = subst (All (HasNumber a)) (copied_parts g given.0 c.entry c.at)
      (sound_a.represents.parts (id.Trampoline i) (m, given.1)) in
      let made = parts_of c.entry.1 in
      let kept = trampoline_as_before a h later.stay c.entry.0 i made.kind made.head made.parts
      (lowering_alone c.entry.1) all in
      let parts = c.is ∙ sym kept ∙ ap (λ e. parts_in h i (parts_of e.1)) (sym entry) ∙ sym d.is in
      let views : entry_view c.entry.0 c.made ≡ entry_view d.entry.0 d.made =
      ap (parts_entry plan_numbers c.entry.0) parts
      ∙ ap (λ e. parts_entry plan_numbers e.0 (parts_of d.made)) (sym entry)
      in
      copied_view g a sound_a.represents given.0 m c ∙ ap (λ x. Some x) views
      ∙ sym (copied_view g h sound.represents given.0 m d) ∙ at

  module _ (names : Contents (List ℕ) Target) (items : List PlanItem) where
    -- the later plan
    abbrev p : ComponentTranslation
    p = record { component = component_of g h names items; trampolines = h.trampolines }

    slot_sealed : (k : plan.SlotKind) (n i : ℕ) (d : plan.Definition) (x : Piece)
        → slice_get (steps_view h) i ≡ Some (plan.extract k n d) → Contains (named_by d) x → n < slot_count a k
        → IsThere a x
    slot_sealed k n i d x at inside there =
        let s = plan.extract k n d in
        elim (early_or_late a h later i s at) [
          | inl early ↦ sound_a.are_steps.there s (at_contains (steps_view a) i s early) x
              (Contains-append_left (named_by d) [] x inside)
          | inr late ↦
              let carried = sound.are_steps.carry i s at in
              let more = counted_late a h later (fills k) i late in
              absurd (omega (arith, there, carried, more, sound_a.counts.slots k))
        ]

    adapters_sealed : (i m : ℕ) (args : List plan.Definition) (x : Piece)
        → slice_get (steps_view h) i ≡ Some (plan.instantiate_static m args None)
        → Contains (flat_map named_by args) x
        → count_by makes_instance (take i (steps_view h)) < a.counts.instances → IsThere a x
    adapters_sealed i m args x at inside there =
        let s = plan.instantiate_static m args None in
        elim (early_or_late a h later i s at) [
          | inl early ↦ sound_a.are_steps.there s (at_contains (steps_view a) i s early) x inside
          | inr late ↦
              let more = counted_late a h later makes_instance i late in
              absurd (omega (arith, there, more, sound_a.counts.instances))
        ]

    -- what a piece that was there needs was there
    need_sealed : (x y : Piece) → Needs p x y → IsThere a x → IsThere a y
    unfolding IsThere
    need_sealed x y (of_slot {k = k} {n = n} {d = d} inside named) there =
        let place = contained_at (steps_view h) (plan.extract k n d) inside in
        slot_sealed k n place.0 d y place.1 named there
    need_sealed x y (of_options {k = k} {m = m} {n = n} {o = o} at takes) there =
        options_within_slots g a sound_a.represents sound_a.fills k n m o (same_options m o there at) takes
    need_sealed x y (of_lowering {m = m} {n = n} {t = t} at takes) there =
        trampoline_within_lowerings g a sound_a.represents sound_a.fills n m t (same_trampoline m t there at) takes
    need_sealed x y (of_trampoline {m = m} {n = n} {t = t} at takes) there =
        trampoline_within_options g a sound_a.represents sound_a.fills n m t (same_trampoline m t there at) takes
    need_sealed x y (of_part {k = k} {m = m} {n = n} {t = t} at takes) there =
        trampoline_within_slots g a sound_a.represents sound_a.fills k n m t (same_trampoline m t there at) takes
    need_sealed x y (of_adapters i {m = m} {args = args} at inside) there =
        adapters_sealed i m args y at inside there

    -- and so was all that it leads to
    pub sealed : (x y : Piece) → LeadsTo p x y → IsThere a x → IsThere a y
    sealed x y to_itself there = there
    sealed x y (by_need {y = z} need leads) there = sealed z y leads (need_sealed x z need there)
