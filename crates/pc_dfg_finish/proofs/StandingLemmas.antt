-- Where the steps of a plan stand: right before the first side effect that uses what they make.
use Rattle.std.proofs.Common.{◌≡◌, ◌<◌, ◌≤◌, ◌+◌, ◌++◌, ◌⊎◌, inl, inr, ℕ, Bool, true, false, true≢false, List, []}
use Rattle.std.proofs.Common.{◌∷◌, length, map, take, All, Option, None, Some, refl, sym, ap, subst, ◌∙◌, arith}
use Rattle.std.specs.Prelude.{slice_get, count_by}
use Rattle.std.specs.List.{Contains}
use Rattle.std.proofs.lemmas.List.{length-append, length-map}
use Rattle.std.proofs.lemmas.List.Elements.{All-contains}
use Rattle.std.proofs.lemmas.List.Elements.{Contains-push}
use Rattle.std.proofs.lemmas.Option.{same_Some, slice_get_within}
use Rattle.pc_entity.proofs.Growing.{slice_get-append}
use Rattle.pc_dfg.specs.declared.ids.AdapterModuleId.{AdapterModuleId}
use Rattle.pc_names.specs.Contents.{Contents}
use Rattle.pc_numbers.specs.declared.runtime.TrampolineIndex.{TrampolineIndex}
use Rattle.pc_spec_plan.specs.Counts.{fills, lowers_import, makes_instance}
use Rattle.pc_spec_plan.specs.PlanView as plan
use Rattle.pc_info.specs.declared.component.ComponentTranslation.{ComponentTranslation}
use Rattle.pc_info.specs.declared.export.Export.{Export as PlanItem}
use Rattle.pc_info.specs.Definitions.{initializer_view}
use Rattle.pc_dfg.specs.declared.dfg.ComponentDfg.{ComponentDfg}
use Rattle.pc_dfg_linearize.specs.declared.id.Id.{Id}
use Rattle.pc_dfg_linearize.specs.declared.id.Id.TheVariants as id
use Rattle.pc_dfg_linearize.specs.declared.state.Finish.{Finish}
use Rattle.pc_dfg_linearize.specs.Arguments.{OnlyFromThese}
use Rattle.pc_dfg_linearize.specs.Sound.{CountsSteps}
use Rattle.pc_dfg_finish.specs.Exports.{Target}
use Rattle.pc_dfg_linearize.specs.Numbers.{number_at}
use Rattle.pc_dfg_linearize.specs.Once.{Alike, AreGiven, Fills, Origin, number_in_run, of_instance, of_module, unsigned}
use Rattle.pc_dfg_linearize.specs.Parts.{HasNumber, number_of, slot_id, slot_numbers}
use Rattle.pc_dfg_linearize.specs.Plan.{slot_count, steps_view}
use Rattle.pc_dfg_linearize.specs.Ready.{Leads}
use Rattle.pc_dfg_linearize.specs.Stages.{EndsWithEffect, IsStage}
use Rattle.pc_dfg_linearize.specs.Sound.{IsLater, IsSound}
use Rattle.pc_info.specs.Standing.{IsEffectAt, IsLedTo, IsMadeLate, LeadsTo, Makes, Piece, a_lowering, a_slot}
use Rattle.pc_info.specs.Standing.{an_instance, is_side_effect, named_in, named_in_export}
use Rattle.pc_dfg_linearize.specs.Steps.{IsThere, piece_of}
use Rattle.pc_dfg_finish.specs.Whole.{component_of}
use Rattle.pc_dfg_linearize.proofs.EntryLemmas.{slot_number}
use Rattle.pc_dfg_linearize.proofs.FillLemmas.{in_run, mapped_back}
use Rattle.pc_dfg_finish.proofs.PieceLemmas.{piece_leads, slot_piece}
use Rattle.pc_dfg_finish.proofs.SealedLemmas.{counted_early, counted_late, early_or_late, fills_it, sealed}
use Rattle.pc_dfg_finish.proofs.SealedLemmas.{one_place, view_later}
use Rattle.pc_dfg_finish.proofs.StageLemmas.{adds_later, front_length, view_added}
use Rattle.pc_dfg_linearize.proofs.SoundLemmas.{later_refl, later_then}
use Rattle.pc_dfg_linearize.proofs.ThereLemmas.{KeepsInstances, run_stays}

-- what is made by a step of its own has its number where that step stands, and not before
module _ {A : Type 0} (number : Finish → A → Option ℕ) (count : Finish → ℕ) (test : plan.Initializer → Bool)
    (given : (f : Finish) → Fills f → AreGiven (number f) (count f))
    (counted : (f : Finish) → CountsSteps f → count_by test (steps_view f) ≡ count f)
    (stays : (a h : Finish) → IsLater a h → (e : A) (n : ℕ) → number a e ≡ Some n → number h e ≡ Some n) (h : Finish)
    (fills_h : Fills h) (j : ℕ) (s : plan.Initializer) (at : slice_get (steps_view h) j ≡ Some s)
    (passes : test s ≡ true) (e : A) (n : ℕ) (is : number h e ≡ Some n)
    (carried : n ≡ count_by test (take j (steps_view h))) (a : Finish) (later : IsLater a h) (counts : CountsSteps a)
    (fills_a : Fills a) where
  not_there : length (steps_view a) ≤ j → n < count a → ⊥
  not_there late there =
      let more = counted_late a h later test j late in
      omega (arith, there, carried, more, counted a counts)

  not_numbered : length (steps_view a) ≤ j → (m : ℕ) → number a e ≡ Some m → ⊥
  not_numbered late m had =
      let same = same_Some m n (sym (stays a h later e m had) ∙ is) in
      not_there late (subst (λ k. k < count a) same ((given a fills_a).below e m had))

  numbered_here : j < length (steps_view a) → number a e ≡ Some n
  numbered_here early = elim (early_or_late a h later j s at) [
    | inl here ↦
        let fewer = counted_early a h later test j s here passes in
        let q = (given a fills_a).given n (omega (arith, fewer, carried, counted a counts)) in
        let one = (given h fills_h).once q.0 e n (stays a h later q.0 n q.1) is in
        subst (λ z. number a z ≡ Some n) one q.1
    | inr late ↦ absurd (omega (arith, early, late))
  ]

-- a step makes the piece of an id, which has its number in the plans that have the step and in no earlier ones
record IsMadeOf (h : Finish) (j : ℕ) (x : Piece) : Type 0 where
  y : Id
  n : ℕ
  numbered : number_of h y ≡ Some n
  piece : piece_of y n ≡ x
  alone : (z : Id) → Alike z y → z ≡ y
  absent : (a : Finish) → IsLater a h → CountsSteps a → Fills a → length (steps_view a) ≤ j → IsThere a x → ⊥
  unnumbered : (a : Finish) → IsLater a h → CountsSteps a → Fills a → length (steps_view a) ≤ j → HasNumber a y → ⊥
  present : (a : Finish) → IsLater a h → CountsSteps a → Fills a → j < length (steps_view a) → HasNumber a y

-- of what has one number under each signature there are only intrinsics
slot_alone : (k : plan.SlotKind) (i : ℕ) (z : Id) → Alike z (slot_id k i) → z ≡ slot_id k i
unfolding unsigned
slot_alone plan.memory i (id.Intrinsic s j) alike = absurd (cc alike)
slot_alone plan.table i (id.Intrinsic s j) alike = absurd (cc alike)
slot_alone plan.realloc i (id.Intrinsic s j) alike = absurd (cc alike)
slot_alone plan.callback i (id.Intrinsic s j) alike = absurd (cc alike)
slot_alone plan.post_return i (id.Intrinsic s j) alike = absurd (cc alike)
slot_alone plan.memory i z alike = alike
slot_alone plan.table i z alike = alike
slot_alone plan.realloc i z alike = alike
slot_alone plan.callback i z alike = alike
slot_alone plan.post_return i z alike = alike

lowering_alone : (t : TrampolineIndex) (z : Id) → Alike z (id.Lowering t) → z ≡ id.Lowering t
unfolding unsigned
lowering_alone t (id.Intrinsic s j) alike = absurd (cc alike)
lowering_alone t z alike = alike

module_alone : (m : AdapterModuleId) (z : Id) → Alike z (id.AdapterModule m) → z ≡ id.AdapterModule m
unfolding unsigned
module_alone m (id.Intrinsic s j) alike = absurd (cc alike)
module_alone m z alike = alike

kept_in : (a b : Finish) → IsLater a b → KeepsInstances a b
kept_in a b later k n at =
    ap (λ l. slice_get l k) later.instances ∙ slice_get-append a.instances later.made k n at

module _ (g : ComponentDfg) (h : Finish) (sound : IsSound g h) where
  slot_made : (k : plan.SlotKind) (n j : ℕ) (d : plan.Definition)
      → slice_get (steps_view h) j ≡ Some (plan.extract k n d) → IsMadeOf h j (a_slot k n)
  unfolding IsThere
  slot_made k n j d at =
      let s = plan.extract k n d in
      let carried = sound.are_steps.carry j s at in
      let all = counted_early h h (later_refl h) (fills k) j s at (fills_it k) in
      let i = (sound.fills.slots k).given n (omega (arith, carried, all, sound.counts.slots k)) in
      let number = λ (f : Finish). number_at (slot_numbers f k) in
      let count = λ (f : Finish). slot_count f k in
      let given = λ (f : Finish) (filled : Fills f). filled.slots k in
      let counted = λ (f : Finish) (c : CountsSteps f). c.slots k in
      let stays = λ (a b : Finish) (later : IsLater a b) (e m : ℕ) (is : number_at (slot_numbers a k) e ≡ Some m).
      sym (slot_number b k e) ∙ later.stay (slot_id k e) m (slot_number a k e ∙ is) in
      record {
        y = slot_id k i.0;
        n = n;
        numbered = slot_number h k i.0 ∙ i.1;
        piece = slot_piece k i.0 n;
        alone = slot_alone k i.0;
        absent = λ a later counts filled.
            not_there number count (fills k) given counted stays h sound.fills j s at (fills_it k) i.0 n i.1 carried a
            later counts filled;
        unnumbered = λ a later counts filled late has.
            not_numbered number count (fills k) given counted stays h sound.fills j s at (fills_it k) i.0 n i.1 carried
            a later counts filled late has.0 (sym (slot_number a k i.0) ∙ has.1);
        present = λ a later counts filled early. (
          n,
          slot_number a k i.0
              ∙ numbered_here number count (fills k) given counted stays h sound.fills j s at (fills_it k) i.0 n i.1
              carried a later counts filled early,
        );
      }

  lowering_made : (n j r : ℕ) → slice_get (steps_view h) j ≡ Some (plan.lower_import n r)
      → IsMadeOf h j (a_lowering n)
  unfolding IsThere number_of piece_of
  lowering_made n j r at =
      let s = plan.lower_import n r in
      let carried = sound.are_steps.carry j s at in
      let all = counted_early h h (later_refl h) lowers_import j s at refl in
      let i = sound.fills.lowerings.given n (omega (arith, carried, all, sound.counts.lowerings)) in
      let number = λ (f : Finish). number_at f.numbers.lowerings in
      let count = λ (f : Finish). f.counts.lowerings in
      let given = λ (f : Finish) (filled : Fills f). filled.lowerings in
      let counted = λ (f : Finish) (c : CountsSteps f). c.lowerings in
      let stays = λ (a b : Finish) (later : IsLater a b) (e m : ℕ) (is : number_at a.numbers.lowerings e ≡ Some m).
      later.stay (id.Lowering (record { 0 = e })) m is in
      record {
        y = id.Lowering (record { 0 = i.0 });
        n = n;
        numbered = i.1;
        piece = refl;
        alone = lowering_alone (record { 0 = i.0 });
        absent = λ a later counts filled.
            not_there number count lowers_import given counted stays h sound.fills j s at refl i.0 n i.1 carried a later
            counts filled;
        unnumbered = λ a later counts filled late has.
            not_numbered number count lowers_import given counted stays h sound.fills j s at refl i.0 n i.1 carried a
            later counts filled late has.0 has.1;
        present = λ a later counts filled early. (
          n,
          numbered_here number count lowers_import given counted stays h sound.fills j s at refl i.0 n i.1 carried a
              later counts filled early,
        );
      }

  -- a step that makes an instance for no component instance makes that of a module of adapters
  pub adapters_behind : (j m : ℕ) (args : List plan.Definition)
      → slice_get (steps_view h) j ≡ Some (plan.instantiate_static m args None)
      → (k : ℕ) × (number_at h.numbers.adapter_modules k ≡ Some (count_by makes_instance (take j (steps_view h))))
  adapters_behind j m args at =
      let all = counted_early h h (later_refl h) makes_instance j s at refl in
      let given = sound.fills.instances.given n (omega (arith, all, sound.counts.instances)) in
      by given.0 given.1
    where
      s : plan.Initializer
      s = plan.instantiate_static m args None

      n : ℕ
      n = count_by makes_instance (take j (steps_view h))

      by : (x : Origin) → number_in_run h x ≡ Some n → (k : ℕ) × (number_at h.numbers.adapter_modules k ≡ Some n)
      by (of_instance k) is =
          let r = mapped_back in_run (slice_get h.instances k) n is in
          let owned = sound.are_steps.owned k r.0 r.1 in
          let place = one_place makes_instance (steps_view h) owned.stands.place j owned.step s owned.stands.at
          owned.makes at refl (owned.stands.number_of_it ∙ r.2) in
          let same = same_Some owned.step s
          (sym owned.stands.at ∙ ap (slice_get (steps_view h)) place ∙ at) in
          absurd (true≢false (sym owned.effect ∙ ap is_side_effect same))
      by (of_module k) is = (k, is)

  module_made : (j m : ℕ) (args : List plan.Definition)
      → slice_get (steps_view h) j ≡ Some (plan.instantiate_static m args None)
      → IsMadeOf h j (an_instance (count_by makes_instance (take j (steps_view h))))
  unfolding IsThere number_of piece_of
  module_made j m args at =
      let s = plan.instantiate_static m args None in
      let n = count_by makes_instance (take j (steps_view h)) in
      let k = adapters_behind j m args at in
      let stays = λ (a b : Finish) (later : IsLater a b) (e : Origin) (i : ℕ) (is : number_in_run a e ≡ Some i).
      run_stays a b later.stay (kept_in a b later) e i is in
      let count = λ (f : Finish). f.counts.instances in
      let given = λ (f : Finish) (filled : Fills f). filled.instances in
      let counted = λ (f : Finish) (c : CountsSteps f). c.instances in
      record {
        y = id.AdapterModule (record { 0 = k.0 });
        n = n;
        numbered = k.1;
        piece = refl;
        alone = module_alone (record { 0 = k.0 });
        absent = λ a later counts filled.
            not_there number_in_run count makes_instance given counted stays h sound.fills j s at refl (of_module k.0)
            n k.1 refl a later counts filled;
        unnumbered = λ a later counts filled late has.
            not_numbered number_in_run count makes_instance given counted stays h sound.fills j s at refl
            (of_module k.0) n k.1 refl a later counts filled late has.0 has.1;
        present = λ a later counts filled early. (
          n,
          numbered_here number_in_run count makes_instance given counted stays h sound.fills j s at refl
              (of_module k.0) n k.1 refl a later counts filled early,
        );
      }

  -- so does each step that is no side effect
  step_made : (j : ℕ) (s : plan.Initializer) (x : Piece) → slice_get (steps_view h) j ≡ Some s
      → is_side_effect s ≡ false → Makes (take j (steps_view h)) s x → IsMadeOf h j x
  step_made j (plan.instantiate_static m args (Some c)) x at quiet makes = absurd (true≢false quiet)
  step_made j (plan.instantiate_static m args None) x at quiet makes =
      subst (IsMadeOf h j) (sym makes) (module_made j m args at)
  step_made j (plan.instantiate_import r args c) x at quiet makes = absurd (true≢false quiet)
  step_made j (plan.lower_import n r) x at quiet makes = subst (IsMadeOf h j) (sym makes) (lowering_made n j r at)
  step_made j (plan.extract k n d) x at quiet makes = subst (IsMadeOf h j) (sym makes) (slot_made k n j d at)
  step_made j (plan.declare_resource i rep d c) x at quiet makes = absurd makes

  module _ (names : Contents (List ℕ) Target) (items : List PlanItem) where
    -- the plan
    abbrev p : ComponentTranslation
    p = record { component = component_of g h names items; trampolines = h.trampolines }

    module _ (j : ℕ) (x : Piece) (made : IsMadeOf h j x) where
      -- what these ids lead to was made for them
      from_these : (a b : Finish) (ids : List Id) → IsLater a h → IsLater b h → CountsSteps a → Fills a
          → HasNumber b made.y → length (steps_view a) ≤ j → OnlyFromThese g a b ids → All (HasNumber b) ids
          → (z : Id) × (m : ℕ) × Contains ids z × (number_of b z ≡ Some m) × LeadsTo p (piece_of z m) x
      from_these a b ids later_a later_b counts filled has late only here = elim (only made.y has) [
        | inl before ↦ absurd (made.unnumbered a later_a counts filled late before)
        | inr from ↦
            let z = All-contains (HasNumber b) ids from.0 here from.1 in
            let leads = subst (Leads g from.0) (made.alone from.2.0 from.2.2) from.2.1 in (
              from.0,
              z.0,
              from.1,
              z.1,
              subst (LeadsTo p (piece_of from.0 z.0)) made.piece
                  (piece_leads g h sound names items from.0 made.y z.0 made.n leads
                  (later_b.stay from.0 z.0 z.1) made.numbered),
            )
      ]

      module _ (i : ℕ) (s : plan.Initializer) (stage : IsStage g h i s) where
        -- the stage's steps are those up to the side effect's
        after_length : length (steps_view stage.after) ≡ i + 1
        after_length =
            let last = initializer_view stage.adds.last in
            let front = steps_view stage.before ++ map initializer_view stage.adds.quiet in
            let long = length-append front (last ∷ []) in
            let view = ap length (view_added g stage.before stage.after stage.ids stage.adds) in
            let same = front_length g stage.before stage.after stage.ids stage.adds in
            omega (arith, long, view, same, stage.at)

        last_of : Contains (steps_view stage.after) s
        last_of =
            let last = initializer_view stage.adds.last in
            let front = steps_view stage.before ++ map initializer_view stage.adds.quiet in
            subst (Contains (steps_view stage.after)) stage.is
            (subst (λ l. Contains l last) (sym (view_added g stage.before stage.after stage.ids stage.adds))
            (Contains-push front last))

        -- what stands behind it, it doesn't use
        before_it : i < j → IsLedTo p (named_in s) x → ⊥
        before_it less uses =
            let there = stage.sound.are_steps.there s last_of uses.0 uses.1 in
            let long = after_length in
            made.absent stage.after stage.later stage.sound.counts stage.sound.fills (omega (arith, long, less))
            (sealed g stage.after h stage.sound sound stage.later names items uses.0 x uses.2 there)

        before_later : IsLater stage.before h
        before_later =
            later_then stage.before stage.after h
            (adds_later stage.before stage.after stage.ids stage.stay stage.adds) stage.later

        -- what was made in the stage, it uses
        in_stage : j < i → length (steps_view stage.before) ≤ j → IsLedTo p (named_in s) x
        in_stage less late =
            let long = after_length in
            let has = made.present stage.after stage.later stage.sound.counts stage.sound.fills
            (omega (arith, long, less)) in
            let z = from_these stage.before stage.after stage.ids before_later stage.later stage.counts stage.fills has
            late stage.only stage.here in (
              piece_of z.0 z.1,
              subst (λ t. Contains (named_in t) (piece_of z.0 z.1)) stage.is (stage.adds.names z.0 z.1 z.2 z.3),
              z.4,
            )

      module _ (f : Finish) (later : IsLater f h) (counts : CountsSteps f) (filled : Fills f)
          (t : plan.Initializer) (at : slice_get (steps_view h) j ≡ Some t) (quiet : is_side_effect t ≡ false) where
        -- behind a step of a plan that ends with a side effect there is one
        behind_ends : EndsWithEffect (steps_view f) → (length (steps_view f) ≤ j)
            ⊎ ((k : ℕ) × (u : plan.Initializer) × (j < k) × (k < length (steps_view f)) × IsEffectAt p k u)
        behind_ends ends = elim (early_or_late f h later j t at) [
          | inl early ↦
              let e = ends j t early quiet in
              let there = ap (λ l. slice_get l e.0) (view_later f h later)
              ∙ slice_get-append (steps_view f) (map initializer_view later.more) e.0 e.1 e.3 in
              inr (e.0, e.1, e.2, slice_get_within (steps_view f) e.0 e.1 e.3, (there, e.4))
          | inr late ↦ inl late
        ]

    -- each step stands right before the first side effect that uses what it makes, or behind all
    pub made_late : (f : Finish) → IsLater f h → CountsSteps f → Fills f → EndsWithEffect (steps_view f)
        → ((i : ℕ) (s : plan.Initializer) → IsEffectAt p i s → IsStage g h i s) → (ids : List Id)
        → OnlyFromThese g f h ids → All (HasNumber h) ids
        → ((z : Id) (m : ℕ) → Contains ids z → number_of h z ≡ Some m
        → (n : ℕ) × (e : PlanItem) × (slice_get items n ≡ Some e) × Contains (named_in_export e) (piece_of z m))
        → (j : ℕ) (t : plan.Initializer) (x : Piece) → slice_get (steps_view h) j ≡ Some t → is_side_effect t ≡ false
        → Makes (take j (steps_view h)) t x → IsMadeLate p j x
    made_late f later counts filled ends stages ids only here exports j t x at quiet makes =
        let made = step_made j t x at quiet makes in
        record {
          not_before = λ i s effect less. before_it j x made i s (stages i s effect) less;
          before_next = λ i s effect less first.
              let stage = stages i s effect in
              let later' = before_later j x made i s stage in
              let long = after_length j x made i s stage in
              elim (behind_ends j x made stage.before later' stage.counts stage.fills t at quiet stage.ends) [
                | inl late ↦ in_stage j x made i s stage less late
                | inr e ↦
                    let next = first e.0 e.1 e.4 e.2 in
                    let front = length-append stage.before.steps stage.adds.quiet in
                    let mapped = length-map stage.before.steps initializer_view in
                    absurd (omega (arith, next, e.3, stage.at, front, mapped))
              ];
          behind_all = λ none. elim (behind_ends j x made f later counts filled t at quiet ends) [
            | inl late ↦
                let z = from_these j x made f h ids later (later_refl h) counts filled (made.n, made.numbered) late only
                here in
                let e = exports z.0 z.1 z.2 z.3 in
                (e.0, e.1, e.2, (piece_of z.0 z.1, e.3, z.4))
            | inr e ↦ absurd (none e.0 e.1 e.4 e.2)
          ];
        }
