-- A slot that is filled.
use Rattle.std.proofs.Common.{◌≡◌, ◌≤◌, ◌<◌, ◌+◌, ℕ, true, false, List, [], ◌∷◌, ◌++◌, length, Option, None}
use Rattle.std.proofs.Common.{Some, refl, sym, ap, subst, ◌∙◌, inl, inr, ◌⊎◌, true≢false, arith}
use Rattle.std.specs.Prelude.{slice_get}
use Rattle.std.proofs.lemmas.Bool.{eq-eqb}
use Rattle.std.proofs.lemmas.List.{length-append, length-set, append-nil}
use Rattle.std.proofs.lemmas.List.Elements.{All-nil}
use Rattle.std.proofs.lemmas.Option.{same_Some}
use Rattle.pc_entity.proofs.Growing.{slice_get-append, slice_get-append_seam}
use Rattle.pc_spec_plan.specs.CoreValue.{CoreValue}
use Rattle.pc_spec_plan.specs.Counts.{same_slot, fills, makes_instance, lowers_import, declares_resource}
use Rattle.pc_spec_plan.specs.Log.{Entry}
use Rattle.pc_spec_plan.specs.Machine.{State, RuntimeInstance, fill, step, resolve}
use Rattle.pc_spec_plan.specs.Machine as machine
use Rattle.pc_spec_plan.specs.PlanView as plan
use Rattle.pc_trampoline.specs.declared.part.Mark.{Mark}
use Rattle.pc_info.specs.declared.initializer.GlobalInitializer.{GlobalInitializer}
use Rattle.pc_info.specs.declared.module.ModuleTranslation.{ModuleTranslation}
use Rattle.pc_info.specs.Definitions.{def_view, initializer_view}
use Rattle.pc_dfg.specs.declared.core_def.CoreDef.{CoreDef}
use Rattle.pc_dfg.specs.declared.dfg.ComponentDfg.{ComponentDfg}
use Rattle.pc_dfg.specs.Means.{Means}
use Rattle.pc_dfg.specs.Numbers.{slots_of}
use Rattle.pc_dfg.proofs.UniqueLemmas.{means_unique}
use Rattle.pc_dfg_linearize.specs.declared.state.Counts.{Counts}
use Rattle.pc_dfg_linearize.specs.declared.state.Finish.{Finish}
use Rattle.pc_dfg_linearize.specs.declared.state.Numbers.{Numbers}
use Rattle.pc_dfg_linearize.specs.Closed.{Fits}
use Rattle.pc_dfg_linearize.specs.Converted.{def_in}
use Rattle.pc_dfg_linearize.specs.Added.{add_slot, more_slots, number_slot}
use Rattle.pc_dfg_linearize.specs.Numbers.{number_at, with_number}
use Rattle.pc_dfg_linearize.specs.Parts.{slot_numbers}
use Rattle.pc_dfg_linearize.specs.Plan.{Extends, slot_count}
use Rattle.pc_dfg_linearize.specs.Reached.{all_linked, Filled, Gains, Grown, Reached}
use Rattle.pc_dfg_linearize.proofs.CountLemmas.{CountsOne, one}
use Rattle.pc_dfg_linearize.proofs.GrownLemmas.{grown_step, placed_stays, resolves_stay}
use Rattle.pc_dfg_linearize.proofs.NumberLemmas.{number_back}

-- two kinds of slot are one, or not
pub kinds : (k l : plan.SlotKind) → (k ≡ l) ⊎ (same_slot k l ≡ false)
kinds plan.memory plan.memory = inl refl
kinds plan.table plan.table = inl refl
kinds plan.realloc plan.realloc = inl refl
kinds plan.callback plan.callback = inl refl
kinds plan.post_return plan.post_return = inl refl
kinds k l = inr refl

module _ (f : Finish) (n : ℕ) (i : GlobalInitializer) where
  -- the kind of a slot that is filled has one more, and its entry a number
  pub count_same : (k : plan.SlotKind) → slot_count (add_slot k n i f) k ≡ slot_count f k + 1
  count_same plan.memory = refl
  count_same plan.table = refl
  count_same plan.realloc = refl
  count_same plan.callback = refl
  count_same plan.post_return = refl

  pub numbers_same : (k : plan.SlotKind)
      → slot_numbers (add_slot k n i f) k ≡ with_number (slot_numbers f k) n (slot_count f k)
  numbers_same plan.memory = refl
  numbers_same plan.table = refl
  numbers_same plan.realloc = refl
  numbers_same plan.callback = refl
  numbers_same plan.post_return = refl

  -- another kind has as many, and the same numbers
  pub count_other : (k l : plan.SlotKind) → same_slot k l ≡ false → slot_count (add_slot k n i f) l ≡ slot_count f l
  count_other plan.memory plan.memory h = absurd (true≢false h)
  count_other plan.table plan.table h = absurd (true≢false h)
  count_other plan.realloc plan.realloc h = absurd (true≢false h)
  count_other plan.callback plan.callback h = absurd (true≢false h)
  count_other plan.post_return plan.post_return h = absurd (true≢false h)
  count_other k l h = refl

  pub numbers_other : (k l : plan.SlotKind) → same_slot k l ≡ false
      → slot_numbers (add_slot k n i f) l ≡ slot_numbers f l
  numbers_other plan.memory plan.memory h = absurd (true≢false h)
  numbers_other plan.table plan.table h = absurd (true≢false h)
  numbers_other plan.realloc plan.realloc h = absurd (true≢false h)
  numbers_other plan.callback plan.callback h = absurd (true≢false h)
  numbers_other plan.post_return plan.post_return h = absurd (true≢false h)
  numbers_other k l h = refl

-- what is no slot stays
pub record SameElse (c d : Counts) (m n : Numbers) : Type 0 where
  pub instances : d.instances ≡ c.instances
  pub lowerings : d.lowerings ≡ c.lowerings
  pub options : n.options ≡ m.options
  pub lowered : n.lowerings ≡ m.lowerings
  pub trampolines : n.trampolines ≡ m.trampolines
  pub adapter_modules : n.adapter_modules ≡ m.adapter_modules

pub same_else : (k : plan.SlotKind) (n v : ℕ) (c : Counts) (m : Numbers)
    → SameElse c (more_slots k c) m (number_slot k n v m)
same_else k n v c m = by k
  where
    by : (l : plan.SlotKind) → SameElse c (more_slots l c) m (number_slot l n v m)
    by plan.memory = record {
      instances = refl;
      lowerings = refl;
      options = refl;
      lowered = refl;
      trampolines = refl;
      adapter_modules = refl;
    }
    by plan.table = record {
      instances = refl;
      lowerings = refl;
      options = refl;
      lowered = refl;
      trampolines = refl;
      adapter_modules = refl;
    }
    by l = record {
      instances = refl;
      lowerings = refl;
      options = refl;
      lowered = refl;
      trampolines = refl;
      adapter_modules = refl;
    }

module _ (s : State Mark) (v : CoreValue Mark) where
  -- a slot of a state is filled
  pub fill_same : (k : plan.SlotKind) → machine.slots_of (fill s k v) k ≡ machine.slots_of s k ++ v ∷ []
  fill_same plan.memory = refl
  fill_same plan.table = refl
  fill_same plan.realloc = refl
  fill_same plan.callback = refl
  fill_same plan.post_return = refl

  pub fill_other : (k l : plan.SlotKind) → same_slot k l ≡ false
      → machine.slots_of (fill s k v) l ≡ machine.slots_of s l
  fill_other plan.memory plan.memory h = absurd (true≢false h)
  fill_other plan.table plan.table h = absurd (true≢false h)
  fill_other plan.realloc plan.realloc h = absurd (true≢false h)
  fill_other plan.callback plan.callback h = absurd (true≢false h)
  fill_other plan.post_return plan.post_return h = absurd (true≢false h)
  fill_other k l h = refl

  pub fill_instances : (k : plan.SlotKind) → (fill s k v).instances ≡ s.instances
  fill_instances plan.memory = refl
  fill_instances k = refl

  pub fill_lowerings : (k : plan.SlotKind) → (fill s k v).lowerings ≡ s.lowerings
  fill_lowerings plan.memory = refl
  fill_lowerings k = refl

  pub fill_resources : (k : plan.SlotKind) → (fill s k v).resources ≡ s.resources
  fill_resources plan.memory = refl
  fill_resources k = refl

  -- so the state has gained a slot
  pub fill_gains : (k : plan.SlotKind) → Gains s (fill s k v)
  fill_gains k = record {
    more = [];
    instances = fill_instances k ∙ sym (append-nil s.instances);
    unowned = All-nil (λ (m : RuntimeInstance Mark). m.component_instance ≡ None);
    lowerings = λ n x at. ap (λ (l : List ℕ). slice_get l n) (fill_lowerings k) ∙ at;
    slots = slot;
    resources = fill_resources k;
  }
    where
      slot : (l : plan.SlotKind) (n : ℕ) (x : CoreValue Mark) → slice_get (machine.slots_of s l) n ≡ Some x
          → slice_get (machine.slots_of (fill s k v) l) n ≡ Some x
      slot l n x at = elim (kinds k l) as (λ _. slice_get (machine.slots_of (fill s k v) l) n ≡ Some x) [
        | inl same ↦ subst (λ (j : plan.SlotKind). slice_get (machine.slots_of (fill s k v) j) n ≡ Some x) same
            (ap (λ (w : List (CoreValue Mark)). slice_get w n) (fill_same k)
            ∙ slice_get-append (machine.slots_of s k) (v ∷ []) n x
            (subst (λ (j : plan.SlotKind). slice_get (machine.slots_of s j) n ≡ Some x) (sym same) at))
        | inr other ↦ ap (λ (w : List (CoreValue Mark)). slice_get w n) (fill_other k l other) ∙ at
      ]

-- the step goes where its definition stands for the value, is of the kind, and the slot is the next one
pub fill_step : (p : plan.PlanView Mark) (s : State Mark) (k : plan.SlotKind) (n : ℕ) (d : plan.Definition)
    (v : CoreValue Mark) → resolve p s d ≡ Some v → machine.fits k d ≡ true → n ≡ length (machine.slots_of s k)
    → step p all_linked s (plan.extract k n d) ≡ Some (fill s k v)
fill_step p s k n d v is fits next = rw (is, fits, eq-eqb n (length (machine.slots_of s k)) next) refl

module _ (g : ComponentDfg) (f : Finish) (k : plan.SlotKind) (n : ℕ) (d : CoreDef) (i : GlobalInitializer)
    (within : n < length (slot_numbers f k)) where
  else_kept : SameElse f.counts (more_slots k f.counts) f.numbers (number_slot k n (slot_count f k) f.numbers)
  else_kept = same_else k n (slot_count f k) f.counts f.numbers

  -- the numbers are in lists of the graph's lengths
  slot_length : (l : plan.SlotKind) → length (slot_numbers (add_slot k n i f) l) ≡ length (slot_numbers f l)
  slot_length l = elim (kinds k l) as (λ _. length (slot_numbers (add_slot k n i f) l) ≡ length (slot_numbers f l)) [
    | inl same ↦ subst (λ (q : plan.SlotKind). length (slot_numbers (add_slot k n i f) q) ≡ length (slot_numbers f q))
        same (ap length (numbers_same f n i k) ∙ length-set (slot_numbers f k) n (Some (slot_count f k)))
    | inr other ↦ ap length (numbers_other f n i k l other)
  ]

  pub slot_fits : Fits g f → Fits g (add_slot k n i f)
  slot_fits fits = record {
    memories = slot_length plan.memory ∙ fits.memories;
    tables = slot_length plan.table ∙ fits.tables;
    reallocs = slot_length plan.realloc ∙ fits.reallocs;
    callbacks = slot_length plan.callback ∙ fits.callbacks;
    post_returns = slot_length plan.post_return ∙ fits.post_returns;
    options = ap length else_kept.options ∙ fits.options;
    lowerings = ap length else_kept.lowered ∙ fits.lowerings;
    trampolines = ap length else_kept.trampolines ∙ fits.trampolines;
    adapter_modules = ap length else_kept.adapter_modules ∙ fits.adapter_modules;
    intrinsics = fits.intrinsics;
    signatures = fits.signatures;
  }

  -- a plan that has what was made has what was made before
  count_grows : (l : plan.SlotKind) → slot_count f l ≤ slot_count (add_slot k n i f) l
  count_grows l = elim (kinds k l) as (λ _. slot_count f l ≤ slot_count (add_slot k n i f) l) [
    | inl same ↦ subst (λ (q : plan.SlotKind). slot_count f q ≤ slot_count (add_slot k n i f) q) same
        (le_more (slot_count f k) (slot_count (add_slot k n i f) k) (count_same f n i k))
    | inr other ↦ le_same (slot_count f l) (slot_count (add_slot k n i f) l) (count_other f n i k l other)
  ]
    where
      le_more : (a b : ℕ) → b ≡ a + 1 → a ≤ b
      le_more a b h = omega (arith, h)

      le_same : (a b : ℕ) → b ≡ a → a ≤ b
      le_same a b h = omega (arith, h)

  pub slot_back : (ms : List ModuleTranslation) (p : plan.PlanView Mark) → Extends g ms (add_slot k n i f) p
      → Extends g ms f p
  slot_back ms p e = record {
    has = e.has;
    import_types = e.import_types;
    imports = e.imports;
    imported = e.imported;
    options = e.options;
    trampolines = e.trampolines;
    intrinsics = e.intrinsics;
    instances = subst (λ (m : ℕ). m ≤ p.counts.runtime_instances) else_kept.instances e.instances;
    lowerings = subst (λ (m : ℕ). m ≤ p.counts.lowerings) else_kept.lowerings e.lowerings;
    slots = λ l. le_trans _ _ _ (count_grows l) (e.slots l);
    resources = e.resources;
  }
    where
      le_trans : (a b c : ℕ) → a ≤ b → b ≤ c → a ≤ c
      le_trans a b c x y = omega (arith, x, y)

  -- each count is that of the steps
  pub slot_counts : (d : plan.Definition) → initializer_view i ≡ plan.extract k (slot_count f k) d
      → CountsOne f (add_slot k n i f) i
  slot_counts d view = record {
    steps = refl;
    instances = none _ _ _ else_kept.instances (ap (λ (j : plan.Initializer). one (makes_instance j)) view);
    lowerings = none _ _ _ else_kept.lowerings (ap (λ (j : plan.Initializer). one (lowers_import j)) view);
    slots = slots;
    resources = none _ _ _ refl (ap (λ (j : plan.Initializer). one (declares_resource j)) view);
  }
    where
      none : (a b c : ℕ) → b ≡ a → c ≡ 0 → b ≡ a + c
      none a b c x y = omega (arith, x, y)

      some : (a b c : ℕ) → b ≡ a + 1 → c ≡ 1 → b ≡ a + c
      some a b c x y = omega (arith, x, y)

      itself : (l : plan.SlotKind) → one (same_slot l l) ≡ 1
      itself plan.memory = refl
      itself plan.table = refl
      itself plan.realloc = refl
      itself plan.callback = refl
      itself plan.post_return = refl

      turned : (q l : plan.SlotKind) → same_slot q l ≡ false → same_slot l q ≡ false
      turned plan.memory plan.memory h = h
      turned plan.table plan.table h = h
      turned plan.realloc plan.realloc h = h
      turned plan.callback plan.callback h = h
      turned plan.post_return plan.post_return h = h
      turned q l h = refl

      slots : (l : plan.SlotKind)
          → slot_count (add_slot k n i f) l ≡ slot_count f l + one (fills l (initializer_view i))
      slots l =
          elim (kinds k l) as (λ _. slot_count (add_slot k n i f) l ≡ slot_count f l + one
          (fills l (initializer_view i))) [
            | inl same ↦ subst (λ (q : plan.SlotKind). slot_count (add_slot k n i f) q
                ≡ slot_count f q + one (fills q (initializer_view i))) same
                (some _ _ _ (count_same f n i k) (ap (λ (j : plan.Initializer). one (fills k j)) view ∙ itself k))
            | inr other ↦ none _ _ _ (count_other f n i k l other)
                (ap (λ (j : plan.Initializer). one (fills l j)) view ∙ ap one (turned k l other))
          ]

  module _ (s : State Mark) (v : CoreValue Mark) (at : slice_get (slots_of g k) n ≡ Some d) (means : Means g d v) where
    slots_filled : Filled g f s → (l : plan.SlotKind)
        → length (machine.slots_of (fill s k v) l) ≡ slot_count (add_slot k n i f) l
    slots_filled filled l =
        elim (kinds k l) as (λ _. length (machine.slots_of (fill s k v) l) ≡ slot_count (add_slot k n i f) l) [
          | inl same ↦ subst (λ (q : plan.SlotKind).
              length (machine.slots_of (fill s k v) q) ≡ slot_count (add_slot k n i f) q) same
              (ap length (fill_same s v k) ∙ length-append (machine.slots_of s k) (v ∷ [])
              ∙ ap (λ (m : ℕ). m + 1) (filled.slots k) ∙ sym (count_same f n i k))
          | inr other ↦ ap length (fill_other s v k l other) ∙ filled.slots l ∙ sym (count_other f n i k l other)
        ]

    -- what is in the slots of the kind
    in_kind : Filled g f s → (j m : ℕ) (e : CoreDef) (w : CoreValue Mark)
        → number_at (slot_numbers (add_slot k n i f) k) j ≡ Some m → slice_get (slots_of g k) j ≡ Some e → Means g e w
        → slice_get (machine.slots_of (fill s k v) k) m ≡ Some w
    in_kind filled j m e w numbered here is =
        subst (λ (l : List (CoreValue Mark)). slice_get l m ≡ Some w) (sym (fill_same s v k))
        (elim (number_back (slot_numbers f k) n (slot_count f k) within j m
        (subst (λ (ns : List (Option ℕ)). number_at ns j ≡ Some m) (numbers_same f n i k) numbered))
        as (λ _. slice_get (machine.slots_of s k ++ v ∷ []) m ≡ Some w) [
          | inl new ↦
              let same : d ≡ e =
              same_Some d e (sym at ∙ ap (slice_get (slots_of g k)) new.0 ∙ here) in
              let value : v ≡ w = means_unique g means (subst (λ (x : CoreDef). Means g x w) (sym same) is) in
              subst (λ (x : ℕ). slice_get (machine.slots_of s k ++ v ∷ []) x ≡ Some w) (filled.slots k ∙ new.1)
              (slice_get-append_seam (machine.slots_of s k) v [] ∙ ap Some value)
          | inr old ↦ slice_get-append (machine.slots_of s k) (v ∷ []) m w (filled.slot k j m e w old here is)
        ])

    slot_filled : Filled g f s → (l : plan.SlotKind) (j m : ℕ) (e : CoreDef) (w : CoreValue Mark)
        → number_at (slot_numbers (add_slot k n i f) l) j ≡ Some m → slice_get (slots_of g l) j ≡ Some e → Means g e w
        → slice_get (machine.slots_of (fill s k v) l) m ≡ Some w
    slot_filled filled l j m e w numbered here is =
        elim (kinds k l) as (λ _. slice_get (machine.slots_of (fill s k v) l) m ≡ Some w) [
          | inl same ↦ subst (λ (q : plan.SlotKind). slice_get (machine.slots_of (fill s k v) q) m ≡ Some w) same
              (in_kind filled j m e w
              (subst (λ (q : plan.SlotKind). number_at (slot_numbers (add_slot k n i f) q) j ≡ Some m) (sym same)
              numbered)
              (subst (λ (q : plan.SlotKind). slice_get (slots_of g q) j ≡ Some e) (sym same) here) is)
          | inr other ↦ subst (λ (x : List (CoreValue Mark)). slice_get x m ≡ Some w) (sym (fill_other s v k l other))
              (filled.slot l j m e w (subst (λ (ns : List (Option ℕ)). number_at ns j ≡ Some m)
              (numbers_other f n i k l other) numbered) here is)
        ]

    -- the slots of the run are as many as were counted, with the values of their entries
    pub fill_filled : Filled g f s → Filled g (add_slot k n i f) (fill s k v)
    fill_filled filled = record {
      lowerings = ap length (fill_lowerings s v k) ∙ filled.lowerings ∙ sym else_kept.lowerings;
      slots = slots_filled filled;
      resources = ap length (fill_resources s v k) ∙ filled.resources;
      lowering = λ t m r o x a ty numbered here is.
          ap (λ (l : List ℕ). slice_get l m) (fill_lowerings s v k)
          ∙ filled.lowering t m r o x a ty (ap (λ (l : List (Option ℕ)). number_at l t) (sym else_kept.lowered)
          ∙ numbered) here is;
      slot = slot_filled filled;
    }

    -- what was reached goes on by the slot
    pub slot_goes : (ms : List ModuleTranslation) (trace : List (Entry Mark))
        → initializer_view i ≡ plan.extract k (slot_count f k) (def_view (def_in g f d))
        → ((p : plan.PlanView Mark) → Extends g ms f p → resolve p s (def_view (def_in g f d)) ≡ Some v)
        → ((p : plan.PlanView Mark) → Extends g ms f p → machine.fits k (def_view (def_in g f d)) ≡ true)
        → Reached g ms f s trace → Grown g ms (add_slot k n i f) s trace
    slot_goes ms trace view resolves fits r =
        grown_step g ms f (add_slot k n i f) s (fill s k v) i trace refl (fill_gains s v k) (slot_back ms)
        (λ p e. ap (step p all_linked s) view
        ∙ fill_step p s k (slot_count f k) (def_view (def_in g f d)) v (resolves p (slot_back ms p e))
        (fits p (slot_back ms p e)) (sym (r.filled.slots k)))
        (placed_stays g ms f (add_slot k n i f) s (fill s k v) else_kept.instances refl else_kept.adapter_modules
        (fill_instances s v k) r.placed)
        (fill_filled r.filled)
        (resolves_stay g ms f (add_slot k n i f) s (fill s k v) (fill_gains s v k) else_kept.options
        else_kept.trampolines (slot_back ms) r.resolves)
        r
