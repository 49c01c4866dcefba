-- A trampoline that gets its number: the run stays where it is.
use Rattle.std.proofs.Common.{◌≡◌, ◌<◌, ◌+◌, ℕ, zero, suc, List, [], ◌∷◌, ◌++◌, length, All, Option, None, Some, refl}
use Rattle.std.proofs.Common.{sym, ap, subst, ◌∙◌, inl, inr, arith}
use Rattle.std.specs.Prelude.{slice_get, option_and_then, option_map, unwrap_or}
use Rattle.std.proofs.lemmas.List.{length-append, length-set}
use Rattle.std.proofs.lemmas.Option.{same_Some, slice_get_within}
use Rattle.pc_entity.proofs.Growing.{slice_get-append, slice_get-append_seam}
use Rattle.pc_entity.proofs.LookupLemmas.{found_at}
use Rattle.pc_numbers.specs.declared.module_entity.ModuleInternedTypeIndex.{ModuleInternedTypeIndex}
use Rattle.pc_numbers.specs.declared.runtime.TrampolineIndex.{TrampolineIndex}
use Rattle.pc_spec_plan.specs.CoreValue.{CoreValue}
use Rattle.pc_spec_plan.specs.Machine.{State, resolve, trampoline_value}
use Rattle.pc_spec_plan.specs.PlanView as plan
use Rattle.pc_trampoline.specs.declared.part.Mark.{Mark}
use Rattle.pc_trampoline.specs.Parts.{list_of, parts_of}
use Rattle.pc_trampoline.specs.View.{PlanParts, PlanTrampoline, entry_of, entry_view, plan_numbers}
use Rattle.pc_info.specs.declared.module.ModuleTranslation.{ModuleTranslation}
use Rattle.pc_info.specs.View.{no_signature, trampolines_view}
use Rattle.pc_dfg.specs.declared.core_def.CoreDef.TheVariants as def
use Rattle.pc_dfg.specs.declared.dfg.ComponentDfg.{ComponentDfg}
use Rattle.pc_dfg.specs.Held.{AreHeld}
use Rattle.pc_dfg.specs.Means.{Means, MeansTrampoline, means_trampoline}
use Rattle.pc_dfg.specs.Names.{each_of}
use Rattle.pc_dfg.specs.Numbers.{SignedTrampoline, trampoline_entry}
use Rattle.pc_dfg_linearize.specs.declared.id.Id.TheVariants as id
use Rattle.pc_dfg_linearize.specs.declared.state.Finish.{Finish}
use Rattle.pc_dfg_linearize.specs.Added.{add_trampoline}
use Rattle.pc_dfg_linearize.specs.Closed.{Closed, Fits}
use Rattle.pc_dfg_linearize.specs.Entries.{parts_in}
use Rattle.pc_dfg_linearize.specs.Once.{Notes}
use Rattle.pc_dfg_linearize.specs.Parts.{HasNumber, in_trampoline, number_of, parts, slot_numbers}
use Rattle.pc_dfg_linearize.specs.Plan.{Extends, Kept}
use Rattle.pc_dfg_linearize.specs.Reached.{Filled, Resolves}
use Rattle.pc_dfg_linearize.proofs.GainLemmas.{behind_map}
use Rattle.pc_dfg_linearize.proofs.SoundLemmas.{none_more, one_more}
use Rattle.pc_dfg_linearize.proofs.GrownLemmas.{grown_still, no_steps, passed_still, placed_stays}
use Rattle.pc_dfg_linearize.proofs.FillLemmas.{trampoline_fills}
use Rattle.pc_dfg_linearize.proofs.NoteLemmas.{notes_here, notes_numbered, notes_only, trampoline_noted}
use Rattle.pc_dfg_linearize.proofs.NumberLemmas.{number_back}
use Rattle.pc_dfg_linearize.proofs.NumberedLemmas.{trampoline_means}
use Rattle.pc_dfg_linearize.proofs.RepresentedLemmas.{notes_stay, represents_trampoline}
use Rattle.pc_dfg_linearize.proofs.StepsLemmas.{steps_still}

-- a trampoline of a plan under the core signature of its place
abbrev signed_at : List ModuleInternedTypeIndex → ℕ → PlanTrampoline → plan.TrampolineEntry Mark
signed_at signatures n t = entry_view (unwrap_or (slice_get signatures n) no_signature) t

-- the entries of trampolines are those of each
view_at : (signatures : List ModuleInternedTypeIndex) (ts : List PlanTrampoline) (n i : ℕ)
    → slice_get (trampolines_view n signatures ts) i ≡ option_map (signed_at signatures (n + i)) (slice_get ts i)
view_at signatures [] n i = refl
view_at signatures (t ∷ ts) n zero =
    let same : n ≡ n + 0 = omega arith in
    ap (λ (m : ℕ). Some (signed_at signatures m t)) same
view_at signatures (t ∷ ts) n (suc i) =
    let same : n + 1 + i ≡ n + suc i = omega arith in
    view_at signatures ts (n + 1) i ∙ ap (λ (m : ℕ). option_map (signed_at signatures m) (slice_get ts i)) same

-- the first is under number 0
pub first_view : (signatures : List ModuleInternedTypeIndex) (ts : List PlanTrampoline) (i : ℕ)
    → slice_get (trampolines_view 0 signatures ts) i ≡ option_map (signed_at signatures i) (slice_get ts i)
first_view signatures ts i =
    let same : 0 + i ≡ i = omega arith in
    view_at signatures ts 0 i ∙ ap (λ (m : ℕ). option_map (signed_at signatures m) (slice_get ts i)) same

-- one trampoline more leaves the others
kept_trampolines : (signatures : List ModuleInternedTypeIndex) (ts : List PlanTrampoline) (s : ModuleInternedTypeIndex)
    (t : PlanTrampoline) (es : List (plan.TrampolineEntry Mark)) → length signatures ≡ length ts
    → Kept (trampolines_view 0 (signatures ++ s ∷ []) (ts ++ t ∷ [])) es → Kept (trampolines_view 0 signatures ts) es
kept_trampolines signatures ts s t es same kept n e at =
    let b = behind_map (signed_at signatures n) (slice_get ts n) e (sym (first_view signatures ts n) ∙ at) in
    let within : n < length signatures = subst (λ (m : ℕ). n < m) (sym same) (slice_get_within ts n b.0 b.1) in
    let found = found_at signatures n within in
    let longer = slice_get-append signatures (s ∷ []) n found.0 found.1 in
    kept n e
    (first_view (signatures ++ s ∷ []) (ts ++ t ∷ []) n
    ∙ ap (option_map (signed_at (signatures ++ s ∷ []) n)) (slice_get-append ts (t ∷ []) n b.0 b.1)
    ∙ ap (λ (o : Option ModuleInternedTypeIndex). Some (entry_view (unwrap_or o no_signature) b.0))
    (longer ∙ sym found.1) ∙ ap Some b.2)

-- what a trampoline names has its numbers
pub trampoline_named : (g : ComponentDfg) (f : Finish) (t : TrampolineIndex) (x : SignedTrampoline)
    → slice_get g.trampolines t.0 ≡ Some x → All (HasNumber f) (parts g (id.Trampoline t))
    → All (HasNumber f) (in_trampoline t (trampoline_entry x))
unfolding parts
trampoline_named g f t x at all =
    subst (λ (w : Option SignedTrampoline).
    All (HasNumber f) (each_of (λ z. in_trampoline t (trampoline_entry z)) w)) at all

module _ (g : ComponentDfg) (f : Finish) (t : TrampolineIndex) (x : SignedTrampoline) (y : PlanTrampoline)
    (at : slice_get g.trampolines t.0 ≡ Some x) (is : parts_of y ≡ parts_in f t (parts_of x.1)) (fits : Fits g f) where
  -- a plan with the trampoline
  abbrev with_trampoline : Finish
  with_trampoline = add_trampoline t.0 x.0 y f

  pub trampoline_within : t.0 < length f.numbers.trampolines
  trampoline_within = subst (λ (m : ℕ). t.0 < m) (sym fits.trampolines) (slice_get_within g.trampolines t.0 x at)

  noted : Notes f with_trampoline (id.Trampoline t) (length f.trampolines)
  noted = trampoline_noted f t.0 x.0 y trampoline_within

  trampoline_back : (ms : List ModuleTranslation) (p : plan.PlanView Mark) → Extends g ms with_trampoline p
      → Extends g ms f p
  trampoline_back ms p e = record {
    has = e.has;
    import_types = e.import_types;
    imports = e.imports;
    imported = e.imported;
    options = e.options;
    trampolines = kept_trampolines f.signatures f.trampolines x.0 y p.trampolines fits.signatures e.trampolines;
    intrinsics = e.intrinsics;
    instances = e.instances;
    lowerings = e.lowerings;
    slots = e.slots;
    resources = e.resources;
  }

  -- the new trampoline stands where it was put, under its core signature
  trampoline_there : (ms : List ModuleTranslation) (p : plan.PlanView Mark) → Extends g ms with_trampoline p
      → slice_get p.trampolines (length f.trampolines) ≡ Some (entry_view x.0 y)
  trampoline_there ms p e =
      let signature : slice_get (f.signatures ++ x.0 ∷ []) (length f.trampolines) ≡ Some x.0 =
      subst (λ (m : ℕ). slice_get (f.signatures ++ x.0 ∷ []) m ≡ Some x.0) fits.signatures
      (slice_get-append_seam f.signatures x.0 []) in
      e.trampolines (length f.trampolines) (entry_view x.0 y)
      (first_view (f.signatures ++ x.0 ∷ []) (f.trampolines ++ y ∷ []) (length f.trampolines)
      ∙ ap (option_map (signed_at (f.signatures ++ x.0 ∷ []) (length f.trampolines)))
      (slice_get-append_seam f.trampolines y [])
      ∙ ap (λ (o : Option ModuleInternedTypeIndex). Some (entry_view (unwrap_or o no_signature) y)) signature)

  trampoline_behind : (q : TrampolineIndex) (v : CoreValue Mark) → t.0 ≡ q.0 → Means g (def.Trampoline q) v
      → MeansTrampoline g (trampoline_entry x) v
  trampoline_behind q v same (means_trampoline {x = z} here means) =
      subst (λ (w : SignedTrampoline). MeansTrampoline g (trampoline_entry w) v)
      (same_Some z x (sym here ∙ ap (slice_get g.trampolines) (sym same) ∙ at)) means

  trampoline_resolve : (ms : List ModuleTranslation) (s : State Mark) → AreHeld g
      → All (HasNumber f) (in_trampoline t (trampoline_entry x)) → Filled g f s → Resolves g ms f s
      → Resolves g ms with_trampoline s
  trampoline_resolve ms s held all filled r = record {
    options = λ q n v p numbered means e. r.options q n v p numbered means (trampoline_back ms p e);
    trampoline = λ q n v p numbered means e.
        elim (number_back f.numbers.trampolines t.0 (length f.trampolines) trampoline_within q.0 n numbered)
        as (λ _. resolve p s (plan.trampoline n) ≡ Some v) [
          | inl new ↦
              let made = parts_of x.1 in
              let value = trampoline_means filled ms p r (trampoline_back ms p e) t x made.kind made.head made.parts
              x.0 v held at refl (trampoline_behind q v new.0 means) all in
              subst (λ (i : ℕ). resolve p s (plan.trampoline i) ≡ Some v) new.1
              (ap (option_and_then (trampoline_value p s)) (trampoline_there ms p e)
              ∙ subst (λ (ps : PlanParts).
              trampoline_value p s (entry_of plan_numbers x.0 ps.kind ps.head (list_of ps.parts)) ≡ Some v)
              (sym is) value)
          | inr old ↦ r.trampoline q n v p old means (trampoline_back ms p e)
        ];
  }

  same_slots : (k : plan.SlotKind) → slot_numbers with_trampoline k ≡ slot_numbers f k
  same_slots plan.memory = refl
  same_slots k = refl

  -- a trampoline gets its number
  pub closed_trampoline : AreHeld g → All (HasNumber f) (parts g (id.Trampoline t))
      → number_of f (id.Trampoline t) ≡ None → Closed g f with_trampoline (id.Trampoline t)
  unfolding number_of parts
  closed_trampoline held all fresh = record {
    continues = record {
      counts = λ c.
          record { instances = c.instances; lowerings = c.lowerings; slots = c.slots; resources = c.resources };
      numbered = notes_numbered f with_trampoline (id.Trampoline t) (length f.trampolines) noted;
      stay = notes_stay f with_trampoline (id.Trampoline t) (length f.trampolines) noted fresh;
      fits = record {
        memories = fits.memories;
        tables = fits.tables;
        reallocs = fits.reallocs;
        callbacks = fits.callbacks;
        post_returns = fits.post_returns;
        options = fits.options;
        lowerings = fits.lowerings;
        trampolines = length-set f.numbers.trampolines t.0 (Some (length f.trampolines)) ∙ fits.trampolines;
        adapter_modules = fits.adapter_modules;
        intrinsics = fits.intrinsics;
        signatures = length-append f.signatures (x.0 ∷ []) ∙ ap (λ (m : ℕ). m + 1) fits.signatures
            ∙ sym (length-append f.trampolines (y ∷ []));
      };
      instances = refl;
      resources = refl;
      steps = no_steps g f with_trampoline refl;
      fills = λ fills. trampoline_fills f fills t.0 x.0 y trampoline_within fresh;
      represents = λ before. represents_trampoline g f before fits t.0 x y at is fresh all;
      are_steps = λ c h before.
          steps_still g f with_trampoline
          (notes_stay f with_trampoline (id.Trampoline t) (length f.trampolines) noted fresh) refl refl same_slots refl
          h (trampoline_fills f h t.0 x.0 y trampoline_within fresh) before;
      passed =
          passed_still g f with_trampoline
          (notes_stay f with_trampoline (id.Trampoline t) (length f.trampolines) noted fresh) refl refl
          (λ c. record { instances = c.instances; lowerings = c.lowerings; slots = c.slots; resources = c.resources })
          (λ fills. trampoline_fills f fills t.0 x.0 y trampoline_within fresh)
          (λ before. represents_trampoline g f before fits t.0 x y at is fresh all)
          (λ h before. steps_still g f with_trampoline
          (notes_stay f with_trampoline (id.Trampoline t) (length f.trampolines) noted fresh) refl refl same_slots refl
          h (trampoline_fills f h t.0 x.0 y trampoline_within fresh) before)
          (none_more (length f.options)) (one_more f.trampolines y);
    };
    here = notes_here f with_trampoline (id.Trampoline t) (length f.trampolines) noted;
    only = notes_only f with_trampoline (id.Trampoline t) (length f.trampolines) noted g;
    goes = λ ms wired valued s trace reached.
        grown_still g ms f with_trampoline s trace refl (trampoline_back ms)
        (placed_stays g ms f with_trampoline s s refl refl refl refl reached.placed)
        (record {
          lowerings = reached.filled.lowerings;
          slots = reached.filled.slots;
          resources = reached.filled.resources;
          lowering = reached.filled.lowering;
          slot = reached.filled.slot;
        })
        (trampoline_resolve ms s held (trampoline_named g f t x at all) reached.filled reached.resolves)
        reached;
  }
