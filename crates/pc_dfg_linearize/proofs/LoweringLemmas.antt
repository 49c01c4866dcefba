-- A host item that is lowered.
use Rattle.std.proofs.Common.{◌≡◌, ◌<◌, ◌≤◌, ◌+◌, ℕ, List, [], ◌∷◌, ◌++◌, length, Option, None, Some, refl, sym}
use Rattle.std.proofs.Common.{ap, subst, ◌∙◌, inl, inr, arith}
use Rattle.std.specs.Prelude.{slice_get}
use Rattle.std.proofs.lemmas.Bool.{eq-eqb}
use Rattle.std.proofs.lemmas.List.{append-nil, length-append, length-set}
use Rattle.std.proofs.lemmas.List.Elements.{All-nil}
use Rattle.std.proofs.lemmas.Option.{same_Some, slice_get_within}
use Rattle.pc_entity.proofs.Growing.{slice_get-append, slice_get-append_seam}
use Rattle.pc_entity.proofs.LookupLemmas.{found_at}
use Rattle.pc_numbers.specs.declared.module_entity.ModuleInternedTypeIndex.{ModuleInternedTypeIndex}
use Rattle.pc_numbers.specs.declared.runtime.RuntimeImportIndex.{RuntimeImportIndex}
use Rattle.pc_numbers.specs.declared.runtime.TrampolineIndex.{TrampolineIndex}
use Rattle.pc_dfg.specs.declared.ids.CallbackId.{CallbackId}
use Rattle.pc_dfg.specs.declared.ids.MemoryId.{MemoryId}
use Rattle.pc_dfg.specs.declared.ids.OptionsId.{OptionsId}
use Rattle.pc_dfg.specs.declared.ids.PostReturnId.{PostReturnId}
use Rattle.pc_dfg.specs.declared.ids.TableId.{TableId}
use Rattle.pc_types.specs.declared.type_index.TypeFuncIndex.{TypeFuncIndex}
use Rattle.pc_types.specs.declared.types.TypeDef.TheVariants as type
use Rattle.pc_types.specs.TypeTree.{Path}
use Rattle.pc_spec_plan.specs.Machine.{State, RuntimeInstance, step}
use Rattle.pc_spec_plan.specs.PlanView as plan
use Rattle.pc_trampoline.specs.declared.part.Mark.{Mark}
use Rattle.pc_trampoline.specs.declared.part.Mark.TheVariants as mark
use Rattle.pc_trampoline.specs.declared.trampoline.Trampoline.{Trampoline}
use Rattle.pc_trampoline.specs.declared.trampoline.Trampoline.TheVariants as trampoline
use Rattle.pc_trampoline.specs.Parts.{parts_of}
use Rattle.pc_info.specs.declared.initializer.GlobalInitializer.TheVariants as init
use Rattle.pc_info.specs.declared.module.ModuleTranslation.{ModuleTranslation}
use Rattle.pc_dfg.specs.declared.dfg.ComponentDfg.{ComponentDfg}
use Rattle.pc_dfg.specs.Held.{AreHeld, HeldTrampoline, HoldsEntry}
use Rattle.pc_dfg.specs.Lists as list_name
use Rattle.pc_dfg.specs.Numbers.{SignedTrampoline, trampoline_entry}
use Rattle.pc_dfg_linearize.specs.declared.id.Id.TheVariants as id
use Rattle.pc_dfg_linearize.specs.declared.state.Finish.{Finish}
use Rattle.pc_dfg_linearize.specs.Added.{add_lowering}
use Rattle.pc_dfg_linearize.specs.Closed.{Closed, Fits}
use Rattle.pc_dfg_linearize.specs.Once.{Notes}
use Rattle.pc_dfg_linearize.specs.Parts.{HasNumber, number_of, parts}
use Rattle.pc_dfg_linearize.specs.Plan.{Extends, counted_slots, slot_count}
use Rattle.pc_dfg_linearize.specs.Ready.{CanClose, IsLowering, LowersImport}
use Rattle.pc_dfg_linearize.specs.Reached.{all_linked, Filled, Gains}
use Rattle.pc_dfg_linearize.proofs.CountLemmas.{CountsOne}
use Rattle.pc_dfg_linearize.proofs.SoundLemmas.{none_more}
use Rattle.pc_dfg_linearize.proofs.GrownLemmas.{continues_step, grown_step, placed_stays, resolves_stay}
use Rattle.pc_dfg_linearize.proofs.FillLemmas.{lowering_fills}
use Rattle.pc_dfg_linearize.proofs.NoteLemmas.{lowering_noted, notes_here, notes_numbered, notes_only}
use Rattle.pc_dfg_linearize.proofs.NumberLemmas.{number_back}
use Rattle.pc_dfg_linearize.proofs.NumberedLemmas.{path_means}
use Rattle.pc_dfg_linearize.proofs.OneStepLemmas.{lowering_steps}
use Rattle.pc_dfg_linearize.proofs.RepresentedLemmas.{notes_stay, represents_still}
use Rattle.pc_dfg_linearize.proofs.StepNameLemmas.{names_front, none_named}

-- the host item of a lowering
abbrev lowered_by : plan.TrampolineEntry Mark → ℕ
lowered_by (plan.lowers r s ty o) = r
lowered_by e = 0

module _ (g : ComponentDfg) (f : Finish) (t : TrampolineIndex) (x : SignedTrampoline) (r : RuntimeImportIndex)
    (ty : TypeFuncIndex) (o : OptionsId) (at : slice_get g.trampolines t.0 ≡ Some x)
    (is : x.1 ≡ trampoline.LowerImport r ty o) (fits : Fits g f) where
  -- a plan with the lowering
  abbrev with_lowering : Finish
  with_lowering = add_lowering t.0 r f

  -- what the trampoline is
  entry_is : trampoline_entry x ≡ plan.lowers r.0 (mark.Signature x.0) (mark.Type_ (type.ComponentFunc ty)) o.0
  unfolding parts_of
  entry_is = ap (λ y. trampoline_entry (x.0, y)) is

  pub lowering_within : t.0 < length f.numbers.lowerings
  lowering_within = subst (λ (m : ℕ). t.0 < m) (sym fits.lowerings) (slice_get_within g.trampolines t.0 x at)

  noted : Notes f with_lowering (id.Lowering t) f.counts.lowerings
  noted = lowering_noted f t.0 r lowering_within

  same_count : (k : plan.SlotKind) → slot_count with_lowering k ≡ slot_count f k
  same_count plan.memory = refl
  same_count k = refl

  lowering_back : (ms : List ModuleTranslation) (p : plan.PlanView Mark) → Extends g ms with_lowering p
      → Extends g ms f p
  lowering_back ms p e = record {
    has = e.has;
    import_types = e.import_types;
    imports = e.imports;
    imported = e.imported;
    options = e.options;
    trampolines = e.trampolines;
    intrinsics = e.intrinsics;
    instances = e.instances;
    lowerings = omega (arith, e.lowerings);
    slots = λ k. subst (λ (m : ℕ). m ≤ counted_slots p k) (same_count k) (e.slots k);
    resources = e.resources;
  }

  lowering_counts : CountsOne f with_lowering (init.LowerImport (record { 0 = f.counts.lowerings }) r)
  lowering_counts = record {
    steps = refl;
    instances = omega arith;
    lowerings = refl;
    slots = λ k. none _ _ (same_count k);
    resources = omega arith;
  }
    where
      none : (a b : ℕ) → b ≡ a → b ≡ a + 0
      none a b h = omega (arith, h)

  module _ (s : State Mark) where
    -- a state with the lowering
    abbrev lowered : State Mark
    lowered = record s { lowerings = s.lowerings ++ r.0 ∷ [] }

    lowering_gains : Gains s lowered
    lowering_gains = record {
      more = [];
      instances = sym (append-nil s.instances);
      unowned = All-nil (λ (m : RuntimeInstance Mark). m.component_instance ≡ None);
      lowerings = λ n y here. slice_get-append s.lowerings (r.0 ∷ []) n y here;
      slots = λ k n y here. here;
      resources = refl;
    }

    lowering_filled : Filled g f s → Filled g with_lowering lowered
    lowering_filled filled = record {
      lowerings = length-append s.lowerings (r.0 ∷ []) ∙ ap (λ (m : ℕ). m + 1) filled.lowerings;
      slots = λ k. filled.slots k ∙ sym (same_count k);
      resources = filled.resources;
      lowering = λ j m q p y a b numbered here entry.
          elim (number_back f.numbers.lowerings t.0 f.counts.lowerings lowering_within j m numbered)
          as (λ _. slice_get (s.lowerings ++ r.0 ∷ []) m ≡ Some q) [
            | inl new ↦
                let same : x ≡ y = same_Some x y (sym at ∙ ap (slice_get g.trampolines) new.0 ∙ here) in
                let item : r.0 ≡ q =
                ap lowered_by (sym entry_is ∙ ap (λ (z : SignedTrampoline). trampoline_entry z) same ∙ entry) in
                subst (λ (n : ℕ). slice_get (s.lowerings ++ r.0 ∷ []) n ≡ Some q) (filled.lowerings ∙ new.1)
                (slice_get-append_seam s.lowerings r.0 [] ∙ ap Some item)
            | inr old ↦ slice_get-append s.lowerings (r.0 ∷ []) m q (filled.lowering j m q p y a b old here entry)
          ];
      slot = filled.slot;
    }

    -- the step goes, since the host item is there
    lowering_step : (ms : List ModuleTranslation) (p : plan.PlanView Mark) → AreHeld g → Extends g ms f p → Filled g f s
        → step p all_linked s (plan.lower_import f.counts.lowerings r.0) ≡ Some lowered
    unfolding HoldsEntry HeldTrampoline
    lowering_step ms p held e filled =
        let below : r.0 < length g.imports =
        (subst (HeldTrampoline g) entry_is (held list_name.trampolines t.0 x at)).0 in
        let item = found_at g.imports r.0 below in
        let path : Path = record { import = item.0.0.0; names = item.0.1 } in
        rw (
          path_means g ms f p r.0 path held e item.1,
          eq-eqb f.counts.lowerings (length s.lowerings)
              (sym filled.lowerings),
        )
        refl

  -- a lowering gets its number
  pub closed_lowering : AreHeld g → number_of f (id.Lowering t) ≡ None → Closed g f with_lowering (id.Lowering t)
  unfolding number_of parts
  closed_lowering held fresh = record {
    continues = continues_step g f with_lowering (init.LowerImport (record { 0 = f.counts.lowerings }) r)
        lowering_counts
        refl (notes_numbered f with_lowering (id.Lowering t) f.counts.lowerings noted)
        (notes_stay f with_lowering (id.Lowering t) f.counts.lowerings noted fresh)
        (record {
          memories = fits.memories;
          tables = fits.tables;
          reallocs = fits.reallocs;
          callbacks = fits.callbacks;
          post_returns = fits.post_returns;
          options = fits.options;
          lowerings = length-set f.numbers.lowerings t.0 (Some f.counts.lowerings) ∙ fits.lowerings;
          trampolines = fits.trampolines;
          adapter_modules = fits.adapter_modules;
          intrinsics = fits.intrinsics;
          signatures = fits.signatures;
        }) refl refl (λ fills. lowering_fills f fills t.0 r lowering_within fresh)
        (λ is. represents_still g f with_lowering
        (notes_stay f with_lowering (id.Lowering t) f.counts.lowerings noted fresh) is
        (id.Lowering t) f.counts.lowerings noted (All-nil (HasNumber f)) refl refl refl refl refl
        is.intrinsics (names_front f.steps (init.LowerImport (record { 0 = f.counts.lowerings }) r ∷ []))
        (none_named f with_lowering.steps))
        (λ c h h' is. lowering_steps g f c h is t.0 r
        (notes_stay f with_lowering (id.Lowering t) f.counts.lowerings noted fresh) h')
        (none_more (length f.options)) (none_more (length f.trampolines));
    here = notes_here f with_lowering (id.Lowering t) f.counts.lowerings noted;
    only = notes_only f with_lowering (id.Lowering t) f.counts.lowerings noted g;
    goes = λ ms wired valued s trace reached.
        grown_step g ms f with_lowering s (lowered s) (init.LowerImport (record { 0 = f.counts.lowerings }) r) trace
        refl
        (lowering_gains s) (lowering_back ms)
        (λ p e. lowering_step s ms p held (lowering_back ms p e) reached.filled)
        (placed_stays g ms f with_lowering s (lowered s) refl refl refl refl reached.placed)
        (lowering_filled s reached.filled)
        (resolves_stay g ms f with_lowering s (lowered s) (lowering_gains s) refl refl (lowering_back ms)
        reached.resolves)
        reached;
  }

-- a trampoline that is a lowering
lowers_there : (o : Option SignedTrampoline) → LowersImport o
    → (x : SignedTrampoline) × (o ≡ Some x) × IsLowering (trampoline_entry x)
lowers_there None h = absurd h
lowers_there (Some x) h = (x, refl, h)

-- where it can be closed, it is there
pub lowering_can : (g : ComponentDfg) (made : ℕ) (t : TrampolineIndex) → CanClose g made (id.Lowering t)
    → t.0 < length g.trampolines
unfolding CanClose
lowering_can g made t can =
    let x = lowers_there (slice_get g.trampolines t.0) can in
    slice_get_within g.trampolines t.0 x.0 x.1

-- and lowers a host item
lowers_only : (s : ModuleInternedTypeIndex) (x : Trampoline RuntimeImportIndex OptionsId MemoryId TableId CallbackId
    PostReturnId) → IsLowering (trampoline_entry (s, x))
    → (r : RuntimeImportIndex) × (ty : TypeFuncIndex) × (o : OptionsId) × (x ≡ trampoline.LowerImport r ty o)
unfolding parts_of
lowers_only s (trampoline.LowerImport r ty o) h = (r, ty, o, refl)
lowers_only s x h = absurd h

pub lowering_is : (g : ComponentDfg) (made : ℕ) (t : TrampolineIndex) (x : SignedTrampoline)
    → CanClose g made (id.Lowering t) → slice_get g.trampolines t.0 ≡ Some x
    → (r : RuntimeImportIndex) × (ty : TypeFuncIndex) × (o : OptionsId) × (x.1 ≡ trampoline.LowerImport r ty o)
unfolding CanClose
lowering_is g made t x can at =
    let y = lowers_there (slice_get g.trampolines t.0) can in
    lowers_only x.0 x.1 (subst (λ (z : SignedTrampoline). IsLowering (trampoline_entry z))
    (same_Some y.0 x (sym y.1 ∙ at)) y.2)
