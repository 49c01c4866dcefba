-- An intrinsic that gets its core signature: the run stays where it is.
use Rattle.std.proofs.Common.{◌≡◌, ◌<◌, ℕ, List, length, Option, None, Some, refl, sym, ap, subst, ◌∙◌}
use Rattle.std.proofs.Common.{inl, inr, arith}
use Rattle.std.specs.Prelude.{slice_get, slice_set, option_map}
use Rattle.std.proofs.lemmas.Bool.{cases_eq}
use Rattle.std.proofs.lemmas.List.{length-set}
use Rattle.std.proofs.lemmas.Option.{slice_get-map}
use Rattle.pc_entity.proofs.Growing.{slice_get-set_same, slice_get-set_other}
use Rattle.pc_entity.specs.declared.packed_option.PackedOption.{PackedOption}
use Rattle.pc_entity.specs.declared.packed_option.PackedOption.TheVariants as packed
use Rattle.pc_numbers.specs.declared.module_entity.ModuleInternedTypeIndex.{ModuleInternedTypeIndex}
use Rattle.pc_types.specs.declared.intrinsic.UnsafeIntrinsic.{UnsafeIntrinsic}
use Rattle.pc_types.specs.declared.intrinsic.UnsafeIntrinsic.TheVariants as intrinsic
use Rattle.pc_types.specs.IntrinsicType.{intrinsic_place}
use Rattle.pc_spec_plan.specs.PlanView as plan
use Rattle.pc_trampoline.specs.declared.part.Mark.{Mark}
use Rattle.pc_trampoline.specs.declared.part.Mark.TheVariants as mark
use Rattle.pc_info.specs.declared.module.ModuleTranslation.{ModuleTranslation}
use Rattle.pc_info.specs.View.{intrinsic_view}
use Rattle.pc_dfg.specs.declared.core_def.CoreDef.TheVariants as def
use Rattle.pc_dfg.specs.declared.dfg.ComponentDfg.{ComponentDfg}
use Rattle.pc_dfg_linearize.specs.declared.id.Id.TheVariants as id
use Rattle.pc_dfg_linearize.specs.declared.state.Finish.{Finish}
use Rattle.pc_dfg_linearize.specs.Added.{note_intrinsic}
use Rattle.pc_dfg_linearize.specs.Closed.{Closed, Fits}
use Rattle.pc_dfg_linearize.specs.Once.{Notes}
use Rattle.pc_dfg_linearize.specs.Plan.{Extends}
use Rattle.pc_dfg_linearize.specs.Represented.{AreSigned}
use Rattle.pc_dfg_linearize.specs.Wired.{Occurs}
use Rattle.pc_dfg_linearize.proofs.FillLemmas.{intrinsic_fills}
use Rattle.pc_dfg_linearize.proofs.NoteLemmas.{intrinsic_noted, notes_here, notes_numbered, notes_only}
use Rattle.pc_dfg_linearize.proofs.SoundLemmas.{none_more}
use Rattle.pc_dfg_linearize.proofs.GrownLemmas.{grown_still, no_steps, passed_still, placed_stays}
use Rattle.pc_dfg_linearize.proofs.RepresentedLemmas.{notes_stay, represents_still}
use Rattle.pc_dfg_linearize.proofs.StepsLemmas.{steps_still}
use Rattle.pc_dfg_linearize.proofs.StepNameLemmas.{none_named}
use Rattle.pc_dfg_linearize.specs.Parts.{HasNumber, number_of, parts, slot_numbers}
use Rattle.std.proofs.lemmas.List.Elements.{All-nil}

-- an intrinsic is one of the list of them
place_below : (i : UnsafeIntrinsic) → intrinsic_place i < 21
place_below intrinsic.StoreDataAddress = omega arith
place_below i = omega arith

-- the signature that is recorded at a place, if one is
signature_of : ModuleInternedTypeIndex → Option (PackedOption ModuleInternedTypeIndex) → ModuleInternedTypeIndex
signature_of s (Some (packed.Some t)) = t
signature_of s o = s

module _ (g : ComponentDfg) (f : Finish) (i : UnsafeIntrinsic) (signature : ModuleInternedTypeIndex) (fits : Fits g f)
  where
    -- a plan with the signature
    abbrev with_signature : Finish
    with_signature = note_intrinsic i signature f

    place_within : intrinsic_place i < length f.intrinsics
    place_within = subst (λ (n : ℕ). intrinsic_place i < n) (sym fits.intrinsics) (place_below i)

    noted : (n : ℕ) → n ≡ intrinsic_place i
        → slice_get (slice_set f.intrinsics (intrinsic_place i) (packed.Some signature)) n ≡ Some
        (packed.Some signature)
    noted n same =
        ap (slice_get (slice_set f.intrinsics (intrinsic_place i) (packed.Some signature))) same
        ∙ slice_get-set_same f.intrinsics (intrinsic_place i) (packed.Some signature) place_within

    given : Notes f with_signature (id.Intrinsic signature i) (intrinsic_place i)
    given = intrinsic_noted f signature i place_within

    intrinsic_back : (ms : List ModuleTranslation) (p : plan.PlanView Mark) → Extends g ms with_signature p
        → Extends g ms f p
    intrinsic_back ms p e = record {
      has = e.has;
      import_types = e.import_types;
      imports = e.imports;
      imported = e.imported;
      options = e.options;
      trampolines = e.trampolines;
      intrinsics = λ n m at.
          elim (cases_eq n (intrinsic_place i))
          as (λ _. (q : Mark) × (slice_get p.intrinsics n ≡ Some (Some q))) [
            | inl same ↦ e.intrinsics n (mark.Signature signature)
                (slice_get-map intrinsic_view with_signature.intrinsics n
                ∙ ap (option_map intrinsic_view) (noted n same))
            | inr other ↦ e.intrinsics n m
                (slice_get-map intrinsic_view with_signature.intrinsics n
                ∙ ap (option_map intrinsic_view)
                (slice_get-set_other f.intrinsics (intrinsic_place i) n (packed.Some signature) other)
                ∙ sym (slice_get-map intrinsic_view f.intrinsics n) ∙ at)
          ];
      instances = e.instances;
      lowerings = e.lowerings;
      slots = e.slots;
      resources = e.resources;
    }

    -- the signature is one under which the intrinsic stands in the graph
    signed : AreSigned g f → Occurs g (def.UnsafeIntrinsic signature i) → AreSigned g with_signature
    unfolding signature_of
    signed are occurs n s at =
        elim (cases_eq n (intrinsic_place i))
        as (λ _. (j : UnsafeIntrinsic) × (intrinsic_place j ≡ n) × Occurs g (def.UnsafeIntrinsic s j)) [
          | inl same ↦
              let one = ap (signature_of signature) (sym (noted n same) ∙ at) in
              (i, sym same, subst (λ t. Occurs g (def.UnsafeIntrinsic t i)) one occurs)
          | inr other ↦ are n s
              (sym (slice_get-set_other f.intrinsics (intrinsic_place i) n (packed.Some signature) other) ∙ at)
        ]

    same_slots : (k : plan.SlotKind) → slot_numbers with_signature k ≡ slot_numbers f k
    same_slots plan.memory = refl
    same_slots k = refl

    -- an intrinsic gets its signature
    pub closed_intrinsic : number_of f (id.Intrinsic signature i) ≡ None → Occurs g (def.UnsafeIntrinsic signature i)
        → Closed g f with_signature (id.Intrinsic signature i)
    unfolding parts
    closed_intrinsic fresh occurs = record {
      continues = record {
        counts = λ c.
            record { instances = c.instances; lowerings = c.lowerings; slots = c.slots; resources = c.resources };
        numbered = notes_numbered f with_signature (id.Intrinsic signature i) (intrinsic_place i) given;
        stay = notes_stay f with_signature (id.Intrinsic signature i) (intrinsic_place i) given fresh;
        fits = record {
          memories = fits.memories;
          tables = fits.tables;
          reallocs = fits.reallocs;
          callbacks = fits.callbacks;
          post_returns = fits.post_returns;
          options = fits.options;
          lowerings = fits.lowerings;
          trampolines = fits.trampolines;
          adapter_modules = fits.adapter_modules;
          intrinsics = length-set f.intrinsics (intrinsic_place i) (packed.Some signature) ∙ fits.intrinsics;
          signatures = fits.signatures;
        };
        instances = refl;
        resources = refl;
        steps = no_steps g f with_signature refl;
        fills = λ fills. intrinsic_fills f fills signature i;
        represents = λ is.
            represents_still g f with_signature
            (notes_stay f with_signature (id.Intrinsic signature i) (intrinsic_place i) given fresh) is
            (id.Intrinsic signature i) (intrinsic_place i) given (All-nil (HasNumber f)) refl refl refl refl refl
            (signed is.intrinsics occurs) (λ n named. named) (none_named f f.steps);
        are_steps = λ c h is.
            steps_still g f with_signature
            (notes_stay f with_signature (id.Intrinsic signature i) (intrinsic_place i) given fresh) refl refl
            same_slots refl h (intrinsic_fills f h signature i) is;
        passed =
            passed_still g f with_signature
            (notes_stay f with_signature (id.Intrinsic signature i) (intrinsic_place i) given fresh) refl refl
            (λ c.
            record { instances = c.instances; lowerings = c.lowerings; slots = c.slots; resources = c.resources })
            (λ fills. intrinsic_fills f fills signature i)
            (λ is. represents_still g f with_signature
            (notes_stay f with_signature (id.Intrinsic signature i) (intrinsic_place i) given fresh) is
            (id.Intrinsic signature i) (intrinsic_place i) given (All-nil (HasNumber f)) refl refl refl refl refl
            (signed is.intrinsics occurs) (λ n named. named) (none_named f f.steps))
            (λ h is. steps_still g f with_signature
            (notes_stay f with_signature (id.Intrinsic signature i) (intrinsic_place i) given fresh) refl refl
            same_slots refl h (intrinsic_fills f h signature i) is)
            (none_more (length f.options)) (none_more (length f.trampolines));
      };
      here = notes_here f with_signature (id.Intrinsic signature i) (intrinsic_place i) given;
      only = notes_only f with_signature (id.Intrinsic signature i) (intrinsic_place i) given g;
      goes = λ ms wired valued s trace reached.
          grown_still g ms f with_signature s trace refl (intrinsic_back ms)
          (placed_stays g ms f with_signature s s refl refl refl refl reached.placed)
          (record {
            lowerings = reached.filled.lowerings;
            slots = reached.filled.slots;
            resources = reached.filled.resources;
            lowering = reached.filled.lowering;
            slot = reached.filled.slot;
          })
          (record {
            options = λ q n v p numbered means e.
                reached.resolves.options q n v p numbered means (intrinsic_back ms p e);
            trampoline = λ q n v p numbered means e.
                reached.resolves.trampoline q n v p numbered means (intrinsic_back ms p e);
          })
          reached;
    }
