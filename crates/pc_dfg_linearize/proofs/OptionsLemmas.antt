-- An options entry, a trampoline and an intrinsic that get their numbers: the run stays where it is.
use Rattle.std.proofs.Common.{◌≡◌, ◌<◌, ℕ, List, [], ◌∷◌, ◌++◌, length, map, All, Option, None}
use Rattle.std.proofs.Common.{Some, refl, sym, ap, subst, ◌∙◌, inl, inr}
use Rattle.std.specs.Prelude.{slice_get, option_and_then, option_map}
use Rattle.std.proofs.lemmas.List.{length-set, map-append}
use Rattle.std.proofs.lemmas.Option.{same_Some, slice_get_within, slice_get-map}
use Rattle.pc_entity.proofs.Growing.{slice_get-append, slice_get-append_seam}
use Rattle.pc_dfg.specs.declared.ids.OptionsId.{OptionsId}
use Rattle.pc_spec_plan.specs.CoreValue.{Options}
use Rattle.pc_spec_plan.specs.Machine.{State, options_from, options_at}
use Rattle.pc_spec_plan.specs.PlanView as plan
use Rattle.pc_trampoline.specs.declared.part.Mark.{Mark}
use Rattle.pc_info.specs.declared.module.ModuleTranslation.{ModuleTranslation}
use Rattle.pc_info.specs.Options.{options_view}
use Rattle.pc_dfg.specs.declared.dfg.ComponentDfg.{ComponentDfg}
use Rattle.pc_dfg.specs.declared.options.CanonicalOptions.{CanonicalOptions}
use Rattle.pc_dfg.specs.Held.{AreHeld, HoldsEntry}
use Rattle.pc_dfg.specs.Lists as list_name
use Rattle.pc_dfg.specs.Means.{MeansEntry, MeansOptions, means_options}
use Rattle.pc_dfg.specs.Names.{each_of}
use Rattle.pc_dfg.specs.Numbers.{options_entry}
use Rattle.pc_dfg_linearize.specs.declared.id.Id.TheVariants as id
use Rattle.pc_dfg_linearize.specs.declared.state.Finish.{Finish}
use Rattle.pc_dfg_linearize.specs.Added.{add_options}
use Rattle.pc_dfg_linearize.specs.Closed.{Closed, Fits}
use Rattle.pc_dfg_linearize.specs.Entries.{options_in}
use Rattle.pc_dfg_linearize.specs.Once.{Notes}
use Rattle.pc_dfg_linearize.specs.Parts.{HasNumber, in_entry, number_of, parts, slot_numbers}
use Rattle.pc_dfg_linearize.specs.Plan.{Extends, Kept}
use Rattle.pc_dfg_linearize.specs.Reached.{Filled, Resolves}
use Rattle.pc_dfg_linearize.proofs.SoundLemmas.{none_more, one_more}
use Rattle.pc_dfg_linearize.proofs.GrownLemmas.{grown_still, no_steps, passed_still, placed_stays}
use Rattle.pc_dfg_linearize.proofs.FillLemmas.{options_fills}
use Rattle.pc_dfg_linearize.proofs.NoteLemmas.{notes_here, notes_numbered, notes_only, options_noted}
use Rattle.pc_dfg_linearize.proofs.NumberLemmas.{number_back}
use Rattle.pc_dfg_linearize.proofs.NumberedLemmas.{entry_means}
use Rattle.pc_dfg_linearize.proofs.RepresentedLemmas.{notes_stay, represents_options}
use Rattle.pc_dfg_linearize.proofs.StepsLemmas.{steps_still}

-- a list with more keeps what it had
kept_appended : {A : Type 0} (xs ys zs : List A) → Kept (xs ++ ys) zs → Kept xs zs
kept_appended xs ys zs kept n x at = kept n x (slice_get-append xs ys n x at)

-- the same of what a function makes of the items
kept_mapped : {A B : Type 0} (f : A → B) (xs : List A) (x : A) (zs : List B) → Kept (map f (xs ++ x ∷ [])) zs
    → Kept (map f xs) zs
kept_mapped f xs x zs kept =
    kept_appended (map f xs) (map f (x ∷ [])) zs (subst (λ l. Kept l zs) (map-append f xs (x ∷ [])) kept)

module _ (g : ComponentDfg) (f : Finish) (o : OptionsId) (x : CanonicalOptions) (at : slice_get g.options o.0 ≡ Some x)
    (fits : Fits g f) where
  -- a plan with the options
  abbrev with_options : Finish
  with_options = add_options o.0 (options_in f x) f

  pub options_within : o.0 < length f.numbers.options
  options_within = subst (λ (m : ℕ). o.0 < m) (sym fits.options) (slice_get_within g.options o.0 x at)

  -- what it names has its numbers
  pub options_named : All (HasNumber f) (parts g (id.Options o)) → All (HasNumber f) (in_entry (options_entry x))
  unfolding parts
  options_named all =
      subst (λ (w : Option CanonicalOptions). All (HasNumber f) (each_of (λ y. in_entry (options_entry y)) w)) at all

  noted : Notes f with_options (id.Options o) (length f.options)
  noted = options_noted f o.0 (options_in f x) options_within

  options_back : (ms : List ModuleTranslation) (p : plan.PlanView Mark) → Extends g ms with_options p → Extends g ms f p
  options_back ms p e = record {
    has = e.has;
    import_types = e.import_types;
    imports = e.imports;
    imported = e.imported;
    options = kept_mapped options_view f.options (options_in f x) p.options e.options;
    trampolines = e.trampolines;
    intrinsics = e.intrinsics;
    instances = e.instances;
    lowerings = e.lowerings;
    slots = e.slots;
    resources = e.resources;
  }

  -- the new entry stands where it was put
  options_there : (ms : List ModuleTranslation) (p : plan.PlanView Mark) → Extends g ms with_options p
      → slice_get p.options (length f.options) ≡ Some (options_view (options_in f x))
  options_there ms p e =
      e.options (length f.options) (options_view (options_in f x))
      (slice_get-map options_view (f.options ++ options_in f x ∷ []) (length f.options)
      ∙ ap (option_map options_view) (slice_get-append_seam f.options (options_in f x) []))

  options_resolve : (ms : List ModuleTranslation) (s : State Mark) → AreHeld g
      → All (HasNumber f) (in_entry (options_entry x)) → Filled g f s → Resolves g ms f s → Resolves g ms with_options s
  unfolding HoldsEntry
  options_resolve ms s held all filled r = record {
    options = λ q n v p numbered means e.
        elim (number_back f.numbers.options o.0 (length f.options) options_within q n numbered)
        as (λ _. options_at p s n ≡ Some v) [
          | inl new ↦
              let entry = entry_behind q v new.0 means in
              subst (λ (i : ℕ). options_at p s i ≡ Some v) new.1
              (ap (option_and_then (options_from p s.callbacks s.post_returns s.memories s.reallocs))
              (options_there ms p e)
              ∙ entry_means filled ms p x v e.has (held list_name.options o.0 x at).component_instance entry all)
          | inr old ↦ r.options q n v p old means (options_back ms p e)
        ];
    trampoline = λ t n v p numbered means e. r.trampoline t n v p numbered means (options_back ms p e);
  }
    where
      entry_behind : (q : ℕ) (v : Options Mark) → o.0 ≡ q → MeansOptions g q v → MeansEntry g (options_entry x) v
      entry_behind q v same (means_options {x = y} here means) =
          subst (λ (z : CanonicalOptions). MeansEntry g (options_entry z) v)
          (same_Some y x (sym here ∙ ap (slice_get g.options) (sym same) ∙ at)) means

  same_slots : (k : plan.SlotKind) → slot_numbers with_options k ≡ slot_numbers f k
  same_slots plan.memory = refl
  same_slots k = refl

  -- options get their number
  pub closed_options : AreHeld g → All (HasNumber f) (parts g (id.Options o)) → number_of f (id.Options o) ≡ None
      → Closed g f with_options (id.Options o)
  unfolding number_of parts
  closed_options held all fresh = record {
    continues = record {
      counts = λ c.
          record { instances = c.instances; lowerings = c.lowerings; slots = c.slots; resources = c.resources };
      numbered = notes_numbered f with_options (id.Options o) (length f.options) noted;
      stay = notes_stay f with_options (id.Options o) (length f.options) noted fresh;
      fits = record {
        memories = fits.memories;
        tables = fits.tables;
        reallocs = fits.reallocs;
        callbacks = fits.callbacks;
        post_returns = fits.post_returns;
        options = length-set f.numbers.options o.0 (Some (length f.options)) ∙ fits.options;
        lowerings = fits.lowerings;
        trampolines = fits.trampolines;
        adapter_modules = fits.adapter_modules;
        intrinsics = fits.intrinsics;
        signatures = fits.signatures;
      };
      instances = refl;
      resources = refl;
      steps = no_steps g f with_options refl;
      fills = λ fills. options_fills f fills o.0 (options_in f x) options_within fresh;
      represents = λ is. represents_options g f is fits o.0 x at fresh all;
      are_steps = λ c h is.
          steps_still g f with_options (notes_stay f with_options (id.Options o) (length f.options) noted fresh) refl
          refl same_slots refl h (options_fills f h o.0 (options_in f x) options_within fresh) is;
      passed =
          passed_still g f with_options (notes_stay f with_options (id.Options o) (length f.options) noted fresh) refl
          refl
          (λ c. record { instances = c.instances; lowerings = c.lowerings; slots = c.slots; resources = c.resources })
          (λ fills. options_fills f fills o.0 (options_in f x) options_within fresh)
          (λ is. represents_options g f is fits o.0 x at fresh all)
          (λ h is. steps_still g f with_options
          (notes_stay f with_options (id.Options o) (length f.options) noted fresh) refl refl same_slots refl h
          (options_fills f h o.0 (options_in f x) options_within fresh) is)
          (one_more f.options (options_in f x)) (none_more (length f.trampolines));
    };
    here = notes_here f with_options (id.Options o) (length f.options) noted;
    only = notes_only f with_options (id.Options o) (length f.options) noted g;
    goes = λ ms wired valued s trace reached.
        grown_still g ms f with_options s trace refl (options_back ms)
        (placed_stays g ms f with_options s s refl refl refl refl reached.placed)
        (record {
          lowerings = reached.filled.lowerings;
          slots = reached.filled.slots;
          resources = reached.filled.resources;
          lowering = reached.filled.lowering;
          slot = reached.filled.slot;
        })
        (options_resolve ms s held (options_named all) reached.filled reached.resolves)
        reached;
  }
