-- The steps of a plan come in stages, each of which ends with that of a side effect.
use Rattle.std.proofs.Common.{◌≡◌, ◌++◌, ◌⊎◌, inl, inr, ℕ, zero, suc, List, [], ◌∷◌, length, map, All, Option, None}
use Rattle.std.proofs.Common.{Some, option_map, true, false, true≢false, refl, sym, ap, subst, ◌∙◌}
use Rattle.std.specs.Option.{option_to_list}
use Rattle.std.specs.Prelude.{slice_get}
use Rattle.std.specs.List.{Contains, flat_map}
use Rattle.std.proofs.lemmas.List.{append-nil, append_assoc, length-map, map-append}
use Rattle.std.proofs.lemmas.Option.{slice_get-map, slice_get_within}
use Rattle.pc_entity.proofs.Growing.{slice_get-append_seam}
use Rattle.pc_numbers.specs.declared.runtime.RuntimeComponentInstanceIndex.{RuntimeComponentInstanceIndex}
use Rattle.pc_spec_plan.specs.PlanView as plan
use Rattle.pc_info.specs.declared.initializer.GlobalInitializer.{GlobalInitializer}
use Rattle.pc_info.specs.declared.initializer.GlobalInitializer.TheVariants as init
use Rattle.pc_info.specs.declared.initializer.InstantiateModule.{InstantiateModule}
use Rattle.pc_info.specs.declared.initializer.Resource.{Resource as PlanResource}
use Rattle.pc_info.specs.Definitions.{def_view, initializer_view, source_view}
use Rattle.pc_dfg.specs.declared.core_def.CoreDef.{CoreDef}
use Rattle.pc_dfg.specs.declared.dfg.ComponentDfg.{ComponentDfg}
use Rattle.pc_dfg.specs.declared.instance.Instance.{Instance}
use Rattle.pc_dfg.specs.Names.{if_any, in_instance}
use Rattle.pc_dfg_linearize.specs.declared.id.Id.{Id}
use Rattle.pc_dfg_linearize.specs.declared.id.Id.TheVariants as id
use Rattle.pc_dfg_linearize.specs.declared.state.Finish.{Finish}
use Rattle.pc_dfg_linearize.specs.Arguments.{CanNumber, IsNumbered, OnlyFromThese}
use Rattle.pc_dfg_linearize.specs.Closed.{Continues}
use Rattle.pc_dfg_linearize.specs.Sound.{CountsSteps}
use Rattle.pc_dfg_linearize.specs.Converted.{def_in}
use Rattle.pc_dfg_linearize.specs.Made.{instance_in, with_instance, with_resource}
use Rattle.pc_dfg_linearize.specs.Once.{Fills, Stay}
use Rattle.pc_dfg_linearize.specs.Parts.{HasNumber, in_def, number_of}
use Rattle.pc_dfg_linearize.specs.Plan.{steps_view}
use Rattle.pc_info.specs.Slots.{step_definitions}
use Rattle.pc_dfg_linearize.specs.Stages.{AddsEffect, EndsWithEffect, IsStage}
use Rattle.pc_dfg_linearize.specs.Sound.{IsLater, IsSound}
use Rattle.pc_info.specs.Standing.{is_side_effect, named_by}
use Rattle.pc_dfg_linearize.specs.Steps.{IsConvertible, piece_of}
use Rattle.pc_dfg_linearize.proofs.FillLemmas.{mapped_back, pushed_back}
use Rattle.pc_dfg_linearize.proofs.AllLemmas.{all_at}
use Rattle.pc_dfg_linearize.proofs.OneStepLemmas.{instance_definitions, is_effect}
use Rattle.pc_dfg_linearize.proofs.SoundLemmas.{continues_later, later_refl, later_then}
use Rattle.pc_dfg_linearize.proofs.TakeLemmas.{none_in}
use Rattle.pc_dfg_linearize.proofs.ThereLemmas.{defs_name}

pub adds_later : (a b : Finish) (ids : List Id) → Stay a b → AddsEffect a b ids → IsLater a b
adds_later a b ids stay adds = record {
  stay = stay;
  more = adds.quiet ++ adds.last ∷ [];
  steps = adds.steps ∙ append_assoc a.steps adds.quiet (adds.last ∷ []);
  made = adds.made;
  instances = adds.instances;
}

stage_later : (g : ComponentDfg) (f f' : Finish) (i : ℕ) (s : plan.Initializer) → IsLater f f' → IsStage g f i s
    → IsStage g f' i s
stage_later g f f' i s later stage = record {
  before = stage.before;
  after = stage.after;
  ids = stage.ids;
  adds = stage.adds;
  at = stage.at;
  is = stage.is;
  here = stage.here;
  only = stage.only;
  stay = stage.stay;
  ends = stage.ends;
  counts = stage.counts;
  fills = stage.fills;
  sound = stage.sound;
  later = later_then stage.after f f' stage.later later;
}

-- what stands in two lists stands in the first, or behind it in the second
pub either_list : {A : Type 0} (xs ys : List A) (i : ℕ) (x : A) → slice_get (xs ++ ys) i ≡ Some x
    → (slice_get xs i ≡ Some x) ⊎ ((j : ℕ) × (slice_get ys j ≡ Some x))
either_list [] ys i x at = inr (i, at)
either_list (y ∷ xs) ys zero x at = inl at
either_list (y ∷ xs) ys (suc i) x at = either_list xs ys i x at

module _ (g : ComponentDfg) (f new : Finish) (ids : List Id) (adds : AddsEffect f new ids) where
  -- the steps before the side effect's
  abbrev front : List plan.Initializer
  front = steps_view f ++ map initializer_view adds.quiet

  pub view_added : steps_view new ≡ front ++ initializer_view adds.last ∷ []
  view_added =
      ap (map initializer_view) adds.steps ∙ map-append initializer_view (f.steps ++ adds.quiet) (adds.last ∷ [])
      ∙ ap (λ l. l ++ initializer_view adds.last ∷ []) (map-append initializer_view f.steps adds.quiet)

  pub front_length : length front ≡ length (f.steps ++ adds.quiet)
  front_length =
      ap length (sym (map-append initializer_view f.steps adds.quiet))
      ∙ length-map (f.steps ++ adds.quiet) initializer_view

  -- behind the steps there is that of the side effect
  pub ends_next : EndsWithEffect (steps_view new)
  ends_next i s at quiet =
      let last = initializer_view adds.last in
      elim (pushed_back front last s i (ap (λ l. slice_get l i) (sym view_added) ∙ at)) [
        | inl same ↦ absurd (true≢false (sym adds.effect ∙ ap is_side_effect same.1 ∙ quiet))
        | inr before ↦ (
          length front,
          last,
          slice_get_within front i s before,
          ap (λ l. slice_get l (length front)) view_added ∙ slice_get-append_seam front last [],
          adds.effect,
        )
      ]

  -- and each side effect ends a stage
  pub stages_next : ((i : ℕ) (s : plan.Initializer) → slice_get (steps_view f) i ≡ Some s → is_side_effect s ≡ true
      → IsStage g f i s) → EndsWithEffect (steps_view f) → CountsSteps f → Fills f → Stay f new → IsSound g new
      → All (HasNumber new) ids → OnlyFromThese g f new ids → (i : ℕ) (s : plan.Initializer)
      → slice_get (steps_view new) i ≡ Some s → is_side_effect s ≡ true → IsStage g new i s
  stages_next stages ends counts fills stay sound here only i s at effect =
      let last = initializer_view adds.last in
      elim (pushed_back front last s i (ap (λ l. slice_get l i) (sym view_added) ∙ at)) [
        | inl same ↦ record {
          before = f;
          after = new;
          ids = ids;
          adds = adds;
          at = sym same.0 ∙ front_length;
          is = same.1;
          here = here;
          only = only;
          stay = stay;
          ends = ends;
          counts = counts;
          fills = fills;
          sound = sound;
          later = later_refl new;
        }
        | inr within ↦ elim (either_list (steps_view f) (map initializer_view adds.quiet) i s within) [
          | inl old ↦ stage_later g f new i s (adds_later f new ids stay adds) (stages i s old effect)
          | inr new_one ↦
              let q = mapped_back initializer_view (slice_get adds.quiet new_one.0) s
              (sym (slice_get-map initializer_view adds.quiet new_one.0) ∙ new_one.1) in
              let is_quiet = all_at (λ (i : GlobalInitializer). is_side_effect (initializer_view i) ≡ false) adds.quiet
              new_one.0 q.0 adds.are_quiet q.1 in
              absurd (true≢false (sym effect ∙ ap is_side_effect (sym q.2) ∙ is_quiet))
        ]
      ]

-- a plan that was made further has the stages that it had, and no side effect more
pub stages_still : (g : ComponentDfg) (f h : Finish) → Continues g f h
    → ((i : ℕ) (s : plan.Initializer) → slice_get (steps_view f) i ≡ Some s → is_side_effect s ≡ true
    → IsStage g f i s) → (i : ℕ) (s : plan.Initializer) → slice_get (steps_view h) i ≡ Some s
    → is_side_effect s ≡ true → IsStage g h i s
stages_still g f h continues stages i s at effect =
    let more = continues.steps.more in
    let view : steps_view h ≡ steps_view f ++ map initializer_view more =
    ap (map initializer_view) continues.steps.is ∙ map-append initializer_view f.steps more in
    elim (either_list (steps_view f) (map initializer_view more) i s (ap (λ l. slice_get l i) (sym view) ∙ at)) [
      | inl old ↦ stage_later g f h i s (continues_later g f h continues) (stages i s old effect)
      | inr new ↦
          let q = mapped_back initializer_view (slice_get more new.0) s
          (sym (slice_get-map initializer_view more new.0) ∙ new.1) in
          let quiet = all_at (λ (j : GlobalInitializer). is_side_effect (initializer_view j) ≡ false) more new.0 q.0
          continues.steps.quiet q.1 in
          absurd (true≢false (sym effect ∙ ap is_side_effect (sym q.2) ∙ quiet))
    ]

-- what can get its number and has it can be converted
pub all_convertible : (g : ComponentDfg) (f : Finish) (ds : List CoreDef) → All (CanNumber g (length f.instances)) ds
    → All (IsNumbered g f) ds → All (IsConvertible g f) ds
all_convertible g f ds can here j d below =
    record { ready = (can j d below).itself; numbered = here j d below }

module _ (g : ComponentDfg) (old new : Finish) (continues : Continues g old new) where
  -- a step that makes a core instance numbers nothing
  pub instance_number : (m : InstantiateModule) (c : RuntimeComponentInstanceIndex) (y : Id)
      → number_of (with_instance new m c) y ≡ number_of new y
  unfolding number_of
  instance_number m c (id.Memory n) = refl
  instance_number m c y = refl

  pub resource_number : (r : PlanResource) (y : Id) → number_of (with_resource new r) y ≡ number_of new y
  unfolding number_of
  resource_number r (id.Memory n) = refl
  resource_number r y = refl

  -- it is a side effect behind what it needs
  pub adds_instance : (x : Instance) (m : InstantiateModule) (c : RuntimeComponentInstanceIndex)
      → m ≡ instance_in g new x → AddsEffect old (with_instance new m c) (flat_map (in_def g) (in_instance x))
  adds_instance x m c is = record {
    quiet = continues.steps.more;
    last = init.InstantiateModule m (Some c);
    steps = ap (λ l. l ++ init.InstantiateModule m (Some c) ∷ []) continues.steps.is;
    are_quiet = continues.steps.quiet;
    effect = is_effect m c;
    names = λ y n inside at.
        subst (λ z. Contains (flat_map named_by (step_definitions (source_view z (Some c)))) (piece_of y n)) (sym is)
        (subst (λ ds. Contains (flat_map named_by ds) (piece_of y n)) (sym (instance_definitions g new x c))
        (defs_name g new (in_instance x) y n inside (sym (instance_number m c y) ∙ at)));
    made = record { 0 = new.counts.instances } ∷ [];
    instances = ap (λ l. l ++ record { 0 = new.counts.instances } ∷ []) continues.instances;
  }

  destructor_names : (o : Option CoreDef) (y : Id) (n : ℕ) → Contains (flat_map (in_def g) (if_any o)) y
      → number_of new y ≡ Some n
      → Contains (flat_map named_by (option_to_list (option_map def_view (option_map (def_in g new) o)))) (piece_of y n)
  destructor_names None y n inside at = absurd (none_in y inside)
  destructor_names (Some d) y n inside at = defs_name g new (d ∷ []) y n inside at

  -- and so is one that declares a resource
  pub adds_resource : (r : PlanResource) (o : Option CoreDef) → r.dtor ≡ option_map (def_in g new) o
      → AddsEffect old (with_resource new r) (flat_map (in_def g) (if_any o))
  adds_resource r o is = record {
    quiet = continues.steps.more;
    last = init.Resource r;
    steps = ap (λ l. l ++ init.Resource r ∷ []) continues.steps.is;
    are_quiet = continues.steps.quiet;
    effect = refl;
    names = λ y n inside at.
        subst (λ z. Contains (flat_map named_by (option_to_list (option_map def_view z))) (piece_of y n)) (sym is)
        (destructor_names o y n inside (sym (resource_number r y) ∙ at));
    made = [];
    instances = continues.instances ∙ sym (append-nil old.instances);
  }
