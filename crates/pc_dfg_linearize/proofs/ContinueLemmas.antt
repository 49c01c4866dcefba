-- What is made further, and then further again, is made further.
use Rattle.std.proofs.Common.{◌≡◌, ◌++◌, [], List, None, refl, sym, ap, ◌∙◌, false}
use Rattle.std.proofs.lemmas.List.{append-nil, append_assoc}
use Rattle.std.proofs.lemmas.List.Elements.{All-append, All-nil}
use Rattle.pc_spec_plan.specs.Machine.{RuntimeInstance, State}
use Rattle.pc_trampoline.specs.declared.part.Mark.{Mark}
use Rattle.pc_info.specs.declared.initializer.GlobalInitializer.{GlobalInitializer}
use Rattle.pc_info.specs.declared.module.ModuleTranslation.{ModuleTranslation}
use Rattle.pc_info.specs.Definitions.{initializer_view}
use Rattle.pc_dfg.specs.declared.dfg.ComponentDfg.{ComponentDfg}
use Rattle.pc_dfg_linearize.specs.declared.state.Finish.{Finish}
use Rattle.pc_dfg_linearize.specs.Closed.{Continues, Fits}
use Rattle.pc_dfg_linearize.specs.Reached.{Gains, GoesOn}
use Rattle.pc_info.specs.Standing.{is_side_effect}
use Rattle.pc_dfg_linearize.proofs.SoundLemmas.{continues_sound}

-- an instance without a component instance
abbrev Unowned : RuntimeInstance Mark → Type 0
Unowned m = m.component_instance ≡ None

-- a step that is no side effect
abbrev Quiet : GlobalInitializer → Type 0
Quiet i = is_side_effect (initializer_view i) ≡ false

-- a state has gained nothing over itself
pub gains_refl : (s : State Mark) → Gains s s
gains_refl s = record {
  more = [];
  instances = sym (append-nil s.instances);
  unowned = All-nil Unowned;
  lowerings = λ n x h. h;
  slots = λ k n x h. h;
  resources = refl;
}

pub gains_then : (s t u : State Mark) → Gains s t → Gains t u → Gains s u
gains_then s t u a b = record {
  more = a.more ++ b.more;
  instances = b.instances ∙ ap (λ ms. ms ++ b.more) a.instances ∙ append_assoc s.instances a.more b.more;
  unowned = All-append Unowned a.more b.more a.unowned b.unowned;
  lowerings = λ n x h. b.lowerings n x (a.lowerings n x h);
  slots = λ k n x h. b.slots k n x (a.slots k n x h);
  resources = b.resources ∙ a.resources;
}

module _ (g : ComponentDfg) where
  -- no step was added
  pub continues_refl : (f : Finish) → Fits g f → Continues g f f
  continues_refl f fits = record {
    counts = λ c. c;
    numbered = λ y h. h;
    stay = λ y n at. at;
    fits = fits;
    instances = refl;
    resources = refl;
    steps = record { more = []; is = sym (append-nil f.steps); quiet = All-nil Quiet };
    fills = λ h. h;
    represents = λ h. h;
    are_steps = λ c h is. is;
    passed = λ sound passed. passed;
  }

  pub continues_then : (a b c : Finish) → Continues g a b → Continues g b c → Continues g a c
  continues_then a b c first second = record {
    counts = λ h. second.counts (first.counts h);
    numbered = λ y h. second.numbered y (first.numbered y h);
    stay = λ y n at. second.stay y n (first.stay y n at);
    fits = second.fits;
    instances = second.instances ∙ first.instances;
    resources = second.resources ∙ first.resources;
    steps = record {
      more = first.steps.more ++ second.steps.more;
      is = second.steps.is ∙ ap (λ is. is ++ second.steps.more) first.steps.is
          ∙ append_assoc a.steps first.steps.more second.steps.more;
      quiet = All-append Quiet first.steps.more second.steps.more first.steps.quiet second.steps.quiet;
    };
    fills = λ h. second.fills (first.fills h);
    represents = λ h. second.represents (first.represents h);
    are_steps = λ c h is. second.are_steps (first.counts c) (first.fills h) (first.are_steps c h is);
    passed = λ sound passed. second.passed (continues_sound g a b first sound) (first.passed sound passed);
  }

  module _ (ms : List ModuleTranslation) where
    -- the run stays where it was
    pub goes_refl : (f : Finish) → GoesOn g ms f f
    goes_refl f s trace reached = record { state = s; reached = reached; gains = gains_refl s }

    pub goes_then : (a b c : Finish) → GoesOn g ms a b → GoesOn g ms b c → GoesOn g ms a c
    goes_then a b c first second s trace reached =
        let one = first s trace reached in
        let two = second one.state trace one.reached in
        record {
          state = two.state;
          reached = two.reached;
          gains = gains_then s one.state two.state one.gains two.gains;
        }
