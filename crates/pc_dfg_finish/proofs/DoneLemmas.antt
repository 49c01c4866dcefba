-- Side effects that are done one after another.
use Rattle.std.proofs.Common.{◌≡◌, inl, inr, All, Contains, ◌≤◌, ◌+◌, ◌++◌, ℕ, List, [], ◌∷◌, length, map, take, drop}
use Rattle.std.proofs.Common.{Option, None, Some, refl, sym, ap, subst, ◌∙◌, arith}
use Rattle.std.specs.Prelude.{slice_get}
use Rattle.std.specs.List.{AllZip, cons_option, filter_map}
use Rattle.std.proofs.lemmas.List.{append-nil, length-append, length-map, length-take-le, map-append, take-append-drop}
use Rattle.std.proofs.lemmas.Grind.{flat_map-append}
use Rattle.std.proofs.lemmas.List.Concat.{flat_map-cons}
use Rattle.std.proofs.lemmas.List.Elements.{All-append, All-weaker, Contains-append_cases, Contains-append_left}
use Rattle.std.proofs.lemmas.List.Elements.{Contains-append_right, filter_map-append}
use Rattle.pc_entity.proofs.Growing.{take-next}
use Rattle.pc_entity.proofs.LookupLemmas.{found_at}
use Rattle.pc_numbers.specs.declared.runtime.RuntimeComponentInstanceIndex.{RuntimeComponentInstanceIndex}
use Rattle.pc_spec_plan.specs.Log.{Entry}
use Rattle.pc_trampoline.specs.declared.part.Mark.{Mark}
use Rattle.pc_info.specs.declared.module.ModuleTranslation.{ModuleTranslation}
use Rattle.pc_dfg.specs.declared.dfg.ComponentDfg.{ComponentDfg}
use Rattle.pc_dfg.specs.declared.instance.Resource.{Resource}
use Rattle.pc_dfg.specs.declared.instance.SideEffect.{SideEffect}
use Rattle.pc_dfg.specs.declared.instance.SideEffect.TheVariants as effect
use Rattle.pc_dfg.specs.Effects.{MeansEffect}
use Rattle.pc_dfg.specs.Held.{HeldEffect}
use Rattle.pc_dfg.specs.Names.{each_of, if_any}
use Rattle.pc_dfg.specs.Ordered.{IsOrdered, declared_by, made_by}
use Rattle.pc_dfg_linearize.specs.declared.id.Id.{Id}
use Rattle.pc_dfg_linearize.specs.declared.state.Finish.{Finish}
use Rattle.pc_dfg_linearize.specs.Arguments.{IsFrom}
use Rattle.pc_dfg_linearize.specs.Made.{DoneBefore, IsDone, IsNext, Stands, declared_before, ids_in, ids_in_all, owner_of}
use Rattle.pc_dfg_linearize.specs.Once.{IsUsedBy}
use Rattle.pc_dfg_linearize.specs.Parts.{HasNumber}
use Rattle.pc_dfg_linearize.specs.Represented.{AreNamed}
use Rattle.pc_dfg_linearize.specs.Wired.{IsWired}
use Rattle.pc_dfg_linearize.specs.Sound.{IsSound}
use Rattle.pc_dfg_finish.proofs.NextLemmas.{next_held, next_resource}
use Rattle.pc_dfg_linearize.proofs.StepNameLemmas.{named_later}
use Rattle.pc_dfg_finish.proofs.StageLemmas.{ends_next, stages_next}

-- the last of the items that are related to others
pub record LastZip {A B : Type 0} (R : A → B → Type 0) (xs : List A) (x : A) (ys : List B) : Type 0 where
  pub front : List B
  pub last : B
  pub is : front ++ last ∷ [] ≡ ys
  pub those : AllZip R xs front
  pub it : R x last

zip_last : {A B : Type 0} (R : A → B → Type 0) (xs : List A) (x : A) (ys : List B) → AllZip R (xs ++ x ∷ []) ys
    → LastZip R xs x ys
zip_last R [] x [] zip = absurd zip
zip_last R [] x (y ∷ []) zip = record { front = []; last = y; is = refl; those = tt; it = zip.0 }
zip_last R [] x (y ∷ z ∷ zs) zip = absurd zip.1
zip_last R (w ∷ xs) x [] zip = absurd zip
zip_last R (w ∷ xs) x (y ∷ ys) zip =
    let rest = zip_last R xs x ys zip.1 in
    record {
      front = y ∷ rest.front;
      last = rest.last;
      is = ap (λ l. y ∷ l) rest.is;
      those = (zip.0, rest.those);
      it = rest.it;
    }

-- what is made of the items up to the next place
pub made_next : {A B : Type 0} (h : A → Option B) (xs : List A) (i : ℕ) (x : A) → slice_get xs i ≡ Some x
    → length (filter_map h (take (i + 1) xs)) ≡ length (filter_map h (take i xs)) + length (if_any (h x))
made_next {A} {B} h xs i x at =
    let all = ap (λ l. length (filter_map h l)) (take-next xs i x at)
    ∙ ap length (filter_map-append h (take i xs) (x ∷ []))
    ∙ length-append (filter_map h (take i xs)) (filter_map h (x ∷ [])) in
    all ∙ ap (λ n. length (filter_map h (take i xs)) + n) (by (h x))
  where
    by : (o : Option B) → length (cons_option o []) ≡ length (if_any o)
    by None = refl
    by (Some y) = refl

-- and it is no more than is made of all
pub made_at_most : {A B : Type 0} (h : A → Option B) (xs : List A) (i : ℕ)
    → length (filter_map h (take i xs)) ≤ length (filter_map h xs)
made_at_most h xs i =
    let whole = ap (λ l. length (filter_map h l)) (sym (take-append-drop i xs))
    ∙ ap length (filter_map-append h (take i xs) (drop i xs))
    ∙ length-append (filter_map h (take i xs)) (filter_map h (drop i xs)) in
    omega (arith, whole)

-- what the side effects up to the next place depend on
ids_next : (g : ComponentDfg) (i : ℕ) (e : SideEffect) → slice_get g.side_effects i ≡ Some e
    → ids_in_all g (take i g.side_effects) ++ ids_in g e ≡ ids_in_all g (take (i + 1) g.side_effects)
ids_next g i e at =
    sym (ap (ids_in_all g) (take-next g.side_effects i e at)
    ∙ flat_map-append (ids_in g) (take i g.side_effects) (e ∷ [])
    ∙ ap (λ xs. ids_in_all g (take i g.side_effects) ++ xs) (flat_map-cons (ids_in g) e [] ∙ append-nil (ids_in g e)))

-- the component instance of a resource
abbrev owner : Resource → RuntimeComponentInstanceIndex
owner r = r.instance

module _ (g : ComponentDfg) (ordered : IsOrdered g) (i : ℕ) (f : Finish) (done : DoneBefore g i f) (e : SideEffect)
    (at : slice_get g.side_effects i ≡ Some e) where
  -- as many resources are declared as side effects declared
  declared_here : length f.resources ≡ declared_before g i
  declared_here =
      let most = made_at_most declared_by g.side_effects i in
      let all = ordered.resources.all in
      ap length done.resources ∙ length-map (take (declared_before g i) g.resources) owner
      ∙ length-take-le (declared_before g i) g.resources (omega (arith, most, all))

  -- the side effect at the place is the next
  pub is_next : IsNext g f e
  is_next = record { place = i; at = at; instances = done.instances; resources = declared_here }

  -- and then one more was done
  module _ (new : Finish) (it : IsDone g f new e) where
    owners_next : (x : SideEffect) → IsNext g f x → slice_get g.side_effects i ≡ Some x
        → map owner (take (declared_before g i) g.resources) ++ owner_of g x
        ≡ map owner (take (declared_before g (i + 1)) g.resources)
    unfolding HeldEffect
    owners_next (effect.Instance k c) next there =
        let same : declared_before g (i + 1) ≡ declared_before g i =
        let more = made_next declared_by g.side_effects i (effect.Instance k c) there in omega (arith, more) in
        append-nil _ ∙ ap (λ n. map owner (take n g.resources)) (sym same)
    owners_next (effect.Resource n) next there =
        let more = made_next declared_by g.side_effects i (effect.Resource n) there in
        let number : n.0 ≡ declared_before g i =
        next_resource g ordered f (effect.Resource n) next n.0 refl ∙ declared_here in
        let found = found_at g.resources n.0 (next_held g ordered f (effect.Resource n) next) in
        let longer : take (n.0 + 1) g.resources ≡ take n.0 g.resources ++ found.0 ∷ [] =
        take-next g.resources n.0 found.0 found.1 in
        let next_number : declared_before g (i + 1) ≡ n.0 + 1 = omega (arith, more, number) in
        ap (λ m. map owner (take m g.resources) ++ owner_of g (effect.Resource n)) (sym number)
        ∙ ap (λ o. map owner (take n.0 g.resources) ++ each_of (λ (r : Resource). owner r ∷ []) o) found.1
        ∙ sym (map-append owner (take n.0 g.resources) (found.0 ∷ [])) ∙ ap (map owner) (sym longer)
        ∙ ap (λ m. map owner (take m g.resources)) (sym next_number)

    stands_next : (ms : List ModuleTranslation) (trace : List (Entry Mark)) → IsWired g ms
        → AllZip (MeansEffect g) (take (i + 1) g.side_effects) trace → Stands g ms new trace
    stands_next ms trace wired zip =
        let split = zip_last (MeansEffect g) (take i g.side_effects) e trace
        (subst (λ l. AllZip (MeansEffect g) l trace) (take-next g.side_effects i e at) zip) in
        let before = done.stands ms split.front wired split.those in
        subst (Stands g ms new) split.is
        (it.makes ms split.last wired split.it before.state split.front before.reached)

    -- what has a number is what the side effects up to the next place lead to
    used_next : (y : Id) → HasNumber new y
        → (x : Id) × Contains (ids_in_all g (take (i + 1) g.side_effects)) x × IsUsedBy g x y
    used_next y has = by (it.only y has)
      where
        by : IsFrom g f (ids_in g e) y → (x : Id) × Contains (ids_in_all g (take (i + 1) g.side_effects)) x
            × IsUsedBy g x y
        by (inl before) =
            let old = done.used y before in (
              old.0,
              subst (λ xs. Contains xs old.0) (ids_next g i e at)
                  (Contains-append_left (ids_in_all g (take i g.side_effects)) (ids_in g e) old.0 old.1),
              old.2,
            )
        by (inr now) = (
          now.0,
          subst (λ xs. Contains xs now.0) (ids_next g i e at)
              (Contains-append_right (ids_in_all g (take i g.side_effects)) (ids_in g e) now.0 now.1),
          now.2,
        )

    -- and the steps name the trampolines and intrinsics among it
    named_next : AreNamed new new.steps (ids_in_all g (take (i + 1) g.side_effects))
    named_next y n d inside number is =
        let front = ids_in_all g (take i g.side_effects) in
        let within = subst (λ xs. Contains xs y) (sym (ids_next g i e at)) inside in
        elim (Contains-append_cases front (ids_in g e) y within) [
          | inl before ↦ named_later f new it.stay it.keeps front done.here done.named y n d before number is
          | inr now ↦ it.named y n d now number is
        ]

    -- each step is of the graph
    sound_next : IsSound g new
    sound_next = record {
      counts = it.counts done.counts;
      fills = it.fills done.fills;
      represents = it.represents done.represents;
      are_steps = it.are_steps done.counts done.fills done.are_steps;
    }

    pub done_next : DoneBefore g (i + 1) new
    done_next = record {
      fits = it.fits;
      counts = it.counts done.counts;
      fills = it.fills done.fills;
      represents = it.represents done.represents;
      are_steps = sound_next.are_steps;
      passed =
          it.passed
          (record {
            counts = done.counts;
            fills = done.fills;
            represents = done.represents;
            are_steps = done.are_steps;
          })
          done.passed;
      stages = stages_next g f new (ids_in g e) it.adds done.stages done.ends done.counts done.fills it.stay sound_next
          it.here it.only;
      ends = ends_next g f new (ids_in g e) it.adds;
      here =
          subst (All (HasNumber new)) (ids_next g i e at)
          (All-append (HasNumber new) (ids_in_all g (take i g.side_effects)) (ids_in g e)
          (All-weaker (HasNumber f) (HasNumber new) it.numbered (ids_in_all g (take i g.side_effects)) done.here)
          it.here);
      named = named_next;
      used = used_next;
      instances =
          it.instances ∙ ap (λ n. n + length (if_any (made_by e))) done.instances
          ∙ sym (made_next made_by g.side_effects i e at);
      resources = it.resources ∙ ap (λ l. l ++ owner_of g e) done.resources ∙ owners_next e is_next at;
      stands = stands_next;
    }
