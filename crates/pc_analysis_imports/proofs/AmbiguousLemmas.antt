-- What is marked is what is ambiguous.
use Rattle.std.proofs.Common.{◌≡◌, ◌<◌, ℕ, zero, suc, Bool, true, false, List, [], ◌∷◌, inl, inr, length}
use Rattle.std.proofs.Common.{Some, None, Option, refl, sym, ap, subst, ◌∙◌, arith, true≢false}
use Rattle.std.specs.Prelude.{slice_get, map, option_map, if◌then◌else◌}
use Rattle.std.specs.List.{cons_option}
use Rattle.std.specs.List.{Contains, filter_map, flat_map}
use Rattle.std.proofs.lemmas.Bool.{eq-eqb}
use Rattle.std.proofs.lemmas.Bool.Decides.{eqb_tells}
use Rattle.std.proofs.lemmas.List.Concat.{flat_map-cons}
use Rattle.std.proofs.lemmas.List.Elements.{Contains-append_cases, Contains-append_left, Contains-append_right}
use Rattle.std.proofs.lemmas.Option.{none-some, same_Some, slice_get-map}
use Rattle.pc_entity.proofs.LookupLemmas.{found_at}
use Rattle.pc_entity.proofs.Elements.{bool_cases}
use Rattle.pc_numbers.specs.declared.component_entity.StaticModuleIndex.{StaticModuleIndex}
use Rattle.pc_numbers.specs.declared.runtime.RuntimeComponentInstanceIndex.{RuntimeComponentInstanceIndex}
use Rattle.pc_numbers.specs.declared.runtime.RuntimeImportIndex.{RuntimeImportIndex}
use Rattle.pc_types.specs.declared.module_record.ModuleRecord.{ModuleRecord}
use Rattle.pc_spec_plan.specs.Counts.{makes_instance}
use Rattle.pc_spec_plan.specs.PlanView as plan
use Rattle.pc_info.specs.declared.component.ComponentTranslation.{ComponentTranslation}
use Rattle.pc_info.specs.declared.core_def.CoreDef.{CoreDef}
use Rattle.pc_info.specs.declared.initializer.GlobalInitializer.{GlobalInitializer}
use Rattle.pc_info.specs.declared.initializer.GlobalInitializer.TheVariants as init
use Rattle.pc_info.specs.declared.initializer.InstantiateModule.TheVariants as module_source
use Rattle.pc_info.specs.Definitions.{argument_view, arguments_view, def_view, initializer_view, owner_view}
use Rattle.pc_info.specs.Slots.{step_definitions}
use Rattle.pc_info.specs.Standing.{steps_in}
use Rattle.pc_spec_wiring.specs.Known.{IsAmbiguous, IsOneWay, Known, Refers, arguments_in, given_to_host}
use Rattle.pc_spec_wiring.specs.Known.{given_variously}
use Rattle.pc_dfg.specs.declared.instantiations.AbstractInstantiations.{AbstractInstantiations}
use Rattle.pc_dfg.specs.declared.instantiations.AbstractInstantiations.TheVariants as abstract
use Rattle.pc_analysis_imports.specs.declared.source.Source.{Source}
use Rattle.pc_analysis_imports.specs.Exported.{is_exported_in}
use Rattle.pc_analysis_imports.specs.Followed.{source_of}
use Rattle.pc_analysis_imports.specs.Found.{plan_instances}
use Rattle.pc_dfg.specs.Instantiations as inst
use Rattle.pc_dfg.specs.Instantiations.{joined, known_of}
use Rattle.pc_analysis_imports.specs.Known.{CanBeFollowed}
use Rattle.pc_analysis_imports.specs.Marked.{is_one, shown_in, shown_in_all}
use Rattle.pc_analysis_imports.specs.Ways.{AreWays, given_in, given_to}
use Rattle.pc_analysis_imports.proofs.FoldLemmas.{contained, placed}
use Rattle.pc_analysis_imports.proofs.FollowedLemmas.{Tells, known_in}
use Rattle.pc_analysis_imports.proofs.OneWayLemmas.{found_if_one, from_mapped, into_mapped, one_if_found}
use Rattle.pc_analysis_imports.proofs.StepLemmas.{told}
use Rattle.pc_analysis_imports.proofs.WaysLemmas.{none_inside}

-- what a function makes of the items of a list, it makes of one of them
pub from_flat : {A B : Type 0} (f : A → List B) (xs : List A) (y : B) → Contains (flat_map f xs) y
    → (n : ℕ) × (x : A) × (slice_get xs n ≡ Some x) × Contains (f x) y
from_flat f [] y inside = absurd (none_inside y inside)
from_flat f (x ∷ xs) y inside =
    elim (Contains-append_cases (f x) (flat_map f xs) y (subst (λ l. Contains l y) (flat_map-cons f x xs) inside)) [
      | inl first ↦ (0, x, refl, first)
      | inr later ↦ let rest = from_flat f xs y later in (suc rest.0, rest.1, rest.2, rest.3)
    ]

pub into_flat : {A B : Type 0} (f : A → List B) (xs : List A) (n : ℕ) (x : A) (y : B) → slice_get xs n ≡ Some x
    → Contains (f x) y → Contains (flat_map f xs) y
into_flat f [] n x y at inside = absurd (none-some x at)
into_flat f (z ∷ xs) zero x y at inside =
    Contains-append_left (f z) (flat_map f xs) y (subst (λ w. Contains (f w) y) (sym (same_Some z x at)) inside)
into_flat f (z ∷ xs) (suc n) x y at inside =
    Contains-append_right (f z) (flat_map f xs) y (into_flat f xs n x y at inside)

-- what a filter gives it gives of one of the items
pub from_filter : {A B : Type 0} (f : A → Option B) (xs : List A) (y : B) → Contains (filter_map f xs) y
    → (n : ℕ) × (x : A) × (slice_get xs n ≡ Some x) × (f x ≡ Some y)
from_filter f [] y inside = absurd (none_inside y inside)
from_filter {A} {B} f (x ∷ xs) y inside = by (λ later. from_filter f xs y later) (f x) refl inside
  where
    by : (Contains (filter_map f xs) y → (n : ℕ) × (z : A) × (slice_get xs n ≡ Some z) × (f z ≡ Some y))
        → (o : Option B) → f x ≡ o → Contains (cons_option o (filter_map f xs)) y
        → (n : ℕ) × (z : A) × (slice_get (x ∷ xs) n ≡ Some z) × (f z ≡ Some y)
    by before None is there = let rest = before there in (suc rest.0, rest.1, rest.2, rest.3)
    by before (Some b) is there =
        elim (Contains-append_cases (b ∷ []) (filter_map f xs) y there) [
          | inl first ↦ (0, x, refl, is ∙ ap Some (alone b y first))
          | inr later ↦ let rest = before later in (suc rest.0, rest.1, rest.2, rest.3)
        ]
      where
        alone : (b y : B) → Contains (b ∷ []) y → b ≡ y
        alone b y inside = let at = placed (b ∷ []) y inside in only at.0 at.1
          where
            only : (n : ℕ) → slice_get (b ∷ []) n ≡ Some y → b ≡ y
            only zero at = same_Some b y at
            only (suc n) at = absurd (none-some y at)

-- what it gives of an item is among what it gives
pub filtered : {A B : Type 0} (f : A → Option B) (xs : List A) (n : ℕ) (x : A) (y : B) → slice_get xs n ≡ Some x
    → f x ≡ Some y → Contains (filter_map f xs) y
filtered f [] n x y at is = absurd (none-some x at)
filtered f (z ∷ xs) zero x y at is =
    subst (λ o. Contains (cons_option o (filter_map f xs)) y) (sym (ap f (same_Some z x at) ∙ is))
    (contained (y ∷ filter_map f xs) 0 y refl)
filtered {A} {B} f (z ∷ xs) (suc n) x y at is = by (filtered f xs n x y at is) (f z)
  where
    by : Contains (filter_map f xs) y → (o : Option B) → Contains (cons_option o (filter_map f xs)) y
    by rest None = rest
    by rest (Some b) = Contains-append_right (b ∷ []) (filter_map f xs) y rest

-- steps by what they make
abbrev is_static : plan.Initializer → Bool
is_static (plan.instantiate_static m args c) = true
is_static s = false

abbrev is_import : plan.Initializer → Bool
is_import (plan.instantiate_import r args c) = true
is_import s = false

abbrev number_of : plan.Initializer → ℕ
number_of (plan.instantiate_static m args c) = m
number_of s = 0

abbrev args_of : plan.Initializer → List plan.Definition
args_of (plan.instantiate_static m args c) = args
args_of s = []

abbrev named_of : plan.Initializer → List plan.NamedDefinition
named_of (plan.instantiate_import r args c) = args
named_of s = []

static_step : (x : GlobalInitializer) (m : ℕ) (args : List plan.Definition) (c : Option ℕ)
    → initializer_view x ≡ plan.instantiate_static m args c
    → (n : StaticModuleIndex) × (defs : List CoreDef) × (o : Option RuntimeComponentInstanceIndex)
    × (x ≡ init.InstantiateModule (module_source.Static n defs) o) × (n.0 ≡ m) × (map def_view defs ≡ args)
static_step (init.InstantiateModule (module_source.Static n defs) o) m args c h =
    (n, defs, o, refl, ap number_of h, ap args_of h)
static_step (init.InstantiateModule (module_source.Import n defs) o) m args c h =
    absurd (true≢false (sym (ap is_static h)))
static_step (init.LowerImport n r) m args c h = absurd (true≢false (sym (ap is_static h)))
static_step (init.ExtractMemory e) m args c h = absurd (true≢false (sym (ap is_static h)))
static_step (init.ExtractRealloc e) m args c h = absurd (true≢false (sym (ap is_static h)))
static_step (init.ExtractCallback e) m args c h = absurd (true≢false (sym (ap is_static h)))
static_step (init.ExtractPostReturn e) m args c h = absurd (true≢false (sym (ap is_static h)))
static_step (init.ExtractTable e) m args c h = absurd (true≢false (sym (ap is_static h)))
static_step (init.Resource r) m args c h = absurd (true≢false (sym (ap is_static h)))

import_step : (x : GlobalInitializer) (r : ℕ) (args : List plan.NamedDefinition) (c : Option ℕ)
    → initializer_view x ≡ plan.instantiate_import r args c
    → (n : RuntimeImportIndex) × (named : List (List ℕ × List (List ℕ × CoreDef)))
    × (o : Option RuntimeComponentInstanceIndex)
    × (x ≡ init.InstantiateModule (module_source.Import n named) o) × (flat_map arguments_view named ≡ args)
import_step (init.InstantiateModule (module_source.Import n named) o) m args c h = (n, named, o, refl, ap named_of h)
import_step (init.InstantiateModule (module_source.Static n defs) o) m args c h =
    absurd (true≢false (sym (ap is_import h)))
import_step (init.LowerImport n r) m args c h = absurd (true≢false (sym (ap is_import h)))
import_step (init.ExtractMemory e) m args c h = absurd (true≢false (sym (ap is_import h)))
import_step (init.ExtractRealloc e) m args c h = absurd (true≢false (sym (ap is_import h)))
import_step (init.ExtractCallback e) m args c h = absurd (true≢false (sym (ap is_import h)))
import_step (init.ExtractPostReturn e) m args c h = absurd (true≢false (sym (ap is_import h)))
import_step (init.ExtractTable e) m args c h = absurd (true≢false (sym (ap is_import h)))
import_step (init.Resource r) m args c h = absurd (true≢false (sym (ap is_import h)))

-- a way that is one way
abbrev pub args_seen : inst.Known → Option (List CoreDef)
args_seen inst.none = None
args_seen (inst.one args) = Some args
args_seen inst.many = None

pub is_one_if : (w : AbstractInstantiations) (a : List CoreDef) → known_of w ≡ inst.one a → is_one (Some w) ≡ true
is_one_if abstract.Many a h = absurd (none-some a (ap args_seen h))
is_one_if (abstract.One args) a h = refl
is_one_if abstract.None a h = absurd (none-some a (ap args_seen h))

pub one_if_is : (o : Option AbstractInstantiations) → is_one o ≡ true
    → (w : AbstractInstantiations) × (a : List CoreDef) × (o ≡ Some w) × (known_of w ≡ inst.one a)
one_if_is None h = absurd (true≢false (sym h))
one_if_is (Some abstract.Many) h = absurd (true≢false (sym h))
one_if_is (Some (abstract.One args)) h = (abstract.One args, args.now, refl, refl)
one_if_is (Some abstract.None) h = absurd (true≢false (sym h))

module _ (p : ComponentTranslation) (records : List ModuleRecord) (ok : CanBeFollowed records (steps_in p))
    (ways : List AbstractInstantiations) (ways_count : length ways ≡ length records)
    (are_ways : AreWays (is_exported_in p.component.export_items) p.component.initializers ways) where
  abbrev inits : List GlobalInitializer
  inits = p.component.initializers

  abbrev exported : ℕ → Bool
  exported = is_exported_in p.component.export_items

  abbrev source : CoreDef → Source
  source = source_of records (plan_instances p records)

  abbrev Ref : plan.Definition → Known → Type 0
  Ref = Refers records (steps_in p) exported

  abbrev Told : CoreDef → Type 0
  Told d = Tells records (steps_in p) exported (def_view d) (source d)

  step_here : (s : plan.Initializer) → Contains (steps_in p) s
      → (i : ℕ) × (x : GlobalInitializer) × (slice_get inits i ≡ Some x) × (initializer_view x ≡ s)
  step_here s inside =
      let from = from_mapped initializer_view inits s inside in
      let at = placed inits from.0 from.1 in
      (at.0, from.0, at.1, from.2)

  -- what a module is given is told
  pub told_given : (m : ℕ) (a : List CoreDef) → Contains (given_to m inits) a → (d : CoreDef) → Contains a d → Told d
  told_given m a inside d there =
      let from = from_filter (given_in m) inits a inside in
      by from.0 from.1 from.2 from.3
    where
      by : (i : ℕ) (x : GlobalInitializer) → slice_get inits i ≡ Some x → given_in m x ≡ Some a → Told d
      by i (init.InstantiateModule (module_source.Static n defs) o) at gives =
          elim (eqb_tells n.0 m) [
            | inl hit ↦
                let same : defs ≡ a =
                same_Some defs a (sym (ap (λ b. if b then Some defs else None) hit.0) ∙ gives) in
                told records inits exported ok i (init.InstantiateModule (module_source.Static n defs) o) at refl d
                (into_mapped def_view defs d (subst (λ l. Contains l d) (sym same) there))
            | inr miss ↦
                absurd (none-some a (sym (ap (λ b. if b then Some defs else None) miss.0) ∙ gives))
          ]
      by i (init.InstantiateModule (module_source.Import n named) o) at gives = absurd (none-some a gives)
      by i (init.LowerImport n r) at gives = absurd (none-some a gives)
      by i (init.ExtractMemory e) at gives = absurd (none-some a gives)
      by i (init.ExtractRealloc e) at gives = absurd (none-some a gives)
      by i (init.ExtractCallback e) at gives = absurd (none-some a gives)
      by i (init.ExtractPostReturn e) at gives = absurd (none-some a gives)
      by i (init.ExtractTable e) at gives = absurd (none-some a gives)
      by i (init.Resource r) at gives = absurd (none-some a gives)

  -- the way of a module that is held
  pub way_at : (m : ℕ) → m < length records → (w : AbstractInstantiations) × (slice_get ways m ≡ Some w)
  way_at m few = found_at ways m (omega (arith, few, ways_count))

  -- what is shown to a module otherwise
  one_shown : (m : ℕ) (args : List plan.Definition) → m < length records
      → IsOneWay records (steps_in p) exported m args → is_one (slice_get ways m) ≡ true
  one_shown m args few one =
      let way = way_at m few in
      let found = found_if_one records inits exported m way.0 (are_ways m way.0 way.1) args one in
      ap is_one way.1 ∙ is_one_if way.0 found.0 found.1

  shown_one : (m : ℕ) (args : List plan.Definition) (c : Option ℕ)
      → Contains (steps_in p) (plan.instantiate_static m args c) → is_one (slice_get ways m) ≡ true
      → IsOneWay records (steps_in p) exported m args
  shown_one m args c inside one =
      let way = one_if_is (slice_get ways m) one in
      let found = one_if_found records inits exported m way.0 (are_ways m way.0 way.2) way.1 way.3 in
      let here = step_here (plan.instantiate_static m args c) inside in
      let arguments = into_filter here.0 here.1 here.2 here.3 in
      subst (IsOneWay records (steps_in p) exported m) (sym (found.only args arguments)) found
    where
      into_filter : (i : ℕ) (x : GlobalInitializer) → slice_get inits i ≡ Some x
          → initializer_view x ≡ plan.instantiate_static m args c
          → Contains (filter_map (arguments_in m) (steps_in p)) args
      into_filter i x at is =
          filtered (arguments_in m) (steps_in p) i (plan.instantiate_static m args c) args
          (slice_get-map initializer_view inits i ∙ ap (option_map initializer_view) at ∙ ap Some is)
          (ap (λ b. if b then Some args else None) (eq-eqb m m refl))

  -- the sources that are shown to modules that may name them otherwise
  abbrev shown : List Source
  shown = shown_in_all records (plan_instances p records) ways inits

  -- what is ambiguous is shown
  pub shown_if_ambiguous : (y : Known) → IsAmbiguous records (steps_in p) exported y
      → (x : Source) × Contains shown x × (known_in x ≡ Some y)
  unfolding shown_in shown_in_all
  shown_if_ambiguous y (given_to_host {r} {args} {c} {a} inside there refers) =
      let here = step_here (plan.instantiate_import r args c) inside in
      let step = import_step here.1 r args c here.3 in
      let from = from_flat arguments_view step.1 a (subst (λ l. Contains l a) (sym step.4) there) in
      let named = from_mapped (argument_view from.1.0) from.1.1 a from.3 in
      let d : CoreDef = named.0.1 in
      let is : def_view d ≡ a.definition = ap (λ (z : plan.NamedDefinition). z.definition) named.2 in
      let among : Contains (step_definitions (initializer_view here.1)) (def_view d) =
      subst (λ s. Contains (step_definitions s) (def_view d)) (sym here.3)
      (subst (Contains (map (λ (z : plan.NamedDefinition). z.definition) args)) (sym is)
      (into_mapped (λ (z : plan.NamedDefinition). z.definition) args a there)) in
      let tells = told records inits exported ok here.0 here.1 here.2 (ap makes_instance here.3) d among in (
        source d,
        into_flat (shown_in records (plan_instances p records) ways) inits here.0 here.1 (source d) here.2
            (subst (λ x. Contains (shown_in records (plan_instances p records) ways x) (source d)) (sym step.3)
            (into_flat (λ (h : List ℕ × List (List ℕ × CoreDef)). map (λ b. source b.1) h.1) step.1 from.0 from.1 (source d)
            from.2 (into_mapped (λ (b : List ℕ × CoreDef). source b.1) from.1.1 named.0 named.1))),
        (tells.refers y).1 (subst (λ z. Ref z y) (sym is) refers),
      )
  shown_if_ambiguous y (given_variously {m} {args} {c} {d} inside apart there refers) =
      let here = step_here (plan.instantiate_static m args c) inside in
      let step = static_step here.1 m args c here.3 in
      let from = from_mapped def_view step.1 d (subst (λ l. Contains l d) (sym step.5) there) in
      let among : Contains (step_definitions (initializer_view here.1)) (def_view from.0) =
      subst (λ s. Contains (step_definitions s) (def_view from.0)) (sym here.3)
      (subst (Contains args) (sym from.2) there) in
      let tells = told records inits exported ok here.0 here.1 here.2 (ap makes_instance here.3) from.0 among in
      let various : is_one (slice_get ways step.0.0) ≡ false =
      elim (bool_cases (is_one (slice_get ways step.0.0))) [
        | inl one ↦
            absurd (apart (shown_one m args c inside (sym (ap (λ k. is_one (slice_get ways k)) step.4) ∙ one)))
        | inr none ↦ none
      ] in (
        source from.0,
        into_flat (shown_in records (plan_instances p records) ways) inits here.0 here.1 (source from.0) here.2
            (subst (λ x. Contains (shown_in records (plan_instances p records) ways x) (source from.0)) (sym step.3)
            (subst (λ b. Contains (if b then [] else map source step.1) (source from.0)) (sym various)
            (into_mapped source step.1 from.0 from.1))),
        (tells.refers y).1 (subst (λ z. Ref z y) (sym from.2) refers),
      )

  -- what is shown is ambiguous
  pub ambiguous_if_shown : (y : Known) (x : Source) → Contains shown x → known_in x ≡ Some y
      → IsAmbiguous records (steps_in p) exported y
  unfolding shown_in shown_in_all
  ambiguous_if_shown y x inside known =
      let from = from_flat (shown_in records (plan_instances p records) ways) inits x inside in
      by from.0 from.1 from.2 from.3
    where
      step_in : (i : ℕ) (z : GlobalInitializer) → slice_get inits i ≡ Some z → Contains (steps_in p) (initializer_view z)
      step_in i z at = into_mapped initializer_view inits z (contained inits i z at)

      various : (i : ℕ) (n : StaticModuleIndex) (defs : List CoreDef) (o : Option RuntimeComponentInstanceIndex)
          → slice_get inits i ≡ Some (init.InstantiateModule (module_source.Static n defs) o)
          → (b : Bool) → is_one (slice_get ways n.0) ≡ b → Contains (if b then [] else map source defs) x
          → IsAmbiguous records (steps_in p) exported y
      various i n defs o at true one there = absurd (none_inside x there)
      various i n defs o at false none there =
          let d = from_mapped source defs x there in
          let z : GlobalInitializer = init.InstantiateModule (module_source.Static n defs) o in
          let among = into_mapped def_view defs d.0 d.1 in
          let tells = told records inits exported ok i z at refl d.0 among in
          let few = ok.held n.0 (map def_view defs) (owner_view o) (step_in i z at) in
          given_variously {m = n.0} {args = map def_view defs} {c = owner_view o} {d = def_view d.0} (step_in i z at)
          (λ one. true≢false (sym (one_shown n.0 (map def_view defs) few one) ∙ none))
          among ((tells.refers y).0 (ap known_in d.2 ∙ known))

      by : (i : ℕ) (z : GlobalInitializer) → slice_get inits i ≡ Some z
          → Contains (shown_in records (plan_instances p records) ways z) x
          → IsAmbiguous records (steps_in p) exported y
      by i (init.InstantiateModule (module_source.Static n defs) o) at there =
          various i n defs o at (is_one (slice_get ways n.0)) refl there
      by i (init.InstantiateModule (module_source.Import n named) o) at there =
          let z : GlobalInitializer = init.InstantiateModule (module_source.Import n named) o in
          let from = from_flat (λ (h : List ℕ × List (List ℕ × CoreDef)). map (λ b. source b.1) h.1) named x there in
          let d = from_mapped (λ (b : List ℕ × CoreDef). source b.1) from.1.1 x from.3 in
          let a : plan.NamedDefinition = argument_view from.1.0 d.0 in
          let among : Contains (flat_map arguments_view named) a =
          into_flat arguments_view named from.0 from.1 a from.2
          (into_mapped (argument_view from.1.0) from.1.1 d.0 d.1) in
          let tells = told records inits exported ok i z at refl d.0.1
          (into_mapped (λ (q : plan.NamedDefinition). q.definition) (flat_map arguments_view named) a among) in
          given_to_host {r = n.0} {args = flat_map arguments_view named} {c = owner_view o} {a = a} (step_in i z at) among
          ((tells.refers y).0 (ap known_in d.2 ∙ known))
      by i (init.LowerImport n r) at there = absurd (none_inside x there)
      by i (init.ExtractMemory e) at there = absurd (none_inside x there)
      by i (init.ExtractRealloc e) at there = absurd (none_inside x there)
      by i (init.ExtractCallback e) at there = absurd (none_inside x there)
      by i (init.ExtractPostReturn e) at there = absurd (none_inside x there)
      by i (init.ExtractTable e) at there = absurd (none_inside x there)
      by i (init.Resource r) at there = absurd (none_inside x there)
