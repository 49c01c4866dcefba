-- The steps of a plan name the trampolines and the intrinsics that definitions of the graph depend on.
use Rattle.std.proofs.Common.{◌≡◌, ◌++◌, inl, inr, ℕ, List, [], ◌∷◌, map, All, Option, None, Some}
use Rattle.std.proofs.Common.{option_map, refl, sym, ap, subst, ◌∙◌, arith}
use Rattle.std.specs.Option.{option_to_list}
use Rattle.std.specs.Prelude.{slice_get, unwrap_or}
use Rattle.std.specs.List.{Contains, flat_map}
use Rattle.std.proofs.lemmas.Grind.{flat_map-append}
use Rattle.std.proofs.lemmas.List.Elements.{All-append, All-contains, All-nil, Contains-append_cases}
use Rattle.std.proofs.lemmas.List.Elements.{Contains-append_left, Contains-append_right}
use Rattle.std.proofs.lemmas.Option.{none-some, same_Some}
use Rattle.pc_dfg.specs.declared.ids.AdapterModuleId.{AdapterModuleId}
use Rattle.pc_numbers.specs.declared.entity_index.EntityIndex.{EntityIndex}
use Rattle.pc_numbers.specs.declared.module_entity.ModuleInternedTypeIndex.{ModuleInternedTypeIndex}
use Rattle.pc_numbers.specs.declared.runtime.RuntimeComponentInstanceIndex.{RuntimeComponentInstanceIndex}
use Rattle.pc_numbers.specs.declared.runtime.TrampolineIndex.{TrampolineIndex}
use Rattle.pc_types.specs.IntrinsicType.{intrinsic_place}
use Rattle.pc_spec_plan.specs.PlanView as plan
use Rattle.pc_spec_plan.specs.PlanView.{Definition}
use Rattle.pc_trampoline.specs.declared.part.Mark.{Mark}
use Rattle.pc_info.specs.declared.initializer.GlobalInitializer.{GlobalInitializer}
use Rattle.pc_info.specs.declared.initializer.GlobalInitializer.TheVariants as init
use Rattle.pc_info.specs.Definitions.{arguments_view, argument_view, def_view}
use Rattle.pc_dfg.specs.declared.core_def.CoreDef.{CoreDef}
use Rattle.pc_dfg.specs.declared.core_def.CoreDef.TheVariants as def
use Rattle.pc_dfg.specs.declared.dfg.ComponentDfg.{ComponentDfg}
use Rattle.pc_dfg.specs.declared.instance.Instance.{Instance}
use Rattle.pc_dfg.specs.declared.instance.Instance.TheVariants as source
use Rattle.pc_dfg.specs.Effects.{Argument, host_arguments}
use Rattle.pc_dfg.specs.Names.{if_any, in_instance}
use Rattle.pc_dfg_linearize.specs.declared.id.Id.{Id}
use Rattle.pc_dfg_linearize.specs.declared.id.Id.TheVariants as id
use Rattle.pc_dfg_linearize.specs.declared.state.Finish.{Finish}
use Rattle.pc_dfg_linearize.specs.Arguments.{host_in, named_in}
use Rattle.pc_dfg_linearize.specs.Closed.{AddsSteps}
use Rattle.pc_dfg_linearize.specs.Converted.{def_in}
use Rattle.pc_dfg_linearize.specs.Made.{instance_in}
use Rattle.pc_dfg_linearize.specs.Once.{Stay}
use Rattle.pc_dfg_linearize.specs.Parts.{HasNumber, in_def, in_entry, in_model, in_part, in_trampoline, maybe_slot, number_of}
use Rattle.pc_dfg_linearize.specs.Parts.{options_id, slot_id}
use Rattle.pc_dfg_linearize.specs.Represented.{AreNamed, Keeps, StepsHave, definition_of}
use Rattle.pc_info.specs.Slots.{definitions_in}
use Rattle.pc_dfg_linearize.proofs.FillLemmas.{mapped_back}
use Rattle.pc_dfg_linearize.proofs.PartLemmas.{all_each, all_one}
use Rattle.pc_dfg_linearize.proofs.TakeLemmas.{none_in, one_in}

module _ (xs ys : List GlobalInitializer) (d : Definition) where
  in_both : flat_map definitions_in (xs ++ ys) ≡ flat_map definitions_in xs ++ flat_map definitions_in ys
  in_both = flat_map-append definitions_in xs ys

  -- steps name what they named, with more behind them
  pub names_front : StepsHave xs d → StepsHave (xs ++ ys) d
  names_front named =
      subst (λ ds. Contains ds d) (sym in_both)
      (Contains-append_left (flat_map definitions_in xs) (flat_map definitions_in ys) d named)

  names_back : StepsHave ys d → StepsHave (xs ++ ys) d
  names_back named =
      subst (λ ds. Contains ds d) (sym in_both)
      (Contains-append_right (flat_map definitions_in xs) (flat_map definitions_in ys) d named)

-- and what the last one names
pub names_last : (xs : List GlobalInitializer) (i : GlobalInitializer) (d : Definition)
    → Contains (definitions_in i) d → StepsHave (xs ++ i ∷ []) d
names_last xs i d named = names_back xs (i ∷ []) d (Contains-append_left (definitions_in i) [] d named)

-- where steps were added, those before name what they named
pub adds_keep : (old new : Finish) → AddsSteps old new → Keeps old.steps new.steps
adds_keep old new adds d named =
    subst (λ steps. StepsHave steps d) (sym adds.is) (names_front old.steps adds.more d named)

-- numbers stay, and so do the names
pub named_still : (f f' : Finish) → Stay f f' → (steps : List GlobalInitializer) (xs : List Id) → All (HasNumber f) xs
    → AreNamed f steps xs → AreNamed f' steps xs
named_still f f' stay steps xs all named x n d inside at is =
    let had = All-contains (HasNumber f) xs x all inside in
    let same : had.0 ≡ n = same_Some had.0 n (sym (stay x had.0 had.1) ∙ at) in
    named x n d inside (had.1 ∙ ap (λ k. Some k) same) is

pub named_later : (f f' : Finish) → Stay f f' → Keeps f.steps f'.steps → (xs : List Id) → All (HasNumber f) xs
    → AreNamed f f.steps xs → AreNamed f' f'.steps xs
named_later f f' stay keeps xs all named =
    named_still f f' stay f'.steps xs all (λ x n d inside at is. keeps d (named x n d inside at is))

-- an id that is neither a trampoline nor an intrinsic
unfoldable pub IsUnnamed : Id → Type 0
IsUnnamed (id.Trampoline t) = ⊥
IsUnnamed (id.Intrinsic s i) = ⊥
IsUnnamed x = Unit {0}

-- it has become no definition
pub no_definition : (x : Id) (n : ℕ) (d : Definition) → IsUnnamed x → definition_of x n ≡ Some d → ⊥
unfolding IsUnnamed definition_of
no_definition (id.Trampoline t) n d unnamed is = unnamed
no_definition (id.Intrinsic s i) n d unnamed is = unnamed
no_definition x n d unnamed is = none-some d is

slot_none : (k : plan.SlotKind) (n : ℕ) → IsUnnamed (slot_id k n)
unfolding IsUnnamed
slot_none plan.memory n = tt
slot_none k n = tt

maybe_none : (k : plan.SlotKind) (n : Option ℕ) → All IsUnnamed (maybe_slot k n)
maybe_none k None = All-nil IsUnnamed
maybe_none k (Some n) = all_one IsUnnamed (slot_id k n) (slot_none k n)

model_none : (m : plan.ModelEntry) → All IsUnnamed (in_model m)
model_none plan.gc = All-nil IsUnnamed
model_none (plan.linear m r) =
    All-append IsUnnamed (maybe_slot plan.memory m) (maybe_slot plan.realloc r) (maybe_none plan.memory m)
    (maybe_none plan.realloc r)

entry_none : (e : plan.PlanOptions Mark) → All IsUnnamed (in_entry e)
entry_none e =
    All-append IsUnnamed (in_model e.model ++ maybe_slot plan.callback e.callback)
    (maybe_slot plan.post_return e.post_return)
    (All-append IsUnnamed (in_model e.model) (maybe_slot plan.callback e.callback) (model_none e.model)
    (maybe_none plan.callback e.callback)) (maybe_none plan.post_return e.post_return)

part_none : (p : plan.TrampolinePart Mark) → All IsUnnamed (in_part p)
unfolding IsUnnamed
part_none (plan.mark m) = All-nil IsUnnamed
part_none (plan.number n) = All-nil IsUnnamed
part_none (plan.flag b) = All-nil IsUnnamed
part_none (plan.slot k n) = maybe_none k n
part_none (plan.options o) = all_one IsUnnamed (options_id o) tt

parts_none : (ps : List (plan.TrampolinePart Mark)) → All IsUnnamed (flat_map in_part ps)
parts_none [] = All-nil IsUnnamed
parts_none (p ∷ ps) = All-append IsUnnamed (in_part p) (flat_map in_part ps) (part_none p) (parts_none ps)

trampoline_none : (t : TrampolineIndex) (e : plan.TrampolineEntry Mark) → All IsUnnamed (in_trampoline t e)
unfolding IsUnnamed
trampoline_none t (plan.lowers r s ty o) =
    All-append IsUnnamed (id.Lowering t ∷ []) (options_id o ∷ []) (all_one IsUnnamed (id.Lowering t) tt)
    (all_one IsUnnamed (options_id o) tt)
trampoline_none t (plan.builtin k symbol c ps) = parts_none ps
trampoline_none t (plan.helper k symbol ps) = parts_none ps

-- nothing in a list of such ids has become a definition
pub none_defined : (xs : List Id) (x : Id) (n : ℕ) (d : Definition) → All IsUnnamed xs → Contains xs x
    → definition_of x n ≡ Some d → ⊥
none_defined xs x n d all inside is = no_definition x n d (All-contains IsUnnamed xs x all inside) is

module _ (f : Finish) (steps : List GlobalInitializer) where
  -- where there are none, all are named
  pub none_named : AreNamed f steps []
  none_named x n d inside at is = absurd (none_in x inside)

  -- options depend on none
  pub entry_named : (e : plan.PlanOptions Mark) → AreNamed f steps (in_entry e)
  entry_named e x n d inside at is = absurd (none_defined (in_entry e) x n d (entry_none e) inside is)

  -- nor does a trampoline
  pub trampoline_named : (u : TrampolineIndex) (e : plan.TrampolineEntry Mark) → AreNamed f steps (in_trampoline u e)
  trampoline_named u e x n d inside at is =
      absurd (none_defined (in_trampoline u e) x n d (trampoline_none u e) inside is)

module _ (g : ComponentDfg) (f : Finish) where
  -- the definition that depends on an id is what the id has become
  pub def_named : (d : CoreDef) (x : Id) (n : ℕ) (e : Definition) → Contains (in_def g d) x → number_of f x ≡ Some n
      → definition_of x n ≡ Some e → def_view (def_in g f d) ≡ e
  unfolding def_in number_of definition_of IsUnnamed
  def_named (def.Export i) x n e inside at is = absurd (none_in x inside)
  def_named (def.InstanceFlags c) x n e inside at is = absurd (none_in x inside)
  def_named (def.Trampoline t) x n e inside at is =
      let same = one_in (id.Trampoline t) x inside in
      let number : number_of f (id.Trampoline t) ≡ Some n = ap (number_of f) same ∙ at in
      ap (λ o. plan.trampoline (unwrap_or o 0)) number
      ∙ same_Some (plan.trampoline n) e (ap (λ y. definition_of y n) same ∙ is)
  def_named (def.UnsafeIntrinsic s i) x n e inside at is =
      let same = one_in (id.Intrinsic s i) x inside in
      let number : number_of f (id.Intrinsic s i) ≡ Some n = ap (number_of f) same ∙ at in
      let place = mapped_back (λ (t : ModuleInternedTypeIndex). intrinsic_place i) _ n number in
      ap plan.intrinsic place.2 ∙ same_Some (plan.intrinsic n) e (ap (λ y. definition_of y n) same ∙ is)
  def_named (def.Adapter a) x n e inside at is =
      absurd (none_defined _ x n e
      (all_each IsUnnamed (λ (p : AdapterModuleId × EntityIndex). id.AdapterModule p.0 ∷ [])
      (slice_get g.adapter_partitionings a.0)
      (λ p there. all_one IsUnnamed (id.AdapterModule p.0) tt)) inside is)

  -- so definitions that depend on it name it
  pub defs_named : (ds : List CoreDef) (x : Id) (n : ℕ) (e : Definition) → Contains (flat_map (in_def g) ds) x
      → number_of f x ≡ Some n → definition_of x n ≡ Some e → Contains (map def_view (map (def_in g f) ds)) e
  defs_named [] x n e inside at is = absurd (none_in x inside)
  defs_named (d ∷ ds) x n e inside at is =
      elim (Contains-append_cases (in_def g d) (flat_map (in_def g) ds) x inside) [
        | inl first ↦ (0, omega arith, def_named d x n e first at is)
        | inr later ↦ Contains-append_right (def_view (def_in g f d) ∷ []) (map def_view (map (def_in g f) ds)) e
            (defs_named ds x n e later at is)
      ]

  host_front : (m : List ℕ) (xs : List (List ℕ × CoreDef)) (rest : List plan.NamedDefinition) (others : List Argument)
      → map (λ (a : plan.NamedDefinition). a.definition) rest
      ≡ map def_view (map (def_in g f) (map (λ (a : Argument). a.1.1) others))
      → map (λ (a : plan.NamedDefinition). a.definition) (map (argument_view m) (named_in g f xs) ++ rest)
      ≡ map def_view (map (def_in g f) (map (λ (a : Argument). a.1.1) (map (λ a. (m, a)) xs ++ others)))
  host_front m [] rest others same = same
  host_front m (a ∷ xs) rest others same =
      ap (λ ds. def_view (def_in g f a.1) ∷ ds) (host_front m xs rest others same)

  -- the definitions among the arguments of a host module
  pub host_same : (args : List (List ℕ × List (List ℕ × CoreDef)))
      → map (λ (a : plan.NamedDefinition). a.definition) (flat_map arguments_view (host_in g f args))
      ≡ map def_view (map (def_in g f) (map (λ (a : Argument). a.1.1) (host_arguments args)))
  host_same [] = refl
  host_same (m ∷ ms) =
      host_front m.0 m.1 (flat_map arguments_view (host_in g f ms)) (host_arguments ms) (host_same ms)

  -- the step of a core instance names it
  pub instance_named : (y : Instance) (c : Option RuntimeComponentInstanceIndex) (x : Id) (n : ℕ) (e : Definition)
      → Contains (flat_map (in_def g) (in_instance y)) x → number_of f x ≡ Some n → definition_of x n ≡ Some e
      → Contains (definitions_in (init.InstantiateModule (instance_in g f y) c)) e
  unfolding in_instance instance_in
  instance_named (source.Static m args) c x n e inside at is = defs_named args x n e inside at is
  instance_named (source.Import r args) c x n e inside at is =
      subst (λ ds. Contains ds e) (sym (host_same args))
      (defs_named (map (λ (a : Argument). a.1.1) (host_arguments args)) x n e inside at is)

  -- and so does that of a destructor
  pub destructor_named : (o : Option CoreDef) (x : Id) (n : ℕ) (e : Definition)
      → Contains (flat_map (in_def g) (if_any o)) x → number_of f x ≡ Some n → definition_of x n ≡ Some e
      → Contains (option_to_list (option_map def_view (option_map (def_in g f) o))) e
  destructor_named None x n e inside at is = absurd (none_in x inside)
  destructor_named (Some d) x n e inside at is = defs_named (d ∷ []) x n e inside at is
