-- The run of a plan that does what a reading says is confined.
use Rattle.std.proofs.Common.{◌≡◌, ◌<◌, ◌+◌, ◌++◌, ℕ, zero, suc, All, List, [], ◌∷◌, length, map, Option, None, Some, refl, sym}
use Rattle.std.proofs.Common.{ap, subst, ◌∙◌, arith}
use Rattle.std.specs.Prelude.{Contains, option_map, slice_get}
use Rattle.std.specs.List.{cons_option, filter_map, flat_map}
use Rattle.std.proofs.lemmas.List.Elements.{All-contains, All-contains_itself, All-map, All-weaker}
use Rattle.std.proofs.lemmas.Option.{none-some, same_Some}
use Rattle.pc_numbers.specs.declared.runtime.ResourceIndex.{ResourceIndex}
use Rattle.pc_types.specs.declared.module_record.ModuleRecord.{ModuleRecord}
use Rattle.pc_types.specs.TypeTree.{Identity}
use Rattle.pc_types_lists.specs.Types.{Types}
use Rattle.pc_spec_plan.specs.CoreValue.{CoreValue, map_value}
use Rattle.pc_spec_plan.specs.Log.{Entry, Instantiation, declared, declared_resource, erase_entry, erase_owned, instances_of}
use Rattle.pc_spec_plan.specs.Log.{instantiated, made, needed, of_host, of_static, trace}
use Rattle.pc_spec_plan.specs.Machine.{RuntimeInstance, State, adapter_from, owned_instances, run}
use Rattle.pc_spec_plan.specs.PlanView.{AdapterRecord, PlanView}
use Rattle.pc_spec_plan.specs.Trace.{run_trace}
use Rattle.pc_trampoline.specs.declared.part.Mark.{Mark}
use Rattle.pc_info.specs.declared.module.ModuleTranslation.{ModuleTranslation}
use Rattle.pc_info.specs.Modules.{adapters_view}
use Rattle.pc_spec_reading.specs.Reading.{Reading}
use Rattle.pc_spec_adapt.specs.Needs.{made_adapter}
use Rattle.pc_spec_adapt.specs.Record.{Member, functions_in, records_of}
use Rattle.pc_spec_wiring.specs.Confined.{IsConfined, IsConfinedRun}
use Rattle.pc_confined.proofs.RunLemmas.{run_confined}
use Rattle.pc_adapt_laws.specs.Found.{HoldFrom}
use Rattle.pc_adapt_marks.proofs.PlannedLemmas.{planned_mapped}
use Rattle.pc_adapt_modules.specs.Entities.{signature_number}
use Rattle.pc_adapt_partition.specs.Adapted.{values_for}
use Rattle.pc_inline_state.specs.Holds.{ReadsAs, number_of, whole_of}
use Rattle.pc_spec_adapt.specs.Import.{map_import}
use Rattle.pc_translate.specs.Adapted.{Adapts, IsPlanned, NumberedMember, as_handed_in, map_member, whole_adapter}
use Rattle.pc_translate.specs.Adapted.{with_numbers}
use Rattle.pc_translate.specs.Adapters.{lift_facts, lift_width, lower_facts, lower_width}
use Rattle.pc_translate.proofs.ErasureLemmas.{value_erased}
use Rattle.pc_translate.proofs.OwnModuleLemmas.{IsOwnModule, own_modules}
use Rattle.pc_translate.proofs.SaidLemmas.{IsMember, IsSaidOf, all_in, behind_map, contains_at, in_all, map_at}
use Rattle.pc_translate.proofs.SaidLemmas.{nothing_said, place_of, said_one, said_where, views_append}

-- an item of a list that some items of another make
made_by : {A B : Type 0} (f : A → Option B) (xs : List A) (n : ℕ) (y : B) → slice_get (filter_map f xs) n ≡ Some y
    → (k : ℕ) × (x : A) × (slice_get xs k ≡ Some x) × (f x ≡ Some y)
made_by f [] n y at = absurd (none-some y at)
made_by {A} {B} f (x ∷ xs) n y at = by (λ m at_m. made_by f xs m y at_m) (f x) refl n at
  where
    by : ((m : ℕ) → slice_get (filter_map f xs) m ≡ Some y
        → (k : ℕ) × (z : A) × (slice_get xs k ≡ Some z) × (f z ≡ Some y))
        → (o : Option B) → f x ≡ o → (m : ℕ) → slice_get (cons_option o (filter_map f xs)) m ≡ Some y
        → (k : ℕ) × (z : A) × (slice_get (x ∷ xs) k ≡ Some z) × (f z ≡ Some y)
    by rest None is m at_m = let later = rest m at_m in (suc later.0, later.1, later.2, later.3)
    by rest (Some z) is zero at_m = (0, x, refl, is ∙ at_m)
    by rest (Some z) is (suc m) at_m = let later = rest m at_m in (suc later.0, later.1, later.2, later.3)

-- an adapter that a log makes stands in an entry of it
is_made : {τ : Type 0} (e : Entry τ) (v : CoreValue τ) → made_adapter e ≡ Some v → e ≡ made v
is_made (instantiated i c) v is = absurd (none-some v is)
is_made (declared_resource r d c) v is = absurd (none-some v is)
is_made (declared x) v is = absurd (none-some v is)
is_made (made x) v is = ap made (same_Some x v is)
is_made (needed path) v is = absurd (none-some v is)

abbrev number_in : {τ : Type 0} → Instantiation τ → ℕ
number_in (of_static n vs) = n
number_in (of_host path vs) = 0

abbrev arguments_in : {τ : Type 0} → Instantiation τ → List (CoreValue τ)
arguments_in (of_static n vs) = vs
arguments_in (of_host path vs) = []

module _ (types : Types) (ms : List ModuleRecord) (r : Reading) (modules : List ModuleTranslation) (last : State Mark)
    (p : PlanView Mark) (adapts : Adapts types ms r modules last) where
  abbrev reads : (ResourceIndex → Identity) → Type 0
  reads = ReadsAs r.imported_resources

  abbrev Numbered : Type 0
  Numbered = NumberedMember types ms r

  abbrev numbered : List Numbered → List (Member Mark)
  numbered members = with_numbers types ms r members

  -- the adapter of a member is one that the reading makes, its types aside
  made_there : (k : ℕ) (members : List Numbered) (j : ℕ) (x : Numbered) → slice_get adapts.groups k ≡ Some members
      → slice_get members j ≡ Some x
      → Contains (map erase_entry r.log) (erase_entry (made (map_value (number_of types reads) x.adapter)))
  made_there k members j x at at_j =
      let all = flat_map (λ (g : List Numbered). g) adapts.groups in
      let whole = in_all adapts.groups k members j x at at_j in
      let v = whole_adapter types ms r x in
      let there = ap (λ vs. slice_get vs whole.0) (sym adapts.adapters)
      ∙ map_at (whole_adapter types ms r) all whole.0 x whole.1 in
      let logged = made_by made_adapter r.log whole.0 v there in
      let is = is_made logged.1 v logged.3 in
      let same = value_erased (whole_of types reads) x.adapter ∙ sym (value_erased (number_of types reads) x.adapter) in
      contains_at (map erase_entry r.log) logged.0 (erase_entry (made (map_value (number_of types reads) x.adapter)))
      (map_at erase_entry r.log logged.0 logged.1 logged.2 ∙ ap (λ e. Some (erase_entry e)) is
      ∙ ap (λ w. Some (made w)) same)

  -- a member with numbers has what is planned for it
  is_member : (x : Numbered) → IsPlanned types ms r x → IsMember (map_member (number_of types reads) x)
  is_member x planned = record {
    lift_facts = lift_facts (whole_adapter types ms r x);
    lower_facts = lower_facts (whole_adapter types ms r x);
    is_transparent = planned.transparent;
    lift_wide = lift_width ms r (whole_adapter types ms r x);
    lower_wide = lower_width ms r (whole_adapter types ms r x);
    imports = ap (map (map_import (number_of types reads))) planned.imports
        ∙ sym (planned_mapped (number_of types reads) (lift_facts (whole_adapter types ms r x))
        (lower_facts (whole_adapter types ms r x)) planned.transparent (lift_width ms r (whole_adapter types ms r x))
        (lower_width ms r (whole_adapter types ms r x)) x.adapter);
  }

  are_members : (k : ℕ) (members : List Numbered) → slice_get adapts.groups k ≡ Some members
      → All IsMember (numbered members)
  are_members k members at =
      All-map IsMember (map_member (number_of types reads)) members
      (All-weaker (IsPlanned types ms r) (λ x. IsMember (map_member (number_of types reads) x)) is_member members
      (all_in (IsPlanned types ms r) adapts.groups k members at adapts.planned))

  module _ (handed_in : p.handed_in ≡ ms) (are : p.adapters ≡ adapters_view 0 modules) (runs : run p ≡ Some last) where
    -- what is said of an adapter is said of one of a group
    said_of : (a : AdapterRecord Mark) → Contains p.adapters a → IsSaidOf (length ms) (map numbered adapts.groups) a
    said_of a at =
        said_where (length ms) (map numbered adapts.groups) adapts.added adapts.are a
        (subst (λ rs. Contains rs a) (are ∙ ap (adapters_view 0) adapts.modules_are
        ∙ views_append 0 (map as_handed_in ms) adapts.added
        ∙ (λ i. nothing_said 0 (map as_handed_in ms) (none_said ms) i ++ adapters_view (long ms i) adapts.added)) at)
      where
        none_said : (rs : List ModuleRecord) → All (λ (m : ModuleTranslation). m.adapters ≡ []) (map as_handed_in rs)
        none_said rs =
            All-map (λ (m : ModuleTranslation). m.adapters ≡ []) as_handed_in rs
            (All-weaker (Contains rs) (λ (x : ModuleRecord). (as_handed_in x).adapters ≡ []) (λ x held. refl) rs
            (All-contains_itself rs))

        long : (rs : List ModuleRecord) → 0 + length (map as_handed_in rs) ≡ length rs
        long [] = refl
        long (x ∷ rs) = let rest = long rs in omega (arith, rest)

    -- so it stands for an adapter that the reading makes
    told : (i : RuntimeInstance Mark) (m : ℕ) (args : List (CoreValue Mark)) (a : AdapterRecord Mark)
        (v : CoreValue Mark) → Contains last.instances i → i.instantiation ≡ of_static m args → Contains p.adapters a
        → a.core_module ≡ m → adapter_from p args a ≡ Some v
        → Contains (map erase_entry r.log) (erase_entry (made v))
    told i m args a v at is held number found = by i.component_instance refl (said_of a held)
      where
        by : (o : Option ℕ) → i.component_instance ≡ o → IsSaidOf (length ms) (map numbered adapts.groups) a
            → Contains (map erase_entry r.log) (erase_entry (made v))
        by (Some c) own said =
            let below : m < length ms =
            subst (λ rs. m < length rs) handed_in
            (All-contains (IsOwnModule p) last.instances i (own_modules p last runs) at m c args is own) in
            let place = said.number in
            absurd (omega (arith, number, below, place))
        by None none said =
            let place = place_of last.instances i at in
            let given = adapts.given place.0 i place.1 none in
            let static = sym is ∙ given.3 in
            let m_is : m ≡ length ms + given.0 = ap number_in static in
            let args_are : args ≡ values_for (numbered given.1) = ap arguments_in static in
            let same_place : said.place ≡ given.0 = omega (arith, number, m_is, said.number) in
            let members_are : said.members ≡ numbered given.1 =
            same_Some said.members (numbered given.1)
            (sym said.at ∙ ap (slice_get (map numbered adapts.groups)) same_place
            ∙ map_at numbered adapts.groups given.0 given.1 given.2) in
            let hold : HoldFrom args 0 (values_for (numbered given.1)) = λ j w at_j.
            let place : 0 + j ≡ j = omega arith in
            ap (slice_get args) place ∙ ap (λ ws. slice_get ws j) args_are ∙ at_j in
            let s = length ms + said.place in
            let of_members = subst (λ xs. Contains (records_of signature_number s xs) a) members_are said.said in
            let one = said_one p args s (functions_in signature_number (numbered given.1)) 0 (numbered given.1)
            (are_members given.0 given.1 given.2) hold a of_members v found in
            let whole = behind_map (map_member (number_of types reads)) given.1 one.0 one.1 one.2 in
            subst (λ w. Contains (map erase_entry r.log) (erase_entry (made w)))
            (ap (λ (x : Member Mark). x.adapter) whole.2 ∙ one.3)
            (made_there given.0 given.1 one.0 whole.0 given.2 whole.1)

    -- a run that makes the core instances and the trace of a confined reading is confined
    pub confined_run : map erase_owned (owned_instances last) ≡ map erase_owned (instances_of r.log)
        → option_map (map erase_entry) (run_trace p) ≡ Some (map erase_entry (trace r.log)) → IsConfined r.log
        → IsConfinedRun p last
    confined_run same traced confined =
        run_confined p last r.log confined
        (record { runs = runs; instances = same; traced = traced; adapters = told })
