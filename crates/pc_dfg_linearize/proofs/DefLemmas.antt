-- What a definition stands for in a run, where all that it names has its number.
use Rattle.std.proofs.Common.{◌≡◌, ◌<◌, ◌≤◌, ◌+◌, ℕ, true, false, List, [], ◌∷◌, length, All, Option, None, Some}
use Rattle.std.proofs.Common.{filter, refl, sym, ap, subst, ◌∙◌}
use Rattle.std.specs.Prelude.{slice_get, option_and_then, option_map, nat_lt, ◌==◌, unwrap_or}
use Rattle.std.proofs.lemmas.Bool.{lt-ltb, le-ltb}
use Rattle.std.proofs.lemmas.List.Elements.{All-head}
use Rattle.std.proofs.lemmas.Option.{none-some, slice_get_within, slice_get-map}
use Rattle.pc_entity.proofs.LookupLemmas.{found_at}
use Rattle.pc_entity.specs.PackedOption.{as_option}
use Rattle.pc_entity.specs.declared.packed_option.PackedOption.{PackedOption}
use Rattle.pc_entity.specs.declared.packed_option.PackedOption.TheVariants as packed
use Rattle.pc_dfg.specs.declared.ids.AdapterId.{AdapterId}
use Rattle.pc_dfg.specs.declared.ids.AdapterModuleId.{AdapterModuleId}
use Rattle.pc_numbers.specs.declared.entity_index.EntityIndex.{EntityIndex}
use Rattle.pc_numbers.specs.declared.module_entity.ModuleInternedTypeIndex.{ModuleInternedTypeIndex}
use Rattle.pc_numbers.specs.declared.runtime.RuntimeInstanceIndex.{RuntimeInstanceIndex}
use Rattle.pc_numbers.specs.declared.runtime.TrampolineIndex.{TrampolineIndex}
use Rattle.pc_types.specs.declared.intrinsic.UnsafeIntrinsic.{UnsafeIntrinsic}
use Rattle.pc_types.specs.declared.module_record.ModuleRecord.{ModuleRecord}
use Rattle.pc_types.specs.IntrinsicType.{intrinsic_place}
use Rattle.pc_spec_plan.specs.CoreValue as value
use Rattle.pc_spec_plan.specs.CoreValue.{CoreValue, ExportedItem, by_index}
use Rattle.pc_spec_plan.specs.Log.{Entry, Instantiation, of_static, of_host}
use Rattle.pc_spec_plan.specs.Machine.{State, RuntimeInstance, handed_in, adapter_module, module_at}
use Rattle.pc_spec_plan.specs.Machine.{resolve}
use Rattle.pc_spec_plan.specs.Machine.{exported_item, instance_item, owned_before}
use Rattle.pc_spec_plan.specs.PlanView as plan
use Rattle.pc_trampoline.specs.declared.part.Mark.{Mark}
use Rattle.pc_trampoline.specs.declared.part.Mark.TheVariants as mark
use Rattle.pc_info.specs.declared.module.ModuleTranslation.{ModuleTranslation}
use Rattle.pc_info.specs.Definitions.{def_view, item_view}
use Rattle.pc_info.specs.Modules.{handed_in_view}
use Rattle.pc_info.specs.View.{intrinsic_view}
use Rattle.pc_dfg.specs.declared.core_def.CoreDef.{CoreDef}
use Rattle.pc_dfg.specs.declared.core_def.CoreDef.TheVariants as def
use Rattle.pc_dfg.specs.declared.core_def.CoreExport.{CoreExport}
use Rattle.pc_dfg.specs.declared.dfg.ComponentDfg.{ComponentDfg}
use Rattle.pc_dfg.specs.declared.instance.Instance.{Instance}
use Rattle.pc_dfg.specs.Effects.{MeansInstance, means_static, means_host}
use Rattle.pc_dfg.specs.Means.{Means, means_export, means_flags, means_trampoline, means_intrinsic, means_adapter}
use Rattle.pc_dfg.specs.Names.{each_of}
use Rattle.pc_dfg.proofs.UniqueLemmas.{means_unique}
use Rattle.pc_dfg.proofs.ZipLemmas.{zip_unique}
use Rattle.pc_dfg_linearize.specs.declared.id.Id.TheVariants as id
use Rattle.pc_dfg_linearize.specs.declared.state.Finish.{Finish}
use Rattle.pc_dfg_linearize.specs.Converted.{adapter_def, def_in, instance_of}
use Rattle.pc_dfg_linearize.specs.Numbers.{number_at}
use Rattle.pc_dfg_linearize.specs.Parts.{HasNumber, in_def, intrinsic_number, number_of}
use Rattle.pc_dfg_linearize.specs.Plan.{Extends}
use Rattle.pc_dfg_linearize.specs.Reached.{Placed, Reached}
use Rattle.pc_dfg_linearize.specs.Ready.{IsReadyDef}
use Rattle.pc_dfg_linearize.specs.Wired.{Has, IsWired, Occurs, records_of}

-- a module that was handed in is found by its number
pub handed_in_at : (p : plan.PlanView Mark) (m : ℕ) (r : ModuleRecord) → slice_get p.handed_in m ≡ Some r
    → module_at p m ≡ Some (handed_in r)
handed_in_at p m r at = rw (lt-ltb m (length p.handed_in) (slice_get_within p.handed_in m r at), at) refl

-- and a module of adapters, behind those
pub adapters_at : (g : ComponentDfg) (ms : List ModuleTranslation) (p : plan.PlanView Mark) (m : ℕ) → Has g ms p
    → length (handed_in_view ms) ≤ m
    → m < length (handed_in_view ms) + p.adapter_modules
    → module_at p m ≡ Some (adapter_module (records_of g ms m))
adapters_at g ms p m has behind there =
    let first : nat_lt m (length p.handed_in) ≡ false =
    ap (λ (l : List ModuleRecord). nat_lt m (length l)) has.handed_in ∙ le-ltb m (length (handed_in_view ms)) behind in
    let second : nat_lt m (length p.handed_in + p.adapter_modules) ≡ true =
    ap (λ (l : List ModuleRecord). nat_lt m (length l + p.adapter_modules)) has.handed_in
    ∙ lt-ltb m (length (handed_in_view ms) + p.adapter_modules) there in
    rw (first, second)
    (ap (λ (l : List (plan.AdapterRecord Mark)). Some (adapter_module (filter (λ (r : plan.AdapterRecord Mark).
    r.core_module == m) l))) has.adapters)

-- an item of an instance that is there
item_at : (p : plan.PlanView Mark) (s : State Mark) (n : ℕ) (item : ExportedItem) (m : RuntimeInstance Mark)
    (v : CoreValue Mark) → slice_get s.instances n ≡ Some m
    → instance_item p (owned_before s n) item m.instantiation ≡ Some v → exported_item p s n item ≡ Some v
item_at p s n item m v at is = rw at is

module _ {g : ComponentDfg} {ms : List ModuleTranslation} {f : Finish} {s : State Mark} {p : plan.PlanView Mark}
    (wired : IsWired g ms) (placed : Placed g f s) (extends : Extends g ms f p) where
  -- what is taken from an instance that was made for a component instance
  item_of_made : (k : ℕ) (e : CoreExport EntityIndex) (x : Instance) (i : Instantiation Mark)
      → slice_get g.instances k ≡ Some x → MeansInstance g x i → Occurs g (def.Export e) → e.instance.0 ≡ k
      → instance_item p k (item_view e.item) i ≡ Some (value.exported k (item_view e.item))
  item_of_made k e x (of_static n vs) at (means_static {m = m} {args = args} zip) occurs is =
      let given = wired.arguments k m args at in
      let r = given.0 in
      let has = wired.items k m args e r at occurs is given.1 in
      let there = handed_in_at p m.0 r (ap (λ (l : List ModuleRecord). slice_get l m.0) extends.has.handed_in
      ∙ given.1) in
      rw (there, has) refl
  item_of_made k e x (of_host path vs) at (means_host host zip) occurs is = refl

  export_resolves : (e : CoreExport EntityIndex) → Occurs g (def.Export e) → e.instance.0 < length f.instances
      → exported_item p s (instance_of f e.instance.0).0 (item_view e.item)
      ≡ Some (value.exported e.instance.0 (item_view e.item))
  export_resolves e occurs ready =
      let found = found_at f.instances e.instance.0 ready in
      let here = placed.instance e.instance.0 found.0 found.1 in
      let item = item_view e.item in
      let v = value.exported e.instance.0 item in
      let made = item_of_made e.instance.0 e here.2 here.0.instantiation here.6 here.7 occurs refl in
      subst (λ (o : Option RuntimeInstanceIndex). exported_item p s (unwrap_or o (record { 0 = 0 })).0 item ≡ Some v)
      (sym found.1)
      (item_at p s found.0.0 item here.0 v here.3
      (subst (λ (k : ℕ). instance_item p k item here.0.instantiation ≡ Some v) (sym here.5) made))

  intrinsic_resolves : (i : UnsafeIntrinsic) (n : ℕ) → intrinsic_number f i ≡ Some n
      → resolve p s (plan.intrinsic (intrinsic_place i)) ≡ Some (value.intrinsic (intrinsic_place i))
  intrinsic_resolves i n numbered =
      by (slice_get f.intrinsics (intrinsic_place i)) refl numbered
    where
      place : ℕ
      place = intrinsic_place i

      by : (o : Option (PackedOption ModuleInternedTypeIndex)) → slice_get f.intrinsics place ≡ o
          → option_map (λ (s : ModuleInternedTypeIndex). place) (option_and_then as_option o) ≡ Some n
          → resolve p s (plan.intrinsic place) ≡ Some (value.intrinsic place)
      by None at has = absurd (none-some n has)
      by (Some packed.None) at has = absurd (none-some n has)
      by (Some (packed.Some x)) at has =
          let noted = slice_get-map intrinsic_view f.intrinsics place ∙ ap (option_map intrinsic_view) at in
          let signed = extends.intrinsics place (mark.Signature x) noted in
          rw signed.1 refl

  adapter_resolves : (a : AdapterId) (q : AdapterModuleId × EntityIndex) (n : ℕ) (v : CoreValue Mark)
      → slice_get g.adapter_partitionings a.0 ≡ Some q → number_at f.numbers.adapter_modules q.0.0 ≡ Some n
      → Means g (def.Adapter a) v → exported_item p s n (by_index q.1) ≡ Some v
  adapter_resolves a q n v at numbered means =
      let here = placed.adapter_module q.0.0 n numbered in
      let x = here.0 in
      let w = wired.adapter_modules q.0.0 x here.2 in
      let there = adapters_at g ms p x.0.0 extends.has w.behind
      (subst (λ (k : ℕ). x.0.0 < length (handed_in_view ms) + k) (sym extends.has.adapter_modules) w.there) in
      let same = zip_unique (Means g) (λ d v w. means_unique g) x.1 w.values here.1 w.means here.3 in
      let given = w.functions a.0 q v p at refl means extends.has in
      item_at p s n (by_index q.1) _ v here.4 (rw (there, ← same) given)

  adapter_numbered : (a : AdapterId) (v : CoreValue Mark) (q : AdapterModuleId × EntityIndex)
      → slice_get g.adapter_partitionings a.0 ≡ Some q → Means g (def.Adapter a) v
      → HasNumber f (id.AdapterModule q.0)
      → resolve p s (def_view (adapter_def f (slice_get g.adapter_partitionings a.0))) ≡ Some v
  unfolding number_of
  adapter_numbered a v q at means n =
      subst (λ (o : Option (AdapterModuleId × EntityIndex)). resolve p s (def_view (adapter_def f o)) ≡ Some v) (sym at)
      (subst (λ (o : Option ℕ). exported_item p s (unwrap_or o 0) (by_index q.1) ≡ Some v) (sym n.1)
      (adapter_resolves a q n.0 v at n.1 means))

-- a trampoline that has its number
trampoline_numbered : (f : Finish) (s : State Mark) (t : TrampolineIndex) (n : ℕ) (v : CoreValue Mark)
    (p : plan.PlanView Mark) → number_at f.numbers.trampolines t.0 ≡ Some n → resolve p s (plan.trampoline n) ≡ Some v
    → resolve p s (plan.trampoline (unwrap_or (number_at f.numbers.trampolines t.0) 0)) ≡ Some v
trampoline_numbered f s t n v p at is =
    subst (λ (o : Option ℕ). resolve p s (plan.trampoline (unwrap_or o 0)) ≡ Some v) (sym at) is

-- the module of an adapter has its number
pub numbered_module : (g : ComponentDfg) (f : Finish) (a : AdapterId) (q : AdapterModuleId × EntityIndex)
    → slice_get g.adapter_partitionings a.0 ≡ Some q → All (HasNumber f) (in_def g (def.Adapter a))
    → HasNumber f (id.AdapterModule q.0)
numbered_module g f a q at numbered =
    All-head (HasNumber f) (id.AdapterModule q.0) []
    (subst (λ (o : Option (AdapterModuleId × EntityIndex)). All (HasNumber f) (each_of (λ (p : AdapterModuleId
    × EntityIndex). id.AdapterModule p.0 ∷ []) o)) at numbered)

-- a definition whose parts have their numbers stands for its value, in each plan that has what was made so far
pub def_resolves : {g : ComponentDfg} {ms : List ModuleTranslation} {f : Finish} {s : State Mark}
    {trace : List (Entry Mark)} {d : CoreDef} {v : CoreValue Mark} {p : plan.PlanView Mark}
    → IsWired g ms → Occurs g d → Reached g ms f s trace → Means g d v → IsReadyDef g (length f.instances) d
    → All (HasNumber f) (in_def g d) → Extends g ms f p → resolve p s (def_view (def_in g f d)) ≡ Some v
unfolding IsReadyDef def_in number_of
def_resolves wired occurs reached (means_export {e = e}) ready numbered extends =
    export_resolves wired reached.placed extends e occurs ready
def_resolves {p = p} wired occurs reached (means_flags {c = c}) ready numbered extends =
    let below : c.0 < p.counts.component_instances =
    subst (λ (n : ℕ). c.0 < n) (sym extends.has.component_instances) ready in
    rw (lt-ltb c.0 p.counts.component_instances below) refl
def_resolves {f = f} {s = s} {v = v} {p = p} wired occurs reached (means_trampoline {t = t} at m) ready numbered
    extends =
    let n = All-head (HasNumber f) (id.Trampoline t) [] numbered in
    trampoline_numbered f s t n.0 v p n.1
    (reached.resolves.trampoline t n.0 v p n.1 (means_trampoline at m) extends)
def_resolves {f = f} wired occurs reached (means_intrinsic {s = t} {i = i}) ready numbered extends =
    let n = All-head (HasNumber f) (id.Intrinsic t i) [] numbered in
    intrinsic_resolves wired reached.placed extends i n.0 n.1
def_resolves {g} {f = f} {s = s} {v = v} {p = p} wired occurs reached (means_adapter {a = a} at lift lower callee)
    ready numbered extends =
    let found = found_at g.adapter_partitionings a.0 ready in
    adapter_numbered wired reached.placed extends a v found.0 found.1 (means_adapter at lift lower callee)
    (numbered_module g f a found.0 found.1 numbered)
