-- A list of definitions uses the slots of a context exactly where the list of its values does, whatever marks these
-- have.
use Rattle.std.proofs.Common.{◌≡◌, ℕ, Bool, false, ◌||◌, List, [], ◌∷◌, ◌++◌, map, Option, refl, sym}
use Rattle.std.proofs.Common.{ap, ◌∙◌}
use Rattle.std.specs.Prelude.{option_map}
use Rattle.std.specs.List.{AllZip, list_any}
use Rattle.std.proofs.lemmas.List.Folds.{list_any-append}
use Rattle.pc_numbers.specs.declared.module_entity.MemoryIndex.{MemoryIndex}
use Rattle.pc_spec_plan.specs.CoreValue as value
use Rattle.pc_spec_plan.specs.CoreValue.{CoreValue, DataModel, MaybeValue, Options, map_maybe, map_model, map_options}
use Rattle.pc_spec_plan.specs.CoreValue.{map_value}
use Rattle.pc_spec_plan.specs.Log.{Instantiation, NamedArgument, map_argument, map_instantiation, of_host, of_static}
use Rattle.pc_spec_plan.specs.PlanView as plan
use Rattle.pc_trampoline.specs.declared.part.Mark.{Mark}
use Rattle.pc_spec_wiring.specs.Held.{arguments_of, lifts_of, maybe_list, model_list, options_list}
use Rattle.pc_spec_wiring.specs.Opaque.{is_context_value}
use Rattle.pc_dfg.specs.declared.adapter.AdapterOptions.{AdapterOptions}
use Rattle.pc_dfg.specs.declared.adapter.DataModel.{DataModel as SideModel}
use Rattle.pc_dfg.specs.declared.core_def.CoreDef.{CoreDef}
use Rattle.pc_dfg.specs.declared.core_def.CoreExport.{CoreExport}
use Rattle.pc_dfg.specs.declared.dfg.ComponentDfg.{ComponentDfg}
use Rattle.pc_dfg.specs.declared.instance.Instance.{Instance}
use Rattle.pc_dfg.specs.Effects.{Argument, MeansArgument, MeansInstance, host_arguments, means_host, means_static}
use Rattle.pc_dfg.specs.Means.{Means, MeansEntry, MeansMaybe, MeansModel, MeansSide, MeansSideModel, MeansSlot}
use Rattle.pc_dfg.specs.Means.{MeansTrampoline, means_adapter, means_builtin, means_entry, means_export, means_flags}
use Rattle.pc_dfg.specs.Means.{means_gc}
use Rattle.pc_dfg.specs.Means.{means_helper, means_intrinsic, means_linear, means_lowered, means_no_slot, means_none}
use Rattle.pc_dfg.specs.Means.{means_side, means_side_gc, means_side_linear, means_slot, means_some, means_trampoline}
use Rattle.pc_dfg.specs.Names.{if_any, in_entry, in_instance, in_model, in_side, in_side_model, in_slot}
use Rattle.pc_dfg.specs.Numbers.{memory_def}
use Rattle.pc_analysis_transparent.specs.Context.{is_context_def, uses_context}

-- whether one of these core values reads or writes the slots of a context
unfoldable pub any_context : {τ : Type 0} → List (CoreValue τ) → Bool
any_context vs = list_any is_context_value vs

pub any_both : {τ : Type 0} (vs ws : List (CoreValue τ)) → any_context (vs ++ ws) ≡ (any_context vs || any_context ws)
unfolding any_context
any_both vs ws = list_any-append is_context_value vs ws

uses_both : (ds es : List CoreDef) → uses_context (ds ++ es) ≡ (uses_context ds || uses_context es)
unfolding uses_context
uses_both ds es = list_any-append is_context_def ds es

-- the same of both
both_same : {τ : Type 0} (ds es : List CoreDef) (vs ws : List (CoreValue τ)) → uses_context ds ≡ any_context vs
    → uses_context es ≡ any_context ws → uses_context (ds ++ es) ≡ any_context (vs ++ ws)
both_same ds es vs ws a b = uses_both ds es ∙ (λ i. a i || b i) ∙ sym (any_both vs ws)

none_same : uses_context [] ≡ any_context {τ = Mark} []
unfolding uses_context any_context
none_same = refl

one_same : {τ : Type 0} (d : CoreDef) (v : CoreValue τ) → is_context_def d ≡ is_context_value v
    → uses_context (d ∷ []) ≡ any_context (v ∷ [])
unfolding uses_context any_context
one_same d v same = ap (λ b. b || false) same

pub more_same : {τ : Type 0} (d : CoreDef) (ds : List CoreDef) (v : CoreValue τ) (vs : List (CoreValue τ))
    → is_context_def d ≡ is_context_value v → uses_context ds ≡ any_context vs
    → uses_context (d ∷ ds) ≡ any_context (v ∷ vs)
unfolding uses_context any_context
more_same d ds v vs a b = λ i. a i || b i

module _ (g : ComponentDfg) where
  -- a definition is of a context exactly where its value is
  pub context_same : {d : CoreDef} {v : CoreValue Mark} → Means g d v → is_context_def d ≡ is_context_value v
  context_same means_export = refl
  context_same means_flags = refl
  context_same (means_trampoline at means) = declared means
    where
      declared : {e : plan.TrampolineEntry Mark} {v : CoreValue Mark} → MeansTrampoline g e v
          → false ≡ is_context_value v
      declared (means_lowered path options) = refl
      declared (means_builtin parts) = refl
      declared (means_helper parts) = refl
  context_same means_intrinsic = refl
  context_same (means_adapter at lift lower callee) = refl

  -- what may be left out
  pub maybe_same : {o : Option CoreDef} {v : MaybeValue Mark} → MeansMaybe g o v
      → uses_context (if_any o) ≡ any_context (maybe_list v)
  maybe_same means_none = none_same
  maybe_same (means_some {d = d} {v = v} means) = one_same d v (context_same means)

  -- a side of an adapter
  side_model_same : {m : SideModel} {v : DataModel Mark} → MeansSideModel g m v
      → uses_context (in_side_model m) ≡ any_context (model_list v)
  side_model_same means_side_gc = none_same
  side_model_same (means_side_linear {m = m} {r = r} {memory = v} {realloc = w} a b) =
      both_same (if_any (option_map (λ (x : CoreExport MemoryIndex × Bool). memory_def x.0) m)) (if_any r)
      (maybe_list v) (maybe_list w) (maybe_same a) (maybe_same b)

  pub side_same : {o : AdapterOptions} {v : Options Mark} → MeansSide g o v
      → uses_context (in_side o) ≡ any_context (options_list v)
  side_same (means_side {x = o} {callback = c} {post_return = p} {model = m} a b d) =
      both_same (if_any o.callback ++ if_any o.post_return) (in_side_model o.data_model)
      (maybe_list c ++ maybe_list p) (model_list m)
      (both_same (if_any o.callback) (if_any o.post_return) (maybe_list c) (maybe_list p) (maybe_same a) (maybe_same b))
      (side_model_same d)

  -- an entry of options
  slot_same : {k : plan.SlotKind} {n : Option ℕ} {v : MaybeValue Mark} → MeansSlot g k n v
      → uses_context (in_slot g k n) ≡ any_context (maybe_list v)
  slot_same means_no_slot = none_same
  slot_same (means_slot {d = d} {v = v} at means) =
      ap (λ o. uses_context (if_any o)) at ∙ one_same d v (context_same means)

  model_same : {e : plan.ModelEntry} {v : DataModel Mark} → MeansModel g e v
      → uses_context (in_model g e) ≡ any_context (model_list v)
  model_same means_gc = none_same
  model_same (means_linear {m = m} {r = r} {memory = v} {realloc = w} a b) =
      both_same (in_slot g plan.memory m) (in_slot g plan.realloc r) (maybe_list v) (maybe_list w) (slot_same a)
      (slot_same b)

  pub entry_same : {e : plan.PlanOptions Mark} {v : Options Mark} → MeansEntry g e v
      → uses_context (in_entry g e) ≡ any_context (options_list v)
  entry_same (means_entry {e = e} {callback = c} {post_return = p} {model = m} a b d) =
      both_same (in_slot g plan.callback e.callback ++ in_slot g plan.post_return e.post_return) (in_model g e.model)
      (maybe_list c ++ maybe_list p) (model_list m)
      (both_same (in_slot g plan.callback e.callback) (in_slot g plan.post_return e.post_return) (maybe_list c)
      (maybe_list p) (slot_same a) (slot_same b))
      (model_same d)

  -- the arguments of a core instance
  all_same : (ds : List CoreDef) (vs : List (CoreValue Mark)) → AllZip (Means g) ds vs
      → uses_context ds ≡ any_context vs
  all_same [] [] zip = none_same
  all_same [] (v ∷ vs) zip = absurd zip
  all_same (d ∷ ds) [] zip = absurd zip
  all_same (d ∷ ds) (v ∷ vs) zip = more_same d ds v vs (context_same zip.0) (all_same ds vs zip.1)

  named_same : (ds : List Argument) (vs : List (NamedArgument Mark)) → AllZip (MeansArgument g) ds vs
      → uses_context (map (λ (a : Argument). a.1.1) ds) ≡ any_context (map (λ (a : NamedArgument Mark). a.value) vs)
  named_same [] [] zip = none_same
  named_same [] (v ∷ vs) zip = absurd zip
  named_same (d ∷ ds) [] zip = absurd zip
  named_same (d ∷ ds) (v ∷ vs) zip =
      more_same d.1.1 (map (λ (a : Argument). a.1.1) ds) v.value (map (λ (a : NamedArgument Mark). a.value) vs)
      (context_same zip.0.value) (named_same ds vs zip.1)

  pub instance_same : {x : Instance} {v : Instantiation Mark} → MeansInstance g x v
      → uses_context (in_instance x) ≡ any_context (arguments_of v)
  unfolding in_instance
  instance_same (means_static {args = args} {vs = vs} zip) = all_same args vs zip
  instance_same (means_host {args = args} {vs = vs} path zip) = named_same (host_arguments args) vs zip

-- the same values with other marks
module _ {τ υ : Type 0} (f : τ → υ) where
  pub value_mapped : (v : CoreValue τ) → is_context_value (map_value f v) ≡ is_context_value v
  value_mapped (value.exported n item) = refl
  value_mapped (value.lowered path ty o) = refl
  value_mapped (value.builtin k c ps) = refl
  value_mapped (value.intrinsic n) = refl
  value_mapped (value.adapter t lift u lower callee) = refl
  value_mapped (value.flags c) = refl
  value_mapped (value.helper k ps) = refl

  more_mapped : (v : CoreValue τ) (vs : List (CoreValue τ)) (ws : List (CoreValue υ))
      → any_context ws ≡ any_context vs → any_context (map_value f v ∷ ws) ≡ any_context (v ∷ vs)
  unfolding any_context
  more_mapped v vs ws rest = let first = value_mapped v in λ i. first i || rest i

  both_mapped : (vs ws : List (CoreValue τ)) (xs ys : List (CoreValue υ)) → any_context xs ≡ any_context vs
      → any_context ys ≡ any_context ws → any_context (xs ++ ys) ≡ any_context (vs ++ ws)
  both_mapped vs ws xs ys a b = any_both xs ys ∙ (λ i. a i || b i) ∙ sym (any_both vs ws)

  none_mapped : any_context {τ = υ} [] ≡ any_context {τ = τ} []
  unfolding any_context
  none_mapped = refl

  pub maybe_mapped : (v : MaybeValue τ) → any_context (maybe_list (map_maybe f v)) ≡ any_context (maybe_list v)
  maybe_mapped value.no_value = none_mapped
  maybe_mapped (value.a_value v) = more_mapped v [] [] none_mapped

  model_mapped : (m : DataModel τ) → any_context (model_list (map_model f m)) ≡ any_context (model_list m)
  model_mapped value.gc = none_mapped
  model_mapped (value.linear memory realloc) =
      both_mapped (maybe_list memory) (maybe_list realloc) (maybe_list (map_maybe f memory))
      (maybe_list (map_maybe f realloc)) (maybe_mapped memory) (maybe_mapped realloc)

  pub options_mapped : (o : Options τ) → any_context (options_list (map_options f o)) ≡ any_context (options_list o)
  options_mapped (value.options c encoding is_async signature callback post_return model) =
      both_mapped (maybe_list callback ++ maybe_list post_return) (model_list model)
      (maybe_list (map_maybe f callback) ++ maybe_list (map_maybe f post_return)) (model_list (map_model f model))
      (both_mapped (maybe_list callback) (maybe_list post_return) (maybe_list (map_maybe f callback))
      (maybe_list (map_maybe f post_return)) (maybe_mapped callback) (maybe_mapped post_return))
      (model_mapped model)

  pub lifts_mapped : (o : Options τ) (v : CoreValue τ)
      → any_context (lifts_of (map_options f o) (map_value f v)) ≡ any_context (lifts_of o v)
  lifts_mapped o v = more_mapped v (options_list o) (options_list (map_options f o)) (options_mapped o)

  all_mapped : (vs : List (CoreValue τ)) → any_context (map (map_value f) vs) ≡ any_context vs
  all_mapped [] = none_mapped
  all_mapped (v ∷ vs) = more_mapped v vs (map (map_value f) vs) (all_mapped vs)

  named_mapped : (vs : List (NamedArgument τ))
      → any_context (map (λ (a : NamedArgument υ). a.value) (map (map_argument f) vs))
      ≡ any_context (map (λ (a : NamedArgument τ). a.value) vs)
  named_mapped [] = none_mapped
  named_mapped (v ∷ vs) = more_mapped v.value (map (λ (a : NamedArgument τ). a.value) vs) _ (named_mapped vs)

  pub arguments_mapped : (i : Instantiation τ)
      → any_context (arguments_of (map_instantiation f i)) ≡ any_context (arguments_of i)
  arguments_mapped (of_static n args) = all_mapped args
  arguments_mapped (of_host path args) = named_mapped args
