-- What a graph that stands for a reading makes opaque is what its reading does, entry by entry.
use Rattle.std.proofs.Common.{◌≡◌, ℕ, zero, suc, Bool, true, false, ◌||◌, List, [], ◌∷◌, ◌++◌, inl, inr}
use Rattle.std.proofs.Common.{Option, None}
use Rattle.std.proofs.Common.{Some, refl, sym, ap, subst, ◌∙◌, arith, true≢false}
use Rattle.std.specs.Prelude.{slice_get}
use Rattle.std.specs.List.{AllZip, Contains}
use Rattle.std.proofs.lemmas.List.Elements.{Contains-append_cases, Contains-append_left, Contains-append_right}
use Rattle.std.proofs.lemmas.Option.{none-some, same_Some}
use Rattle.pc_numbers.specs.declared.entity_index.EntityIndex.{EntityIndex}
use Rattle.pc_numbers.specs.declared.module_entity.ModuleInternedTypeIndex.{ModuleInternedTypeIndex}
use Rattle.pc_numbers.specs.declared.runtime.ResourceIndex.{ResourceIndex}
use Rattle.pc_numbers.specs.declared.runtime.RuntimeComponentInstanceIndex.{RuntimeComponentInstanceIndex}
use Rattle.pc_numbers.specs.declared.runtime.TrampolineIndex.{TrampolineIndex}
use Rattle.pc_types.specs.declared.intrinsic.UnsafeIntrinsic.{UnsafeIntrinsic}
use Rattle.pc_types.specs.declared.parsed.TypeTable.{TypeTable}
use Rattle.pc_types.specs.declared.type_index.TypeFuncIndex.{TypeFuncIndex}
use Rattle.pc_types.specs.declared.types.TypeDef.{TypeDef}
use Rattle.pc_types.specs.declared.types.TypeDef.TheVariants as type
use Rattle.pc_types.specs.TypeTree.{Identity, TypeTree}
use Rattle.pc_types_lists.specs.Trees.{HasTree}
use Rattle.pc_types_lists.specs.Types.{Types}
use Rattle.pc_spec_plan.specs.CoreValue as value
use Rattle.pc_spec_plan.specs.CoreValue.{CoreValue, Options, map_options, map_value}
use Rattle.pc_spec_plan.specs.ExportNode.{ExportNode, ExportNodes, NamedNode}
use Rattle.pc_spec_plan.specs.Log.{Entry, declared, declared_resource, instantiated, made, map_entry, needed}
use Rattle.pc_spec_plan.specs.PlanView as plan
use Rattle.pc_trampoline.specs.declared.part.Mark.{Mark}
use Rattle.pc_trampoline.specs.declared.part.Mark.TheVariants as mark
use Rattle.pc_info.specs.Modules.{function_mark}
use Rattle.pc_parsed.specs.Mark as reading
use Rattle.pc_parsed.specs.Mark.{of_signature, of_type}
use Rattle.pc_spec_wiring.specs.FunctionTypes.{is_async_type}
use Rattle.pc_spec_wiring.specs.Held.{instance_of, is_async_option, lifted_among, lifted_in, lifts_of}
use Rattle.pc_spec_wiring.specs.Held.{options_list}
use Rattle.pc_dfg.specs.declared.adapter.Adapter.{Adapter}
use Rattle.pc_dfg.specs.declared.adapter.AdapterOptions.{AdapterOptions}
use Rattle.pc_dfg.specs.declared.core_def.CoreDef.{CoreDef}
use Rattle.pc_dfg.specs.declared.core_def.CoreDef.TheVariants as def
use Rattle.pc_dfg.specs.declared.core_def.CoreExport.{CoreExport}
use Rattle.pc_dfg.specs.declared.dfg.ComponentDfg.{ComponentDfg}
use Rattle.pc_dfg.specs.declared.export.Export.{Export}
use Rattle.pc_dfg.specs.declared.export.Export.TheVariants as export
use Rattle.pc_dfg.specs.declared.ids.AdapterId.{AdapterId}
use Rattle.pc_dfg.specs.declared.instance.Instance.{Instance}
use Rattle.pc_dfg.specs.declared.instance.Resource.{Resource}
use Rattle.pc_dfg.specs.declared.instance.SideEffect.{SideEffect}
use Rattle.pc_dfg.specs.declared.options.CanonicalOptions.{CanonicalOptions}
use Rattle.pc_dfg.specs.Effects.{MeansEffect, means_declared, means_made}
use Rattle.pc_dfg.specs.Lists.{NamedExport}
use Rattle.pc_dfg.specs.Means.{Means, MeansEntry, MeansOptions, MeansSide, MeansTrampoline, means_adapter}
use Rattle.pc_dfg.specs.Means.{means_builtin}
use Rattle.pc_dfg.specs.Means.{means_entry, means_export, means_flags, means_helper, means_intrinsic, means_lowered}
use Rattle.pc_dfg.specs.Means.{means_options, means_side, means_trampoline}
use Rattle.pc_dfg.specs.Names.{each_of, in_entry, in_instance, in_resource, in_side}
use Rattle.pc_dfg.specs.Numbers.{SignedTrampoline, options_entry, trampoline_entry}
use Rattle.pc_analysis_transparent.specs.Context.{uses_context}
use Rattle.pc_analysis_transparent.specs.Opened as graph
use Rattle.pc_analysis_transparent.specs.Opened.{by_adapter, by_effect, by_export, by_trampoline, is_async_in, when}
use Rattle.pc_analysis_transparent.proofs.TypeLemmas.{async_told}
use Rattle.pc_inline_state.specs.Fits.{Fits}
use Rattle.pc_inline_state.specs.Holds.{Holds, Numbered, number_of, whole_of}
use Rattle.pc_inline_state.specs.Stands.{CoreStands}
use Rattle.pc_inline_state.specs.Worlds.{EffectStands}
use Rattle.pc_inline_exports.specs.Exports.{NameStands, NestedStand, NodeStands, OptionsMean, and_nested}
use Rattle.pc_inline_exports.specs.Exports.{host_module_stands, imported_stands, instance_stands, lifted_stands}
use Rattle.pc_inline_exports.specs.Exports.{no_nested, static_stands, type_stands}
use Rattle.pc_analysis_reads.specs.Exported.{IsExported, at_root, inside as from_inside}
use Rattle.pc_analysis_reads.proofs.ContextLemmas.{any_context, arguments_mapped, context_same, entry_same}
use Rattle.pc_analysis_reads.proofs.ContextLemmas.{instance_same}
use Rattle.pc_analysis_reads.proofs.ContextLemmas.{lifts_mapped, maybe_mapped, maybe_same, more_same, options_mapped}
use Rattle.pc_analysis_reads.proofs.ContextLemmas.{side_same}
use Rattle.pc_analysis_reads.proofs.ListLemmas.{found_contained, here_in, none_in, one_in, zip_left}
use Rattle.pc_analysis_reads.proofs.ListedLemmas.{by_lifted, in_declared, in_effect, in_made}

-- a trampoline or an adapter is no other definition
export_no_trampoline : (e : CoreExport EntityIndex) (t : TrampolineIndex) → def.Export e ≡ def.Trampoline t → ⊥
export_no_trampoline e t is = grind (arith, is)

flags_no_trampoline : (c : RuntimeComponentInstanceIndex) (t : TrampolineIndex)
    → def.InstanceFlags c ≡ def.Trampoline t → ⊥
flags_no_trampoline c t is = grind (arith, is)

intrinsic_no_trampoline : (s : ModuleInternedTypeIndex) (i : UnsafeIntrinsic) (t : TrampolineIndex)
    → def.UnsafeIntrinsic s i ≡ def.Trampoline t → ⊥
intrinsic_no_trampoline s i t is = grind (arith, is)

adapter_no_trampoline : (a : AdapterId) (t : TrampolineIndex) → def.Adapter a ≡ def.Trampoline t → ⊥
adapter_no_trampoline a t is = grind (arith, is)

one_trampoline : (s t : TrampolineIndex) → def.Trampoline s ≡ def.Trampoline t → s ≡ t
one_trampoline s t is = grind (arith, is)

export_no_adapter : (e : CoreExport EntityIndex) (a : AdapterId) → def.Export e ≡ def.Adapter a → ⊥
export_no_adapter e a is = grind (arith, is)

flags_no_adapter : (c : RuntimeComponentInstanceIndex) (a : AdapterId) → def.InstanceFlags c ≡ def.Adapter a → ⊥
flags_no_adapter c a is = grind (arith, is)

intrinsic_no_adapter : (s : ModuleInternedTypeIndex) (i : UnsafeIntrinsic) (a : AdapterId)
    → def.UnsafeIntrinsic s i ≡ def.Adapter a → ⊥
intrinsic_no_adapter s i a is = grind (arith, is)

trampoline_no_adapter : (t : TrampolineIndex) (a : AdapterId) → def.Trampoline t ≡ def.Adapter a → ⊥
trampoline_no_adapter t a is = grind (arith, is)

one_adapter : (a b : AdapterId) → def.Adapter a ≡ def.Adapter b → a ≡ b
one_adapter a b is = grind (arith, is)

-- the component instance of options, and whether they are async, don't rest on marks
instance_mapped : {τ υ : Type 0} (f : τ → υ) (o : Options τ) → instance_of (map_options f o) ≡ instance_of o
instance_mapped f (value.options c encoding is_async signature callback post_return model) = refl

async_mapped : {τ υ : Type 0} (f : τ → υ) (o : Options τ) → is_async_option (map_options f o) ≡ is_async_option o
async_mapped f (value.options c encoding is_async signature callback post_return model) = refl

declared_mapped : {τ υ : Type 0} (f : τ → υ) (v : CoreValue τ) → in_declared (map_value f v) ≡ in_declared v
declared_mapped f (value.lowered path ty o) = ap (λ n. n ∷ []) (instance_mapped f o)
declared_mapped f (value.builtin k c ps) = refl
declared_mapped f (value.exported n item) = refl
declared_mapped f (value.intrinsic n) = refl
declared_mapped f (value.adapter t lift u lower callee) = refl
declared_mapped f (value.flags c) = refl
declared_mapped f (value.helper k ps) = refl

effect_mapped : {τ υ : Type 0} (f : τ → υ) (e : Entry τ) → in_effect (map_entry f e) ≡ in_effect e
effect_mapped f (instantiated i c) = ap (λ b. when b c) (arguments_mapped f i)
effect_mapped f (declared_resource r d c) = ap (λ b. when b c) (maybe_mapped f d)
effect_mapped f (declared v) = refl
effect_mapped f (made v) = refl
effect_mapped f (needed path) = refl

-- the parts of an adapter's value, where it is one
abbrev is_fused : {τ : Type 0} → CoreValue τ → Bool
is_fused (value.adapter t lift u lower callee) = true
is_fused v = false

abbrev lift_type_of : {τ : Type 0} → τ → CoreValue τ → τ
lift_type_of other (value.adapter t lift u lower callee) = t
lift_type_of other v = other

abbrev lower_type_of : {τ : Type 0} → τ → CoreValue τ → τ
lower_type_of other (value.adapter t lift u lower callee) = u
lower_type_of other v = other

abbrev lift_of : {τ : Type 0} → Options τ → CoreValue τ → Options τ
lift_of other (value.adapter t lift u lower callee) = lift
lift_of other v = other

abbrev lower_of : {τ : Type 0} → Options τ → CoreValue τ → Options τ
lower_of other (value.adapter t lift u lower callee) = lower
lower_of other v = other

abbrev callee_of : {τ : Type 0} → CoreValue τ → CoreValue τ → CoreValue τ
callee_of other (value.adapter t lift u lower callee) = callee
callee_of other v = other

-- what an instance exports
abbrev exports_of : Export → Option (List NamedExport)
exports_of (export.Instance ty es) = Some es
exports_of item = None

module _ (g : ComponentDfg) where
  -- what a trampoline stands for
  trampoline_of : {d : CoreDef} {w : CoreValue Mark} → Means g d w → (t : TrampolineIndex) → d ≡ def.Trampoline t
      → (x : SignedTrampoline) × (slice_get g.trampolines t.0 ≡ Some x) × MeansTrampoline g (trampoline_entry x) w
  trampoline_of (means_export {e = e}) t is = absurd (export_no_trampoline e t is)
  trampoline_of (means_flags {c = c}) t is = absurd (flags_no_trampoline c t is)
  trampoline_of (means_intrinsic {s = s} {i = i}) t is = absurd (intrinsic_no_trampoline s i t is)
  trampoline_of (means_adapter {a = a} at lift lower callee) t is = absurd (adapter_no_trampoline a t is)
  trampoline_of (means_trampoline {t = s} {x = x} at means) t is =
      (x, ap (λ (n : TrampolineIndex). slice_get g.trampolines n.0) (sym (one_trampoline s t is)) ∙ at, means)

  entry_instance : {e : plan.PlanOptions Mark} {o : Options Mark} → MeansEntry g e o
      → instance_of o ≡ e.component_instance
  entry_instance (means_entry callback post_return model) = refl

  -- it makes the component instance opaque that its value does
  made_same : {e : plan.TrampolineEntry Mark} {w : CoreValue Mark} → MeansTrampoline g e w
      → graph.by_entry g e ≡ in_declared w
  made_same (means_lowered path (means_options {x = x} at entry)) =
      ap (each_of (λ (o : CanonicalOptions). o.instance.0 ∷ [])) at ∙ ap (λ n. n ∷ []) (sym (entry_instance entry))
  made_same (means_builtin parts) = refl
  made_same (means_helper parts) = refl

  -- what an adapter stands for
  record Fused (x : Adapter) (w : CoreValue Mark) : Type 0 where
    lift : Options Mark
    lower : Options Mark
    callee : CoreValue Mark
    is : w ≡ value.adapter (function_mark x.lift_ty) lift (function_mark x.lower_ty) lower callee
    of_lift : MeansSide g x.lift_options lift
    of_lower : MeansSide g x.lower_options lower
    of_callee : Means g x.func callee

  fused_of : {d : CoreDef} {w : CoreValue Mark} → Means g d w → (a : AdapterId) → d ≡ def.Adapter a
      → (x : Adapter) × (slice_get g.adapters a.0 ≡ Some x) × Fused x w
  fused_of (means_export {e = e}) a is = absurd (export_no_adapter e a is)
  fused_of (means_flags {c = c}) a is = absurd (flags_no_adapter c a is)
  fused_of (means_intrinsic {s = s} {i = i}) a is = absurd (intrinsic_no_adapter s i a is)
  fused_of (means_trampoline {t = t} at means) a is = absurd (trampoline_no_adapter t a is)
  fused_of (means_adapter {a = b} {x = x} {lift = lift} {lower = lower} {callee = callee} at of_lift of_lower f) a is =
      let place = ap (λ (n : AdapterId). slice_get g.adapters n.0) (sym (one_adapter b a is)) ∙ at in
      let fused : Fused x (value.adapter (function_mark x.lift_ty) lift (function_mark x.lower_ty) lower callee) =
      record {
        lift = lift;
        lower = lower;
        callee = callee;
        is = refl;
        of_lift = of_lift;
        of_lower = of_lower;
        of_callee = f;
      } in
      (x, place, fused)

  side_instance : {x : AdapterOptions} {o : Options Mark} → MeansSide g x o → instance_of o ≡ x.instance.0
  side_instance (means_side callback post_return model) = refl

  side_async : {x : AdapterOptions} {o : Options Mark} → MeansSide g x o → is_async_option o ≡ x.async_
  side_async (means_side callback post_return model) = refl

  -- a side effect makes the component instance opaque that its entry does
  effect_means : {e : SideEffect} {x : Entry Mark} → MeansEffect g e x → by_effect g e ≡ in_effect x
  unfolding by_effect in_resource
  effect_means (means_made {c = c} at means) =
      ap (each_of (λ (y : Instance). when (uses_context (in_instance y)) c.0)) at
      ∙ ap (λ b. when b c.0) (instance_same g means)
  effect_means (means_declared {x = x} at means) =
      ap (each_of (λ (y : Resource). when (uses_context (in_resource y)) y.instance.0)) at
      ∙ ap (λ b. when b x.instance.0) (maybe_same g means)

  -- a lifted function with its options
  lifted_means : {f : CoreDef} {n : ℕ} {v : CoreValue Mark} {o : Options Mark} → Means g f v → MeansOptions g n o
      → graph.in_lift g f n ≡ by_lifted (v, o)
  lifted_means {f} {v = v} {o = o} means (means_options {x = x} at entry) =
      let uses = more_same f (in_entry g (options_entry x)) v (options_list o) (context_same g means)
      (entry_same g entry) in
      let own = sym (entry_instance entry) in
      ap (each_of (λ (p : CanonicalOptions). when (uses_context (f ∷ in_entry g (options_entry p))) p.instance.0)) at
      ∙ (λ i. when (uses i) (own i))

module _ (types : Types) (g : ComponentDfg) where
  abbrev Twice : Type 0
  Twice = Numbered types (Fits g)

  abbrev numbers : Twice → Mark
  numbers = number_of types (Fits g)

  abbrev wholes : Twice → reading.Mark
  wholes = whole_of types (Fits g)

  -- a trampoline that stands for a value
  pub trampoline_same : (k : ℕ) (x : SignedTrampoline) (v : CoreValue reading.Mark) → slice_get g.trampolines k ≡ Some x
      → CoreStands types g (def.Trampoline (record { 0 = k })) v → by_trampoline g x ≡ in_declared v
  unfolding by_trampoline
  trampoline_same k x v at s =
      let of = trampoline_of g s.means (record { 0 = k }) refl in
      let same : x ≡ of.0 = same_Some x of.0 (sym at ∙ of.1) in
      ap (λ (z : SignedTrampoline). graph.by_entry g (trampoline_entry z)) same
      ∙ made_same g of.2
      ∙ declared_mapped numbers s.numbered
      ∙ sym (declared_mapped wholes s.numbered)
      ∙ ap in_declared s.is

  -- the trampoline of what is declared
  pub trampoline_there : (t : TrampolineIndex) (v : CoreValue reading.Mark) → CoreStands types g (def.Trampoline t) v
      → (x : SignedTrampoline) × (slice_get g.trampolines t.0 ≡ Some x)
  trampoline_there t v s = let of = trampoline_of g s.means t refl in (of.0, of.1)

  -- a side effect that does what an entry says
  pub effect_same : (e : SideEffect) (x : Entry reading.Mark) → EffectStands types g e x
      → by_effect g e ≡ in_effect x
  effect_same e x s =
      effect_means g s.means
      ∙ effect_mapped numbers s.numbered
      ∙ sym (effect_mapped wholes s.numbered)
      ∙ ap in_effect s.is

  -- what is known of an adapter that stands for a value
  pub record IsAs (x : Adapter) (v : CoreValue reading.Mark) : Type 0 where
    pub lift_type : reading.Mark
    pub lift : Options reading.Mark
    pub lower_type : reading.Mark
    pub lower : Options reading.Mark
    pub callee : CoreValue reading.Mark
    pub is : v ≡ value.adapter lift_type lift lower_type lower callee
    -- its types
    pub lift_tree : TypeTree
    pub lift_is : lift_type ≡ of_type lift_tree
    pub lift_held : (who : ResourceIndex → Identity) → Fits g who
        → HasTree types who (type.ComponentFunc x.lift_ty) lift_tree
    pub lower_tree : TypeTree
    pub lower_is : lower_type ≡ of_type lower_tree
    pub lower_held : (who : ResourceIndex → Identity) → Fits g who
        → HasTree types who (type.ComponentFunc x.lower_ty) lower_tree
    -- its component instances, and whether its options are async
    pub lift_instance : x.lift_options.instance.0 ≡ instance_of lift
    pub lower_instance : x.lower_options.instance.0 ≡ instance_of lower
    pub lift_async : x.lift_options.async_ ≡ is_async_option lift
    pub lower_async : x.lower_options.async_ ≡ is_async_option lower
    -- whether it uses the slots of a context
    pub lifts : uses_context (x.func ∷ in_side x.lift_options) ≡ any_context (lifts_of lift callee)
    pub lowers : uses_context (in_side x.lower_options) ≡ any_context (options_list lower)

  -- a type that is held under a number
  type_held : (d : TypeDef) (m : reading.Mark) → Holds types (Fits g) (mark.Type_ d) m
      → (tree : TypeTree) × (m ≡ of_type tree)
      × ((who : ResourceIndex → Identity) → Fits g who → HasTree types who d tree)
  unfolding Holds
  type_held d (of_type tree) h = (tree, refl, h)
  type_held d (of_signature s) h = absurd h

  mark_held : (m : Twice) (ty : TypeFuncIndex) → m.number ≡ function_mark ty
      → (tree : TypeTree) × (m.whole ≡ of_type tree)
      × ((who : ResourceIndex → Identity) → Fits g who → HasTree types who (type.ComponentFunc ty) tree)
  mark_held m ty is =
      type_held (type.ComponentFunc ty) m.whole (subst (λ n. Holds types (Fits g) n m.whole) is m.holds)

  by_value : (x : Adapter) (n : CoreValue Twice) → Fused g x (map_value numbers n) → IsAs x (map_value wholes n)
  by_value x (value.adapter lift_type lift lower_type lower callee) f =
      let one = mark_held lift_type x.lift_ty (ap (lift_type_of (numbers lift_type)) f.is) in
      let two = mark_held lower_type x.lower_ty (ap (lower_type_of (numbers lower_type)) f.is) in
      let same_lift : map_options numbers lift ≡ f.lift = ap (lift_of f.lift) f.is in
      let same_lower : map_options numbers lower ≡ f.lower = ap (lower_of f.lower) f.is in
      let same_callee : map_value numbers callee ≡ f.callee = ap (callee_of f.callee) f.is in
      record {
        lift_type = lift_type.whole;
        lift = map_options wholes lift;
        lower_type = lower_type.whole;
        lower = map_options wholes lower;
        callee = map_value wholes callee;
        is = refl;
        lift_tree = one.0;
        lift_is = one.1;
        lift_held = one.2;
        lower_tree = two.0;
        lower_is = two.1;
        lower_held = two.2;
        lift_instance = sym (side_instance g f.of_lift)
            ∙ ap instance_of (sym same_lift)
            ∙ instance_mapped numbers lift
            ∙ sym (instance_mapped wholes lift);
        lower_instance = sym (side_instance g f.of_lower)
            ∙ ap instance_of (sym same_lower)
            ∙ instance_mapped numbers lower
            ∙ sym (instance_mapped wholes lower);
        lift_async = sym (side_async g f.of_lift)
            ∙ ap is_async_option (sym same_lift)
            ∙ async_mapped numbers lift
            ∙ sym (async_mapped wholes lift);
        lower_async = sym (side_async g f.of_lower)
            ∙ ap is_async_option (sym same_lower)
            ∙ async_mapped numbers lower
            ∙ sym (async_mapped wholes lower);
        lifts = more_same x.func (in_side x.lift_options) f.callee (options_list f.lift) (context_same g f.of_callee)
            (side_same g f.of_lift)
            ∙ (λ i. any_context (lifts_of (sym same_lift i) (sym same_callee i)))
            ∙ lifts_mapped numbers lift callee
            ∙ sym (lifts_mapped wholes lift callee);
        lowers = side_same g f.of_lower
            ∙ ap (λ o. any_context (options_list o)) (sym same_lower)
            ∙ options_mapped numbers lower
            ∙ sym (options_mapped wholes lower);
      }
  by_value x (value.exported n item) f = absurd (true≢false (sym (ap is_fused f.is)))
  by_value x (value.lowered path ty o) f = absurd (true≢false (sym (ap is_fused f.is)))
  by_value x (value.builtin k c ps) f = absurd (true≢false (sym (ap is_fused f.is)))
  by_value x (value.intrinsic n) f = absurd (true≢false (sym (ap is_fused f.is)))
  by_value x (value.flags c) f = absurd (true≢false (sym (ap is_fused f.is)))
  by_value x (value.helper k ps) f = absurd (true≢false (sym (ap is_fused f.is)))

  pub is_as : (k : ℕ) (x : Adapter) (v : CoreValue reading.Mark) → slice_get g.adapters k ≡ Some x
      → CoreStands types g (def.Adapter (record { 0 = k })) v → IsAs x v
  is_as k x v at s =
      let of = fused_of g s.means (record { 0 = k }) refl in
      let same : of.0 ≡ x = same_Some of.0 x (sym of.1 ∙ at) in
      subst (λ y. IsAs y v) same (subst (IsAs of.0) s.is (by_value of.0 s.numbered of.2))

  -- it makes the component instances opaque that the value does
  pub fused_same : (x : Adapter) (v : CoreValue reading.Mark) (who : ResourceIndex → Identity) → Fits g who → IsAs x v
      → by_adapter types x ≡ in_made v
  unfolding by_adapter
  fused_same x v who fits a =
      let async = async_told types who x.lift_ty a.lift_tree (a.lift_held who fits)
      ∙ ap is_async_type (sym a.lift_is) in
      let lowers = a.lowers in
      let lower_instance = a.lower_instance in
      let lifts = a.lifts in
      let lift_instance = a.lift_instance in
      (λ i. when (async i || lowers i) (lower_instance i) ++ when (lifts i) (lift_instance i)) ∙ ap in_made (sym a.is)

  module _ (t : TypeTable) where
    -- a lifted function of the graph
    lifted_same : (f : CoreDef) (n : ℕ) (v : CoreValue reading.Mark) (o : Options reading.Mark) → CoreStands types g f v
        → OptionsMean t types g n o → graph.in_lift g f n ≡ by_lifted (v, o)
    lifted_same f n v o s m =
        let first = lifts_mapped numbers m.twice s.numbered ∙ sym (lifts_mapped wholes m.twice s.numbered) in
        let second = instance_mapped numbers m.twice ∙ sym (instance_mapped wholes m.twice) in
        lifted_means g s.means m.means
        ∙ (λ i. when (first i) (second i))
        ∙ (λ i. by_lifted (s.is i, m.is i))

    -- the item of a lifted function that is, or stands in, a node
    pub record HasItem (y : CoreValue reading.Mark × Options reading.Mark) : Type 0 where
      pub number : ℕ
      pub item : Export
      pub at : slice_get g.export_items number ≡ Some item
      pub same : by_export g item ≡ by_lifted y

    mutual
      unfolding by_export

      pub item_there : {n : ℕ} {x : ExportNode reading.Mark} → NodeStands t types g n x
          → (y : CoreValue reading.Mark × Options reading.Mark) → Contains (lifted_in x) y → HasItem y
      item_there (lifted_stands {n = n} {ty = ty} {f = f} {o = o} {v = v} {os = os} at held core options) y inside =
          subst HasItem (one_in (v, os) y inside)
          (record {
            number = n;
            item = export.LiftedFunction ty f o;
            at = at;
            same = lifted_same f o.0 v os core options;
          })
      item_there (imported_stands at leads held) y inside = absurd (none_in y inside)
      item_there (static_stands held at) y inside = absurd (none_in y inside)
      item_there (host_module_stands at leads held) y inside = absurd (none_in y inside)
      item_there (instance_stands at held others) y inside = nested_there others y inside
      item_there (type_stands at held) y inside = absurd (none_in y inside)

      nested_there : {es : List NamedExport} {xs : ExportNodes reading.Mark} → NestedStand t types g es xs
          → (y : CoreValue reading.Mark × Options reading.Mark) → Contains (lifted_among xs) y → HasItem y
      nested_there no_nested y inside = absurd (none_in y inside)
      nested_there (and_nested {x = x} {xs = xs} first rest) y inside =
          elim (Contains-append_cases (lifted_in x) (lifted_among xs) y inside) [
            | inl here ↦ item_there first y here
            | inr later ↦ nested_there rest y later
          ]

    -- the node of a nested export
    nested_at : {es : List NamedExport} {xs : ExportNodes reading.Mark} → NestedStand t types g es xs → (k : ℕ)
        (e : NamedExport) → slice_get es k ≡ Some e
        → (x : ExportNode reading.Mark) × NodeStands t types g e.1.0.0 x
        × ((y : CoreValue reading.Mark × Options reading.Mark) → Contains (lifted_in x) y
        → Contains (lifted_among xs) y)
    nested_at no_nested k e at = absurd (none-some e at)
    nested_at (and_nested {name = name} {n = n} {meta = meta} {x = x} {xs = rest} first more) zero e at =
        let same : (name, (n, meta)) ≡ e = same_Some (name, (n, meta)) e at in (
          x,
          subst (λ (z : NamedExport). NodeStands t types g z.1.0.0 x) same first,
          λ y inside. Contains-append_left (lifted_in x) (lifted_among rest) y inside,
        )
    nested_at (and_nested {x = x} {xs = rest} first more) (suc k) e at =
        let of = nested_at more k e at in
        (of.0, of.1, λ y inside. Contains-append_right (lifted_in x) (lifted_among rest) y (of.2 y inside))

    -- the node of what an instance exports
    inner : {n : ℕ} {x : ExportNode reading.Mark} → NodeStands t types g n x → (item : Export)
        → slice_get g.export_items n ≡ Some item → (es : List NamedExport) → exports_of item ≡ Some es → (k : ℕ)
        (e : NamedExport) → slice_get es k ≡ Some e
        → (z : ExportNode reading.Mark) × NodeStands t types g e.1.0.0 z
        × ((y : CoreValue reading.Mark × Options reading.Mark) → Contains (lifted_in z) y → Contains (lifted_in x) y)
    inner (instance_stands {es = fs} {nodes = xs} here held others) item at es is k e there =
        let same : fs ≡ es = same_Some fs es (ap exports_of (same_Some _ item (sym here ∙ at)) ∙ is) in
        nested_at others k e (ap (λ zs. slice_get zs k) same ∙ there)
    inner (lifted_stands here held core options) item at es is k e there =
        absurd (none-some es (ap exports_of (same_Some _ item (sym here ∙ at)) ∙ is))
    inner (imported_stands here leads held) item at es is k e there =
        absurd (none-some es (ap exports_of (same_Some _ item (sym here ∙ at)) ∙ is))
    inner (static_stands held here) item at es is k e there =
        absurd (none-some es (ap exports_of (same_Some _ item (sym here ∙ at)) ∙ is))
    inner (host_module_stands here leads held) item at es is k e there =
        absurd (none-some es (ap exports_of (same_Some _ item (sym here ∙ at)) ∙ is))
    inner (type_stands here held) item at es is k e there =
        absurd (none-some es (ap exports_of (same_Some _ item (sym here ∙ at)) ∙ is))

    -- an item that makes a component instance opaque does so as a lifted function of its node
    pub lifted_there : {n : ℕ} {x : ExportNode reading.Mark} → NodeStands t types g n x → (item : Export)
        → slice_get g.export_items n ≡ Some item → (c : ℕ) → Contains (by_export g item) c
        → (y : CoreValue reading.Mark × Options reading.Mark) × Contains (lifted_in x) y × Contains (by_lifted y) c
    unfolding by_export
    lifted_there (lifted_stands {ty = ty} {f = f} {o = o} {v = v} {os = os} here held core options) item at c inside =
        let same = ap (by_export g) (sym (same_Some (export.LiftedFunction ty f o) item (sym here ∙ at)))
        ∙ lifted_same f o.0 v os core options in
        ((v, os), here_in (v, os) [], subst (λ l. Contains l c) same inside)
    lifted_there (instance_stands here held others) item at c inside =
        absurd (none_in c (subst (λ l. Contains l c)
        (ap (by_export g) (sym (same_Some _ item (sym here ∙ at)))) inside))
    lifted_there (imported_stands here leads held) item at c inside =
        absurd (none_in c (subst (λ l. Contains l c)
        (ap (by_export g) (sym (same_Some _ item (sym here ∙ at)))) inside))
    lifted_there (static_stands held here) item at c inside =
        absurd (none_in c (subst (λ l. Contains l c)
        (ap (by_export g) (sym (same_Some _ item (sym here ∙ at)))) inside))
    lifted_there (host_module_stands here leads held) item at c inside =
        absurd (none_in c (subst (λ l. Contains l c)
        (ap (by_export g) (sym (same_Some _ item (sym here ∙ at)))) inside))
    lifted_there (type_stands here held) item at c inside =
        absurd (none_in c (subst (λ l. Contains l c)
        (ap (by_export g) (sym (same_Some _ item (sym here ∙ at)))) inside))

    module _ (nodes : List (NamedNode reading.Mark)) (stand : AllZip (NameStands t types g) g.exports nodes) where
      -- the node of an item that is exported
      pub record HasNode (n : ℕ) : Type 0 where
        pub named : NamedNode reading.Mark
        pub there : Contains nodes named
        pub node : ExportNode reading.Mark
        pub stands : NodeStands t types g n node
        -- what is lifted in it is lifted under that name
        pub among : (y : CoreValue reading.Mark × Options reading.Mark) → Contains (lifted_in node) y
            → Contains (lifted_in named.node) y

      pub node_there : {n : ℕ} → IsExported g n → HasNode n
      node_there (at_root k {e} at) =
          let of = zip_left (NameStands t types g) g.exports nodes e stand (found_contained g.exports k e at) in
          record { named = of.0; there = of.1; node = of.0.node; stands = of.2.node; among = λ y inside. inside }
      node_there (from_inside n k {ty} {es} {e} outer at there) =
          let has = node_there outer in
          let of = inner has.stands (export.Instance ty es) at es refl k e there in
          record {
            named = has.named;
            there = has.there;
            node = of.0;
            stands = of.1;
            among = λ y lifted. has.among y (of.2 y lifted);
          }
