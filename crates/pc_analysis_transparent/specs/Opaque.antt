-- Which component instances of a graph may see the state of a thread, and which adapters need not keep it. These are
-- the words that readings have for it, over the entries of a graph.
use Rattle.std.specs.Prelude.{◌≡◌, ◌<◌, ℕ, Bool, true, false, List, ◌∷◌, length, Contains, Some, slice_get}
use Rattle.pc_numbers.specs.declared.runtime.DefinedResourceIndex.{DefinedResourceIndex}
use Rattle.pc_numbers.specs.declared.runtime.ResourceIndex.{ResourceIndex}
use Rattle.pc_numbers.specs.declared.runtime.RuntimeComponentInstanceIndex.{RuntimeComponentInstanceIndex}
use Rattle.pc_types.specs.declared.trampoline.TrampolineKind.{TrampolineKind}
use Rattle.pc_types.specs.declared.type_index.TypeFuncIndex.{TypeFuncIndex}
use Rattle.pc_types.specs.declared.types.TypeDef.TheVariants as def
use Rattle.pc_types.specs.TypeTree.{Identity, TypeTree}
use Rattle.pc_types_lists.specs.Trees.{HasTree}
use Rattle.pc_types_lists.specs.Types.{Types}
use Rattle.pc_parsed.specs.Mark.{of_type}
use Rattle.pc_spec_plan.specs.PlanView as plan
use Rattle.pc_spec_wiring.specs.FunctionTypes.{has_handle, is_async_type}
use Rattle.pc_trampoline.specs.declared.part.Mark.{Mark}
use Rattle.pc_dfg.specs.declared.adapter.Adapter.{Adapter}
use Rattle.pc_dfg.specs.declared.core_def.CoreDef.{CoreDef}
use Rattle.pc_dfg.specs.declared.dfg.ComponentDfg.{ComponentDfg}
use Rattle.pc_dfg.specs.declared.export.Export.TheVariants as item
use Rattle.pc_dfg.specs.declared.ids.InstanceId.{InstanceId}
use Rattle.pc_dfg.specs.declared.ids.OptionsId.{OptionsId}
use Rattle.pc_dfg.specs.declared.instance.Instance.{Instance}
use Rattle.pc_dfg.specs.declared.instance.Resource.{Resource}
use Rattle.pc_dfg.specs.declared.instance.SideEffect.TheVariants as effect
use Rattle.pc_dfg.specs.declared.options.CanonicalOptions.{CanonicalOptions}
use Rattle.pc_dfg.specs.Names.{in_entry, in_instance, in_resource, in_side}
use Rattle.pc_dfg.specs.Numbers.{SignedTrampoline, options_entry, trampoline_entry}
use Rattle.pc_analysis_transparent.specs.Context.{is_context_def}

-- the types of an adapter are held
pub record HoldsTypes (b : Types) (x : Adapter) : Type 0 where
  pub lift : x.lift_ty.0 < length b.funcs
  pub lower : x.lower_ty.0 < length b.funcs

-- the types of all adapters are held
abbrev pub HoldTypes : Types → ComponentDfg → Type 0
HoldTypes b g = (a : ℕ) (x : Adapter) → slice_get g.adapters a ≡ Some x → HoldsTypes b x

-- the types of an adapter have these trees
pub record HasTypes (b : Types) (who : ResourceIndex → Identity) (x : Adapter) (lift lower : TypeTree) : Type 0 where
  pub lift_tree : HasTree b who (def.ComponentFunc x.lift_ty) lift
  pub lower_tree : HasTree b who (def.ComponentFunc x.lower_ty) lower

-- the types of each adapter have the trees of its number
abbrev pub AreTyped : Types → (ResourceIndex → Identity) → ComponentDfg → (lift lower : ℕ → TypeTree) → Type 0
AreTyped b who g lift lower =
    (a : ℕ) (x : Adapter) → slice_get g.adapters a ≡ Some x → HasTypes b who x (lift a) (lower a)

module _ (g : ComponentDfg) where
  -- a definition is used in a component instance: a core instance of it is given the definition, an adapter lifts it or
  -- has it as an option of the lowering, a resource has it as destructor, or an export lifts it
  pub data IsUsedIn (c : ℕ) (d : CoreDef) : Type 0 where
    as_argument : (e : ℕ) {i : InstanceId} {o : RuntimeComponentInstanceIndex} {x : Instance}
        → slice_get g.side_effects e ≡ Some (effect.Instance i o) → o.0 ≡ c → slice_get g.instances i.0 ≡ Some x
        → Contains (in_instance x) d → IsUsedIn c d
    as_lifted : (k : ℕ) {x : Adapter} → slice_get g.adapters k ≡ Some x → x.lift_options.instance.0 ≡ c
        → Contains (x.func ∷ in_side x.lift_options) d → IsUsedIn c d
    as_lower_option : (k : ℕ) {x : Adapter} → slice_get g.adapters k ≡ Some x → x.lower_options.instance.0 ≡ c
        → Contains (in_side x.lower_options) d → IsUsedIn c d
    as_destructor : (e : ℕ) {n : DefinedResourceIndex} {x : Resource}
        → slice_get g.side_effects e ≡ Some (effect.Resource n) → slice_get g.resources n.0 ≡ Some x
        → x.instance.0 ≡ c → Contains (in_resource x) d → IsUsedIn c d
    as_export : (e : ℕ) {ty : TypeFuncIndex} {f : CoreDef} {n : OptionsId} {o : CanonicalOptions}
        → slice_get g.export_items e ≡ Some (item.LiftedFunction ty f n) → slice_get g.options n.0 ≡ Some o
        → o.instance.0 ≡ c → Contains (f ∷ in_entry g (options_entry o)) d → IsUsedIn c d

  -- Where the types of adapters that they are lifted with have these trees.
  module _ (lift : ℕ → TypeTree) where
    -- a component instance may see the state of a thread: it lowers a function of the host or an async one, declares a
    -- builtin, or uses the slots of a context
    pub data IsOpaqueIn (c : ℕ) : Type 0 where
      lowers_host : (t : ℕ) {r n : ℕ} {x : SignedTrampoline} {s ty : Mark} {o : CanonicalOptions}
          → slice_get g.trampolines t ≡ Some x → trampoline_entry x ≡ plan.lowers r s ty n
          → slice_get g.options n ≡ Some o → o.instance.0 ≡ c → IsOpaqueIn c
      declares_builtin : (t : ℕ) {x : SignedTrampoline} {k : TrampolineKind} {symbol : List ℕ}
          {ps : List (plan.TrampolinePart Mark)} → slice_get g.trampolines t ≡ Some x
          → trampoline_entry x ≡ plan.builtin k symbol c ps → IsOpaqueIn c
      lowers_async : (k : ℕ) {x : Adapter} → slice_get g.adapters k ≡ Some x → x.lower_options.instance.0 ≡ c
          → is_async_type (of_type (lift k)) ≡ true → IsOpaqueIn c
      uses_slots : {d : CoreDef} → IsUsedIn c d → is_context_def d ≡ true → IsOpaqueIn c

    -- an adapter need not keep the state of a thread: no type and no option of either side is async, no handle stands
    -- in the types, and the component instance that lifts can't see that state
    pub record IsTransparentIn (lower : ℕ → TypeTree) (k : ℕ) : Type 0 where
      pub adapter : Adapter
      pub there : slice_get g.adapters k ≡ Some adapter
      pub lifts_sync : is_async_type (of_type (lift k)) ≡ false
      pub lowers_sync : is_async_type (of_type (lower k)) ≡ false
      pub lift_sync : adapter.lift_options.async_ ≡ false
      pub lower_sync : adapter.lower_options.async_ ≡ false
      pub lift_plain : has_handle (of_type (lift k)) ≡ false
      pub lower_plain : has_handle (of_type (lower k)) ≡ false
      pub lifter : ¬ (IsOpaqueIn adapter.lift_options.instance.0)
