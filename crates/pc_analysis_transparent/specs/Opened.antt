-- The component instances that each entry of a graph makes opaque, as lists.
use Rattle.std.specs.Prelude.{ℕ, Bool, true, false, List, [], ◌∷◌, ◌++◌, ◌&&◌, ◌||◌, not, Option, None, Some, slice_get}
use Rattle.std.specs.List.{flat_map}
use Rattle.std.specs.Ordering.{nat_cmp}
use Rattle.std.specs.FinSet as set
use Rattle.pc_types.specs.declared.types.TypeFunc.{TypeFunc}
use Rattle.pc_types.specs.TypeTree.{TypeTree}
use Rattle.pc_types_lists.specs.Types.{Types}
use Rattle.pc_parsed.specs.Mark.{of_type}
use Rattle.pc_spec_plan.specs.PlanView as plan
use Rattle.pc_spec_wiring.specs.FunctionTypes.{has_handle, is_async_type}
use Rattle.pc_trampoline.specs.declared.part.Mark.{Mark}
use Rattle.pc_dfg.specs.declared.adapter.Adapter.{Adapter}
use Rattle.pc_dfg.specs.declared.core_def.CoreDef.{CoreDef}
use Rattle.pc_dfg.specs.declared.dfg.ComponentDfg.{ComponentDfg}
use Rattle.pc_dfg.specs.declared.export.Export.{Export}
use Rattle.pc_dfg.specs.declared.export.Export.TheVariants as item
use Rattle.pc_dfg.specs.declared.instance.SideEffect.{SideEffect}
use Rattle.pc_dfg.specs.declared.instance.SideEffect.TheVariants as effect
use Rattle.pc_dfg.specs.declared.options.CanonicalOptions.{CanonicalOptions}
use Rattle.pc_dfg.specs.Names.{each_of, in_entry, in_instance, in_resource, in_side}
use Rattle.pc_dfg.specs.Numbers.{SignedTrampoline, options_entry, trampoline_entry}
use Rattle.pc_analysis_transparent.specs.Context.{uses_context}

-- a number, or none
abbrev pub when : Bool → ℕ → List ℕ
when true n = n ∷ []
when false n = []

-- a set with these numbers more, one after the other
unfoldable pub with_all : set.FinSet nat_cmp → List ℕ → set.FinSet nat_cmp
with_all s [] = s
with_all s (n ∷ ns) = with_all (set.insert s n) ns

-- whether the function type under a number is async
abbrev pub is_async_at : Option TypeFunc → Bool
is_async_at None = false
is_async_at (Some f) = f.async_

-- the same of a number of the builder
abbrev pub is_async_in : Types → ℕ → Bool
is_async_in b i = is_async_at (slice_get b.funcs i)

module _ (g : ComponentDfg) where
  -- the component instance of options, by number
  abbrev pub in_options : ℕ → List ℕ
  in_options n = each_of (λ (o : CanonicalOptions). o.instance.0 ∷ []) (slice_get g.options n)

  -- that of a lowering or a builtin
  abbrev pub by_entry : plan.TrampolineEntry Mark → List ℕ
  by_entry (plan.lowers r s ty n) = in_options n
  by_entry (plan.builtin k symbol c ps) = c ∷ []
  by_entry (plan.helper k symbol ps) = []

  -- the same of a trampoline
  unfoldable pub by_trampoline : SignedTrampoline → List ℕ
  by_trampoline t = by_entry (trampoline_entry t)

  -- that of a core instance which is given a function of a context, or of a resource with one as destructor
  unfoldable pub by_effect : SideEffect → List ℕ
  by_effect (effect.Instance i c) = each_of (λ x. when (uses_context (in_instance x)) c.0) (slice_get g.instances i.0)
  by_effect (effect.Resource n) =
      each_of (λ r. when (uses_context (in_resource r)) r.instance.0) (slice_get g.resources n.0)

  -- that of options with which a function is lifted, if it or an option is of a context
  abbrev pub in_lift : CoreDef → ℕ → List ℕ
  in_lift f n =
      each_of (λ (o : CanonicalOptions).
      when (uses_context (f ∷ in_entry g (options_entry o))) o.instance.0) (slice_get g.options n)

  -- that of an export
  unfoldable pub by_export : Export → List ℕ
  by_export (item.LiftedFunction ty f n) = in_lift f n.0
  by_export x = []

-- those of an adapter: where it is lowered, and where it is lifted
unfoldable pub by_adapter : Types → Adapter → List ℕ
by_adapter b x =
    when (is_async_in b x.lift_ty.0 || uses_context (in_side x.lower_options)) x.lower_options.instance.0
    ++ when (uses_context (x.func ∷ in_side x.lift_options)) x.lift_options.instance.0

-- those of a whole graph
unfoldable pub opened : ComponentDfg → Types → List ℕ
opened g b =
    flat_map (by_trampoline g) g.trampolines ++ flat_map (by_adapter b) g.adapters
    ++ flat_map (by_effect g) g.side_effects ++ flat_map (by_export g) g.export_items

-- whether an adapter with types of these trees is transparent, where these component instances are opaque
unfoldable pub keeps_out : set.FinSet nat_cmp → (lift lower : TypeTree) → Adapter → Bool
keeps_out opaque lift lower x =
    (((not (is_async_type (of_type lift)) && not (has_handle (of_type lift)))
    && (not (is_async_type (of_type lower)) && not (has_handle (of_type lower))))
    && not (x.lift_options.async_ || x.lower_options.async_))
    && not (set.contains opaque x.lift_options.instance.0)
