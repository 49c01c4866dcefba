-- What stands in a function type, told by the tuples of its parameters and its results.
use Rattle.std.proofs.Common.{◌≡◌, List, [], Some, refl, sym, ap, ◌∙◌, arith, true≢false}
use Rattle.std.specs.Prelude.{ℕ, slice_get}
use Rattle.pc_numbers.specs.declared.runtime.ResourceIndex.{ResourceIndex}
use Rattle.pc_types.specs.declared.type_index.TypeFuncIndex.{TypeFuncIndex}
use Rattle.pc_types.specs.declared.types.InterfaceType.{InterfaceType}
use Rattle.pc_types.specs.declared.types.InterfaceType.TheVariants as ty
use Rattle.pc_types.specs.declared.types.TypeDef.TheVariants as def
use Rattle.pc_types.specs.declared.types.TypeFunc.{TypeFunc}
use Rattle.pc_types.specs.TypeTree.{Identity, TypeTree, Fields, Trees, MaybeTree, primitive, error_context, record_of}
use Rattle.pc_types.specs.TypeTree.{variant_of, list_of, tuple_of, flags_of, enum_of, option_of, result_of, own_of}
use Rattle.pc_types.specs.TypeTree.{borrow_of, stream_of, future_of, func_of, instance_of, component_of, module_of}
use Rattle.pc_types.specs.TypeTree.{resource_of, no_fields, and_field, no_trees, and_tree, no_tree, a_tree}
use Rattle.pc_types_lists.specs.declared.facts.TypeFacts.{TypeFacts}
use Rattle.pc_types_lists.specs.Facts.{facts_of, facts_of_all, facts_of_fields, facts_of_maybe, join}
use Rattle.pc_types_lists.specs.Trees.{HasTree, ValsHaveTrees, ParamsHaveTrees, ResultsHaveTree}
use Rattle.pc_types_lists.specs.Types.{Types}
use Rattle.pc_types_lists.proofs.HeldLemmas.{is_a_func, func_number}
use Rattle.pc_types_lists.proofs.Joining.{join_none}
use Rattle.pc_spec_adapt.specs.Asked.{function_facts}

-- the trees of parameters
abbrev trees_in : Fields → Trees
trees_in no_fields = no_trees
trees_in (and_field name t ts) = and_tree t (trees_in ts)

-- the trees of results
abbrev trees_of_maybe : MaybeTree → Trees
trees_of_maybe no_tree = no_trees
trees_of_maybe (a_tree t) = and_tree t no_trees

same_params : (ts : Fields) → facts_of_all (trees_in ts) ≡ facts_of_fields ts
same_params no_fields = refl
same_params (and_field name t ts) = ap (join (facts_of t)) (same_params ts)

same_results : (t : MaybeTree) → facts_of_all (trees_of_maybe t) ≡ facts_of_maybe t
same_results no_tree = refl
same_results (a_tree t) = join_none (facts_of t)

module _ (b : Types) (who : ResourceIndex → Identity) where
  params_as_tuple : (names : List (List ℕ)) (ws : List InterfaceType) (ts : Fields) → ParamsHaveTrees b who names ws ts
      → ValsHaveTrees b who ws (trees_in ts)
  params_as_tuple names ws no_fields h = h.1
  params_as_tuple names ws (and_field name t ts) h = (h.0, h.2, h.4, h.5, params_as_tuple h.1 h.2 ts h.6)

  results_as_tuple : (ws : List InterfaceType) (t : MaybeTree) → ResultsHaveTree b who ws t
      → ValsHaveTrees b who ws (trees_of_maybe t)
  results_as_tuple ws no_tree h = h
  results_as_tuple ws (a_tree t) h = (h.0, [], h.1, h.2, refl)

  -- the facts of a function type are those of the tuples of its parameters and its results
  pub facts_are : (i : TypeFuncIndex) (f : TypeFunc) (p r : TypeFacts) (t : TypeTree) → slice_get b.funcs i.0 ≡ Some f
      → ((u : TypeTree) → HasTree b who (def.Interface (ty.Tuple f.params)) u → p ≡ facts_of u)
      → ((u : TypeTree) → HasTree b who (def.Interface (ty.Tuple f.results)) u → r ≡ facts_of u)
      → HasTree b who (def.ComponentFunc i) t
      → record { params = p; results = r; is_async = f.async_ } ≡ function_facts t
  facts_are i f p r (func_of params result is_async) at of_params of_results h =
      let same : f ≡ h.1 =
      same_some (sym at ∙ ap (λ n. slice_get b.funcs n) (ap func_number h.4) ∙ h.5) in
      let p_tree : HasTree b who (def.Interface (ty.Tuple f.params)) (tuple_of (trees_in params)) = (
        f.params,
        h.2,
        refl,
        ap (λ x. slice_get b.tuples x.params.0) same ∙ h.6,
        params_as_tuple h.1.param_names h.2.types params h.9,
      ) in
      let r_tree : HasTree b who (def.Interface (ty.Tuple f.results)) (tuple_of (trees_of_maybe result)) = (
        f.results,
        h.3,
        refl,
        ap (λ x. slice_get b.tuples x.results.0) same ∙ h.7,
        results_as_tuple h.3.types result h.10,
      ) in
      let ps = of_params (tuple_of (trees_in params)) p_tree ∙ same_params params in
      let rs = of_results (tuple_of (trees_of_maybe result)) r_tree ∙ same_results result in
      let is = ap (λ x. x.async_) same ∙ h.8 in
      λ j. record { params = ps j; results = rs j; is_async = is j }
    where
      same_some : {x y : TypeFunc} → Some x ≡ Some y → x ≡ y
      same_some e = grind (arith, e)
  facts_are i f p r (primitive q) at of_params of_results h = absurd (true≢false (ap is_a_func h.1))
  facts_are i f p r (error_context c) at of_params of_results h = absurd (true≢false (ap is_a_func h.1))
  facts_are i f p r (record_of fs) at of_params of_results h = absurd (true≢false (ap is_a_func h.2))
  facts_are i f p r (variant_of cs) at of_params of_results h = absurd (true≢false (ap is_a_func h.2))
  facts_are i f p r (list_of y) at of_params of_results h = absurd (true≢false (ap is_a_func h.2))
  facts_are i f p r (tuple_of ts) at of_params of_results h = absurd (true≢false (ap is_a_func h.2))
  facts_are i f p r (flags_of names) at of_params of_results h = absurd (true≢false (ap is_a_func h.1))
  facts_are i f p r (enum_of names) at of_params of_results h = absurd (true≢false (ap is_a_func h.1))
  facts_are i f p r (option_of y) at of_params of_results h = absurd (true≢false (ap is_a_func h.2))
  facts_are i f p r (result_of ok err) at of_params of_results h = absurd (true≢false (ap is_a_func h.2))
  facts_are i f p r (own_of y) at of_params of_results h = absurd (true≢false (ap is_a_func h.1))
  facts_are i f p r (borrow_of y) at of_params of_results h = absurd (true≢false (ap is_a_func h.1))
  facts_are i f p r (stream_of y c) at of_params of_results h = absurd (true≢false (ap is_a_func h.2))
  facts_are i f p r (future_of y c) at of_params of_results h = absurd (true≢false (ap is_a_func h.2))
  facts_are i f p r (instance_of exports) at of_params of_results h = absurd (true≢false (ap is_a_func h.2))
  facts_are i f p r (component_of imports exports) at of_params of_results h = absurd (true≢false (ap is_a_func h.2))
  facts_are i f p r (module_of imports exports) at of_params of_results h = absurd (true≢false (ap is_a_func h.2))
  facts_are i f p r (resource_of y) at of_params of_results h = absurd (true≢false (ap is_a_func h.1))
