-- What function types tell, by their trees.
use Rattle.std.proofs.Common.{◌≡◌, Bool, true, false, Some, refl, sym, ap, ◌∙◌, true≢false}
use Rattle.std.specs.Prelude.{slice_get}
use Rattle.std.proofs.lemmas.Option.{same_Some}
use Rattle.pc_numbers.specs.declared.runtime.ResourceIndex.{ResourceIndex}
use Rattle.pc_types.specs.declared.type_index.TypeFuncIndex.{TypeFuncIndex}
use Rattle.pc_types.specs.declared.types.TypeDef.TheVariants as def
use Rattle.pc_types.specs.declared.types.TypeFunc.{TypeFunc}
use Rattle.pc_types.specs.TypeTree.{Identity, TypeTree, primitive, error_context, record_of}
use Rattle.pc_types.specs.TypeTree.{variant_of, list_of, tuple_of, flags_of, enum_of, option_of, result_of, own_of}
use Rattle.pc_types.specs.TypeTree.{borrow_of, stream_of, future_of, func_of, instance_of, component_of, module_of}
use Rattle.pc_types.specs.TypeTree.{resource_of}
use Rattle.pc_types_lists.specs.Trees.{HasTree}
use Rattle.pc_types_lists.specs.Types.{Types}
use Rattle.pc_types_lists.proofs.HeldLemmas.{is_a_func, func_number}
use Rattle.pc_parsed.specs.Mark.{of_type}
use Rattle.pc_spec_wiring.specs.FunctionTypes.{is_async_type}
use Rattle.pc_analysis_transparent.specs.Opened.{is_async_at, is_async_in}

module _ (b : Types) (who : ResourceIndex → Identity) where
  -- whether a function type is async stands in its tree
  pub async_told : (i : TypeFuncIndex) (t : TypeTree) → HasTree b who (def.ComponentFunc i) t
      → is_async_in b i.0 ≡ is_async_type (of_type t)
  async_told i (func_of params result is_async) h =
      ap is_async_at (ap (λ n. slice_get b.funcs n) (ap func_number h.4) ∙ h.5) ∙ h.8
  async_told i (primitive q) h = absurd (true≢false (ap is_a_func h.1))
  async_told i (error_context c) h = absurd (true≢false (ap is_a_func h.1))
  async_told i (record_of fs) h = absurd (true≢false (ap is_a_func h.2))
  async_told i (variant_of cs) h = absurd (true≢false (ap is_a_func h.2))
  async_told i (list_of y) h = absurd (true≢false (ap is_a_func h.2))
  async_told i (tuple_of ts) h = absurd (true≢false (ap is_a_func h.2))
  async_told i (flags_of names) h = absurd (true≢false (ap is_a_func h.1))
  async_told i (enum_of names) h = absurd (true≢false (ap is_a_func h.1))
  async_told i (option_of y) h = absurd (true≢false (ap is_a_func h.2))
  async_told i (result_of ok err) h = absurd (true≢false (ap is_a_func h.2))
  async_told i (own_of y) h = absurd (true≢false (ap is_a_func h.1))
  async_told i (borrow_of y) h = absurd (true≢false (ap is_a_func h.1))
  async_told i (stream_of y c) h = absurd (true≢false (ap is_a_func h.2))
  async_told i (future_of y c) h = absurd (true≢false (ap is_a_func h.2))
  async_told i (instance_of exports) h = absurd (true≢false (ap is_a_func h.2))
  async_told i (component_of imports exports) h = absurd (true≢false (ap is_a_func h.2))
  async_told i (module_of imports exports) h = absurd (true≢false (ap is_a_func h.2))
  async_told i (resource_of y) h = absurd (true≢false (ap is_a_func h.1))
