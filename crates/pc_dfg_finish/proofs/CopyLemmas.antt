-- Trampolines and options that are converted by numbers are as they were, but for the numbers of what they name.
use Rattle.std.proofs.Common.{◌≡◌, ◌++◌, ℕ, [], ◌∷◌, map, Option, None, Some, option_map, refl, ap}
use Rattle.std.specs.List.{flat_map}
use Rattle.pc_dfg.specs.declared.ids.CallbackId.{CallbackId}
use Rattle.pc_dfg.specs.declared.ids.MemoryId.{MemoryId}
use Rattle.pc_dfg.specs.declared.ids.OptionsId.{OptionsId}
use Rattle.pc_dfg.specs.declared.ids.PostReturnId.{PostReturnId}
use Rattle.pc_dfg.specs.declared.ids.ReallocId.{ReallocId}
use Rattle.pc_numbers.specs.declared.module_entity.ModuleInternedTypeIndex.{ModuleInternedTypeIndex}
use Rattle.pc_numbers.specs.declared.runtime.RuntimeCallbackIndex.{RuntimeCallbackIndex}
use Rattle.pc_numbers.specs.declared.runtime.RuntimeImportIndex.{RuntimeImportIndex}
use Rattle.pc_numbers.specs.declared.runtime.RuntimeMemoryIndex.{RuntimeMemoryIndex}
use Rattle.pc_numbers.specs.declared.runtime.RuntimePostReturnIndex.{RuntimePostReturnIndex}
use Rattle.pc_numbers.specs.declared.runtime.RuntimeReallocIndex.{RuntimeReallocIndex}
use Rattle.pc_numbers.specs.declared.runtime.TrampolineIndex.{TrampolineIndex}
use Rattle.pc_types.specs.declared.trampoline.TrampolineKind.{TrampolineKind}
use Rattle.pc_types.specs.declared.types.TypeDef.TheVariants as type
use Rattle.pc_spec_plan.specs.PlanView as plan
use Rattle.pc_trampoline.specs.declared.part.Head.{Head}
use Rattle.pc_trampoline.specs.declared.part.Head.TheVariants as head
use Rattle.pc_trampoline.specs.declared.part.Mark.TheVariants as mark
use Rattle.pc_trampoline.specs.declared.part.Part.TheVariants as part
use Rattle.pc_trampoline.specs.declared.part.PartList.{PartList}
use Rattle.pc_trampoline.specs.declared.part.PartList.TheVariants as list
use Rattle.pc_trampoline.specs.Parts.{list_of}
use Rattle.pc_trampoline.specs.View.{entry_of, part_by, parts_entry, plan_numbers, resource_numbers}
use Rattle.pc_trampoline.specs.View.{symbol_numbers}
use Rattle.pc_info.specs.Options.{model_view, options_view}
use Rattle.pc_dfg.specs.declared.options.CanonicalOptions.{CanonicalOptions}
use Rattle.pc_dfg.specs.declared.options.CanonicalOptionsDataModel.{CanonicalOptionsDataModel as Model}
use Rattle.pc_dfg.specs.declared.options.CanonicalOptionsDataModel.TheVariants as model
use Rattle.pc_dfg.specs.Numbers.{graph_numbers, model_entry, options_entry}
use Rattle.pc_dfg_linearize.specs.declared.state.Finish.{Finish}
use Rattle.pc_dfg_linearize.specs.Entries.{GraphPart, GraphParts, callback_in, head_in, list_in, memory_in, model_in}
use Rattle.pc_dfg_linearize.specs.Entries.{options_in, part_in, parts_in, post_return_in, realloc_in}
use Rattle.pc_dfg_finish.specs.Unnumbered.{any_slot, unnumbered, unnumbered_model, unnumbered_options, unnumbered_part}

module _ (f : Finish) where
  same_part : (p : GraphPart)
      → unnumbered_part (part_by plan_numbers (part_in f p)) ≡ unnumbered_part (part_by graph_numbers p)
  same_part (part.Type_ ty) = refl
  same_part (part.Number n) = refl
  same_part (part.Flag b) = refl
  same_part (part.Memory m) = refl
  same_part (part.MaybeMemory None) = refl
  same_part (part.MaybeMemory (Some m)) = refl
  same_part (part.Table t) = refl
  same_part (part.Callback None) = refl
  same_part (part.Callback (Some c)) = refl
  same_part (part.PostReturn None) = refl
  same_part (part.PostReturn (Some p)) = refl
  same_part (part.Options o) = refl

  same_list : (ps : PartList GraphPart)
      → map unnumbered_part (map (part_by plan_numbers) (list_of (list_in f ps)))
      ≡ map unnumbered_part (map (part_by graph_numbers) (list_of ps))
  same_list list.Empty = refl
  same_list (list.One p) = ap (λ x. x ∷ []) (same_part p)
  same_list (list.Two p q) = let first = same_part p in let second = same_part q in λ i. first i ∷ second i ∷ []

  -- the resources in a symbol are the same
  same_resource : (p : GraphPart) → resource_numbers plan_numbers (part_in f p) ≡ resource_numbers graph_numbers p
  same_resource (part.Type_ (type.Resource n)) = refl
  same_resource (part.Type_ ty) = refl
  same_resource p = refl

  same_symbol : (ps : PartList GraphPart) → flat_map (resource_numbers plan_numbers) (list_of (list_in f ps))
      ≡ flat_map (resource_numbers graph_numbers) (list_of ps)
  same_symbol list.Empty = refl
  same_symbol (list.One p) = ap (λ x. x ++ []) (same_resource p)
  same_symbol (list.Two p q) =
      let first = same_resource p in
      let second = same_resource q in
      λ i. first i ++ (second i ++ [])

  same_entry : (s : ModuleInternedTypeIndex) (t : TrampolineIndex) (k : TrampolineKind)
      (h : Head RuntimeImportIndex OptionsId) (ps : PartList GraphPart)
      → unnumbered (entry_of plan_numbers s k (head_in f t h) (list_of (list_in f ps)))
      ≡ unnumbered (entry_of graph_numbers s k h (list_of ps))
  same_entry s t k (head.Lowering r ty o) ps = refl
  same_entry s t k (head.Builtin c) ps =
      let symbol = same_symbol ps in
      let parts = same_list ps in
      λ i. plan.builtin k (symbol i) c.0 (plan.mark (mark.Signature s) ∷ parts i)
  same_entry s t k h ps =
      ap (λ l. plan.helper k (symbol_numbers graph_numbers h (list_of ps)) (plan.mark (mark.Signature s) ∷ l))
      (same_list ps)

  -- a trampoline is as it was, but for the numbers of what it names
  pub same_trampoline : (s : ModuleInternedTypeIndex) (t : TrampolineIndex) (p : GraphParts)
      → unnumbered (parts_entry plan_numbers s (parts_in f t p)) ≡ unnumbered (parts_entry graph_numbers s p)
  same_trampoline s t p = same_entry s t p.kind p.head p.parts

-- a slot that is there is there, whatever its number
same_slot : {A B : Type 0} (a : A → ℕ) (b : B → ℕ) (c : A → B) (o : Option A)
    → any_slot (option_map b (option_map c o)) ≡ any_slot (option_map a o)
same_slot a b c None = refl
same_slot a b c (Some x) = refl

module _ (f : Finish) where
  same_model : (m : Model) → unnumbered_model (model_view (model_in f m)) ≡ unnumbered_model (model_entry m)
  same_model model.Gc = refl
  same_model (model.LinearMemory m r) =
      let memory = same_slot (λ (n : MemoryId). n.0) (λ (n : RuntimeMemoryIndex). n.0) (memory_in f) m in
      let realloc = same_slot (λ (n : ReallocId). n.0) (λ (n : RuntimeReallocIndex). n.0) (realloc_in f) r in
      λ i. plan.linear (memory i) (realloc i)

  -- options are as they were, but for the numbers of their slots
  pub same_options : (o : CanonicalOptions)
      → unnumbered_options (options_view (options_in f o)) ≡ unnumbered_options (options_entry o)
  same_options o =
      let callback = same_slot (λ (n : CallbackId). n.0) (λ (n : RuntimeCallbackIndex). n.0) (callback_in f)
      o.callback in
      let post_return = same_slot (λ (n : PostReturnId). n.0) (λ (n : RuntimePostReturnIndex). n.0) (post_return_in f)
      o.post_return in
      let lies = same_model o.data_model in
      λ i. record (options_entry o) { callback = callback i; post_return = post_return i; model = lies i }
