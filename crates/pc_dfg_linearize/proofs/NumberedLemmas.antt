-- Options entries and trampolines stand for their values, where all that they name has its number.
use Rattle.std.proofs.Common.{◌≡◌, ◌<◌, ℕ, true, List, [], ◌∷◌, ◌++◌, map, All, Option, None}
use Rattle.std.proofs.Common.{Some, refl, sym, ap, subst, ◌∙◌}
use Rattle.std.specs.Prelude.{slice_get, option_map, unwrap_or}
use Rattle.std.specs.List.{flat_map}
use Rattle.std.proofs.lemmas.Bool.{lt-ltb}
use Rattle.std.proofs.lemmas.List.Elements.{All-head, All-tail}
use Rattle.std.proofs.lemmas.Option.{slice_get-map}
use Rattle.pc_entity.proofs.LookupLemmas.{found_at}
use Rattle.pc_dfg.specs.declared.ids.CallbackId.{CallbackId}
use Rattle.pc_dfg.specs.declared.ids.MemoryId.{MemoryId}
use Rattle.pc_dfg.specs.declared.ids.OptionsId.{OptionsId}
use Rattle.pc_dfg.specs.declared.ids.PostReturnId.{PostReturnId}
use Rattle.pc_dfg.specs.declared.ids.ReallocId.{ReallocId}
use Rattle.pc_numbers.specs.declared.module_entity.ModuleInternedTypeIndex.{ModuleInternedTypeIndex}
use Rattle.pc_numbers.specs.declared.runtime.RuntimeImportIndex.{RuntimeImportIndex}
use Rattle.pc_numbers.specs.declared.runtime.RuntimePostReturnIndex.{RuntimePostReturnIndex}
use Rattle.pc_numbers.specs.declared.runtime.RuntimeCallbackIndex.{RuntimeCallbackIndex}
use Rattle.pc_numbers.specs.declared.runtime.RuntimeReallocIndex.{RuntimeReallocIndex}
use Rattle.pc_numbers.specs.declared.runtime.RuntimeMemoryIndex.{RuntimeMemoryIndex}
use Rattle.pc_numbers.specs.declared.runtime.TrampolineIndex.{TrampolineIndex}
use Rattle.pc_types.specs.declared.trampoline.TrampolineKind.{TrampolineKind}
use Rattle.pc_types.specs.declared.types.TypeDef.TheVariants as type
use Rattle.pc_types.specs.TypeTree.{Path}
use Rattle.pc_spec_plan.specs.CoreValue as value
use Rattle.pc_spec_plan.specs.CoreValue.{CoreValue, Options, DataModel, MaybeValue, Parts, Part}
use Rattle.pc_spec_plan.specs.Machine.{State, chosen, is_counted, model_from, options_from, options_at, part_value}
use Rattle.pc_spec_plan.specs.Machine.{part_values, path_of}
use Rattle.pc_spec_plan.specs.Machine.{trampoline_value, with_numbers}
use Rattle.pc_spec_plan.specs.Machine as machine
use Rattle.pc_spec_plan.specs.PlanView as plan
use Rattle.pc_trampoline.specs.declared.part.Head.{Head}
use Rattle.pc_trampoline.specs.declared.part.Head.TheVariants as head
use Rattle.pc_trampoline.specs.declared.part.Mark.{Mark}
use Rattle.pc_trampoline.specs.declared.part.Mark.TheVariants as mark
use Rattle.pc_trampoline.specs.declared.part.Part.TheVariants as part
use Rattle.pc_trampoline.specs.declared.part.PartList.{PartList}
use Rattle.pc_trampoline.specs.declared.part.PartList.TheVariants as list
use Rattle.pc_trampoline.specs.Parts.{list_of}
use Rattle.pc_trampoline.specs.Transcoding.{address_bits, place_of}
use Rattle.pc_trampoline.specs.View.{entry_of, part_by, plan_numbers}
use Rattle.pc_info.specs.declared.module.ModuleTranslation.{ModuleTranslation}
use Rattle.pc_info.specs.Options.{model_view, options_view}
use Rattle.pc_info.specs.View.{import_type_view, import_view}
use Rattle.pc_dfg.specs.declared.dfg.ComponentDfg.{ComponentDfg}
use Rattle.pc_dfg.specs.declared.options.CanonicalOptions.{CanonicalOptions}
use Rattle.pc_dfg.specs.declared.options.CanonicalOptionsDataModel.{CanonicalOptionsDataModel as Model}
use Rattle.pc_dfg.specs.declared.options.CanonicalOptionsDataModel.TheVariants as model
use Rattle.pc_dfg.specs.Held.{AreHeld, HasBegun, HeldTrampoline, HoldsEntry}
use Rattle.pc_dfg.specs.Lists as list_name
use Rattle.pc_dfg.specs.Means.{HasPath, MeansTrampoline, MeansParts, MeansPart, MeansOptions, MeansEntry}
use Rattle.pc_dfg.specs.Means.{MeansModel, MeansSlot}
use Rattle.pc_dfg.specs.Means.{means_lowered, means_builtin, means_helper, means_no_parts, means_and_part, means_mark}
use Rattle.pc_dfg.specs.Means.{means_number, means_flag, means_slot_part, means_options_part, means_entry, means_gc}
use Rattle.pc_dfg.specs.Means.{means_linear, means_no_slot, means_slot}
use Rattle.pc_dfg.specs.Numbers.{SignedTrampoline, graph_numbers, model_entry, options_entry, trampoline_entry}
use Rattle.pc_dfg_linearize.specs.declared.id.Id.TheVariants as id
use Rattle.pc_dfg_linearize.specs.declared.state.Finish.{Finish}
use Rattle.pc_dfg_linearize.specs.Entries.{GraphPart, PlanPart, callback_in, memory_in, post_return_in, realloc_in, head_in}
use Rattle.pc_dfg_linearize.specs.Entries.{model_in, options_in, part_in, list_in}
use Rattle.pc_dfg_linearize.specs.Numbers.{number_at, numbered}
use Rattle.pc_dfg_linearize.specs.Parts.{HasNumber, in_entry, in_model, in_part, in_trampoline, maybe_slot, options_id}
use Rattle.pc_dfg_linearize.specs.Parts.{slot_numbers}
use Rattle.pc_dfg_linearize.specs.Plan.{Extends}
use Rattle.pc_dfg_linearize.specs.Reached.{Filled, Resolves}
use Rattle.pc_dfg_linearize.specs.Wired.{Has}
use Rattle.pc_dfg_linearize.proofs.EntryLemmas.{all_front, all_back, options_numbered, lowering_numbered, slot_numbered}

-- the path of a host item is that of the plan
pub path_means : (g : ComponentDfg) (ms : List ModuleTranslation) (f : Finish) (p : plan.PlanView Mark) (r : ℕ)
    (path : Path) → AreHeld g → Extends g ms f p → HasPath g r path → path_of p r ≡ Some path
unfolding HoldsEntry
path_means g ms f p r path held e has =
    let item : slice_get p.imports r ≡ Some (import_view (record { 0 = path.import }, path.names)) =
    ap (λ (l : List plan.RuntimeImport). slice_get l r) e.imports ∙ slice_get-map import_view g.imports r
    ∙ ap (option_map import_view) has in
    let found = found_at g.import_types path.import
    (held list_name.imports r (record { 0 = path.import }, path.names) has) in
    let kind : slice_get p.import_types path.import ≡ Some (import_type_view found.0) =
    ap (λ (l : List (plan.ImportType Mark)). slice_get l path.import) e.import_types
    ∙ slice_get-map import_type_view g.import_types path.import ∙ ap (option_map import_type_view) found.1 in
    rw (item, kind) refl

-- the number of an entry that has one
numbered_is : (ns : List (Option ℕ)) (k n : ℕ) → number_at ns k ≡ Some n → numbered ns k ≡ n
numbered_is ns k n at = ap (λ (o : Option ℕ). unwrap_or o 0) at

module _ {g : ComponentDfg} {f : Finish} {s : State Mark} (filled : Filled g f s) where
  -- a slot that may be left out stands for its value
  slot_means : (k : plan.SlotKind) (n : Option ℕ) (v : MaybeValue Mark) → MeansSlot g k n v
      → All (HasNumber f) (maybe_slot k n)
      → chosen (machine.slots_of s k) (option_map (numbered (slot_numbers f k)) n) ≡ Some v
  slot_means k None v means_no_slot all = refl
  slot_means k (Some n) v (means_slot {d = d} {v = w} at means) all =
      let i = slot_numbered f k n all in
      subst (λ (j : ℕ). option_map value.a_value (slice_get (machine.slots_of s k) j) ≡ Some (value.a_value w))
      (sym (numbered_is (slot_numbers f k) n i.0 i.1))
      (ap (option_map value.a_value) (filled.slot k n i.0 d w i.1 at means))

  -- where the number has a type of its own
  typed_slot : {K L : Type 0} (number : K → ℕ) (give : K → L) (given : L → ℕ) (k : plan.SlotKind)
      → ((x : K) → given (give x) ≡ numbered (slot_numbers f k) (number x)) → (o : Option K) (v : MaybeValue Mark)
      → MeansSlot g k (option_map number o) v → All (HasNumber f) (maybe_slot k (option_map number o))
      → chosen (machine.slots_of s k) (option_map given (option_map give o)) ≡ Some v
  typed_slot number give given k same None v means all = slot_means k None v means all
  typed_slot number give given k same (Some x) v means all =
      subst (λ (n : ℕ). chosen (machine.slots_of s k) (Some n) ≡ Some v) (sym (same x))
      (slot_means k (Some (number x)) v means all)

  model_means : (p : plan.PlanView Mark) (m : Model) (v : DataModel Mark) → MeansModel g (model_entry m) v
      → All (HasNumber f) (in_model (model_entry m))
      → model_from p s.memories s.reallocs (model_view (model_in f m)) ≡ Some v
  model_means p model.Gc v means_gc all = refl
  model_means p (model.LinearMemory m r) v (means_linear {memory = memory} {realloc = realloc} a b) all =
      let of_memory = maybe_slot plan.memory (option_map (λ (x : MemoryId). x.0) m) in
      let of_realloc = maybe_slot plan.realloc (option_map (λ (x : ReallocId). x.0) r) in
      rw (
        typed_slot (λ (x : MemoryId). x.0) (memory_in f) (λ (x : RuntimeMemoryIndex). x.0) plan.memory (λ x. refl) m
            memory a
            (all_front (HasNumber f) of_memory of_realloc all),
        typed_slot (λ (x : ReallocId). x.0) (realloc_in f) (λ (x : RuntimeReallocIndex). x.0) plan.realloc (λ x. refl)
            r realloc b
            (all_back (HasNumber f) of_memory of_realloc all),
      ) refl

  -- an entry of options stands for its value
  pub entry_means : (ms : List ModuleTranslation) (p : plan.PlanView Mark) (o : CanonicalOptions) (v : Options Mark)
      → Has g ms p → HasBegun g o.instance.0 → MeansEntry g (options_entry o) v
      → All (HasNumber f) (in_entry (options_entry o))
      → options_from p s.callbacks s.post_returns s.memories s.reallocs (options_view (options_in f o)) ≡ Some v
  entry_means ms p o v has begun
      (means_entry {callback = callback} {post_return = post_return} {model = lies} a b c) all =
      let of_model = in_model (model_entry o.data_model) in
      let of_callback = maybe_slot plan.callback (option_map (λ (x : CallbackId). x.0) o.callback) in
      let of_post_return = maybe_slot plan.post_return (option_map (λ (x : PostReturnId). x.0) o.post_return) in
      let front = all_front (HasNumber f) (of_model ++ of_callback) of_post_return all in
      let counted : is_counted p o.instance.0 ≡ true =
      lt-ltb o.instance.0 p.counts.component_instances
      (subst (λ (n : ℕ). o.instance.0 < n) (sym has.component_instances) begun) in
      rw (
        counted,
        typed_slot (λ (x : CallbackId). x.0) (callback_in f) (λ (x : RuntimeCallbackIndex). x.0) plan.callback
            (λ x. refl) o.callback callback a
            (all_back (HasNumber f) of_model of_callback front),
        typed_slot (λ (x : PostReturnId). x.0) (post_return_in f) (λ (x : RuntimePostReturnIndex). x.0)
            plan.post_return (λ x. refl) o.post_return post_return b
            (all_back (HasNumber f) (of_model ++ of_callback) of_post_return all),
        model_means p o.data_model lies c (all_front (HasNumber f) of_model of_callback front),
      ) refl

  module _ (ms : List ModuleTranslation) (p : plan.PlanView Mark) (resolves : Resolves g ms f s)
      (extends : Extends g ms f p)
    where
      -- options stand for their value by their number
      options_mean : (o : ℕ) (v : Options Mark) → MeansOptions g o v → HasNumber f (options_id o)
          → options_at p s (numbered f.numbers.options o) ≡ Some v
      options_mean o v means has =
          let n = options_numbered f o has in
          subst (λ (i : ℕ). options_at p s i ≡ Some v) (sym (numbered_is f.numbers.options o n.0 n.1))
          (resolves.options o n.0 v p n.1 means extends)

      -- a part of a trampoline stands for its value
      part_means : (x : GraphPart) (v : Part Mark) → MeansPart g (part_by graph_numbers x) v
          → All (HasNumber f) (in_part (part_by graph_numbers x))
          → part_value p s (part_by plan_numbers (part_in f x)) ≡ Some v
      part_means (part.Type_ ty) v means_mark all = refl
      part_means (part.Number n) v means_number all = refl
      part_means (part.Flag b) v means_flag all = refl
      part_means (part.Memory m) v (means_slot_part {v = w} a) all =
          ap (option_map value.value_part) (slot_means plan.memory (Some m.0) w a all)
      part_means (part.MaybeMemory m) v (means_slot_part {v = w} a) all =
          ap (option_map value.value_part)
          (typed_slot (λ (x : MemoryId). x.0) (memory_in f) (λ (x : RuntimeMemoryIndex). x.0) plan.memory (λ x. refl)
          m w a all)
      part_means (part.Table t) v (means_slot_part {v = w} a) all =
          ap (option_map value.value_part) (slot_means plan.table (Some t.0) w a all)
      part_means (part.Callback c) v (means_slot_part {v = w} a) all =
          ap (option_map value.value_part)
          (typed_slot (λ (x : CallbackId). x.0) (callback_in f) (λ (x : RuntimeCallbackIndex). x.0) plan.callback
          (λ x. refl) c w a all)
      part_means (part.PostReturn q) v (means_slot_part {v = w} a) all =
          ap (option_map value.value_part)
          (typed_slot (λ (x : PostReturnId). x.0) (post_return_in f) (λ (x : RuntimePostReturnIndex). x.0)
          plan.post_return (λ x. refl) q w a all)
      part_means (part.Options o) v (means_options_part {v = w} a) all =
          ap (option_map value.options_part) (options_mean o.0 w a (All-head (HasNumber f) (options_id o.0) [] all))

      -- parts stand for their values
      parts_mean : (xs : List GraphPart) (vs : Parts Mark) → MeansParts g (map (part_by graph_numbers) xs) vs
          → All (HasNumber f) (flat_map in_part (map (part_by graph_numbers) xs))
          → part_values p s (map (part_by plan_numbers) (map (part_in f) xs)) ≡ Some vs
      parts_mean [] vs means_no_parts all = refl
      parts_mean (x ∷ xs) vs (means_and_part {v = w} {vs = ws} a b) all =
          let first = in_part (part_by graph_numbers x) in
          let rest = flat_map in_part (map (part_by graph_numbers) xs) in
          rw (
            part_means x w a (all_front (HasNumber f) first rest all),
            parts_mean xs ws b (all_back (HasNumber f) first rest all),
          ) refl

      list_mapped : (xs : PartList GraphPart) → list_of (list_in f xs) ≡ map (part_in f) (list_of xs)
      list_mapped list.Empty = refl
      list_mapped (list.One x) = refl
      list_mapped (list.Two x y) = refl

      -- with the core signature in front
      signed_mean : (signature : ModuleInternedTypeIndex) (xs : PartList GraphPart) (vs : Parts Mark)
          → MeansParts g (plan.mark (mark.Signature signature) ∷ map (part_by graph_numbers) (list_of xs)) vs
          → All (HasNumber f) (flat_map in_part (map (part_by graph_numbers) (list_of xs)))
          → part_values p s (plan.mark (mark.Signature signature) ∷ map (part_by plan_numbers) (list_of (list_in f xs)))
          ≡ Some vs
      signed_mean signature xs vs (means_and_part {vs = ws} means_mark b) all =
          subst (λ (l : List PlanPart).
          part_values p s (plan.mark (mark.Signature signature) ∷ map (part_by plan_numbers) l) ≡ Some vs)
          (sym (list_mapped xs))
          (ap (option_map (value.and_part (value.mark_part (mark.Signature signature))))
          (parts_mean (list_of xs) ws b all))

      -- a trampoline stands for its value
      pub trampoline_means : (t : TrampolineIndex) (x : SignedTrampoline) (k : TrampolineKind)
          (h : Head RuntimeImportIndex OptionsId) (xs : PartList GraphPart) (signature : ModuleInternedTypeIndex)
          (v : CoreValue Mark) → AreHeld g → slice_get g.trampolines t.0 ≡ Some x
          → trampoline_entry x ≡ entry_of graph_numbers signature k h (list_of xs)
          → MeansTrampoline g (entry_of graph_numbers signature k h (list_of xs)) v
          → All (HasNumber f) (in_trampoline t (entry_of graph_numbers signature k h (list_of xs)))
          → trampoline_value p s (entry_of plan_numbers signature k (head_in f t h) (list_of (list_in f xs))) ≡ Some v
      unfolding HoldsEntry HeldTrampoline
      trampoline_means t x k (head.Lowering r ty o) xs signature v held at is
          (means_lowered {path = path} {v = w} has means) all =
          let lowering = id.Lowering t in
          let rest = All-tail (HasNumber f) lowering (options_id o.0 ∷ []) all in
          let n = lowering_numbered f t (All-head (HasNumber f) lowering (options_id o.0 ∷ []) all) in
          let step : slice_get s.lowerings (numbered f.numbers.lowerings t.0) ≡ Some r.0 =
          ap (slice_get s.lowerings) (numbered_is f.numbers.lowerings t.0 n.0 n.1)
          ∙ filled.lowering t.0 n.0 r.0 o.0 x (mark.Signature signature) (mark.Type_ (type.ComponentFunc ty)) n.1 at
          is in
          rw (
            step,
            path_means g ms f p r.0 path held extends has,
            options_mean o.0 w means (All-head (HasNumber f) (options_id o.0) [] rest),
          ) refl
      trampoline_means t x k (head.Builtin c) xs signature v held at is (means_builtin {vs = ws} means) all =
          let begun : c.0 < p.counts.component_instances =
          subst (λ (n : ℕ). c.0 < n) (sym extends.has.component_instances)
          (subst (HeldTrampoline g) is (held list_name.trampolines t.0 x at)).0 in
          rw (lt-ltb c.0 p.counts.component_instances begun)
          (ap (option_map (value.builtin k c.0)) (signed_mean signature xs ws means all))
      trampoline_means t x k head.Helper xs signature v held at is (means_helper {vs = ws} means) all =
          ap (option_map (λ (vs : Parts Mark). value.helper k (with_numbers [] vs)))
          (signed_mean signature xs ws means all)
      trampoline_means t x k (head.Transcoding op from64 to64) xs signature v held at is
          (means_helper {vs = ws} means) all =
          ap (option_map (λ (vs : Parts Mark).
          value.helper k (with_numbers (place_of op ∷ address_bits from64 ∷ address_bits to64 ∷ []) vs)))
          (signed_mean signature xs ws means all)
      trampoline_means t x k (head.Trapping code) xs signature v held at is (means_helper {vs = ws} means) all =
          ap (option_map (λ (vs : Parts Mark). value.helper k (with_numbers (code.0 ∷ []) vs)))
          (signed_mean signature xs ws means all)
