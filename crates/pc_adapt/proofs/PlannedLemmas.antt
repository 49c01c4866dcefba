-- What is planned for an adapter of a graph is what is planned for its value.
use Rattle.std.proofs.Common.{◌≡◌, ℕ, ◌+◌, Bool, true, false, ◌&&◌, ◌||◌, List, [], ◌∷◌, ◌++◌, Option, None, Some, refl}
use Rattle.std.proofs.Common.{ap, subst, sym, ◌∙◌, arith}
use Rattle.std.specs.Prelude.{map, not, option_map, slice_get, if◌then◌else◌}
use Rattle.std.specs.List.{AllZip}
use Rattle.std.specs.Option.{is_some}
use Rattle.std.proofs.lemmas.List.{map-append}
use Rattle.std.proofs.lemmas.Option.{same_Some}
use Rattle.pc_numbers.specs.declared.entity_index.EntityIndex.{EntityIndex}
use Rattle.pc_numbers.specs.declared.module_entity.ModuleInternedTypeIndex.{ModuleInternedTypeIndex}
use Rattle.pc_numbers.specs.declared.runtime.RuntimeComponentInstanceIndex.{RuntimeComponentInstanceIndex}
use Rattle.pc_numbers.specs.declared.runtime.TrampolineIndex.{TrampolineIndex}
use Rattle.pc_types.specs.declared.intrinsic.UnsafeIntrinsic.{UnsafeIntrinsic}
use Rattle.pc_types.specs.declared.trampoline.TrampolineKind.{TrampolineKind}
use Rattle.pc_types.specs.declared.trampoline.TrampolineKind.TheVariants as kind
use Rattle.pc_types.specs.declared.type_index.TypeFuncIndex.{TypeFuncIndex}
use Rattle.pc_types_lists.specs.declared.facts.TypeFacts.{TypeFacts}
use Rattle.pc_types_lists.specs.Facts.{join}
use Rattle.pc_spec_plan.specs.CoreValue as value
use Rattle.pc_spec_plan.specs.PlanView as view
use Rattle.pc_spec_plan.specs.CoreValue.{CoreValue, Options, MaybeValue}
use Rattle.pc_spec_plan.specs.CoreValue.{DataModel as ValueModel}
use Rattle.pc_trampoline.specs.declared.part.Mark.{Mark}
use Rattle.pc_trampoline.specs.declared.part.Mark.TheVariants as mark
use Rattle.pc_trampoline.specs.declared.transcode.Transcode.{Transcode}
use Rattle.pc_info.specs.Modules.{adapter_view, function_mark}
use Rattle.pc_info.specs.Options.{side_model, side_view}
use Rattle.pc_dfg.specs.declared.adapter.Adapter.{Adapter}
use Rattle.pc_dfg.specs.declared.adapter.AdapterOptions.{AdapterOptions}
use Rattle.pc_dfg.specs.declared.adapter.DataModel.{DataModel}
use Rattle.pc_dfg.specs.declared.core_def.CoreDef.{CoreDef}
use Rattle.pc_dfg.specs.declared.core_def.CoreDef.TheVariants as def
use Rattle.pc_dfg.specs.declared.core_def.CoreExport.{CoreExport}
use Rattle.pc_dfg.specs.declared.dfg.ComponentDfg.{ComponentDfg}
use Rattle.pc_dfg.specs.declared.ids.AdapterId.{AdapterId}
use Rattle.pc_dfg.specs.Means.{Means, MeansMaybe, MeansSide, MeansSideModel, means_export, means_flags}
use Rattle.pc_dfg.specs.Means.{means_trampoline, means_intrinsic, means_adapter, means_side, means_side_gc}
use Rattle.pc_dfg.specs.Means.{means_side_linear, means_none, means_some}
use Rattle.pc_dfg.specs.Numbers.{memory_def}
use Rattle.pc_spec_adapt.specs.Asked.{FunctionFacts, has_asked, has_options, in_memory, is_there, model_of}
use Rattle.pc_spec_adapt.specs.Import as plan
use Rattle.pc_spec_adapt.specs.Planned as made
use Rattle.pc_spec_adapt.specs.Planned.{all_facts, function, flags_of, helper, memory_in, memory_if, function_if}
use Rattle.pc_spec_adapt.specs.Planned.{planned, realloc_in, side, transcoders, transcodings, transfer_if, transfers}
use Rattle.pc_spec_adapt.specs.Record as place
use Rattle.pc_spec_adapt.specs.Record.{place_at, record_at, taken}
use Rattle.pc_adapt.specs.declared.import.Import.{Import}
use Rattle.pc_adapt.specs.declared.import.Import.TheVariants as import
use Rattle.pc_adapt.specs.Asked.{adapter_has_options, side_has_asked}
use Rattle.pc_adapt.specs.Imports.{calls, copies, copy, definitions, import_if, imports_of}
use Rattle.pc_adapt.specs.Imports.{is_async_call, Memory, memory_imports, memory_of, realloc_of, side_imports}
use Rattle.pc_adapt.specs.Imports.{transfer_imports}
use Rattle.pc_adapt.specs.Places.{count_if, has_memory, has_realloc, is_gc, model_count, place_if, record_of}
use Rattle.pc_adapt.specs.Places.{side_count, side_record}
use Rattle.pc_adapt.specs.Planned.{HasValue, has_borrow, has_definition, has_enter, has_error_context, has_exit}
use Rattle.pc_adapt.specs.Planned.{has_future, has_own, has_prepare, has_start, has_stream, has_transcoder, has_trap}
use Rattle.pc_adapt.specs.Planned.{is_wide, StandsFor, wide_if}

-- lists that stand for each other, one behind the other
zip_append : {A B : Type 0} (R : A → B → Type 0) (xs ys : List A) (ps qs : List B) → AllZip R xs ps
    → AllZip R ys qs → AllZip R (xs ++ ys) (ps ++ qs)
zip_append R [] ys [] qs front rest = rest
zip_append R [] ys (p ∷ ps) qs front rest = absurd front
zip_append R (x ∷ xs) ys [] qs front rest = absurd front
zip_append R (x ∷ xs) ys (p ∷ ps) qs front rest = (front.0, zip_append R xs ys ps qs front.1 rest)

-- a memory as a definition
abbrev pub memory_as : Memory → CoreDef
memory_as m = memory_def m.0

module _ (g : ComponentDfg) where
  -- what an adapter stands for, by its parts
  pub record Parts (x : Adapter) (v : CoreValue Mark) : Type 0 where
    pub lift : Options Mark
    pub lower : Options Mark
    pub callee : CoreValue Mark
    pub is : v ≡ value.adapter (function_mark x.lift_ty) lift (function_mark x.lower_ty) lower callee
    pub of_lift : MeansSide g x.lift_options lift
    pub of_lower : MeansSide g x.lower_options lower
    pub of_callee : Means g x.func callee

  pub parts_of : (a : AdapterId) (x : Adapter) {d : CoreDef} {v : CoreValue Mark} → slice_get g.adapters a.0 ≡ Some x
      → Means g d v → d ≡ def.Adapter a → Parts x v
  parts_of a x at (means_export {e = f}) e = absurd (no f e)
    where
      no : (f : CoreExport EntityIndex) → def.Export f ≡ def.Adapter a → ⊥
      no f e = grind (arith, e)
  parts_of a x at (means_flags {c = c}) e = absurd (no c e)
    where
      no : (c : RuntimeComponentInstanceIndex) → def.InstanceFlags c ≡ def.Adapter a → ⊥
      no c e = grind (arith, e)
  parts_of a x at (means_trampoline {t = t} p q) e = absurd (no t e)
    where
      no : (t : TrampolineIndex) → def.Trampoline t ≡ def.Adapter a → ⊥
      no t e = grind (arith, e)
  parts_of a x at (means_intrinsic {s = s} {i = i}) e = absurd (no s i e)
    where
      no : (s : ModuleInternedTypeIndex) (i : UnsafeIntrinsic) → def.UnsafeIntrinsic s i ≡ def.Adapter a → ⊥
      no s i e = grind (arith, e)
  parts_of a x at
      (means_adapter {a = b} {x = y} {lift = lift} {lower = lower} {callee = callee} p of_lift of_lower f) e =
      let same : y ≡ x = same_Some y x (sym p ∙ ap (λ (n : AdapterId). slice_get g.adapters n.0) (number b e) ∙ at) in
      record {
        lift = lift;
        lower = lower;
        callee = callee;
        is = ap (λ z. value.adapter (function_mark z.lift_ty) lift (function_mark z.lower_ty) lower callee) same;
        of_lift = subst (λ z. MeansSide g z.lift_options lift) same of_lift;
        of_lower = subst (λ z. MeansSide g z.lower_options lower) same of_lower;
        of_callee = subst (λ z. Means g z.func callee) same f;
      }
    where
      number : (b : AdapterId) → def.Adapter b ≡ def.Adapter a → b ≡ a
      number b e = grind (arith, e)

  -- a definition is there exactly where its value is
  there_alike : {o : Option CoreDef} {v : MaybeValue Mark} → MeansMaybe g o v → is_some o ≡ is_there v
  there_alike means_none = refl
  there_alike (means_some m) = refl

  memory_there : (m : Option Memory) → is_some m ≡ is_some (option_map memory_as m)
  memory_there None = refl
  memory_there (Some m) = refl

  model_asked : (taken given : TypeFacts) {d : DataModel} {m : ValueModel Mark} → MeansSideModel g d m
      → side_has_asked taken given d ≡ has_asked taken given m
  model_asked taken given means_side_gc = refl
  model_asked taken given (means_side_linear {m = m} {r = r} a b) =
      let memory = memory_there m ∙ there_alike a in
      let realloc = there_alike b in
      λ i. (not (in_memory taken || in_memory given) || memory i) && (not (in_memory taken) || realloc i)

  side_asked : (taken given : TypeFacts) {o : AdapterOptions} {v : Options Mark} → MeansSide g o v
      → side_has_asked taken given o.data_model ≡ has_asked taken given (model_of v)
  side_asked taken given (means_side a b m) = model_asked taken given m

  -- an adapter has what its types ask for exactly where its value has
  pub asked_alike : (a : AdapterId) (x : Adapter) (v : CoreValue Mark) (lift lower : FunctionFacts)
      → slice_get g.adapters a.0 ≡ Some x → Means g (def.Adapter a) v
      → adapter_has_options lift lower x ≡ has_options lift lower v
  asked_alike a x v lift lower at means =
      let parts = parts_of a x at means refl in
      let first = side_asked lift.params lift.results parts.of_lift in
      let second = side_asked lower.results lower.params parts.of_lower in
      (λ i. first i && second i) ∙ sym (ap (has_options lift lower) parts.is)

  module _ (s : Mark) where
    abbrev R : Import → plan.Import Mark → Type 0
    R = StandsFor g s

    definition_means : (t : Mark) {o : Option CoreDef} {v : MaybeValue Mark} → MeansMaybe g o v
        → AllZip R (definitions o) (function_if t v)
    definition_means t means_none = tt
    definition_means t (means_some m) = (has_definition m, tt)

    memory_means : (w : Bool) {o : Option CoreDef} {v : MaybeValue Mark} → MeansMaybe g o v
        → AllZip R (definitions o) (memory_if w v)
    memory_means w means_none = tt
    memory_means w (means_some m) = (has_definition m, tt)

    memory_same : (m : Option Memory) → definitions (option_map memory_as m) ≡ memory_imports m
    memory_same None = refl
    memory_same (Some m) = refl

    model_means : (w : Bool) {d : DataModel} {m : ValueModel Mark} → MeansSideModel g d m
        → AllZip R (memory_imports (memory_of d) ++ definitions (realloc_of d))
        (memory_if w (memory_in m) ++ function_if s (realloc_in m))
    model_means w means_side_gc = tt
    model_means w (means_side_linear {m = m} {r = r} {memory = memory} {realloc = realloc} a b) =
        zip_append R (memory_imports m) (definitions r) (memory_if w memory) (function_if s realloc)
        (subst (λ xs. AllZip R xs (memory_if w memory)) (memory_same m) (memory_means w a)) (definition_means s b)

    -- what the options of a side hold
    side_means : (w : Bool) (o : AdapterOptions) {c p : MaybeValue Mark} {m : ValueModel Mark}
        → MeansMaybe g o.callback c → MeansMaybe g o.post_return p → MeansSideModel g o.data_model m
        → AllZip R (side_imports o) (side s w m c p)
    side_means w o {c = c} {p = p} {m = m} a b d =
        let model = memory_imports (memory_of o.data_model) ++ definitions (realloc_of o.data_model) in
        let planned = memory_if w (memory_in m) ++ function_if s (realloc_in m) in
        zip_append R (model ++ definitions o.callback) (definitions o.post_return) (planned ++ function_if s c)
        (function_if s p)
        (zip_append R model (definitions o.callback) planned (function_if s c) (model_means w d) (definition_means s a))
        (definition_means s b)

    -- what brings strings from one memory to another
    each_copy : (from to : Memory) {v w : CoreValue Mark} → Means g (memory_as from) v → Means g (memory_as to) w
        → (ops : List Transcode)
        → AllZip R (map (copy from to) ops) (map (made.transcoder s from.1 to.1 v w) ops)
    each_copy from to a b [] = tt
    each_copy from to a b (op ∷ ops) = (has_transcoder a b, each_copy from to a b ops)

    copies_mean : (ops : List Transcode) (from to : Option Memory) {o p : Option CoreDef} {v w : MaybeValue Mark}
        → o ≡ option_map memory_as from → p ≡ option_map memory_as to → MeansMaybe g o v → MeansMaybe g p w
        → AllZip R (copies ops from to) (transcoders s ops (wide_if from) (wide_if to) v w)
    copies_mean ops None to e f means_none b = tt
    copies_mean ops None to e f (means_some {d = d} a) b = absurd (no d e)
      where
        no : (d : CoreDef) → Some d ≡ None → ⊥
        no d e = grind (arith, e)
    copies_mean ops (Some m) to e f means_none b = absurd (no e)
      where
        no : None ≡ Some (memory_as m) → ⊥
        no e = grind (arith, e)
    copies_mean ops (Some m) None e f (means_some a) means_none = tt
    copies_mean ops (Some m) None e f (means_some a) (means_some {d = d} b) = absurd (no d f)
      where
        no : (d : CoreDef) → Some d ≡ None → ⊥
        no d e = grind (arith, e)
    copies_mean ops (Some m) (Some n) e f (means_some a) means_none = absurd (no f)
      where
        no : None ≡ Some (memory_as n) → ⊥
        no e = grind (arith, e)
    copies_mean ops (Some m) (Some n) e f (means_some {d = c} {v = v} a) (means_some {d = d} {v = w} b) =
        let from = same_Some c (memory_as m) e in
        let to = same_Some d (memory_as n) f in
        each_copy m n (subst (λ x. Means g x v) from a) (subst (λ x. Means g x w) to b) ops

    models_copied : (ops : List Transcode) {d e : DataModel} {m n : ValueModel Mark} → MeansSideModel g d m
        → MeansSideModel g e n
        → AllZip R (copies ops (memory_of d) (memory_of e))
        (transcoders s ops (is_wide d) (is_wide e) (memory_in m) (memory_in n))
    models_copied ops means_side_gc b = tt
    models_copied ops (means_side_linear {m = m} {memory = v} a c) means_side_gc =
        copies_mean ops m None refl refl a means_none
    models_copied ops (means_side_linear {m = m} a c) (means_side_linear {m = n} b d) =
        copies_mean ops m n refl refl a b

    if_means : (moved : Bool) (xs : List Import) (ps : List (plan.Import Mark)) → AllZip R xs ps
        → AllZip R (if moved then xs else []) (if moved then ps else [])
    if_means true xs ps zip = zip
    if_means false xs ps zip = tt

    -- the transfers of handles
    one_transfer : (asked : Bool) (i : Import) (k : TrampolineKind)
        → HasValue g s i (helper k [] s value.no_parts).value
        → AllZip R (import_if asked i) (map (λ k. helper k [] s value.no_parts) (transfer_if asked k))
    one_transfer true i k has = (has, tt)
    one_transfer false i k has = tt

    more_transfers : (xs : List Import) (ks : List TrampolineKind) (asked : Bool) (i : Import) (k : TrampolineKind)
        → AllZip R xs (map (λ k. helper k [] s value.no_parts) ks)
        → HasValue g s i (helper k [] s value.no_parts).value
        → AllZip R (xs ++ import_if asked i) (map (λ k. helper k [] s value.no_parts) (ks ++ transfer_if asked k))
    more_transfers xs ks asked i k front has =
        let h : TrampolineKind → plan.Import Mark = λ k. helper k [] s value.no_parts in
        subst (AllZip R (xs ++ import_if asked i)) (sym (map-append h ks (transfer_if asked k)))
        (zip_append R xs (import_if asked i) (map h ks) (map h (transfer_if asked k)) front
        (one_transfer asked i k has))

    transfers_mean : (x : TypeFacts)
        → AllZip R (transfer_imports x) (map (λ k. helper k [] s value.no_parts) (transfers x))
    transfers_mean x =
        more_transfers _ _ x.error_context _ _
        (more_transfers _ _ x.stream _ _
        (more_transfers _ _ x.future _ _
        (more_transfers _ _ x.borrow _ _ (one_transfer x.own _ _ has_own) has_borrow) has_future) has_stream)
        has_error_context

    -- what begins and ends a call
    memory_first : (m : Option Memory)
        → option_map memory_def (option_map (λ (x : Memory). x.0) m) ≡ option_map memory_as m
    memory_first None = refl
    memory_first (Some m) = refl

    prepare_means : {d : DataModel} {m : ValueModel Mark} → MeansSideModel g d m
        → MeansMaybe g (option_map memory_def (option_map (λ (x : Memory). x.0) (memory_of d))) (memory_in m)
    prepare_means means_side_gc = means_none
    prepare_means (means_side_linear {m = m} {memory = v} a b) =
        subst (λ o. MeansMaybe g o v) (sym (memory_first m)) a

    calls_mean : (is_async clear : Bool) (o : AdapterOptions) {c p : MaybeValue Mark} {m : ValueModel Mark}
        → MeansMaybe g o.callback c → MeansMaybe g o.post_return p → MeansSideModel g o.data_model m
        → AllZip R (calls is_async clear o) (made.calls s is_async clear (memory_in m) c p)
    calls_mean true clear o a b d = (has_prepare (prepare_means d), (has_start a b, tt))
    calls_mean false true o a b d = tt
    calls_mean false false o a b d = (has_enter, (has_exit, tt))

  -- what is planned for an adapter stands for what is planned for its value, by their parts
  whole : (lift lower : FunctionFacts) (clear : Bool) (t u : TypeFuncIndex)
      (f : CoreDef) {o r : AdapterOptions} {lo ho : Options Mark}
      {callee : CoreValue Mark} → MeansSide g o lo → MeansSide g r ho → Means g f callee
      → AllZip (StandsFor g (mark.Signature r.core_type))
      (imports_of lift lower clear
      (record { lift_ty = t; lift_options = o; lower_ty = u; lower_options = r; func = f }))
      (planned lift lower clear (is_wide o.data_model) (is_wide r.data_model)
      (value.adapter (function_mark t) lo (function_mark u) ho callee))
  unfolding imports_of planned
  whole lift lower clear t u f {callee = v} (means_side {x = o} {callback = c} {post_return = p} {model = m} a b d)
      (means_side {x = r} {callback = c2} {post_return = p2} {model = m2} a2 b2 d2) h =
      let s : Mark = mark.Signature r.core_type in
      let Q : Import → plan.Import Mark → Type 0 = StandsFor g s in
      let x : Adapter = record { lift_ty = t; lift_options = o; lower_ty = u; lower_options = r; func = f } in
      let is1 = import.CoreDef f ∷ import.CoreDef (def.InstanceFlags r.instance)
      ∷ import.CoreDef (def.InstanceFlags o.instance) ∷ [] in
      let ps1 = function (mark.Signature o.core_type) v ∷ flags_of r.instance.0 ∷ flags_of o.instance.0 ∷ [] in
      let is2 = side_imports o in
      let ps2 = side s (is_wide o.data_model) m c p in
      let is3 = side_imports r in
      let ps3 = side s (is_wide r.data_model) m2 c2 p2 in
      let moved = lift.params.string && lower.params.string in
      let ops = transcodings r.string_encoding o.string_encoding in
      let copies4 = copies ops (memory_of r.data_model) (memory_of o.data_model) in
      let planned4 = transcoders s ops (is_wide r.data_model) (is_wide o.data_model) (memory_in m2) (memory_in m) in
      let is4 = if moved then copies4 else [] in
      let ps4 = if moved then planned4 else [] in
      let moved' = lift.results.string && lower.results.string in
      let ops' = transcodings o.string_encoding r.string_encoding in
      let copies5 = copies ops' (memory_of o.data_model) (memory_of r.data_model) in
      let planned5 = transcoders s ops' (is_wide o.data_model) (is_wide r.data_model) (memory_in m) (memory_in m2) in
      let is5 = if moved' then copies5 else [] in
      let ps5 = if moved' then planned5 else [] in
      let all = join (all_facts lift) (all_facts lower) in
      let is6 = transfer_imports all in
      let ps6 = map (λ k. helper k [] s value.no_parts) (transfers all) in
      let is_async = is_async_call lift lower x in
      let is7 = calls is_async clear o in
      let ps7 = made.calls s is_async clear (memory_in m) c p in
      zip_append Q (is1 ++ is2 ++ is3 ++ is4 ++ is5 ++ is6 ++ is7) (import.Trap (record { 0 = 1 }) ∷ [])
      (ps1 ++ ps2 ++ ps3 ++ ps4 ++ ps5 ++ ps6 ++ ps7) (helper kind.Trap (1 ∷ []) s value.no_parts ∷ [])
      (zip_append Q (is1 ++ is2 ++ is3 ++ is4 ++ is5 ++ is6) is7 (ps1 ++ ps2 ++ ps3 ++ ps4 ++ ps5 ++ ps6) ps7
      (zip_append Q (is1 ++ is2 ++ is3 ++ is4 ++ is5) is6 (ps1 ++ ps2 ++ ps3 ++ ps4 ++ ps5) ps6
      (zip_append Q (is1 ++ is2 ++ is3 ++ is4) is5 (ps1 ++ ps2 ++ ps3 ++ ps4) ps5
      (zip_append Q (is1 ++ is2 ++ is3) is4 (ps1 ++ ps2 ++ ps3) ps4
      (zip_append Q (is1 ++ is2) is3 (ps1 ++ ps2) ps3
      (zip_append Q is1 is2 ps1 ps2
      (has_definition h, (has_definition means_flags, (has_definition means_flags, tt)))
      (side_means s (is_wide o.data_model) o a b d))
      (side_means s (is_wide r.data_model) r a2 b2 d2))
      (if_means s moved copies4 planned4 (models_copied s ops d2 d)))
      (if_means s moved' copies5 planned5 (models_copied s ops' d d2)))
      (transfers_mean s all))
      (calls_mean s is_async clear o a b d))
      (has_trap, tt)

  pub planned_alike : (a : AdapterId) (x : Adapter) (v : CoreValue Mark) (lift lower : FunctionFacts) (clear : Bool)
      → slice_get g.adapters a.0 ≡ Some x → Means g (def.Adapter a) v
      → AllZip (StandsFor g (mark.Signature x.lower_options.core_type)) (imports_of lift lower clear x)
      (planned lift lower clear (is_wide x.lift_options.data_model) (is_wide x.lower_options.data_model) v)
  planned_alike a x v lift lower clear at means =
      let parts = parts_of a x at means refl in
      subst (λ w. AllZip (StandsFor g (mark.Signature x.lower_options.core_type)) (imports_of lift lower clear x)
      (planned lift lower clear (is_wide x.lift_options.data_model) (is_wide x.lower_options.data_model) w))
      (sym parts.is)
      (whole lift lower clear x.lift_ty x.lower_ty x.func parts.of_lift parts.of_lower parts.of_callee)

  -- a place is there exactly where the value is that stands there
  place_alike : (n : ℕ) {o : Option CoreDef} {v : MaybeValue Mark} → MeansMaybe g o v
      → place_at n v ≡ place_if n (is_some o)
  place_alike n means_none = refl
  place_alike n (means_some m) = refl

  count_alike : {o : Option CoreDef} {v : MaybeValue Mark} → MeansMaybe g o v → taken v ≡ count_if (is_some o)
  count_alike means_none = refl
  count_alike (means_some m) = refl

  model_taken_alike : {d : DataModel} {m : ValueModel Mark} → MeansSideModel g d m → place.model_taken m ≡ model_count d
  model_taken_alike means_side_gc = refl
  model_taken_alike (means_side_linear {m = m} a b) =
      let memory = count_alike a ∙ ap count_if (sym (memory_there m)) in
      let realloc = count_alike b in
      λ i. memory i + realloc i

  side_taken_alike : {o : AdapterOptions} {v : Options Mark} → MeansSide g o v → place.side_taken v ≡ side_count o
  side_taken_alike (means_side a b d) =
      let model = model_taken_alike d in
      let callback = count_alike a in
      let post_return = count_alike b in
      λ i. model i + callback i + post_return i

  model_places_alike : (n : ℕ) {d : DataModel} {m : ValueModel Mark} → MeansSideModel g d m
      → place.model_places n m
      ≡ side_model (is_gc d) (place_if n (has_memory d)) (place_if (n + count_if (has_memory d)) (has_realloc d))
  model_places_alike n means_side_gc = refl
  model_places_alike n (means_side_linear {m = m} {r = r} {memory = v} {realloc = w} a b) =
      let there = sym (memory_there m) in
      let memory = place_alike n a ∙ ap (place_if n) there in
      let free = ap (λ k. n + k) (count_alike a ∙ ap count_if there) in
      let realloc = ap (λ k. place_at k w) free ∙ place_alike (n + count_if (is_some m)) b in
      λ i. view.linear (memory i) (realloc i)

  side_places_alike : (n : ℕ) {o : AdapterOptions} {v : Options Mark} → MeansSide g o v
      → place.side_places n v ≡ side_view (side_record n o)
  side_places_alike n (means_side {x = o} {callback = c} {post_return = p} {model = m} a b d) =
      let model = ap (λ k. n + k) (model_taken_alike d) in
      let callback = ap (λ k. place_at k c) model ∙ place_alike (n + model_count o.data_model) a in
      let after : n + place.model_taken m + taken c ≡ n + model_count o.data_model + count_if (is_some o.callback) =
      λ i. model i + count_alike a i in
      let post_return = ap (λ k. place_at k p) after
      ∙ place_alike (n + model_count o.data_model + count_if (is_some o.callback)) b in
      let places = model_places_alike n d in
      λ i. record {
        component_instance = o.instance.0;
        encoding = o.string_encoding;
        is_async = o.async_;
        signature = mark.Signature o.core_type;
        callback = callback i;
        post_return = post_return i;
        model = places i;
      }

  pub recorded_alike : (a : AdapterId) (x : Adapter) (v : CoreValue Mark) (core_module function first : ℕ)
      → slice_get g.adapters a.0 ≡ Some x → Means g (def.Adapter a) v
      → record_at core_module function first a.0 v
      ≡ Some (adapter_view core_module (record (record_of first a.0 x) { func = record { 0 = function } }))
  recorded_alike a x v m f first at means =
      let parts = parts_of a x at means refl in
      let lift = side_places_alike (first + 3) parts.of_lift in
      let lower = ap (λ k. place.side_places (first + 3 + k) parts.lower) (side_taken_alike parts.of_lift)
      ∙ side_places_alike (first + 3 + side_count x.lift_options) parts.of_lower in
      ap (record_at m f first a.0) parts.is
      ∙ (λ i. Some (record {
        core_module = m;
        adapter = a.0;
        function = f;
        callee = first;
        lift_type = function_mark x.lift_ty;
        lift = lift i;
        lower_type = function_mark x.lower_ty;
        lower = lower i;
      }))
