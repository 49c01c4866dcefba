-- As what is imported what is planned for an adapter: behind what its options hold, functions alone.
use Rattle.std.proofs.Common.{◌≡◌, ◌≤◌, ℕ, zero, suc, ◌+◌, ◌-◌, Bool, true, false, ◌&&◌, ◌||◌, List, []}
use Rattle.std.proofs.Common.{◌∷◌, ◌++◌, Option}
use Rattle.std.proofs.Common.{None, Some, length, refl, sym, ap, subst, ◌∙◌, arith, length-append}
use Rattle.std.specs.Prelude.{map, option_map, replicate, slice_get, is_some, if◌then◌else◌}
use Rattle.std.proofs.lemmas.List.{append_assoc, append-nil, map-append}
use Rattle.pc_types.specs.declared.parsed.CoreEntity.{CoreEntity}
use Rattle.pc_types.specs.declared.parsed.CoreEntity.TheVariants as core
use Rattle.pc_types.specs.declared.trampoline.TrampolineKind.{TrampolineKind}
use Rattle.pc_types.specs.declared.trampoline.TrampolineKind.TheVariants as kind
use Rattle.pc_types.specs.declared.type_index.TypeFuncIndex.{TypeFuncIndex}
use Rattle.pc_numbers.specs.declared.module_entity.ModuleInternedTypeIndex.{ModuleInternedTypeIndex}
use Rattle.pc_types_lists.specs.Facts.{join}
use Rattle.pc_spec_plan.specs.CoreValue as value
use Rattle.pc_spec_plan.specs.CoreValue.{CoreValue, Options, MaybeValue}
use Rattle.pc_spec_plan.specs.CoreValue.{DataModel as ValueModel}
use Rattle.pc_trampoline.specs.declared.part.Mark.{Mark}
use Rattle.pc_trampoline.specs.declared.part.Mark.TheVariants as mark
use Rattle.pc_trampoline.specs.declared.transcode.Transcode.{Transcode}
use Rattle.pc_info.specs.Modules.{function_mark}
use Rattle.pc_dfg.specs.declared.adapter.Adapter.{Adapter}
use Rattle.pc_dfg.specs.declared.adapter.AdapterOptions.{AdapterOptions}
use Rattle.pc_dfg.specs.declared.adapter.DataModel.{DataModel}
use Rattle.pc_dfg.specs.declared.adapter.DataModel.TheVariants as model
use Rattle.pc_dfg.specs.declared.core_def.CoreDef.{CoreDef}
use Rattle.pc_dfg.specs.declared.core_def.CoreDef.TheVariants as def
use Rattle.pc_dfg.specs.declared.dfg.ComponentDfg.{ComponentDfg}
use Rattle.pc_dfg.specs.declared.ids.AdapterId.{AdapterId}
use Rattle.pc_dfg.specs.Means.{Means, MeansMaybe, MeansSide, MeansSideModel, means_side, means_side_gc}
use Rattle.pc_dfg.specs.Means.{means_side_linear, means_none, means_some}
use Rattle.pc_spec_adapt.specs.Asked.{FunctionFacts}
use Rattle.pc_spec_adapt.specs.Import.{Import, entity_of}
use Rattle.pc_spec_adapt.specs.Planned.{all_facts, calls, flags_of, function, helper, memory_if, memory_in, planned}
use Rattle.pc_spec_adapt.specs.Planned.{realloc_in, side, transcoder, transcoders, transcodings, transfers}
use Rattle.pc_spec_adapt.specs.Planned as made
use Rattle.pc_adapt.specs.Imports.{Memory}
use Rattle.pc_adapt.specs.Planned.{is_wide, wide_if}
use Rattle.pc_adapt.proofs.PlannedLemmas.{memory_as, parts_of}
use Rattle.pc_adapt_modules.specs.Entities.{entities_for, first_entities, function_if, has_realloc, memory_entities}
use Rattle.pc_adapt_modules.specs.Entities.{side_entities, signature_number}

-- the entity of an import
abbrev E : Import Mark → CoreEntity
E = entity_of signature_number

replicate_append : (a b : ℕ) (f : CoreEntity) → replicate a f ++ replicate b f ≡ replicate (a + b) f
replicate_append zero b f = let all : b ≡ 0 + b = omega arith in ap (λ n. replicate n f) all
replicate_append (suc a) b f =
    let all : suc (a + b) ≡ suc a + b = omega arith in
    ap (λ xs. f ∷ xs) (replicate_append a b f) ∙ ap (λ n. replicate n f) all

module _ (t : ModuleInternedTypeIndex) where
  abbrev f : CoreEntity
  f = core.Func t.0

  abbrev s : Mark
  s = mark.Signature t

  -- imports that are functions of this core signature
  abbrev AreFunctions : List (Import Mark) → Type 0
  AreFunctions xs = map E xs ≡ replicate (length xs) f

  -- entities, and behind them functions alone
  record Behind (front : List CoreEntity) (xs : List (Import Mark)) : Type 0 where
    short : length front ≤ length xs
    is : map E xs ≡ front ++ replicate (length xs - length front) f

  length_map : (xs : List (Import Mark)) → length (map E xs) ≡ length xs
  length_map [] = refl
  length_map (x ∷ xs) = ap suc (length_map xs)

  -- with nothing behind
  behind_none : (front : List CoreEntity) (xs : List (Import Mark)) → map E xs ≡ front → Behind front xs
  behind_none front xs is =
      let long : length xs ≡ length front = sym (length_map xs) ∙ ap length is in
      let none : 0 ≡ length xs - length front = omega (arith, long) in
      record {
        short = omega (arith, long);
        is = is ∙ sym (append-nil front) ∙ ap (λ n. front ++ replicate n f) none;
      }

  -- with more functions behind
  behind_more : (front : List CoreEntity) (xs ys : List (Import Mark)) → Behind front xs → AreFunctions ys
      → Behind front (xs ++ ys)
  behind_more front xs ys behind more =
      let a = length xs - length front in
      let long = length-append xs ys in
      let count : a + length ys ≡ length (xs ++ ys) - length front = omega (arith, long, behind.short) in
      record {
        short = omega (arith, long, behind.short);
        is = map-append E xs ys
            ∙ (λ i. behind.is i ++ more i)
            ∙ append_assoc front (replicate a f) (replicate (length ys) f)
            ∙ ap (λ zs. front ++ zs) (replicate_append a (length ys) f)
            ∙ ap (λ n. front ++ replicate n f) count;
      }

  -- transcoders and transfers are functions
  are_transcoders : (ops : List Transcode) (fw tw : Bool) (v w : CoreValue Mark)
      → AreFunctions (map (transcoder s fw tw v w) ops)
  are_transcoders [] fw tw v w = refl
  are_transcoders (op ∷ ops) fw tw v w = ap (λ xs. f ∷ xs) (are_transcoders ops fw tw v w)

  transcoders_are : (ops : List Transcode) (fw tw : Bool) (v w : MaybeValue Mark)
      → AreFunctions (transcoders s ops fw tw v w)
  transcoders_are ops fw tw value.no_value w = refl
  transcoders_are ops fw tw (value.a_value v) value.no_value = refl
  transcoders_are ops fw tw (value.a_value v) (value.a_value w) = are_transcoders ops fw tw v w

  if_are : (moved : Bool) (xs : List (Import Mark)) → AreFunctions xs → AreFunctions (if moved then xs else [])
  if_are true xs are = are
  if_are false xs are = refl

  transfers_are : (ks : List TrampolineKind) → AreFunctions (map (λ k. helper k [] s value.no_parts) ks)
  transfers_are [] = refl
  transfers_are (k ∷ ks) = ap (λ xs. f ∷ xs) (transfers_are ks)

  calls_are : (is_async is_transparent : Bool) (m c p : MaybeValue Mark)
      → AreFunctions (calls s is_async is_transparent m c p)
  calls_are true b m c p = refl
  calls_are false true m c p = refl
  calls_are false false m c p = refl

  module _ (g : ComponentDfg) where
    -- a function is there exactly where its value is
    function_entity : {o : Option CoreDef} {v : MaybeValue Mark} → MeansMaybe g o v
        → map E (made.function_if s v) ≡ function_if (is_some o) t
    function_entity means_none = refl
    function_entity (means_some m) = refl

    memory_entity : (m : Option Memory) (r : Option CoreDef) {o : Option CoreDef} {v : MaybeValue Mark}
        → o ≡ option_map memory_as m → MeansMaybe g o v
        → map E (memory_if (wide_if m) v) ≡ memory_entities (model.LinearMemory m r)
    memory_entity None r e means_none = refl
    memory_entity None r e (means_some {d = d} a) = absurd (other d e)
      where
        other : (d : CoreDef) → Some d ≡ None → ⊥
        other d e = grind (arith, e)
    memory_entity (Some m) r e means_none = absurd (other e)
      where
        other : None ≡ Some (memory_as m) → ⊥
        other e = grind (arith, e)
    memory_entity (Some m) r e (means_some a) = refl

    model_memory : {d : DataModel} {m : ValueModel Mark} → MeansSideModel g d m
        → map E (memory_if (is_wide d) (memory_in m)) ≡ memory_entities d
    model_memory means_side_gc = refl
    model_memory (means_side_linear {m = m} {r = r} a b) = memory_entity m r refl a

    model_realloc : {d : DataModel} {m : ValueModel Mark} → MeansSideModel g d m
        → map E (made.function_if s (realloc_in m)) ≡ function_if (has_realloc d) t
    model_realloc means_side_gc = refl
    model_realloc (means_side_linear a b) = function_entity b

    -- what the options of a side hold
    side_are : (o : AdapterOptions) {c p : MaybeValue Mark} {m : ValueModel Mark} → MeansMaybe g o.callback c
        → MeansMaybe g o.post_return p → MeansSideModel g o.data_model m
        → map E (side s (is_wide o.data_model) m c p) ≡ side_entities t o
    side_are o {c = c} {p = p} {m = m} a b d =
        let xs = memory_if (is_wide o.data_model) (memory_in m) in
        let ys = made.function_if s (realloc_in m) in
        let zs = made.function_if s c in
        let ws = made.function_if s p in
        map-append E (xs ++ ys ++ zs) ws
        ∙ ap (λ es. es ++ map E ws) (map-append E (xs ++ ys) zs)
        ∙ ap (λ es. es ++ map E zs ++ map E ws) (map-append E xs ys)
        ∙ (λ i. model_memory d i ++ model_realloc d i ++ function_entity a i ++ function_entity b i)

-- as what is imported what is planned for an adapter, by its parts
whole : (g : ComponentDfg) (lift lower : FunctionFacts) (clear : Bool) (u w : TypeFuncIndex)
    (d : CoreDef) {o r : AdapterOptions}
    {lo ho : Options Mark} (callee : CoreValue Mark) → MeansSide g o lo → MeansSide g r ho
    → Behind r.core_type (first_entities
    (record { lift_ty = u; lift_options = o; lower_ty = w; lower_options = r; func = d }))
    (planned lift lower clear (is_wide o.data_model) (is_wide r.data_model)
    (value.adapter (function_mark u) lo (function_mark w) ho callee))
unfolding planned
whole g lift lower clear u w d v (means_side {x = o} {callback = c} {post_return = p} {model = m} a b n)
    (means_side {x = r} {callback = c2} {post_return = p2} {model = m2} a2 b2 n2) =
    let t = r.core_type in
    let x : Adapter = record { lift_ty = u; lift_options = o; lower_ty = w; lower_options = r; func = d } in
    let ps1 = function (mark.Signature o.core_type) v ∷ flags_of r.instance.0 ∷ flags_of o.instance.0 ∷ [] in
    let ps2 = side (mark.Signature t) (is_wide o.data_model) m c p in
    let ps3 = side (mark.Signature t) (is_wide r.data_model) m2 c2 p2 in
    let moved = lift.params.string && lower.params.string in
    let planned4 = transcoders (mark.Signature t) (transcodings r.string_encoding o.string_encoding)
    (is_wide r.data_model) (is_wide o.data_model) (memory_in m2) (memory_in m) in
    let ps4 = if moved then planned4 else [] in
    let moved' = lift.results.string && lower.results.string in
    let planned5 = transcoders (mark.Signature t) (transcodings o.string_encoding r.string_encoding)
    (is_wide o.data_model) (is_wide r.data_model) (memory_in m) (memory_in m2) in
    let ps5 = if moved' then planned5 else [] in
    let ks = transfers (join (all_facts lift) (all_facts lower)) in
    let ps6 = map (λ k. helper k [] (mark.Signature t) value.no_parts) ks in
    let is_async = o.async_ || r.async_ || lift.is_async || lower.is_async in
    let ps7 = calls (mark.Signature t) is_async clear (memory_in m) c p in
    let ps8 = helper kind.Trap (1 ∷ []) (mark.Signature t) value.no_parts ∷ [] in
    let front : map E (ps1 ++ ps2 ++ ps3) ≡ first_entities x =
    map-append E (ps1 ++ ps2) ps3
    ∙ ap (λ es. es ++ map E ps3) (map-append E ps1 ps2)
    ∙ (λ i. map E ps1 ++ side_are t g o a b n i ++ side_are t g r a2 b2 n2 i) in
    behind_more t (first_entities x) (ps1 ++ ps2 ++ ps3 ++ ps4 ++ ps5 ++ ps6 ++ ps7) ps8
    (behind_more t (first_entities x) (ps1 ++ ps2 ++ ps3 ++ ps4 ++ ps5 ++ ps6) ps7
    (behind_more t (first_entities x) (ps1 ++ ps2 ++ ps3 ++ ps4 ++ ps5) ps6
    (behind_more t (first_entities x) (ps1 ++ ps2 ++ ps3 ++ ps4) ps5
    (behind_more t (first_entities x) (ps1 ++ ps2 ++ ps3) ps4
    (behind_none t (first_entities x) (ps1 ++ ps2 ++ ps3) front)
    (if_are t moved planned4 (transcoders_are t _ _ _ _ _)))
    (if_are t moved' planned5 (transcoders_are t _ _ _ _ _)))
    (transfers_are t ks))
    (calls_are t is_async clear (memory_in m) c p))
    refl

-- as what is imported what is planned for an adapter
pub entities_planned : (g : ComponentDfg) (a : AdapterId) (x : Adapter) (v : CoreValue Mark)
    (lift lower : FunctionFacts) (clear : Bool) → slice_get g.adapters a.0 ≡ Some x → Means g (def.Adapter a) v
    → map (entity_of signature_number)
    (planned lift lower clear (is_wide x.lift_options.data_model) (is_wide x.lower_options.data_model) v)
    ≡ entities_for x
    (length (planned lift lower clear (is_wide x.lift_options.data_model) (is_wide x.lower_options.data_model) v))
entities_planned g a x v lift lower clear at means =
    let parts = parts_of g a x at means refl in
    let all = whole g lift lower clear x.lift_ty x.lower_ty x.func parts.callee parts.of_lift parts.of_lower in
    subst (λ u. map E
    (planned lift lower clear (is_wide x.lift_options.data_model) (is_wide x.lower_options.data_model) u)
    ≡ entities_for x
    (length (planned lift lower clear (is_wide x.lift_options.data_model) (is_wide x.lower_options.data_model) u)))
    (sym parts.is) all.is
