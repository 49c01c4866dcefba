-- A generated chain has a plan, and its plan has as many adapters as the chain has links.
use Rattle.std.proofs.Common.{◌≡◌, ◌≤◌, ◌<◌, inl, inr, ◌+◌, ℕ, true, List, [], ◌∷◌, ◌++◌, Option, Some, None}
use Rattle.std.proofs.Common.{Result, Ok, Err, IfErr, IfOk, refl, sym, ap, subst, ◌∙◌, arith, length, length-append, map}
use Rattle.std.proofs.Common.{if◌then◌else◌}
use Rattle.std.proofs.lemmas.List.{length-map}
use Rattle.std.proofs.lemmas.List.Elements.{All-head, All-tail}
use Rattle.std.specs.Prelude.{All, ◌&&◌, option_map}
use Rattle.std.specs.List.{cons_option, filter_map, flat_map}
use Rattle.pc_types.specs.declared.error.Error.{Error}
use Rattle.pc_types.specs.declared.error.Error.TheVariants as error
use Rattle.pc_types.specs.declared.module_record.ModuleRecord.{ModuleRecord}
use Rattle.pc_types_lists.specs.Types.{Types}
use Rattle.pc_spec_plan.specs.CoreValue.{CoreValue, DataModel, adapter, gc, linear}
use Rattle.pc_spec_plan.specs.Log.{Entry, declared, declared_resource, instantiated, made, needed}
use Rattle.pc_spec_plan.specs.Machine.{State}
use Rattle.pc_spec_adapt.specs.Asked.{function_facts, has_asked, model_of}
use Rattle.pc_spec_adapt.specs.Needs.{adapters_of}
use Rattle.pc_spec_adapt.specs.Record.{Member, functions_in, record_at, records_from}
use Rattle.pc_trampoline.specs.declared.part.Mark.{Mark}
use Rattle.pc_info.specs.declared.component.ComponentTranslation.{ComponentTranslation}
use Rattle.pc_info.specs.declared.module.ModuleTranslation.{ModuleTranslation}
use Rattle.pc_info.specs.Modules.{adapter_view, adapters_view}
use Rattle.pc_parsed.specs.Mark as reading
use Rattle.pc_spec_reading.specs.Reading.{Reading}
use Rattle.pc_inline_state.specs.Holds.{ReadsAs, number_of}
use Rattle.pc_spec_facts.specs.Recorded.{bare}
use Rattle.pc_adapt_modules.specs.Entities.{signature_number}
use Rattle.pc_adapt_partition.specs.Adapted.{AreModulesOf}
use Rattle.pc_generate.specs.declared.input.Generated.{Generated}
use Rattle.pc_generate.specs.Generated.{generated, payloads}
use Rattle.pc_generate.specs.Table.{table}
use Rattle.pc_generate.specs.Valid.{AdaptsFunction, IsValid as IsValidChain, adapter_of, function_tree}
use Rattle.pc_generate.proofs.ChainLemmas.{valid}
use Rattle.pc_translate.specs.Adapted.{Adapts, NumberedMember, as_handed_in, map_member, whole_adapter, with_numbers}
use Rattle.pc_translate.specs.Adapters.{first_lacking, is_complete, lacking_from}
use Rattle.pc_translate.specs.Causes.{answer_in_order, in_the_end, or_lacking}
use Rattle.pc_translate.specs.Translation.{IsPlanOf, IsRefusalOf}
use Rattle.pc_tool.specs.Chain.{IsChainPlan}
use Rattle.pc_tool.specs.Refusal.{not_both}

-- the adapters of a log are those that its entries make
made_are : (log : List (Entry reading.Mark)) → filter_map adapter_of log ≡ adapters_of log
made_are [] = refl
made_are (instantiated i c ∷ es) = made_are es
made_are (declared_resource r d c ∷ es) = made_are es
made_are (declared v ∷ es) = made_are es
made_are (made v ∷ es) = ap (λ vs. v ∷ vs) (made_are es)
made_are (needed p ∷ es) = made_are es

-- the function of a chain asks for no options
nothing_asked : (m k : DataModel reading.Mark)
    → (has_asked (function_facts function_tree).params (function_facts function_tree).results m
    && has_asked (function_facts function_tree).results (function_facts function_tree).params k) ≡ true
nothing_asked gc gc = refl
nothing_asked gc (linear m r) = refl
nothing_asked (linear m r) gc = refl
nothing_asked (linear m r) (linear n s) = refl

-- so an adapter of it lacks none
adapts_complete : (v : CoreValue reading.Mark) → AdaptsFunction v → is_complete v ≡ true
adapts_complete (adapter t lift u lower callee) is =
    subst (λ x. is_complete (adapter x lift u lower callee) ≡ true) (sym is.0)
    (subst (λ x. is_complete (adapter (reading.of_type function_tree) lift x lower callee) ≡ true) (sym is.1)
    (nothing_asked (model_of lift) (model_of lower)))
adapts_complete v is = absurd is

-- and none of these adapters lacks one
none_lacks : (n : ℕ) (vs : List (CoreValue reading.Mark)) → All AdaptsFunction vs → lacking_from n vs ≡ None
unfolding lacking_from
none_lacks n [] all = refl
none_lacks n (v ∷ vs) all =
    ap (λ b. if b then lacking_from (n + 1) vs else Some n) (adapts_complete v (All-head AdaptsFunction v vs all))
    ∙ none_lacks (n + 1) vs (All-tail AdaptsFunction v vs all)

-- no adapter of a chain lacks an option
chain_complete : (n : ℕ) (v : IsValidChain n) → first_lacking v.result_ ≡ None
chain_complete n v =
    none_lacks 0 (adapters_of v.result_.log) (subst (All AdaptsFunction) (made_are v.result_.log) v.has_links.typed)

module _ (n : ℕ) (v : IsValidChain n) where
  -- its reading is its answer
  chain_answer : answer_in_order table None (n + 2) 0 (payloads n) ≡ Some (Ok v.result_)
  unfolding answer_in_order
  chain_answer =
      ap (option_map in_the_end) v.is_done ∙ ap (λ o. Some (or_lacking o v.result_)) (chain_complete n v)

  refused_for_memory : (e : Error) → IsRefusalOf table None (n + 2) (payloads n) e → e ≡ error.NoMemory
  unfolding IsRefusalOf
  refused_for_memory e (inl memory) = memory
  refused_for_memory e (inr answered) = absurd (not_both _ v.result_ e chain_answer answered)

-- a chain has no refusal but want of memory
pub chain_refused : (n : ℕ) → n ≤ 10000 → (e : Error) → IsRefusalOf table None (n + 2) (payloads n) e
    → e ≡ error.NoMemory
chain_refused n few e h = refused_for_memory n (valid n few) e h

-- at most one record is made of a member
few_records : (m f p : ℕ) (members : List (Member Mark)) → length (records_from m f p members) ≤ length members
few_records m f p [] = omega arith
few_records m f p (x ∷ xs) =
    let one = at_most_one (record_at m f p x.number x.adapter) in
    let rest = few_records m (f + 1) (p + length x.imports) xs in
    let both = length-append (cons_option (record_at m f p x.number x.adapter) [])
    (records_from m (f + 1) (p + length x.imports) xs) in
    omega (arith, one, rest, both)
  where
    at_most_one : {A : Type 0} (o : Option A) → length (cons_option o []) ≤ 1
    at_most_one None = omega arith
    at_most_one (Some x) = omega arith

-- how many adapters modules have
abbrev many : List ModuleTranslation → ℕ
many [] = 0
many (m ∷ ms) = length m.adapters + many ms

view_many : (k : ℕ) (ms : List ModuleTranslation) → length (adapters_view k ms) ≡ many ms
view_many k [] = refl
view_many k (m ∷ ms) =
    let one = length-map m.adapters (adapter_view k) in
    let rest = view_many (k + 1) ms in
    let both = length-append (map (adapter_view k) m.adapters) (adapters_view (k + 1) ms) in
    omega (arith, one, rest, both)

bare_many : (ms : List ModuleTranslation) → many (map bare ms) ≡ many ms
bare_many [] = refl
bare_many (m ∷ ms) = ap (λ k. length m.adapters + k) (bare_many ms)

many-append : (ms ns : List ModuleTranslation) → many (ms ++ ns) ≡ many ms + many ns
many-append [] ns = let same : many ns ≡ 0 + many ns = omega arith in same
many-append (m ∷ ms) ns = let rest = many-append ms ns in omega (arith, rest)

handed_in_none : (rs : List ModuleRecord) → many (map as_handed_in rs) ≡ 0
handed_in_none [] = refl
handed_in_none (r ∷ rs) =
    let rest = handed_in_none rs in
    let none : 0 + many (map as_handed_in rs) ≡ 0 = omega (arith, rest) in none

-- modules of groups have no more adapters than the groups
few_in_groups : (n : ℕ) (groups : List (List (Member Mark))) (ms : List ModuleTranslation) → AreModulesOf n groups ms
    → many ms ≤ length (flat_map (λ (g : List (Member Mark)). g) groups)
few_in_groups n [] [] are = omega arith
few_in_groups n [] (m ∷ ms) are = absurd are
few_in_groups n (members ∷ groups) [] are = absurd are
few_in_groups n (members ∷ groups) (m ∷ ms) are =
    let seen = length-map m.adapters (adapter_view n) in
    let said = ap length are.0.said in
    let one = few_records n (functions_in signature_number members) 0 members in
    let rest = few_in_groups (n + 1) groups ms are.1 in
    let both = length-append members (flat_map (λ (g : List (Member Mark)). g) groups) in
    omega (arith, seen, said, one, rest, both)

-- the modules of a plan have no more adapters than its reading makes
module _ (types : Types) (rs : List ModuleRecord) (r : Reading) (ms : List ModuleTranslation) (last : State Mark) where
  numbered_length : (groups : List (List (NumberedMember types rs r)))
      → length (flat_map (λ (g : List (Member Mark)). g) (map (with_numbers types rs r) groups))
      ≡ length (flat_map (λ (g : List (NumberedMember types rs r)). g) groups)
  numbered_length [] = refl
  numbered_length (g ∷ gs) =
      let one = length-map g (map_member (number_of types (ReadsAs r.imported_resources))) in
      let rest = numbered_length gs in
      let both = length-append (with_numbers types rs r g)
      (flat_map (λ (g : List (Member Mark)). g) (map (with_numbers types rs r) gs)) in
      let whole = length-append g (flat_map (λ (g : List (NumberedMember types rs r)). g) gs) in
      omega (arith, one, rest, both, whole)

  few_adapters : Adapts types rs r (map bare ms) last → length (adapters_view 0 ms) ≤ length (adapters_of r.log)
  few_adapters is =
      let seen = view_many 0 ms in
      let plain = bare_many ms in
      let all = ap many is.modules_are in
      let split = many-append (map as_handed_in rs) is.added in
      let none = handed_in_none rs in
      let few = few_in_groups (length rs) (map (with_numbers types rs r) is.groups) is.added is.are in
      let numbered = numbered_length is.groups in
      let whole = length-map (flat_map (λ (g : List (NumberedMember types rs r)). g) is.groups)
      (whole_adapter types rs r) in
      let made_ = ap length is.adapters in
      omega (arith, seen, plain, all, split, none, few, numbered, whole, made_)

-- the plan of a chain has few adapters
pub chain_few : (n : ℕ) → n ≤ 10000 → (plan : ComponentTranslation) (ms : List ModuleTranslation)
    → IsChainPlan n plan ms → length (adapters_view 0 ms) < 18446744073709551616
unfolding IsPlanOf
chain_few n few plan ms is =
    let v : IsValidChain n = valid n few in
    let same : is.2.result ≡ v.result_ = cc (is.2.answer, chain_answer n v) in
    let made_ : length (adapters_of is.2.result.log) ≡ n =
    ap (λ (r : Reading). length (adapters_of r.log)) same ∙ ap length (sym (made_are v.result_.log))
    ∙ v.has_links.adapters in
    let most = few_adapters is.0 _ is.2.result ms _ is.2.adapts in
    omega (arith, made_, most, few)

-- a plan of the input that is generated is one of the chain, and has few adapters
pub input_few : (n : ℕ) → n ≤ 10000 → (input : Generated) → input ≡ generated n
    → (r : Result (ComponentTranslation × List ModuleTranslation) Error)
    → IfOk r (λ x. IsPlanOf input.table None input.tunables.max_component_instances input.payloads x.0 x.1)
    → IfOk r (λ x. length (adapters_view 0 x.1) < 18446744073709551616)
input_few n few input is (Ok x) h =
    chain_few n few x.0 x.1
    (subst (λ (i : Generated). IsPlanOf i.table None i.tunables.max_component_instances i.payloads x.0 x.1) is h)
input_few n few input is (Err e) h = tt

-- and a refusal of it is want of memory
pub input_refused : (n : ℕ) → n ≤ 10000 → (input : Generated) → input ≡ generated n
    → (r : Result (ComponentTranslation × List ModuleTranslation) Error)
    → IfErr r (λ e. IsRefusalOf input.table None input.tunables.max_component_instances input.payloads e)
    → IfErr r (λ e. e ≡ error.NoMemory)
input_refused n few input is (Ok x) h = tt
input_refused n few input is (Err e) h =
    chain_refused n few e
    (subst (λ (i : Generated). IsRefusalOf i.table None i.tunables.max_component_instances i.payloads e) is h)
