-- A module of adapters, once it is gathered.
use Rattle.std.proofs.Common.{Bool, ◌≡◌, ◌≤◌, inl, ℕ, ◌+◌, List, [], ◌∷◌, ◌++◌, length, Contains, sym, ap, subst, ◌∙◌}
use Rattle.std.proofs.Common.{arith}
use Rattle.std.specs.Prelude.{count_by}
use Rattle.pc_numbers.specs.declared.component_entity.StaticModuleIndex.{StaticModuleIndex}
use Rattle.pc_numbers.specs.declared.entity_index.EntityIndex.{EntityIndex}
use Rattle.pc_types.specs.declared.parsed.CoreKind.TheVariants as kind
use Rattle.pc_types.specs.Record.{imports_kind}
use Rattle.pc_info.specs.declared.module.ModuleTranslation.{ModuleTranslation}
use Rattle.pc_info.specs.Modules.{without_facts}
use Rattle.pc_spec_plan.specs.PlanView as plan
use Rattle.pc_dfg.specs.declared.adapter.Adapter.{Adapter}
use Rattle.pc_dfg.specs.declared.core_def.CoreDef.{CoreDef}
use Rattle.pc_dfg.specs.declared.dfg.ComponentDfg.{ComponentDfg}
use Rattle.pc_dfg.specs.declared.ids.AdapterModuleId.{AdapterModuleId}
use Rattle.pc_dfg.specs.Numbers.{slots_of}
use Rattle.pc_dfg.proofs.GrowLemmas.{grows_refl, grows_trans}
use Rattle.pc_dfg.specs.Ordered.{IsOrdered}
use Rattle.pc_spec_adapt.specs.Asked.{FunctionFacts}
use Rattle.pc_adapt_define.specs.Only.{AddsOwn}
use Rattle.pc_adapt_define.proofs.OwnSlotLemmas.{own_twice}
use Rattle.pc_adapt_modules.specs.Exports.{record_of_parts}
use Rattle.pc_adapt_partition.specs.declared.group.Group.{Group}
use Rattle.pc_adapt_partition.specs.Gathered.{Closes, Gathers}
use Rattle.pc_adapt_partition.specs.Made.{AddsModule, Keeps}
use Rattle.pc_adapt_partition.specs.Parts.{functions_from, parts_of, with_functions}
use Rattle.pc_adapt_partition.proofs.CountLemmas.{functions_few}
use Rattle.pc_adapt_partition.proofs.GivenLemmas.{given_between, given_held, HeldParts}
use Rattle.pc_adapt_partition.proofs.PartLemmas.{length_parts, length_records}

-- modules of adapters and places of adapters are no slots
module _ (m h : ComponentDfg) (ams : List (StaticModuleIndex × List CoreDef))
    (ps : List (AdapterModuleId × EntityIndex))
    (is : h ≡ record m { adapter_modules = ams; adapter_partitionings = ps }) where
  same_slots : (k : plan.SlotKind) (d : CoreDef) → Contains (slots_of h k) d → Contains (slots_of m k) d
  unfolding slots_of
  same_slots plan.memory d inside = subst (λ (i : ComponentDfg). Contains (slots_of i plan.memory) d) is inside
  same_slots plan.table d inside = subst (λ (i : ComponentDfg). Contains (slots_of i plan.table) d) is inside
  same_slots plan.realloc d inside = subst (λ (i : ComponentDfg). Contains i.reallocs d) is inside
  same_slots plan.callback d inside = subst (λ (i : ComponentDfg). Contains i.callbacks d) is inside
  same_slots plan.post_return d inside = subst (λ (i : ComponentDfg). Contains i.post_returns d) is inside

  own_beside : AddsOwn m h
  own_beside = record {
    slots = λ k d inside. inl (same_slots k d inside);
    trampolines = λ x inside. inl (subst (λ (i : ComponentDfg). Contains i.trampolines x) is inside);
  }

module _ (lift lower : ℕ → FunctionFacts) (clear : ℕ → Bool) (g m : ComponentDfg) (n : ℕ) (xs : List Adapter)
    (group : Group)
    (gathers : Gathers g m n (parts_of lift lower clear n xs) group) where
  -- the functions of the module have numbers
  pub functions_fit : count_by (imports_kind kind.Func) group.parts.imports + length xs ≤ 4294967295
  functions_fit =
      let is = ap (count_by (imports_kind kind.Func)) gathers.imports in
      omega (arith, is, gathers.room, functions_few lift lower clear n xs)

  -- something is said of each adapter
  pub records_many : length group.records ≡ length xs
  records_many =
      ap length gathers.records ∙ length_records 0 n (parts_of lift lower clear n xs)
      ∙ length_parts lift lower clear n xs

  module _ (h : ComponentDfg) (ms ns : List ModuleTranslation) (closes : Closes m h ms ns n (length xs) group) where
    keeps : Keeps (length xs) g h
    keeps =
        let many = length_parts lift lower clear n xs in
        let memories = ap (λ (k : ComponentDfg). k.memories) closes.is in
        let callbacks = ap (λ (k : ComponentDfg). k.callbacks) closes.is in
        let post_returns = ap (λ (k : ComponentDfg). k.post_returns) closes.is in
        let trampolines = ap (λ (k : ComponentDfg). k.trampolines) closes.is in
        let modules = ap (λ (k : ComponentDfg). k.adapter_modules) closes.is in
        let places = ap (λ (k : ComponentDfg). k.adapter_partitionings) closes.is in
        record {
          grows = grows_trans g m h gathers.adds.grows closes.grows;
          ordered = λ o. closes.ordered (given_held g m (parts_of lift lower clear n xs) group.args gathers.given)
              (gathers.adds.ordered o);
          rest = closes.is
              ∙ (λ j. record (gathers.adds.rest j) {
                adapter_modules = sym modules j;
                adapter_partitionings = sym places j;
                memories = sym memories j;
                callbacks = sym callbacks j;
                post_returns = sym post_returns j;
                trampolines = sym trampolines j;
              });
          own = own_twice g m h (ap (λ (k : ComponentDfg). k.adapters) gathers.adds.rest) gathers.own
              (own_beside m h _ _ closes.is);
          few_memories = omega (arith, gathers.adds.few_memories, many, ap length memories);
          few_callbacks = omega (arith, gathers.adds.few_callbacks, many, ap length callbacks);
          few_post_returns = omega (arith, gathers.adds.few_post_returns, many, ap length post_returns);
          few_trampolines = omega (arith, gathers.adds.few_trampolines, many, ap length trampolines);
        }

    -- it is added to modules and graph
    pub adds_module : IsOrdered g → HeldParts g (parts_of lift lower clear n xs)
        → AddsModule lift lower clear g h ms ns n xs
    adds_module o held =
        let ps = parts_of lift lower clear n xs in
        let count = count_by (imports_kind kind.Func) in
        let many = length_parts lift lower clear n xs in
        let heldm = (gathers.adds.ordered o).held in
        record {
          keeps = keeps;
          modules = closes.modules
              ∙ (λ j. ms ++ without_facts
              (record_of_parts (gathers.imports j) (gathers.funcs j) n (sym many j))
              (with_functions (count (gathers.imports j)) (gathers.records j)) ∷ []);
          args = group.args;
          adapter_modules = ap (λ (k : ComponentDfg). k.adapter_modules) closes.is
              ∙ ap (λ (k : ComponentDfg). k.adapter_modules ++ (record { 0 = length ms }, group.args) ∷ [])
              gathers.adds.rest;
          given = given_between g g m h (grows_refl g) closes.grows o.held heldm ps group.args held gathers.given;
          places = ap (λ (k : ComponentDfg). k.adapter_partitionings) closes.is
              ∙ (λ j. (gathers.adds.rest j).adapter_partitionings
              ++ functions_from (length ((gathers.adds.rest j).adapter_modules)) (count (gathers.imports j))
              (length xs));
          room = gathers.room;
        }
