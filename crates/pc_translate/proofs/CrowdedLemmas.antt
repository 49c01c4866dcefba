-- Where a graph with the modules of its adapters has too many entries somewhere, the graph before was crowded; and
-- where the lists of a graph are counted, it isn't.
use Rattle.std.proofs.Common.{◌≡◌, ◌≤◌, ◌<◌, ◌+◌, ℕ, List, [], length, map, refl, ap, arith}
use Rattle.std.proofs.lemmas.List.{length-map}
use Rattle.pc_types.specs.declared.module_record.ModuleRecord.{ModuleRecord}
use Rattle.pc_types.specs.declared.parsed.TypeTable.{TypeTable}
use Rattle.pc_types_lists.specs.Types.{Types}
use Rattle.pc_spec_plan.specs.CoreValue.{CoreValue}
use Rattle.pc_spec_plan.specs.PlanView as plan
use Rattle.pc_trampoline.specs.declared.part.Mark.{Mark}
use Rattle.pc_info.specs.declared.module.ModuleTranslation.{ModuleTranslation}
use Rattle.pc_spec_reading.specs.Item.{Items}
use Rattle.pc_spec_adapt.specs.Asked.{FunctionFacts}
use Rattle.pc_dfg.specs.declared.dfg.ComponentDfg.{ComponentDfg}
use Rattle.pc_dfg.specs.Lists.{adapters, instances, options, slots, trampolines}
use Rattle.pc_dfg.specs.Numbers.{memory_def, slots_of}
use Rattle.pc_dfg_linearize.specs.Full.{HasTooMany, of_instances, of_options, of_resources, of_slots, of_trampolines}
use Rattle.pc_adapt_partition.specs.Made as made
use Rattle.pc_adapt_partition.specs.Made.{AddsAtMost, AddsFew, IsPast, Keeps}
use Rattle.pc_adapt_partition.specs.Partitions as parts
use Rattle.pc_adapt_partition.specs.Wired.{HaveValues}
use Rattle.pc_adapt_partition.proofs.LongLemmas.{long_many}
use Rattle.pc_inline_stack.specs.Totals.{IsCounted}
use Rattle.pc_translate.specs.Adapted.{as_handed_in}
use Rattle.pc_translate.specs.Planning.{IsCrowded}
use Rattle.pc_translate.specs.Planning as crowded

-- how many slots there are
memory_slots : (g : ComponentDfg) → length (slots_of g plan.memory) ≡ length g.memories
unfolding slots_of
memory_slots g = length-map g.memories memory_def

callback_slots : (g : ComponentDfg) → length (slots_of g plan.callback) ≡ length g.callbacks
unfolding slots_of
callback_slots g = refl

post_return_slots : (g : ComponentDfg) → length (slots_of g plan.post_return) ≡ length g.post_returns
unfolding slots_of
post_return_slots g = refl

module _ (ms : List ModuleRecord) (g h : ComponentDfg) (ns : List ModuleTranslation) where
  long_records : length (map as_handed_in ms) ≡ length ms
  long_records = length-map ms as_handed_in

  -- where modules were added, or some of them
  module _ (no_modules : g.adapter_modules ≡ []) (ungrouped : g.adapter_partitionings ≡ [])
      (most : AddsAtMost (length g.adapters) (length g.adapters) g h (map as_handed_in ms) ns) where
    past_crowded : IsPast h ns → IsCrowded ms g
    past_crowded (made.of_memories many) =
        crowded.of_list (slots plan.memory) (omega (arith, many, most.few_memories, memory_slots g))
    past_crowded (made.of_callbacks many) =
        crowded.of_list (slots plan.callback) (omega (arith, many, most.few_callbacks, callback_slots g))
    past_crowded (made.of_post_returns many) =
        crowded.of_list (slots plan.post_return) (omega (arith, many, most.few_post_returns, post_return_slots g))
    past_crowded (made.of_trampolines many) = crowded.of_list trampolines (omega (arith, many, most.few_trampolines))
    past_crowded (made.of_adapter_modules many) =
        let none = ap length no_modules in
        crowded.of_list adapters (omega (arith, many, most.few_adapter_modules, none))
    past_crowded (made.of_adapters many) =
        let none = ap length ungrouped in
        crowded.of_list adapters (omega (arith, many, most.few_adapters, none))
    past_crowded (made.of_modules many) =
        crowded.of_modules (omega (arith, many, most.few_modules, long_records))

    pub too_many_crowded : (lift lower : ℕ → FunctionFacts) (vs : ℕ → CoreValue Mark) → HaveValues g vs
        → parts.HasTooMany lift lower g h ns → IsCrowded ms g
    too_many_crowded lift lower vs have (parts.past past) = past_crowded past
    too_many_crowded lift lower vs have (parts.long lengths fewest long) =
        let many = long_many lift lower g vs have lengths fewest long in
        crowded.of_list adapters (omega (arith, many))

  -- where the modules are there
  module _ (keeps : Keeps (length g.adapters) g h)
      (few : AddsFew (length g.adapters) (map as_handed_in ms) ns h) where
    slots_crowded : (k : plan.SlotKind) → 4294967294 < length (slots_of h k) → IsCrowded ms g
    unfolding slots_of
    slots_crowded plan.memory many =
        let few_memories = keeps.few_memories in
        crowded.of_list (slots plan.memory)
        (omega (arith, many, few_memories, length-map h.memories memory_def, length-map g.memories memory_def))
    slots_crowded plan.table many =
        let same = ap (λ (i : ComponentDfg). length (slots_of i plan.table)) keeps.rest in
        crowded.of_list (slots plan.table) (omega (arith, many, same))
    slots_crowded plan.realloc many =
        let same = ap (λ (i : ComponentDfg). length i.reallocs) keeps.rest in
        crowded.of_list (slots plan.realloc) (omega (arith, many, same))
    slots_crowded plan.callback many =
        let few_callbacks = keeps.few_callbacks in
        crowded.of_list (slots plan.callback) (omega (arith, many, few_callbacks))
    slots_crowded plan.post_return many =
        let few_post_returns = keeps.few_post_returns in
        crowded.of_list (slots plan.post_return) (omega (arith, many, few_post_returns))

    pub finish_crowded : HasTooMany h → IsCrowded ms g
    finish_crowded (of_slots k many) = slots_crowded k many
    finish_crowded (of_options many) =
        let same = ap (λ (i : ComponentDfg). length i.options) keeps.rest in
        crowded.of_list options (omega (arith, many, same))
    finish_crowded (of_trampolines many) =
        let few_trampolines = keeps.few_trampolines in
        crowded.of_list trampolines (omega (arith, many, few_trampolines))
    finish_crowded (of_instances many) =
        let same = ap (λ (i : ComponentDfg). length i.instances) keeps.rest in
        let few_modules = few.few_adapter_modules in
        crowded.of_list instances (omega (arith, many, same, few_modules))
    finish_crowded (of_resources many) =
        let first = ap (λ (i : ComponentDfg). length i.imported_resources) keeps.rest in
        let second = ap (λ (i : ComponentDfg). length i.resources) keeps.rest in
        crowded.of_resources (omega (arith, many, first, second))

-- a list of fewer entries than a total below the greatest has no more than 4294967294 entries
too_few : (start added len total : ℕ) → start + added < total → len ≤ added → total < 4294967295 → 4294967294 < len → ⊥
too_few start added len total few most below many = omega (arith, few, most, below, many)

-- a graph whose lists are counted from so many modules on isn't crowded
pub none_crowded : (t : TypeTable) (ms : List ModuleRecord) (limit start : ℕ) (body : Items) (old types : Types)
    (g : ComponentDfg) → length ms ≤ start → IsCounted t ms limit start body old types g → IsCrowded ms g → ⊥
none_crowded t ms limit start body old types g begins c (crowded.of_list l many) =
    too_few start c.added _ c.total c.few (c.lists l) c.below many
none_crowded t ms limit start body old types g begins c (crowded.of_resources many) =
    too_few start c.added _ c.total c.few c.resources c.below many
none_crowded t ms limit start body old types g begins c (crowded.of_modules many) =
    let own = c.lists adapters in
    let few = c.few in
    let below = c.below in
    omega (arith, begins, many, own, few, below)
