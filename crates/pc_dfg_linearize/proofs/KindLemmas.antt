-- What stands in a slot is of the slot's kind.
use Rattle.std.proofs.Common.{◌≡◌, ℕ, Bool, true, false, List, Option, None, Some, refl, sym, subst, ◌∙◌}
use Rattle.std.proofs.Common.{true≢false}
use Rattle.std.specs.Prelude.{slice_get, option_and_then, if◌then◌else◌}
use Rattle.std.proofs.lemmas.Option.{none-some, slice_get-map}
use Rattle.pc_entity.proofs.LookupLemmas.{found_at}
use Rattle.pc_dfg.specs.declared.ids.AdapterModuleId.{AdapterModuleId}
use Rattle.pc_numbers.specs.declared.entity_index.EntityIndex.{EntityIndex}
use Rattle.pc_numbers.specs.declared.module_entity.MemoryIndex.{MemoryIndex}
use Rattle.pc_numbers.specs.declared.module_entity.TableIndex.{TableIndex}
use Rattle.pc_types.specs.declared.parsed.CoreKind.TheVariants as kind
use Rattle.pc_types.specs.Record.{index_kind, index_number, same_kind}
use Rattle.pc_spec_plan.specs.CoreValue.{CoreValue, ExportedItem, by_index, by_name}
use Rattle.pc_spec_plan.specs.Machine.{PlanModule, adapter_from, adapter_module, record_of, static_item}
use Rattle.pc_spec_plan.specs.Machine as machine
use Rattle.pc_spec_plan.specs.PlanView as plan
use Rattle.pc_trampoline.specs.declared.part.Mark.{Mark}
use Rattle.pc_info.specs.declared.core_def.ExportItem.{ExportItem}
use Rattle.pc_info.specs.declared.core_def.ExportItem.TheVariants as item
use Rattle.pc_info.specs.declared.module.ModuleTranslation.{ModuleTranslation}
use Rattle.pc_info.specs.Definitions.{def_view, item_view}
use Rattle.pc_dfg.specs.declared.core_def.CoreDef.{CoreDef}
use Rattle.pc_dfg.specs.declared.core_def.CoreDef.TheVariants as def
use Rattle.pc_dfg.specs.declared.core_def.CoreExport.{CoreExport}
use Rattle.pc_dfg.specs.declared.dfg.ComponentDfg.{ComponentDfg}
use Rattle.pc_dfg.specs.Held.{AreHeld, HoldsEntry}
use Rattle.pc_dfg.specs.Lists as list
use Rattle.pc_dfg.specs.Means.{Means}
use Rattle.pc_dfg.specs.Numbers.{memory_def, table_def, slots_of}
use Rattle.pc_dfg_linearize.specs.declared.state.Finish.{Finish}
use Rattle.pc_dfg_linearize.specs.Converted.{adapter_def, def_in, instance_of}
use Rattle.pc_dfg_linearize.specs.Ready.{IsReadyDef}
use Rattle.pc_dfg_linearize.specs.Wired.{Has, IsWired, OfFunctions, is_function, may_be_function}
use Rattle.pc_dfg_linearize.specs.Wired.{reallocs, callbacks, post_returns, records_of}
use Rattle.pc_dfg_linearize.proofs.GainLemmas.{behind_map}

-- functions are of one kind in all slots of functions
alike : (k : plan.SlotKind) → OfFunctions k → (d : plan.Definition) → machine.fits k d ≡ machine.fits plan.realloc d
alike k reallocs d = refl
alike k callbacks (plan.export r (by_index e)) = refl
alike k callbacks (plan.export r (by_name name)) = refl
alike k callbacks d = refl
alike k post_returns (plan.export r (by_index e)) = refl
alike k post_returns (plan.export r (by_name name)) = refl
alike k post_returns d = refl

-- an item that may be a function is of their kind
item_fits : (r : ℕ) (x : ExportedItem) → may_be_function x ≡ true → machine.fits plan.realloc (plan.export r x) ≡ true
item_fits r (by_index e) h = h
item_fits r (by_name name) h = refl

module _ (g : ComponentDfg) (ms : List ModuleTranslation) (f : Finish) (p : plan.PlanView Mark) (wired : IsWired g ms)
    (has : Has g ms p) where
  -- an adapter is a function of its module
  adapter_is_function : (m a : ℕ) (q : AdapterModuleId × EntityIndex) (v : CoreValue Mark) → AreHeld g
      → slice_get g.adapter_partitionings a ≡ Some q → Means g (def.Adapter (record { 0 = a })) v
      → same_kind (index_kind q.1) kind.Func ≡ true
  unfolding HoldsEntry
  adapter_is_function m a q v held at means =
      let found = found_at g.adapter_modules q.0.0 (held list.adapter_partitionings a q at) in
      let w = wired.adapter_modules q.0.0 found.0 found.1 in
      by (same_kind (index_kind q.1) kind.Func) w.values (records_of g ms found.0.0.0)
      (w.functions a q v p at refl means has)
    where
      by : (b : Bool) (vs : List (CoreValue Mark)) (rs : List (plan.AdapterRecord Mark))
          → option_and_then (adapter_from p vs) (option_and_then (record_of rs)
          (if b then Some (index_number q.1) else None)) ≡ Some v → b ≡ true
      by true vs rs h = refl
      by false vs rs h = absurd (none-some v h)

  function_fits : (made : ℕ) (d : CoreDef) (v : CoreValue Mark) → AreHeld g → is_function d ≡ true
      → IsReadyDef g made d → Means g d v → machine.fits plan.realloc (def_view (def_in g f d)) ≡ true
  unfolding def_in IsReadyDef
  function_fits made (def.Export e) v held is ready means = item_fits (instance_of f e.instance.0).0
      (item_view e.item) is
  function_fits made (def.InstanceFlags c) v held is ready means = absurd (true≢false (sym is))
  function_fits made (def.Trampoline t) v held is ready means = refl
  function_fits made (def.UnsafeIntrinsic s i) v held is ready means = refl
  function_fits made (def.Adapter a) v held is ready means =
      let found = found_at g.adapter_partitionings a.0 ready in
      subst (λ (o : Option (AdapterModuleId × EntityIndex)).
      machine.fits plan.realloc (def_view (adapter_def f o)) ≡ true) (sym found.1)
      (adapter_is_function made a.0 found.0 v held found.1 means)

  memory_fits : (e : CoreExport MemoryIndex) → machine.fits plan.memory (def_view (def_in g f (memory_def e))) ≡ true
  unfolding def_in
  memory_fits e = by e.item refl
    where
      by : (i : ExportItem MemoryIndex) → e.item ≡ i
          → machine.fits plan.memory (def_view (def_in g f (memory_def (record { instance = e.instance; item = i }))))
          ≡ true
      by (item.Index m) is = refl
      by (item.Name name) is = refl

  table_fits : (e : CoreExport TableIndex) → machine.fits plan.table (def_view (def_in g f (table_def e))) ≡ true
  unfolding def_in
  table_fits e = by e.item refl
    where
      by : (i : ExportItem TableIndex) → e.item ≡ i
          → machine.fits plan.table (def_view (def_in g f (table_def (record { instance = e.instance; item = i })))) ≡
          true
      by (item.Index m) is = refl
      by (item.Name name) is = refl

  -- what stands in a slot is of its kind
  pub slot_kind_fits : (made : ℕ) (k : plan.SlotKind) (n : ℕ) (d : CoreDef) (v : CoreValue Mark) → AreHeld g
      → slice_get (slots_of g k) n ≡ Some d → IsReadyDef g made d → Means g d v
      → machine.fits k (def_view (def_in g f d)) ≡ true
  unfolding slots_of
  slot_kind_fits made plan.memory n d v held at ready means =
      let e = behind_map memory_def (slice_get g.memories n) d (sym (slice_get-map memory_def g.memories n) ∙ at) in
      subst (λ (x : CoreDef). machine.fits plan.memory (def_view (def_in g f x)) ≡ true) e.2 (memory_fits e.0)
  slot_kind_fits made plan.table n d v held at ready means =
      let e = behind_map table_def (slice_get g.tables n) d (sym (slice_get-map table_def g.tables n) ∙ at) in
      subst (λ (x : CoreDef). machine.fits plan.table (def_view (def_in g f x)) ≡ true) e.2 (table_fits e.0)
  slot_kind_fits made plan.realloc n d v held at ready means =
      function_fits made d v held (wired.functions plan.realloc n d reallocs at) ready means
  slot_kind_fits made plan.callback n d v held at ready means =
      alike plan.callback callbacks (def_view (def_in g f d))
      ∙ function_fits made d v held (wired.functions plan.callback n d callbacks at) ready means
  slot_kind_fits made plan.post_return n d v held at ready means =
      alike plan.post_return post_returns (def_view (def_in g f d))
      ∙ function_fits made d v held (wired.functions plan.post_return n d post_returns at) ready means
