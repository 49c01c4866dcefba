-- Memories in slots of the graph.
use Rattle.std.proofs.Common.{◌≡◌, ◌⊎◌, inl, inr, ◌≤◌, ℕ, zero, suc, List, [], ◌∷◌, length, map, Some, refl, sym, ap}
use Rattle.std.proofs.Common.{subst, true, ◌∙◌}
use Rattle.std.specs.Prelude.{slice_get}
use Rattle.std.proofs.lemmas.List.{length-map}
use Rattle.std.proofs.lemmas.Option.{none-some, same_Some}
use Rattle.pc_info.specs.declared.core_def.ExportItem.TheVariants as item
use Rattle.pc_numbers.specs.declared.entity_index.EntityIndex.{EntityIndex}
use Rattle.pc_numbers.specs.declared.entity_index.EntityIndex.TheVariants as entity
use Rattle.pc_numbers.specs.declared.module_entity.MemoryIndex.{MemoryIndex}
use Rattle.pc_types.specs.declared.module_record.ModuleRecord.{ModuleRecord}
use Rattle.pc_types.specs.declared.parsed.CoreKind.TheVariants as core
use Rattle.pc_types.specs.declared.parsed.TypeTable.{TypeTable}
use Rattle.pc_types.specs.Record.{index_kind}
use Rattle.pc_spec_plan.specs.PlanView as plan
use Rattle.pc_dfg.specs.declared.core_def.CoreDef.{CoreDef}
use Rattle.pc_dfg.specs.declared.core_def.CoreExport.{CoreExport}
use Rattle.pc_dfg.specs.declared.dfg.ComponentDfg.{ComponentDfg}
use Rattle.pc_dfg.specs.Grows as graph
use Rattle.pc_dfg.specs.Held.{IsHeld}
use Rattle.pc_dfg.specs.Lists as list
use Rattle.pc_dfg.specs.Numbers.{memory_def, slots_of}
use Rattle.pc_dfg.specs.Ordered.{IsOrdered}
use Rattle.pc_dfg.specs.Pushed.{IsPut}
use Rattle.pc_inline_state.specs.declared.state.State.{State}
use Rattle.pc_inline_state.specs.Placed.{InSlot}
use Rattle.pc_inline_state.specs.Points.{IsFullSomewhere}
use Rattle.pc_inline_state.specs.Prepares.{Prepares}
use Rattle.pc_inline_state.specs.Slots.{is_memory, is_memory_item}
use Rattle.pc_inline_state.specs.Tables.{IsItem, Tables, is_entity, is_named}
use Rattle.pc_inline_state.specs.Worlds.{slot_kind}
use Rattle.pc_inline_canon.proofs.CoreInstanceLemmas.{item_held}
use Rattle.pc_inline_state.proofs.GrowthLemmas.{graph_crowded}
use Rattle.pc_inline_canon.proofs.SlotLemmas.{found_in_put, slots_prepare}

-- a look-up in images finds the image
pub map_at : {A B : Type 0} (f : A → B) (xs : List A) (n : ℕ) (x : A) → slice_get xs n ≡ Some x
    → slice_get (map f xs) n ≡ Some (f x)
map_at f [] n x at = absurd (none-some x at)
map_at f (y ∷ xs) zero x at = ap (λ z. Some (f z)) (same_Some y x at)
map_at f (y ∷ xs) (suc n) x at = map_at f xs n x at

-- and what it finds is the image of an item
pub map_from : {A B : Type 0} (f : A → B) (xs : List A) (n : ℕ) (y : B) → slice_get (map f xs) n ≡ Some y
    → (x : A) × (slice_get xs n ≡ Some x) × (f x ≡ y)
map_from f [] n y at = absurd (none-some y at)
map_from f (x ∷ xs) zero y at = (x, refl, same_Some (f x) y at)
map_from f (x ∷ xs) (suc n) y at = map_from f xs n y at

module _ (t : TypeTable) (ms : List ModuleRecord) (st : State) (h : ComponentDfg) (grows : graph.Grows st.graph h) where
  -- one more memory at most
  pub memory_prepares : (x : CoreExport MemoryIndex) → IsItem ms st.graph core.Memory (memory_def x)
      → h ≡ record st.graph { memories = h.memories } → IsPut st.graph.memories h.memories x
      → (IsHeld st.graph (memory_def x) → IsOrdered st.graph → IsOrdered h)
      → Prepares t ms st (record st { graph = h })
  unfolding slots_of
  memory_prepares x item rest put ordered =
      subst (λ (g : ComponentDfg). Prepares t ms st (record st { graph = g })) (sym rest)
      (slots_prepare t ms st h.memories st.graph.reallocs st.graph.callbacks st.graph.post_returns st.graph.options
      (λ held. held.options) (subst (graph.Grows st.graph) rest grows)
      (λ o. subst IsOrdered rest (ordered (item_held ms st.graph core.Memory (memory_def x) item) o)) slots)
    where
      slots : (k : plan.SlotKind) (n : ℕ) (d : CoreDef)
          → slice_get (slots_of (record st.graph { memories = h.memories }) k) n ≡ Some d
          → (slice_get (slots_of st.graph k) n ≡ Some d) ⊎ IsItem ms st.graph (slot_kind k) d
      slots plan.memory n d at =
          let m = map_from memory_def h.memories n d at in
          elim (found_in_put st.graph.memories h.memories x put n m.0 m.1)
          as (λ _. (slice_get (map memory_def st.graph.memories) n ≡ Some d) ⊎ IsItem ms st.graph core.Memory d) [
            | inl before ↦ inl (map_at memory_def st.graph.memories n m.0 before ∙ ap Some m.2)
            | inr same ↦ inr (subst (λ y. IsItem ms st.graph core.Memory y) (ap memory_def same ∙ m.2) item)
          ]
      slots plan.table n d at = inl at
      slots plan.realloc n d at = inl at
      slots plan.callback n d at = inl at
      slots plan.post_return n d at = inl at

-- a core item is in its memory slot
pub in_memory : (b : Tables) (id n : ℕ) (x : CoreExport MemoryIndex) (d : CoreDef) → slice_get b.cores id ≡ Some d
    → memory_def x ≡ d → slice_get b.graph.memories n ≡ Some x → InSlot b plan.memory id n
unfolding slots_of
in_memory b id n x d held is at = record {
  definition = d;
  held = held;
  slotted = map_at memory_def b.graph.memories n x at ∙ ap Some is;
}

-- there is no room for one more memory
pub memory_crowded : (b : Tables) (g : ComponentDfg) → graph.Grows g b.graph → 4294967295 ≤ length g.memories
    → IsFullSomewhere b
unfolding slots_of
memory_crowded b g grows full =
    graph_crowded b g grows (list.slots plan.memory)
    (subst (λ n. 4294967295 ≤ n) (sym (length-map g.memories memory_def)) full)

-- a memory may be one
pub memory_fits : (ms : List ModuleRecord) (g : ComponentDfg) (d : CoreDef) → IsItem ms g core.Memory d
    → is_memory d ≡ true
memory_fits ms g d (is_entity {e = e} kind x) = by e kind
  where
    by : (e : EntityIndex) → index_kind e ≡ core.Memory → is_memory_item (item.Index e) ≡ true
    by (entity.Memory m) is = refl
    by (entity.Function n) is = absurd (let k : ⊥ = cc in k)
    by (entity.Table n) is = absurd (let k : ⊥ = cc in k)
    by (entity.Global n) is = absurd (let k : ⊥ = cc in k)
    by (entity.Tag n) is = absurd (let k : ⊥ = cc in k)
memory_fits ms g d (is_named host) = refl
