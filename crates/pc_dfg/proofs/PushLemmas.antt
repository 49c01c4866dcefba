-- What each call that adds an entry does to a graph: the lists grow, and the order is kept.
use Rattle.std.proofs.Common.{◌≡◌, ◌+◌, ◌<◌, ℕ, List, [], ◌∷◌, ◌++◌, length, map, All, Some, refl, ap, sym, subst, ◌∙◌}
use Rattle.std.proofs.Common.{inl, inr, arith}
use Rattle.std.specs.Prelude.{slice_get, Result, Ok, Err, OnOk, OnErr}
use Rattle.std.specs.List.{filter_map}
use Rattle.std.proofs.lemmas.List.{map-append}
use Rattle.std.proofs.lemmas.Option.{slice_get_within}
use Rattle.pc_dfg.specs.declared.ids.AdapterModuleId.{AdapterModuleId}
use Rattle.pc_numbers.specs.declared.component_entity.StaticModuleIndex.{StaticModuleIndex}
use Rattle.pc_numbers.specs.declared.entity_index.EntityIndex.{EntityIndex}
use Rattle.pc_numbers.specs.declared.module_entity.MemoryIndex.{MemoryIndex}
use Rattle.pc_numbers.specs.declared.module_entity.TableIndex.{TableIndex}
use Rattle.pc_numbers.specs.declared.runtime.ImportIndex.{ImportIndex}
use Rattle.pc_numbers.specs.declared.runtime.RuntimeImportIndex.{RuntimeImportIndex}
use Rattle.pc_types.specs.declared.types.ComponentExtern.{ComponentExtern}
use Rattle.pc_spec_plan.specs.PlanView as plan
use Rattle.pc_dfg.specs.declared.adapter.Adapter.{Adapter}
use Rattle.pc_dfg.specs.declared.core_def.CoreDef.{CoreDef}
use Rattle.pc_dfg.specs.declared.core_def.CoreExport.{CoreExport}
use Rattle.pc_dfg.specs.declared.dfg.ComponentDfg.{ComponentDfg}
use Rattle.pc_dfg.specs.declared.export.Export.{Export}
use Rattle.pc_dfg.specs.declared.options.CanonicalOptions.{CanonicalOptions}
use Rattle.pc_dfg.specs.Grows.{Grows}
use Rattle.pc_dfg.specs.Held.{IsHeld, HeldOptions, HeldTrampoline, HeldAdapter, HeldExport}
use Rattle.pc_dfg.specs.Held.{HoldsEntry}
use Rattle.pc_dfg.specs.Lists as list
use Rattle.pc_dfg.specs.Lists.{NamedExport}
use Rattle.pc_dfg.specs.Numbers.{SignedTrampoline, trampoline_entry, options_entry, memory_def, table_def, slots_of}
use Rattle.pc_dfg.specs.Ordered.{CountTo, IsOrdered, made_in, declared_by}
use Rattle.pc_dfg.specs.Pushed.{Changes}
use Rattle.pc_dfg.proofs.AddLemmas.{AllAdd, EntryFact, NewHeld, Added, nothing, one_changed}
use Rattle.pc_dfg.proofs.AddLemmas.{added_ordered}

-- what a list is after it was pushed to, whatever was answered
pub result_changes : {A E B : Type 0} (r : Result A E) (xs ys : List B) (x : B) → OnOk r (ys ≡ xs ++ x ∷ [])
    → OnErr r (ys ≡ xs) → Changes xs ys x
result_changes (Ok a) xs ys x ok err = inr ok
result_changes (Err e) xs ys x ok err = inl err

-- a list of what a function makes of the entries changes likewise
changes_mapped : {A B : Type 0} (f : A → B) (xs ys : List A) (x : A) → Changes xs ys x
    → Changes (map f xs) (map f ys) (f x)
changes_mapped f xs ys x change = elim change as (λ _. Changes (map f xs) (map f ys) (f x)) [
  | inl same ↦ inl (ap (map f) same)
  | inr more ↦ inr (ap (map f) more ∙ map-append f xs (x ∷ []))
]

-- a graph to which no side effect, core instance or resource was added keeps its order
pub quiet : (g h : ComponentDfg) → Added g h → IsOrdered g → h.side_effects ≡ g.side_effects → h.instances ≡ g.instances
    → h.resources ≡ g.resources → IsOrdered h
quiet g h added o effects instances resources =
    added_ordered g h added o
    (λ i e at past. absurd (omega (
      arith,
      past,
      slice_get_within g.side_effects i e (subst (λ es. slice_get es i ≡ Some e) effects at),
    )))
    (subst (λ es. CountTo (length h.instances) (made_in es)) (sym effects)
    (subst (λ is. CountTo (length is) (made_in g.side_effects)) (sym instances) o.instances))
    (subst (λ es. CountTo (length h.resources) (filter_map declared_by es)) (sym effects)
    (subst (λ rs. CountTo (length rs) (filter_map declared_by g.side_effects)) (sym resources) o.resources))

import_type_adds : (P : EntryFact) (g : ComponentDfg) (ys : List (List ℕ × ComponentExtern)) (x : List ℕ
    × ComponentExtern)
    → Changes g.import_types ys x → P list.import_types (length g.import_types) x
    → AllAdd P g (record g { import_types = ys })
unfolding slots_of
import_type_adds P g ys x change p list.import_types = one_changed (P list.import_types) g.import_types ys x change p
import_type_adds P g ys x change p (list.slots plan.memory) = nothing
import_type_adds P g ys x change p l = nothing

-- one entry of `import_types`
pub import_type_grows : (g : ComponentDfg) (ys : List (List ℕ × ComponentExtern)) (x : List ℕ × ComponentExtern)
    → Changes g.import_types ys x
    → Grows g (record g { import_types = ys })
import_type_grows g ys x change = record {
  lists = λ l. (import_type_adds (λ l n x. Unit {0}) g ys x change tt l).extends;
  component_instances = omega arith;
  signatures = λ place s at. at;
}

pub import_type_ordered : (g : ComponentDfg) (ys : List (List ℕ × ComponentExtern)) (x : List ℕ × ComponentExtern)
    → Changes g.import_types ys x
    → Unit {0} → IsOrdered g → IsOrdered (record g { import_types = ys })
unfolding HoldsEntry
import_type_ordered g ys x change held o =
    let h = record g { import_types = ys } in
    let added : Added g h = record {
      lists = import_type_adds (NewHeld g h) g ys x change held;
      component_instances = omega arith;
      signatures = λ place s at. at;
    } in
    quiet g h added o refl refl refl

import_adds : (P : EntryFact) (g : ComponentDfg) (ys : List (ImportIndex × List (List ℕ))) (x : ImportIndex
    × List (List ℕ))
    → Changes g.imports ys x → P list.imports (length g.imports) x → AllAdd P g (record g { imports = ys })
unfolding slots_of
import_adds P g ys x change p list.imports = one_changed (P list.imports) g.imports ys x change p
import_adds P g ys x change p (list.slots plan.memory) = nothing
import_adds P g ys x change p l = nothing

-- one entry of `imports`
pub import_grows : (g : ComponentDfg) (ys : List (ImportIndex × List (List ℕ))) (x : ImportIndex × List (List ℕ))
    → Changes g.imports ys x
    → Grows g (record g { imports = ys })
import_grows g ys x change = record {
  lists = λ l. (import_adds (λ l n x. Unit {0}) g ys x change tt l).extends;
  component_instances = omega arith;
  signatures = λ place s at. at;
}

pub import_ordered : (g : ComponentDfg) (ys : List (ImportIndex × List (List ℕ))) (x : ImportIndex × List (List ℕ))
    → Changes g.imports ys x
    → x.0.0 < length g.import_types → IsOrdered g → IsOrdered (record g { imports = ys })
unfolding HoldsEntry
import_ordered g ys x change held o =
    let h = record g { imports = ys } in
    let added : Added g h = record {
      lists = import_adds (NewHeld g h) g ys x change held;
      component_instances = omega arith;
      signatures = λ place s at. at;
    } in
    quiet g h added o refl refl refl

imported_resource_adds : (P : EntryFact) (g : ComponentDfg) (ys : List RuntimeImportIndex) (x : RuntimeImportIndex)
    → Changes g.imported_resources ys x → P list.imported_resources (length g.imported_resources) x
    → AllAdd P g (record g { imported_resources = ys })
unfolding slots_of
imported_resource_adds P g ys x change p list.imported_resources = one_changed
    (P list.imported_resources) g.imported_resources ys x change p
imported_resource_adds P g ys x change p (list.slots plan.memory) = nothing
imported_resource_adds P g ys x change p l = nothing

-- one entry of `imported_resources`
pub imported_resource_grows : (g : ComponentDfg) (ys : List RuntimeImportIndex) (x : RuntimeImportIndex)
    → Changes g.imported_resources ys x
    → Grows g (record g { imported_resources = ys })
imported_resource_grows g ys x change = record {
  lists = λ l. (imported_resource_adds (λ l n x. Unit {0}) g ys x change tt l).extends;
  component_instances = omega arith;
  signatures = λ place s at. at;
}

pub imported_resource_ordered : (g : ComponentDfg) (ys : List RuntimeImportIndex) (x : RuntimeImportIndex)
    → Changes g.imported_resources ys x
    → x.0 < length g.imports → IsOrdered g → IsOrdered (record g { imported_resources = ys })
unfolding HoldsEntry
imported_resource_ordered g ys x change held o =
    let h = record g { imported_resources = ys } in
    let added : Added g h = record {
      lists = imported_resource_adds (NewHeld g h) g ys x change held;
      component_instances = omega arith;
      signatures = λ place s at. at;
    } in
    quiet g h added o refl refl refl

memory_adds : (P : EntryFact) (g : ComponentDfg) (ys : List (CoreExport MemoryIndex)) (x : CoreExport MemoryIndex)
    → Changes g.memories ys x → P (list.slots plan.memory) (length (map memory_def g.memories)) (memory_def x)
    → AllAdd P g (record g { memories = ys })
unfolding slots_of
memory_adds P g ys x change p (list.slots plan.memory) = one_changed (P (list.slots plan.memory))
    (map memory_def g.memories) (map memory_def ys) (memory_def x) (changes_mapped memory_def g.memories ys x change) p
memory_adds P g ys x change p l = nothing

-- one entry of `memories`
pub memory_grows : (g : ComponentDfg) (ys : List (CoreExport MemoryIndex)) (x : CoreExport MemoryIndex)
    → Changes g.memories ys x
    → Grows g (record g { memories = ys })
memory_grows g ys x change = record {
  lists = λ l. (memory_adds (λ l n x. Unit {0}) g ys x change tt l).extends;
  component_instances = omega arith;
  signatures = λ place s at. at;
}

pub memory_ordered : (g : ComponentDfg) (ys : List (CoreExport MemoryIndex)) (x : CoreExport MemoryIndex)
    → Changes g.memories ys x
    → IsHeld g (memory_def x) → IsOrdered g → IsOrdered (record g { memories = ys })
unfolding HoldsEntry
memory_ordered g ys x change held o =
    let h = record g { memories = ys } in
    let added : Added g h = record {
      lists = memory_adds (NewHeld g h) g ys x change held;
      component_instances = omega arith;
      signatures = λ place s at. at;
    } in
    quiet g h added o refl refl refl

table_adds : (P : EntryFact) (g : ComponentDfg) (ys : List (CoreExport TableIndex)) (x : CoreExport TableIndex)
    → Changes g.tables ys x → P (list.slots plan.table) (length (map table_def g.tables)) (table_def x)
    → AllAdd P g (record g { tables = ys })
unfolding slots_of
table_adds P g ys x change p (list.slots plan.table) = one_changed (P (list.slots plan.table))
    (map table_def g.tables) (map table_def ys) (table_def x) (changes_mapped table_def g.tables ys x change) p
table_adds P g ys x change p l = nothing

-- one entry of `tables`
pub table_grows : (g : ComponentDfg) (ys : List (CoreExport TableIndex)) (x : CoreExport TableIndex)
    → Changes g.tables ys x
    → Grows g (record g { tables = ys })
table_grows g ys x change = record {
  lists = λ l. (table_adds (λ l n x. Unit {0}) g ys x change tt l).extends;
  component_instances = omega arith;
  signatures = λ place s at. at;
}

pub table_ordered : (g : ComponentDfg) (ys : List (CoreExport TableIndex)) (x : CoreExport TableIndex)
    → Changes g.tables ys x
    → IsHeld g (table_def x) → IsOrdered g → IsOrdered (record g { tables = ys })
unfolding HoldsEntry
table_ordered g ys x change held o =
    let h = record g { tables = ys } in
    let added : Added g h = record {
      lists = table_adds (NewHeld g h) g ys x change held;
      component_instances = omega arith;
      signatures = λ place s at. at;
    } in
    quiet g h added o refl refl refl

realloc_adds : (P : EntryFact) (g : ComponentDfg) (ys : List CoreDef) (x : CoreDef)
    → Changes g.reallocs ys x → P (list.slots plan.realloc) (length g.reallocs) x
    → AllAdd P g (record g { reallocs = ys })
unfolding slots_of
realloc_adds P g ys x change p (list.slots plan.realloc) = one_changed (P
    (list.slots plan.realloc)) g.reallocs ys x change p
realloc_adds P g ys x change p l = nothing

-- one entry of `reallocs`
pub realloc_grows : (g : ComponentDfg) (ys : List CoreDef) (x : CoreDef) → Changes g.reallocs ys x
    → Grows g (record g { reallocs = ys })
realloc_grows g ys x change = record {
  lists = λ l. (realloc_adds (λ l n x. Unit {0}) g ys x change tt l).extends;
  component_instances = omega arith;
  signatures = λ place s at. at;
}

pub realloc_ordered : (g : ComponentDfg) (ys : List CoreDef) (x : CoreDef) → Changes g.reallocs ys x
    → IsHeld g x → IsOrdered g → IsOrdered (record g { reallocs = ys })
unfolding HoldsEntry
realloc_ordered g ys x change held o =
    let h = record g { reallocs = ys } in
    let added : Added g h = record {
      lists = realloc_adds (NewHeld g h) g ys x change held;
      component_instances = omega arith;
      signatures = λ place s at. at;
    } in
    quiet g h added o refl refl refl

callback_adds : (P : EntryFact) (g : ComponentDfg) (ys : List CoreDef) (x : CoreDef)
    → Changes g.callbacks ys x → P (list.slots plan.callback) (length g.callbacks) x
    → AllAdd P g (record g { callbacks = ys })
unfolding slots_of
callback_adds P g ys x change p (list.slots plan.callback) = one_changed (P
    (list.slots plan.callback)) g.callbacks ys x change p
callback_adds P g ys x change p l = nothing

-- one entry of `callbacks`
pub callback_grows : (g : ComponentDfg) (ys : List CoreDef) (x : CoreDef) → Changes g.callbacks ys x
    → Grows g (record g { callbacks = ys })
callback_grows g ys x change = record {
  lists = λ l. (callback_adds (λ l n x. Unit {0}) g ys x change tt l).extends;
  component_instances = omega arith;
  signatures = λ place s at. at;
}

pub callback_ordered : (g : ComponentDfg) (ys : List CoreDef) (x : CoreDef) → Changes g.callbacks ys x
    → IsHeld g x → IsOrdered g → IsOrdered (record g { callbacks = ys })
unfolding HoldsEntry
callback_ordered g ys x change held o =
    let h = record g { callbacks = ys } in
    let added : Added g h = record {
      lists = callback_adds (NewHeld g h) g ys x change held;
      component_instances = omega arith;
      signatures = λ place s at. at;
    } in
    quiet g h added o refl refl refl

post_return_adds : (P : EntryFact) (g : ComponentDfg) (ys : List CoreDef) (x : CoreDef)
    → Changes g.post_returns ys x → P (list.slots plan.post_return) (length g.post_returns) x
    → AllAdd P g (record g { post_returns = ys })
unfolding slots_of
post_return_adds P g ys x change p (list.slots plan.post_return) = one_changed (P
    (list.slots plan.post_return)) g.post_returns ys x change p
post_return_adds P g ys x change p l = nothing

-- one entry of `post_returns`
pub post_return_grows : (g : ComponentDfg) (ys : List CoreDef) (x : CoreDef) → Changes g.post_returns ys x
    → Grows g (record g { post_returns = ys })
post_return_grows g ys x change = record {
  lists = λ l. (post_return_adds (λ l n x. Unit {0}) g ys x change tt l).extends;
  component_instances = omega arith;
  signatures = λ place s at. at;
}

pub post_return_ordered : (g : ComponentDfg) (ys : List CoreDef) (x : CoreDef) → Changes g.post_returns ys x
    → IsHeld g x → IsOrdered g → IsOrdered (record g { post_returns = ys })
unfolding HoldsEntry
post_return_ordered g ys x change held o =
    let h = record g { post_returns = ys } in
    let added : Added g h = record {
      lists = post_return_adds (NewHeld g h) g ys x change held;
      component_instances = omega arith;
      signatures = λ place s at. at;
    } in
    quiet g h added o refl refl refl

options_adds : (P : EntryFact) (g : ComponentDfg) (ys : List CanonicalOptions) (x : CanonicalOptions)
    → Changes g.options ys x → P list.options (length g.options) x → AllAdd P g (record g { options = ys })
unfolding slots_of
options_adds P g ys x change p list.options = one_changed (P list.options) g.options ys x change p
options_adds P g ys x change p (list.slots plan.memory) = nothing
options_adds P g ys x change p l = nothing

-- one entry of `options`
pub options_grows : (g : ComponentDfg) (ys : List CanonicalOptions) (x : CanonicalOptions) → Changes g.options ys x
    → Grows g (record g { options = ys })
options_grows g ys x change = record {
  lists = λ l. (options_adds (λ l n x. Unit {0}) g ys x change tt l).extends;
  component_instances = omega arith;
  signatures = λ place s at. at;
}

pub options_ordered : (g : ComponentDfg) (ys : List CanonicalOptions) (x : CanonicalOptions) → Changes g.options ys x
    → HeldOptions g (options_entry x) → IsOrdered g → IsOrdered (record g { options = ys })
unfolding HoldsEntry
options_ordered g ys x change held o =
    let h = record g { options = ys } in
    let added : Added g h = record {
      lists = options_adds (NewHeld g h) g ys x change held;
      component_instances = omega arith;
      signatures = λ place s at. at;
    } in
    quiet g h added o refl refl refl

trampoline_adds : (P : EntryFact) (g : ComponentDfg) (ys : List SignedTrampoline) (x : SignedTrampoline)
    → Changes g.trampolines ys x → P list.trampolines (length g.trampolines) x
    → AllAdd P g (record g { trampolines = ys })
unfolding slots_of
trampoline_adds P g ys x change p list.trampolines = one_changed (P list.trampolines) g.trampolines ys x change p
trampoline_adds P g ys x change p (list.slots plan.memory) = nothing
trampoline_adds P g ys x change p l = nothing

-- one entry of `trampolines`
pub trampoline_grows : (g : ComponentDfg) (ys : List SignedTrampoline) (x : SignedTrampoline)
    → Changes g.trampolines ys x
    → Grows g (record g { trampolines = ys })
trampoline_grows g ys x change = record {
  lists = λ l. (trampoline_adds (λ l n x. Unit {0}) g ys x change tt l).extends;
  component_instances = omega arith;
  signatures = λ place s at. at;
}

pub trampoline_ordered : (g : ComponentDfg) (ys : List SignedTrampoline) (x : SignedTrampoline)
    → Changes g.trampolines ys x
    → HeldTrampoline g (trampoline_entry x) → IsOrdered g → IsOrdered (record g { trampolines = ys })
unfolding HoldsEntry
trampoline_ordered g ys x change held o =
    let h = record g { trampolines = ys } in
    let added : Added g h = record {
      lists = trampoline_adds (NewHeld g h) g ys x change held;
      component_instances = omega arith;
      signatures = λ place s at. at;
    } in
    quiet g h added o refl refl refl

adapter_adds : (P : EntryFact) (g : ComponentDfg) (ys : List Adapter) (x : Adapter)
    → Changes g.adapters ys x → P list.adapters (length g.adapters) x → AllAdd P g (record g { adapters = ys })
unfolding slots_of
adapter_adds P g ys x change p list.adapters = one_changed (P list.adapters) g.adapters ys x change p
adapter_adds P g ys x change p (list.slots plan.memory) = nothing
adapter_adds P g ys x change p l = nothing

-- one entry of `adapters`
pub adapter_grows : (g : ComponentDfg) (ys : List Adapter) (x : Adapter) → Changes g.adapters ys x
    → Grows g (record g { adapters = ys })
adapter_grows g ys x change = record {
  lists = λ l. (adapter_adds (λ l n x. Unit {0}) g ys x change tt l).extends;
  component_instances = omega arith;
  signatures = λ place s at. at;
}

pub adapter_ordered : (g : ComponentDfg) (ys : List Adapter) (x : Adapter) → Changes g.adapters ys x
    → HeldAdapter g x → IsOrdered g → IsOrdered (record g { adapters = ys })
unfolding HoldsEntry
adapter_ordered g ys x change held o =
    let h = record g { adapters = ys } in
    let added : Added g h = record {
      lists = adapter_adds (NewHeld g h) g ys x change held;
      component_instances = omega arith;
      signatures = λ place s at. at;
    } in
    quiet g h added o refl refl refl

adapter_module_adds : (P : EntryFact) (g : ComponentDfg) (ys : List (StaticModuleIndex
    × List CoreDef)) (x : StaticModuleIndex × List CoreDef)
    → Changes g.adapter_modules ys x → P list.adapter_modules (length g.adapter_modules) x
    → AllAdd P g (record g { adapter_modules = ys })
unfolding slots_of
adapter_module_adds P g ys x change p list.adapter_modules = one_changed
    (P list.adapter_modules) g.adapter_modules ys x change p
adapter_module_adds P g ys x change p (list.slots plan.memory) = nothing
adapter_module_adds P g ys x change p l = nothing

-- one entry of `adapter_modules`
pub adapter_module_grows : (g : ComponentDfg) (ys : List (StaticModuleIndex × List CoreDef)) (x : StaticModuleIndex
    × List CoreDef) → Changes g.adapter_modules ys x
    → Grows g (record g { adapter_modules = ys })
adapter_module_grows g ys x change = record {
  lists = λ l. (adapter_module_adds (λ l n x. Unit {0}) g ys x change tt l).extends;
  component_instances = omega arith;
  signatures = λ place s at. at;
}

pub adapter_module_ordered : (g : ComponentDfg) (ys : List (StaticModuleIndex
    × List CoreDef)) (x : StaticModuleIndex × List CoreDef) → Changes g.adapter_modules ys x
    → All (IsHeld g) x.1 → IsOrdered g → IsOrdered (record g { adapter_modules = ys })
unfolding HoldsEntry
adapter_module_ordered g ys x change held o =
    let h = record g { adapter_modules = ys } in
    let added : Added g h = record {
      lists = adapter_module_adds (NewHeld g h) g ys x change held;
      component_instances = omega arith;
      signatures = λ place s at. at;
    } in
    quiet g h added o refl refl refl

partitioning_adds : (P : EntryFact) (g : ComponentDfg) (ys : List (AdapterModuleId
    × EntityIndex)) (x : AdapterModuleId × EntityIndex)
    → Changes g.adapter_partitionings ys x → P list.adapter_partitionings (length g.adapter_partitionings) x
    → AllAdd P g (record g { adapter_partitionings = ys })
unfolding slots_of
partitioning_adds P g ys x change p list.adapter_partitionings = one_changed
    (P list.adapter_partitionings) g.adapter_partitionings ys x change p
partitioning_adds P g ys x change p (list.slots plan.memory) = nothing
partitioning_adds P g ys x change p l = nothing

-- one entry of `adapter_partitionings`
pub partitioning_grows : (g : ComponentDfg) (ys : List (AdapterModuleId × EntityIndex)) (x : AdapterModuleId
    × EntityIndex) → Changes g.adapter_partitionings ys x
    → Grows g (record g { adapter_partitionings = ys })
partitioning_grows g ys x change = record {
  lists = λ l. (partitioning_adds (λ l n x. Unit {0}) g ys x change tt l).extends;
  component_instances = omega arith;
  signatures = λ place s at. at;
}

pub partitioning_ordered : (g : ComponentDfg) (ys : List (AdapterModuleId × EntityIndex)) (x : AdapterModuleId
    × EntityIndex) → Changes g.adapter_partitionings ys x
    → x.0.0 < length g.adapter_modules → IsOrdered g → IsOrdered (record g { adapter_partitionings = ys })
unfolding HoldsEntry
partitioning_ordered g ys x change held o =
    let h = record g { adapter_partitionings = ys } in
    let added : Added g h = record {
      lists = partitioning_adds (NewHeld g h) g ys x change held;
      component_instances = omega arith;
      signatures = λ place s at. at;
    } in
    quiet g h added o refl refl refl

export_item_adds : (P : EntryFact) (g : ComponentDfg) (ys : List Export) (x : Export)
    → Changes g.export_items ys x → P list.export_items (length g.export_items) x
    → AllAdd P g (record g { export_items = ys })
unfolding slots_of
export_item_adds P g ys x change p list.export_items = one_changed (P list.export_items) g.export_items ys x change p
export_item_adds P g ys x change p (list.slots plan.memory) = nothing
export_item_adds P g ys x change p l = nothing

-- one entry of `export_items`
pub export_item_grows : (g : ComponentDfg) (ys : List Export) (x : Export) → Changes g.export_items ys x
    → Grows g (record g { export_items = ys })
export_item_grows g ys x change = record {
  lists = λ l. (export_item_adds (λ l n x. Unit {0}) g ys x change tt l).extends;
  component_instances = omega arith;
  signatures = λ place s at. at;
}

pub export_item_ordered : (g : ComponentDfg) (ys : List Export) (x : Export) → Changes g.export_items ys x
    → HeldExport g (length g.export_items) x → IsOrdered g → IsOrdered (record g { export_items = ys })
unfolding HoldsEntry
export_item_ordered g ys x change held o =
    let h = record g { export_items = ys } in
    let added : Added g h = record {
      lists = export_item_adds (NewHeld g h) g ys x change held;
      component_instances = omega arith;
      signatures = λ place s at. at;
    } in
    quiet g h added o refl refl refl

export_adds : (P : EntryFact) (g : ComponentDfg) (ys : List NamedExport) (x : NamedExport)
    → Changes g.exports ys x → P list.exports (length g.exports) x → AllAdd P g (record g { exports = ys })
unfolding slots_of
export_adds P g ys x change p list.exports = one_changed (P list.exports) g.exports ys x change p
export_adds P g ys x change p (list.slots plan.memory) = nothing
export_adds P g ys x change p l = nothing

-- one entry of `exports`
pub export_grows : (g : ComponentDfg) (ys : List NamedExport) (x : NamedExport) → Changes g.exports ys x
    → Grows g (record g { exports = ys })
export_grows g ys x change = record {
  lists = λ l. (export_adds (λ l n x. Unit {0}) g ys x change tt l).extends;
  component_instances = omega arith;
  signatures = λ place s at. at;
}

pub export_ordered : (g : ComponentDfg) (ys : List NamedExport) (x : NamedExport) → Changes g.exports ys x
    → x.1.0.0 < length g.export_items → IsOrdered g → IsOrdered (record g { exports = ys })
unfolding HoldsEntry
export_ordered g ys x change held o =
    let h = record g { exports = ys } in
    let added : Added g h = record {
      lists = export_adds (NewHeld g h) g ys x change held;
      component_instances = omega arith;
      signatures = λ place s at. at;
    } in
    quiet g h added o refl refl refl
