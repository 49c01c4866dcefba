-- Where no entry of a graph stands twice, neither does a definition in slots of a kind.
use Rattle.std.proofs.Common.{◌≡◌, ℕ, List, [], Some, sym, ap, ◌∙◌}
use Rattle.std.specs.Prelude.{map, slice_get}
use Rattle.std.proofs.lemmas.Option.{slice_get-map}
use Rattle.pc_entity.specs.Lists.{AreDistinct}
use Rattle.pc_numbers.specs.declared.entity_index.EntityIndex.{EntityIndex}
use Rattle.pc_numbers.specs.declared.entity_index.EntityIndex.TheVariants as entity
use Rattle.pc_numbers.specs.declared.module_entity.MemoryIndex.{MemoryIndex}
use Rattle.pc_numbers.specs.declared.module_entity.TableIndex.{TableIndex}
use Rattle.pc_spec_plan.specs.PlanView as plan
use Rattle.pc_info.specs.declared.core_def.ExportItem.{ExportItem}
use Rattle.pc_info.specs.declared.core_def.ExportItem.TheVariants as item
use Rattle.pc_info.specs.Definitions.{item_view}
use Rattle.pc_info.specs.Mapped.{map_item}
use Rattle.pc_dfg.specs.declared.core_def.CoreDef.{CoreDef}
use Rattle.pc_dfg.specs.declared.core_def.CoreDef.TheVariants as def
use Rattle.pc_dfg.specs.declared.core_def.CoreExport.{CoreExport}
use Rattle.pc_dfg.specs.declared.dfg.ComponentDfg.{ComponentDfg}
use Rattle.pc_dfg.specs.Numbers.{memory_def, slots_of, table_def}
use Rattle.pc_dfg.specs.Told.{AreInterned}
use Rattle.pc_dfg_linearize.proofs.FillLemmas.{mapped_back}

-- an item is told by how the machine sees it
pub item_tells : (a b : ExportItem EntityIndex) → item_view a ≡ item_view b → a ≡ b
item_tells (item.Index a) (item.Index b) same = let one : a ≡ b = cc in ap item.Index one
item_tells (item.Name a) (item.Name b) same = let one : a ≡ b = cc in ap item.Name one
item_tells a b same = cc

-- and one of a memory or a table by the item that it is among all
memory_item_tells : (a b : ExportItem MemoryIndex) → map_item entity.Memory a ≡ map_item entity.Memory b → a ≡ b
memory_item_tells (item.Index a) (item.Index b) same =
    let one : a.0 ≡ b.0 = cc in ap (λ n. item.Index (record { 0 = n })) one
memory_item_tells (item.Name a) (item.Name b) same = let one : a ≡ b = cc in ap item.Name one
memory_item_tells a b same = cc

table_item_tells : (a b : ExportItem TableIndex) → map_item entity.Table a ≡ map_item entity.Table b → a ≡ b
table_item_tells (item.Index a) (item.Index b) same =
    let one : a.0 ≡ b.0 = cc in ap (λ n. item.Index (record { 0 = n })) one
table_item_tells (item.Name a) (item.Name b) same = let one : a ≡ b = cc in ap item.Name one
table_item_tells a b same = cc

-- what an item of an instance is made of
abbrev instance_in : CoreDef → ℕ
instance_in (def.Export e) = e.instance.0
instance_in d = 0

abbrev item_in : CoreDef → ExportItem EntityIndex
item_in (def.Export e) = e.item
item_in d = item.Name []

memory_def_tells : (a b : CoreExport MemoryIndex) → memory_def a ≡ memory_def b → a ≡ b
memory_def_tells a b same =
    let instance : a.instance.0 ≡ b.instance.0 = ap instance_in same in
    let one = memory_item_tells a.item b.item (ap item_in same) in
    λ i. record { instance = record { 0 = instance i }; item = one i }

table_def_tells : (a b : CoreExport TableIndex) → table_def a ≡ table_def b → a ≡ b
table_def_tells a b same =
    let instance : a.instance.0 ≡ b.instance.0 = ap instance_in same in
    let one = table_item_tells a.item b.item (ap item_in same) in
    λ i. record { instance = record { 0 = instance i }; item = one i }

-- distinct entries stay distinct where they are told by what becomes of them
mapped_distinct : {A B : Type 0} (f : A → B) → ((a b : A) → f a ≡ f b → a ≡ b) → (xs : List A) → AreDistinct xs
    → AreDistinct (map f xs)
mapped_distinct f tells xs distinct i j y at at' =
    let a = mapped_back f (slice_get xs i) y (sym (slice_get-map f xs i) ∙ at) in
    let b = mapped_back f (slice_get xs j) y (sym (slice_get-map f xs j) ∙ at') in
    let one = tells b.0 a.0 (b.2 ∙ sym a.2) in
    distinct i j a.0 a.1 (b.1 ∙ ap (λ x. Some x) one)

-- the definitions in slots of a kind are distinct
pub distinct_slots : (g : ComponentDfg) → AreInterned g → (k : plan.SlotKind) → AreDistinct (slots_of g k)
unfolding slots_of
distinct_slots g interned plan.memory = mapped_distinct memory_def memory_def_tells g.memories interned.memories
distinct_slots g interned plan.table = mapped_distinct table_def table_def_tells g.tables interned.tables
distinct_slots g interned plan.realloc = interned.reallocs
distinct_slots g interned plan.callback = interned.callbacks
distinct_slots g interned plan.post_return = interned.post_returns
