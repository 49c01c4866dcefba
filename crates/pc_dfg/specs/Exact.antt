-- Where `==` of definitions answers true, the two are one.
use Rattle.std.specs.Prelude.{◌≡◌, ℕ, Bool, true, false, ◌==◌, ◌&&◌, Option, None, Some, refl}
use Rattle.std.specs.Cmp.{booleans_Decides}
use Rattle.std.specs.Option.{option_eq}
use Rattle.std.specs.Str.{bytes_eq}
use Rattle.std.proofs.Common.{ap, sym, true≢false}
use Rattle.std.proofs.lemmas.Bool.Decides.{Decides-eqb}
use mathlib.Core.Bool.{beq}
use Rattle.pc_entity.specs.Exact.{same_options, same_texts}
use Rattle.pc_entity.proofs.Elements.{and_true}
use Rattle.pc_dfg.specs.declared.ids.InstanceId.{InstanceId}
use Rattle.pc_numbers.specs.contracts.entity_index.EntityIndexPartialEq.TheImpl as eq_EntityIndex
use Rattle.pc_numbers.specs.declared.entity_index.EntityIndex.{EntityIndex}
use Rattle.pc_numbers.specs.declared.entity_index.EntityIndex.TheVariants as entity
use Rattle.pc_numbers.specs.declared.module_entity.MemoryIndex.{MemoryIndex}
use Rattle.pc_info.specs.declared.core_def.ExportItem.{ExportItem}
use Rattle.pc_info.specs.declared.core_def.ExportItem.TheVariants as item
use Rattle.pc_types.specs.contracts.intrinsic.UnsafeIntrinsicPartialEq.TheImpl as eq_UnsafeIntrinsic
use Rattle.pc_types.specs.EqualWords.{intrinsic_exact}
use Rattle.pc_dfg.specs.contracts.adapter.DataModelPartialEq.TheImpl as eq_DataModel
use Rattle.pc_dfg.specs.contracts.core_def.CoreDefPartialEq.TheImpl as eq_CoreDef
use Rattle.pc_dfg.specs.declared.adapter.Adapter.{Adapter}
use Rattle.pc_dfg.specs.declared.adapter.DataModel.{DataModel}
use Rattle.pc_dfg.specs.declared.adapter.DataModel.TheVariants as side
use Rattle.pc_dfg.specs.declared.core_def.CoreDef.{CoreDef}
use Rattle.pc_dfg.specs.declared.core_def.CoreDef.TheVariants as def

-- numbers that compare equal are one number
pub same_number : (m n : ℕ) → (m == n) ≡ true → m ≡ n
same_number m n h = (Decides-eqb m n).0 h

-- a conjunction with `false` isn't true
not_true : {P : Type 0} (b : Bool) → (b && false) ≡ true → P
not_true true h = absurd (true≢false (sym h))
not_true false h = absurd (true≢false (sym h))

-- `==` of entities is equality of values
entity_exact : (a b : EntityIndex) → eq_EntityIndex.ghosts.eq a b ≡ true → a ≡ b
entity_exact (entity.Function a) (entity.Function b) h =
    ap (λ n. entity.Function (record { 0 = n })) (same_number a.0 b.0 h)
entity_exact (entity.Table a) (entity.Table b) h = ap (λ n. entity.Table (record { 0 = n })) (same_number a.0 b.0 h)
entity_exact (entity.Memory a) (entity.Memory b) h = ap (λ n. entity.Memory (record { 0 = n })) (same_number a.0 b.0 h)
entity_exact (entity.Global a) (entity.Global b) h = ap (λ n. entity.Global (record { 0 = n })) (same_number a.0 b.0 h)
entity_exact (entity.Tag a) (entity.Tag b) h = ap (λ n. entity.Tag (record { 0 = n })) (same_number a.0 b.0 h)
entity_exact a b h = absurd (true≢false (sym h))

-- an item of a core instance as a definition
abbrev item_def : InstanceId → ExportItem EntityIndex → CoreDef
item_def i x = def.Export (record { instance = i; item = x })

-- `==` of items of core instances is equality of values
item_exact : (i j : InstanceId) (x y : ExportItem EntityIndex)
    → eq_CoreDef.ghosts.eq (item_def i x) (item_def j y) ≡ true → item_def i x ≡ item_def j y
item_exact i j (item.Index x) (item.Index y) h =
    let both = and_true (i.0 == j.0) (eq_EntityIndex.ghosts.eq x y) h in
    let instance = same_number i.0 j.0 both.0 in
    let entity = entity_exact x y both.1 in
    λ k. item_def (record { 0 = instance k }) (item.Index (entity k))
item_exact i j (item.Index x) (item.Name y) h = not_true (i.0 == j.0) h
item_exact i j (item.Name x) (item.Index y) h = not_true (i.0 == j.0) h
item_exact i j (item.Name x) (item.Name y) h =
    let both = and_true (i.0 == j.0) (bytes_eq x y) h in
    let instance = same_number i.0 j.0 both.0 in
    let name = same_texts x y both.1 in
    λ k. item_def (record { 0 = instance k }) (item.Name (name k))

-- `==` of definitions is equality of values
pub def_exact : (a b : CoreDef) → eq_CoreDef.ghosts.eq a b ≡ true → a ≡ b
def_exact (def.Export a) (def.Export b) h = item_exact a.instance b.instance a.item b.item h
def_exact (def.InstanceFlags a) (def.InstanceFlags b) h =
    ap (λ n. def.InstanceFlags (record { 0 = n })) (same_number a.0 b.0 h)
def_exact (def.Trampoline a) (def.Trampoline b) h = ap (λ n. def.Trampoline (record { 0 = n })) (same_number a.0 b.0 h)
def_exact (def.UnsafeIntrinsic s i) (def.UnsafeIntrinsic t j) h =
    let both = and_true (s.0 == t.0) (eq_UnsafeIntrinsic.ghosts.eq i j) h in
    let signature = same_number s.0 t.0 both.0 in
    let one = intrinsic_exact i j both.1 in
    λ k. def.UnsafeIntrinsic (record { 0 = signature k }) (one k)
def_exact (def.Adapter a) (def.Adapter b) h = ap (λ n. def.Adapter (record { 0 = n })) (same_number a.0 b.0 h)
def_exact a b h = absurd (true≢false (sym h))

-- a side's memory, with whether it is 64-bit, and realloc
abbrev linear : InstanceId → ExportItem MemoryIndex → Bool → Option CoreDef → DataModel
linear i x wide r = side.LinearMemory (Some (record { instance = i; item = x }, wide)) r

-- `==` of these is equality of values
linear_exact : (i j : InstanceId) (x y : ExportItem MemoryIndex) (v w : Bool) (r s : Option CoreDef)
    → eq_DataModel.ghosts.eq (linear i x v r) (linear j y w s) ≡ true → linear i x v r ≡ linear j y w s
linear_exact i j (item.Index x) (item.Index y) v w r s h =
    let inner = (i.0 == j.0) && (x.0 == y.0) in
    let first = and_true (inner && beq v w) (option_eq eq_CoreDef.ghosts.eq r s) h in
    let second = and_true inner (beq v w) first.0 in
    let third = and_true (i.0 == j.0) (x.0 == y.0) second.0 in
    let instance = same_number i.0 j.0 third.0 in
    let memory = same_number x.0 y.0 third.1 in
    let wide = (booleans_Decides v w).0 second.1 in
    let realloc = same_options def_exact r s first.1 in
    λ k. linear (record { 0 = instance k }) (item.Index (record { 0 = memory k })) (wide k) (realloc k)
linear_exact i j (item.Index x) (item.Name y) v w r s h =
    let first = and_true (((i.0 == j.0) && false) && beq v w) (option_eq eq_CoreDef.ghosts.eq r s) h in
    not_true (i.0 == j.0) (and_true ((i.0 == j.0) && false) (beq v w) first.0).0
linear_exact i j (item.Name x) (item.Index y) v w r s h =
    let first = and_true (((i.0 == j.0) && false) && beq v w) (option_eq eq_CoreDef.ghosts.eq r s) h in
    not_true (i.0 == j.0) (and_true ((i.0 == j.0) && false) (beq v w) first.0).0
linear_exact i j (item.Name x) (item.Name y) v w r s h =
    let inner = (i.0 == j.0) && bytes_eq x y in
    let first = and_true (inner && beq v w) (option_eq eq_CoreDef.ghosts.eq r s) h in
    let second = and_true inner (beq v w) first.0 in
    let third = and_true (i.0 == j.0) (bytes_eq x y) second.0 in
    let instance = same_number i.0 j.0 third.0 in
    let name = same_texts x y third.1 in
    let wide = (booleans_Decides v w).0 second.1 in
    let realloc = same_options def_exact r s first.1 in
    λ k. linear (record { 0 = instance k }) (item.Name (name k)) (wide k) (realloc k)

-- `==` of data models of a side is equality of values
pub model_exact : (a b : DataModel) → eq_DataModel.ghosts.eq a b ≡ true → a ≡ b
model_exact side.Gc side.Gc h = refl
model_exact (side.LinearMemory None r) (side.LinearMemory None s) h =
    ap (side.LinearMemory None) (same_options def_exact r s h)
model_exact (side.LinearMemory (Some m) r) (side.LinearMemory (Some n) s) h =
    linear_exact m.0.instance n.0.instance m.0.item n.0.item m.1 n.1 r s h
model_exact a b h = absurd (true≢false (sym h))
