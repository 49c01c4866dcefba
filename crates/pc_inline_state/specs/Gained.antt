-- Which tables of futures, streams and error contexts are new: those of futures and streams are of an entry of the
-- table, and all are of a component instance that has begun.
use Rattle.std.specs.Prelude.{◌≡◌, ◌<◌, ◌≤◌, ℕ, length, Some, slice_get}
use Rattle.pc_numbers.specs.declared.runtime.RuntimeComponentInstanceIndex.{RuntimeComponentInstanceIndex}
use Rattle.pc_types.specs.declared.parsed.TypeTable.{TypeTable}
use Rattle.pc_types.specs.declared.types.InterfaceType.TheVariants as ty
use Rattle.pc_types.specs.declared.types.TypeDef.{TypeDef}
use Rattle.pc_types.specs.declared.types.TypeDef.TheVariants as def
use Rattle.pc_types_lists.specs.Types.{Resources, Types}
use Rattle.pc_types_builder.specs.Trees.{IsEntry}

-- the type is that of an entry of the table, as a component instance reads it that is one of so many
abbrev pub IsOfEntry : TypeTable → (begun : ℕ) → Types → TypeDef → Type 0
IsOfEntry t begun b d =
    (k : Resources) × (k.current.0 < begun) × (n : ℕ) × IsEntry (record b { resources = k }) t n d

-- the number is that of the error contexts of a component instance that is one of so many
abbrev pub IsOfContexts : (begun : ℕ) → Types → ℕ → Type 0
IsOfContexts begun b i =
    (c : RuntimeComponentInstanceIndex) × (c.0 < begun)
    × (slice_get b.error_context_tables i ≡ Some (record { instance = c }))

-- where so many component instances have begun, each new table is the one of futures or of streams that an entry is in
-- one of them, or the one of error contexts of one of them
pub record AddsTables (t : TypeTable) (begun : ℕ) (old new : Types) : Type 0 where
  pub futures : (i : ℕ) → length old.future_tables ≤ i → i < length new.future_tables
      → IsOfEntry t begun new (def.Interface (ty.Future (record { 0 = i })))
  pub streams : (i : ℕ) → length old.stream_tables ≤ i → i < length new.stream_tables
      → IsOfEntry t begun new (def.Interface (ty.Stream (record { 0 = i })))
  pub error_contexts : (i : ℕ) → length old.error_context_tables ≤ i → i < length new.error_context_tables
      → IsOfContexts begun new i
