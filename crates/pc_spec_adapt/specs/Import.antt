-- What a module of adapters imports: core values, and as what it imports them.
use Rattle.std.specs.Prelude.{ℕ, Bool}
use Rattle.pc_types.specs.declared.parsed.CoreEntity.{CoreEntity}
use Rattle.pc_types.specs.declared.parsed.CoreEntity.TheVariants as core
use Rattle.pc_spec_plan.specs.CoreValue.{CoreValue, map_value}

-- as what a value is imported: a function of this core signature, a global, or a memory of 32 or 64 bits
pub data ImportedAs (τ : Type 0) : Type 0 where
  a_function : (signature : τ) → ImportedAs τ
  a_global : ImportedAs τ
  a_memory : (is_wide : Bool) → ImportedAs τ

-- a value that is imported
pub record Import (τ : Type 0) : Type 0 where
  pub value : CoreValue τ
  pub imported_as : ImportedAs τ

module _ {τ : Type 0} (number : τ → ℕ) where
  -- an entity, by the numbers of core signatures
  abbrev pub entity_as : ImportedAs τ → CoreEntity
  entity_as (a_function s) = core.Func (number s)
  entity_as a_global = core.Global
  entity_as (a_memory is_wide) = core.Memory is_wide

  -- the entity of an import
  abbrev pub entity_of : Import τ → CoreEntity
  entity_of i = entity_as i.imported_as

module _ {τ υ : Type 0} (f : τ → υ) where
  -- as what a value is imported, with its mark mapped
  abbrev pub map_imported_as : ImportedAs τ → ImportedAs υ
  map_imported_as (a_function s) = a_function (f s)
  map_imported_as a_global = a_global
  map_imported_as (a_memory is_wide) = a_memory is_wide

  -- an import with its marks mapped
  abbrev pub map_import : Import τ → Import υ
  map_import i = record { value = map_value f i.value; imported_as = map_imported_as i.imported_as }
