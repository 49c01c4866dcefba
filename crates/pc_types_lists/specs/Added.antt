-- What is new in the lists of types.
use Rattle.std.specs.Prelude.{ℕ, ◌≤◌, ◌<◌, Option, None, Some}
use Rattle.pc_types.specs.declared.types.InterfaceType.TheVariants as ty
use Rattle.pc_types.specs.declared.types.TypeDef.{TypeDef}
use Rattle.pc_types.specs.declared.types.TypeDef.TheVariants as def
use Rattle.pc_types.specs.declared.types.TypeKind.{TypeKind}
use Rattle.pc_types.specs.declared.types.TypeKind.TheVariants as kind
use Rattle.pc_types_lists.specs.Types.{Types, held}

-- each number that is new has Q
pub record AddsOnly (Q : TypeKind → ℕ → Type 0) (old new : Types) : Type 0 where
  pub each : (k : TypeKind) (i : ℕ) → held old k ≤ i → i < held new k → Q k i

-- the type that number `i` of a kind is; error contexts and core signatures stand in types, and are none
abbrev pub numbered_type : TypeKind → ℕ → Option TypeDef
numbered_type kind.Func i = Some (def.ComponentFunc (record { 0 = i }))
numbered_type kind.Tuple i = Some (def.Interface (ty.Tuple (record { 0 = i })))
numbered_type kind.Record i = Some (def.Interface (ty.Record (record { 0 = i })))
numbered_type kind.Variant i = Some (def.Interface (ty.Variant (record { 0 = i })))
numbered_type kind.List i = Some (def.Interface (ty.List (record { 0 = i })))
numbered_type kind.Option i = Some (def.Interface (ty.Option (record { 0 = i })))
numbered_type kind.Result i = Some (def.Interface (ty.Result (record { 0 = i })))
numbered_type kind.Flags i = Some (def.Interface (ty.Flags (record { 0 = i })))
numbered_type kind.Enum i = Some (def.Interface (ty.Enum (record { 0 = i })))
numbered_type kind.ResourceTable i = Some (def.Resource (record { 0 = i }))
numbered_type kind.FutureTable i = Some (def.Interface (ty.Future (record { 0 = i })))
numbered_type kind.StreamTable i = Some (def.Interface (ty.Stream (record { 0 = i })))
numbered_type kind.ErrorContextTable i = None
numbered_type kind.Instance i = Some (def.ComponentInstance (record { 0 = i }))
numbered_type kind.Component i = Some (def.Component (record { 0 = i }))
numbered_type kind.Module i = Some (def.Module (record { 0 = i }))
numbered_type kind.Signature i = None
