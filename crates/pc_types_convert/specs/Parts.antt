-- What the parts of a table entry are in the builder, where `done` has the types of earlier entries by number.
use Rattle.std.specs.Prelude.{◌≡◌, ℕ, List, Option, None, Some, slice_get, MatchOption}
use Rattle.pc_types.specs.declared.parsed.Entity.{Entity}
use Rattle.pc_types.specs.declared.parsed.Entity.TheVariants as entity
use Rattle.pc_types.specs.declared.parsed.PrimType.{PrimType}
use Rattle.pc_types.specs.declared.parsed.ValType.{ValType}
use Rattle.pc_types.specs.declared.parsed.ValType.TheVariants as val
use Rattle.pc_types.specs.declared.type_index.TypeComponentLocalErrorContextTableIndex.{TypeComponentLocalErrorContextTableIndex}
use Rattle.pc_types.specs.declared.type_index.TypeResourceTableIndex.{TypeResourceTableIndex}
use Rattle.pc_types.specs.declared.types.InterfaceType.{InterfaceType}
use Rattle.pc_types.specs.declared.types.InterfaceType.TheVariants as ty
use Rattle.pc_types.specs.declared.types.TypeDef.{TypeDef}
use Rattle.pc_types.specs.declared.types.TypeDef.TheVariants as def
use Rattle.pc_types_lists.specs.Types.{Types}
use Rattle.pc_types_lists.specs.Held.{IsHeld}
use Rattle.pc_types_lists.specs.Primitive.{plain_type}

-- the number is that of the error contexts of the current component instance
abbrev pub IsErrorContext : Types → TypeComponentLocalErrorContextTableIndex → Type 0
IsErrorContext b i = slice_get b.error_context_tables i.0 ≡ Some (record { instance = b.resources.current })

-- the value type is that of the primitive
abbrev pub PrimIs : Types → PrimType → InterfaceType → Type 0
PrimIs b p w =
    MatchOption (plain_type p)
    ((i : TypeComponentLocalErrorContextTableIndex) × (w ≡ ty.ErrorContext i) × IsErrorContext b i) (λ t. w ≡ t)

module _ (b : Types) (done : List (Option TypeDef)) where
  -- the value type is what the table has there
  abbrev pub ValIs : ValType → InterfaceType → Type 0
  ValIs (val.Prim p) w = PrimIs b p w
  ValIs (val.Type_ n) w = slice_get done n ≡ Some (Some (def.Interface w))

  -- the same of what may be left out
  abbrev pub MaybeIs : Option ValType → Option InterfaceType → Type 0
  MaybeIs None None = Unit {0}
  MaybeIs None (Some w) = ⊥
  MaybeIs (Some v) None = ⊥
  MaybeIs (Some v) (Some w) = ValIs v w

  -- the same of a name with a type
  abbrev pub FieldIs : List ℕ × ValType → List ℕ × InterfaceType → Type 0
  FieldIs f g = (f.0 ≡ g.0) × ValIs f.1 g.1

  -- the same of a name that may have a type
  abbrev pub CaseIs : List ℕ × Option ValType → List ℕ × Option InterfaceType → Type 0
  CaseIs f g = (f.0 ≡ g.0) × MaybeIs f.1 g.1

-- the done value types are held
abbrev pub AreHeld : Types → List (Option TypeDef) → Type 0
AreHeld b done = (n : ℕ) (w : InterfaceType) → slice_get done n ≡ Some (Some (def.Interface w)) → IsHeld b w

-- a value type's number is among the done ones, with a value type
abbrev pub IsReady : List (Option TypeDef) → ValType → Type 0
IsReady done (val.Prim p) = Unit {0}
IsReady done (val.Type_ n) = (w : InterfaceType) × (slice_get done n ≡ Some (Some (def.Interface w)))

-- the same of what may be left out
abbrev pub MayBeReady : List (Option TypeDef) → Option ValType → Type 0
MayBeReady done None = Unit {0}
MayBeReady done (Some v) = IsReady done v

-- the type is the one that the table has there
abbrev pub EntityIs : List (Option TypeDef) → Entity → TypeDef → Type 0
EntityIs done (entity.Func n) d = slice_get done n ≡ Some (Some d)
EntityIs done (entity.Instance n) d = slice_get done n ≡ Some (Some d)
EntityIs done (entity.Component n) d = slice_get done n ≡ Some (Some d)
EntityIs done (entity.Module n) d = slice_get done n ≡ Some (Some d)
EntityIs done (entity.Type_ n) d = slice_get done n ≡ Some (Some d)
EntityIs done entity.Value d = ⊥

-- the same of a name with an entity
abbrev pub ExternIs : List (Option TypeDef) → List ℕ × Entity → List ℕ × TypeDef → Type 0
ExternIs done e f = (e.0 ≡ f.0) × EntityIs done e.1 f.1

-- an entity's number is among the done ones
abbrev pub IsThere : List (Option TypeDef) → Entity → Type 0
IsThere done e = (d : TypeDef) × EntityIs done e d

-- a resource's number is among the done ones, with the number of its handles
abbrev pub HasHandles : List (Option TypeDef) → ℕ → Type 0
HasHandles done n = (i : TypeResourceTableIndex) × (slice_get done n ≡ Some (Some (def.Resource i)))
