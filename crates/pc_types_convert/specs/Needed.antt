-- Which entries an entry names, and which are to be converted for an entry.
use Rattle.std.specs.Prelude.{◌≡◌, ◌⊎◌, ℕ, ◌<◌, List, [], ◌∷◌, ◌++◌, length, Option, None, Some, slice_get}
use Rattle.std.specs.List.{flat_map}
use Rattle.pc_types.specs.declared.parsed.DeclType.{DeclType}
use Rattle.pc_types.specs.declared.parsed.DeclType.TheVariants as entry
use Rattle.pc_types.specs.declared.parsed.Entity.{Entity}
use Rattle.pc_types.specs.declared.parsed.Entity.TheVariants as entity
use Rattle.pc_types.specs.declared.parsed.TypeTable.{TypeTable}
use Rattle.pc_types.specs.declared.parsed.ValType.{ValType}
use Rattle.pc_types.specs.declared.parsed.ValType.TheVariants as val
use Rattle.pc_types.specs.declared.types.TypeDef.{TypeDef}

-- the entries that a value type names
abbrev pub val_parts : ValType → List ℕ
val_parts (val.Prim p) = []
val_parts (val.Type_ n) = n ∷ []

-- the entries that a value type names, if there is one
abbrev pub maybe_parts : Option ValType → List ℕ
maybe_parts None = []
maybe_parts (Some v) = val_parts v

-- the entries that a field or a parameter names
abbrev pub field_parts : List ℕ × ValType → List ℕ
field_parts f = val_parts f.1

-- the entries that a case names
abbrev pub case_parts : List ℕ × Option ValType → List ℕ
case_parts c = maybe_parts c.1

-- the entry that an entity names
abbrev pub entity_parts : Entity → List ℕ
entity_parts (entity.Func n) = n ∷ []
entity_parts (entity.Instance n) = n ∷ []
entity_parts (entity.Component n) = n ∷ []
entity_parts (entity.Module n) = n ∷ []
entity_parts (entity.Type_ n) = n ∷ []
entity_parts entity.Value = []

-- the entries that a named entity names
abbrev pub extern_parts : List ℕ × Entity → List ℕ
extern_parts e = entity_parts e.1

-- the entries that an entry names
abbrev pub parts_of : DeclType → List ℕ
parts_of entry.Resource = []
parts_of (entry.Func params result is_async) = flat_map field_parts params ++ maybe_parts result
parts_of (entry.Val v) = val_parts v
parts_of (entry.Record fields) = flat_map field_parts fields
parts_of (entry.Variant cases) = flat_map case_parts cases
parts_of (entry.List v) = val_parts v
parts_of (entry.Tuple vs) = flat_map val_parts vs
parts_of (entry.Flags names) = []
parts_of (entry.Enum names) = []
parts_of (entry.Option v) = val_parts v
parts_of (entry.Result ok err) = maybe_parts ok ++ maybe_parts err
parts_of (entry.Own n) = n ∷ []
parts_of (entry.Borrow n) = n ∷ []
parts_of (entry.Stream v) = maybe_parts v
parts_of (entry.Future v) = maybe_parts v
parts_of (entry.Instance exports) = flat_map extern_parts exports
parts_of (entry.Component imports exports) = flat_map extern_parts imports ++ flat_map extern_parts exports
parts_of (entry.Module imports exports) = []

-- each of these numbers has P
abbrev pub Each : (ℕ → Type 0) → List ℕ → Type 0
Each P [] = Unit {0}
Each P (n ∷ ns) = P n × Each P ns

-- the number is one of these
abbrev pub IsAmong : ℕ → List ℕ → Type 0
IsAmong m [] = ⊥
IsAmong m (n ∷ ns) = (m ≡ n) ⊎ IsAmong m ns

-- each number is above those before it
abbrev pub Ascend : List ℕ → Type 0
Ascend [] = Unit {0}
Ascend (n ∷ ns) = Each (λ m. n < m) ns × Ascend ns

-- entry `n` has its type
abbrev pub IsDone : List (Option TypeDef) → ℕ → Type 0
IsDone done n = (d : TypeDef) × (slice_get done n ≡ Some (Some d))

-- the entries that are to be converted for entry `n`, in ascending order, where some are done: it itself, and what
-- those name, none of which is done
pub record AreNeeded (t : TypeTable) (done : List (Option TypeDef)) (n : ℕ) (order : List ℕ) : Type 0 where
  pub asked : IsDone done n ⊎ IsAmong n order
  pub none_done : (k : ℕ) → IsAmong k order → IsDone done k → ⊥
  pub ascend : Ascend order
  pub within : Each (λ k. k < length t.types) order
  pub closed : (k : ℕ) (e : DeclType) → IsAmong k order → slice_get t.types k ≡ Some e
      → Each (λ p. IsDone done p ⊎ IsAmong p order) (parts_of e)
  pub reason : (k : ℕ) → IsAmong k order
      → (k ≡ n) ⊎ ((p : ℕ) × (e : DeclType) × IsAmong p order × (slice_get t.types p ≡ Some e) × IsAmong k (parts_of e))
