-- The types that are the same in each component instance, whatever resources are known: no resource, stream, future or
-- error context stands in them.
use Rattle.std.specs.Prelude.{◌≡◌, ◌⊎◌, ◌&&◌, ℕ, Bool, true, false, List, [], length, replicate, Option, None, Some}
use Rattle.std.specs.Prelude.{is_some, option_and_then, slice_get, slice_set}
use Rattle.std.specs.List.{list_all}
use Rattle.pc_types.specs.declared.parsed.DeclType.{DeclType}
use Rattle.pc_types.specs.declared.parsed.DeclType.TheVariants as entry
use Rattle.pc_types.specs.declared.parsed.Entity.{Entity}
use Rattle.pc_types.specs.declared.parsed.Entity.TheVariants as entity
use Rattle.pc_types.specs.declared.parsed.ValType.{ValType}
use Rattle.pc_types.specs.declared.parsed.ValType.TheVariants as val
use Rattle.pc_types.specs.declared.types.TypeDef.{TypeDef}
use Rattle.pc_types.specs.Table.{is_none_or}
use Rattle.pc_types_lists.specs.Primitive.{plain_type}
use Rattle.pc_types_convert.specs.Needed.{IsAmong, IsDone}

-- the types of the entries that are done, by number: all, those that are the same in each component instance, and those
-- of this one; which entries with such a type name an entry that has one; and types that entries had once, in whatever
-- component instance
pub record Layers : Type 0 where
  pub all : List (Option TypeDef)
  pub plain : List (Option TypeDef)
  pub own : List (Option TypeDef)
  pub users : List (List ℕ)
  pub like : List (Option TypeDef)

-- no entry of so many is done
abbrev pub none_done : (room : ℕ) → Layers
none_done room = record {
  all = replicate room None;
  plain = replicate room None;
  own = replicate room None;
  users = replicate room [];
  like = replicate room None;
}

-- the type stands at number `n`
abbrev pub StandsAt : List (Option TypeDef) → ℕ → TypeDef → Type 0
StandsAt done n d = slice_get done n ≡ Some (Some d)

-- entry `k` is noted among those that name entry `p`
abbrev pub IsNoted : List (List ℕ) → (p k : ℕ) → Type 0
IsNoted users p k = (ks : List ℕ) × (slice_get users p ≡ Some ks) × IsAmong k ks

-- the type of an entry is that which this component instance has for itself, or else the one that is the same in each
pub record AreLayered (c : Layers) : Type 0 where
  pub own_room : length c.own ≡ length c.all
  pub users_room : length c.users ≡ length c.all
  pub front : (n : ℕ) (d : TypeDef) → StandsAt c.own n d → StandsAt c.all n d
  pub either : (n : ℕ) (d : TypeDef) → StandsAt c.all n d → StandsAt c.own n d ⊎ StandsAt c.plain n d

-- no type is among those that entries had once but one that was, or this one of entry `k`
abbrev pub HadOnce : (k : ℕ) → TypeDef → (old new : List (Option TypeDef)) → Type 0
HadOnce k d old new = (n : ℕ) (e : TypeDef) → StandsAt new n e → StandsAt old n e ⊎ ((n ≡ k) × (e ≡ d))

-- the lists after those that are the same everywhere, and those that entries had once, were exchanged with others
pub record Takes (old from new : Layers) : Type 0 where
  pub room : length new.all ≡ length old.all
  pub plain : new.plain ≡ from.plain
  pub like : new.like ≡ from.like
  pub own : new.own ≡ old.own
  pub users : new.users ≡ old.users
  pub layered : AreLayered new

-- the same entries have their types, and what was noted is noted; entry `k` may have had this type
pub record NotesMore (k : ℕ) (d : TypeDef) (old new : Layers) : Type 0 where
  pub like : HadOnce k d old.like new.like
  pub all : new.all ≡ old.all
  pub plain : new.plain ≡ old.plain
  pub own : new.own ≡ old.own
  pub users : (p m : ℕ) → IsNoted old.users p m → IsNoted new.users p m
  pub layered : AreLayered new

-- entry `k` has a type that is the same in each component instance
pub record PutsPlain (k : ℕ) (d : TypeDef) (old new : Layers) : Type 0 where
  pub like : new.like ≡ old.like
  pub plain : new.plain ≡ slice_set old.plain k (Some d)
  pub own : new.own ≡ old.own
  pub users : new.users ≡ old.users

-- entry `k` has a type of this component instance, which may be noted as one that it had, and is noted where it names
-- one that has such a type
pub record PutsOwn (k : ℕ) (d : TypeDef) (parts : List ℕ) (old new : Layers) : Type 0 where
  pub like : HadOnce k d old.like new.like
  pub plain : new.plain ≡ old.plain
  pub own : new.own ≡ slice_set old.own k (Some d)
  pub users : (p m : ℕ) → IsNoted old.users p m → IsNoted new.users p m
  pub noted : (p : ℕ) → IsAmong p parts → IsDone old.own p → IsNoted new.users p k

-- Entry `n` is forgotten, and so is each that leads to it as far as was noted: where an entry stays, each stays that it
-- was noted for.
pub record Forgets (n : ℕ) (old new : Layers) : Type 0 where
  pub room : length new.all ≡ length old.all
  pub plain : new.plain ≡ old.plain
  pub like : new.like ≡ old.like
  pub own : (k : ℕ) (d : TypeDef) → StandsAt new.own k d → StandsAt old.own k d
  pub gone : IsDone new.own n → ⊥
  pub users : (p k : ℕ) → IsDone new.own k → IsDone old.own p → IsNoted old.users p k
      → IsDone new.own p × IsNoted new.users p k
  pub layered : AreLayered new

module _ (plain : List (Option TypeDef)) where
  -- whether the type of an entry is among the plain ones
  abbrev pub is_plain_at : ℕ → Bool
  is_plain_at n = is_some (option_and_then (λ d. d) (slice_get plain n))

  -- whether a value type is no error context, nor one that may have one in it
  abbrev pub is_plain_val : ValType → Bool
  is_plain_val (val.Prim p) = is_some (plain_type p)
  is_plain_val (val.Type_ n) = is_plain_at n

  -- the same of one that may be left out
  abbrev pub is_plain_maybe : Option ValType → Bool
  is_plain_maybe v = is_none_or is_plain_val v

  -- the same of a field or a parameter
  abbrev pub is_plain_field : List ℕ × ValType → Bool
  is_plain_field f = is_plain_val f.1

  -- the same of a case
  abbrev pub is_plain_case : List ℕ × Option ValType → Bool
  is_plain_case c = is_plain_maybe c.1

  -- whether the type of an entity is among the plain ones
  abbrev pub is_plain_entity : Entity → Bool
  is_plain_entity (entity.Func n) = is_plain_at n
  is_plain_entity (entity.Instance n) = is_plain_at n
  is_plain_entity (entity.Component n) = is_plain_at n
  is_plain_entity (entity.Module n) = is_plain_at n
  is_plain_entity (entity.Type_ n) = is_plain_at n
  is_plain_entity entity.Value = true

  -- the same of a named entity
  abbrev pub is_plain_extern : List ℕ × Entity → Bool
  is_plain_extern e = is_plain_entity e.1

  -- whether the type of an entry is the same in each component instance, where the plain ones among its parts are these
  abbrev pub is_plain_entry : DeclType → Bool
  is_plain_entry entry.Resource = false
  is_plain_entry (entry.Func params result is_async) = list_all is_plain_field params && is_plain_maybe result
  is_plain_entry (entry.Val v) = is_plain_val v
  is_plain_entry (entry.Record fields) = list_all is_plain_field fields
  is_plain_entry (entry.Variant cases) = list_all is_plain_case cases
  is_plain_entry (entry.List v) = is_plain_val v
  is_plain_entry (entry.Tuple vs) = list_all is_plain_val vs
  is_plain_entry (entry.Flags names) = true
  is_plain_entry (entry.Enum names) = true
  is_plain_entry (entry.Option v) = is_plain_val v
  is_plain_entry (entry.Result ok err) = is_plain_maybe ok && is_plain_maybe err
  is_plain_entry (entry.Own n) = false
  is_plain_entry (entry.Borrow n) = false
  is_plain_entry (entry.Stream v) = false
  is_plain_entry (entry.Future v) = false
  is_plain_entry (entry.Instance exports) = list_all is_plain_extern exports
  is_plain_entry (entry.Component imports exports) = list_all is_plain_extern imports && list_all is_plain_extern exports
  is_plain_entry (entry.Module imports exports) = true
