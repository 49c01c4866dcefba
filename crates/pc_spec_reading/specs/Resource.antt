-- The resources of a declared entity, and how they become known.
use Rattle.std.specs.Prelude.{ℕ, ◌==◌, Bool, not, List, [], ◌∷◌, ◌++◌, map, filter, Option, Some, None, Result, Ok, Err}
use Rattle.std.specs.Prelude.{slice_get, flat_map, unwrap_or, if◌then◌else◌}
use Rattle.std.specs.List.{list_any}
use Rattle.pc_types.specs.declared.parsed.DeclType.{DeclType}
use Rattle.pc_types.specs.declared.parsed.DeclType.TheVariants as entry
use Rattle.pc_types.specs.declared.parsed.Entity.{Entity}
use Rattle.pc_types.specs.declared.parsed.Entity.TheVariants as entity
use Rattle.pc_types.specs.declared.parsed.TypeTable.{TypeTable}
use Rattle.pc_types.specs.Table.{is_some_and, is_resource}
use Rattle.pc_types.specs.TypeTree.{Identity}
use Rattle.pc_spec_reading.specs.Once.{each_once}
use Rattle.pc_spec_reading.specs.Outcome.{Fault, bad_type, found}

-- a resource number, with the names of the instance exports that lead to it
pub record ResourcePath : Type 0 where
  pub names : List (List ℕ)
  pub number : ℕ

-- a path one name further out
abbrev pub under : List ℕ → ResourcePath → ResourcePath
under name p = record { names = name ∷ p.names; number = p.number }

-- whether two paths lead to one number
abbrev pub same_number : ResourcePath → ResourcePath → Bool
same_number p q = p.number == q.number

-- a resource itself
abbrev pub here : ℕ → ResourcePath
here n = record { names = []; number = n }

module _ (t : TypeTable) where
  -- a type that is a resource is at the end of a path
  abbrev pub type_paths : ℕ → List ResourcePath
  type_paths n = if is_some_and is_resource (slice_get t.types n) then here n ∷ [] else []

  -- the paths from an entity on, with those of the entries before: through instances alone
  abbrev pub entity_paths : List (List ResourcePath) → Entity → List ResourcePath
  entity_paths earlier (entity.Instance n) = unwrap_or (slice_get earlier n) []
  entity_paths earlier (entity.Type_ n) = type_paths n
  entity_paths earlier _ = []

  -- the paths that begin with an export
  abbrev pub export_paths : List (List ResourcePath) → List ℕ × Entity → List ResourcePath
  export_paths earlier e = map (under e.0) (entity_paths earlier e.1)

  -- the paths of an entry, with those of the entries before
  abbrev pub entry_paths : List (List ResourcePath) → DeclType → List ResourcePath
  entry_paths earlier (entry.Instance exports) = flat_map (export_paths earlier) exports
  entry_paths earlier _ = []

  -- the paths of each entry, where these stand before them
  abbrev pub paths_from : List (List ResourcePath) → List DeclType → List (List ResourcePath)
  paths_from earlier [] = earlier
  paths_from earlier (e ∷ es) = paths_from (earlier ++ entry_paths earlier e ∷ []) es

  -- the resource paths of an entity, in order
  unfoldable pub resource_paths : Entity → List ResourcePath
  resource_paths e = entity_paths (paths_from [] t.types) e

-- a resource under its number: the newest that is known counts
abbrev pub knowing : {I : Type 0} → List (ℕ × I) → ℕ → I → List (ℕ × I)
knowing known n i = (n, i) ∷ known

module _ {I : Type 0} where
  -- whether a path leads to a resource that isn't known
  abbrev pub is_new : List (ℕ × I) → ResourcePath → Bool
  is_new known p = not (list_any (λ (k : ℕ × I). k.0 == p.number) known)

  -- the paths to resources that aren't known: of each number the first
  unfoldable pub newly : List (ℕ × I) → List ResourcePath → List ResourcePath
  newly known ps = filter (is_new known) (each_once same_number ps)

  module _ {E : Type 0} (find : List (List ℕ) → Result I E) where
    -- a walk goes on with what was found for a path, or ends there: what was known before stands
    abbrev pub going : List (ℕ × I) → (number : ℕ) → Result I E → (List (ℕ × I) → List (ℕ × I) × Option E)
        → List (ℕ × I) × Option E
    going known n (Ok i) go = go (knowing known n i)
    going known n (Err e) go = (known, Some e)

    -- what is found for paths becomes known in order, as far as the first for which nothing is found
    abbrev pub along : List ResourcePath → List (ℕ × I) → List (ℕ × I) × Option E
    along [] known = (known, None)
    along (p ∷ ps) known = going known p.number (find p.names) (along ps)

    -- the resources at paths become known, each number once and none that is known: what is known then, and why the
    -- walk ended where it ended early
    unfoldable pub walk : List ResourcePath → List (ℕ × I) → List (ℕ × I) × Option E
    walk ps known = along (newly known ps) known

-- what is known after a walk that didn't end early
abbrev pub through : {I E : Type 0} → List (ℕ × I) × Option E → Result (List (ℕ × I)) E
through (known, None) = Ok known
through (known, Some e) = Err e

-- the resources at paths are known; or `BadType` where one that isn't known isn't found at its path
unfoldable pub registered : (find : List (List ℕ) → Option Identity) → List ResourcePath → List (ℕ × Identity)
    → Result (List (ℕ × Identity)) Fault
registered find ps known = through (walk (λ names. found bad_type (find names) Ok) ps known)
