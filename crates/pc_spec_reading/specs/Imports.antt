-- Imports: how those of the root are prepared before its items, and what the item of an import adds.
use Rattle.std.specs.Prelude.{ℕ, Bool, true, false, List, [], ◌∷◌, ◌++◌, length, Option, Some, None, Result, Ok}
use Rattle.std.specs.Prelude.{if◌then◌else◌}
use Rattle.std.specs.List.{fold}
use Rattle.pc_entity.specs.Lists.{value_of}
use Rattle.pc_types.specs.declared.error.Unsupported.TheVariants.{ComponentImport}
use Rattle.pc_types.specs.declared.parsed.Entity.{Entity}
use Rattle.pc_types.specs.declared.parsed.Entity.TheVariants as entity
use Rattle.pc_types.specs.declared.parsed.TypeTable.{TypeTable}
use Rattle.pc_types.specs.TypeTree.{TypeTree, Path, Identity, imported}
use Rattle.pc_spec_plan.specs.Log.{needed}
use Rattle.pc_parsed.specs.declared.payload.ExternName.{ExternName}
use Rattle.pc_spec_reading.specs.Asked.{import_path}
use Rattle.pc_spec_reading.specs.Member.{resource_at}
use Rattle.pc_spec_reading.specs.Outcome.{Fault, invalid, bad_type, unsupported, found, held, after}
use Rattle.pc_spec_reading.specs.Resource.{ResourcePath, resource_paths, registered, newly, knowing}
use Rattle.pc_spec_reading.specs.Scope.{Moment, add_value, add_entry, with_known}
use Rattle.pc_spec_reading.specs.Types.{names_entry, declared_tree, is_plain_type, is_defined_entity}
use Rattle.pc_spec_reading.specs.Value.{Value, func_value, module_value, instance_value, component_value, type_value}
use Rattle.pc_spec_reading.specs.Value.{host_function, host_module, host_instance, the_intrinsics}

-- whether a value is of the kind of an entity
abbrev pub is_of_entity : Entity → Value → Bool
is_of_entity (entity.Func n) (func_value f) = true
is_of_entity (entity.Instance n) (instance_value i) = true
is_of_entity (entity.Component n) (component_value c) = true
is_of_entity (entity.Module n) (module_value m) = true
is_of_entity (entity.Type_ n) (type_value tree) = true
is_of_entity e v = false

-- what the host gives for an import, by its path; for a type, the type. It gives no component
abbrev pub host_value : Path → Entity → TypeTree → Option Value
host_value p (entity.Func n) tree = Some (func_value (host_function p))
host_value p (entity.Instance n) tree = Some (instance_value (host_instance p tree))
host_value p (entity.Module n) tree = Some (module_value (host_module p tree))
host_value p (entity.Type_ n) tree = Some (type_value tree)
host_value p (entity.Component n) tree = None
host_value p entity.Value tree = None

-- a moment in which the host has given one import more, which is an argument of the root
abbrev pub with_given : Moment → ExternName → TypeTree → Value → Moment
with_given now name tree v =
    record now {
      scope = record now.scope { arguments = now.scope.arguments ++ (name.name, v) ∷ [] };
      world = record now.world { imports = now.world.imports ++ record { name = name; import_type = tree } ∷ [] };
    }

-- the path of a resource that an import of the host leads to
abbrev pub resource_path : (import : ℕ) → ResourcePath → Path
resource_path i p = record { import = i; names = p.names }

-- the path of the next import that the host gives
abbrev pub next_import : Moment → Path
next_import now = import_path (length now.world.imports)

-- a moment with one more resource that came with an import of the host
abbrev pub with_imported : Moment → Path → Moment
with_imported now p =
    record now { world = record now.world { imported_resources = now.world.imported_resources ++ p ∷ [] } }

-- the resource at a path becomes known, and its path is needed
abbrev pub importing : Moment → (import : ℕ) → ResourcePath → Moment
importing now i p =
    add_entry
    (with_imported (with_known now (knowing now.scope.known p.number (imported (resource_path i p))))
    (resource_path i p))
    (needed (resource_path i p))

-- the resources of an import of the host become known by their paths, each number once and none that is known
unfoldable pub import_resources : Moment → (import : ℕ) → List ResourcePath → Moment
import_resources now i ps = fold (λ (m : Moment) (p : ResourcePath). importing m i p) now (newly now.scope.known ps)

module _ (t : TypeTable) where
  -- an import that the host gives: the next in the order of the imports, under its name
  abbrev pub give : ExternName → Entity → Moment → Result Moment Fault
  give name e now =
      found bad_type (declared_tree t now.scope e) (λ (tree : TypeTree).
      found (unsupported ComponentImport) (host_value (next_import now) e tree) (λ (v : Value).
      Ok (with_given now name tree v)))

  -- an import of the root is prepared: `BadType` where the entity names no entry of its kind; a defined type is given
  -- nothing for; a component is not supported
  unfoldable pub prepare : ExternName → Entity → Moment → Result Moment Fault
  prepare name e now =
      held bad_type (names_entry t e) (
      if is_defined_entity t e then Ok now
      else give name e (import_resources now (length now.world.imports) (resource_paths t e)))

  -- an argument: `Invalid` where it is of another kind; then its resources become known by their paths, `BadType` where
  -- a path doesn't end at one that is known
  abbrev pub take : Moment → Entity → Value → Result Moment Fault
  take now e v =
      held invalid (is_of_entity e v) (
      after (registered (λ names. resource_at names v) (resource_paths t e) now.scope.known)
      (λ (known : List (ℕ × Identity)). Ok (add_value (with_known now known) v)))

  -- without an argument: `Invalid`, but for a type that is no resource
  abbrev pub take_if : Moment → Entity → Option Value → Result Moment Fault
  take_if now e None = held invalid (is_plain_type t e) (Ok now)
  take_if now e (Some v) = take now e v

  -- an import: `BadType` where the entity names no entry of its kind
  unfoldable pub read_import : Moment → ExternName → Entity → Result Moment Fault
  read_import now name e = held bad_type (names_entry t e) (take_if now e (value_of name.name now.scope.arguments))

-- the import of the unsafe intrinsics
unfoldable pub read_intrinsics : Moment → Result Moment Fault
read_intrinsics now = Ok (add_value now (instance_value the_intrinsics))
