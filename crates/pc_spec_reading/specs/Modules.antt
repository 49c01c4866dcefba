-- Core modules and core instances: a module, an instance of a module, an instance from items, a core alias.
use Rattle.std.specs.Prelude.{ℕ, List, length, Option, Result, Ok, slice_get, option_and_then, option_map}
use Rattle.pc_numbers.specs.declared.entity_index.EntityIndex.{EntityIndex}
use Rattle.pc_entity.specs.Lists.{map_all}
use Rattle.pc_types.specs.declared.module_record.ModuleRecord.{ModuleRecord}
use Rattle.pc_types.specs.declared.parsed.CoreKind.{CoreKind}
use Rattle.pc_types.specs.declared.parsed.TypeTable.{TypeTable}
use Rattle.pc_types.specs.Record.{index_kind, index_number}
use Rattle.pc_types.specs.Table.{is_module}
use Rattle.pc_types.specs.TypeTree.{TypeTree, Path}
use Rattle.pc_spec_plan.specs.CoreValue.{CoreValue}
use Rattle.pc_spec_plan.specs.Log.{NamedArgument, instantiated, needed, of_static, of_host, instances_of}
use Rattle.pc_parsed.specs.Mark.{Mark}
use Rattle.pc_spec_reading.specs.Arguments.{core_export, static_arguments, host_arguments}
use Rattle.pc_spec_reading.specs.Outcome.{Fault, invalid, bad_type, found}
use Rattle.pc_spec_reading.specs.Scope.{Scope, Moment, CoreItem, of_module, of_host_module, bag, core_list, add_core}
use Rattle.pc_spec_reading.specs.Scope.{add_value, add_entry, add_core_instance}
use Rattle.pc_spec_reading.specs.Types.{tree_if}
use Rattle.pc_spec_reading.specs.Value.{Module, static_module, host_module, module_value}

-- the order of the next core instance that a module is made into
abbrev pub next_order : Moment → ℕ
next_order now = length (instances_of now.world.log)

-- the next core instance, for the component instance: of a handed-in module, or of a host module, which is needed
abbrev pub add_static : Moment → ℕ → List (CoreValue Mark) → Moment
add_static now m vs =
    add_core_instance (add_entry now (instantiated (of_static m vs) now.scope.component_instance))
    (of_module (next_order now) m)

-- the same of a host module, which is needed
abbrev pub add_host : Moment → Path → TypeTree → List (NamedArgument Mark) → Moment
add_host now p tree vs =
    add_core_instance (add_entry (add_entry now (needed p)) (instantiated (of_host p vs) now.scope.component_instance))
    (of_host_module (next_order now) tree)

-- an item of a bag: a core value of the scope
abbrev pub bag_entry : Scope → List ℕ × EntityIndex → Option (List ℕ × CoreItem)
bag_entry s e =
    option_map {U = List ℕ × CoreItem} (λ (v : CoreValue Mark). (e.0, record { kind = index_kind e.1; value = v }))
    (slice_get (core_list s (index_kind e.1)) (index_number e.1))

module _ (t : TypeTable) (ms : List ModuleRecord) where
  -- a core module that was handed in: `BadType` where its type is no module type
  unfoldable pub read_module : Moment → (number ty : ℕ) → Result Moment Fault
  read_module now m ty =
      found bad_type (tree_if t is_module now.scope ty) (λ (tree : TypeTree).
      Ok (add_value now (module_value (static_module m tree))))

  -- a core instance of a module of the scope: `Invalid` where an argument is missing or of another kind
  abbrev pub instantiate_module : Moment → List (List ℕ × ℕ) → Module → Result Moment Fault
  instantiate_module now args (static_module m tree) =
      found invalid (option_and_then (static_arguments ms now.scope args) (slice_get ms m))
      (λ (vs : List (CoreValue Mark)). Ok (add_static now m vs))
  instantiate_module now args (host_module p tree) =
      found invalid (host_arguments ms now.scope args tree) (λ (vs : List (NamedArgument Mark)).
      Ok (add_host now p tree vs))

  -- `Invalid` where there is no such module
  unfoldable pub read_core_instance : Moment → (core_module : ℕ) → List (List ℕ × ℕ) → Result Moment Fault
  read_core_instance now n args = found invalid (slice_get now.scope.modules n) (instantiate_module now args)

  -- a core instance from items: `Invalid` where an index is missing
  unfoldable pub read_core_exports : Moment → List (List ℕ × EntityIndex) → Result Moment Fault
  read_core_exports now items =
      found invalid (map_all (bag_entry now.scope) items) (λ (es : List (List ℕ × CoreItem)).
      Ok (add_core_instance now (bag es)))

  -- a core alias: `Invalid` where the instance is missing, or it has no item of that name and kind
  unfoldable pub read_core_alias : Moment → CoreKind → (instance : ℕ) → List ℕ → Result Moment Fault
  read_core_alias now k n name =
      found invalid (option_and_then (core_export ms k name) (slice_get now.scope.core_instances n))
      (λ (v : CoreValue Mark). Ok (add_core now k v))
