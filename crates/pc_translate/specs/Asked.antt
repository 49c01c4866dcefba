-- What a plan has beside its steps, options and exports: no more than the reading asked for.
use Rattle.std.specs.Prelude.{◌≡◌, ◌≤◌, ℕ, true, List, map, length, count_by, Option, Some, None, option_map, slice_get}
use Rattle.std.specs.List.{AllZip, Contains, filter_map}
use Rattle.pc_types_lists.specs.Types.{Types}
use Rattle.pc_info.specs.declared.component.ComponentTranslation.{ComponentTranslation}
use Rattle.pc_info.specs.declared.module.ModuleTranslation.{ModuleTranslation}
use Rattle.pc_info.specs.View.{view}
use Rattle.pc_numbers.specs.declared.module_entity.ModuleInternedTypeIndex.{ModuleInternedTypeIndex}
use Rattle.pc_numbers.specs.declared.runtime.RuntimeComponentInstanceIndex.{RuntimeComponentInstanceIndex}
use Rattle.pc_parsed.specs.Mark as reading
use Rattle.pc_dfg_finish.specs.Headed.{is_headed}
use Rattle.pc_spec_reading.specs.Asked.{is_declared, paths_needed, signature_of}
use Rattle.pc_spec_reading.specs.Nodes.{extern_data}
use Rattle.pc_spec_reading.specs.Reading.{Reading}
use Rattle.pc_spec_reading.specs.World.{AddedIntrinsic, HostImport}
use Rattle.pc_spec_plan.specs.CoreValue.{CoreValue, map_value}
use Rattle.pc_spec_plan.specs.Log.{Entry, declared, declared_resource}
use Rattle.pc_spec_plan.specs.Machine.{State, resolve}
use Rattle.pc_spec_plan.specs.PlanView.{ImportType, PlanView, RuntimeImport, TrampolineEntry, trampoline}
use Rattle.pc_trampoline.specs.declared.part.Mark.{Mark}
use Rattle.pc_inline_state.specs.Holds.{Holds, Numbered, ReadsAs, number_of, whole_of}
use Rattle.pc_types.specs.declared.parsed.CoreFuncSig.{CoreFuncSig}
use Rattle.pc_types.specs.TypeTree.{Path}

-- an import type of a plan is this import that the host gives, its type under its number, where the imported resources
-- have these paths
pub record IsImport (types : Types) (paths : List Path) (i : ImportType Mark) (h : HostImport) : Type 0 where
  pub name : i.name ≡ h.name.name
  pub extern_data : i.extern_data ≡ extern_data h.name
  pub typed : Holds types (ReadsAs paths) i.import_type (reading.of_type h.import_type)

-- the path to a host item
abbrev pub path_of : RuntimeImport → Path
path_of i = record { import = i.import_type; names = i.names }

-- what a plan has of the host is what the reading has of it
pub record AsksHost (types : Types) (p : PlanView Mark) (r : Reading) : Type 0 where
  -- the import types are the imports that the host gives, in order
  pub import_types : AllZip (IsImport types r.imported_resources) p.import_types r.imports
  -- the host items are those that the reading needs, in order, each once
  pub imports : map path_of p.imports ≡ paths_needed r.log
  -- the imported resources are those that came with the imports, in order
  pub resources : map (λ n. option_map path_of (slice_get p.imports n)) p.imported_resources
      ≡ map Some r.imported_resources

-- the component instance of the resource that an entry declares, if it declares one
abbrev pub resource_owner : {τ : Type 0} → Entry τ → Option ℕ
resource_owner (declared_resource representation destructor c) = Some c
resource_owner _ = None

-- the builder holds the core signature of a lowering under the number
abbrev pub HasSignature : Types → ModuleInternedTypeIndex → CoreValue reading.Mark → Type 0
HasSignature types n v =
    (s : CoreFuncSig) × (slice_get types.signatures n.0 ≡ Some s) × (signature_of v ≡ Some s)

-- in this state of its run with all modules, the trampoline of a plan has the value of an entry that declares it: with
-- numbers for types it is what the trampoline resolves to, with whole types what the reading declares; and it has the
-- core signature of that lowering
pub record HasDeclared (types : Types) (plan : ComponentTranslation) (modules : List ModuleTranslation)
    (state : State Mark) (r : Reading) (n : ℕ) : Type 0 where
  pub value : CoreValue (Numbered types (ReadsAs r.imported_resources))
  pub resolves : resolve (view plan modules) state (trampoline n)
      ≡ Some (map_value (number_of types (ReadsAs r.imported_resources)) value)
  pub entry : Contains r.log (declared (map_value (whole_of types (ReadsAs r.imported_resources)) value))
  pub signature : ModuleInternedTypeIndex
  pub stands_under : slice_get plan.component.trampolines n ≡ Some signature
  pub signed : HasSignature types signature (map_value (whole_of types (ReadsAs r.imported_resources)) value)

-- what a plan has is what the reading declares, where the plan's run ends in this state
pub record Declares (types : Types) (plan : ComponentTranslation) (modules : List ModuleTranslation)
    (last : State Mark) (r : Reading) : Type 0 where
  -- helpers of modules of adapters aside, there are no more trampolines than host lowerings and builtins, and each is
  -- one that the reading declares; and no signature stands beside them
  pub few : count_by is_headed (view plan modules).trampolines ≤ count_by is_declared r.log
  pub trampolines : (n : ℕ) (x : TrampolineEntry Mark) → slice_get (view plan modules).trampolines n ≡ Some x
      → is_headed x ≡ true → HasDeclared types plan modules last r n
  pub as_many : length plan.component.trampolines ≡ length plan.trampolines
  -- each resource that is declared has its component instance, in order
  pub resources : map (λ (c : RuntimeComponentInstanceIndex). c.0) plan.component.defined_resource_instances
      ≡ filter_map resource_owner r.log

-- an intrinsic that has a signature in a plan is one that was added as a core function, and the first item that added
-- it has this signature. One that a run resolves has a signature
abbrev pub AreSigned : Types → PlanView Mark → Reading → Type 0
AreSigned types p r =
    (n : ℕ) (m : Mark) → slice_get p.intrinsics n ≡ Some (Some m)
    → (i : AddedIntrinsic) × Contains r.intrinsics i × (i.place ≡ n)
    × Holds types (ReadsAs r.imported_resources) m (reading.of_signature i.signature)
