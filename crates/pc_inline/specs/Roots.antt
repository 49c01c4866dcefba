-- How the instantiation of a root begins and ends.
use Rattle.std.specs.Prelude.{◌≡◌, ◌<◌, ◌≤◌, ◌+◌, ◌⊎◌, ⊤, ℕ, List, length, Some, Result, Ok, Err}
use Rattle.pc_types_lists.specs.Adds.{AddsTypes}
use Rattle.pc_types_lists.specs.Types.{Types}
use Rattle.pc_types.specs.declared.error.Error.{Error}
use Rattle.pc_types.specs.declared.error.Error.TheVariants as error
use Rattle.pc_types.specs.declared.module_record.ModuleRecord.{ModuleRecord}
use Rattle.pc_types.specs.declared.parsed.TypeTable.{TypeTable}
use Rattle.pc_spec_reading.specs.Answer.{ending}
use Rattle.pc_spec_reading.specs.Item.{Items}
use Rattle.pc_spec_reading.specs.Outcome.{done}
use Rattle.pc_spec_reading.specs.Reading.{Reading, reading_of, read_root}
use Rattle.pc_spec_reading.specs.Scope.{Moment}
use Rattle.pc_spec_reading.specs.Total.{body_weight, prepared_weight}
use Rattle.pc_spec_reading.specs.World.{full}
use Rattle.pc_local.specs.declared.item.Translation.{Translation}
use Rattle.pc_local.specs.Standing.{BodyStands, no_names}
use Rattle.pc_dfg.specs.Lists.{ListName}
use Rattle.pc_inline_state.specs.declared.frame.Frame.{Frame}
use Rattle.pc_inline_state.specs.declared.state.State.{State}
use Rattle.pc_inline_state.specs.Adds.{most_prepared_of, with_modules}
use Rattle.pc_inline_state.specs.Gained.{AddsTables}
use Rattle.pc_inline_state.specs.Points.{IsFullSomewhere, IsSoundState, PointStands}
use Rattle.pc_inline_state.specs.Tables.{Keeps, Tables, tables_of}
use Rattle.pc_inline_state.specs.Worlds.{WorldStands}
use Rattle.pc_inline_stack.specs.Driving.{reading_from}
use Rattle.pc_inline_exports.specs.Exports.{ExportsStand, NumbersExports}
use Rattle.pc_inline.specs.Inlines.{last_world}

-- no list of types but that of core signatures has grown by more than `added`, the tables that are new are those of
-- entries, and no other list has more entries than `added`, with what modules of adapters add to it
pub record HasAtMost (t : TypeTable) (added : ℕ) (old : Types) (new : Tables) : Type 0 where
  pub types : AddsTypes t added old new.types
  pub tables : AddsTables t new.graph.num_runtime_component_instances old new.types
  pub lists : (l : ListName) → with_modules new.graph l ≤ added
  pub cores : length new.cores ≤ added
  pub definitions : length new.definitions ≤ added
  pub closures : length new.closures ≤ added
  pub instances : length new.instances ≤ added
  pub begun : new.graph.num_runtime_component_instances ≤ added + 1
  pub resources : length new.graph.imported_resources + length new.graph.resources ≤ added

-- a total that began with another, and isn't full, has grown by more than what was added
pub record HasFew (t : TypeTable) (counted total : ℕ) (old : Types) (new : Tables) : Type 0 where
  pub below : total < full
  pub added : ℕ
  pub few : counted + added < total
  pub most : HasAtMost t added old new

-- so some total has, or nothing was added
abbrev pub IsFew : TypeTable → (counted : ℕ) → (old : Types) → (new : Tables) → Type 0
IsFew t counted old new = ((total : ℕ) × HasFew t counted total old new) ⊎ HasAtMost t 0 old new

-- a list is full, and yet a total has grown by more than what was added
pub record IsCrowded (t : TypeTable) (counted : ℕ) (old : Types) (new : Tables) : Type 0 where
  pub is_full : IsFullSomewhere new
  pub total : ℕ
  pub few : HasFew t counted total old new

-- a state stands for the reading of a root, whose total has grown by more than what was added
pub record RootRead (t : TypeTable) (ms : List ModuleRecord) (limit counted : ℕ) (body : Items) (old : Types)
    (st : State) : Type 0 where
  pub result : Reading
  pub outcome : reading_of t ms limit (Some counted) body ≡ done result
  pub total : ℕ
  pub is_total : result.total ≡ Some total
  pub few : HasFew t counted total old (tables_of st)
  pub sound : IsSoundState t ms st
  pub world : WorldStands st.types st.graph (last_world result)
  pub exports : ExportsStand t st.types st.graph result.nodes
  pub numbers : NumbersExports st.graph result.nodes

-- memory was wanting, or the reading ends with this error, or a list is full
abbrev pub IsRootEnd : TypeTable → List ModuleRecord → (limit counted : ℕ) → Items → (old : Types) → State → Error
    → Type 0
IsRootEnd t ms limit counted body old st e =
    (e ≡ error.NoMemory)
    ⊎ ((ending (reading_of t ms limit (Some counted) body) ≡ Err e)
    ⊎ ((e ≡ error.TooMany) × IsCrowded t counted old (tables_of st)))

-- the root was instantiated as it is read, or its reading ends so
unfoldable pub InlinesBody : TypeTable → List ModuleRecord → (limit counted : ℕ) → Items → (old : Types) → State
    → Result ⊤ Error → Type 0
InlinesBody t ms limit counted body old st (Ok end) = RootRead t ms limit counted body old st
InlinesBody t ms limit counted body old st (Err e) = IsRootEnd t ms limit counted body old st e

-- whatever body the root stands for
abbrev pub InlinesRoot : TypeTable → List ModuleRecord → (limit counted : ℕ) → (bodies : List Translation)
    → Translation → (old : Types) → State → Result ⊤ Error → Type 0
InlinesRoot t ms limit counted bodies root old st r =
    (body : Items) → BodyStands bodies no_names root body → InlinesBody t ms limit counted body old st r

-- the total of a reading that begins with this one, when the root has begun
abbrev pub first_total : TypeTable → List ModuleRecord → Items → (counted : ℕ) → ℕ
first_total t ms body counted = counted + (1 + (body_weight t ms body + prepared_weight t ms body))

-- a root has begun, which took the total of its reading from one to another, and its imports have been prepared: from
-- here on its items are read
pub record RootStarts (t : TypeTable) (ms : List ModuleRecord) (limit counted : ℕ) (body : Items) (total : ℕ)
    (st : State) (f : Frame) : Type 0 where
  pub within : 0 < limit
  pub is_first : total ≡ first_total t ms body counted
  pub below : total < full
  pub now : Moment
  pub stands : PointStands t ms st f now
  pub reads : read_root t ms limit (Some counted) body ≡ reading_from t ms limit body now
  pub is_total : now.world.total ≡ Some total
  pub begun : now.world.begun ≡ 1

-- the root has begun as it is read, or its reading ends so
unfoldable pub BeginsBody : TypeTable → List ModuleRecord → (limit counted : ℕ) → Items → (total : ℕ) → (old : Types)
    → State → Result Frame Error → Type 0
BeginsBody t ms limit counted body total old st (Ok f) = RootStarts t ms limit counted body total st f
BeginsBody t ms limit counted body total old st (Err e) = IsRootEnd t ms limit counted body old st e

-- what the beginning of a root gives, its imports among it, from one total to another: so much was added, and its
-- reading has begun or ends so
pub record BeginsRoot (t : TypeTable) (ms : List ModuleRecord) (limit : ℕ) (root : Translation) (counted total : ℕ)
    (old new : State) (r : Result Frame Error) : Type 0 where
  pub keeps : Keeps (tables_of old) (tables_of new)
  pub most : HasAtMost t (most_prepared_of t root.initializers) old.types (tables_of new)
  pub few : IsFew t counted old.types (tables_of new)
  pub begins : (body : Items) → BodyStands old.bodies.now no_names root body
      → BeginsBody t ms limit counted body total old.types new r

-- what a root gives, whose total begins with this one: so much was added, and it was instantiated as it is read, or its
-- reading ends so
pub record EndsRoot (t : TypeTable) (ms : List ModuleRecord) (limit : ℕ) (root : Translation) (counted : ℕ)
    (old new : State) (r : Result ⊤ Error) : Type 0 where
  pub keeps : Keeps (tables_of old) (tables_of new)
  pub few : IsFew t counted old.types (tables_of new)
  pub inlines : InlinesRoot t ms limit counted old.bodies.now root old.types new r
